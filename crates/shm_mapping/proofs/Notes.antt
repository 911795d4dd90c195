-- A note of a page makes the same step with the machine's bytes, while the right that is mapped stays.
use Rattle.std.proofs.Common.{◌≡◌, ℕ, Bool, true, false, not, List, [], ◌∷◌, ◌++◌, Option, Some, None, length, refl, sym, ap, ◌∙◌, subst, nat_lt, if◌then◌else◌}
use Rattle.std.proofs.lemmas.Bool.{cond_both, cond-false}
use Rattle.shm_place.specs.declared.page_id.PageId.{PageId}
use Rattle.shm_place.specs.Page.{same_page}
use Rattle.shm_model.specs.declared.request_kind.Kind.{Kind}
use Rattle.shm_model.specs.declared.request_kind.Kind.TheVariants.{Read, Write}
use Rattle.shm_model.specs.declared.answer.Answer.TheVariants.{Took}
use Rattle.shm_model.specs.Basics.{at_page}
use Rattle.shm_model.specs.Book.{Outcome, Ignored, UsedUp, Taken, on_ask, on_cleared, on_confirm}
use Rattle.shm_model.specs.Entry.{Entry, Nil, Note, Ask, Clear, Cleared, Hand, Page, Confirm, Out, forget, is_copy, on_clear, on_hand, on_page, readable, seen, writable}
use Rattle.shm_model.specs.Site.{Frames, Site, Step, dropped}
use Rattle.shm_model.specs.Transfer.{arranged, drop_first, is_nothing, limited, on_note, on_note_of, reordered, sent_by, settle, to_book, to_entry, with_entry, without_page}
use Rattle.shm_laws.proofs.Page.Entry.{false-true}
use Rattle.shm_laws.proofs.Move.Transfer.{at-page-here}
use Rattle.shm_mapping.specs.Mapped.{Mapped, allows, with_memory}
use Rattle.shm_mapping.proofs.Joined.{allowed, copy-memory, joined-at, joined_by, joined_step, nil-memory, readable-memory, seen-memory, writable-memory}
use Rattle.shm_mapping.proofs.Rows.{clear-row, hand-row, page-row, with_row}

-- where the entry ends with a right, the row gave it
limited-right : (right : Entry → Bool) (page : PageId) (new : Entry) (frames : Option Frames) (f : PageId → Entry) (site : Site)
    → ((n : ℕ) → right (Nil n) ≡ false) → right ((limited frames (record site { entries = at_page f page new })).entries page) ≡ true → right new ≡ true
limited-right right page new None f site nil e = subst (λ x. right x ≡ true) (at-page-here f page new) e
limited-right right page new (Some frames) f site nil e =
    cond_both (nat_lt frames.limit (length frames.copies)) (drop_first frames.copies frames (record site { entries = at_page f page new })) (record site { entries = at_page f page new })
    (λ (s : Site). right (s.entries page) ≡ true → right new ≡ true) (λ x. first frames.copies) (λ x y. subst (λ x. right x ≡ true) (at-page-here f page new) y) e
  where
    first-if : (f : PageId → Entry) (page : PageId) (new : Entry) (n : ℕ) (same : Bool) → ((n : ℕ) → right (Nil n) ≡ false)
        → right (if same then Nil n else at_page f page new page) ≡ true → right new ≡ true
    first-if f page new n true nil y = absurd (false-true (sym (nil n) ∙ y))
    first-if f page new n false nil y = subst (λ x. right x ≡ true) (at-page-here f page new) y

    first : (copies : List PageId) → right ((drop_first copies frames (record site { entries = at_page f page new })).entries page) ≡ true → right new ≡ true
    first [] y = subst (λ x. right x ≡ true) (at-page-here f page new) y
    first (p ∷ ps) y = first-if f page new (seen (at_page f page new p)) (same_page p page) nil y

nil-allows : (kind : Kind) (n : ℕ) → allows kind (Nil n) ≡ false
nil-allows Read n = refl
nil-allows Write n = refl

pub entry-right : (m : Option Mapped) (page : PageId) (new : Entry) (site : Site) → allowed m ((with_entry page new site).entries page) ≡ true → allowed m new ≡ true
entry-right None page new site e = refl
entry-right (Some m) page new site e =
    let frames : Option Frames = arranged page (site.entries page) new site.frames in
    limited-right (allows m.kind) page new frames site.entries (record site { frames = frames; pending = settle (readable new) (writable new) page site.pending }) (nil-allows m.kind) e

module _ (memory : PageId → Option Mapped) where
  abbrev mine : Site → Site
  mine site = joined_by memory site

  abbrev my : Step → Step
  my done = joined_step memory done

  abbrev reordered_by : PageId → List PageId → Bool → ℕ → ℕ → List PageId
  reordered_by page copies copy old new =
      if not copy then without_page page copies else if nat_lt old new then without_page page copies ++ (page ∷ []) else copies

  reordered-same : (page : PageId) (m : Option Mapped) (old new : Entry) (copies : List PageId) → reordered page (with_memory m old) (with_memory m new) copies ≡ reordered page old new copies
  reordered-same page m old new copies =
      ap (λ c. reordered_by page copies c (seen (with_memory m old)) (seen (with_memory m new))) (copy-memory m new)
      ∙ (ap (λ n. reordered_by page copies (is_copy new) n (seen (with_memory m new))) (seen-memory m old) ∙ ap (λ n. reordered_by page copies (is_copy new) (seen old) n) (seen-memory m new))

  arranged-same : (page : PageId) (m : Option Mapped) (old new : Entry) (frames : Option Frames) → arranged page (with_memory m old) (with_memory m new) frames ≡ arranged page old new frames
  arranged-same page m old new None = refl
  arranged-same page m old new (Some f) = ap (λ copies. Some (record f { copies = copies })) (reordered-same page m old new f.copies)

  -- a copy that is given up
  forget-same : (m : Option Mapped) (e : Entry) → forget (with_memory m e) ≡ with_memory m (forget e)
  forget-same m e = ap Nil (seen-memory m e) ∙ sym (nil-memory m (seen e))

  drop-same : (copies : List PageId) (f : Frames) (site : Site) → drop_first copies f (mine site) ≡ mine (drop_first copies f site)
  drop-same [] f site = refl
  drop-same (first ∷ rest) f site =
      ap (λ (g : PageId → Entry). record site { frames = Some (record f { copies = rest }); entries = g })
      (ap (λ e. at_page (λ q. with_memory (memory q) (site.entries q)) first e) (forget-same (memory first) (site.entries first))
      ∙ joined-at memory site.entries first (forget (site.entries first)))

  limited-same : (frames : Option Frames) (site : Site) → limited frames (mine site) ≡ mine (limited frames site)
  limited-same None site = refl
  limited-same (Some f) site = limited-if (nat_lt f.limit (length f.copies))
    where
      limited-if : (more : Bool) → (if more then drop_first f.copies f (mine site) else mine site) ≡ mine (if more then drop_first f.copies f site else site)
      limited-if true = drop-same f.copies f site
      limited-if false = refl

  abbrev entered : PageId → Site → Option Frames → Bool → Bool → (PageId → Entry) → Site
  entered page site frames r w entries = limited frames (record site { entries = entries; frames = frames; pending = settle r w page site.pending })

  with_entry-same : (page : PageId) (new : Entry) (site : Site) → with_entry page (with_memory (memory page) new) (mine site) ≡ mine (with_entry page new site)
  with_entry-same page new site =
      let m : Option Mapped = memory page in
      let frames : Option Frames = arranged page (site.entries page) new site.frames in
      let old : PageId → Entry = (λ q. with_memory (memory q) (site.entries q)) in
      ap (λ fs. entered page (mine site) fs (readable (with_memory m new)) (writable (with_memory m new)) (at_page old page (with_memory m new))) (arranged-same page m (site.entries page) new site.frames)
      ∙ (ap (λ r. entered page (mine site) frames r (writable (with_memory m new)) (at_page old page (with_memory m new))) (readable-memory m new)
      ∙ (ap (λ w. entered page (mine site) frames (readable new) w (at_page old page (with_memory m new))) (writable-memory m new)
      ∙ (ap (λ es. entered page (mine site) frames (readable new) (writable new) es) (joined-at memory site.entries page new)
      ∙ limited-same frames (record site { entries = at_page site.entries page new; frames = frames; pending = settle (readable new) (writable new) page site.pending }))))

  -- a row of the entry's table
  to_entry-if : (sites me : ℕ) (page : PageId) (new : Entry) (out : Out) (site : Site) (nothing : Bool)
      → (if nothing then dropped (mine site) else record { site = with_entry page (with_memory (memory page) new) (mine site); answer = Took; sent = sent_by sites me page out })
      ≡ my (if nothing then dropped site else record { site = with_entry page new site; answer = Took; sent = sent_by sites me page out })
  to_entry-if sites me page new out site true = refl
  to_entry-if sites me page new out site false = ap (λ (s : Site). record { site = s; answer = Took; sent = sent_by sites me page out }) (with_entry-same page new site)

  row-same : (sites me : ℕ) (page : PageId) (row mapped : Entry × Out) (site : Site) → mapped ≡ with_row (memory page) row → to_entry sites me page mapped (mine site) ≡ my (to_entry sites me page row site)
  row-same sites me page (new, out) mapped site e =
      ap (λ (r : Entry × Out). to_entry sites me page r (mine site)) e ∙ to_entry-if sites me page new out site (is_nothing out)

  to_book-same : (me : ℕ) (page : PageId) (outcome : Outcome) (site : Site) → to_book me page outcome (mine site) ≡ my (to_book me page outcome site)
  to_book-same me page Ignored site = refl
  to_book-same me page UsedUp site = refl
  to_book-same me page (Taken book orders) site = refl

  -- after a row that was taken the page has the right
  row-right : (sites me : ℕ) (page : PageId) (row : Entry × Out) (site : Site) → allowed (memory page) ((to_entry sites me page row site).site.entries page) ≡ true
      → is_nothing row.1 ≡ false → allowed (memory page) row.0 ≡ true
  row-right sites me page (new, out) site e taken =
      entry-right (memory page) page new site (subst (λ (s : Step). allowed (memory page) (s.site.entries page) ≡ true) (cond-false (is_nothing out) (dropped site) (record { site = with_entry page new site; answer = Took; sent = sent_by sites me page out }) taken) e)

  note-same : (sites me from : ℕ) (page : PageId) (note : Note) (site : Site) → allowed (memory page) (site.entries page) ≡ true
      → allowed (memory page) ((on_note sites me from page note site).site.entries page) ≡ true → on_note sites me from page note (mine site) ≡ my (on_note sites me from page note site)
  note-same sites me from page (Ask request kind) site a after = to_book-same me page (on_ask from request kind (site.books page)) site
  note-same sites me from page (Clear n) site a after = row-same sites me page (on_clear n (site.entries page)) _ site (clear-row (memory page) n (site.entries page) a)
  note-same sites me from page (Cleared n) site a after = to_book-same me page (on_cleared from n (site.books page)) site
  note-same sites me from page (Hand n kind to) site a after =
      row-same sites me page (on_hand me n kind to (site.entries page)) _ site
      (hand-row (memory page) me n kind to (site.entries page) a (row-right sites me page (on_hand me n kind to (site.entries page)) site after))
  note-same sites me from page (Page n kind b) site a after = row-same sites me page (on_page n kind b (site.entries page)) _ site (page-row (memory page) n kind b (site.entries page) a)
  note-same sites me from page (Confirm n) site a after = to_book-same me page (on_confirm from n (site.books page)) site

  note_of-if : (sites me from : ℕ) (page : PageId) (note : Note) (site : Site) (purged : Bool) → allowed (memory page) (site.entries page) ≡ true
      → allowed (memory page) ((if purged then dropped site else on_note sites me from page note site).site.entries page) ≡ true
      → (if purged then dropped (mine site) else on_note sites me from page note (mine site)) ≡ my (if purged then dropped site else on_note sites me from page note site)
  note_of-if sites me from page note site true a after = refl
  note_of-if sites me from page note site false a after = note-same sites me from page note site a after

  pub note_of-same : (sites me from : ℕ) (page : PageId) (note : Note) (site : Site) → allowed (memory page) (site.entries page) ≡ true
      → allowed (memory page) ((on_note_of sites me from page note site).site.entries page) ≡ true → on_note_of sites me from page note (mine site) ≡ my (on_note_of sites me from page note site)
  note_of-same sites me from page note site a after = note_of-if sites me from page note site (site.purged page.seg) a after
