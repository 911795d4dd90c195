-- A page whose book runs a transaction is among the pages that a tick asks for again.
use Rattle.std.proofs.Common.{◌≡◌, ℕ, Bool, true, false, ◌==◌, not, Some, None, Result, Ok, Err, List, [], ◌∷◌, ◌++◌, slice_get, arith, refl, sym, ◌∙◌, ap, subst, Contains}
use Rattle.std.specs.List.{list_any}
use Rattle.std.proofs.lemmas.Bool.{cond_both}
use Rattle.std.proofs.lemmas.Bool.Decides.{nat_tests}
use Rattle.std.proofs.lemmas.List.Elements.{Contains-append_left, Contains-append_right}
use Rattle.std.proofs.lemmas.Option.{slice_get-get_or}
use Rattle.shm_place.specs.declared.page_id.PageId.{PageId}
use Rattle.shm_place.specs.Page.{same_page}
use Rattle.shm_model.specs.declared.request_kind.Kind.{Kind}
use Rattle.shm_model.specs.declared.request_kind.Kind.TheVariants.{Read, Write}
use Rattle.shm_model.specs.declared.event.Event.{Event}
use Rattle.shm_model.specs.Entry.{Entry, Note, Ask, Clear, Cleared, Hand, Page, Confirm, Out, on_clear, on_hand, on_page, readable, writable}
use Rattle.shm_model.specs.Book.{Book, Outcome, Ignored, Running, UsedUp, Taken, untouched_book}
use Rattle.shm_model.specs.Basics.{at_page, greatest}
use Rattle.shm_model.specs.Message.{Input, Load, Store, Begin, Deliver, Tick, Restart, Message, Of, Call, Replies, Purge, Purged}
use Rattle.shm_model.specs.Site.{Site, is_attached, Step}
use Rattle.shm_model.specs.Access.{Place, ask_for, is_pending, load_if, right, store_if}
use Rattle.shm_model.specs.Transfer.{arranged, booked_with, is_nothing, on_note, settle, to_book, to_entry, with_entry}
use Rattle.shm_model.specs.SegmentCalls.{begin, on_call, on_purged, on_reply, without_segment}
use Rattle.shm_model.specs.Step.{foreign, on_message, step}
use Rattle.shm_model.specs.World.{Framed, New, Opening, Preset, opened_site, run, sites_of}
use Rattle.shm_laws.proofs.Page.Moves.{page-same}
use Rattle.shm_laws.proofs.Move.Calls.{IsQuiet, begin-quiet, call-quiet, purged-quiet, reply-quiet}
use Rattle.shm_progress.proofs.Ending.Steps.{limited-books}
use Rattle.shm_progress.proofs.SitesKept.{run-sites}
use Rattle.shm_progress.proofs.Purge.Answers.{contains-first, contains-later, filter-passes}

pub record Booked (x : Site) : Type 0 where
  pub booked : (q : PageId) (run : Running) → (x.books q).running ≡ Some run → Contains x.booked q

-- elements of lists
any-contains : (p : PageId → Bool) (xs : List PageId) → list_any p xs ≡ true → (y : PageId) × (p y ≡ true) × Contains xs y
any-contains p [] e = cc
any-contains p (x ∷ xs) e = by-test (p x) refl (any-contains p xs)
  where
    by-test : (b : Bool) → p x ≡ b → (list_any p xs ≡ true → (y : PageId) × (p y ≡ true) × Contains xs y) → (y : PageId) × (p y ≡ true) × Contains (x ∷ xs) y
    by-test true h rest = (x, h, contains-first x xs)
    by-test false h rest = let (y, is, here) = rest (grind (arith, nat_tests)) in (y, is, contains-later x y xs here)

booked-here : (page : PageId) (booked : List PageId) → Contains (booked_with page booked) page
booked-here page booked =
    cond_both (list_any (same_page page) booked) booked (booked ++ (page ∷ [])) (λ ps. Contains ps page)
    (λ e. let (y, same, is) = any-contains (same_page page) booked e in subst (Contains booked) (sym (page-same page y same)) is)
    (λ e. Contains-append_right booked (page ∷ []) page (contains-first page []))

booked-still : (page : PageId) (booked : List PageId) (q : PageId) → Contains booked q → Contains (booked_with page booked) q
booked-still page booked q is =
    cond_both (list_any (same_page page) booked) booked (booked ++ (page ∷ [])) (λ ps. Contains ps q) (λ e. is) (λ e. Contains-append_left booked (page ∷ []) q is)

some-none : (run : Running) → None ≡ Some run → ⊥
some-none run e = cc

module _ (sites s : ℕ) (x : Site) (holds : Booked x) where
  abbrev Keeps : Step → Type 0
  Keeps st = Booked st.site

  same-booked : (y : Site) → y.books ≡ x.books → y.booked ≡ x.booked → Booked y
  same-booked y books booked = record {
    booked = λ q run is. subst (λ ps. Contains ps q) (sym booked) (holds.booked q run (ap (λ (f : PageId → Book). (f q).running) (sym books) ∙ is));
  }

  quiet-booked : (st : Step) → IsQuiet x st → Booked st.site
  quiet-booked st quiet = same-booked st.site quiet.books quiet.booked

  ask_for-booked : (kind : Kind) (page : PageId) → Keeps (ask_for sites s kind page x)
  ask_for-booked kind page =
      cond_both (is_pending kind page x.pending) _ _ Keeps (λ e. holds) (λ e. cond_both (x.requests == greatest) _ _ Keeps (λ f. holds) (λ f. record { booked = holds.booked }))

  load-booked : (place : Result Place ℕ) → Keeps (load_if sites s place x)
  load-booked (Err refusal) = holds
  load-booked (Ok place) = cond_both (readable (x.entries place.page)) _ _ Keeps (λ e. holds) (λ e. ask_for-booked Read place.page)

  store-booked : (place : Result Place ℕ) (byte : ℕ) → Keeps (store_if sites s place byte x)
  store-booked (Err refusal) byte = holds
  store-booked (Ok place) byte = cond_both (writable (x.entries place.page)) _ _ Keeps (λ e. record { booked = holds.booked }) (λ e. ask_for-booked Write place.page)

  entry-booked : (page : PageId) (row : Entry × Out) → Keeps (to_entry sites s page row x)
  entry-booked page (e, out) =
      cond_both (is_nothing out) _ _ Keeps (λ h. holds)
      (λ h. let same = limited-books (arranged page (x.entries page) e x.frames)
      (record x { entries = at_page x.entries page e; frames = arranged page (x.entries page) e x.frames; pending = settle (readable e) (writable e) page x.pending }) in
      same-booked (with_entry page e x) same.0 same.2)

  book-booked : (page : PageId) (outcome : Outcome) → Keeps (to_book s page outcome x)
  book-booked page Ignored = holds
  book-booked page UsedUp = holds
  book-booked page (Taken b os) = record {
    booked = λ q run. cond_both (same_page page q) b (x.books q) (λ (c : Book). c.running ≡ Some run → Contains (booked_with page x.booked) q)
        (λ e is. subst (Contains (booked_with page x.booked)) (page-same page q e) (booked-here page x.booked))
        (λ e is. booked-still page x.booked q (holds.booked q run is));
  }

  note-booked : (from : ℕ) (page : PageId) (note : Note) → Keeps (on_note sites s from page note x)
  note-booked from page (Ask r kind) = book-booked page _
  note-booked from page (Clear n) = entry-booked page (on_clear n (x.entries page))
  note-booked from page (Cleared n) = book-booked page _
  note-booked from page (Hand n kind to) = entry-booked page (on_hand s n kind to (x.entries page))
  note-booked from page (Page n kind b) = entry-booked page (on_page n kind b (x.entries page))
  note-booked from page (Confirm n) = book-booked page _

  message-booked : (from : ℕ) (m : Message) → Keeps (on_message sites s from m x)
  message-booked from (Of page note) = cond_both (x.purged page.seg) _ _ Keeps (λ e. holds) (λ e. note-booked from page note)
  message-booked from (Call number op) = quiet-booked (on_call sites s from number op x) (call-quiet sites s from number op x)
  message-booked from (Replies number reply) = quiet-booked (on_reply number reply x) (reply-quiet number reply x)
  message-booked from (Purge id) =
      cond_both (is_attached x id) _ _ Keeps (λ e. holds)
      (λ e. record {
        booked = λ q run. cond_both (id == q.seg) (untouched_book s) (x.books q) (λ (c : Book). c.running ≡ Some run → Contains (without_segment id x.booked) q)
            (λ f is. absurd (some-none run is)) (λ f is. stays q (holds.booked q run is) f);
      })
    where
      stays : (q : PageId) → Contains x.booked q → (id == q.seg) ≡ false → Contains (without_segment id x.booked) q
      stays q (k, l, is) other = filter-passes (λ (p : PageId). not (id == p.seg)) x.booked k q (slice_get-get_or x.booked k q l ∙ ap Some is) (ap not other)
  message-booked from (Purged id) = quiet-booked (on_purged from id x) (purged-quiet from id x)

  pub step-booked : (input : Input) → Keeps (step sites s x input)
  step-booked (Load a offset) = load-booked (right x.attachments a offset false)
  step-booked (Store a offset byte) = store-booked (right x.attachments a offset true) byte
  step-booked (Begin request) = quiet-booked (begin sites s request x) (begin-quiet sites s request x)
  step-booked (Deliver e) = cond_both (foreign sites s e) _ _ Keeps (λ h. holds) (λ h. message-booked e.from e.message)
  step-booked Tick = holds
  step-booked Restart = record { booked = λ q run is. holds.booked q run is }

pub run-booked : (o : Opening) (events : List Event) (s : ℕ) (x : Site) → slice_get (run o events).world.sites s ≡ Some x → Booked x
run-booked o events = run-sites o (λ s x. Booked x) (λ t small. opened-booked o t) (λ s x input small holds. step-booked (sites_of o) s x holds input) events
  where
    opened-booked : (o : Opening) (t : ℕ) → Booked (opened_site o t)
    opened-booked (New n) t = record { booked = λ q run is. absurd (some-none run is) }
    opened-booked (Preset n pages) t = record { booked = λ q run is. absurd (some-none run is) }
    opened-booked (Framed n pages frames) t = record { booked = λ q run is. absurd (some-none run is) }
