-- Where the verdict on an envelope is carried out first, the site's step leaves as much access as is mapped then.
use Rattle.std.proofs.Common.{arith, ◌≡◌, ℕ, Bool, true, false, ◌&&◌, ◌||◌, ◌==◌, List, [], ◌∷◌, Option, Some, None, refl, sym, ◌∙◌, ap, subst, if◌then◌else◌, is_none}
use Rattle.std.specs.List.{list_all, list_any, range_with_len}
use Rattle.std.proofs.lemmas.Bool.{and_parts, cond_both, cond-false}
use Rattle.std.proofs.lemmas.Bool.Decides.{nat_tests}
use Rattle.std.proofs.lemmas.List.Folds.{list_all-append}
use Rattle.shm_place.specs.declared.page_id.PageId.{PageId}
use Rattle.shm_place.specs.Page.{same_page}
use Rattle.shm_model.specs.declared.call.Op.{Op}
use Rattle.shm_model.specs.declared.call.Op.TheVariants.{Get, Attach, Detach, Remove, Set, Stat}
use Rattle.shm_model.specs.declared.call.Reply.{Reply}
use Rattle.shm_model.specs.declared.call.Reply.TheVariants.{Id, Attached as AttachedReply, Ok as OkReply, Stat as StatReply, Refused as RefusedReply}
use Rattle.shm_model.specs.declared.request_kind.Kind.{Kind}
use Rattle.shm_model.specs.declared.request_kind.Kind.TheVariants.{Read, Write}
use Rattle.shm_model.specs.Basics.{at, at_page}
use Rattle.shm_model.specs.Book.{Outcome, Ignored, UsedUp, Taken, on_ask, on_cleared, on_confirm}
use Rattle.shm_model.specs.Calls.{Attachment, Again, Fresh, Freshness, Old, Outstanding, fits, freshness}
use Rattle.shm_model.specs.Entry.{Entry, Nil, Copy, OwnRead, OwnWrite, Handed, Note, Ask, Clear, Cleared, Hand, Page, Confirm, Out, on_clear, on_hand, on_page, readable, writable}
use Rattle.shm_model.specs.Kernel.{Called, call, destroyed_by}
use Rattle.shm_model.specs.Message.{Envelope, Message, Of, Call, Replies, Purge, Purged}
use Rattle.shm_model.specs.SegmentCalls.{attached_at, executed, frames_without, on_call, on_call_as, on_purge, on_purged, on_reply_to, replied, reply_counts}
use Rattle.shm_model.specs.Site.{Frames, Site, Step, is_attached, is_attachment_of, least_free}
use Rattle.shm_model.specs.Step.{deliver, foreign, on_message}
use Rattle.shm_model.specs.Transfer.{arranged, is_nothing, limited, on_note, settle, to_book, to_entry}
use Rattle.shm_laws.proofs.Kernel.Lists.{find-passes}
use Rattle.shm_laws.proofs.Move.Calls.{call-quiet}
use Rattle.shm_laws.proofs.Page.Entry.{false-true}
use Rattle.shm_laws.proofs.Page.Moves.{page-same}
use Rattle.shm_mapping.specs.Mapped.{Mapped, allows}
use Rattle.shm_mapping.specs.Verdicts.{Keeps, brought, left_by, may_map, obeyed, verdict, verdict_at}
use Rattle.shm_mapping.specs.declared.envelope_verdict.Brought.TheVariants as brings
use Rattle.shm_mapping.specs.declared.envelope_verdict.Verdict.{Verdict}
use Rattle.shm_mapping.specs.declared.envelope_verdict.Verdict.TheVariants.{Take, UnmapToRead, Unmap}

-- ---- what a verdict leaves of a mapping

-- the entry has the right to what the verdict leaves
abbrev left_allows : Verdict → Kind → Entry → Bool
left_allows Take kind e = allows kind e
left_allows UnmapToRead kind e = allows Read e
left_allows Unmap kind e = true

-- who may write may read
lower : (kind : Kind) (e : Entry) → allows kind e ≡ true → allows Read e ≡ true
lower Read e a = a
lower Write (Nil n) a = absurd (false-true a)
lower Write (Copy n b) a = refl
lower Write (OwnRead n b) a = refl
lower Write (OwnWrite n b) a = refl
lower Write (Handed n to b) a = absurd (false-true a)

-- no verdict asks for more than is mapped
less : (v : Verdict) (kind : Kind) (e : Entry) → allows kind e ≡ true → left_allows v kind e ≡ true
less Take kind e a = a
less UnmapToRead kind e a = lower kind e a
less Unmap kind e a = refl

both : (x y : Bool) → x ≡ true → y ≡ true → (x && y) ≡ true
both x y e f = ap (λ b. b && y) e ∙ f

left-all : (v : Verdict) (m : Mapped) (site : Site) → is_attached site m.page.seg ≡ true → left_allows v m.kind (site.entries m.page) ≡ true → list_all (may_map site) (left_by v m) ≡ true
left-all Take m site named a = both (may_map site m) true (both _ _ named a) refl
left-all UnmapToRead m site named a = both (may_map site (record m { kind = Read })) true (both _ _ named a) refl
left-all Unmap m site named a = refl

-- ---- what a step leaves of a site's right to one mapped page

record Leaves (me : ℕ) (message : Message) (old new : Site) : Type 0 where
  frames : new.frames ≡ None
  names : (id : ℕ) → is_attached old id ≡ true → is_attached new id ≡ true
  right : (m : Mapped) → is_attached old m.page.seg ≡ true → allows m.kind (old.entries m.page) ≡ true → left_allows (verdict_at me message m) m.kind (new.entries m.page) ≡ true

list-leaves : (me : ℕ) (message : Message) (old new : Site) → Leaves me message old new → (mapped : List Mapped) → list_all (may_map old) mapped ≡ true → list_all (may_map new) (obeyed me message mapped) ≡ true
list-leaves me message old new l [] e = refl
list-leaves me message old new l (m ∷ ms) e =
    let here = and_parts (may_map old m) (list_all (may_map old) ms) e in
    let parts = and_parts (is_attached old m.page.seg) (allows m.kind (old.entries m.page)) here.0 in
    let v : Verdict = verdict_at me message m in
    list_all-append (may_map new) (left_by v m) (obeyed me message ms)
    ∙ both _ _ (left-all v m new (l.names m.page.seg parts.0) (l.right m parts.0 parts.1)) (list-leaves me message old new l ms here.1)

names-same : (old new : Site) → new.attachments ≡ old.attachments → (id : ℕ) → is_attached old id ≡ true → is_attached new id ≡ true
unfolding is_attached
names-same old new e id a = ap (λ (f : ℕ → Option Attachment). list_any (λ a. is_attachment_of id (f a)) (range_with_len 0 64)) e ∙ a

-- nothing changes that a mapping needs
quiet-leaves : (me : ℕ) (message : Message) (old new : Site) → old.frames ≡ None → new.entries ≡ old.entries → new.frames ≡ old.frames
    → ((id : ℕ) → is_attached old id ≡ true → is_attached new id ≡ true) → Leaves me message old new
quiet-leaves me message old new none entries frames names = record {
  frames = frames ∙ none;
  names = names;
  right = λ m named a. less (verdict_at me message m) m.kind (new.entries m.page) (ap (λ (f : PageId → Entry). allows m.kind (f m.page)) entries ∙ a);
}

same-leaves : (me : ℕ) (message : Message) (site : Site) → site.frames ≡ None → Leaves me message site site
same-leaves me message site none = quiet-leaves me message site site none refl refl (λ id a. a)

-- ---- rows of the entry's table

abbrev RowKeeps : ℕ → Note → Kind → Entry → Entry → Type 0
RowKeeps me note kind old new = allows kind old ≡ true → left_allows (verdict (brought me note) kind) kind new ≡ true

clear-keeps : (me n : ℕ) (kind : Kind) (e : Entry) → RowKeeps me (Clear n) kind e (on_clear n e).0
clear-keeps me n Read e a = refl
clear-keeps me n Write (Nil k) a = absurd (false-true a)
clear-keeps me n Write (Copy k b) a = absurd (false-true a)
clear-keeps me n Write (OwnRead k b) a = absurd (false-true a)
clear-keeps me n Write (OwnWrite k b) a = grind (arith, nat_tests)
clear-keeps me n Write (Handed k to b) a = absurd (false-true a)

-- whatever becomes of a right that is kept or raised
abbrev KeepsRight : Entry → Entry → Type 0
KeepsRight old new = (kind : Kind) → allows kind old ≡ true → allows kind new ≡ true

page-keeps : (n : ℕ) (k : Kind) (b : List ℕ) (e : Entry) → KeepsRight e (on_page n k b e).0
page-keeps n k b (Nil m) Read a = absurd (false-true a)
page-keeps n k b (Nil m) Write a = absurd (false-true a)
page-keeps n Read b (Copy m c) Read a = grind (arith, nat_tests)
page-keeps n Write b (Copy m c) Read a = grind (arith, nat_tests)
page-keeps n k b (Copy m c) Write a = absurd (false-true a)
page-keeps n k b (OwnRead m c) kind a = grind (arith, nat_tests)
page-keeps n k b (OwnWrite m c) kind a = grind (arith, nat_tests)
page-keeps n k b (Handed m to c) Read a = absurd (false-true a)
page-keeps n k b (Handed m to c) Write a = absurd (false-true a)

-- a Hand for this site itself
own-hand-keeps : (me n : ℕ) (k : Kind) (e : Entry) (kind : Kind) → allows kind e ≡ true → allows kind (on_hand me n k me e).0 ≡ true
own-hand-keeps me n Read (Nil m) kind a = grind (arith, nat_tests)
own-hand-keeps me n Read (Copy m b) kind a = grind (arith, nat_tests)
own-hand-keeps me n Read (OwnRead m b) kind a = grind (arith, nat_tests)
own-hand-keeps me n Read (OwnWrite m b) kind a = grind (arith, nat_tests)
own-hand-keeps me n Read (Handed m to b) kind a = grind (arith, nat_tests)
own-hand-keeps me n Write (Nil m) kind a = grind (arith, nat_tests)
own-hand-keeps me n Write (Copy m b) kind a = grind (arith, nat_tests)
own-hand-keeps me n Write (OwnRead m b) Read a = grind (arith, nat_tests)
own-hand-keeps me n Write (OwnRead m b) Write a = absurd (false-true a)
own-hand-keeps me n Write (OwnWrite m b) Read a = grind (arith, nat_tests)
own-hand-keeps me n Write (OwnWrite m b) Write a = grind (arith, nat_tests)
own-hand-keeps me n Write (Handed m to b) kind a = grind (arith, nat_tests)

-- a Hand for another site
hand-if : (me n : ℕ) (k : Kind) (to : ℕ) (e : Entry) (kind : Kind) (own : Bool) → (to == me) ≡ own → allows kind e ≡ true
    → left_allows (verdict (if own then brings.Other else brings.Hand k) kind) kind (on_hand me n k to e).0 ≡ true
hand-if me n k to e kind true own a =
    let same : me ≡ to = grind (arith, nat_tests) in subst (λ t. allows kind (on_hand me n k t e).0 ≡ true) same (own-hand-keeps me n k e kind a)
hand-if me n Write to e kind false other a = refl
hand-if me n Read to (Nil m) kind false other a = grind (arith, nat_tests)
hand-if me n Read to (Copy m b) Read false other a = grind (arith, nat_tests)
hand-if me n Read to (Copy m b) Write false other a = absurd (false-true a)
hand-if me n Read to (OwnRead m b) Read false other a = grind (arith, nat_tests)
hand-if me n Read to (OwnRead m b) Write false other a = absurd (false-true a)
hand-if me n Read to (OwnWrite m b) Read false other a = grind (arith, nat_tests)
hand-if me n Read to (OwnWrite m b) Write false other a = grind (arith, nat_tests)
hand-if me n Read to (Handed m t b) kind false other a = grind (arith, nat_tests)

row-keeps-hand : (me n : ℕ) (k : Kind) (to : ℕ) (kind : Kind) (e : Entry) → RowKeeps me (Hand n k to) kind e (on_hand me n k to e).0
row-keeps-hand me n k to kind e a = hand-if me n k to e kind (to == me) refl a

-- ---- notes

module _ (sites me : ℕ) (site : Site) (none : site.frames ≡ None) where
  abbrev StepLeaves : Message → Step → Type 0
  StepLeaves message st = Leaves me message site st.site

  dropped-leaves : (message : Message) → Leaves me message site site
  dropped-leaves message = same-leaves me message site none

  entry-if : (page : PageId) (note : Note) (new : Entry) (m : Mapped) (same : Bool) → same_page page m.page ≡ same
      → allows m.kind (site.entries m.page) ≡ true → RowKeeps me note m.kind (site.entries page) new
      → left_allows (if same then verdict (brought me note) m.kind else Take) m.kind (if same then new else site.entries m.page) ≡ true
  entry-if page note new m true same a row = row (ap (λ p. allows m.kind (site.entries p)) (page-same page m.page same) ∙ a)
  entry-if page note new m false same a row = a

  -- with frames for all copies nothing but this page's entry changes
  placed : PageId → Entry → Option Frames → Site
  placed page new frames =
      limited (arranged page (site.entries page) new frames)
      (record site { entries = at_page site.entries page new; frames = arranged page (site.entries page) new frames; pending = settle (readable new) (writable new) page site.pending })

  placed-leaves : (page : PageId) (note : Note) (new : Entry) → ((kind : Kind) → RowKeeps me note kind (site.entries page) new) → Leaves me (Of page note) site (placed page new None)
  unfolding placed
  placed-leaves page note new row = record {
    frames = refl;
    names = names-same site (placed page new None) refl;
    right = λ m named a. entry-if page note new m (same_page page m.page) refl a (row m.kind);
  }

  row-leaves : (page : PageId) (note : Note) (row : Entry × Out) → ((kind : Kind) → RowKeeps me note kind (site.entries page) row.0) → StepLeaves (Of page note) (to_entry sites me page row site)
  unfolding placed
  row-leaves page note (new, out) row =
      cond_both (is_nothing out) _ _ (StepLeaves (Of page note)) (λ e. dropped-leaves (Of page note))
      (λ e. subst (λ f. Leaves me (Of page note) site (placed page new f)) (sym none) (placed-leaves page note new row))

  book-leaves : (page : PageId) (note : Note) (outcome : Outcome) → StepLeaves (Of page note) (to_book me page outcome site)
  book-leaves page note Ignored = dropped-leaves (Of page note)
  book-leaves page note UsedUp = dropped-leaves (Of page note)
  book-leaves page note (Taken book orders) = quiet-leaves me (Of page note) site _ none refl refl (names-same site _ refl)

  note-leaves : (from : ℕ) (page : PageId) (note : Note) → StepLeaves (Of page note) (on_note sites me from page note site)
  note-leaves from page (Ask request kind) = book-leaves page (Ask request kind) (on_ask from request kind (site.books page))
  note-leaves from page (Clear n) = row-leaves page (Clear n) (on_clear n (site.entries page)) (λ kind. clear-keeps me n kind (site.entries page))
  note-leaves from page (Cleared n) = book-leaves page (Cleared n) (on_cleared from n (site.books page))
  note-leaves from page (Hand n kind to) = row-leaves page (Hand n kind to) (on_hand me n kind to (site.entries page)) (λ mapped. row-keeps-hand me n kind to mapped (site.entries page))
  note-leaves from page (Page n kind b) = row-leaves page (Page n kind b) (on_page n kind b (site.entries page)) (page-keeps n kind b (site.entries page))
  note-leaves from page (Confirm n) = book-leaves page (Confirm n) (on_confirm from n (site.books page))

  -- ---- segment calls

  none-names : (id : ℕ) (x : Option Attachment) (t : Attachment) → is_none x ≡ true → is_attachment_of id x ≡ true → is_attachment_of id (Some t) ≡ true
  none-names id None t free a = absurd (false-true a)
  none-names id (Some x) t free a = absurd (false-true free)

  test-added : (attachments : ℕ → Option Attachment) (a : ℕ) (t : Attachment) → is_none (attachments a) ≡ true → (id i : ℕ) (same : Bool) → (a == i) ≡ same
      → is_attachment_of id (attachments i) ≡ true → is_attachment_of id (if same then Some t else attachments i) ≡ true
  test-added attachments a t free id i true same e =
      let is : a ≡ i = grind (arith, nat_tests) in none-names id (attachments i) t (ap (λ x. is_none (attachments x)) (sym is) ∙ free) e
  test-added attachments a t free id i false same e = e

  any-more : (p q : ℕ → Bool) → ((i : ℕ) → p i ≡ true → q i ≡ true) → (xs : List ℕ) → list_any p xs ≡ true → list_any q xs ≡ true
  any-more p q more [] e = absurd (false-true e)
  any-more p q more (x ∷ xs) e = any-if (p x) (q x) (list_any p xs) (list_any q xs) (more x) (any-more p q more xs) e
    where
      any-if : (a b c d : Bool) → (a ≡ true → b ≡ true) → (c ≡ true → d ≡ true) → (a || c) ≡ true → (b || d) ≡ true
      any-if true b c d f g e = ap (λ x. x || d) (f refl)
      any-if false true c d f g e = refl
      any-if false false c d f g e = g e

  added-names : (a : ℕ) (t : Attachment) (new : Site) → least_free site.attachments ≡ Some a → new.attachments ≡ at site.attachments a (Some t)
      → (id : ℕ) → is_attached site id ≡ true → is_attached new id ≡ true
  unfolding is_attached least_free
  added-names a t new free e id named =
      ap (λ (f : ℕ → Option Attachment). list_any (λ i. is_attachment_of id (f i)) (range_with_len 0 64)) e
      ∙ any-more (λ i. is_attachment_of id (site.attachments i)) (λ i. is_attachment_of id (at site.attachments a (Some t) i))
      (λ i x. test-added site.attachments a t (find-passes (λ b. is_none (site.attachments b)) (range_with_len 0 64) a free) id i (a == i) refl x) (range_with_len 0 64) named

  attached-leaves : (message : Message) (found : Option ℕ) (number : ℕ) (reply : Reply) (t : Attachment) → least_free site.attachments ≡ found
      → StepLeaves message (attached_at found number reply t site)
  attached-leaves message None number reply t free = dropped-leaves message
  attached-leaves message (Some a) number reply t free = quiet-leaves me message site _ none refl refl (added-names a t _ free refl)

  replied-leaves : (message : Message) (number : ℕ) (reply : Reply) → StepLeaves message (replied number reply None site)
  replied-leaves message number reply = quiet-leaves me message site _ none refl refl (names-same site _ refl)

  counts-leaves : (message : Message) (number : ℕ) (op : Op) (reply : Reply) → StepLeaves message (reply_counts number op reply site)
  counts-leaves message number (Attach cred id ro) (AttachedReply a) =
      cond_both (site.purged id) _ _ (StepLeaves message) (λ e. dropped-leaves message)
      (λ e. attached-leaves message (least_free site.attachments) number (AttachedReply a) (record { id = id; size = a.size; ro = a.ro }) refl)
  counts-leaves message number (Attach cred id ro) (Id i) = replied-leaves message number (Id i)
  counts-leaves message number (Attach cred id ro) OkReply = replied-leaves message number OkReply
  counts-leaves message number (Attach cred id ro) (StatReply t) = replied-leaves message number (StatReply t)
  counts-leaves message number (Attach cred id ro) (RefusedReply e) = replied-leaves message number (RefusedReply e)
  counts-leaves message number (Get cred key size mode flags) reply = replied-leaves message number reply
  counts-leaves message number (Detach id) reply = replied-leaves message number reply
  counts-leaves message number (Remove cred id) reply = replied-leaves message number reply
  counts-leaves message number (Set cred id uid gid mode) reply = replied-leaves message number reply
  counts-leaves message number (Stat cred id) reply = replied-leaves message number reply

  reply-leaves : (message : Message) (found : Option Outstanding) (number : ℕ) (reply : Reply) → StepLeaves message (on_reply_to found number reply site)
  reply-leaves message None number reply = dropped-leaves message
  reply-leaves message (Some o) number reply =
      cond_both ((number == o.number) && fits o.op reply) _ _ (StepLeaves message) (λ e. counts-leaves message number o.op reply) (λ e. dropped-leaves message)

  call-leaves : (message : Message) (from number : ℕ) (op : Op) → StepLeaves message (on_call sites me from number op site)
  call-leaves message from number op =
      let q = call-quiet sites me from number op site in
      quiet-leaves me message site _ none q.entries q.frames (names-same site _ (call-names (freshness (site.kept from) number) from number op))
    where
      executed-names : (from number : ℕ) (done : Called) (gone : Option ℕ) → (executed sites me from number done gone site).site.attachments ≡ site.attachments
      executed-names from number done None = refl
      executed-names from number done (Some id) = refl

      call-names : (f : Freshness) (from number : ℕ) (op : Op) → (on_call_as f sites me from number op site).site.attachments ≡ site.attachments
      call-names Fresh from number op = executed-names from number (call sites me op site.table) (destroyed_by op site.table (call sites me op site.table).segments)
      call-names (Again reply) from number op = refl
      call-names Old from number op = refl

  purged-leaves : (message : Message) (from id : ℕ) → StepLeaves message (on_purged from id site)
  purged-leaves message from id =
      cond_both (site.missing id from) _ _ (StepLeaves message) (λ e. quiet-leaves me message site _ none refl refl (names-same site _ refl)) (λ e. dropped-leaves message)

  -- ---- a purge

  -- an attached segment isn't the one that is purged
  other-segment : (id seg : ℕ) (same : Bool) → (id == seg) ≡ same → is_attached site id ≡ false → is_attached site seg ≡ true → same ≡ false
  other-segment id seg true e gone named =
      let is : id ≡ seg = grind (arith, nat_tests) in absurd (false-true (sym gone ∙ (ap (λ x. is_attached site x) is ∙ named)))
  other-segment id seg false e gone named = refl

  purge-leaves : (message : Message) (id : ℕ) → StepLeaves message (on_purge sites me id site)
  purge-leaves message id =
      cond_both (is_attached site id) _ _ (StepLeaves message) (λ e. dropped-leaves message)
      (λ e. record {
        frames = frames-none site.frames none;
        names = names-same site _ refl;
        right = λ m named a. less (verdict_at me message m) m.kind _
            (ap (λ x. allows m.kind x) (cond-false (id == m.page.seg) (Nil 0) (site.entries m.page) (other-segment id m.page.seg (id == m.page.seg) refl e named)) ∙ a);
      })
    where
      frames-none : (frames : Option Frames) → frames ≡ None → frames_without id frames ≡ None
      frames-none frames e = ap (frames_without id) e

  -- ---- a step

  message-leaves : (from : ℕ) (message : Message) → StepLeaves message (on_message sites me from message site)
  message-leaves from (Of page note) = cond_both (site.purged page.seg) _ _ (StepLeaves (Of page note)) (λ e. dropped-leaves (Of page note)) (λ e. note-leaves from page note)
  message-leaves from (Call number op) = call-leaves (Call number op) from number op
  message-leaves from (Replies number reply) = reply-leaves (Replies number reply) site.outstanding number reply
  message-leaves from (Purge id) = purge-leaves (Purge id) id
  message-leaves from (Purged id) = purged-leaves (Purged id) from id

  delivered-leaves : (e : Envelope) → StepLeaves e.message (deliver sites me e site)
  delivered-leaves e = cond_both (foreign sites me e) _ _ (StepLeaves e.message) (λ x. dropped-leaves e.message) (λ x. message-leaves e.from e.message)

pub steps-keep : (sites me : ℕ) (site : Site) (e : Envelope) (mapped : List Mapped) → Keeps sites me site e mapped
steps-keep sites me site e mapped may =
    let l = delivered-leaves sites me site may.frames e in
    record { frames = l.frames; each = list-leaves me e.message site (deliver sites me e site).site l mapped may.each }
