-- What is pending after a site's step was pending before, or is asked for now.
use Rattle.std.proofs.Common.{◌≡◌, ℕ, ◌<◌, zero, suc, ◌+◌, ◌⊎◌, inl, inr, Bool, true, false, ◌==◌, not, Option, Some, None, Result, Ok, Err, List, [], ◌∷◌, length, filter, map, nat_lt, arith, refl, sym, subst, Contains, ◌&&◌, ap}
use Rattle.std.proofs.lemmas.Bool.{cond_both, ltb-true}
use Rattle.std.proofs.lemmas.List.Elements.{Contains-append_left}
use Rattle.shm_place.specs.declared.page_id.PageId.{PageId}
use Rattle.shm_place.specs.Offset.{rounded}
use Rattle.shm_place.specs.Page.{same_page}
use Rattle.shm_model.specs.declared.request_kind.Kind.{Kind}
use Rattle.shm_model.specs.declared.request_kind.Kind.TheVariants.{Read, Write}
use Rattle.shm_model.specs.Entry.{Entry, Note, Ask, Clear, Cleared, Hand, Page, Confirm, Out, on_clear, on_hand, on_page, readable, writable}
use Rattle.shm_model.specs.Book.{Outcome, Ignored, UsedUp, Taken, on_ask, on_cleared, on_confirm}
use Rattle.shm_model.specs.Basics.{at_page, greatest}
use Rattle.shm_model.specs.Message.{Envelope, Input, Load, Store, Begin, Deliver, Tick, Restart, Message, Of, Call, Replies, Purge, Purged}
use Rattle.shm_model.specs.Site.{Frames, Pending, Site, is_attached, Step}
use Rattle.shm_model.specs.Calls.{Attachment}
use Rattle.shm_model.specs.Access.{Place, place_in, right_through, ask_for, is_pending, load_if, put_pending, right, store_if}
use Rattle.shm_model.specs.Transfer.{arranged, drop_first, is_nothing, is_settled, limited, on_note, settle, to_book, to_entry}
use Rattle.shm_model.specs.Step.{ask_again, foreign, on_message, step, tick_envelopes}
use Rattle.shm_laws.proofs.Move.Calls.{begin-quiet, call-quiet, purged-quiet, reply-quiet}
use Rattle.shm_progress.proofs.Purge.Answers.{contains-first, contains-later}
use Rattle.shm_progress.proofs.Transfer.Told.{map-contains}

pub contains-cons : {X : Type 0} (y : X) (ys : List X) (x : X) → Contains (y ∷ ys) x → (y ≡ x) ⊎ Contains ys x
contains-cons y ys x (zero, l, e) = inl e
contains-cons y ys x (suc k, l, e) = inr (k, omega arith, e)

pub settle-before : (reads writes : Bool) (page : PageId) (ps : List Pending) (p : Pending) → Contains (settle reads writes page ps) p → Contains ps p
settle-before reads writes page [] p here = here
settle-before reads writes page (q ∷ qs) p here =
    cond_both (same_page page q.page) _ _ (λ l. Contains l p → Contains (q ∷ qs) p)
    (λ e. cond_both (is_settled reads writes q) _ _ (λ l. Contains l p → Contains (q ∷ qs) p) (λ f h. contains-later q p qs h) (λ f h. h))
    (λ e h. by-first (contains-cons q (settle reads writes page qs) p h) (settle-before reads writes page qs p)) here
  where
    by-first : (q ≡ p) ⊎ Contains (settle reads writes page qs) p → (Contains (settle reads writes page qs) p → Contains qs p) → Contains (q ∷ qs) p
    by-first (inl same) rest = subst (λ t. Contains (t ∷ qs) p) (sym same) (contains-first p qs)
    by-first (inr there) rest = contains-later q p qs (rest there)

pub filter-before : (f : Pending → Bool) (ps : List Pending) (p : Pending) → Contains (filter f ps) p → Contains ps p
filter-before f [] p here = here
filter-before f (q ∷ qs) p here =
    cond_both (f q) _ _ (λ l. Contains l p → Contains (q ∷ qs) p) (λ e h. by-first (contains-cons q (filter f qs) p h) (filter-before f qs p)) (λ e h. contains-later q p qs (filter-before f qs p h)) here
  where
    by-first : (q ≡ p) ⊎ Contains (filter f qs) p → (Contains (filter f qs) p → Contains qs p) → Contains (q ∷ qs) p
    by-first (inl same) rest = subst (λ t. Contains (t ∷ qs) p) (sym same) (contains-first p qs)
    by-first (inr there) rest = contains-later q p qs (rest there)

pub put-before : (new : Pending) (ps : List Pending) (p : Pending) → Contains (put_pending new ps) p → Contains ps p ⊎ (new ≡ p)
put-before new [] p here = by-first (contains-cons new [] p here)
  where
    by-first : (new ≡ p) ⊎ Contains [] p → Contains [] p ⊎ (new ≡ p)
    by-first (inl same) = inr same
    by-first (inr there) = inl there
put-before new (q ∷ qs) p here =
    cond_both (same_page new.page q.page) _ _ (λ l. Contains l p → Contains (q ∷ qs) p ⊎ (new ≡ p)) (λ e h. taken (contains-cons new qs p h)) (λ e h. kept (contains-cons q (put_pending new qs) p h) (put-before new qs p)) here
  where
    taken : (new ≡ p) ⊎ Contains qs p → Contains (q ∷ qs) p ⊎ (new ≡ p)
    taken (inl same) = inr same
    taken (inr there) = inl (contains-later q p qs there)

    kept : (q ≡ p) ⊎ Contains (put_pending new qs) p → (Contains (put_pending new qs) p → Contains qs p ⊎ (new ≡ p)) → Contains (q ∷ qs) p ⊎ (new ≡ p)
    kept (inl same) rest = inl (subst (λ t. Contains (t ∷ qs) p) (sym same) (contains-first p qs))
    kept (inr there) rest = later (rest there)
      where
        later : Contains qs p ⊎ (new ≡ p) → Contains (q ∷ qs) p ⊎ (new ≡ p)
        later (inl there) = inl (contains-later q p qs there)
        later (inr same) = inr same

pub limited-pending : (frames : Option Frames) (x : Site) → (limited frames x).pending ≡ x.pending
limited-pending None x = refl
limited-pending (Some f) x = cond_both (nat_lt f.limit (length f.copies)) (drop_first f.copies f x) x (λ y. y.pending ≡ x.pending) (λ e. dropped-pending f.copies) (λ e. refl)
  where
    dropped-pending : (copies : List PageId) → (drop_first copies f x).pending ≡ x.pending
    dropped-pending [] = refl
    dropped-pending (p ∷ ps) = refl

-- a page of one of the site's attachments
pub record Placed (x : Site) (page : PageId) : Type 0 where
  pub number : ℕ
  pub offset : ℕ
  pub through : Attachment
  pub is : x.attachments number ≡ Some through
  pub low : offset < rounded through.size
  pub page_is : (place_in through offset).page ≡ page

right-placed : (x : Site) (a offset : ℕ) (for_store : Bool) (found : Option Attachment) (place : Place) → x.attachments a ≡ found → right_through found offset for_store ≡ Ok place → Placed x place.page
right-placed x a offset for_store None place at is = cc
right-placed x a offset for_store (Some t) place at is =
    cond_both (for_store && t.ro) _ _ (λ r. r ≡ Ok place → Placed x place.page) (λ e h. cc)
    (λ e. cond_both (nat_lt offset (rounded t.size)) _ _ (λ r. r ≡ Ok place → Placed x place.page)
    (λ f h. let same : place_in t offset ≡ place = cc in record { number = a; offset = offset; through = t; is = at; low = ltb-true offset (rounded t.size) f; page_is = ap (λ (q : Place). q.page) same })
    (λ f h. cc)) is

module _ (sites s : ℕ) (x : Site) (p : Pending) where
  abbrev Before : Step → Type 0
  Before st = Contains st.site.pending p → Contains x.pending p ⊎ (Contains st.sent (ask_again sites s p) × Placed x p.page)

  same-before : {ps : List Pending} (sent : List Envelope) → ps ≡ x.pending → Contains ps p → Contains x.pending p ⊎ (Contains sent (ask_again sites s p) × Placed x p.page)
  same-before sent same here = inl (subst (λ l. Contains l p) same here)

  ask_for-before : (kind : Kind) (page : PageId) → Placed x page → Before (ask_for sites s kind page x)
  ask_for-before kind page placed =
      cond_both (is_pending kind page x.pending) _ _ Before (λ e h. inl h)
      (λ e. cond_both (x.requests == greatest) _ _ Before (λ f h. inl h) (λ f h. asked (put-before (record { page = page; request = x.requests + 1; kind = kind }) x.pending p h)))
    where
      asked : Contains x.pending p ⊎ (record { page = page; request = x.requests + 1; kind = kind } ≡ p)
          → Contains x.pending p ⊎ (Contains (ask_again sites s (record { page = page; request = x.requests + 1; kind = kind }) ∷ []) (ask_again sites s p) × Placed x p.page)
      asked (inl before) = inl before
      asked (inr now) = inr (subst (λ (q : Pending). Contains (ask_again sites s q ∷ []) (ask_again sites s p)) (sym now) (contains-first (ask_again sites s p) []), subst (Placed x) (ap (λ (q : Pending). q.page) now) placed)

  load-before : (place : Result Place ℕ) → ((q : Place) → place ≡ Ok q → Placed x q.page) → Before (load_if sites s place x)
  load-before (Err refusal) placed = λ h. inl h
  load-before (Ok place) placed = cond_both (readable (x.entries place.page)) _ _ Before (λ e h. inl h) (λ e. ask_for-before Read place.page (placed place refl))

  store-before : (place : Result Place ℕ) (byte : ℕ) → ((q : Place) → place ≡ Ok q → Placed x q.page) → Before (store_if sites s place byte x)
  store-before (Err refusal) byte placed = λ h. inl h
  store-before (Ok place) byte placed = cond_both (writable (x.entries place.page)) _ _ Before (λ e h. inl h) (λ e. ask_for-before Write place.page (placed place refl))

  entry-before : (page : PageId) (row : Entry × Out) → Before (to_entry sites s page row x)
  entry-before page (e, out) =
      cond_both (is_nothing out) _ _ Before (λ h here. inl here)
      (λ h here. inl (settle-before (readable e) (writable e) page x.pending p
      (subst (λ l. Contains l p) (limited-pending (arranged page (x.entries page) e x.frames)
      (record x { entries = at_page x.entries page e; frames = arranged page (x.entries page) e x.frames; pending = settle (readable e) (writable e) page x.pending })) here)))

  book-before : (page : PageId) (outcome : Outcome) → Before (to_book s page outcome x)
  book-before page Ignored h = inl h
  book-before page UsedUp h = inl h
  book-before page (Taken b os) h = inl h

  note-before : (from : ℕ) (page : PageId) (note : Note) → Before (on_note sites s from page note x)
  note-before from page (Ask r kind) = book-before page (on_ask from r kind (x.books page))
  note-before from page (Clear n) = entry-before page (on_clear n (x.entries page))
  note-before from page (Cleared n) = book-before page (on_cleared from n (x.books page))
  note-before from page (Hand n kind to) = entry-before page (on_hand s n kind to (x.entries page))
  note-before from page (Page n kind b) = entry-before page (on_page n kind b (x.entries page))
  note-before from page (Confirm n) = book-before page (on_confirm from n (x.books page))

  message-before : (from : ℕ) (m : Message) → Before (on_message sites s from m x)
  message-before from (Of page note) = cond_both (x.purged page.seg) _ _ Before (λ e h. inl h) (λ e. note-before from page note)
  message-before from (Call number op) = same-before _ (call-quiet sites s from number op x).pending
  message-before from (Replies number reply) = same-before _ (reply-quiet number reply x).pending
  message-before from (Purge id) = cond_both (is_attached x id) _ _ Before (λ e h. inl h) (λ e h. inl (filter-before (λ (q : Pending). not (id == q.page.seg)) x.pending p h))
  message-before from (Purged id) = same-before _ (purged-quiet from id x).pending

  pub step-before : (input : Input) → Before (step sites s x input)
  step-before (Load a offset) = load-before (right x.attachments a offset false) (λ q. right-placed x a offset false (x.attachments a) q refl)
  step-before (Store a offset byte) = store-before (right x.attachments a offset true) byte (λ q. right-placed x a offset true (x.attachments a) q refl)
  step-before (Begin request) = same-before _ (begin-quiet sites s request x).pending
  step-before (Deliver e) = cond_both (foreign sites s e) _ _ Before (λ h here. inl here) (λ h. message-before e.from e.message)
  step-before Tick = λ h. inl h
  step-before Restart = λ h. absurd (none h)
    where
      none : Contains {X = Pending} [] p → ⊥
      none (k, l, e) = omega arith

-- a tick asks again for all that is pending
pub tick-asks : (sites s : ℕ) (x : Site) (p : Pending) → Contains x.pending p → Contains (tick_envelopes sites s x) (ask_again sites s p)
tick-asks sites s x p here = Contains-append_left (map (ask_again sites s) x.pending) _ (ask_again sites s p) (map-contains (ask_again sites s) x.pending p here)
