-- A request goes when its right is gained, when a store's takes its place, or when the segment is purged.
use Rattle.std.proofs.Common.{◌≡◌, ◌≢◌, ℕ, ◌+◌, ◌<◌, ◌≤◌, ◌⊎◌, inl, inr, Bool, true, false, ◌==◌, ◌&&◌, ◌||◌, not, Option, Some, None, Result, Ok, Err, List, [], ◌∷◌, ◌++◌, filter, length, if◌then◌else◌, nat_le, nat_lt, arith, refl, sym, ◌∙◌, ap, subst, Contains}
use Rattle.std.specs.List.{find}
use Rattle.std.proofs.lemmas.Bool.{cond_both, cond-false, cond-true, lt-ltb, ltb-true}
use Rattle.std.proofs.lemmas.Bool.Decides.{nat_tests}
use Rattle.shm_place.specs.declared.page_id.PageId.{PageId}
use Rattle.shm_place.specs.Page.{same_page}
use Rattle.shm_model.specs.declared.request_kind.Kind.{Kind}
use Rattle.shm_model.specs.declared.request_kind.Kind.TheVariants.{Read, Write}
use Rattle.shm_model.specs.Basics.{at_page, greatest}
use Rattle.shm_model.specs.Book.{Outcome, Ignored, UsedUp, Taken, is_write, on_ask, on_cleared, on_confirm}
use Rattle.shm_model.specs.Entry.{Entry, Nil, Copy, OwnRead, OwnWrite, Handed, Note, Ask, Clear, Cleared, Hand, Page, Confirm, Out, handed_to, installed, is_copy, meet, on_clear, on_hand, on_page, owned, readable, seen, writable}
use Rattle.shm_model.specs.Message.{Input, Load, Store, Begin, Deliver, Tick, Restart, Message, Of, Call, Replies, Purge, Purged}
use Rattle.shm_model.specs.Site.{Frames, Pending, Site, is_attached, Step}
use Rattle.shm_model.specs.Access.{Place, ask_for, is_pending, load_if, put_pending, right, serves, store_if}
use Rattle.shm_model.specs.Transfer.{arranged, drop_first, is_nothing, is_settled, limited, on_note, reordered, settle, to_book, to_entry, without_page}
use Rattle.shm_model.specs.Step.{foreign, on_message, step}
use Rattle.shm_laws.proofs.Move.Calls.{begin-quiet, call-quiet, purged-quiet, reply-quiet}
use Rattle.shm_laws.proofs.Page.Moves.{page-same, same-page}
use Rattle.shm_laws.proofs.Move.Transfer.{at-page-here}
use Rattle.shm_progress.proofs.Purge.Answers.{contains-first, contains-later}
use Rattle.shm_progress.proofs.Request.Limit.{Limited}
use Rattle.shm_progress.proofs.Request.Once.{none-in, put-has}
use Rattle.shm_progress.proofs.Request.Pending.{contains-cons, limited-pending}

-- a row that leaves a copy leaves the one that was, or a newer one
abbrev CopyRow : Entry → Entry → Type 0
CopyRow old e = is_copy e ≡ true → (e ≡ old) ⊎ (seen old < seen e)

clear-copy : (n : ℕ) (e : Entry) → CopyRow e (on_clear n e).0
clear-copy n e = cond_both (nat_le n (seen e)) _ _ (λ (row : Entry × Out). CopyRow e row.0) (λ h c. inl refl) (λ h. cond_both (owned e) _ _ (λ (row : Entry × Out). CopyRow e row.0) (λ k c. inl refl) (λ k c. cc))

hand-copy : (me n : ℕ) (kind : Kind) (to : ℕ) (e : Entry) → CopyRow e (on_hand me n kind to e).0
hand-copy me n Read to e =
    cond_both (nat_lt n (seen e)) _ _ (λ (row : Entry × Out). CopyRow e row.0) (λ h c. inl refl)
    (λ h. cond_both (not (owned e)) _ _ (λ (row : Entry × Out). CopyRow e row.0) (λ k c. inl refl)
    (λ k. cond_both (to == me) _ _ (λ (row : Entry × Out). CopyRow e row.0) (λ j c. absurd (meets e k c)) (λ j c. cc)))
  where
    meets : (e : Entry) → not (owned e) ≡ false → is_copy (meet n e) ≡ true → ⊥
    meets (Nil m) k c = cc
    meets (Copy m b) k c = cc
    meets (OwnRead m b) k c = cc
    meets (OwnWrite m b) k c = cc
    meets (Handed m t b) k c = cc
hand-copy me n Write to e =
    cond_both (nat_lt n (seen e)) _ _ (λ (row : Entry × Out). CopyRow e row.0) (λ h c. inl refl)
    (λ h. cond_both (owned e && (to == me)) _ _ (λ (row : Entry × Out). CopyRow e row.0) (λ k c. cc)
    (λ k. cond_both (owned e && nat_lt (seen e) n) _ _ (λ (row : Entry × Out). CopyRow e row.0) (λ j c. cc)
    (λ j. cond_both (handed_to to e && (n == seen e)) _ _ (λ (row : Entry × Out). CopyRow e row.0) (λ i c. inl refl) (λ i c. inl refl))))

page-copy : (n : ℕ) (kind : Kind) (b : List ℕ) (e : Entry) → CopyRow e (on_page n kind b e).0
page-copy n kind b e =
    cond_both (nat_lt n (seen e)) _ _ (λ (row : Entry × Out). CopyRow e row.0) (λ h c. inl refl)
    (λ h. cond_both (n == seen e) _ _ (λ (row : Entry × Out). CopyRow e row.0) (λ k c. inl refl)
    (λ k. cond_both (owned e) _ _ (λ (row : Entry × Out). CopyRow e row.0) (λ j c. inl refl) (λ j c. inr (newer kind h k))))
  where
    newer : (kind : Kind) → nat_lt n (seen e) ≡ false → (n == seen e) ≡ false → seen e < seen (installed kind n b)
    newer Read h k = grind (arith, nat_tests)
    newer Write h k = grind (arith, nat_tests)

filter-head : (f : PageId → Bool) (ps : List PageId) (first : PageId) (rest : List PageId) → filter f ps ≡ first ∷ rest → f first ≡ true
filter-head f [] first rest is = cc
filter-head f (p ∷ ps) first rest is =
    cond_both (f p) (p ∷ filter f ps) (filter f ps) (λ l. l ≡ first ∷ rest → f first ≡ true) (λ e h. let same : p ≡ first = cc in subst (λ k. f k ≡ true) same e) (λ e h. filter-head f ps first rest h) is

other-way : (p x : PageId) → not (same_page p x) ≡ true → same_page x p ≡ false
other-way p x e = grind (arith, nat_tests)

-- the page that a row is about isn't given up, where what it leaves is new
module _ (page : PageId) (old e : Entry) (row : CopyRow old e) (f : Frames) (some : 1 ≤ f.limit) (y : Site) (placed : y.entries page ≡ e) where
  abbrev Placed : List PageId → Type 0
  Placed cs = ((limited (Some (record f { copies = cs })) y).entries page ≡ e) ⊎ (e ≡ old)

  abbrev Spares : List PageId → Type 0
  Spares cs = (first : PageId) (rest : List PageId) → cs ≡ first ∷ rest → f.limit < length cs → same_page first page ≡ false

  spared : (cs : List PageId) → Spares cs → Placed cs
  spared cs spares =
      cond_both (nat_lt f.limit (length cs)) (drop_first cs (record f { copies = cs }) y) y (λ k. (k.entries page ≡ e) ⊎ (e ≡ old))
      (λ long. inl (dropped cs (record f { copies = cs }) (λ first rest is. spares first rest is (ltb-true f.limit (length cs) long)))) (λ long. inl placed)
    where
      dropped : (ks : List PageId) (g : Frames) → ((first : PageId) (rest : List PageId) → ks ≡ first ∷ rest → same_page first page ≡ false) → (drop_first ks g y).entries page ≡ e
      dropped [] g other = placed
      dropped (first ∷ rest) g other = cond-false (same_page first page) _ (y.entries page) (other first rest refl) ∙ placed

  without-spares : (ps : List PageId) → Spares (without_page page ps)
  without-spares ps first rest is long = other-way page first (filter-head (λ p. not (same_page page p)) ps first rest is)

  last-spares : (ws : List PageId) → ((first : PageId) (rest : List PageId) → ws ≡ first ∷ rest → same_page first page ≡ false) → Spares (ws ++ (page ∷ []))
  last-spares [] other first rest is long = absurd (omega (arith, long, some))
  last-spares (w ∷ ws) other first rest is long = let same : w ≡ first = cc in subst (λ k. same_page k page ≡ false) same (other w ws refl)

  pub reordered-placed : (ps : List PageId) → Placed (reordered page old e ps)
  reordered-placed ps =
      cond_both (not (is_copy e)) _ _ Placed (λ n. spared (without_page page ps) (without-spares ps))
      (λ n. cond_both (nat_lt (seen old) (seen e)) _ _ Placed
      (λ l. spared (without_page page ps ++ (page ∷ [])) (last-spares (without_page page ps) (λ first rest is. other-way page first (filter-head (λ p. not (same_page page p)) ps first rest is))))
      (λ l. by-row l (row (was-copy (is_copy e) n))))
    where
      was-copy : (b : Bool) → not b ≡ false → b ≡ true
      was-copy true h = refl
      was-copy false h = cc

      by-row : nat_lt (seen old) (seen e) ≡ false → (e ≡ old) ⊎ (seen old < seen e) → Placed ps
      by-row l (inl same) = inr same
      by-row l (inr newer) = let yes = lt-ltb (seen old) (seen e) newer in let both : true ≡ false = sym yes ∙ l in cc

arranged-placed : (page : PageId) (old e : Entry) → CopyRow old e → (frames : Option Frames) → Limited frames → (y : Site) → y.entries page ≡ e
    → ((limited (arranged page old e frames) y).entries page ≡ e) ⊎ (e ≡ old)
arranged-placed page old e row None some y placed = inl placed
arranged-placed page old e row (Some f) some y placed = reordered-placed page old e row f some y placed f.copies

-- what is pending stays, or is settled
settle-cases : (reads writes : Bool) (page : PageId) (ps : List Pending) (p : Pending) → Contains ps p → Contains (settle reads writes page ps) p ⊎ ((page ≡ p.page) × (is_settled reads writes p ≡ true))
settle-cases reads writes page [] p here = absurd (none-in p here)
settle-cases reads writes page (o ∷ os) p here =
    cond_both (same_page page o.page) _ _ (λ l. Contains l p ⊎ ((page ≡ p.page) × (is_settled reads writes p ≡ true)))
    (λ e. cond_both (is_settled reads writes o) os (o ∷ os) (λ l. Contains l p ⊎ ((page ≡ p.page) × (is_settled reads writes p ≡ true))) (λ g. first e g (contains-cons o os p here)) (λ g. inl here))
    (λ e. later (contains-cons o os p here) (settle-cases reads writes page os p))
  where
    first : same_page page o.page ≡ true → is_settled reads writes o ≡ true → (o ≡ p) ⊎ Contains os p → Contains os p ⊎ ((page ≡ p.page) × (is_settled reads writes p ≡ true))
    first e g (inl same) = inr (page-same page o.page e ∙ ap (λ (k : Pending). k.page) same, subst (λ k. is_settled reads writes k ≡ true) same g)
    first e g (inr there) = inl there

    later : (o ≡ p) ⊎ Contains os p → (Contains os p → Contains (settle reads writes page os) p ⊎ ((page ≡ p.page) × (is_settled reads writes p ≡ true)))
        → Contains (o ∷ settle reads writes page os) p ⊎ ((page ≡ p.page) × (is_settled reads writes p ≡ true))
    later (inl same) rest = inl (subst (λ k. Contains (k ∷ settle reads writes page os) p) (sym same) (contains-first p (settle reads writes page os)))
    later (inr there) rest = after (rest there)
      where
        after : Contains (settle reads writes page os) p ⊎ ((page ≡ p.page) × (is_settled reads writes p ≡ true)) → Contains (o ∷ settle reads writes page os) p ⊎ ((page ≡ p.page) × (is_settled reads writes p ≡ true))
        after (inl k) = inl (contains-later o p (settle reads writes page os) k)
        after (inr k) = inr k

put-cases : (new : Pending) (ps : List Pending) (p : Pending) → Contains ps p → Contains (put_pending new ps) p ⊎ (new.page ≡ p.page)
put-cases new [] p here = absurd (none-in p here)
put-cases new (o ∷ os) p here =
    cond_both (same_page new.page o.page) (new ∷ os) (o ∷ put_pending new os) (λ l. Contains l p ⊎ (new.page ≡ p.page)) (λ e. first e (contains-cons o os p here)) (λ e. later (contains-cons o os p here) (put-cases new os p))
  where
    first : same_page new.page o.page ≡ true → (o ≡ p) ⊎ Contains os p → Contains (new ∷ os) p ⊎ (new.page ≡ p.page)
    first e (inl same) = inr (page-same new.page o.page e ∙ ap (λ (k : Pending). k.page) same)
    first e (inr there) = inl (contains-later new p os there)

    later : (o ≡ p) ⊎ Contains os p → (Contains os p → Contains (put_pending new os) p ⊎ (new.page ≡ p.page)) → Contains (o ∷ put_pending new os) p ⊎ (new.page ≡ p.page)
    later (inl same) rest = inl (subst (λ k. Contains (k ∷ put_pending new os) p) (sym same) (contains-first p (put_pending new os)))
    later (inr there) rest = after (rest there)
      where
        after : Contains (put_pending new os) p ⊎ (new.page ≡ p.page) → Contains (o ∷ put_pending new os) p ⊎ (new.page ≡ p.page)
        after (inl k) = inl (contains-later o p (put_pending new os) k)
        after (inr k) = inr k

filter-cases : (f : Pending → Bool) (ps : List Pending) (p : Pending) → Contains ps p → Contains (filter f ps) p ⊎ (f p ≡ false)
filter-cases f [] p here = absurd (none-in p here)
filter-cases f (o ∷ os) p here =
    cond_both (f o) (o ∷ filter f os) (filter f os) (λ l. Contains l p ⊎ (f p ≡ false)) (λ e. kept (contains-cons o os p here) (filter-cases f os p)) (λ e. gone e (contains-cons o os p here) (filter-cases f os p))
  where
    kept : (o ≡ p) ⊎ Contains os p → (Contains os p → Contains (filter f os) p ⊎ (f p ≡ false)) → Contains (o ∷ filter f os) p ⊎ (f p ≡ false)
    kept (inl same) rest = inl (subst (λ k. Contains (k ∷ filter f os) p) (sym same) (contains-first p (filter f os)))
    kept (inr there) rest = after (rest there)
      where
        after : Contains (filter f os) p ⊎ (f p ≡ false) → Contains (o ∷ filter f os) p ⊎ (f p ≡ false)
        after (inl k) = inl (contains-later o p (filter f os) k)
        after (inr k) = inr k

    gone : f o ≡ false → (o ≡ p) ⊎ Contains os p → (Contains os p → Contains (filter f os) p ⊎ (f p ≡ false)) → Contains (filter f os) p ⊎ (f p ≡ false)
    gone e (inl same) rest = inr (subst (λ k. f k ≡ false) same e)
    gone e (inr there) rest = rest there

-- a load waits for what is pending of its page
read-waits : (page : PageId) (ps : List Pending) (p : Pending) → Contains ps p → page ≡ p.page → is_pending Read page ps ≡ false → ⊥
read-waits page [] p here is h = none-in p here
read-waits page (o ∷ os) p here is h = by-test (same_page page o.page) refl (read-waits page os p)
  where
    serves-read : (a : Bool) → (a || true) ≡ false → ⊥
    serves-read true k = cc
    serves-read false k = cc

    by-test : (b : Bool) → same_page page o.page ≡ b → (Contains os p → page ≡ p.page → is_pending Read page os ≡ false → ⊥) → ⊥
    by-test true e rest = serves-read (is_write o.kind) (subst (λ found. serves Read found ≡ false) (cond-true (same_page page o.page) (Some o) (find (λ k. same_page page k.page) os) e) h)
    by-test false e rest = other (contains-cons o os p here) (subst (λ found. serves Read found ≡ false) (cond-false (same_page page o.page) (Some o) (find (λ k. same_page page k.page) os) e) h)
      where
        other : (o ≡ p) ⊎ Contains os p → is_pending Read page os ≡ false → ⊥
        other (inl same) k = let yes = subst (λ t. same_page page t ≡ true) (is ∙ sym (ap (λ (t : Pending). t.page) same)) (same-page page) in let both : true ≡ false = sym yes ∙ e in cc
        other (inr there) k = rest there is k

-- a step of the site
module _ (sites s : ℕ) (x : Site) (limit : Limited x.frames) (p : Pending) (here : Contains x.pending p) where
  -- the same request, or a store's of the page
  abbrev pub Follows : List Pending → Type 0
  Follows ps = (r : Pending) × Contains ps r × (r.page ≡ p.page) × ((r.kind ≡ p.kind) ⊎ (r.kind ≡ Write))

  abbrev pub HasRight : Entry → Type 0
  HasRight e = is_settled (readable e) (writable e) p ≡ true

  abbrev pub Goes : Step → Type 0
  Goes st = Follows st.site.pending ⊎ (HasRight (st.site.entries p.page) ⊎ (HasRight (x.entries p.page) ⊎ (st.site.purged p.page.seg ≡ true)))

  stays : (ps : List Pending) → Contains ps p → Follows ps
  stays ps k = (p, k, refl, inl refl)

  same-goes : {ps : List Pending} → ps ≡ x.pending → Follows ps
  same-goes {ps = ps} is = stays ps (subst (λ l. Contains l p) (sym is) here)

  ask_for-goes : (kind : Kind) (page : PageId) → Goes (ask_for sites s kind page x)
  ask_for-goes kind page =
      cond_both (is_pending kind page x.pending) _ _ Goes (λ e. inl (stays x.pending here))
      (λ e. cond_both (x.requests == greatest) _ _ Goes (λ f. inl (stays x.pending here)) (λ f. inl (by-put kind e (put-cases (record { page = page; request = x.requests + 1; kind = kind }) x.pending p here))))
    where
      by-put : (kind : Kind) → is_pending kind page x.pending ≡ false → Contains (put_pending (record { page = page; request = x.requests + 1; kind = kind }) x.pending) p ⊎ (page ≡ p.page)
          → Follows (put_pending (record { page = page; request = x.requests + 1; kind = kind }) x.pending)
      by-put kind e (inl k) = stays _ k
      by-put Read e (inr same) = absurd (read-waits page x.pending p here same e)
      by-put Write e (inr same) = (record { page = page; request = x.requests + 1; kind = Write }, put-has (record { page = page; request = x.requests + 1; kind = Write }) x.pending, same, inr refl)

  load-goes : (place : Result Place ℕ) → Goes (load_if sites s place x)
  load-goes (Err refusal) = inl (stays x.pending here)
  load-goes (Ok place) = cond_both (readable (x.entries place.page)) _ _ Goes (λ e. inl (stays x.pending here)) (λ e. ask_for-goes Read place.page)

  store-goes : (place : Result Place ℕ) (byte : ℕ) → Goes (store_if sites s place byte x)
  store-goes (Err refusal) byte = inl (stays x.pending here)
  store-goes (Ok place) byte = cond_both (writable (x.entries place.page)) _ _ Goes (λ e. inl (stays x.pending here)) (λ e. ask_for-goes Write place.page)

  entry-goes : (page : PageId) (row : Entry × Out) → CopyRow (x.entries page) row.0 → Goes (to_entry sites s page row x)
  entry-goes page (e, out) copy =
      cond_both (is_nothing out) _ _ Goes (λ h. inl (stays x.pending here)) (λ h. by-settle (settle-cases (readable e) (writable e) page x.pending p here))
    where
      y : Site
      y = record x { entries = at_page x.entries page e; frames = arranged page (x.entries page) e x.frames; pending = settle (readable e) (writable e) page x.pending }

      z : Site
      z = limited (arranged page (x.entries page) e x.frames) y

      by-settle : Contains (settle (readable e) (writable e) page x.pending) p ⊎ ((page ≡ p.page) × (is_settled (readable e) (writable e) p ≡ true))
          → Follows z.pending ⊎ (HasRight (z.entries p.page) ⊎ (HasRight (x.entries p.page) ⊎ (z.purged p.page.seg ≡ true)))
      by-settle (inl k) = inl (stays z.pending (subst (λ l. Contains l p) (sym (limited-pending (arranged page (x.entries page) e x.frames) y)) k))
      by-settle (inr (same, settled)) = by-placed (arranged-placed page (x.entries page) e copy x.frames limit y (at-page-here x.entries page e))
        where
          by-placed : (z.entries page ≡ e) ⊎ (e ≡ x.entries page) → Follows z.pending ⊎ (HasRight (z.entries p.page) ⊎ (HasRight (x.entries p.page) ⊎ (z.purged p.page.seg ≡ true)))
          by-placed (inl is) = inr (inl (subst (λ k. HasRight (z.entries k)) same (subst HasRight (sym is) settled)))
          by-placed (inr is) = inr (inr (inl (subst (λ k. HasRight (x.entries k)) same (subst HasRight is settled))))

  book-goes : (page : PageId) (outcome : Outcome) → Goes (to_book s page outcome x)
  book-goes page Ignored = inl (stays x.pending here)
  book-goes page UsedUp = inl (stays x.pending here)
  book-goes page (Taken b os) = inl (stays x.pending here)

  note-goes : (from : ℕ) (page : PageId) (note : Note) → Goes (on_note sites s from page note x)
  note-goes from page (Ask r kind) = book-goes page (on_ask from r kind (x.books page))
  note-goes from page (Clear n) = entry-goes page (on_clear n (x.entries page)) (clear-copy n (x.entries page))
  note-goes from page (Cleared n) = book-goes page (on_cleared from n (x.books page))
  note-goes from page (Hand n kind to) = entry-goes page (on_hand s n kind to (x.entries page)) (hand-copy s n kind to (x.entries page))
  note-goes from page (Page n kind b) = entry-goes page (on_page n kind b (x.entries page)) (page-copy n kind b (x.entries page))
  note-goes from page (Confirm n) = book-goes page (on_confirm from n (x.books page))

  message-goes : (from : ℕ) (m : Message) → Goes (on_message sites s from m x)
  message-goes from (Of page note) = cond_both (x.purged page.seg) _ _ Goes (λ e. inl (stays x.pending here)) (λ e. note-goes from page note)
  message-goes from (Call number op) = inl (same-goes (call-quiet sites s from number op x).pending)
  message-goes from (Replies number reply) = inl (same-goes (reply-quiet number reply x).pending)
  message-goes from (Purge id) =
      cond_both (is_attached x id) _ _ Goes (λ e. inl (stays x.pending here))
      (λ e. by-filter (filter-cases (λ (r : Pending). not (id == r.page.seg)) x.pending p here))
    where
      by-segment : (b gone : Bool) → not b ≡ false → (if b then true else gone) ≡ true
      by-segment true gone h = refl
      by-segment false gone h = cc

      by-filter : Contains (filter (λ (r : Pending). not (id == r.page.seg)) x.pending) p ⊎ (not (id == p.page.seg) ≡ false)
          → Follows (filter (λ (r : Pending). not (id == r.page.seg)) x.pending) ⊎ (HasRight (if id == p.page.seg then Nil 0 else x.entries p.page)
          ⊎ (HasRight (x.entries p.page) ⊎ ((if id == p.page.seg then true else x.purged p.page.seg) ≡ true)))
      by-filter (inl k) = inl (stays _ k)
      by-filter (inr k) = inr (inr (inr (by-segment (id == p.page.seg) (x.purged p.page.seg) k)))
  message-goes from (Purged id) = inl (same-goes (purged-quiet from id x).pending)

  pub step-goes : (input : Input) → input ≢ Restart → Goes (step sites s x input)
  step-goes (Load a offset) go = load-goes (right x.attachments a offset false)
  step-goes (Store a offset byte) go = store-goes (right x.attachments a offset true) byte
  step-goes (Begin request) go = inl (same-goes (begin-quiet sites s request x).pending)
  step-goes (Deliver e) go = cond_both (foreign sites s e) _ _ Goes (λ h. inl (stays x.pending here)) (λ h. message-goes e.from e.message)
  step-goes Tick go = inl (stays x.pending here)
  step-goes Restart go = absurd (go refl)
