-- What the notes of a running transaction do at the sites that they are for: each of them is answered.
use Rattle.std.proofs.Common.{◌≡◌, ◌≢◌, ℕ, ◌<◌, ◌≤◌, ◌⊎◌, inl, inr, Bool, true, false, not, ◌==◌, ◌&&◌, ◌||◌, List, [], ◌∷◌, nat_le, nat_lt, arith, refl, sym, ◌∙◌, ap, subst, Contains}
use Rattle.std.proofs.lemmas.Bool.{cond_both, cond-false, eq-eqb, lt-ltb, leb-false, ltb-false, ltb-true, eqb-true, eqb-false, and_parts}
use Rattle.std.proofs.lemmas.Bool.Decides.{nat_tests}
use Rattle.shm_place.specs.declared.page_id.PageId.{PageId}
use Rattle.shm_place.specs.Page.{in_limits, manager_of}
use Rattle.shm_model.specs.declared.request_kind.Kind.{Kind}
use Rattle.shm_model.specs.declared.request_kind.Kind.TheVariants.{Read, Write}
use Rattle.shm_model.specs.Entry.{Entry, Nil, OwnWrite, Handed, Note, Cleared, Page, Confirm, Out, ToManager, bytes, hand_read, hand_write, installed, meet, on_clear, on_hand, on_page, owned, seen}
use Rattle.shm_model.specs.Message.{Envelope, Of}
use Rattle.shm_model.specs.Site.{Site}
use Rattle.shm_model.specs.Step.{deliver, foreign, is_to_manager}
use Rattle.shm_model.specs.Transfer.{on_note, to_entry}
use Rattle.shm_laws.proofs.Page.View.{GaveAway, Holds, InFlight, IsKept, Runs, View}
use Rattle.shm_laws.proofs.Page.Hand.{own-readable-of}
use Rattle.shm_progress.proofs.Purge.Answers.{contains-first}

-- a note that isn't foreign
pub not-foreign : (sites s from : ℕ) (q : PageId) (note : Note) → from < sites → in_limits sites q ≡ true → not (is_to_manager note) || (manager_of sites q == s) ≡ true
    → foreign sites s (record { from = from; to = s; message = Of q note }) ≡ false
not-foreign sites s from q note small limits manager =
    known (s == s) (nat_lt from sites) (in_limits sites q) (not (is_to_manager note) || (manager_of sites q == s)) (eq-eqb s s refl) (lt-ltb from sites small) limits manager
  where
    known : (a b c d : Bool) → a ≡ true → b ≡ true → c ≡ true → d ≡ true → not ((a && b) && (c && d)) ≡ false
    known true true true true p q r h = refl
    known true true true false p q r h = cc
    known true true false d p q r h = cc
    known true false c d p q r h = cc
    known false b c d p q r h = cc

-- and at a site that has the page it is heard
pub note-heard : (sites s from : ℕ) (q : PageId) (note : Note) (x : Site) → from < sites → in_limits sites q ≡ true → not (is_to_manager note) || (manager_of sites q == s) ≡ true → x.purged q.seg ≡ false
    → deliver sites s (record { from = from; to = s; message = Of q note }) x ≡ on_note sites s from q note x
note-heard sites s from q note x small limits manager open_here =
    cond-false (foreign sites s (record { from = from; to = s; message = Of q note })) _ _ (not-foreign sites s from q note small limits manager) ∙ cond-false (x.purged q.seg) _ _ open_here

-- at a site whose entry is the view's
module _ (Now : List ℕ → Type 0) (sites s m : ℕ) (q : PageId) (v : View) (h : Holds Now v) (x : Site) (manager : manager_of sites q ≡ m) (entry : v.entries s ≡ x.entries q) where
  abbrev Answered : Note → Entry × Out → Type 0
  Answered note row = Contains (to_entry sites s q row x).sent (record { from = s; to = m; message = Of q note })

  to-manager : (e : Entry) (note : Note) → Answered note (e, ToManager note)
  to-manager e note = subst (λ t. Contains {X = Envelope} (record { from = s; to = manager_of sites q; message = Of q note } ∷ []) (record { from = s; to = t; message = Of q note })) manager (contains-first _ [])

  -- a Clear, where the site has a copy and isn't the requester
  pub clear-answered : (r : ℕ) → Runs v.book Write r → v.book.copies s ≡ true → s ≢ r → Answered (Cleared v.book.number) (on_clear v.book.number (x.entries q))
  clear-answered r runs copy other =
      subst (λ e. Answered (Cleared v.book.number) (on_clear v.book.number e)) entry
      (cond_both (nat_le v.book.number (seen (v.entries s))) _ _ (Answered (Cleared v.book.number)) (λ e. to-manager (v.entries s) (Cleared v.book.number))
      (λ late. cond_both (owned (v.entries s)) _ _ (Answered (Cleared v.book.number)) (λ own. absurd (not-owner (leb-false v.book.number (seen (v.entries s)) late) (h.owner s own))) (λ own. to-manager (Nil v.book.number) (Cleared v.book.number))))
    where
      not-owner : seen (v.entries s) < v.book.number → (s ≡ v.book.owner) ⊎ (Runs v.book Write s × (v.book.number ≤ seen (v.entries s))) → ⊥
      not-owner late (inl e) = let both : true ≡ false = sym copy ∙ (ap v.book.copies e ∙ h.owner_no_copy) in cc
      not-owner late (inr (r, met)) = omega (arith, late, met)

  -- a Page, at its requester
  pub page-answered : (kind : Kind) (b : List ℕ) → (v.book.number ≤ seen (v.entries s)) ⊎ InFlight Now v v.book.number kind s b → Answered (Confirm v.book.number) (on_page v.book.number kind b (x.entries q))
  page-answered kind b fits =
      subst (λ e. Answered (Confirm v.book.number) (on_page v.book.number kind b e)) entry
      (cond_both (nat_lt v.book.number (seen (v.entries s))) _ _ (Answered (Confirm v.book.number)) (λ e. let low = ltb-true v.book.number (seen (v.entries s)) e in absurd (omega (arith, low, h.met s)))
      (λ e. cond_both (v.book.number == seen (v.entries s)) _ _ (Answered (Confirm v.book.number)) (λ f. to-manager (v.entries s) (Confirm v.book.number))
      (λ f. cond_both (owned (v.entries s)) _ _ (Answered (Confirm v.book.number)) (λ own. absurd (new fits (h.owner s own) (eqb-false v.book.number (seen (v.entries s)) f))) (λ own. to-manager (installed kind v.book.number b) (Confirm v.book.number)))))
    where
      new : (v.book.number ≤ seen (v.entries s)) ⊎ InFlight Now v v.book.number kind s b → (s ≡ v.book.owner) ⊎ (Runs v.book Write s × (v.book.number ≤ seen (v.entries s))) → v.book.number ≢ seen (v.entries s) → ⊥
      new (inl met) owner other = omega (arith, met, h.met s, other)
      new (inr flight) (inl e) other = flight.other e
      new (inr flight) (inr (r, met)) other = omega (arith, met, h.met s, other)

  -- a Hand, at the owner
  abbrev Handing : Kind → ℕ → Entry × Out → Type 0
  Handing kind r row = ((b : List ℕ) × Contains (to_entry sites s q row x).sent (record { from = s; to = r; message = Of q (Page v.book.number kind b) })) ⊎ ((r ≡ s) × Answered (Confirm v.book.number) row)

  not-late : nat_lt v.book.number (seen (v.entries s)) ≡ true → ⊥
  not-late e = let low = ltb-true v.book.number (seen (v.entries s)) e in omega (arith, low, h.met s)

  module _ (r : ℕ) (owner : s ≡ v.book.owner) where
    kept : IsKept v → (owned (v.entries s) ≡ true) ⊎ GaveAway v
    kept (inl own) = inl (ap (λ t. owned (v.entries t)) owner ∙ own)
    kept (inr gave) = inr gave

    read-handed : Runs v.book Read r → Handing Read r (hand_read s v.book.number r (v.entries s))
    read-handed runs =
        cond_both (nat_lt v.book.number (seen (v.entries s))) _ _ (Handing Read r) (λ e. absurd (not-late e))
        (λ e. cond_both (not (owned (v.entries s))) _ _ (Handing Read r) (λ f. absurd (has (kept h.kept) f))
        (λ f. cond_both (r == s) _ _ (Handing Read r) (λ g. inr (eqb-true r s g, to-manager (meet v.book.number (v.entries s)) (Confirm v.book.number))) (λ g. inl (bytes (v.entries s), contains-first _ []))))
      where
        has : (owned (v.entries s) ≡ true) ⊎ GaveAway v → not (owned (v.entries s)) ≡ true → ⊥
        has (inl own) f = let both : true ≡ false = sym f ∙ ap not own in cc
        has (inr gave) f = grind (arith, gave.runs.is, runs.is)

    own-handed : Runs v.book Write r → owned (v.entries s) ≡ true → Handing Write r (hand_write s v.book.number r (v.entries s))
    own-handed runs own =
        cond_both (nat_lt v.book.number (seen (v.entries s))) _ _ (Handing Write r) (λ e. absurd (not-late e))
        (λ e. cond_both (owned (v.entries s) && (r == s)) _ _ (Handing Write r) (λ f. inr (eqb-true r s (and_parts (owned (v.entries s)) (r == s) f).1, to-manager (OwnWrite v.book.number (bytes (v.entries s))) (Confirm v.book.number)))
        (λ f. cond_both (owned (v.entries s) && nat_lt (seen (v.entries s)) v.book.number) _ _ (Handing Write r) (λ g. inl (bytes (v.entries s), contains-first _ []))
        (λ g. absurd (fresh (owned (v.entries s)) (r == s) (nat_lt (seen (v.entries s)) v.book.number) own f g refl refl))))
      where
        fresh : (a b c : Bool) → a ≡ true → a && b ≡ false → a && c ≡ false → (r == s) ≡ b → nat_lt (seen (v.entries s)) v.book.number ≡ c → ⊥
        fresh true false false is f g other late =
            let unread = h.nobody_else r s runs (eqb-false r s other) (ltb-false (seen (v.entries s)) v.book.number late) in
            let both : true ≡ false = sym (own-readable-of (v.entries s) own) ∙ unread in
            cc
        fresh true true c own f g other late = cc
        fresh true false true own f g other late = cc
        fresh false b c own f g other late = cc

    gave-handed : Runs v.book Write r → (gave : GaveAway v) → Handing Write r (hand_write s v.book.number r (v.entries s))
    gave-handed runs gave = subst (λ e. Handing Write r (hand_write s v.book.number r e)) (sym same) (handed gave.given)
      where
        to-r : gave.to ≡ r
        to-r = grind (arith, gave.runs.is, runs.is)

        same : v.entries s ≡ Handed v.book.number r gave.given
        same = ap v.entries owner ∙ (gave.is ∙ ap (λ t. Handed v.book.number t gave.given) to-r)

        handed : (b : List ℕ) → Handing Write r (hand_write s v.book.number r (Handed v.book.number r b))
        handed b =
            cond_both (nat_lt v.book.number v.book.number) _ _ (Handing Write r) (λ e. absurd (grind (arith, nat_tests)))
            (λ e. cond_both ((r == r) && (v.book.number == v.book.number)) _ _ (Handing Write r) (λ f. inl (b, contains-first _ [])) (λ f. absurd (grind (arith, nat_tests))))

    pub hand-answered : (kind : Kind) → Runs v.book kind r → Handing kind r (on_hand s v.book.number kind r (x.entries q))
    hand-answered Read runs = subst (λ e. Handing Read r (hand_read s v.book.number r e)) entry (read-handed runs)
    hand-answered Write runs = subst (λ e. Handing Write r (hand_write s v.book.number r e)) entry (by-kept (kept h.kept))
      where
        by-kept : (owned (v.entries s) ≡ true) ⊎ GaveAway v → Handing Write r (hand_write s v.book.number r (v.entries s))
        by-kept (inl own) = own-handed runs own
        by-kept (inr gave) = gave-handed runs gave
