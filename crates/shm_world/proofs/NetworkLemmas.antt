-- What a network carries once an envelope is posted, taken out or put back; and while it is copied.
use Rattle.std.proofs.Common.{◌≡◌, ℕ, ◌+◌, ◌<◌, ◌≤◌, Bool, true, false, ◌==◌, if◌then◌else◌, List, [], ◌∷◌, drop, length, nat_lt, slice_get, slice_index_or, Option, None, Some, IfNone, refl, sym, ap, ◌∙◌, ⊎_elim, arith, suc}
use Rattle.std.proofs.Math.ListN.{drop_of_length-le}
use Rattle.std.proofs.Math.Seq.{drop-cons}
use Rattle.std.proofs.lemmas.Bool.{cases_eq, cases_lt}
use Rattle.std.proofs.lemmas.Bool.Decides.{nat_tests}
use Rattle.shm_model.specs.Basics.{at}
use Rattle.shm_model.specs.Message as model
use Rattle.shm_parts.specs.Message.{envelope_of}
use Rattle.shm_parts.specs.declared.message.Envelope.{Envelope}
use Rattle.shm_laws.proofs.Call.Steps.{at-here, at-there}
use Rattle.shm_world.specs.ByNumber.{rises, value_of}
use Rattle.shm_world.specs.Network.{envelope_at, on_way, Carries}
use Rattle.shm_world.specs.declared.network.Network.{Network}
use Rattle.shm_world.specs.declared.numbered_place.Place.{Place}
use Rattle.shm_world.proofs.Numbers.{none_below, first_of, rest_of}

pub envelope_if : {A : Type 0} (b : Bool) (v r : Option (Envelope A)) → envelope_at (if b then v else r) ≡ (if b then envelope_at v else envelope_at r)
envelope_if true v r = refl
envelope_if false v r = refl

pub none_then : {X : Type 0} {P Q : Type 0} (r : Option X) → (P → Q) → IfNone r P → IfNone r Q
none_then None f p = f p
none_then (Some x) f p = tt

-- ---- taken out, and put back

-- where nothing stands under a number, what is taken from there leaves all that is carried
pub unlost : {A : Type 0} (old new : Network A) (sent : List model.Envelope) (gone : ℕ → Bool) (number : ℕ) → on_way old number ≡ None → new.envelopes.next ≡ old.envelopes.next
    → ((k : ℕ) → on_way new k ≡ at (on_way old) number None k) → Carries old sent gone → Carries new sent gone
unlost old new sent gone number none count puts had = record {
  count = count ∙ had.count;
  live = λ k. ⊎_elim
      (λ (same : number ≡ k). puts k ∙ at-here (on_way old) number None k same ∙ sym none ∙ ap (on_way old) same ∙ had.live k)
      (λ (other : number ≡ k → ⊥). puts k ∙ at-there (on_way old) number None k other ∙ had.live k)
      (cases_eq number k);
}

pub lost-one : {A : Type 0} (old new : Network A) (sent : List model.Envelope) (gone : ℕ → Bool) (number : ℕ) → new.envelopes.next ≡ old.envelopes.next
    → ((k : ℕ) → on_way new k ≡ at (on_way old) number None k) → Carries old sent gone → Carries new sent (at gone number true)
lost-one old new sent gone number count puts had = record {
  count = count ∙ had.count;
  live = λ k. ⊎_elim
      (λ (same : number ≡ k). puts k ∙ at-here (on_way old) number None k same ∙ sym (ap (λ b. if b then None else slice_get sent k) (at-here gone number true k same)))
      (λ (other : number ≡ k → ⊥). puts k ∙ at-there (on_way old) number None k other ∙ had.live k ∙ sym (ap (λ b. if b then None else slice_get sent k) (at-there gone number true k other)))
      (cases_eq number k);
}

pub found-again : {A : Type 0} (old new : Network A) (sent : List model.Envelope) (gone : ℕ → Bool) (number : ℕ) (e : model.Envelope) → new.envelopes.next ≡ old.envelopes.next
    → ((k : ℕ) → on_way new k ≡ at (on_way old) number (Some e) k) → Carries old sent (at gone number true) → gone number ≡ false → slice_get sent number ≡ Some e → Carries new sent gone
found-again old new sent gone number e count puts had here is = record {
  count = count ∙ had.count;
  live = λ k. ⊎_elim
      (λ (same : number ≡ k).
      puts k ∙ at-here (on_way old) number (Some e) k same ∙ sym is ∙ ap (slice_get sent) same
      ∙ sym (ap (λ b. if b then None else slice_get sent k) (ap gone (sym same) ∙ here)))
      (λ (other : number ≡ k → ⊥). puts k ∙ at-there (on_way old) number (Some e) k other ∙ had.live k ∙ ap (λ b. if b then None else slice_get sent k) (at-there gone number true k other))
      (cases_eq number k);
}

-- what carries nothing else carries the same
pub carries-same : {A : Type 0} (old new : Network A) (sent : List model.Envelope) (gone : ℕ → Bool) → new.envelopes.next ≡ old.envelopes.next → ((k : ℕ) → on_way new k ≡ on_way old k) → Carries old sent gone
    → Carries new sent gone
carries-same old new sent gone count same had = record { count = count ∙ had.count; live = λ k. same k ∙ had.live k }

-- ---- copied

-- of what is to be copied, the numbers below this one were, and no others
pub record Copied {A : Type 0} (all rest copies : List (Place (Envelope A))) (next : ℕ) : Type 0 where
  pub same : (k : ℕ) → envelope_at (value_of k all) ≡ (if nat_lt k next then envelope_at (value_of k copies) else envelope_at (value_of k rest))
  pub fresh : (k : ℕ) → next ≤ k → value_of k copies ≡ None

value-here : {V : Type 0} (p : Place V) (ps : List (Place V)) (k : ℕ) → p.number ≡ k → value_of k (p ∷ ps) ≡ p.value
value-here p ps k same = let is : (p.number == k) ≡ true = grind (arith, nat_tests, same) in ap (λ b. if b then p.value else value_of k ps) is

value-there : {V : Type 0} (p : Place V) (ps : List (Place V)) (k : ℕ) → (p.number ≡ k → ⊥) → value_of k (p ∷ ps) ≡ value_of k ps
value-there p ps k other = ⊎_elim
    (λ (same : p.number ≡ k). absurd (other same))
    (λ (n : p.number ≡ k → ⊥). let not_so : (p.number == k) ≡ false = grind (arith, nat_tests, n) in ap (λ b. if b then p.value else value_of k ps) not_so)
    (cases_eq p.number k)

below : {X : Type 0} (k n : ℕ) (x y : X) → k < n → (if nat_lt k n then x else y) ≡ x
below k n x y h = let b : nat_lt k n ≡ true = grind (arith, nat_tests, h) in ap (λ b. if b then x else y) b

above : {X : Type 0} (k n : ℕ) (x y : X) → n ≤ k → (if nat_lt k n then x else y) ≡ y
above k n x y h = let b : nat_lt k n ≡ false = grind (arith, nat_tests, h) in ap (λ b. if b then x else y) b

past : (n k : ℕ) → n ≤ k → (n ≡ k → ⊥) → n + 1 ≤ k
past n k h other = ⊎_elim (λ (low : n < k). omega (arith, low)) (λ (high : k ≤ n). absurd (other (omega (arith, h, high)))) (cases_lt n k)

-- at first none are
pub copied-none : {A : Type 0} (all copies : List (Place (Envelope A))) (next : ℕ) → next ≡ 0 → ((k : ℕ) → value_of k copies ≡ None) → Copied all all copies next
copied-none all copies next first none = record {
  same = λ k. sym (above k next (envelope_at (value_of k copies)) (envelope_at (value_of k all)) (omega (arith, first)));
  fresh = λ k _. none k;
}

-- an empty place has nothing to copy
pub none-copied : {A : Type 0} (all ps copies : List (Place (Envelope A))) (p : Place (Envelope A)) (next last : ℕ) → p.value ≡ None → rises next (p ∷ ps) last ≡ true
    → Copied all (p ∷ ps) copies next → Copied all ps copies next
none-copied all ps copies p next last empty order had =
    let pass = λ (k : ℕ). ⊎_elim
    (λ (same : p.number ≡ k). value-here p ps k same ∙ empty ∙ sym (none_below (p.number + 1) last k ps (rest_of next last p ps order) (omega (arith, same))))
    (λ (other : p.number ≡ k → ⊥). value-there p ps k other)
    (cases_eq p.number k) in
    record { same = λ k. had.same k ∙ ap (λ (o : Option (Envelope _)). if nat_lt k next then envelope_at (value_of k copies) else envelope_at o) (pass k); fresh = had.fresh }

-- and a full one is copied
pub one-copied : {A : Type 0} (all ps copies more : List (Place (Envelope A))) (p : Place (Envelope A)) (e copy : Envelope A) (next last : ℕ) → p.value ≡ Some e → envelope_of copy ≡ envelope_of e
    → rises next (p ∷ ps) last ≡ true → ((k : ℕ) → value_of k more ≡ (if p.number == k then Some copy else value_of k copies))
    → Copied all (p ∷ ps) copies next → Copied all ps more (p.number + 1)
one-copied all ps copies more p e copy next last full is order puts had = record {
  fresh = λ k late.
      let from : next ≤ p.number = first_of next last p ps order in
      let not_so : (p.number == k) ≡ false = grind (arith, nat_tests, late) in
      puts k ∙ ap (λ b. if b then Some copy else value_of k copies) not_so ∙ had.fresh k (omega (arith, from, late));
  same = λ k.
      let from : next ≤ p.number = first_of next last p ps order in
      let kept = λ (other : p.number ≡ k → ⊥). let not_so : (p.number == k) ≡ false = grind (arith, nat_tests, other) in puts k ∙ ap (λ b. if b then Some copy else value_of k copies) not_so in
      had.same k ∙ ⊎_elim
      (λ (old : k < next).
      below k next (envelope_at (value_of k copies)) (envelope_at (value_of k (p ∷ ps))) old
      ∙ ap envelope_at (sym (kept (λ same. omega (arith, same, old, from))))
      ∙ sym (below k (p.number + 1) (envelope_at (value_of k more)) (envelope_at (value_of k ps)) (omega (arith, old, from))))
      (λ (late : next ≤ k).
      above k next (envelope_at (value_of k copies)) (envelope_at (value_of k (p ∷ ps))) late
      ∙ ⊎_elim
      (λ (same : p.number ≡ k).
      let here : (p.number == k) ≡ true = grind (arith, nat_tests, same) in
      ap envelope_at (value-here p ps k same ∙ full) ∙ ap (λ m. Some m) (sym is)
      ∙ ap envelope_at (sym (puts k ∙ ap (λ b. if b then Some copy else value_of k copies) here))
      ∙ sym (below k (p.number + 1) (envelope_at (value_of k more)) (envelope_at (value_of k ps)) (omega (arith, same))))
      (λ (other : p.number ≡ k → ⊥).
      ap envelope_at (value-there p ps k other)
      ∙ ⊎_elim
      (λ (low : k < p.number).
      ap envelope_at (none_below (p.number + 1) last k ps (rest_of next last p ps order) (omega (arith, low)) ∙ sym (had.fresh k late) ∙ sym (kept other))
      ∙ sym (below k (p.number + 1) (envelope_at (value_of k more)) (envelope_at (value_of k ps)) (omega (arith, low))))
      (λ (high : p.number ≤ k). sym (above k (p.number + 1) (envelope_at (value_of k more)) (envelope_at (value_of k ps)) (past p.number k high other)))
      (cases_lt k p.number))
      (cases_eq p.number k))
      (cases_lt k next);
}

-- where nothing is left to copy, all was
pub all-copied : {A : Type 0} (all copies : List (Place (Envelope A))) (next : ℕ) → Copied all [] copies next → (k : ℕ) → envelope_at (value_of k copies) ≡ envelope_at (value_of k all)
all-copied all copies next had k = sym (had.same k ∙ ⊎_elim
    (λ (old : k < next). below k next (envelope_at (value_of k copies)) None old)
    (λ (late : next ≤ k). above k next (envelope_at (value_of k copies)) None late ∙ ap envelope_at (sym (had.fresh k late)))
    (cases_lt k next))

-- what is read at a place is the first of those from there on
pub read-next : {X : Type 0} (xs all : List X) (i : ℕ) (x : X) → xs ≡ all → i < length xs → x ≡ slice_index_or xs i x → drop i all ≡ x ∷ drop (i + 1) all
read-next xs all i x is low read =
    let within : i < length all = omega (arith, low, ap length is) in
    let here : x ≡ slice_index_or all i x = read ∙ ap (λ l. slice_index_or l i x) is in
    let one : suc i ≡ i + 1 = omega arith in
    drop-cons all i x within ∙ ap (λ n. slice_index_or all i x ∷ drop n all) one ∙ ap (λ y. y ∷ drop (i + 1) all) (sym here)

pub none-left : {X : Type 0} (xs all : List X) (i : ℕ) → xs ≡ all → length xs ≤ i → drop i all ≡ []
none-left xs all i is past = let over : length all ≤ i = omega (arith, past, ap length is) in drop_of_length-le all over
