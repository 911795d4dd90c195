-- At the opening each segment counts who holds it: the first one is named at every site.
use Rattle.std.proofs.Common.{◌≡◌, ◌≢◌, ℕ, zero, suc, ◌+◌, ◌*◌, ◌<◌, ◌≤◌, ◌%◌, Bool, true, false, List, [], ◌∷◌, mul-zero, mul-one, suc-mul, Some, None, if◌then◌else◌, ◌==◌, ◌⊎◌, refl, sym, ap, ◌∙◌, subst, arith, inl, inr, sum_by, count_by}
use Rattle.std.specs.List.{range_with_len}
use Rattle.std.proofs.lemmas.Bool.{cases_eq}
use Rattle.std.proofs.lemmas.Bool.Decides.{nat_tests}
use Rattle.std.proofs.lemmas.List.Sums.{sum_by-cons}
use Rattle.shm_model.specs.Basics.{at}
use Rattle.shm_model.specs.Permission.{Segment}
use Rattle.shm_model.specs.Kernel.{is_at, made_at, with_id}
use Rattle.shm_model.specs.Message.{Envelope}
use Rattle.shm_model.specs.Calls.{Attachment}
use Rattle.shm_model.specs.Memory.{is_segment, segment_at_first}
use Rattle.shm_model.specs.World.{Done, IsOpening, Opening, New, Preset, Framed, opened_site, preset_attachment, preset_segment}
use Rattle.shm_model.specs.History.{calls_of}
use Rattle.shm_laws.proofs.Kernel.Held.{Balanced}
use Rattle.shm_laws.proofs.Kernel.Count.{IsGiven}
use Rattle.shm_laws.proofs.Call.Turn.{Desk, desk_of}
use Rattle.shm_laws.proofs.Call.Steps.{at-there}
use Rattle.shm_laws.proofs.Call.Once.{Once, idle, none-sent}
use Rattle.shm_laws.proofs.Call.Counting.{bit, count-cons, named_at, named_in, one, sum-changed}
use Rattle.shm_laws.proofs.Call.Names.{Named, id_of}
use Rattle.shm_laws.proofs.Call.Balance.{Balance}

-- what the desks' attachments are by the account
abbrev pub NamedBy : Opening → (ℕ → Desk) → List Envelope → List Done → Type 0
NamedBy o d sent account = Named o (λ s. (d s).attachments) (λ s. (d s).outstanding) (λ s. (d s).calls) sent account

pub record CountedBy (o : Opening) (d : ℕ → Desk) (sent : List Envelope) (account : List Done) : Type 0 where
  pub once : Once o d sent account
  pub named : NamedBy o d sent account
  pub balance : Balance o sent account (calls_of account)

-- the opening
first-name : (a : ℕ) (x : Attachment) → (if a == 0 then Some x.id else None) ≡ id_of (at (λ b. None) 0 (Some x) a)
first-name a x = first-name-if (a == 0) (0 == a) x (let h : (a == 0) ≡ (0 == a) = grind (arith, nat_tests) in h)
  where
    first-name-if : (b c : Bool) (y : Attachment) → b ≡ c → (if b then Some y.id else None) ≡ id_of (if c then Some y else None)
    first-name-if true true y same = refl
    first-name-if true false y same = cc
    first-name-if false true y same = cc
    first-name-if false false y same = refl

first-names : (o : Opening) (s a : ℕ) → segment_at_first o a ≡ id_of ((opened_site o s).attachments a)
first-names (New n) s a = refl
first-names (Preset n pages) s a = first-name a (preset_attachment pages)
first-names (Framed n pages frames) s a = first-name a (preset_attachment pages)

zero-alone : (a : ℕ) (x y : Attachment) → at (λ b. None) 0 (Some x) a ≡ Some y → a < 64
zero-alone a x y is = elim (cases_eq 0 a) [
  | inl same ↦ omega arith
  | inr other ↦ (let h = at-there (λ b. None) 0 (Some x) a other in cc)
]

first-small : (o : Opening) (s a : ℕ) (y : Attachment) → (opened_site o s).attachments a ≡ Some y → a < 64
first-small (New n) s a y is = cc
first-small (Preset n pages) s a y is = zero-alone a (preset_attachment pages) y is
first-small (Framed n pages frames) s a y is = zero-alone a (preset_attachment pages) y is

pub first-named : (o : Opening) → NamedBy o (λ s. desk_of (opened_site o s)) [] []
first-named o = record {
  names = first-names o;
  small = first-small o;
  asked = λ s n cred id ro is. let h = (idle o s).0 in cc;
  unheard = λ s n op is. refl;
  begun = λ e n op found is id. absurd (none-sent e found);
  later = λ x id high. refl;
}

-- how often the attachments of the opening name a segment
sum-zero : (from n : ℕ) → sum_by (λ t. 0) (range_with_len from n) ≡ 0
sum-zero from zero = refl
sum-zero from (suc n) = let h = sum_by-cons (λ t. 0) from (range_with_len (from + 1) n) in let k = sum-zero (from + 1) n in omega arith

sum-equal : (f : ℕ → ℕ) (c from n : ℕ) → ((t : ℕ) → f t ≡ c) → sum_by f (range_with_len from n) ≡ n * c
sum-equal f c from zero each = omega arith
sum-equal f c from (suc n) each =
    let h = sum_by-cons f from (range_with_len (from + 1) n) in
    let k = each from in
    let rest : sum_by f (range_with_len (from + 1) n) ≡ n * c = sum-equal f c (from + 1) n each in
    let m : suc n * c ≡ n * c + c = suc-mul n c in
    omega arith

first-row : (id m : ℕ) → 0 < m → count_by (λ a. is_segment (if a == 0 then Some 0 else None) id) (range_with_len 0 m) ≡ one (Some 0) id
first-row id m some =
    let h = sum-changed (λ a. one (if a == 0 then Some 0 else None) id) (λ a. 0) 0 0 m (omega arith) (omega arith) (λ t other. off t other) in
    let k = sum-zero 0 m in
    omega arith
  where
    off : (t : ℕ) → t ≢ 0 → one (if t == 0 then Some 0 else None) id ≡ 0
    off t other = grind (arith, nat_tests)

-- with no segment nothing is held; with the first one, only it, by each site
first-empty : (id n m : ℕ) → named_in (λ s a. None) n m id ≡ 0
first-empty id n m = sum-equal (λ s. count_by (λ a. false) (range_with_len 0 m)) 0 0 n (λ t. sum-zero 0 m) ∙ mul-zero n

first-held : (id n : ℕ) → named_in (λ s a. if a == 0 then Some 0 else None) n 64 id + (0 + 0) ≡ n * one (Some 0) id
first-held id n =
    let h = sum-equal (named_at (λ s a. if a == 0 then Some 0 else None) 64 id) (one (Some 0) id) 0 n (λ t. first-row id 64 (omega arith)) in
    omega arith

-- the first segment
self-hit : (x : ℕ) → bit (x == x) ≡ 1
self-hit x = grind (arith, nat_tests)

first-given : (n pages : ℕ) → 1 ≤ n → IsGiven n (preset_segment n pages ∷ []) (preset_segment n pages)
first-given n pages some =
    let made : made_at n (0 % n) (preset_segment n pages ∷ []) ≡ 1 = count-cons (is_at n (0 % n)) (preset_segment n pages) [] ∙ ap (λ x. x + 0) (self-hit (0 % n)) in
    subst (λ k. 0 < k * n + 0 % n) (sym made) (omega arith)

nobody-held : (x : ℕ) → x ≡ 0 → 0 < x → ⊥
nobody-held x none some = omega arith

not-first : (i : ℕ) → (0 ≡ i → ⊥) → one (Some 0) i ≡ 0
not-first i other = grind (arith, nat_tests)

first-balanced : (n pages : ℕ) → Balanced (λ i. named_in (λ s a. if a == 0 then Some 0 else None) n 64 i + (0 + 0)) (preset_segment n pages ∷ [])
first-balanced n pages = record {
  count = (sym (first-held 0 n ∙ mul-one n), tt);
  stands = λ i some. first-stands i some (cases_eq 0 i);
}
  where
    first-stands : (i : ℕ) → 0 < named_in (λ s a. if a == 0 then Some 0 else None) n 64 i + (0 + 0) → (0 ≡ i) ⊎ (0 ≡ i → ⊥)
        → (g : Segment) × (with_id i (preset_segment n pages ∷ []) ≡ Some g)
    first-stands i some (inl same) = (preset_segment n pages, subst (λ k. with_id k (preset_segment n pages ∷ []) ≡ Some (preset_segment n pages)) same refl)
    first-stands i some (inr other) =
        let none : one (Some 0) i ≡ 0 = not-first i other in
        absurd (nobody-held (named_in (λ s a. if a == 0 then Some 0 else None) n 64 i + (0 + 0)) (first-held i n ∙ (ap (λ x. n * x) none ∙ mul-zero n)) some)

pub first-balance : (o : Opening) → IsOpening o → Balance o [] [] []
first-balance (New n) opening = record {
  entries = tt;
  given = tt;
  balanced = record { count = tt; stands = λ i some. absurd (nobody-held (named_in (λ s a. None) n 64 i + (0 + 0)) (ap (λ x. x + (0 + 0)) (first-empty i n 64)) some) };
}
first-balance (Preset n pages) opening = record { entries = tt; given = (first-given n pages opening.0, tt); balanced = first-balanced n pages }
first-balance (Framed n pages frames) opening = record { entries = tt; given = (first-given n pages opening.0, tt); balanced = first-balanced n pages }
