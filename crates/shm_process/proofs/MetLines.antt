-- Lines that were kept back, and bytes that are brought, one more at a time; and what becomes of a step that asked for a right.
use Rattle.std.proofs.Common.{◌≡◌, ℕ, ◌+◌, ◌<◌, ◌≤◌, Bool, true, false, List, ◌∷◌, cond, length, drop, get_or, nat_lt, sum_by, ap, sym, ◌∙◌, arith}
use Rattle.std.specs.Prelude.{Option, None, Some, ◌^◌}
use Rattle.std.proofs.lemmas.Bool.Decides.{nat_tests}
use Rattle.std.proofs.lemmas.List.{drop_all, drop_more}
use Rattle.std.proofs.lemmas.List.Sums.{sum_by-drop_more}
use Rattle.shm_model.specs.Basics.{greatest}
use Rattle.shm_wire.specs.Asks.{IsBlock}
use Rattle.shm_wire.specs.Unmaps.{Run, UnmapAsk}
use Rattle.shm_process.specs.Access.{is_open}
use Rattle.shm_process.specs.Causes.{store_line}
use Rattle.shm_process.specs.Desk.{Desk, KeptLine, all_met, brought, keep, met, stored_run, tried_so, unrecorded, untagged, with_step}
use Rattle.shm_process.specs.Node.{Said}

-- ---- what was kept back

pub one_met : (fresh : Bool) (ks : List KeptLine) (i : ℕ) (k : KeptLine) (d next whole : Desk) → i < length ks → get_or ks i k ≡ k → next ≡ met fresh d k.line
    → all_met fresh d (drop i ks) ≡ whole → all_met fresh next (drop (i + 1) ks) ≡ whole
unfolding all_met
one_met fresh ks i k d next whole h is step e =
    ap (λ x. all_met fresh x (drop (i + 1) ks)) step
    ∙ sym (ap (all_met fresh d) (drop_more ks i k h ∙ ap (λ x. x ∷ drop (i + 1) ks) is)) ∙ e

pub none_met : (fresh : Bool) (ks : List KeptLine) (i : ℕ) (d whole : Desk) → length ks ≤ i → all_met fresh d (drop i ks) ≡ whole → d ≡ whole
unfolding all_met
none_met fresh ks i d whole h e = sym (ap (all_met fresh d) (drop_all i ks h)) ∙ e

-- ---- runs

pub run-within : (offset count : ℕ) → IsBlock offset count → offset + count ≤ 2 ^ 32
run-within offset count h = grind (arith, nat_tests)

pub one_run : (ask : UnmapAsk) (rs : List Run) (i : ℕ) (r : Run) (d next whole : Desk) → i < length rs → get_or rs i r ≡ r → next ≡ stored_run d ask r.offset r.bytes
    → brought d ask (drop i rs) ≡ whole → brought next ask (drop (i + 1) rs) ≡ whole
unfolding brought
one_run ask rs i r d next whole h is step e =
    ap (λ x. brought x ask (drop (i + 1) rs)) step
    ∙ sym (ap (brought d ask) (drop_more rs i r h ∙ ap (λ x. x ∷ drop (i + 1) rs) is)) ∙ e

pub no_run : (ask : UnmapAsk) (rs : List Run) (i : ℕ) (d whole : Desk) → length rs ≤ i → brought d ask (drop i rs) ≡ whole → d ≡ whole
unfolding brought
no_run ask rs i d whole h e = sym (ap (brought d ask) (drop_all i rs h)) ∙ e

-- ---- clocks for what runs bring

-- a store for each byte
abbrev pub stores_in : List Run → ℕ
stores_in runs = sum_by (λ (run : Run). length run.bytes) runs

pub clocks_on : (rs : List Run) (i : ℕ) (r : Run) (last next whole : ℕ) → i < length rs → get_or rs i r ≡ r → next ≡ last + length r.bytes
    → last + stores_in (drop i rs) ≡ whole → next + stores_in (drop (i + 1) rs) ≡ whole
clocks_on rs i r last next whole h is step e =
    let more : stores_in (drop i rs) ≡ length (get_or rs i r).bytes + stores_in (drop (i + 1) rs) = sum_by-drop_more (λ (run : Run). length run.bytes) rs i r h in
    let same : length (get_or rs i r).bytes ≡ length r.bytes = ap (λ (x : Run). length x.bytes) is in
    omega (arith, step, e, more, same)

-- there are none for the next run
pub no_clocks : (rs : List Run) (i : ℕ) (r : Run) (last whole : ℕ) → i < length rs → get_or rs i r ≡ r → greatest < last + length r.bytes
    → last + stores_in (drop i rs) ≡ whole → greatest ≤ whole
no_clocks rs i r last whole h is over e =
    let more : stores_in (drop i rs) ≡ length (get_or rs i r).bytes + stores_in (drop (i + 1) rs) = sum_by-drop_more (λ (run : Run). length run.bytes) rs i r h in
    let same : length (get_or rs i r).bytes ≡ length r.bytes = ap (λ (x : Run). length x.bytes) is in
    omega (arith, over, e, more, same)

pub all_clocks : (rs : List Run) (i last whole : ℕ) → length rs ≤ i → last + stores_in (drop i rs) ≡ whole → last ≡ whole
all_clocks rs i last whole h e =
    let none : stores_in (drop i rs) ≡ 0 = ap stores_in (drop_all i rs h) in
    omega (arith, e, none)

pub past-greatest : (last count more : ℕ) → count ≡ more → (last + count < 18446744073709551616 → ⊥) → greatest < last + more
past-greatest last count more is h = omega (arith, is, h)

pub not_below : (a b : ℕ) → b ≤ a → false ≡ nat_lt a b
not_below a b h = grind (arith, nat_tests)

-- ---- bytes

pub one_byte : (ask : UnmapAsk) (offset place : ℕ) (bytes : List ℕ) (byte : ℕ) (d next whole : Desk) → place < length bytes → byte ≡ get_or bytes place 0
    → next ≡ unrecorded d (store_line ask (offset + place) byte) → stored_run d ask (offset + place) (drop place bytes) ≡ whole
    → stored_run next ask (offset + (place + 1)) (drop (place + 1) bytes) ≡ whole
unfolding stored_run
one_byte ask offset place bytes byte d next whole h is step e =
    let later : (offset + place) + 1 ≡ offset + (place + 1) = omega arith in
    let rest = drop (place + 1) bytes in
    ap (λ x. stored_run x ask (offset + (place + 1)) rest) (step ∙ ap (λ b. unrecorded d (store_line ask (offset + place) b)) is)
    ∙ sym (ap (λ n. stored_run (unrecorded d (store_line ask (offset + place) (get_or bytes place 0))) ask n rest) later)
    ∙ sym (ap (stored_run d ask (offset + place)) (drop_more bytes place 0 h)) ∙ e

pub no_byte : (ask : UnmapAsk) (offset place : ℕ) (bytes : List ℕ) (d whole : Desk) → length bytes ≤ place
    → stored_run d ask (offset + place) (drop place bytes) ≡ whole → d ≡ whole
unfolding stored_run
no_byte ask offset place bytes d whole h e = sym (ap (stored_run d ask (offset + place)) (drop_all place bytes h)) ∙ e

pub first_byte : (ask : UnmapAsk) (offset : ℕ) (bytes : List ℕ) (d : Desk) → stored_run d ask (offset + 0) bytes ≡ stored_run d ask offset bytes
first_byte ask offset bytes d = let same : offset + 0 ≡ offset = omega arith in ap (λ n. stored_run d ask n bytes) same

-- ---- a step that asked for a right

-- it waits
pub tried_open : (d quiet next : Desk) (line : List ℕ) (tag : Option (List ℕ)) (says : Said) → is_open says.answer ≡ true → quiet ≡ with_step d (Some (untagged says))
    → next ≡ keep quiet None line tag → next ≡ tried_so d line tag says
tried_open d quiet next line tag says opens made e =
    e ∙ ap (λ x. keep x None line tag) made
    ∙ sym (ap (λ b. cond b (keep (with_step d (Some (untagged says))) None line tag) (with_step d (Some says))) opens)

-- it was refused
pub tried_closed : (d next : Desk) (line : List ℕ) (tag : Option (List ℕ)) (says : Said) → is_open says.answer ≡ false → next ≡ with_step d (Some says)
    → next ≡ tried_so d line tag says
tried_closed d next line tag says closed e =
    e ∙ sym (ap (λ b. cond b (keep (with_step d (Some (untagged says))) None line tag) (with_step d (Some says))) closed)
