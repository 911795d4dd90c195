-- A row takes accesses that go on with it.
use Rattle.std.proofs.Common.{◌≡◌, ℕ, suc, ◌+◌, ◌-◌, ◌<◌, ◌==◌, Bool, true, false, ◌&&◌, List, [], ◌∷◌, ◌++◌, Some, None, cond, refl, ap, sym, ◌∙◌, arith}
use Rattle.std.specs.Prelude.{nat_lt, option_map}
use Rattle.std.specs.Str.{bytes_eq}
use Rattle.std.proofs.lemmas.Bool.Decides.{nat_tests}
use Rattle.std.proofs.lemmas.List.{length-append}
use Rattle.std.proofs.lemmas.Slice.Eq.{bytes_eq-Decides}
use Rattle.shm_place.specs.Limits.{page_bytes}
use Rattle.shm_model.specs.declared.asked_access.Asked.TheVariants.{Load, Store}
use Rattle.shm_process.specs.Further.{GoesOn}
use Rattle.shm_process.specs.Rows.{Accesses, Loads, Row, Stores, both, follows, joined, row_of, size, with_accesses}
use Rattle.shm_process.proofs.RowLemmas.{follows-are}

same-tag : (one other : List ℕ) → one ≡ other → bytes_eq one other ≡ true
same-tag one other e = grind (arith, bytes_eq-Decides)

same-number : (one other : ℕ) → one ≡ other → (one == other) ≡ true
same-number one other e = grind (arith, nat_tests)

less-is : (one other : ℕ) → one < other → nat_lt one other ≡ true
less-is one other e = grind (arith, nat_tests)

all-five : (a b c d e : Bool) → a ≡ true → b ≡ true → c ≡ true → d ≡ true → e ≡ true → ((((a && b) && c) && d) && e) ≡ true
all-five true true true true true p q r s t = refl
all-five false b c d e p q r s t = absurd (cc)
all-five true false c d e p q r s t = absurd (cc)
all-five true true false d e p q r s t = absurd (cc)
all-five true true true false e p q r s t = absurd (cc)
all-five true true true true false p q r s t = absurd (cc)

module _ (row : Row) (clock : ℕ) (tag : List ℕ) (at offset count : ℕ) (g : GoesOn row clock tag at offset (suc count)) where
  follows-so : (next : Row) → next.clock ≡ clock → next.tag ≡ tag → next.at ≡ at → next.offset ≡ offset → follows row next ≡ true
  follows-so next c t a o =
      let few = g.few in
      all-five (bytes_eq row.tag next.tag) (row.at == next.at) (row.offset + size row.accesses == next.offset) (row.clock + size row.accesses == next.clock)
      (nat_lt (size row.accesses) page_bytes)
      (same-tag row.tag next.tag (g.same_tag ∙ sym t)) (same-number row.at next.at (g.same_at ∙ sym a))
      (same-number (row.offset + size row.accesses) next.offset (g.offsets ∙ sym o)) (same-number (row.clock + size row.accesses) next.clock (g.clocks ∙ sym c))
      (less-is (size row.accesses) page_bytes (omega (arith, few)))

  pub joins_load : (loads : ℕ) → row.accesses ≡ Loads loads → joined row (row_of clock tag (Load at offset)) ≡ Some (with_accesses row (Loads (loads + 1)))
  joins_load loads is =
      ap (λ b. cond b (option_map (with_accesses row) (both row.accesses (Loads 1))) None) (follows-so (row_of clock tag (Load at offset)) refl refl refl refl)
      ∙ ap (λ a. option_map (with_accesses row) (both a (Loads 1))) is

  pub joins_store : (stored : List ℕ) (byte : ℕ) → row.accesses ≡ Stores stored
      → joined row (row_of clock tag (Store at offset byte)) ≡ Some (with_accesses row (Stores (stored ++ byte ∷ [])))
  joins_store stored byte is =
      ap (λ b. cond b (option_map (with_accesses row) (both row.accesses (Stores (byte ∷ [])))) None) (follows-so (row_of clock tag (Store at offset byte)) refl refl refl refl)
      ∙ ap (λ a. option_map (with_accesses row) (both a (Stores (byte ∷ [])))) is

  -- and goes on then
  pub goes_further : (accesses : Accesses) → size accesses ≡ size row.accesses + 1 → GoesOn (with_accesses row accesses) (clock + 1) tag at (offset + 1) count
  goes_further accesses one =
      let few = g.few in
      let offsets = g.offsets in
      let clocks = g.clocks in
      record {
        same_tag = g.same_tag;
        same_at = g.same_at;
        offsets = omega (arith, one, offsets);
        clocks = omega (arith, one, clocks);
        few = omega (arith, one, few);
      }

pub one_load_more : (row : Row) (loads : ℕ) → row.accesses ≡ Loads loads → size (Loads (loads + 1)) ≡ size row.accesses + 1
one_load_more row loads is = ap (λ a. size a + 1) (sym is)

pub one_store_more : (row : Row) (stored : List ℕ) (byte : ℕ) → row.accesses ≡ Stores stored → size (Stores (stored ++ byte ∷ [])) ≡ size row.accesses + 1
one_store_more row stored byte is = length-append stored (byte ∷ []) ∙ ap (λ a. size a + 1) (sym is)

-- a row that goes on does so as long as it has room
pub room_after : (row next : Row) (count : ℕ) → follows row next ≡ true → size row.accesses ≡ count → GoesOn row next.clock next.tag next.at next.offset (page_bytes - count)
room_after row next count e is =
    let f = follows-are row next e in
    let less = f.less in
    record { same_tag = f.tag; same_at = f.at; offsets = f.offset; clocks = f.clock; few = omega (arith, less, is) }
