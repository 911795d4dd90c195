-- The owner keeps the page: it lends to itself, or it becomes the writer now that every copy is cleared.
use Rattle.std.proofs.Common.{◌≡◌, ◌≢◌, ℕ, ◌<◌, ◌⊎◌, inl, inr, true, List, arith, refl, sym, ◌∙◌, subst}
use Rattle.std.proofs.lemmas.Bool.{false_from_ne_true}
use Rattle.std.proofs.lemmas.Bool.Decides.{nat_tests}
use Rattle.shm_model.specs.declared.request_kind.Kind.{Kind}
use Rattle.shm_model.specs.declared.request_kind.Kind.TheVariants.{Read, Write}
use Rattle.shm_model.specs.Entry.{Entry, Nil, Copy, OwnRead, OwnWrite, Handed, Note, bytes, is_copy, meet, owned, readable, seen, writable}
use Rattle.shm_model.specs.Basics.{at}
use Rattle.shm_laws.proofs.Page.View.{View, Runs, Holds, HandFits, Fits, with_entry_at}
use Rattle.shm_laws.proofs.Page.Entry.{IsAgain, all_met-after, false-true, kept-here}
use Rattle.shm_laws.proofs.Page.Hand.{HandNow, own-readable, now-here, grows, met-here, met-after, in-limit, not-handed, keeps}

-- who may read owns the page or has a copy
pub readable-is : (e : Entry) → readable e ≡ true → (owned e ≡ true) ⊎ (is_copy e ≡ true)
readable-is (Nil m) w = absurd (false-true w)
readable-is (Copy m b) w = inr refl
readable-is (OwnRead m b) w = inl refl
readable-is (OwnWrite m b) w = inl refl
readable-is (Handed m to b) w = absurd (false-true w)

-- an owned entry that only meets a number
pub seen-meet : (n : ℕ) (e : Entry) → owned e ≡ true → seen (meet n e) ≡ n
seen-meet n (Nil m) w = absurd (false-true w)
seen-meet n (Copy m b) w = absurd (false-true w)
seen-meet n (OwnRead m b) w = refl
seen-meet n (OwnWrite m b) w = refl
seen-meet n (Handed m to b) w = absurd (false-true w)

pub record SameBut (e f : Entry) : Type 0 where
  pub owned_same : owned f ≡ owned e
  pub copy_same : is_copy f ≡ is_copy e
  pub readable_same : readable f ≡ readable e
  pub writable_same : writable f ≡ writable e
  pub bytes_same : bytes f ≡ bytes e
  pub not_handed : (m to : ℕ) (b : List ℕ) → f ≡ Handed m to b → ⊥

pub same-meet : (n : ℕ) (e : Entry) → owned e ≡ true → SameBut e (meet n e)
same-meet n (Nil m) w = absurd (false-true w)
same-meet n (Copy m b) w = absurd (false-true w)
same-meet n (OwnRead m b) w = record { owned_same = refl; copy_same = refl; readable_same = refl; writable_same = refl; bytes_same = refl; not_handed = λ m to b h. cc }
same-meet n (OwnWrite m b) w = record { owned_same = refl; copy_same = refl; readable_same = refl; writable_same = refl; bytes_same = refl; not_handed = λ m to b h. cc }
same-meet n (Handed m to b) w = absurd (false-true w)

module _ (Now : List ℕ → Type 0) (v : View) (h : Holds Now v) (n q d : ℕ) (above : seen (v.entries d) < n) (own : owned (v.entries d) ≡ true) where
  -- the owner lends to itself
  module _ (c : HandNow v n Read q d) (self : q ≡ d) (e : Entry) (is : seen e ≡ n) (same : SameBut (v.entries d) e) where
    same-owned : (s : ℕ) → owned (at v.entries d e s) ≡ owned (v.entries s)
    same-owned s = grind (arith, nat_tests, same.owned_same)

    same-copy : (s : ℕ) → is_copy (at v.entries d e s) ≡ is_copy (v.entries s)
    same-copy s = grind (arith, nat_tests, same.copy_same)

    same-readable : (s : ℕ) → readable (at v.entries d e s) ≡ readable (v.entries s)
    same-readable s = grind (arith, nat_tests, same.readable_same)

    same-writable : (s : ℕ) → writable (at v.entries d e s) ≡ writable (v.entries s)
    same-writable s = grind (arith, nat_tests, same.writable_same)

    same-bytes : (s : ℕ) → bytes (at v.entries d e s) ≡ bytes (v.entries s)
    same-bytes s = grind (arith, nat_tests, same.bytes_same)

    same-handed : (s m to : ℕ) (b : List ℕ) → at v.entries d e s ≡ Handed m to b → v.entries s ≡ Handed m to b
    same-handed s m to b w = grind (arith, nat_tests, same.not_handed m to b)

    pub meet-holds : Holds Now (with_entry_at v d e)
    meet-holds = record {
      met = in-limit Now v h n q d above own e is Read c;
      owner = λ s w. grind (arith, same-owned s, h.owner s, c.runs.is, c.owner, nat_tests);
      copy_other = λ s w. h.copy_other s (sym (same-copy s) ∙ w);
      copy = λ s w. grind (arith, nat_tests, same-copy s, h.copy s, h.copy_other s, c.owner);
      alone = λ s x w o. same-readable x ∙ h.alone s x (sym (same-writable s) ∙ w) o;
      now = λ s w. subst Now (sym (same-bytes s)) (h.now s (sym (same-readable s) ∙ w));
      handed = λ s m to b w l. absurd (not-handed Now v h n q d above own e is Read c s m to b (same-handed s m to b w) l);
      writer = λ p r m. absurd (grind (arith, c.runs.is, r.is));
      owner_first = λ kind p r m. met-here Now v h n q d above own e is Read c;
      copies_first = λ p r m. absurd (grind (arith, c.runs.is, r.is));
      nobody_else = λ p x r o m. absurd (grind (arith, c.runs.is, r.is));
      owner_lent = λ p r o m. absurd (grind (arith, c.runs.is, r.is, c.owner, self));
      cleared = λ kind p s r k. met-after Now v h n q d above own e is s (h.cleared kind p s r k);
      bounded = λ s w. h.bounded s (sym (same-readable s) ∙ w);
      owner_no_copy = h.owner_no_copy;
      kept = kept-here v d e c.owner (same.owned_same ∙ own);
    }

    meet-again : (m : ℕ) (k : Kind) (p : ℕ) → HandFits v m k p d → m ≡ seen e → IsAgain k p d e
    meet-again m k p f w =
        let runs : Runs v.book k p = f.runs Read q (w ∙ is ∙ c.number) c.runs in
        record { read = λ r o. grind (arith, runs.is, c.runs.is, self); to = λ r. grind (arith, runs.is, c.runs.is); write = λ r. grind (arith, runs.is, c.runs.is) }

    pub meet-fits : (from to : ℕ) (note : Note) → Fits Now v from to note → Fits Now (with_entry_at v d e) from to note
    meet-fits = keeps Now v h n q d above own e is Read c (λ m k p f w x. meet-again m k p f w)

  -- the owner becomes the writer
  module _ (c : HandNow v n Write q d) (self : q ≡ d) (b : List ℕ) (same : b ≡ bytes (v.entries d)) where
    alone-now : (x : ℕ) → x ≢ d → readable (v.entries x) ≡ true → ⊥
    alone-now x o w = grind (arith, nat_tests, h.owner x, h.copy x, h.copy_other x, h.bounded x, (c.all_met refl).met x, h.nobody_else q x c.runs, c.owner, c.runs.is, self, readable-is (v.entries x) w)

    pub keep-holds : Holds Now (with_entry_at v d (OwnWrite n b))
    keep-holds = record {
      met = in-limit Now v h n q d above own (OwnWrite n b) refl Write c;
      owner = λ s w. grind (arith, nat_tests, h.owner s, c.owner, c.runs.is, self);
      copy_other = λ s w. grind (arith, nat_tests, h.copy_other s);
      copy = λ s w. grind (arith, nat_tests, h.copy s);
      alone = λ s x w o. false_from_ne_true _ (λ r. grind (arith, nat_tests, alone-now x, h.alone s d, h.alone s x, own-readable Now v h n q d above own (v.entries d) own));
      now = λ s w. grind (arith, nat_tests, h.now s, now-here Now v h n q d above own, same);
      handed = λ s m to e w l. absurd (not-handed Now v h n q d above own (OwnWrite n b) refl Write c s m to e (grind (arith, nat_tests)) l);
      writer = λ p r m. grind (arith, nat_tests, c.runs.is, r.is, self);
      owner_first = λ kind p r m. met-here Now v h n q d above own (OwnWrite n b) refl Write c;
      copies_first = λ p r m. all_met-after v d (OwnWrite n b) (grows Now v h n q d above own (OwnWrite n b) refl) p (grind (arith, c.all_met refl, c.runs.is, r.is));
      nobody_else = λ p x r o m. grind (arith, nat_tests, h.nobody_else p x r o, c.runs.is, r.is, self);
      owner_lent = λ p r o m. absurd (grind (arith, c.runs.is, r.is));
      cleared = λ kind p s r k. met-after Now v h n q d above own (OwnWrite n b) refl s (h.cleared kind p s r k);
      bounded = λ s w. grind (arith, nat_tests, h.bounded s, h.bounded d (own-readable Now v h n q d above own (v.entries d) own));
      owner_no_copy = h.owner_no_copy;
      kept = kept-here v d (OwnWrite n b) c.owner refl;
    }

    keep-again : (m : ℕ) (k : Kind) (p : ℕ) → HandFits v m k p d → m ≡ n → IsAgain k p d (OwnWrite n b)
    keep-again m k p f e =
        let runs : Runs v.book k p = f.runs Write q (e ∙ c.number) c.runs in
        record { read = λ w o. grind (arith, runs.is, c.runs.is); to = λ w. grind (arith, runs.is, c.runs.is, self); write = λ w. refl }

    pub keep-fits : (from to : ℕ) (note : Note) → Fits Now v from to note → Fits Now (with_entry_at v d (OwnWrite n b)) from to note
    keep-fits = keeps Now v h n q d above own (OwnWrite n b) refl Write c (λ m k p f e w. keep-again m k p f e)
