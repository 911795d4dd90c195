-- Each message to an entry keeps the invariant, and what it sends fits.
use Rattle.std.proofs.Common.{◌≡◌, ◌≢◌, ℕ, ◌<◌, ◌≤◌, ◌⊎◌, inl, inr, Bool, true, false, not, ◌&&◌, ◌==◌, nat_lt, nat_le, if◌then◌else◌, Option, Some, None, List, arith, refl, sym, ◌∙◌, ap, subst}
use Rattle.std.proofs.lemmas.Bool.{cases_eq, cases_lt, false_from_ne_true}
use Rattle.std.proofs.lemmas.Bool.Decides.{nat_tests}
use Rattle.shm_model.specs.declared.request_kind.Kind.{Kind}
use Rattle.shm_model.specs.declared.request_kind.Kind.TheVariants.{Read, Write}
use Rattle.shm_model.specs.Entry.{Entry, Out, Nothing, ToManager, ToSite, handed_to, installed, on_clear, on_hand, on_page, Nil, Copy, OwnRead, OwnWrite, Handed, Note, Clear, Cleared, Page, Confirm, bytes, meet, owned, seen, writable}
use Rattle.shm_model.specs.Book.{Running, max_sites}
use Rattle.shm_model.specs.Basics.{at}
use Rattle.shm_laws.proofs.Page.View.{View, InFlight, Holds, ClearRuns, HandFits, Fits, with_entry_at}
use Rattle.shm_laws.proofs.Page.Entry.{at-here, false-true}
use Rattle.std.proofs.Math.Path.{fun_ext}
use Rattle.shm_laws.proofs.Page.Clear.{clear-fits, clear-holds}
use Rattle.shm_laws.proofs.Page.Hand.{HandNow, hand-now, hand-running, lend-fits, lend-holds, lend-page, own-readable-of, read-is-not-write}
use Rattle.shm_laws.proofs.Page.Keep.{keep-fits, keep-holds, meet-fits, meet-holds, same-meet, seen-meet}
use Rattle.shm_laws.proofs.Page.HandOver.{hand_over-fits, hand_over-holds, hand_over-page}
use Rattle.shm_laws.proofs.Page.Install.{read-fits, read-holds, write-fits, write-holds}

abbrev pub OutFits : (List ℕ → Type 0) → View → ℕ → Out → Type 0
OutFits Now v d Nothing = Unit {0}
OutFits Now v d (ToManager note) = (m : ℕ) → Fits Now v d m note
OutFits Now v d (ToSite to note) = Fits Now v d to note

-- what a row of d's entry leaves, where it isn't ignored
pub data RowFits (Now : List ℕ → Type 0) (v : View) (d : ℕ) : Entry × Out → Type 0 where
  row_ignored : (e : Entry) → RowFits Now v d (e, Nothing)
  row_taken : (e : Entry) (out : Out) → Holds Now (with_entry_at v d e) → ((from to : ℕ) (note : Note) → Fits Now v from to note → Fits Now (with_entry_at v d e) from to note)
      → OutFits Now (with_entry_at v d e) d out → RowFits Now v d (e, out)

at-same : (f : ℕ → Entry) (d s : ℕ) → at f d (f d) s ≡ f s
at-same f d s = at-same-of f d s (cases_eq d s)
  where
    at-same-of : (f : ℕ → Entry) (d s : ℕ) → (d ≡ s) ⊎ (d ≢ s) → at f d (f d) s ≡ f s
    at-same-of f d s (inl same) = subst (λ x. at f d (f d) x ≡ f x) same (at-here f d (f d))
    at-same-of f d s (inr other) = grind (arith, nat_tests)

-- an entry that is put where it stands changes nothing
view-same : (v : View) (d : ℕ) (e : Entry) → v.entries d ≡ e → with_entry_at v d e ≡ v
view-same v d e is =
    let entries : at v.entries d e ≡ v.entries = fun_ext (λ s. subst (λ x. at v.entries d x s ≡ v.entries s) is (at-same v.entries d s)) in
    ap (λ f. record v { entries = f }) entries

stays : (Now : List ℕ → Type 0) (v : View) (d : ℕ) (e : Entry) (out : Out) → Holds Now v → v.entries d ≡ e → OutFits Now v d out → RowFits Now v d (e, out)
stays Now v d e out h is f =
    let same : with_entry_at v d e ≡ v = view-same v d e is in
    row_taken e out (subst (Holds Now) (sym same) h) (λ from to note x. subst (λ w. Fits Now w from to note) (sym same) x) (subst (λ w. OutFits Now w d out) (sym same) f)

module _ (Now : List ℕ → Type 0) (v : View) (h : Holds Now v) (d : ℕ) where
  -- a Clear
  clear-new : (n : ℕ) → seen (v.entries d) < n → owned (v.entries d) ≡ false → (n ≤ seen (v.entries d)) ⊎ ClearRuns v n d → RowFits Now v d (Nil n, ToManager (Cleared n))
  clear-new n above free (inl old) = absurd (omega arith)
  clear-new n above free (inr c) =
      row_taken (Nil n) (ToManager (Cleared n)) (clear-holds Now v h n d above free c) (clear-fits Now v h n d above free c) (λ m. rw (at-here v.entries d (Nil n)) (omega arith))

  clear-row : (n : ℕ) → Fits Now v 0 d (Clear n) → (old own : Bool) → nat_le n (seen (v.entries d)) ≡ old → owned (v.entries d) ≡ own
      → RowFits Now v d (if old then (v.entries d, ToManager (Cleared n)) else if own then (v.entries d, Nothing) else (Nil n, ToManager (Cleared n)))
  clear-row n f true own e o = stays Now v d (v.entries d) (ToManager (Cleared n)) h refl (λ m. grind (arith, nat_tests))
  clear-row n f false true e o = row_ignored (v.entries d)
  clear-row n f false false e o = clear-new n (grind (arith, nat_tests)) o f

  pub clear-keeps : (n : ℕ) → Fits Now v 0 d (Clear n) → RowFits Now v d (on_clear n (v.entries d))
  clear-keeps n f = clear-row n f (nat_le n (seen (v.entries d))) (owned (v.entries d)) refl refl

  -- a Page
  page-new : (n : ℕ) (kind : Kind) (b : List ℕ) → d < max_sites → seen (v.entries d) < n → (n ≤ seen (v.entries d)) ⊎ InFlight Now v n kind d b
      → RowFits Now v d (installed kind n b, ToManager (Confirm n))
  page-new n kind b small above (inl old) = absurd (omega arith)
  page-new n Read b small above (inr f) =
      row_taken (Copy n b) (ToManager (Confirm n)) (read-holds Now v h n d b above small f) (read-fits Now v h n d b above small f) (λ m. rw (at-here v.entries d (Copy n b)) (omega arith))
  page-new n Write b small above (inr f) =
      row_taken (OwnWrite n b) (ToManager (Confirm n)) (write-holds Now v h n d b above small f) (write-fits Now v h n d b above small f) (λ m. rw (at-here v.entries d (OwnWrite n b)) (omega arith))

  page-row : (n : ℕ) (kind : Kind) (b : List ℕ) → d < max_sites → Fits Now v 0 d (Page n kind b) → (old same own : Bool)
      → nat_lt n (seen (v.entries d)) ≡ old → (n == seen (v.entries d)) ≡ same
      → RowFits Now v d (if old then (v.entries d, Nothing) else if same then (v.entries d, ToManager (Confirm n)) else if own then (v.entries d, Nothing) else (installed kind n b, ToManager (Confirm n)))
  page-row n kind b small f true same own e s = row_ignored (v.entries d)
  page-row n kind b small f false true own e s = stays Now v d (v.entries d) (ToManager (Confirm n)) h refl (λ m. grind (arith, nat_tests))
  page-row n kind b small f false false true e s = row_ignored (v.entries d)
  page-row n kind b small f false false false e s = page-new n kind b small (grind (arith, nat_tests)) f

  pub page-keeps : (n : ℕ) (kind : Kind) (b : List ℕ) → d < max_sites → Fits Now v 0 d (Page n kind b) → RowFits Now v d (on_page n kind b (v.entries d))
  page-keeps n kind b small f = page-row n kind b small f (nat_lt n (seen (v.entries d))) (n == seen (v.entries d)) (owned (v.entries d)) refl refl

  -- a Hand that is handed over again is old, or the running transaction's
  hand-when-runs : (n : ℕ) (kind : Kind) (q : ℕ) → HandFits v n kind q d → n ≡ v.book.number → (running : Option Running) → v.book.running ≡ running → (n ≤ seen (v.entries q)) ⊎ HandNow v n kind q d
  hand-when-runs n kind q f e None idle = inl (f.old_requester (inr idle))
  hand-when-runs n kind q f e (Some run) is = inr (hand-running v n kind q d f e (Some run) is (λ i. some-none run (sym is ∙ i)))
    where
      some-none : (run : Running) → Some run ≡ None → ⊥
      some-none run e = cc

  hand-when : (n : ℕ) (kind : Kind) (q : ℕ) → HandFits v n kind q d → (n < v.book.number) ⊎ (v.book.number ≤ n) → (n ≤ seen (v.entries q)) ⊎ HandNow v n kind q d
  hand-when n kind q f (inl less) = inl (f.old_requester (inl less))
  hand-when n kind q f (inr more) = hand-when-runs n kind q f (grind (arith, f.le)) v.book.running refl

  own-read : (e : Entry) → owned e ≡ true → writable e ≡ false → OwnRead (seen e) (bytes e) ≡ e
  own-read (Nil m) o w = absurd (false-true o)
  own-read (Copy m b) o w = absurd (false-true o)
  own-read (OwnRead m b) o w = refl
  own-read (OwnWrite m b) o w = absurd (false-true (sym w))
  own-read (Handed m to b) o w = absurd (false-true o)

  own-write : (e : Entry) → writable e ≡ true → OwnWrite (seen e) (bytes e) ≡ e
  own-write (Nil m) w = absurd (false-true w)
  own-write (Copy m b) w = absurd (false-true w)
  own-write (OwnRead m b) w = absurd (false-true w)
  own-write (OwnWrite m b) w = refl
  own-write (Handed m to b) w = absurd (false-true w)

  own-meet : (e : Entry) → owned e ≡ true → meet (seen e) e ≡ e
  own-meet (Nil m) w = absurd (false-true w)
  own-meet (Copy m b) w = absurd (false-true w)
  own-meet (OwnRead m b) w = refl
  own-meet (OwnWrite m b) w = refl
  own-meet (Handed m to b) w = absurd (false-true w)

  -- the owner has met the number, and lends the same copy again
  lend-again : (n q : ℕ) → HandFits v n Read q d → n ≡ seen (v.entries d) → owned (v.entries d) ≡ true → q ≢ d → (n ≤ seen (v.entries q)) ⊎ HandNow v n Read q d
      → (n ≤ seen (v.entries q)) ⊎ InFlight Now v n Read q (bytes (v.entries d))
  lend-again n q f e own other (inl old) = inl old
  lend-again n q f e own other (inr c) = inr (record {
    runs = c.runs;
    number = c.number;
    other = λ x. other (x ∙ sym c.owner);
    met = grind (arith, c.number, c.owner);
    now = h.now d (own-readable-of (v.entries d) own);
    unwritable = λ s. false_from_ne_true _ (λ w. lone s w (cases_eq s d));
    unreadable = λ w. absurd (read-is-not-write w);
    all_met = λ w. absurd (read-is-not-write w);
  })
    where
      lone : (s : ℕ) → writable (v.entries s) ≡ true → (s ≡ d) ⊎ (s ≢ d) → ⊥
      lone s w (inl here) = false-true (sym (f.again_read refl e own other) ∙ subst (λ x. writable (v.entries x) ≡ true) here w)
      lone s w (inr there) = false-true (sym (h.alone s d w there) ∙ own-readable-of (v.entries d) own)

  lend-row : (n q : ℕ) → HandFits v n Read q d → owned (v.entries d) ≡ true → q ≢ d → (seen (v.entries d) < n) ⊎ (n ≡ seen (v.entries d))
      → RowFits Now v d (OwnRead n (bytes (v.entries d)), ToSite q (Page n Read (bytes (v.entries d))))
  lend-row n q f own other (inl above) =
      let c : HandNow v n Read q d = hand-now v n Read q d f above in
      row_taken _ _ (lend-holds Now v h n q d above own c other) (lend-fits Now v h n q d above own c other) (inr (lend-page Now v h n q d above own c other))
  lend-row n q f own other (inr e) =
      let is : v.entries d ≡ OwnRead n (bytes (v.entries d)) = sym (own-read (v.entries d) own (f.again_read refl e own other)) ∙ ap (λ k. OwnRead k (bytes (v.entries d))) (sym e) in
      stays Now v d _ _ h is (lend-again n q f e own other (hand-when n Read q f (cases_lt n v.book.number)))

  meet-row : (n q : ℕ) → HandFits v n Read q d → owned (v.entries d) ≡ true → q ≡ d → (seen (v.entries d) < n) ⊎ (n ≡ seen (v.entries d))
      → RowFits Now v d (meet n (v.entries d), ToManager (Confirm n))
  meet-row n q f own self (inl above) =
      let c : HandNow v n Read q d = hand-now v n Read q d f above in
      let is : seen (meet n (v.entries d)) ≡ n = seen-meet n (v.entries d) own in
      row_taken _ _ (meet-holds Now v h n q d above own c self (meet n (v.entries d)) is (same-meet n (v.entries d) own))
      (meet-fits Now v h n q d above own c self (meet n (v.entries d)) is (same-meet n (v.entries d) own))
      (λ m. rw (at-here v.entries d (meet n (v.entries d)), is) (omega arith))
  meet-row n q f own self (inr e) =
      let is : v.entries d ≡ meet n (v.entries d) = sym (own-meet (v.entries d) own) ∙ ap (λ k. meet k (v.entries d)) (sym e) in
      stays Now v d _ _ h is (λ m. omega (arith, e))

  above-or-same : (n m : ℕ) → nat_lt n m ≡ false → (m < n) ⊎ (n ≡ m)
  above-or-same n m e = grind (arith, nat_tests)

  read-row : (n q : ℕ) → HandFits v n Read q d → (old own self : Bool) → nat_lt n (seen (v.entries d)) ≡ old → owned (v.entries d) ≡ own → (q == d) ≡ self
      → RowFits Now v d (if old then (v.entries d, Nothing) else if not own then (v.entries d, Nothing)
      else if self then (meet n (v.entries d), ToManager (Confirm n)) else (OwnRead n (bytes (v.entries d)), ToSite q (Page n Read (bytes (v.entries d)))))
  read-row n q f true own self e o s = row_ignored (v.entries d)
  read-row n q f false false self e o s = row_ignored (v.entries d)
  read-row n q f false true true e o s = meet-row n q f o (grind (arith, nat_tests)) (above-or-same n (seen (v.entries d)) e)
  read-row n q f false true false e o s = lend-row n q f o (λ x. grind (arith, nat_tests)) (above-or-same n (seen (v.entries d)) e)

  keep-row : (n q : ℕ) → HandFits v n Write q d → owned (v.entries d) ≡ true → q ≡ d → (seen (v.entries d) < n) ⊎ (n ≡ seen (v.entries d))
      → RowFits Now v d (OwnWrite n (bytes (v.entries d)), ToManager (Confirm n))
  keep-row n q f own self (inl above) =
      let c : HandNow v n Write q d = hand-now v n Write q d f above in
      row_taken _ _ (keep-holds Now v h n q d above own c self (bytes (v.entries d)) refl) (keep-fits Now v h n q d above own c self (bytes (v.entries d)) refl)
      (λ m. rw (at-here v.entries d (OwnWrite n (bytes (v.entries d)))) (omega arith))
  keep-row n q f own self (inr e) =
      let is : v.entries d ≡ OwnWrite n (bytes (v.entries d)) = sym (own-write (v.entries d) (f.again_write refl e own)) ∙ ap (λ k. OwnWrite k (bytes (v.entries d))) (sym e) in
      stays Now v d _ _ h is (λ m. omega (arith, e))

  hand_over-row : (n q : ℕ) → HandFits v n Write q d → owned (v.entries d) ≡ true → q ≢ d → seen (v.entries d) < n
      → RowFits Now v d (Handed n q (bytes (v.entries d)), ToSite q (Page n Write (bytes (v.entries d))))
  hand_over-row n q f own other above =
      let c : HandNow v n Write q d = hand-now v n Write q d f above in
      row_taken _ _ (hand_over-holds Now v h n q d above own c other (bytes (v.entries d)) refl) (hand_over-fits Now v h n q d above own c other (bytes (v.entries d)) refl)
      (inr (hand_over-page Now v h n q d above own c other (bytes (v.entries d)) refl))

  was-handed : (q : ℕ) (e : Entry) → handed_to q e ≡ true → e ≡ Handed (seen e) q (bytes e)
  was-handed q (Nil m) w = absurd (false-true w)
  was-handed q (Copy m b) w = absurd (false-true w)
  was-handed q (OwnRead m b) w = absurd (false-true w)
  was-handed q (OwnWrite m b) w = absurd (false-true w)
  was-handed q (Handed m to b) w = let same : to ≡ q = grind (arith, nat_tests) in ap (λ k. Handed m k b) same

  again-page : (n q : ℕ) → n ≡ seen (v.entries d) → v.entries d ≡ Handed n q (bytes (v.entries d)) → (seen (v.entries q) < n) ⊎ (n ≤ seen (v.entries q))
      → (n ≤ seen (v.entries q)) ⊎ InFlight Now v n Write q (bytes (v.entries d))
  again-page n q e is (inl behind) = inr (h.handed d n q (bytes (v.entries d)) is behind)
  again-page n q e is (inr old) = inl old

  again-row : (n q : ℕ) → handed_to q (v.entries d) ≡ true → n ≡ seen (v.entries d) → RowFits Now v d (v.entries d, ToSite q (Page n Write (bytes (v.entries d))))
  again-row n q w e =
      let is : v.entries d ≡ Handed n q (bytes (v.entries d)) = was-handed q (v.entries d) w ∙ ap (λ k. Handed k q (bytes (v.entries d))) (sym e) in
      stays Now v d (v.entries d) _ h refl (again-page n q e is (cases_lt (seen (v.entries q)) n))

  write-row : (n q : ℕ) → HandFits v n Write q d → (old own self above handed same : Bool)
      → nat_lt n (seen (v.entries d)) ≡ old → owned (v.entries d) ≡ own → (q == d) ≡ self → nat_lt (seen (v.entries d)) n ≡ above → handed_to q (v.entries d) ≡ handed → (n == seen (v.entries d)) ≡ same
      → RowFits Now v d (if old then (v.entries d, Nothing)
      else if own && self then (OwnWrite n (bytes (v.entries d)), ToManager (Confirm n))
      else if own && above then (Handed n q (bytes (v.entries d)), ToSite q (Page n Write (bytes (v.entries d))))
      else if handed && same then (v.entries d, ToSite q (Page n Write (bytes (v.entries d)))) else (v.entries d, Nothing))
  write-row n q f true own self above handed same e o s a w k = row_ignored (v.entries d)
  write-row n q f false true true above handed same e o s a w k = keep-row n q f o (grind (arith, nat_tests)) (above-or-same n (seen (v.entries d)) e)
  write-row n q f false true false true handed same e o s a w k = hand_over-row n q f o (λ x. grind (arith, nat_tests)) (grind (arith, nat_tests))
  write-row n q f false true false false true true e o s a w k = again-row n q w (grind (arith, nat_tests))
  write-row n q f false true false false true false e o s a w k = row_ignored (v.entries d)
  write-row n q f false true false false false same e o s a w k = row_ignored (v.entries d)
  write-row n q f false false self above true true e o s a w k = again-row n q w (grind (arith, nat_tests))
  write-row n q f false false self above true false e o s a w k = row_ignored (v.entries d)
  write-row n q f false false self above false same e o s a w k = row_ignored (v.entries d)

  pub hand-keeps : (n : ℕ) (kind : Kind) (q : ℕ) → HandFits v n kind q d → RowFits Now v d (on_hand d n kind q (v.entries d))
  hand-keeps n Read q f = read-row n q f (nat_lt n (seen (v.entries d))) (owned (v.entries d)) (q == d) refl refl refl
  hand-keeps n Write q f = write-row n q f (nat_lt n (seen (v.entries d))) (owned (v.entries d)) (q == d) (nat_lt (seen (v.entries d)) n) (handed_to q (v.entries d)) (n == seen (v.entries d)) refl refl refl refl refl refl
