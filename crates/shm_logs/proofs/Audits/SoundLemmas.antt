-- Logs with which nothing is wrong: their deliveries match, and their stamps rise.
use Rattle.std.proofs.Common.{◌≡◌, ◌≢◌, ℕ, zero, suc, ◌-◌, ◌<◌, Bool, true, false, List, Option, Some, None, ◌==◌, if◌then◌else◌, length, refl, sym, ap, ◌∙◌, subst, arith, slice_get, slice_index_or}
use Rattle.std.specs.List.{AllPairs}
use Rattle.std.proofs.lemmas.Bool.Decides.{nat_tests}
use Rattle.std.proofs.lemmas.Option.{slice_get-get_or}
use Rattle.shm_model.specs.Log.{log_of, IsSentBefore, Logged, LogsMatch, Matches}
use Rattle.shm_model.specs.Message.{Begin, Deliver, Envelope, Input, Load, Restart, Store, Tick}
use Rattle.shm_logs.specs.Auditing.Cause.{step_before, AllSound, HasSent, IsAbove, IsAboveSender, IsSent}

sent-before : (logs : List (List Logged)) (l : Logged) (e : Envelope) (o : Option Logged) → slice_get (log_of logs e.from) l.source.index ≡ o
    → HasSent o l.source.place e → IsAbove o l.stamp → IsSentBefore logs l e
sent-before logs l e None named sent above = absurd sent
sent-before logs l e (Some k) named sent above = record { sender = k; named = named; placed = sent; later = above }

matches-so : (logs : List (List Logged)) (l : Logged) (input : Input) → IsSent logs l input → IsAboveSender logs l input → Matches logs l input
matches-so logs l (Load a offset) sent above = tt
matches-so logs l (Store a offset byte) sent above = tt
matches-so logs l (Begin request) sent above = tt
matches-so logs l (Deliver e) sent above = sent-before logs l e (slice_get (log_of logs e.from) l.source.index) refl sent above
matches-so logs l Tick sent above = tt
matches-so logs l Restart sent above = tt

pub sound-match : (logs : List (List Logged)) → AllSound logs → LogsMatch logs
sound-match logs sound s j d b =
    let l = slice_index_or (log_of logs s) j d in
    let here = sound s j l (slice_get-get_or (log_of logs s) j d b) in
    matches-so logs l l.input here.sent here.above

-- each step's stamp is above that of the step before
above-before : (logs : List (List Logged)) (s k : ℕ) (d : Logged) → AllSound logs → suc k < length (log_of logs s)
    → (slice_index_or (log_of logs s) k d).stamp < (slice_index_or (log_of logs s) (suc k) d).stamp
above-before logs s k d sound b =
    let log = log_of logs s in
    let here = sound s (suc k) (slice_index_or log (suc k) d) (slice_get-get_or log (suc k) d b) in
    let same : suc k - 1 ≡ k = omega arith in
    let later : (suc k == 0) ≡ false = grind (arith, nat_tests) in
    let before : step_before log (suc k) ≡ Some (slice_index_or log k d) =
    ap (λ (b : Bool). if b then None else slice_get log (suc k - 1)) later ∙ ap (slice_get log) same ∙ slice_get-get_or log k d (omega arith) in
    subst (λ o. IsAbove o (slice_index_or log (suc k) d).stamp) before here.rises

pairs-rise : (logs : List (List Logged)) (s : ℕ) (d : Logged) → AllSound logs → (i j : ℕ) (same : Bool) → i < suc j → (i == j) ≡ same → suc j < length (log_of logs s)
    → (slice_index_or (log_of logs s) i d).stamp < (slice_index_or (log_of logs s) (suc j) d).stamp
pairs-rise logs s d sound i j true a e b =
    let ij : i ≡ j = grind (arith, nat_tests) in
    subst (λ k. (slice_index_or (log_of logs s) k d).stamp < (slice_index_or (log_of logs s) (suc j) d).stamp) (sym ij) (above-before logs s j d sound b)
pairs-rise logs s d sound i zero false a e b = let ij : i ≢ 0 = λ h. grind (arith, nat_tests) in absurd (omega arith)
pairs-rise logs s d sound i (suc j) false a e b =
    let ij : i ≢ suc j = λ h. grind (arith, nat_tests) in
    let first = pairs-rise logs s d sound i j (i == j) (omega arith) refl (omega arith) in
    let second = above-before logs s (suc j) d sound b in
    omega arith

pub sound-rise : (logs : List (List Logged)) → AllSound logs → (s : ℕ) → AllPairs (λ l m. l.stamp < m.stamp) (log_of logs s)
sound-rise logs sound s i zero d a b = absurd (omega arith)
sound-rise logs sound s i (suc j) d a b = pairs-rise logs s d sound i j (i == j) a refl b
