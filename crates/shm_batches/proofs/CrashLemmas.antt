-- What a crash leaves of batches is what it leaves of their lines.
use Rattle.std.proofs.Common.{◌≡◌, ℕ, List, [], ◌∷◌, ◌++◌, length, take, drop, refl, ap, sym, ◌∙◌, append-nil}
use Rattle.std.specs.List.{All, concat}
use Rattle.std.proofs.lemmas.List.{take-append-drop}
use Rattle.std.proofs.lemmas.List.Folds.{concat-append}
use Rattle.std.proofs.Math.Seq.{take-append_seam}
use Rattle.shm_batches.proofs.WrittenLemmas.{written_reads}
use Rattle.shm_batches.specs.BatchCrash.{Disk, LeavesBatches, MayLeaveFile, after_act, after_acts, in_lines}
use Rattle.shm_batches.specs.Whole.{whole_batches}
use Rattle.shm_batches.specs.Written.{IsBatch}
use Rattle.shm_journal.specs.Acts.{Act, Append, Read, Sync, Tell}
use Rattle.shm_journal.specs.Crash as journal

-- the first batches are a front of the lines
fronts-lines : (n : ℕ) (texts : List (List ℕ)) → (k : ℕ) × (concat (take n texts) ≡ take k (concat texts))
fronts-lines n texts =
    let front = concat (take n texts) in
    let rest = concat (drop n texts) in (
      length front,
      sym (ap (take (length front)) (ap concat (sym (take-append-drop n texts)) ∙ concat-append (take n texts) (drop n texts)) ∙ take-append_seam front rest),
    )

pub leaves_batches : (disk : Disk) (file : List ℕ) → All IsBatch disk.durable → MayLeaveFile disk file → LeavesBatches disk file
leaves_batches disk file are may =
    let n = may.unforged.count in
    let whole : whole_batches file ≡ disk.durable ++ take n disk.loose =
    ap whole_batches may.bytes ∙ written_reads disk.durable may.tail are ∙ ap (λ w. disk.durable ++ w) may.unforged.appended in
    let front = fronts-lines n disk.loose in
    record {
      count = n;
      whole = whole;
      lines = (front.0, ap concat whole ∙ concat-append disk.durable (take n disk.loose) ∙ ap (λ l. concat disk.durable ++ l) front.1);
    }

-- ---- act by act

act-lines : (disk : Disk) (act : Act) → in_lines (after_act disk act) ≡ journal.after_act (in_lines disk) act
act-lines disk (Read bytes) = refl
act-lines disk (Append text) =
    ap (λ l. record { durable = concat disk.durable; loose = l }) (concat-append disk.loose (text ∷ []) ∙ ap (λ t. concat disk.loose ++ t) (append-nil text))
act-lines disk Sync = ap (λ d. record { durable = d; loose = [] }) (concat-append disk.durable disk.loose)
act-lines disk (Tell text) = refl

pub acts_lines : (acts : List Act) (disk : Disk) → in_lines (after_acts disk acts) ≡ journal.after_acts (in_lines disk) acts
unfolding after_acts journal.after_acts
acts_lines [] disk = refl
acts_lines (act ∷ acts) disk = acts_lines acts (after_act disk act) ∙ ap (λ d. journal.after_acts d acts) (act-lines disk act)
