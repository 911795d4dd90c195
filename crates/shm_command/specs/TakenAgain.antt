-- What a site took again of its journal, and how it is told.
use Rattle.std.specs.Prelude.{◌≡◌, ℕ, List, ◌++◌, codes, Option, IfSome}
use Rattle.std.specs.Fmt.{decimal}
use Rattle.shm_journal.specs.Found.{Sound, found}
use Rattle.shm_journal.specs.Lines.{Header}
use Rattle.shm_process.specs.Node.{Node}
use Rattle.shm_command.specs.declared.replayed_steps_notice.TakenAgain.{TakenAgain}

abbrev pub again_text : TakenAgain → List ℕ
again_text again =
    codes "journal: steps taken again: " ++ (decimal again.steps ++ (codes ", clock: " ++ (decimal again.clock
    ++ (codes ", batches: " ++ (decimal again.batches ++ (codes ", cut off " ++ (decimal again.torn ++ codes " bytes that were never durable")))))))

-- the steps that this journal led through, and the clock to which they led; what was cut off is known of the file alone
pub record IsTakenAgain (header : Header) (remaining : Option (List ℕ)) (again : TakenAgain) : Type 0 where
  pub journal : List ℕ
  pub known : IfSome remaining (λ known. journal ≡ known)
  pub node : Node
  pub sound : found header journal ≡ Sound node
  pub steps : again.steps ≡ node.steps
  pub clock : again.clock ≡ node.clock
