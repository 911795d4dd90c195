-- What is said to a line that asks no site for anything.
use Rattle.std.specs.Prelude.{ℕ, List, ◌++◌, codes}
use Rattle.std.specs.Fmt.{decimal}
use Rattle.shm_debug.specs.declared.non_event_answer.Notice.{Notice}
use Rattle.shm_debug.specs.declared.non_event_answer.Notice.TheVariants as notice

abbrev pub notice_text : Notice → List ℕ
notice_text notice.Ready = codes "ready"
notice_text (notice.Back left) = codes "back " ++ decimal left
notice_text notice.PastBeginning = codes "refused 28"
