-- How many lines a desk didn't open, by their causes.
use Rattle.std.specs.Prelude.{ℕ}
use Rattle.shm_process.specs.Waiting.{counted}
use Rattle.shm_seal.specs.declared.open_line_error.Unsealed.{Unsealed}
use Rattle.shm_seal.specs.declared.open_line_error.Unsealed.TheVariants.{OtherCluster, NoDigest, WrongDigest}

pub record Unopened : Type 0 where
  pub other_cluster : ℕ
  pub no_digest : ℕ
  pub wrong_digest : ℕ

abbrev pub none_unopened : Unopened
none_unopened = record { other_cluster = 0; no_digest = 0; wrong_digest = 0 }

abbrev pub one_unopened : Unsealed → Unopened → Unopened
one_unopened OtherCluster counts = record counts { other_cluster = counted counts.other_cluster }
one_unopened NoDigest counts = record counts { no_digest = counted counts.no_digest }
one_unopened WrongDigest counts = record counts { wrong_digest = counted counts.wrong_digest }
