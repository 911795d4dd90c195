-- The definitions compute each answer.
use Rattle.std.proofs.Common.{refl}
use Rattle.shm_model.specs.Book.{awaited}
use Rattle.shm_model.specs.Site.{blank, is_attached, least_free}
use Rattle.shm_laws.specs.Rows.Invented

pub invented_envelopes : Invented.AllAnswered Invented.invented_envelopes
unfolding Invented.AllAnswered blank awaited least_free is_attached
invented_envelopes = refl

pub invented_later : Invented.AllAnswered Invented.invented_later
unfolding Invented.AllAnswered blank awaited least_free is_attached
invented_later = refl
