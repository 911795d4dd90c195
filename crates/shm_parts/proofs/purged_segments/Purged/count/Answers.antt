use Rattle.std.proofs.Common.{◌==◌, ◌∙◌, ℕ, sym}
use Rattle.std.proofs.Math.Path.{fun_ext}
use Rattle.std.proofs.lemmas.Map.Entries.{length-keys_of}
use Rattle.std.proofs.lemmas.Map.Made.{is_some-lookup}
use Rattle.shm_parts.proofs.purged_segments.Purged.count.Goals as goal

pub returns-clause-count : goal.returns-clause-count
returns-clause-count g c = c.len.ensures.len ∙ sym (length-keys_of c.args.self.now.map.entries)

pub returns-clause-listed : goal.returns-clause-listed
returns-clause-listed g c = fun_ext (λ (id : ℕ). is_some-lookup (λ (key : ℕ). id == key) c.args.self.now.map.entries)
