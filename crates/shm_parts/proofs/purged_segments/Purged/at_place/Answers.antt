use Rattle.std.proofs.Common.{◌∙◌, ap, sym}
use Rattle.std.proofs.lemmas.Option.{slice_get-map}
use Rattle.std.specs.Option.{option_map}
use Rattle.shm_parts.proofs.purged_segments.Purged.at_place.Goals as goal

pub returns-in_default : goal.returns-in_default
returns-in_default g c = ap (option_map (λ e. e.0)) c.in_default.ensures.entry ∙ sym (slice_get-map (λ e. e.0) c.args.self.now.map.entries c.args.place)

pub returns : goal.returns
returns g c = ap (option_map (λ e. e.0)) c.in-Some.ensures.entry ∙ sym (slice_get-map (λ e. e.0) c.args.self.now.map.entries c.args.place)
