use Rattle.std.proofs.Common.{◌==◌, sym, ap, ◌∙◌, []}
use Rattle.std.specs.Option.{option_map_or}
use Rattle.shm_lines.specs.Words.{is_end, words_of}
use Rattle.shm_lines.proofs.WordLemmas.{is_end-parts}
use Rattle.shm_lines.proofs.split_words.Words.is_empty.Goals as goal

pub returns-in-Some : goal.returns-in-Some
returns-in-Some c = sym (ap is_end (sym c.self.view_is) ∙ ap (λ rest. is_end (option_map_or (λ r. words_of r.now) rest [])) c.in-Some.is ∙ is_end-parts (λ byte. byte == 32) c.in-Some.field-0.now)
