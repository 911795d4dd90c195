use Rattle.std.proofs.Common.{◌≡◌}
use Rattle.std.specs.List.{list_all}
use Rattle.std.specs.Str.{chars, IsUtf8}
use Rattle.shm_draw.specs.Captions
use Rattle.shm_prompt.proofs.note_text.may_stand.Given as goal

abbrev pub invariant-chars : goal.invariant-chars
invariant-chars l =
    (goal.iterator-chars).can_next l.rest × (goal.iterator-chars).is_finite l.rest × IsUtf8 l.rest.rest.now
    × (list_all Captions.may_stand (chars l.text) ≡ list_all Captions.may_stand (chars l.rest.rest.now))
