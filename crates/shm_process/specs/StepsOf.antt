-- Steps of a recorded line that are still to be made, of the code, as the definitions speak of them.
use Rattle.std.specs.Prelude.{◌+◌, List, [], ◌∷◌, drop}
use Rattle.shm_wire.specs.TagOf.{tag_text}
use Rattle.shm_wire.specs.UnmapOf.{unmap_in}
use Rattle.shm_process.specs.Cause.{Cause}
use Rattle.shm_process.specs.CauseOf.{cause_of}
use Rattle.shm_process.specs.Causes.{loads, stores}
use Rattle.shm_process.specs.RunsLeft.{unmap_rest}
use Rattle.shm_process.specs.declared.loads_left.LoadsLeft.{LoadsLeft}
use Rattle.shm_process.specs.declared.recorded_steps.Rest.{Rest}
use Rattle.shm_process.specs.declared.recorded_steps.Rest.TheVariants as code
use Rattle.shm_process.specs.declared.recorded_steps.Steps.{Steps}
use Rattle.shm_process.specs.declared.stores_left.StoresLeft.{StoresLeft}
use Rattle.shm_process.specs.declared.unmap_left.UnmapLeft.{UnmapLeft}

abbrev pub loads_left : LoadsLeft → List Cause
loads_left left = loads left.site (tag_text left.tag) left.at left.offset left.count

abbrev pub stores_left : {A : Type 0} → StoresLeft A → List Cause
stores_left left =
    stores left.write.site (tag_text left.write.tag) left.write.at (left.write.offset + left.made) (drop left.made left.write.bytes.items)

abbrev pub unmap_left : {A : Type 0} → UnmapLeft A → List Cause
unmap_left left = unmap_rest (unmap_in left.ask) left.made (drop left.run (unmap_in left.ask).runs)

abbrev pub rest_left : {A : Type 0} → Rest A → List Cause
rest_left code.Nothing = []
rest_left (code.One cause) = cause_of cause ∷ []
rest_left (code.Loads left) = loads_left left
rest_left (code.Stores left) = stores_left left
rest_left (code.Unmap left) = unmap_left left

abbrev pub steps_left : {A : Type 0} → Steps A → List Cause
steps_left steps = rest_left steps.rest
