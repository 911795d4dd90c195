-- How far an audit has read a journal, as the definitions speak of it.
use Rattle.std.specs.Prelude.{◌≡◌, Bool, true, false}
use Rattle.shm_logs.specs.Boxes.Box.{Box}
use Rattle.shm_logs.specs.Boxes.SiteBox.{box_of}
use Rattle.shm_audit.specs.Found.{Reading, Log, Cut}
use Rattle.shm_audit.specs.declared.box_replay.Audited.{Audited}

abbrev pub reading_at : Bool → Box → Reading
reading_at true box = Cut
reading_at false box = Log box

abbrev pub reading_of : {A : Type 0} → Audited A → Reading
reading_of site = reading_at site.begins_with_state (box_of site.site_box)

abbrev pub Stands : {A : Type 0} → Audited A → Reading → Type 0
Stands site reading = reading_of site ≡ reading
