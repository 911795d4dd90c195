-- Logged steps, as the definitions speak of them.
use Rattle.std.specs.Prelude.{map}
use Rattle.shm_model.specs.Log as model
use Rattle.shm_parts.specs.Message.{envelope_of}
use Rattle.shm_site.specs.Step.{input_of}
use Rattle.shm_logs.specs.declared.site_boxes.sending_stamp.Stamp.{Stamp}
use Rattle.shm_logs.specs.declared.site_boxes.logged_step.Step.{Step}

abbrev pub stamp_of : Stamp → model.Stamp
stamp_of stamp = record { at = stamp.at; index = stamp.index; place = stamp.place }

abbrev pub logged_of : {A : Type 0} → Step A → model.Logged
logged_of step = record {
  input = input_of step.input;
  stamp = step.stamp;
  source = stamp_of step.source;
  answer = step.answer;
  sent = map envelope_of step.sent.items;
}
