-- What a message of a site's channel is to the site.
use Rattle.std.specs.Prelude.{◌≡◌, ◌⊎◌, true, Option, None, Some}
use Rattle.shm_model.specs.Log.{Stamp}
use Rattle.shm_model.specs.Message as model
use Rattle.shm_parts.specs.Message.{envelope_of}
use Rattle.shm_logs.specs.Boxes.Box.{after, needs_memory, refusal}
use Rattle.shm_logs.specs.Boxes.Logged.{stamp_of}
use Rattle.shm_logs.specs.Boxes.SiteBox.{box_of}
use Rattle.shm_logs.specs.Boxes.SiteLog.{HasRoom}
use Rattle.shm_logs.specs.declared.site_boxes.site_box.SiteBox.{SiteBox}
use Rattle.shm_sites.specs.declared.cluster.channel_message.Mail.{Mail}
use Rattle.shm_sites.specs.declared.cluster.channel_message.Mail.TheVariants as mail

-- its next input, and where the envelope was sent that it hands over, for a tick nowhere; none: its thread is to end
abbrev pub next_of : {A : Type 0} → Mail A → Option (model.Input × Stamp)
next_of (mail.Envelope posted) = Some (model.Deliver (envelope_of posted.envelope), stamp_of posted.source)
next_of mail.Tick = Some (model.Tick, record { at = 0; index = 0; place = 0 })
next_of mail.Stop = None

-- Memory may be missing for the step: its log has no room, or the site may need some.
abbrev pub MayLackMemory : {A : Type 0} → SiteBox A → model.Input → Type 0
MayLackMemory held input = HasRoom held.log → needs_memory (box_of held) input ≡ true

-- The box took the input; or it is as before, as the input is refused, or memory was.
abbrev pub Gives : {A : Type 0} → SiteBox A → SiteBox A → model.Input → Stamp → Type 0
Gives old new input source =
    ((refusal (box_of old) input source ≡ None) × (box_of new ≡ after (box_of old) input source))
    ⊎ ((refusal (box_of old) input source ≡ None → MayLackMemory old input) × (box_of new ≡ box_of old))
