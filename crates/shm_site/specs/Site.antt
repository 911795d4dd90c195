-- A site, as the definitions speak of it; and how its calls are said to make a step.
use Rattle.std.specs.Prelude.{◌≡◌, List, [], map}
use Rattle.shm_model.specs.declared.answer.Answer.{Answer}
use Rattle.shm_model.specs.Site.{Step}
use Rattle.shm_model.specs.Message as message
use Rattle.shm_model.specs.Site as model
use Rattle.shm_attach.specs.Attachments.{attachments_of}
use Rattle.shm_attach.specs.Home.{kept_of}
use Rattle.shm_keys.specs.Table.{missing_of}
use Rattle.shm_parts.specs.Books.{booked_of, books_of}
use Rattle.shm_parts.specs.Holdings.{held_entries, held_frames}
use Rattle.shm_parts.specs.Message.{envelope_of}
use Rattle.shm_parts.specs.Pendings.{pendings_of}
use Rattle.shm_parts.specs.Purged.{purged_of}
use Rattle.shm_parts.specs.declared.message.Envelope.{Envelope}
use Rattle.shm_site.specs.declared.site.Site.{Site}

abbrev pub site_of : {A : Type 0} → Site A → model.Site
site_of site = record {
  entries = held_entries site.sites site.me site.holdings;
  books = books_of site.me site.books;
  booked = booked_of site.books;
  requests = site.requests;
  calls = site.calls.begun;
  outstanding = site.calls.outstanding;
  attachments = attachments_of site.holdings.attachments;
  table = site.home.table.segments;
  kept = kept_of site.home.kept;
  missing = missing_of site.home.table;
  purged = purged_of site.holdings.purged;
  frames = held_frames site.holdings.frames;
  pending = pendings_of site.pending;
}

-- how a site stands after a step
abbrev pub stepped : {A : Type 0} → Site A → Answer → List message.Envelope → Step
stepped site answer sent = record { site = site_of site; answer = answer; sent = sent }

-- the site's number, and how many there are, stay
abbrev pub SameSeat : {A : Type 0} → Site A → Site A → Type 0
SameSeat old new = (new.sites ≡ old.sites) × (new.me ≡ old.me)

-- these envelopes were posted behind what the outbox had, and no others
pub record Told {A O : Type 0} (posted : O → O → List (Envelope A) → Type 0) (before after : O) (envelopes : List message.Envelope) : Type 0 where
  pub sent : List (Envelope A)
  pub behind : posted before after sent
  pub meant : map envelope_of sent ≡ envelopes

-- the step leaves this site and gives this answer, and what it sends was posted
pub record Makes {A O : Type 0} (posted : O → O → List (Envelope A) → Type 0) (before after : O)
    (site : model.Site) (answer : Answer) (step : Step) : Type 0 where
  pub sent : List (Envelope A)
  pub behind : posted before after sent
  pub made : step ≡ record { site = site; answer = answer; sent = map envelope_of sent }

-- the site made the step
pub record StepsTo {A O : Type 0} (posted : O → O → List (Envelope A) → Type 0) (old new : Site A) (before after : O)
    (answer : Answer) (step : Step) : Type 0 where
  pub makes : Makes posted before after (site_of new) answer step
  pub seat : SameSeat old new

-- nothing was done, and nothing posted
pub record Unchanged {A O : Type 0} (posted : O → O → List (Envelope A) → Type 0) (old new : Site A) (before after : O) : Type 0 where
  pub site : site_of new ≡ site_of old
  pub behind : posted before after []
  pub seat : SameSeat old new
