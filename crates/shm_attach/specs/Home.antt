-- What shm_model sees of a home: its table of segments, and the last reply to each site.
use Rattle.std.specs.Prelude.{◌≡◌, ℕ, Bool, true, false, List, [], ◌∷◌, Option, Some, None}
use Rattle.shm_model.specs.declared.answer.Answer.{Answer}
use Rattle.shm_model.specs.declared.answer.Answer.TheVariants.{Took, Dropped}
use Rattle.shm_model.specs.declared.call.Op.{Op}
use Rattle.shm_model.specs.declared.call.Op.TheVariants.{Detach, Remove}
use Rattle.shm_model.specs.declared.call.Reply.{Reply}
use Rattle.shm_model.specs.declared.call.Reply.TheVariants.{Id}
use Rattle.shm_model.specs.Calls.{Kept}
use Rattle.shm_model.specs.Kernel.{call, destroyed_by, next_id}
use Rattle.shm_model.specs.Message.{Envelope}
use Rattle.shm_model.specs.Site.{Site}
use Rattle.shm_model.specs.SegmentCalls.{on_call, purges, reply_envelope}
use Rattle.shm_number.specs.Kept.{kept_at}
use Rattle.shm_keys.specs.Table.{Table, missing_of}
use Rattle.shm_keys.specs.Purge.{missing_after}
use Rattle.shm_attach.specs.declared.call_outcome.Done.{Done}

pub record Home : Type 0 where
  pub table : Table
  pub kept : List (Option (ℕ × Reply))

abbrev pub kept_reply : Option (ℕ × Reply) → Option Kept
kept_reply None = None
kept_reply (Some last) = Some (record { number = last.0; reply = last.1 })

abbrev pub kept_of : List (Option (ℕ × Reply)) → ℕ → Option Kept
kept_of kept site = kept_reply (kept_at kept site)

-- the site, with this home
abbrev pub with_home : Home → Site → Site
with_home home site = record site { table = home.table.segments; kept = kept_of home.kept; missing = missing_of home.table }

-- what a home's answer is to the site that it belongs to, and what goes out
abbrev pub answered : Option Done → Answer
answered None = Dropped
answered (Some done) = Took

abbrev pub sent_for : ℕ → ℕ → ℕ → ℕ → Option Done → List Envelope
sent_for sites me from number None = []
sent_for sites me from number (Some done) = reply_envelope me from number done.reply ∷ purges sites me done.destroyed

-- the table executed the call: what it told, and the table after it
pub record IsRun (op : Op) (before after : Table) (done : Done) : Type 0 where
  pub called : call before.sites before.home op before.segments ≡ record { reply = done.reply; segments = after.segments }
  pub destroyed : destroyed_by op before.segments after.segments ≡ done.destroyed
  pub missing : (id site : ℕ) → missing_of after id site ≡ missing_after done.destroyed before.sites (missing_of before) id site
  pub home : after.home ≡ before.home
  pub sites : after.sites ≡ before.sites

-- the calls that can destroy a segment
abbrev pub may_destroy : Op → Bool
may_destroy (Detach _) = true
may_destroy (Remove _ _) = true
may_destroy _ = false

-- the call would be answered by the identifier of a new segment
abbrev pub MakesSegment : Op → Table → Type 0
MakesSegment op table = (call table.sites table.home op table.segments).reply ≡ Id (next_id table.sites table.home table.segments)

-- the home served the call, and the site that it belongs to made the step
abbrev pub Serves : ℕ → ℕ → Op → Home → Home → Option Done → Type 0
Serves from number op before after done =
    (site : Site) → on_call before.table.sites before.table.home from number op (with_home before site)
    ≡ record { site = with_home after site; answer = answered done; sent = sent_for before.table.sites before.table.home from number done }
