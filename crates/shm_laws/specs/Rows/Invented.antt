-- Envelopes that no site sent, each handed to a site of two whose segment 0 has one page, as it is at the opening or after some others:
-- it refuses those that can't be for it, and takes or drops the rest by the tables.
use Rattle.std.specs.Prelude.{◌≡◌, ℕ, List, [], ◌∷◌, map}
use Rattle.shm_model.specs.declared.answer.Answer.{Answer}
use Rattle.shm_model.specs.declared.call.Op.TheVariants.{Detach, Stat}
use Rattle.shm_model.specs.declared.call.Reply.TheVariants.{Ok}
use Rattle.shm_model.specs.declared.request_kind.Kind.TheVariants.{Read, Write}
use Rattle.shm_model.specs.Entry.{Note, Ask, Clear, Cleared, Hand, Page, Confirm}
use Rattle.shm_model.specs.Basics.{greatest}
use Rattle.shm_model.specs.Message.{Message, Of, Call, Replies, Purge, Purged, Envelope, Deliver}
use Rattle.shm_model.specs.Site.{Site, blank, Step}
use Rattle.shm_model.specs.Step.{step}
use Rattle.shm_model.specs.World.{Preset, opened_site}
use Rattle.shm_laws.specs.Rows.Script.{Sent, cleared, confirm, hand, page, purged, reply, sent_as}
use Rattle.shm_laws.specs.Rows.Words.{cred, dropped, refused, to, took}

-- the site that an envelope is handed to, after which others, what it answers, and what it sends
pub record Handing : Type 0 where
  pub site : ℕ
  pub earlier : List Envelope
  pub envelope : Envelope
  pub answer : Answer
  pub sent : List Sent

abbrev pub ended_as : Handing → Step → Handing
ended_as h s = record h { answer = s.answer; sent = map sent_as s.sent }

abbrev pub site_after : ℕ → List Envelope → Site → Site
site_after me [] site = site
site_after me (e ∷ es) site = site_after me es (step 2 me site (Deliver e)).site

abbrev pub handed_over : Handing → Handing
handed_over h = ended_as h (step 2 h.site (site_after h.site h.earlier (opened_site (Preset 2 1) h.site)) (Deliver h.envelope))

-- each envelope is answered so
unfoldable pub AllAnswered : List Handing → Type 0
AllAnswered hs = map handed_over hs ≡ hs

-- from a site to a site
abbrev pub envelope_of : ℕ → ℕ → Message → Envelope
envelope_of from destination message = record { from = from; to = destination; message = message }

-- at a site, an envelope from a site to a site
abbrev pub at : ℕ → ℕ → ℕ → Message → Answer → List Sent → Handing
at site from destination message answer sent =
    record { site = site; earlier = []; envelope = envelope_of from destination message; answer = answer; sent = sent }

-- at a site that was handed others before, an envelope to it
abbrev pub after : ℕ → List Envelope → ℕ → Message → Answer → List Sent → Handing
after site earlier from message answer sent = record { site = site; earlier = earlier; envelope = envelope_of from site message; answer = answer; sent = sent }

-- a note of a page of segment 0
abbrev pub of_page : ℕ → Note → Message
of_page index note = Of (record { seg = 0; index = index }) note

abbrev pub invented_envelopes : List Handing
invented_envelopes =
    at 1 0 1 (of_page 0 (Page 5 Write blank)) took (to 0 confirm)
    ∷ at 1 0 1 (of_page 0 (Page 5 Read blank)) took (to 0 confirm)
    ∷ at 0 0 0 (of_page 0 (Page 5 Write blank)) dropped []
    ∷ at 0 0 0 (of_page 0 (Page 0 Write blank)) took (to 0 confirm)
    ∷ at 1 0 1 (of_page 0 (Clear greatest)) took (to 0 cleared)
    ∷ at 0 0 0 (of_page 0 (Clear 5)) dropped []
    ∷ at 0 0 0 (of_page 0 (Clear 0)) took (to 0 cleared)
    ∷ at 0 0 0 (of_page 0 (Hand 1 Read 7)) took (to 7 page)
    ∷ at 0 0 0 (of_page 0 (Hand 1 Read 0)) took (to 0 confirm)
    ∷ at 0 0 0 (of_page 0 (Hand 0 Write 1)) dropped []
    ∷ at 1 0 1 (of_page 0 (Hand 1 Write 0)) dropped []
    ∷ at 0 1 0 (of_page 0 (Cleared 0)) dropped []
    ∷ at 0 1 0 (of_page 0 (Confirm 0)) dropped []
    ∷ at 0 1 0 (of_page 0 (Ask 0 Read)) dropped []
    ∷ at 0 0 1 (of_page 0 (Clear 5)) (refused 16) []
    ∷ at 0 1 0 (of_page 1 (Ask 1 Read)) (refused 16) []
    ∷ at 0 2 0 (of_page 0 (Ask 1 Read)) (refused 16) []
    ∷ at 0 0 0 (of_page 256 (Clear 1)) (refused 16) []
    ∷ at 0 1 0 (Call 1 (Stat (cred 0 0) 1)) (refused 16) []
    ∷ at 0 1 0 (Call 0 (Detach 0)) dropped []
    ∷ at 0 1 0 (Call 1 (Detach 0)) took (to 1 reply)
    ∷ at 1 0 1 (Replies 1 Ok) dropped []
    ∷ at 1 0 1 (Purge 0) dropped []
    ∷ at 1 0 1 (Purge 2) took (to 0 purged)
    ∷ at 1 1 1 (Purge 0) (refused 16) []
    ∷ at 1 0 1 (Purge 131072) (refused 16) []
    ∷ at 0 1 0 (Purged 0) dropped []
    ∷ at 1 0 1 (Purged 0) (refused 16) []
    ∷ []

-- site 1 asked to read: the transaction runs
abbrev pub asked : List Envelope
asked = envelope_of 1 0 (of_page 0 (Ask 1 Read)) ∷ []

-- it has its copy, and site 0 asked to write: the copy is to be cleared
abbrev pub asked_to_write : List Envelope
asked_to_write = envelope_of 1 0 (of_page 0 (Ask 1 Read)) ∷ envelope_of 1 0 (of_page 0 (Confirm 1)) ∷ envelope_of 0 0 (of_page 0 (Ask 1 Write)) ∷ []

-- site 1 has a copy of number 3
abbrev pub copied : List Envelope
copied = envelope_of 0 1 (of_page 0 (Page 3 Read blank)) ∷ []

-- site 0 lent a copy
abbrev pub lent : List Envelope
lent = envelope_of 0 0 (of_page 0 (Hand 1 Read 1)) ∷ []

-- site 0 handed the page to site 1
abbrev pub given : List Envelope
given = envelope_of 0 0 (of_page 0 (Hand 1 Write 1)) ∷ []

abbrev pub invented_later : List Handing
invented_later =
    after 0 asked 1 (of_page 0 (Cleared 1)) dropped []
    ∷ after 0 asked 0 (of_page 0 (Confirm 1)) dropped []
    ∷ after 0 asked 1 (of_page 0 (Confirm 2)) dropped []
    ∷ after 0 asked 1 (of_page 0 (Confirm 1)) took []
    ∷ after 0 asked_to_write 0 (of_page 0 (Cleared 2)) dropped []
    ∷ after 0 asked_to_write 1 (of_page 0 (Cleared 1)) dropped []
    ∷ after 0 asked_to_write 1 (of_page 0 (Cleared 2)) took (to 0 hand)
    ∷ after 1 copied 0 (of_page 0 (Hand 3 Read 0)) dropped []
    ∷ after 1 copied 0 (of_page 0 (Hand 4 Write 0)) dropped []
    ∷ after 1 copied 0 (of_page 0 (Page 2 Write blank)) dropped []
    ∷ after 1 copied 0 (of_page 0 (Page 3 Write blank)) took (to 0 confirm)
    ∷ after 1 copied 0 (of_page 0 (Clear 4)) took (to 0 cleared)
    ∷ after 0 lent 0 (of_page 0 (Clear 2)) dropped []
    ∷ after 0 lent 0 (of_page 0 (Page 2 Read blank)) dropped []
    ∷ after 0 lent 0 (of_page 0 (Hand 1 Write 1)) dropped []
    ∷ after 0 lent 0 (of_page 0 (Hand 1 Read 1)) took (to 1 page)
    ∷ after 0 lent 0 (of_page 0 (Hand 2 Write 0)) took (to 0 confirm)
    ∷ after 0 given 0 (of_page 0 (Hand 1 Write 1)) took (to 1 page)
    ∷ after 0 given 0 (of_page 0 (Hand 1 Write 0)) dropped []
    ∷ after 0 given 0 (of_page 0 (Hand 1 Read 1)) dropped []
    ∷ after 0 given 0 (of_page 0 (Hand 2 Write 1)) dropped []
    ∷ after 0 given 0 (of_page 0 (Clear 2)) took (to 0 cleared)
    ∷ []
