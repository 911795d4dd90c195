-- Seats after a step, and at the beginning.
use Rattle.std.proofs.Common.{◌≡◌, ℕ, ◌==◌, Bool, true, false, if◌then◌else◌, [], ◌++◌, map, refl, sym, ap, ◌∙◌}
use Rattle.std.specs.Prelude.{Vec, Option, Some, None}
use Rattle.std.specs.declared.alloc.Global.{Global}
use Rattle.shm_model.specs.Opening.{opening_of, opening_with}
use Rattle.shm_model.specs.Site as model
use Rattle.shm_model.specs.World.{New, Preset, Framed, opened_site, sites_of}
use Rattle.shm_model.specs.declared.answer.Answer.{Answer}
use Rattle.shm_model.specs.declared.world_opening.Opening.{Opening}
use Rattle.shm_parts.specs.Message.{envelope_of}
use Rattle.shm_parts.specs.Outbox.{AddedTo}
use Rattle.shm_parts.specs.declared.message.Envelope.{Envelope}
use Rattle.shm_site.specs.Site.{StepsTo, Unchanged, site_of}
use Rattle.shm_c.specs.Openings.{numbered_opening}
use Rattle.shm_c.specs.Seat.{Seat, begun_seat, seat_of}
use Rattle.shm_c.specs.SiteSteps.{seat_after}
use Rattle.shm_c.specs.declared.held_site.HeldSite.{HeldSite}

-- the parts of a seat make it
seat-made : (a b : Seat) → a.sites ≡ b.sites → a.me ≡ b.me → a.site ≡ b.site → a.sent ≡ b.sent → a ≡ b
seat-made a b s m x e = λ i. record { sites = s i; me = m i; site = x i; sent = e i }

-- a site that steps with an empty outbox, which it keeps
pub after-step : (old new : HeldSite) (before : Vec (Envelope Global) Global) (answer : Answer) (s : model.Step)
    → before.items ≡ [] → StepsTo AddedTo old.site new.site before new.sent answer s → seat_of new ≡ seat_after (seat_of old) s
after-step old new before answer s none made =
    let sent : new.sent.items ≡ made.makes.sent = made.makes.behind ∙ ap (λ l. l ++ made.makes.sent) none in
    seat-made (seat_of new) (seat_after (seat_of old) s) made.seat.0 made.seat.1
    (sym (ap (λ t. t.site) made.makes.made)) (ap (map envelope_of) sent ∙ sym (ap (λ t. t.sent) made.makes.made))

pub answer-step : (old new : HeldSite) (before : Vec (Envelope Global) Global) (answer : Answer) (s : model.Step)
    → StepsTo AddedTo old.site new.site before new.sent answer s → answer ≡ s.answer
answer-step old new before answer s made = sym (ap (λ t. t.answer) made.makes.made)

-- a step that wasn't made
pub no-step : (old new : HeldSite) (before after : Vec (Envelope Global) Global)
    → new.sent ≡ old.sent → Unchanged AddedTo old.site new.site before after → seat_of new ≡ seat_of old
no-step old new before after kept same =
    seat-made (seat_of new) (seat_of old) same.seat.0 same.seat.1 same.site (ap (λ v. map envelope_of v.items) kept)

-- an opening has its sites
pub sites-with : (sites : ℕ) (pages frames : Option ℕ) → sites_of (opening_with sites pages frames) ≡ sites
sites-with sites None frames = refl
sites-with sites (Some pages) None = refl
sites-with sites (Some pages) (Some frames) = refl

-- and a site that begins so has sent nothing
pub begun : (held : HeldSite) (opening : Opening) (me : ℕ) → site_of held.site ≡ opened_site (opening_of opening) me
    → held.site.sites ≡ opening.sites → held.site.me ≡ me → held.sent.items ≡ [] → seat_of held ≡ begun_seat (opening_of opening) me
begun held opening me site sites number none =
    seat-made (seat_of held) (begun_seat (opening_of opening) me) (sites ∙ sym (sites-with opening.sites opening.preset opening.frames)) number site
    (ap (map envelope_of) none)

sites-if : (a b : Bool) (sites pages frames : ℕ) → sites_of (if a then New sites else if b then Preset sites pages else Framed sites pages frames) ≡ sites
sites-if true b sites pages frames = refl
sites-if false true sites pages frames = refl
sites-if false false sites pages frames = refl

-- so does one of these numbers
pub sites-numbered : (opening : Opening) (sites pages frames : ℕ) → opening_of opening ≡ numbered_opening sites pages frames → opening.sites ≡ sites
sites-numbered opening sites pages frames e =
    sym (sites-with opening.sites opening.preset opening.frames) ∙ ap sites_of e ∙ sites-if (pages == 0) (frames == 0) sites pages frames
