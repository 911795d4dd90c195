-- A site that served in stretches.
use Rattle.std.proofs.Common.{◌≡◌, ℕ, Bool, true, false, List, [], ◌∷◌, Ok, Err, inl, inr, refl}
use Rattle.std.specs.Prelude.{Option, Result}
use Rattle.shm_journal.specs.Acts.{Around, Served, Stood}
use Rattle.shm_journal.specs.Lines.{Header}
use Rattle.shm_journal.specs.Stretches.{Reaches, Rests, ServedOn, StoppedBetween, resumed}
use Rattle.shm_journal.specs.declared.process_error.ProcessFault.{ProcessFault}
use Rattle.shm_journal.specs.declared.service_stop.Stop.{Stop}
use Rattle.shm_journal.specs.declared.service_stop.Stop.TheVariants.{Due}
use Rattle.shm_process.specs.Desk.{Desk}
use Rattle.shm_seal.specs.Seal.{Seal}
use Rattle.shm_command.specs.Begun.{BeginsWith}
use Rattle.shm_command.specs.Served.{IsBetween, IsServed, ServesFrom}
use Rattle.shm_command.specs.Shortening.{GoesOnWith}
use Rattle.shm_command.specs.declared.site_error.SiteFault.{SiteFault}
use Rattle.shm_command.specs.declared.site_error.SiteFault.TheVariants as fault

-- some stretches were served, and the next begins with this desk
abbrev pub Stretched : Desk → Desk → Around → Around → Type 0
Stretched first desk old now = (stretches : List Bool) × Reaches first stretches desk old now

pub begun : (first : Desk) (old : Around) → Stretched first first old old
begun first old = ([], (refl, refl))

-- one stretch more
one_more : (first desk last next : Desk) (old at now : Around) → Stretched first desk old at → Stood desk last at now → Rests Due last
    → (shorter : Bool) × (next ≡ resumed shorter last) → Stretched first next old now
one_more first desk last next old at now s stood rests r = (r.0 ∷ s.0, (desk, last, at, s.1, stood, rests, r.1))

-- where a journal became shorter or stayed
went-on : (header : Header) (old new : Desk) (before after : Option (List (List ℕ))) → GoesOnWith header old new before after
    → (shorter : Bool) × (new ≡ resumed shorter old)
went-on header old new before after (inl g) = (true, g.1)
went-on header old new before after (inr g) = (false, g.1)

pub one_further : (first desk last next : Desk) (old at now : Around) (header : Header) (before after : Option (List (List ℕ))) → Stretched first desk old at
    → Stood desk last at now → Rests Due last → GoesOnWith header last next before after → Stretched first next old now
one_further first desk last next old at now header before after s stood rests g =
    one_more first desk last next old at now s stood rests (went-on header last next before after g)

-- the last stretch
pub last_one : (first desk : Desk) (old at new : Around) (result : Result Stop ProcessFault) → Stretched first desk old at → Served desk at new result
    → ServedOn first old new result
last_one first desk old at new result s served = (s.0, desk, at, s.1, served)

-- nothing follows this one
pub stopped_behind : (first desk last : Desk) (old at new : Around) → Stretched first desk old at → Stood desk last at new → Rests Due last
    → StoppedBetween first old new
stopped_behind first desk last old at new s stood rests = (false ∷ s.0, last, (desk, last, at, s.1, stood, rests, refl))

pub stopped : (first desk : Desk) (old new : Around) → Stretched first desk old new → StoppedBetween first old new
stopped first desk old new s = (s.0, desk, s.1)

pub between : (why : SiteFault) (desk : Desk) (old new : Around) → IsBetween why → StoppedBetween desk old new → ServesFrom desk (Err why) old new
between fault.OutOfMemory desk old new is s = s
between fault.Unlisted desk old new is s = s
between fault.Unopened desk old new is s = absurd is
between fault.Missing desk old new is s = absurd is
between fault.NoFile desk old new is s = absurd is
between fault.Existing desk old new is s = absurd is
between fault.Blank desk old new is s = absurd is
between (fault.Damaged bytes) desk old new is s = absurd is
between fault.Unmarked desk old new is s = absurd is
between fault.Taken desk old new is s = absurd is
between fault.Uncut desk old new is s = absurd is
between (fault.Unrecovered why) desk old new is s = absurd is
between (fault.Unopenable why) desk old new is s = absurd is
between (fault.Ended why) desk old new is s = absurd is
between (fault.Loose durable) desk old new is s = absurd is

-- ---- from its beginning on

pub served_from : (kept : Option Bool) (seal : Seal) (header : Header) (desk : Desk) (result : Result (Unit {0}) SiteFault) (old new : Around)
    → BeginsWith kept seal header desk → ServesFrom desk result old new → IsServed kept seal header result old new
served_from kept seal header desk (Ok end) old new b s = (desk, b, s.0, s.1)
served_from kept seal header desk (Err (fault.Ended why)) old new b s = (desk, b, s)
served_from kept seal header desk (Err (fault.Loose durable)) old new b s = (desk, b, s)
served_from kept seal header desk (Err fault.OutOfMemory) old new b s = inr (desk, b, s)
served_from kept seal header desk (Err fault.Unlisted) old new b s = inr (desk, b, s)
served_from kept seal header desk (Err fault.Unopened) old new b s = absurd s
served_from kept seal header desk (Err fault.Missing) old new b s = absurd s
served_from kept seal header desk (Err fault.NoFile) old new b s = absurd s
served_from kept seal header desk (Err fault.Existing) old new b s = absurd s
served_from kept seal header desk (Err fault.Blank) old new b s = absurd s
served_from kept seal header desk (Err (fault.Damaged bytes)) old new b s = absurd s
served_from kept seal header desk (Err fault.Unmarked) old new b s = absurd s
served_from kept seal header desk (Err fault.Taken) old new b s = absurd s
served_from kept seal header desk (Err fault.Uncut) old new b s = absurd s
served_from kept seal header desk (Err (fault.Unrecovered why)) old new b s = absurd s
served_from kept seal header desk (Err (fault.Unopenable why)) old new b s = absurd s
