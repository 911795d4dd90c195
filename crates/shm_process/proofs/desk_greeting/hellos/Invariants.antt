use Rattle.std.proofs.Common.{◌≡◌, ◌-◌, ◌++◌, string_bytes}
use Rattle.shm_process.specs.Hello.{greeting, hellos_from}
use Rattle.shm_seal.specs.SealOf.{seal_of}
use Rattle.shm_process.proofs.desk_greeting.hellos.Given as goal

-- what is still to come makes the text whole
abbrev pub invariant-sites : goal.invariant-sites
invariant-sites g l = string_bytes l.text ++ hellos_from (seal_of l.seal) l.own l.to (l.own.sites - l.to) ≡ greeting (seal_of l.seal) l.own
