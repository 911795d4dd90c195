use Rattle.std.proofs.Common.{◌≡◌, ◌+◌, ◌-◌, suc, string_bytes, arith}
use Rattle.shm_process.specs.Hello.{greeting}
use Rattle.shm_seal.specs.SealOf.{seal_of}
use Rattle.shm_process.proofs.Greeting.{all_said, hello_said}
use Rattle.shm_process.proofs.desk_greeting.hellos.Goals as goal

pub sites-preserved : goal.sites-preserved
sites-preserved g c =
    let own = c.args.own.now in
    let more : own.sites - c.sites.to ≡ suc (own.sites - (c.sites.to + 1)) = omega arith in
    hello_said (seal_of c.args.seal.now) own c.sites.to (own.sites - c.sites.to) (own.sites - (c.sites.to + 1)) (string_bytes c.sites.text)
    (string_bytes c.push_hello_for.new.text) (greeting (seal_of c.args.seal.now) own) more c.in_ok-push_hello_for.ensures c.sites.invariant

pub returns : goal.returns
returns g c =
    let own = c.args.own.now in
    all_said (seal_of c.args.seal.now) own c.sites.to (own.sites - c.sites.to) (string_bytes c.sites.text) (greeting (seal_of c.args.seal.now) own)
    (omega arith) c.sites.invariant
