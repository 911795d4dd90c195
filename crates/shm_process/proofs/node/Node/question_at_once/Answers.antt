use Rattle.std.proofs.Common.{◌≡◌, option_map, string_bytes, subst, sym, IfOk, Some}
use Rattle.shm_process.specs.CountsOf.{counts_of}
use Rattle.shm_process.specs.Health.{Health}
use Rattle.shm_process.specs.NodeOf.{node_of}
use Rattle.shm_process.specs.Telling.{health_line, shown_for}
use Rattle.shm_wire.specs.TagOf.{tag_text}
use Rattle.shm_wire.specs.declared.caller_ask.Question.{Question}
use Rattle.shm_process.proofs.node.Node.question_at_once.Goals as goal

-- the counts that are told are those of the node
pub returns-in-Health : goal.returns-in-Health
returns-in-Health g c =
    let told = subst (λ (h : Health). IfOk c.tell_health.result (λ told. option_map string_bytes told ≡ Some (health_line (node_of c.args.self.now) (tag_text c.args.tag) h)))
    c.health.ensures c.tell_health.ensures in
    subst (λ (q : Question). IfOk c.tell_health.result (λ told. option_map string_bytes told ≡ shown_for (counts_of c.args.counts) (node_of c.args.self.now) (tag_text c.args.tag) q))
    (sym c.in-Health.is) told
