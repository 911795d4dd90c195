use Rattle.std.proofs.Common.{◌≡◌, ◌∙◌, Ok, OnErr, ap, refl, subst, sym}
use Rattle.shm_model.specs.Access.{ask_for, load}
use Rattle.shm_model.specs.Site.{Step, still}
use Rattle.shm_model.specs.declared.answer.Answer.TheVariants.{Fault, Refused}
use Rattle.shm_model.specs.declared.request_kind.Kind.TheVariants.{Read}
use Rattle.shm_parts.specs.Holdings.{loaded_step}
use Rattle.shm_site.specs.Site.{site_of}
use Rattle.shm_site.proofs.Seats.{load_here}
use Rattle.shm_site.proofs.Steps.{if_steps, quietly}
use Rattle.shm_site.proofs.site.Site.load.Goals as goal

pub returns-in-Ok-Byte-clause-step : goal.returns-in-Ok-Byte-clause-step
returns-in-Ok-Byte-clause-step g c =
    let old = c.args.self.now in
    quietly (g.O.Outbox.nothing c.args.outbox.now) (refl, refl)
    (load_here old.sites old.me old.holdings.sites old.holdings.me old.held_sites old.held_me old.holdings old.holdings (site_of old) c.args.at c.args.offset c.load.result (c.load.ensures (site_of old)) ∙ ap (λ r. loaded_step old.sites old.me r (site_of old)) (c.in-Ok-Byte.is ∙ ap Ok c.in-Ok-Byte.field-0-is))

absent : (g : _) (c : goal.After-ask_for g) → load c.args.self.now.sites c.args.self.now.me c.args.at c.args.offset (site_of c.args.self.now) ≡ ask_for c.args.self.now.sites c.args.self.now.me Read c.in-Ok-Absent.page (site_of c.args.self.now)
absent g c =
    let old = c.args.self.now in
    load_here old.sites old.me old.holdings.sites old.holdings.me old.held_sites old.held_me old.holdings old.holdings (site_of old) c.args.at c.args.offset c.load.result (c.load.ensures (site_of old)) ∙ ap (λ r. loaded_step old.sites old.me r (site_of old)) (c.in-Ok-Absent.is ∙ ap Ok c.in-Ok-Absent.field-0-is)

pub returns-in-Ok-Absent-clause-step : goal.returns-in-Ok-Absent-clause-step
returns-in-Ok-Absent-clause-step g c =
    if_steps g.O.Outbox.posted c.args.self.now _ c.ask_for.new.self c.args.outbox.now c.ask_for.new.outbox _ _ c.ask_for.result (absent g c) c.ask_for.ensures.step (refl, refl)

pub returns-in-Ok-Absent-clause-memory : goal.returns-in-Ok-Absent-clause-memory
returns-in-Ok-Absent-clause-memory g c =
    subst (λ (step : Step). OnErr c.ask_for.result (step.answer ≡ Fault)) (sym (absent g c)) c.ask_for.ensures.memory

pub returns-in-Err-clause-step : goal.returns-in-Err-clause-step
returns-in-Err-clause-step g c =
    let old = c.args.self.now in
    quietly (g.O.Outbox.nothing c.args.outbox.now) (refl, refl)
    (load_here old.sites old.me old.holdings.sites old.holdings.me old.held_sites old.held_me old.holdings old.holdings (site_of old) c.args.at c.args.offset c.load.result (c.load.ensures (site_of old)) ∙ ap (λ r. loaded_step old.sites old.me r (site_of old)) c.in-Err.is ∙ ap (λ n. still (Refused n) (site_of old)) (sym c.number.ensures))
