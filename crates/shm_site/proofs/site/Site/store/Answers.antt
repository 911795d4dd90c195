use Rattle.std.proofs.Common.{◌≡◌, ◌∙◌, Ok, OnErr, ap, refl, subst, sym}
use Rattle.std.proofs.lemmas.Result.{on_err_weaker}
use Rattle.shm_model.specs.Access.{ask_for, store}
use Rattle.shm_model.specs.Site.{Step, still}
use Rattle.shm_model.specs.Site as model
use Rattle.shm_model.specs.declared.answer.Answer.TheVariants.{Fault, Refused}
use Rattle.shm_model.specs.declared.request_kind.Kind.TheVariants.{Write}
use Rattle.shm_parts.specs.Holdings.{stored_step, with_holdings}
use Rattle.shm_site.specs.Site.{site_of}
use Rattle.shm_site.proofs.Seats.{store_here}
use Rattle.shm_site.proofs.Steps.{if_steps, quietly}
use Rattle.shm_site.proofs.Stores.{store_stays}
use Rattle.shm_site.proofs.site.Site.store.Goals as goal

pub returns-in-Ok-Stored-clause-step : goal.returns-in-Ok-Stored-clause-step
returns-in-Ok-Stored-clause-step g c =
    let old = c.args.self.now in
    let new : model.Site = with_holdings old.sites old.me c.store.new.self (site_of old) in
    quietly (g.O.Outbox.nothing c.args.outbox.now) (refl, refl)
    (store_here old.sites old.me old.holdings.sites old.holdings.me old.held_sites old.held_me old.holdings c.store.new.self (site_of old) c.args.at c.args.offset c.args.byte c.store.result (c.store.ensures.step (site_of old)) ∙ ap (λ r. stored_step old.sites old.me r new) (c.in-Ok-Stored.is ∙ ap Ok c.in-Ok-Stored.field-0-is))

absent : (g : _) (c : goal.After-ask_for g) (site : model.Site) → store c.args.self.now.sites c.args.self.now.me c.args.at c.args.offset c.args.byte (with_holdings c.args.self.now.sites c.args.self.now.me c.args.self.now.holdings site) ≡ ask_for c.args.self.now.sites c.args.self.now.me Write c.in-Ok-Absent.page (with_holdings c.args.self.now.sites c.args.self.now.me c.store.new.self site)
absent g c site =
    let old = c.args.self.now in
    store_here old.sites old.me old.holdings.sites old.holdings.me old.held_sites old.held_me old.holdings c.store.new.self site c.args.at c.args.offset c.args.byte c.store.result (c.store.ensures.step site)
    ∙ ap (λ r. stored_step c.args.self.now.sites c.args.self.now.me r (with_holdings c.args.self.now.sites c.args.self.now.me c.store.new.self site)) (c.in-Ok-Absent.is ∙ ap Ok c.in-Ok-Absent.field-0-is)

pub returns-in-Ok-Absent-clause-step : goal.returns-in-Ok-Absent-clause-step
returns-in-Ok-Absent-clause-step g c =
    if_steps g.O.Outbox.posted c.args.self.now _ c.ask_for.new.self c.args.outbox.now c.ask_for.new.outbox _ _ c.ask_for.result (absent g c (site_of c.args.self.now)) c.ask_for.ensures.step (refl, refl)

pub returns-in-Ok-Absent-clause-refused : goal.returns-in-Ok-Absent-clause-refused
returns-in-Ok-Absent-clause-refused g c =
    let old = c.args.self.now in
    let same = store_stays old.sites old.me c.args.at c.args.offset c.args.byte c.in-Ok-Absent.page old.holdings c.store.new.self (absent g c) (site_of old) in
    on_err_weaker c.ask_for.result (λ kept. record { site = kept.site ∙ sym same; behind = kept.behind; seat = kept.seat }) c.ask_for.ensures.refused

pub returns-in-Ok-Absent-clause-memory : goal.returns-in-Ok-Absent-clause-memory
returns-in-Ok-Absent-clause-memory g c =
    subst (λ (step : Step). OnErr c.ask_for.result (step.answer ≡ Fault)) (sym (absent g c (site_of c.args.self.now))) c.ask_for.ensures.memory

pub returns-in-Err-clause-step : goal.returns-in-Err-clause-step
returns-in-Err-clause-step g c =
    let old = c.args.self.now in
    let new : model.Site = with_holdings old.sites old.me c.store.new.self (site_of old) in
    quietly (g.O.Outbox.nothing c.args.outbox.now) (refl, refl)
    (store_here old.sites old.me old.holdings.sites old.holdings.me old.held_sites old.held_me old.holdings c.store.new.self (site_of old) c.args.at c.args.offset c.args.byte c.store.result (c.store.ensures.step (site_of old)) ∙ ap (λ r. stored_step old.sites old.me r new) c.in-Err.is ∙ ap (λ n. still (Refused n) new) (sym c.number.ensures))
