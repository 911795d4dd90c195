use Rattle.std.proofs.Common.{◌≡◌, ◌∙◌, ◌∷◌, ℕ, Option, length, ap, sym, arith}
use Rattle.std.proofs.lemmas.List.FromFn.{length-map-range_with_len}
use Rattle.shm_model.specs.SegmentCalls.{purge_envelope, purges, reply_envelope}
use Rattle.shm_attach.specs.Home.{sent_for}
use Rattle.shm_attach.specs.declared.call_outcome.Done.{Done}
use Rattle.shm_site.proofs.Orders.{told_both, told_one}
use Rattle.shm_site.proofs.serve_segment_call.tell.Goals as goal

pub returns-in-Some-destroyed-clause-sent : goal.returns-in-Some-destroyed-clause-sent
returns-in-Some-destroyed-clause-sent g c =
    let reply = reply_envelope c.args.me c.args.from c.args.number c.in-Some.done.reply in
    told_both g.O.Outbox.joined (told_one _ c.push.ensures.posted) c.send_purges.ensures
    (sym (ap (sent_for c.args.sites c.args.me c.args.from c.args.number) c.in-Some.is ∙ ap (λ (destroyed : Option ℕ). reply ∷ purges c.args.sites c.args.me destroyed) c.in-Some-destroyed.is))

-- the reply, and a purge to each site
pub send_purges-requires : goal.send_purges-requires
send_purges-requires g c =
    let me = c.args.me in
    let from = c.args.from in
    let number = c.args.number in
    let reply = reply_envelope me from number c.in-Some.done.reply in
    let told : length (sent_for c.args.sites me from number c.args.served) ≡ length (reply ∷ purges c.args.sites me c.in-Some.done.destroyed) =
    ap (λ (served : Option Done). length (sent_for c.args.sites me from number served)) c.in-Some.is in
    let each : length (purges c.args.sites me c.in-Some.done.destroyed) ≡ c.args.sites =
    ap (λ (destroyed : Option ℕ). length (purges c.args.sites me destroyed)) c.in-Some-destroyed.is
    ∙ length-map-range_with_len (purge_envelope me c.in-Some-destroyed.id) 0 c.args.sites in
    omega (arith, c.requires.room, c.push.ensures.room, told, each)
