use Rattle.std.proofs.Common.{◌∙◌, ap, sym, arith}
use Rattle.shm_number.specs.Kept.{kept_at}
use Rattle.shm_site.specs.State.{State}
use Rattle.shm_state.proofs.Tellings.{below-free, below-next, below-none, read-at}
use Rattle.shm_state.specs.Telling.{put_below, put_if, said_by}
use Rattle.shm_state.proofs.tell_calls.tell_kept.Goals as goal

pub sites-init : goal.sites-init
sites-init g c =
    let old : State = said_by c.args.out.now.items in
    record { said = ap (λ kept. record old { kept = kept }) (sym (below-none c.args.replies.now old.kept)); order = c.requires.order }

pub sites-preserved : goal.sites-preserved
sites-preserved g c =
    let old : State = said_by c.args.out.now.items in
    let replies = c.args.replies.now in
    let site = c.sites.site in
    let reply = c.index-replies-site.result in
    record {
      said = c.in_ok-tell_reply.ensures.said ∙ ap (λ (s : State). record s { kept = put_if site reply s.kept }) c.sites.invariant.said
          ∙ ap (λ kept. record old { kept = kept })
          (ap (λ o. put_if site o (put_below site replies old.kept)) (read-at replies site 16 reply (omega (arith, c.sites-test.true)) c.requires.sites c.index-replies-site.is)
          ∙ below-next site replies old.kept);
      order = c.in_ok-tell_reply.ensures.order;
    }

pub tell_reply-requires-clause-free : goal.tell_reply-requires-clause-free
tell_reply-requires-clause-free g c =
    let replies = c.args.replies.now in
    let site = c.sites.site in
    ap (λ (s : State). kept_at s.kept site) c.sites.invariant.said ∙ ap (λ kept. kept_at (put_below site replies kept) site) c.requires.fresh ∙ below-free site replies
