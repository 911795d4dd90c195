use Rattle.std.proofs.Common.{◌∙◌, ap, sym}
use Rattle.shm_site.specs.State.{State}
use Rattle.std.specs.Prelude.{option_map}
use Rattle.shm_attach.specs.Attachments.{attachment_from, attachments_of}
use Rattle.shm_state.proofs.Tellings.{below-free, below-next, below-none}
use Rattle.shm_state.specs.Telling.{put_below, put_if, said_by}
use Rattle.shm_state.proofs.tell_pages.tell_attachments.Goals as goal

pub numbers-init : goal.numbers-init
numbers-init g c =
    let old : State = said_by c.args.out.now.items in
    record { said = ap (λ places. record old { attachments = places }) (sym (below-none c.args.attachments.now old.attachments)); order = c.requires.order }

pub numbers-preserved : goal.numbers-preserved
numbers-preserved g c =
    let old : State = said_by c.args.out.now.items in
    let places = c.args.attachments.now in
    let number = c.numbers.number in
    record {
      said = c.in_ok-tell_attachment.ensures.said
          ∙ ap (λ (s : State). record s { attachments = put_if number (option_map attachment_from c.get.result) s.attachments }) c.numbers.invariant.said
          ∙ ap (λ attachments. record old { attachments = attachments })
          (ap (λ o. put_if number o (put_below number places old.attachments)) c.get.ensures.attachment ∙ below-next number places old.attachments);
      order = c.in_ok-tell_attachment.ensures.order;
    }

pub tell_attachment-requires-clause-free : goal.tell_attachment-requires-clause-free
tell_attachment-requires-clause-free g c =
    let places = c.args.attachments.now in
    let number = c.numbers.number in
    ap (λ (s : State). attachments_of s.attachments number) c.numbers.invariant.said
    ∙ ap (λ told. attachments_of (put_below number places told) number) c.requires.fresh ∙ below-free number places
