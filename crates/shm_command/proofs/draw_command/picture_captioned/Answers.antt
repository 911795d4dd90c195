-- Notes that couldn't be read, or that have a fault, give no captions, and nothing is done.
use Rattle.std.proofs.Common.{◌≡◌, ℕ, List, inl, inr, subst}
use Rattle.shm_draw.specs.Captions.{IsFaultIn, besides_of, captions_in}
use Rattle.shm_draw.specs.declared.caption.CaptionFault.{CaptionFault}
use Rattle.shm_draw.specs.declared.caption.CaptionFault.TheVariants.{OutOfMemory, BadNote}
use Rattle.shm_command.specs.Around.{streams}
use Rattle.shm_command.specs.Done.{PicturesFrom}
use Rattle.shm_command.specs.Status.{HasNoCaptions, caption_status}
use Rattle.shm_command.proofs.Streaming.{did_nothing}
use Rattle.shm_command.proofs.draw_command.picture_captioned.Goals as goal

no_captions : (bytes : List ℕ) (fault : CaptionFault) (status : ℕ) → status ≡ caption_status fault → IsFaultIn (captions_in bytes) fault → HasNoCaptions status
no_captions bytes OutOfMemory status is fails = inr is
no_captions bytes (BadNote number) status is fails = inl (bytes, number, fails, is)

pub returns-in-Err-clause-drawn : goal.returns-in-Err-clause-drawn
returns-in-Err-clause-drawn g c =
    inr (inr c.script_file_fault.ensures, did_nothing (g.I.Read.remaining c.args.reader.now) (g.O.Write.contents c.args.out.now))

pub returns-in-Ok-parse_captions-clause-drawn : goal.returns-in-Ok-parse_captions-clause-drawn
returns-in-Ok-parse_captions-clause-drawn g c =
    inl (
      c.as_slice.result.now,
      besides_of c.in-Ok-parse_captions.captions.items,
      c.in-Ok-parse_captions.ensures.ok,
      subst (λ captions. PicturesFrom c.args.file c.args.steps c.args.page (besides_of captions) c.picture_from.result
          (streams (g.I.Read.remaining c.args.reader.now) (g.O.Write.contents c.args.out.now))
          (streams (g.I.Read.remaining c.picture_from.new.reader) (g.O.Write.contents c.picture_from.new.out)))
          c.as_slice-in-Ok-parse_captions.ensures.value c.picture_from.ensures.drawn,
    )

pub returns-clause-drawn : goal.returns-clause-drawn
returns-clause-drawn g c =
    inr (
      no_captions c.as_slice.result.now c.in-Err-parse_captions.fault c.caption_fault.result c.caption_fault.ensures c.in-Err-parse_captions.ensures.err,
      did_nothing (g.I.Read.remaining c.args.reader.now) (g.O.Write.contents c.args.out.now),
    )
