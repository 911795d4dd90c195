use Rattle.std.proofs.Common.{rules, ◌≡◌, arith, refl, take}
use Rattle.std.specs.Prelude.{Err}
use Rattle.shm_prompt.specs.Sitting.{greeting, nothing_typed}
use Rattle.shm_prompt.specs.Typing.{moment}
use Rattle.shm_prompt.specs.declared.prompt_error.PromptFault.TheVariants.{OutOfMemory, ReadFault}
use Rattle.shm_prompt.proofs.SittingLemmas.{ended, finished, is_read, never_read, not_shown, nothing_done, read_failed, shown, sits_first, starved, went_on}
use Rattle.shm_prompt.proofs.prompt_loop.prompt.Goals as goal

pub returns-in_default : goal.returns-in_default
returns-in_default g c =
    ended g.S.SaveFile.saves g.S.SaveFile.gives c.args.is_terminal (nothing_typed c.args.is_terminal (g.R.Read.remaining c.args.reader.now) c.args.files.now)
    (g.W.Write.contents c.args.writer.now) (g.W.Write.contents c.args.writer.now) (Err OutOfMemory) (g.R.Read.remaining c.args.reader.now) c.args.files.now
    (nothing_done g.S.SaveFile.saves g.S.SaveFile.gives c.args.is_terminal (g.R.Read.remaining c.args.reader.now) c.args.files.now (g.W.Write.contents c.args.writer.now))

pub returns-in-Err : goal.returns-in-Err
returns-in-Err g c =
    ended g.S.SaveFile.saves g.S.SaveFile.gives c.args.is_terminal (nothing_typed c.args.is_terminal (g.R.Read.remaining c.args.reader.now) c.args.files.now)
    (g.W.Write.contents c.args.writer.now) (g.W.Write.contents c.args.writer.now) (Err OutOfMemory) (g.R.Read.remaining c.args.reader.now) c.args.files.now
    (nothing_done g.S.SaveFile.saves g.S.SaveFile.gives c.args.is_terminal (g.R.Read.remaining c.args.reader.now) c.args.files.now (g.W.Write.contents c.args.writer.now))

pub reads-init : goal.reads-init
reads-init g c =
    let greets : c.greet.new.out.items ≡ greeting c.args.is_terminal = search rules in
    record {
      sits = sits_first g.S.SaveFile.saves g.S.SaveFile.gives c.args.is_terminal (g.R.Read.remaining c.args.reader.now) c.args.files.now (g.W.Write.contents c.args.writer.now) c.greet.new.out.items
          c.in-Ok.typed.line.items c.in-Ok.typed.is_long c.in-Ok.typed.dialog c.in-Ok.typed.unsaved greets
          c.in-Ok.ensures.line c.in-Ok.ensures.is_long c.in-Ok.ensures.dialog c.in-Ok.ensures.unsaved;
      room = refl;
    }

pub returns-in-Err-show : goal.returns-in-Err-show
returns-in-Err-show g c =
    ended g.S.SaveFile.saves g.S.SaveFile.gives c.args.is_terminal (nothing_typed c.args.is_terminal (g.R.Read.remaining c.args.reader.now) c.args.files.now)
    (g.W.Write.contents c.args.writer.now) (g.W.Write.contents c.show.new.writer) (Err c.in-Err-show.fault) (g.R.Read.remaining c.reads.reader) c.reads.files
    (not_shown g.S.SaveFile.saves g.S.SaveFile.gives c.args.is_terminal (nothing_typed c.args.is_terminal (g.R.Read.remaining c.args.reader.now) c.args.files.now)
    (g.W.Write.contents c.args.writer.now) (g.W.Write.contents c.reads.writer) (g.W.Write.contents c.show.new.writer) c.reads.out.items (g.R.Read.remaining c.reads.reader)
    c.reads.typed.line.items c.reads.typed.is_long c.reads.typed.dialog c.reads.typed.unsaved c.reads.files c.in-Err-show.fault c.reads.invariant.sits c.in-Err-show.ensures.fault)

pub returns-in_default-read_up_to : goal.returns-in_default-read_up_to
returns-in_default-read_up_to g c =
    ended g.S.SaveFile.saves g.S.SaveFile.gives c.args.is_terminal (nothing_typed c.args.is_terminal (g.R.Read.remaining c.args.reader.now) c.args.files.now)
    (g.W.Write.contents c.args.writer.now) (g.W.Write.contents c.show.new.writer) (Err ReadFault) (g.R.Read.remaining c.read_up_to.new.reader) c.reads.files
    (read_failed g.S.SaveFile.saves g.S.SaveFile.gives c.args.is_terminal (nothing_typed c.args.is_terminal (g.R.Read.remaining c.args.reader.now) c.args.files.now)
    (g.W.Write.contents c.args.writer.now) (g.W.Write.contents c.show.new.writer) (g.R.Read.remaining c.reads.reader) (g.R.Read.remaining c.read_up_to.new.reader) c.reads.typed.line.items c.reads.typed.is_long c.reads.typed.dialog c.reads.typed.unsaved c.reads.files
    (shown g.S.SaveFile.saves g.S.SaveFile.gives c.args.is_terminal (nothing_typed c.args.is_terminal (g.R.Read.remaining c.args.reader.now) c.args.files.now)
    (g.W.Write.contents c.args.writer.now) (g.W.Write.contents c.reads.writer) (g.W.Write.contents c.show.new.writer) c.reads.out.items (g.R.Read.remaining c.reads.reader)
    c.reads.typed.line.items c.reads.typed.is_long c.reads.typed.dialog c.reads.typed.unsaved c.reads.files c.reads.invariant.sits c.in-Ok-show.ensures.shown) c.in_default-read_up_to.ensures.err)

pub returns-in-Err-take : goal.returns-in-Err-take
returns-in-Err-take g c =
    ended g.S.SaveFile.saves g.S.SaveFile.gives c.args.is_terminal (nothing_typed c.args.is_terminal (g.R.Read.remaining c.args.reader.now) c.args.files.now)
    (g.W.Write.contents c.args.writer.now) (g.W.Write.contents c.show.new.writer) (Err OutOfMemory) (g.R.Read.remaining c.read_up_to.new.reader) c.take.new.files
    (starved g.S.SaveFile.saves g.S.SaveFile.gives c.args.is_terminal (nothing_typed c.args.is_terminal (g.R.Read.remaining c.args.reader.now) c.args.files.now)
    (g.W.Write.contents c.args.writer.now) (g.W.Write.contents c.show.new.writer) (g.R.Read.remaining c.reads.reader) (g.R.Read.remaining c.read_up_to.new.reader) c.reads.typed.line.items c.reads.typed.is_long c.reads.typed.dialog c.reads.typed.unsaved c.reads.files c.take.new.files
    (take c.in-Ok-read_up_to.count c.read_up_to.new.chunk) c.show.new.out.items
    (shown g.S.SaveFile.saves g.S.SaveFile.gives c.args.is_terminal (nothing_typed c.args.is_terminal (g.R.Read.remaining c.args.reader.now) c.args.files.now)
    (g.W.Write.contents c.args.writer.now) (g.W.Write.contents c.reads.writer) (g.W.Write.contents c.show.new.writer) c.reads.out.items (g.R.Read.remaining c.reads.reader)
    c.reads.typed.line.items c.reads.typed.is_long c.reads.typed.dialog c.reads.typed.unsaved c.reads.files c.reads.invariant.sits c.in-Ok-show.ensures.shown)
    c.in-Ok-show.ensures.emptied c.in-Ok-read_up_to.ensures.bytes c.in-Err-take.ensures.starves)

pub returns-in-Ok-true : goal.returns-in-Ok-true
returns-in-Ok-true g c =
    ended g.S.SaveFile.saves g.S.SaveFile.gives c.args.is_terminal (nothing_typed c.args.is_terminal (g.R.Read.remaining c.args.reader.now) c.args.files.now)
    (g.W.Write.contents c.args.writer.now) (g.W.Write.contents c.write_and_flush.new.writer) c.write_and_flush.result (g.R.Read.remaining c.read_up_to.new.reader) c.take.new.files
    (finished g.S.SaveFile.saves g.S.SaveFile.gives c.args.is_terminal (nothing_typed c.args.is_terminal (g.R.Read.remaining c.args.reader.now) c.args.files.now)
    (g.W.Write.contents c.args.writer.now) (g.W.Write.contents c.show.new.writer) (g.W.Write.contents c.write_and_flush.new.writer) (g.R.Read.remaining c.reads.reader) (g.R.Read.remaining c.read_up_to.new.reader) c.reads.typed.line.items c.reads.typed.is_long c.reads.typed.dialog c.reads.typed.unsaved c.reads.files c.take.new.files
    (take c.in-Ok-read_up_to.count c.read_up_to.new.chunk) c.show.new.out.items c.take.new.out.items (moment c.take.new.typed.dialog c.take.new.typed.unsaved c.take.new.files c.take.new.out.items) c.write_and_flush.result
    (shown g.S.SaveFile.saves g.S.SaveFile.gives c.args.is_terminal (nothing_typed c.args.is_terminal (g.R.Read.remaining c.args.reader.now) c.args.files.now)
    (g.W.Write.contents c.args.writer.now) (g.W.Write.contents c.reads.writer) (g.W.Write.contents c.show.new.writer) c.reads.out.items (g.R.Read.remaining c.reads.reader)
    c.reads.typed.line.items c.reads.typed.is_long c.reads.typed.dialog c.reads.typed.unsaved c.reads.files c.reads.invariant.sits c.in-Ok-show.ensures.shown)
    c.in-Ok-show.ensures.emptied (is_read c.read_up_to.new.chunk c.in-Ok-read_up_to.count (g.R.Read.remaining c.reads.reader) (g.R.Read.remaining c.read_up_to.new.reader) c.in-Ok-read_up_to.ensures.chunk
    c.in-Ok-read_up_to.ensures.bytes (c.in-Ok-read_up_to.ensures.end (omega arith) (omega (arith, c.reads.invariant.room))))
    (λ front k. c.in-Ok-true.ensures.ends front k c.in-Ok-true.field-0-test) refl refl
    c.write_and_flush.ensures.written c.write_and_flush.ensures.fault c.write_and_flush.ensures.memory)

pub reads-preserved : goal.reads-preserved
reads-preserved g c = record {
  sits = went_on g.S.SaveFile.saves g.S.SaveFile.gives c.args.is_terminal (nothing_typed c.args.is_terminal (g.R.Read.remaining c.args.reader.now) c.args.files.now)
      (g.W.Write.contents c.args.writer.now) (g.W.Write.contents c.show.new.writer) (g.R.Read.remaining c.reads.reader) (g.R.Read.remaining c.read_up_to.new.reader) c.reads.typed.line.items c.take.new.typed.line.items c.reads.typed.is_long c.take.new.typed.is_long
      c.reads.typed.dialog c.take.new.typed.dialog c.reads.typed.unsaved c.take.new.typed.unsaved c.reads.files c.take.new.files
      (take c.in-Ok-read_up_to.count c.read_up_to.new.chunk) c.show.new.out.items c.take.new.out.items
      (shown g.S.SaveFile.saves g.S.SaveFile.gives c.args.is_terminal (nothing_typed c.args.is_terminal (g.R.Read.remaining c.args.reader.now) c.args.files.now)
      (g.W.Write.contents c.args.writer.now) (g.W.Write.contents c.reads.writer) (g.W.Write.contents c.show.new.writer) c.reads.out.items (g.R.Read.remaining c.reads.reader)
      c.reads.typed.line.items c.reads.typed.is_long c.reads.typed.dialog c.reads.typed.unsaved c.reads.files c.reads.invariant.sits c.in-Ok-show.ensures.shown)
      c.in-Ok-show.ensures.emptied (is_read c.read_up_to.new.chunk c.in-Ok-read_up_to.count (g.R.Read.remaining c.reads.reader) (g.R.Read.remaining c.read_up_to.new.reader) c.in-Ok-read_up_to.ensures.chunk
      c.in-Ok-read_up_to.ensures.bytes (c.in-Ok-read_up_to.ensures.end (omega arith) (omega (arith, c.reads.invariant.room))))
      (λ front k. c.in-Ok-false.ensures.goes front k c.in-Ok-false.field-0-test);
  room = omega (arith, c.reads.invariant.room);
}

pub returns-in-Ok-show-2 : goal.returns-in-Ok-show-2
returns-in-Ok-show-2 g c =
    ended g.S.SaveFile.saves g.S.SaveFile.gives c.args.is_terminal (nothing_typed c.args.is_terminal (g.R.Read.remaining c.args.reader.now) c.args.files.now)
    (g.W.Write.contents c.args.writer.now) (g.W.Write.contents c.show-2.new.writer) (Err ReadFault) (g.R.Read.remaining c.reads.reader) c.reads.files
    (never_read g.S.SaveFile.saves g.S.SaveFile.gives c.args.is_terminal (nothing_typed c.args.is_terminal (g.R.Read.remaining c.args.reader.now) c.args.files.now)
    (g.W.Write.contents c.args.writer.now) (g.W.Write.contents c.show-2.new.writer) (g.R.Read.remaining c.reads.reader) c.reads.typed.line.items c.reads.typed.is_long c.reads.typed.dialog c.reads.typed.unsaved c.reads.files
    (shown g.S.SaveFile.saves g.S.SaveFile.gives c.args.is_terminal (nothing_typed c.args.is_terminal (g.R.Read.remaining c.args.reader.now) c.args.files.now)
    (g.W.Write.contents c.args.writer.now) (g.W.Write.contents c.reads.writer) (g.W.Write.contents c.show-2.new.writer) c.reads.out.items (g.R.Read.remaining c.reads.reader)
    c.reads.typed.line.items c.reads.typed.is_long c.reads.typed.dialog c.reads.typed.unsaved c.reads.files c.reads.invariant.sits c.in-Ok-show-2.ensures.shown))

pub returns : goal.returns
returns g c =
    ended g.S.SaveFile.saves g.S.SaveFile.gives c.args.is_terminal (nothing_typed c.args.is_terminal (g.R.Read.remaining c.args.reader.now) c.args.files.now)
    (g.W.Write.contents c.args.writer.now) (g.W.Write.contents c.show-2.new.writer) (Err c.in-Err-show-2.fault) (g.R.Read.remaining c.reads.reader) c.reads.files
    (not_shown g.S.SaveFile.saves g.S.SaveFile.gives c.args.is_terminal (nothing_typed c.args.is_terminal (g.R.Read.remaining c.args.reader.now) c.args.files.now)
    (g.W.Write.contents c.args.writer.now) (g.W.Write.contents c.reads.writer) (g.W.Write.contents c.show-2.new.writer) c.reads.out.items (g.R.Read.remaining c.reads.reader)
    c.reads.typed.line.items c.reads.typed.is_long c.reads.typed.dialog c.reads.typed.unsaved c.reads.files c.in-Err-show-2.fault c.reads.invariant.sits c.in-Err-show-2.ensures.fault)
