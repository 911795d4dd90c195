use Rattle.std.proofs.Common.{◌≡◌, length}
use Rattle.shm_prompt.specs.Sitting.{nothing_typed}
use Rattle.shm_prompt.proofs.SittingLemmas.{Sits}
use Rattle.shm_prompt.proofs.prompt_loop.prompt.Given as goal

abbrev pub invariant-reads : goal.invariant-reads
invariant-reads g l = record {
  sits : Sits g.S.SaveFile.saves g.S.SaveFile.gives l.is_terminal (nothing_typed l.is_terminal (g.R.Read.remaining l.fn.reader) l.fn.files)
      (g.W.Write.contents l.fn.writer) (g.W.Write.contents l.writer) l.out.items (g.R.Read.remaining l.reader) l.typed.line.items l.typed.is_long l.typed.dialog
      l.typed.unsaved l.files;
  room : length l.chunk ≡ 4096;
}
