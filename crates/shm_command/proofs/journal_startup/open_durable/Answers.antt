use Rattle.std.proofs.Common.{◌≡◌, ◌∙◌, sym, true, Result, Ok, Err}
use Rattle.std.specs.Result.{OnErr, is_err}
use Rattle.shm_command.proofs.journal_startup.open_durable.Goals as goal

-- what every error says holds where there is one
said : {T E : Type 0} (P : Type 0) (r : Result T E) → is_err r ≡ true → OnErr r P → P
said P (Ok x) e h = absurd (cc)
said P (Err x) e h = h

pub returns-then-is_err-2-clause-refused : goal.returns-then-is_err-2-clause-refused
returns-then-is_err-2-clause-refused g c =
    said (c.args.found.is_new ≡ true) c.list_new.result (sym c.is_err-2.ensures.value ∙ c.if-is_err-2.true) c.list_new.ensures
