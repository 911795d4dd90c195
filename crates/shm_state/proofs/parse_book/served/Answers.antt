use Rattle.std.proofs.Common.{rules, arith}
use Rattle.shm_state.proofs.ServedWords.{numbers_end, numbers_on, numbers_stop}
use Rattle.shm_state.proofs.parse_book.served.Goals as goal

pub returns-in_err-number : goal.returns-in_err-number
returns-in_err-number c =
    numbers_stop c.args.words c.sites.words c.sites.numbers c.sites.site c.from_residual.result c.sites-test.true c.sites.invariant.1 (search rules) (search rules)

pub sites-preserved : goal.sites-preserved
sites-preserved c =
    numbers_on c.args.words c.sites.words c.in_ok-number.others c.sites.numbers c.sites.site c.in_ok-number.number c.sites-test.true c.sites.invariant.0 c.sites.invariant.1
    (search rules)

pub returns : goal.returns
returns c =
    numbers_end c.args.words c.sites.words c.sites.numbers c.sites.site (omega (arith, c.sites-test.false, c.sites.auto.site-end)) c.sites.invariant.0 c.sites.invariant.1
