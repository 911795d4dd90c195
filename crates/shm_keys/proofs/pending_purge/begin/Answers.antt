use Rattle.std.proofs.Common.{◌≡◌, ◌||◌, ◌&&◌, ◌==◌, Bool, nat_lt, ap, ◌∙◌, subst, sym, arith}
use Rattle.std.proofs.lemmas.Grind.{common_steps}
use Rattle.std.specs.List.{insert}
use Rattle.shm_place.specs.SiteSet.{has}
use Rattle.shm_keys.specs.Purge.{missing_in, IsRising}
use Rattle.shm_keys.specs.declared.pending_purge.Purge.{Purge}
use Rattle.shm_keys.proofs.Purges.{missing-insert, rising-insert}
use Rattle.shm_keys.proofs.pending_purge.begin.Goals as goal

or_turned : (a b c d : Bool) → b ≡ d → ((a && b) || c) ≡ (c || (a && d))
or_turned a b c d e = grind arith

pub returns-clause-missing : goal.returns-clause-missing
returns-clause-missing g c = λ other site.
    let purges = c.args.purges.now.items in
    let purge : Purge = record { id = c.args.id; missing = c.all.result } in
    let inserted : c.insert.new.self.items ≡ insert purges c.place_of-place.result purge = grind (arith, common_steps) in
    ap (λ ps. missing_in ps other site) inserted ∙ missing-insert purges c.place_of-place.result purge other site
    ∙ or_turned (other == c.args.id) (has c.all.result site) (missing_in purges other site) (nat_lt site c.args.sites) (c.all.ensures.sites site)

pub returns-clause-rising : goal.returns-clause-rising
returns-clause-rising g c =
    let purges = c.args.purges.now.items in
    let purge : Purge = record { id = c.args.id; missing = c.all.result } in
    let inserted : c.insert.new.self.items ≡ insert purges c.place_of-place.result purge = grind (arith, common_steps) in
    subst IsRising (sym inserted) (rising-insert purges c.place_of-place.result purge c.requires.rising (omega arith)
    (λ k d lt. rw (c.as_slice.ensures.value, c.id.view_is) at (c.place_of-place.ensures.below k d lt))
    (λ k d le lt. let h = rw (c.as_slice.ensures.value, c.id.view_is) at (c.place_of-place.ensures.above k d le (omega arith)) in let apart = c.requires.absent k d lt in omega (arith, h, apart)))
