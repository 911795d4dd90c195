use Rattle.std.proofs.Common.{◌≡◌, ◌||◌, ◌&&◌, ◌==◌, nat_lt, true, Some, sym, ◌∙◌, ap}
use Rattle.shm_model.specs.Permission.{Segment, destroyed}
use Rattle.shm_keys.specs.Purge.{missing_after, missing_in}
use Rattle.shm_keys.proofs.Purges.{none_missing}
use Rattle.shm_keys.proofs.Changes.{begun}
use Rattle.shm_keys.proofs.replace_segment.settle.Goals as goal

pub returns-then-is_destroyed-clause-gone : goal.returns-then-is_destroyed-clause-gone
returns-then-is_destroyed-clause-gone g c =
    let gone : destroyed c.args.after.now ≡ true = sym c.is_destroyed.ensures ∙ c.if-is_destroyed.true in
    let id_is : c.after.inside.id ≡ c.args.after.now.id = ap (λ (g : Segment). g.id) c.after.view_is in
    rw gone (ap Some id_is)

pub returns-then-is_destroyed-clause-missing : goal.returns-then-is_destroyed-clause-missing
returns-then-is_destroyed-clause-missing g c = λ id site.
    let old = missing_in c.args.purges.now.items in
    let none = none_missing c.args.purges.now.items c.args.after.now.id site c.requires.absent in
    let id_is : c.after.inside.id ≡ c.args.after.now.id = ap (λ (g : Segment). g.id) c.after.view_is in
    let added : missing_in c.begin.new.purges.items id site ≡ (old id site || ((id == c.args.after.now.id) && nat_lt site c.args.sites)) =
    c.begin.ensures.missing id site ∙ ap (λ n. old id site || ((id == n) && nat_lt site c.args.sites)) id_is in
    added ∙ begun old c.args.after.now.id c.args.sites id site none ∙ ap (λ n. missing_after (Some n) c.args.sites old id site) (sym id_is)

pub returns-then-is_destroyed-clause-pass : goal.returns-then-is_destroyed-clause-pass
returns-then-is_destroyed-clause-pass g c = λ test all here.
    let gone : destroyed c.args.after.now ≡ true = sym c.is_destroyed.ensures ∙ c.if-is_destroyed.true in
    let id_is : c.after.inside.id ≡ c.args.after.now.id = ap (λ (g : Segment). g.id) c.after.view_is in
    c.begin.ensures.pass test all (ap test id_is ∙ here gone)
