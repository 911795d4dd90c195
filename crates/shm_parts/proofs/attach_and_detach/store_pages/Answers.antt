use Rattle.std.proofs.Common.{◌≡◌, ◌∙◌, ℕ, ap, sym, ⊎_elim, arith}
use Rattle.std.proofs.lemmas.Bool.{cases_lt}
use Rattle.shm_parts.specs.Entries.{is_stored}
use Rattle.shm_parts.specs.Reach.{manages}
use Rattle.shm_parts.proofs.ManagerLemmas.{manager_behind}
use Rattle.shm_parts.proofs.attach_and_detach.store_pages.Goals as goal

pub returns-in_err-place-clause-same : goal.returns-in_err-place-clause-same
returns-in_err-place-clause-same g c = c.store_managed.ensures.same ∙ c.pages.invariant.same

pub pages-preserved : goal.pages-preserved
pages-preserved g c = record {
  same = c.store_managed.ensures.same ∙ c.pages.invariant.same;
  stored = λ index below mine.
      ⊎_elim
      (λ before. c.store_managed.ensures.others (record { seg = c.args.id; index = index }) (c.pages.invariant.stored index before mine))
      (λ after.
      let last : ◌≡◌ {A = ℕ} index c.pages.index = omega arith in
      ap (λ (n : ℕ). is_stored c.store_managed.new.entries (record { seg = c.args.id; index = n })) last
      ∙ c.in_ok-place.ensures.stored (ap (λ (n : ℕ). manages c.args.sites c.args.me (record { seg = c.args.id; index = n })) (sym last) ∙ mine))
      (cases_lt index c.pages.index);
  manager = c.behind-manager.ensures.next ∙ manager_behind c.args.sites c.args.id c.pages.index c.pages.manager c.pages.invariant.manager;
  below = c.behind-manager.ensures.below;
  others = λ other h. c.store_managed.ensures.others other (c.pages.invariant.others other h);
}
