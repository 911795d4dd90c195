use Rattle.std.proofs.Common.{rules, ◌≡◌, ◌++◌, ◌∷◌, ◌∙◌, [], None, ap, ap₂, length, refl, subst, sym, vec_len}
use Rattle.std.specs.Prelude.{map}
use Rattle.std.proofs.lemmas.Iterator.Adapters.{YieldsList-from_vec}
use Rattle.std.proofs.lemmas.Iterator.Consumers.{YieldsList-end}
use Rattle.std.proofs.lemmas.List.{map-id, map_push}
use Rattle.shm_state.specs.PartOf.{part_in}
use Rattle.shm_state.specs.Told.{told_all, told_nothing, wrong}
use Rattle.shm_state.specs.ToldOf.{Tells}
use Rattle.shm_journal.specs.Shortened.{AreTold}
use Rattle.shm_journal.proofs.Shortening.{all_more, told_one}
use Rattle.shm_journal.proofs.journal_shortening.take_parts.Goals as goal

pub parts-init : goal.parts-init
unfolding told_all
parts-init g c = record {
  seat = c.new-told.ensures.seat;
  tells = c.new-told.ensures.told;
  told = refl;
}

pub parts-preserved : goal.parts-preserved
parts-preserved g c =
    let part = c.in-Some.part in
    let seen = c.parts.yielded in
    let before = c.parts.invariant in
    let said = told_all (map part_in seen) told_nothing in
    let more : map part_in (seen ++ part ∷ []) ≡ map part_in seen ++ part_in part ∷ [] = map_push part_in seen part in
    let takes = c.take.ensures.told said before.tells in
    let right : wrong c.parts.told.sites c.parts.told.me (part_in part) said ≡ None = search (rules, takes.right) in
    record {
      seat = (c.take.ensures.seat.0 ∙ before.seat.0, c.take.ensures.seat.1 ∙ before.seat.1);
      tells = subst (Tells c.take.new.self) (sym (all_more (map part_in seen) (part_in part) told_nothing) ∙ ap (λ ps. told_all ps told_nothing) (sym more)) (search (rules, takes.taken));
      told = subst (AreTold c.args.sites c.args.me) (sym more)
          (told_one c.args.sites c.args.me (map part_in seen) (part_in part) before.told
          (ap₂ (λ sites me. wrong sites me (part_in part) said) (sym before.seat.0) (sym before.seat.1) ∙ right));
    }

pub returns : goal.returns
returns g c =
    let given = c.into_iter-part-iterator.ensures.into_iter_gives in
    let counted : vec_len c.args.parts ≡ length c.args.parts.items = search rules in
    let end =
    YieldsList-end (YieldsList-from_vec c.args.parts.items given.0 (given.1 ∙ counted)) c.parts.yielded c.parts.part-iterator c.parts.yielded_by
    c.next.result c.next.new.self c.in-None.is c.next.ensures.steps in
    let all : c.parts.yielded ≡ c.args.parts.items = sym (map-id c.parts.yielded) ∙ end.0 in
    subst (λ ps. AreTold c.args.sites c.args.me (map part_in ps)) all c.parts.invariant.told
