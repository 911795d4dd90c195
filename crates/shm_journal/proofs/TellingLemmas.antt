-- A state that is told line by line, as the code has it and as the definitions do.
use Rattle.std.proofs.Common.{◌≡◌, ◌∙◌, ℕ, true, false, List, [], None, Some, cond, refl, ap, sym, subst}
use Rattle.std.specs.Prelude.{◌++◌, ◌∷◌, option_map}
use Rattle.shm_model.specs.Site.{Site}
use Rattle.shm_process.specs.NodeOf.{node_of}
use Rattle.shm_process.specs.declared.node.Node.{Node}
use Rattle.shm_site.specs.State.{site_from}
use Rattle.shm_state.specs.Part.{Part}
use Rattle.shm_state.specs.Stage.{is_whole}
use Rattle.shm_state.specs.Told.{told_with, wrong}
use Rattle.shm_state.specs.ToldOf.{SameSeat, Tells}
use Rattle.shm_state.specs.declared.take_fault.TakeFault.{TakeFault}
use Rattle.shm_state.specs.declared.told_state.Told.{Told}
use Rattle.shm_wire.specs.declared.mapping_text.Mapping.{Mapping}
use Rattle.shm_journal.specs.StageOf.{IsTelling, IsTold}
use Rattle.shm_journal.specs.Stages as stages
use Rattle.shm_journal.specs.Stages.{InState, Open, resumed, resumed_if, tells, told_by, unless_wrong, with_mapping, with_told}
use Rattle.shm_journal.specs.StateLines.{Ending, OfEnding, OfMapping, OfPart}
use Rattle.shm_journal.specs.declared.state_telling.Onward.{Onward}
use Rattle.shm_journal.specs.declared.state_telling.Onward.TheVariants.{Further, Resumed}
use Rattle.shm_journal.specs.declared.state_telling.Telling.{Telling}

-- ---- a part

told-right : (t : stages.Telling) (part : Part) → wrong t.sites t.me part t.told ≡ None → told_by t part ≡ Some (told_with part t.told)
unfolding told_by
told-right t part h = ap (λ o. unless_wrong o (told_with part t.told)) h

told-wrong : (t : stages.Telling) (part : Part) (fault : TakeFault) → wrong t.sites t.me part t.told ≡ Some fault → told_by t part ≡ None
unfolding told_by
told-wrong t part fault h = ap (λ o. unless_wrong o (told_with part t.told)) h

-- what is wrong with the part, of the site that the code has
seated : {A : Type 0} (old : Telling A) (t : stages.Telling) (part : Part) → IsTelling old t
    → wrong t.sites t.me part t.told ≡ wrong old.told.sites old.told.me part t.told
seated old t part h = λ i. wrong (sym h.sites i) (sym h.me i) part t.told

pub part_told : {A : Type 0} (old new : Telling A) (t : stages.Telling) (part : Part) → IsTelling old t → wrong old.told.sites old.told.me part t.told ≡ None
    → Tells new.told (told_with part t.told) → SameSeat old.told new.told → new.mapped.items ≡ old.mapped.items
    → IsTold (Some (Further new)) (tells t (OfPart part))
part_told old new t part h right told seat mapped =
    let next = with_told t (told_with part t.told) in (
      InState next,
      ap (λ o. option_map (λ told. InState (with_told t told)) o) (told-right t part (seated old t part h ∙ right)),
      (next, record { sites = seat.0 ∙ h.sites; me = seat.1 ∙ h.me; tells = told; mapped = mapped ∙ h.mapped }, refl),
    )

pub part_refused : {A : Type 0} (old : Telling A) (t : stages.Telling) (part : Part) (fault : TakeFault) → IsTelling old t
    → wrong old.told.sites old.told.me part t.told ≡ Some fault → IsTold {A = A} None (tells t (OfPart part))
part_refused old t part fault h is =
    ap (λ o. option_map (λ told. InState (with_told t told)) o) (told-wrong t part fault (seated old t part h ∙ is))

-- ---- a mapping

pub mapping_told : {A : Type 0} (old new : Telling A) (t : stages.Telling) (m : Mapping) → IsTelling old t → new.told ≡ old.told
    → new.mapped.items ≡ old.mapped.items ++ m ∷ [] → IsTold (Some (Further new)) (tells t (OfMapping m))
mapping_told {A} old new t m h told mapped =
    let next = with_mapping t m in (
      InState next,
      refl,
      (
        next,
        record {
          sites = ap (λ (x : Told A). x.sites) told ∙ h.sites;
          me = ap (λ (x : Told A). x.me) told ∙ h.me;
          tells = subst (λ (x : Told A). Tells x t.told) (sym told) h.tells;
          mapped = mapped ∙ ap (λ l. l ++ m ∷ []) h.mapped;
        },
        refl,
      ),
    )

-- ---- the end

whole-is : (t : stages.Telling) (ending : Ending) → is_whole t.told.last ≡ true → resumed_if t ending ≡ Some (resumed t ending)
unfolding resumed_if
whole-is t ending h = ap (λ b. cond b (Some (resumed t ending)) None) h

unfinished-is : (t : stages.Telling) (ending : Ending) → is_whole t.told.last ≡ false → resumed_if t ending ≡ None
unfolding resumed_if
unfinished-is t ending h = ap (λ b. cond b (Some (resumed t ending)) None) h

pub end_refused : {A : Type 0} (old : Telling A) (t : stages.Telling) (ending : Ending) → IsTelling old t → is_whole old.told.last ≡ false
    → IsTold {A = A} None (tells t (OfEnding ending))
end_refused old t ending h is = ap (λ o. option_map Open o) (unfinished-is t ending (ap is_whole (sym h.tells.last) ∙ is))

node-resumed : (t : stages.Telling) (ending : Ending) (sites me : ℕ) (site : Site) (mapped : List Mapping) → sites ≡ t.sites → me ≡ t.me
    → site ≡ site_from t.sites t.me t.told.state → mapped ≡ t.mapped
    → record (resumed t ending) { sites = sites; me = me; site = site; mapped = mapped } ≡ resumed t ending
node-resumed t ending sites me site mapped a b s m = λ i. record (resumed t ending) { sites = a i; me = b i; site = s i; mapped = m i }

pub end_told : {A : Type 0} (old : Telling A) (node : Node A) (t : stages.Telling) (ending : Ending) (sites me : ℕ) (site : Site) → IsTelling old t
    → is_whole old.told.last ≡ true → (sites ≡ old.told.sites) × (me ≡ old.told.me) → site ≡ site_from old.told.sites old.told.me t.told.state
    → node_of node ≡ record (resumed t ending) { sites = sites; me = me; site = site; mapped = old.mapped.items }
    → IsTold (Some (Resumed node)) (tells t (OfEnding ending))
end_told old node t ending sites me site h whole seat made is =
    let same =
    node-resumed t ending sites me site old.mapped.items (seat.0 ∙ h.sites) (seat.1 ∙ h.me) (made ∙ (λ i. site_from (h.sites i) (h.me i) t.told.state)) h.mapped in
    (Open (resumed t ending), ap (λ o. option_map Open o) (whole-is t ending (ap is_whole (sym h.tells.last) ∙ whole)), ap Open (sym (is ∙ same)))
