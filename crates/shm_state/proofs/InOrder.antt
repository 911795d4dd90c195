-- Parts that are told in their order.
use Rattle.std.proofs.Common.{◌≡◌, ◌∙◌, ℕ, ◌<◌, ◌&&◌, true, false, nat_le, List, [], ◌∷◌, ◌++◌, map, None, ◌==◌, refl, ap, subst, sym, arith}
use Rattle.std.proofs.lemmas.Bool.Decides.{nat_tests}
use Rattle.std.proofs.lemmas.List.{map-append}
use Rattle.shm_model.specs.declared.call.Op.{Op}
use Rattle.shm_state.proofs.Tellings.{all-push}
use Rattle.shm_state.specs.Part.{Part, Requests, Calls, Outstanding, Segment, Missing, Kept, Entry, Purged, Attachment, Book}
use Rattle.shm_state.specs.PartOf.{part_in}
use Rattle.shm_state.specs.Stage.{is_due, is_whole, rank, stage_of}
use Rattle.shm_state.specs.Telling.{AreDue, AreOrdered, is_taken, said_by, stage_told}
use Rattle.shm_state.specs.Told.{told_all, told_nothing, told_with, Told}
use Rattle.shm_state.specs.declared.part.Part.{Part as CodePart}
use Rattle.shm_state.specs.declared.part.Part.TheVariants as code
use Rattle.shm_state.specs.declared.told_stage.Stage.{Stage}
use Rattle.shm_state.specs.declared.told_stage.Stage.TheVariants as stage

due-push : (told : Told) (parts : List Part) (part : Part) → AreDue told parts → is_due (told_all parts told).last (stage_of part) ≡ true
    → is_taken part (told_all parts told).state ≡ false → AreDue told (parts ++ part ∷ [])
unfolding AreDue told_all
due-push told [] part due next free = (next, free, tt)
due-push told (p ∷ ps) part due next free = (due.0, due.1, due-push (told_with p told) ps part due.2 next free)

stage-push : {A : Type 0} (parts : List (CodePart A)) (part : CodePart A) → stage_told (parts ++ part ∷ []) ≡ stage_of (part_in part)
stage-push parts part =
    ap (λ (ps : List Part). (told_all ps told_nothing).last) (map-append part_in parts (part ∷ []))
    ∙ ap (λ (t : Told). t.last) (all-push (map part_in parts) (part_in part) told_nothing)

as_far : (n : ℕ) → nat_le n n ≡ true
as_far n = grind (arith, nat_tests)

wholly : (n : ℕ) → 1 < n → nat_le 2 n ≡ true
wholly n h = grind (arith, nat_tests)

-- a part that is due behind these is in its order
pub ordered-push : {A : Type 0} (parts : List (CodePart A)) (part : CodePart A) → AreDue told_nothing (map part_in parts)
    → is_due (stage_told parts) (stage_of (part_in part)) ≡ true → is_taken (part_in part) (said_by parts) ≡ false → 1 < rank (stage_of (part_in part))
    → AreOrdered (stage_of (part_in part)) (parts ++ part ∷ [])
ordered-push parts part due next free whole =
    let last = stage-push parts part in
    record {
      due = subst (AreDue told_nothing) (sym (map-append part_in parts (part ∷ []))) (due-push told_nothing (map part_in parts) (part_in part) due next free);
      whole = ap is_whole last ∙ wholly (rank (stage_of (part_in part))) whole;
      latest = ap (λ s. nat_le (rank s) (rank (stage_of (part_in part)))) last ∙ as_far (rank (stage_of (part_in part)));
    }

within : (n m : ℕ) → nat_le 2 n ≡ true → nat_le n m ≡ true → (nat_le 2 n && nat_le n m) ≡ true
within n m least most = grind (arith, nat_tests)

due_later : (last : Stage) (part : Part) → 3 < rank (stage_of part) → is_whole last ≡ true → nat_le (rank last) (rank (stage_of part)) ≡ true
    → is_due last (stage_of part) ≡ true
due_later last (Requests number) later whole most = absurd (omega (arith, later))
due_later last (Calls number) later whole most = absurd (omega (arith, later))
due_later last (Outstanding number op) later whole most = absurd (omega (arith, later))
due_later last (Segment segment) later whole most = within (rank last) 4 whole most
due_later last (Missing purge) later whole most = within (rank last) 5 whole most
due_later last (Kept site number reply) later whole most = within (rank last) 6 whole most
due_later last (Purged id) later whole most = within (rank last) 7 whole most
due_later last (Entry page entry) later whole most = within (rank last) 8 whole most
due_later last (Attachment number attachment) later whole most = within (rank last) 9 whole most
due_later last (Book page book) later whole most = within (rank last) 10 whole most

-- ---- the first parts

pub counts-said : {A : Type 0} (requests begun : ℕ) (parts : List (CodePart A)) → parts ≡ code.Requests requests ∷ code.Calls begun ∷ []
    → said_by parts ≡ record told_nothing.state { requests = requests; calls = record { begun = begun; outstanding = None } }
unfolding told_all
counts-said {A = A} requests begun parts is = ap (λ (ps : List (CodePart A)). said_by ps) is

pub counts-ordered : {A : Type 0} (requests begun : ℕ) (parts : List (CodePart A)) → parts ≡ code.Requests requests ∷ code.Calls begun ∷ [] → AreOrdered stage.Calls parts
unfolding told_all AreDue
counts-ordered {A = A} requests begun parts is = subst (λ (ps : List (CodePart A)). AreOrdered stage.Calls ps) (sym is) (record {
  due = (refl, refl, (refl, refl, tt));
  whole = refl;
  latest = refl;
})

two : (n : ℕ) → nat_le 2 n ≡ true → nat_le n 2 ≡ true → (n == 2) ≡ true
two n least most = grind (arith, nat_tests)

pub outstanding-ordered : {A : Type 0} (parts : List (CodePart A)) (number : ℕ) (op : Op) → AreOrdered stage.Calls parts
    → AreOrdered stage.Outstanding (parts ++ code.Outstanding number op ∷ [])
outstanding-ordered parts number op order =
    ordered-push parts (code.Outstanding number op) order.due (two (rank (stage_told parts)) order.whole order.latest) refl (omega arith)

-- ---- the later parts

middle : (n : ℕ) → 3 < n → 1 < n
middle n h = omega (arith, h)

-- a part that may stand behind others of its kind
pub ordered-next : {A : Type 0} (parts : List (CodePart A)) (part : CodePart A) → 3 < rank (stage_of (part_in part))
    → AreOrdered (stage_of (part_in part)) parts → is_taken (part_in part) (said_by parts) ≡ false → AreOrdered (stage_of (part_in part)) (parts ++ part ∷ [])
ordered-next parts part later order free =
    ordered-push parts part order.due (due_later (stage_told parts) (part_in part) later order.whole order.latest) free
    (middle (rank (stage_of (part_in part))) later)
