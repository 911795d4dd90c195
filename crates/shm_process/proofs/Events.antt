-- Events one after another, and the entries of them.
use Rattle.std.proofs.Common.{◌≡◌, List, [], ◌∷◌, ◌++◌, refl, ap, sym, ◌∙◌}
use Rattle.std.specs.List.{All}
use Rattle.std.specs.Prelude.{Option, Some, None}
use Rattle.std.proofs.lemmas.List.{append_assoc}
use Rattle.std.proofs.lemmas.List.Elements.{All-cons, All-head, All-nil, All-tail}
use Rattle.shm_process.specs.Node.{Node, Said}
use Rattle.shm_process.specs.Recorded.{Entry, Event, after_event, after_events, all_steps, entries_of, entries_text, entry_line, recorded, said_at, steps_of}

more-recorded : (said : Option Said) (xs ys : List Entry) → recorded said (xs ++ ys) ≡ recorded said xs ++ ys
more-recorded None xs ys = refl
more-recorded (Some said) xs ys = refl

pub after-both : (xs ys : List Event) (node : Node) → after_events node (xs ++ ys) ≡ after_events (after_events node xs) ys
after-both [] ys node = refl
after-both (x ∷ xs) ys node = after-both xs ys (after_event node x)

pub entries-both : (xs ys : List Event) (node : Node) → entries_of node (xs ++ ys) ≡ entries_of node xs ++ entries_of (after_events node xs) ys
entries-both [] ys node = refl
entries-both (x ∷ xs) ys node =
    ap (recorded (said_at node x)) (entries-both xs ys (after_event node x))
    ∙ more-recorded (said_at node x) (entries_of (after_event node x) xs) (entries_of (after_events (after_event node x) xs) ys)

pub text-both : (xs ys : List Entry) → entries_text (xs ++ ys) ≡ entries_text xs ++ entries_text ys
text-both [] ys = refl
text-both (x ∷ xs) ys =
    ap (λ t. entry_line x ++ 10 ∷ t) (text-both xs ys) ∙ sym (append_assoc (entry_line x) (10 ∷ entries_text xs) (entries_text ys))

-- the steps of entries, and of others behind them
pub steps_both : (xs ys : List Entry) → all_steps (xs ++ ys) ≡ all_steps xs ++ all_steps ys
steps_both [] ys = refl
steps_both (x ∷ xs) ys = ap (λ rest. steps_of x ++ rest) (steps_both xs ys) ∙ sym (append_assoc (steps_of x) (all_steps xs) (all_steps ys))

pub All-front : {X : Type 0} (P : X → Type 0) (xs ys : List X) → All P (xs ++ ys) → All P xs
All-front P [] ys all = All-nil P
All-front P (x ∷ xs) ys all = All-cons P x xs (All-head P x (xs ++ ys) all) (All-front P xs ys (All-tail P x (xs ++ ys) all))

pub All-back : {X : Type 0} (P : X → Type 0) (xs ys : List X) → All P (xs ++ ys) → All P ys
All-back P [] ys all = all
All-back P (x ∷ xs) ys all = All-back P xs ys (All-tail P x (xs ++ ys) all)
