-- What is told to the lines of a script, and what `run` leads to.
use Rattle.std.proofs.Common.{◌≡◌, ℕ, ◌+◌, ◌<◌, ◌≤◌, ◌⊎◌, inl, inr, Bool, true, false, not, is_some, List, [], ◌∷◌, ◌++◌, codes, length, Option, None, Some, IfNone, IfSome, Result, Ok, Err, refl, sym, ap, subst, ◌∙◌, arith, append_assoc, append-nil, length-append}
use Rattle.std.specs.Prelude.{OnErr}
use Rattle.std.proofs.lemmas.Bool.{cases_lt}
use Rattle.shm_model.specs.World as model
use Rattle.shm_model.specs.declared.event.Event.TheVariants as event
use Rattle.shm_lines.specs.Line.{is_first}
use Rattle.shm_lines.specs.declared.script_line.Line.{Line}
use Rattle.shm_lines.specs.declared.script_line.Line.TheVariants as line
use Rattle.shm_world.proofs.Runs.{run-then}
use Rattle.shm_text.specs.Text.{line_text}
use Rattle.shm_debug.specs.Said.{next}
use Rattle.shm_debug.specs.Standing.{Standing, with_event, world_of}
use Rattle.shm_progress.specs.Deliveries.{IsAtRest}
use Rattle.shm_progress.specs.Rest.Deliveries.{AreOldest, FirstFrom, NoneFrom}
use Rattle.shm_prompt.specs.Dialog.{answered, said_to, not_begun, delivered, told_of_deliveries, Deliveries, Delivered, Ran, SomeDelivered, run_end}
use Rattle.shm_progress.proofs.Rest.Deliveries.{passed-on}

-- ---- lines

pub told-first : (s : Option Standing) (l : Line) → is_first l ≡ true → said_to s l ≡ line_text 1 (codes "ready")
told-first s (line.Sites opening) h = refl
told-first s (line.Event e) h = absurd (cc)
told-first s (line.Show page) h = absurd (cc)
told-first s (line.Back n) h = absurd (cc)

pub next-first : (s : Option Standing) (l : Line) → is_first l ≡ true → next s l ≡ next None l
next-first s (line.Sites opening) h = refl
next-first s (line.Event e) h = absurd (cc)
next-first s (line.Show page) h = absurd (cc)
next-first s (line.Back n) h = absurd (cc)

pub told-none : (l : Line) → is_first l ≡ false → said_to None l ≡ not_begun
told-none (line.Sites opening) h = absurd (cc)
told-none (line.Event e) h = refl
told-none (line.Show page) h = refl
told-none (line.Back n) h = refl

pub next-none : (l : Line) → is_first l ≡ false → next None l ≡ None
next-none (line.Sites opening) h = absurd (cc)
next-none (line.Event e) h = refl
next-none (line.Show page) h = refl
next-none (line.Back n) h = refl

pub told-some : (s : Standing) (l : Line) → said_to (Some s) l ≡ answered (Some s) l
told-some s (line.Sites opening) = refl
told-some s (line.Event e) = refl
told-some s (line.Show page) = refl
told-some s (line.Back n) = refl

-- ---- deliveries

-- so many deliveries so far, and what is on its way has a number from here on
pub record Going (n from : ℕ) (s t : Standing) (old new : List ℕ) : Type 0 where
  pub made : Deliveries s t old new
  pub counted : length made.numbers ≡ n
  pub passed : (k : ℕ) → k < from → model.live (world_of t) k ≡ None

pub going_none : (s : Standing) (out : List ℕ) → Going 0 0 s s out out
going_none s out = record {
  made = record { numbers = []; oldest = tt; stands = refl; told = sym (append-nil out) };
  counted = refl;
  passed = λ k below. absurd (omega arith);
}

delivered-more : (s : Standing) (ks : List ℕ) (k : ℕ) → delivered s (ks ++ k ∷ []) ≡ with_event (delivered s ks) (event.Deliver k)
delivered-more s [] k = refl
delivered-more s (j ∷ ks) k = delivered-more (with_event s (event.Deliver j)) ks k

told-more : (s : Standing) (ks : List ℕ) (k : ℕ)
    → told_of_deliveries s (ks ++ k ∷ []) ≡ told_of_deliveries s ks ++ answered (Some (delivered s ks)) (line.Event (event.Deliver k))
told-more s [] k = append-nil (answered (Some s) (line.Event (event.Deliver k)))
told-more s (j ∷ ks) k =
    ap (λ l. answered (Some s) (line.Event (event.Deliver j)) ++ l) (told-more (with_event s (event.Deliver j)) ks k)
    ∙ sym (append_assoc (answered (Some s) (line.Event (event.Deliver j))) (told_of_deliveries (with_event s (event.Deliver j)) ks)
    (answered (Some (delivered (with_event s (event.Deliver j)) ks)) (line.Event (event.Deliver k))))

oldest-more : (s : Standing) (w : model.World) (ks : List ℕ) (k : ℕ) → world_of s ≡ w → AreOldest w ks → FirstFrom (world_of (delivered s ks)) 0 k → AreOldest w (ks ++ k ∷ [])
oldest-more s w [] k here all first = (subst (λ (u : model.World). FirstFrom u 0 k) here first, tt)
oldest-more s w (j ∷ ks) k here all first = (
  all.0,
  oldest-more (with_event s (event.Deliver j)) (model.next w (event.Deliver j)).world ks k
      (run-then s.opening s.events (event.Deliver j ∷ []) ∙ ap (λ (u : model.World). (model.next u (event.Deliver j)).world) here) all.1 first,
)

first-of-all : (w : model.World) (from k : ℕ) → ((j : ℕ) → j < from → model.live w j ≡ None) → FirstFrom w from k → FirstFrom w 0 k
first-of-all w from k passed first = record { past = omega arith; going = first.going; older = λ j least below. by-order j below (cases_lt j from) }
  where
    by-order : (j : ℕ) → j < k → (j < from) ⊎ (from ≤ j) → model.live w j ≡ None
    by-order j below (inl low) = passed j low
    by-order j below (inr high) = first.older j high below

-- one delivery more
pub going_more : (n from : ℕ) (s t u : Standing) (old out new : List ℕ) (k : ℕ) → Going n from s t old out → FirstFrom (world_of t) from k
    → u ≡ with_event t (event.Deliver k) → new ≡ out ++ answered (Some t) (line.Event (event.Deliver k)) → Going (n + 1) (k + 1) s u old new
going_more n from s t u old out new k g found moved told =
    let h = g.made in
    let first : FirstFrom (world_of t) 0 k = first-of-all (world_of t) from k g.passed found in
    let there : FirstFrom (world_of (delivered s h.numbers)) 0 k = subst (λ (x : Standing). FirstFrom (world_of x) 0 k) h.stands first in
    record {
      made = record {
        numbers = h.numbers ++ k ∷ [];
        oldest = oldest-more s (world_of s) h.numbers k refl h.oldest there;
        stands = moved ∙ ap (λ x. with_event x (event.Deliver k)) h.stands ∙ sym (delivered-more s h.numbers k);
        told =
            told
            ∙ ap (λ l. l ++ answered (Some t) (line.Event (event.Deliver k))) h.told
            ∙ append_assoc old (told_of_deliveries s h.numbers) (answered (Some t) (line.Event (event.Deliver k)))
            ∙ ap (λ x. old ++ (told_of_deliveries s h.numbers ++ answered (Some x) (line.Event (event.Deliver k)))) h.stands
            ∙ ap (λ l. old ++ l) (sym (told-more s h.numbers k));
      };
      counted = let longer = length-append h.numbers (k ∷ []) in let before = g.counted in omega (arith, longer, before);
      passed = λ j below.
          ap (λ (x : model.World). model.live x j) (ap world_of moved ∙ run-then t.opening t.events (event.Deliver k ∷ []))
          ∙ passed-on (world_of t) k (model.live (world_of t) k) refl first j below;
    }

at-rest : (w : model.World) (from : ℕ) → ((k : ℕ) → k < from → model.live w k ≡ None) → NoneFrom w from → IsAtRest w
at-rest w from passed none k = by-order (cases_lt k from)
  where
    by-order : (k < from) ⊎ (from ≤ k) → model.live w k ≡ None
    by-order (inl low) = passed k low
    by-order (inr high) = none k high

-- a run that finds nothing on its way
pub comes_to_rest : (n most from : ℕ) (s t : Standing) (old new : List ℕ) → n ≤ most → Going n from s t old new → NoneFrom (world_of t) from → Delivered most s t old new true
comes_to_rest n most from s t old new below g none = record {
  made = g.made;
  within = let counted = g.counted in omega (arith, below, counted);
  none_left = λ quiet. at-rest (world_of t) from g.passed none;
  some_left = λ loud. absurd (cc);
}

-- a run that made as many deliveries as it may
pub at_bound : (n most from : ℕ) (s t : Standing) (old new : List ℕ) (found : Option ℕ) (quiet : Bool) → n ≡ most → Going n from s t old new → is_some found ≡ not quiet
    → IfSome found (λ k. FirstFrom (world_of t) from k) → IfNone found (NoneFrom (world_of t) from) → Delivered most s t old new quiet
at_bound n most from s t old new None quiet many g same first none = record {
  made = g.made;
  within = let counted = g.counted in omega (arith, counted, many);
  none_left = λ rest. at-rest (world_of t) from g.passed none;
  some_left = λ loud. absurd (cc);
}
at_bound n most from s t old new (Some k) quiet many g same first none = record {
  made = g.made;
  within = let counted = g.counted in omega (arith, counted, many);
  none_left = λ rest. absurd (cc);
  some_left = λ loud. (g.counted ∙ many, (k, first-of-all (world_of t) from k g.passed first));
}

-- a run that stops for memory
pub going_halted : (n most from : ℕ) (s t u : Standing) (old out : List ℕ) (k : ℕ) → n < most → Going n from s t old out → FirstFrom (world_of t) from k
    → (u ≡ t) ⊎ (u ≡ with_event t (event.Deliver k)) → SomeDelivered most s u
going_halted n most from s t u old out k below g found (inl same) = record {
  numbers = g.made.numbers;
  oldest = g.made.oldest;
  within = let counted = g.counted in omega (arith, below, counted);
  stands = same ∙ g.made.stands;
}
going_halted n most from s t u old out k below g found (inr moved) =
    let more : Going (n + 1) (k + 1) s u old (out ++ answered (Some t) (line.Event (event.Deliver k))) =
    going_more n from s t u old out (out ++ answered (Some t) (line.Event (event.Deliver k))) k g found moved refl in
    record {
      numbers = more.made.numbers;
      oldest = more.made.oldest;
      within = let counted = more.counted in omega (arith, below, counted);
      stands = more.made.stands;
    }

pub err_halted : {X E P : Type 0} (result : Result X E) → P → OnErr result P
err_halted (Ok x) p = tt
err_halted (Err e) p = p

pub some_delivered : (most : ℕ) (s t : Standing) (old new : List ℕ) (quiet : Bool) → Delivered most s t old new quiet → SomeDelivered most s t
some_delivered most s t old new quiet d = record { numbers = d.made.numbers; oldest = d.made.oldest; within = d.within; stands = d.made.stands }

pub ran : (most : ℕ) (s t : Standing) (old out new : List ℕ) (quiet : Bool) → Delivered most s t old out quiet → new ≡ out ++ run_end most quiet → Ran most s t old new
ran most s t old out new quiet d told = record { before_end = out; quiet = quiet; deliveries = d; told = told }
