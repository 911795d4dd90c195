-- What is kept of the last events leads back over them: with one more, with one less, and as many of them as a ring keeps.
use Rattle.std.proofs.Common.{◌≡◌, ℕ, ◌+◌, ◌-◌, ◌≤◌, zero, suc, List, [], ◌∷◌, ◌++◌, Option, None, Some, IfSome, length, length-append, take, drop, reverse, sym, ap, ◌∙◌, subst, arith}
use Rattle.std.proofs.lemmas.Grind.{take_at_read}
use Rattle.std.proofs.lemmas.List.{length-take-le, reverse-append, take_all}
use Rattle.std.proofs.lemmas.Option.{get_or_from_slice_get, slice_get_within}
use Rattle.circular_buffer.specs.Buffer.{keep_last, last_item}
use Rattle.shm_model.specs.declared.event.Event.{Event}
use Rattle.shm_world.specs.Undo.{LeadsBack}
use Rattle.shm_world.specs.declared.undo_record.Undo.{Undo}
use Rattle.shm_debug.specs.Standing.{Standing, standing, with_event, without_last, world_of}
use Rattle.shm_debug.specs.Undos.{LeadBack}
use Rattle.shm_debug.proofs.Holding.{take-front, take-take}

-- ---- lists

-- the newest stands last
pub newest : {X : Type 0} (xs : List X) (x : X) → last_item xs ≡ Some x → reverse xs ≡ x ∷ reverse (take (length xs - 1) xs)
newest xs x e =
    let n = length xs - 1 in
    let within = slice_get_within xs n x e in
    let split : take (n + 1) xs ≡ take n xs ++ x ∷ [] = (take_at_read xs n x within).1 ∙ ap (λ y. take n xs ++ y ∷ []) (get_or_from_slice_get xs n x x e) in
    ap (λ l. reverse l) (sym (take_all (n + 1) xs (omega (arith, within))) ∙ split) ∙ reverse-append (take n xs) (x ∷ [])

-- ---- what leads back

leads-front : {A : Type 0} (s : Standing) (us : List (Undo A)) (u : Undo A) → LeadBack s (us ++ u ∷ []) → LeadBack s us
leads-front s [] u h = tt
leads-front s (x ∷ us) u h = (h.0, leads-front (without_last s 1) us u h.1)

-- the oldest may be given up
leads-drop : {A : Type 0} (s : Standing) (n : ℕ) (us : List (Undo A)) → LeadBack s (reverse us) → LeadBack s (reverse (drop n us))
leads-drop s zero us h = h
leads-drop s (suc n) [] h = h
leads-drop s (suc n) (u ∷ us) h = leads-drop s n us (leads-front s (reverse us) u (subst (LeadBack s) (reverse-append (u ∷ []) us) h))

-- the newest leads back over the last event, and the others over those before
pub leads-last : {A : Type 0} (s : Standing) (us : List (Undo A)) (r : Option (Undo A)) → r ≡ last_item us → LeadBack s (reverse us)
    → IfSome r (λ undo. LeadsBack undo (world_of s) (world_of (without_last s 1)) × LeadBack (without_last s 1) (reverse (take (length us - 1) us)))
leads-last s us None e all = tt
leads-last s us (Some u) e all = subst (LeadBack s) (newest us u (sym e)) all

-- no event less
pub without-none : (s : Standing) → without_last s 0 ≡ s
without-none s = ap (standing s.opening) (take_all (length s.events - 0) s.events (omega arith))

-- n events less, and one
pub without-more : (s : Standing) (n : ℕ) → n + 1 ≤ length s.events → without_last (without_last s n) 1 ≡ without_last s (n + 1)
without-more s n h =
    let m = length s.events - n in
    let len : length (take m s.events) ≡ m = length-take-le m s.events (omega arith) in
    ap (standing s.opening) (take-take (length (take m s.events) - 1) m s.events (omega (arith, len)) ∙ ap (λ k. take k s.events) (omega (arith, len, h)))

last-gone : (s : Standing) (e : Event) → without_last (with_event s e) 1 ≡ s
last-gone s e =
    let n = length (s.events ++ e ∷ []) - 1 in
    let same : n ≡ length s.events = omega (arith, length-append s.events (e ∷ [])) in
    ap (standing s.opening) (take-front n s.events (e ∷ []) (omega (arith, same)) ∙ take_all n s.events (omega (arith, same)))

-- one more, of which a ring keeps the latest n
pub leads-more : {A : Type 0} (s : Standing) (e : Event) (n : ℕ) (us : List (Undo A)) (u : Undo A) → LeadBack s (reverse us) → LeadsBack u (world_of (with_event s e)) (world_of s)
    → LeadBack (with_event s e) (reverse (keep_last n (us ++ u ∷ [])))
leads-more {A} s e n us u all one =
    let back : LeadBack {A = A} (with_event s e) (u ∷ reverse us) = (
      subst (λ (t : Standing). LeadsBack {A = A} u (world_of (with_event s e)) (world_of t)) (sym (last-gone s e)) one,
      subst (λ (t : Standing). LeadBack {A = A} t (reverse us)) (sym (last-gone s e)) all,
    ) in
    leads-drop (with_event s e) (length (us ++ u ∷ []) - n) (us ++ u ∷ []) (subst (LeadBack (with_event s e)) (sym (reverse-append us (u ∷ []))) back)
