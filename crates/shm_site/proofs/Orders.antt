-- What a loop has posted, one envelope after the other.
use Rattle.std.proofs.Common.{◌≡◌, ◌∙◌, List, [], ◌∷◌, ◌++◌, Vec, ap, append-nil, append_assoc, map, refl, sym}
use Rattle.std.proofs.lemmas.List.{map-append}
use Rattle.std.proofs.lemmas.Simd.{map-map}
use Rattle.shm_model.specs.Message as message
use Rattle.shm_parts.specs.Message.{envelope_of}
use Rattle.shm_parts.specs.Outbox.{AddedTo}
use Rattle.shm_parts.specs.declared.message.Envelope.{Envelope}
use Rattle.shm_site.specs.Site.{Told}

-- one envelope more
pub told_more : {A O : Type 0} {posted : O → O → List (Envelope A) → Type 0} {first then last : O} {before after : List message.Envelope} {m : message.Envelope} (e : Envelope A)
    → ((first then last : O) (xs ys : List (Envelope A)) → posted first then xs → posted then last ys → posted first last (xs ++ ys))
    → Told posted first then before → posted then last (e ∷ []) → envelope_of e ≡ m → before ++ m ∷ [] ≡ after → Told posted first last after
told_more {first = first} {then = then} {last = last} {before = before} e joined had one is all = record {
  sent = had.sent ++ e ∷ [];
  behind = joined first then last had.sent (e ∷ []) had.behind one;
  meant = map-append envelope_of had.sent (e ∷ []) ∙ ap (λ (l : List message.Envelope). l ++ envelope_of e ∷ []) had.meant ∙ ap (λ (x : message.Envelope). before ++ x ∷ []) is ∙ all;
}

-- the same, said otherwise
pub told_as : {A O : Type 0} {posted : O → O → List (Envelope A) → Type 0} {first last : O} {xs ys : List message.Envelope} → Told posted first last xs → xs ≡ ys → Told posted first last ys
told_as had e = record { sent = had.sent; behind = had.behind; meant = had.meant ∙ e }

-- one envelope
pub told_one : {A O : Type 0} {posted : O → O → List (Envelope A) → Type 0} {before after : O} (e : Envelope A) → posted before after (e ∷ []) → Told posted before after (envelope_of e ∷ [])
told_one e one = record { sent = e ∷ []; behind = one; meant = refl }

-- what was told first, and what was told then
pub told_both : {A O : Type 0} {posted : O → O → List (Envelope A) → Type 0} {first then last : O} {xs ys all : List message.Envelope}
    → ((first then last : O) (xs ys : List (Envelope A)) → posted first then xs → posted then last ys → posted first last (xs ++ ys))
    → Told posted first then xs → Told posted then last ys → xs ++ ys ≡ all → Told posted first last all
told_both {first = first} {then = then} {last = last} {xs = xs} joined one two is = record {
  sent = one.sent ++ two.sent;
  behind = joined first then last one.sent two.sent one.behind two.behind;
  meant = map-append envelope_of one.sent two.sent ∙ ap (λ (l : List message.Envelope). l ++ map envelope_of two.sent) one.meant ∙ ap (λ (l : List message.Envelope). xs ++ l) two.meant ∙ is;
}

-- what was told of a list, where `g` says how the definitions see an element
pub all_told : {A O X Y : Type 0} {posted : O → O → List (Envelope A) → Type 0} {first last : O} (f : Y → message.Envelope) (g : X → Y) (xs : List X) (ys : List Y)
    → Told posted first last (map (λ x. f (g x)) xs) → map g xs ≡ ys → Told posted first last (map f ys)
all_told f g xs ys had seen = record {
  sent = had.sent;
  behind = had.behind;
  meant = had.meant ∙ sym (map-map f g xs) ∙ ap (map f) seen;
}

-- what was told to a list, in which room was made first
pub told_listed : {A B : Type 0} (old with_room new : Vec (Envelope A) B) (ys : List message.Envelope) → AddedTo old with_room [] → Told AddedTo with_room new ys → map envelope_of new.items ≡ map envelope_of old.items ++ ys
told_listed {A = A} old with_room new ys room had =
    let same : with_room.items ≡ old.items = room ∙ append-nil old.items in
    ap (map envelope_of) (had.behind ∙ ap (λ (l : List (Envelope A)). l ++ had.sent) same)
    ∙ map-append envelope_of old.items had.sent ∙ ap (λ (l : List message.Envelope). map envelope_of old.items ++ l) had.meant

-- four lists, one behind the other
pub in_four : {X Y : Type 0} (f : X → Y) (none one two three all : List X) (a b c d : List Y)
    → none ≡ [] → map f one ≡ map f none ++ a → map f two ≡ map f one ++ b → map f three ≡ map f two ++ c → map f all ≡ map f three ++ d → map f all ≡ a ++ (b ++ (c ++ d))
in_four {X = X} {Y = Y} f none one two three all a b c d empty e1 e2 e3 e4 =
    let start : map f one ≡ a = e1 ∙ ap (λ (l : List X). map f l ++ a) empty in
    e4 ∙ ap (λ (l : List Y). l ++ d) (e3 ∙ ap (λ (l : List Y). l ++ c) (e2 ∙ ap (λ (l : List Y). l ++ b) start)) ∙ append_assoc (a ++ b) c d ∙ append_assoc a b (c ++ d)
