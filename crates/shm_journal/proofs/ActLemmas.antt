-- Acts one after another.
use Rattle.std.proofs.Common.{◌≡◌, ℕ, List, [], ◌∷◌, ◌++◌, refl, ap, ap₂, sym, subst, ◌∙◌, append-nil}
use Rattle.std.specs.Prelude.{Option, Some, None}
use Rattle.std.proofs.lemmas.List.{append_assoc}
use Rattle.std.proofs.KnownBytes.{Appends-nil, Appends-trans, Consumes-nil, Consumes-trans}
use Rattle.std.specs.Io.KnownBytes.{Appends, Consumes}
use Rattle.shm_process.specs.Desk.{Desk}
use Rattle.shm_journal.specs.Acts.{Act, Append, Around, Did, GoesOn, Read, Sync, Tell, keeping, publishing, read_in, telling, told_in}

pub read_in-append : (xs ys : List Act) → read_in (xs ++ ys) ≡ read_in xs ++ read_in ys
unfolding read_in
read_in-append [] ys = refl
read_in-append (Read bytes ∷ xs) ys = ap (λ t. bytes ++ t) (read_in-append xs ys) ∙ sym (append_assoc bytes (read_in xs) (read_in ys))
read_in-append (Append text ∷ xs) ys = read_in-append xs ys
read_in-append (Sync ∷ xs) ys = read_in-append xs ys
read_in-append (Tell text ∷ xs) ys = read_in-append xs ys

pub told_in-append : (xs ys : List Act) → told_in (xs ++ ys) ≡ told_in xs ++ told_in ys
unfolding told_in
told_in-append [] ys = refl
told_in-append (Read bytes ∷ xs) ys = told_in-append xs ys
told_in-append (Append text ∷ xs) ys = told_in-append xs ys
told_in-append (Sync ∷ xs) ys = told_in-append xs ys
told_in-append (Tell text ∷ xs) ys = ap (λ t. text ++ t) (told_in-append xs ys) ∙ sym (append_assoc text (told_in xs) (told_in ys))

pub GoesOn-nil : (a : Option (List Act)) → GoesOn a a []
GoesOn-nil None = tt
GoesOn-nil (Some acts) = sym (append-nil acts)

pub GoesOn-trans : (a b c : Option (List Act)) (xs ys : List Act) → GoesOn a b xs → GoesOn b c ys → GoesOn a c (xs ++ ys)
GoesOn-trans None b c xs ys p q = tt
GoesOn-trans (Some x) None c xs ys p q = absurd p
GoesOn-trans (Some x) (Some y) None xs ys p q = absurd q
GoesOn-trans (Some x) (Some y) (Some z) xs ys p q = q ∙ ap (λ t. t ++ ys) p ∙ append_assoc x xs ys

-- nothing was done
pub did_nothing : (a : Around) → Did a a []
unfolding read_in told_in
did_nothing a = record { read = Consumes-nil a.remaining; told = Appends-nil a.contents; acted = GoesOn-nil a.acts }

pub did_both : (a b c : Around) (xs ys : List Act) → Did a b xs → Did b c ys → Did a c (xs ++ ys)
did_both a b c xs ys p q = record {
  read = subst (Consumes a.remaining c.remaining) (sym (read_in-append xs ys))
      (Consumes-trans a.remaining b.remaining c.remaining (read_in xs) (read_in ys) p.read q.read);
  told = subst (Appends a.contents c.contents) (sym (told_in-append xs ys))
      (Appends-trans a.contents b.contents c.contents (told_in xs) (told_in ys) p.told q.told);
  acted = GoesOn-trans a.acts b.acts c.acts xs ys p.acted q.acted;
}

-- ---- what is published

pub kept-silent : (entries : List ℕ) → told_in (keeping entries) ≡ []
unfolding told_in
kept-silent [] = refl
kept-silent (byte ∷ bytes) = refl

-- telling tells all, and leaves the journal as it is
pub told-all : (text : List ℕ) → told_in (telling text) ≡ text
unfolding told_in
told-all [] = refl
told-all (byte ∷ bytes) = append-nil (byte ∷ bytes)

pub published-told : (desk : Desk) → told_in (publishing desk) ≡ desk.told
published-told desk =
    told_in-append (keeping desk.recorded) (telling desk.told)
    ∙ ap₂ (λ (x y : List ℕ). x ++ y) (kept-silent desk.recorded) (told-all desk.told)

kept-unread : (entries : List ℕ) → read_in (keeping entries) ≡ []
unfolding read_in
kept-unread [] = refl
kept-unread (byte ∷ bytes) = refl

told-unread : (text : List ℕ) → read_in (telling text) ≡ []
unfolding read_in
told-unread [] = refl
told-unread (byte ∷ bytes) = refl

-- nothing is read where these entries are kept and these acts done
pub kept-then : (entries : List ℕ) (acts : List Act) → read_in (keeping entries ++ acts) ≡ read_in acts
kept-then entries acts = read_in-append (keeping entries) acts ∙ ap (λ t. t ++ read_in acts) (kept-unread entries)

pub published-unread : (desk : Desk) → read_in (publishing desk) ≡ []
published-unread desk = kept-then desk.recorded (telling desk.told) ∙ told-unread desk.told
