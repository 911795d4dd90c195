-- What is wrong with the words, by its parts.
use Rattle.std.proofs.Common.{◌≡◌, ◌∙◌, ◌||◌, ◌&&◌, ap, false, inl, inr, map, option_map, refl, subst, sym, true, Bool, List, [], ◌∷◌}
use Rattle.std.specs.List.{list_all, list_any}
use Rattle.std.specs.Box.{box_value}
use Rattle.std.specs.Prelude.{Box, None, Option, Some}
use Rattle.clap.specs.Words.{Kinds, Row, Text, fault_of, found_of, kind_of, rows_of, subcommand_rows}
use Rattle.clap.specs.Kinds.{HasKind, or_else}
use Rattle.clap.specs.declared.parser.matches.SubCommand.{SubCommand}
use Rattle.clap.specs.declared.parser.matches.ArgMatches.TheViews.{out-SubCommand}
use Rattle.clap.specs.declared.error.Error.{Error}
use Rattle.clap.specs.declared.error.kind.ErrorKind.TheVariants.{ValueValidation}
use Rattle.shm_command.specs.Commands.{app}
use Rattle.shm_command.specs.Words.{clap_fault, fault_in, has_long_word, has_plain_numbers, site_fault, spelling_fault}

pub any_map : {A B : Type 0} (p : B → Bool) (f : A → B) (xs : List A) → list_any (λ x. p (f x)) xs ≡ list_any p (map f xs)
any_map p f [] = refl
any_map p f (x ∷ xs) = ap (λ b. p (f x) || b) (any_map p f xs)

pub all_map : {A B : Type 0} (p : B → Bool) (f : A → B) (xs : List A) → list_all (λ x. p (f x)) xs ≡ list_all p (map f xs)
all_map p f [] = refl
all_map p f (x ∷ xs) = ap (λ b. p (f x) && b) (all_map p f xs)

has_first : (kinds next : Kinds) (error : Error) → HasKind kinds error → HasKind (or_else kinds next) error
has_first [] next error (inl memory) = inl memory
has_first [] next error (inr none) = absurd none
has_first (kind ∷ kinds) next error has = has

-- what clap refuses, told shortly
pub refused_by_clap : (words : List Text) (error : Error) → HasKind (clap_fault (has_long_word words) (fault_of app words)) error → HasKind (fault_in words) error
refused_by_clap words error has = has_first (clap_fault (has_long_word words) (fault_of app words)) _ error has

-- where clap takes the words, what is wrong is their spelling, or else the site
after_clap : (words : List Text) → fault_of app words ≡ [] → fault_in words ≡ or_else (spelling_fault words) (site_fault words)
after_clap words none = rw none refl

pub badly_spelled : (words : List Text) (error : Error) → fault_of app words ≡ [] → has_plain_numbers words ≡ false
    → kind_of error ≡ ValueValidation → HasKind (fault_in words) error
badly_spelled words error none wrong kind =
    let is : fault_in words ≡ ValueValidation ∷ [] = after_clap words none ∙ rw wrong refl in
    subst (λ (kinds : Kinds). HasKind kinds error) (sym is) (inr (inl kind))

-- of words that are spelled plainly it is the site
pub plainly_spelled : (words : List Text) → fault_of app words ≡ [] → has_plain_numbers words ≡ true → fault_in words ≡ site_fault words
plainly_spelled words none plain = after_clap words none ∙ rw plain refl

-- the subcommand that was met has this name and these rows
pub named_so : {Z : Type 0} (met : Option (Box SubCommand Z)) (name : Text) (rows : List Row)
    → Some name ≡ option_map (λ b. (out-SubCommand (box_value b)).name.now) met → Some rows ≡ option_map (λ named. named.1) (subcommand_rows met)
    → subcommand_rows met ≡ Some (name, rows)
named_so None name rows called there =
    let bad : Some name ≡ None = called in
    cc
named_so (Some sub) name rows called there =
    let is_called : (out-SubCommand (box_value sub)).name.now ≡ name = cc in
    let has : rows_of (found_of (out-SubCommand (box_value sub)).matches) ≡ rows = cc in
    rw (is_called, has) refl
