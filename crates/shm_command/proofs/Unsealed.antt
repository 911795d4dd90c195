-- The name and the key that the words of a site give.
use Rattle.std.proofs.Common.{◌≡◌, ℕ, Bool, true, false, List, Option, None, Some, cond, refl, sym}
use Rattle.std.specs.Prelude.{is_some}
use Rattle.shm_seal.specs.Name.{is_name, name_if_one}
use Rattle.shm_command.specs.Sealed.{IsKeyFault, IsUnsealed}
use Rattle.shm_command.specs.declared.args.seal_words.SealWords.{SealWords}
use Rattle.shm_command.specs.declared.seal_error.SealFault.{SealFault}
use Rattle.shm_command.specs.declared.seal_error.SealFault.TheVariants as fault

named-if : (b : Bool) (word name : List ℕ) → Some name ≡ cond b (Some word) None → Some word ≡ Some name
named-if true word name h = sym h
named-if false word name h = absurd (cc)

-- a name is the word that was given
pub named : (word name : List ℕ) → Some name ≡ name_if_one word → Some word ≡ Some name
named word name h = named-if (is_name word) word name h

unnamed-if : (b : Bool) (word : List ℕ) (none : Option (List ℕ)) → none ≡ None → none ≡ cond b (Some word) None → b ≡ false
unnamed-if true word none e h = absurd (cc)
unnamed-if false word none e h = refl

-- a word that no name came of is none
pub unnamed : (word : List ℕ) (none : Option (List ℕ)) → none ≡ None → none ≡ name_if_one word → is_name word ≡ false
unnamed word none e h = unnamed-if (is_name word) word none e h

-- where a key was to be read
pub key_fault : (words : SealWords) (why : SealFault) → is_some words.cluster ≡ true → is_some words.key ≡ true → IsKeyFault why → IsUnsealed words why
key_fault words fault.BadName given keyed h = absurd h
key_fault words fault.NoName given keyed h = absurd h
key_fault words fault.NoKey given keyed h = (given, keyed)
key_fault words (fault.Unread why) given keyed h = (given, keyed)
