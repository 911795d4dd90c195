-- Asks: what is spelled so is read.
use Rattle.std.proofs.Common.{ℕ, List, [], ◌∷◌, Option, Some, refl, ap}
use Rattle.std.specs.Prelude.{codes, option_map}
use Rattle.std.specs.Fmt.{decimal}
use Rattle.shm_model.specs.declared.asked_access.Asked.TheVariants.{Load, Store}
use Rattle.shm_model.specs.declared.call.Op.TheVariants.{Get, Attach, Detach, Remove, Set, Stat}
use Rattle.shm_model.specs.declared.call.Request.{Request}
use Rattle.shm_model.specs.declared.call.Request.TheVariants.{Op as OpRequest, DetachAt}
use Rattle.shm_lines.proofs.CallLemmas.{request-spelled}
use Rattle.shm_lines.proofs.NumberWords.{number}
use Rattle.shm_lines.proofs.OneWord.{byte}
use Rattle.shm_lines.proofs.StepLemmas.{NoBlank-test}
use Rattle.shm_lines.specs.Calls.{IsRequest, request_words}
use Rattle.shm_lines.specs.Words.{◌>>=◌, next_word}
use Rattle.shm_wire.proofs.NameWords.{kind}
use Rattle.shm_wire.proofs.Reading.{prints, Spelled}
use Rattle.shm_wire.proofs.SpelledMessages.{prints_page}
use Rattle.shm_wire.specs.Asks.{IsAsked, asked_words}
use Rattle.shm_wire.specs.Line.{Line, Ask, asked_under}
use Rattle.shm_wire.specs.Words.{kind_word}
use Rattle.shm_wire.specs.declared.caller_ask.Question.{Question}
use Rattle.shm_wire.specs.declared.caller_ask.Question.TheVariants.{Access, Try, Read, Begin, Tick, Show, Health, Map, Mappings}

-- the words behind a site and a tag
abbrev pub behind : ℕ → List ℕ → List (List ℕ) → Option Line
behind site tag words = next_word words >>= λ p. asked_under site tag p.0 p.1

-- the line that asks this
abbrev pub asks : ℕ → List ℕ → Question → Line
asks site tag asked = Ask (record { site = site; tag = tag; asked = asked })

begins : ℕ → List ℕ → Option Request → Option Line
begins site tag o = option_map Ask ((o >>= λ request. Some (Begin request)) >>= λ asked. Some (record { site = site; tag = tag; asked = asked }))

-- the verb of a call is none of those of other asks
begun-spelled : (site : ℕ) (tag : List ℕ) (request : Request) → IsRequest request → Spelled (behind site tag) (request_words request) (asks site tag (Begin request))
unfolding begins
begun-spelled site tag (OpRequest (Get cred key size m f)) h = let s = request-spelled (OpRequest (Get cred key size m f)) h in record { unparted = s.unparted; back = ap (begins site tag) s.back }
begun-spelled site tag (OpRequest (Attach cred id ro)) h = let s = request-spelled (OpRequest (Attach cred id ro)) h in record { unparted = s.unparted; back = ap (begins site tag) s.back }
begun-spelled site tag (OpRequest (Detach id)) h = absurd h
begun-spelled site tag (OpRequest (Remove cred id)) h = let s = request-spelled (OpRequest (Remove cred id)) h in record { unparted = s.unparted; back = ap (begins site tag) s.back }
begun-spelled site tag (OpRequest (Set cred id uid gid m)) h = let s = request-spelled (OpRequest (Set cred id uid gid m)) h in record { unparted = s.unparted; back = ap (begins site tag) s.back }
begun-spelled site tag (OpRequest (Stat cred id)) h = let s = request-spelled (OpRequest (Stat cred id)) h in record { unparted = s.unparted; back = ap (begins site tag) s.back }
begun-spelled site tag (DetachAt at) h = let s = request-spelled (DetachAt at) h in record { unparted = s.unparted; back = ap (begins site tag) s.back }

pub asked-spelled : (site : ℕ) (tag : List ℕ) (asked : Question) → IsAsked asked → Spelled (behind site tag) (asked_words asked) (asks site tag asked)
asked-spelled site tag (Access (Load at offset)) h = record {
  unparted = (NoBlank-test (codes "load") refl, (number.unparted at h.0, (number.unparted offset h.1, tt)));
  back = rw (prints number at (decimal offset ∷ []) h.0, prints number offset [] h.1) refl;
}
asked-spelled site tag (Access (Store at offset b)) h = record {
  unparted = (NoBlank-test (codes "store") refl, (number.unparted at h.0, (number.unparted offset h.1, (byte.unparted b h.2, tt))));
  back = rw (prints number at (decimal offset ∷ decimal b ∷ []) h.0, prints number offset (decimal b ∷ []) h.1, prints byte b [] h.2) refl;
}
asked-spelled site tag (Try (Load at offset)) h = record {
  unparted = (NoBlank-test (codes "try-load") refl, (number.unparted at h.0, (number.unparted offset h.1, tt)));
  back = rw (prints number at (decimal offset ∷ []) h.0, prints number offset [] h.1) refl;
}
asked-spelled site tag (Try (Store at offset b)) h = record {
  unparted = (NoBlank-test (codes "try-store") refl, (number.unparted at h.0, (number.unparted offset h.1, (byte.unparted b h.2, tt))));
  back = rw (prints number at (decimal offset ∷ decimal b ∷ []) h.0, prints number offset (decimal b ∷ []) h.1, prints byte b [] h.2) refl;
}
asked-spelled site tag (Read at offset count) h = record {
  unparted = (NoBlank-test (codes "read") refl, (number.unparted at h.0, (number.unparted offset h.1, (number.unparted count h.2, tt))));
  back = rw (prints number at (decimal offset ∷ decimal count ∷ []) h.0, prints number offset (decimal count ∷ []) h.1, prints number count [] h.2, h.3) refl;
}
asked-spelled site tag (Begin request) h = begun-spelled site tag request h
asked-spelled site tag Tick h = record { unparted = (NoBlank-test (codes "tick") refl, tt); back = refl }
asked-spelled site tag Health h = record { unparted = (NoBlank-test (codes "health") refl, tt); back = refl }
asked-spelled site tag (Show page) h = record {
  unparted = (NoBlank-test (codes "show") refl, (number.unparted page.seg h.0, (number.unparted page.index h.1, tt)));
  back = rw (prints_page page [] h) refl;
}
asked-spelled site tag (Map at index k) h = record {
  unparted = (NoBlank-test (codes "map") refl, (number.unparted at h.0, (number.unparted index h.1, (kind.unparted k tt, tt))));
  back = rw (prints number at (decimal index ∷ kind_word k ∷ []) h.0, prints number index (kind_word k ∷ []) h.1, prints kind k [] tt) refl;
}
asked-spelled site tag Mappings h = record { unparted = (NoBlank-test (codes "mappings") refl, tt); back = refl }
