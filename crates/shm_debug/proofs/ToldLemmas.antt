-- What a load is told: the byte stored last, since the promise holds of what stands.
use Rattle.std.proofs.Common.{◌≡◌, ◌∙◌, ℕ, List, [], ◌∷◌, ◌++◌, codes, Option, None, Some, ap, append_assoc, arith, length, refl, slice_index, sym, take}
use Rattle.std.proofs.lemmas.List.{append_cancel_left}
use Rattle.std.specs.Fmt.{decimal}
use Rattle.shm_model.specs.declared.answer.Answer.{Answer}
use Rattle.shm_model.specs.declared.answer.Answer.TheVariants.{Byte, Stored, Fault, Waiting, Began, Replied, Took, Dropped, Refused}
use Rattle.shm_model.specs.declared.event.Event.{Event}
use Rattle.shm_model.specs.declared.event.Event.TheVariants.{Load}
use Rattle.shm_model.specs.World as model
use Rattle.shm_lines.specs.Line.{line_of}
use Rattle.shm_lines.specs.Spelling.{IsLine}
use Rattle.shm_lines.specs.declared.script_line.Line.{Line}
use Rattle.shm_lines.specs.declared.script_line.Line.TheVariants.{Event as EventLine}
use Rattle.shm_debug.specs.Standing.{Standing, with_event, world_of}
use Rattle.shm_text.specs.Text.{answer_text}
use Rattle.shm_debug.specs.Sent.{sent_text}
use Rattle.shm_model.specs.Promise.{Promised}
use Rattle.shm_world.proofs.Loads.{gives-last}
use Rattle.shm_debug.specs.Promise.{AlwaysTellsLast, TellsLast}
use Rattle.shm_debug.specs.Said.{standing_after}
use Rattle.shm_debug.specs.Script.{script_of}
use Rattle.shm_debug.proofs.PromiseLemmas.{Begins, begins-always}

-- an answer whose text tells a byte gives that byte
abbrev GivesByte : Answer → List ℕ → List ℕ → Type 0
GivesByte answer sent rest = (byte : ℕ) × (Byte byte ≡ answer) × (rest ≡ decimal byte ++ sent)

-- the texts of the other answers begin otherwise
abbrev first : List ℕ → ℕ
first text = slice_index text 0

abbrev second : List ℕ → ℕ
second text = slice_index text 1

gives-byte : (answer : Answer) (sent rest : List ℕ) → answer_text answer ++ sent ≡ codes "byte " ++ rest → GivesByte answer sent rest
gives-byte (Byte byte) sent rest told =
    (byte, refl, sym (append_cancel_left (codes "byte ") (decimal byte ++ sent) rest (sym (append_assoc (codes "byte ") (decimal byte) sent) ∙ told)))
gives-byte Stored sent rest told = let h : 115 ≡ 98 = ap first told in absurd (omega (arith, h))
gives-byte Fault sent rest told = let h : 102 ≡ 98 = ap first told in absurd (omega (arith, h))
gives-byte Waiting sent rest told = let h : 119 ≡ 98 = ap first told in absurd (omega (arith, h))
gives-byte (Began number) sent rest told = let h : 101 ≡ 121 = ap second told in absurd (omega (arith, h))
gives-byte (Replied number reply attachment) sent rest told = let h : 114 ≡ 98 = ap first told in absurd (omega (arith, h))
gives-byte Took sent rest told = let h : 116 ≡ 98 = ap first told in absurd (omega (arith, h))
gives-byte Dropped sent rest told = let h : 100 ≡ 98 = ap first told in absurd (omega (arith, h))
gives-byte (Refused number) sent rest told = let h : 114 ≡ 98 = ap first told in absurd (omega (arith, h))

module _ (spelled : (bytes : List ℕ) (line : Line) → line_of bytes ≡ Some line → IsLine line)
    (promised : (o : model.Opening) (events : List Event) → model.IsOpening o → Promised o events) where
  tells-last : (s : Option Standing) (line : Line) → Begins s → TellsLast s line
  tells-last (Some s) (EventLine (Load site a offset)) begins = λ rest told.
      let e = Load site a offset in
      let sent = sent_text (world_of (with_event s e)) (length (world_of s).sent) in
      let given = gives-byte (model.next (world_of s) e).done.answer sent rest told in
      let last = gives-last s.opening s.events e (Byte given.0) (promised s.opening (s.events ++ e ∷ []) begins) given.1 in
      (last.0, last.1, given.2 ∙ ap (λ byte. decimal byte ++ sent) last.2)
  tells-last _ _ begins = tt

  pub always-tells-last : (bytes : List ℕ) → AlwaysTellsLast (script_of bytes).lines
  always-tells-last bytes = λ n line there. tells-last (standing_after None (take n (script_of bytes).lines)) line (begins-always spelled bytes n)
