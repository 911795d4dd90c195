-- A dialog over files of which nothing is known, whatever they are.
use Rattle.std.proofs.Common.{◌≡◌, ℕ, ◌⊎◌, Bool, true, false, List, [], ◌∷◌, Option, Result, Ok, Err, refl, ap, inl, inr, subst}
use Rattle.shm_prompt.specs.Sitting.{nothing_typed, AllRead, Ends, EndsAt, Finishes, GivenLast, GivenOn, Reads, RunsShort, Sitting, Waits, sitting}
use Rattle.shm_prompt.specs.Typing.{AllAnswered, Answers, GoesOn, Halts, HaltsBefore, HaltsLine, Moment, Quits, Starves, is_too_long, moment, unblanked}
use Rattle.shm_prompt.specs.declared.prompt_error.PromptFault.{PromptFault}
use Rattle.shm_prompt.specs.declared.prompt_error.PromptFault.TheVariants.{OutOfMemory, ReadFault, WriteFault}
use Rattle.shm_command.specs.Prompted.{MayGive, Prompts, prompt_status, unknown_saves}
use Rattle.shm_command.specs.Around.{streams}
use Rattle.std.specs.Io.KnownBytes.{Appends}

-- ---- without the files

forget : {F : Type 0} → Moment F → Moment (Unit {0})
forget now = moment now.state now.unsaved tt now.told

forgotten : {F : Type 0} → Sitting F → Sitting (Unit {0})
forgotten now = sitting now.left now.told now.typed now.state now.unsaved tt

-- ---- lines

answers : {F : Type 0} (long : Bool) (typed : List ℕ) (old : Moment F) (quits : Bool) (new : Moment F) → Answers unknown_saves MayGive long typed old quits new
    → Answers unknown_saves MayGive long typed (forget old) quits (forget new)
unfolding forget
answers true typed old quits new h = (h.0, ap forget h.1)
answers false typed old quits new h = record {
  obeyed = h.obeyed;
  quitting = h.quitting;
  for_script = h.for_script;
  for_notes = h.for_notes;
  for_others = λ save notes. refl;
  changed = h.changed;
}

all_answered : {F : Type 0} (lines : List (List ℕ)) (old new : Moment F) → AllAnswered unknown_saves MayGive lines old new
    → AllAnswered unknown_saves MayGive lines (forget old) (forget new)
all_answered [] old new h = ap forget h
all_answered (typed ∷ lines) old new h =
    (forget h.0, answers (is_too_long typed) (unblanked typed) old false h.0 h.1, all_answered lines h.0 new h.2)

halts_line : {F : Type 0} (long : Bool) (typed : List ℕ) (old : Moment F) (files : F) → HaltsLine unknown_saves long typed old files
    → HaltsLine unknown_saves long typed (forget old) tt
unfolding forget
halts_line true typed old files h = refl
halts_line false typed old files h = record { for_script = h.for_script; for_notes = h.for_notes; for_others = λ save notes. refl }

halts_before : {F : Type 0} (rest : List ℕ) (old : Moment F) (files : F) → HaltsBefore unknown_saves rest old files → HaltsBefore unknown_saves rest (forget old) tt
unfolding forget
halts_before rest old files (inl h) = inl refl
halts_before rest old files (inr h) = inr (h.0, h.1, h.2, h.3, halts_line (is_too_long h.0) (unblanked h.0) old files h.4)

starves : {F : Type 0} (front bytes : List ℕ) (old : Moment F) (files : F) → Starves unknown_saves MayGive front bytes old files
    → Starves unknown_saves MayGive front bytes (forget old) tt
starves front bytes old files h = record {
  lines = h.lines;
  whole = h.whole;
  rest = h.rest;
  typed = h.typed;
  between = forget h.between;
  answered = all_answered h.lines old h.between h.answered;
  halted = halts_before h.rest h.between files h.halted;
}

-- ---- what a read gives

given_on : {F : Type 0} (is_terminal : Bool) (front bytes : List ℕ) (old new : Moment F) (rest : List ℕ) → GivenOn unknown_saves MayGive is_terminal front bytes old new rest
    → GivenOn unknown_saves MayGive is_terminal front bytes (forget old) (forget new) rest
unfolding forget
given_on is_terminal front [] old new rest h = (record { person = h.0.person; some = h.0.some; becomes = ap forget h.0.becomes }, h.1)
given_on is_terminal front (byte ∷ bytes) old new rest h = record {
  lines = h.lines;
  whole = h.whole;
  unended = h.unended;
  typed = h.typed;
  answered = all_answered h.lines old new h.answered;
}

given_last : {F : Type 0} (is_terminal : Bool) (front bytes : List ℕ) (old new : Moment F) → GivenLast unknown_saves MayGive is_terminal front bytes old new
    → GivenLast unknown_saves MayGive is_terminal front bytes (forget old) (forget new)
unfolding forget
given_last is_terminal front [] old new h = record { clean = h.clean; kept = refl; told = h.told }
given_last is_terminal front (byte ∷ bytes) old new h = record {
  lines = h.lines;
  whole = h.whole;
  last = h.last;
  unended = h.unended;
  rest = h.rest;
  typed = h.typed;
  between = forget h.between;
  answered = all_answered h.lines old h.between h.answered;
  quit = answers (is_too_long h.last) (unblanked h.last) h.between true new h.quit;
}

all_read : {F : Type 0} (is_terminal : Bool) (reads : List (List ℕ)) (old new : Sitting F) → AllRead unknown_saves MayGive is_terminal reads old new
    → AllRead unknown_saves MayGive is_terminal reads (forgotten old) (forgotten new)
unfolding forget forgotten
all_read is_terminal [] old new h = ap forgotten h
all_read is_terminal (bytes ∷ reads) old new h =
    let now = h.0 in
    let read = h.1 in (
      forgotten now,
      record {
        read = read.read;
        answers = read.answers;
        told = read.told;
        given = given_on is_terminal old.typed bytes (moment old.state old.unsaved old.files []) (moment now.state now.unsaved now.files read.answers) now.typed read.given;
      },
      all_read is_terminal reads now new h.2,
    )

-- ---- the end

waits : {F : Type 0} (is_terminal : Bool) (now : Sitting F) (left : Option (List ℕ)) (files : F) (text : List ℕ) → Waits is_terminal now left files text
    → Waits is_terminal (forgotten now) left tt text
unfolding forgotten
waits is_terminal now left files text h = record { unread = h.unread; kept = refl; told = h.told }

finishes : {F : Type 0} (is_terminal : Bool) (now : Sitting F) (left : Option (List ℕ)) (files : F) (text : List ℕ) → Finishes unknown_saves MayGive is_terminal now left files text
    → Finishes unknown_saves MayGive is_terminal (forgotten now) left tt text
unfolding forget forgotten
finishes is_terminal now left files text h = record {
  bytes = h.bytes;
  read = h.read;
  last = forget h.last;
  given = given_last is_terminal now.typed h.bytes (moment now.state now.unsaved now.files []) h.last h.given;
  kept = refl;
  told = h.told;
}

either_end : {F : Type 0} (is_terminal : Bool) (now : Sitting F) (left : Option (List ℕ)) (files : F) (text : List ℕ)
    → Waits is_terminal now left files text ⊎ Finishes unknown_saves MayGive is_terminal now left files text
    → Waits is_terminal (forgotten now) left tt text ⊎ Finishes unknown_saves MayGive is_terminal (forgotten now) left tt text
either_end is_terminal now left files text (inl h) = inl (waits is_terminal now left files text h)
either_end is_terminal now left files text (inr h) = inr (finishes is_terminal now left files text h)

ends_at : {F : Type 0} (is_terminal : Bool) (now : Sitting F) (end : Result (Unit {0}) PromptFault) (left : Option (List ℕ)) (files : F) (text : List ℕ)
    → EndsAt unknown_saves MayGive is_terminal now end left files text → EndsAt unknown_saves MayGive is_terminal (forgotten now) end left tt text
unfolding forget forgotten
ends_at is_terminal now (Ok x) left files text h = finishes is_terminal now left files text h
ends_at is_terminal now (Err ReadFault) left files text h = waits is_terminal now left files text h
ends_at is_terminal now (Err WriteFault) left files text h = (h.0, h.1, h.2, either_end is_terminal now left files h.1 h.3)
ends_at is_terminal now (Err OutOfMemory) left files text h = record {
  bytes = h.bytes;
  read = h.read;
  starves = starves now.typed h.bytes (moment now.state now.unsaved now.files []) files h.starves;
  told = h.told;
}

ends : {F : Type 0} (is_terminal : Bool) (began : Sitting F) (end : Result (Unit {0}) PromptFault) (left : Option (List ℕ)) (files : F) (text : List ℕ)
    → Ends unknown_saves MayGive is_terminal began end left files text → Ends unknown_saves MayGive is_terminal (forgotten began) end left tt text
unfolding forgotten
ends is_terminal began end left files text (inl h) =
    inl (h.0, forgotten h.1, all_read is_terminal h.0 began h.1 h.2, ends_at is_terminal h.1 end left files text h.3)
ends is_terminal began end left files text (inr h) = inr (h.0, h.1, refl, h.3)

pub prompts : {F : Type 0} (status : ℕ) (asked is_terminal : Bool) (end : Result (Unit {0}) PromptFault) (r s w x : Option (List ℕ)) (old new : F) (text : List ℕ)
    → asked ≡ is_terminal → status ≡ prompt_status end → Appends w x text → Ends unknown_saves MayGive asked (nothing_typed asked r old) end s new text
    → Prompts is_terminal status (streams r w) (streams s x)
unfolding forgotten
prompts status asked is_terminal end r s w x old new text same told written h =
    subst (λ (is : Bool). Prompts is status (streams r w) (streams s x)) same
    (record { end = end; text = text; told = told; written = written; ends = ends asked (nothing_typed asked r old) end s new text h })
