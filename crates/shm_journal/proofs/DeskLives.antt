-- What a desk takes of bytes: lines without a line feed, none of them too long; and what it records of them are the entries of a life.
use Rattle.std.proofs.Common.{◌≡◌, ◌≤◌, ℕ, Bool, true, false, List, [], ◌∷◌, ◌++◌, ◌∙◌, ap, cond, length, nat_lt, subst, refl, arith}
use Rattle.std.specs.List.{All}
use Rattle.std.specs.Prelude.{Some, None, Ok}
use Rattle.std.proofs.lemmas.Bool.Decides.{nat_tests}
use Rattle.std.proofs.lemmas.List.{length-append}
use Rattle.std.proofs.Math.Seq.{take-append_seam}
use Rattle.std.proofs.lemmas.List.Elements.{All-cons, All-nil, All-push, All-take}
use Rattle.shm_seal.proofs.SealLemmas.{opened_is_sealed}
use Rattle.shm_seal.specs.Seal.{Seal, opened, sealed, tail_of}
use Rattle.shm_process.proofs.DeskEvents.{AreKept, Had, IsKind}
use Rattle.shm_process.proofs.Recording as recording
use Rattle.shm_process.proofs.Proper as proper
use Rattle.shm_process.specs.Desk.{Desk, KeptLine, max_line_bytes, on_bytes, restarted, step_entry}
use Rattle.shm_process.specs.Node.{Node, is_late}
use Rattle.shm_process.specs.Recorded.{Line, Restarted, IsEntry, all_steps, entries_from, entries_text, entry_of, recorded}
use Rattle.shm_process.specs.Waiting.{after_restart, said_restart}
use Rattle.shm_process.specs.declared.process_counts.Start.{Start}
use Rattle.shm_journal.proofs.EntriesFit.{steps_are}
use Rattle.shm_journal.proofs.Fits.{IsNoFeed, fits-restart, fits-try, fits-unmap}
use Rattle.shm_journal.proofs.RowsFit.{fits_row}
use Rattle.shm_journal.specs.DeskFrom.{greeting_from}
use Rattle.shm_journal.specs.Lines.{Header}
use Rattle.shm_journal.specs.LinesOf.{Unended}
use Rattle.shm_journal.specs.Lives.{IsLife, IsOfTaken, IsTaken}

-- ---- a line that is opened

not-long : (n : ℕ) → nat_lt max_line_bytes n ≡ false → n ≤ max_line_bytes
not-long n h = grind (arith, nat_tests)

front-taken : (inner tail : List ℕ) → Unended (inner ++ tail) → length (inner ++ tail) ≤ max_line_bytes → IsTaken (Line inner)
front-taken inner tail unended short =
    let len = length-append inner tail in
    (subst Unended (take-append_seam inner tail) (All-take IsNoFeed (length inner) (inner ++ tail) unended), omega (arith, len, short))

-- a line that was sealed is in front of its seal
inner-taken : (seal : Seal) (line inner : List ℕ) → opened seal line ≡ Ok inner → length line ≤ max_line_bytes → Unended line → IsTaken (Line inner)
unfolding sealed
inner-taken seal line inner is short unended =
    let same = opened_is_sealed seal line inner is in
    front-taken inner (tail_of seal inner) (subst Unended same unended) (subst (λ l. length l ≤ max_line_bytes) same short)

-- ---- what is taken

taken-kind : IsKind IsTaken Unended
taken-kind = record {
  long = tt;
  again = tt;
  tries = λ ask asked is. let f = fits-try ask asked is in (f.unended, f.short);
  gives_up = λ ask is. let f = fits-unmap ask is in (f.unended, f.short);
  row = λ me row is. let f = fits_row me row is in (f.unended, f.short);
  begun = All-nil IsNoFeed;
  longer = λ line byte e unended. All-push IsNoFeed line byte unended e;
  inner = λ seal line text is short unended. inner-taken seal line text is (not-long (length line) short) unended;
}

-- the node of the first desk had these events, and what was recorded are entries of their steps
abbrev pub Took : Desk → Desk → Type 0
Took = Had IsTaken

-- what is kept back was taken
abbrev pub KeepsTaken : List KeptLine → Type 0
KeepsTaken = AreKept IsTaken

pub keeps_none : KeepsTaken []
keeps_none = All-nil (λ (k : KeptLine). IsTaken (Line k.line))

pub took_bytes : (bytes : List ℕ) (d : Desk) → Unended d.line → KeepsTaken d.kept → d.row ≡ None → Took d (on_bytes d bytes)
took_bytes bytes d unended kept none = recording.had_bytes IsTaken Unended taken-kind bytes d unended (kept, none)

pub line_bytes : (bytes : List ℕ) (d : Desk) → Unended d.line → Unended (on_bytes d bytes).line
line_bytes bytes d unended = recording.line_bytes IsTaken Unended taken-kind bytes d unended

-- what was recorded are the entries of a life
pub took_life : (old new : Desk) → (t : Took old new) → old.recorded ≡ [] → proper.Sound old.node → IsLife old.node t.events new.recorded
took_life old new t none sound = record {
  entries = t.entries;
  are = t.lines (steps_are t.events old.node sound);
  taken = t.own (steps_are t.events old.node sound);
  is = t.recorded ∙ ap (λ r. r ++ entries_text t.entries) none;
  steps = t.steps;
}

-- ---- a start

restart-node : (node : Node) (late : Bool) → late ≡ false → after_restart node ≡ cond late node (after_restart node)
restart-node node true e = absurd (cc)
restart-node node false e = refl

restart-lines : (node : Node) (late : Bool) → late ≡ false → All IsEntry (recorded (cond late None (Some (said_restart node))) [])
    → All IsEntry (entry_of (said_restart node) ∷ [])
restart-lines node true e all = absurd (cc)
restart-lines node false e all = all

restart-steps : (node : Node) (late : Bool) → late ≡ false → all_steps (entry_of (said_restart node) ∷ []) ≡ recorded (cond late None (Some (said_restart node))) []
unfolding entries_from
restart-steps node true e = absurd (cc)
restart-steps node false e = refl

pub took_restart : (header : Header) (seal : Seal) (node : Node) (start : Start) → is_late node 0 ≡ false
    → Took (greeting_from header seal node start) (restarted (greeting_from header seal node start))
unfolding restarted step_entry
took_restart header seal node start early =
    let entry = entry_of (said_restart node) in
    let steps = restart-steps node (is_late node 0) early in record {
      events = Restarted ∷ [];
      are = All-cons IsTaken Restarted [] tt (All-nil IsTaken);
      entries = entry ∷ [];
      node = restart-node node (is_late node 0) early;
      recorded = refl;
      steps = steps;
      lines = λ all. restart-lines node (is_late node 0) early all;
      own = λ all. All-cons IsOfTaken entry [] (fits-restart.unended, fits-restart.short) (All-nil IsOfTaken);
      tidy = (keeps_none, refl);
    }

pub line_restart : (header : Header) (seal : Seal) (node : Node) (start : Start) → Unended (restarted (greeting_from header seal node start)).line
unfolding restarted
line_restart header seal node start = All-nil IsNoFeed
