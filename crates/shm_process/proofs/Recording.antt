-- From bytes a desk records the entries of what its node did.
use Rattle.std.proofs.Common.{◌≡◌, ℕ, Bool, true, false, List, [], ◌∷◌, ◌++◌, cond, length, refl}
use Rattle.std.specs.Option.{option_map_or}
use Rattle.std.specs.Prelude.{⊤, Option, Some, None, Result, Ok, Err, nat_lt, ◌==◌}
use Rattle.std.proofs.lemmas.List.Elements.{All-cons, All-nil}
use Rattle.shm_seal.specs.Seal.{opened}
use Rattle.shm_seal.specs.declared.open_line_error.Unsealed.{Unsealed}
use Rattle.shm_wire.specs.Line.{read_line}
use Rattle.shm_process.specs.Desk.{Desk, KeptLine, after_line, after_opened, after_read_line, grown, later_met, left_sealed, max_line_bytes, noted, on_byte, on_bytes, settled, with_other}
use Rattle.shm_process.specs.DeskEvents.{DidEvents}
use Rattle.shm_process.proofs.DeskEvents.{AreKept, Had, IsKind, Tidy, had-both, had-cond, had-nothing, had-passed, had-settled, had_read_line}
use Rattle.shm_process.specs.Hello.{first_other, read_hello}
use Rattle.shm_process.specs.Recorded.{Event}
use Rattle.shm_process.specs.Waiting.{most_steps, passed_over}
use Rattle.shm_process.specs.declared.hello_line.Hello.{Hello}
use Rattle.shm_process.specs.declared.site_opening.Disagreement.{Disagreement}

module _ (P : Event → Type 0) (Q : List ℕ → Type 0) (kind : IsKind P Q) where
  had-left : (d : Desk) (why : Unsealed) → Tidy P d → Had P d (left_sealed d why)
  had-left d why tidy =
      let first = had-passed P Q kind d tidy in
      record {
        events = first.events;
        are = first.are;
        entries = first.entries;
        node = first.node;
        recorded = first.recorded;
        steps = first.steps;
        lines = first.lines;
        own = first.own;
        tidy = tidy;
      }

  had-too_long : (d : Desk) → Tidy P d → Had P d (record d { node = passed_over d.node })
  had-too_long d tidy = had-passed P Q kind d tidy

  -- a hello is noted, and nothing recorded
  had-other : (d : Desk) (o : Option Disagreement) → Tidy P d → Had P d (option_map_or (with_other d) o d)
  had-other d None tidy = had-nothing P Q kind d d refl refl tidy
  had-other d (Some x) tidy = had-nothing P Q kind d (with_other d x) refl refl tidy

  had-noted : (d : Desk) (read : Option Hello) → Tidy P d → Had P d (noted d read)
  had-noted d read tidy = had-other d (first_other d.opening d.other read) tidy

  had-opened : (d : Desk) (line : List ℕ) (text : Result (List ℕ) Unsealed) → opened d.seal line ≡ text → nat_lt max_line_bytes (length line) ≡ false
      → Q line → Tidy P d → Had P d (after_opened d text)
  had-opened d line (Ok text) is short of tidy =
      let heard = noted d (read_hello text) in
      let now = later_met heard (read_line text) in
      let first = had-noted d (read_hello text) tidy in
      had-both P Q kind d heard (after_read_line now text (read_line text)) first
      (had-both P Q kind heard now (after_read_line now text (read_line text)) (had-nothing P Q kind heard now refl refl first.tidy)
      (had_read_line P Q kind now text (read_line text) refl (kind.inner d.seal line text is short of) first.tidy))
  had-opened d line (Err why) is short of tidy =
      let next = left_sealed d why in
      let first = had-left d why tidy in
      had-both P Q kind d next (settled most_steps next) first (had-settled P Q kind most_steps next first.tidy)

  had-line : (d : Desk) (line : List ℕ) → Q line → Tidy P d → Had P d (after_line d line)
  unfolding after_line
  had-line d line of tidy =
      had-cond P Q kind (nat_lt max_line_bytes (length line)) d (record d { node = passed_over d.node }) (after_opened d (opened d.seal line))
      (λ e. had-too_long d tidy)
      (λ e. had-opened d line (opened d.seal line) refl e of tidy)

  had-byte : (d : Desk) (byte : ℕ) → Q d.line → Tidy P d → Had P d (on_byte d byte)
  unfolding on_byte
  had-byte d byte of tidy =
      let ended = after_line d d.line in
      let first = had-line d d.line of tidy in
      had-cond P Q kind (byte == 10) d (record ended { line = [] }) (record d { line = grown d.line byte })
      (λ e. had-both P Q kind d ended (record ended { line = [] }) first (had-nothing P Q kind ended (record ended { line = [] }) refl refl first.tidy))
      (λ e. had-nothing P Q kind d (record d { line = grown d.line byte }) refl refl tidy)

  -- ---- what was read of a line

  line-cond : (b : Bool) (x y : Desk) → (b ≡ true → Q x.line) → (b ≡ false → Q y.line) → Q (cond b x y).line
  line-cond true x y p q = p refl
  line-cond false x y p q = q refl

  grown-cond : (b : Bool) (line longer : List ℕ) → Q line → Q longer → Q (cond b line longer)
  grown-cond true line longer p q = p
  grown-cond false line longer p q = q

  line-byte : (d : Desk) (byte : ℕ) → Q d.line → Q (on_byte d byte).line
  unfolding on_byte
  line-byte d byte of =
      line-cond (byte == 10) (record (after_line d d.line) { line = [] }) (record d { line = grown d.line byte })
      (λ e. kind.begun)
      (λ e. grown-cond (nat_lt max_line_bytes (length d.line)) d.line (d.line ++ byte ∷ []) of (kind.longer d.line byte e of))

  pub line_bytes : (bytes : List ℕ) (d : Desk) → Q d.line → Q (on_bytes d bytes).line
  unfolding on_bytes
  line_bytes [] d of = of
  line_bytes (byte ∷ bytes) d of = line_bytes bytes (on_byte d byte) (line-byte d byte of)

  pub had_bytes : (bytes : List ℕ) (d : Desk) → Q d.line → Tidy P d → Had P d (on_bytes d bytes)
  unfolding on_bytes
  had_bytes [] d of tidy = had-nothing P Q kind d d refl refl tidy
  had_bytes (byte ∷ bytes) d of tidy =
      let first = had-byte d byte of tidy in
      had-both P Q kind d (on_byte d byte) (on_bytes (on_byte d byte) bytes) first (had_bytes bytes (on_byte d byte) (line-byte d byte of) first.tidy)

-- ---- events of any kind

any_kind : IsKind (λ event. ⊤) (λ line. ⊤)
any_kind = record {
  long = tt;
  again = tt;
  tries = λ ask asked is. tt;
  gives_up = λ ask is. tt;
  row = λ me row is. tt;
  begun = tt;
  longer = λ line byte e of. tt;
  inner = λ seal line text is short of. tt;
}

any_kept : (kept : List KeptLine) → AreKept (λ event. ⊤) kept
any_kept [] = All-nil (λ (k : KeptLine). ⊤)
any_kept (k ∷ kept) = All-cons (λ (k : KeptLine). ⊤) k kept tt (any_kept kept)

pub did_events : (d : Desk) (bytes : List ℕ) → d.row ≡ None → DidEvents d (on_bytes d bytes)
did_events d bytes none =
    let had = had_bytes (λ event. ⊤) (λ line. ⊤) any_kind bytes d tt (any_kept d.kept, none) in
    record {
      events = had.events;
      entries = had.entries;
      node = had.node;
      recorded = had.recorded;
      steps = had.steps;
      lines = had.lines;
      row = had.tidy.1;
    }
