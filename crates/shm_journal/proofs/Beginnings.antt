-- What a journal begins with leads to the site that its entries go on from.
use Rattle.std.proofs.Common.{◌≡◌, ◌≤◌, ◌⊎◌, inl, inr, ℕ, ◌+◌, ◌==◌, List, [], ◌∷◌, ◌++◌, Some, cond, length, refl, sym, ap, subst, ◌∙◌, append_assoc, arith}
use Rattle.std.proofs.lemmas.List.{length-append}
use Rattle.std.proofs.lemmas.List.Elements.{All-nil}
use Rattle.std.proofs.lemmas.Slice.Eq.{bytes_eq-Decides}
use Rattle.shm_process.proofs.Proper as proper
use Rattle.shm_process.proofs.Proper.{IsProper}
use Rattle.shm_process.specs.Node.{Node}
use Rattle.shm_process.specs.Recorded.{kept}
use Rattle.shm_journal.proofs.EntriesFit.{opened_sound}
use Rattle.shm_journal.proofs.Fits.{fits-header}
use Rattle.shm_journal.proofs.Leading.{counts-line, one-first}
use Rattle.shm_journal.proofs.StateLeads.{made, made_is, state-counted, state-leads}
use Rattle.shm_journal.specs.Begun.{Beginning, BeginsWithState, IsBeginning, IsKeptSite, KeptSite, anew, from_state, header_text, state_lines, state_text}
use Rattle.shm_journal.specs.Found.{Found, Sound, Foreign, Bad, Partial, bytes_of_lines, found_behind, lines_of, not_own, own, reached, site_in, then_found}
use Rattle.shm_journal.specs.Lines.{Header, IsHeader, header_line, read_header}
use Rattle.shm_journal.specs.Stages.{Stage, Opened, InState, Open, begun, next_stage, opened}

-- a stage at which the site stands so, and entries may follow
abbrev pub IsAt : Stage → Node → Type 0
IsAt (Opened node telling) now = node ≡ now
IsAt (InState telling) now = ⊥
IsAt (Open node) now = node ≡ now

pub at-site : (stage : Stage) (node : Node) → IsAt stage node → site_in (Sound stage) ≡ Sound node
at-site (Opened node telling) now at = ap Sound at
at-site (InState telling) now at = absurd at
at-site (Open node) now at = ap Sound at

abbrev whole_bytes : List ℕ → ℕ
whole_bytes bytes = bytes_of_lines (lines_of bytes).whole

pub record Begins (b : Beginning) : Type 0 where
  pub number : ℕ
  pub stage : Stage
  pub at : IsAt stage b.node
  pub onward : (more : List ℕ) → reached b.header (b.text ++ more) ≡ found_behind next_stage number stage more
  pub counted : (more : List ℕ) → whole_bytes (b.text ++ more) ≡ length b.text + whole_bytes more
  pub same : kept b.node ≡ b.node
  pub sound : proper.Sound b.node

-- ---- the header

pub own-header : (header : Header) → (own header).first (header_line header) ≡ Sound (begun header)
own-header header =
    ap (λ b. cond b (Sound (begun header)) (not_own (read_header (header_line header))))
    ((bytes_eq-Decides (header_line header) (header_line header)).1 refl)

header-leads : (header : Header) (more : List ℕ) → IsHeader header → reached header (header_text header ++ more) ≡ found_behind next_stage 2 (begun header) more
header-leads header more is =
    let line = fits-header header is in
    one-first (own header) (header_line header) more line.unended line.short
    ∙ ap (λ f. then_found f (λ state. found_behind next_stage 2 state more)) (own-header header)

line-length : (line : List ℕ) (n : ℕ) → length line + 1 + n ≡ length (line ++ 10 ∷ []) + n
line-length line n = omega (arith, length-append line (10 ∷ []))

header-counted : (header : Header) (more : List ℕ) → IsHeader header → whole_bytes (header_text header ++ more) ≡ length (header_text header) + whole_bytes more
header-counted header more is = counts-line (header_line header) more (fits-header header is).unended ∙ line-length (header_line header) (whole_bytes more)

pub begins_anew : (header : Header) → IsHeader header → Begins (anew header)
begins_anew header is = record {
  number = 2;
  stage = begun header;
  at = refl;
  onward = λ more. header-leads header more is;
  counted = λ more. header-counted header more is;
  same = refl;
  sound = opened_sound header;
}

-- ---- the header, and a state

both-length : (text rest : List ℕ) (n : ℕ) → length text + (length rest + n) ≡ length (text ++ rest) + n
both-length text rest n = omega (arith, length-append text rest)

made-kept : (header : Header) (site : KeptSite) (node : Node) → IsKeptSite header site node → kept node ≡ node
made-kept header site node is =
    let m = made header site node is in
    subst (λ n. kept n ≡ n) (made_is (record m.all { mapped = site.mapped }) site.ending node m.makes) refl

made-sound : (header : Header) (site : KeptSite) (node : Node) → IsKeptSite header site node → proper.Sound node
made-sound header site node is =
    let m = made header site node is in
    subst proper.Sound (made_is (record m.all { mapped = site.mapped }) site.ending node m.makes) (record { clock = is.ending.0; asks = All-nil (IsProper m.all.me) })

pub begins_from : (header : Header) (site : KeptSite) (node : Node) → IsHeader header → IsKeptSite header site node → Begins (from_state header site node)
begins_from header site node is kept =
    let text = state_text site in
    record {
      number = 2 + length (state_lines site);
      stage = Open node;
      at = refl;
      onward = λ more.
          ap (reached header) (append_assoc (header_text header) text more) ∙ header-leads header (text ++ more) is ∙ state-leads header site node 2 more kept;
      counted = λ more.
          ap whole_bytes (append_assoc (header_text header) text more) ∙ header-counted header (text ++ more) is
          ∙ ap (λ n. length (header_text header) + n) (state-counted header site node more kept) ∙ both-length (header_text header) text (whole_bytes more);
      same = made-kept header site node kept;
      sound = made-sound header site node kept;
    }

begins-either : (b : Beginning) → IsHeader b.header → (b ≡ anew b.header) ⊎ BeginsWithState b → Begins b
begins-either b is (inl same) = subst Begins (sym same) (begins_anew b.header is)
begins-either b is (inr state) = subst Begins (sym state.2) (begins_from b.header state.0 b.node is state.1)

pub begins : (b : Beginning) → IsBeginning b → Begins b
begins b is = begins-either b is.0 is.1
