-- Bytes of a page that an unmap brings, stored at once, are so many steps.
use Rattle.std.proofs.Common.{◌≡◌, ℕ, suc, ◌+◌, ◌≤◌, ◌==◌, true, List, [], ◌∷◌, ◌++◌, Some, None, cond, length, refl, ap, ap₂, sym, ◌∙◌, append-nil, arith}
use Rattle.std.specs.Prelude.{option_map}
use Rattle.std.proofs.Math.Nat.{max-zero}
use Rattle.std.proofs.lemmas.Bool.Decides.{nat_tests}
use Rattle.shm_model.specs.declared.answer.Answer.TheVariants.{Stored}
use Rattle.shm_model.specs.declared.asked_access.Asked.TheVariants.{Store}
use Rattle.shm_model.specs.Access.{Place, store}
use Rattle.shm_model.specs.Basics.{greatest}
use Rattle.shm_model.specs.Receipt.{access_of}
use Rattle.shm_model.specs.Site.{Step, still}
use Rattle.shm_wire.specs.Line as stream
use Rattle.shm_wire.specs.Unmaps.{UnmapAsk}
use Rattle.shm_process.specs.Cause.{OfLine}
use Rattle.shm_process.specs.Causes.{store_line}
use Rattle.shm_process.specs.Counts.{counted_on, with_said}
use Rattle.shm_process.specs.Desk.{Desk, step_text, stored_run, told_quietly, unrecorded, untagged, with_told}
use Rattle.shm_process.specs.Further.{Brings, MayBring, after_brought, stored_from}
use Rattle.shm_process.specs.Node.{Heard, Node, Said, asked_under, caller_after, heard, is_late, next_clock, says}
use Rattle.shm_process.specs.Waiting.{after, after_heard, counted, joining, joins, said, taken}
use Rattle.shm_process.proofs.FurtherLoads.{early_is}
use Rattle.shm_process.proofs.FurtherPlaces.{place_after}
use Rattle.shm_process.proofs.FurtherStores.{site_with, stored, stored_on, stores_then}
use Rattle.shm_process.proofs.FurtherStep.{none_sent}

same-number : (one other : ℕ) → one ≡ other → (one == other) ≡ true
same-number one other e = grind (arith, nat_tests)

-- counting on, one by one and at once
pub counted_then : (lines more : ℕ) → lines ≤ greatest → counted_on (counted lines) more ≡ counted_on lines (suc more)
counted_then lines more few = grind (arith, nat_tests)

pub counted_few : (lines : ℕ) → lines ≤ greatest → counted lines ≤ greatest
counted_few lines few = grind (arith, nat_tests)

module _ (d : Desk) (ask : UnmapAsk) (offset byte : ℕ) (more : List ℕ) (place : Place) (b : Brings d.node ask.site ask.at offset (suc (length more)) place)
    (few : d.counts.sent ≤ greatest) where
  abbrev node : Node
  node = d.node

  abbrev line : stream.Line
  line = store_line ask offset byte

  abbrev h : Heard
  h = asked_under ask.tag None None (access_of (Store ask.at offset byte))

  abbrev pub node_then : Node
  node_then = record node { site = site_with node.site place byte; clock = node.clock + 1; steps = node.steps + 1; taken = counted node.taken }

  heard-is : heard node line ≡ Some h
  heard-is =
      let clocks = b.clocks in
      ap (λ s. cond s (cond (is_late node 0) None (Some h)) None) (same-number ask.site node.me b.here)
      ∙ ap (λ late. cond late None (Some h)) (early_is node.clock (omega (arith, clocks)))

  made : store node.sites node.me ask.at offset byte node.site ≡ still Stored (site_with node.site place byte)
  made = stored node.sites node.me ask.at offset byte node.site place (length more) b.stores

  clock-is : next_clock node 0 ≡ node.clock + 1
  clock-is = ap (λ n. n + 1) (max-zero node.clock)

  after-is : after node line ≡ node_then
  after-is =
      ap (after_heard node (joining node line)) heard-is
      ∙ ap₂ (λ (s : Step) c. record node { site = s.site; clock = c; steps = node.steps + 1; taken = counted node.taken; caller = caller_after (Some ask.tag) node.caller s.answer })
      made clock-is

  abbrev told : Said
  told = record {
    site = node.me;
    clock = next_clock node 0;
    index = node.steps;
    sent = [];
    tag = None;
    answer = Stored;
    block = None;
    cause = OfLine line;
  }

  abbrev spoken : Said
  spoken = says node (OfLine line) h (joins node h)

  said-is : said node line ≡ Some spoken
  said-is = ap (option_map (λ x. says node (OfLine line) x (joins node x))) heard-is

  quiet-is : untagged spoken ≡ told
  quiet-is = ap (λ (s : Step). record told { sent = s.sent; answer = s.answer }) made

  counts-are : with_said told d.counts ≡ d.counts
  counts-are = ap (λ sent. record d.counts { sent = sent }) (none_sent d.counts.sent few)

  text-is : step_text d.seal (Some told) ≡ []
  unfolding step_text
  text-is = refl

  pub one_brought : unrecorded d line ≡ record d { node = node_then }
  unfolding unrecorded
  one_brought =
      ap₂ (λ n o. told_quietly (record d { node = n }) o) after-is said-is
      ∙ ap (with_told (record d { node = node_then })) quiet-is
      ∙ ap₂ (λ text counts. record d { node = node_then; told = text; counts = counts }) (ap (λ t. d.told ++ t) text-is ∙ append-nil d.told) counts-are

  pub brings_then : (left : ℕ) → length more ≡ suc left → Brings node_then ask.site ask.at (offset + 1) (length more) (place_after place)
  brings_then left some =
      let clocks = b.clocks in
      record {
        here = b.here;
        clocks = omega (arith, clocks);
        stores = stores_then node.sites node.me ask.at offset byte node.site place (length more) b.stores left some;
      }

  pub one_and_more : (rest : List ℕ) → node.taken ≤ greatest → after_brought node_then ask.at (offset + 1) rest ≡ after_brought node ask.at offset (byte ∷ rest)
  one_and_more rest lines =
      let clock : (node.clock + 1) + length rest ≡ node.clock + suc (length rest) = omega arith in
      let steps : (node.steps + 1) + length rest ≡ node.steps + suc (length rest) = omega arith in
      ap₂ (λ c s. record node {
        site = stored_from node.sites node.me ask.at (offset + 1) rest (site_with node.site place byte);
        clock = c;
        steps = s;
        taken = counted_on (counted node.taken) (length rest);
      }) clock steps
      ∙ ap₂ (λ t n. record node { site = t; clock = node.clock + suc (length rest); steps = node.steps + suc (length rest); taken = n })
      (sym (stored_on node.sites node.me ask.at offset byte node.site place (length more) b.stores rest)) (counted_then node.taken (length rest) lines)

  nothing-left : site_with node.site place byte ≡ stored_from node.sites node.me ask.at (offset + 1) [] (site_with node.site place byte)
  unfolding stored_from
  nothing-left = refl

  pub one_alone : node.taken ≤ greatest → node_then ≡ after_brought node ask.at offset (byte ∷ [])
  one_alone lines =
      ap₂ (λ t n. record node { site = t; clock = node.clock + 1; steps = node.steps + 1; taken = n })
      (nothing-left ∙ sym (stored_on node.sites node.me ask.at offset byte node.site place (length more) b.stores []))
      (sym (none_sent (counted node.taken) (counted_few node.taken lines)) ∙ counted_then node.taken 0 lines)

-- so many bytes
pub brought_further : (more : List ℕ) (byte : ℕ) (d : Desk) (ask : UnmapAsk) (offset : ℕ) (place : Place)
    → Brings d.node ask.site ask.at offset (suc (length more)) place → d.counts.sent ≤ greatest → d.node.taken ≤ greatest
    → stored_run d ask offset (byte ∷ more) ≡ record d { node = after_brought d.node ask.at offset (byte ∷ more) }
unfolding stored_run
brought_further [] byte d ask offset place b few lines =
    one_brought d ask offset byte [] place b few ∙ ap (λ n. record d { node = n }) (one_alone d ask offset byte [] place b few lines)
brought_further (next ∷ rest) byte d ask offset place b few lines =
    ap (λ x. stored_run x ask (offset + 1) (next ∷ rest)) (one_brought d ask offset byte (next ∷ rest) place b few)
    ∙ brought_further rest next (record d { node = node_then d ask offset byte (next ∷ rest) place b few }) ask (offset + 1) (place_after place)
    (brings_then d ask offset byte (next ∷ rest) place b few (length rest) refl) few (counted_few d.node.taken lines)
    ∙ ap (λ n. record d { node = n }) (one_and_more d ask offset byte (next ∷ rest) place b few (next ∷ rest) lines)

none-brought : (node : Node) (at offset : ℕ) → node.taken ≤ greatest → node ≡ after_brought node at offset []
unfolding stored_from
none-brought node at offset lines =
    let clock : node.clock ≡ node.clock + 0 = omega arith in
    let steps : node.steps ≡ node.steps + 0 = omega arith in
    ap₂ (λ c s. record node { clock = c; steps = s }) clock steps
    ∙ ap (λ n. record node { clock = node.clock + 0; steps = node.steps + 0; taken = n }) (sym (none_sent node.taken lines))

-- whatever an unmap brings
brought-all : (bytes : List ℕ) (d : Desk) (ask : UnmapAsk) (offset : ℕ) → MayBring d.node ask.site ask.at offset (length bytes)
    → d.counts.sent ≤ greatest → d.node.taken ≤ greatest → record d { node = after_brought d.node ask.at offset bytes } ≡ stored_run d ask offset bytes
unfolding stored_run
brought-all [] d ask offset may few lines = ap (λ n. record d { node = n }) (sym (none-brought d.node ask.at offset lines))
brought-all (byte ∷ more) d ask offset may few lines = sym (brought_further more byte d ask offset may.0 may.1 few lines)

pub made_brought : (bytes : List ℕ) (d : Desk) (ask : UnmapAsk) (offset : ℕ) (next : Node) → MayBring d.node ask.site ask.at offset (length bytes)
    → d.counts.sent ≤ greatest → d.node.taken ≤ greatest → next ≡ after_brought d.node ask.at offset bytes → record d { node = next } ≡ stored_run d ask offset bytes
made_brought bytes d ask offset next may few lines is = ap (λ n. record d { node = n }) is ∙ brought-all bytes d ask offset may few lines
