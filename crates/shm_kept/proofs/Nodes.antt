-- What a node maps is kept by each step that it makes of a line that it meets free, of a map or an unmap, of an ask that waits, and of a
-- restart.
use Rattle.std.proofs.Common.{◌≡◌, ℕ, Bool, true, false, List, ◌&&◌, ◌==◌, not, Option, Some, None, Result, Ok, Err, ◌<◌, arith, cond, refl, sym, ap, ◌∙◌, subst, is_some}
use Rattle.std.specs.List.{list_all, list_any}
use Rattle.std.specs.Option.{option_map_or}
use Rattle.std.specs.Prelude.{option_map, slice_index, unwrap_or}
use Rattle.std.proofs.lemmas.Bool.{and_parts, cond_both}
use Rattle.std.proofs.lemmas.Bool.Decides.{nat_tests}
use Rattle.shm_place.specs.declared.page_id.PageId.{PageId}
use Rattle.shm_model.specs.declared.answer.Answer.TheVariants.{Byte, Stored}
use Rattle.shm_model.specs.declared.asked_access.Asked.{Asked}
use Rattle.shm_model.specs.declared.asked_access.Asked.TheVariants.{Load as LoadAsked, Store as StoreAsked}
use Rattle.shm_model.specs.declared.call.Request.{Request}
use Rattle.shm_model.specs.declared.call.Request.TheVariants.{DetachAt, Op as OpRequest}
use Rattle.shm_model.specs.declared.request_kind.Kind.{Kind}
use Rattle.shm_model.specs.declared.request_kind.Kind.TheVariants.{Read, Write}
use Rattle.shm_model.specs.Access.{Place, ask_for, is_pending, load_if, right, store_if}
use Rattle.shm_model.specs.Basics.{greatest}
use Rattle.shm_model.specs.Calls.{Attachment}
use Rattle.shm_model.specs.Entry.{bytes, readable, writable}
use Rattle.shm_model.specs.Message.{Begin, Deliver, Load, Message, Restart, Store, Tick}
use Rattle.shm_model.specs.Receipt.{access_of}
use Rattle.shm_model.specs.Site.{Site, Step, still}
use Rattle.shm_model.specs.World.{preset_attachment}
use Rattle.shm_laws.proofs.Page.Entry.{false-true}
use Rattle.shm_mapping.specs.Mapped.{allows}
use Rattle.shm_parts.specs.Reached.{page_reached}
use Rattle.shm_site.specs.AtOnce.{byte_given, is_stored}
use Rattle.shm_wire.specs.Asks.{Ask}
use Rattle.shm_wire.specs.Line as stream
use Rattle.shm_wire.specs.Sent.{Sent}
use Rattle.shm_wire.specs.Unmaps.{UnmapAsk}
use Rattle.shm_wire.specs.declared.caller_ask.Question.{Question}
use Rattle.shm_wire.specs.declared.caller_ask.Question.TheVariants as question
use Rattle.shm_wire.specs.declared.mapping_text.Mapping.{Mapping}
use Rattle.shm_process.specs.Mapped.{byte_place, is_detained, is_mapped_through, is_take, page_at, verdict_for, wanted}
use Rattle.shm_process.specs.Meetings.{is_due}
use Rattle.shm_process.specs.Node.{Heard, Node, asked_under, heard, input_asked, is_late, is_lost, new_node, remapped_by, stepped, waits_for}
use Rattle.shm_process.specs.Remaps.{first_load, has_right, is_empty, mapped_if, mapped_through, unmapped_to}
use Rattle.shm_process.specs.Waiting.{after, after_again, after_heard, after_restart, after_unheard, again_at, joining, next_heard, ready, restarting}
use Rattle.shm_process.specs.WaitingAsks.{WaitingAsk, ask_in, next_access}
use Rattle.shm_kept.specs.Kept.{is_through}
use Rattle.shm_kept.proofs.Rights.{allows-lower, GoodNode, both, holds, lowered-holds, none-any, not-found, reach-again, remapped-holds, right-lower}
use Rattle.shm_kept.proofs.Steps.{harms, step-good}

-- ---- a page is mapped only with its right

place-is : (a b : Place) → ◌≡◌ {A = Result Place ℕ} (Ok a) (Ok b) → a ≡ b
place-is a b e = cc

-- an access that asks for a right isn't made
asks-byte : (sites me : ℕ) (kind : Kind) (page : PageId) (site : Site) → is_some (byte_given (ask_for sites me kind page site).answer) ≡ false
asks-byte sites me kind page site =
    cond_both (is_pending kind page site.pending) _ _ (λ (st : Step). is_some (byte_given st.answer) ≡ false) (λ e. refl)
    (λ e. cond_both (site.requests == greatest) _ _ (λ (st : Step). is_some (byte_given st.answer) ≡ false) (λ f. refl) (λ f. refl))

asks-stored : (sites me : ℕ) (kind : Kind) (page : PageId) (site : Site) → is_stored (ask_for sites me kind page site).answer ≡ false
asks-stored sites me kind page site =
    cond_both (is_pending kind page site.pending) _ _ (λ (st : Step). is_stored st.answer ≡ false) (λ e. refl)
    (λ e. cond_both (site.requests == greatest) _ _ (λ (st : Step). is_stored st.answer ≡ false) (λ f. refl) (λ f. refl))

module _ (sites me : ℕ) (site : Site) where
  load-reads : (found : Result Place ℕ) → is_some (byte_given (load_if sites me found site).answer) ≡ true
      → (place : Place) × (found ≡ Ok place) × (readable (site.entries place.page) ≡ true)
  load-reads (Err refusal) e = absurd (false-true e)
  load-reads (Ok place) e = (place, refl, reads (readable (site.entries place.page)) e)
    where
      reads : (b : Bool) → is_some (byte_given (cond b (still (Byte (slice_index (bytes (site.entries place.page)) place.within)) site) (ask_for sites me Read place.page site)).answer) ≡ true → b ≡ true
      reads true f = refl
      reads false f = absurd (false-true (sym (asks-byte sites me Read place.page site) ∙ f))

  store-writes : (found : Result Place ℕ) → is_stored (store_if sites me found 0 site).answer ≡ true
      → (place : Place) × (found ≡ Ok place) × (writable (site.entries place.page) ≡ true)
  store-writes (Err refusal) e = absurd (false-true e)
  store-writes (Ok place) e = (place, refl, writes (writable (site.entries place.page)) _ e)
    where
      writes : (b : Bool) (stored : Site) → is_stored (cond b (still Stored stored) (ask_for sites me Write place.page site)).answer ≡ true → b ≡ true
      writes true stored f = refl
      writes false stored f = absurd (false-true (sym (asks-stored sites me Write place.page site) ∙ f))

  -- the page there, mapped so, holds
  record MayMapThere (at index : ℕ) (kind : Kind) : Type 0 where
    pub place : Place
    pub reached : right site.attachments at (byte_place index 0) false ≡ Ok place
    pub new : holds site (record { at = at; page = place.page; kind = kind }) ≡ true

  has-gives : (at index : ℕ) (kind : Kind) → has_right sites me site at index kind ≡ true → MayMapThere at index kind
  has-gives at index Read e =
      let r = load-reads (right site.attachments at (byte_place index 0) false) e in
      record { place = r.0; reached = r.1; new = both _ _ (reach-again (site.attachments at) (byte_place index 0) false r.0 r.1) r.2 }
  has-gives at index Write e =
      let r = store-writes (right site.attachments at (byte_place index 0) true) e in
      record {
        place = r.0;
        reached = right-lower (site.attachments at) (byte_place index 0) r.0 r.1;
        new = both _ _ (reach-again (site.attachments at) (byte_place index 0) true r.0 r.1) r.2;
      }

  pub has-reads : (at index : ℕ) (kind : Kind) (place : Place) → has_right sites me site at index kind ≡ true → right site.attachments at (byte_place index 0) false ≡ Ok place
      → readable (site.entries place.page) ≡ true
  has-reads at index kind place has leads =
      let m = has-gives at index kind has in
      let same = place-is m.place place (sym m.reached ∙ leads) in
      let there : Mapping = record { at = at; page = m.place.page; kind = kind } in
      ap (λ (p : Place). readable (site.entries p.page)) (sym same)
      ∙ allows-lower kind (site.entries m.place.page) (and_parts (is_through site there) (allows kind (site.entries m.place.page)) m.new).1

  map-all : (mapped : List Mapping) (at index : ℕ) (kind : Kind) (has : Bool) → (has ≡ true → MayMapThere at index kind) → list_all (holds site) mapped ≡ true
      → list_all (holds site) (unwrap_or (mapped_if has mapped site at index kind) mapped) ≡ true
  map-all mapped at index kind false may each = each
  map-all mapped at index kind true may each =
      let m = may refl in
      ap (λ p. list_all (holds site) (unwrap_or (mapped_through mapped at kind p) mapped)) (ap page_reached m.reached)
      ∙ remapped-holds site (record { at = at; page = m.place.page; kind = kind }) mapped each m.new

unmap-all : (site : Site) (mapped : List Mapping) (keeps : Option Kind) (page : Option PageId) → list_all (holds site) mapped ≡ true
    → list_all (holds site) (unwrap_or (unmapped_to mapped keeps page) mapped) ≡ true
unmap-all site mapped keeps None each = each
unmap-all site mapped keeps (Some page) each = lowered-holds site keeps page mapped each

-- ---- what a line hands over harms nothing that is mapped

record Harmless (node : Node) (h : Heard) : Type 0 where
  pub each : list_all (holds node.site) (unwrap_or h.mapped node.mapped) ≡ true
  pub none : list_any (harms node.me h.input) (unwrap_or h.mapped node.mapped) ≡ false

abbrev IsHarmless : Node → Option Heard → Type 0
IsHarmless node None = Unit {0}
IsHarmless node (Some h) = Harmless node h

-- a page is mapped through what it detaches
abbrev pub detains : List Mapping → Question → Bool
detains ms (question.Begin request) = is_detained ms request
detains ms (question.Access asked) = false
detains ms (question.Try asked) = false
detains ms (question.Read at offset count) = false
detains ms question.Tick = false
detains ms (question.Show page) = false
detains ms question.Health = false
detains ms question.Mappings = false
detains ms (question.Map at index kind) = false

-- nothing that is mapped forbids the line
abbrev pub IsFree : Node → stream.Line → Type 0
IsFree node (stream.Envelope sent) = is_lost node sent ≡ false → wanted node.me sent.envelope.message node.mapped ≡ None
IsFree node (stream.Ask ask) = is_due node ask.site ≡ true → detains node.mapped ask.asked ≡ false
IsFree node (stream.Write write) = Unit {0}
IsFree node (stream.Unmap ask) = Unit {0}

access-none : (me : ℕ) (asked : Asked) (ms : List Mapping) → list_any (harms me (access_of asked)) ms ≡ false
access-none me (LoadAsked at offset) ms = none-any (harms me (Load at offset)) (λ m. refl) ms
access-none me (StoreAsked at offset byte) ms = none-any (harms me (Store at offset byte)) (λ m. refl) ms

begin-none : (me : ℕ) (request : Request) (ms : List Mapping) → is_detained ms request ≡ false → list_any (harms me (Begin request)) ms ≡ false
begin-none me (OpRequest op) ms e = none-any (harms me (Begin (OpRequest op))) (λ m. refl) ms
begin-none me (DetachAt a) ms e = e

module _ (node : Node) (g : GoodNode node) where
  try-harmless : (tag : List ℕ) (asked : Asked) → IsHarmless node (option_map (asked_under tag (waits_for tag (question.Try asked)) (remapped_by node (question.Try asked))) (input_asked (question.Try asked)))
  try-harmless tag asked = record { each = g.each; none = access-none node.me asked node.mapped }

  question-harmless : (tag : List ℕ) (q : Question) → detains node.mapped q ≡ false
      → IsHarmless node (option_map (asked_under tag (waits_for tag q) (remapped_by node q)) (input_asked q))
  question-harmless tag (question.Access asked) free = record { each = g.each; none = access-none node.me asked node.mapped }
  question-harmless tag (question.Try asked) free = try-harmless tag asked
  question-harmless tag (question.Read at offset count) free = tt
  question-harmless tag (question.Begin request) free = record { each = g.each; none = begin-none node.me request node.mapped free }
  question-harmless tag question.Tick free = record { each = g.each; none = none-any (harms node.me Tick) (λ m. refl) node.mapped }
  question-harmless tag (question.Show page) free = tt
  question-harmless tag question.Health free = tt
  question-harmless tag question.Mappings free = tt
  question-harmless tag (question.Map at index kind) free = record {
    each = map-all node.sites node.me node.site node.mapped at index kind (has_right node.sites node.me node.site at index kind)
        (has-gives node.sites node.me node.site at index kind) g.each;
    none = none-any (harms node.me (first_load at index)) (λ m. refl) (unwrap_or (remapped_by node (question.Map at index kind)) node.mapped);
  }

  ask-harmless : (ask : Ask) (here late : Bool) → ((here && not late) ≡ true → detains node.mapped ask.asked ≡ false)
      → IsHarmless node (cond here (cond late None (option_map (asked_under ask.tag (waits_for ask.tag ask.asked) (remapped_by node ask.asked)) (input_asked ask.asked))) None)
  ask-harmless ask true true free = tt
  ask-harmless ask true false free = question-harmless ask.tag ask.asked (free refl)
  ask-harmless ask false late free = tt

  sent-harmless : (sent : Sent) (lost : Bool) → (lost ≡ false → wanted node.me sent.envelope.message node.mapped ≡ None)
      → IsHarmless node (cond lost None (Some (record { input = Deliver sent.envelope; source = sent.source.at; tag = None; waits = None; mapped = None })))
  sent-harmless sent true free = tt
  sent-harmless sent false free =
      let message = sent.envelope.message in
      record {
        each = g.each;
        none = not-found (λ m. not (is_take (verdict_for node.me message m))) node.mapped (free refl);
      }

  unmap-harmless : (ask : UnmapAsk) (page : Option PageId) (here late empty : Bool)
      → IsHarmless node (cond here (cond late None (option_map (asked_under ask.tag None (unmapped_to node.mapped ask.keeps page)) (cond empty (Some (first_load ask.at ask.index)) None))) None)
  unmap-harmless ask page true true empty = tt
  unmap-harmless ask page true false true = record {
    each = unmap-all node.site node.mapped ask.keeps page g.each;
    none = none-any (harms node.me (first_load ask.at ask.index)) (λ m. refl) (unwrap_or (unmapped_to node.mapped ask.keeps page) node.mapped);
  }
  unmap-harmless ask page true false false = tt
  unmap-harmless ask page false late empty = tt

  line-harmless : (line : stream.Line) → IsFree node line → IsHarmless node (heard node line)
  line-harmless (stream.Envelope sent) free = sent-harmless sent (is_lost node sent) free
  line-harmless (stream.Ask ask) free = ask-harmless ask (ask.site == node.me) (is_late node 0) free
  line-harmless (stream.Write write) free = tt
  line-harmless (stream.Unmap ask) free =
      unmap-harmless ask (page_at node.site ask.at (byte_place ask.index 0)) (ask.site == node.me) (is_late node 0) (is_empty ask.runs)

  -- ---- steps

  stepped-good : (h : Heard) → Harmless node h → GoodNode (stepped node h)
  stepped-good h x =
      step-good node.sites node.me node.site h.input (unwrap_or h.mapped node.mapped) (record { frames = g.frames; each = x.each; numbered = g.numbered }) x.none

  unheard-good : (block : Option WaitingAsk) → GoodNode (after_unheard node block)
  unheard-good None = g
  unheard-good (Some block) = g

  heard-good : (block : Option WaitingAsk) (o : Option Heard) → IsHarmless node o → GoodNode (after_heard node block o)
  heard-good block None x = unheard-good block
  heard-good block (Some h) x = stepped-good h x

  pub after-good : (line : stream.Line) → IsFree node line → GoodNode (after node line)
  after-good line free = heard-good (joining node line) (heard node line) (line-harmless line free)

  -- a line that makes an access alone, or gives a page up, needs no meeting
  pub try-good : (ask : Ask) (asked : Asked) → ask.asked ≡ question.Try asked → GoodNode (after node (stream.Ask ask))
  try-good ask asked is = heard-good (joining node (stream.Ask ask)) (heard node (stream.Ask ask)) (tried (ask.site == node.me) (is_late node 0))
    where
      tried : (here late : Bool) → IsHarmless node (cond here (cond late None (option_map (asked_under ask.tag (waits_for ask.tag ask.asked) (remapped_by node ask.asked)) (input_asked ask.asked))) None)
      tried true true = tt
      tried true false = subst (λ q. IsHarmless node (option_map (asked_under ask.tag (waits_for ask.tag q) (remapped_by node q)) (input_asked q))) (sym is) (try-harmless ask.tag asked)
      tried false late = tt

  pub unmap-good : (ask : UnmapAsk) → GoodNode (after node (stream.Unmap ask))
  unmap-good ask =
      heard-good None (heard node (stream.Unmap ask))
      (unmap-harmless ask (page_at node.site ask.at (byte_place ask.index 0)) (ask.site == node.me) (is_late node 0) (is_empty ask.runs))

  again_at-good : (at : ℕ) → GoodNode (again_at node at)
  again_at-good at = stepped-good (next_heard (ask_in node.waiting at)) (record { each = g.each; none = access-none node.me (next_access (ask_in node.waiting at)) node.mapped })

  again-if : (at : Option ℕ) → GoodNode (option_map_or (again_at node) at node)
  again-if None = g
  again-if (Some at) = again_at-good at

  pub again-good : GoodNode (after_again node)
  again-good = again-if (ready node)

  pub restart-good : GoodNode (after_restart node)
  restart-good = stepped-good restarting (record { each = g.each; none = none-any (harms node.me Restart) (λ m. refl) node.mapped })

-- ---- a node at which nothing has happened

first-low : (same : Bool) (a : ℕ) (x y : Attachment) → (0 == a) ≡ same → cond same (Some x) None ≡ Some y → a < 64
first-low true a x y is e = grind (arith, nat_tests)
first-low false a x y is e = absurd (cc)

pub new-good : (sites me pages : ℕ) → GoodNode (new_node sites me pages)
new-good sites me pages = record { frames = refl; each = refl; numbered = λ a x is. first-low (0 == a) a (preset_attachment pages) x refl is }
