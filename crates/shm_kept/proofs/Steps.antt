-- What a step leaves of a site's right to the pages that are mapped: an envelope whose verdicts are all to take it lessens none, and no
-- other input does, but the detach of an attachment that a page is mapped through.
use Rattle.std.proofs.Common.{◌≡◌, ℕ, Bool, true, false, List, [], ◌∷◌, ◌++◌, ◌==◌, not, None, Result, Ok, Err, cond, refl, sym, ap, ◌∙◌, subst, arith}
use Rattle.std.specs.List.{list_all, list_any}
use Rattle.std.proofs.lemmas.Bool.{and_parts}
use Rattle.std.proofs.lemmas.Bool.Decides.{nat_tests}
use Rattle.shm_place.specs.declared.page_id.PageId.{PageId}
use Rattle.shm_place.specs.Page.{same_page}
use Rattle.shm_model.specs.declared.answer.Answer.{Answer}
use Rattle.shm_model.specs.declared.call.Request.TheVariants.{DetachAt, Op as OpRequest}
use Rattle.shm_model.specs.declared.request_kind.Kind.{Kind}
use Rattle.shm_model.specs.declared.request_kind.Kind.TheVariants.{Read, Write}
use Rattle.shm_model.specs.Access.{Place, ask_for, is_pending, load_if, right, store_if, stored_entry}
use Rattle.shm_model.specs.Basics.{greatest}
use Rattle.shm_model.specs.Entry.{Entry, Nil, Copy, OwnRead, OwnWrite, Handed, readable, writable}
use Rattle.shm_model.specs.Message.{Deliver, Envelope, Input, Load, Store, Begin, Tick, Restart}
use Rattle.shm_model.specs.Site.{Site, Step, still}
use Rattle.shm_model.specs.Step.{step}
use Rattle.shm_laws.proofs.Move.Calls.{begin-quiet}
use Rattle.shm_laws.proofs.Page.Entry.{false-true}
use Rattle.shm_laws.proofs.Page.Moves.{page-same}
use Rattle.shm_mapping.specs.Mapped.{allows}
use Rattle.shm_mapping.specs.Verdicts.{left_by, may_map, verdict_at}
use Rattle.shm_mapping.specs.declared.envelope_verdict.Verdict.{Verdict}
use Rattle.shm_mapping.specs.declared.envelope_verdict.Verdict.TheVariants.{Take, UnmapToRead, Unmap}
use Rattle.shm_mapping.proofs.Verdicts.{steps-keep}
use Rattle.shm_wire.specs.declared.mapping_text.Mapping.{Mapping}
use Rattle.shm_process.specs.Mapped.{as_mapped, is_take, verdict_for}
use Rattle.shm_kept.specs.Kept.{AreNumbered, is_through}
use Rattle.shm_kept.proofs.Attachments.{detaches, numbered-after, stands-after}
use Rattle.shm_kept.proofs.Rights.{Good, both, each-more, holds, through-attached, through-stays}

-- ---- accesses, calls, ticks and restarts

-- no right is lessened
record Lets (site : Site) (st : Step) : Type 0 where
  pub frames : st.site.frames ≡ site.frames
  pub right : (page : PageId) (kind : Kind) → allows kind (site.entries page) ≡ true → allows kind (st.site.entries page) ≡ true

lets-same : (site : Site) (st : Step) → st.site.frames ≡ site.frames → st.site.entries ≡ site.entries → Lets site st
lets-same site st frames entries = record {
  frames = frames;
  right = λ page kind a. ap (λ (f : PageId → Entry). allows kind (f page)) entries ∙ a;
}

lets-still : (site : Site) (answer : Answer) → Lets site (still answer site)
lets-still site answer = lets-same site (still answer site) refl refl

lets-if : (site : Site) (b : Bool) (x y : Step) → Lets site x → Lets site y → Lets site (cond b x y)
lets-if site true x y p q = p
lets-if site false x y p q = q

lets-ask_for : (sites me : ℕ) (kind : Kind) (page : PageId) (site : Site) → Lets site (ask_for sites me kind page site)
lets-ask_for sites me kind page site =
    lets-if site (is_pending kind page site.pending) _ _ (lets-still site _)
    (lets-if site (site.requests == greatest) _ _ (lets-still site _) (lets-same site _ refl refl))

lets-load_if : (sites me : ℕ) (place : Result Place ℕ) (site : Site) → Lets site (load_if sites me place site)
lets-load_if sites me (Err refusal) site = lets-still site _
lets-load_if sites me (Ok place) site =
    lets-if site (readable (site.entries place.page)) _ _ (lets-still site _) (lets-ask_for sites me Read place.page site)

stored-allows : (within byte : ℕ) (e : Entry) (kind : Kind) → allows kind e ≡ true → allows kind (stored_entry within byte e) ≡ true
stored-allows within byte (Nil n) kind a = a
stored-allows within byte (Copy n b) kind a = a
stored-allows within byte (OwnRead n b) kind a = a
stored-allows within byte (OwnWrite n b) Read a = refl
stored-allows within byte (OwnWrite n b) Write a = refl
stored-allows within byte (Handed n to b) kind a = a

store-right : (within byte : ℕ) (site : Site) (there page : PageId) (kind : Kind) (same : Bool) → same_page there page ≡ same → allows kind (site.entries page) ≡ true
    → allows kind (cond same (stored_entry within byte (site.entries there)) (site.entries page)) ≡ true
store-right within byte site there page kind true same a =
    stored-allows within byte (site.entries there) kind (ap (λ p. allows kind (site.entries p)) (page-same there page same) ∙ a)
store-right within byte site there page kind false same a = a

lets-store_if : (sites me : ℕ) (place : Result Place ℕ) (byte : ℕ) (site : Site) → Lets site (store_if sites me place byte site)
lets-store_if sites me (Err refusal) byte site = lets-still site _
lets-store_if sites me (Ok place) byte site =
    lets-if site (writable (site.entries place.page)) _ _
    (record { frames = refl; right = λ page kind a. store-right place.within byte site place.page page kind (same_page place.page page) refl a })
    (lets-ask_for sites me Write place.page site)

-- ---- an envelope

take-is : (v : Verdict) → is_take v ≡ true → v ≡ Take
take-is Take e = refl
take-is UnmapToRead e = absurd (false-true e)
take-is Unmap e = absurd (false-true e)

not-not : (b : Bool) → not b ≡ false → b ≡ true
not-not true e = refl
not-not false e = absurd (false-true (sym e))

module _ (sites me : ℕ) (site : Site) (frames : site.frames ≡ None) where
  deliver-frames : (e : Envelope) → (step sites me site (Deliver e)).site.frames ≡ None
  deliver-frames e = (steps-keep sites me site e [] (record { frames = frames; each = refl })).frames

  deliver-right : (e : Envelope) (m : Mapping) → not (is_take (verdict_for me e.message m)) ≡ false → may_map site (as_mapped m) ≡ true
      → allows m.kind ((step sites me site (Deliver e)).site.entries m.page) ≡ true
  deliver-right e m take may =
      let new = (step sites me site (Deliver e)).site in
      let kept = steps-keep sites me site e (as_mapped m ∷ []) (record { frames = frames; each = both (may_map site (as_mapped m)) true may refl }) in
      let v : verdict_at me e.message (as_mapped m) ≡ Take = take-is (verdict_for me e.message m) (not-not (is_take (verdict_for me e.message m)) take) in
      let each : list_all (may_map new) (as_mapped m ∷ []) ≡ true = subst (λ x. list_all (may_map new) (left_by x (as_mapped m) ++ []) ≡ true) v kept.each in
      let here = and_parts (may_map new (as_mapped m)) true each in
      (and_parts _ (allows m.kind (new.entries m.page)) here.0).1

-- ---- any input

-- the input lessens the right to what is mapped so, or takes its attachment away
abbrev pub harms : ℕ → Input → Mapping → Bool
harms me (Deliver e) m = not (is_take (verdict_for me e.message m))
harms me (Begin (DetachAt a)) m = m.at == a
harms me _ m = false

-- no right is lessened by any other input than an envelope
input-lets : (sites me : ℕ) (site : Site) (input : Input) → ((e : Envelope) → input ≡ Deliver e → ⊥) → Lets site (step sites me site input)
input-lets sites me site (Load a offset) none = lets-load_if sites me (right site.attachments a offset false) site
input-lets sites me site (Store a offset byte) none = lets-store_if sites me (right site.attachments a offset true) byte site
input-lets sites me site (Begin request) none = let q = begin-quiet sites me request site in lets-same site _ q.frames q.entries
input-lets sites me site (Deliver e) none = absurd (none e refl)
input-lets sites me site Tick none = lets-same site _ refl refl
input-lets sites me site Restart none = lets-same site _ refl refl

other-at : (a b : ℕ) → (b == a) ≡ false → (a == b) ≡ false
other-at a b e = grind (arith, nat_tests)

-- an attachment that a page is mapped through isn't detached
harmless-at : (me : ℕ) (input : Input) (m : Mapping) → harms me input m ≡ false → detaches input m.at ≡ false
harmless-at me (Load a offset) m e = refl
harmless-at me (Store a offset byte) m e = refl
harmless-at me (Begin (OpRequest op)) m e = refl
harmless-at me (Begin (DetachAt a)) m e = other-at a m.at e
harmless-at me (Deliver x) m e = refl
harmless-at me Tick m e = refl
harmless-at me Restart m e = refl

module _ (sites me : ℕ) (site : Site) (frames : site.frames ≡ None) (numbered : AreNumbered site) where
  lets-right : (input : Input) (m : Mapping) → Lets site (step sites me site input) → holds site m ≡ true
      → allows m.kind ((step sites me site input).site.entries m.page) ≡ true
  lets-right input m lets e = lets.right m.page m.kind (and_parts (is_through site m) (allows m.kind (site.entries m.page)) e).1

  right-after : (input : Input) (m : Mapping) → harms me input m ≡ false → holds site m ≡ true
      → allows m.kind ((step sites me site input).site.entries m.page) ≡ true
  right-after (Deliver x) m harmless e =
      let parts = and_parts (is_through site m) (allows m.kind (site.entries m.page)) e in
      deliver-right sites me site frames x m harmless (both _ _ (through-attached site m numbered parts.0) parts.1)
  right-after (Load a offset) m harmless e = lets-right (Load a offset) m (input-lets sites me site (Load a offset) (λ x is. cc)) e
  right-after (Store a offset byte) m harmless e = lets-right (Store a offset byte) m (input-lets sites me site (Store a offset byte) (λ x is. cc)) e
  right-after (Begin request) m harmless e = lets-right (Begin request) m (input-lets sites me site (Begin request) (λ x is. cc)) e
  right-after Tick m harmless e = lets-right Tick m (input-lets sites me site Tick (λ x is. cc)) e
  right-after Restart m harmless e = lets-right Restart m (input-lets sites me site Restart (λ x is. cc)) e

  frames-after : (input : Input) → (step sites me site input).site.frames ≡ None
  frames-after (Deliver x) = deliver-frames sites me site frames x
  frames-after (Load a offset) = (input-lets sites me site (Load a offset) (λ x is. cc)).frames ∙ frames
  frames-after (Store a offset byte) = (input-lets sites me site (Store a offset byte) (λ x is. cc)).frames ∙ frames
  frames-after (Begin request) = (input-lets sites me site (Begin request) (λ x is. cc)).frames ∙ frames
  frames-after Tick = frames
  frames-after Restart = frames

  holds-after : (input : Input) (m : Mapping) → harms me input m ≡ false → holds site m ≡ true → holds (step sites me site input).site m ≡ true
  holds-after input m harmless e =
      let parts = and_parts (is_through site m) (allows m.kind (site.entries m.page)) e in
      both _ _ (through-stays site (step sites me site input).site m (λ x is. stands-after sites me site input m.at x (harmless-at me input m harmless) is) parts.0)
      (right-after input m harmless e)

-- what is mapped holds after each step that harms none of it
pub step-good : (sites me : ℕ) (site : Site) (input : Input) (mapped : List Mapping) → Good site mapped → list_any (harms me input) mapped ≡ false
    → Good (step sites me site input).site mapped
step-good sites me site input mapped g harmless = record {
  frames = frames-after sites me site g.frames g.numbered input;
  each = each-more (holds site) (holds (step sites me site input).site) (harms me input)
      (holds-after sites me site g.frames g.numbered input) mapped harmless g.each;
  numbered = numbered-after sites me site input g.numbered;
}
