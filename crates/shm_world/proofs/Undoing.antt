-- What is kept before an event leads back over it; and a world that goes back by it stands where it stood.
use Rattle.std.proofs.Common.{◌≡◌, ◌∙◌, ℕ, ◌<◌, ◌≤◌, ◌==◌, Bool, true, false, List, [], ◌∷◌, ◌++◌, Option, Some, None, IfSome, ⊎_elim, ap, arith, if◌then◌else◌, length, nat_le, refl, slice_get, slice_set, subst, suc, sym, zero}
use Rattle.std.proofs.lemmas.Bool.{cases_eq, cases_lt}
use Rattle.std.proofs.lemmas.Bool.Decides.{nat_tests}
use Rattle.std.proofs.lemmas.Option.{slice_get_past}
use Rattle.shm_model.specs.Message.{Input, Tick}
use Rattle.shm_model.specs.Message as message
use Rattle.shm_model.specs.Refusal.{numbers_used_up}
use Rattle.shm_model.specs.declared.answer.Answer.TheVariants.{Refused}
use Rattle.shm_model.specs.Site as model
use Rattle.shm_model.specs.Site.{Step}
use Rattle.shm_model.specs.Step.{step}
use Rattle.shm_model.specs.World.{World, is_full, live, step_at, step_site, stepped, unstepped, without}
use Rattle.shm_parts.specs.Message.{envelope_of, holds_page, message_of}
use Rattle.shm_parts.specs.declared.message.Envelope.{Envelope}
use Rattle.shm_parts.specs.declared.message.Message.{Message}
use Rattle.shm_parts.specs.declared.message.Message.TheVariants as message-of
use Rattle.shm_parts.specs.declared.message.BookNote.TheVariants as book_note
use Rattle.shm_parts.specs.declared.message.EntryNote.TheVariants as entry_note
use Rattle.shm_parts.specs.declared.message.Note.TheVariants as note
use Rattle.shm_site.specs.Site.{site_of}
use Rattle.shm_site.specs.declared.site.Site.{Site}
use Rattle.shm_laws.proofs.Call.Steps.{at-here, at-there}
use Rattle.shm_world.specs.Members.{members_of}
use Rattle.shm_world.specs.Network.{on_way, sent_before}
use Rattle.shm_world.specs.Undo.{Fits, LeadsBack, has_page, kept_site, with_envelope, with_site}
use Rattle.shm_world.specs.World.{StandsFor}
use Rattle.shm_world.specs.declared.undo_record.Undo.{Undo}
use Rattle.shm_world.specs.declared.world.World.{World as Running}
use Rattle.shm_world.proofs.Envelopes.{live_sent}
use Rattle.shm_world.proofs.Steps.{set_same}

-- ---- lists

get-front : {X : Type 0} (xs ys : List X) (k : ℕ) → k < length xs → slice_get (xs ++ ys) k ≡ slice_get xs k
get-front [] ys k h = absurd (omega arith)
get-front (x ∷ xs) ys zero h = refl
get-front (x ∷ xs) ys (suc k) h = get-front xs ys k (omega arith)

set-back : {X : Type 0} (xs : List X) (s : ℕ) (y x : X) → slice_get xs s ≡ Some x → xs ≡ slice_set (slice_set xs s y) s x
set-back [] s y x h = refl
set-back (z ∷ xs) zero y x h = sym (set_same (z ∷ xs) zero x h)
set-back (z ∷ xs) (suc s) y x h = ap (λ l. z ∷ l) (set-back xs s y x h)

-- ---- what a step leaves

abbrev stepped_if : Bool → World → ℕ → Input → Step → World
stepped_if full w s i done = (if full then unstepped w s (Refused numbers_used_up) else stepped w s i done).world

count-if : (full : Bool) (w : World) (s : ℕ) (i : Input) (done : Step) → w.count ≡ (stepped_if full w s i done).count
count-if true w s i done = refl
count-if false w s i done = refl

live-if : (full : Bool) (w : World) (s : ℕ) (i : Input) (done : Step) (k : ℕ) → k < length w.sent → live w k ≡ live (stepped_if full w s i done) k
live-if true w s i done k h = refl
live-if false w s i done k h = ap (λ o. if w.gone k then None else o) (sym (get-front w.sent done.sent k h))

sites-if : (full : Bool) (w : World) (s : ℕ) (i : Input) (done : Step) (x : model.Site) → slice_get w.sites s ≡ Some x → w.sites ≡ slice_set (stepped_if full w s i done).sites s x
sites-if true w s i done x h = sym (set_same w.sites s x h)
sites-if false w s i done x h = set-back w.sites s done.site x h

pub count-at : (o : Option model.Site) (w : World) (s : ℕ) (i : Input) → w.count ≡ (step_site o w s i).world.count
count-at None w s i = refl
count-at (Some x) w s i = count-if (is_full w) w s i (step w.count s x i)

pub live-at : (o : Option model.Site) (w : World) (s : ℕ) (i : Input) (k : ℕ) → k < length w.sent → live w k ≡ live (step_site o w s i).world k
live-at None w s i k h = refl
live-at (Some x) w s i k h = live-if (is_full w) w s i (step w.count s x i) k h

-- a tick changes no site
still-if : (full : Bool) (w : World) (s : ℕ) (x : model.Site) → slice_get w.sites s ≡ Some x → (stepped_if full w s Tick (step w.count s x Tick)).sites ≡ w.sites
still-if true w s x h = refl
still-if false w s x h = set_same w.sites s x h

still-at : (o : Option model.Site) (w : World) (s : ℕ) → slice_get w.sites s ≡ o → (step_site o w s Tick).world.sites ≡ w.sites
still-at None w s h = refl
still-at (Some x) w s h = still-if (is_full w) w s x h

sites-at : {A : Type 0} (kept : Option (ℕ × Site A)) (w : World) (s : ℕ) (i : Input) → kept_site kept ≡ slice_get w.sites s → IfSome kept (λ k. k.0 ≡ s)
    → w.sites ≡ with_site kept (step_site (kept_site kept) w s i).world.sites
sites-at None w s i here number = refl
sites-at (Some k) w s i here number =
    sites-if (is_full w) w s i (step w.count s (site_of k.1) i) (site_of k.1) (sym here)
    ∙ ap (λ n. slice_set (step_site (Some (site_of k.1)) w s i).world.sites n (site_of k.1)) (sym number)

-- ---- leading back

-- over the step of a site that is kept
pub back-step : {A : Type 0} (undo : Undo A) (w : World) (s : ℕ) (i : Input) → undo.taken ≡ None → undo.sent ≡ length w.sent → ((k : ℕ) → length w.sent ≤ k → w.gone k ≡ false)
    → kept_site undo.site ≡ slice_get w.sites s → IfSome undo.site (λ k. k.0 ≡ s) → Fits w.count undo.site → LeadsBack undo (step_at w s i).world w
back-step undo w s i none sent unsent here number fits = record {
  count = count-at (slice_get w.sites s) w s i;
  sites = sites-at undo.site w s i here number ∙ ap (λ o. with_site undo.site (step_site o w s i).world.sites) here;
  fits = fits;
  sent = sent;
  live = λ k h. live-at (slice_get w.sites s) w s i k (omega (arith, h, sent)) ∙ sym (ap (λ t. with_envelope t (live (step_at w s i).world) k) none);
  taken = subst (λ t. IfSome t (λ taken. taken.0 < undo.sent)) (sym none) tt;
  unsent = unsent;
}

-- over what changes no site and takes nothing off its way
pub back-sending : {A : Type 0} (undo : Undo A) (after w : World) → undo.site ≡ None → undo.taken ≡ None → undo.sent ≡ length w.sent → ((k : ℕ) → length w.sent ≤ k → w.gone k ≡ false)
    → after.count ≡ w.count → after.sites ≡ w.sites → ((k : ℕ) → k < length w.sent → live after k ≡ live w k) → LeadsBack undo after w
back-sending undo after w still none sent unsent count sites lives = record {
  count = sym count;
  sites = sym sites ∙ sym (ap (λ o. with_site o after.sites) still);
  fits = subst (Fits w.count) (sym still) tt;
  sent = sent;
  live = λ k h. sym (lives k (omega (arith, h, sent))) ∙ sym (ap (λ t. with_envelope t (live after) k) none);
  taken = subst (λ t. IfSome t (λ taken. taken.0 < undo.sent)) (sym none) tt;
  unsent = unsent;
}

-- over a tick
pub back-tick : {A : Type 0} (undo : Undo A) (w : World) (s : ℕ)
    → ((after : World) → after.count ≡ w.count → after.sites ≡ w.sites → ((k : ℕ) → k < length w.sent → live after k ≡ live w k) → LeadsBack undo after w) → LeadsBack undo (step_at w s Tick).world w
back-tick undo w s back =
    let o = slice_get w.sites s in
    back (step_at w s Tick).world (sym (count-at o w s Tick)) (still-at o w s refl) (λ k h. sym (live-at o w s Tick k h))

-- and over the same where an envelope goes off its way too
pub back-taken : {A : Type 0} (undo : Undo A) (after w : World) (number : ℕ) (e : Envelope A) → undo.taken ≡ None → live w number ≡ Some (envelope_of e)
    → ((k : ℕ) → length w.sent ≤ k → w.gone k ≡ false) → LeadsBack undo after (without w number)
    → LeadsBack (record { site = undo.site; taken = Some (number, e); sent = undo.sent }) after w
back-taken undo after w number e none here unsent back = record {
  count = back.count;
  sites = back.sites;
  fits = back.fits;
  sent = back.sent;
  live = λ k h. ⊎_elim
      (λ (same : number ≡ k). ap (live w) (sym same) ∙ here ∙ sym (at-here (live after) number (Some (envelope_of e)) k same))
      (λ (other : number ≡ k → ⊥).
      ap (λ b. if b then None else slice_get w.sent k) (sym (at-there w.gone number true k other))
      ∙ back.live k h
      ∙ ap (λ t. with_envelope t (live after) k) none
      ∙ sym (at-there (live after) number (Some (envelope_of e)) k other))
      (cases_eq number k);
  taken = let low = live_sent (w.gone number) w.sent number (envelope_of e) here in omega (arith, low, back.sent);
  unsent = unsent;
}

-- only a page's bytes may take memory
pub page-is : {A : Type 0} (m : Message A) → holds_page m ≡ has_page (message_of m)
page-is (message-of.Of page (note.ToBook (book_note.Ask request kind))) = refl
page-is (message-of.Of page (note.ToBook (book_note.Cleared number))) = refl
page-is (message-of.Of page (note.ToBook (book_note.Confirm number))) = refl
page-is (message-of.Of page (note.ToEntry (entry_note.Clear number))) = refl
page-is (message-of.Of page (note.ToEntry (entry_note.Hand number kind to))) = refl
page-is (message-of.Of page (note.ToEntry (entry_note.Read given))) = refl
page-is (message-of.Of page (note.ToEntry (entry_note.Write given))) = refl
page-is (message-of.Call number op) = refl
page-is (message-of.Reply number reply) = refl
page-is (message-of.Purge id) = refl
page-is (message-of.Purged id) = refl

-- an envelope that is on its way was sent
pub low-number : (w : World) (number : ℕ) (e : message.Envelope) → live w number ≡ Some e → number < length w.sent
low-number w number e here = live_sent (w.gone number) w.sent number e here

pub unsent-without : (w : World) (number : ℕ) (e : message.Envelope) → live w number ≡ Some e → ((k : ℕ) → length w.sent ≤ k → w.gone k ≡ false)
    → (k : ℕ) → length w.sent ≤ k → (without w number).gone k ≡ false
unsent-without w number e here unsent k h =
    let low = low-number w number e here in at-there w.gone number true k (λ same. omega (arith, same, low, h)) ∙ unsent k h

-- ---- going back

same-envelope : {A : Type 0} (taken : Option (ℕ × Envelope A)) (f g : ℕ → Option message.Envelope) (k : ℕ) → f k ≡ g k → with_envelope taken f k ≡ with_envelope taken g k
same-envelope None f g k h = h
same-envelope (Some t) f g k h = ap (λ o. if t.0 == k then Some (envelope_of t.1) else o) h

past-envelope : {A : Type 0} (taken : Option (ℕ × Envelope A)) (f : ℕ → Option message.Envelope) (sent k : ℕ) → IfSome taken (λ t. t.0 < sent) → sent ≤ k → with_envelope taken f k ≡ f k
past-envelope None f sent k low h = refl
past-envelope (Some t) f sent k low h = at-there f t.0 (Some (envelope_of t.1)) k (λ same. omega (arith, same, low, h))

early : {X : Type 0} (first k : ℕ) (x : Option X) → k < first → (if nat_le first k then None else x) ≡ x
early first k x h = let b : nat_le first k ≡ false = grind (arith, nat_tests, h) in ap (λ b. if b then None else x) b

late : {X : Type 0} (first k : ℕ) (x : Option X) → first ≤ k → (if nat_le first k then None else x) ≡ None
late first k x h = let b : nat_le first k ≡ true = grind (arith, nat_tests, h) in ap (λ b. if b then None else x) b

none-past : (b : Bool) (xs : List message.Envelope) (k : ℕ) → length xs ≤ k → (if b then None else slice_get xs k) ≡ None
none-past true xs k h = refl
none-past false xs k h = slice_get_past xs k h

pub goes-back : {A : Type 0} (old new : Running A) (undo : Undo A) (after before : World) → StandsFor old after → LeadsBack undo after before
    → new.members.count ≡ old.members.count → members_of new.members ≡ with_site undo.site (members_of old.members) → new.network.envelopes.next ≡ undo.sent
    → (IfSome undo.taken (λ t. t.0 < undo.sent) → (k : ℕ) → on_way new.network k ≡ with_envelope undo.taken (sent_before undo.sent old.network) k) → StandsFor new before
goes-back old new undo after before stands back count sites sent lives = record {
  count = back.count ∙ stands.count ∙ sym count;
  sites = back.sites ∙ ap (with_site undo.site) stands.sites ∙ sym sites;
  carries = record {
    count = sent ∙ back.sent;
    live = λ k. lives back.taken k ∙ ⊎_elim
        (λ (low : k < undo.sent).
        same-envelope undo.taken (sent_before undo.sent old.network) (live after) k (early undo.sent k (on_way old.network k) low ∙ stands.carries.live k)
        ∙ sym (back.live k low))
        (λ (high : undo.sent ≤ k).
        past-envelope undo.taken (sent_before undo.sent old.network) undo.sent k back.taken high
        ∙ late undo.sent k (on_way old.network k) high
        ∙ sym (none-past (before.gone k) before.sent k (omega (arith, high, back.sent))))
        (cases_lt k undo.sent);
  };
  unsent = back.unsent;
}
