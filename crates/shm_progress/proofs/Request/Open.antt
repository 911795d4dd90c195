-- What is pending is of a segment that its site hasn't purged.
use Rattle.std.proofs.Common.{◌≡◌, ◌≢◌, ℕ, ◌<◌, ◌⊎◌, inl, inr, Bool, true, false, ◌==◌, not, Some, List, [], ◌∷◌, ◌++◌, append_assoc, append-nil, filter, if◌then◌else◌, slice_get, slice_set, map, arith, sym, ◌∙◌, ap, subst, Contains}
use Rattle.std.specs.List.{range_with_len}
use Rattle.std.proofs.lemmas.Bool.{cases_eq, cond_both, false_from_ne_true}
use Rattle.std.proofs.lemmas.Option.{get_or_from_slice_get, slice_get_within}
use Rattle.std.proofs.lemmas.List.FromFn.{length-map-range_with_len}
use Rattle.shm_place.specs.declared.page_id.PageId.{PageId}
use Rattle.shm_model.specs.declared.event.Event.{Event}
use Rattle.shm_model.specs.Entry.{Note, Ask, Clear, Cleared, Hand, Page, Confirm, on_clear, on_hand, on_page}
use Rattle.shm_model.specs.Book.{Outcome, Ignored, UsedUp, Taken, on_ask, on_cleared, on_confirm}
use Rattle.shm_model.specs.Memory.{segment_of}
use Rattle.shm_model.specs.Message.{Input, Load, Store, Begin, Deliver, Tick, Restart, Message, Of, Call, Replies, Purge, Purged}
use Rattle.shm_model.specs.Site.{Pending, Site, is_attached, Step}
use Rattle.shm_model.specs.Access.{right}
use Rattle.shm_model.specs.Transfer.{on_note, to_book}
use Rattle.shm_model.specs.Step.{ask_again, foreign, on_message, step}
use Rattle.shm_model.specs.World.{Framed, IsOpening, New, Opening, Preset, Run, World, next, opened_site, run, sites_of}
use Rattle.shm_laws.proofs.Move.Calls.{begin-quiet, call-quiet, purged-quiet, reply-quiet}
use Rattle.shm_laws.proofs.Call.Counted.{run-counted}
use Rattle.shm_laws.proofs.Call.Names.{id_of}
use Rattle.shm_laws.proofs.Call.Purged.{purged-dead}
use Rattle.shm_laws.proofs.Page.Orders.{Each, each-filter}
use Rattle.shm_laws.proofs.Run.Induction.{run-shape}
use Rattle.shm_laws.proofs.Run.GoesOn.{slice_get-range}
use Rattle.shm_laws.proofs.Sound.{each-in, set-here, set-there}
use Rattle.shm_progress.proofs.Along.{run-more}
use Rattle.shm_progress.proofs.OnTheWay.{Moved, same, drops, steps, moved}
use Rattle.shm_progress.proofs.Request.Once.{none-in}
use Rattle.shm_progress.proofs.Request.Pending.{Placed, step-before}
use Rattle.shm_progress.proofs.Transfer.Steps.{entry-aside, load-aside, store-aside}

each-any : (ps : List Pending) → Each (λ p. Unit {0}) ps
each-any [] = tt
each-any (p ∷ ps) = (tt, each-any ps)

-- what a filter keeps passes its test
kept-passes : (f : Pending → Bool) (ps : List Pending) (p : Pending) → Contains (filter f ps) p → f p ≡ true
kept-passes f ps p here = (each-in (λ r. Unit {0} × (f r ≡ true)) (filter f ps) p (each-filter (λ r. Unit {0}) f ps (each-any ps)) here).1

-- a purge leaves nothing pending of its segment
module _ (sites s : ℕ) (x : Site) (p : Pending) where
  abbrev Open : Step → Type 0
  Open st = Contains st.site.pending p → st.site.purged p.page.seg ≡ true → x.purged p.page.seg ≡ true

  same-open : {g : ℕ → Bool} → g ≡ x.purged → g p.page.seg ≡ true → x.purged p.page.seg ≡ true
  same-open is h = subst (λ (f : ℕ → Bool). f p.page.seg ≡ true) is h

  book-open : (page : PageId) (outcome : Outcome) → Open (to_book s page outcome x)
  book-open page Ignored = λ here h. h
  book-open page UsedUp = λ here h. h
  book-open page (Taken b os) = λ here h. h

  note-open : (from : ℕ) (page : PageId) (note : Note) → Open (on_note sites s from page note x)
  note-open from page (Ask r kind) = book-open page (on_ask from r kind (x.books page))
  note-open from page (Clear n) = λ here. same-open (entry-aside sites s x page (on_clear n (x.entries page))).purged
  note-open from page (Cleared n) = book-open page (on_cleared from n (x.books page))
  note-open from page (Hand n kind to) = λ here. same-open (entry-aside sites s x page (on_hand s n kind to (x.entries page))).purged
  note-open from page (Page n kind b) = λ here. same-open (entry-aside sites s x page (on_page n kind b (x.entries page))).purged
  note-open from page (Confirm n) = book-open page (on_confirm from n (x.books page))

  message-open : (from : ℕ) (m : Message) → Open (on_message sites s from m x)
  message-open from (Of page note) = cond_both (x.purged page.seg) _ _ Open (λ e here h. h) (λ e. note-open from page note)
  message-open from (Call number op) = λ here. same-open (call-quiet sites s from number op x).purged
  message-open from (Replies number reply) = λ here. same-open (reply-quiet number reply x).purged
  message-open from (Purge id) =
      cond_both (is_attached x id) _ _ Open (λ e here h. h)
      (λ e here. by-segment (id == p.page.seg) (kept-passes (λ (r : Pending). not (id == r.page.seg)) x.pending p here))
    where
      by-segment : (b : Bool) → not b ≡ true → (if b then true else x.purged p.page.seg) ≡ true → x.purged p.page.seg ≡ true
      by-segment true k h = cc
      by-segment false k h = h
  message-open from (Purged id) = λ here. same-open (purged-quiet from id x).purged

  step-open : (input : Input) → Open (step sites s x input)
  step-open (Load a offset) = λ here. same-open (load-aside sites s x (right x.attachments a offset false)).purged
  step-open (Store a offset byte) = λ here. same-open (store-aside sites s x (right x.attachments a offset true) byte).purged
  step-open (Begin request) = λ here. same-open (begin-quiet sites s request x).purged
  step-open (Deliver e) = cond_both (foreign sites s e) _ _ Open (λ h here k. k) (λ h. message-open e.from e.message)
  step-open Tick = λ here h. h
  step-open Restart = λ here h. h

some-same : (x y : Site) → Some x ≡ Some y → x ≡ y
some-same x y e = cc

module _ (o : Opening) (opening : IsOpening o) where
  -- an attachment names nothing that its site has purged
  attached-open : (events : List Event) (s : ℕ) (x : Site) → slice_get (run o events).world.sites s ≡ Some x → (q : PageId) → Placed x q → x.purged q.seg ≡ true → ⊥
  attached-open events s x found q placed gone =
      let all = (run-shape o events).sites in
      let within = slice_get_within (run o events).world.sites s x found in
      let small : s < sites_of o = omega (arith, within, all) in
      let name : segment_of o (run o events).account s placed.number ≡ id_of (x.attachments placed.number) =
      (run-counted o opening events).named.names s placed.number ∙ ap (λ (z : Site). id_of (z.attachments placed.number)) (get_or_from_slice_get (run o events).world.sites s x (opened_site o s) found) in
      let seg : placed.through.id ≡ q.seg = ap (λ (k : PageId). k.seg) placed.page_is in
      (purged-dead o opening events).unnamed s s placed.number placed.through.id x found (subst (λ k. x.purged k ≡ true) (sym seg) gone) small (name ∙ ap id_of placed.is)

  abbrev pub AllOpen : World → Type 0
  AllOpen w = (s : ℕ) (x : Site) (p : Pending) → slice_get w.sites s ≡ Some x → Contains x.pending p → x.purged p.page.seg ≡ true → ⊥

  module _ (done : List Event) (e : Event) (all : AllOpen (run o done).world) where
    abbrev w : World
    w = (run o done).world

    moved-open : (u : World) → Moved w e u → AllOpen u
    moved-open u same = all
    moved-open u (drops k f h why) = all
    moved-open u (steps gone t z input found honest takes only restarts) = λ s x p at here gone_x. by-site s x p at here gone_x (cases_eq s t)
      where
        by-before : (p : Pending) → z.purged p.page.seg ≡ true → Contains z.pending p ⊎ (Contains (step w.count t z input).sent (ask_again w.count t p) × Placed z p.page) → ⊥
        by-before p gone_z (inl was) = all t z p found was gone_z
        by-before p gone_z (inr (asked, placed)) = attached-open done t z found p.page placed gone_z

        by-site : (s : ℕ) (x : Site) (p : Pending) → slice_get (slice_set w.sites t (step w.count t z input).site) s ≡ Some x → Contains x.pending p → x.purged p.page.seg ≡ true → (s ≡ t) ⊎ (s ≢ t) → ⊥
        by-site s x p at here gone_x (inl it) =
            let mine : (step w.count t z input).site ≡ x = some-same (step w.count t z input).site x (sym (set-here w.sites t z (step w.count t z input).site found) ∙ (ap (slice_get (slice_set w.sites t (step w.count t z input).site)) (sym it) ∙ at)) in
            let there : Contains (step w.count t z input).site.pending p = subst (λ (k : Site). Contains k.pending p) (sym mine) here in
            by-before p (step-open w.count t z p input there (subst (λ (k : Site). k.purged p.page.seg ≡ true) (sym mine) gone_x)) (step-before w.count t z p input there)
        by-site s x p at here gone_x (inr other) = all s x p (sym (set-there w.sites t s (step w.count t z input).site other) ∙ at) here gone_x

  opened-none : (p : Opening) (s : ℕ) (r : Pending) → Contains (opened_site p s).pending r → ⊥
  opened-none (New n) s r here = none-in r here
  opened-none (Preset n pages) s r here = none-in r here
  opened-none (Framed n pages frames) s r here = none-in r here

  first-open : AllOpen (run o []).world
  first-open s x p at here gone =
      let within = slice_get_within (map (opened_site o) (range_with_len 0 (sites_of o))) s x at in
      let all = length-map-range_with_len (opened_site o) 0 (sites_of o) in
      let small : s < sites_of o = omega (arith, within, all) in
      let one : opened_site o s ≡ x = some-same (opened_site o s) x (sym (slice_get-range (opened_site o) (sites_of o) s small) ∙ at) in
      opened-none o s p (subst (λ (y : Site). Contains y.pending p) (sym one) here)

  on-open : (done later : List Event) → AllOpen (run o done).world → AllOpen (run o (done ++ later)).world
  on-open done [] all = subst (λ es. AllOpen (run o es).world) (sym (append-nil done)) all
  on-open done (e ∷ es) all =
      subst (λ ls. AllOpen (run o ls).world) (append_assoc done (e ∷ []) es)
      (on-open (done ++ (e ∷ [])) es (subst (λ (r : Run). AllOpen r.world) (sym (run-more o [] done e)) (moved-open done e all (next (run o done).world e).world (moved (run o done).world e))))

  pub pending-open : (events : List Event) (s : ℕ) (x : Site) (p : Pending) → slice_get (run o events).world.sites s ≡ Some x → Contains x.pending p → x.purged p.page.seg ≡ false
  pending-open events s x p at here = false_from_ne_true _ (on-open [] events first-open s x p at here)
