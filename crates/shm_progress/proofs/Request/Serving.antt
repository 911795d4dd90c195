-- In every run, a request that is pending and was started is the transaction that runs, and its site hasn't met it.
use Rattle.std.proofs.Common.{◌≡◌, ◌≢◌, ℕ, ◌<◌, ◌≤◌, ◌⊎◌, inl, inr, Bool, true, false, Some, List, [], ◌∷◌, ◌++◌, append_assoc, append-nil, slice_get, map, arith, refl, sym, ◌∙◌, ap, subst, Contains}
use Rattle.std.specs.List.{range_with_len}
use Rattle.std.proofs.lemmas.Bool.{cases_eq, cases_Bool, false_from_ne_true}
use Rattle.std.proofs.lemmas.List.Elements.{Contains-append_left}
use Rattle.std.proofs.lemmas.Option.{slice_get_within}
use Rattle.std.proofs.lemmas.List.FromFn.{length-map-range_with_len}
use Rattle.shm_place.specs.declared.page_id.PageId.{PageId}
use Rattle.shm_place.specs.Page.{manager_of}
use Rattle.shm_model.specs.declared.event.Event.{Event}
use Rattle.shm_model.specs.declared.request_kind.Kind.{Kind}
use Rattle.shm_model.specs.Entry.{Note, Ask, Clear, Cleared, Hand, Page, Confirm, seen}
use Rattle.shm_model.specs.Book.{Book, Waiting}
use Rattle.shm_model.specs.Message.{Envelope, Input, Deliver, Of}
use Rattle.shm_model.specs.Site.{Pending, Site, Step}
use Rattle.shm_model.specs.Step.{step}
use Rattle.shm_model.specs.World.{Framed, IsOpening, New, Opening, Preset, Run, World, next, opened_site, run, sites_of, stepped}
use Rattle.shm_laws.proofs.Page.Moves.{EnvelopeFits, now_of}
use Rattle.shm_laws.proofs.Page.Orders.{each-imp}
use Rattle.shm_laws.proofs.Page.View.{Fits, View}
use Rattle.shm_laws.proofs.Headline.{run-sound}
use Rattle.shm_laws.proofs.Run.Induction.{IsHonest, run-shape}
use Rattle.shm_laws.proofs.Run.GoesOn.{slice_get-range}
use Rattle.shm_laws.proofs.Sound.{PageSound, each-in, set-here, set-there}
use Rattle.shm_progress.specs.Requests.{StartedAreServed}
use Rattle.shm_progress.proofs.Along.{run-more}
use Rattle.shm_progress.proofs.Ending.Books.{AllAsked}
use Rattle.shm_progress.proofs.OnTheWay.{Moved, same, drops, steps, moved}
use Rattle.shm_progress.proofs.Request.Asking.{step-asking}
use Rattle.shm_progress.proofs.Request.Known.{AllKnown, IsAsk, run-known}
use Rattle.shm_progress.proofs.Request.Meets.{step-meets}
use Rattle.shm_progress.proofs.Request.Once.{none-in}
use Rattle.shm_progress.proofs.Request.Open.{pending-open}
use Rattle.shm_progress.proofs.Request.Served.{run-asked}
use Rattle.shm_progress.proofs.Request.Turn.{InTurn, IsBehind, IsRunning}
use Rattle.shm_progress.proofs.Request.Turns.{Says, step-turns}
use Rattle.shm_progress.proofs.Transfer.Rows.{note_envelope}
use Rattle.shm_progress.proofs.Transfer.Steps.{step-gone}

some-same : (x y : Site) → Some x ≡ Some y → x ≡ y
some-same x y e = cc

module _ (o : Opening) (opening : IsOpening o) where
  abbrev pub AllInTurn : World → Type 0
  AllInTurn w = (s : ℕ) (x : Site) (p : Pending) (m : ℕ) (y : Site) → slice_get w.sites s ≡ Some x → Contains x.pending p → x.purged p.page.seg ≡ false
      → manager_of (sites_of o) p.page ≡ m → slice_get w.sites m ≡ Some y → InTurn s p (seen (x.entries p.page)) (y.books p.page)

  module _ (done : List Event) (e : Event) (all : AllInTurn (run o done).world) where
    abbrev w : World
    w = (run o done).world

    -- a site's step
    module _ (gone : ℕ → Bool) (t : ℕ) (z : Site) (input : Input) (found : slice_get w.sites t ≡ Some z) (honest : IsHonest w t input) where
      abbrev st : Step
      st = step w.count t z input

      abbrev u : World
      u = (stepped (record w { gone = gone }) t input st).world

      handed : (f : Envelope) → input ≡ Deliver f → Contains w.sent f × (f.to ≡ t)
      handed f is = subst (IsHonest w t) is honest

      -- a request of site s whose page site m manages, as both were before
      module _ (s m : ℕ) (p : Pending) (x y : Site) (at_s : slice_get w.sites s ≡ Some x) (at_m : slice_get w.sites m ≡ Some y) (manager : manager_of (sites_of o) p.page ≡ m)
          (open_s : x.purged p.page.seg ≡ false) (some : 1 ≤ p.request)
          (behind : (f : Envelope) → Contains w.sent f → (r : ℕ) (kind : Kind) → IsAsk s p.page r kind f → (r ≤ p.request) × (r ≡ p.request → kind ≡ p.kind))
          (turn : InTurn s p (seen (x.entries p.page)) (y.books p.page)) where
        page : PageSound o (run o done) p.page
        page = (run-sound o done opening).pages p.page

        entry : page.view.entries s ≡ x.entries p.page
        entry = (page.local s x at_s).entry open_s

        low : y.purged p.page.seg ≡ false → seen (x.entries p.page) ≤ (y.books p.page).number
        low open_m =
            let is : page.view.book ≡ y.books p.page = (page.local m y at_m).book manager open_m in
            let met : seen (page.view.entries s) ≤ page.view.book.number = page.holds.met s in
            subst (λ k. seen k ≤ (y.books p.page).number) entry (subst (λ (b : Book). seen (page.view.entries s) ≤ b.number) is met)

        waiting : AllAsked (IsBehind s p) (y.books p.page).waiting
        waiting =
            each-imp (λ (k : Waiting). Contains w.sent (note_envelope k.from m p.page (Ask k.request k.kind))) (λ (k : Waiting). IsBehind s p k.from k.request k.kind) (y.books p.page).waiting
            (λ k was here. behind (note_envelope k.from m p.page (Ask k.request k.kind)) was k.request k.kind (record { from = here; message = refl })) (run-asked o done m y at_m p.page).waiting

        fitting : (f : Envelope) → Contains w.sent f → (note : Note) → f.message ≡ Of p.page note → Fits (now_of o p.page (run o done).account) page.view f.from f.to note
        fitting f was note is = (each-in (EnvelopeFits (now_of o p.page (run o done).account) p.page page.view) w.sent f page.fits was).fits note is

        says : (f : Envelope) → input ≡ Deliver f → (note : Note) → f.message ≡ Of p.page note → Says w.count m p.page y s p (seen (x.entries p.page)) f.from note
        says f is (Ask r kind) about = λ here. behind f (handed f is).0 r kind (record { from = here; message = about })
        says f is (Clear n) about = tt
        says f is (Cleared n) about = tt
        says f is (Hand n kind to) about = tt
        says f is (Page n kind b) about = tt
        says f is (Confirm n) about = λ here.
            subst (λ k. n ≤ seen k) entry (subst (λ k. n ≤ seen (page.view.entries k)) here (fitting f (handed f is).0 (Confirm n) about))

        never : y.purged p.page.seg ≡ true → p.request ≤ (y.books p.page).served s → ⊥
        never is reached =
            let none : (y.books p.page).served s ≡ 0 = ap (λ (b : Book). b.served s) ((page.local m y at_m).closed is) in
            omega (arith, reached, none, some)

      -- the manager steps
      turned : (s : ℕ) (p : Pending) (x : Site) → slice_get w.sites s ≡ Some x → manager_of (sites_of o) p.page ≡ t → x.purged p.page.seg ≡ false → 1 ≤ p.request
          → ((f : Envelope) → Contains w.sent f → (r : ℕ) (kind : Kind) → IsAsk s p.page r kind f → (r ≤ p.request) × (r ≡ p.request → kind ≡ p.kind))
          → InTurn s p (seen (x.entries p.page)) (z.books p.page) → InTurn s p (seen (x.entries p.page)) (st.site.books p.page)
      turned s p x at_s manager open_s some behind turn =
          step-turns w.count t p.page z s p (seen (x.entries p.page)) some (low s t p x z at_s found manager open_s some behind turn) (waiting s t p x z at_s found manager open_s some behind turn) turn
          input (says s t p x z at_s found manager open_s some behind turn)

      -- the requester steps
      met : (m : ℕ) (p : Pending) (y : Site) (b : Book) → slice_get w.sites m ≡ Some y → manager_of (sites_of o) p.page ≡ m → z.purged p.page.seg ≡ false → 1 ≤ p.request
          → ((f : Envelope) → Contains w.sent f → (r : ℕ) (kind : Kind) → IsAsk t p.page r kind f → (r ≤ p.request) × (r ≡ p.request → kind ≡ p.kind))
          → InTurn t p (seen (z.entries p.page)) (y.books p.page) → Contains st.site.pending p → st.site.purged p.page.seg ≡ false
          → (st.site.books ≡ z.books → b ≡ y.books p.page) → InTurn t p (seen (z.entries p.page)) b → InTurn t p (seen (st.site.entries p.page)) b
      met m p y b at_m manager open_s some behind turn here free kept now =
          by-meets (step-meets (now_of o p.page (run o done).account) (page t m p z y found at_m manager open_s some behind turn).view w.count t p.page p refl z
          (entry t m p z y found at_m manager open_s some behind turn) (run-known o done t z found).once input fits here free)
        where
          view : View
          view = (page t m p z y found at_m manager open_s some behind turn).view

          fits : (f : Envelope) → input ≡ Deliver f → (note : Note) → f.message ≡ Of p.page note → Fits (now_of o p.page (run o done).account) view f.from t note
          fits f is note about = subst (λ k. Fits (now_of o p.page (run o done).account) view f.from k note) (handed f is).1 (fitting t m p z y found at_m manager open_s some behind turn f (handed f is).0 note about)

          by-meets : (seen (st.site.entries p.page) ≡ seen (z.entries p.page)) ⊎ ((st.site.books ≡ z.books)
              × (view.book.running ≡ Some (record { kind = p.kind; requester = t }) → seen (view.entries t) < view.book.number → seen (st.site.entries p.page) < view.book.number))
              → InTurn t p (seen (st.site.entries p.page)) b
          by-meets (inl is) = subst (λ k. InTurn t p k b) (sym is) now
          by-meets (inr (books, goes)) = λ reached. by-open reached (cases_Bool (y.purged p.page.seg))
            where
              by-open : p.request ≤ b.served t → (y.purged p.page.seg ≡ true) ⊎ (y.purged p.page.seg ≡ false) → IsRunning t p (seen (st.site.entries p.page)) b
              by-open reached (inl closed) = absurd (never t m p z y found at_m manager open_s some behind turn closed (subst (λ (k : Book). p.request ≤ k.served t) (kept books) reached))
              by-open reached (inr open_m) =
                  let is : view.book ≡ b = ((page t m p z y found at_m manager open_s some behind turn).local m y at_m).book manager open_m ∙ sym (kept books) in
                  let runs : b.running ≡ Some (record { kind = p.kind; requester = t }) = (now reached).runs in
                  let unmet : seen (z.entries p.page) < b.number = (now reached).unmet in
                  record {
                    runs = runs;
                    unmet = subst (λ (k : Book). seen (st.site.entries p.page) < k.number) is
                        (goes (ap (λ (k : Book). k.running) is ∙ runs)
                        (subst (λ (k : Book). seen (view.entries t) < k.number) (sym is) (subst (λ k. seen k < b.number) (sym (entry t m p z y found at_m manager open_s some behind turn)) unmet)));
                  }

      -- what is pending after the site's step was in turn before it, or wasn't served
      own-turn : (p : Pending) (m : ℕ) (y : Site) → Contains st.site.pending p → z.purged p.page.seg ≡ false → manager_of (sites_of o) p.page ≡ m → slice_get w.sites m ≡ Some y → 1 ≤ p.request
          → InTurn t p (seen (z.entries p.page)) (y.books p.page)
      own-turn p m y here open_s manager at_m some = by-before ((step-asking w.count t z input).before p here)
        where
          by-before : Contains z.pending p ⊎ ((z.requests < p.request) × (p.request ≤ st.site.requests)) → InTurn t p (seen (z.entries p.page)) (y.books p.page)
          by-before (inl was) = all t z p m y found was open_s manager at_m
          by-before (inr (above, below)) = λ reached. absurd (by-served reached ((run-asked o done m y at_m p.page).served t))
            where
              by-served : p.request ≤ (y.books p.page).served t → ((y.books p.page).served t ≡ 0) ⊎ ((kind : Kind) × Contains w.sent (note_envelope t m p.page (Ask ((y.books p.page).served t) kind))) → ⊥
              by-served reached (inl none) = omega (arith, reached, none, some)
              by-served reached (inr (kind, was)) =
                  let known = (run-known o done t z found).asked (note_envelope t m p.page (Ask ((y.books p.page).served t) kind)) was p.page ((y.books p.page).served t) kind (record { from = refl; message = refl }) in
                  omega (arith, reached, known, above)

      stepped-turns : AllKnown u → AllInTurn u
      stepped-turns known s x p m y at_s here free manager at_m = by-sites (cases_eq s t) (cases_eq m t)
        where
          behind : (f : Envelope) → Contains w.sent f → (r : ℕ) (kind : Kind) → IsAsk s p.page r kind f → (r ≤ p.request) × (r ≡ p.request → kind ≡ p.kind)
          behind f was r kind is = (known s x at_s).behind p here f (Contains-append_left w.sent st.sent f was) r kind is

          some : 1 ≤ p.request
          some = ((known s x at_s).low p here).0

          mine : s ≡ t → st.site ≡ x
          mine is = some-same st.site x (sym (set-here w.sites t z st.site found) ∙ (ap (slice_get u.sites) (sym is) ∙ at_s))

          its : m ≡ t → st.site ≡ y
          its is = some-same st.site y (sym (set-here w.sites t z st.site found) ∙ (ap (slice_get u.sites) (sym is) ∙ at_m))

          before_s : s ≢ t → slice_get w.sites s ≡ Some x
          before_s other = sym (set-there w.sites t s st.site other) ∙ at_s

          before_m : m ≢ t → slice_get w.sites m ≡ Some y
          before_m other = sym (set-there w.sites t m st.site other) ∙ at_m

          behind_t : s ≡ t → (f : Envelope) → Contains w.sent f → (r : ℕ) (kind : Kind) → IsAsk t p.page r kind f → (r ≤ p.request) × (r ≡ p.request → kind ≡ p.kind)
          behind_t is f was r kind ask = behind f was r kind (record { from = ask.from ∙ sym is; message = ask.message })

          here_t : s ≡ t → Contains st.site.pending p
          here_t is = subst (λ (k : Site). Contains k.pending p) (sym (mine is)) here

          free_t : s ≡ t → st.site.purged p.page.seg ≡ false
          free_t is = ap (λ (k : Site). k.purged p.page.seg) (mine is) ∙ free

          open_t : s ≡ t → z.purged p.page.seg ≡ false
          open_t is = false_from_ne_true _ (λ gone_z. let gone_now = step-gone w.count t z p.page.seg gone_z input in let both : true ≡ false = sym gone_now ∙ free_t is in cc)

          back : s ≡ t → (b : Book) → InTurn t p (seen (st.site.entries p.page)) b → InTurn s p (seen (x.entries p.page)) b
          back is b h = subst (λ k. InTurn k p (seen (x.entries p.page)) b) (sym is) (subst (λ (k : Site). InTurn t p (seen (k.entries p.page)) b) (mine is) h)

          by-sites : (s ≡ t) ⊎ (s ≢ t) → (m ≡ t) ⊎ (m ≢ t) → InTurn s p (seen (x.entries p.page)) (y.books p.page)
          by-sites (inl a) (inl b) =
              let turn = own-turn p t z (here_t a) (open_t a) (manager ∙ b) found some in
              subst (λ (k : Site). InTurn s p (seen (x.entries p.page)) (k.books p.page)) (its b)
              (back a (st.site.books p.page) (met t p z (st.site.books p.page) found (manager ∙ b) (open_t a) some (behind_t a) turn (here_t a) (free_t a) (λ is. ap (λ (f : PageId → Book). f p.page) is)
              (turned t p z found (manager ∙ b) (open_t a) some (behind_t a) turn)))
          by-sites (inl a) (inr b) =
              let turn = own-turn p m y (here_t a) (open_t a) manager (before_m b) some in
              back a (y.books p.page) (met m p y (y.books p.page) (before_m b) manager (open_t a) some (behind_t a) turn (here_t a) (free_t a) (λ is. refl) turn)
          by-sites (inr a) (inl b) =
              subst (λ (k : Site). InTurn s p (seen (x.entries p.page)) (k.books p.page)) (its b)
              (turned s p x (before_s a) (manager ∙ b) free some behind (all s x p t z (before_s a) here free (manager ∙ b) found))
          by-sites (inr a) (inr b) = all s x p m y (before_s a) here free manager (before_m b)

    moved-turns : (u : World) → Moved w e u → AllKnown u → AllInTurn u
    moved-turns u same known = all
    moved-turns u (drops k f h why) known = all
    moved-turns u (steps gone t z input found honest takes only restarts) known = stepped-turns gone t z input found honest known

  opened-none : (p : Opening) (s : ℕ) (r : Pending) → Contains (opened_site p s).pending r → ⊥
  opened-none (New n) s r here = none-in r here
  opened-none (Preset n pages) s r here = none-in r here
  opened-none (Framed n pages frames) s r here = none-in r here

  first-turns : AllInTurn (run o []).world
  first-turns s x p m y at_s here free manager at_m =
      let within = slice_get_within (map (opened_site o) (range_with_len 0 (sites_of o))) s x at_s in
      let all = length-map-range_with_len (opened_site o) 0 (sites_of o) in
      let small : s < sites_of o = omega (arith, within, all) in
      let one : opened_site o s ≡ x = some-same (opened_site o s) x (sym (slice_get-range (opened_site o) (sites_of o) s small) ∙ at_s) in
      absurd (opened-none o s p (subst (λ (y : Site). Contains y.pending p) (sym one) here))

  more-turns : (done : List Event) (e : Event) → AllInTurn (run o done).world → AllInTurn (run o (done ++ (e ∷ []))).world
  more-turns done e all =
      subst (λ (r : Run). AllInTurn r.world) (sym (run-more o [] done e))
      (moved-turns done e all (next (run o done).world e).world (moved (run o done).world e) (subst (λ (r : Run). AllKnown r.world) (run-more o [] done e) (run-known o (done ++ (e ∷ [])))))

  on-turns : (done later : List Event) → AllInTurn (run o done).world → AllInTurn (run o (done ++ later)).world
  on-turns done [] all = subst (λ es. AllInTurn (run o es).world) (sym (append-nil done)) all
  on-turns done (e ∷ es) all = subst (λ ls. AllInTurn (run o ls).world) (append_assoc done (e ∷ []) es) (on-turns (done ++ (e ∷ [])) es (more-turns done e all))

  pub run-turns : (events : List Event) → AllInTurn (run o events).world
  run-turns events = on-turns [] events first-turns

  -- as the law says it
  pub started-served : (events : List Event) → StartedAreServed (run o events).world
  started-served events s x p found here (y, at, started) =
      let now = run-turns events s x p (manager_of (run o events).world.count p.page) y found here (pending-open o opening events s x p found here) (ap (λ n. manager_of n p.page) (sym (run-shape o events).count)) at started in
      record { manager = y; found = at; runs = now.runs; requester = x; asked = found; unmet = now.unmet }
