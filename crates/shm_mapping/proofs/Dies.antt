-- A machine that dies: until then its site, with nothing mapped, ran beside the other hosts as one world without its processors' accesses.
use Rattle.std.proofs.Common.{◌≡◌, ◌≢◌, ℕ, ◌⊎◌, inl, inr, Bool, true, false, not, ◌==◌, ◌&&◌, ◌||◌, List, [], ◌∷◌, ◌++◌, Option, Some, None, is_some, Result, Ok, Err, arith, filter, refl, sym, ap, ◌∙◌, subst, if◌then◌else◌, slice_get, slice_set, slice_index}
use Rattle.std.proofs.Math.Path.{fun_ext}
use Rattle.std.proofs.lemmas.Bool.{cases_eq, cond-false}
use Rattle.std.proofs.lemmas.Bool.Decides.{nat_tests}
use Rattle.std.proofs.lemmas.List.{append-nil}
use Rattle.shm_place.specs.declared.page_id.PageId.{PageId}
use Rattle.shm_model.specs.declared.answer.Answer.{Answer}
use Rattle.shm_model.specs.declared.answer.Answer.TheVariants.{Byte, Stored}
use Rattle.shm_model.specs.declared.event.Event.{Event}
use Rattle.shm_model.specs.declared.event.Event.TheVariants.{Store as StoreEvent}
use Rattle.shm_model.specs.declared.request_kind.Kind.{Kind}
use Rattle.shm_model.specs.Access.{Place, right}
use Rattle.shm_model.specs.Basics.{at}
use Rattle.shm_model.specs.Book.{is_write}
use Rattle.shm_model.specs.Entry.{bytes}
use Rattle.shm_model.specs.Message.{Input, Load, Store}
use Rattle.shm_model.specs.Site.{Site}
use Rattle.shm_model.specs.World.{Done, IsOpening, Next, Opening, World, next}
use Rattle.shm_laws.proofs.Page.Entry.{false-true}
use Rattle.shm_mapping.specs.Mapped.{Mapped, allows, mapped_at, remapped}
use Rattle.shm_mapping.specs.Hosts.{Hosts, Moved, accesses_by, after_events, gives_up, gives_up_read, gives_up_write, has_page, is_held, is_written, left_mapped, left_of_read, loads, loads_at, loads_from, mapped_for, maps, nothing, passes_by, reached, stores, stores_at, stores_back, stores_to, takes_away}
use Rattle.shm_mapping.specs.Deaths.{is_elsewhere}
use Rattle.shm_mapping.proofs.Worlds.{at-other-place, at-same-place}
use Rattle.shm_mapping.proofs.Good.{Good, Went}
use Rattle.shm_mapping.proofs.Happened.{happened}

none-some : {X : Type 0} (x : X) → None ≡ Some x → ⊥
none-some x e = cc

-- two places of one function
at-twice-if : {X : Type 0} (f : ℕ → X) (s k : ℕ) (x y : X) (here : Bool) → (if here then y else if here then x else f k) ≡ (if here then y else f k)
at-twice-if f s k x y true = refl
at-twice-if f s k x y false = refl

at-twice : {X : Type 0} (f : ℕ → X) (s : ℕ) (x y : X) → at (at f s x) s y ≡ at f s y
at-twice f s x y = fun_ext (λ k. at-twice-if f s k x y (s == k))

at-swap-if : {X : Type 0} (f : ℕ → X) (s t k : ℕ) (x y : X) (one other : Bool) → (s == k) ≡ one → (t == k) ≡ other → t ≢ s
    → (if other then y else if one then x else f k) ≡ (if one then x else if other then y else f k)
at-swap-if f s t k x y true true e g apart = absurd (apart (grind (arith, nat_tests)))
at-swap-if f s t k x y true false e g apart = refl
at-swap-if f s t k x y false true e g apart = refl
at-swap-if f s t k x y false false e g apart = refl

at-swap : {X : Type 0} (f : ℕ → X) (s t : ℕ) (x y : X) → t ≢ s → at (at f s x) t y ≡ at (at f t y) s x
at-swap f s t x y apart = fun_ext (λ k. at-swap-if f s t k x y (s == k) (t == k) refl refl apart)

module _ (s : ℕ) where
  -- the hosts without what host s maps, and with another account
  abbrev pub bare : Hosts → List Done → Hosts
  bare h account = record { world = h.world; mapped = at h.mapped s []; account = account }

  abbrev Away : List Done → List Done → Type 0
  Away xs ys = filter (is_elsewhere s) xs ≡ filter (is_elsewhere s) ys

  away-if : (d : Done) (xs ys : List Done) (elsewhere : Bool) → Away xs ys
      → (if elsewhere then d ∷ filter (is_elsewhere s) xs else filter (is_elsewhere s) xs) ≡ (if elsewhere then d ∷ filter (is_elsewhere s) ys else filter (is_elsewhere s) ys)
  away-if d xs ys true e = ap (λ zs. d ∷ zs) e
  away-if d xs ys false e = e

  away-both : (d : Done) (xs ys : List Done) → Away xs ys → Away (d ∷ xs) (d ∷ ys)
  away-both d xs ys e = away-if d xs ys (is_elsewhere s d) e

  away-here : (d : Done) (xs ys : List Done) → d.site ≡ s → Away xs ys → Away xs (d ∷ ys)
  away-here d xs ys here e = e ∙ sym (cond-false (is_elsewhere s d) (d ∷ filter (is_elsewhere s) ys) (filter (is_elsewhere s) ys) (here-not d.site here))
    where
      here-not : (t : ℕ) → t ≡ s → not (t == s) ≡ false
      here-not t e = ap not (cond-eq t e)
        where
          cond-eq : (t : ℕ) → t ≡ s → (t == s) ≡ true
          cond-eq t e = grind (arith, nat_tests)

  pub mapped-there : (h : Hosts) (t : ℕ) → t ≢ s → at h.mapped s [] t ≡ h.mapped t
  mapped-there h t apart = at-other-place h.mapped s t [] (λ e. apart (sym e))

  written-none : (r : Result Place ℕ) → is_written (reached [] r) ≡ false
  written-none (Err _) = refl
  written-none (Ok place) = refl

  some-none : (r : Result Place ℕ) → is_some (reached [] r) ≡ false
  some-none (Err _) = refl
  some-none (Ok place) = refl

  passes-none : (x : Site) (input : Option Input) (answer : Answer) → passes_by [] x input answer ≡ false
  passes-none x (Some (Load a offset)) (Byte b) = written-none (right x.attachments a offset false)
  passes-none x (Some (Store a offset byte)) Stored = some-none (right x.attachments a offset true)
  passes-none x _ _ = refl

  accesses-none : (site : Option Site) (d : Done) → accesses_by [] site d ≡ false
  accesses-none None d = refl
  accesses-none (Some x) d = passes-none x d.input d.answer

  -- where nothing is mapped nothing is held
  takes-none : (site : Option Site) → takes_away [] site ≡ false
  takes-none None = refl
  takes-none (Some x) = refl

  module _ (o : Opening) (is : IsOpening o) where
    -- an event later: the hosts, and an account that tells the same of other sites
    pub record Stepped (h new : Hosts) (ps os : List Event) : Type 0 where
      pub account : List Done
      pub good : Good o (bare new account) ps os
      pub away : Away account new.account

    module _ (h : Hosts) (a : List Done) (ps os : List Event) (good : Good o (bare h a) ps os) (away : Away a h.account) where
      abbrev b : Hosts
      b = bare h a

      abbrev Goes : Moved → Type 0
      Goes mv = Stepped h mv.hosts (ps ++ mv.plain) (os ++ mv.own)

      quiet-goes : (new : Hosts) → new.world ≡ h.world → at new.mapped s [] ≡ at h.mapped s [] → Away a new.account → Stepped h new (ps ++ []) (os ++ [])
      quiet-goes new w m y = record {
        account = a;
        good = subst (λ p. Good o (bare new a) p (os ++ [])) (sym (append-nil ps)) (subst (λ p. Good o (bare new a) ps p) (sym (append-nil os))
            (subst (λ v. Good o (record { world = v; mapped = at new.mapped s []; account = a }) ps os) (sym w) (subst (λ f. Good o (record { world = h.world; mapped = f; account = a }) ps os) (sym m) good)));
        away = y;
      }

      nothing-goes : Goes (nothing h)
      nothing-goes = quiet-goes h refl refl away

      -- an event of the world
      held-if : (n : Next) (here : (s ≡ n.done.site) ⊎ (s ≢ n.done.site)) → is_held h n ≡ false → is_held b n ≡ false
      held-if n (inl here) e =
          ap (λ ms. takes_away ms (slice_get n.world.sites n.done.site) || accesses_by ms (slice_get h.world.sites n.done.site) n.done) (ap (at h.mapped s []) (sym here) ∙ at-same-place h.mapped s [])
          ∙ (ap (λ t. t || accesses_by [] (slice_get h.world.sites n.done.site) n.done) (takes-none (slice_get n.world.sites n.done.site)) ∙ accesses-none (slice_get h.world.sites n.done.site) n.done)
      held-if n (inr there) e =
          ap (λ ms. takes_away ms (slice_get n.world.sites n.done.site) || accesses_by ms (slice_get h.world.sites n.done.site) n.done) (at-other-place h.mapped s n.done.site [] there) ∙ e

      pub happens-if : (event : Event) (held : Bool) → is_held h (next h.world event) ≡ held
          → Goes (if held then nothing h
          else record { hosts = record h { world = (next h.world event).world; account = (next h.world event).done ∷ h.account }; plain = event ∷ []; own = event ∷ [] })
      happens-if event true e = nothing-goes
      happens-if event false e = record {
        account = (next h.world event).done ∷ a;
        good = happened o is b ps os good event (held-if (next h.world event) (cases_eq s (next h.world event).done.site) e);
        away = away-both (next h.world event).done a h.account away;
      }

      -- an event of another host
      there-goes : (mv nb : Moved) (new : List Done) → Went o ps os nb → nb ≡ record { hosts = bare mv.hosts new; plain = mv.plain; own = mv.own } → Away new mv.hosts.account → Goes mv
      there-goes mv nb new went e y = record { account = new; good = subst (Went o ps os) e went; away = y }

      goes-if : (c : Bool) (y z : Moved) → Goes y → Goes z → Goes (if c then y else z)
      goes-if true y z g k = g
      goes-if false y z g k = k

      there-if : (c : Bool) (yb zb y z : Moved) → Went o ps os (if c then yb else zb) → (Went o ps os yb → Goes y) → (Went o ps os zb → Goes z) → Goes (if c then y else z)
      there-if true yb zb y z went f g = f went
      there-if false yb zb y z went f g = g went

      -- other pages are mapped there
      mapped-goes : (t : ℕ) (apart : t ≢ s) (w : World) (f : List Mapped → List Mapped) (es : List Event)
          → Went o ps os (record { hosts = record b { world = w; mapped = at b.mapped t (f (b.mapped t)) }; plain = []; own = es })
          → Goes (record { hosts = record h { world = w; mapped = at h.mapped t (f (h.mapped t)) }; plain = []; own = es })
      mapped-goes t apart w f es went =
          there-goes _ _ a went
          (ap (λ l. record { hosts = record { world = w; mapped = at (at h.mapped s []) t (f l); account = a }; plain = []; own = es }) (mapped-there h t apart)
          ∙ ap (λ g. record { hosts = record { world = w; mapped = g; account = a }; plain = []; own = es }) (at-swap h.mapped s t [] (f (h.mapped t)) apart)) away

      pub maps-there : (t : ℕ) → t ≢ s → (at_a : ℕ) (page : PageId) (kind : Kind) (x : Option Site) → Went o ps os (maps b t at_a page kind x) → Goes (maps h t at_a page kind x)
      maps-there t apart at_a page kind None went = nothing-goes
      maps-there t apart at_a page kind (Some x) went =
          there-if (has_page x at_a page (is_write kind) && allows kind (x.entries page)) _ _ _ _ went
          (mapped-goes t apart h.world (λ l. remapped (mapped_for kind page (x.entries page) (mapped_at page l)) l) []) (λ _. nothing-goes)

      pub maps-here : (at_a : ℕ) (page : PageId) (kind : Kind) (x : Option Site) → Goes (maps h s at_a page kind x)
      maps-here at_a page kind None = nothing-goes
      maps-here at_a page kind (Some x) =
          goes-if (has_page x at_a page (is_write kind) && allows kind (x.entries page)) _ _ (quiet-goes (record h { mapped = at h.mapped s _ }) refl (at-twice h.mapped s _ []) away) nothing-goes

      pub gives-there : (t : ℕ) → t ≢ s → (at_a : ℕ) (page : PageId) (left : Option Kind) (x : Option Site) (m : Option Mapped) → Went o ps os (gives_up b t at_a page left x m) → Goes (gives_up h t at_a page left x m)
      gives-there t apart at_a page left None m went = nothing-goes
      gives-there t apart at_a page left (Some x) None went = nothing-goes
      gives-there t apart at_a page left (Some x) (Some m) went =
          let es : List Event = stores_back t at_a page (bytes (x.entries page)) m.memory in
          there-if (not (is_write m.kind)) _ _ _ _ went (mapped-goes t apart h.world (left_of_read left page) [])
          (λ w. there-if (has_page x at_a page true) _ _ _ _ w (mapped-goes t apart (after_events h.world es) (left_mapped left page m) es) (λ _. nothing-goes))

      gives-read : (at_a : ℕ) (page : PageId) (left : Option Kind) (x : Site) (m : Mapped) (write : Bool) → write ≡ false
          → Goes (if not write then gives_up_read h s page left
          else if has_page x at_a page true then gives_up_write h s page left m (stores_back s at_a page (bytes (x.entries page)) m.memory) else nothing h)
      gives-read at_a page left x m true e = absurd (false-true (sym e))
      gives-read at_a page left x m false e = quiet-goes (record h { mapped = at h.mapped s (left_of_read left page (h.mapped s)) }) refl (at-twice h.mapped s (left_of_read left page (h.mapped s)) []) away

      pub gives-here : (at_a : ℕ) (page : PageId) (left : Option Kind) (x : Option Site) (m : Option Mapped) → is_written m ≡ false → Goes (gives_up h s at_a page left x m)
      gives-here at_a page left None m e = nothing-goes
      gives-here at_a page left (Some x) None e = nothing-goes
      gives-here at_a page left (Some x) (Some m) e = gives-read at_a page left x m (is_write m.kind) e

      -- accesses of another host's processors
      loads-there : (t : ℕ) (at_a offset : ℕ) (place : Place) (m : Option Mapped) → Went o ps os (loads_from b t at_a offset place m) → Goes (loads_from h t at_a offset place m)
      loads-there t at_a offset place None went = nothing-goes
      loads-there t at_a offset place (Some m) went =
          let d : Done = record { site = t; input = Some (Load at_a offset); answer = Byte (slice_index m.memory place.within) } in
          there-goes _ _ (d ∷ a) went refl (away-both d a h.account away)

      loads-right : (t : ℕ) → t ≢ s → (at_a offset : ℕ) (r : Result Place ℕ) → Went o ps os (loads_at b t at_a offset r) → Goes (loads_at h t at_a offset r)
      loads-right t apart at_a offset (Err _) went = nothing-goes
      loads-right t apart at_a offset (Ok place) went =
          loads-there t at_a offset place (mapped_at place.page (h.mapped t)) (subst (λ l. Went o ps os (loads_from b t at_a offset place (mapped_at place.page l))) (mapped-there h t apart) went)

      pub loads-site : (t : ℕ) → t ≢ s → (at_a offset : ℕ) (x : Option Site) → Went o ps os (loads b t at_a offset x) → Goes (loads h t at_a offset x)
      loads-site t apart at_a offset None went = nothing-goes
      loads-site t apart at_a offset (Some x) went = loads-right t apart at_a offset (right x.attachments at_a offset false) went

      stores-found : (t : ℕ) → t ≢ s → (at_a offset byte : ℕ) (place : Place) (m : Option Mapped) → Went o ps os (stores_to b t at_a offset byte place m) → Goes (stores_to h t at_a offset byte place m)
      stores-found t apart at_a offset byte place None went = nothing-goes
      stores-found t apart at_a offset byte place (Some m) went =
          let d : Done = record { site = t; input = Some (Store at_a offset byte); answer = Stored } in
          let k : Mapped = record m { memory = slice_set m.memory place.within byte } in
          let es : List Event = StoreEvent t at_a offset byte ∷ [] in
          there-if (is_write m.kind) _ _ _ _ went
          (λ w. there-goes _ _ (d ∷ a) w
          (ap (λ l. record { hosts = record { world = h.world; mapped = at (at h.mapped s []) t (remapped k l); account = d ∷ a }; plain = es; own = [] }) (mapped-there h t apart)
          ∙ ap (λ g. record { hosts = record { world = h.world; mapped = g; account = d ∷ a }; plain = es; own = [] }) (at-swap h.mapped s t [] (remapped k (h.mapped t)) apart))
          (away-both d a h.account away)) (λ _. nothing-goes)

      stores-right : (t : ℕ) → t ≢ s → (at_a offset byte : ℕ) (r : Result Place ℕ) → Went o ps os (stores_at b t at_a offset byte r) → Goes (stores_at h t at_a offset byte r)
      stores-right t apart at_a offset byte (Err _) went = nothing-goes
      stores-right t apart at_a offset byte (Ok place) went =
          stores-found t apart at_a offset byte place (mapped_at place.page (h.mapped t)) (subst (λ l. Went o ps os (stores_to b t at_a offset byte place (mapped_at place.page l))) (mapped-there h t apart) went)

      pub stores-site : (t : ℕ) → t ≢ s → (at_a offset byte : ℕ) (x : Option Site) → Went o ps os (stores b t at_a offset byte x) → Goes (stores h t at_a offset byte x)
      stores-site t apart at_a offset byte None went = nothing-goes
      stores-site t apart at_a offset byte (Some x) went = stores-right t apart at_a offset byte (right x.attachments at_a offset true) went

      -- those of its own are left out
      abbrev Left : Moved → Type 0
      Left mv = Stepped h mv.hosts (ps ++ []) (os ++ mv.own)

      left-loads : (at_a offset : ℕ) (place : Place) (m : Option Mapped) → Left (loads_from h s at_a offset place m)
      left-loads at_a offset place None = nothing-goes
      left-loads at_a offset place (Some m) =
          let d : Done = record { site = s; input = Some (Load at_a offset); answer = Byte (slice_index m.memory place.within) } in
          quiet-goes (record h { account = d ∷ h.account }) refl refl (away-here d a h.account refl away)

      left-loads-right : (at_a offset : ℕ) (r : Result Place ℕ) → Left (loads_at h s at_a offset r)
      left-loads-right at_a offset (Err _) = nothing-goes
      left-loads-right at_a offset (Ok place) = left-loads at_a offset place (mapped_at place.page (h.mapped s))

      pub left-loads-site : (at_a offset : ℕ) (x : Option Site) → Left (loads h s at_a offset x)
      left-loads-site at_a offset None = nothing-goes
      left-loads-site at_a offset (Some x) = left-loads-right at_a offset (right x.attachments at_a offset false)

      left-if : (c : Bool) (y z : Moved) → Left y → Left z → Left (if c then y else z)
      left-if true y z g k = g
      left-if false y z g k = k

      left-stores : (at_a offset byte : ℕ) (place : Place) (m : Option Mapped) → Left (stores_to h s at_a offset byte place m)
      left-stores at_a offset byte place None = nothing-goes
      left-stores at_a offset byte place (Some m) =
          let d : Done = record { site = s; input = Some (Store at_a offset byte); answer = Stored } in
          let new : List Mapped = remapped (record m { memory = slice_set m.memory place.within byte }) (h.mapped s) in
          left-if (is_write m.kind) _ _ (quiet-goes (record h { mapped = at h.mapped s new; account = d ∷ h.account }) refl (at-twice h.mapped s new []) (away-here d a h.account refl away)) nothing-goes

      left-stores-right : (at_a offset byte : ℕ) (r : Result Place ℕ) → Left (stores_at h s at_a offset byte r)
      left-stores-right at_a offset byte (Err _) = nothing-goes
      left-stores-right at_a offset byte (Ok place) = left-stores at_a offset byte place (mapped_at place.page (h.mapped s))

      pub left-stores-site : (at_a offset byte : ℕ) (x : Option Site) → Left (stores h s at_a offset byte x)
      left-stores-site at_a offset byte None = nothing-goes
      left-stores-site at_a offset byte (Some x) = left-stores-right at_a offset byte (right x.attachments at_a offset true)
