-- The parts of the invariant that others may use.
use Rattle.std.proofs.Common.{◌≡◌, ◌≢◌, ℕ, ◌<◌, ◌≤◌, ◌⊎◌, inl, inr, true, false, List, Contains, arith, refl, sym, ◌∙◌, ap, subst}
use Rattle.std.proofs.lemmas.Bool.{false_from_ne_true}
use Rattle.std.proofs.lemmas.Option.{slice_get_within}
use Rattle.shm_place.specs.declared.page_id.PageId.{PageId}
use Rattle.shm_place.specs.Page.{manager_of}
use Rattle.shm_model.specs.declared.event.Event.{Event}
use Rattle.shm_model.specs.declared.request_kind.Kind.{Kind}
use Rattle.shm_model.specs.declared.request_kind.Kind.TheVariants.{Read, Write}
use Rattle.shm_model.specs.Entry.{Handed, Note, Ask, Clear, Cleared, Hand, Page, Confirm, bytes, is_copy, owned, readable, seen}
use Rattle.shm_model.specs.Book.{Book, max_sites}
use Rattle.shm_model.specs.Message.{Envelope, Of}
use Rattle.shm_model.specs.Site.{Site}
use Rattle.shm_model.specs.Transactions.{BytesAreLast, InvalidatedFirst, IsRequester, IsRunning, NumbersTell, ReadersAreKnown, Stands, TellsToHand, entry_number}
use Rattle.shm_model.specs.World.{IsOpening, Opening, Run, run, sites_of}
use Rattle.shm_laws.proofs.Run.Induction.{Shape, run-shape}
use Rattle.shm_laws.proofs.Page.View.{AllMet, Fits, Holds, InFlight, Runs, View}
use Rattle.shm_laws.proofs.Page.Hand.{HandNow, hand-now, hand-running}
use Rattle.shm_laws.proofs.Page.Keep.{readable-is}
use Rattle.shm_laws.proofs.Page.Moves.{EnvelopeFits, now_of}
use Rattle.shm_laws.proofs.Sound.{Sound, each-in}
use Rattle.shm_laws.proofs.Headline.{run-sound, size-of}

module _ (o : Opening) (r : Run) (sound : Sound o r) (shape : Shape o r.world) (q : PageId) where
  abbrev v : View
  v = (sound.pages q).view

  abbrev h : Holds (now_of o q r.account) v
  h = (sound.pages q).holds

  entry-is : (s : ℕ) (x : Site) → Stands r.world q s x → v.entries s ≡ x.entries q
  entry-is s x stands = ((sound.pages q).local s x stands.site).entry stands.held

  book-is : (m : Site) → Stands r.world q (manager_of r.world.count q) m → v.book ≡ m.books q
  book-is m stands =
      ((sound.pages q).local (manager_of r.world.count q) m stands.site).book (ap (λ n. manager_of n q) (sym shape.count)) stands.held

  fits-of : (e : Envelope) (note : Note) → Contains r.world.sent e → e.message ≡ Of q note → Fits (now_of o q r.account) v e.from e.to note
  fits-of e note sent is = (each-in (EnvelopeFits (now_of o q r.account) q v) r.world.sent e (sound.pages q).fits sent).fits note is

  pub met-here : (s : ℕ) (x m : Site) → Stands r.world q s x → Stands r.world q (manager_of r.world.count q) m → seen (x.entries q) ≤ (m.books q).number
  met-here s x m sx sm = subst (λ b. seen (x.entries q) ≤ b.number) (book-is m sm) (subst (λ e. seen e ≤ v.book.number) (entry-is s x sx) (h.met s))

  runs-running : (kind : Kind) (p : ℕ) → Runs v.book kind p → IsRunning v.book
  runs-running kind p r = (record { kind = kind; requester = p }, r.is)

  above-of : (from to : ℕ) (note : Note) → Fits (now_of o q r.account) v from to note → seen (v.entries to) < entry_number note → (entry_number note ≡ v.book.number) × IsRunning v.book
  above-of from to (Ask k kind) f l = absurd (omega arith)
  above-of from to (Clear n) (inl old) l = absurd (omega arith)
  above-of from to (Clear n) (inr c) l = (c.number, runs-running Write c.q c.runs)
  above-of from to (Cleared n) f l = absurd (omega arith)
  above-of from to (Hand n kind p) f l = let c : HandNow v n kind p to = hand-now v n kind p to f l in (c.number, runs-running kind p c.runs)
  above-of from to (Page n kind b) (inl old) l = absurd (omega arith)
  above-of from to (Page n kind b) (inr c) l = (c.number, runs-running kind to c.runs)
  above-of from to (Confirm n) f l = absurd (omega arith)

  pub above-here : (e : Envelope) (note : Note) (x m : Site) → Contains r.world.sent e → e.message ≡ Of q note → Stands r.world q e.to x → Stands r.world q (manager_of r.world.count q) m
      → seen (x.entries q) < entry_number note → (entry_number note ≡ (m.books q).number) × IsRunning (m.books q)
  above-here e note x m sent is sx sm l =
      subst (λ b. (entry_number note ≡ b.number) × IsRunning b) (book-is m sm)
      (above-of e.from e.to note (fits-of e note sent is) (subst (λ y. seen y < entry_number note) (sym (entry-is e.to x sx)) l))

  known-owner : (s : ℕ) → (s ≡ v.book.owner) ⊎ (Runs v.book Write s × (v.book.number ≤ seen (v.entries s))) → (s ≡ v.book.owner) ⊎ ((v.book.copies s ≡ true) ⊎ IsRequester v.book s)
  known-owner s (inl e) = inl e
  known-owner s (inr p) = inr (inr (record { kind = Write; requester = s }, p.0.is, refl))

  known-copy : (s : ℕ) → (v.book.copies s ≡ true) ⊎ (Runs v.book Read s × (v.book.number ≤ seen (v.entries s))) → (s ≡ v.book.owner) ⊎ ((v.book.copies s ≡ true) ⊎ IsRequester v.book s)
  known-copy s (inl c) = inr (inl c)
  known-copy s (inr p) = inr (inr (record { kind = Read; requester = s }, p.0.is, refl))

  known-of : (s : ℕ) → (owned (v.entries s) ≡ true) ⊎ (is_copy (v.entries s) ≡ true) → (s ≡ v.book.owner) ⊎ ((v.book.copies s ≡ true) ⊎ IsRequester v.book s)
  known-of s (inl w) = known-owner s (h.owner s w)
  known-of s (inr w) = known-copy s (h.copy s w)

  pub known-here : (s : ℕ) (x m : Site) → Stands r.world q s x → Stands r.world q (manager_of r.world.count q) m → readable (x.entries q) ≡ true
      → (s ≡ (m.books q).owner) ⊎ (((m.books q).copies s ≡ true) ⊎ IsRequester (m.books q) s)
  known-here s x m sx sm w =
      subst (λ (b : Book). (s ≡ b.owner) ⊎ ((b.copies s ≡ true) ⊎ IsRequester b s)) (book-is m sm) (known-of s (readable-is (v.entries s) (ap readable (entry-is s x sx) ∙ w)))

  -- the running transaction's Hand to write: it is the owner's, and for the requester; and what was met before it
  told-now : (p : ℕ) (e : Envelope) → TellsToHand r.world q v.book p e → HandNow v v.book.number Write p e.to
  told-now p e told =
      hand-running v v.book.number Write p e.to (fits-of e (Hand v.book.number Write p) told.sent told.hand) refl v.book.running refl (λ none. let (run, is) = told.runs in cc)

  unowned : (p s : ℕ) → Runs v.book Write p → s ≢ v.book.owner → s ≢ p → owned (v.entries s) ≡ true → ⊥
  unowned p s runs away other w = grind (arith, h.owner s w, runs.is)

  uncopied : (p s : ℕ) → Runs v.book Write p → AllMet v p → s ≢ p → is_copy (v.entries s) ≡ true → readable (v.entries s) ≡ true → ⊥
  uncopied p s runs all other w k = grind (arith, h.copy s w, h.bounded s k, all.met s, h.nobody_else p s runs, runs.is)

  unread : (p s : ℕ) → Runs v.book Write p → AllMet v p → s ≢ v.book.owner → s ≢ p → readable (v.entries s) ≡ false
  unread p s runs all away other =
      false_from_ne_true _ (λ w. grind (arith, readable-is (v.entries s) w, unowned p s runs away other, uncopied p s runs all other))

  small-here : sites_of o ≤ max_sites → (s : ℕ) (x : Site) → Stands r.world q s x → s < max_sites
  small-here few s x stands = let within = slice_get_within r.world.sites s x stands.site in let length_is = shape.sites in omega (arith, few, within, length_is)

  pub told-here : (p : ℕ) (e : Envelope) (m : Site) → Stands r.world q (manager_of r.world.count q) m → TellsToHand r.world q (m.books q) p e
      → (e.to ≡ (m.books q).owner) × IsRequester (m.books q) p
  told-here p e m sm =
      subst (λ b. TellsToHand r.world q b p e → (e.to ≡ b.owner) × IsRequester b p) (book-is m sm)
      (λ told. let now = told-now p e told in (now.owner, (record { kind = Write; requester = p }, now.runs.is, refl)))

  pub invalidated-here : sites_of o ≤ max_sites → (p : ℕ) (e : Envelope) (s : ℕ) (x m : Site) → Stands r.world q s x → Stands r.world q (manager_of r.world.count q) m
      → TellsToHand r.world q (m.books q) p e → (m.books q).copies s ≡ true → s ≢ p → (m.books q).number ≤ seen (x.entries q)
  invalidated-here few p e s x m sx sm =
      subst (λ b. TellsToHand r.world q b p e → b.copies s ≡ true → s ≢ p → b.number ≤ seen (x.entries q)) (book-is m sm)
      (λ told copy other. subst (λ y. v.book.number ≤ seen y) (entry-is s x sx) (((told-now p e told).all_met refl).met s (small-here few s x sx) copy other))

  pub unread-here : (p : ℕ) (e : Envelope) (s : ℕ) (x m : Site) → Stands r.world q s x → Stands r.world q (manager_of r.world.count q) m → TellsToHand r.world q (m.books q) p e
      → s ≢ (m.books q).owner → s ≢ p → readable (x.entries q) ≡ false
  unread-here p e s x m sx sm =
      subst (λ b. TellsToHand r.world q b p e → s ≢ b.owner → s ≢ p → readable (x.entries q) ≡ false) (book-is m sm)
      (λ told away other. let now = told-now p e told in ap readable (sym (entry-is s x sx)) ∙ unread p s now.runs (now.all_met refl) away other)

  pub last-here : (s : ℕ) (x : Site) → Stands r.world q s x → readable (x.entries q) ≡ true → now_of o q r.account (bytes (x.entries q))
  last-here s x sx w = subst (λ e. now_of o q r.account (bytes e)) (entry-is s x sx) (h.now s (ap readable (entry-is s x sx) ∙ w))

  flying : (n : ℕ) (kind : Kind) (to : ℕ) (b : List ℕ) → (n ≤ seen (v.entries to)) ⊎ InFlight (now_of o q r.account) v n kind to b → seen (v.entries to) < n → now_of o q r.account b
  flying n kind to b (inl old) l = absurd (omega arith)
  flying n kind to b (inr f) l = f.now

  pub sent-here : (e : Envelope) (n : ℕ) (kind : Kind) (b : List ℕ) (x : Site) → Contains r.world.sent e → e.message ≡ Of q (Page n kind b) → Stands r.world q e.to x → seen (x.entries q) < n
      → now_of o q r.account b
  sent-here e n kind b x sent is sx l =
      flying n kind e.to b (fits-of e (Page n kind b) sent is) (subst (λ y. seen y < n) (sym (entry-is e.to x sx)) l)

  pub handed-here : (s n to : ℕ) (b : List ℕ) (x y : Site) → Stands r.world q s x → Stands r.world q to y → x.entries q ≡ Handed n to b → seen (y.entries q) < n → now_of o q r.account b
  handed-here s n to b x y sx sy is l = (h.handed s n to b (entry-is s x sx ∙ is) (subst (λ e. seen e < n) (sym (entry-is to y sy)) l)).now

pub copies-invalidated : (o : Opening) (events : List Event) → IsOpening o → InvalidatedFirst (run o events).world
copies-invalidated o events is = record {
  told = told-here o (run o events) (run-sound o events is) (run-shape o events);
  met = λ page. invalidated-here o (run o events) (run-sound o events is) (run-shape o events) page (size-of o is).few_sites;
  unreadable = unread-here o (run o events) (run-sound o events is) (run-shape o events);
}

pub numbers-tell : (o : Opening) (events : List Event) → IsOpening o → NumbersTell (run o events).world
numbers-tell o events is = record {
  met = met-here o (run o events) (run-sound o events is) (run-shape o events);
  above = above-here o (run o events) (run-sound o events is) (run-shape o events);
}

pub readers-known : (o : Opening) (events : List Event) → IsOpening o → ReadersAreKnown (run o events).world
readers-known o events is = known-here o (run o events) (run-sound o events is) (run-shape o events)

pub bytes-last : (o : Opening) (events : List Event) → IsOpening o → BytesAreLast o (run o events)
bytes-last o events is = record {
  readable_bytes = λ page s x stands w. (last-here o (run o events) (run-sound o events is) (run-shape o events) page s x stands w).byte;
  sent_bytes = λ page e n kind b x sent m stands l. (sent-here o (run o events) (run-sound o events is) (run-shape o events) page e n kind b x sent m stands l).byte;
  handed_bytes = λ page s n to b x y sx sy given l. (handed-here o (run o events) (run-sound o events is) (run-shape o events) page s n to b x y sx sy given l).byte;
}
