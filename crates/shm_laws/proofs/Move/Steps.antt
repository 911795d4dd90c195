-- Every step of a site moves every page as it should.
use Rattle.std.proofs.Common.{◌≡◌, ◌≢◌, ℕ, ◌<◌, ◌⊎◌, inl, inr, Bool, true, false, not, ◌==◌, ◌&&◌, ◌||◌, Option, Some, None, List, [], ◌∷◌, ◌++◌, map, filter, nat_lt, arith, refl, sym, ◌∙◌, ap, subst}
use Rattle.std.proofs.lemmas.Bool.{and_parts, cases_eq, cases_Bool, cond_both, cond-true, cond-false}
use Rattle.std.proofs.lemmas.Bool.Decides.{nat_tests}
use Rattle.std.specs.List.{flat_map, range_with_len}
use Rattle.shm_place.specs.declared.page_id.PageId.{PageId}
use Rattle.shm_place.specs.Page.{in_limits, manager_of, same_page}
use Rattle.shm_model.specs.declared.answer.Answer.TheVariants.{Dropped, Refused}
use Rattle.shm_model.specs.Entry.{Entry, Nil, Note}
use Rattle.shm_model.specs.Book.{Book, max_sites, orders, untouched_book, without_volatile}
use Rattle.shm_model.specs.Basics.{at}
use Rattle.shm_model.specs.Refusal.{foreign_message}
use Rattle.shm_model.specs.Message.{Envelope, Message, Of, Call, Replies, Purge, Purged}
use Rattle.shm_model.specs.Calls.{Outstanding}
use Rattle.shm_model.specs.Site.{Site, is_attached, Step}
use Rattle.shm_model.specs.Transfer.{order_envelopes}
use Rattle.shm_model.specs.SegmentCalls.{on_purge, purge_envelope, purged_site}
use Rattle.shm_model.specs.Step.{ask_again, call_again, deliver, foreign, is_proper, is_to_manager, on_message, orders_again, purges_again, restart, tick, tick_envelopes}
use Rattle.shm_laws.proofs.Page.View.{View, Holds}
use Rattle.shm_laws.proofs.Page.Entry.{false-true}
use Rattle.shm_laws.proofs.Page.Orders.{Each, each-imp, orders-fit}
use Rattle.shm_laws.proofs.Page.Book.{Goes, with_book}
use Rattle.shm_laws.proofs.Page.Books.{restart-goes}
use Rattle.shm_laws.proofs.Page.Moves.{EnvelopeFits, IsOffPage, Local, Moves, StepMoves, off-fits, off_call, off_purge, off_purged, page-same, quiet-moves}
use Rattle.shm_laws.proofs.Move.Access.{ask-fits, still-moves}
use Rattle.shm_laws.proofs.Move.Notes.{note-moves, orders-apart, orders-here}
use Rattle.shm_laws.proofs.Frame.Held.{FramesHeld}
use Rattle.shm_laws.proofs.Move.Calls.{IsQuiet, call-quiet, purged-quiet, reply-quiet}

pub each-append : {X : Type 0} (P : X → Type 0) (xs ys : List X) → Each P xs → Each P ys → Each P (xs ++ ys)
each-append P [] ys a b = b
each-append P (x ∷ xs) ys a b = (a.0, each-append P xs ys a.1 b)

pub each-flat : {X Y : Type 0} (P : Y → Type 0) (f : X → List Y) (xs : List X) → ((x : X) → Each P (f x)) → Each P (flat_map f xs)
each-flat P f [] a = tt
each-flat P f (x ∷ xs) a = each-append P (f x) (flat_map f xs) (a x) (each-flat P f xs a)

pub each-of : {X Y : Type 0} (P : Y → Type 0) (f : X → Y) (xs : List X) → ((x : X) → P (f x)) → Each P (map f xs)
each-of P f [] a = tt
each-of P f (x ∷ xs) a = (a x, each-of P f xs a)

module _ (Now : List ℕ → Type 0) (sites s : ℕ) (q : PageId) (v : View) (site : Site) (h : Holds Now v) (l : Local sites s q site v) where
  pub quiet-step : (st : Step) → IsQuiet site st → StepMoves Now Now sites s q v st
  quiet-step st k =
      quiet-moves Now sites s q v site st.site st.sent h l (ap (λ (f : PageId → Entry). f q) k.entries) (ap (λ (f : PageId → Book). f q) k.books) (ap (λ (f : ℕ → Bool). f q.seg) k.purged)
      (each-imp (λ (e : Envelope). IsOffPage e.message) (EnvelopeFits Now q v) st.sent (off-fits Now q v) k.sent)

  -- a purge gives up the pages of its segment
  purge-here : (id : ℕ) → id ≡ q.seg → Moves Now Now sites s q v (purged_site s id site) []
  purge-here id e = record {
    view = v;
    local = record {
      entry = λ p. absurd (false-true (sym p ∙ purged-now));
      gone = λ p. cond-true (id == q.seg) (Nil 0) (site.entries q) (grind (arith, nat_tests));
      book = λ m p. absurd (false-true (sym p ∙ purged-now));
      elsewhere = λ m. cond-true (id == q.seg) (untouched_book s) (site.books q) (grind (arith, nat_tests));
      closed = λ p. cond-true (id == q.seg) (untouched_book s) (site.books q) (grind (arith, nat_tests));
    };
    others = λ t other. refl;
    book_stays = λ m. refl;
    holds = h;
    fits = λ from to note f. f;
    new = tt;
  }
    where
      purged-now : at site.purged id true q.seg ≡ true
      purged-now = grind (arith, nat_tests)

  purge-there : (id : ℕ) → id ≢ q.seg → Moves Now Now sites s q v (purged_site s id site) []
  purge-there id e =
      quiet-moves Now sites s q v site (purged_site s id site) [] h l (cond-false (id == q.seg) (Nil 0) (site.entries q) (grind (arith, nat_tests)))
      (cond-false (id == q.seg) (untouched_book s) (site.books q) (grind (arith, nat_tests))) (cond-false (id == q.seg) true (site.purged q.seg) (grind (arith, nat_tests))) tt

  purge-either : (id : ℕ) → (id ≡ q.seg) ⊎ (id ≢ q.seg) → Moves Now Now sites s q v (purged_site s id site) []
  purge-either id (inl e) = purge-here id e
  purge-either id (inr e) = purge-there id e

  with-sent : (site : Site) (e : Envelope) → IsOffPage e.message → Moves Now Now sites s q v site [] → Moves Now Now sites s q v site (e ∷ [])
  with-sent site e off m = record {
    view = m.view;
    local = m.local;
    others = m.others;
    book_stays = m.book_stays;
    holds = m.holds;
    fits = m.fits;
    new = (off-fits Now q m.view e off, tt);
  }

  purge-moves : (id : ℕ) → StepMoves Now Now sites s q v (on_purge sites s id site)
  purge-moves id =
      cond_both (is_attached site id) _ _ (StepMoves Now Now sites s q v) (λ e. still-moves Now sites s q v site h l Dropped)
      (λ e. with-sent (purged_site s id site) _ (off_purged id) (purge-either id (cases_eq id q.seg)))

  -- a restart forgets what is volatile
  restart-here : manager_of sites q ≡ s → site.purged q.seg ≡ false → StepMoves Now Now sites s q v (restart site)
  restart-here m p =
      let goes : Goes Now v (without_volatile v.book) = restart-goes Now v h in
      record {
        view = with_book v (without_volatile v.book);
        local = record {
          entry = l.entry;
          gone = l.gone;
          book = λ e f. ap without_volatile (l.book m p);
          elsewhere = λ other. absurd (other m);
          closed = λ f. absurd (false-true (sym p ∙ f));
        };
        others = λ t other. refl;
        book_stays = λ other. absurd (other m);
        holds = goes.holds;
        fits = goes.fits;
        new = tt;
      }

  restart-untouched : site.books q ≡ untouched_book s → StepMoves Now Now sites s q v (restart site)
  restart-untouched e = quiet-moves Now sites s q v site (restart site).site [] h l refl (ap without_volatile e ∙ sym e) refl tt

  restart-either : (manager_of sites q ≡ s) ⊎ (manager_of sites q ≢ s) → (site.purged q.seg ≡ true) ⊎ (site.purged q.seg ≡ false) → StepMoves Now Now sites s q v (restart site)
  restart-either (inl m) (inl p) = restart-untouched (l.closed p)
  restart-either (inl m) (inr p) = restart-here m p
  restart-either (inr m) p = restart-untouched (l.elsewhere m)

  pub restart-moves : StepMoves Now Now sites s q v (restart site)
  restart-moves = restart-either (cases_eq (manager_of sites q) s) (cases_Bool (site.purged q.seg))

  -- a tick sends again what fitted before
  again-untouched : site.books q ≡ untouched_book s → Each (EnvelopeFits Now q v) (orders_again s site q)
  again-untouched e = subst (λ b. Each (EnvelopeFits Now q v) (order_envelopes s q b (orders b))) (sym e) tt

  again-here : (manager_of sites q ≡ s) ⊎ (manager_of sites q ≢ s) → (site.purged q.seg ≡ true) ⊎ (site.purged q.seg ≡ false) → Each (EnvelopeFits Now q v) (orders_again s site q)
  again-here (inl m) (inl p) = again-untouched (l.closed p)
  again-here (inl m) (inr p) = subst (λ b. Each (EnvelopeFits Now q v) (order_envelopes s q b (orders b))) (l.book m p) (orders-here Now q q v s (orders v.book) (orders-fit Now v h))
  again-here (inr m) p = again-untouched (l.elsewhere m)

  again-page : (p : PageId) (same : Bool) → same_page p q ≡ same → Each (EnvelopeFits Now q v) (orders_again s site p)
  again-page p true e = subst (λ x. Each (EnvelopeFits Now q v) (orders_again s site x)) (sym (page-same p q e)) (again-here (cases_eq (manager_of sites q) s) (cases_Bool (site.purged q.seg)))
  again-page p false e = orders-apart Now p q v s (site.books p) (orders (site.books p)) e

  call-again : (found : Option Outstanding) → Each (EnvelopeFits Now q v) (call_again sites s found)
  call-again None = tt
  call-again (Some o) = (off-fits Now q v _ (off_call o.number o.op), tt)

  pub tick-moves : StepMoves Now Now sites s q v (tick sites s site)
  tick-moves = quiet-moves Now sites s q v site site (tick_envelopes sites s site) h l refl refl refl
      (each-append (EnvelopeFits Now q v) (map (ask_again sites s) site.pending) _
      (each-of (EnvelopeFits Now q v) (ask_again sites s) site.pending (λ p. ask-fits Now q v p.page p.request s (manager_of sites p.page) p.kind))
      (each-append (EnvelopeFits Now q v) (flat_map (orders_again s site) site.booked) _
      (each-flat (EnvelopeFits Now q v) (orders_again s site) site.booked (λ p. again-page p (same_page p q) refl))
      (each-append (EnvelopeFits Now q v) (call_again sites s site.outstanding) _ (call-again site.outstanding)
      (each-flat (EnvelopeFits Now q v) (purges_again sites s site) site.table (λ g. each-of (EnvelopeFits Now q v) (purge_envelope s g.id) (filter (site.missing g.id) (range_with_len 0 sites)) (λ to. off-fits Now q v _ (off_purge g.id)))))))

  module _ (held : FramesHeld site.entries site.frames) (small : s < max_sites) where
    -- the manager's notes come to the manager
    proper-manager : (sites s : ℕ) (page : PageId) (note : Note) → in_limits sites page && (not (is_to_manager note) || (manager_of sites page == s)) ≡ true → is_to_manager note ≡ true → manager_of sites page ≡ s
    proper-manager sites s page note e t = same-of (is_to_manager note) (and_parts (in_limits sites page) _ e).1 t
      where
        same-of : (b : Bool) → not b || (manager_of sites page == s) ≡ true → b ≡ true → manager_of sites page ≡ s
        same-of true e t = grind (arith, nat_tests)
        same-of false e t = absurd (false-true t)

    message-moves : (from : ℕ) (m : Message) → is_proper sites s from m ≡ true → EnvelopeFits Now q v (record { from = from; to = s; message = m }) → StepMoves Now Now sites s q v (on_message sites s from m site)
    message-moves from (Of page note) p f = note-moves Now sites s q v site h l page held small from note (proper-manager sites s page note p) f
    message-moves from (Call number op) p f = quiet-step _ (call-quiet sites s from number op site)
    message-moves from (Replies number reply) p f = quiet-step _ (reply-quiet number reply site)
    message-moves from (Purge id) p f = purge-moves id
    message-moves from (Purged id) p f = quiet-step _ (purged-quiet from id site)

    pub deliver-moves : (e : Envelope) → e.to ≡ s → EnvelopeFits Now q v e → StepMoves Now Now sites s q v (deliver sites s e site)
    deliver-moves e is f =
        cond_both (foreign sites s e) _ _ (StepMoves Now Now sites s q v) (λ x. still-moves Now sites s q v site h l (Refused foreign_message))
        (λ x. message-moves e.from e.message (was-proper (e.to == s) (nat_lt e.from sites) (is_proper sites s e.from e.message) x)
        (subst (λ t. EnvelopeFits Now q v (record { from = e.from; to = t; message = e.message })) is f))
      where
        was-proper : (a b c : Bool) → not ((a && b) && c) ≡ false → c ≡ true
        was-proper true true true x = refl
        was-proper true true false x = absurd (false-true (sym x))
        was-proper true false c x = absurd (false-true (sym x))
        was-proper false b c x = absurd (false-true (sym x))
