-- Notes move a page: a row of its entry or of its book, and a copy that is given up for it.
use Rattle.std.proofs.Common.{◌≡◌, ◌≢◌, ℕ, Bool, true, false, Option, Some, None, List, [], ◌∷◌, length, nat_lt, arith, refl, sym, ◌∙◌, ap, subst}
use Rattle.std.proofs.lemmas.Bool.{cond_both, cond-true, cond-false, false_from_ne_true}
use Rattle.std.proofs.lemmas.Bool.Decides.{nat_tests}
use Rattle.shm_place.specs.declared.page_id.PageId.{PageId}
use Rattle.shm_place.specs.Page.{manager_of, same_page}
use Rattle.shm_model.specs.declared.answer.Answer.TheVariants.{Dropped}
use Rattle.shm_model.specs.Entry.{Entry, Nil, Copy, OwnRead, OwnWrite, Handed, Note, Out, Nothing, ToManager, ToSite, forget, is_copy, owned, readable, seen, writable}
use Rattle.shm_model.specs.Basics.{at, at_page}
use Rattle.shm_model.specs.Message.{Envelope, Of}
use Rattle.shm_model.specs.Site.{Frames, Site}
use Rattle.shm_model.specs.Transfer.{arranged, drop_first, is_nothing, limited, sent_by, settle, to_entry, with_entry}
use Rattle.shm_laws.proofs.Page.View.{View, Holds, Fits, with_entry_at}
use Rattle.shm_laws.proofs.Page.Entry.{at-here, false-true}
use Rattle.shm_laws.proofs.Page.Orders.{Each}
use Rattle.shm_laws.proofs.Page.Own.{forget-fits, forget-holds}
use Rattle.shm_laws.proofs.Page.Rows.{OutFits, RowFits, row_taken}
use Rattle.shm_laws.proofs.Page.Moves.{EnvelopeFits, Local, Moves, StepMoves, page-same, quiet-moves, same-page, then-moves}
use Rattle.shm_laws.proofs.Move.Access.{still-moves}
use Rattle.shm_laws.proofs.Frame.Held.{CopiesHeld, FramesHeld, arranged-held}

copy-unowned : (e : Entry) → is_copy e ≡ true → owned e ≡ false
copy-unowned (Nil m) c = absurd (false-true c)
copy-unowned (Copy m b) c = refl
copy-unowned (OwnRead m b) c = absurd (false-true c)
copy-unowned (OwnWrite m b) c = absurd (false-true c)
copy-unowned (Handed m to b) c = absurd (false-true c)

other-entry : (v : View) (s x : ℕ) (e : Entry) → x ≢ s → at v.entries s e x ≡ v.entries x
other-entry v s x e other = grind (arith, nat_tests)

pub at-page-here : {X : Type 0} (f : PageId → X) (p : PageId) (x : X) → at_page f p x p ≡ x
at-page-here f p x = cond-true (same_page p p) x (f p) (same-page p)

-- a note of a page is about that page alone
pub about : (p q : PageId) (note other : Note) → Of p note ≡ Of q other → p ≡ q
about p q note other e = cc

pub same-note : (p q : PageId) (note other : Note) → Of p note ≡ Of q other → note ≡ other
same-note p q note other e = cc

pub apart-fits : (Now : List ℕ → Type 0) (p q : PageId) (v : View) (from to : ℕ) (note : Note) → same_page p q ≡ false → EnvelopeFits Now q v (record { from = from; to = to; message = Of p note })
apart-fits Now p q v from to note apart = record { fits = λ other is. absurd (false-true (sym apart ∙ (subst (λ x. same_page p x ≡ true) (about p q note other is) (same-page p)))) }

pub note-fits : (Now : List ℕ → Type 0) (p q : PageId) (v : View) (from to : ℕ) (note : Note) → Fits Now v from to note → EnvelopeFits Now q v (record { from = from; to = to; message = Of p note })
note-fits Now p q v from to note f = record { fits = λ other is. subst (λ n. Fits Now v from to n) (same-note p q note other is) f }

module _ (Now : List ℕ → Type 0) (sites s : ℕ) (q : PageId) (v : View) (site : Site) (h : Holds Now v) (l : Local sites s q site v) where
  -- the first copy is given up
  forget-here : (first : PageId) (rest : List PageId) (f : Frames) → first ≡ q → is_copy (site.entries first) ≡ true → Moves Now Now sites s q v (drop_first (first ∷ rest) f site) []
  forget-here first rest f is copy =
      let copy_q : is_copy (site.entries q) ≡ true = subst (λ p. is_copy (site.entries p) ≡ true) is copy in
      let open_here : site.purged q.seg ≡ false = false_from_ne_true _ (λ p. false-true (sym (ap is_copy (l.gone p)) ∙ copy_q)) in
      let same : v.entries s ≡ site.entries q = l.entry open_here in
      let copy_v : is_copy (v.entries s) ≡ true = ap is_copy same ∙ copy_q in
      record {
        view = with_entry_at v s (Nil (seen (v.entries s)));
        local = record {
          entry = λ p. at-here v.entries s (Nil (seen (v.entries s))) ∙ (ap (λ e. Nil (seen e)) same ∙ sym (forgot first is));
          gone = λ p. absurd (false-true (sym open_here ∙ p));
          book = l.book;
          elsewhere = l.elsewhere;
          closed = l.closed;
        };
        others = λ x other. other-entry v s x (Nil (seen (v.entries s))) other;
        book_stays = λ m. refl;
        holds = forget-holds Now v h s copy_v (copy-unowned (v.entries s) copy_v);
        fits = forget-fits Now v h s copy_v (copy-unowned (v.entries s) copy_v);
        new = tt;
      }
    where
      forgot : (first : PageId) → first ≡ q → at_page site.entries first (forget (site.entries first)) q ≡ Nil (seen (site.entries q))
      forgot first is = subst (λ p. at_page site.entries p (forget (site.entries p)) q ≡ Nil (seen (site.entries q))) (sym is) (at-page-here site.entries q (forget (site.entries q)))

  forget-moves : (first : PageId) (rest : List PageId) (f : Frames) (same : Bool) → same_page first q ≡ same → is_copy (site.entries first) ≡ true
      → Moves Now Now sites s q v (drop_first (first ∷ rest) f site) []
  forget-moves first rest f true e copy = forget-here first rest f (page-same first q e) copy
  forget-moves first rest f false e copy =
      quiet-moves Now sites s q v site (drop_first (first ∷ rest) f site) [] h l (cond-false (same_page first q) _ _ e) refl refl tt

  drop-moves : (copies : List PageId) (f : Frames) → CopiesHeld site.entries copies → Moves Now Now sites s q v (drop_first copies f site) []
  drop-moves [] f c = quiet-moves Now sites s q v site site [] h l refl refl refl tt
  drop-moves (first ∷ rest) f c = forget-moves first rest f (same_page first q) refl c.held.0

  pub limited-moves : (frames : Option Frames) → FramesHeld site.entries frames → Moves Now Now sites s q v (limited frames site) []
  limited-moves None c = quiet-moves Now sites s q v site site [] h l refl refl refl tt
  limited-moves (Some f) c =
      cond_both (nat_lt f.limit (length f.copies)) (drop_first f.copies f site) site (λ x. Moves Now Now sites s q v x []) (λ e. drop-moves f.copies f c)
      (λ e. quiet-moves Now sites s q v site site [] h l refl refl refl tt)

-- a row of this page's entry, before a copy is given up for it
module _ (Now : List ℕ → Type 0) (sites s : ℕ) (q : PageId) (v : View) (site : Site) (h : Holds Now v) (l : Local sites s q site v) (held : FramesHeld site.entries site.frames)
    (page : PageId) where
  abbrev placed : Entry → Site
  placed e = record site { entries = at_page site.entries page e; frames = arranged page (site.entries page) e site.frames; pending = settle (readable e) (writable e) page site.pending }

  after-placed : (e : Entry) (sent : List Envelope) → Moves Now Now sites s q v (placed e) sent → Moves Now Now sites s q v (with_entry page e site) sent
  after-placed e sent m =
      then-moves Now Now sites s q v (placed e) (with_entry page e site) sent m
      (limited-moves Now sites s q m.view (placed e) m.holds m.local (arranged page (site.entries page) e site.frames) (arranged-held site.entries page e (site.entries page) site.frames held))

  sent-fits : (w : View) (e : Entry) (out : Out) → OutFits Now w s out → Each (EnvelopeFits Now q w) (sent_by sites s page out)
  sent-fits w e Nothing f = tt
  sent-fits w e (ToManager note) f = (note-fits Now page q w s (manager_of sites page) note (f (manager_of sites page)), tt)
  sent-fits w e (ToSite to note) f = (note-fits Now page q w s to note (out-from w to note f), tt)
    where
      out-from : (w : View) (to : ℕ) (note : Note) → Fits Now w s to note → Fits Now w s to note
      out-from w to note f = f

  sent-apart : (w : View) (out : Out) → same_page page q ≡ false → Each (EnvelopeFits Now q w) (sent_by sites s page out)
  sent-apart w Nothing a = tt
  sent-apart w (ToManager note) a = (apart-fits Now page q w s (manager_of sites page) note a, tt)
  sent-apart w (ToSite to note) a = (apart-fits Now page q w s to note a, tt)

  row-placed : (e : Entry) (out : Out) → page ≡ q → site.purged q.seg ≡ false → Holds Now (with_entry_at v s e)
      → ((from to : ℕ) (note : Note) → Fits Now v from to note → Fits Now (with_entry_at v s e) from to note) → OutFits Now (with_entry_at v s e) s out
      → Moves Now Now sites s q v (placed e) (sent_by sites s page out)
  row-placed e out is open_here holds fits f = record {
    view = with_entry_at v s e;
    local = record {
      entry = λ p. at-here v.entries s e ∙ sym (subst (λ p. at_page site.entries p e q ≡ e) (sym is) (at-page-here site.entries q e));
      gone = λ p. absurd (false-true (sym open_here ∙ p));
      book = l.book;
      elsewhere = l.elsewhere;
      closed = l.closed;
    };
    others = λ x other. other-entry v s x e other;
    book_stays = λ m. refl;
    holds = holds;
    fits = fits;
    new = sent-fits (with_entry_at v s e) e out f;
  }

  pub row-here : (row : Entry × Out) → page ≡ q → site.purged q.seg ≡ false → RowFits Now v s row → StepMoves Now Now sites s q v (to_entry sites s page row site)
  row-here (e, Nothing) is open_here r = still-moves Now sites s q v site h l Dropped
  row-here (e, ToManager note) is open_here (row_taken _ _ holds fits f) = after-placed e _ (row-placed e (ToManager note) is open_here holds fits f)
  row-here (e, ToSite to note) is open_here (row_taken _ _ holds fits f) = after-placed e _ (row-placed e (ToSite to note) is open_here holds fits f)

  apart-placed : (e : Entry) (out : Out) → same_page page q ≡ false → Moves Now Now sites s q v (placed e) (sent_by sites s page out)
  apart-placed e out a = quiet-moves Now sites s q v site (placed e) (sent_by sites s page out) h l (cond-false (same_page page q) _ _ a) refl refl (sent-apart v out a)

  pub row-apart : (row : Entry × Out) → same_page page q ≡ false → StepMoves Now Now sites s q v (to_entry sites s page row site)
  row-apart (e, out) a =
      cond_both (is_nothing out) _ _ (StepMoves Now Now sites s q v) (λ x. still-moves Now sites s q v site h l Dropped) (λ x. after-placed e (sent_by sites s page out) (apart-placed e out a))
