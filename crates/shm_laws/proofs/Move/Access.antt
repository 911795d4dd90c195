-- Loads and stores move a page: only a store that completes changes what is stored last.
use Rattle.std.proofs.Common.{◌≡◌, ◌≢◌, ℕ, ◌+◌, ◌*◌, ◌<◌, ◌⊎◌, inl, inr, Bool, true, false, ◌==◌, ◌&&◌, Option, Some, None, Result, Ok, Err, List, [], ◌∷◌, length, nat_lt, slice_index, slice_set, arith, refl, sym, ◌∙◌, ap, subst}
use Rattle.std.proofs.lemmas.Bool.{cases_eq, cond_both, cond-true, cond-false, false_from_ne_true}
use Rattle.std.proofs.lemmas.Bool.Decides.{nat_tests}
use Rattle.std.proofs.lemmas.List.{get_or-set_other, get_or-set_same, length-set}
use Rattle.shm_place.specs.declared.page_id.PageId.{PageId}
use Rattle.shm_place.specs.Limits.{page_bytes}
use Rattle.shm_place.specs.Offset.{index_of, rounded, within_of}
use Rattle.shm_place.specs.Page.{manager_of, same_page}
use Rattle.shm_model.specs.declared.answer.Answer.{Answer}
use Rattle.shm_model.specs.declared.answer.Answer.TheVariants.{Byte, Stored, Waiting, Refused}
use Rattle.shm_model.specs.declared.request_kind.Kind.{Kind}
use Rattle.shm_model.specs.declared.request_kind.Kind.TheVariants.{Read, Write}
use Rattle.shm_model.specs.Entry.{Entry, Nil, Copy, OwnRead, OwnWrite, Handed, Note, Ask, bytes, readable, seen, writable}
use Rattle.shm_model.specs.Basics.{at, at_page, greatest}
use Rattle.shm_model.specs.Refusal.{no_attachment, numbers_used_up, out_of_segment, read_only}
use Rattle.shm_model.specs.Message.{Of, Store}
use Rattle.shm_model.specs.Calls.{Attachment}
use Rattle.shm_model.specs.Site.{Site, Step, still}
use Rattle.shm_model.specs.Access.{Place, ask_for, asked, is_pending, load, load_if, place_in, right, right_through, store, store_at, store_if, stored_entry}
use Rattle.shm_model.specs.Memory.{last_store, segment_of}
use Rattle.shm_model.specs.World.{Done, Opening}
use Rattle.shm_laws.proofs.Page.View.{View, Holds, Fits, with_entry_at}
use Rattle.shm_laws.proofs.Page.Entry.{at-here, false-true}
use Rattle.shm_laws.proofs.Page.Own.{store-fits, store-holds}
use Rattle.shm_laws.proofs.Page.Moves.{EnvelopeFits, Local, StepMoves, moves-map, now_of, page-same, quiet-moves, same-page}

-- an Ask asks nothing of the page
pub ask-fits : (Now : List ℕ → Type 0) (q : PageId) (v : View) (p : PageId) (r from to : ℕ) (kind : Kind)
    → EnvelopeFits Now q v (record { from = from; to = to; message = Of p (Ask r kind) })
ask-fits Now q v p r from to kind = record { fits = λ note is. ask-note note (ask-is note is) }
  where
    ask-is : (note : Note) → Of p (Ask r kind) ≡ Of q note → Ask r kind ≡ note
    ask-is note is = cc

    ask-note : (note : Note) → Ask r kind ≡ note → Fits Now v from to note
    ask-note note is = subst (λ n. Fits Now v from to n) is tt

module _ (Now : List ℕ → Type 0) (sites s : ℕ) (q : PageId) (v : View) (site : Site) (h : Holds Now v) (l : Local sites s q site v) where
  pub still-moves : (answer : Answer) → StepMoves Now Now sites s q v (still answer site)
  still-moves answer = quiet-moves Now sites s q v site site [] h l refl refl refl tt

  pub ask-moves : (kind : Kind) (page : PageId) → StepMoves Now Now sites s q v (ask_for sites s kind page site)
  ask-moves kind page =
      cond_both (is_pending kind page site.pending) _ _ (StepMoves Now Now sites s q v) (λ e. still-moves Waiting)
      (λ e. cond_both (site.requests == greatest) _ _ (StepMoves Now Now sites s q v) (λ f. still-moves (Refused numbers_used_up))
      (λ f. quiet-moves Now sites s q v site (asked sites s kind page site).site (asked sites s kind page site).sent h l refl refl refl
      (ask-fits Now q v page (site.requests + 1) s (manager_of sites page) kind, tt)))

  load-moves-if : (r : Result Place ℕ) → StepMoves Now Now sites s q v (load_if sites s r site)
  load-moves-if (Err refusal) = still-moves (Refused refusal)
  load-moves-if (Ok place) =
      cond_both (readable (site.entries place.page)) _ _ (StepMoves Now Now sites s q v) (λ e. still-moves (Byte (slice_index (bytes (site.entries place.page)) place.within))) (λ e. ask-moves Read place.page)

  pub load-moves : (at offset : ℕ) → StepMoves Now Now sites s q v (load sites s at offset site)
  load-moves at offset = load-moves-if (right site.attachments at offset false)

own-write : (e : Entry) → writable e ≡ true → e ≡ OwnWrite (seen e) (bytes e)
own-write (Nil m) w = absurd (false-true w)
own-write (Copy m b) w = absurd (false-true w)
own-write (OwnRead m b) w = absurd (false-true w)
own-write (OwnWrite m b) w = refl
own-write (Handed m to b) w = absurd (false-true w)

-- an offset is that of one page, at one place within it
pub offset-parts : (offset : ℕ) → offset ≡ index_of offset * page_bytes + within_of offset
offset-parts offset = omega arith

offset-index : (offset index k : ℕ) → offset ≡ index * page_bytes + k → k < page_bytes → index_of offset ≡ index
offset-index offset index k e l = omega arith

-- a store by a site changes the last store of one byte of one page
module _ (o : Opening) (account : List Done) (s a offset byte : ℕ) (q : PageId) where
  abbrev done : Answer → Done
  done answer = record { site = s; input = Some (Store a offset byte); answer = answer }

  named-here : (id k : ℕ) → segment_of o account s a ≡ Some id → id ≡ q.seg → offset ≡ q.index * page_bytes + k
      → last_store o (done Stored ∷ account) q.seg (q.index * page_bytes + k) ≡ byte
  named-here id k n e f = rw n (cond-true ((id == q.seg) && (offset == (q.index * page_bytes + k))) byte _ (grind (arith, nat_tests)))

  named-there : (id k : ℕ) → segment_of o account s a ≡ Some id → (id ≡ q.seg → offset ≡ q.index * page_bytes + k → ⊥)
      → last_store o (done Stored ∷ account) q.seg (q.index * page_bytes + k) ≡ last_store o account q.seg (q.index * page_bytes + k)
  named-there id k n apart = rw n (cond-false ((id == q.seg) && (offset == (q.index * page_bytes + k))) byte _ (grind (arith, nat_tests)))

module _ (o : Opening) (account : List Done) (sites s a offset byte : ℕ) (q : PageId) (v : View) (site : Site)
    (h : Holds (now_of o q account) v) (l : Local sites s q site v) (t : Attachment) (n : segment_of o account s a ≡ Some t.id) where
  abbrev After : Answer → List ℕ → Type 0
  After answer = now_of o q (record { site = s; input = Some (Store a offset byte); answer = answer } ∷ account)

  abbrev Goal : Step → Type 0
  Goal st = StepMoves (now_of o q account) (now_of o q (record { site = s; input = Some (Store a offset byte); answer = st.answer } ∷ account)) sites s q v st

  abbrev page : PageId
  page = record { seg = t.id; index = index_of offset }

  abbrev stored : List ℕ → List ℕ
  stored b = slice_set b (within_of offset) byte

  stored-byte : (b : List ℕ) (k : ℕ) → length b ≡ page_bytes → k < page_bytes → (k ≡ within_of offset) ⊎ (k ≢ within_of offset) → page ≡ q
      → slice_index b k ≡ last_store o account q.seg (q.index * page_bytes + k)
      → slice_index (stored b) k ≡ last_store o (record { site = s; input = Some (Store a offset byte); answer = Stored } ∷ account) q.seg (q.index * page_bytes + k)
  stored-byte b k whole low (inl e) is last =
      let seg : t.id ≡ q.seg = ap (λ (p : PageId). p.seg) is in
      let index : index_of offset ≡ q.index = ap (λ (p : PageId). p.index) is in
      let place : offset ≡ q.index * page_bytes + k = subst (λ i. offset ≡ i * page_bytes + k) index (subst (λ w. offset ≡ index_of offset * page_bytes + w) (sym e) (offset-parts offset)) in
      let here : slice_index (stored b) (within_of offset) ≡ byte = get_or-set_same b (within_of offset) byte 0 (omega arith) in
      subst (λ w. slice_index (stored b) w ≡ byte) (sym e) here ∙ sym (named-here o account s a offset byte q t.id k n seg place)
  stored-byte b k whole low (inr e) is last =
      get_or-set_other b (within_of offset) k byte 0 e ∙ last ∙ sym (named-there o account s a offset byte q t.id k n (apart k low e is))
    where
      within-is : (offset index k : ℕ) → offset ≡ index * page_bytes + k → k < page_bytes → k ≡ within_of offset
      within-is offset index k e l = omega arith

      apart : (k : ℕ) → k < page_bytes → k ≢ within_of offset → page ≡ q → t.id ≡ q.seg → offset ≡ q.index * page_bytes + k → ⊥
      apart k low other is seg e = other (within-is offset q.index k e low)

  stored-last : (b : List ℕ) → page ≡ q → now_of o q account b → After Stored (stored b)
  stored-last b is now = record {
    whole = length-set b (within_of offset) byte ∙ now.whole;
    byte = λ k low. stored-byte b k now.whole low (cases_eq k (within_of offset)) is (now.byte k low);
  }

  -- the page that is stored to
  here-moves : page ≡ q → writable (site.entries page) ≡ true
      → Goal (still Stored (record site { entries = at_page site.entries page (stored_entry (within_of offset) byte (site.entries page)) }))
  here-moves is w =
      let wq : writable (site.entries q) ≡ true = subst (λ p. writable (site.entries p) ≡ true) is w in
      let open_here : site.purged q.seg ≡ false = false_from_ne_true _ (λ p. false-true (sym (ap writable (l.gone p)) ∙ wq)) in
      let e : Entry = site.entries q in
      let b : List ℕ = bytes (site.entries q) in
      let is_own : v.entries s ≡ OwnWrite (seen (site.entries q)) b = l.entry open_here ∙ own-write (site.entries q) wq in
      let now : now_of o q account b = subst (λ x. now_of o q account (bytes x)) (l.entry open_here) (h.now s (ap readable is_own)) in
      let next : After Stored (stored b) = stored-last b is now in
      record {
        view = with_entry_at v s (OwnWrite (seen (site.entries q)) (stored b));
        local = record {
          entry = λ p. at-here v.entries s (OwnWrite (seen (site.entries q)) (stored b)) ∙ sym (entry-here is wq);
          gone = λ p. absurd (false-true (sym open_here ∙ p));
          book = l.book;
          elsewhere = l.elsewhere;
          closed = l.closed;
        };
        others = λ x other. other-entry v x (OwnWrite (seen (site.entries q)) (stored b)) other;
        book_stays = λ m. refl;
        holds = store-holds (now_of o q account) (After Stored) v h (seen (site.entries q)) s b (stored b) is_own next;
        fits = store-fits (now_of o q account) (After Stored) v h (seen (site.entries q)) s b (stored b) is_own next;
        new = tt;
      }
    where
      other-entry : (v : View) (x : ℕ) (e : Entry) → x ≢ s → at v.entries s e x ≡ v.entries x
      other-entry v x e other = grind (arith, nat_tests)

      stored-own : (e : Entry) → writable e ≡ true → stored_entry (within_of offset) byte e ≡ OwnWrite (seen e) (slice_set (bytes e) (within_of offset) byte)
      stored-own (Nil m) w = absurd (false-true w)
      stored-own (Copy m b) w = absurd (false-true w)
      stored-own (OwnRead m b) w = absurd (false-true w)
      stored-own (OwnWrite m b) w = refl
      stored-own (Handed m to b) w = absurd (false-true w)

      entry-here : page ≡ q → writable (site.entries q) ≡ true → at_page site.entries page (stored_entry (within_of offset) byte (site.entries page)) q ≡ OwnWrite (seen (site.entries q)) (stored (bytes (site.entries q)))
      entry-here is wq = subst (λ p. at_page site.entries p (stored_entry (within_of offset) byte (site.entries p)) q ≡ OwnWrite (seen (site.entries q)) (stored (bytes (site.entries q)))) (sym is)
          (cond-true (same_page q q) _ _ (same-page q) ∙ stored-own (site.entries q) wq)

  -- another page
  there-moves : same_page page q ≡ false
      → Goal (still Stored (record site { entries = at_page site.entries page (stored_entry (within_of offset) byte (site.entries page)) }))
  there-moves other =
      moves-map (now_of o q account) (After Stored) sites s q v (record site { entries = at_page site.entries page (stored_entry (within_of offset) byte (site.entries page)) }) [] kept
      (quiet-moves (now_of o q account) sites s q v site (record site { entries = at_page site.entries page (stored_entry (within_of offset) byte (site.entries page)) }) [] h l
      (cond-false (same_page page q) _ _ other) refl refl tt)
    where
      kept : (b : List ℕ) → now_of o q account b → After Stored b
      kept b now = record { whole = now.whole; byte = λ k low. now.byte k low ∙ sym (named-there o account s a offset byte q t.id k n (apart k low)) }
        where
          same-parts : t.id ≡ q.seg → index_of offset ≡ q.index → same_page page q ≡ true
          same-parts seg index = grind (arith, nat_tests)

          apart : (k : ℕ) → k < page_bytes → t.id ≡ q.seg → offset ≡ q.index * page_bytes + k → ⊥
          apart k low seg e = false-true (sym other ∙ same-parts seg (offset-index offset q.index k e low))

  stored-moves : (same : Bool) → same_page page q ≡ same → writable (site.entries page) ≡ true
      → Goal (still Stored (record site { entries = at_page site.entries page (stored_entry (within_of offset) byte (site.entries page)) }))
  stored-moves true e w = here-moves (page-same page q e) w
  stored-moves false e w = there-moves e

module _ (o : Opening) (account : List Done) (sites s a offset byte : ℕ) (q : PageId) (v : View) (site : Site)
    (h : Holds (now_of o q account) v) (l : Local sites s q site v) (naming : (t : Attachment) → site.attachments a ≡ Some t → segment_of o account s a ≡ Some t.id) where
  abbrev StoreGoal : Step → Type 0
  StoreGoal st = StepMoves (now_of o q account) (now_of o q (record { site = s; input = Some (Store a offset byte); answer = st.answer } ∷ account)) sites s q v st

  ask-goal : (page : PageId) → StoreGoal (ask_for sites s Write page site)
  ask-goal page =
      cond_both (is_pending Write page site.pending) _ _ StoreGoal (λ e. still-moves (now_of o q account) sites s q v site h l Waiting)
      (λ e. cond_both (site.requests == greatest) _ _ StoreGoal (λ f. still-moves (now_of o q account) sites s q v site h l (Refused numbers_used_up))
      (λ f. quiet-moves (now_of o q account) sites s q v site (asked sites s Write page site).site (asked sites s Write page site).sent h l refl refl refl
      (ask-fits (now_of o q account) q v page (site.requests + 1) s (manager_of sites page) Write, tt)))

  place-goal : (t : Attachment) → site.attachments a ≡ Some t → StoreGoal (store_at sites s (place_in t offset) byte site)
  place-goal t e =
      cond_both (writable (site.entries (place_in t offset).page)) _ _ StoreGoal
      (λ w. stored-moves o account sites s a offset byte q v site h l t (naming t e) (same_page (place_in t offset).page q) refl w)
      (λ w. ask-goal (place_in t offset).page)

  store-goal : (found : Option Attachment) → site.attachments a ≡ found → StoreGoal (store_if sites s (right_through found offset true) byte site)
  store-goal None e = still-moves (now_of o q account) sites s q v site h l (Refused no_attachment)
  store-goal (Some t) e =
      cond_both t.ro _ _ (λ r. StoreGoal (store_if sites s r byte site)) (λ r. still-moves (now_of o q account) sites s q v site h l (Refused read_only))
      (λ r. cond_both (nat_lt offset (rounded t.size)) _ _ (λ r. StoreGoal (store_if sites s r byte site)) (λ k. place-goal t e)
      (λ k. still-moves (now_of o q account) sites s q v site h l (Refused out_of_segment)))

  pub store-moves : StoreGoal (store sites s a offset byte site)
  store-moves = store-goal (site.attachments a) refl
