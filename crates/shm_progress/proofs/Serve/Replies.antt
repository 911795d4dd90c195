-- A reply that is on its way to an outstanding call counts: it has the call's form, and what it attaches to was not purged.
use Rattle.std.proofs.Common.{◌≡◌, ℕ, ◌+◌, ◌*◌, ◌<◌, ◌≤◌, Bool, true, false, ◌==◌, ◌&&◌, ◌||◌, not, if◌then◌else◌, List, [], ◌∷◌, Option, Some, None, nat_lt, nat_le, slice_get, arith, refl, sym, ◌∙◌, ap, subst, Contains}
use Rattle.std.proofs.lemmas.Bool.{and_from, cond_both, eq-eqb, false_from_ne_true, le-leb, not_from_false}
use Rattle.std.proofs.lemmas.Option.{get_or_from_slice_get, slice_get-get_or}
use Rattle.shm_place.specs.Limits.{max_segment_bytes, page_bytes}
use Rattle.shm_model.specs.declared.call.Cred.{Cred}
use Rattle.shm_model.specs.declared.call.Errno.{Errno}
use Rattle.shm_model.specs.declared.call.Errno.TheVariants.{Eidrm, Einval}
use Rattle.shm_model.specs.declared.call.Attached.{Attached}
use Rattle.shm_model.specs.declared.call.Op.{Op}
use Rattle.shm_model.specs.declared.call.Op.TheVariants.{Get, Attach, Detach, Remove, Set, Stat}
use Rattle.shm_model.specs.declared.call.Reply.{Reply}
use Rattle.shm_model.specs.declared.call.Reply.TheVariants.{Attached as AttachedReply, Refused}
use Rattle.shm_model.specs.declared.event.Event.{Event}
use Rattle.shm_model.specs.Basics.{greatest}
use Rattle.shm_model.specs.Permission.{Segment, destroyed, has_creat, has_excl, is_owner, may_attach, may_get, may_stat}
use Rattle.shm_model.specs.Kernel.{Called, call, get_found, live_at, made_at, make, max_live, on_live, with_id, with_key}
use Rattle.shm_place.specs.Limits.{segments_of_a_home}
use Rattle.shm_model.specs.Calls.{Outstanding, fits, is_size, op_home}
use Rattle.shm_model.specs.Message.{Call, Envelope, Replies}
use Rattle.shm_model.specs.SegmentCalls.{call_envelope}
use Rattle.shm_model.specs.Site.{Site}
use Rattle.shm_model.specs.History.{Numbered, attaching, called_on, calls_of, detaching, has_replied, held, is_attach, is_attached, is_call, kernel, naming, reply_to}
use Rattle.shm_model.specs.World.{IsOpening, Opening, New, Preset, Framed, Run, opened_site, run, sites_of}
use Rattle.shm_laws.proofs.Kernel.Held.{held-alive}
use Rattle.shm_laws.proofs.Kernel.Lists.{every-contains, found-holds}
use Rattle.shm_laws.proofs.Call.Invariant.{awaits, is-call-same, kept_number}
use Rattle.shm_laws.proofs.Call.Run.{desks}
use Rattle.shm_laws.proofs.Call.Opened.{CountedBy}
use Rattle.shm_laws.proofs.Call.Counted.{run-counted}
use Rattle.shm_laws.proofs.Call.Purged.{purged-dead}
use Rattle.shm_progress.proofs.Ending.Sums.{count-less}
use Rattle.shm_progress.proofs.Purge.Tables.{Sized, call-sized}
use Rattle.shm_progress.proofs.Purge.Answers.{contains-later}

refused-fits : (op : Op) (e : Errno) → fits op (Refused e) ≡ true
refused-fits (Get cred key size mode flags) e = refl
refused-fits (Attach cred id ro) e = refl
refused-fits (Detach id) e = refl
refused-fits (Remove cred id) e = refl
refused-fits (Set cred id uid gid mode) e = refl
refused-fits (Stat cred id) e = refl

module _ (sites home : ℕ) (segments : List Segment) (all : Sized segments) where
  abbrev Fit : Op → Called → Type 0
  Fit op c = fits op c.reply ≡ true

  live-fits : (op : Op) (found : Option Segment) (f : Segment → Called) → ((g : Segment) → found ≡ Some g → Fit op (f g)) → Fit op (on_live found f segments)
  live-fits op None f each = refused-fits op Einval
  live-fits op (Some g) f each = cond_both (destroyed g) _ _ (Fit op) (λ e. refused-fits op Eidrm) (λ e. each g refl)

  call-fits : (op : Op) → Fit op (call sites home op segments)
  call-fits (Get cred key size mode flags) = cond_both (key == 0) _ _ Gets (λ e. make-fits) (λ e. found-fits (with_key key segments))
    where
      Gets : Called → Type 0
      Gets c = fits (Get cred key size mode flags) c.reply ≡ true

      make-fits : fits (Get cred key size mode flags) (make sites home cred key size mode segments).reply ≡ true
      make-fits =
          cond_both ((size == 0) || nat_lt max_segment_bytes size) _ _ Gets (λ e. refl)
          (λ e. cond_both (nat_le max_live (live_at sites home segments) || nat_le segments_of_a_home (made_at sites home segments)) _ _ Gets (λ f. refl) (λ f. refl))

      absent-fits : fits (Get cred key size mode flags) (get_found None sites home cred key size mode flags.0 segments).reply ≡ true
      absent-fits =
          cond_both (has_creat flags.0) _ _ Gets
          (λ h. cond_both ((size == 0) || nat_lt max_segment_bytes size) _ _ Gets (λ e. refl)
          (λ e. cond_both (nat_le max_live (live_at sites home segments) || nat_le segments_of_a_home (made_at sites home segments)) _ _ Gets (λ f. refl) (λ f. refl))) (λ h. refl)

      found-fits : (found : Option Segment) → fits (Get cred key size mode flags) (get_found found sites home cred key size mode flags.0 segments).reply ≡ true
      found-fits None = absent-fits
      found-fits (Some g) =
          cond_both (has_creat flags.0 && has_excl flags.0) _ _ Gets (λ e. refl)
          (λ e. cond_both (nat_lt g.size size) _ _ Gets (λ f. refl) (λ f. cond_both (may_get cred mode g) _ _ Gets (λ h. refl) (λ h. refl)))
  call-fits (Attach cred id ro) =
      live-fits (Attach cred id ro) (with_id id segments) _
      (λ g found. cond_both (not (may_attach cred ro g)) _ _ (Fit (Attach cred id ro)) (λ e. refl)
      (λ e. cond_both (g.nattch == greatest) _ _ (Fit (Attach cred id ro)) (λ f. refl) (λ f. found-holds (λ (x : Segment). is_size x.size ≡ true) (λ x. id == x.id) segments g all found)))
  call-fits (Detach id) = live-fits (Detach id) (with_id id segments) _ (λ g found. cond_both (g.nattch == 0) _ _ (Fit (Detach id)) (λ e. refl) (λ e. refl))
  call-fits (Remove cred id) = live-fits (Remove cred id) (with_id id segments) _ (λ g found. cond_both (not (is_owner cred g)) _ _ (Fit (Remove cred id)) (λ e. refl) (λ e. refl))
  call-fits (Set cred id uid gid mode) =
      live-fits (Set cred id uid gid mode) (with_id id segments) _ (λ g found. cond_both (not (is_owner cred g)) _ _ (Fit (Set cred id uid gid mode)) (λ e. refl) (λ e. refl))
  call-fits (Stat cred id) = live-fits (Stat cred id) (with_id id segments) _ (λ g found. cond_both (not (may_stat cred g)) _ _ (Fit (Stat cred id)) (λ e. refl) (λ e. refl))

-- all segments ever made have a size that a segment can have
preset-sized : (pages : ℕ) → 1 ≤ pages → pages ≤ 256 → is_size (page_bytes * pages) ≡ true
preset-sized pages some few = and_from (nat_le 1 (page_bytes * pages)) (nat_le (page_bytes * pages) max_segment_bytes) (le-leb 1 (page_bytes * pages) (omega arith)) (le-leb (page_bytes * pages) max_segment_bytes (omega arith))

kernel-sized : (o : Opening) → IsOpening o → (calls : List Numbered) → Sized (kernel o calls)
kernel-sized (New n) is [] = tt
kernel-sized (Preset n pages) is [] = (preset-sized pages is.2 is.3, tt)
kernel-sized (Framed n pages frames) is [] = (preset-sized pages is.2 is.3, tt)
kernel-sized o is (c ∷ cs) = call-sized (sites_of o) (op_home (sites_of o) c.site c.op) (kernel o cs) (kernel-sized o is cs) c.op

-- a reply is that of a call that was handed over, and has its form
pub record RepliedAs (calls : List Numbered) (s n : ℕ) (reply : Reply) : Type 0 where
  pub call : Numbered
  pub listed : Contains calls call
  pub site : call.site ≡ s
  pub number : call.number ≡ n
  pub form : fits call.op reply ≡ true

pub replied-as : (o : Opening) → IsOpening o → (calls : List Numbered) (s n : ℕ) (reply : Reply) → reply_to o calls s n ≡ Some reply → RepliedAs calls s n reply
replied-as o is [] s n reply h = cc
replied-as o is (c ∷ cs) s n reply h = by-test (λ e. replied-as o is cs s n reply e) (is_call s n c) refl h
  where
    some-same : (x y : Reply) → Some x ≡ Some y → x ≡ y
    some-same x y e = cc

    by-test : (reply_to o cs s n ≡ Some reply → RepliedAs cs s n reply) → (b : Bool) → is_call s n c ≡ b
        → (if b then Some (called_on o c (kernel o cs)).reply else reply_to o cs s n) ≡ Some reply → RepliedAs (c ∷ cs) s n reply
    by-test rest true is_it e =
        let parts = is-call-same s n c is_it in
        record {
          call = c;
          listed = (0, omega arith, refl);
          site = parts.0;
          number = parts.1;
          form = subst (λ x. fits c.op x ≡ true) (some-same (called_on o c (kernel o cs)).reply reply e)
              (call-fits (sites_of o) (op_home (sites_of o) c.site c.op) (kernel o cs) (kernel-sized o is cs) c.op);
        }
    by-test rest false other e =
        let r = rest e in record { call = r.call; listed = contains-later c r.call cs r.listed; site = r.site; number = r.number; form = r.form }

-- what makes the reply to an outstanding call count
pub record Counts (x : Site) (c : Outstanding) (reply : Reply) : Type 0 where
  pub form : fits c.op reply ≡ true
  pub unpurged : (cred : Cred) (id : ℕ) (ro : Bool) (a : Attached) → c.op ≡ Attach cred id ro → reply ≡ AttachedReply a → x.purged id ≡ false

all-three : (a b c : Bool) → a ≡ true → b ≡ true → c ≡ true → (a && b && c) ≡ true
all-three true true true p q r = refl
all-three true true false p q r = cc
all-three true false c p q r = cc
all-three false b c p q r = cc

same-segment : (found : Option Segment) (g x : Segment) → found ≡ Some g → found ≡ Some x → g ≡ x
same-segment found g x p q = cc

module _ (o : Opening) (opening : IsOpening o) (events : List Event) (s : ℕ) (x : Site) (found : slice_get (run o events).world.sites s ≡ Some x) (c : Outstanding) (is : x.outstanding ≡ Some c) where
  abbrev r : Run
  r = run o events

  abbrev calls : List Numbered
  calls = calls_of r.account

  counted : CountedBy o (desks o r.world.sites) r.world.sent r.account
  counted = run-counted o opening events

  awaiting : (desks o r.world.sites s).outstanding ≡ awaits c.number c.op
  awaiting = ap (λ (z : Site). z.outstanding) (get_or_from_slice_get r.world.sites s x (opened_site o s) found) ∙ is

  module _ (reply : Reply) (replied : reply_to o calls s c.number ≡ Some reply) where
    told : RepliedAs calls s c.number reply
    told = replied-as o opening calls s c.number reply replied

    same-op : told.call.op ≡ c.op
    same-op =
        counted.once.one (call_envelope (sites_of o) told.call.site told.call.number told.call.op) (call_envelope (sites_of o) s c.number c.op) c.number told.call.op c.op
        (every-contains (λ (k : Numbered). Contains r.world.sent (call_envelope (sites_of o) k.site k.number k.op)) calls told.call counted.balance.entries told.listed)
        (counted.once.last s c.number c.op awaiting).1 told.site (ap (λ m. Call m told.call.op) told.number) refl

    module _ (cred : Cred) (id : ℕ) (ro : Bool) (a : Attached) (attaches : c.op ≡ Attach cred id ro) (gives : reply ≡ AttachedReply a) where
      passes : (is_attach told.call.op id && is_attached (reply_to o calls told.call.site told.call.number) && not (has_replied r.account told.call.site told.call.number)) ≡ true
      passes =
          all-three (is_attach told.call.op id) (is_attached (reply_to o calls told.call.site told.call.number)) (not (has_replied r.account told.call.site told.call.number))
          (ap (λ op. is_attach op id) (same-op ∙ attaches) ∙ eq-eqb id id refl)
          (ap is_attached (ap (λ t. reply_to o calls t told.call.number) told.site ∙ (ap (reply_to o calls s) told.number ∙ replied)) ∙ ap (λ y. is_attached (Some y)) gives)
          (not_from_false (has_replied r.account told.call.site told.call.number)
          (ap (λ t. has_replied r.account t told.call.number) told.site ∙ (ap (has_replied r.account s) told.number ∙ counted.named.unheard s c.number c.op awaiting)))

      some-attaching : 0 < attaching o r.account calls id
      some-attaching = by-place told.listed
        where
          by-place : Contains calls told.call → 0 < attaching o r.account calls id
          by-place (k, l, e) =
              let less = count-less (λ (y : Numbered). is_attach y.op id && is_attached (reply_to o calls y.site y.number) && not (has_replied r.account y.site y.number)) (λ y. false)
              calls k told.call (slice_get-get_or calls k told.call l ∙ ap Some e) (λ y h. cc) passes refl in
              omega (arith, less)

      some-held : 0 < held o r.account id
      some-held = more (naming o r.account id) (attaching o r.account calls id) (detaching o calls r.account id) some-attaching
        where
          more : (n m k : ℕ) → 0 < m → 0 < n + (m + k)
          more n m k h = omega arith

      not-purged : x.purged id ≡ false
      not-purged =
          false_from_ne_true _ (λ gone.
          let dead = (purged-dead o opening events).dead s id x found gone in
          let stands = held-alive (held o r.account) (kernel o calls) id counted.balance.balanced some-held in
          let one : stands.0 ≡ dead.0 = same-segment (with_id id (kernel o calls)) stands.0 dead.0 stands.1 dead.1 in
          let alive = stands.2 in let over = dead.2 in cc (ap destroyed one))

    pub replied-counts : Counts x c reply
    replied-counts = record { form = subst (λ op. fits op reply ≡ true) same-op told.form; unpurged = not-purged }

  pub reply-counts : (e : Envelope) (reply : Reply) → Contains r.world.sent e → e.to ≡ s → e.message ≡ Replies c.number reply → Counts x c reply
  reply-counts e reply sent to says = replied-counts reply (ap (λ t. reply_to o calls t c.number) (sym to) ∙ counted.once.replies e c.number reply sent says)

  -- its number is no less than any home has kept of the site
  pub kept-below : (h : ℕ) (y : Site) → slice_get r.world.sites h ≡ Some y → kept_number (y.kept s) ≤ c.number
  kept-below h y at =
      let bound = counted.once.bound h s in
      let last = (counted.once.last s c.number c.op awaiting).0 in
      let same : kept_number ((desks o r.world.sites h).kept s) ≡ kept_number (y.kept s) = ap (λ (z : Site). kept_number (z.kept s)) (get_or_from_slice_get r.world.sites h y (opened_site o h) at) in
      omega (arith, bound, last, same)

  pub some-number : 0 < c.number
  some-number = (counted.once.call (call_envelope (sites_of o) s c.number c.op) c.number c.op (counted.once.last s c.number c.op awaiting).1 refl).least
