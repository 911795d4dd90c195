-- An access that waits for what was asked already waits on, whatever other accesses are tried.
use Rattle.std.proofs.Common.{◌≡◌, ℕ, ◌+◌, ◌==◌, ◌&&◌, ◌||◌, Bool, true, false, not, List, [], ◌∷◌, Some, Result, Ok, Err, cond, refl, ap, sym, ◌∙◌, arith}
use Rattle.std.proofs.lemmas.Bool.Decides.{nat_tests}
use Rattle.shm_place.specs.declared.page_id.PageId.{PageId}
use Rattle.shm_place.specs.Page.{same_page}
use Rattle.shm_model.specs.declared.answer.Answer.{Answer}
use Rattle.shm_model.specs.declared.answer.Answer.TheVariants.{Fault, Waiting, Refused}
use Rattle.shm_model.specs.declared.request_kind.Kind.{Kind}
use Rattle.shm_model.specs.declared.request_kind.Kind.TheVariants.{Read, Write}
use Rattle.shm_model.specs.Access.{Place, ask_for, asked, is_pending, load_at, load_if, pending_at, put_pending, right, serves, store_at, store_if, stored_entry}
use Rattle.shm_model.specs.Basics.{at_page, greatest}
use Rattle.shm_model.specs.Book.{is_write}
use Rattle.shm_model.specs.Entry.{Entry, Nil, Copy, OwnRead, OwnWrite, Handed, readable, writable}
use Rattle.shm_model.specs.Message.{Input, Load, Store, Begin, Deliver, Tick, Restart}
use Rattle.shm_model.specs.Refusal.{numbers_used_up}
use Rattle.shm_model.specs.Site.{Pending, Site, Step, still}
use Rattle.shm_model.specs.Step.{step}
use Rattle.shm_process.specs.Access.{is_access, is_waiting}

abbrev pub is_fault : Answer → Bool
is_fault Fault = true
is_fault _ = false

-- ---- what is pending stays so

same-as : (p q r : PageId) → same_page p q ≡ true → same_page r q ≡ same_page r p
same-as p q r h = grind (arith, nat_tests)

same-self : (p : PageId) → same_page p p ≡ true
same-self p = grind (arith, nat_tests)

-- a new Ask is made only where the one that is pending, if there is one, doesn't serve it: then it is one to write, and serves all
or-yes : (w : Bool) → (w || true) ≡ false → ⊥
or-yes true h = absurd (cc)
or-yes false h = absurd (cc)

serves-more : (kind new : Kind) (page : PageId) (request : ℕ) (p : Pending) → serves new (Some p) ≡ false
    → serves kind (Some (record { page = page; request = request; kind = new })) ≡ true
serves-more kind Write page request p n = refl
serves-more kind Read page request p n = absurd (or-yes (is_write p.kind) n)

module _ (new : Pending) (kind : Kind) (page : PageId) where
  -- the Ask of its page is put into its place
  put-here : (p : Pending) (ps : List Pending) (here : Bool) → same_page new.page p.page ≡ true → same_page page p.page ≡ here
      → serves new.kind (Some p) ≡ false → serves kind (cond here (Some p) (pending_at page ps)) ≡ true
      → serves kind (cond (same_page page new.page) (Some new) (pending_at page ps)) ≡ true
  put-here p ps true same is none served =
      ap (λ b. serves kind (cond b (Some new) (pending_at page ps))) (sym (same-as new.page p.page page same) ∙ is)
      ∙ serves-more kind new.kind new.page new.request p none
  put-here p ps false same is none served =
      ap (λ b. serves kind (cond b (Some new) (pending_at page ps))) (sym (same-as new.page p.page page same) ∙ is) ∙ served

  put-there : (p : Pending) (ps : List Pending) (here : Bool) → (is_pending kind page ps ≡ true → is_pending kind page (put_pending new ps) ≡ true)
      → serves kind (cond here (Some p) (pending_at page ps)) ≡ true → serves kind (cond here (Some p) (pending_at page (put_pending new ps))) ≡ true
  put-there p ps true more served = served
  put-there p ps false more served = more served

  put-case : (p : Pending) (ps : List Pending) (same : Bool) → same_page new.page p.page ≡ same
      → (is_pending new.kind new.page ps ≡ false → is_pending kind page ps ≡ true → is_pending kind page (put_pending new ps) ≡ true)
      → serves new.kind (cond same (Some p) (pending_at new.page ps)) ≡ false → is_pending kind page (p ∷ ps) ≡ true
      → is_pending kind page (cond same (new ∷ ps) (p ∷ put_pending new ps)) ≡ true
  put-case p ps true same more none served = put-here p ps (same_page page p.page) same refl none served
  put-case p ps false same more none served = put-there p ps (same_page page p.page) (more none) served

  pending-stays : (ps : List Pending) → is_pending new.kind new.page ps ≡ false → is_pending kind page ps ≡ true → is_pending kind page (put_pending new ps) ≡ true
  pending-stays [] none served = absurd (cc)
  pending-stays (p ∷ ps) none served = put-case p ps (same_page new.page p.page) refl (pending-stays ps) none served

-- and is pending then
own-served : (kind : Kind) (w : Bool) → is_write kind ≡ w → (w || not w) ≡ true
own-served kind true e = refl
own-served kind false e = refl

module _ (new : Pending) where
  serves-own : serves new.kind (Some new) ≡ true
  serves-own = own-served new.kind (is_write new.kind) refl

  own-here : (ps : List Pending) → serves new.kind (cond (same_page new.page new.page) (Some new) (pending_at new.page ps)) ≡ true
  own-here ps = ap (λ b. serves new.kind (cond b (Some new) (pending_at new.page ps))) (same-self new.page) ∙ serves-own

  own-case : (p : Pending) (ps : List Pending) (same : Bool) → same_page new.page p.page ≡ same → is_pending new.kind new.page (put_pending new ps) ≡ true
      → is_pending new.kind new.page (cond same (new ∷ ps) (p ∷ put_pending new ps)) ≡ true
  own-case p ps true same more = own-here ps
  own-case p ps false same more = ap (λ b. serves new.kind (cond b (Some p) (pending_at new.page (put_pending new ps)))) same ∙ more

  now-pending : (ps : List Pending) → is_pending new.kind new.page (put_pending new ps) ≡ true
  now-pending [] = own-here []
  now-pending (p ∷ ps) = own-case p ps (same_page new.page p.page) refl (now-pending ps)

-- ---- what an access leaves as it is

-- no right is gained or lost, and what is pending stays so
pub record Keeps (old new : Site) : Type 0 where
  pub attachments : new.attachments ≡ old.attachments
  pub reads : (page : PageId) → readable (new.entries page) ≡ readable (old.entries page)
  pub writes : (page : PageId) → writable (new.entries page) ≡ writable (old.entries page)
  pub pending : (kind : Kind) (page : PageId) → is_pending kind page old.pending ≡ true → is_pending kind page new.pending ≡ true

keeps-itself : (site : Site) → Keeps site site
keeps-itself site = record { attachments = refl; reads = λ page. refl; writes = λ page. refl; pending = λ kind page h. h }

ask-keeps : (sites me : ℕ) (kind : Kind) (page : PageId) (site : Site) (pending used : Bool) → is_pending kind page site.pending ≡ pending
    → Keeps site (cond pending (still Waiting site) (cond used (still (Refused numbers_used_up) site) (asked sites me kind page site))).site
ask-keeps sites me kind page site true used is = keeps-itself site
ask-keeps sites me kind page site false true is = keeps-itself site
ask-keeps sites me kind page site false false is = record {
  attachments = refl;
  reads = λ q. refl;
  writes = λ q. refl;
  pending = λ k q h. pending-stays (record { page = page; request = site.requests + 1; kind = kind }) k q site.pending is h;
}

stored-reads : (within byte : ℕ) (e : Entry) → readable (stored_entry within byte e) ≡ readable e
stored-reads within byte (Nil n) = refl
stored-reads within byte (Copy n b) = refl
stored-reads within byte (OwnRead n b) = refl
stored-reads within byte (OwnWrite n b) = refl
stored-reads within byte (Handed n to b) = refl

stored-writes : (within byte : ℕ) (e : Entry) → writable (stored_entry within byte e) ≡ writable e
stored-writes within byte (Nil n) = refl
stored-writes within byte (Copy n b) = refl
stored-writes within byte (OwnRead n b) = refl
stored-writes within byte (OwnWrite n b) = refl
stored-writes within byte (Handed n to b) = refl

page-is : (p q : PageId) → same_page p q ≡ true → p ≡ q
page-is p q h = grind (arith, nat_tests)

-- what a test of entries says of a page where one was stored into
at-stored : (t : Entry → Bool) (entries : PageId → Entry) (p q : PageId) (e : Entry) (same : Bool) → same_page p q ≡ same → t e ≡ t (entries p)
    → t (cond same e (entries q)) ≡ t (entries q)
at-stored t entries p q e true same is = is ∙ ap (λ r. t (entries r)) (page-is p q same)
at-stored t entries p q e false same is = refl

store-keeps : (p : Place) (byte : ℕ) (site : Site)
    → Keeps site (record site { entries = at_page site.entries p.page (stored_entry p.within byte (site.entries p.page)) })
store-keeps p byte site =
    let stored = stored_entry p.within byte (site.entries p.page) in
    record {
      attachments = refl;
      reads = λ q. at-stored readable site.entries p.page q stored (same_page p.page q) refl (stored-reads p.within byte (site.entries p.page));
      writes = λ q. at-stored writable site.entries p.page q stored (same_page p.page q) refl (stored-writes p.within byte (site.entries p.page));
      pending = λ kind q h. h;
    }

made-keeps : (here : Bool) (site : Site) (made other : Step) → Keeps site made.site → Keeps site other.site → Keeps site (cond here made other).site
made-keeps true site made other m o = m
made-keeps false site made other m o = o

load-keeps : (sites me : ℕ) (r : Result Place ℕ) (site : Site) → Keeps site (load_if sites me r site).site
load-keeps sites me (Err refusal) site = keeps-itself site
load-keeps sites me (Ok p) site =
    made-keeps (readable (site.entries p.page)) site _ (ask_for sites me Read p.page site) (keeps-itself site)
    (ask-keeps sites me Read p.page site (is_pending Read p.page site.pending) (site.requests == greatest) refl)

store_if-keeps : (sites me : ℕ) (r : Result Place ℕ) (byte : ℕ) (site : Site) → Keeps site (store_if sites me r byte site).site
store_if-keeps sites me (Err refusal) byte site = keeps-itself site
store_if-keeps sites me (Ok p) byte site =
    made-keeps (writable (site.entries p.page)) site _ (ask_for sites me Write p.page site) (store-keeps p byte site)
    (ask-keeps sites me Write p.page site (is_pending Write p.page site.pending) (site.requests == greatest) refl)

pub access_keeps : (sites me : ℕ) (site : Site) (a : Input) → is_access a ≡ true → Keeps site (step sites me site a).site
access_keeps sites me site (Load at offset) h = load-keeps sites me (right site.attachments at offset false) site
access_keeps sites me site (Store at offset byte) h = store_if-keeps sites me (right site.attachments at offset true) byte site
access_keeps sites me site (Begin request) h = absurd (cc)
access_keeps sites me site (Deliver e) h = absurd (cc)
access_keeps sites me site Tick h = absurd (cc)
access_keeps sites me site Restart h = absurd (cc)

-- ---- who waits

-- a step without the right waits exactly if its Ask is pending
ask-waits : (sites me : ℕ) (kind : Kind) (page : PageId) (site : Site) (pending used : Bool)
    → is_waiting (cond pending (still Waiting site) (cond used (still (Refused numbers_used_up) site) (asked sites me kind page site))).answer ≡ pending
ask-waits sites me kind page site true used = refl
ask-waits sites me kind page site false true = refl
ask-waits sites me kind page site false false = refl

made-waits : (here : Bool) (made other : Step) (pending : Bool) → is_waiting made.answer ≡ false → is_waiting other.answer ≡ pending
    → is_waiting (cond here made other).answer ≡ (not here && pending)
made-waits true made other pending m o = m
made-waits false made other pending m o = o

load-waits : (sites me : ℕ) (p : Place) (site : Site)
    → is_waiting (load_at sites me p site).answer ≡ (not (readable (site.entries p.page)) && is_pending Read p.page site.pending)
load-waits sites me p site =
    made-waits (readable (site.entries p.page)) _ (ask_for sites me Read p.page site) (is_pending Read p.page site.pending) refl
    (ask-waits sites me Read p.page site (is_pending Read p.page site.pending) (site.requests == greatest))

store-waits : (sites me : ℕ) (p : Place) (byte : ℕ) (site : Site)
    → is_waiting (store_at sites me p byte site).answer ≡ (not (writable (site.entries p.page)) && is_pending Write p.page site.pending)
store-waits sites me p byte site =
    made-waits (writable (site.entries p.page)) _ (ask_for sites me Write p.page site) (is_pending Write p.page site.pending) refl
    (ask-waits sites me Write p.page site (is_pending Write p.page site.pending) (site.requests == greatest))

still-both : (a b c d : Bool) → c ≡ a → (b ≡ true → d ≡ true) → (not a && b) ≡ true → (not c && d) ≡ true
still-both true b c d same more h = absurd (cc)
still-both false true c d same more h = ap (λ x. not x && d) same ∙ more refl
still-both false false c d same more h = absurd (cc)

load_if-lasts : (sites me : ℕ) (r : Result Place ℕ) (old new : Site) → Keeps old new
    → is_waiting (load_if sites me r old).answer ≡ true → is_waiting (load_if sites me r new).answer ≡ true
load_if-lasts sites me (Err refusal) old new k h = absurd (cc)
load_if-lasts sites me (Ok p) old new k h =
    load-waits sites me p new
    ∙ still-both (readable (old.entries p.page)) (is_pending Read p.page old.pending) (readable (new.entries p.page)) (is_pending Read p.page new.pending)
    (k.reads p.page) (k.pending Read p.page) (sym (load-waits sites me p old) ∙ h)

store_if-lasts : (sites me : ℕ) (r : Result Place ℕ) (byte : ℕ) (old new : Site) → Keeps old new
    → is_waiting (store_if sites me r byte old).answer ≡ true → is_waiting (store_if sites me r byte new).answer ≡ true
store_if-lasts sites me (Err refusal) byte old new k h = absurd (cc)
store_if-lasts sites me (Ok p) byte old new k h =
    store-waits sites me p byte new
    ∙ still-both (writable (old.entries p.page)) (is_pending Write p.page old.pending) (writable (new.entries p.page)) (is_pending Write p.page new.pending)
    (k.writes p.page) (k.pending Write p.page) (sym (store-waits sites me p byte old) ∙ h)

waiting-lasts : (sites me : ℕ) (old new : Site) (b : Input) → Keeps old new → is_access b ≡ true
    → is_waiting (step sites me old b).answer ≡ true → is_waiting (step sites me new b).answer ≡ true
waiting-lasts sites me old new (Load at offset) k access h =
    ap (λ a. is_waiting (load_if sites me (right a at offset false) new).answer) k.attachments
    ∙ load_if-lasts sites me (right old.attachments at offset false) old new k h
waiting-lasts sites me old new (Store at offset byte) k access h =
    ap (λ a. is_waiting (store_if sites me (right a at offset true) byte new).answer) k.attachments
    ∙ store_if-lasts sites me (right old.attachments at offset true) byte old new k h
waiting-lasts sites me old new (Begin request) k access h = absurd (cc)
waiting-lasts sites me old new (Deliver e) k access h = absurd (cc)
waiting-lasts sites me old new Tick k access h = absurd (cc)
waiting-lasts sites me old new Restart k access h = absurd (cc)

pub lasts : (sites me : ℕ) (site : Site) (a b : Input) → is_access a ≡ true → is_access b ≡ true → is_waiting (step sites me site b).answer ≡ true
    → is_waiting (step sites me (step sites me site a).site b).answer ≡ true
lasts sites me site a b access other h = waiting-lasts sites me site (step sites me site a).site b (access_keeps sites me site a access) other h

-- ---- who asks waits then

ask-pending : (sites me : ℕ) (kind : Kind) (page : PageId) (site : Site) (pending used : Bool)
    → is_fault (cond pending (still Waiting site) (cond used (still (Refused numbers_used_up) site) (asked sites me kind page site))).answer ≡ true
    → is_pending kind page (cond pending (still Waiting site) (cond used (still (Refused numbers_used_up) site) (asked sites me kind page site))).site.pending ≡ true
ask-pending sites me kind page site true used h = absurd (cc)
ask-pending sites me kind page site false true h = absurd (cc)
ask-pending sites me kind page site false false h = now-pending (record { page = page; request = site.requests + 1; kind = kind }) site.pending

-- a fault is one of a right that isn't here, and its Ask is pending then
fault-pending : (sites me : ℕ) (kind : Kind) (page : PageId) (site : Site) (here : Bool) (made : Step) → is_fault made.answer ≡ false
    → is_fault (cond here made (ask_for sites me kind page site)).answer ≡ true
    → (here ≡ false) × (is_pending kind page (cond here made (ask_for sites me kind page site)).site.pending ≡ true)
fault-pending sites me kind page site true made m h = absurd (cc)
fault-pending sites me kind page site false made m h =
    (refl, ask-pending sites me kind page site (is_pending kind page site.pending) (site.requests == greatest) h)

not-here : (a b c : Bool) → c ≡ a → a ≡ false → b ≡ true → (not c && b) ≡ true
not-here a b c same absent waits = cc

load_if-next : (sites me : ℕ) (r : Result Place ℕ) (site : Site) → is_fault (load_if sites me r site).answer ≡ true
    → is_waiting (load_if sites me r (load_if sites me r site).site).answer ≡ true
load_if-next sites me (Err refusal) site h = absurd (cc)
load_if-next sites me (Ok p) site h =
    let new = (load_at sites me p site).site in
    let f = fault-pending sites me Read p.page site (readable (site.entries p.page)) _ refl h in
    load-waits sites me p new
    ∙ not-here (readable (site.entries p.page)) (is_pending Read p.page new.pending) (readable (new.entries p.page))
    ((load-keeps sites me (Ok p) site).reads p.page) f.0 f.1

store_if-next : (sites me : ℕ) (r : Result Place ℕ) (byte : ℕ) (site : Site) → is_fault (store_if sites me r byte site).answer ≡ true
    → is_waiting (store_if sites me r byte (store_if sites me r byte site).site).answer ≡ true
store_if-next sites me (Err refusal) byte site h = absurd (cc)
store_if-next sites me (Ok p) byte site h =
    let new = (store_at sites me p byte site).site in
    let f = fault-pending sites me Write p.page site (writable (site.entries p.page)) _ refl h in
    store-waits sites me p byte new
    ∙ not-here (writable (site.entries p.page)) (is_pending Write p.page new.pending) (writable (new.entries p.page))
    ((store_if-keeps sites me (Ok p) byte site).writes p.page) f.0 f.1

pub waits_next : (sites me : ℕ) (site : Site) (a : Input) → is_access a ≡ true → is_fault (step sites me site a).answer ≡ true
    → is_waiting (step sites me (step sites me site a).site a).answer ≡ true
waits_next sites me site (Load at offset) access h =
    ap (λ a. is_waiting (load_if sites me (right a at offset false) (step sites me site (Load at offset)).site).answer)
    (load-keeps sites me (right site.attachments at offset false) site).attachments
    ∙ load_if-next sites me (right site.attachments at offset false) site h
waits_next sites me site (Store at offset byte) access h =
    ap (λ a. is_waiting (store_if sites me (right a at offset true) byte (step sites me site (Store at offset byte)).site).answer)
    (store_if-keeps sites me (right site.attachments at offset true) byte site).attachments
    ∙ store_if-next sites me (right site.attachments at offset true) byte site h
waits_next sites me site (Begin request) access h = absurd (cc)
waits_next sites me site (Deliver e) access h = absurd (cc)
waits_next sites me site Tick access h = absurd (cc)
waits_next sites me site Restart access h = absurd (cc)
