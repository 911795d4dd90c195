-- What a site holds, as a function of the page: where a change of what is stored shows, and which pages attachments reach.
use Rattle.std.proofs.Common.{◌≡◌, ◌∙◌, ℕ, Bool, true, false, ◌==◌, cond, if◌then◌else◌, Option, refl, ap, subst, sym}
use Rattle.std.proofs.Math.Path.{fun_ext}
use Rattle.std.proofs.lemmas.Bool.{cond-false, cond-true, true≢false, false≢true}
use Rattle.shm_place.specs.declared.page_id.PageId.{PageId}
use Rattle.shm_place.specs.Page.{same_page}
use Rattle.shm_model.specs.declared.request_kind.Kind.TheVariants.{Write}
use Rattle.shm_model.specs.declared.answer.Answer.TheVariants.{Stored}
use Rattle.shm_model.specs.Access.{ask_for, store_at, stored_entry}
use Rattle.shm_model.specs.Site.{blank, still, Frames as ModelFrames, Site}
use Rattle.shm_model.specs.Basics.{at, at_page}
use Rattle.shm_model.specs.Calls.{Attachment}
use Rattle.shm_model.specs.Entry as model
use Rattle.shm_model.specs.SegmentCalls.{of_segment}
use Rattle.shm_parts.proofs.EntryLemmas.{page-same}

abbrev pub Pages : Type 0
Pages = PageId → model.Entry

-- the entries, where nothing is left of what was purged
abbrev pub masked : (ℕ → Bool) → Pages → Pages
masked purged entries page = if purged page.seg then model.Nil 0 else entries page

-- the site, with these as what it holds
abbrev pub site_of : Pages → (ℕ → Option Attachment) → (ℕ → Bool) → Option ModelFrames → Site → Site
site_of entries attachments purged frames site =
    record site { entries = entries; attachments = attachments; purged = purged; frames = frames }

pub same_site : (e e2 : Pages) (a a2 : ℕ → Option Attachment) (p p2 : ℕ → Bool) (f f2 : Option ModelFrames) (site : Site)
    → e ≡ e2 → a ≡ a2 → p ≡ p2 → f ≡ f2 → site_of e a p f site ≡ site_of e2 a2 p2 f2 site
same_site e e2 a a2 p p2 f f2 site entries attachments purged frames = λ i. site_of (entries i) (attachments i) (purged i) (frames i) site

pub masked_same : (p p2 : ℕ → Bool) (e e2 : Pages) → p ≡ p2 → e ≡ e2 → masked p e ≡ masked p2 e2
masked_same p p2 e e2 purged entries = λ i. masked (purged i) (entries i)

swapped : (b s : Bool) (z x y : model.Entry) → (s ≡ true → b ≡ false) → cond b z (cond s x y) ≡ cond s x (cond b z y)
swapped true true z x y h = absurd (true≢false (h refl))
swapped true false z x y h = refl
swapped false true z x y h = refl
swapped false false z x y h = refl

-- a change of an entry shows where its segment isn't purged
pub masked_at : (purged : ℕ → Bool) (entries : Pages) (page : PageId) (new : model.Entry) → purged page.seg ≡ false
    → masked purged (at_page entries page new) ≡ at_page (masked purged entries) page new
masked_at purged entries page new alive =
    fun_ext (λ q. swapped (purged q.seg) (same_page page q) (model.Nil 0) new (entries q) (λ h. ap (λ (p : PageId). purged p.seg) (sym (page-same page q h)) ∙ alive))

forgotten : (s here there : Bool) (old other : model.Entry) → (s ≡ true → there ≡ here)
    → cond there (model.Nil 0) (cond s (model.forget old) other) ≡ cond s (model.forget (cond here (model.Nil 0) old)) (cond there (model.Nil 0) other)
forgotten true true true old other h = refl
forgotten true true false old other h = absurd (false≢true (h refl))
forgotten true false true old other h = absurd (true≢false (h refl))
forgotten true false false old other h = refl
forgotten false here true old other h = refl
forgotten false here false old other h = refl

-- a copy that is given up, of a purged segment or not
pub masked_forget : (purged : ℕ → Bool) (entries : Pages) (page : PageId)
    → masked purged (at_page entries page (model.forget (entries page))) ≡ at_page (masked purged entries) page (model.forget (masked purged entries page))
masked_forget purged entries page =
    fun_ext (λ q. forgotten (same_page page q) (purged page.seg) (purged q.seg) (entries page) (entries q) (λ h. ap (λ (p : PageId). purged p.seg) (sym (page-same page q h))))

removed : (s b : Bool) (z old new : model.Entry) → (s ≡ false → new ≡ old) → cond (cond s true b) z new ≡ cond s z (cond b z old)
removed true b z old new h = refl
removed false true z old new h = refl
removed false false z old new h = h refl

-- a segment that is purged
pub masked_purge : (purged : ℕ → Bool) (old new : Pages) (id : ℕ) → ((page : PageId) → (id == page.seg) ≡ false → new page ≡ old page)
    → masked (at purged id true) new ≡ of_segment id (model.Nil 0) (masked purged old)
masked_purge purged old new id others =
    fun_ext (λ q. removed (id == q.seg) (purged q.seg) (model.Nil 0) (old q) (new q) (others q))

stays : (s : Bool) (new old : model.Entry) → (s ≡ true → new ≡ old) → cond s new old ≡ old
stays true new old h = h refl
stays false new old h = refl

-- an entry that stays what it is
pub at_same : (entries : Pages) (page : PageId) (new : model.Entry) → new ≡ entries page → at_page entries page new ≡ entries
at_same entries page new same =
    fun_ext (λ q. stays (same_page page q) new (entries q) (λ h. same ∙ ap entries (page-same page q h)))

pub here_alive : (purged : ℕ → Bool) (entries : Pages) (page : PageId) → purged page.seg ≡ false → masked purged entries page ≡ entries page
here_alive purged entries page alive = ap (λ b. cond b (model.Nil 0) (entries page)) alive

-- what is said at one seat, at the same by another name
pub seated : (P : ℕ → ℕ → Type 0) (sites me sites2 me2 : ℕ) → sites2 ≡ sites → me2 ≡ me → P sites2 me2 → P sites me
seated P sites me sites2 me2 all own p = subst (λ n. P n me) all (subst (λ n. P sites2 n) own p)

-- a page that the site would have stored if it managed it, and hasn't, is untouched and another's
pub elsewhere : (manager stored : Bool) → (manager ≡ true → stored ≡ true) → stored ≡ false → (if manager then model.OwnWrite 0 blank else model.Nil 0) ≡ model.Nil 0
elsewhere true stored mine fresh = absurd (true≢false (sym (mine refl) ∙ fresh))
elsewhere false stored mine fresh = refl

-- a store where the page may be written
pub store_yes : (sites me : ℕ) (page : PageId) (within byte : ℕ) (old new : Pages) (a : ℕ → Option Attachment) (p : ℕ → Bool) (f : Option ModelFrames) (site : Site)
    → p page.seg ≡ false → true ≡ model.writable (old page) → new ≡ at_page old page (stored_entry within byte (old page))
    → store_at sites me (record { page = page; within = within }) byte (site_of (masked p old) a p f site) ≡ still Stored (site_of (masked p new) a p f site)
store_yes sites me page within byte old new a p f site alive may after =
    let here = here_alive p old page alive in
    let entries : at_page (masked p old) page (stored_entry within byte (masked p old page)) ≡ masked p new =
    ap (λ (x : model.Entry). at_page (masked p old) page (stored_entry within byte x)) here
    ∙ sym (masked_at p old page (stored_entry within byte (old page)) alive)
    ∙ ap (masked p) (sym after) in
    cond-true (model.writable (masked p old page))
    (still Stored (site_of (at_page (masked p old) page (stored_entry within byte (masked p old page))) a p f site))
    (ask_for sites me Write page (site_of (masked p old) a p f site))
    (ap model.writable here ∙ sym may)
    ∙ ap (λ (e : Pages). still Stored (site_of e a p f site)) entries

-- a store where it may not
pub store_no : (sites me : ℕ) (page : PageId) (within byte : ℕ) (old new : Pages) (a : ℕ → Option Attachment) (p : ℕ → Bool) (f : Option ModelFrames) (site : Site)
    → p page.seg ≡ false → false ≡ model.writable (old page) → new ≡ old
    → store_at sites me (record { page = page; within = within }) byte (site_of (masked p old) a p f site) ≡ ask_for sites me Write page (site_of (masked p new) a p f site)
store_no sites me page within byte old new a p f site alive not_may after =
    cond-false (model.writable (masked p old page))
    (still Stored (site_of (at_page (masked p old) page (stored_entry within byte (masked p old page))) a p f site))
    (ask_for sites me Write page (site_of (masked p old) a p f site))
    (ap model.writable (here_alive p old page alive) ∙ sym not_may)
    ∙ ap (λ (e : Pages). ask_for sites me Write page (site_of (masked p e) a p f site)) (sym after)
