-- What a row of the entry's table does to a site's holdings.
use Rattle.std.proofs.Common.{◌≡◌, ◌∙◌, ℕ, Bool, true, false, not, ◌&&◌, nat_lt, nat_le, ◌==◌, cond, if◌then◌else◌, List, [], ◌∷◌, Option, Some, None, Result, Ok, Err, length, refl, ap, sym}
use Rattle.std.proofs.lemmas.Bool.{false≢true, cond-false, cond-true, cond_both}
use Rattle.std.specs.Result.{IfOk, OnErr}
use Rattle.shm_place.specs.declared.page_id.PageId.{PageId}
use Rattle.shm_model.specs.declared.answer.Answer.TheVariants.{Took}
use Rattle.shm_model.specs.declared.request_kind.Kind.{Kind}
use Rattle.shm_model.specs.declared.request_kind.Kind.TheVariants.{Read, Write}
use Rattle.shm_model.specs.Basics.{at_page}
use Rattle.shm_model.specs.Site.{dropped, Frames as ModelFrames, Site}
use Rattle.shm_model.specs.Calls.{Attachment}
use Rattle.shm_model.specs.Entry as model
use Rattle.shm_model.specs.Transfer.{arranged, drop_first, is_nothing, limited, sent_by, settle, to_entry, with_entry}
use Rattle.shm_parts.specs.Entries.{change_of, row}
use Rattle.shm_parts.specs.Frames.{arranged_by, first_out}
use Rattle.shm_parts.specs.Holdings.{arranged_frames, given_up, held_entries, rearranged, turned_step, with_frames, with_holdings}
use Rattle.shm_model.specs.Message.{Envelope as ModelEnvelope}
use Rattle.shm_parts.specs.Message.{envelope_of}
use Rattle.shm_parts.specs.declared.entry_change.Change.{Change}
use Rattle.shm_parts.specs.declared.holdings.Holdings.{Holdings}
use Rattle.shm_parts.specs.declared.message.Envelope.{Envelope}
use Rattle.shm_parts.proofs.Held.{Pages, at_same, here_alive, masked, masked_at, seated, site_of}

dropped_step : (b : Bool) (qs : List PageId) (f : ModelFrames) (site : Site)
    → (if b then drop_first qs f (record site { frames = Some f }) else record site { frames = Some f }) ≡ given_up (with_frames (if b then first_out qs f else (None, f))) site
dropped_step true [] f site = refl
dropped_step true (q ∷ qs) f site = refl
dropped_step false qs f site = refl

limited_step : (frames : Option ModelFrames) (page : PageId) (old new : model.Entry) (site : Site)
    → limited (arranged page old new frames) (record site { frames = arranged page old new frames }) ≡ given_up (arranged_frames (change_of old new) page frames) site
limited_step None page old new site = refl
limited_step (Some f) page old new site =
    let copies = arranged_by (change_of old new) page f.copies in
    dropped_step (nat_lt f.limit (length copies)) copies (record f { copies = copies }) site

abbrev Quiet : model.Entry → model.Entry × model.Out → Type 0
Quiet e r = is_nothing r.1 ≡ true → r.0 ≡ e

loud : (e new : model.Entry) (out : model.Out) → is_nothing out ≡ false → Quiet e (new, out)
loud e new out sent h = absurd (false≢true (sym sent ∙ h))

quiet-clear : (n : ℕ) (e : model.Entry) → Quiet e (model.on_clear n e)
quiet-clear n e =
    cond_both (nat_le n (model.seen e)) (e, model.ToManager (model.Cleared n)) (cond (model.owned e) (e, model.Nothing) (model.Nil n, model.ToManager (model.Cleared n))) (Quiet e)
    (λ _ _. refl)
    (λ _. cond_both (model.owned e) (e, model.Nothing) (model.Nil n, model.ToManager (model.Cleared n)) (Quiet e) (λ _ _. refl) (λ _. loud e (model.Nil n) (model.ToManager (model.Cleared n)) refl))

-- one more test: a row that sends nothing leaves the entry, in the first case and in the rest
either : (b : Bool) (e : model.Entry) (first rest : model.Entry × model.Out) → Quiet e first → Quiet e rest → Quiet e (cond b first rest)
either true e first rest f r = f
either false e first rest f r = r

quiet-read : (me n to : ℕ) (e : model.Entry) → Quiet e (model.hand_read me n to e)
quiet-read me n to e =
    either (nat_lt n (model.seen e)) e _ _ (λ _. refl)
    (either (not (model.owned e)) e _ _ (λ _. refl)
    (either (to == me) e _ _ (loud e _ (model.ToManager (model.Confirm n)) refl)
    (loud e _ (model.ToSite to (model.Page n Read (model.bytes e))) refl)))

quiet-write : (me n to : ℕ) (e : model.Entry) → Quiet e (model.hand_write me n to e)
quiet-write me n to e =
    either (nat_lt n (model.seen e)) e _ _ (λ _. refl)
    (either (model.owned e && (to == me)) e _ _ (loud e _ (model.ToManager (model.Confirm n)) refl)
    (either (model.owned e && nat_lt (model.seen e) n) e _ _ (loud e _ (model.ToSite to (model.Page n Write (model.bytes e))) refl)
    (either (model.handed_to to e && (n == model.seen e)) e _ _ (λ _. refl) (λ _. refl))))

quiet-page : (n : ℕ) (kind : Kind) (b : List ℕ) (e : model.Entry) → Quiet e (model.on_page n kind b e)
quiet-page n kind b e =
    either (nat_lt n (model.seen e)) e _ _ (λ _. refl)
    (either (n == model.seen e) e _ _ (λ _. refl)
    (either (model.owned e) e _ _ (λ _. refl)
    (loud e _ (model.ToManager (model.Confirm n)) refl)))

-- a row that sends nothing leaves the entry as it was
pub quiet : (me : ℕ) (note : model.Note) (e : model.Entry) → is_nothing (row me note e).1 ≡ true → (row me note e).0 ≡ e
quiet me (model.Ask _ _) e = λ _. refl
quiet me (model.Clear n) e = quiet-clear n e
quiet me (model.Cleared _) e = λ _. refl
quiet me (model.Hand n Read to) e = quiet-read me n to e
quiet me (model.Hand n Write to) e = quiet-write me n to e
quiet me (model.Page n kind b) e = quiet-page n kind b e
quiet me (model.Confirm _) e = λ _. refl

-- a row that sends something, where `hold` gives a site what is held after it
turned_loud : {A : Type 0} (sites me : ℕ) (page : PageId) (new : model.Entry) (out : model.Out) (envelope : Envelope A) (held : Pages) (a : ℕ → Option Attachment) (p : ℕ → Bool) (f : Option ModelFrames) (hold : Site → Site) (site : Site)
    → is_nothing out ≡ false → sent_by sites me page out ≡ envelope_of envelope ∷ []
    → ((x : Site) → hold x ≡ rearranged (change_of (held page) new) page (site_of (at_page held page new) a p f x))
    → to_entry sites me page (new, out) (site_of held a p f site) ≡ turned_step page (Some (envelope, change_of (held page) new)) hold site
turned_loud sites me page new out envelope held a p f hold site sends sent holds =
    let change = change_of (held page) new in
    let site2 : Site = record (site_of (at_page held page new) a p f site) { pending = settle (model.readable new) (model.writable new) page site.pending } in
    let after = limited_step f page (held page) new site2 in
    let held_after = holds (record site { pending = settle (model.readable new) (model.writable new) page site.pending }) in
    cond-false (is_nothing out) (dropped (site_of held a p f site)) (record { site = with_entry page new (site_of held a p f site); answer = Took; sent = sent_by sites me page out }) sends
    ∙ ap (λ (s : Site). record { site = s; answer = Took; sent = sent_by sites me page out }) (after ∙ sym held_after)
    ∙ ap (λ (l : List ModelEnvelope). record { site = hold (record site { pending = settle (model.readable new) (model.writable new) page site.pending }); answer = Took; sent = l }) sent

nothing_step : (sites me : ℕ) (page : PageId) (r : model.Entry × model.Out) (site : Site) → is_nothing r.1 ≡ true → to_entry sites me page r site ≡ dropped site
nothing_step sites me page (new, out) site h =
    cond-true (is_nothing out) (dropped site) (record { site = with_entry page new site; answer = Took; sent = sent_by sites me page out }) h

-- a row that sends nothing, at a page whose segment isn't purged
pub turned_quiet : (sites me : ℕ) (page : PageId) (note : model.Note) (old new : Pages) (a : ℕ → Option Attachment) (p : ℕ → Bool) (f : Option ModelFrames) (out : model.Out) (site : Site)
    → p page.seg ≡ false → is_nothing out ≡ true → out ≡ (row me note (old page)).1 → new ≡ at_page old page (row me note (old page)).0
    → to_entry sites me page (row me note (masked p old page)) (site_of (masked p old) a p f site) ≡ dropped (site_of (masked p new) a p f site)
turned_quiet sites me page note old new a p f out site alive silent_out is after =
    let here = here_alive p old page alive in
    let silent : is_nothing (row me note (old page)).1 ≡ true = ap is_nothing (sym is) ∙ silent_out in
    let same : new ≡ old = after ∙ at_same old page (row me note (old page)).0 (quiet me note (old page) silent) in
    nothing_step sites me page (row me note (masked p old page)) (site_of (masked p old) a p f site) (ap (λ (x : model.Entry). is_nothing (row me note x).1) here ∙ silent)
    ∙ ap (λ (e : Pages). dropped (site_of (masked p e) a p f site)) (sym same)

paired : (sites me : ℕ) (page : PageId) (r : model.Entry × model.Out) (site : Site) → to_entry sites me page r site ≡ to_entry sites me page (r.0, r.1) site
paired sites me page (new, out) site = refl

-- one that sends something
pub turned_sent : {A : Type 0} (sites me : ℕ) (page : PageId) (note : model.Note) (old new : Pages) (a : ℕ → Option Attachment) (p : ℕ → Bool) (f : Option ModelFrames) (out : model.Out) (envelope : Envelope A) (change : Change) (hold : Site → Site) (site : Site)
    → p page.seg ≡ false → is_nothing out ≡ false → sent_by sites me page out ≡ envelope_of envelope ∷ [] → out ≡ (row me note (old page)).1 → change ≡ change_of (old page) (row me note (old page)).0 → new ≡ at_page old page (row me note (old page)).0
    → ((x : Site) → hold x ≡ rearranged change page (site_of (masked p new) a p f x))
    → to_entry sites me page (row me note (masked p old page)) (site_of (masked p old) a p f site) ≡ turned_step page (Some (envelope, change)) hold site
turned_sent sites me page note old new a p f out envelope change hold site alive sends sent is changes after holds =
    let held : Pages = masked p old in
    let r : model.Entry × model.Out = row me note (held page) in
    let here : held page ≡ old page = here_alive p old page alive in
    let outs : out ≡ r.1 = is ∙ ap (λ (x : model.Entry). (row me note x).1) (sym here) in
    let change2 : change ≡ change_of (held page) r.0 = changes ∙ ap (λ (x : model.Entry). change_of x (row me note x).0) (sym here) in
    let entries : masked p new ≡ at_page held page r.0 =
    ap (masked p) after ∙ masked_at p old page (row me note (old page)).0 alive ∙ ap (λ (x : model.Entry). at_page held page (row me note x).0) (sym here) in
    let holds2 : (x : Site) → hold x ≡ rearranged (change_of (held page) r.0) page (site_of (at_page held page r.0) a p f x) =
    (λ x. holds x ∙ (λ i. rearranged (change2 i) page (site_of (entries i) a p f x))) in
    paired sites me page r (site_of held a p f site)
    ∙ turned_loud sites me page r.0 r.1 envelope held a p f hold site (ap is_nothing (sym outs) ∙ sends) (ap (sent_by sites me page) (sym outs) ∙ sent) holds2
    ∙ (λ i. turned_step page (Some (envelope, sym change2 i)) hold site)

-- what a row did where room was made before it
pub turned_same : {A E : Type 0} (sites me sites2 me2 : ℕ) (page : PageId) (note : model.Note) (old mid new : Holdings A) (result : Result (Option (Envelope A × Change)) E)
    → sites2 ≡ sites → me2 ≡ me
    → ((site : Site) → with_holdings sites me mid site ≡ with_holdings sites me old site)
    → IfOk result (λ sent. (site : Site) → to_entry sites2 me2 page (row me2 note (held_entries sites2 me2 mid page)) (with_holdings sites2 me2 mid site) ≡ turned_step page sent (with_holdings sites2 me2 new) site)
    → IfOk result (λ sent. (site : Site) → to_entry sites me page (row me note (held_entries sites me old page)) (with_holdings sites me old site) ≡ turned_step page sent (with_holdings sites me new) site)
turned_same sites me sites2 me2 page note old mid new (Ok r) all own same turned = λ site.
    ap (λ (s : Site). to_entry sites me page (row me note (s.entries page)) s) (sym (same site))
    ∙ seated (λ sites me. to_entry sites me page (row me note (held_entries sites me mid page)) (with_holdings sites me mid site) ≡ turned_step page r (with_holdings sites me new) site)
    sites me sites2 me2 all own (turned site)
turned_same sites me sites2 me2 page note old mid new (Err back) all own same turned = tt

pub refused_same : {A X E : Type 0} (sites me sites2 me2 : ℕ) (old mid new : Holdings A) (result : Result X E)
    → sites2 ≡ sites → me2 ≡ me
    → ((site : Site) → with_holdings sites me mid site ≡ with_holdings sites me old site)
    → OnErr result ((site : Site) → with_holdings sites2 me2 new site ≡ with_holdings sites2 me2 mid site)
    → OnErr result ((site : Site) → with_holdings sites me new site ≡ with_holdings sites me old site)
refused_same sites me sites2 me2 old mid new (Ok r) all own same refused = tt
refused_same sites me sites2 me2 old mid new (Err back) all own same refused = λ site.
    seated (λ sites me. with_holdings sites me new site ≡ with_holdings sites me mid site) sites me sites2 me2 all own (refused site) ∙ same site
