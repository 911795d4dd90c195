-- A store that found no right to write changed nothing.
use Rattle.std.proofs.Common.{◌≡◌, ◌∙◌, ℕ, ◌==◌, Bool, true, false, Result, Ok, Err, ap, if◌then◌else◌, refl, subst, sym}
use Rattle.std.proofs.lemmas.Bool.{false≢true}
use Rattle.shm_place.specs.declared.page_id.PageId.{PageId}
use Rattle.shm_model.specs.Access.{Place, ask_for, asked, is_pending, right, store, store_if, stored_entry}
use Rattle.shm_model.specs.Site.{Step, still, Site}
use Rattle.shm_model.specs.Basics.{at_page, greatest}
use Rattle.shm_model.specs.Entry.{writable}
use Rattle.shm_model.specs.Refusal.{numbers_used_up}
use Rattle.shm_model.specs.declared.answer.Answer.{Answer}
use Rattle.shm_model.specs.declared.answer.Answer.TheVariants.{Refused, Stored, Waiting}
use Rattle.shm_model.specs.declared.request_kind.Kind.TheVariants.{Write}
use Rattle.shm_attach.specs.Attachments.{attachments_of}
use Rattle.shm_parts.specs.Holdings.{with_holdings}
use Rattle.shm_parts.specs.declared.holdings.Holdings.{Holdings}

abbrev is_stored_answer : Answer → Bool
is_stored_answer Stored = true
is_stored_answer _ = false

both : {X : Type 0} (f : Step → X) (x : X) (test : Bool) (a b : Step) → f a ≡ x → f b ≡ x → f (if test then a else b) ≡ x
both f x true a b p q = p
both f x false a b p q = q

-- at a site that has no number left, an access without the right changes nothing
ask_stays : {X : Type 0} (f : Step → X) (x : X) (sites me : ℕ) (page : PageId) (site : Site) → (site.requests == greatest) ≡ true → f (still Waiting site) ≡ x → f (still (Refused numbers_used_up) site) ≡ x → f (ask_for sites me Write page site) ≡ x
ask_stays f x sites me page site full waits refused =
    both f x (is_pending Write page site.pending) (still Waiting site) (if site.requests == greatest then still (Refused numbers_used_up) site else asked sites me Write page site) waits
    (subst (λ (b : Bool). f (if b then still (Refused numbers_used_up) site else asked sites me Write page site) ≡ x) (sym full) refused)

ask_site : (sites me : ℕ) (page : PageId) (site : Site) → (site.requests == greatest) ≡ true → (ask_for sites me Write page site).site ≡ site
ask_site sites me page site full = ask_stays (λ s. s.site) site sites me page site full refl refl

ask_answer : (sites me : ℕ) (page : PageId) (site : Site) → (site.requests == greatest) ≡ true → is_stored_answer (ask_for sites me Write page site).answer ≡ false
ask_answer sites me page site full = ask_stays (λ s. is_stored_answer s.answer) false sites me page site full refl refl

chosen_stays : (sites me : ℕ) (test : Bool) (changed : Site) (first page : PageId) (old new : Site) → (old.requests == greatest) ≡ true → (new.requests == greatest) ≡ true → (if test then still Stored changed else ask_for sites me Write first old) ≡ ask_for sites me Write page new → old ≡ new
chosen_stays sites me true changed first page old new old_full new_full e =
    absurd (false≢true (sym (ask_answer sites me page new new_full) ∙ sym (ap (λ (s : Step). is_stored_answer s.answer) e)))
chosen_stays sites me false changed first page old new old_full new_full e =
    sym (ask_site sites me first old old_full) ∙ ap (λ (s : Step). s.site) e ∙ ask_site sites me page new new_full

store_if_stays : (sites me : ℕ) (place : Result Place ℕ) (byte : ℕ) (page : PageId) (old new : Site) → (old.requests == greatest) ≡ true → (new.requests == greatest) ≡ true → store_if sites me place byte old ≡ ask_for sites me Write page new → old ≡ new
store_if_stays sites me (Err refusal) byte page old new old_full new_full e =
    ap (λ (s : Step). s.site) e ∙ ask_site sites me page new new_full
store_if_stays sites me (Ok place) byte page old new old_full new_full e =
    chosen_stays sites me (writable (old.entries place.page)) (record old { entries = at_page old.entries place.page (stored_entry place.within byte (old.entries place.page)) }) place.page page old new old_full new_full e

pub store_stays : {A : Type 0} (sites me at offset byte : ℕ) (page : PageId) (old new : Holdings A) → ((site : Site) → store sites me at offset byte (with_holdings sites me old site) ≡ ask_for sites me Write page (with_holdings sites me new site)) → (site : Site) → with_holdings sites me old site ≡ with_holdings sites me new site
store_stays sites me at offset byte page old new h site =
    let full : Site = record site { requests = greatest } in
    ap (λ (s : Site). record site { entries = s.entries; attachments = s.attachments; purged = s.purged; frames = s.frames })
    (store_if_stays sites me (right (attachments_of old.attachments) at offset true) byte page (with_holdings sites me old full) (with_holdings sites me new full) refl refl (h full))
