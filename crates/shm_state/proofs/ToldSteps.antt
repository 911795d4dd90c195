-- What each part makes of what was told before it.
use Rattle.std.proofs.Common.{◌≡◌, ◌∙◌, ℕ, zero, suc, ◌==◌, Bool, true, false, List, [], ◌∷◌, ◌++◌, Option, None, Some, if◌then◌else◌, refl, ap, subst, sym, arith}
use Rattle.std.proofs.Math.Path.{fun_ext}
use Rattle.std.proofs.lemmas.Bool.Decides.{nat_tests}
use Rattle.std.proofs.lemmas.List.{map-append}
use Rattle.std.specs.Prelude.{slice_index_or}
use Rattle.std.specs.Map.{keys_of}
use Rattle.shm_place.specs.declared.page_id.PageId.{PageId}
use Rattle.shm_model.specs.declared.call.Op.{Op}
use Rattle.shm_model.specs.declared.call.Reply.{Reply}
use Rattle.shm_model.specs.Basics.{at, at_page}
use Rattle.shm_model.specs.Book.{Book as BookOf, untouched_book}
use Rattle.shm_model.specs.Calls.{Attachment as AttachmentOf}
use Rattle.shm_model.specs.Entry.{Entry as EntryOf, Nil}
use Rattle.shm_model.specs.Permission.{Segment as SegmentOf}
use Rattle.shm_model.specs.SegmentCalls.{of_segment}
use Rattle.shm_model.specs.Site.{Site, is_attached, new_site, untouched}
use Rattle.shm_number.specs.Kept.{kept_at, kept_then}
use Rattle.shm_keys.specs.Purge.{missing_in}
use Rattle.shm_keys.specs.Table.{Table, missing_of}
use Rattle.shm_keys.specs.declared.pending_purge.Purge.{Purge}
use Rattle.shm_attach.specs.Attachments.{attachments_of, with_attachments}
use Rattle.shm_attach.specs.CallBook.{outstanding_of}
use Rattle.shm_attach.specs.Home.{kept_of, kept_reply}
use Rattle.shm_parts.specs.Books.{booked_of, books_of, with_books}
use Rattle.shm_parts.specs.Holdings.{held_entries, with_holdings}
use Rattle.shm_parts.specs.Listed.{filled, purged_in}
use Rattle.shm_parts.specs.Purged.{purged_of}
use Rattle.shm_parts.specs.declared.books.Books.{Books}
use Rattle.shm_parts.specs.declared.holdings.Holdings.{Holdings}
use Rattle.shm_parts.proofs.Held.{masked, masked_at, masked_purge}
use Rattle.shm_parts.proofs.ListedLemmas.{filled-push, purged-push}
use Rattle.shm_site.specs.State.{site_from}
use Rattle.shm_state.specs.Part.{BookPart, Requests, Calls, Outstanding, Segment, Missing, Kept, Entry, Purged, Attachment, Book}
use Rattle.shm_state.specs.Told.{put, told_with, whole_book, Told as Said}
use Rattle.shm_state.specs.ToldOf.{Tells, told_site}
use Rattle.shm_state.specs.declared.told_stage.Stage.{Stage}
use Rattle.shm_state.specs.declared.told_stage.Stage.TheVariants as stage
use Rattle.shm_state.specs.declared.told_state.Told.{Told}

-- ---- lists with a place for each number

apart : (j : ℕ) → (0 == suc j) ≡ false
apart j = grind (arith, nat_tests)

apart_back : (n : ℕ) → (suc n == 0) ≡ false
apart_back n = grind (arith, nat_tests)

both : (n j : ℕ) → (suc n == suc j) ≡ (n == j)
both n j = grind (arith, nat_tests)

module _ {X : Type 0} where
  chosen : (b c : Bool) (x rest : Option X) → b ≡ c → (if c then x else rest) ≡ (if b then x else rest)
  chosen b c x rest same = ap (λ a. if a then x else rest) (sym same)

  pub put-at : (n : ℕ) (x : X) (xs : List (Option X)) (j : ℕ) → slice_index_or (put n x xs) j None ≡ (if n == j then Some x else slice_index_or xs j None)
  put-at zero x [] zero = refl
  put-at zero x [] (suc j) = chosen (0 == suc j) false (Some x) None (apart j)
  put-at zero x (y ∷ ys) zero = refl
  put-at zero x (y ∷ ys) (suc j) = chosen (0 == suc j) false (Some x) (slice_index_or ys j None) (apart j)
  put-at (suc n) x [] zero = chosen (suc n == 0) false (Some x) None (apart_back n)
  put-at (suc n) x [] (suc j) = put-at n x [] j ∙ chosen (suc n == suc j) (n == j) (Some x) None (both n j)
  put-at (suc n) x (y ∷ ys) zero = chosen (suc n == 0) false (Some x) y (apart_back n)
  put-at (suc n) x (y ∷ ys) (suc j) = put-at n x ys j ∙ chosen (suc n == suc j) (n == j) (Some x) (slice_index_or ys j None) (both n j)

attachments-put : (n : ℕ) (a : AttachmentOf) (xs : List (Option AttachmentOf)) → attachments_of (put n a xs) ≡ at (attachments_of xs) n (Some a)
attachments-put n a xs = fun_ext (put-at n a xs)

kept-put : (site number : ℕ) (reply : Reply) (xs : List (Option (ℕ × Reply))) → kept_at (put site (number, reply) xs) ≡ kept_then (kept_at xs) site number reply
kept-put site number reply xs = fun_ext (put-at site (number, reply) xs)

keys-push : {X : Type 0} (es : List (PageId × X)) (page : PageId) (x : X) → keys_of (es ++ (page, x) ∷ []) ≡ keys_of es ++ page ∷ []
keys-push {X = X} es page x = map-append (λ (e : PageId × X). e.0) es ((page, x) ∷ [])

-- ---- what was told, without what it keeps true

pub record Seen (A : Type 0) : Type 0 where
  pub sites : ℕ
  pub me : ℕ
  pub last : Stage
  pub requests : ℕ
  pub begun : ℕ
  pub outstanding : Option (ℕ × Op)
  pub table : Table
  pub kept : List (Option (ℕ × Reply))
  pub pages : List PageId
  pub holdings : Holdings A
  pub books : Books A

abbrev pub seen : {A : Type 0} → Told A → Seen A
seen told = record {
  sites = told.sites;
  me = told.me;
  last = told.last;
  requests = told.requests;
  begun = told.begun;
  outstanding = told.outstanding;
  table = told.table;
  kept = told.kept;
  pages = told.pages.keys;
  holdings = told.holdings;
  books = told.books;
}

abbrev pub seen_site : {A : Type 0} → Seen A → Site
seen_site t = with_holdings t.sites t.me t.holdings (with_books t.me t.books (record (new_site t.sites t.me) {
  requests = t.requests;
  calls = t.begun;
  outstanding = outstanding_of t.outstanding;
  table = t.table.segments;
  kept = kept_of t.kept;
  missing = missing_of t.table;
}))

pub record Says {A : Type 0} (t : Seen A) (said : Said) : Type 0 where
  pub last : t.last ≡ said.last
  pub site : seen_site t ≡ site_from t.sites t.me said.state
  pub kept : kept_at t.kept ≡ kept_at said.state.kept
  pub missing : t.table.missing ≡ said.state.missing
  pub pages : t.pages ≡ keys_of said.state.entries

pub says : {A : Type 0} (told : Told A) (said : Said) → Tells told said → Says (seen told) said
says told said h = record { last = h.last; site = h.site; kept = h.kept; missing = h.missing; pages = h.pages }

pub tells : {A : Type 0} (told : Told A) (said : Said) → Says (seen told) said → Tells told said
tells told said h = record { last = h.last; site = h.site; kept = h.kept; missing = h.missing; pages = h.pages }

-- ---- the site's calls

module _ {A : Type 0} (told : Seen A) (said : Said) (h : Says told said) where
  -- the site, but for its holdings
  abbrev rest : Site
  rest = with_books told.me told.books (record (new_site told.sites told.me) {
    requests = told.requests;
    calls = told.begun;
    outstanding = outstanding_of told.outstanding;
    table = told.table.segments;
    kept = kept_of told.kept;
    missing = missing_of told.table;
  })

  pub requests-told : (number : ℕ) → Says (record told { requests = number; last = stage.Requests }) (told_with (Requests number) said)
  requests-told number = record {
    last = refl;
    site = ap (λ (s : Site). record s { requests = number }) h.site;
    kept = h.kept;
    missing = h.missing;
    pages = h.pages;
  }

  pub calls-told : (number : ℕ) → Says (record told { begun = number; last = stage.Calls }) (told_with (Calls number) said)
  calls-told number = record {
    last = refl;
    site = ap (λ (s : Site). record s { calls = number }) h.site;
    kept = h.kept;
    missing = h.missing;
    pages = h.pages;
  }

  pub outstanding-told : (number : ℕ) (op : Op) → Says (record told { outstanding = Some (number, op); last = stage.Outstanding }) (told_with (Outstanding number op) said)
  outstanding-told number op = record {
    last = refl;
    site = ap (λ (s : Site). record s { outstanding = Some (record { number = number; op = op }) }) h.site;
    kept = h.kept;
    missing = h.missing;
    pages = h.pages;
  }

  -- ---- what a home keeps

  pub segment-told : (g : SegmentOf) (t : Table) → t ≡ record told.table { segments = told.table.segments ++ g ∷ [] }
      → Says (record told { table = t; last = stage.Segments }) (told_with (Segment g) said)
  segment-told g t is =
      subst (λ (t : Table). Says (record told { table = t; last = stage.Segments }) (told_with (Segment g) said)) (sym is) (record {
        last = refl;
        site = ap (λ (s : Site). record s { table = s.table ++ g ∷ [] }) h.site;
        kept = h.kept;
        missing = h.missing;
        pages = h.pages;
      })

  pub missing-told : (p : Purge) (t : Table) → t ≡ record told.table { missing = told.table.missing ++ p ∷ [] }
      → Says (record told { table = t; last = stage.Missing }) (told_with (Missing p) said)
  missing-told p t is =
      subst (λ (t : Table). Says (record told { table = t; last = stage.Missing }) (told_with (Missing p) said)) (sym is) (record {
        last = refl;
        site = λ i. record (h.site i) { missing = missing_in (h.missing i ++ p ∷ []) };
        kept = h.kept;
        missing = ap (λ (l : List Purge). l ++ p ∷ []) h.missing;
        pages = h.pages;
      })

  pub kept-told : (site number : ℕ) (reply : Reply) (kept : List (Option (ℕ × Reply))) → kept_at kept ≡ kept_then (kept_at told.kept) site number reply
      → Says (record told { kept = kept; last = stage.Kept }) (told_with (Kept site number reply) said)
  kept-told site number reply kept is =
      let after : kept_at kept ≡ kept_at (put site (number, reply) said.state.kept) =
      is
      ∙ ap (λ (f : ℕ → Option (ℕ × Reply)). kept_then f site number reply) h.kept
      ∙ sym (kept-put site number reply said.state.kept) in
      record {
        last = refl;
        site = λ i. record (h.site i) { kept = λ j. kept_reply (after i j) };
        kept = after;
        missing = h.missing;
        pages = h.pages;
      }

  -- ---- what it has of pages

  -- one segment more is purged
  pub purged-told : (id : ℕ) (held : Holdings A)
      → ((site : Site) → with_holdings told.sites told.me held site ≡ record (with_holdings told.sites told.me told.holdings site) {
        entries = of_segment id (Nil 0) (held_entries told.sites told.me told.holdings);
        purged = at (purged_of told.holdings.purged) id true;
      })
      → Says (record told { holdings = held; last = stage.Purged }) (told_with (Purged id) said)
  purged-told id held after =
      let s = said.state in
      let stored = filled (untouched told.sites told.me) s.entries in
      let purged : at (purged_in s.purged) id true ≡ purged_in (s.purged ++ id ∷ []) = sym (purged-push s.purged id) in
      let entries : of_segment id (Nil 0) (masked (purged_in s.purged) stored) ≡ masked (purged_in (s.purged ++ id ∷ [])) stored =
      sym (masked_purge (purged_in s.purged) stored stored id (λ page apart. refl))
      ∙ ap (λ (p : ℕ → Bool). masked p stored) purged in
      record {
        last = refl;
        site = after rest
            ∙ ap (λ (site : Site). record site { entries = of_segment id (Nil 0) site.entries; purged = at site.purged id true }) h.site
            ∙ (λ i. record (site_from told.sites told.me s) { entries = entries i; purged = purged i });
        kept = h.kept;
        missing = h.missing;
        pages = h.pages;
      }

  -- an attachment more
  pub attachment-told : (number : ℕ) (a : AttachmentOf) (held : Holdings A)
      → ((site : Site) → with_holdings told.sites told.me held site
      ≡ with_attachments (at (attachments_of told.holdings.attachments) number (Some a)) (with_holdings told.sites told.me told.holdings site))
      → Says (record told { holdings = held; last = stage.Attachments }) (told_with (Attachment number a) said)
  attachment-told number a held after =
      let s = said.state in
      record {
        last = refl;
        site = after rest
            ∙ ap (λ (site : Site). with_attachments (at site.attachments number (Some a)) site) h.site
            ∙ ap (λ (f : ℕ → Option AttachmentOf). with_attachments f (site_from told.sites told.me s)) (sym (attachments-put number a s.attachments));
        kept = h.kept;
        missing = h.missing;
        pages = h.pages;
      }

  -- a book more
  pub book-told : (page : PageId) (b : BookPart) (book : BookOf) (books : Books A) → book ≡ whole_book b
      → books_of told.me books ≡ at_page (books_of told.me told.books) page book → booked_of books ≡ booked_of told.books ++ page ∷ []
      → Says (record told { books = books; last = stage.Books }) (told_with (Book page b) said)
  book-told page b book books is all listed =
      let s = said.state in
      let none : PageId → BookOf = λ _. untouched_book told.me in
      let made : at_page (filled none s.books) page book ≡ filled none (s.books ++ (page, whole_book b) ∷ []) =
      ap (at_page (filled none s.books) page) is ∙ sym (filled-push none s.books page (whole_book b)) in
      let keys = sym (keys-push s.books page (whole_book b)) in
      record {
        last = refl;
        site = (λ i. record (seen_site told) { books = all i; booked = listed i })
            ∙ ap (λ (site : Site). record site { books = at_page site.books page book; booked = site.booked ++ page ∷ [] }) h.site
            ∙ (λ i. record (site_from told.sites told.me s) { books = made i; booked = keys i });
        kept = h.kept;
        missing = h.missing;
        pages = h.pages;
      }

  pub books-same : (books : Books A) → books_of told.me books ≡ books_of told.me told.books → booked_of books ≡ booked_of told.books
      → Says (record told { books = books }) said
  books-same books all listed = record {
    last = h.last;
    site = (λ i. record (seen_site told) { books = all i; booked = listed i }) ∙ h.site;
    kept = h.kept;
    missing = h.missing;
    pages = h.pages;
  }

  -- other holdings that make the site what it was
  pub holdings-same : (held : Holdings A) → ((site : Site) → with_holdings told.sites told.me held site ≡ with_holdings told.sites told.me told.holdings site)
      → Says (record told { holdings = held }) said
  holdings-same held all = record { last = h.last; site = all rest ∙ h.site; kept = h.kept; missing = h.missing; pages = h.pages }

  -- room for more pages
  pub pages-same : (pages : List PageId) → pages ≡ told.pages → Says (record told { pages = pages }) said
  pages-same pages same = record { last = h.last; site = h.site; kept = h.kept; missing = h.missing; pages = same ∙ h.pages }

  -- an entry more
  pub entry-told : (page : PageId) (e : EntryOf) (held : Holdings A) (pages : List PageId) → purged_in said.state.purged page.seg ≡ false
      → pages ≡ told.pages ++ page ∷ []
      → ((site : Site) → with_holdings told.sites told.me held site
      ≡ record (with_holdings told.sites told.me told.holdings site) { entries = at_page (held_entries told.sites told.me told.holdings) page e })
      → Says (record told { holdings = held; pages = pages; last = stage.Entries }) (told_with (Entry page e) said)
  entry-told page e held pages alive listed after =
      let s = said.state in
      let first = untouched told.sites told.me in
      let entries : at_page (masked (purged_in s.purged) (filled first s.entries)) page e ≡ masked (purged_in s.purged) (filled first (s.entries ++ (page, e) ∷ [])) =
      sym (ap (masked (purged_in s.purged)) (filled-push first s.entries page e) ∙ masked_at (purged_in s.purged) (filled first s.entries) page e alive) in
      record {
        last = refl;
        site = after rest
            ∙ ap (λ (site : Site). record site { entries = at_page site.entries page e }) h.site
            ∙ ap (λ (f : PageId → EntryOf). record (site_from told.sites told.me s) { entries = f }) entries;
        kept = h.kept;
        missing = h.missing;
        pages = listed ∙ ap (λ (l : List PageId). l ++ page ∷ []) h.pages ∙ sym (keys-push s.entries page e);
      }

-- ---- what the code and the state say alike

module _ {A : Type 0} (told : Told A) (said : Said) (h : Tells told said) where
  pub table-alike : told.table.segments ≡ said.state.table
  table-alike = ap (λ (s : Site). s.table) h.site

  pub booked-alike : booked_of told.books ≡ keys_of said.state.books
  booked-alike = ap (λ (s : Site). s.booked) h.site

  pub purged-alike : (id : ℕ) → purged_in said.state.purged id ≡ purged_of told.holdings.purged id
  purged-alike id = ap (λ (s : Site). s.purged id) (sym h.site)

  pub attachment-alike : (number : ℕ) → attachments_of said.state.attachments number ≡ attachments_of told.holdings.attachments number
  attachment-alike number = ap (λ (s : Site). s.attachments number) (sym h.site)

  pub attached-alike : (id : ℕ) (named : Bool) → ((site : Site) → named ≡ is_attached (with_attachments (attachments_of told.holdings.attachments) site) id)
      → is_attached (site_from told.sites told.me said.state) id ≡ named
  attached-alike id named is = ap (λ (s : Site). is_attached s id) (sym h.site) ∙ sym (is (told_site told))
