-- The receipts of accesses, one after another.
use Rattle.std.proofs.Common.{◌≡◌, ◌∙◌, ℕ, zero, suc, ◌+◌, ◌<◌, ◌==◌, ◌⊎◌, inl, inr, Bool, true, false, List, [], ◌∷◌, ◌++◌, Some, cond, length, length-append, take, append_assoc, append-nil, codes, get_or, replicate, slice_get, slice_index, slice_set, ap, refl, sym, subst, arith}
use Rattle.std.specs.List.{AllZip, filter}
use Rattle.std.specs.Prelude.{Vec}
use Rattle.std.proofs.lemmas.Bool.Decides.{nat_tests}
use Rattle.std.proofs.lemmas.List.{get_or-set_same, get_or-set_other, length-set}
use Rattle.std.proofs.lemmas.List.Filters.{length-filter_more}
use Rattle.std.proofs.lemmas.Option.{get_or_from_slice_get, none-some, slice_get_read, slice_get_within}
use Rattle.shm_logs.specs.declared.site_boxes.receipt.Receipt.{Receipt}
use Rattle.shm_report.specs.Callers.{AllServed, Serves, ServesAll}
use Rattle.shm_text.specs.Text.{line_text}
use Rattle.shm_lines.specs.declared.workload_access.WorkloadAccess.{WorkloadAccess}
use Rattle.shm_report.proofs.Lines.{answers_text-push, one_line}
use Rattle.shm_report.specs.Report.{answers_text, earlier, lines_text, TellsLines, TellsReceipt, HasReceipt, IsReceiptOf}

-- so many accesses have these receipts, and of each site's caller so many were found
pub record AreFound {A : Type 0} (accesses : List WorkloadAccess) (callers : List (Vec Receipt A)) (found : List ℕ) (receipts : List Receipt) (place : ℕ) : Type 0 where
  pub sites : length found ≡ 16
  pub count : length receipts ≡ place
  pub each : (k : ℕ) (receipt : Receipt) → slice_get receipts k ≡ Some receipt → IsReceiptOf accesses callers k receipt
  pub of_site : (site : ℕ) → site < 16 → slice_index found site ≡ earlier site accesses place

pub same_some : {X : Type 0} (x y : X) → Some x ≡ Some y → x ≡ y
same_some x y e = cc

-- in a line-up of lines and receipts, the receipt behind so many is that of the line behind so many
zip_at : (before : List WorkloadAccess) (x : WorkloadAccess) (after : List WorkloadAccess) (receipts : List Receipt) (receipt : Receipt) → AllZip Serves (before ++ x ∷ after) receipts
    → slice_get receipts (length before) ≡ Some receipt → Serves x receipt
zip_at [] x after [] receipt served at = absurd served
zip_at [] x after (first ∷ others) receipt served at = subst (Serves x) (same_some first receipt at) served.0
zip_at (b ∷ before) x after [] receipt served at = absurd served
zip_at (b ∷ before) x after (first ∷ others) receipt served at = zip_at before x after others receipt served.1 at

kept : (test : WorkloadAccess → Bool) (y : WorkloadAccess) (front all after : List WorkloadAccess) (x : WorkloadAccess) (b : Bool) → all ≡ front ++ x ∷ after
    → cond b (y ∷ all) all ≡ cond b (y ∷ front) front ++ x ∷ after
kept test y front all after x true is = ap (λ l. y ∷ l) is
kept test y front all after x false is = is

-- the lines of a site, cut at one of them
pub cut_at : (test : WorkloadAccess → Bool) (xs : List WorkloadAccess) (place : ℕ) (x : WorkloadAccess) → slice_get xs place ≡ Some x → test x ≡ true
    → (after : List WorkloadAccess) × (filter test xs ≡ filter test (take place xs) ++ x ∷ after)
cut_at test [] place x at passes = absurd (none-some x at)
cut_at test (y ∷ ys) zero x at passes =
    let same : y ≡ x = same_some y x at in
    (filter test ys, ap (λ b. cond b (y ∷ filter test ys) (filter test ys)) (ap test same ∙ passes) ∙ ap (λ z. z ∷ filter test ys) same)
cut_at test (y ∷ ys) (suc place) x at passes =
    let rest = cut_at test ys place x at passes in
    (rest.0, kept test y (filter test (take place ys)) (filter test ys) rest.0 x (test y) rest.1)

pub own_site : (s : ℕ) → (s == s) ≡ true
own_site s = grind (arith, nat_tests)

-- where all were served, the receipt behind so many tells of the line behind so many
own_receipt : {A : Type 0} (accesses : List WorkloadAccess) (callers : List (Vec Receipt A)) (place : ℕ) (access : WorkloadAccess) (receipt : Receipt)
    → AllServed (length callers) accesses callers → slice_get accesses place ≡ Some access
    → HasReceipt callers access.site (earlier access.site accesses place) receipt → Serves access receipt
own_receipt accesses callers place access receipt served made told =
    let site = access.site in
    let test : WorkloadAccess → Bool = λ a. a.site == site in
    let below : site < length callers = slice_get_within callers site told.caller told.own in
    let all : ServesAll site accesses told.caller.items =
    subst (λ caller. ServesAll site accesses caller.items) (get_or_from_slice_get callers site told.caller told.caller told.own) (served.each site told.caller below) in
    let cut = cut_at test accesses place access made (own_site site) in
    let P : List WorkloadAccess → Type 0 = λ lines. AllZip Serves lines told.caller.items in
    zip_at (filter test (take place accesses)) access cut.0 told.caller.items receipt (subst P cut.1 all) told.there

at_end : {X : Type 0} (xs : List X) (y : X) (k : ℕ) (x : X) → slice_get (xs ++ y ∷ []) k ≡ Some x
    → (slice_get xs k ≡ Some x) ⊎ ((k ≡ length xs) × (y ≡ x))
at_end [] y zero x at = inr (refl, same_some y x at)
at_end [] y (suc k) x at = absurd (none-some x at)
at_end (z ∷ xs) y zero x at = inl at
at_end (z ∷ xs) y (suc k) x at = elim (at_end xs y k x at) [ inl h ↦ inl h | inr h ↦ inr (ap suc h.0, h.1) ]

-- this text tells the receipts of so many accesses, and of each site's caller so many were told
pub record AreTold {A : Type 0} (accesses : List WorkloadAccess) (callers : List (Vec Receipt A)) (told_of text : List ℕ) (place : ℕ) : Type 0 where
  pub receipts : List Receipt
  pub found : AreFound accesses callers told_of receipts place
  pub told : text ≡ lines_text receipts

none_found : {A : Type 0} (accesses : List WorkloadAccess) (callers : List (Vec Receipt A)) (found : List ℕ) → length found ≡ 16
    → ((site : ℕ) → slice_index found site ≡ 0) → AreFound accesses callers found [] 0
none_found accesses callers found sites zeros = record {
  sites = sites;
  count = refl;
  each = λ k receipt at. absurd (none-some receipt at);
  of_site = λ site below. zeros site;
}

count_more : (found : List ℕ) (accesses : List WorkloadAccess) (place : ℕ) (access : WorkloadAccess) (site : ℕ) (own : Bool) → (access.site == site) ≡ own
    → access.site < length found → slice_index found site ≡ earlier site accesses place
    → earlier site accesses (place + 1) ≡ earlier site accesses place + cond own 1 0
    → slice_index (slice_set found access.site (slice_index found access.site + 1)) site ≡ earlier site accesses (place + 1)
count_more found accesses place access site true is below before more =
    let same : access.site ≡ site = grind (arith, nat_tests) in
    subst (λ s. slice_index (slice_set found access.site (slice_index found access.site + 1)) s ≡ earlier site accesses (place + 1)) same
    (get_or-set_same found access.site (slice_index found access.site + 1) 0 below
    ∙ omega (arith, more, before, ap (slice_index found) same))
count_more found accesses place access site false is below before more =
    let other : site ≡ access.site → ⊥ = λ e. grind (arith, nat_tests) in
    get_or-set_other found access.site site (slice_index found access.site + 1) 0 other ∙ omega (arith, more, before)

one_found : {A : Type 0} (accesses : List WorkloadAccess) (callers : List (Vec Receipt A)) (found : List ℕ) (receipts : List Receipt) (place : ℕ) (access : WorkloadAccess) (receipt : Receipt)
    → AllServed (length callers) accesses callers → place < length accesses → access ≡ get_or accesses place access → AreFound accesses callers found receipts place
    → access.site < length found → HasReceipt callers access.site (slice_index found access.site) receipt
    → AreFound accesses callers (slice_set found access.site (slice_index found access.site + 1)) (receipts ++ receipt ∷ []) (place + 1)
one_found accesses callers found receipts place access receipt served in' read before below told =
    let made : slice_get accesses place ≡ Some access = slice_get_read accesses (length accesses) place access refl in' read in
    let told' : HasReceipt callers access.site (earlier access.site accesses place) receipt =
    subst (λ n. HasReceipt callers access.site n receipt) (before.of_site access.site (omega (arith, before.sites))) told in
    let this : IsReceiptOf accesses callers place receipt =
    record { access = access; made = made; told = told'; serves = own_receipt accesses callers place access receipt served made told' } in
    record {
      sites = length-set found access.site (slice_index found access.site + 1) ∙ before.sites;
      count = omega (arith, length-append receipts (receipt ∷ []), before.count);
      each = λ k r at.
          elim (at_end receipts receipt k r at) [
            | inl h ↦ before.each k r h
            | inr h ↦ subst (λ n. IsReceiptOf accesses callers n r) (sym (h.0 ∙ before.count)) (subst (IsReceiptOf accesses callers place) h.1 this)
          ];
      of_site = λ site few.
          count_more found accesses place access site (access.site == site) refl below (before.of_site site few)
          (length-filter_more (λ (a : WorkloadAccess). a.site == site) accesses place access in' ∙ ap (λ (a : WorkloadAccess). earlier site accesses place + cond (a.site == site) 1 0) (sym read));
    }

no_count : (n site : ℕ) → slice_index (replicate n 0) site ≡ 0
no_count zero site = refl
no_count (suc n) zero = refl
no_count (suc n) (suc site) = no_count n site

pub none_told : {A : Type 0} (accesses : List WorkloadAccess) (callers : List (Vec Receipt A)) (empty text : List ℕ) → empty ≡ []
    → text ≡ empty ++ line_text 1 (codes "ready") → AreTold accesses callers (replicate 16 0) text 0
none_told accesses callers empty text none ready =
    record { receipts = []; found = none_found accesses callers (replicate 16 0) refl (no_count 16); told = ready ∙ ap (λ l. l ++ line_text 1 (codes "ready")) none ∙ sym (append-nil (line_text 1 (codes "ready"))) }

pub one_told : {A : Type 0} (accesses : List WorkloadAccess) (callers : List (Vec Receipt A)) (told_of told_of' text text' : List ℕ) (place number : ℕ) (access : WorkloadAccess)
    → AllServed (length callers) accesses callers → place < length accesses → access ≡ get_or accesses place access → AreTold accesses callers told_of text place
    → number ≡ place + 2 → access.site < length told_of → TellsReceipt callers access.site (slice_index told_of access.site) number text text'
    → told_of' ≡ slice_set told_of access.site (slice_index told_of access.site + 1) → AreTold accesses callers told_of' text' (place + 1)
one_told accesses callers told_of told_of' text text' place number access served in' read before next below (receipt, found, told) more =
    let ready = line_text 1 (codes "ready") in
    let now = one_found accesses callers told_of before.receipts place access receipt served in' read before.found below found in
    record {
      receipts = before.receipts ++ receipt ∷ [];
      found = subst (λ counts. AreFound accesses callers counts (before.receipts ++ receipt ∷ []) (place + 1)) (sym more) now;
      told = told ∙ ap (λ l. l ++ one_line number receipt) before.told
          ∙ append_assoc ready (answers_text 2 before.receipts) (one_line number receipt)
          ∙ ap (λ l. ready ++ l) (sym (answers_text-push 2 number before.receipts receipt (omega (arith, next, before.found.count))));
    }

pub all_told : {A : Type 0} (accesses : List WorkloadAccess) (callers : List (Vec Receipt A)) (told_of text : List ℕ) (place : ℕ)
    → place ≡ length accesses → AreTold accesses callers told_of text place → TellsLines accesses callers text
all_told accesses callers told_of text place whole all =
    (all.receipts, record { count = all.found.count ∙ whole; each = all.found.each }, all.told)
