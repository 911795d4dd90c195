-- Where all were served, each access has its receipt.
use Rattle.std.proofs.Common.{◌≡◌, ◌≤◌, ◌<◌, ◌==◌, ◌⊎◌, inl, inr, ℕ, zero, suc, List, [], ◌∷◌, ◌++◌, Bool, Some, length, take, get_or, slice_get, slice_index, refl, subst, sym, arith}
use Rattle.std.specs.List.{AllZip, filter}
use Rattle.std.specs.Prelude.{Vec}
use Rattle.std.proofs.lemmas.Option.{get_or_from_slice_get, slice_get_read}
use Rattle.shm_logs.specs.declared.site_boxes.receipt.Receipt.{Receipt}
use Rattle.shm_lines.specs.declared.workload_access.WorkloadAccess.{WorkloadAccess}
use Rattle.shm_report.specs.Audited.{IsAccepted}
use Rattle.shm_report.specs.Callers.{AllServed, AreOf, Serves, ServesAll}
use Rattle.shm_report.specs.declared.audited_run.Audited.{Audited}
use Rattle.shm_report.specs.Report.{earlier, HasReceipt, LacksReceipt}
use Rattle.shm_report.specs.declared.report_error.ReportFault.{ReportFault}
use Rattle.shm_report.specs.declared.report_error.ReportFault.TheVariants as report
use Rattle.shm_report.proofs.Found.{AreTold, cut_at, own_site}

-- in a line-up of lines and receipts there is one behind as many as before the line
zip_has : (before : List WorkloadAccess) (x : WorkloadAccess) (after : List WorkloadAccess) (receipts : List Receipt) → AllZip Serves (before ++ x ∷ after) receipts
    → (receipt : Receipt) × (slice_get receipts (length before) ≡ Some receipt)
zip_has [] x after [] served = absurd served
zip_has [] x after (receipt ∷ others) served = (receipt, refl)
zip_has (b ∷ before) x after [] served = absurd served
zip_has (b ∷ before) x after (receipt ∷ others) served = zip_has before x after others served.1

item : {X : Type 0} (xs : List X) (place : ℕ) → place < length xs → (x : X) × (slice_get xs place ≡ Some x)
item [] place below = absurd (omega (arith, below))
item (x ∷ xs) zero below = (x, refl)
item (x ∷ xs) (suc place) below = item xs place (omega (arith, below))

has_receipt : {A : Type 0} (accesses : List WorkloadAccess) (callers : List (Vec Receipt A)) (place : ℕ) (access : WorkloadAccess)
    → AllServed (length callers) accesses callers → slice_get accesses place ≡ Some access → access.site < length callers
    → (receipt : Receipt) × HasReceipt callers access.site (earlier access.site accesses place) receipt
has_receipt {A} accesses callers place access served made below =
    let site = access.site in
    let test : WorkloadAccess → Bool = λ a. a.site == site in
    let own = item callers site below in
    let caller : Vec Receipt A = own.0 in
    let all : ServesAll site accesses caller.items =
    subst (λ caller. ServesAll site accesses caller.items) (get_or_from_slice_get callers site caller caller own.1) (served.each site caller below) in
    let cut = cut_at test accesses place access made (own_site site) in
    let P : List WorkloadAccess → Type 0 = λ lines. AllZip Serves lines caller.items in
    let there = zip_has (filter test (take place accesses)) access cut.0 caller.items (subst P cut.1 all) in
    (there.0, record { caller = caller; own = own.1; there = there.1 })

-- no access lacks its receipt
unlacked : {A : Type 0} (accesses : List WorkloadAccess) (callers : List (Vec Receipt A)) (told_of text : List ℕ) (place : ℕ) (access : WorkloadAccess)
    → AllServed (length callers) accesses callers → AreOf (length callers) accesses → length callers ≤ 16
    → place < length accesses → access ≡ get_or accesses place access → AreTold accesses callers told_of text place
    → LacksReceipt callers access.site (slice_index told_of access.site) → ⊥
unlacked accesses callers told_of text place access served among few in' read told (inr none) =
    let made = slice_get_read accesses (length accesses) place access refl in' read in
    let below = among place access made in omega (arith, few, none, below)
unlacked accesses callers told_of text place access served among few in' read told (inl none) =
    let made = slice_get_read accesses (length accesses) place access refl in' read in
    let below = among place access made in
    let has = has_receipt accesses callers place access served made below in
    none has.0 (subst (λ n. HasReceipt callers access.site n has.0) (sym (told.found.of_site access.site (omega (arith, few, below)))) has.1)

-- so only memory is refused
pub only_memory : {A : Type 0} (accesses : List WorkloadAccess) (callers : List (Vec Receipt A)) (told_of text : List ℕ) (place : ℕ) (access : WorkloadAccess) (fault : ReportFault)
    → AllServed (length callers) accesses callers → AreOf (length callers) accesses → length callers ≤ 16
    → place < length accesses → access ≡ get_or accesses place access → AreTold accesses callers told_of text place
    → (fault ≡ report.OutOfMemory) ⊎ ((fault ≡ report.Logs) × LacksReceipt callers access.site (slice_index told_of access.site)) → fault ≡ report.OutOfMemory
only_memory accesses callers told_of text place access fault served among few in' read told (inl memory) = memory
only_memory accesses callers told_of text place access fault served among few in' read told (inr lacks) =
    absurd (unlacked accesses callers told_of text place access served among few in' read told lacks.1)

-- so, where all was served to callers of at most 16 sites
abbrev pub OnlyMemory : {A : Type 0} → List WorkloadAccess → List (Vec Receipt A) → ReportFault → Type 0
OnlyMemory accesses callers fault =
    AllServed (length callers) accesses callers → AreOf (length callers) accesses → length callers ≤ 16 → fault ≡ report.OutOfMemory

-- as it was in an accepted run
pub memory_alone : (run : Audited) (fault : ReportFault) → IsAccepted run → AreOf run.sites run.workload.accesses.items → run.sites ≤ 16
    → OnlyMemory run.workload.accesses.items run.ran.callers.items fault → fault ≡ report.OutOfMemory
memory_alone run fault run_is among few memory =
    let accesses = run.workload.accesses.items in
    let callers = run.ran.callers.items in
    let count = run_is.served.count in
    memory (subst (λ n. AllServed n accesses callers) (sym count) run_is.served) (subst (λ n. AreOf n accesses) (sym count) among) (omega (arith, count, few))
