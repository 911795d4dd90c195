-- What a step leaves of a site's attachments: all but one that is detached, and no number is new but the least free one.
use Rattle.std.proofs.Common.{◌≡◌, ℕ, zero, suc, ◌+◌, ◌<◌, ◌≤◌, ⊎_elim, Bool, true, false, List, ◌==◌, ◌||◌, Option, Some, None, cond, find, is_none, refl, sym, ap, ◌∙◌, subst, arith}
use Rattle.std.specs.List.{AllByRecursion, list_any, range_with_len}
use Rattle.std.proofs.lemmas.Bool.{cases_eq}
use Rattle.std.proofs.lemmas.Bool.Decides.{nat_tests}
use Rattle.shm_model.specs.declared.answer.Answer.{Answer}
use Rattle.shm_model.specs.declared.call.Request.TheVariants.{DetachAt}
use Rattle.shm_model.specs.Basics.{at}
use Rattle.shm_model.specs.Calls.{Attachment}
use Rattle.shm_model.specs.Message.{Envelope, Input, Begin}
use Rattle.shm_model.specs.Site.{Site, is_attached, is_attachment_of, least_free}
use Rattle.shm_model.specs.Step.{step}
use Rattle.shm_laws.proofs.Call.Turn.{Desk, Turn, attachment_of, again, attached, detach_begun, ended, executed, hears_purged, old, op_begun, purges_one, quiet}
use Rattle.shm_laws.proofs.Call.Turns.{turn-step}
use Rattle.shm_laws.proofs.Kernel.Lists.{every-weaker, find-passes, found-holds}
use Rattle.shm_laws.proofs.Page.Entry.{false-true}
use Rattle.shm_kept.specs.Kept.{AreNumbered}

-- ---- the least free number

range-below : (from n : ℕ) → AllByRecursion (λ a. a < from + n) (range_with_len from n)
range-below from zero = tt
range-below from (suc n) = (omega arith, every-weaker (λ a. a < (from + 1) + n) (λ a. a < from + suc n) (λ a low. omega arith) (range_with_len (from + 1) n) (range-below (from + 1) n))

none-is : (x : Option Attachment) → is_none x ≡ true → x ≡ None
none-is None h = refl
none-is (Some x) h = cc

free-below : (attachments : ℕ → Option Attachment) (n a : ℕ) → find (λ b. is_none (attachments b)) (range_with_len 0 n) ≡ Some a → a < n
free-below attachments n a found =
    let h = found-holds (λ b. b < 0 + n) (λ b. is_none (attachments b)) (range_with_len 0 n) a (range-below 0 n) found in omega arith

least-is : (attachments : ℕ → Option Attachment) (a : ℕ) → least_free attachments ≡ Some a → (attachments a ≡ None) × (a < 64)
unfolding least_free
least-is attachments a found = (
  none-is (attachments a) (find-passes (λ b. is_none (attachments b)) (range_with_len 0 64) a found),
  free-below attachments 64 a found,
)

-- ---- a step

-- the input detaches this attachment
abbrev pub detaches : Input → ℕ → Bool
detaches (Begin (DetachAt a)) b = a == b
detaches _ b = false

abbrev Low : (ℕ → Option Attachment) → Type 0
Low attachments = (a : ℕ) (x : Attachment) → attachments a ≡ Some x → a < 64

-- what stands stays, but for these
record Stay (gone : ℕ → Bool) (was new : ℕ → Option Attachment) : Type 0 where
  pub stands : (a : ℕ) (x : Attachment) → gone a ≡ false → was a ≡ Some x → new a ≡ Some x
  pub low : Low was → Low new

stay-same : (gone : ℕ → Bool) (was : ℕ → Option Attachment) → Stay gone was was
stay-same gone was = record { stands = λ a x here is. is; low = λ h. h }

-- one is taken away
cleared-if : (same : Bool) (x : Option Attachment) (y : Attachment) → same ≡ false → x ≡ Some y → cond same None x ≡ Some y
cleared-if true x y is e = absurd (false-true (sym is))
cleared-if false x y is e = e

cleared-was : (same : Bool) (x : Option Attachment) (y : Attachment) → cond same None x ≡ Some y → x ≡ Some y
cleared-was true x y e = absurd (cc)
cleared-was false x y e = e

stay-cleared : (b : ℕ) (was : ℕ → Option Attachment) → Stay (λ a. b == a) was (at was b None)
stay-cleared b was = record {
  stands = λ a x here is. cleared-if (b == a) (was a) x here is;
  low = λ h a x is. h a x (cleared-was (b == a) (was a) x is);
}

-- one comes to stand at a free number
put-if : (same : Bool) (b a : ℕ) (was : ℕ → Option Attachment) (x y : Attachment) → (b == a) ≡ same → was b ≡ None → was a ≡ Some y → cond same (Some x) (was a) ≡ Some y
put-if true b a was x y is free e =
    let here : b ≡ a = grind (arith, nat_tests) in
    let gone : was a ≡ None = subst (λ k. was k ≡ None) here free in
    let no : None ≡ Some y = sym gone ∙ e in absurd (cc)
put-if false b a was x y is free e = e

put-low : (same : Bool) (b a : ℕ) (was : ℕ → Option Attachment) (x y : Attachment) → (b == a) ≡ same → b < 64 → Low was → cond same (Some x) (was a) ≡ Some y → a < 64
put-low true b a was x y is below low e = grind (arith, nat_tests)
put-low false b a was x y is below low e = low a y e

stay-put : (gone : ℕ → Bool) (b : ℕ) (was : ℕ → Option Attachment) (x : Attachment) → was b ≡ None → b < 64 → Stay gone was (at was b (Some x))
stay-put gone b was x free below = record {
  stands = λ a y here is. put-if (b == a) b a was x y refl free is;
  low = λ h a y is. put-low (b == a) b a was x y refl below h is;
}

stay-turn : (sites me : ℕ) (d e : Desk) (input : Input) (answer : Answer) (sent : List Envelope) → Turn sites me d input e answer sent
    → Stay (detaches input) d.attachments e.attachments
stay-turn sites me d e input answer sent (quiet i b ms silent plain repeats) = stay-same (detaches input) d.attachments
stay-turn sites me d e input answer sent (op_begun op free undetached) = stay-same (detaches input) d.attachments
stay-turn sites me d e input answer sent (detach_begun a y free stands) = stay-cleared a d.attachments
stay-turn sites me d e input answer sent (executed x n op is fresh) = stay-same (detaches input) d.attachments
stay-turn sites me d e input answer sent (again x n op reply is fresh) = stay-same (detaches input) d.attachments
stay-turn sites me d e input answer sent (old x n op is fresh) = stay-same (detaches input) d.attachments
stay-turn sites me d e input answer sent (ended x n op reply is outstanding unattached) = stay-same (detaches input) d.attachments
stay-turn sites me d e input answer sent (attached x n cred id ro y a is outstanding free) =
    let least = least-is d.attachments a free in stay-put (detaches input) a d.attachments (attachment_of id y) least.0 least.1
stay-turn sites me d e input answer sent (purges_one x id is) = stay-same (detaches input) d.attachments
stay-turn sites me d e input answer sent (hears_purged x id is) = stay-same (detaches input) d.attachments

step-stay : (sites me : ℕ) (site : Site) (input : Input) → Stay (detaches input) site.attachments (step sites me site input).site.attachments
step-stay sites me site input = stay-turn sites me _ _ input _ _ (turn-step sites me site input)

-- an attachment that isn't detached stands after the step
pub stands-after : (sites me : ℕ) (site : Site) (input : Input) (a : ℕ) (x : Attachment) → detaches input a ≡ false → site.attachments a ≡ Some x
    → (step sites me site input).site.attachments a ≡ Some x
stands-after sites me site input = (step-stay sites me site input).stands

pub numbered-after : (sites me : ℕ) (site : Site) (input : Input) → AreNumbered site → AreNumbered (step sites me site input).site
numbered-after sites me site input = (step-stay sites me site input).low

-- ---- an attachment with a number that there is names its segment

or-right : (x y : Bool) → y ≡ true → (x || y) ≡ true
or-right true y e = refl
or-right false y e = e

any-at : (p : ℕ → Bool) (n from a : ℕ) → from ≤ a → a < from + n → p a ≡ true → list_any p (range_with_len from n) ≡ true
any-at p zero from a low below is = absurd (omega (arith, low, below))
any-at p (suc n) from a low below is =
    ⊎_elim (λ same. ap (λ b. b || list_any p (range_with_len (from + 1) n)) (ap p same ∙ is))
    (λ other. or-right (p from) (list_any p (range_with_len (from + 1) n)) (any-at p n (from + 1) a (omega (arith, low, other)) (omega (arith, below)) is))
    (cases_eq from a)

same-id : (id : ℕ) → (id == id) ≡ true
same-id id = grind (arith, nat_tests)

zero-low : (a : ℕ) → 0 ≤ a
zero-low a = omega arith

pub names-segment : (site : Site) (a : ℕ) (x : Attachment) → AreNumbered site → site.attachments a ≡ Some x → is_attached site x.id ≡ true
unfolding is_attached
names-segment site a x numbered is =
    any-at (λ i. is_attachment_of x.id (site.attachments i)) 64 0 a (zero-low a) (numbered a x is) (ap (is_attachment_of x.id) is ∙ same-id x.id)
