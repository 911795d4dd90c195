-- Lines that a journal may have: no line feed, and few enough bytes.
use Rattle.std.proofs.Common.{◌≡◌, ◌≤◌, ℕ, ◌+◌, ◌==◌, ◌&&◌, Bool, true, false, not, List, [], ◌∷◌, ◌++◌, get_or, length, nat_lt, refl, rules, arith}
use Rattle.std.specs.Prelude.{codes, IfSome, None, Option, Some}
use Rattle.std.specs.Char.{is_ascii_graphic}
use Rattle.std.specs.Fmt.{decimal}
use Rattle.std.specs.Int.{IsInRange}
use Rattle.std.specs.List.{join_with_byte, list_all}
use Rattle.std.specs.Str.Parse.{digits_value}
use Rattle.std.proofs.lemmas.Bool.Decides.{nat_tests}
use Rattle.std.proofs.lemmas.Fmt.{digits_decimal, length-decimal-le}
use Rattle.std.proofs.lemmas.List.{length-append}
use Rattle.std.proofs.lemmas.List.Elements.{All-append, All-cons, All-from_get_or, All-nil, All-weaker}
use Rattle.std.proofs.lemmas.List.Sums.{AllPass-from_list_all}
use Rattle.std.proofs.lemmas.Str.Parse.{IsNumeralModel, numerals_by_value}
use Rattle.std.specs.Char.{is_ascii_digit}
use Rattle.shm_lines.proofs.NumberLemmas.{digit_at}
use Rattle.shm_lines.specs.Words.{IsNumber, IsWide}
use Rattle.shm_model.specs.declared.asked_access.Asked.{Asked}
use Rattle.shm_model.specs.declared.asked_access.Asked.TheVariants.{Load, Store}
use Rattle.shm_model.specs.declared.request_kind.Kind.{Kind}
use Rattle.shm_model.specs.declared.request_kind.Kind.TheVariants.{Read, Write}
use Rattle.shm_wire.specs.Asks.{Ask, IsAsk}
use Rattle.shm_wire.specs.Line as stream
use Rattle.shm_wire.specs.Tag.{IsTag}
use Rattle.shm_wire.specs.Unmaps.{IsUnmap, UnmapAsk}
use Rattle.shm_process.specs.Access.{access_ask}
use Rattle.shm_process.specs.Cause.{cause_text}
use Rattle.shm_process.specs.Causes.{bare}
use Rattle.shm_process.specs.Desk.{max_line_bytes}
use Rattle.shm_process.specs.Recorded.{Entry, entry_line}
use Rattle.shm_process.proofs.DeskEvents.{trying}
use Rattle.shm_journal.specs.Found.{max_journal_line}
use Rattle.shm_journal.specs.Lines.{Header, IsHeader, cluster_words, header_line}
use Rattle.shm_seal.specs.Name.{IsName}
use Rattle.shm_journal.specs.LinesOf.{Unended}

abbrev pub IsNoFeed : ℕ → Type 0
IsNoFeed byte = (byte == 10) ≡ false

-- so many bytes at most, and no line feed
pub record Fits (most : ℕ) (bytes : List ℕ) : Type 0 where
  pub unended : Unended bytes
  pub short : length bytes ≤ most

-- ---- texts one after another

pub fits-both : (a b : ℕ) (xs ys : List ℕ) → Fits a xs → Fits b ys → Fits (a + b) (xs ++ ys)
fits-both a b xs ys f g = record {
  unended = All-append IsNoFeed xs ys f.unended g.unended;
  short = omega (arith, length-append xs ys, f.short, g.short);
}

pub fits-more : (a b : ℕ) (xs : List ℕ) → a ≤ b → Fits a xs → Fits b xs
fits-more a b xs h f = record { unended = f.unended; short = omega (arith, h, f.short) }

fits-behind_blank : (b : ℕ) (xs : List ℕ) → Fits b xs → Fits (b + 1) (32 ∷ xs)
fits-behind_blank b xs f = record { unended = All-cons IsNoFeed 32 xs refl f.unended; short = omega (arith, f.short) }

pub fits-word : (a b : ℕ) (word rest : List ℕ) → Fits a word → Fits b rest → Fits (a + (b + 1)) (word ++ 32 ∷ rest)
fits-word a b word rest f g = fits-both a (b + 1) word (32 ∷ rest) f (fits-behind_blank b rest g)

-- ---- words

abbrev pub has_no_feed : List ℕ → Bool
has_no_feed [] = true
has_no_feed (x ∷ xs) = not (x == 10) && has_no_feed xs

both-so : (a b : Bool) → (not a && b) ≡ true → (a ≡ false) × (b ≡ true)
both-so true b e = absurd (cc)
both-so false b e = (refl, e)

pub unended_test : (word : List ℕ) → has_no_feed word ≡ true → Unended word
unended_test [] h = All-nil IsNoFeed
unended_test (x ∷ xs) h = let p = both-so (x == 10) (has_no_feed xs) h in All-cons IsNoFeed x xs p.0 (unended_test xs p.1)

-- a word that is written out
pub fits-text : (word : List ℕ) → has_no_feed word ≡ true → Fits (length word) word
fits-text word h = record { unended = unended_test word h; short = omega arith }

own : IsNumeralModel (λ ds. list_all is_ascii_digit ds ≡ true) (digits_value 10)
own = numerals_by_value (λ ds. list_all is_ascii_digit ds ≡ true) (search rules)

digit-is_no_feed : (c : ℕ) → IsInRange 48 57 c → (c == 10) ≡ false
digit-is_no_feed c r = grind (arith, nat_tests)

pub fits-wide : (n : ℕ) → IsWide n → Fits 20 (decimal n)
fits-wide n h = record {
  unended = All-from_get_or IsNoFeed (decimal n) 0 (λ i lt. digit-is_no_feed (get_or (decimal n) i 0) (digit_at (decimal n) i (digits_decimal own n h) lt));
  short = length-decimal-le 20 n (omega arith) (omega arith) h;
}

wide-number : (n : ℕ) → IsNumber n → IsWide n
wide-number n h = omega (arith, h)

pub fits-number : (n : ℕ) → IsNumber n → Fits 20 (decimal n)
fits-number n h = fits-wide n (wide-number n h)

graphic-is_no_feed : (c : ℕ) → is_ascii_graphic c ≡ true → (c == 10) ≡ false
graphic-is_no_feed c h = grind (arith, nat_tests)

tag-parts : (a b c : Bool) → (a && b && c) ≡ true → (b ≡ true) × (c ≡ true)
tag-parts true true true h = (refl, refl)
tag-parts true true false h = absurd (cc)
tag-parts true false c h = absurd (cc)
tag-parts false b c h = absurd (cc)

few : (n : ℕ) → nat_lt n 33 ≡ true → n ≤ 32
few n h = grind (arith, nat_tests)

pub fits-tag : (tag : List ℕ) → IsTag tag → Fits 32 tag
fits-tag tag h =
    let p = tag-parts (nat_lt 0 (length tag)) (nat_lt (length tag) 33) (list_all is_ascii_graphic tag) h in
    record {
      unended = All-weaker (λ c. is_ascii_graphic c ≡ true) IsNoFeed graphic-is_no_feed tag (AllPass-from_list_all is_ascii_graphic tag p.1);
      short = few (length tag) p.0;
    }

-- the last words of a header
fits-cluster : (pages : ℕ) (cluster : Option (List ℕ)) → IsNumber pages → IfSome cluster IsName → Fits 54 (join_with_byte 32 (decimal pages ∷ cluster_words cluster))
fits-cluster pages None h is = fits-more 20 54 (decimal pages) (omega arith) (fits-number pages h)
fits-cluster pages (Some name) h is = fits-word 20 33 (decimal pages) (64 ∷ name) (fits-number pages h) (fits-both 1 32 (64 ∷ []) name (fits-text (64 ∷ []) refl) (fits-tag name is))

-- ---- lines

pub fits-header : (header : Header) → IsHeader header → Fits max_journal_line (header_line header)
fits-header header h =
    fits-more 104 max_journal_line (header_line header) (omega arith)
    (
    fits-word 7 96 (codes "journal") _ (fits-text (codes "journal") refl)
    (fits-word 20 75 (decimal header.sites) _ (fits-number header.sites h.0)
    (fits-word 20 54 (decimal header.me) _ (fits-number header.me h.1) (fits-cluster header.pages header.cluster h.2 h.3)))
    )

-- what asks for an access
pub fits-access : (me : ℕ) (tag : List ℕ) (asked : Asked) → IsAsk (access_ask me tag asked) → Fits max_line_bytes (stream.line_text (stream.Ask (access_ask me tag asked)))
fits-access me tag (Load at offset) h =
    fits-more 105 max_line_bytes _ (omega arith)
    (
    fits-word 3 101 (codes "ask") _ (fits-text (codes "ask") refl)
    (fits-word 20 80 (decimal me) _ (fits-number me h.0)
    (fits-word 32 47 tag _ (fits-tag tag h.1)
    (fits-word 4 42 (codes "load") _ (fits-text (codes "load") refl)
    (fits-word 20 21 (decimal at) _ (fits-number at h.2.0) (fits-more 20 21 (decimal offset) (omega arith) (fits-number offset h.2.1))))))
    )
fits-access me tag (Store at offset byte) h =
    let small : IsNumber byte = omega (arith, h.2.2) in
    fits-more 127 max_line_bytes _ (omega arith)
    (
    fits-word 3 123 (codes "ask") _ (fits-text (codes "ask") refl)
    (fits-word 20 102 (decimal me) _ (fits-number me h.0)
    (fits-word 32 69 tag _ (fits-tag tag h.1)
    (fits-word 5 63 (codes "store") _ (fits-text (codes "store") refl)
    (fits-word 20 42 (decimal at) _ (fits-number at h.2.0)
    (fits-word 20 21 (decimal offset) _ (fits-number offset h.2.1) (fits-more 20 21 (decimal byte) (omega arith) (fits-number byte small)))))))
    )

-- what is asked, behind a site and a tag
fits-asked : (site : ℕ) (tag rest : List ℕ) → IsNumber site → IsTag tag → Fits 73 rest → Fits max_line_bytes (codes "ask" ++ 32 ∷ (decimal site ++ 32 ∷ (tag ++ 32 ∷ rest)))
fits-asked site tag rest s t f =
    fits-more 131 max_line_bytes _ (omega arith)
    (
    fits-word 3 127 (codes "ask") _ (fits-text (codes "ask") refl)
    (fits-word 20 106 (decimal site) _ (fits-number site s) (fits-word 32 73 tag rest (fits-tag tag t) f))
    )

-- an access that is tried
pub fits-try : (ask : Ask) (asked : Asked) → IsAsk (trying ask asked) → Fits max_line_bytes (stream.line_text (stream.Ask (trying ask asked)))
fits-try ask (Load at offset) h =
    fits-asked ask.site ask.tag _ h.0 h.1
    (
    fits-more 51 73 _ (omega arith)
    (fits-word 8 42 (codes "try-load") _ (fits-text (codes "try-load") refl)
    (fits-word 20 21 (decimal at) _ (fits-number at h.2.0) (fits-more 20 21 (decimal offset) (omega arith) (fits-number offset h.2.1))))
    )
fits-try ask (Store at offset byte) h =
    let small : IsNumber byte = omega (arith, h.2.2) in
    fits-asked ask.site ask.tag _ h.0 h.1
    (
    fits-word 9 63 (codes "try-store") _ (fits-text (codes "try-store") refl)
    (fits-word 20 42 (decimal at) _ (fits-number at h.2.0)
    (fits-word 20 21 (decimal offset) _ (fits-number offset h.2.1) (fits-more 20 21 (decimal byte) (omega arith) (fits-number byte small))))
    )

-- a mapping that is given up, and brings no bytes
fits-words : (at index : ℕ) (verb : List ℕ) (keeps : List ℕ) → IsNumber at → IsNumber index → Fits 5 verb → Fits 4 keeps
    → Fits 73 (verb ++ 32 ∷ (decimal at ++ 32 ∷ (decimal index ++ 32 ∷ keeps)))
fits-words at index verb keeps a i v k =
    fits-more 52 73 _ (omega arith)
    (fits-word 5 46 verb _ v (fits-word 20 25 (decimal at) _ (fits-number at a) (fits-word 20 4 (decimal index) keeps (fits-number index i) k)))

fits-kept : (site : ℕ) (tag : List ℕ) (at index : ℕ) (keeps : Option Kind) → IsNumber site → IsTag tag → IsNumber at → IsNumber index
    → Fits max_line_bytes (stream.line_text (stream.Unmap (record { site = site; tag = tag; at = at; index = index; keeps = keeps; runs = [] })))
fits-kept site tag at index None s t a i =
    fits-asked site tag _ s t (fits-words at index (codes "unmap") (codes "none") a i (fits-text (codes "unmap") refl) (fits-text (codes "none") refl))
fits-kept site tag at index (Some Read) s t a i =
    fits-asked site tag _ s t (fits-words at index (codes "unmap") (codes "read") a i (fits-text (codes "unmap") refl) (fits-text (codes "read") refl))
fits-kept site tag at index (Some Write) s t a i =
    fits-asked site tag _ s t
    (
    fits-more 46 73 _ (omega arith)
    (fits-word 4 41 (codes "sync") _ (fits-text (codes "sync") refl) (fits-word 20 20 (decimal at) _ (fits-number at a) (fits-number index i)))
    )

pub fits-unmap : (ask : UnmapAsk) → IsUnmap (bare ask) → Fits max_line_bytes (stream.line_text (stream.Unmap (bare ask)))
fits-unmap ask h = fits-kept ask.site ask.tag ask.at ask.index ask.keeps h.0 h.1 h.2 h.3

pub fits-restart : Fits max_line_bytes (codes "restart")
fits-restart = fits-more 7 max_line_bytes (codes "restart") (omega arith) (fits-text (codes "restart") refl)

-- what records steps that were made by a text of a line's length
pub fits-entry : (entry : Entry) → IsWide entry.clock → Fits max_line_bytes (cause_text entry.cause) → Fits max_journal_line (entry_line entry)
fits-entry entry clock text =
    fits-both 5 8213 (codes "step ") (decimal entry.clock ++ 32 ∷ cause_text entry.cause) (fits-text (codes "step ") refl)
    (fits-word 20 8192 (decimal entry.clock) (cause_text entry.cause) (fits-wide entry.clock clock) text)
