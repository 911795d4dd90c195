-- The words of a header: what is read is spelled so, and what is spelled so is read.
use Rattle.std.proofs.Common.{◌≡◌, ℕ, ◌==◌, Bool, true, false, List, [], ◌∷◌, Option, None, Some, cond, refl, sym, ap, subst, ◌∙◌, arith}
use Rattle.std.specs.Prelude.{codes, IfSome, option_and_then, option_map}
use Rattle.std.proofs.lemmas.Bool.Decides.{nat_tests}
use Rattle.std.proofs.lemmas.List.Elements.{All-cons}
use Rattle.std.specs.Fmt.{decimal}
use Rattle.std.specs.List.{join_with_byte}
use Rattle.std.proofs.lemmas.List.Splits.{join_with_byte-slice_split}
use Rattle.shm_lines.proofs.NumberWords.{number}
use Rattle.shm_lines.proofs.ReadLemmas.{onto}
use Rattle.shm_lines.proofs.StepLemmas.{NoBlanks, NoBlank-test, words_of-join}
use Rattle.shm_lines.specs.Words.{words_of}
use Rattle.shm_seal.specs.Name.{IsName, is_name, name_if_one}
use Rattle.shm_wire.proofs.Reading.{after_verb, prints, took, took_verb}
use Rattle.shm_wire.proofs.TagWords.{tag}
use Rattle.shm_journal.specs.Lines.{Header, IsHeader, cluster_after, cluster_named, cluster_words, header_after, header_line, read_header}

-- ---- the cluster's name

at-sign : (byte : ℕ) → (byte == 64) ≡ true → byte ≡ 64
at-sign byte h = grind (arith, nat_tests)

name-is : (b : Bool) (word name : List ℕ) → is_name word ≡ b → cond b (Some word) None ≡ Some name → (word ≡ name) × IsName name
name-is true word name is h = let same : word ≡ name = cc in (same, subst IsName same is)
name-is false word name is h = absurd (cc)

signed-is : (b : Bool) (byte : ℕ) (word name : List ℕ) → (byte == 64) ≡ b → cond b (name_if_one word) None ≡ Some name → (byte ∷ word ≡ 64 ∷ name) × IsName name
signed-is true byte word name is h =
    let n = name-is (is_name word) word name refl h in
    (ap (λ x. x ∷ word) (at-sign byte is) ∙ ap (λ w. 64 ∷ w) n.0, n.1)
signed-is false byte word name is h = absurd (cc)

named-is : (word name : List ℕ) → cluster_named word ≡ Some name → (word ≡ 64 ∷ name) × IsName name
named-is [] name h = absurd (cc)
named-is (byte ∷ word) name h = signed-is (byte == 64) byte word name refl h

one-is : (word : List ℕ) (read : Option (List ℕ)) (cluster : Option (List ℕ)) → cluster_named word ≡ read → option_map Some read ≡ Some cluster
    → (word ∷ [] ≡ cluster_words cluster) × IfSome cluster IsName
one-is word None cluster is h = absurd (cc)
one-is word (Some name) cluster is h =
    let n = named-is word name is in
    let same : Some name ≡ cluster = cc in
    subst (λ c. (word ∷ [] ≡ cluster_words c) × IfSome c IsName) same (ap (λ w. w ∷ []) n.0, n.1)

cluster-is : (words : List (List ℕ)) (cluster : Option (List ℕ)) → cluster_after words ≡ Some cluster → (words ≡ cluster_words cluster) × IfSome cluster IsName
cluster-is [] cluster h =
    let none : Option (List ℕ) = None in
    let same : none ≡ cluster = cc in
    subst (λ c. ([] ≡ cluster_words c) × IfSome c IsName) same (refl, tt)
cluster-is (word ∷ []) cluster h = one-is word (cluster_named word) cluster refl h
cluster-is (word ∷ other ∷ words) cluster h = absurd (cc)

header-from : (sites me pages : ℕ) (words : List (List ℕ)) (read : Option (Option (List ℕ))) (header : Header) → cluster_after words ≡ read
    → option_and_then (λ cluster. Some (record { sites = sites; me = me; pages = pages; cluster = cluster })) read ≡ Some header
    → (words ≡ cluster_words header.cluster) × IfSome header.cluster IsName × (record { sites = sites; me = me; pages = pages; cluster = header.cluster } ≡ header)
header-from sites me pages words None header is h = absurd (cc)
header-from sites me pages words (Some cluster) header is h =
    let c = cluster-is words cluster is in
    let whole : Header = record { sites = sites; me = me; pages = pages; cluster = cluster } in
    let same : whole ≡ header = cc in
    subst (λ (x : Header). (words ≡ cluster_words x.cluster) × IfSome x.cluster IsName × (record { sites = sites; me = me; pages = pages; cluster = x.cluster } ≡ x)) same (c.0, c.1, refl)

cluster-prints : (cluster : Option (List ℕ)) → IfSome cluster IsName → cluster_after (cluster_words cluster) ≡ Some cluster
cluster-prints None is = refl
cluster-prints (Some name) is = ap (λ b. option_map Some (cond b (Some name) None)) is

cluster-unparted : (cluster : Option (List ℕ)) → IfSome cluster IsName → NoBlanks (cluster_words cluster)
cluster-unparted None is = tt
cluster-unparted (Some name) is = (All-cons (λ byte. (byte == 32) ≡ false) 64 name refl (tag.unparted name is), tt)

-- ---- the header

pub header-is_spelled : (line : List ℕ) (header : Header) → read_header line ≡ Some header → IsHeader header × (line ≡ header_line header)
header-is_spelled line header h =
    let v = took_verb (codes "journal") header_after (words_of line) header h in
    let s = took number v.others _ header v.gives in
    let m = took number s.others _ header s.gives in
    let p = took number m.others _ header m.gives in
    let d = header-from s.value m.value p.value p.others (cluster_after p.others) header refl p.gives in
    let words : words_of line ≡ codes "journal" ∷ decimal s.value ∷ decimal m.value ∷ decimal p.value ∷ cluster_words header.cluster =
    onto v.are (onto s.are (onto m.are (onto p.are d.0))) in
    subst (λ x. IsHeader x × (line ≡ header_line x)) d.2 ((s.is, m.is, p.is, d.1), sym (join_with_byte-slice_split 32 line) ∙ ap (join_with_byte 32) words)

pub header-is_read : (header : Header) → IsHeader header → read_header (header_line header) ≡ Some header
header-is_read header h =
    let last = cluster_words header.cluster in
    let all : NoBlanks (decimal header.sites ∷ decimal header.me ∷ decimal header.pages ∷ last) =
    (number.unparted header.sites h.0, (number.unparted header.me h.1, (number.unparted header.pages h.2, cluster-unparted header.cluster h.3))) in
    ap (after_verb (codes "journal") header_after)
    (words_of-join (codes "journal") (decimal header.sites ∷ decimal header.me ∷ decimal header.pages ∷ last) (NoBlank-test (codes "journal") refl) all)
    ∙ rw (prints number header.sites (decimal header.me ∷ decimal header.pages ∷ last) h.0, prints number header.me (decimal header.pages ∷ last) h.1, prints number header.pages last h.2)
    (ap (λ o. option_and_then (λ cluster. Some (record { sites = header.sites; me = header.me; pages = header.pages; cluster = cluster })) o)
    (cluster-prints header.cluster h.3))
