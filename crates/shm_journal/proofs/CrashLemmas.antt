-- Where a run tells something, what it tells of is durable.
use Rattle.std.proofs.Common.{◌≡◌, ◌⊎◌, ℕ, List, [], ◌∷◌, ◌++◌, inl, inr, refl, ap, sym, subst, ◌∙◌, append-nil}
use Rattle.std.proofs.lemmas.List.{append_assoc}
use Rattle.shm_process.proofs.DeskLemmas.{gone_on}
use Rattle.shm_process.proofs.Recording.{did_events}
use Rattle.shm_process.specs.Desk.{Desk, cleared, on_bytes}
use Rattle.shm_journal.proofs.ActLemmas.{kept-silent, published-told, told_in-append}
use Rattle.shm_journal.specs.Acts.{Act, Append, Read, Sync, Tell, keeping, publishing, serving, telling, told_in}
use Rattle.shm_journal.specs.Crash.{Disk, IsKept, KeepsBeforeTelling, after_act, after_acts, disk_of}

after_acts-append : (xs ys : List Act) (disk : Disk) → after_acts disk (xs ++ ys) ≡ after_acts (after_acts disk xs) ys
unfolding after_acts
after_acts-append [] ys disk = refl
after_acts-append (x ∷ xs) ys disk = after_acts-append xs ys (after_act disk x)

-- keeping makes the entries durable, and tells nothing
pub kept-disk : (entries durable : List ℕ) → after_acts (disk_of durable) (keeping entries) ≡ disk_of (durable ++ entries)
unfolding after_acts
kept-disk [] durable = ap disk_of (sym (append-nil durable))
kept-disk (byte ∷ bytes) durable = refl

told-disk : (text : List ℕ) (disk : Disk) → after_acts disk (telling text) ≡ disk
unfolding after_acts
told-disk [] disk = refl
told-disk (byte ∷ bytes) disk = refl

-- ---- where in a run something is told

pub head-of : {x y : Act} {xs ys : List Act} → x ∷ xs ≡ y ∷ ys → x ≡ y
head-of e = cc

pub tail-of : {x y : Act} {xs ys : List Act} → x ∷ xs ≡ y ∷ ys → xs ≡ ys
tail-of e = cc

-- behind an act that tells nothing
past_one : (act : Act) (acts before after : List Act) (text : List ℕ) → (act ≡ Tell text → ⊥) → act ∷ acts ≡ before ++ Tell text ∷ after
    → (rest : List Act) × (before ≡ act ∷ rest) × (acts ≡ rest ++ Tell text ∷ after)
past_one act acts [] after text other e = absurd (other (head-of e))
past_one act acts (first ∷ rest) after text other e = (rest, ap (λ a. a ∷ rest) (sym (head-of e)), tail-of e)

past_keeping : (entries : List ℕ) (acts before after : List Act) (text : List ℕ) → keeping entries ++ acts ≡ before ++ Tell text ∷ after
    → (rest : List Act) × (before ≡ keeping entries ++ rest) × (acts ≡ rest ++ Tell text ∷ after)
past_keeping [] acts before after text e = (before, refl, e)
past_keeping (byte ∷ bytes) acts before after text e =
    let first = past_one (Append (byte ∷ bytes)) (Sync ∷ acts) before after text (λ same. cc) e in
    let second = past_one Sync acts first.0 after text (λ same. cc) first.2 in
    (second.0, first.1 ∙ ap (λ rest. Append (byte ∷ bytes) ∷ rest) second.1, second.2)

-- this very text, or behind it
past_telling : (told : List ℕ) (acts before after : List Act) (text : List ℕ) → telling told ++ acts ≡ before ++ Tell text ∷ after
    → ((before ≡ []) × (text ≡ told)) ⊎ ((rest : List Act) × (before ≡ telling told ++ rest) × (acts ≡ rest ++ Tell text ∷ after))
past_telling [] acts before after text e = inr (before, refl, e)
past_telling (byte ∷ bytes) acts [] after text e = let same : Tell (byte ∷ bytes) ≡ Tell text = head-of e in inl (refl, cc)
past_telling (byte ∷ bytes) acts (first ∷ rest) after text e = inr (rest, ap (λ a. a ∷ rest) (sym (head-of e)), tail-of e)

-- ---- a run

-- what was told and kept of what the first desk took
record Standing (first desk : Desk) (file told : List ℕ) (disk : Disk) : Type 0 where
  pub bytes : List ℕ
  pub stands : desk ≡ cleared (on_bytes first bytes)
  pub told_of : told ≡ (on_bytes first bytes).told
  pub kept : disk ≡ disk_of (file ++ (on_bytes first bytes).recorded)

is-kept : (first : Desk) (file told bytes : List ℕ) (disk : Disk) → told ≡ (on_bytes first bytes).told
    → disk ≡ disk_of (file ++ (on_bytes first bytes).recorded) → IsKept first file told disk
is-kept first file told bytes disk t d = record {
  bytes = bytes;
  told_of = t;
  durable = ap (λ (disk : Disk). disk.durable) d;
  settled = ap (λ (disk : Disk). disk.loose) d;
  closed = λ none. (did_events first bytes none).row;
}

pub published-disk : (desk : Desk) (durable : List ℕ) → after_acts (disk_of durable) (publishing desk) ≡ disk_of (durable ++ desk.recorded)
published-disk desk durable =
    after_acts-append (keeping desk.recorded) (telling desk.told) (disk_of durable)
    ∙ ap (λ disk. after_acts disk (telling desk.told)) (kept-disk desk.recorded durable)
    ∙ told-disk desk.told (disk_of (durable ++ desk.recorded))

-- in what a desk publishes, or behind it
abbrev Where : Desk → List Act → List Act → List Act → List ℕ → Type 0
Where desk acts before after text =
    ((before ≡ keeping desk.recorded) × (text ≡ desk.told))
    ⊎ ((rest : List Act) × (before ≡ publishing desk ++ rest) × (acts ≡ rest ++ Tell text ∷ after))

where-told : (desk : Desk) (acts before after : List Act) (text : List ℕ) → publishing desk ++ acts ≡ before ++ Tell text ∷ after → Where desk acts before after text
where-told desk acts before after text e =
    let kept = keeping desk.recorded in
    let told = telling desk.told in
    let k = past_keeping desk.recorded (told ++ acts) before after text (sym (append_assoc kept told acts) ∙ e) in
    elim (past_telling desk.told acts k.0 after text k.2) [
      | inl h ↦ inl (k.1 ∙ ap (λ rest. kept ++ rest) h.0 ∙ append-nil kept, h.1)
      | inr h ↦ inr (h.0, k.1 ∙ ap (λ rest. kept ++ rest) h.1 ∙ sym (append_assoc kept told h.0), h.2)
    ]

-- what one more read gives is recorded and told behind what was
more-told : (first desk : Desk) (before bytes : List ℕ) → desk ≡ cleared (on_bytes first before)
    → (on_bytes first (before ++ bytes)).told ≡ (on_bytes first before).told ++ (on_bytes desk bytes).told
more-told first desk before bytes e = ap (λ (d : Desk). d.told) (gone_on first desk before bytes e)

more-recorded : (first desk : Desk) (before bytes : List ℕ) → desk ≡ cleared (on_bytes first before)
    → (on_bytes first (before ++ bytes)).recorded ≡ (on_bytes first before).recorded ++ (on_bytes desk bytes).recorded
more-recorded first desk before bytes e = ap (λ (d : Desk). d.recorded) (gone_on first desk before bytes e)

-- what a desk that stands so publishes of one more read
next-told : (first desk : Desk) (file told bytes : List ℕ) (disk : Disk) → (s : Standing first desk file told disk)
    → told ++ (on_bytes desk bytes).told ≡ (on_bytes first (s.bytes ++ bytes)).told
next-told first desk file told bytes disk s = ap (λ t. t ++ (on_bytes desk bytes).told) s.told_of ∙ sym (more-told first desk s.bytes bytes s.stands)

next-kept : (first desk : Desk) (file told bytes : List ℕ) (disk : Disk) → (s : Standing first desk file told disk)
    → disk_of ((file ++ (on_bytes first s.bytes).recorded) ++ (on_bytes desk bytes).recorded) ≡ disk_of (file ++ (on_bytes first (s.bytes ++ bytes)).recorded)
next-kept first desk file told bytes disk s =
    ap disk_of (
    append_assoc file (on_bytes first s.bytes).recorded (on_bytes desk bytes).recorded
    ∙ ap (λ r. file ++ r) (sym (more-recorded first desk s.bytes bytes s.stands))
    )

next-standing : (first desk : Desk) (file told bytes : List ℕ) (disk : Disk) → (s : Standing first desk file told disk)
    → Standing first (cleared (on_bytes desk bytes)) file (told ++ (on_bytes desk bytes).told) (after_acts disk (publishing (on_bytes desk bytes)))
next-standing first desk file told bytes disk s =
    let taken = on_bytes desk bytes in
    let durable = file ++ (on_bytes first s.bytes).recorded in
    record {
      bytes = s.bytes ++ bytes;
      stands = sym (ap cleared (gone_on first desk s.bytes bytes s.stands));
      told_of = next-told first desk file told bytes disk s;
      kept = ap (λ d. after_acts d (publishing taken)) s.kept ∙ published-disk taken durable ∙ next-kept first desk file told bytes disk s;
    }

nothing-told : (before after : List Act) (text : List ℕ) → [] ≡ before ++ Tell text ∷ after → ⊥
nothing-told [] after text e = cc
nothing-told (act ∷ acts) after text e = cc

-- it is kept where it is published
kept-here : (first desk : Desk) (file told bytes text : List ℕ) (before : List Act) (disk : Disk) → Standing first desk file told disk
    → before ≡ Read bytes ∷ keeping (on_bytes desk bytes).recorded → text ≡ (on_bytes desk bytes).told
    → IsKept first file (told ++ (told_in before ++ text)) (after_acts disk before)
unfolding told_in after_acts
kept-here first desk file told bytes text before disk s e t =
    let taken = on_bytes desk bytes in
    let durable = file ++ (on_bytes first s.bytes).recorded in
    is-kept first file (told ++ (told_in before ++ text)) (s.bytes ++ bytes) (after_acts disk before)
    (
    ap (λ acts. told ++ (told_in acts ++ text)) e ∙ ap (λ x. told ++ (x ++ text)) (kept-silent taken.recorded) ∙ ap (λ x. told ++ x) t
    ∙ next-told first desk file told bytes disk s
    )
    (
    ap (after_acts disk) e ∙ ap (λ d. after_acts d (keeping taken.recorded)) s.kept ∙ kept-disk taken.recorded durable
    ∙ next-kept first desk file told bytes disk s
    )

-- what was told between belongs to what was told before
between : (told : List ℕ) (acts rest : List Act) (text : List ℕ) → (told ++ told_in acts) ++ (told_in rest ++ text) ≡ told ++ (told_in (acts ++ rest) ++ text)
between told acts rest text =
    append_assoc told (told_in acts) (told_in rest ++ text)
    ∙ ap (λ x. told ++ x) (sym (append_assoc (told_in acts) (told_in rest) text) ∙ ap (λ x. x ++ text) (sym (told_in-append acts rest)))

kept-later : (first : Desk) (file told text : List ℕ) (acts rest before : List Act) (disk : Disk) → before ≡ acts ++ rest
    → IsKept first file ((told ++ told_in acts) ++ (told_in rest ++ text)) (after_acts (after_acts disk acts) rest)
    → IsKept first file (told ++ (told_in before ++ text)) (after_acts disk before)
kept-later first file told text acts rest before disk e kept =
    subst (λ b. IsKept first file (told ++ (told_in b ++ text)) (after_acts disk b)) (sym e)
    (
    subst (λ d. IsKept first file (told ++ (told_in (acts ++ rest) ++ text)) d) (sym (after_acts-append acts rest disk))
    (subst (λ t. IsKept first file t (after_acts (after_acts disk acts) rest)) (between told acts rest text) kept)
    )

served-kept : (reads : List (List ℕ)) (first desk : Desk) (file told : List ℕ) (disk : Disk) → Standing first desk file told disk
    → (before after : List Act) (text : List ℕ) → serving desk reads ≡ before ++ Tell text ∷ after
    → IsKept first file (told ++ (told_in before ++ text)) (after_acts disk before)
unfolding serving told_in after_acts
served-kept [] first desk file told disk s before after text e = absurd (nothing-told before after text e)
served-kept (bytes ∷ reads) first desk file told disk s before after text e =
    let taken = on_bytes desk bytes in
    let p = past_one (Read bytes) (publishing taken ++ serving (cleared taken) reads) before after text (λ same. cc) e in
    elim (where-told taken (serving (cleared taken) reads) p.0 after text p.2) [
      | inl h ↦ kept-here first desk file told bytes text before disk s (p.1 ∙ ap (λ acts. Read bytes ∷ acts) h.0) h.1
      | inr h ↦
          kept-later first file told text (Read bytes ∷ publishing taken) h.0 before disk (p.1 ∙ ap (λ acts. Read bytes ∷ acts) h.1)
          (
          subst (λ t. IsKept first file ((told ++ t) ++ (told_in h.0 ++ text)) (after_acts (after_acts disk (publishing taken)) h.0)) (sym (published-told taken))
          (
          served-kept reads first (cleared taken) file (told ++ taken.told) (after_acts disk (publishing taken)) (next-standing first desk file told bytes disk s)
          h.0 after text h.2
          )
          )
    ]

first-standing : (first : Desk) (file : List ℕ) → Standing first (cleared first) file first.told (after_acts (disk_of file) (publishing first))
unfolding on_bytes
first-standing first file = record { bytes = []; stands = refl; told_of = refl; kept = published-disk first file }

first-kept : (first : Desk) (file text : List ℕ) (before : List Act) → before ≡ keeping first.recorded → text ≡ first.told
    → IsKept first file (told_in before ++ text) (after_acts (disk_of file) before)
unfolding on_bytes
first-kept first file text before e t =
    is-kept first file (told_in before ++ text) [] (after_acts (disk_of file) before)
    (ap (λ acts. told_in acts ++ text) e ∙ ap (λ x. x ++ text) (kept-silent first.recorded) ∙ t)
    (ap (after_acts (disk_of file)) e ∙ kept-disk first.recorded file)

pub kept_before_telling : (first : Desk) (reads : List (List ℕ)) (file : List ℕ) → KeepsBeforeTelling first reads file
unfolding told_in
kept_before_telling first reads file before after text e =
    elim (where-told first (serving (cleared first) reads) before after text e) [
      | inl h ↦ first-kept first file text before h.0 h.1
      | inr h ↦
          kept-later first file [] text (publishing first) h.0 before (disk_of file) h.1
          (
          subst (λ t. IsKept first file (t ++ (told_in h.0 ++ text)) (after_acts (after_acts (disk_of file) (publishing first)) h.0)) (sym (published-told first))
          (
          served-kept reads first (cleared first) file first.told (after_acts (disk_of file) (publishing first)) (first-standing first file)
          h.0 after text h.2
          )
          )
    ]
