-- A process that has served some reads, and what follows.
use Rattle.std.proofs.Common.{◌≡◌, ◌≢◌, ◌==◌, ℕ, false, true, List, [], ◌∷◌, ◌++◌, Ok, Err, length, take, refl, ap, sym, subst, ◌∙◌, append-nil, arith}
use Rattle.std.proofs.lemmas.Bool.Decides.{nat_tests}
use Rattle.std.proofs.Math.Seq.{take-length}
use Rattle.std.proofs.lemmas.List.{append_assoc}
use Rattle.shm_process.specs.Desk.{Desk, cleared, on_bytes}
use Rattle.std.proofs.KnownBytes.{Appends-nil, Consumes-kept, Consumes-nil}
use Rattle.std.specs.Io.KnownBytes.{Appends, Consumes, Keeps}
use Rattle.std.specs.Prelude.{None, Option, Some}
use Rattle.shm_journal.proofs.ActLemmas.{GoesOn-nil, GoesOn-trans, did_both, did_nothing, kept-silent, kept-then, published-told, published-unread, told_in-append}
use Rattle.shm_journal.specs.Acts.{Act, Append, AreSound, Around, Did, GoesOn, Read, Served, Stood, Sync, Tell, around, keeping, publishing, read_in, run, serving, standing, telling, told_in}
use Rattle.shm_journal.specs.Publishing.{FailsToPublish, FailsToTake}
use Rattle.shm_journal.specs.declared.process_error.ProcessFault.{ProcessFault}
use Rattle.shm_journal.specs.declared.service_stop.Stop.TheVariants.{Ended, Due}
use Rattle.shm_journal.specs.declared.process_error.ProcessFault.TheVariants.{JournalFault, OutOfMemory, ReadFault, TooOld, WriteFault}

standing-more : (reads : List (List ℕ)) (desk : Desk) (bytes : List ℕ) → standing desk (reads ++ bytes ∷ []) ≡ cleared (on_bytes (standing desk reads) bytes)
unfolding standing
standing-more [] desk bytes = refl
standing-more (first ∷ reads) desk bytes = standing-more reads (cleared (on_bytes desk first)) bytes

serving-more : (reads : List (List ℕ)) (desk : Desk) (bytes : List ℕ)
    → serving desk (reads ++ bytes ∷ []) ≡ serving desk reads ++ Read bytes ∷ publishing (on_bytes (standing desk reads) bytes)
unfolding standing serving
serving-more [] desk bytes = ap (λ t. Read bytes ∷ t) (append-nil (publishing (on_bytes desk bytes)))
serving-more (first ∷ reads) desk bytes =
    let taken = on_bytes desk first in
    let more = Read bytes ∷ publishing (on_bytes (standing (cleared taken) reads) bytes) in
    ap (λ t. Read first ∷ (publishing taken ++ t)) (serving-more reads (cleared taken) bytes)
    ∙ ap (λ t. Read first ∷ t) (sym (append_assoc (publishing taken) (serving (cleared taken) reads) more))

run-more : (first : Desk) (reads : List (List ℕ)) (bytes : List ℕ)
    → run first (reads ++ bytes ∷ []) ≡ run first reads ++ Read bytes ∷ publishing (on_bytes (standing (cleared first) reads) bytes)
run-more first reads bytes =
    let more = Read bytes ∷ publishing (on_bytes (standing (cleared first) reads) bytes) in
    ap (λ t. publishing first ++ t) (serving-more reads (cleared first) bytes)
    ∙ sym (append_assoc (publishing first) (serving (cleared first) reads) more)

-- ---- what is kept and told

-- nothing is kept of no entries, and nothing told of no text
keeping_some : (entries : List ℕ) → entries ≢ [] → keeping entries ≡ Append entries ∷ Sync ∷ []
keeping_some [] some = absurd (some refl)
keeping_some (byte ∷ bytes) some = refl

telling_some : (text : List ℕ) → text ≢ [] → telling text ≡ Tell text ∷ []
telling_some [] some = absurd (some refl)
telling_some (byte ∷ bytes) some = refl

is-none : (xs : List ℕ) → (length xs == 0) ≡ true → xs ≡ []
is-none [] e = refl
is-none (x ∷ xs) e = absurd (grind (arith, nat_tests))

is-some : (xs : List ℕ) → (length xs == 0) ≡ false → xs ≢ []
is-some [] e h = absurd (cc)
is-some (x ∷ xs) e h = cc

pub kept_none : (a : Option (List Act)) (entries : List ℕ) → (length entries == 0) ≡ true → GoesOn a a (keeping entries)
kept_none a entries e = subst (λ t. GoesOn a a (keeping t)) (sym (is-none entries e)) (GoesOn-nil a)

pub told_none : (a : Option (List Act)) (text : List ℕ) → (length text == 0) ≡ true → GoesOn a a (telling text)
told_none a text e = subst (λ t. GoesOn a a (telling t)) (sym (is-none text e)) (GoesOn-nil a)

pub none_written : (w : Option (List ℕ)) (text : List ℕ) → (length text == 0) ≡ true → Appends w w text
none_written w text e = subst (Appends w w) (sym (is-none text e)) (Appends-nil w)

pub kept_some : (a b c : Option (List Act)) (entries : List ℕ) → (length entries == 0) ≡ false → GoesOn a b (Append entries ∷ []) → GoesOn b c (Sync ∷ [])
    → GoesOn a c (keeping entries)
kept_some a b c entries e p q =
    subst (GoesOn a c) (sym (keeping_some entries (is-some entries e))) (GoesOn-trans a b c (Append entries ∷ []) (Sync ∷ []) p q)

pub told_some : (a b : Option (List Act)) (text : List ℕ) → (length text == 0) ≡ false → GoesOn a b (Tell text ∷ []) → GoesOn a b (telling text)
told_some a b text e p = subst (GoesOn a b) (sym (telling_some text (is-some text e))) p

-- all was appended, and not made durable
pub not_synced : (a b c : Option (List Act)) (entries : List ℕ) → GoesOn a b (Append entries ∷ []) → GoesOn b c [] → (n : ℕ) × GoesOn a c (Append (take n entries) ∷ [])
not_synced a b c entries p q =
    (length entries, subst (λ t. GoesOn a c (Append t ∷ [])) (sym (take-length entries)) (GoesOn-trans a b c (Append entries ∷ []) [] p q))

-- ---- what is known of it

pub did_read : (r0 r1 w : Option (List ℕ)) (a b : Option (List Act)) (bytes : List ℕ) → Consumes r0 r1 bytes → GoesOn a b (Read bytes ∷ [])
    → Did (around r0 w a) (around r1 w b) (Read bytes ∷ [])
unfolding read_in told_in
did_read r0 r1 w a b bytes c p = record { read = subst (Consumes r0 r1) (sym (append-nil bytes)) c; told = Appends-nil w; acted = p }

pub did_not_read : (r0 r1 w : Option (List ℕ)) (a b : Option (List Act)) → Keeps r0 r1 → GoesOn a b [] → Did (around r0 w a) (around r1 w b) []
unfolding read_in told_in
did_not_read r0 r1 w a b k p = record { read = Consumes-kept r0 r0 r1 [] (Consumes-nil r0) k; told = Appends-nil w; acted = p }

pub published : (r w0 w1 : Option (List ℕ)) (a b c : Option (List Act)) (desk : Desk) (entries text : List ℕ) → entries ≡ desk.recorded → text ≡ desk.told
    → GoesOn a b (keeping entries) → Appends w0 w1 text → GoesOn b c (telling text) → Did (around r w0 a) (around r w1 c) (publishing desk)
published r w0 w1 a b c desk entries text e t p q s = record {
  read = subst (Consumes r r) (sym (published-unread desk)) (Consumes-nil r);
  told = subst (Appends w0 w1) (t ∙ sym (published-told desk)) q;
  acted = GoesOn-trans a b c (keeping desk.recorded) (telling desk.told) (subst (λ x. GoesOn a b (keeping x)) e p) (subst (λ x. GoesOn b c (telling x)) t s);
}

-- a front of the entries was appended
pub not_kept : (r w : Option (List ℕ)) (a b : Option (List Act)) (desk : Desk) (entries : List ℕ) → entries ≡ desk.recorded → entries ≢ []
    → (n : ℕ) × GoesOn a b (Append (take n entries) ∷ []) → FailsToPublish desk (around r w a) (around r w b) JournalFault
unfolding read_in told_in
not_kept r w a b desk entries e some q = (
  subst (λ x. x ≢ []) e some,
  (q.0, record { read = Consumes-nil r; told = Appends-nil w; acted = subst (λ x. GoesOn a b (Append (take q.0 x) ∷ [])) e q.1 }),
)

tells-front : (entries text : List ℕ) → told_in (keeping entries ++ Tell text ∷ []) ≡ text
unfolding told_in
tells-front entries text = told_in-append (keeping entries) (Tell text ∷ []) ∙ ap (λ x. x ++ (text ++ [])) (kept-silent entries) ∙ append-nil text

reads-front : (entries text : List ℕ) → read_in (keeping entries ++ Tell text ∷ []) ≡ []
unfolding read_in
reads-front entries text = kept-then entries (Tell text ∷ [])

-- all was kept, and a front of the text told
pub not_told : (r w0 w1 : Option (List ℕ)) (a b c : Option (List Act)) (desk : Desk) (entries text : List ℕ) → entries ≡ desk.recorded → text ≡ desk.told
    → GoesOn a b (keeping entries) → text ≢ [] → (n : ℕ) × Appends w0 w1 (take n text) × GoesOn b c (Tell (take n text) ∷ [])
    → FailsToPublish desk (around r w0 a) (around r w1 c) WriteFault
not_told r w0 w1 a b c desk entries text e t p some q =
    let front = take q.0 desk.told in (
      subst (λ x. x ≢ []) t some,
      (
        q.0,
        record {
          read = subst (Consumes r r) (sym (reads-front desk.recorded front)) (Consumes-nil r);
          told = subst (Appends w0 w1) (ap (take q.0) t ∙ sym (tells-front desk.recorded front)) q.1;
          acted = GoesOn-trans a b c (keeping desk.recorded) (Tell front ∷ []) (subst (λ x. GoesOn a b (keeping x)) e p) (subst (λ x. GoesOn b c (Tell (take q.0 x) ∷ [])) t q.2);
        },
      ),
    )

-- so many reads were served, and the desk holds nothing
pub record Serves (first : Desk) (old now : Around) (desk : Desk) : Type 0 where
  pub reads : List (List ℕ)
  pub did : Did old now (run first reads)
  pub stands : desk ≡ standing (cleared first) reads
  pub empty : publishing desk ≡ []

pub begun : (first desk : Desk) (old now : Around) → Did old now (publishing first) → desk ≡ cleared first → Serves first old now desk
unfolding standing serving
begun first desk old now d e = record {
  reads = [];
  did = subst (Did old now) (sym (append-nil (publishing first))) d;
  stands = e;
  empty = ap publishing e;
}

-- what one more read gives is served
more_run : (first desk next : Desk) (old now : Around) (bytes : List ℕ) → (s : Serves first old now desk) → next ≡ on_bytes desk bytes
    → run first (s.reads ++ bytes ∷ []) ≡ (run first s.reads ++ Read bytes ∷ []) ++ publishing next
more_run first desk next old now bytes s e =
    run-more first s.reads bytes
    ∙ ap (λ d. run first s.reads ++ Read bytes ∷ publishing (on_bytes d bytes)) (sym s.stands)
    ∙ ap (λ d. run first s.reads ++ Read bytes ∷ publishing d) (sym e)
    ∙ sym (append_assoc (run first s.reads) (Read bytes ∷ []) (publishing next))

pub went_on : (first desk next last : Desk) (old now read new : Around) (bytes : List ℕ) → Serves first old now desk → Did now read (Read bytes ∷ [])
    → next ≡ on_bytes desk bytes → Did read new (publishing next) → last ≡ cleared next → Serves first old new last
went_on first desk next last old now read new bytes s r e p c = record {
  reads = s.reads ++ bytes ∷ [];
  did = subst (Did old new) (sym (more_run first desk next old now bytes s e))
      (did_both old read new (run first s.reads ++ Read bytes ∷ []) (publishing next) (did_both old now read (run first s.reads) (Read bytes ∷ []) s.did r) p);
  stands = c ∙ ap cleared e ∙ ap (λ d. cleared (on_bytes d bytes)) s.stands ∙ sym (standing-more s.reads (cleared first) bytes);
  empty = ap publishing c;
}

-- ---- how it ends

-- none of the reads told of a step that the site lacks, as its desk has noted none
sound-so : (first desk : Desk) (reads : List (List ℕ)) → desk ≡ standing (cleared first) reads → (first.later ≡ None → desk.later ≡ None) → AreSound first reads
sound-so first desk reads stands sound none = ap (λ (d : Desk). d.later) (sym stands) ∙ sound none

sound_of : (first desk : Desk) (old now : Around) → (s : Serves first old now desk) → (first.later ≡ None → desk.later ≡ None) → AreSound first s.reads
sound_of first desk old now s sound = sound-so first desk s.reads s.stands sound

-- one more read, of nothing, leaves it as it is
standing-cleared : (reads : List (List ℕ)) (first : Desk) → cleared (standing (cleared first) reads) ≡ standing (cleared first) reads
unfolding standing
standing-cleared [] first = refl
standing-cleared (bytes ∷ reads) first = standing-cleared reads (on_bytes (cleared first) bytes)

read-nothing : (first desk : Desk) (reads : List (List ℕ)) → desk ≡ standing (cleared first) reads → desk ≡ standing (cleared first) (reads ++ [] ∷ [])
unfolding on_bytes
read-nothing first desk reads stands = stands ∙ sym (standing-more reads (cleared first) [] ∙ standing-cleared reads first)

all-done : (first desk : Desk) (old now new : Around) → (s : Serves first old now desk) → Did now new (Read [] ∷ [])
    → (run first s.reads ++ Read [] ∷ [] ≡ run first (s.reads ++ [] ∷ [])) × Did old new (run first s.reads ++ Read [] ∷ [])
unfolding on_bytes
all-done first desk old now new s r = (
  sym (
      more_run first desk desk old now [] s refl ∙ ap (λ t. (run first s.reads ++ Read [] ∷ []) ++ t) s.empty
      ∙ append-nil (run first s.reads ++ Read [] ∷ [])
      ),
  did_both old now new (run first s.reads) (Read [] ∷ []) s.did r,
)

pub ended : (first desk : Desk) (old now new : Around) → Serves first old now desk → (first.later ≡ None → desk.later ≡ None) → Did now new (Read [] ∷ [])
    → Served first old new (Ok Ended)
ended first desk old now new s sound r =
    let all = all-done first desk old now new s r in (
      run first s.reads ++ Read [] ∷ [],
      all.1,
      (s.reads ++ [] ∷ [], sound-so first desk (s.reads ++ [] ∷ []) (read-nothing first desk s.reads s.stands) sound, all.0),
    )

pub stood : (first desk : Desk) (old now new : Around) → Serves first old now desk → Did now new (Read [] ∷ []) → Stood first desk old new
stood first desk old now new s r =
    let all = all-done first desk old now new s r in
    (s.reads ++ [] ∷ [], subst (Did old new) all.0 all.1, read-nothing first desk s.reads s.stands)

pub read_failed : (first desk : Desk) (old now new : Around) → Serves first old now desk → (first.later ≡ None → desk.later ≡ None) → Did now new []
    → Served first old new (Err ReadFault)
read_failed first desk old now new s sound r = (
  run first s.reads,
  subst (Did old new) (append-nil (run first s.reads)) (did_both old now new (run first s.reads) [] s.did r),
  (s.reads, sound_of first desk old now s sound, refl),
)

out_of_memory : (first desk : Desk) (old now new : Around) (bytes : List ℕ) → Serves first old now desk → (first.later ≡ None → desk.later ≡ None)
    → Did now new (Read bytes ∷ []) → Served first old new (Err OutOfMemory)
out_of_memory first desk old now new bytes s sound r = (
  run first s.reads ++ Read bytes ∷ [],
  did_both old now new (run first s.reads) (Read bytes ∷ []) s.did r,
  (s.reads, bytes, sound_of first desk old now s sound, refl),
)

too_old : (first desk : Desk) (old now new : Around) (bytes : List ℕ) (clock : ℕ) → Serves first old now desk → (first.later ≡ None → desk.later ≡ None)
    → Did now new (Read bytes ∷ []) → (on_bytes desk bytes).later ≡ Some clock → Served first old new (Err (TooOld clock))
too_old first desk old now new bytes clock s sound r e = (
  run first s.reads ++ Read bytes ∷ [],
  did_both old now new (run first s.reads) (Read bytes ∷ []) s.did r,
  (s.reads, bytes, sound_of first desk old now s sound, refl, ap (λ d. (on_bytes d bytes).later) (sym s.stands) ∙ e),
)

-- what was read last isn't taken
pub not_taken : (first desk : Desk) (fault : ProcessFault) (old now new : Around) (bytes : List ℕ) → Serves first old now desk
    → (first.later ≡ None → desk.later ≡ None) → Did now new (Read bytes ∷ []) → FailsToTake desk bytes fault → Served first old new (Err fault)
not_taken first desk OutOfMemory old now new bytes s sound r f = out_of_memory first desk old now new bytes s sound r
not_taken first desk (TooOld clock) old now new bytes s sound r f = too_old first desk old now new bytes clock s sound r f
not_taken first desk JournalFault old now new bytes s sound r f = absurd f
not_taken first desk ReadFault old now new bytes s sound r f = absurd f
not_taken first desk WriteFault old now new bytes s sound r f = absurd f

-- what was published has the later step that was noted
pub still_sound : (desk next : Desk) → next ≡ cleared desk → desk.later ≡ None → next.later ≡ None
still_sound desk next e h = ap (λ (d : Desk). d.later) e ∙ h

-- what one more read gives was served, and the journal is due to be made shorter
pub paused : (first desk next last : Desk) (old now read new : Around) (bytes : List ℕ) → Serves first old now desk → Did now read (Read bytes ∷ [])
    → next ≡ on_bytes desk bytes → Did read new (publishing next) → last ≡ cleared next → next.later ≡ None → Served first old new (Ok Due)
paused first desk next last old now read new bytes s r e p c none =
    let on = went_on first desk next last old now read new bytes s r e p c in
    (run first on.reads, on.did, (on.reads, sound_of first last old new on (λ h. still_sound next last c none), refl))

pub stood_on : (first desk next last : Desk) (old now read new : Around) (bytes : List ℕ) → Serves first old now desk → Did now read (Read bytes ∷ [])
    → next ≡ on_bytes desk bytes → Did read new (publishing next) → last ≡ cleared next → Stood first last old new
stood_on first desk next last old now read new bytes s r e p c =
    let on = went_on first desk next last old now read new bytes s r e p c in (on.reads, on.did, on.stands)

-- what the desk holds after these acts can't be published
unpublished : (first next : Desk) (reads : List (List ℕ)) (acts : List Act) (fault : ProcessFault) (old now new : Around)
    → run first reads ≡ acts ++ publishing next → AreSound first reads → Did old now acts → FailsToPublish next now new fault → Served first old new (Err fault)
unpublished first next reads acts JournalFault old now new whole sound d (some, (n, f)) = (
  acts ++ Append (take n next.recorded) ∷ [],
  did_both old now new acts (Append (take n next.recorded) ∷ []) d f,
  (
    reads,
    acts,
    Sync ∷ telling next.told,
    next.recorded,
    n,
    sound,
    whole ∙ ap (λ kept. acts ++ (kept ++ telling next.told)) (keeping_some next.recorded some),
    refl,
  ),
)
unpublished first next reads acts WriteFault old now new whole sound d (some, (n, f)) =
    let kept = keeping next.recorded in (
      acts ++ (kept ++ Tell (take n next.told) ∷ []),
      did_both old now new acts (kept ++ Tell (take n next.told) ∷ []) d f,
      (
        reads,
        acts ++ kept,
        next.told,
        n,
        sound,
        whole ∙ ap (λ told. acts ++ (kept ++ told)) (telling_some next.told some) ∙ sym (append_assoc acts kept (Tell next.told ∷ [])),
        sym (append_assoc acts kept (Tell (take n next.told) ∷ [])),
      ),
    )
unpublished first next reads acts OutOfMemory old now new whole sound d f = absurd f
unpublished first next reads acts ReadFault old now new whole sound d f = absurd f
unpublished first next reads acts (TooOld clock) old now new whole sound d f = absurd f

pub never_published : (first : Desk) (fault : ProcessFault) (old new : Around) → FailsToPublish first old new fault → Served first old new (Err fault)
unfolding serving standing
never_published first fault old new f =
    unpublished first first [] [] fault old old new (append-nil (publishing first)) (λ none. none) (did_nothing old) f

sound-more : (first desk next : Desk) (reads : List (List ℕ)) (bytes : List ℕ) → desk ≡ standing (cleared first) reads → next ≡ on_bytes desk bytes
    → next.later ≡ None → AreSound first (reads ++ bytes ∷ [])
sound-more first desk next reads bytes stands e sound none =
    ap (λ (d : Desk). d.later) (standing-more reads (cleared first) bytes ∙ ap (λ d. cleared (on_bytes d bytes)) (sym stands) ∙ ap cleared (sym e)) ∙ sound

pub not_published : (first desk next : Desk) (fault : ProcessFault) (old now read new : Around) (bytes : List ℕ) → Serves first old now desk
    → Did now read (Read bytes ∷ []) → next ≡ on_bytes desk bytes → next.later ≡ None → FailsToPublish next read new fault → Served first old new (Err fault)
not_published first desk next fault old now read new bytes s r e sound f =
    unpublished first next (s.reads ++ bytes ∷ []) (run first s.reads ++ Read bytes ∷ []) fault old read new (more_run first desk next old now bytes s e)
    (sound-more first desk next s.reads bytes s.stands e sound) (did_both old now read (run first s.reads) (Read bytes ∷ []) s.did r) f
