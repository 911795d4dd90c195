-- How a site begins with its journal, or why it doesn't, by what was recovered of it and how it was asked for.
use Rattle.std.proofs.Common.{◌≡◌, ◌∙◌, ℕ, Bool, List, Option, Ok, false, true, if◌then◌else◌, not, ap, inr, refl, subst, sym}
use Rattle.std.specs.Prelude.{IfSome}
use Rattle.shm_journal.specs.DeskFrom.{desk_from}
use Rattle.shm_journal.specs.Found.{bytes_of_lines, lines_of}
use Rattle.shm_journal.specs.Lines.{Header}
use Rattle.shm_journal.specs.Recovers.{ReadsAll, Recovers}
use Rattle.shm_journal.specs.declared.recovered_site.Recovered.{Recovered}
use Rattle.shm_process.specs.Desk.{Desk}
use Rattle.shm_process.specs.Node.{Node}
use Rattle.shm_process.specs.NodeOf.{node_of}
use Rattle.shm_seal.specs.Seal.{Seal}
use Rattle.shm_command.specs.Begun.{BeginsKept, FailsBehind, IsNotAsked, IsRefused, Leads, ReadsUnbegun, header_at, start_at}
use Rattle.shm_command.specs.declared.site_error.SiteFault.{SiteFault}
use Rattle.shm_command.specs.declared.site_error.SiteFault.TheVariants as fault

-- ---- what was recovered

abbrev pub is_asked : Bool → Bool → Bool
is_asked begins is_new = if begins then is_new else not is_new

-- a journal that is as it was asked for is new exactly where it is to be begun
pub same : (begins is_new : Bool) → is_asked begins is_new ≡ true → is_new ≡ begins
same true is_new h = h
same false true h = absurd (cc)
same false false h = refl

other : (begins is_new : Bool) → is_asked begins is_new ≡ false → is_new ≡ not begins
other true is_new h = h
other false true h = refl
other false false h = absurd (cc)

-- by the cluster's name under the seal
pub by_name : (P : Header → Type 0) (sites me pages : ℕ) (name cluster : Option (List ℕ)) → name ≡ cluster → P (header_at sites me pages name)
    → P (header_at sites me pages cluster)
by_name P sites me pages name cluster e h = subst (λ (n : Option (List ℕ)). P (header_at sites me pages n)) e h

leads : {A : Type 0} (header : Header) (remaining : Option (List ℕ)) (r : Recovered A) (is_new : Bool) (found : Recovers header remaining (Ok r)) → r.is_new ≡ is_new
    → Leads is_new header found.0 (node_of r.node)
leads header remaining r is_new found e = record { sound = found.2.0; new = sym found.2.2 ∙ e }

-- ---- a file that isn't as it was asked for

pub existing : {A : Type 0} (begins : Bool) (header : Header) (remaining : Option (List ℕ)) (r : Recovered A) → Recovers header remaining (Ok r)
    → is_asked begins r.is_new ≡ false → begins ≡ true → IsNotAsked begins header remaining fault.Existing
existing begins header remaining r found a b =
    (found.0, found.1, (b, (node_of r.node, leads header remaining r false found (other begins r.is_new a ∙ ap not b))))

pub blank : {A : Type 0} (begins : Bool) (header : Header) (remaining : Option (List ℕ)) (r : Recovered A) → Recovers header remaining (Ok r)
    → is_asked begins r.is_new ≡ false → begins ≡ false → IsNotAsked begins header remaining fault.Blank
blank begins header remaining r found a b =
    (found.0, found.1, (b, (node_of r.node, leads header remaining r true found (other begins r.is_new a ∙ ap not b))))

-- ---- what fails once it is

pub behind : {A : Type 0} (begins : Bool) (header : Header) (remaining : Option (List ℕ)) (r : Recovered A) (f : SiteFault) → Recovers header remaining (Ok r)
    → r.is_new ≡ begins → FailsBehind r.is_new (node_of r.node) f → IsRefused begins header remaining f
behind begins header remaining r f found e h =
    inr (found.0, found.1, (node_of r.node, leads header remaining r begins found e, subst (λ (b : Bool). FailsBehind b (node_of r.node) f) e h))

-- all was read by then
pub read_behind : (header : Header) (old new : Option (List ℕ)) (is_new : Bool) (node : Node) (f : SiteFault) → FailsBehind is_new node f → ReadsAll old new
    → ReadsUnbegun header old new f
read_behind header old new is_new node (fault.Unrecovered why) h all = absurd h
read_behind header old new is_new node fault.OutOfMemory h all = all
read_behind header old new is_new node fault.Unopened h all = all
read_behind header old new is_new node fault.Missing h all = all
read_behind header old new is_new node fault.NoFile h all = all
read_behind header old new is_new node fault.Existing h all = all
read_behind header old new is_new node fault.Blank h all = all
read_behind header old new is_new node (fault.Damaged bytes) h all = all
read_behind header old new is_new node fault.Unmarked h all = all
read_behind header old new is_new node fault.Taken h all = all
read_behind header old new is_new node fault.Uncut h all = all
read_behind header old new is_new node fault.Unlisted h all = all
read_behind header old new is_new node (fault.Unopenable why) h all = all
read_behind header old new is_new node (fault.Ended why) h all = all
read_behind header old new is_new node (fault.Loose durable) h all = all

-- ---- what begins

pub begins_with : {A : Type 0} (begins : Bool) (seal : Seal) (told header : Header) (since : ℕ) (remaining : Option (List ℕ)) (r : Recovered A) (desk : Desk)
    → Recovers header remaining (Ok r) → r.is_new ≡ begins → told ≡ header → desk ≡ desk_from told seal r.is_new (node_of r.node) (start_at since r.whole)
    → (journal : List ℕ) × IfSome remaining (λ known. journal ≡ known) × BeginsKept begins seal header since journal desk
begins_with begins seal told header since remaining r desk found e same_header opened =
    let node = node_of r.node in
    let by_header : desk ≡ desk_from header seal r.is_new node (start_at since r.whole) =
    opened ∙ ap (λ (h : Header). desk_from h seal r.is_new node (start_at since r.whole)) same_header in
    let bytes = bytes_of_lines (lines_of found.0).whole in
    let by_bytes : desk ≡ desk_from header seal r.is_new node (start_at since bytes) =
    by_header ∙ ap (λ (n : ℕ). desk_from header seal r.is_new node (start_at since n)) found.2.1 in (
      found.0,
      found.1,
      record {
        asked = sym found.2.2 ∙ e;
        node = node;
        sound = found.2.0;
        begun = by_bytes ∙ ap (λ (b : Bool). desk_from header seal b node (start_at since bytes)) e;
      },
    )
