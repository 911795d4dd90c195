-- A copy comes by nothing but a grant to read.
use Rattle.std.proofs.Common.{◌≡◌, ◌∙◌, ℕ, Bool, true, false, not, ◌&&◌, nat_lt, nat_le, ◌==◌, cond, List, sym, refl, arith}
use Rattle.std.proofs.lemmas.Bool.{false≢true}
use Rattle.std.proofs.lemmas.Bool.Decides.{nat_tests}
use Rattle.shm_model.specs.declared.request_kind.Kind.TheVariants.{Read, Write}
use Rattle.shm_model.specs.Entry as model
use Rattle.shm_parts.specs.Entries.{change_of, row}
use Rattle.shm_parts.specs.Frames.{installs}
use Rattle.shm_parts.specs.Message.{brings_copy, entry_note_of}
use Rattle.shm_parts.specs.declared.message.EntryNote.{EntryNote}
use Rattle.shm_parts.specs.declared.message.EntryNote.TheVariants as entry_note

abbrev InstallsNone : model.Entry → model.Entry × model.Out → Type 0
InstallsNone e r = installs (change_of e r.0) ≡ false

either : (b : Bool) (e : model.Entry) (first rest : model.Entry × model.Out) → InstallsNone e first → InstallsNone e rest → InstallsNone e (cond b first rest)
either true e first rest f r = f
either false e first rest f r = r

none-newer : (n : ℕ) → nat_lt n n ≡ false
none-newer n = grind (arith, nat_tests)

left : (e : model.Entry) → installs (change_of e e) ≡ false
left (model.Nil n) = refl
left (model.Copy n b) = none-newer n
left (model.OwnRead n b) = refl
left (model.OwnWrite n b) = refl
left (model.Handed n to b) = refl

met : (n : ℕ) (e : model.Entry) → installs (change_of e (model.meet n e)) ≡ false
met n (model.Nil m) = refl
met n (model.Copy m b) = none-newer m
met n (model.OwnRead m b) = refl
met n (model.OwnWrite m b) = refl
met n (model.Handed m to b) = refl

by-clear : (n : ℕ) (e : model.Entry) → InstallsNone e (model.on_clear n e)
by-clear n e = either (nat_le n (model.seen e)) e _ _ (left e) (either (model.owned e) e _ _ (left e) refl)

by-lending : (me n to : ℕ) (e : model.Entry) → InstallsNone e (model.hand_read me n to e)
by-lending me n to e =
    either (nat_lt n (model.seen e)) e _ _ (left e)
    (either (not (model.owned e)) e _ _ (left e)
    (either (to == me) e _ _ (met n e) refl))

by-handing : (me n to : ℕ) (e : model.Entry) → InstallsNone e (model.hand_write me n to e)
by-handing me n to e =
    either (nat_lt n (model.seen e)) e _ _ (left e)
    (either (model.owned e && (to == me)) e _ _ refl
    (either (model.owned e && nat_lt (model.seen e) n) e _ _ refl
    (either (model.handed_to to e && (n == model.seen e)) e _ _ (left e) (left e))))

by-owning : (n : ℕ) (b : List ℕ) (e : model.Entry) → InstallsNone e (model.on_page n Write b e)
by-owning n b e =
    either (nat_lt n (model.seen e)) e _ _ (left e)
    (either (n == model.seen e) e _ _ (left e)
    (either (model.owned e) e _ _ (left e) refl))

clash : {b : Bool} → b ≡ false → b ≡ true → ⊥
clash none some = false≢true (sym none ∙ some)

pub only-a-grant-installs : {A : Type 0} (me : ℕ) (note : EntryNote A) (e : model.Entry) → installs (change_of e (row me (entry_note_of note) e).0) ≡ true → brings_copy note ≡ true
only-a-grant-installs me (entry_note.Clear n) e h = absurd (clash (by-clear n e) h)
only-a-grant-installs me (entry_note.Hand n Read to) e h = absurd (clash (by-lending me n to e) h)
only-a-grant-installs me (entry_note.Hand n Write to) e h = absurd (clash (by-handing me n to e) h)
only-a-grant-installs me (entry_note.Read given) e h = refl
only-a-grant-installs me (entry_note.Write given) e h = absurd (clash (by-owning given.number given.bytes e) h)
