-- One call on a table, and the step of the site that serves it.
use Rattle.std.proofs.Common.{◌≡◌, ◌∙◌, sym, ℕ, Bool, true, false, cond, ◌==◌, List, Option, Some, None, IfSome, ap, refl}
use Rattle.std.proofs.Math.Path.{fun_ext}
use Rattle.shm_place.specs.Home.{home_of_id}
use Rattle.shm_model.specs.declared.answer.Answer.TheVariants.{Took}
use Rattle.shm_model.specs.declared.call.Cred.{Cred}
use Rattle.shm_model.specs.declared.call.Op.{Op}
use Rattle.shm_model.specs.declared.call.Op.TheVariants.{Get, Attach, Detach, Remove, Set, Stat}
use Rattle.shm_model.specs.declared.call.Reply.{Reply}
use Rattle.shm_model.specs.declared.call.Reply.TheVariants.{Ok as OkReply}
use Rattle.shm_model.specs.declared.mode_and_get_flags.Mode.{Mode}
use Rattle.shm_model.specs.Basics.{at}
use Rattle.shm_model.specs.Calls.{Kept, Freshness, Fresh, freshness, op_home}
use Rattle.shm_model.specs.Kernel.{Called, attach, call, destroyed_by, destroyed_in, named_by, set, with_id}
use Rattle.shm_model.specs.Permission.{Segment}
use Rattle.shm_model.specs.Site.{Step, Site}
use Rattle.shm_model.specs.SegmentCalls.{executed, on_call, on_call_as, with_missing}
use Rattle.shm_number.specs.Kept.{kept_at, kept_then}
use Rattle.shm_keys.specs.Purge.{missing_after}
use Rattle.shm_keys.specs.Table.{Table, missing_of}
use Rattle.shm_attach.specs.Home.{Home, IsRun, kept_of, kept_reply, sent_for, with_home}
use Rattle.shm_attach.specs.declared.call_outcome.Done.{Done}
use Rattle.shm_attach.proofs.Destroyed.{attach_keeps, on_live_keeps, set_keeps}

-- what a call names is where the call goes
pub named_home : (sites from home : ℕ) (op : Op) → op_home sites from op ≡ home → IfSome (named_by op) (λ id. home_of_id sites id ≡ home)
named_home sites from home (Get _ _ _ _ _) e = tt
named_home sites from home (Attach _ id _) e = e
named_home sites from home (Detach id) e = e
named_home sites from home (Remove _ id) e = e
named_home sites from home (Set _ id _ _ _) e = e
named_home sites from home (Stat _ id) e = e

-- a call that destroyed nothing
pub told_run : (op : Op) (before after : Table) (reply : Reply) → call before.sites before.home op before.segments ≡ record { reply = reply; segments = after.segments } → destroyed_by op before.segments after.segments ≡ None → after ≡ record before { segments = after.segments } → IsRun op before after (record { reply = reply; destroyed = None })
told_run op before after reply called destroyed rest = record {
  called = called;
  destroyed = destroyed;
  missing = λ id site. ap (λ (t : Table). missing_of t id site) rest;
  home = ap (λ (t : Table). t.home) rest;
  sites = ap (λ (t : Table). t.sites) rest;
}

pub attach_run : (cred : Cred) (id : ℕ) (ro : Bool) (before after : Table) (reply : Reply) → call before.sites before.home (Attach cred id ro) before.segments ≡ record { reply = reply; segments = after.segments } → after ≡ record before { segments = after.segments } → IsRun (Attach cred id ro) before after (record { reply = reply; destroyed = None })
attach_run cred id ro before after reply called rest =
    let later : after.segments ≡ (call before.sites before.home (Attach cred id ro) before.segments).segments = ap (λ (c : Called). c.segments) (sym called) in
    let s = before.segments in
    told_run (Attach cred id ro) before after reply called (ap (λ (t : List Segment). destroyed_in (Some id) s t) later ∙ on_live_keeps id s (λ g. attach cred id ro g s) (with_id id s) refl (λ g found alive. attach_keeps cred id ro s g found)) rest

pub set_run : (cred : Cred) (id uid gid : ℕ) (mode : Mode) (before after : Table) (reply : Reply) → call before.sites before.home (Set cred id uid gid mode) before.segments ≡ record { reply = reply; segments = after.segments } → after ≡ record before { segments = after.segments } → IsRun (Set cred id uid gid mode) before after (record { reply = reply; destroyed = None })
set_run cred id uid gid mode before after reply called rest =
    let later : after.segments ≡ (call before.sites before.home (Set cred id uid gid mode) before.segments).segments = ap (λ (c : Called). c.segments) (sym called) in
    let s = before.segments in
    told_run (Set cred id uid gid mode) before after reply called (ap (λ (t : List Segment). destroyed_in (Some id) s t) later ∙ on_live_keeps id s (λ g. set cred id uid gid mode g s) (with_id id s) refl (λ g found alive. set_keeps cred id uid gid mode s g found alive)) rest

-- a call that was done, and may have destroyed the segment
pub done_run : (op : Op) (before after : Table) (ended : Option ℕ)
    → call before.sites before.home op before.segments ≡ record { reply = OkReply; segments = after.segments } → destroyed_by op before.segments after.segments ≡ ended
    → ((other site : ℕ) → missing_of after other site ≡ missing_after (destroyed_by op before.segments after.segments) before.sites (missing_of before) other site)
    → after ≡ record before { segments = after.segments; missing = after.missing } → IsRun op before after (record { reply = OkReply; destroyed = ended })
done_run op before after ended called destroyed moves rest = record {
  called = called;
  destroyed = destroyed;
  missing = λ other site. moves other site ∙ ap (λ (d : Option ℕ). missing_after d before.sites (missing_of before) other site) destroyed;
  home = ap (λ (b : Table). b.home) rest;
  sites = ap (λ (b : Table). b.sites) rest;
}

through : (b : Bool) (x y : Option (ℕ × Reply)) → kept_reply (cond b x y) ≡ cond b (kept_reply x) (kept_reply y)
through true x y = refl
through false x y = refl

pub kept_keep : (old new : List (Option (ℕ × Reply))) (from number : ℕ) (reply : Reply) → kept_at new ≡ kept_then (kept_at old) from number reply → kept_of new ≡ at (kept_of old) from (Some (record { number = number; reply = reply }))
kept_keep old new from number reply e =
    ap {B = ℕ → Option Kept} (λ (f : ℕ → Option (ℕ × Reply)) (j : ℕ). kept_reply (f j)) e
    ∙ fun_ext (λ j. through (from == j) (Some (number, reply)) (kept_at old j))

abbrev told_step : ℕ → ℕ → ℕ → ℕ → Done → Site → Step
told_step sites me from number done site = record { site = site; answer = Took; sent = sent_for sites me from number (Some done) }

with_missing_is : (gone : Option ℕ) (sites : ℕ) (site : Site) (m : ℕ → ℕ → Bool) (table : List Segment) (kept : ℕ → Option Kept) → with_missing sites gone (record site { table = table; kept = kept; missing = m }) ≡ record site { table = table; kept = kept; missing = missing_after gone sites m }
with_missing_is None sites site m table kept = refl
with_missing_is (Some id) sites site m table kept = refl

-- the site that served a fresh call
pub served : (site : Site) (old new : Home) (from number : ℕ) (op : Op) (done : Done) → Fresh ≡ freshness (kept_of old.kept from) number → IsRun op old.table new.table done → kept_of new.kept ≡ at (kept_of old.kept) from (Some (record { number = number; reply = done.reply }))
    → on_call old.table.sites old.table.home from number op (with_home old site) ≡ record { site = with_home new site; answer = Took; sent = sent_for old.table.sites old.table.home from number (Some done) }
served site old new from number op done fresh run kept =
    let sites = old.table.sites in
    let me = old.table.home in
    let s = old.table.segments in
    let t = new.table.segments in
    let missing : missing_of new.table ≡ missing_after done.destroyed sites (missing_of old.table) = fun_ext (λ id. fun_ext (λ j. run.missing id j)) in
    let noted : ℕ → Option Kept = at (kept_of old.kept) from (Some (record { number = number; reply = done.reply })) in
    let after : with_missing sites done.destroyed (record site { table = t; kept = noted; missing = missing_of old.table }) ≡ with_home new site =
    with_missing_is done.destroyed sites site (missing_of old.table) t noted
    ∙ ap (λ (k : ℕ → Option Kept). record site { table = t; kept = k; missing = missing_after done.destroyed sites (missing_of old.table) }) (sym kept)
    ∙ ap (λ (m : ℕ → ℕ → Bool). record site { table = t; kept = kept_of new.kept; missing = m }) (sym missing) in
    ap (λ (f : Freshness). on_call_as f sites me from number op (with_home old site)) (sym fresh)
    ∙ ap (λ (c : Called). executed sites me from number c (destroyed_by op s c.segments) (with_home old site)) run.called
    ∙ ap (λ (gone : Option ℕ). executed sites me from number (record { reply = done.reply; segments = t }) gone (with_home old site)) run.destroyed
    ∙ ap (told_step sites me from number done) after
