-- What a call does to the kernel's list: nothing, one segment more, or one segment changed; and what that leaves as it was.
use Rattle.std.proofs.Common.{◌≡◌, ◌≢◌, ℕ, ◌+◌, ◌-◌, ◌%◌, ◌<◌, Bool, true, false, not, ◌&&◌, ◌||◌, List, [], ◌∷◌, ◌++◌, Option, Some, None, if◌then◌else◌, ◌==◌, refl, sym, ap, ◌∙◌, subst, arith, nat_lt, nat_le}
use Rattle.std.specs.List.{AllByRecursion}
use Rattle.std.proofs.lemmas.Bool.Decides.{nat_tests}
use Rattle.std.proofs.lemmas.Nat.{mod-mul-add}
use Rattle.shm_place.specs.Home.{home_of_id, home_of_key}
use Rattle.shm_place.specs.Limits.{max_segment_bytes, segments_of_a_home}
use Rattle.shm_model.specs.Basics.{greatest}
use Rattle.shm_model.specs.Permission.{Segment, destroyed, is_owner, may_attach, may_get, may_stat, has_creat, has_excl}
use Rattle.shm_model.specs.Kernel.{Called, call, detach, get_found, live_at, made_at, make, max_live, new_segment, next_id, on_live, replaced, with_id, with_key}
use Rattle.shm_model.specs.Calls.{op_home}
use Rattle.shm_model.specs.History.{is_attach, is_attached}
use Rattle.shm_model.specs.declared.call.Attached.{Attached}
use Rattle.shm_model.specs.declared.call.Cred.{Cred}
use Rattle.shm_model.specs.declared.call.Errno.{Errno}
use Rattle.shm_model.specs.declared.call.Errno.TheVariants.{Eacces, Eexist, Eidrm, Einval, Enoent, Enospc, Eperm}
use Rattle.shm_model.specs.declared.call.Op.{Op}
use Rattle.shm_model.specs.declared.call.Op.TheVariants.{Get, Attach, Detach, Remove, Set, Stat}
use Rattle.shm_model.specs.declared.call.Reply.{Reply}
use Rattle.shm_model.specs.declared.call.Reply.TheVariants.{Id, Attached as AttachedReply, Ok as OkReply, Refused}
use Rattle.shm_laws.proofs.Kernel.Parts.{HasKeyAtHome, found-id}
use Rattle.shm_laws.proofs.Kernel.Lists.{every-push, found-holds}

-- the call is a detach from this segment
abbrev pub is_detach : Op → ℕ → Bool
is_detach (Detach i) id = i == id
is_detach _ id = false

-- how often the call and its reply let a segment be held once more, and once less
abbrev pub gained : Op → Reply → ℕ → ℕ
gained op reply id = if is_attach op id && is_attached (Some reply) then 1 else 0

abbrev pub lost : Op → ℕ → ℕ
lost op id = if is_detach op id then 1 else 0

-- the segment that an identifier has, changed: who holds it moves with the reply
pub record Change (sites : ℕ) (op : Op) (reply : Reply) (id : ℕ) (old new : Segment) : Type 0 where
  pub same_id : new.id ≡ id
  pub key : new.key ≢ 0 → new.key ≡ old.key
  pub held : (i : ℕ) → i ≡ id → new.nattch + lost op i ≡ old.nattch + gained op reply i
  pub others : (i : ℕ) → i ≢ id → (lost op i ≡ 0) × (gained op reply i ≡ 0)

-- a call that changes nothing: a detach then found nobody attached
pub record Kept (op : Op) (reply : Reply) (segments : List Segment) : Type 0 where
  pub gained : (i : ℕ) → gained op reply i ≡ 0
  pub lost : (i : ℕ) → is_detach op i ≡ true → (g : Segment) → with_id i segments ≡ Some g → destroyed g ≡ false → g.nattch ≡ 0

pub record Made (sites home : ℕ) (op : Op) (reply : Reply) (segments : List Segment) (new : Segment) : Type 0 where
  pub id : new.id ≡ next_id sites home segments
  pub nattch : new.nattch ≡ 0
  pub marked : new.marked ≡ false
  pub key : HasKeyAtHome sites new
  pub gained : (i : ℕ) → gained op reply i ≡ 0
  pub lost : (i : ℕ) → lost op i ≡ 0

pub data Effect (sites home : ℕ) (op : Op) (segments : List Segment) : Called → Type 0 where
  kept : (reply : Reply) → Kept op reply segments → Effect sites home op segments (record { reply = reply; segments = segments })
  made : (reply : Reply) (new : Segment) → Made sites home op reply segments new → Effect sites home op segments (record { reply = reply; segments = segments ++ (new ∷ []) })
  changed : (reply : Reply) (id : ℕ) (old new : Segment) → with_id id segments ≡ Some old → destroyed old ≡ false → Change sites op reply id old new
      → Effect sites home op segments (record { reply = reply; segments = replaced id new segments })

effect-if : (sites home : ℕ) (op : Op) (segments : List Segment) (b : Bool) (x y : Called)
    → (b ≡ true → Effect sites home op segments x) → (b ≡ false → Effect sites home op segments y) → Effect sites home op segments (if b then x else y)
effect-if sites home op segments true x y yes' no' = yes' refl
effect-if sites home op segments false x y yes' no' = no' refl

module _ (sites home : ℕ) (below : home < sites) (op : Op) (segments : List Segment) where
  abbrev Does : Called → Type 0
  Does called = Effect sites home op segments called

  does-if : (b : Bool) (x y : Called) → (b ≡ true → Does x) → (b ≡ false → Does y) → Does (if b then x else y)
  does-if = effect-if sites home op segments

  -- any call but a detach
  does-nothing : (reply : Reply) → is_attached (Some reply) ≡ false → ((i : ℕ) → is_detach op i ≡ false) → Does (record { reply = reply; segments = segments })
  does-nothing reply unattached undetached = kept reply (record {
    gained = λ i. grind (arith, unattached);
    lost = λ i detaches g found alive. cc (undetached i);
  })

  does-on_live : (found : Option Segment) (calls : Segment → Called) → ((i : ℕ) → is_detach op i ≡ false)
      → ((g : Segment) → found ≡ Some g → destroyed g ≡ false → Does (calls g))
      → Does (on_live found calls segments)
  does-on_live None calls undetached does = does-nothing (Refused Einval) refl undetached
  does-on_live (Some g) calls undetached does =
      does-if (destroyed g) _ _ (λ is. does-nothing (Refused Eidrm) refl undetached) (λ is. does g refl is)

  does-make : (cred : Cred) (key size mode : ℕ) → (key ≢ 0 → key % sites ≡ home) → ((i : ℕ) → is_attach op i ≡ false) → ((i : ℕ) → is_detach op i ≡ false)
      → Does (make sites home cred key size mode segments)
  does-make cred key size mode at unattached undetached =
      does-if ((size == 0) || nat_lt max_segment_bytes size) _ _ (λ is. does-nothing (Refused Einval) refl undetached) (λ is.
      does-if (nat_le max_live (live_at sites home segments) || nat_le segments_of_a_home (made_at sites home segments)) _ _
      (λ is. does-nothing (Refused Enospc) refl undetached)
      (λ is. made (Id (next_id sites home segments)) (new_segment (next_id sites home segments) cred key size mode) (record {
        id = refl;
        nattch = refl;
        marked = refl;
        key = λ keyed. mod-mul-add (made_at sites home segments) sites home below ∙ sym (at keyed);
        gained = λ i. refl-gained i (unattached i);
        lost = λ i. rw (undetached i);
      })))
    where
      refl-gained : (i : ℕ) → is_attach op i ≡ false → gained op (Id (next_id sites home segments)) i ≡ 0
      refl-gained i h = rw h

  does-get_found : (found : Option Segment) (cred : Cred) (key size mode flags : ℕ) → (key ≢ 0 → key % sites ≡ home)
      → ((i : ℕ) → is_attach op i ≡ false) → ((i : ℕ) → is_detach op i ≡ false)
      → Does (get_found found sites home cred key size mode flags segments)
  does-get_found None cred key size mode flags at unattached undetached =
      does-if (has_creat flags) _ _ (λ is. does-make cred key size mode at unattached undetached) (λ is. does-nothing (Refused Enoent) refl undetached)
  does-get_found (Some g) cred key size mode flags at unattached undetached =
      does-if (has_creat flags && has_excl flags) _ _ (λ is. does-nothing (Refused Eexist) refl undetached) (λ is.
      does-if (nat_lt g.size size) _ _ (λ is. does-nothing (Refused Einval) refl undetached) (λ is.
      does-if (may_get cred mode g) _ _ (λ is. does-nothing (Id g.id) refl undetached) (λ is. does-nothing (Refused Eacces) refl undetached)))

key-home : (sites caller key home : ℕ) → home_of_key sites caller key ≡ home → key ≢ 0 → key % sites ≡ home
key-home sites caller key home at keyed = grind (arith, nat_tests)

-- an attach that was granted, and a detach of somebody
attach-change : (sites id : ℕ) (cred : Cred) (ro : Bool) (a : Attached) (g : Segment) → g.id ≡ id
    → Change sites (Attach cred id ro) (AttachedReply a) id g (record g { nattch = g.nattch + 1 })
attach-change sites id cred ro a g is = record {
  same_id = is;
  key = λ keyed. refl;
  held = λ i at. grind (arith, nat_tests);
  others = λ i other. (refl, grind (arith, nat_tests));
}

detach-change : (sites id : ℕ) (g : Segment) → g.id ≡ id → (g.nattch == 0) ≡ false
    → Change sites (Detach id) OkReply id g (record g { nattch = g.nattch - 1 })
detach-change sites id g is some = record {
  same_id = is;
  key = λ keyed. refl;
  held = λ i at. grind (arith, nat_tests);
  others = λ i other. (grind (arith, nat_tests), refl);
}

-- a call that neither attaches nor detaches
plain-change : (sites id : ℕ) (op : Op) (g new : Segment) → new.id ≡ id → new.nattch ≡ g.nattch → (new.key ≢ 0 → new.key ≡ g.key)
    → ((i : ℕ) → is_attach op i ≡ false) → ((i : ℕ) → is_detach op i ≡ false) → Change sites op OkReply id g new
plain-change sites id op g new is same keyed unattached undetached = record {
  same_id = is;
  key = keyed;
  held = λ i at. rw (unattached i, undetached i) (omega arith);
  others = λ i other. (rw (undetached i), rw (unattached i));
}

detach-kept : (id : ℕ) (segments : List Segment) (errno : Errno)
    → ((g : Segment) → with_id id segments ≡ Some g → destroyed g ≡ false → g.nattch ≡ 0) → Kept (Detach id) (Refused errno) segments
detach-kept id segments errno nobody = record {
  gained = λ i. refl;
  lost = λ i detaches g found alive. nobody g (let same : id ≡ i = grind (arith, nat_tests) in subst (λ x. with_id x segments ≡ Some g) (sym same) found) alive;
}

detach-found : (sites home id : ℕ) (segments : List Segment) (found : Option Segment) → with_id id segments ≡ found
    → Effect sites home (Detach id) segments (on_live found (λ g. detach id g segments) segments)
detach-found sites home id segments None is = kept (Refused Einval) (detach-kept id segments Einval (λ g found alive. cc))
detach-found sites home id segments (Some g) is =
    effect-if sites home (Detach id) segments (destroyed g) _ _
    (λ gone. kept (Refused Eidrm) (detach-kept id segments Eidrm (λ x found alive. cc (ap destroyed (same-segment g x is found)))))
    (λ alive. effect-if sites home (Detach id) segments (g.nattch == 0) _ _
    (λ none. kept (Refused Einval) (detach-kept id segments Einval (λ x found lives. nobody g x (same-segment g x is found) none)))
    (λ some. changed OkReply id g (record g { nattch = g.nattch - 1 }) is alive (detach-change sites id g (found-id id segments g is) some)))
  where
    same-segment : (g x : Segment) → with_id id segments ≡ Some g → with_id id segments ≡ Some x → g ≡ x
    same-segment g x p q = cc

    nobody : (g x : Segment) → g ≡ x → (g.nattch == 0) ≡ true → x.nattch ≡ 0
    nobody g x same none = let h : g.nattch ≡ 0 = grind (arith, nat_tests) in sym (ap (λ y. y.nattch) same) ∙ h

-- what each call does
pub effect-call : (sites home caller : ℕ) → home < sites → (op : Op) (segments : List Segment) → op_home sites caller op ≡ home
    → Effect sites home op segments (call sites home op segments)
effect-call sites home caller below (Get cred key size mode flags) segments at =
    let op = Get cred key size mode flags in
    let here : key ≢ 0 → key % sites ≡ home = key-home sites caller key home at in
    effect-if sites home op segments (key == 0) _ _
    (λ is. does-make sites home below op segments cred key size mode here (λ i. refl) (λ i. refl))
    (λ is. does-get_found sites home below op segments (with_key key segments) cred key size mode flags.0 here (λ i. refl) (λ i. refl))
effect-call sites home caller below (Attach cred id ro) segments at =
    let op = Attach cred id ro in
    does-on_live sites home below op segments (with_id id segments) _ (λ i. refl) (λ g found alive.
    effect-if sites home op segments (not (may_attach cred ro g)) _ _ (λ is. does-nothing sites home below op segments (Refused Eacces) refl (λ i. refl)) (λ is.
    effect-if sites home op segments (g.nattch == greatest) _ _ (λ is. does-nothing sites home below op segments (Refused Enospc) refl (λ i. refl)) (λ is.
    changed _ id g _ found alive (attach-change sites id cred ro _ g (found-id id segments g found)))))
effect-call sites home caller below (Detach id) segments at = detach-found sites home id segments (with_id id segments) refl
effect-call sites home caller below (Remove cred id) segments at =
    let op = Remove cred id in
    does-on_live sites home below op segments (with_id id segments) _ (λ i. refl) (λ g found alive.
    effect-if sites home op segments (not (is_owner cred g)) _ _ (λ is. does-nothing sites home below op segments (Refused Eperm) refl (λ i. refl)) (λ is.
    changed _ id g _ found alive (plain-change sites id op g (record g { key = 0; marked = true }) (found-id id segments g found) refl (λ keyed. absurd (keyed refl)) (λ i. refl) (λ i. refl))))
effect-call sites home caller below (Set cred id uid gid mode) segments at =
    let op = Set cred id uid gid mode in
    does-on_live sites home below op segments (with_id id segments) _ (λ i. refl) (λ g found alive.
    effect-if sites home op segments (not (is_owner cred g)) _ _ (λ is. does-nothing sites home below op segments (Refused Eperm) refl (λ i. refl)) (λ is.
    changed _ id g _ found alive (plain-change sites id op g (record g { uid = uid; gid = gid; mode = mode }) (found-id id segments g found) refl (λ keyed. refl) (λ i. refl) (λ i. refl))))
effect-call sites home caller below (Stat cred id) segments at =
    let op = Stat cred id in
    does-on_live sites home below op segments (with_id id segments) _ (λ i. refl) (λ g found alive.
    effect-if sites home op segments (not (may_stat cred g)) _ _ (λ is. does-nothing sites home below op segments (Refused Eacces) refl (λ i. refl)) (λ is.
    does-nothing sites home below op segments _ refl (λ i. refl)))

-- what holds of each segment, and of the changed one, holds after the change
replaced-step : (P : Segment → Type 0) (b : Bool) (new g : Segment) → P g → P new → P (if b then new else g)
replaced-step P true new g here there = there
replaced-step P false new g here there = here

pub every-replaced : (P : Segment → Type 0) (id : ℕ) (new : Segment) (segments : List Segment) → P new → AllByRecursion P segments → AllByRecursion P (replaced id new segments)
every-replaced P id new [] there all = tt
every-replaced P id new (g ∷ gs) there all = (replaced-step P (id == g.id) new g all.0 there, every-replaced P id new gs there all.1)

changed-home : (sites id : ℕ) (old new : Segment) → new.id ≡ id → old.id ≡ id → (new.key ≢ 0 → new.key ≡ old.key) → HasKeyAtHome sites old → HasKeyAtHome sites new
changed-home sites id old new is was keyed home nonzero =
    let key : new.key ≡ old.key = keyed nonzero in
    ap (home_of_id sites) (is ∙ sym was) ∙ (home (subst (λ k. k ≢ 0) key nonzero) ∙ ap (λ k. k % sites) (sym key))

-- keys stay at their homes
pub keys-after : (sites home : ℕ) (op : Op) (segments : List Segment) (done : Called) → Effect sites home op segments done
    → AllByRecursion (HasKeyAtHome sites) segments → AllByRecursion (HasKeyAtHome sites) done.segments
keys-after sites home op segments done (kept reply none) all = all
keys-after sites home op segments done (made reply new is) all = every-push (HasKeyAtHome sites) segments new all is.key
keys-after sites home op segments done (changed reply id old new found alive change) all =
    every-replaced (HasKeyAtHome sites) id new segments
    (changed-home sites id old new change.same_id (found-id id segments old found) change.key (found-holds (HasKeyAtHome sites) (λ g. id == g.id) segments old all found)) all
