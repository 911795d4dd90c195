-- Calls on the segments of one home, one after another: what is full, and what a removal frees.
use Rattle.std.specs.Prelude.{◌≡◌, ℕ, List, [], ◌∷◌, ◌++◌, map, replicate}
use Rattle.std.specs.List.{range_with_len}
use Rattle.shm_model.specs.declared.call.Errno.TheVariants.{Eidrm, Einval, Enoent, Enospc}
use Rattle.shm_model.specs.declared.call.Op.{Op}
use Rattle.shm_model.specs.declared.call.Op.TheVariants.{Get, Attach, Detach, Remove, Stat}
use Rattle.shm_model.specs.declared.call.Reply.{Reply}
use Rattle.shm_model.specs.declared.call.Reply.TheVariants.{Id, Attached}
use Rattle.shm_model.specs.Permission.{Segment}
use Rattle.shm_model.specs.Kernel.{call, max_live}
use Rattle.shm_laws.specs.Rows.Words.{cred, error, ok, rw}

-- the replies of the one home of one site
abbrev pub replies : List Op → List Segment → List Reply
replies [] segments = []
replies (op ∷ ops) segments = (call 1 0 op segments).reply ∷ replies ops (call 1 0 op segments).segments

-- from no segment at all, these calls get these replies
unfoldable pub RepliedSo : List Op → List Reply → Type 0
RepliedSo ops rs = replies ops [] ≡ rs

-- user 0 makes a segment of its own, or asks for a key that nobody has
abbrev pub get : ℕ → ℕ → Op
get key size = Get (cred 0 0) key size 0o600 (record { 0 = 0 })

abbrev pub full_table : List Op
full_table =
    replicate max_live (get 0 1)
    ++ (get 0 1 ∷ get 0 0 ∷ get 9 1 ∷ Remove (cred 0 0) 0 ∷ get 0 1 ∷ Stat (cred 0 0) 0 ∷ Stat (cred 0 0) 70 ∷ Detach 1
    ∷ Attach (cred 0 0) 1 rw ∷ Remove (cred 0 0) 1 ∷ get 0 1 ∷ Detach 1 ∷ get 0 1 ∷ [])

abbrev pub full_table_replies : List Reply
full_table_replies =
    map Id (range_with_len 0 64)
    ++ (error Enospc ∷ error Einval ∷ error Enoent ∷ ok ∷ Id 64 ∷ error Eidrm ∷ error Einval ∷ error Einval
    ∷ Attached (record { size = 1; ro = rw }) ∷ ok ∷ error Enospc ∷ ok ∷ Id 65 ∷ [])
