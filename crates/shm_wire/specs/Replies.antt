-- The replies to segment calls as words.
use Rattle.std.specs.Prelude.{⊤, ℕ, List, [], ◌∷◌, codes, Option}
use Rattle.std.specs.Fmt.{decimal}
use Rattle.shm_model.specs.declared.call.Reply.{Reply}
use Rattle.shm_model.specs.declared.call.Stat.{Stat as StatOf}
use Rattle.shm_model.specs.declared.call.Reply.TheVariants.{Id, Attached, Ok, Stat, Refused}
use Rattle.shm_lines.specs.Words.{◌>>=◌, mode_of, access_of, next_word, next_of, next_number, IsWide, wide_of}
use Rattle.shm_model.specs.Mode.{mode_word}
use Rattle.shm_lines.specs.Spelling.{IsNumber, IsMode, access_word}
use Rattle.shm_wire.specs.Words.{Verbs, by_verb, ended, errno_of, errno_word, nothing, standing_of, standing_word}

abbrev pub IsReply : Reply → Type 0
IsReply (Id id) = IsNumber id
IsReply (Attached a) = IsNumber a.size
IsReply Ok = ⊤
IsReply (Stat s) =
    IsNumber s.key × IsNumber s.uid × IsNumber s.gid × IsNumber s.cuid × IsNumber s.cgid × IsMode s.mode × IsNumber s.size × IsWide s.nattch
IsReply (Refused error) = ⊤

abbrev pub stat_words : StatOf → List (List ℕ)
stat_words s =
    decimal s.key ∷ decimal s.uid ∷ decimal s.gid ∷ decimal s.cuid ∷ decimal s.cgid ∷ mode_word s.mode
    ∷ decimal s.size ∷ decimal s.nattch ∷ standing_word s.marked ∷ []

abbrev pub reply_words : Reply → List (List ℕ)
reply_words (Id id) = codes "id" ∷ decimal id ∷ []
reply_words (Attached a) = codes "attached" ∷ decimal a.size ∷ access_word a.ro ∷ []
reply_words Ok = codes "ok" ∷ []
reply_words (Stat s) = codes "stat" ∷ stat_words s
reply_words (Refused error) = codes "refused" ∷ errno_word error ∷ []

-- ---- how they are read

-- `id N`
abbrev pub id_of : List (List ℕ) → Option Reply
id_of words = do
  (id, words) ← next_number words
  ended (Id id) words

-- `attached size ro` or `rw`
abbrev pub attached_of : List (List ℕ) → Option Reply
attached_of words = do
  (size, words) ← next_number words
  (ro, words) ← next_of access_of words
  ended (Attached (record { size = size; ro = ro })) words

-- `stat key uid gid cuid cgid mode size nattch marked` or `live`
abbrev pub stat_of : List (List ℕ) → Option Reply
stat_of words = do
  (key, words) ← next_number words
  (uid, words) ← next_number words
  (gid, words) ← next_number words
  (cuid, words) ← next_number words
  (cgid, words) ← next_number words
  (mode, words) ← next_of mode_of words
  (size, words) ← next_number words
  (nattch, words) ← next_of wide_of words
  (marked, words) ← next_of standing_of words
  ended (Stat (record { key = key; uid = uid; gid = gid; cuid = cuid; cgid = cgid; mode = mode; size = size; nattch = nattch; marked = marked })) words

-- `refused ERROR`
abbrev pub refused_of : List (List ℕ) → Option Reply
refused_of words = do
  (error, words) ← next_of errno_of words
  ended (Refused error) words

abbrev pub replies : Verbs Reply
replies =
    (codes "id", id_of) ∷ (codes "attached", attached_of) ∷ (codes "ok", ended Ok) ∷ (codes "stat", stat_of) ∷ (codes "refused", refused_of) ∷ []

abbrev pub reply_of : List (List ℕ) → Option Reply
reply_of words = do
  (verb, words) ← next_word words
  by_verb replies nothing verb words
