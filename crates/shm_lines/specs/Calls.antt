-- The words of a segment call, wherever one is spelled: its verb, and what stands behind it. In a script the site stands between them.
use Rattle.std.specs.Prelude.{ℕ, if◌then◌else◌, List, [], ◌∷◌, codes, Option, None, Some}
use Rattle.std.specs.Fmt.{decimal}
use Rattle.std.specs.Str.{bytes_eq}
use Rattle.shm_model.specs.declared.call.Cred.{Cred}
use Rattle.shm_model.specs.declared.call.Op.{Op}
use Rattle.shm_model.specs.declared.call.Op.TheVariants.{Get, Attach, Detach, Remove, Set, Stat}
use Rattle.shm_model.specs.declared.call.Request.{Request}
use Rattle.shm_model.specs.declared.call.Request.TheVariants.{Op as OpRequest, DetachAt}
use Rattle.shm_model.specs.Mode.{mode_word}
use Rattle.shm_lines.specs.Words.{◌>>=◌, IsNumber, IsCred, IsMode, IsFlags, flags_word, access_word, mode_of, flags_of, access_of, next_word, next_of, next_number, next_cred, Verbs, by_verb, nothing, ended}

-- ---- the calls that there are, of all that the numbers could make

-- what a site sends to another: a detach names the segment
abbrev pub IsCall : Op → Type 0
IsCall (Get cred key size mode flags) = IsCred cred × IsNumber key × IsNumber size × IsMode mode × IsFlags flags
IsCall (Attach cred id ro) = IsCred cred × IsNumber id
IsCall (Detach id) = IsNumber id
IsCall (Remove cred id) = IsCred cred × IsNumber id
IsCall (Set cred id uid gid mode) = IsCred cred × IsNumber id × IsNumber uid × IsNumber gid × IsMode mode
IsCall (Stat cred id) = IsCred cred × IsNumber id

-- what a site is asked to begin: a detach is by the attachment's number, never by the segment's
abbrev pub IsRequest : Request → Type 0
IsRequest (OpRequest (Detach id)) = ⊥
IsRequest (OpRequest op) = IsCall op
IsRequest (DetachAt at) = IsNumber at

-- ---- their words

abbrev pub call_verb : Op → List ℕ
call_verb (Get _ _ _ _ _) = codes "get"
call_verb (Attach _ _ _) = codes "attach"
call_verb (Detach _) = codes "detach"
call_verb (Remove _ _) = codes "remove"
call_verb (Set _ _ _ _ _) = codes "set"
call_verb (Stat _ _) = codes "stat"

abbrev pub by : Cred → List (List ℕ) → List (List ℕ)
by cred words = decimal cred.uid ∷ decimal cred.gid ∷ words

-- behind the verb
abbrev pub words_of_call : Op → List (List ℕ)
words_of_call (Get cred key size mode flags) = by cred (decimal key ∷ decimal size ∷ mode_word mode ∷ flags_word flags ∷ [])
words_of_call (Attach cred id ro) = by cred (decimal id ∷ access_word ro ∷ [])
words_of_call (Detach id) = codes "id" ∷ decimal id ∷ []
words_of_call (Remove cred id) = by cred (decimal id ∷ [])
words_of_call (Set cred id uid gid mode) = by cred (decimal id ∷ decimal uid ∷ decimal gid ∷ mode_word mode ∷ [])
words_of_call (Stat cred id) = by cred (decimal id ∷ [])

abbrev pub call_words : Op → List (List ℕ)
call_words op = call_verb op ∷ words_of_call op

abbrev pub request_verb : Request → List ℕ
request_verb (OpRequest op) = call_verb op
request_verb (DetachAt at) = codes "detach"

abbrev pub words_of_request : Request → List (List ℕ)
words_of_request (OpRequest op) = words_of_call op
words_of_request (DetachAt at) = decimal at ∷ []

abbrev pub request_words : Request → List (List ℕ)
request_words request = request_verb request ∷ words_of_request request

-- ---- how they are read

-- `get`: `uid gid key size mode flags`
abbrev pub get_of : List (List ℕ) → Option Op
get_of words = do
  (cred, words) ← next_cred words
  (key, words) ← next_number words
  (size, words) ← next_number words
  (mode, words) ← next_of mode_of words
  (flags, words) ← next_of flags_of words
  ended (Get cred key size mode flags) words

-- `attach`: `uid gid id ro` or `rw`
abbrev pub attach_of : List (List ℕ) → Option Op
attach_of words = do
  (cred, words) ← next_cred words
  (id, words) ← next_number words
  (ro, words) ← next_of access_of words
  ended (Attach cred id ro) words

-- `remove`: `uid gid id`
abbrev pub remove_of : List (List ℕ) → Option Op
remove_of words = do
  (cred, words) ← next_cred words
  (id, words) ← next_number words
  ended (Remove cred id) words

-- `set`: `uid gid id newuid newgid mode`
abbrev pub set_of : List (List ℕ) → Option Op
set_of words = do
  (cred, words) ← next_cred words
  (id, words) ← next_number words
  (uid, words) ← next_number words
  (gid, words) ← next_number words
  (mode, words) ← next_of mode_of words
  ended (Set cred id uid gid mode) words

-- `stat`: `uid gid id`
abbrev pub stat_of : List (List ℕ) → Option Op
stat_of words = do
  (cred, words) ← next_cred words
  (id, words) ← next_number words
  ended (Stat cred id) words

-- the calls that a site is asked for and sends to another as they are
abbrev pub calls : Verbs Op
calls = (codes "get", get_of) ∷ (codes "attach", attach_of) ∷ (codes "remove", remove_of) ∷ (codes "set", set_of) ∷ (codes "stat", stat_of) ∷ []

abbrev pub common_of : List ℕ → List (List ℕ) → Option Op
common_of = by_verb calls nothing

-- `detach`: `attachment`
abbrev pub detach_at_of : List (List ℕ) → Option Request
detach_at_of words = do
  (at, words) ← next_number words
  ended (DetachAt at) words

abbrev pub op_request_of : List ℕ → List (List ℕ) → Option Request
op_request_of verb words = do
  op ← common_of verb words
  Some (OpRequest op)

-- what a site is asked to begin, by the verb and the words behind it
abbrev pub request_of : List ℕ → List (List ℕ) → Option Request
request_of = by_verb ((codes "detach", detach_at_of) ∷ []) op_request_of

-- `detach`: `id N`
abbrev pub detach_of : List (List ℕ) → Option Op
detach_of words = do
  (word, words) ← next_word words
  (id, words) ← next_number words
  if bytes_eq word (codes "id") then ended (Detach id) words else None

-- what a site sends to another
abbrev pub call_of : List (List ℕ) → Option Op
call_of words = do
  (verb, words) ← next_word words
  by_verb ((codes "detach", detach_of) ∷ []) common_of verb words
