-- The words of segment calls: what is read is spelled so, and what is spelled so is read.
use Rattle.std.proofs.Common.{◌≡◌, ℕ, List, [], ◌∷◌, Option, Some, refl, ap, ap₂, subst}
use Rattle.std.specs.Prelude.{codes}
use Rattle.std.specs.Fmt.{decimal}
use Rattle.std.specs.Str.{bytes_eq}
use Rattle.std.proofs.lemmas.Slice.Eq.{bytes_eq-Decides}
use Rattle.shm_model.specs.declared.call.Op.{Op}
use Rattle.shm_model.specs.declared.call.Op.TheVariants.{Get, Attach, Detach, Remove, Set, Stat}
use Rattle.shm_model.specs.declared.call.Request.{Request}
use Rattle.shm_model.specs.declared.call.Request.TheVariants.{Op as OpRequest, DetachAt}
use Rattle.shm_model.specs.Mode.{mode_word}
use Rattle.shm_lines.proofs.NumberWords.{number}
use Rattle.shm_lines.proofs.OneWord.{mode, flags, access}
use Rattle.shm_lines.proofs.Reading.{onto, onto2, took, took_cred, ended-is, cond-of, prints, prints_cred, unparted_cred, Reads, Sound, Spelled, SoundWords, SoundReader, by_verb-is, nothing-is, verb-is}
use Rattle.shm_lines.proofs.StepLemmas.{step, some-is, NoBlank-test}
use Rattle.shm_lines.specs.Calls.{IsCall, IsRequest, call_words, request_words, calls, common_of, call_of, request_of, get_of, attach_of, detach_of, detach_at_of, op_request_of, remove_of, set_of, stat_of}
use Rattle.shm_lines.specs.Words.{◌>>=◌, flags_word, access_word, next_word, by_verb, nothing, ended}

-- a call that a site may be asked for, too: any but a detach by the segment
abbrev IsAsked : Op → Type 0
IsAsked op = IsRequest (OpRequest op)

module _ (words : List (List ℕ)) (op : Op) where
  get-is : get_of words ≡ Some op → Reads IsAsked call_words (codes "get" ∷ words) op
  get-is h =
      let c = took_cred words _ op h in
      let k = took number c.others _ op c.gives in
      let z = took number k.others _ op k.gives in
      let m = took mode z.others _ op z.gives in
      let f = took flags m.others _ op m.gives in
      let e = ended-is (Get c.value k.value z.value m.value f.value) op f.others f.gives in
      subst (Reads IsAsked call_words (codes "get" ∷ words)) e.1 ((c.is, k.is, z.is, m.is, f.is), ap (λ l. codes "get" ∷ l) (onto2 c.are (onto k.are (onto z.are (onto m.are (onto f.are e.0))))))

  attach-is : attach_of words ≡ Some op → Reads IsAsked call_words (codes "attach" ∷ words) op
  attach-is h =
      let c = took_cred words _ op h in
      let i = took number c.others _ op c.gives in
      let r = took access i.others _ op i.gives in
      let e = ended-is (Attach c.value i.value r.value) op r.others r.gives in
      subst (Reads IsAsked call_words (codes "attach" ∷ words)) e.1 ((c.is, i.is), ap (λ l. codes "attach" ∷ l) (onto2 c.are (onto i.are (onto r.are e.0))))

  remove-is : remove_of words ≡ Some op → Reads IsAsked call_words (codes "remove" ∷ words) op
  remove-is h =
      let c = took_cred words _ op h in
      let i = took number c.others _ op c.gives in
      let e = ended-is (Remove c.value i.value) op i.others i.gives in
      subst (Reads IsAsked call_words (codes "remove" ∷ words)) e.1 ((c.is, i.is), ap (λ l. codes "remove" ∷ l) (onto2 c.are (onto i.are e.0)))

  set-is : set_of words ≡ Some op → Reads IsAsked call_words (codes "set" ∷ words) op
  set-is h =
      let c = took_cred words _ op h in
      let i = took number c.others _ op c.gives in
      let u = took number i.others _ op i.gives in
      let g = took number u.others _ op u.gives in
      let m = took mode g.others _ op g.gives in
      let e = ended-is (Set c.value i.value u.value g.value m.value) op m.others m.gives in
      subst (Reads IsAsked call_words (codes "set" ∷ words)) e.1 ((c.is, i.is, u.is, g.is, m.is), ap (λ l. codes "set" ∷ l) (onto2 c.are (onto i.are (onto u.are (onto g.are (onto m.are e.0))))))

  stat-is : stat_of words ≡ Some op → Reads IsAsked call_words (codes "stat" ∷ words) op
  stat-is h =
      let c = took_cred words _ op h in
      let i = took number c.others _ op c.gives in
      let e = ended-is (Stat c.value i.value) op i.others i.gives in
      subst (Reads IsAsked call_words (codes "stat" ∷ words)) e.1 ((c.is, i.is), ap (λ l. codes "stat" ∷ l) (onto2 c.are (onto i.are e.0)))

sound_calls : Sound IsAsked call_words calls
sound_calls = (get-is, (attach-is, (remove-is, (set-is, (stat-is, tt)))))

common-is : SoundReader IsAsked call_words common_of
common-is = by_verb-is IsAsked call_words calls nothing sound_calls (nothing-is IsAsked call_words)

-- ---- what a site is asked to begin

detach_at-is : SoundWords IsRequest request_words (codes "detach") detach_at_of
detach_at-is words request h =
    let a = took number words _ request h in
    let e = ended-is (DetachAt a.value) request a.others a.gives in
    subst (Reads IsRequest request_words (codes "detach" ∷ words)) e.1 (a.is, ap (λ l. codes "detach" ∷ l) (onto a.are e.0))

op_request-is : SoundReader IsRequest request_words op_request_of
op_request-is word words request h =
    let s = step (common_of word words) _ request h in
    let r = common-is word words s.value s.gave in
    subst (Reads IsRequest request_words (word ∷ words)) (some-is (OpRequest s.value) request s.gives) r

pub request-is : SoundReader IsRequest request_words request_of
request-is = by_verb-is IsRequest request_words ((codes "detach", detach_at_of) ∷ []) op_request_of (detach_at-is, tt) op_request-is

-- ---- calls between sites

asked-is_call : (op : Op) → IsAsked op → IsCall op
asked-is_call (Get _ _ _ _ _) h = h
asked-is_call (Attach _ _ _) h = h
asked-is_call (Detach id) h = absurd h
asked-is_call (Remove cred id) h = h
asked-is_call (Set _ _ _ _ _) h = h
asked-is_call (Stat cred id) h = h

common-is_call : SoundReader IsCall call_words common_of
common-is_call word words op h =
    let r = common-is word words op h in
    (asked-is_call op r.0, r.1)

detach-is : SoundWords IsCall call_words (codes "detach") detach_of
detach-is [] op h = absurd (cc)
detach-is (word ∷ words) op h =
    let i = took number words _ op h in
    let c = cond-of (bytes_eq word (codes "id")) (ended (Detach i.value) i.others) op i.gives in
    let e = ended-is (Detach i.value) op i.others c.1 in
    subst (Reads IsCall call_words (codes "detach" ∷ word ∷ words)) e.1
    (i.is, ap₂ (λ w l. codes "detach" ∷ w ∷ l) ((bytes_eq-Decides word (codes "id")).0 c.0) (onto i.are e.0))

pub call-is : (words : List (List ℕ)) (op : Op) → call_of words ≡ Some op → Reads IsCall call_words words op
call-is words op h =
    verb-is IsCall call_words (by_verb ((codes "detach", detach_of) ∷ []) common_of)
    (by_verb-is IsCall call_words ((codes "detach", detach_of) ∷ []) common_of (detach-is, tt) common-is_call) words op h

-- ---- what is spelled so is read

abbrev common_words : List (List ℕ) → Option Op
common_words words = do
  (verb, words) ← next_word words
  common_of verb words

common-spelled : (op : Op) → IsAsked op → Spelled common_words (call_words op) op
common-spelled (Get cred key size m f) h =
    let words = decimal key ∷ decimal size ∷ mode_word m ∷ flags_word f ∷ [] in
    record {
      unparted = (NoBlank-test (codes "get") refl, unparted_cred cred words h.0 (number.unparted key h.1, (number.unparted size h.2, (mode.unparted m h.3, (flags.unparted f h.4, tt)))));
      back = rw (
        prints_cred cred words h.0,
        prints number key (decimal size ∷ mode_word m ∷ flags_word f ∷ []) h.1,
        prints number size (mode_word m ∷ flags_word f ∷ []) h.2,
        prints mode m (flags_word f ∷ []) h.3,
        prints flags f [] h.4,
      ) refl;
    }
common-spelled (Attach cred id ro) h =
    let words = decimal id ∷ access_word ro ∷ [] in
    record {
      unparted = (NoBlank-test (codes "attach") refl, unparted_cred cred words h.0 (number.unparted id h.1, (access.unparted ro tt, tt)));
      back = rw (prints_cred cred words h.0, prints number id (access_word ro ∷ []) h.1, prints access ro [] tt) refl;
    }
common-spelled (Detach id) h = absurd h
common-spelled (Remove cred id) h =
    let words = decimal id ∷ [] in
    record {
      unparted = (NoBlank-test (codes "remove") refl, unparted_cred cred words h.0 (number.unparted id h.1, tt));
      back = rw (prints_cred cred words h.0, prints number id [] h.1) refl;
    }
common-spelled (Set cred id uid gid m) h =
    let words = decimal id ∷ decimal uid ∷ decimal gid ∷ mode_word m ∷ [] in
    record {
      unparted = (NoBlank-test (codes "set") refl, unparted_cred cred words h.0 (number.unparted id h.1, (number.unparted uid h.2, (number.unparted gid h.3, (mode.unparted m h.4, tt)))));
      back = rw (
        prints_cred cred words h.0,
        prints number id (decimal uid ∷ decimal gid ∷ mode_word m ∷ []) h.1,
        prints number uid (decimal gid ∷ mode_word m ∷ []) h.2,
        prints number gid (mode_word m ∷ []) h.3,
        prints mode m [] h.4,
      ) refl;
    }
common-spelled (Stat cred id) h =
    let words = decimal id ∷ [] in
    record {
      unparted = (NoBlank-test (codes "stat") refl, unparted_cred cred words h.0 (number.unparted id h.1, tt));
      back = rw (prints_cred cred words h.0, prints number id [] h.1) refl;
    }

requests : Option Op → Option Request
requests o = o >>= λ op. Some (OpRequest op)

pub request-spelled : (request : Request) → IsRequest request → Spelled (λ words. next_word words >>= λ p. request_of p.0 p.1) (request_words request) request
unfolding requests
request-spelled (OpRequest (Get cred key size m f)) h = let s = common-spelled (Get cred key size m f) h in record { unparted = s.unparted; back = ap requests s.back }
request-spelled (OpRequest (Attach cred id ro)) h = let s = common-spelled (Attach cred id ro) h in record { unparted = s.unparted; back = ap requests s.back }
request-spelled (OpRequest (Detach id)) h = absurd h
request-spelled (OpRequest (Remove cred id)) h = let s = common-spelled (Remove cred id) h in record { unparted = s.unparted; back = ap requests s.back }
request-spelled (OpRequest (Set cred id uid gid m)) h = let s = common-spelled (Set cred id uid gid m) h in record { unparted = s.unparted; back = ap requests s.back }
request-spelled (OpRequest (Stat cred id)) h = let s = common-spelled (Stat cred id) h in record { unparted = s.unparted; back = ap requests s.back }
request-spelled (DetachAt at) h = record {
  unparted = (NoBlank-test (codes "detach") refl, (number.unparted at h, tt));
  back = rw (prints number at [] h) refl;
}

pub call-spelled : (op : Op) → IsCall op → Spelled call_of (call_words op) op
call-spelled (Get cred key size m f) h = let s = common-spelled (Get cred key size m f) h in record { unparted = s.unparted; back = s.back }
call-spelled (Attach cred id ro) h = let s = common-spelled (Attach cred id ro) h in record { unparted = s.unparted; back = s.back }
call-spelled (Detach id) h = record {
  unparted = (NoBlank-test (codes "detach") refl, (NoBlank-test (codes "id") refl, (number.unparted id h, tt)));
  back = rw (prints number id [] h) refl;
}
call-spelled (Remove cred id) h = let s = common-spelled (Remove cred id) h in record { unparted = s.unparted; back = s.back }
call-spelled (Set cred id uid gid m) h = let s = common-spelled (Set cred id uid gid m) h in record { unparted = s.unparted; back = s.back }
call-spelled (Stat cred id) h = let s = common-spelled (Stat cred id) h in record { unparted = s.unparted; back = s.back }
