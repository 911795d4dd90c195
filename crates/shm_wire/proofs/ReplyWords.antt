-- Replies: what is read is spelled so, and what is spelled so is read.
use Rattle.std.proofs.Common.{◌≡◌, ℕ, List, [], ◌∷◌, Some, refl, ap, subst}
use Rattle.std.specs.Prelude.{codes}
use Rattle.std.specs.Fmt.{decimal}
use Rattle.shm_model.specs.declared.call.Reply.{Reply}
use Rattle.shm_model.specs.declared.call.Stat.{Stat as StatOf}
use Rattle.shm_model.specs.declared.call.Reply.TheVariants.{Id, Attached, Ok, Stat, Refused}
use Rattle.shm_lines.proofs.NumberWords.{number, wide}
use Rattle.shm_lines.proofs.OneWord.{mode, access}
use Rattle.shm_lines.proofs.ReadLemmas.{onto}
use Rattle.shm_lines.proofs.StepLemmas.{NoBlank-test}
use Rattle.shm_model.specs.Mode.{mode_word}
use Rattle.shm_lines.specs.Spelling.{access_word}
use Rattle.shm_wire.proofs.NameWords.{errno, standing}
use Rattle.shm_wire.proofs.Reading.{took, ended-is, prints, Reads, Sound, Spelled, by_verb-is, nothing-is, verb-is}
use Rattle.shm_wire.specs.Replies.{IsReply, reply_words, replies, reply_of, id_of, attached_of, stat_of, refused_of}
use Rattle.shm_wire.specs.Words.{by_verb, ended, nothing, standing_word}

module _ (words : List (List ℕ)) (reply : Reply) where
  id-is : id_of words ≡ Some reply → Reads IsReply reply_words (codes "id" ∷ words) reply
  id-is h =
      let i = took number words _ reply h in
      let e = ended-is (Id i.value) reply i.others i.gives in
      subst (Reads IsReply reply_words (codes "id" ∷ words)) e.1 (i.is, ap (λ l. codes "id" ∷ l) (onto i.are e.0))

  attached-is : attached_of words ≡ Some reply → Reads IsReply reply_words (codes "attached" ∷ words) reply
  attached-is h =
      let z = took number words _ reply h in
      let r = took access z.others _ reply z.gives in
      let e = ended-is (Attached (record { size = z.value; ro = r.value })) reply r.others r.gives in
      subst (Reads IsReply reply_words (codes "attached" ∷ words)) e.1 (z.is, ap (λ l. codes "attached" ∷ l) (onto z.are (onto r.are e.0)))

  ok-is : ended Ok words ≡ Some reply → Reads IsReply reply_words (codes "ok" ∷ words) reply
  ok-is h =
      let e = ended-is Ok reply words h in
      subst (Reads IsReply reply_words (codes "ok" ∷ words)) e.1 (tt, ap (λ l. codes "ok" ∷ l) e.0)

  stat-is : stat_of words ≡ Some reply → Reads IsReply reply_words (codes "stat" ∷ words) reply
  stat-is h =
      let k = took number words _ reply h in
      let u = took number k.others _ reply k.gives in
      let g = took number u.others _ reply u.gives in
      let cu = took number g.others _ reply g.gives in
      let cg = took number cu.others _ reply cu.gives in
      let m = took mode cg.others _ reply cg.gives in
      let z = took number m.others _ reply m.gives in
      let n = took wide z.others _ reply z.gives in
      let s = took standing n.others _ reply n.gives in
      let stat : StatOf = record { key = k.value; uid = u.value; gid = g.value; cuid = cu.value; cgid = cg.value; mode = m.value; size = z.value; nattch = n.value; marked = s.value } in
      let e = ended-is (Stat stat) reply s.others s.gives in
      subst (Reads IsReply reply_words (codes "stat" ∷ words)) e.1 (
        (k.is, u.is, g.is, cu.is, cg.is, m.is, z.is, n.is),
        ap (λ l. codes "stat" ∷ l) (onto k.are (onto u.are (onto g.are (onto cu.are (onto cg.are (onto m.are (onto z.are (onto n.are (onto s.are e.0))))))))),
      )

  refused-is : refused_of words ≡ Some reply → Reads IsReply reply_words (codes "refused" ∷ words) reply
  refused-is h =
      let r = took errno words _ reply h in
      let e = ended-is (Refused r.value) reply r.others r.gives in
      subst (Reads IsReply reply_words (codes "refused" ∷ words)) e.1 (tt, ap (λ l. codes "refused" ∷ l) (onto r.are e.0))

sound : Sound IsReply reply_words replies
sound = (id-is, (attached-is, (ok-is, (stat-is, (refused-is, tt)))))

pub reply-is : (words : List (List ℕ)) (reply : Reply) → reply_of words ≡ Some reply → Reads IsReply reply_words words reply
reply-is words reply h =
    verb-is IsReply reply_words (by_verb replies nothing) (by_verb-is IsReply reply_words replies nothing sound (nothing-is IsReply reply_words)) words reply h

pub reply-spelled : (reply : Reply) → IsReply reply → Spelled reply_of (reply_words reply) reply
reply-spelled (Id id) h = record { unparted = (NoBlank-test (codes "id") refl, (number.unparted id h, tt)); back = rw (prints number id [] h) refl }
reply-spelled (Attached a) h = record {
  unparted = (NoBlank-test (codes "attached") refl, (number.unparted a.size h, (access.unparted a.ro tt, tt)));
  back = rw (prints number a.size (access_word a.ro ∷ []) h, prints access a.ro [] tt) refl;
}
reply-spelled Ok h = record { unparted = (NoBlank-test (codes "ok") refl, tt); back = refl }
reply-spelled (Stat s) h =
    let last = decimal s.size ∷ decimal s.nattch ∷ standing_word s.marked ∷ [] in
    let more = decimal s.cuid ∷ decimal s.cgid ∷ mode_word s.mode ∷ last in
    record {
      unparted = (
        NoBlank-test (codes "stat") refl,
        (
          number.unparted s.key h.0,
          (
            number.unparted s.uid h.1,
            (
              number.unparted s.gid h.2,
              (
                number.unparted s.cuid h.3,
                (
                  number.unparted s.cgid h.4,
                  (mode.unparted s.mode h.5, (number.unparted s.size h.6, (wide.unparted s.nattch h.7, (standing.unparted s.marked tt, tt)))),
                ),
              ),
            ),
          ),
        ),
      );
      back = rw (
        prints number s.key (decimal s.uid ∷ decimal s.gid ∷ more) h.0,
        prints number s.uid (decimal s.gid ∷ more) h.1,
        prints number s.gid more h.2,
        prints number s.cuid (decimal s.cgid ∷ mode_word s.mode ∷ last) h.3,
        prints number s.cgid (mode_word s.mode ∷ last) h.4,
        prints mode s.mode last h.5,
        prints number s.size (decimal s.nattch ∷ standing_word s.marked ∷ []) h.6,
        prints wide s.nattch (standing_word s.marked ∷ []) h.7,
        prints standing s.marked [] tt,
      ) refl;
    }
reply-spelled (Refused error) h = record {
  unparted = (NoBlank-test (codes "refused") refl, (errno.unparted error tt, tt));
  back = rw (prints errno error [] tt) refl;
}
