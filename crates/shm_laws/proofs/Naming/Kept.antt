-- A site's attachments are what the account names.
use Rattle.std.proofs.Common.{◌≡◌, ◌≢◌, ℕ, ◌⊎◌, inl, inr, Bool, ◌==◌, Option, Some, None, List, ◌∷◌, arith, refl, sym, ◌∙◌, ap}
use Rattle.std.proofs.lemmas.Bool.{cond-true, cond-false}
use Rattle.std.proofs.lemmas.Bool.Decides.{nat_tests}
use Rattle.shm_model.specs.declared.answer.Answer.{Answer}
use Rattle.shm_model.specs.declared.answer.Answer.TheVariants.{Byte, Stored, Fault, Waiting, Began, Replied, Took, Dropped, Refused}
use Rattle.shm_model.specs.declared.call.Cred.{Cred}
use Rattle.shm_model.specs.declared.call.Op.{Op}
use Rattle.shm_model.specs.declared.call.Op.TheVariants.{Attach}
use Rattle.shm_model.specs.declared.call.Reply.{Reply}
use Rattle.shm_model.specs.Message.{Envelope, Input, Deliver}
use Rattle.shm_model.specs.Calls.{Attachment, Outstanding}
use Rattle.shm_model.specs.Site.{Site, Step}
use Rattle.shm_model.specs.Memory.{op_after, op_of, segment_after, segment_of}
use Rattle.shm_model.specs.World.{Done, Opening}

pub record Naming (o : Opening) (account : List Done) (s : ℕ) (site : Site) : Type 0 where
  pub named : (a : ℕ) (t : Attachment) → site.attachments a ≡ Some t → segment_of o account s a ≡ Some t.id
  pub called_as : (out : Outstanding) (cred : Cred) (id : ℕ) (ro : Bool) → site.outstanding ≡ Some out → out.op ≡ Attach cred id ro → op_of account s out.number ≡ Some (Attach cred id ro)

abbrev pub done_at : ℕ → Input → Answer → Done
done_at s input answer = record { site = s; input = Some input; answer = answer }

-- what another site's record leaves
pub other-naming : (o : Opening) (account : List Done) (d : Done) (t : ℕ) (site : Site) → d.site ≢ t → Naming o account t site → Naming o (d ∷ account) t site
other-naming o account d t site other n = record {
  named = λ a x e. cond-false (d.site == t) _ _ (grind (arith, nat_tests)) ∙ n.named a x e;
  called_as = λ out cred id ro e f. cond-false (d.site == t) _ _ (grind (arith, nat_tests)) ∙ n.called_as out cred id ro e f;
}

pub none-some : {X : Type 0} (x : X) → None ≡ Some x → ⊥
none-some x e = cc

module _ (o : Opening) (account : List Done) (s : ℕ) (site : Site) (n : Naming o account s site) where
  pub here-names : (input : Input) (answer : Answer) (a : ℕ) → segment_of o (done_at s input answer ∷ account) s a ≡ segment_after (Some input) answer (op_of account s) a (segment_of o account s a)
  here-names input answer a = cond-true (s == s) _ _ (grind (arith, nat_tests))

  pub here-called : (input : Input) (answer : Answer) (m : ℕ) → op_of (done_at s input answer ∷ account) s m ≡ op_after (Some input) answer m (op_of account s m)
  here-called input answer m = cond-true (s == s) _ _ (grind (arith, nat_tests))

  -- a record that renames nothing, after which the site has no more attachments and no other call
  pub kept-naming : (input : Input) (answer : Answer) (new : Site)
      → ((ops : ℕ → Option Op) (a : ℕ) (earlier : Option ℕ) → segment_after (Some input) answer ops a earlier ≡ earlier)
      → ((m : ℕ) (earlier : Option Op) → op_after (Some input) answer m earlier ≡ earlier)
      → new.attachments ≡ site.attachments → (new.outstanding ≡ None) ⊎ (new.outstanding ≡ site.outstanding) → Naming o (done_at s input answer ∷ account) s new
  kept-naming input answer new r b same out = record {
    named = λ a t e. here-names input answer a ∙ (r (op_of account s) a (segment_of o account s a) ∙ n.named a t (sym (ap (λ (f : ℕ → Option Attachment). f a) same) ∙ e));
    called_as = λ x cred id ro e f. here-called input answer x.number ∙ (b x.number (op_of account s x.number) ∙ was-called x cred id ro e f out);
  }
    where
      was-called : (x : Outstanding) (cred : Cred) (id : ℕ) (ro : Bool) → new.outstanding ≡ Some x → x.op ≡ Attach cred id ro → (new.outstanding ≡ None) ⊎ (new.outstanding ≡ site.outstanding)
          → op_of account s x.number ≡ Some (Attach cred id ro)
      was-called x cred id ro e f (inl gone) = absurd (none-some x (sym gone ∙ e))
      was-called x cred id ro e f (inr same) = n.called_as x cred id ro (sym same ∙ e) f

-- a step that leaves attachments and the outstanding call, with an answer that names nothing
pub data NamesNothing : Answer → Type 0 where
  by_took : NamesNothing Took
  by_dropped : NamesNothing Dropped
  by_refused : (k : ℕ) → NamesNothing (Refused k)
  by_reply : (m : ℕ) (reply : Reply) → NamesNothing (Replied m reply None)

pub record IsPlain (site : Site) (st : Step) : Type 0 where
  pub attachments : st.site.attachments ≡ site.attachments
  pub outstanding : (st.site.outstanding ≡ None) ⊎ (st.site.outstanding ≡ site.outstanding)
  pub answer : NamesNothing st.answer

pub deliver-renames : (e : Envelope) (answer : Answer) → NamesNothing answer → (ops : ℕ → Option Op) (a : ℕ) (earlier : Option ℕ) → segment_after (Some (Deliver e)) answer ops a earlier ≡ earlier
deliver-renames e Took k ops a earlier = refl
deliver-renames e Dropped k ops a earlier = refl
deliver-renames e (Refused n) k ops a earlier = refl
deliver-renames e (Replied m reply None) k ops a earlier = refl
deliver-renames e (Replied m reply (Some b)) k ops a earlier = elim k [ ]
deliver-renames e (Byte b) k ops a earlier = elim k [ ]
deliver-renames e Stored k ops a earlier = elim k [ ]
deliver-renames e Fault k ops a earlier = elim k [ ]
deliver-renames e Waiting k ops a earlier = elim k [ ]
deliver-renames e (Began m) k ops a earlier = elim k [ ]
