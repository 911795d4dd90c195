-- What a network carries once nothing was posted, and once two lists were.
use Rattle.std.specs.Prelude.{List, [], ◌++◌, map}
use Rattle.std.proofs.Common.{append-nil, append_assoc, length-append, subst, sym, ◌∙◌, ap, arith}
use Rattle.std.proofs.lemmas.List.{map-append}
use Rattle.shm_parts.specs.Message.{envelope_of}
use Rattle.shm_parts.specs.declared.message.Envelope.{Envelope}
use Rattle.shm_world.specs.Network.{Carries, CarriesOn}
use Rattle.shm_world.specs.declared.network.Network.{Network}

pub carries_nothing : {A : Type 0} (network : Network A) → CarriesOn network network []
carries_nothing network = record {
  carries = λ sent gone had fresh. subst (λ l. Carries network l gone) (sym (append-nil sent)) had;
  places = λ k at h. h;
}

pub carries_both : {A : Type 0} (first then last : Network A) (xs ys : List (Envelope A))
    → CarriesOn first then xs → CarriesOn then last ys → CarriesOn first last (xs ++ ys)
carries_both first then last xs ys one two = record {
  carries = λ sent gone had fresh.
      subst (λ l. Carries last l gone) (append_assoc sent (map envelope_of xs) (map envelope_of ys) ∙ ap (λ l. sent ++ l) (sym (map-append envelope_of xs ys)))
      (two.carries (sent ++ map envelope_of xs) gone (one.carries sent gone had fresh)
      (λ k h. fresh k (omega (arith, h, length-append sent (map envelope_of xs)))));
  places = λ k at h. two.places k at (one.places k at h);
}
