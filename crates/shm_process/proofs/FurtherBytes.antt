-- Bytes are stored one after another: what is still to come makes the whole.
use Rattle.std.proofs.Common.{◌≡◌, ℕ, ◌+◌, ◌<◌, ◌≤◌, List, length, drop, get_or, ap, sym, ◌∙◌, arith}
use Rattle.std.proofs.lemmas.List.{drop_all, drop_more}
use Rattle.shm_model.specs.Access.{store}
use Rattle.shm_model.specs.Site.{Site}
use Rattle.shm_process.specs.Further.{stored_from}

module _ (sites me at offset place : ℕ) (bytes : List ℕ) (old whole : Site) where
  pub one_byte : (new : Site) → place < length bytes → (store sites me at (offset + place) (get_or bytes place 0) old).site ≡ new
      → stored_from sites me at (offset + place) (drop place bytes) old ≡ whole → stored_from sites me at (offset + (place + 1)) (drop (place + 1) bytes) new ≡ whole
  unfolding stored_from
  one_byte new within is e =
      let next : offset + (place + 1) ≡ (offset + place) + 1 = omega arith in
      ap (λ o. stored_from sites me at o (drop (place + 1) bytes) new) next
      ∙ ap (stored_from sites me at ((offset + place) + 1) (drop (place + 1) bytes)) (sym is)
      ∙ sym (ap (λ b. stored_from sites me at (offset + place) b old) (drop_more bytes place 0 within))
      ∙ e

  pub all_bytes : length bytes ≤ place → stored_from sites me at (offset + place) (drop place bytes) old ≡ whole → old ≡ whole
  unfolding stored_from
  all_bytes over e = sym (ap (λ b. stored_from sites me at (offset + place) b old) (drop_all place bytes over)) ∙ e
