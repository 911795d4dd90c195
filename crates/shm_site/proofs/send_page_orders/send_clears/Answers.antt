use Rattle.std.proofs.Common.{◌≡◌, ◌∙◌, ◌+◌, ◌++◌, ◌∷◌, [], ℕ, Bool, true, false, List, append-nil, if◌then◌else◌, length, length-append, map, ap, refl, sym, arith}
use Rattle.std.proofs.lemmas.List.{map-append}
use Rattle.shm_place.specs.SiteSet.{has}
use Rattle.shm_manager.proofs.Members.{sites_below, sites_below-fewer, sites_below-here, sites_below-members, sites_below-not_here, sites_below-zero}
use Rattle.shm_model.specs.Book.{ClearTo}
use Rattle.shm_model.specs.Message.{Envelope}
use Rattle.shm_model.specs.Transfer.{order_envelope}
use Rattle.shm_site.proofs.Orders.{told_as, told_both}
use Rattle.shm_site.proofs.send_page_orders.send_clears.Goals as goal

one_more : (p : ℕ → Bool) (n : ℕ) (b : Bool) → p n ≡ b → sites_below p (n + 1) ≡ sites_below p n ++ (if b then n ∷ [] else [])
one_more p n true here = sites_below-here p n here
one_more p n false here = sites_below-not_here p n here ∙ sym (append-nil (sites_below p n))

pub sites-init : goal.sites-init
sites-init g c = record {
  sent = record { sent = []; behind = g.O.Outbox.nothing c.args.outbox.now; meant = sym (ap (map (λ site. order_envelope c.args.me c.args.page.now c.args.number (ClearTo site))) (sites_below-zero (has c.args.sites))) };
  room = omega (arith, c.requires);
}

pub send_clear-requires : goal.send_clear-requires
send_clear-requires g c = λ here.
    let fewer = sites_below-fewer (has c.args.sites) c.sites.site (omega arith) here in
    omega (arith, fewer, c.sites.invariant.room, ap length (sites_below-members c.args.sites))

pub sites-preserved : goal.sites-preserved
sites-preserved g c =
    let set = c.args.sites in
    let site = c.sites.site in
    let clear : ℕ → Envelope = λ site. order_envelope c.args.me c.args.page.now c.args.number (ClearTo site) in
    let more = one_more (has set) site (has set site) refl in
    let one : List ℕ = if has set site then site ∷ [] else [] in
    record {
      sent = told_both g.O.Outbox.joined c.sites.invariant.sent c.send_clear.ensures.told (sym (map-append clear (sites_below (has set) site) one) ∙ sym (ap (map clear) more));
      room = omega (arith, c.sites.invariant.room, c.send_clear.ensures.room, ap length more, length-append (sites_below (has set) site) one);
    }

pub returns : goal.returns
returns g c =
    let set = c.args.sites in
    let clear : ℕ → Envelope = λ site. order_envelope c.args.me c.args.page.now c.args.number (ClearTo site) in
    let whole : c.sites.site ≡ 16 = omega arith in
    told_as c.sites.invariant.sent (ap (λ (n : ℕ). map clear (sites_below (has set) n)) whole ∙ ap (map clear) (sites_below-members set))
