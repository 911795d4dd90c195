-- How many deliveries there can be, by the envelopes that were ever sent.
use Rattle.std.proofs.Common.{ℕ, ◌*◌, ◌≤◌, List, [], ◌∷◌, length, sum_by, arith}
use Rattle.std.proofs.lemmas.List.Sums.{count_by-le-length, sum_by-cons}
use Rattle.shm_model.specs.declared.event.Event.{Event}
use Rattle.shm_model.specs.Book.{max_sites}
use Rattle.shm_model.specs.Entry.{Ask, Clear, Cleared, Hand, Page, Confirm}
use Rattle.shm_model.specs.Message.{Envelope, Message, Of, Call, Replies, Purge, Purged}
use Rattle.shm_model.specs.World.{Framed, IsOpening, New, Opening, Preset, World, run, sites_of}
use Rattle.shm_laws.proofs.Run.Induction.{run-shape}
use Rattle.shm_progress.specs.Deliveries.{AreOnTheirWay, deliveries_left, is_unserved, message_deliveries}
use Rattle.shm_progress.proofs.Ending.Falls.{ends}
use Rattle.shm_progress.proofs.Ending.Sums.{left-small}

message-few : (sites : ℕ) (m : Message) → sites ≤ max_sites → message_deliveries sites m ≤ 34
message-few sites (Of page (Ask r kind)) few = omega arith
message-few sites (Of page (Clear n)) few = omega arith
message-few sites (Of page (Cleared n)) few = omega arith
message-few sites (Of page (Hand n kind to)) few = omega arith
message-few sites (Of page (Page n kind b)) few = omega arith
message-few sites (Of page (Confirm n)) few = omega arith
message-few sites (Call n op) few = omega arith
message-few sites (Replies n reply) few = omega arith
message-few sites (Purge id) few = omega arith
message-few sites (Purged id) few = omega arith

sum-few : (f : Envelope → ℕ) → ((e : Envelope) → f e ≤ 34) → (es : List Envelope) → sum_by f es ≤ 34 * length es
sum-few f each [] = omega arith
sum-few f each (e ∷ es) =
    let head = each e in
    let rest = sum-few f each es in
    let all = sum_by-cons f e es in
    omega (arith, head, rest, all)

left-few : (w : World) → w.count ≤ max_sites → deliveries_left w ≤ 114 * length w.sent
left-few w few =
    let left = left-small (λ (e : Envelope). message_deliveries w.count e.message) w.gone 0 w.sent in
    let sum = sum-few (λ (e : Envelope). message_deliveries w.count e.message) (λ e. message-few w.count e.message few) w.sent in
    let asks = count_by-le-length (is_unserved w.sites) w.sent in
    omega (arith, left, sum, asks)

few-sites : (o : Opening) → IsOpening o → sites_of o ≤ max_sites
few-sites (New n) is = is.1
few-sites (Preset n pages) is = is.1
few-sites (Framed n pages frames) is = is.1

pub left-is-few : (o : Opening) → IsOpening o → (events : List Event) → deliveries_left (run o events).world ≤ 114 * length (run o events).world.sent
left-is-few o is events =
    let small = few-sites o is in
    let count = (run-shape o events).count in
    left-few (run o events).world (omega (arith, small, count))

pub few : (o : Opening) → IsOpening o → (events : List Event) (envelopes : List ℕ) → AreOnTheirWay (run o events).world envelopes → length envelopes ≤ 114 * length (run o events).world.sent
few o is events envelopes on_way =
    let most = left-is-few o is events in
    let end = ends o events envelopes on_way in
    omega (arith, most, end)
