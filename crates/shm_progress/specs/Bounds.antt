-- Bounds: how many events rounds take, and how many envelopes are sent by then. The numbers are this repository's own: they are made of how
-- many sites there are, how many envelopes were ever sent, and how many the sites would send again.
use Rattle.std.specs.Prelude.{ℕ, ◌+◌, ◌*◌, Option, Some, None, length, slice_get, sum_by}
use Rattle.std.specs.List.{range_with_len}
use Rattle.shm_model.specs.Site.{Site}
use Rattle.shm_model.specs.Step.{tick_envelopes}
use Rattle.shm_model.specs.World.{World}

-- how many envelopes this site sends when it ticks
abbrev pub asked_at : ℕ → ℕ → Option Site → ℕ
asked_at sites s None = 0
asked_at sites s (Some x) = length (tick_envelopes sites s x)

-- how many the sites of a world send when each ticks: what they still wait for
abbrev pub asked_again : World → ℕ
asked_again w = sum_by (λ s. asked_at w.count s (slice_get w.sites s)) (range_with_len 0 w.count)

-- with at most 16 sites an envelope comes to at most so many deliveries, its own and all that follow from it
abbrev pub deliveries_of_each : ℕ
deliveries_of_each = 114

-- A round of so many sites, of which so many envelopes were sent before it and so many are sent by its ticks: its events at most, and the
-- envelopes that were sent after it at most.
abbrev pub round_events : ℕ → ℕ → ℕ → ℕ
round_events sites sent again = sites + deliveries_of_each * (sent + again)

abbrev pub round_sent : ℕ → ℕ → ℕ
round_sent sent again = (1 + deliveries_of_each) * (sent + again)

-- the same of two rounds in a row
abbrev pub two_rounds_events : ℕ → ℕ → ℕ → ℕ
two_rounds_events sites sent again = round_events sites sent again + round_events sites (round_sent sent again) again

abbrev pub two_rounds_sent : ℕ → ℕ → ℕ
two_rounds_sent sent again = round_sent (round_sent sent again) again

-- at most so many events serve all requests of this world, and so many envelopes were sent after them
abbrev pub events_to_serve : World → ℕ
events_to_serve w = two_rounds_events w.count (length w.sent) (asked_again w)

abbrev pub sent_to_serve : World → ℕ
sent_to_serve w = two_rounds_sent (length w.sent) (asked_again w)
