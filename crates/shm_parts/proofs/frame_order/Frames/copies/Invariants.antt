use Rattle.std.proofs.Common.{◌≡◌, ◌++◌}
use Rattle.std.specs.Map.{keys_of}
use Rattle.shm_parts.specs.Frames.{counted}
use Rattle.shm_parts.proofs.frame_order.Frames.copies.Given as goal

-- the copies so far, with those that are left behind them
abbrev pub invariant-pages : goal.invariant-pages
invariant-pages g l = l.copies.items ++ counted l.self.awaited (keys_of l.page-iterator) ≡ counted l.self.awaited (keys_of l.self.pages)
