use Rattle.std.proofs.Common.{◌≡◌, map, string_bytes, take}
use Rattle.shm_logs.specs.Boxes.Logged.{logged_of}
use Rattle.shm_report.specs.LogText.{log_text}
use Rattle.shm_report.proofs.log_lines.log_text.Given as goal

-- the text of the steps so far
abbrev pub invariant-steps : goal.invariant-steps
invariant-steps l = string_bytes l.text ≡ log_text l.me 0 (take l.index (map logged_of l.all))
