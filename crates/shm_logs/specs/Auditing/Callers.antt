-- Callers' receipts, as the definitions speak of them.
use Rattle.std.specs.Prelude.{List, Vec, map}
use Rattle.shm_model.specs.Receipt as model
use Rattle.shm_logs.specs.Boxes.Receipt.{receipt_of}
use Rattle.shm_logs.specs.declared.site_boxes.receipt.Receipt.{Receipt}

-- one caller's receipts
abbrev pub receipts_of : List Receipt → List model.Receipt
receipts_of receipts = map receipt_of receipts

-- those of all callers
abbrev pub callers_of : {A : Type 0} → List (Vec Receipt A) → List (List model.Receipt)
callers_of callers = map (λ receipts. receipts_of receipts.items) callers
