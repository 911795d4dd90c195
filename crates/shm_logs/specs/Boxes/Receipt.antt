-- Receipts, as the definitions speak of them.
use Rattle.shm_model.specs.Receipt as model
use Rattle.shm_model.specs.Receipt.{asked_of}
use Rattle.shm_logs.specs.declared.site_boxes.receipt.Receipt.{Receipt}

abbrev pub receipt_of : Receipt → model.Receipt
receipt_of receipt = record { site = receipt.site; index = receipt.index; asked = asked_of receipt.asked; answer = receipt.answer }
