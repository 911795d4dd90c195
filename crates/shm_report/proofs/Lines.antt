-- One more line of a report.
use Rattle.std.proofs.Common.{◌≡◌, ◌∙◌, ℕ, ◌+◌, List, [], ◌∷◌, ◌++◌, length, ap, sym, arith, append_assoc, append-nil}
use Rattle.shm_logs.specs.Boxes.Receipt.{receipt_of}
use Rattle.shm_logs.specs.declared.site_boxes.receipt.Receipt.{Receipt}
use Rattle.shm_text.specs.Text.{answer_text, line_text}
use Rattle.shm_report.specs.Report.{answers_text}

abbrev pub one_line : ℕ → Receipt → List ℕ
one_line number receipt = line_text number (answer_text (receipt_of receipt).answer)

pub answers_text-push : (number last : ℕ) (receipts : List Receipt) (receipt : Receipt) → last ≡ number + length receipts
    → answers_text number (receipts ++ receipt ∷ []) ≡ answers_text number receipts ++ one_line last receipt
answers_text-push number last [] receipt is = append-nil (one_line number receipt) ∙ ap (λ n. one_line n receipt) (omega arith)
answers_text-push number last (first ∷ receipts) receipt is =
    ap (λ text. one_line number first ++ text) (answers_text-push (number + 1) last receipts receipt (omega arith))
    ∙ sym (append_assoc (one_line number first) (answers_text (number + 1) receipts) (one_line last receipt))
