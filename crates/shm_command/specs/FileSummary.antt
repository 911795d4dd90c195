-- How the summary of a journal in a file is told: that of its lines, with the file's bytes, of which those behind the whole batches are torn; and
-- how many batches there are.
use Rattle.std.specs.Prelude.{ℕ, List, [], ◌∷◌, ◌++◌, codes}
use Rattle.std.specs.Fmt.{decimal}
use Rattle.shm_journal.specs.Summed.{summary_text}
use Rattle.shm_command.specs.declared.file_summary.FileSummary.{FileSummary}

abbrev pub file_summary_text : FileSummary → List ℕ
file_summary_text summary =
    summary_text (record summary.lines { bytes = summary.bytes; torn = summary.behind })
    ++ (codes "batches " ++ (decimal summary.batches ++ 10 ∷ []))
