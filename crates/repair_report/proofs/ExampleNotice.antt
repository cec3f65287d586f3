-- The notice of a repair, computed. Assumes nothing.
use mathlib.Core.Path.{◌≡◌, refl}
use Rattle.buffer.specs.Text.{ascii, decimal_by, decimal, after_blanks, line}
use Rattle.repair_report.specs.RepairReport.{counts_text}

pub example_notice :
    counts_text (record { bytes = 64; clauses = 1; literals = 2; reordered = 1 })
    ≡ ascii "bytes 64\nclauses 1\nliterals 2\nreordered 1\n"
unfolding counts_text ascii decimal_by decimal after_blanks line
example_notice = refl
