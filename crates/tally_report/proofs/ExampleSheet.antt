-- What is printed for a tally, computed. Assumes nothing.
use mathlib.Core.Path.{◌≡◌, refl}
use Rattle.buffer.specs.Text.{ascii, decimal_by, decimal, after_blanks, line}
use Rattle.tally_report.specs.TallyReport.{tally_text}

pub example_tally_text :
    tally_text (record { files = 4096; refused = 10; above = 86; below = 0; within = 4000 })
    ≡ ascii "files 4096\nrefused 10\nabove 86\nbelow 0\nwithin 4000\n"
unfolding tally_text ascii decimal_by decimal after_blanks line
example_tally_text = refl
