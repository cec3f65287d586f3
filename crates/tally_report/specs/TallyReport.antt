-- Document 02's second program: the text that it prints for a tally. Assumes nothing.
use Rattle.std.specs.Prelude.{List, [], ◌∷◌, ◌++◌, ℕ}
use Rattle.buffer.specs.Text.{ascii, line}
use Rattle.tally.specs.declared.Tally.{Tally}

-- the five counts, one per line, each after its word and a blank
unfoldable pub tally_text : Tally → List ℕ
tally_text t =
    line (ascii "files") (t.files ∷ []) ++ line (ascii "refused") (t.refused ∷ []) ++ line (ascii "above") (t.above ∷ [])
    ++ line (ascii "below") (t.below ∷ [])
    ++ line (ascii "within") (t.within ∷ [])
