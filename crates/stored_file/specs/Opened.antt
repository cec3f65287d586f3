-- What is answered where a stored file is opened. What the code alone needs; assumes nothing.
use Rattle.std.specs.Prelude.{◌≡◌, List, ℕ, Err, Ok}
use Rattle.answer.specs.Answer.{Answer}
use Rattle.rule_file.specs.declared.Header.{Header}
use Rattle.stored_file.specs.declared.file.StoredFile.{StoredFile}

-- a refusal, or the file of these bytes, with its header
abbrev pub Opened : List ℕ → Answer Header → Answer StoredFile → Type 0
Opened b whole (Err r) = whole ≡ Err r
Opened b whole (Ok f) = (f.bytes.now ≡ b) × (whole ≡ Ok f.header)
