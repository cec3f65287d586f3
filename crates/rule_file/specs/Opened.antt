-- What a reader answers that hands over the file with its header. Assumes nothing.
use Rattle.std.specs.Prelude.{◌≡◌, List, ℕ, Err, Ok}
use Rattle.answer.specs.Answer.{Answer}
use Rattle.rule_file.specs.declared.Header.{Header}
use Rattle.rule_file.specs.declared.file.RuleFile.{RuleFile}

-- a refusal, or the file of these bytes, with its header
abbrev pub Opened : List ℕ → Answer Header → Answer RuleFile → Type 0
Opened b whole (Err r) = whole ≡ Err r
Opened b whole (Ok f) = (f.bytes.now ≡ b) × (whole ≡ Ok f.header)
