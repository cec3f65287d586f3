-- The program ssat_derive: what it prints for a rule file, document 02's derivation or the refusal's line that document
-- 01's program prints. Assumes nothing.
use Rattle.std.specs.Prelude.{List, ℕ, Err, Ok}
use Rattle.limits.specs.Limits.{max_bytes}
use Rattle.answer.specs.Answer.{Answer}
use Rattle.written_derivation.specs.Derive.{derive_file}
use Rattle.report.specs.Report.{refusal_line}

-- the derivation's bytes as they are, or the refusal's line
abbrev pub derivation_or_refusal : Answer (List ℕ) → List ℕ
derivation_or_refusal (Err r) = refusal_line r
derivation_or_refusal (Ok d) = d

-- all that is printed: the program lends the writer 65,536 bytes
unfoldable pub derive_text : List ℕ → List ℕ
derive_text b = derivation_or_refusal (derive_file b max_bytes)
