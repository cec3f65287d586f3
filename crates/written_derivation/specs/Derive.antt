-- The writer's answer for every rule file and every lent buffer. Assumes nothing.
use Rattle.std.specs.Prelude.{ℕ, Bool, ◌||◌, List, length, ltb, Err, Ok}
use Rattle.limits.specs.Limits.{max_bytes, max_lines}
use Rattle.answer.specs.Answer.{Answer, refuse_if, and_then}
use Rattle.answer.specs.declared.Refusal.TheVariants as refusal
use Rattle.rule_file.specs.RuleFile.{clauses, prefix}
use Rattle.rule_file.specs.Reader.{read_file}
use Rattle.written_derivation.specs.Writing.{Written, derivation_of}
use Rattle.written_derivation.specs.File.{derivation_bytes}

-- what document 02's walk writes for the rule file b
abbrev pub written_for : List ℕ → Written
written_for b = derivation_of (clauses b) (prefix b)

-- its file: the root's reference closes it
unfoldable pub derivation_for : List ℕ → List ℕ
derivation_for b = derivation_bytes (written_for b).lines (written_for b).reference

-- 22: the derivation exceeds the lent buffer, 65,536 bytes or 1,024 lines
unfoldable pub too_long : List ℕ → ℕ → Bool
too_long b capacity =
    ltb capacity (length (derivation_for b)) || ltb max_bytes (length (derivation_for b)) || ltb max_lines (length (written_for b).lines)

-- the derivation's bytes for a lent buffer of so many bytes, or a refusal of the reader or 22
unfoldable pub derive_file : List ℕ → ℕ → Answer (List ℕ)
derive_file b capacity = and_then (read_file b) (λ _. refuse_if (too_long b capacity) refusal.DerivationTooLong (Ok (derivation_for b)))

-- the operation answers how many they are
abbrev pub length_of : Answer (List ℕ) → Answer ℕ
length_of (Err r) = Err r
length_of (Ok d) = Ok (length d)
