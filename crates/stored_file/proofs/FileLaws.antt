-- What a stored file holds: that it is accepted, the counts in its header, and the set of each clause. Assumes nothing.
use mathlib.Core.Path.{◌≡◌, sym, ap, ◌∙◌}
use mathlib.Core.List.{[]}
use Prim.Native.Nat.{ℕ, ◌<◌}
use native.Mathlib.Omega.{arith}
use lib.ListN.{length, get_or, length-map}
use Rattle.std.proofs.lemmas.List.{get_or-map}
use Rattle.clause_words.specs.Clauses.{clause_at, clause_start}
use Rattle.rule_file.specs.ReaderLimits.{stored_limits}
use Rattle.rule_file.specs.RuleFile.{clause_count, variable_count, prefix_start, clauses}
use Rattle.rule_file.specs.Accepted.{AcceptedWithin, header}
use Rattle.rule_file.specs.declared.Header.{Header}
use Rattle.rule_file.proofs.FileLaws.{clauses_length, clause_is}
use Rattle.stored_file.specs.Sets.{unordered_mask}
use Rattle.stored_file.specs.declared.file.StoredFile.{StoredFile}
use Rattle.stored_file.proofs.StoredLaws.{stored_answered}

module _ (file : StoredFile) where
  pub accepted : AcceptedWithin stored_limits file.bytes.now
  accepted = (stored_answered file.bytes.now file.header file.is_read).0

  header_is : file.header ≡ header file.bytes.now
  header_is = (stored_answered file.bytes.now file.header file.is_read).1

  pub clauses_are : file.header.clauses ≡ clause_count file.bytes.now
  clauses_are = ap (λ (h : Header). h.clauses) header_is

  pub variables_are : file.header.variables ≡ variable_count file.bytes.now
  variables_are = ap (λ (h : Header). h.variables) header_is

  pub prefix_is : file.header.prefix ≡ prefix_start file.bytes.now
  prefix_is = ap (λ (h : Header). h.prefix) header_is

  pub sets_length : length file.sets.now ≡ clause_count file.bytes.now
  sets_length = ap length file.sets_are ∙ length-map (clauses file.bytes.now) unordered_mask ∙ clauses_length file.bytes.now

  -- of clause j, which stands at word i
  pub set_is : (j i : ℕ) → i ≡ clause_start file.bytes.now j → j < clause_count file.bytes.now → get_or file.sets.now j 0 ≡ unordered_mask (clause_at file.bytes.now i)
  set_is j i starts here =
      ap (λ sets. get_or sets j 0) file.sets_are
      ∙ get_or-map unordered_mask (clauses file.bytes.now) j [] 0 (omega (arith, clauses_length file.bytes.now))
      ∙ ap unordered_mask (clause_is file.bytes.now j here)
      ∙ ap (λ i. unordered_mask (clause_at file.bytes.now i)) (sym starts)
