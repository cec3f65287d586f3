-- The table of starts as it is filled: a clause of a file that is read ends within it; one start more, of a clause and of
-- a line; and that a clause's start leaves the lines' as they are. Not here: what the whole table says in document 01's
-- words (StartsWalked), and what is read from it (ParentLaws). Assumes nothing.
use Rattle.std.specs.Prelude.{Ok}
use mathlib.Core.Path.{◌≡◌, ◌∙◌}
use mathlib.Core.List.{List}
use Prim.Native.Nat.{ℕ, ◌+◌, ◌*◌, ◌≤◌, ◌<◌}
use lib.ListN.{length, get_or, set}
use lib.Seq.{get_or-set_same, get_or-set_other}
use borrow.Author.Count.{below_more}
use native.Mathlib.Omega.{arith}
use Rattle.words.specs.Words.{word_count}
use Rattle.words.proofs.WalkLaws.{start_zero, start_suc}
use Rattle.clause_words.specs.Clauses.{after_clause, clause_start}
use Rattle.rule_file.specs.RuleFile.{clause_count}
use Rattle.rule_file.specs.Reader.{read_file}
use Rattle.rule_file.specs.declared.Header.{Header}
use Rattle.rule_file.proofs.AcceptedLaws.{answered}
use Rattle.rule_file.proofs.FileLaws.{clause_within}
use Rattle.resolution_sets.proofs.DenominatorLaws.{file_bounds}

pub clause_ends : (b : List ℕ) (h : Header) → read_file b ≡ Ok h → (j : ℕ) → j < clause_count b → after_clause b (clause_start b j) ≤ word_count b
clause_ends b h e j less = clause_within b (answered b h e).0 j less

-- the start x of element k is kept at its reference: those of the elements before it stay, and a clause's is no line's
module _ (begin : ℕ → ℕ) (starts : List ℕ) (k x : ℕ) (here : x ≡ begin k) where
  pub clauses_more : 2 * k < length starts → ((j : ℕ) → j < k → get_or starts (2 * j) 0 ≡ begin j)
      → (j : ℕ) → j < k + 1 → get_or (set starts (2 * k) x) (2 * j) 0 ≡ begin j
  clauses_more room before =
      below_more _ k (λ j h. get_or-set_other starts (2 * k) (2 * j) x 0 (λ e. omega arith) ∙ before j h) (get_or-set_same starts (2 * k) x 0 room ∙ here)

  pub lines_more : 2 * k + 1 < length starts → ((j : ℕ) → j < k → get_or starts (2 * j + 1) 0 ≡ begin j)
      → (j : ℕ) → j < k + 1 → get_or (set starts (2 * k + 1) x) (2 * j + 1) 0 ≡ begin j
  lines_more room before =
      below_more _ k (λ j h. get_or-set_other starts (2 * k + 1) (2 * j + 1) x 0 (λ e. omega arith) ∙ before j h)
      (get_or-set_same starts (2 * k + 1) x 0 room ∙ here)

pub line_stays : (starts : List ℕ) (k x j : ℕ) → get_or (set starts (2 * k) x) (2 * j + 1) 0 ≡ get_or starts (2 * j + 1) 0
line_stays starts k x j = get_or-set_other starts (2 * k) (2 * j + 1) x 0 (λ e. omega arith)

pub ruleset clause_steps = (file_bounds, start_zero, start_suc, clause_ends, line_stays)
