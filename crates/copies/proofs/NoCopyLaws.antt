-- The search for a copy, one clause at a time, whatever it finds copies by: no clause is passed; one more is; a copy is
-- found, or none is left. Assumes nothing.
use mathlib.Core.Path.{◌≡◌, sym, ap, ◌∙◌}
use mathlib.Core.Bool.{true, false}
use mathlib.Core.List.{List}
use Rattle.std.specs.Prelude.{Option, None, Some}
use Prim.Native.Nat.{ℕ, ◌+◌, ◌-◌, ◌≤◌, ◌<◌}
use native.Mathlib.Nat.{sub-zero}
use Rattle.formula.specs.Formula.{some_of, equal}
use Rattle.words.specs.Walk.{elements, first_copy_after, first_copy}
use Rattle.words.proofs.WalkLaws.{start_zero, start_suc, elements_next, elements_passed, from, from_zero}
use Rattle.words.proofs.FirstCopyLaws.{copy_here, copy_later, copy_over}
use Rattle.clause_words.specs.Clauses.{after_clause, clause_at, clause_start, clauses_from}
use Rattle.copies.proofs.SetLaws.{clauses_last}

-- what is found from the clause at word i on, where j of `count` clauses are passed, none of them a copy
abbrev pub copy_left : List ℕ → ℕ → ℕ → ℕ → Option ℕ
copy_left b count j i = from j (first_copy_after equal (clauses_from b j 0) (clauses_from b (count - j) i))

module _ (b : List ℕ) (count : ℕ) where
  pub all_left : copy_left b count 0 0 ≡ first_copy equal (clauses_from b count 0)
  unfolding elements
  all_left = rw sub-zero (from_zero _)

  module _ (j i : ℕ) (left : copy_left b count j i ≡ first_copy equal (clauses_from b count 0)) where
    pub none_left : count ≤ j → first_copy equal (clauses_from b count 0) ≡ None
    none_left h = sym left ∙ copy_over equal (clauses_from b j 0) j (elements_passed (after_clause b) (clause_at b) count j i h)

    module _ (here : j < count) where
      pub copy_found : some_of (λ c. equal c (clause_at b i)) (clauses_from b j 0) ≡ true → first_copy equal (clauses_from b count 0) ≡ Some j
      copy_found t = sym left ∙ copy_here equal (clauses_from b j 0) j (elements_next (after_clause b) (clause_at b) count j i here) t

      pub passed_on : i ≡ clause_start b j → some_of (λ c. equal c (clause_at b i)) (clauses_from b j 0) ≡ false
          → copy_left b count (j + 1) (after_clause b i) ≡ first_copy equal (clauses_from b count 0)
      passed_on starts t =
          ap (λ before. from (j + 1) (first_copy_after equal before (clauses_from b (count - (j + 1)) (after_clause b i)))) (clauses_last b j i starts)
          ∙ copy_later equal (clauses_from b j 0) j (elements_next (after_clause b) (clause_at b) count j i here) t
          ∙ left

pub ruleset search_steps = (start_zero, start_suc, all_left, copy_found, passed_on, none_left)
