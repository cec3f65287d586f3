-- Document 02 (iii): each start kept is where document 01's walk from word 0 comes to that clause or line.
--
-- `Starts b d starts` is what the code keeps before it judges the first line: `keep_clauses` promises it after
-- `walk_fault` has kept the lines' starts, and all that judges lines is given it. It says where each start is by the
-- word that a definition counts out. Here it is read in document 01's words: the start kept for the first element is
-- word 0, that for each next one is the word after the element before, and at each start stands the clause or the line
-- that the reference names. Assumes nothing.
use mathlib.Core.Path.{◌≡◌, sym, ap, ◌∙◌}
use mathlib.Core.List.{List, []}
use Prim.Native.Nat.{ℕ, ◌+◌, ◌*◌, ◌<◌}
use native.Mathlib.Omega.{arith}
use lib.ListN.{get_or}
use Rattle.resolution.specs.Resolution.{line_at}
use Rattle.words.specs.Walk.{start}
use Rattle.words.proofs.WalkLaws.{start_zero, start_suc}
use Rattle.clause_words.specs.Clauses.{after_clause, clause_at}
use Rattle.rule_file.specs.RuleFile.{clause_count, clauses}
use Rattle.rule_file.proofs.FileLaws.{clause_is}
use Rattle.derivation.specs.DerivationFile.{line_count, after_line, line_of, lines}
use Rattle.derivation.proofs.LineLaws.{line_is}
use Rattle.derivation_check.specs.Starts.{Starts, WalkComesTo}

-- what is kept by the definition is what a walk comes to
walked : (next : ℕ → ℕ) (count : ℕ) (kept : ℕ → ℕ) → ((j : ℕ) → j < count → kept j ≡ start next 0 j) → WalkComesTo next count kept
walked next count kept is =
    record {
      begins = λ h. is 0 h ∙ start_zero next 0;
      goes_on = λ j h. is (j + 1) h ∙ sym (start_suc next 0 j) ∙ ap next (sym (is j (omega arith)));
    }

module _ (b d starts : List ℕ) (kept : Starts b d starts) where
  -- the starts of the clauses stand at the even references
  pub clause_starts_are_walked : WalkComesTo (after_clause b) (clause_count b) (λ j. get_or starts (2 * j) 0)
      × ((j : ℕ) → j < clause_count b → clause_at b (get_or starts (2 * j) 0) ≡ get_or (clauses b) j [])
  clause_starts_are_walked = (
    walked (after_clause b) (clause_count b) _ kept.clauses.each,
    λ j h. ap (clause_at b) (kept.clauses.each j h) ∙ sym (clause_is b j h),
  )

  -- those of the lines at the odd ones
  pub line_starts_are_walked : WalkComesTo (after_line d) (line_count d) (λ j. get_or starts (2 * j + 1) 0)
      × ((j : ℕ) → j < line_count d → line_of d (get_or starts (2 * j + 1) 0) ≡ line_at (lines d) j)
  line_starts_are_walked = (
    walked (after_line d) (line_count d) _ kept.lines.each,
    λ j h. ap (line_of d) (kept.lines.each j h) ∙ sym (line_is d j h),
  )
