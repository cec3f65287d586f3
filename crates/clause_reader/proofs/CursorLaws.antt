-- What is given at a place; the place some clauses on, one clause at a time, as a loop takes it; and one clause more.
-- Assumes nothing.
use mathlib.Core.Path.{◌≡◌, refl, sym, ap, ◌∙◌}
use mathlib.Core.List.{List}
use Rattle.std.specs.Prelude.{Option, None, Some, Ok}
use Prim.Native.Nat.{ℕ, zero, suc, ◌+◌, ◌-◌, ◌≤◌, ◌<◌}
use native.Mathlib.Nat.{sub-zero}
use native.Mathlib.Omega.{arith}
use borrow.Author.Tests.{lt-ltb, le-ltb, le-leb}
use Rattle.answer.specs.Answer.{Answer}
use Rattle.words.specs.Words.{word_count}
use Rattle.clause_words.specs.Clauses.{after_clause}
use Rattle.clause_reader.specs.declared.cursor.Place.{Place}
use Rattle.clause_reader.specs.declared.cursor.Clause.{Clause}
use Rattle.clause_reader.specs.Cursor.{given_clause, given_at, clause_file, past, advance_file}

module _ (b : List ℕ) (p : Place) where
  pub none_left : p.clauses ≤ p.number → given_at b p ≡ None
  unfolding given_at
  none_left h = simp (le-ltb _ _ h)

  pub given_is : p.number < p.clauses → p.word < word_count b → after_clause b p.word ≤ word_count b → given_at b p ≡ Some (given_clause b p)
  unfolding given_at
  given_is left h h' = simp (lt-ltb _ _ left, lt-ltb _ _ h, le-leb _ _ h')

pub advance_none : (b : List ℕ) (p : Answer Place) → advance_file b 0 p ≡ p
unfolding advance_file
advance_none b p = refl

-- where the clause at hand does not move the place, none does
pub advance_stays : (b : List ℕ) (p : Answer Place) → past (clause_file b p) p ≡ p → (left : ℕ) → advance_file b left p ≡ p
unfolding advance_file
advance_stays b p e zero = refl
advance_stays b p e (suc left) = ap (advance_file b left) e ∙ advance_stays b p e left

-- a loop has come i of `count` clauses on, to the place p
module _ (b : List ℕ) (count : ℕ) (first : Answer Place) where
  pub all_left : advance_file b (count - 0) first ≡ advance_file b count first
  all_left = rw sub-zero

  module _ (i : ℕ) (p : Answer Place) (left : advance_file b (count - i) p ≡ advance_file b count first) where
    pub advanced : count ≤ i → p ≡ advance_file b count first
    unfolding advance_file
    advanced h = let e : count - i ≡ 0 = omega arith in rw e at left

    pub advanced_on : (c : Clause) → i < count → Ok (Some c) ≡ clause_file b p → advance_file b (count - (i + 1)) (Ok c.next) ≡ advance_file b count first
    unfolding advance_file
    advanced_on c here e =
        let more : count - i ≡ suc (count - (i + 1)) = omega arith in
        ap (λ (s : Answer (Option Clause)). advance_file b (count - (i + 1)) (past s p)) e ∙ rw more at left

    pub stays_here : past (clause_file b p) p ≡ p → p ≡ advance_file b count first
    stays_here e = sym (advance_stays b p e (count - i)) ∙ left

-- one clause more is one step more
pub advance_suc : (b : List ℕ) (j : ℕ) (p : Answer Place) → advance_file b (suc j) p ≡ past (clause_file b (advance_file b j p)) (advance_file b j p)
unfolding advance_file
advance_suc b zero p = refl
advance_suc b (suc j) p = advance_suc b j (past (clause_file b p) p)

pub ruleset advance_steps = (all_left, advanced, advanced_on, stays_here)
