-- The search for an earlier clause that equals one, a clause at a time: none is passed; one more is; one is found, or
-- none is left. Then the words at two places compared: by each, and different numbers of them. Assumes nothing.
use mathlib.Core.Path.{◌≡◌, refl, sym, ap, ◌∙◌}
use mathlib.Core.Bool.{Bool, true, false}
use mathlib.Core.List.{List}
use Prim.Native.Nat.{ℕ, ◌+◌, ◌-◌, ◌≤◌, ◌<◌}
use native.Mathlib.Nat.{sub-zero}
use lib.ListN.{length, get_or}
use lib.Seq.{ext_get_or}
use Rattle.std.proofs.lemmas.Bool.{false_from_ne_true}
use Rattle.formula.specs.Formula.{some_of, equal}
use Rattle.formula.proofs.SomeLaws.{some_here, some_later, some_over}
use Rattle.formula.proofs.OrderLaws.{equal_iff}
use Rattle.words.specs.Words.{word, words}
use Rattle.words.proofs.WalkLaws.{start_zero, start_suc, elements_length, elements_next, elements_passed}
use Rattle.words.proofs.WordsLaws.{stand_word, words_stand}
use Rattle.clause_words.specs.Clauses.{after_clause, clause_at, clauses_from}

-- whether some clause equals the one at word `other`
abbrev pub some_equal : List ℕ → ℕ → List (List ℕ) → Bool
some_equal b other = some_of (λ c. equal c (clause_at b other))

module _ (b : List ℕ) (count other : ℕ) where
  pub all_left : some_equal b other (clauses_from b (count - 0) 0) ≡ some_equal b other (clauses_from b count 0)
  all_left = rw sub-zero

  module _ (j i : ℕ) (left : some_equal b other (clauses_from b (count - j) i) ≡ some_equal b other (clauses_from b count 0)) where
    pub none_equal : count ≤ j → some_equal b other (clauses_from b count 0) ≡ false
    none_equal h = sym left ∙ some_over _ (elements_passed (after_clause b) (clause_at b) count j i h)

    module _ (here : j < count) where
      pub equal_found : equal (clause_at b i) (clause_at b other) ≡ true → some_equal b other (clauses_from b count 0) ≡ true
      equal_found t = sym left ∙ some_here _ (elements_next (after_clause b) (clause_at b) count j i here) t

      pub passed_on : equal (clause_at b i) (clause_at b other) ≡ false
          → some_equal b other (clauses_from b (count - (j + 1)) (after_clause b i)) ≡ some_equal b other (clauses_from b count 0)
      passed_on t = some_later (λ c. equal c (clause_at b other)) (elements_next (after_clause b) (clause_at b) count j i here) t ∙ left

pub ruleset search_steps = (start_zero, start_suc, all_left, equal_found, passed_on, none_equal)

module _ (b : List ℕ) (i j k : ℕ) where
  word_at : (n t : ℕ) → t < k → get_or (words b n k) t 0 ≡ word b (n + t)
  word_at n t h = sym (stand_word b n (words b n k) (words_stand b n k) t (n + t) (rw elements_length h) refl)

  -- one word differs, or none does
  pub one_differs : (t : ℕ) → t < k → ¬ (word b (i + t) ≡ word b (j + t)) → equal (words b i k) (words b j k) ≡ false
  one_differs t h n =
      false_from_ne_true _ (λ e. n (sym (word_at i t h) ∙ ap (λ ws. get_or ws t 0) ((equal_iff _ _).0 e) ∙ word_at j t h))

  pub none_differs : ((t : ℕ) → t < k → word b (i + t) ≡ word b (j + t)) → equal (words b i k) (words b j k) ≡ true
  none_differs same =
      (equal_iff (words b i k) (words b j k)).1 (ext_get_or 0 _ _ (simp elements_length) (λ t h.
      let under : t < k = rw elements_length at h in
      word_at i t under ∙ same t under ∙ sym (word_at j t under)))

  -- k words and l
  pub lengths_differ : (l : ℕ) → ¬ (l ≡ k) → equal (words b i k) (words b j l) ≡ false
  lengths_differ l n =
      false_from_ne_true _ (λ e. n (simp elements_length at (sym (ap length ((equal_iff (words b i k) (words b j l)).0 e)))))
