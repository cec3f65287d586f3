-- What a prefix is in the words of a file: two words for each variable. Document 01's choice is an existential variable
-- here and its draw a randomized one. Assumes nothing.
use Rattle.std.specs.Prelude.{ℕ, ◌+◌, Bool, false, cond, ◌&&◌, ◌||◌, List, ltb, eqb}
use Rattle.formula.specs.Quantifier.{Quantifier, existential, randomized}
use Rattle.limits.specs.Limits.{max_weight}
use Rattle.words.specs.Walk.{elements}
use Rattle.words.specs.Words.{word}

-- a true weight and a false weight; 0 and 0 is an existential variable
unfoldable pub quantifier : ℕ → ℕ → Quantifier
quantifier s t = cond (eqb s 0 && eqb t 0) existential (randomized s t)

-- a prefix entry is two words; the next entry follows it
abbrev pub after_entry : ℕ → ℕ
after_entry i = i + 2

-- the quantifier of the entry at word i
abbrev pub quantifier_at : List ℕ → ℕ → Quantifier
quantifier_at b i = quantifier (word b i) (word b (i + 1))

-- the quantifiers from word i on, as many as are left
abbrev pub prefix_from : List ℕ → ℕ → ℕ → List Quantifier
prefix_from b = elements after_entry (quantifier_at b)

-- 8: a weight over 65,535, or one weight 0 and the other not
unfoldable pub malformed : Quantifier → Bool
malformed existential = false
malformed (randomized s t) = eqb s 0 || eqb t 0 || ltb max_weight s || ltb max_weight t
