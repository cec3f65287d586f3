-- The definitions computed on small formulas. Literal 2x is the bit 4^x, and its opposite the bit 2 · 4^x. Assumes
-- nothing.
use mathlib.Core.Path.{◌≡◌, refl}
use mathlib.Core.List.{List, [], ◌∷◌}
use Prim.Native.Nat.{ℕ}
use Rattle.formula.specs.Formula.{those}
use Rattle.formula.specs.Quantifier.{Quantifier, existential, randomized}
use Rattle.search_laws.specs.Rests.{intersects, minus, reduce}
use Rattle.search_laws.specs.Amount.{satisfy_all, amount, product, whole_of, weight}
use Rattle.search_laws.specs.Levels.{up, quantifier_of, at_most_one_outside, shortened}

-- variable 0 is drawn with weights 1 and 3, variable 1 is existential, variable 2 drawn with weights 2 and 5
abbrev quantifiers : List Quantifier
quantifiers = randomized 1 3 ∷ existential ∷ randomized 2 5 ∷ []

-- clauses {0, not 1}, {1, 2} and {not 0, not 1, not 2}
abbrev clauses : List ℕ
clauses = 9 ∷ 20 ∷ 42 ∷ []

-- variable 1 is true
rests : reduce 4 12 clauses ≡ 1 ∷ 34 ∷ []
unfolding reduce intersects minus
rests = refl

truths : (weight (randomized 2 5) 1 ≡ 2) × (weight (randomized 2 5) 0 ≡ 5)
truths = (refl, refl)

all_of_them : amount (quantifier_of quantifiers) (up 0 3) (satisfy_all clauses) ≡ 11
unfolding reduce intersects minus amount up
all_of_them = refl

whole : whole_of (quantifier_of quantifiers) (up 0 3) ≡ 28
unfolding product up
whole = refl

-- over the draws alone: what satisfies clauses {0, 2} and {not 0, 2} and what falsifies the first make what satisfies
-- the second
excluded : (amount (quantifier_of quantifiers) (0 ∷ 2 ∷ []) (satisfy_all (17 ∷ 18 ∷ [])) ≡ 8) × ((amount (quantifier_of quantifiers) (0 ∷ 2 ∷ []) (record { to_satisfy = 18 ∷ []; to_falsify = 17 ∷ [] }) ≡ 15)
    × (amount (quantifier_of quantifiers) (0 ∷ 2 ∷ []) (satisfy_all (18 ∷ [])) ≡ 23))
unfolding reduce intersects minus amount
excluded = (refl, (refl, refl))

-- at level 2 variable 2 is outside
parts : (at_most_one_outside 2 clauses ≡ clauses) × (shortened 2 clauses ≡ 4 ∷ 10 ∷ [])
unfolding those reduce intersects minus
parts = (refl, refl)

-- at level 1 the third clause has two literals outside
fewer : at_most_one_outside 1 clauses ≡ 9 ∷ []
unfolding those
fewer = refl
