-- The first copy, computed. Assumes nothing.
use mathlib.Core.Path.{◌≡◌, refl}
use mathlib.Core.List.{[], ◌∷◌, map}
use Rattle.std.specs.Prelude.{None, Some}
use Rattle.formula.specs.Formula.{some_of, equal}
use Rattle.words.specs.Walk.{first_copy_after, first_copy}

-- none of no clause and of one; of two that are empty the second; of A B B A and of A B A the third; of two of which
-- one begins the other none; and none of two that have the same literals in another order
pub example_first_copies :
    map (first_copy equal) (
    [] ∷
    ([] ∷ []) ∷
    ([] ∷ [] ∷ []) ∷
    ((0 ∷ []) ∷ (2 ∷ []) ∷ (2 ∷ []) ∷ (0 ∷ []) ∷ []) ∷
    ((0 ∷ []) ∷ (2 ∷ []) ∷ (0 ∷ []) ∷ []) ∷
    ((0 ∷ []) ∷ (0 ∷ 2 ∷ []) ∷ []) ∷
    ((0 ∷ 2 ∷ []) ∷ (2 ∷ 0 ∷ []) ∷ []) ∷
    []
    )
    ≡ None ∷ None ∷ Some 1 ∷ Some 2 ∷ Some 2 ∷ None ∷ None ∷ []
unfolding some_of equal first_copy_after
example_first_copies = refl
