-- Elements that stand one after another in a file: words, clauses, prefix entries, lines of a derivation. `next i` is
-- the word after the element at word i. Assumes nothing.
use Rattle.std.specs.Prelude.{ℕ, zero, suc, Bool, true, false, cond, List, [], ◌∷◌, ◌++◌, eqb, Option, None, Some}
use Rattle.formula.specs.Formula.{some_of}

-- the word where element j stands, from word i on
unfoldable pub start : (ℕ → ℕ) → ℕ → ℕ → ℕ
start next i zero = i
start next i (suc j) = next (start next i j)

-- the elements from word i on, as many as are left; `at i` is the one at word i
unfoldable pub elements : {A : Type 0} → (ℕ → ℕ) → (ℕ → A) → ℕ → ℕ → List A
elements next at zero i = []
elements next at (suc left) i = at i ∷ elements next at left (next i)

-- a place counted from one element earlier
abbrev pub later : Option ℕ → Option ℕ
later None = None
later (Some i) = Some (suc i)

-- the first element that passes the test
unfoldable pub first : {A : Type 0} → (A → Bool) → List A → Option ℕ
first f [] = None
first f (x ∷ xs) = elim (f x) [ true ↦ Some 0 | false ↦ later (first f xs) ]

-- the first copy: the first element that is the same as an earlier one, or as one of those before the list
unfoldable pub first_copy_after : {A : Type 0} → (A → A → Bool) → List A → List A → Option ℕ
first_copy_after same before [] = None
first_copy_after same before (x ∷ xs) =
    elim (some_of (λ y. same y x) before) [
      | true ↦ Some 0
      | false ↦ later (first_copy_after same (before ++ (x ∷ [])) xs)
    ]

abbrev pub first_copy : {A : Type 0} → (A → A → Bool) → List A → Option ℕ
first_copy same = first_copy_after same []

-- the first element that does not fit; or, where only the walk's end is wrong, one past the last
unfoldable pub walk : (ℕ → ℕ) → (ℕ → Bool) → ℕ → ℕ → ℕ → Option ℕ
walk next fits end zero i = cond (eqb i end) None (Some 0)
walk next fits end (suc left) i =
    elim (fits i) [
      | true ↦ later (walk next fits end left (next i))
      | false ↦ Some 0
    ]
