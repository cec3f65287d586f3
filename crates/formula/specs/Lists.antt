-- Tests over a list, the elements that pass one, and those that are no copies. Assumes nothing.
use Rattle.std.specs.Prelude.{ℕ, Bool, true, false, cond, not, ◌&&◌, ◌||◌, eqb}
use mathlib.Core.List.{List, [], ◌∷◌, Memᴰ}

-- whether some element passes the test
unfoldable pub some_of : {A : Type 0} → (A → Bool) → List A → Bool
some_of f [] = false
some_of f (x ∷ xs) = f x || some_of f xs

-- whether every element passes the test
unfoldable pub all_of : {A : Type 0} → (A → Bool) → List A → Bool
all_of f [] = true
all_of f (x ∷ xs) = f x && all_of f xs

-- the elements that pass the test, in their order
unfoldable pub those : {A : Type 0} → (A → Bool) → List A → List A
those f [] = []
those f (x ∷ xs) = cond (f x) (x ∷ those f xs) (those f xs)

-- the elements of which no earlier one is the same
unfoldable pub first_of_each : {A : Type 0} → (A → A → Bool) → List A → List A
first_of_each same [] = []
first_of_each same (x ∷ xs) = x ∷ those (λ y. not (same x y)) (first_of_each same xs)

-- whether the list has no element
abbrev pub is_empty : List ℕ → Bool
is_empty [] = true
is_empty (_ ∷ _) = false

-- x stands in the list, as a statement and as a test
infix 50 ◌∈◌
abbrev pub ◌∈◌ : {A : Type 0} → A → List A → Type 0
x ∈ xs = Memᴰ x xs

abbrev pub member : ℕ → List ℕ → Bool
member x = some_of (eqb x)
