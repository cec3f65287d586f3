-- Where a byte stands first. What the code alone needs; assumes nothing.
use Rattle.std.specs.Prelude.{ℕ, suc, Bool, true, false, List, [], ◌∷◌, eqb}

-- 0 if the first element is the one sought, else one more than the index in the rest
abbrev pub index_after : Bool → ℕ → ℕ
index_after true i = 0
index_after false i = suc i

-- the index of the first byte b, or the length where there is none
unfoldable pub index_of : ℕ → List ℕ → ℕ
index_of b [] = 0
index_of b (x ∷ xs) = index_after (eqb x b) (index_of b xs)
