-- A set of numbers as one number: x is in it where the bit 2^x is. What the code alone needs; assumes nothing.
use Rattle.std.specs.Prelude.{ℕ, zero, suc, ◌+◌, ◌-◌, ◌*◌, ◌/◌, ◌%◌, ◌^◌, min, Bool, cond, not, List, [], ◌∷◌, ◌++◌, ◌==◌, bit_and, bit_or}

unfoldable pub has : ℕ → ℕ → Bool
has s x = not (bit_and s (2 ^ x) == 0)

abbrev pub including : ℕ → ℕ → ℕ
including s x = bit_or s (2 ^ x)

-- the set s with the numbers of a list
unfoldable pub mask_onto : ℕ → List ℕ → ℕ
mask_onto s [] = s
mask_onto s (x ∷ xs) = mask_onto (including s x) xs

-- the set of the numbers of a list
abbrev pub mask : List ℕ → ℕ
mask = mask_onto 0

-- the numbers under k that pass the test, rising
unfoldable pub below : ℕ → (ℕ → Bool) → List ℕ
below zero f = []
below (suc k) f = below k f ++ cond (f k) (k ∷ []) []

-- the numbers of a set of 64 bits, rising
abbrev pub members : ℕ → List ℕ
members s = below 64 (has s)

-- the numbers under 64 from x on
abbrev pub from : ℕ → ℕ
from x = 2 ^ 64 - 2 ^ min x 64

-- the set if it has exactly one number, and else the empty set: without its least number it is empty
unfoldable pub alone : ℕ → ℕ
alone s = cond (bit_and s (s - 1) == 0) s 0

-- the even numbers under 2k
unfoldable pub evens : ℕ → ℕ
evens zero = 0
evens (suc k) = 1 + 4 * evens k

-- the even numbers of a set of 64 bits whose next one is in it too, and whether there is one
abbrev pub pairs : ℕ → ℕ
pairs s = bit_and (bit_and s (s / 2 ^ 1)) (evens 32)

unfoldable pub has_pair : ℕ → Bool
has_pair s = not (pairs s == 0)

-- with those next ones
abbrev pub paired : ℕ → ℕ
paired s = bit_or (pairs s) (pairs s * 2 ^ 1 % 2 ^ 64)
