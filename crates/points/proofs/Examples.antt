-- Shares and marks of some numbers, computed: doubles by their bits. Assumes nothing.
use mathlib.Core.Path.{◌≡◌, refl}
use mathlib.Core.List.{[], ◌∷◌, map}
use Prim.Native.Nat.{ℕ}
use lib.Count.{count_trailing_zeros}
use lib.IntN.{pos}
use lib.Ieee.{binary64, span, climb, size, odd, units, round, neg, sum, add, sub, div, lt, eq, le, of_int, of_fields, of_bits}
use Rattle.bounds.specs.declared.Bounds.{Bounds}
use Rattle.limits.specs.Limits.{max_plotted}
use Rattle.points.specs.Points.{share, marks_of}
use Rattle.points.specs.declared.Marks.TheVariants.{One, Two}

-- 0, 1/3, 2/3 and 1; the smallest share that is not 0, and the largest that is not 1
pub example_shares : share 0 3 ∷ share 1 3 ∷ share 2 3 ∷ share 3 3 ∷ share 1 max_plotted ∷ share 9007199254740991 max_plotted ∷ []
    ≡ map (of_bits binary64) (0 ∷ 0x3fd5_5555_5555_5555 ∷ 0x3fe5_5555_5555_5555 ∷ 0x3ff0_0000_0000_0000 ∷ 0x3ca0_0000_0000_0000 ∷ 0x3fef_ffff_ffff_ffff ∷ [])
unfolding count_trailing_zeros span climb size odd units round div of_int of_fields of_bits share neg sum add sub
example_shares = refl

-- 1 less 2/3 is rounded twice, and is not 1/3
pub example_rounded_twice : sub binary64 (of_int binary64 (pos 1)) (share 2 3) ≡ of_bits binary64 0x3fd5_5555_5555_5556
unfolding count_trailing_zeros span climb size odd units round div of_int of_fields of_bits share neg sum add sub
example_rounded_twice = refl

-- lower number, upper number and open weight
abbrev numbers : ℕ → ℕ → ℕ → Bounds
numbers l u o = record { lower = l; upper = u; undetermined = o }

-- one mark where lower and upper agree, whatever the open weight
pub example_marks : marks_of (numbers 1 1 0) 3 ∷ marks_of (numbers 1 1 2) 3 ∷ marks_of (numbers 1 2 2) 3 ∷ []
    ≡ One (of_bits binary64 0x3fd5_5555_5555_5555) ∷ One (of_bits binary64 0x3fd5_5555_5555_5555) ∷ Two (of_bits binary64 0x3fd5_5555_5555_5555) (of_bits binary64 0x3fe5_5555_5555_5555) ∷ []
unfolding count_trailing_zeros span climb size odd units round div lt eq le of_int of_fields of_bits share marks_of
example_marks = refl
