-- The samples of marks and points that document 02 (x) asks for: each the words of a file, a level, and the answer that
-- must be given, doubles by their bits. Assumes nothing.
use Rattle.std.specs.Prelude.{List, [], ◌∷◌, ℕ, Float, None}
use Rattle.std.specs.Float.{binary64}
use Rattle.std.specs.Float.Ieee.{of_bits}
use Rattle.points.specs.declared.Marks.{Marks}
use Rattle.points.specs.declared.Marks.TheVariants.{One, Two}
use Rattle.points.specs.declared.Point.{Point}
use Rattle.samples.specs.Samples.{Numbered, refused, answered, example}

pub record MarksSample : Type 0 where
  pub file : List ℕ
  pub level : ℕ
  pub expected : Numbered Marks

pub record PointSample : Type 0 where
  pub file : List ℕ
  pub level : ℕ
  pub expected : Numbered Point

abbrev marks : List ℕ → ℕ → Numbered Marks → MarksSample
marks ws n x = record { file = ws; level = n; expected = x }

abbrev point : List ℕ → ℕ → Numbered Point → PointSample
point ws n x = record { file = ws; level = n; expected = x }

-- one mark, two marks, and a point
abbrev double : ℕ → Float
double bits = of_bits binary64 bits

abbrev one_mark : ℕ → Numbered Marks
one_mark x = answered (One (double x))

abbrev two_marks : ℕ → ℕ → Numbered Marks
two_marks x y = answered (Two (double x) (double y))

abbrev point_at : ℕ → ℕ → ℕ → Numbered Point
point_at x y z = answered (record { low = double x; high = double y; open_share = double z })

-- clause {0} over a draw of two odds
abbrev drawn : ℕ → ℕ → List ℕ
drawn t f = 1 ∷ 0 ∷ t ∷ f ∷ 1 ∷ 1 ∷ 2 ∷ 8 ∷ []

-- {0, 2} over a choice and a draw: one mark at level 1, and open weight above 0
abbrev chosen_or_drawn : List ℕ
chosen_or_drawn = 2 ∷ 0 ∷ 2 ∷ 0 ∷ 0 ∷ 1 ∷ 1 ∷ 1 ∷ 2 ∷ 3 ∷ 11 ∷ []

-- no clause, over draws whose totals come to 2^53 + 4, the smallest whole over 2^53
abbrev over_plotted : List ℕ
over_plotted = 1 ∷ 35 ∷ 1 ∷ 306 ∷ 1 ∷ 2856 ∷ 1 ∷ 6528 ∷ 1 ∷ 43690 ∷ 0 ∷ 5 ∷ 0 ∷ 14 ∷ []

unfoldable pub marks_samples : List MarksSample
marks_samples =
    -- 1/3, 2/3, 0, 1; 0 and 1
    marks (drawn 1 2) 1 (one_mark 0x3fd5_5555_5555_5555) ∷
    marks (drawn 2 1) 1 (one_mark 0x3fe5_5555_5555_5555) ∷
    marks (0 ∷ 1 ∷ 0 ∷ 1 ∷ 5 ∷ []) 0 (one_mark 0) ∷
    marks (0 ∷ 0 ∷ 0 ∷ 4 ∷ []) 0 (one_mark 0x3ff0_0000_0000_0000) ∷
    marks (drawn 1 2) 0 (two_marks 0 0x3ff0_0000_0000_0000) ∷
    marks chosen_or_drawn 1 (one_mark 0x3ff0_0000_0000_0000) ∷
    -- 1 out of 2^53; 27 for the next larger whole
    marks (1 ∷ 0 ∷ 1 ∷ 2 ∷ 1 ∷ 4 ∷ 1 ∷ 6 ∷ 1 ∷ 65535 ∷ 1 ∷ 65535 ∷ 1 ∷ 65535 ∷ 1 ∷ 31 ∷ 4 ∷ 4 ∷ 8 ∷ 20 ∷ []) 4 (one_mark 0x3ca0_0000_0000_0000) ∷
    marks over_plotted 5 (refused 27 None) ∷
    []

unfoldable pub point_samples : List PointSample
point_samples =
    -- 1/3; the example's 0/50 and 40/50
    point (drawn 1 2) 1 (point_at 0x3fd5_5555_5555_5555 0x3fd5_5555_5555_5555 0) ∷
    point example 2 (point_at 0 0x3fe9_9999_9999_999a 0x3fe9_9999_9999_999a) ∷
    point chosen_or_drawn 1 (point_at 0x3ff0_0000_0000_0000 0x3ff0_0000_0000_0000 0x3ff0_0000_0000_0000) ∷
    -- 27 for a whole over 2^53, and 12 before it
    point over_plotted 0 (refused 27 None) ∷
    point over_plotted 6 (refused 12 None) ∷
    []
