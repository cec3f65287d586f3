-- The answers of the marks and of the point of a cut, for every file and level. Assumes nothing.
use Rattle.std.specs.Prelude.{cond, List, ℕ, ltb, eqb, pos, Float, Ok}
use Rattle.std.specs.Float.{binary64}
use Rattle.std.specs.Float.Ieee.{of_int, div}
use Rattle.bounds.specs.declared.Bounds.{Bounds}
use Rattle.limits.specs.Limits.{max_plotted}
use Rattle.answer.specs.Answer.{Answer, refuse_if, and_then}
use Rattle.answer.specs.declared.Refusal.TheVariants as refusal
use Rattle.rule_file.specs.RuleFile.{whole}
use Rattle.rule_file.specs.declared.Header.{Header}
use Rattle.value.specs.Cut.{cut_of, read_with_level}
use Rattle.points.specs.declared.Marks.{Marks}
use Rattle.points.specs.declared.Marks.TheVariants.{One, Two}
use Rattle.points.specs.declared.Point.{Point}
use Rattle.points.specs.declared.Plot.{Plot}

-- a number out of the whole as a double: one division, rounded to nearest, of the two as doubles
unfoldable pub share : ℕ → ℕ → Float
share part whole = div binary64 (of_int binary64 (pos part)) (of_int binary64 (pos whole))

-- one mark where lower and upper agree, else a pair
unfoldable pub marks_of : Bounds → ℕ → Marks
marks_of x whole = cond (eqb x.lower x.upper) (One (share x.lower whole)) (Two (share x.lower whole) (share x.upper whole))

-- low mark, high mark and open share; a single mark is both
abbrev pub point_of : Marks → Float → Point
point_of (One mark) open_share = record { low = mark; high = mark; open_share = open_share }
point_of (Two low high) open_share = record { low = low; high = high; open_share = open_share }

-- the point of three numbers out of a whole: of their marks, and of the open weight
unfoldable pub point_for : Bounds → ℕ → Point
point_for x whole = point_of (marks_of x whole) (share x.undetermined whole)

-- the file's header for marks and point: the refusals of a cut; 27, whole over 2^53
unfoldable pub read_to_plot : List ℕ → ℕ → Answer Header
read_to_plot b level = and_then (read_with_level b level) (λ h. refuse_if (ltb max_plotted h.whole) refusal.WholeOverPlotted (Ok h))

-- those refusals; else the marks of the cut
unfoldable pub marks_file : List ℕ → ℕ → Answer Marks
marks_file b level = and_then (read_to_plot b level) (λ _. Ok (marks_of (cut_of b level) (whole b)))

-- those refusals; else the point of the cut
unfoldable pub point_file : List ℕ → ℕ → Answer Point
point_file b level = and_then (read_to_plot b level) (λ _. Ok (point_for (cut_of b level) (whole b)))

-- either answer, of both at once
abbrev pub plotted_marks : Answer Plot → Answer Marks
plotted_marks r = and_then r (λ p. Ok p.marks)

abbrev pub plotted_point : Answer Plot → Answer Point
plotted_point r = and_then r (λ p. Ok (point_of p.marks p.open_share))
