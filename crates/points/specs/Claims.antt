-- What is claimed of marks and point, over what the operations answer. Assumes nothing.
use Rattle.std.specs.Prelude.{◌≡◌, false, List, ℕ, T, pos, Ok}
use Rattle.std.specs.Float.{fin, binary64}
use Rattle.std.specs.Float.Ieee.{of_int, le, lt}
use Rattle.std.specs.Float.Ieee.Exact.{HasValue}
use Rattle.bounds.specs.declared.Bounds.{Bounds}
use Rattle.rule_file.specs.declared.Header.{Header}
use Rattle.value.specs.Cut.{cut_file}
use Rattle.points.specs.declared.Marks.{Marks}
use Rattle.points.specs.declared.Marks.TheVariants.{One, Two}
use Rattle.points.specs.declared.Point.{Point}
use Rattle.points.specs.Points.{share, marks_file, point_file}

-- the number as a double is the number
abbrev pub Representable : ℕ → Type 0
Representable n = HasValue (of_int binary64 (pos n)) false n 1

-- of a file that the reader answers with h, and a level: the answers of cut, marks and point, and the claims about them
pub record Marked (b : List ℕ) (h : Header) (level : ℕ) : Type 0 where
  pub cut : Bounds
  pub marks : Marks
  pub point : Point
  pub cut_is : cut_file b level ≡ Ok cut
  pub marks_are : marks_file b level ≡ Ok marks
  pub point_is : point_file b level ≡ Ok point
  -- each double is a share, before whose division nothing is lost
  pub low_is : point.low ≡ share cut.lower h.whole
  pub high_is : point.high ≡ share cut.upper h.whole
  pub open_is : point.open_share ≡ share cut.undetermined h.whole
  pub lower_representable : Representable cut.lower
  pub upper_representable : Representable cut.upper
  pub open_representable : Representable cut.undetermined
  pub whole_representable : Representable h.whole
  -- one mark exactly where lower and upper agree
  pub agree : cut.lower ≡ cut.upper → (marks ≡ One point.low) × (point.high ≡ point.low)
  pub differ : (cut.lower ≡ cut.upper → ⊥) → (marks ≡ Two point.low point.high) × T (lt point.low point.high)
  -- 0 ≤ low ≤ high ≤ 1, and the open share is from 0 to 1
  pub from_zero : T (le (fin false 0 (pos 0)) point.low)
  pub ordered : T (le point.low point.high)
  pub to_one : T (le point.high (fin false 1 (pos 0)))
  pub open_from_zero : T (le (fin false 0 (pos 0)) point.open_share)
  pub open_to_one : T (le point.open_share (fin false 1 (pos 0)))

-- of the points at a level and at a deeper one: the marks close in on each other, and the open share falls
pub record Narrows (p q : Point) : Type 0 where
  pub low_rises : T (le p.low q.low)
  pub high_falls : T (le q.high p.high)
  pub open_share_falls : T (le q.open_share p.open_share)
