-- The limits: what it is to pass none; that a limit with no room for a trailer is passed; that lines which pass none
-- pass no larger one; and that lines which pass one pass it with more lines. Assumes nothing.
use mathlib.Core.Path.{◌≡◌, sym, ap, ◌∙◌}
use mathlib.Core.Bool.{true, false, false≢true}
use mathlib.Core.List.{List, ◌++◌}
use Prim.Native.Nat.{ℕ, ◌+◌, ◌*◌, ◌≤◌, ◌<◌}
use native.Mathlib.Omega.{arith}
use lib.ListN.{length, length-append}
use borrow.Author.Tests.{ltb-false, le-ltb}
use Rattle.formula.proofs.SomeLaws.{or_false}
use Rattle.resolution.specs.Resolution.{Line}
use Rattle.limits.specs.Limits.{max_lines}
use Rattle.words.proofs.WordsLaws.{Decides, fails}
use Rattle.written_derivation.specs.File.{lines_words}
use Rattle.written_derivation.proofs.ReadLaws.{lines_append}
use Rattle.derivation_writer.specs.Writer.{exceeds}

-- the lines pass no limit
pub record WithinLimit (limit : ℕ) (ls : List Line) : Type 0 where
  pub bytes : 4 * length (lines_words ls) + 12 ≤ limit
  pub lines : length ls ≤ max_lines

pub within : (limit : ℕ) (ls : List Line) → Decides (exceeds limit ls) (WithinLimit limit ls)
unfolding exceeds
within limit ls = (
  λ e. let (f, g) = or_false _ _ e in record { bytes = ltb-false _ _ f; lines = ltb-false _ _ g },
  λ w. rw (le-ltb limit _ w.bytes, le-ltb max_lines _ w.lines),
)

-- no derivation is shorter than a trailer
pub never_fits : (limit : ℕ) (ls : List Line) → limit < 12 → exceeds limit ls ≡ true
never_fits limit ls h = fails (within limit ls) (λ w. omega (arith, w.bytes))

-- lines that pass no limit pass no larger one
pub fits_more : (limit more : ℕ) (ls : List Line) → limit ≤ more → exceeds limit ls ≡ false → exceeds more ls ≡ false
fits_more limit more ls h e = let w = (within limit ls).0 e in (within more ls).1 (record { bytes = omega (arith, w.bytes); lines = w.lines })

-- lines that pass a limit pass it with more lines
pub exceeds_longer : (limit : ℕ) (ls more : List Line) → exceeds limit ls ≡ true → exceeds limit (ls ++ more) ≡ true
exceeds_longer limit ls more e =
    let words = ap length (lines_append ls more) ∙ length-append (lines_words ls) (lines_words more) in
    fails (within limit (ls ++ more))
    (λ w. false≢true (sym ((within limit ls).1 (record { bytes = omega (arith, w.bytes, words); lines = omega (arith, w.lines, length-append ls more) })) ∙ e))
