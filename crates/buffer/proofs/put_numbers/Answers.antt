-- `put_numbers`: one number more. Assumes nothing.
use Rattle.std.proofs.Common.{arith, refl, add-one, ◌∙◌}
use Rattle.buffer.specs.Text.{after_blanks}
use Rattle.buffer.proofs.TextLaws.{put_nothing, put_append, blanks_more}
use Rattle.buffer.proofs.put_numbers.Goals as goal

pub loop-n-init : goal.loop-n-init
unfolding after_blanks
loop-n-init c = (refl, omega arith, put_nothing _ _)

pub loop-n-preserved : goal.loop-n-preserved
loop-n-preserved c =
    let (size, end, text) = c.loop-n.invariant in (
      c.put_number-end.auto.out ∙ size,
      omega (arith, end, c.put_number-end.ensures.end),
      rw (add-one, blanks_more _ _ c.loop-n-test.true) (put_append (omega (arith, c.requires)) text c.put_number-end.ensures.text),
    )
