-- `put`: one byte more is copied, and then the whole text is. Assumes nothing.
use Rattle.std.proofs.Common.{◌≡◌, ◌+◌, length, subst, arith}
use lib.Seq.{paste-zero}
use Rattle.buffer.specs.Text.{Put}
use Rattle.buffer.proofs.TextLaws.{paste_more, paste_all}
use Rattle.buffer.proofs.put.Goals as goal

pub loop-i-init : goal.loop-i-init
loop-i-init c = paste-zero c.args.out.now c.args.at c.args.text.now

pub loop-i-preserved : goal.loop-i-preserved
loop-i-preserved c = paste_more _ _ _ _ _ (omega arith) c.loop-i-test.true c.loop-i.invariant

pub returns : goal.returns
returns c =
    let all : c.loop-i.i ≡ length c.args.text.now = omega (arith, c.loop-i.auto.i-end, c.loop-i-test.false) in
    let copied = paste_all _ _ _ _ _ c.loop-i.auto.i-end c.loop-i-test.false c.loop-i.invariant in
    record { text = subst (λ k. Put c.args.out.now c.args.at c.args.text.now c.loop-i.out (c.args.at + k)) all copied }
