-- `find` meets its contract: the first byte of what is left is the one sought, or the index goes on. Assumes nothing.
use Rattle.std.proofs.Common.{◌≡◌, ℕ, suc, ◌+◌, ◌<◌, ◌≤◌, List, length, get_or, eqb, ap, ◌∙◌, add-one, arith, eq-eqb, ne_eqb}
use Rattle.std.proofs.Math.Seq.{slice, slice-cons, slice_empty}
use Rattle.job_list.specs.Find.{index_of, index_after}
use Rattle.job_list.proofs.find.Goals as goal

module _ (b at to : ℕ) (xs : List ℕ) (h : at < to) (k : to ≤ length xs) where
  at_front : index_of b (slice at to xs) ≡ index_after (eqb (get_or xs at 0) b) (index_of b (slice (suc at) to xs))
  unfolding index_of
  at_front = ap (index_of b) (slice-cons at to xs 0 h k)

  stands : get_or xs at 0 ≡ b → index_of b (slice at to xs) ≡ 0
  stands e = at_front ∙ ap (λ t. index_after t (index_of b (slice (suc at) to xs))) (eq-eqb _ _ e)

  passed : ¬ (get_or xs at 0 ≡ b) → index_of b (slice at to xs) ≡ suc (index_of b (slice (at + 1) to xs))
  passed e =
      rw (add-one at)
      (at_front ∙ ap (λ t. index_after t (index_of b (slice (suc at) to xs))) (ne_eqb _ _ e))

none_left : (b at to : ℕ) (xs : List ℕ) → at ≡ to → index_of b (slice at to xs) ≡ 0
unfolding index_of
none_left b at to xs e = rw (e, slice_empty to xs)

pub returns-then-list-at-clause-value : goal.returns-then-list-at-clause-value
returns-then-list-at-clause-value c =
    omega (stands c.args.byte c.loop-at.at c.args.to c.args.list.now c.loop-at-test.true c.requires.to_length c.if-list-at.true, c.loop-at.invariant, arith)

pub loop-at-preserved : goal.loop-at-preserved
loop-at-preserved c =
    omega (passed c.args.byte c.loop-at.at c.args.to c.args.list.now c.loop-at-test.true c.requires.to_length c.if-list-at.false, c.loop-at.invariant, arith)

pub returns-clause-value : goal.returns-clause-value
returns-clause-value c =
    omega (none_left c.args.byte c.loop-at.at c.args.to c.args.list.now (omega arith), c.loop-at.invariant, arith)
