-- `hand`: four numbers stored one after another are all of an array of four. Assumes nothing.
use Rattle.std.proofs.Common.{◌≡◌, ◌∙◌, ◌++◌, ℕ, List, length, drop, sym, ap, arith, append-nil}
use Rattle.std.proofs.lemmas.List.Edits.{sets, sets-eq}
use lib.ListN.{drop_of_length-le}
use Rattle.c_convention.proofs.hand.Goals as goal

all_set : (l vs : List ℕ) → length l ≡ length vs → sets l 0 vs ≡ vs
all_set l vs e =
    sets-eq vs l 0 (omega (arith, e)) ∙ ap (vs ++◌) (drop_of_length-le l (omega (arith, e))) ∙ append-nil vs

pub returns-in-Ok-clause-out_after : goal.returns-in-Ok-clause-out_after
returns-in-Ok-clause-out_after c =
    rw c.in-Ok.is (c.copy_from_slice.ensures.after ∙ sym (all_set c.args.out.now c.in-Ok.values (sym c.copy_from_slice.ensures.len ∙ ap length c.copy_from_slice.ensures.after)))
