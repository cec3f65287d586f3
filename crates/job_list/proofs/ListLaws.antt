-- What an accepted list has: not too many bytes, and its number of lines. Assumes nothing.
use Rattle.std.specs.Prelude.{Ok}
use Prim.Native.Nat.{ℕ, ◌≤◌}
use native.Mathlib.Omega.{arith}
use mathlib.Core.Path.{◌≡◌, sym}
use mathlib.Core.List.{List}
use lib.ListN.{length}
use borrow.Author.Tests.{ltb-false}
use Rattle.answer.proofs.AnswerLaws.{passed, same_answer}
use Rattle.job_list.specs.JobList.{max_list_bytes, max_list_lines, list_lines, list_file}

pub record AcceptedList (b : List ℕ) (k : ℕ) : Type 0 where
  pub bytes : length b ≤ max_list_bytes
  pub count : k ≡ length (list_lines b)
  pub few : k ≤ max_list_lines

pub accepted_list : (b : List ℕ) (k : ℕ) → list_file b ≡ Ok k → AcceptedList b k
unfolding list_file
accepted_list b k e =
    let (short, r) = passed _ _ _ k e in
    let (few, count) = passed _ _ _ k r in
    let n : length (list_lines b) ≡ k = same_answer _ _ count in
    let most : length (list_lines b) ≤ max_list_lines = ltb-false _ _ few in
    record { bytes = ltb-false _ _ short; count = sym n; few = omega (most, n, arith) }
