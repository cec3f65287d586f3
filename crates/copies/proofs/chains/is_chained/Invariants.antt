-- The place before `next` is of the set's hash, and from it on, under the chain's head, the set stands nowhere.
use Rattle.std.proofs.Common.{◌≡◌, ℕ, ◌-◌, ◌≤◌, ◌<◌, get_or}
use Rattle.copies.specs.Chains.{set_hash}
use Rattle.copies.proofs.chains.is_chained.Given as goal

abbrev pub invariant-loop-next : goal.invariant-loop-next
invariant-loop-next l = record {
  within : l.next ≤ l.head;
  of_hash : 0 < l.next → set_hash (get_or l.sets (l.next - 1) 0) ≡ set_hash l.set;
  passed : (i : ℕ) → i < l.head → get_or l.sets i 0 ≡ l.set → i < l.next;
}

abbrev pub decreases-loop-next : goal.decreases-loop-next
decreases-loop-next l = l.next
