-- Chains: a hash is under their number; whether a number is among the first of a list, by places; up to where a set may
-- stand; no set; and one set more. Assumes nothing.
use mathlib.Core.Path.{◌≡◌, sym, ap, ◌∙◌}
use mathlib.Core.Logic.{◌≢◌}
use mathlib.Core.Bool.{true, false, ◌||◌, or-false as or_nothing}
use mathlib.Core.List.Memᴰ
use mathlib.Core.List.{List}
use Prim.Native.Nat.{ℕ, ◌+◌, ◌-◌, ◌≤◌, ◌<◌}
use native.Mathlib.Decide.{ℕ_discrete}
use native.Mathlib.Omega.{arith}
use lib.ListN.{length, get_or, take, drop, set, replicate, length-set, length-replicate, length-take, get_or-replicate}
use lib.Seq.{get_or-set_same, get_or-set_other, get_or-take, get_or-drop, take-add}
use borrow.Author.Count.{below_more, below_none}
use borrow.Author.Tests.{ne_eqb}
use Rattle.formula.specs.Formula.{member}
use Rattle.formula.proofs.SomeLaws.{none_by_places, some_of_append}
use Rattle.formula.proofs.Membership.{get_or_in, member_iff}
use Rattle.limits.specs.Limits.{max_clauses}
use Rattle.copies.specs.Chains.{max_chains, set_hash, LastOf, Chained}

pub hash_under : (s : ℕ) → set_hash s < max_chains
unfolding set_hash
hash_under s = omega arith

-- Among the first n

module _ (x n : ℕ) (xs : List ℕ) where
  pub among_first : (i : ℕ) → i < n → n ≤ length xs → get_or xs i 0 ≡ x → member x (take n xs) ≡ true
  among_first i h room e =
      (member_iff x (take n xs)).1 (Memᴰ.cast (sym e ∙ sym (get_or-take n xs i 0 h)) (get_or_in (take n xs) i 0 (simp length-take (omega arith))))

  pub not_among_first : ((i : ℕ) → i < n → get_or xs i 0 ≢ x) → member x (take n xs) ≡ false
  not_among_first other =
      none_by_places _ 0 (take n xs) (λ i h.
      let under : i < n = omega (arith, length-take n xs) in
      ne_eqb x _ (λ e. other i under (sym (e ∙ get_or-take n xs i 0 under))))

-- all that may be s stands up to the last of its hash
pub last_covers : (sets : List ℕ) (count s x : ℕ) → LastOf sets count (set_hash s) x → member s (take x sets) ≡ member s (take count sets)
last_covers sets count s x l =
    let split : x + (count - x) ≡ count = omega (arith, l.under) in
    sym
    (ap (λ n. member s (take n sets)) (sym split) ∙ ap (member s) (take-add x (count - x) sets) ∙ some_of_append _ (take x sets) (take (count - x) (drop x sets))
    ∙ ap (member s (take x sets) ||◌) (not_among_first s (count - x) (drop x sets) later) ∙ or_nothing (member s (take x sets)))
  where
    later : (i : ℕ) → i < count - x → get_or (drop x sets) i 0 ≢ s
    later i h e = let before = l.last (x + i) (omega arith) (ap set_hash (sym (get_or-drop x sets i 0) ∙ e)) in omega arith

-- No set

pub none_chained : Chained 0 (replicate max_clauses 0) (replicate max_clauses 0) (replicate max_chains 0)
none_chained = record {
  link_room = length-replicate {A = ℕ} max_clauses 0;
  head_room = length-replicate {A = ℕ} max_chains 0;
  linked = record { room = length-replicate {A = ℕ} max_clauses 0; few = omega arith; each = below_none _ };
  heads_are = λ h less.
      let none = get_or-replicate {A = ℕ} max_chains h 0 0 less in
      record { under = omega arith; of_hash = λ some. absurd (omega arith); last = λ i few. absurd (omega arith) };
}

-- One set more

module _ (sets : List ℕ) (count s : ℕ) where
  -- what stands before it stays
  stays : (i : ℕ) → i < count → get_or (set sets count s) i 0 ≡ get_or sets i 0
  stays i h = get_or-set_other sets count i s 0 (λ e. omega arith)

  last_stays : (p h x : ℕ) → p ≤ count → LastOf sets p h x → LastOf (set sets count s) p h x
  last_stays p h x few l = record {
    under = l.under;
    of_hash = λ some. grind (arith, stays, l.under, l.of_hash);
    last = λ i less e. grind (arith, stays, l.last);
  }

  module _ (room : count < length sets) where
    here : get_or (set sets count s) count 0 ≡ s
    here = get_or-set_same sets count s 0 room

    -- it is the last of its hash, and not of another
    last_here : LastOf (set sets count s) (count + 1) (set_hash s) (count + 1)
    last_here = record { under = omega arith; of_hash = λ _. grind (arith, here); last = λ i less _. less }

    last_other : (h x : ℕ) → set_hash s ≢ h → LastOf sets count h x → LastOf (set sets count s) (count + 1) h x
    last_other h x other l = record {
      under = omega (arith, l.under);
      of_hash = λ some. grind (arith, stays, l.under, l.of_hash);
      last = λ i less e. grind (arith, stays, here, l.last);
    }

pub chain_more : {count : ℕ} {sets links heads : List ℕ} (s : ℕ) → count < max_clauses → Chained count sets links heads
    → Chained (count + 1) (set sets count s) (set links count (get_or heads (set_hash s) 0)) (set heads (set_hash s) (count + 1))
chain_more {count} {sets} {links} {heads} s few c =
    let room : count < length sets = omega (arith, c.linked.room) in
    let at : count < length links = omega (arith, c.link_room) in
    let before = last_stays sets count s in
    record {
      link_room = simp length-set c.link_room;
      head_room = simp length-set c.head_room;
      linked = record {
        room = simp length-set c.linked.room;
        few = omega arith;
        each = below_more _ count
            (λ k less.
            let other : k ≢ count = omega arith in
            rw (stays sets count s k less, get_or-set_other) (before k _ _ (omega arith) (c.linked.each k less)))
            (rw (here sets count s room, get_or-set_same) (before count _ _ (omega arith) (c.heads_are (set_hash s) (hash_under s))));
      };
      heads_are = λ h less. head h less (ℕ_discrete h (set_hash s)) room;
    }
  where
    head : (h : ℕ) → h < max_chains → Dec (h ≡ set_hash s) → count < length sets
        → LastOf (set sets count s) (count + 1) h (get_or (set heads (set_hash s) (count + 1)) h 0)
    head h less (yes e) room =
        let at : set_hash s < length heads = omega (arith, c.head_room, hash_under s) in
        rw (e, get_or-set_same) (last_here sets count s room)
    head h less (no n) room = rw get_or-set_other (last_other sets count s room h _ (λ e. n (sym e)) (c.heads_are h less))
