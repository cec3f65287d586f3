-- Sets in chains of equal hash. A place in a chain is told by the number after it, so that 0 is none. What the code
-- alone needs; assumes nothing.
use Rattle.std.specs.Prelude.{◌≡◌, List, ℕ, ◌+◌, ◌-◌, ◌*◌, ◌/◌, ◌%◌, ◌≤◌, ◌<◌, length, get_or}
use Rattle.limits.specs.Limits.{max_clauses}

-- how many hashes there are
abbrev pub max_chains : ℕ
max_chains = 4096

-- both halves of a set, mixed
abbrev pub mixed : ℕ → ℕ
mixed s = s % 4294967296 * 1000000007 + s / 4294967296 * 1999999973

unfoldable pub set_hash : ℕ → ℕ
set_hash s = (mixed s / 1048576 + mixed s / 1099511627776) % max_chains

-- x - 1 is the last place under p where a set of hash h stands; or x is 0, and there is none
pub record LastOf (sets : List ℕ) (p h x : ℕ) : Type 0 where
  pub under : x ≤ p
  pub of_hash : 0 < x → set_hash (get_or sets (x - 1) 0) ≡ h
  pub last : (i : ℕ) → i < p → set_hash (get_or sets i 0) ≡ h → i < x

-- the links of the first p sets: each leads to the last earlier set of the same hash
pub record Linked (p : ℕ) (sets links : List ℕ) : Type 0 where
  pub room : length sets ≡ max_clauses
  pub few : p ≤ max_clauses
  pub each : (k : ℕ) → k < p → LastOf sets k (set_hash (get_or sets k 0)) (get_or links k 0)

-- and each head to the last of all
pub record Chained (count : ℕ) (sets links heads : List ℕ) : Type 0 where
  pub linked : Linked count sets links
  pub link_room : length links ≡ max_clauses
  pub head_room : length heads ≡ max_chains
  pub heads_are : (h : ℕ) → h < max_chains → LastOf sets count h (get_or heads h 0)
