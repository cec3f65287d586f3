-- Membership in a set made of bits: of the empty set, of a set with one number more, of the set of a list, with what it
-- says of the list and how large it is; then a list one number at a time, as a loop takes it. The statuses of clauses
-- by their masks are in the crate node. Assumes nothing.
use Rattle.std.proofs.Common.{◌≡◌, ℕ, ◌*◌, ◌%◌, ◌^◌, ◌<◌, Bool, true, false, not, ◌||◌, eqb, ◌↔◌, List, [], ◌∷◌, ◌++◌, sym, refl, ap, ◌∙◌, one-mul, arith, pow_pos, shl_exact, eq-eqb, ne_eqb}
use mathlib.Core.Logic.Iff
use mathlib.Core.Bool.{or-false, or_assoc}
use mathlib.Core.List.Memᴰ
use native.Mathlib.Decide.{ℕ_discrete, dec_lt}
use lib.Pow.{pow-lt}
use lib.Bits.{bit_and, bit_or, and_self, and_shifted, and_comm, or_lt}
use Rattle.formula.specs.Formula.{some_of, ◌∈◌, member, Ascending}
use Rattle.formula.specs.Nodes.{Every}
use Rattle.formula.proofs.Membership.{member_iff}
use Rattle.formula.proofs.OrderLaws.{ascending_same}
use Rattle.bit_set.specs.BitSet.{has, including, mask_onto, mask}
use Rattle.bit_set.proofs.BitLaws.{and_or, le_or_l}

pub has_none : (x : ℕ) → has 0 x ≡ false
unfolding has
has_none x = refl

eqb_comm : (x y : ℕ) → eqb x y ≡ eqb y x
eqb_comm x y = go (ℕ_discrete x y)
  where
    go : Dec (x ≡ y) → eqb x y ≡ eqb y x
    go (yes e) = rw e
    go (no n) = rw (ne_eqb x y n, ne_eqb y x (λ e. n (sym e)))

-- two single bits share one exactly where they are the same
single : (x y : ℕ) → eqb (bit_and (2 ^ x) (2 ^ y)) 0 ≡ not (eqb x y)
single x y = go (ℕ_discrete x y) (dec_lt x y)
  where
    below : (a b : ℕ) → a < b → bit_and (2 ^ b) (2 ^ a) ≡ 0
    below a b h = ap (λ n. bit_and n (2 ^ a)) (sym (one-mul (2 ^ b))) ∙ and_shifted 1 b (2 ^ a) (pow-lt h)

    go : Dec (x ≡ y) → Dec (x < y) → eqb (bit_and (2 ^ x) (2 ^ y)) 0 ≡ not (eqb x y)
    go (yes e) h = rw (e, and_self (2 ^ y), eq-eqb y y refl) (ne_eqb (2 ^ y) 0 (λ z. omega (arith, pow_pos y)))
    go (no n) (yes h) = rw (ne_eqb x y n, and_comm (2 ^ x) (2 ^ y), below x y h)
    go (no n) (no h) = rw (ne_eqb x y n, below y x (omega arith))

-- a union is empty where both parts are
pub union_empty : (a b : ℕ) → not (eqb (bit_or a b) 0) ≡ not (eqb a 0) || not (eqb b 0)
union_empty a b = go (ℕ_discrete a 0) (ℕ_discrete b 0)
  where
    go : Dec (a ≡ 0) → Dec (b ≡ 0) → not (eqb (bit_or a b) 0) ≡ not (eqb a 0) || not (eqb b 0)
    go (yes e) (yes f) = rw (e, f)
    go (yes e) (no f) = rw (e, ne_eqb b 0 f)
    go (no e) f = rw (ne_eqb a 0 e, ne_eqb (bit_or a b) 0 (λ z. e (omega (arith, le_or_l a b))))

pub has_including : (s x y : ℕ) → has (including s x) y ≡ has s y || eqb x y
unfolding has
has_including s x y = rw (and_or s (2 ^ x) (2 ^ y), union_empty (bit_and s (2 ^ y)) (bit_and (2 ^ x) (2 ^ y)), single x y) (ap (λ t. not (eqb (bit_and s (2 ^ y)) 0) || t) (twice (eqb x y)))
  where
    twice : (t : Bool) → not (not t) ≡ t
    twice true = refl
    twice false = refl

-- the machine's 1 << x
pub shifted_one : (x : ℕ) → x < 64 → 1 * 2 ^ x % 2 ^ 64 ≡ 2 ^ x
shifted_one x h = shl_exact 1 x 64 (omega arith) (omega arith) ∙ one-mul (2 ^ x)

-- the set of a list has the list's numbers and no other
pub has_onto : (s y : ℕ) (xs : List ℕ) → has (mask_onto s xs) y ≡ has s y || member y xs
unfolding mask_onto some_of
has_onto s y [] = sym (or-false (has s y))
has_onto s y (x ∷ xs) =
    has_onto (including s x) y xs ∙ ap (◌|| member y xs) (has_including s x y) ∙ or_assoc (has s y) (eqb x y) (member y xs)
    ∙ ap (λ t. has s y || (t || member y xs)) (eqb_comm x y)

pub has_mask : (y : ℕ) (xs : List ℕ) → has (mask_onto 0 xs) y ≡ member y xs
has_mask y xs = has_onto 0 y xs ∙ ap (◌|| member y xs) (has_none y)

-- a number is in a list where it is in its set
pub has_iff : (l : ℕ) (c : List ℕ) → (has (mask c) l ≡ true) ↔ (l ∈ c)
has_iff l c = rw (has_mask l c) (member_iff l c)

-- lists whose numbers ascend, and so clauses whose variables rise, say the same as their sets
pub same_mask_iff : {c d : List ℕ} → Ascending c → Ascending d → (mask c ≡ mask d) ↔ (c ≡ d)
same_mask_iff {c} {d} a b = (
  λ e. ascending_same a b (λ l. Iff.trans (Iff.symm (has_iff l c)) (rw e (has_iff l d))),
  ap mask,
)

-- a list of numbers under n has a set of n digits
onto_small : (n s : ℕ) (xs : List ℕ) → s < 2 ^ n → Every (λ x. x < n) xs → mask_onto s xs < 2 ^ n
unfolding mask_onto
onto_small n s [] h small = h
onto_small n s (x ∷ xs) h small =
    onto_small n (including s x) xs (or_lt n s (2 ^ x) h (pow-lt (small x (Memᴰ.head refl)))) (λ y m. small y (Memᴰ.tail m))

pub mask_small : (n : ℕ) (xs : List ℕ) → Every (λ x. x < n) xs → mask xs < 2 ^ n
mask_small n xs = onto_small n 0 xs (pow_pos n)

-- the numbers of two lists, one after the other
pub onto_append : (s : ℕ) (xs ys : List ℕ) → mask_onto s (xs ++ ys) ≡ mask_onto (mask_onto s xs) ys
unfolding mask_onto
onto_append s [] ys = refl
onto_append s (x ∷ xs) ys = onto_append (including s x) xs ys

-- a list one number at a time, as a loop takes it: x is at hand, and ys is what is left
module _ {x : ℕ} {xs ys : List ℕ} (e : ys ≡ x ∷ xs) where
  pub onto_next : (s : ℕ) → mask_onto (including s x) xs ≡ mask_onto s ys
  unfolding mask_onto
  onto_next s = sym (ap (mask_onto s) e)

pub onto_over : (s : ℕ) {ys : List ℕ} → ys ≡ [] → mask_onto s ys ≡ s
unfolding mask_onto
onto_over s e = rw e
