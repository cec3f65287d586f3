-- A limit, read digit by digit. Assumes nothing.
use Prim.Native.Nat.{ℕ, suc, ◌+◌, ◌-◌, ◌*◌, ◌^◌, ◌≤◌, ◌<◌}
use native.Mathlib.Omega.{arith}
use mathlib.Core.Path.{◌≡◌, refl, sym, ap, ◌∙◌}
use mathlib.Core.Bool.{Bool, true, false, not, ◌&&◌, and-false}
use mathlib.Core.List.{List, [], ◌∷◌}
use mathlib.Core.Logic.{◌≢◌}
use Rattle.std.specs.Prelude.{None, Some}
use lib.ListN.{length, drop, get_or, drop_of_length-le}
use lib.Seq.{drop-cons}
use lib.Dec.{leb}
use borrow.Author.Tests.{le-leb, lt-leb, lt-ltb, le-ltb}
use Rattle.formula.specs.Formula.{all_of, is_empty}
use Rattle.job_list.specs.JobList.{is_digit, decimal_value_from, decimal_value, fits, is_limit, limit_of}

-- the bytes before index i are digits, and x is the number that they are
pub record ReadTo (t : List ℕ) (i x : ℕ) : Type 0 where
  pub not_empty : length t ≢ 0
  pub digits : all_of is_digit (drop i t) ≡ all_of is_digit t
  pub value : decimal_value_from x (drop i t) ≡ decimal_value t
  pub fits : x < 2 ^ 64

pub read_none : (t : List ℕ) → length t ≢ 0 → ReadTo t 0 0
unfolding decimal_value
read_none t n = record { not_empty = n; digits = refl; value = refl; fits = omega arith }

-- the digits, by both ends of their range
pub digit : (b : ℕ) → 48 ≤ b → b ≤ 57 → is_digit b ≡ true
unfolding is_digit
digit b lo hi = simp (le-leb _ _ lo, le-leb _ _ hi)

pub below_digits : (b : ℕ) → b < 48 → is_digit b ≡ false
unfolding is_digit
below_digits b h = simp (lt-leb _ _ h)

pub past_digits : (b : ℕ) → 57 < b → is_digit b ≡ false
unfolding is_digit
past_digits b h = ap (leb 48 b &&◌) (lt-leb _ _ h) ∙ and-false (leb 48 b)

-- a number only grows with more digits
grows : (x : ℕ) (ys : List ℕ) → x ≤ decimal_value_from x ys
unfolding decimal_value_from
grows x [] = omega arith
grows x (y ∷ ys) = omega (grows (10 * x + (y - 48)) ys, arith)

-- what is no limit
no_limit : (t : List ℕ) → is_limit t ≡ false → None ≡ limit_of t
unfolding limit_of
no_limit t e = sym (rw e)

pub empty_limit : (t : List ℕ) → length t ≡ 0 → None ≡ limit_of t
unfolding limit_of is_limit
empty_limit [] e = refl
empty_limit (x ∷ xs) e = absurd (omega (e, arith))

and_second : (a c : Bool) → a && false && c ≡ false
and_second true c = refl
and_second false c = refl

pub not_digits : (t : List ℕ) → all_of is_digit t ≡ false → None ≡ limit_of t
unfolding is_limit
not_digits t e = no_limit t (ap (λ d. not (is_empty t) && d && fits t) e ∙ and_second (not (is_empty t)) (fits t))

and_third : (a b : Bool) → a && b && false ≡ false
and_third true true = refl
and_third true false = refl
and_third false b = refl

module _ {t : List ℕ} {i x : ℕ} (h : ReadTo t i x) (at : i < length t) where
  pub no_digit : is_digit (get_or t i 0) ≡ false → None ≡ limit_of t
  unfolding all_of
  no_digit e =
      not_digits t (sym h.digits ∙ ap (all_of is_digit) (drop-cons t i 0 at) ∙ ap (◌&& all_of is_digit (drop (suc i) t)) e)

  -- the number with the next digit
  next : decimal_value_from (10 * x + (get_or t i 0 - 48)) (drop (suc i) t) ≡ decimal_value t
  unfolding decimal_value_from
  next = sym (ap (decimal_value_from x) (drop-cons t i 0 at)) ∙ h.value

  pub too_large : 2 ^ 64 ≤ 10 * x + (get_or t i 0 - 48) → None ≡ limit_of t
  unfolding is_limit fits
  too_large e =
      let large : 2 ^ 64 ≤ decimal_value t = omega (next, grows (10 * x + (get_or t i 0 - 48)) (drop (suc i) t), e, arith) in
      no_limit t (ap (λ s. not (is_empty t) && all_of is_digit t && s) (le-ltb _ _ large) ∙ and_third (not (is_empty t)) (all_of is_digit t))

  pub read_digit : is_digit (get_or t i 0) ≡ true → 10 * x + (get_or t i 0 - 48) < 2 ^ 64 → ReadTo t (suc i) (10 * x + (get_or t i 0 - 48))
  unfolding all_of
  read_digit d e =
      record {
        not_empty = h.not_empty;
        digits = sym (ap (◌&& all_of is_digit (drop (suc i) t)) d) ∙ sym (ap (all_of is_digit) (drop-cons t i 0 at)) ∙ h.digits;
        value = next;
        fits = e;
      }

full_not_empty : (t : List ℕ) → length t ≢ 0 → is_empty t ≡ false
full_not_empty [] n = absurd (n refl)
full_not_empty (x ∷ xs) n = refl

-- all are read
pub read_all : {t : List ℕ} {i x : ℕ} → ReadTo t i x → length t ≤ i → Some x ≡ limit_of t
unfolding limit_of is_limit fits all_of decimal_value_from
read_all {t = t} {x = x} h e =
    let over = drop_of_length-le t e in
    let digits : all_of is_digit t ≡ true = sym h.digits ∙ ap (all_of is_digit) over in
    let value : decimal_value t ≡ x = sym h.value ∙ ap (decimal_value_from x) over in
    sym (rw (full_not_empty t h.not_empty, digits, value, lt-ltb x (2 ^ 64) h.fits))
