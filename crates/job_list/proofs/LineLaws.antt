-- What a line gives: a name, a limit, and all three parts. Assumes nothing.
use Prim.Native.Nat.{ℕ, suc, ◌+◌, ◌-◌, ◌≤◌, ◌<◌}
use native.Mathlib.Omega.{arith}
use native.Mathlib.Numerals.{add-one}
use mathlib.Core.Path.{◌≡◌, refl, sym, ap, ◌∙◌}
use mathlib.Core.Bool.{Bool, true, false, cond, not, ◌&&◌, and-false}
use mathlib.Core.List.{List, [], ◌∷◌}
use mathlib.Core.Logic.{◌≢◌}
use Rattle.std.specs.Prelude.{Option, None, Some}
use lib.ListN.{length, take, drop, length-drop}
use lib.Seq.{take_all, drop-drop, slice}
use lib.Dec.{ltb, eqb, eqb-zero-suc, eqb-suc-suc}
use borrow.Author.Tests.{ltb-true, ltb-false, eqb-true, eqb-false, eq-eqb, ne_eqb}
use Rattle.job_list.specs.Find.{index_of}
use Rattle.formula.specs.Formula.{some_of, all_of, member}
use Rattle.job_list.specs.JobList.{in_front, split, parts, is_name, is_digit, limit_of, Job, with_limits, job_by, job_of}
use Rattle.job_list.proofs.LimitLaws.{below_digits, not_digits}
use Rattle.job_list.proofs.SplitLaws.{index_nil, Head, here, later, head, index_le, split_closed, split_none, found}

pub empty_name : (t : List ℕ) → length t ≡ 0 → false ≡ is_name t
unfolding is_name
empty_name [] e = refl
empty_name (x ∷ xs) e = absurd (omega (e, arith))

-- no 0 stands in a text exactly where its first 0 is past the end
no_zero : (t : List ℕ) → eqb (index_of 0 t) (length t) ≡ not (member 0 t)
unfolding some_of
no_zero [] = ap (λ i. eqb i 0) (index_nil 0)
no_zero (x ∷ xs) = go (head 0 x xs) (no_zero xs)
  where
    go : Head 0 x xs → eqb (index_of 0 xs) (length xs) ≡ not (member 0 xs) → eqb (index_of 0 (x ∷ xs)) (suc (length xs)) ≡ not (member 0 (x ∷ xs))
    go (here t e) ih = rw (e, eqb-zero-suc (length xs), eq-eqb 0 x (sym (eqb-true x 0 t)))
    go (later t e) ih = rw (e, eqb-suc-suc (index_of 0 xs) (length xs), ne_eqb 0 x (λ z. eqb-false x 0 t (sym z))) ih

pub name_by_index : (t : List ℕ) (r : ℕ) → length t ≢ 0 → r ≡ 0 + index_of 0 (slice 0 (length t) t) → eqb r (length t) ≡ is_name t
unfolding is_name
name_by_index [] r n e = absurd (n refl)
name_by_index (x ∷ xs) r n e =
    let i : r ≡ index_of 0 (x ∷ xs) = omega (found 0 0 (x ∷ xs) r e, arith) in
    ap (λ k. eqb k (length (x ∷ xs))) i ∙ no_zero (x ∷ xs)

-- a text with a blank is no limit
blank_no_digit : (xs : List ℕ) → index_of 32 xs < length xs → all_of is_digit xs ≡ false
unfolding all_of
blank_no_digit [] h = absurd (omega (h, arith))
blank_no_digit (x ∷ xs) h = go (head 32 x xs) (blank_no_digit xs)
  where
    go : Head 32 x xs → (index_of 32 xs < length xs → all_of is_digit xs ≡ false) → is_digit x && all_of is_digit xs ≡ false
    go (here t e) ih = ap (λ y. is_digit y && all_of is_digit xs) (eqb-true x 32 t) ∙ ap (◌&& all_of is_digit xs) (below_digits 32 (omega arith))
    go (later t e) ih = ap (is_digit x &&◌) (ih (omega (e, h, arith))) ∙ and-false (is_digit x)

blank_no_limit : (t : List ℕ) → index_of 32 t < length t → limit_of t ≡ None
blank_no_limit t h = sym (not_digits t (blank_no_digit t h))

-- a line has a part
abbrev HasPart : List (List ℕ) → Type 0
HasPart ts = (p : List ℕ) × ((ps : List (List ℕ)) × (ts ≡ p ∷ ps))

some_part : (xs : List ℕ) → HasPart (parts xs)
unfolding split
some_part [] = ([], ([], refl))
some_part (x ∷ xs) = go (eqb x 32) refl (some_part xs)
  where
    go : (t : Bool) → eqb x 32 ≡ t → HasPart (parts xs) → HasPart (cond (eqb x 32) ([] ∷ parts xs) (in_front x (parts xs)))
    go true t ih = ([], (parts xs, rw t))
    go false t (p, (ps, e)) = (x ∷ p, (ps, rw t (ap (in_front x) e)))

no_upper : (name : List ℕ) (lower : Option ℕ) → with_limits name lower None ≡ None
no_upper name None = refl
no_upper name (Some x) = refl

no_job : (t : Bool) {j : Option Job} → j ≡ None → cond t j None ≡ None
no_job true e = e
no_job false e = refl

-- what stands behind the second blank is one part, or no limit
pub last_part :
    (name lower upper : List ℕ)
    → job_by (name ∷ lower ∷ parts upper) ≡ cond (is_name name) (with_limits name (limit_of lower) (limit_of upper)) None
last_part name lower upper = go (ltb (index_of 32 upper) (length upper)) refl
  where
    go :
        (t : Bool)
        → ltb (index_of 32 upper) (length upper) ≡ t
        → job_by (name ∷ lower ∷ parts upper) ≡ cond (is_name name) (with_limits name (limit_of lower) (limit_of upper)) None
    go true t =
        let at : index_of 32 upper < length upper = ltb-true _ _ t in
        let (p, (ps, e)) = some_part (drop (suc (index_of 32 upper)) upper) in
        ap (λ ts. job_by (name ∷ lower ∷ ts)) (split_closed 32 ([] ∷ []) upper at ∙ ap (take (index_of 32 upper) upper ∷◌) e)
        ∙ sym (no_job (is_name name) (ap (with_limits name (limit_of lower)) (blank_no_limit upper at) ∙ no_upper name (limit_of lower)))
    go false t =
        let to : length upper ≤ index_of 32 upper = ltb-false _ _ t in
        ap (λ ts. job_by (name ∷ lower ∷ ts)) (split_none 32 upper (omega (index_le 32 upper, to, arith)))

-- all from an index on, as a part of a slice
from_index : (l : List ℕ) (m : ℕ) → take (length l - m) (drop m l) ≡ drop m l
from_index l m =
    let all : length (drop m l) ≤ length l - m = omega (length-drop m l, arith) in
    take_all (length l - m) (drop m l) all

-- a part that a blank closes
closed_at : (xs : List ℕ) (j : ℕ) → j ≡ index_of 32 xs → j < length xs → parts xs ≡ take j xs ∷ parts (drop (j + 1) xs)
closed_at xs j e h =
    split_closed 32 ([] ∷ []) xs (omega (e, h, arith))
    ∙ ap (λ m. take m xs ∷ parts (drop (suc m) xs)) (sym e)
    ∙ ap (λ m. take j xs ∷ parts (drop m xs)) (sym (add-one j))

-- where `find` stops in a line, the first time and the second
module _ (l : List ℕ) (i : ℕ) (first : i ≡ 0 + index_of 32 (slice 0 (length l) l)) where
  at_first : i ≡ index_of 32 l
  at_first = omega (found 32 0 l i first, arith)

  -- no blank
  pub one_part : i ≡ length l → None ≡ job_of l
  unfolding job_of
  one_part e = sym (ap job_by (split_none 32 l (sym at_first ∙ e)))

  module _ (has : i < length l) (k : ℕ) (second : k ≡ i + 1 + index_of 32 (slice (i + 1) (length l) l)) where
    -- what stands behind the first
    abbrev rest : List ℕ
    rest = drop (i + 1) l

    at_second : k ≡ i + 1 + index_of 32 rest
    at_second = found 32 (i + 1) l k second

    -- one blank
    pub two_parts : k ≡ length l → None ≡ job_of l
    unfolding job_of
    two_parts e =
        let all : index_of 32 rest ≡ length rest = omega (at_second, e, length-drop (i + 1) l, arith) in
        sym (ap job_by (closed_at l i at_first has ∙ ap (take i l ∷◌) (split_none 32 rest all)))

    -- two blanks
    module _ (more : k < length l) where
      abbrev name : List ℕ
      name = take i l

      abbrev lower : List ℕ
      lower = take (k - (i + 1)) rest

      abbrev upper : List ℕ
      upper = take (length l - (k + 1)) (drop (k + 1) l)

      three_parts : job_of l ≡ cond (is_name name) (with_limits name (limit_of lower) (limit_of upper)) None
      unfolding job_of
      three_parts =
          let j : k - (i + 1) ≡ index_of 32 rest = omega (at_second, arith) in
          let under : k - (i + 1) < length rest = omega (at_second, more, length-drop (i + 1) l, arith) in
          let shift : i + 1 + (k - (i + 1) + 1) ≡ k + 1 = omega (at_second, arith) in
          let behind : drop (k - (i + 1) + 1) rest ≡ upper =
          drop-drop (k - (i + 1) + 1) (i + 1) l ∙ ap (λ m. drop m l) shift ∙ sym (from_index l (k + 1)) in
          ap job_by
          (closed_at l i at_first has
          ∙ ap (name ∷◌) (closed_at rest (k - (i + 1)) j under)
          ∙ ap (λ r. name ∷ lower ∷ parts r) behind)
          ∙ last_part name lower upper

      pub unnamed : is_name name ≡ false → None ≡ job_of l
      unnamed e = sym (three_parts ∙ ap (λ t. cond t (with_limits name (limit_of lower) (limit_of upper)) None) e)

      pub without_lower : limit_of lower ≡ None → None ≡ job_of l
      without_lower e = sym (three_parts ∙ no_job (is_name name) (ap (λ x. with_limits name x (limit_of upper)) e))

      pub without_upper : limit_of upper ≡ None → None ≡ job_of l
      without_upper e =
          sym (three_parts ∙ no_job (is_name name) (ap (with_limits name (limit_of lower)) e ∙ no_upper name (limit_of lower)))

      pub complete :
          (x y : ℕ)
          → is_name name ≡ true
          → limit_of lower ≡ Some x
          → limit_of upper ≡ Some y
          → Some (record { name = name; lower = x; upper = y }) ≡ job_of l
      complete x y e lo hi = sym (three_parts ∙ rw (e, lo, hi))
