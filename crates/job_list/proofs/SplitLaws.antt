-- A list split at a byte c: the first text ends at the first c, or is all. Then the lines of a job list, from an index
-- on. Not here: the parts of a line (LineLaws). Assumes nothing.
use Prim.Native.Nat.{ℕ, suc, ◌+◌, ◌-◌, ◌≤◌, ◌<◌}
use native.Mathlib.Omega.{arith}
use mathlib.Core.Path.{◌≡◌, refl, sym, ap, ◌∙◌}
use mathlib.Core.Bool.{Bool, true, false}
use mathlib.Core.List.{List, [], ◌∷◌}
use lib.ListN.{length, take, drop, length-drop, drop_of_length-le}
use lib.Seq.{length-take-le, take-length, take_all, take-nil, drop-drop, slice}
use lib.Dec.{ltb, eqb}
use borrow.Author.Tests.{ltb-true, ltb-false}
use Rattle.job_list.specs.Find.{index_after, index_of}
use Rattle.job_list.specs.JobList.{in_front, split, list_lines, first_or_empty, list_line_at}

pub index_nil : (c : ℕ) → index_of c [] ≡ 0
unfolding index_of
index_nil c = refl

-- the first c is the first byte, or it stands behind it
pub data Head (c x : ℕ) (xs : List ℕ) : Type 0 where
  here : eqb x c ≡ true → index_of c (x ∷ xs) ≡ 0 → Head c x xs
  later : eqb x c ≡ false → index_of c (x ∷ xs) ≡ suc (index_of c xs) → Head c x xs

pub head : (c x : ℕ) (xs : List ℕ) → Head c x xs
unfolding index_of index_after
head c x xs = go (eqb x c) refl
  where
    go : (t : Bool) → eqb x c ≡ t → Head c x xs
    go true e = here e (ap (λ t. index_after t (index_of c xs)) e)
    go false e = later e (ap (λ t. index_after t (index_of c xs)) e)

pub index_le : (c : ℕ) (xs : List ℕ) → index_of c xs ≤ length xs
unfolding index_of
index_le c [] = omega arith
index_le c (x ∷ xs) = go (head c x xs) (index_le c xs)
  where
    go : Head c x xs → index_of c xs ≤ length xs → index_of c (x ∷ xs) ≤ suc (length xs)
    go (here t e) h = omega (e, arith)
    go (later t e) h = omega (e, h, arith)

-- the first text, where a c closes it
pub split_closed :
    (c : ℕ) (last : List (List ℕ)) (xs : List ℕ)
    → index_of c xs < length xs
    → split c last xs ≡ take (index_of c xs) xs ∷ split c last (drop (suc (index_of c xs)) xs)
unfolding split
split_closed c last [] h = absurd (omega (h, arith))
split_closed c last (x ∷ xs) h = go (head c x xs) (split_closed c last xs)
  where
    go :
        Head c x xs
        → (index_of c xs < length xs → split c last xs ≡ take (index_of c xs) xs ∷ split c last (drop (suc (index_of c xs)) xs))
        → split c last (x ∷ xs) ≡ take (index_of c (x ∷ xs)) (x ∷ xs) ∷ split c last (drop (suc (index_of c (x ∷ xs))) (x ∷ xs))
    go (here t e) ih = rw (t, e)
    go (later t e) ih = rw (t, e) (ap (in_front x) (ih (omega (e, h, arith))))

-- no c closes it: all is one text, whether `last` is no text or an empty one
split_unclosed :
    (c : ℕ) (last : List (List ℕ)) (x : ℕ) (xs : List ℕ)
    → ((b : ℕ) → in_front b last ≡ (b ∷ []) ∷ [])
    → index_of c (x ∷ xs) ≡ length (x ∷ xs)
    → split c last (x ∷ xs) ≡ (x ∷ xs) ∷ []
unfolding split
split_unclosed c last x [] f h = go (head c x [])
  where
    go : Head c x [] → split c last (x ∷ []) ≡ (x ∷ []) ∷ []
    go (here t e) = absurd (omega (e, h, arith))
    go (later t e) = rw t (f x)
split_unclosed c last x (y ∷ ys) f h = go (head c x (y ∷ ys)) (split_unclosed c last y ys f)
  where
    go :
        Head c x (y ∷ ys)
        → (index_of c (y ∷ ys) ≡ suc (length ys) → split c last (y ∷ ys) ≡ (y ∷ ys) ∷ [])
        → split c last (x ∷ y ∷ ys) ≡ (x ∷ y ∷ ys) ∷ []
    go (here t e) ih = absurd (omega (e, h, arith))
    go (later t e) ih = rw t (ap (in_front x) (ih (omega (e, h, arith))))

-- a part, and a line that is not empty
pub split_none : (c : ℕ) (xs : List ℕ) → index_of c xs ≡ length xs → split c ([] ∷ []) xs ≡ xs ∷ []
unfolding split
split_none c [] e = refl
split_none c (x ∷ xs) h = split_unclosed c ([] ∷ []) x xs (λ b. refl) h

pub split_last : (c x : ℕ) (xs : List ℕ) → index_of c (x ∷ xs) ≡ length (x ∷ xs) → split c [] (x ∷ xs) ≡ (x ∷ xs) ∷ []
split_last c x xs = split_unclosed c [] x xs (λ b. refl)

-- what `find` says of a whole list, from an index on
pub found : (c at : ℕ) (xs : List ℕ) (r : ℕ) → r ≡ at + index_of c (slice at (length xs) xs) → r ≡ at + index_of c (drop at xs)
found c at xs r e = e ∙ ap (λ ys. at + index_of c (drop at ys)) (take-length xs)

-- the first line ends at the first line feed, or at the end
pub first_line :
    (ys : List ℕ) → 0 < length ys → list_lines ys ≡ take (index_of 10 ys) ys ∷ list_lines (drop (suc (index_of 10 ys)) ys)
unfolding split
first_line [] h = absurd (omega (h, arith))
first_line (y ∷ ys) h = go (ltb (index_of 10 (y ∷ ys)) (length (y ∷ ys))) refl
  where
    go :
        (t : Bool)
        → ltb (index_of 10 (y ∷ ys)) (length (y ∷ ys)) ≡ t
        → list_lines (y ∷ ys) ≡ take (index_of 10 (y ∷ ys)) (y ∷ ys) ∷ list_lines (drop (suc (index_of 10 (y ∷ ys))) (y ∷ ys))
    go true t = split_closed 10 [] (y ∷ ys) (ltb-true _ _ t)
    go false t =
        let to : length (y ∷ ys) ≤ index_of 10 (y ∷ ys) = ltb-false _ _ t in
        let all : index_of 10 (y ∷ ys) ≡ length (y ∷ ys) = omega (index_le 10 (y ∷ ys), to, arith) in
        let over : length (y ∷ ys) ≤ suc (index_of 10 (y ∷ ys)) = omega (all, arith) in
        split_last 10 y ys all
        ∙ ap (◌∷ []) (sym (take_all _ _ to))
        ∙ ap (λ zs. take (index_of 10 (y ∷ ys)) (y ∷ ys) ∷ list_lines zs) (sym (drop_of_length-le (y ∷ ys) over))

-- the lines from an index on
pub lines_from :
    (xs : List ℕ) (at : ℕ)
    → at < length xs
    → list_lines (drop at xs) ≡ take (index_of 10 (drop at xs)) (drop at xs) ∷ list_lines (drop (suc (at + index_of 10 (drop at xs))) xs)
lines_from xs at h =
    let i = index_of 10 (drop at xs) in
    let shift : at + suc i ≡ suc (at + i) = omega arith in
    first_line (drop at xs) (omega (length-drop at xs, h, arith))
    ∙ ap (λ zs. take i (drop at xs) ∷ list_lines zs) (drop-drop (suc i) at xs ∙ ap (λ k. drop k xs) shift)

-- none are left behind the end
pub lines_over : (xs : List ℕ) (at : ℕ) → length xs ≤ at → list_lines (drop at xs) ≡ []
unfolding split
lines_over xs at h = ap list_lines (drop_of_length-le xs h)

-- the line at an index
line_of : (ys : List ℕ) → first_or_empty (list_lines ys) ≡ take (index_of 10 ys) ys
unfolding split
line_of [] = sym (take-nil (index_of 10 []))
line_of (y ∷ ys) = ap first_or_empty (first_line (y ∷ ys) (omega arith))

pub line_found :
    (xs : List ℕ) (at r : ℕ) → r ≡ at + index_of 10 (slice at (length xs) xs) → take (r - at) (drop at xs) ≡ list_line_at xs at
unfolding list_line_at
line_found xs at r e =
    let i : r - at ≡ index_of 10 (drop at xs) = omega (found 10 at xs r e, arith) in
    ap (λ k. take k (drop at xs)) i ∙ sym (line_of (drop at xs))

pub line_over : (xs : List ℕ) (at : ℕ) → length xs ≤ at → [] ≡ list_line_at xs at
unfolding list_line_at
line_over xs at h = ap first_or_empty (sym (lines_over xs at h))

-- the lines behind it, from where `find` stops
pub lines_next :
    (xs : List ℕ) (at r : ℕ)
    → at < length xs
    → r ≡ at + index_of 10 (slice at (length xs) xs)
    → length (list_lines (drop at xs)) ≡ suc (length (list_lines (drop (r + 1) xs)))
lines_next xs at r h e =
    let i : suc (at + index_of 10 (drop at xs)) ≡ r + 1 = omega (found 10 at xs r e, arith) in
    ap length (lines_from xs at h) ∙ ap (λ k. suc (length (list_lines (drop k xs)))) i

-- and from its length
pub lines_step :
    (xs : List ℕ) (at : ℕ)
    → at < length xs
    → list_lines (drop at xs) ≡ list_line_at xs at ∷ list_lines (drop (at + length (list_line_at xs at) + 1) xs)
unfolding list_line_at
lines_step xs at h =
    let i = index_of 10 (drop at xs) in
    let size : length (take i (drop at xs)) ≡ i = length-take-le i (drop at xs) (index_le 10 (drop at xs)) in
    let next : suc (at + i) ≡ at + length (take i (drop at xs)) + 1 = omega (size, arith) in
    lines_from xs at h
    ∙ ap (λ k. take i (drop at xs) ∷ list_lines (drop k xs)) next
    ∙ ap (λ l. l ∷ list_lines (drop (at + length l + 1) xs)) (sym (line_of (drop at xs)))

-- it does not end past the list
pub line_within : (xs : List ℕ) (at : ℕ) → at < length xs → at + length (list_line_at xs at) ≤ length xs
unfolding list_line_at
line_within xs at h =
    let i = index_of 10 (drop at xs) in
    let le : i ≤ length (drop at xs) = index_le 10 (drop at xs) in
    let size : length (first_or_empty (list_lines (drop at xs))) ≡ i = ap length (line_of (drop at xs)) ∙ length-take-le i (drop at xs) le in
    omega (size, le, length-drop at xs, h, arith)
