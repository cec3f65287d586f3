-- The job list in document 02's words. A list at its first byte c; the lines of a list; a name and a limit as
-- statements; a list line and the job that it gives (list_line_iff, other_form_iff). Last, computed examples.
-- Assumes nothing.
use Prim.Native.Nat.{ℕ, suc, ◌≤◌}
use Prim.Native.String.{String}
use native.Mathlib.Omega.{arith}
use mathlib.Core.Path.{◌≡◌, refl, sym, ap, ◌∙◌}
use mathlib.Core.Bool.{Bool, true, false, cond, not, ◌&&◌, false≢true}
use mathlib.Core.List.Memᴰ
use mathlib.Core.List.{List, [], ◌∷◌, ◌++◌, cons≢nil, append_assoc}
use mathlib.Core.Logic.{◌≢◌, ◌⊎◌, inl, inr, ◌↔◌}
use Rattle.std.specs.Prelude.{Option, None, Some, unwrap_or}
use Rattle.std.proofs.lemmas.Option.{none-some}
use lib.ListN.{length}
use lib.Dec.{leb, eqb}
use borrow.Author.Tests.{ltb-true, leb-true, eqb-true, eqb-false, lt-ltb, eq-eqb, ne_eqb, not-true}
use Rattle.job_list.specs.Find.{index_of}
use Rattle.formula.specs.Formula.{◌∈◌, some_of, all_of, member, is_empty}
use Rattle.formula.proofs.Membership.{and_iff, all_of_iff, not_member_iff}
use Rattle.buffer.specs.Text.{ascii}
use Rattle.job_list.specs.JobList.{in_front, split, list_lines, parts, is_name, is_digit, decimal_value_from, decimal_value, fits, is_limit, limit_of, Job, with_limits, job_by, job_of}
use Rattle.job_list.specs.ListLine.{IsLimit, ListLine, Gives}
use Rattle.job_list.proofs.LimitLaws.{digit}
use Rattle.job_list.proofs.LineLaws.{last_part}
use Rattle.job_list.proofs.SplitLaws.{Head, here, later, head, split_none, split_last}

-- a list has no c, or a first one
data First (c : ℕ) (xs : List ℕ) : Type 0 where
  nowhere : ¬ (c ∈ xs) → First c xs
  behind : (l rest : List ℕ) → xs ≡ l ++ c ∷ rest → ¬ (c ∈ l) → First c xs

not_in_cons : {c x : ℕ} {xs : List ℕ} → c ≢ x → ¬ (c ∈ xs) → ¬ (c ∈ x ∷ xs)
not_in_cons d n (Memᴰ.head e) = d e
not_in_cons d n (Memᴰ.tail m) = n m

first : (c : ℕ) (xs : List ℕ) → First c xs
first c [] = nowhere Memᴰ.not-nil
first c (x ∷ xs) = go (eqb x c) refl (first c xs)
  where
    go : (t : Bool) → eqb x c ≡ t → First c xs → First c (x ∷ xs)
    go true t f = behind [] xs (ap (◌∷ xs) (eqb-true x c t)) Memᴰ.not-nil
    go false t (nowhere n) = nowhere (not_in_cons (λ e. eqb-false x c t (sym e)) n)
    go false t (behind l rest e n) = behind (x ∷ l) rest (ap (x ∷◌) e) (not_in_cons (λ d. eqb-false x c t (sym d)) n)

-- the first text is what stands before it
split_first :
    (c : ℕ) (last : List (List ℕ)) (l rest : List ℕ) → ¬ (c ∈ l) → split c last (l ++ c ∷ rest) ≡ l ∷ split c last rest
unfolding split
split_first c last [] rest n = rw (eq-eqb c c refl)
split_first c last (x ∷ xs) rest n =
    let ih = split_first c last xs rest (λ m. n (Memᴰ.tail m)) in
    rw (ne_eqb x c (λ e. n (Memᴰ.head (sym e)))) (ap (in_front x) ih)

-- where there is none, its index is past the end
index_absent : (c : ℕ) (xs : List ℕ) → ¬ (c ∈ xs) → index_of c xs ≡ length xs
unfolding index_of
index_absent c [] n = refl
index_absent c (x ∷ xs) n = go (head c x xs) (index_absent c xs (λ m. n (Memᴰ.tail m)))
  where
    go : Head c x xs → index_of c xs ≡ length xs → index_of c (x ∷ xs) ≡ suc (length xs)
    go (here t e) ih = absurd (n (Memᴰ.head (sym (eqb-true x c t))))
    go (later t e) ih = e ∙ ap suc ih

-- the lines: none of no bytes; what a line feed closes; what the end closes, where it is not empty
pub no_line : list_lines [] ≡ []
unfolding split
no_line = refl

pub closed_line : (l rest : List ℕ) → ¬ (10 ∈ l) → list_lines (l ++ 10 ∷ rest) ≡ l ∷ list_lines rest
closed_line = split_first 10 []

pub last_line : (l : List ℕ) → l ≢ [] → ¬ (10 ∈ l) → list_lines l ≡ l ∷ []
last_line [] d n = absurd (d refl)
last_line (x ∷ xs) d n = split_last 10 x xs (index_absent 10 (x ∷ xs) n)

-- every list is one of these three
pub lines_cases :
    (b : List ℕ)
    → (b ≡ []) ⊎ ((l : List ℕ) × (rest : List ℕ) × (b ≡ l ++ 10 ∷ rest) × (¬ (10 ∈ l))) ⊎ ((b ≢ []) × (¬ (10 ∈ b)))
lines_cases [] = inl refl
lines_cases (x ∷ xs) = inr (go (first 10 (x ∷ xs)))
  where
    go :
        First 10 (x ∷ xs)
        → ((l : List ℕ) × (rest : List ℕ) × (x ∷ xs ≡ l ++ 10 ∷ rest) × (¬ (10 ∈ l))) ⊎ ((x ∷ xs ≢ []) × (¬ (10 ∈ x ∷ xs)))
    go (nowhere n) = inr (cons≢nil, n)
    go (behind l rest e n) = inl (l, rest, e, n)

-- a text that is not empty, as a test
not_empty_iff : (t : List ℕ) → (not (is_empty t) ≡ true) ↔ (t ≢ [])
not_empty_iff [] = (λ e. absurd (false≢true e), λ d. absurd (d refl))
not_empty_iff (x ∷ xs) = (λ e. cons≢nil, λ d. refl)

-- a name
name_iff : (t : List ℕ) → (is_name t ≡ true) ↔ ((t ≢ []) × (¬ (0 ∈ t)))
unfolding is_name
name_iff t = (
  λ e.
      let (full, no_zero) = (and_iff (not (is_empty t)) (not (member 0 t))).0 e in
      ((not_empty_iff t).0 full, (not_member_iff 0 t).0 (not-true _ no_zero)),
  λ n. rw ((not_empty_iff t).1 n.0, (not_member_iff 0 t).1 n.1),
)

-- a digit
digit_iff : (b : ℕ) → (is_digit b ≡ true) ↔ ((48 ≤ b) × (b ≤ 57))
unfolding is_digit
digit_iff b = (
  λ e. let (lo, hi) = (and_iff (leb 48 b) (leb b 57)).0 e in (leb-true _ _ lo, leb-true _ _ hi),
  λ d. digit b d.0 d.1,
)

-- a limit
is_limit_iff : (t : List ℕ) → (is_limit t ≡ true) ↔ IsLimit t
unfolding is_limit fits
is_limit_iff t = (to, of)
  where
    to : is_limit t ≡ true → IsLimit t
    to e =
        let (front, small) = (and_iff (not (is_empty t) && all_of is_digit t) (fits t)).0 e in
        let (full, digits) = (and_iff (not (is_empty t)) (all_of is_digit t)).0 front in
        record {
          not_empty = (not_empty_iff t).0 full;
          digits = λ b m. (digit_iff b).0 ((all_of_iff is_digit t).0 digits b m);
          fits = ltb-true _ _ small;
        }

    of : IsLimit t → is_limit t ≡ true
    of h =
        let digits : all_of is_digit t ≡ true = (all_of_iff is_digit t).1 (λ b m. (digit_iff b).1 (h.digits b m)) in
        rw ((not_empty_iff t).1 h.not_empty, digits, lt-ltb _ _ h.fits)

-- the number that it is
limit_iff : (t : List ℕ) (x : ℕ) → (limit_of t ≡ Some x) ↔ (IsLimit t × (x ≡ decimal_value t))
unfolding limit_of
limit_iff t x = (go (is_limit t) refl, λ h. rw ((is_limit_iff t).1 h.0, h.1))
  where
    go : (s : Bool) → is_limit t ≡ s → cond s (Some (decimal_value t)) None ≡ Some x → IsLimit t × (x ≡ decimal_value t)
    go true s e = ((is_limit_iff t).0 s, sym (ap (λ o. unwrap_or o x) e))
    go false s e = absurd (none-some x e)

-- a line by its blanks: none, one, more, where what stands behind the second is one part or no limit
no_blanks : (line : List ℕ) → ¬ (32 ∈ line) → job_of line ≡ None
unfolding job_of
no_blanks line n = ap job_by (split_none 32 line (index_absent 32 line n))

module _ (name : List ℕ) (n : ¬ (32 ∈ name)) where
  one_blank : (lower : List ℕ) → ¬ (32 ∈ lower) → job_of (name ++ 32 ∷ lower) ≡ None
  unfolding job_of
  one_blank lower k =
      ap job_by (split_first 32 ([] ∷ []) name lower n ∙ ap (name ∷◌) (split_none 32 lower (index_absent 32 lower k)))

  two_blanks :
      (lower upper : List ℕ)
      → ¬ (32 ∈ lower)
      → job_of (name ++ 32 ∷ lower ++ 32 ∷ upper)
      ≡ cond (is_name name) (with_limits name (limit_of lower) (limit_of upper)) None
  unfolding job_of
  two_blanks lower upper k =
      ap job_by
      (ap parts (append_assoc name (32 ∷ lower) (32 ∷ upper))
      ∙ split_first 32 ([] ∷ []) name (lower ++ 32 ∷ upper) n
      ∙ ap (name ∷◌) (split_first 32 ([] ∷ []) lower upper k))
      ∙ last_part name lower upper

-- what three parts are, where they give a job
given :
    (name : List ℕ) (t : Bool) (x y : Option ℕ) (j : Job)
    → cond t (with_limits name x y) None ≡ Some j
    → (t ≡ true) × (name ≡ j.name) × (x ≡ Some j.lower) × (y ≡ Some j.upper)
given name true (Some x) (Some y) j e =
    let job = ap (λ o. unwrap_or o j) e in
    (refl, ap (λ i. i.name) job, ap (λ i. Some i.lower) job, ap (λ i. Some i.upper) job)
given name true (Some x) None j e = absurd (none-some j e)
given name true None y j e = absurd (none-some j e)
given name false x y j e = absurd (none-some j e)

-- a line that gives a job is of the form
module _ (line : List ℕ) (j : Job) (e : job_of line ≡ Some j) where
  of_parts :
      (name lower upper : List ℕ)
      → line ≡ name ++ 32 ∷ lower ++ 32 ∷ upper
      → ¬ (32 ∈ name)
      → ¬ (32 ∈ lower)
      → Gives line j
  of_parts name lower upper p n k =
      let job = sym (two_blanks name n lower upper k) ∙ sym (ap job_of p) ∙ e in
      let (named, same, low, high) = given name (is_name name) (limit_of lower) (limit_of upper) j job in
      let (full, no_zero) = (name_iff name).0 named in
      let (is_lower, lower_is) = (limit_iff lower j.lower).0 low in
      let (is_upper, upper_is) = (limit_iff upper j.upper).0 high in
      let form : ListLine line name lower upper =
      record {
        parted = p;
        named = full;
        no_blank = n;
        no_zero = no_zero;
        lower_limit = is_lower;
        upper_limit = is_upper;
      } in
      record {
        lower_text = lower;
        upper_text = upper;
        of_form = rw same at form;
        lower_is = lower_is;
        upper_is = upper_is;
      }

  gives : Gives line j
  gives = go (first 32 line)
    where
      more : (name rest : List ℕ) → line ≡ name ++ 32 ∷ rest → ¬ (32 ∈ name) → First 32 rest → Gives line j
      more name rest p n (nowhere k) =
          absurd (none-some j (sym (one_blank name n rest k) ∙ sym (ap job_of p) ∙ e))
      more name rest p n (behind lower upper q k) =
          let parted = p ∙ ap (λ r. name ++ 32 ∷ r) q ∙ sym (append_assoc name (32 ∷ lower) (32 ∷ upper)) in
          of_parts name lower upper parted n k

      go : First 32 line → Gives line j
      go (nowhere n) = absurd (none-some j (sym (no_blanks line n) ∙ e))
      go (behind name rest p n) = more name rest p n (first 32 rest)

-- a line of the form gives its job: no blank is a digit
given_by : {line : List ℕ} {j : Job} → Gives line j → job_of line ≡ Some j
given_by {line} {j} g =
    let lower = g.lower_text in
    let upper = g.upper_text in
    let form = g.of_form in
    let apart : ¬ (32 ∈ lower) = λ m. absurd (omega ((form.lower_limit.digits 32 m).0, arith)) in
    let named : is_name j.name ≡ true = (name_iff j.name).1 (form.named, form.no_zero) in
    let low : limit_of lower ≡ Some j.lower = (limit_iff lower j.lower).1 (form.lower_limit, g.lower_is) in
    let high : limit_of upper ≡ Some j.upper = (limit_iff upper j.upper).1 (form.upper_limit, g.upper_is) in
    ap job_of form.parted ∙ two_blanks j.name form.no_blank lower upper apart ∙ rw (named, low, high)

-- a line gives a job exactly where document 02 says so, and none where it says so of no job
pub list_line_iff : (line : List ℕ) (j : Job) → (job_of line ≡ Some j) ↔ Gives line j
list_line_iff line j = (gives line j, given_by)

pub other_form_iff : (line : List ℕ) → (job_of line ≡ None) ↔ ((j : Job) → ¬ Gives line j)
other_form_iff line = (λ e j g. none-some j (sym e ∙ given_by g), go (job_of line) refl)
  where
    go : (o : Option Job) → job_of line ≡ o → ((j : Job) → ¬ Gives line j) → o ≡ None
    go None e h = refl
    go (Some j) e h = absurd (h j (gives line j e))

-- Computed examples. A job by its three parts.
abbrev job : String → ℕ → ℕ → Option Job
job name lower upper = Some (record { name = ascii name; lower = lower; upper = upper })

-- an empty last line is no line; an empty line that a line feed closes is one
pub example_lines :
    (list_lines (ascii "") ≡ [])
    × (list_lines (ascii "\n") ≡ [] ∷ [])
    × (list_lines (ascii "\n\n") ≡ [] ∷ [] ∷ [])
    × (list_lines (ascii "x") ≡ ascii "x" ∷ [])
    × (list_lines (ascii "x\n") ≡ ascii "x" ∷ [])
    × (list_lines (ascii "x\ny") ≡ ascii "x" ∷ ascii "y" ∷ [])
    × (list_lines (ascii "x\n\ny") ≡ ascii "x" ∷ [] ∷ ascii "y" ∷ [])
unfolding split ascii
example_lines = (refl, refl, refl, refl, refl, refl, refl)

-- noughts may lead; 2^64 - 1 is the largest limit; a name may have bytes that are neither letters nor digits
pub example_jobs :
    (job_of (ascii "a 0 12") ≡ job "a" 0 12)
    × (job_of (ascii "a 0 00000000000000000000000000000012") ≡ job "a" 0 12)
    × (job_of (ascii "a 18446744073709551615 0") ≡ job "a" 18446744073709551615 0)
    × (job_of (ascii "-\t1\r 1 0") ≡ job "-\t1\r" 1 0)
unfolding job_of split is_name limit_of is_limit fits is_digit decimal_value decimal_value_from some_of all_of ascii
example_jobs = (refl, refl, refl, refl)

-- too few parts or too many; an empty part; no name; a byte 0 in the name; 2^64; other bytes than digits in a limit
pub example_others :
    (job_of (ascii "") ≡ None)
    × (job_of (ascii "a 0") ≡ None)
    × (job_of (ascii "a 0 1 2") ≡ None)
    × (job_of (ascii "a  0 1") ≡ None)
    × (job_of (ascii "a  1") ≡ None)
    × (job_of (ascii "a 0 1 ") ≡ None)
    × (job_of (ascii " 0 1") ≡ None)
    × (job_of (ascii "\0 0 1") ≡ None)
    × (job_of (ascii "a 0 18446744073709551616") ≡ None)
    × (job_of (ascii "a 0 1\r") ≡ None)
    × (job_of (ascii "a -1 1") ≡ None)
    × (job_of (ascii "a\t0 1") ≡ None)
unfolding job_of split is_name limit_of is_limit fits is_digit decimal_value decimal_value_from some_of all_of ascii
example_others = (refl, refl, refl, refl, refl, refl, refl, refl, refl, refl, refl, refl)
