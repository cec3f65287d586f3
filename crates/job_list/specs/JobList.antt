-- Document 02's job list: its lines, and what each gives. Assumes nothing.
use Rattle.std.specs.Prelude.{ℕ, ◌+◌, ◌-◌, ◌*◌, ◌^◌, Bool, cond, not, ◌&&◌, List, [], ◌∷◌, length, drop, leb, ltb, eqb, Option, None, Some, Ok}
use Rattle.formula.specs.Formula.{all_of, member, is_empty}
use Rattle.answer.specs.Answer.{Answer, refuse_if}
use Rattle.answer.specs.declared.Refusal.TheVariants as refusal
use Rattle.job_list.specs.declared.Job as job

-- a byte in front of the first of some texts
abbrev pub in_front : ℕ → List (List ℕ) → List (List ℕ)
in_front b [] = (b ∷ []) ∷ []
in_front b (t ∷ ts) = (b ∷ t) ∷ ts

-- the texts between bytes c, where `last` stands for nothing behind the last of them
unfoldable pub split : ℕ → List (List ℕ) → List ℕ → List (List ℕ)
split c last [] = last
split c last (b ∷ bs) = cond (eqb b c) ([] ∷ split c last bs) (in_front b (split c last bs))

-- the lines, each closed by byte 10 or by the end; an empty line closed by the end is no line
abbrev pub list_lines : List ℕ → List (List ℕ)
list_lines = split 10 []

-- the parts of a line, parted by one blank
abbrev pub parts : List ℕ → List (List ℕ)
parts = split 32 ([] ∷ [])

-- a name is not empty and has no byte 0; no part has a blank
unfoldable pub is_name : List ℕ → Bool
is_name t = not (is_empty t) && not (member 0 t)

-- the decimal digits
unfoldable pub is_digit : ℕ → Bool
is_digit b = leb 48 b && leb b 57

-- the number that digits are, behind others that are the number x
unfoldable pub decimal_value_from : ℕ → List ℕ → ℕ
decimal_value_from x [] = x
decimal_value_from x (b ∷ bs) = decimal_value_from (10 * x + (b - 48)) bs

unfoldable pub decimal_value : List ℕ → ℕ
decimal_value = decimal_value_from 0

-- under 2^64
unfoldable pub fits : List ℕ → Bool
fits t = ltb (decimal_value t) (2 ^ 64)

-- a limit is one or more decimal digits, under 2^64
unfoldable pub is_limit : List ℕ → Bool
is_limit t = not (is_empty t) && all_of is_digit t && fits t

-- its number; none where it is no limit
unfoldable pub limit_of : List ℕ → Option ℕ
limit_of t = cond (is_limit t) (Some (decimal_value t)) None

-- what a line gives
pub record Job : Type 0 where
  pub name : List ℕ
  pub lower : ℕ
  pub upper : ℕ

-- a name and two limits give a job, if both are limits
abbrev pub with_limits : List ℕ → Option ℕ → Option ℕ → Option Job
with_limits name None upper = None
with_limits name (Some x) None = None
with_limits name (Some x) (Some y) = Some (record { name = name; lower = x; upper = y })

-- file name, lower limit, upper limit
abbrev pub job_by : List (List ℕ) → Option Job
job_by [] = None
job_by (name ∷ []) = None
job_by (name ∷ lower ∷ []) = None
job_by (name ∷ lower ∷ upper ∷ []) = cond (is_name name) (with_limits name (limit_of lower) (limit_of upper)) None
job_by (name ∷ lower ∷ upper ∷ more ∷ rest) = None

-- a line of another form gives none
unfoldable pub job_of : List ℕ → Option Job
job_of line = job_by (parts line)

-- the longest list, in bytes and in lines
abbrev pub max_list_bytes : ℕ
max_list_bytes = 65536

abbrev pub max_list_lines : ℕ
max_list_lines = 4096

-- 24, over 65,536 bytes or over 4,096 lines; else the number of lines
unfoldable pub list_file : List ℕ → Answer ℕ
list_file b =
    refuse_if (ltb max_list_bytes (length b)) refusal.ListTooLong (refuse_if (ltb max_list_lines (length (list_lines b))) refusal.ListTooLong (Ok (length (list_lines b))))

-- the line that begins at an index; empty where there is none
abbrev pub first_or_empty : List (List ℕ) → List ℕ
first_or_empty [] = []
first_or_empty (l ∷ ls) = l

unfoldable pub list_line_at : List ℕ → ℕ → List ℕ
list_line_at b at = first_or_empty (list_lines (drop at b))

-- the job that the code gives, with the bytes of its name
abbrev pub parsed : Option (job.Job) → Option Job
parsed None = None
parsed (Some j) = Some (record { name = j.name.now; lower = j.lower; upper = j.upper })
