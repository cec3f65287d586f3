-- A list line in document 02's words. Assumes nothing.
use Rattle.std.specs.Prelude.{ℕ, ◌≤◌, ◌<◌, ◌^◌, ◌≡◌, ◌≢◌, List, [], ◌∷◌, ◌++◌}
use Rattle.formula.specs.Formula.{◌∈◌}
use Rattle.job_list.specs.JobList.{decimal_value, Job}

-- one or more decimal digits, under 2^64
pub record IsLimit (t : List ℕ) : Type 0 where
  pub not_empty : t ≢ []
  pub digits : (b : ℕ) → b ∈ t → (48 ≤ b) × (b ≤ 57)
  pub fits : decimal_value t < 2 ^ 64

-- file name, lower limit, upper limit, parted by one blank; the name is not empty and has no blank or byte 0
pub record ListLine (line name lower upper : List ℕ) : Type 0 where
  pub parted : line ≡ name ++ 32 ∷ lower ++ 32 ∷ upper
  pub named : name ≢ []
  pub no_blank : ¬ (32 ∈ name)
  pub no_zero : ¬ (0 ∈ name)
  pub lower_limit : IsLimit lower
  pub upper_limit : IsLimit upper

-- the line is of this form, and the job has its name and the numbers that its two limits are
pub record Gives (line : List ℕ) (j : Job) : Type 0 where
  pub lower_text : List ℕ
  pub upper_text : List ℕ
  pub of_form : ListLine line j.name lower_text upper_text
  pub lower_is : j.lower ≡ decimal_value lower_text
  pub upper_is : j.upper ≡ decimal_value upper_text
