-- An answer as a C function hands it over: a number returned, and four numbers stored. Assumes nothing.
use Rattle.std.specs.Prelude.{List, [], ◌∷◌, ℕ, set, Option, None, Some, Err, Ok}
use Rattle.std.proofs.lemmas.List.Edits.{sets}
use Rattle.bounds.specs.declared.Bounds.{Bounds}
use Rattle.answer.specs.Answer.{Answer, number_of, place_of}
use Rattle.value.specs.declared.Ratio.{Ratio}
use Rattle.value.specs.declared.thresholds.Verdict.{Verdict}
use Rattle.value.specs.declared.thresholds.Verdict.TheVariants.{Above, Below, Within}

-- 0 for an answer, else the refusal's number
abbrev pub code : {A : Type 0} → Answer A → ℕ
code (Err r) = number_of r
code (Ok x) = 0

-- out afterwards: an answer's four numbers; a refusal leaves it, and stores the place alone where it names one
abbrev pub placed : Option ℕ → List ℕ → List ℕ
placed None out = out
placed (Some i) out = set out 0 i

abbrev pub filled : {A : Type 0} → (A → List ℕ) → Answer A → List ℕ → List ℕ
filled values (Err r) out = placed (place_of r) out
filled values (Ok x) out = sets out 0 (values x)

abbrev pub ratio_values : Ratio → List ℕ
ratio_values x = x.figure ∷ x.whole ∷ 0 ∷ 0 ∷ []

abbrev pub verdict_values : Verdict → List ℕ
verdict_values Above = 1 ∷ 0 ∷ 0 ∷ 0 ∷ []
verdict_values Below = 2 ∷ 0 ∷ 0 ∷ 0 ∷ []
verdict_values (Within x) = 0 ∷ x ∷ 0 ∷ 0 ∷ []

abbrev pub bounds_values : Bounds → List ℕ
bounds_values x = x.lower ∷ x.upper ∷ x.undetermined ∷ 0 ∷ []

-- four numbers are stored as they are
abbrev pub as_they_are : List ℕ → List ℕ
as_they_are numbers = numbers
