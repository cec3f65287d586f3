-- Document 02's tally: five counts over the results of a list of files. Assumes nothing.
use Rattle.std.specs.Prelude.{ℕ, ◌+◌, Bool, cond, List, [], ◌∷◌, length, leb, eqb, Err, Ok}
use Rattle.formula.specs.Formula.{some_of}
use Rattle.answer.specs.Answer.{Answer}
use Rattle.value.specs.declared.thresholds.Verdict.{Verdict}
use Rattle.value.specs.declared.thresholds.Verdict.TheVariants as verdict_variants
use Rattle.tally.specs.declared.Tally.{Tally}
use Rattle.tally.specs.declared.Kind.{Kind}
use Rattle.tally.specs.declared.Kind.TheVariants.{Refused, Above, Below, Within}

-- the kind of a result, from the verdict's answer
abbrev pub kind_of : Answer Verdict → Kind
kind_of (Err _) = Refused
kind_of (Ok verdict_variants.Above) = Above
kind_of (Ok verdict_variants.Below) = Below
kind_of (Ok (verdict_variants.Within _)) = Within

-- a tally begins with five noughts
abbrev pub begun : Tally
begun = record { files = 0; refused = 0; above = 0; below = 0; within = 0 }

-- the five counts, in document 02's order
abbrev pub counts : Tally → List ℕ
counts t = t.files ∷ t.refused ∷ t.above ∷ t.below ∷ t.within ∷ []

abbrev pub full_count : ℕ
full_count = 4096

-- any count at 4,096 or more
unfoldable pub is_full : Tally → Bool
is_full t = some_of (leb full_count) (counts t)

-- the kinds, numbered
abbrev pub kind_number : Kind → ℕ
kind_number Refused = 0
kind_number Above = 1
kind_number Below = 2
kind_number Within = 3

-- 1 where a result is of this kind, else 0
unfoldable pub one_if : Kind → Kind → ℕ
one_if j k = cond (eqb (kind_number j) (kind_number k)) 1 0

-- one file more, and one more of its kind
unfoldable pub counted : Tally → Kind → Tally
counted t k =
    record {
      files = t.files + 1;
      refused = t.refused + one_if Refused k;
      above = t.above + one_if Above k;
      below = t.below + one_if Below k;
      within = t.within + one_if Within k;
    }

-- a tally takes in a result, and nothing where it is full
unfoldable pub step : Tally → Kind → Tally
step t k = cond (is_full t) t (counted t k)

-- a tally after a list of results, first to last
unfoldable pub tally_after : Tally → List Kind → Tally
tally_after t [] = t
tally_after t (k ∷ ks) = tally_after (step t k) ks

-- the number of results of a kind
unfoldable pub number_of_kind : Kind → List Kind → ℕ
number_of_kind j [] = 0
number_of_kind j (k ∷ ks) = one_if j k + number_of_kind j ks

-- document 02's counts of a list of results
unfoldable pub tally_of : List Kind → Tally
tally_of ks =
    record {
      files = length ks;
      refused = number_of_kind Refused ks;
      above = number_of_kind Above ks;
      below = number_of_kind Below ks;
      within = number_of_kind Within ks;
    }
