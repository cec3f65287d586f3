-- The four numbers that are stored for an answer of the readers, of the check, of the writer, of the repair and of the
-- point, and the point's doubles; c_convention/specs/Convention has those of figure, verdict and cut. Assumes nothing.
use Rattle.std.specs.Prelude.{List, [], ◌∷◌, ℕ, Float, Err, Ok}
use Rattle.std.proofs.lemmas.List.Edits.{sets}
use Rattle.answer.specs.Answer.{Answer}
use Rattle.rule_file.specs.declared.Header.{Header}
use Rattle.points.specs.declared.Marks.{Marks}
use Rattle.points.specs.declared.Marks.TheVariants.{One, Two}
use Rattle.points.specs.declared.Point.{Point}
use Rattle.derivation.specs.declared.Closing.{Closing}
use Rattle.repair.specs.declared.Repairs.{Repairs}

abbrev pub header_values : Header → List ℕ
header_values h = h.variables ∷ h.clauses ∷ h.prefix ∷ h.whole ∷ []

abbrev pub closing_values : Closing → List ℕ
closing_values x = x.value ∷ x.whole ∷ 0 ∷ 0 ∷ []

abbrev pub length_values : ℕ → List ℕ
length_values n = n ∷ 0 ∷ 0 ∷ 0 ∷ []

abbrev pub repair_values : Repairs → List ℕ
repair_values x = x.bytes ∷ x.clauses ∷ x.literals ∷ x.reordered ∷ []

-- how many marks there are
abbrev pub mark_values : Marks → List ℕ
mark_values (One mark) = 1 ∷ 0 ∷ 0 ∷ 0 ∷ []
mark_values (Two low high) = 2 ∷ 0 ∷ 0 ∷ 0 ∷ []

-- the doubles afterwards: an answer's three; a refusal leaves them
abbrev pub point_after : Answer Point → List Float → List Float
point_after (Err r) before = before
point_after (Ok p) before = sets before 0 (p.low ∷ p.high ∷ p.open_share ∷ [])
