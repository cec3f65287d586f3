-- What an operation answers: the values, or a refusal, by its name; the number that the documents give it, and the place
-- that it names: a clause, a variable or a line; and what a lent buffer then holds. Assumes nothing.
use Rattle.std.specs.Prelude.{ℕ, Bool, true, false, List, ◌++◌, length, drop, Option, None, Some, Result, Err, Ok}
use Rattle.answer.specs.declared.Refusal.{Refusal}
use Rattle.answer.specs.declared.Refusal.TheVariants as refusal

abbrev pub Answer : Type 0 → Type 0
Answer A = Result A Refusal

-- refuses where the check fails, else goes on
abbrev pub refuse_if : {A : Type 0} → Bool → Refusal → Answer A → Answer A
refuse_if true r rest = Err r
refuse_if false r rest = rest

-- refuses with the place that is found, else goes on
abbrev pub refuse_at : {A : Type 0} → Option ℕ → (ℕ → Refusal) → Answer A → Answer A
refuse_at None r rest = rest
refuse_at (Some i) r rest = Err (r i)

-- goes on from the values, and passes a refusal on
abbrev pub and_then : {A B : Type 0} → Answer A → (A → Answer B) → Answer B
and_then (Err r) f = Err r
and_then (Ok x) f = f x

-- the documents' number of a refusal
abbrev pub number_of : Refusal → ℕ
number_of refusal.FileLength = 1
number_of refusal.FileWordCount = 2
number_of refusal.TooMany = 3
number_of refusal.PrefixEnd = 4
number_of (refusal.ClauseExtent clause) = 5
number_of (refusal.LiteralOutOfRange clause) = 6
number_of (refusal.RepeatedVariable clause) = 7
number_of (refusal.UnorderedVariables clause) = 23
number_of (refusal.RepeatedClause clause) = 26
number_of (refusal.MalformedWeights variable) = 8
number_of refusal.WholeTooLarge = 9
number_of refusal.LimitsOutOfOrder = 10
number_of refusal.LimitOverWhole = 11
number_of refusal.LevelTooHigh = 12
number_of refusal.WholeOverPlotted = 27
number_of refusal.DerivationLength = 13
number_of refusal.DerivationCounts = 14
number_of (refusal.LineExtent line) = 15
number_of (refusal.LineLiterals line) = 16
number_of (refusal.NotBlocking line) = 17
number_of (refusal.MissingParent line) = 18
number_of (refusal.NotResolvent line) = 19
number_of (refusal.WrongValue line) = 20
number_of refusal.WrongClosing = 21
number_of refusal.DerivationTooLong = 22
number_of refusal.BufferTooShort = 25
number_of refusal.ListTooLong = 24

-- the clause, variable or line that it names, if it names one
abbrev pub place_of : Refusal → Option ℕ
place_of (refusal.ClauseExtent clause) = Some clause
place_of (refusal.LiteralOutOfRange clause) = Some clause
place_of (refusal.RepeatedVariable clause) = Some clause
place_of (refusal.UnorderedVariables clause) = Some clause
place_of (refusal.RepeatedClause clause) = Some clause
place_of (refusal.MalformedWeights variable) = Some variable
place_of (refusal.LineExtent line) = Some line
place_of (refusal.LineLiterals line) = Some line
place_of (refusal.NotBlocking line) = Some line
place_of (refusal.MissingParent line) = Some line
place_of (refusal.NotResolvent line) = Some line
place_of (refusal.WrongValue line) = Some line
place_of r = None

-- a buffer that is lent to an operation whose values are the bytes of a file: a refusal leaves it as it was, and so are
-- the bytes past the file's end
abbrev pub buffer_after : Answer (List ℕ) → List ℕ → List ℕ
buffer_after (Err r) before = before
buffer_after (Ok d) before = d ++ drop (length d) before
