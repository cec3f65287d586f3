-- The reader's answer for every file: the documents' checks in their order, each over the whole file before the next. A
-- check over clauses names the first clause at fault, and one over the prefix the first variable. One chain of checks
-- for any limits, and three readers: the full one, the small one, and the one of stored files, which leaves out 7, 23
-- and 26. Assumes nothing.
use Rattle.std.specs.Prelude.{ℕ, ◌+◌, ◌-◌, ◌*◌, Bool, not, ◌&&◌, ◌||◌, List, ltb, eqb, Ok}
use Rattle.formula.specs.Formula.{out_of_range, repeats, unordered, equal}
use Rattle.limits.specs.Limits.{rule_trailer, max_clauses, max_whole}
use Rattle.answer.specs.Answer.{Answer, refuse_if, refuse_at}
use Rattle.answer.specs.declared.Refusal.TheVariants as refusal
use Rattle.words.specs.Walk.{first, first_copy}
use Rattle.words.specs.Words.{word_count, wrong_length, stated_count}
use Rattle.prefix_words.specs.Prefix.{malformed}
use Rattle.clause_words.specs.Clauses.{walk_clauses}
use Rattle.rule_file.specs.ReaderLimits.{full_limits, small_limits, stored_limits}
use Rattle.rule_file.specs.RuleFile.{clause_count, variable_count, prefix_start, clauses, prefix, whole}
use Rattle.rule_file.specs.declared.Limits.{Limits}
use Rattle.rule_file.specs.declared.Header.{Header}

-- 1 is wrong_length, for a file that holds its trailer. 2: the last word is not the word count
unfoldable pub wrong_count : List ℕ → Bool
wrong_count b = not (eqb (stated_count b) (word_count b))

-- 3: more variables than the most, or more than 1,024 clauses
unfoldable pub too_many : ℕ → List ℕ → Bool
too_many most b = ltb most (variable_count b) || ltb max_clauses (clause_count b)

-- 4: the prefix does not end where the trailer begins
unfoldable pub wrong_prefix : List ℕ → Bool
wrong_prefix b = not (eqb (prefix_start b + 2 * variable_count b) (word_count b - 4))

-- 5 is walk_clauses; 6 is out_of_range, a literal of 2n or more; 7 is repeats, a variable twice; 23 is unordered,
-- variables that do not rise; 26 is a first copy, a clause that equals an earlier one; 8 is malformed. 9: the whole is
-- over 2^60
unfoldable pub too_large : List ℕ → Bool
too_large b = ltb max_whole (whole b)

-- the checks from 9 back to 1
unfoldable pub read_from_8 : List ℕ → Answer Header
read_from_8 b =
    refuse_at (first malformed (prefix b)) refusal.MalformedWeights
    (refuse_if (too_large b) refusal.WholeTooLarge
    (Ok (record { variables = variable_count b; clauses = clause_count b; prefix = prefix_start b; whole = whole b })))

-- 7, 23 and 26 only where clauses must be in order
abbrev pub asked : Bool → (List ℕ → Bool) → List ℕ → Bool
asked ordered f c = ordered && f c

unfoldable pub read_from_26 : Bool → List ℕ → Answer Header
read_from_26 ordered b = refuse_at (first_copy (λ c. asked ordered (equal c)) (clauses b)) refusal.RepeatedClause (read_from_8 b)

unfoldable pub read_from_6 : Bool → List ℕ → Answer Header
read_from_6 ordered b =
    refuse_at (first (out_of_range (variable_count b)) (clauses b)) refusal.LiteralOutOfRange
    (refuse_at (first (asked ordered repeats) (clauses b)) refusal.RepeatedVariable
    (refuse_at (first (asked ordered unordered) (clauses b)) refusal.UnorderedVariables
    (read_from_26 ordered b)))

unfoldable pub read_from_5 : Bool → List ℕ → Answer Header
read_from_5 ordered b =
    refuse_at (walk_clauses b (variable_count b) (prefix_start b) (clause_count b) 0) refusal.ClauseExtent (read_from_6 ordered b)

unfoldable pub read_from_3 : ℕ → Bool → List ℕ → Answer Header
read_from_3 most ordered b = refuse_if (too_many most b) refusal.TooMany (refuse_if (wrong_prefix b) refusal.PrefixEnd (read_from_5 ordered b))

-- the answer within limits: n, m, the prefix's start and the whole, or a refusal
unfoldable pub read_within : Limits → List ℕ → Answer Header
read_within limits b =
    refuse_if (wrong_length rule_trailer limits.bytes b) refusal.FileLength
    (refuse_if (wrong_count b) refusal.FileWordCount
    (read_from_3 limits.variables limits.ordered b))

-- the full reader, on which every other operation stands
unfoldable pub read_file : List ℕ → Answer Header
read_file = read_within full_limits

-- the small reader
unfoldable pub read_small : List ℕ → Answer Header
read_small = read_within small_limits

-- the reader of stored files
unfoldable pub read_stored : List ℕ → Answer Header
read_stored = read_within stored_limits
