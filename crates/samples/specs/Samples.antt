-- Document 01's samples P1 to P12, the places that document 02 (i) adds to refusals, the derivations that (ii) writes,
-- the order that (iv) asks for, the nodes that (v) calls lost, the limits of (vii), the repairs of (viii) and the
-- copies of (ix), in one list: each a question to an operation, and the answer that it must give. Assumes nothing.
use Rattle.std.specs.Prelude.{List, [], ◌∷◌, ◌++◌, ℕ, ◌+◌, ◌*◌, length, replicate, Option, None, Some, Err, Ok}
use Rattle.bounds.specs.declared.Bounds.{Bounds}
use Rattle.answer.specs.Answer.{Answer, number_of, place_of}
use Rattle.words.specs.Bytes.{bytes_of}
use Rattle.rule_file.specs.Reader.{read_file, read_small}
use Rattle.rule_file.specs.declared.Header.{Header}
use Rattle.value.specs.declared.Ratio.{Ratio}
use Rattle.value.specs.Value.{figure_file, verdict_file}
use Rattle.value.specs.declared.thresholds.Verdict.{Verdict}
use Rattle.value.specs.declared.thresholds.Verdict.TheVariants.{Above, Below, Within}
use Rattle.value.specs.Cut.{cut_file}
use Rattle.derivation.specs.declared.Closing.{Closing}
use Rattle.derivation.specs.Check.{check_file}
use Rattle.written_derivation.specs.Derive.{derive_file}
use Rattle.repair.specs.declared.Repairs.{Repairs}
use Rattle.repair.specs.Repair.{repair_file, repair_answer}

pub data Question : Type 0 where
  read : List ℕ → Question
  read_by_small : List ℕ → Question
  figure : List ℕ → Question
  verdict : List ℕ → ℕ → ℕ → Question
  cut : List ℕ → ℕ → Question
  check : List ℕ → List ℕ → Question
  derive : List ℕ → ℕ → Question
  repair : List ℕ → ℕ → Question
  repaired : List ℕ → ℕ → Question

-- an answer, its refusal by the documents' number and the place that it names
pub data Numbered (A : Type 0) : Type 0 where
  refused : ℕ → Option ℕ → Numbered A
  answered : A → Numbered A

abbrev pub numbered : {A : Type 0} → Answer A → Numbered A
numbered (Err r) = refused (number_of r) (place_of r)
numbered (Ok x) = answered x

pub data Expected : Type 0 where
  stated : Numbered Header → Expected
  figured : Numbered Ratio → Expected
  judged : Numbered Verdict → Expected
  bounded : Numbered Bounds → Expected
  checked : Numbered Closing → Expected
  written : Numbered (List ℕ) → Expected
  counted : Numbered Repairs → Expected

-- what the operation answers, by the definition that its contract cites
unfoldable pub ask : Question → Expected
ask (read ws) = stated (numbered (read_file (bytes_of ws)))
ask (read_by_small ws) = stated (numbered (read_small (bytes_of ws)))
ask (figure ws) = figured (numbered (figure_file (bytes_of ws)))
ask (verdict ws lo hi) = judged (numbered (verdict_file (bytes_of ws) lo hi))
ask (cut ws level) = bounded (numbered (cut_file (bytes_of ws) level))
ask (check ws ds) = checked (numbered (check_file (bytes_of ws) (bytes_of ds)))
ask (derive ws capacity) = written (numbered (derive_file (bytes_of ws) capacity))
ask (repair ws capacity) = counted (numbered (repair_answer (bytes_of ws) capacity))
ask (repaired ws capacity) = written (numbered (repair_file (bytes_of ws) capacity))

-- n existential variables, and no clause
abbrev existentials : ℕ → List ℕ
existentials n = replicate (2 * n) 0 ++ (0 ∷ n ∷ 0 ∷ (2 * n + 4) ∷ [])

-- what a reader answers of them
abbrev read_as : ℕ → Expected
read_as n = stated (answered (record { variables = n; clauses = 0; prefix = 0; whole = 1 }))

-- a file with so many words of 0
abbrev zeros : ℕ → List ℕ
zeros k = replicate k 0

-- a figure out of a whole
abbrev out_of : ℕ → ℕ → Expected
out_of x w = figured (answered (record { figure = x; whole = w }))

-- lower number, upper number and open weight
abbrev between : ℕ → ℕ → ℕ → Expected
between l u o = bounded (answered (record { lower = l; upper = u; undetermined = o }))

-- a refusal of number k that names the clause or variable i
abbrev refused_at : ℕ → ℕ → Expected
refused_at k i = figured (refused k (Some i))

-- the words of m clauses, over a draw 3:1, a choice and a draw 7:3
abbrev over_three : ℕ → List ℕ → List ℕ
over_three m ws = ws ++ (3 ∷ 1 ∷ 0 ∷ 0 ∷ 7 ∷ 3 ∷ m ∷ 3 ∷ length ws ∷ (length ws + 10) ∷ [])

-- a file of these words
abbrev written_as : List ℕ → Expected
written_as ws = written (answered (bytes_of ws))

-- the repaired file's length in bytes, clauses dropped, literals dropped and clauses reordered
abbrev counts : ℕ → ℕ → ℕ → ℕ → Expected
counts n c l r = counted (answered (record { bytes = n; clauses = c; literals = l; reordered = r }))

pub record Sample : Type 0 where
  pub question : Question
  pub expected : Expected

abbrev sample : Question → Expected → Sample
sample q o = record { question = q; expected = o }

-- document 01's example file, that of source document 004
abbrev pub example : List ℕ
example = 2 ∷ 0 ∷ 2 ∷ 1 ∷ 3 ∷ 2 ∷ 2 ∷ 4 ∷ 4 ∷ 1 ∷ 0 ∷ 0 ∷ 3 ∷ 7 ∷ 3 ∷ 3 ∷ 8 ∷ 18 ∷ []

-- its derivation, with these literals of variables 0 and 1 in lines 0 and 1
abbrev derivation_with : ℕ → ℕ → ℕ → ℕ → List ℕ
derivation_with k l s t =
    1 ∷ 3 ∷ k ∷ l ∷ 5 ∷ 1 ∷ 0 ∷
    2 ∷ 2 ∷ s ∷ t ∷ 3 ∷ 0 ∷ 2 ∷ 1 ∷ 4 ∷
    2 ∷ 1 ∷ 1 ∷ 3 ∷ 0 ∷ 1 ∷ 2 ∷ 3 ∷
    2 ∷ 1 ∷ 0 ∷ 0 ∷ 0 ∷ 1 ∷ 2 ∷ 0 ∷
    2 ∷ 0 ∷ 12 ∷ 0 ∷ 0 ∷ 5 ∷ 7 ∷
    5 ∷ 9 ∷ 42 ∷ []

abbrev derivation : List ℕ
derivation = derivation_with 1 2 1 2

-- clauses {0} and {2, 3} over two choices: variable 1 stands twice in clause 1
abbrev pub variable_twice : List ℕ
variable_twice = 1 ∷ 0 ∷ 2 ∷ 2 ∷ 3 ∷ 0 ∷ 0 ∷ 0 ∷ 0 ∷ 2 ∷ 2 ∷ 5 ∷ 13 ∷ []

-- clauses {0} and {2, 0} over two choices: the variables of clause 1 do not rise
abbrev pub not_rising : List ℕ
not_rising = 1 ∷ 0 ∷ 2 ∷ 2 ∷ 0 ∷ 0 ∷ 0 ∷ 0 ∷ 0 ∷ 2 ∷ 2 ∷ 5 ∷ 13 ∷ []

unfoldable pub samples : List Sample
samples =
    -- P1: no conditions, no clauses
    sample (figure (0 ∷ 0 ∷ 0 ∷ 4 ∷ [])) (out_of 1 1) ∷
    -- P2: none, one empty clause
    sample (figure (0 ∷ 1 ∷ 0 ∷ 1 ∷ 5 ∷ [])) (out_of 0 1) ∷
    -- P3: draw 3:1, clause {0}
    sample (figure (1 ∷ 0 ∷ 3 ∷ 1 ∷ 1 ∷ 1 ∷ 2 ∷ 8 ∷ [])) (out_of 3 4) ∷
    -- P4: choice, same clause
    sample (figure (1 ∷ 0 ∷ 0 ∷ 0 ∷ 1 ∷ 1 ∷ 2 ∷ 8 ∷ [])) (out_of 1 1) ∷
    -- P5: draw 1:1, then a choice, clauses "0 or 1" and "not 0 or not 1"
    sample (figure (2 ∷ 0 ∷ 2 ∷ 2 ∷ 1 ∷ 3 ∷ 1 ∷ 1 ∷ 0 ∷ 0 ∷ 2 ∷ 2 ∷ 6 ∷ 14 ∷ [])) (out_of 2 2) ∷
    -- P6: choice first, then the draw
    sample (figure (2 ∷ 0 ∷ 2 ∷ 2 ∷ 1 ∷ 3 ∷ 0 ∷ 0 ∷ 1 ∷ 1 ∷ 2 ∷ 2 ∷ 6 ∷ 14 ∷ [])) (out_of 1 2) ∷
    -- P7: the example
    sample (figure example) (out_of 12 50) ∷
    -- P8 to P10: its verdicts
    sample (verdict example 12 12) (judged (answered (Within 12))) ∷
    sample (verdict example 13 50) (judged (answered Below)) ∷
    sample (verdict example 0 11) (judged (answered Above)) ∷
    -- P11: its cut at level 2
    sample (cut example 2) (between 0 40 40) ∷
    -- P12: its derivation
    sample (check example derivation) (checked (answered (record { value = 12; whole = 50 }))) ∷
    -- 5: clause 1 has two literals over one variable; clause 2 stands past the prefix start; the walk ends before it
    sample (figure (1 ∷ 0 ∷ 2 ∷ 0 ∷ 1 ∷ 0 ∷ 0 ∷ 2 ∷ 1 ∷ 5 ∷ 11 ∷ [])) (refused_at 5 1) ∷
    sample (figure (1 ∷ 0 ∷ 1 ∷ 1 ∷ 0 ∷ 0 ∷ 3 ∷ 1 ∷ 4 ∷ 10 ∷ [])) (refused_at 5 2) ∷
    sample (figure (1 ∷ 0 ∷ 1 ∷ 1 ∷ 0 ∷ 0 ∷ 1 ∷ 1 ∷ 4 ∷ 10 ∷ [])) (refused_at 5 1) ∷
    -- 6: clauses {0}, {2} and {3} over one variable
    sample (figure (1 ∷ 0 ∷ 1 ∷ 2 ∷ 1 ∷ 3 ∷ 0 ∷ 0 ∷ 3 ∷ 1 ∷ 6 ∷ 12 ∷ [])) (refused_at 6 1) ∷
    -- 7
    sample (figure variable_twice) (refused_at 7 1) ∷
    -- 8: weights 0:0, 0:1 and 1:0
    sample (figure (0 ∷ 0 ∷ 0 ∷ 1 ∷ 1 ∷ 0 ∷ 0 ∷ 3 ∷ 0 ∷ 10 ∷ [])) (refused_at 8 1) ∷
    -- the example's derivation, written into its 168 bytes; 22 for a buffer of one less
    sample (derive example 168) (written (answered (bytes_of derivation))) ∷
    sample (derive example 167) (written (refused 22 None)) ∷
    -- of no clauses: one line, empty; of one empty clause: no line, and the clause named
    sample (derive (0 ∷ 0 ∷ 0 ∷ 4 ∷ []) 28) (written (answered (bytes_of (1 ∷ 0 ∷ 1 ∷ 0 ∷ 1 ∷ 1 ∷ 7 ∷ [])))) ∷
    sample (derive (0 ∷ 1 ∷ 0 ∷ 1 ∷ 5 ∷ []) 12) (written (answered (bytes_of (0 ∷ 0 ∷ 3 ∷ [])))) ∷
    -- 23; 7 before it, with {2, 0} and {0, 1}; and it before 8, with {2, 0} over weights 0:1
    sample (figure not_rising) (refused_at 23 1) ∷
    sample (figure (2 ∷ 2 ∷ 0 ∷ 2 ∷ 0 ∷ 1 ∷ 0 ∷ 0 ∷ 0 ∷ 0 ∷ 2 ∷ 2 ∷ 6 ∷ 14 ∷ [])) (refused_at 7 1) ∷
    sample (figure (2 ∷ 2 ∷ 0 ∷ 0 ∷ 1 ∷ 0 ∷ 0 ∷ 1 ∷ 2 ∷ 3 ∷ 11 ∷ [])) (refused_at 23 0) ∷
    -- 16: the variables of a line do not rise, in line 1 and in both; 19: another sign of a literal in line 1
    sample (check example (derivation_with 1 2 2 1)) (checked (refused 16 (Some 1))) ∷
    sample (check example (derivation_with 2 1 2 1)) (checked (refused 16 (Some 0))) ∷
    sample (check example (derivation_with 1 2 1 3)) (checked (refused 19 (Some 1))) ∷
    -- a clash: the example where variable 0 is false; {0} and {1} over a draw
    sample (cut example 1) (between 0 40 40) ∷
    sample (cut (1 ∷ 0 ∷ 1 ∷ 1 ∷ 3 ∷ 1 ∷ 2 ∷ 1 ∷ 4 ∷ 10 ∷ []) 0) (between 0 0 0) ∷
    -- none: two unset literals, in {0, 2}, and {1}; the same sign, in {0, 2} and {2} where variable 0 is false; a
    -- satisfied clause, {0, 2} or {1, 3}
    sample (cut (2 ∷ 0 ∷ 2 ∷ 1 ∷ 1 ∷ 0 ∷ 0 ∷ 0 ∷ 0 ∷ 2 ∷ 2 ∷ 5 ∷ 13 ∷ []) 0) (between 0 1 1) ∷
    sample (cut (2 ∷ 0 ∷ 2 ∷ 1 ∷ 2 ∷ 1 ∷ 1 ∷ 0 ∷ 0 ∷ 2 ∷ 2 ∷ 5 ∷ 13 ∷ []) 1) (between 0 2 2) ∷
    sample (cut (2 ∷ 0 ∷ 2 ∷ 2 ∷ 1 ∷ 3 ∷ 1 ∷ 1 ∷ 0 ∷ 0 ∷ 2 ∷ 2 ∷ 6 ∷ 14 ∷ []) 1) (between 0 2 2) ∷
    -- the small reader: 16 and 17 variables, and 33, which the full one refuses too
    sample (read_by_small (existentials 16)) (read_as 16) ∷
    sample (read_by_small (existentials 17)) (stated (refused 3 None)) ∷
    sample (read (existentials 17)) (read_as 17) ∷
    sample (read (existentials 32)) (read_as 32) ∷
    sample (read (existentials 33)) (stated (refused 3 None)) ∷
    -- 4,096 bytes and 4,100, without a word count: 2 where the length is right
    sample (read_by_small (zeros 1024)) (stated (refused 2 None)) ∷
    sample (read_by_small (zeros 1025)) (stated (refused 1 None)) ∷
    sample (read (zeros 1025)) (stated (refused 2 None)) ∷
    -- a repair of {4, 0, 4}: a literal dropped and the others put in order; 25 for a buffer shorter than the file by a
    -- byte, although what is written would fit
    sample (repair (over_three 1 (3 ∷ 4 ∷ 0 ∷ 4 ∷ [])) 56) (counts 52 0 1 1) ∷
    sample (repaired (over_three 1 (3 ∷ 4 ∷ 0 ∷ 4 ∷ [])) 56) (written_as (over_three 1 (2 ∷ 0 ∷ 4 ∷ []))) ∷
    sample (repaired (over_three 1 (3 ∷ 4 ∷ 0 ∷ 4 ∷ [])) 55) (written (refused 25 None)) ∷
    -- {0, 4, 0} and {2, 2} rise without the later repeats
    sample (repair (over_three 2 (3 ∷ 0 ∷ 4 ∷ 0 ∷ 2 ∷ 2 ∷ 2 ∷ [])) 68) (counts 60 0 2 0) ∷
    sample (repaired (over_three 2 (3 ∷ 0 ∷ 4 ∷ 0 ∷ 2 ∷ 2 ∷ 2 ∷ [])) 68) (written_as (over_three 2 (2 ∷ 0 ∷ 4 ∷ 1 ∷ 2 ∷ []))) ∷
    -- {0, 1, 0} and {0, 1}, all that there are, are dropped, and the repeat with its clause
    sample (repair (over_three 2 (3 ∷ 0 ∷ 1 ∷ 0 ∷ 2 ∷ 0 ∷ 1 ∷ [])) 68) (counts 40 2 0 0) ∷
    sample (repaired (over_three 2 (3 ∷ 0 ∷ 1 ∷ 0 ∷ 2 ∷ 0 ∷ 1 ∷ [])) 68) (written_as (over_three 0 [])) ∷
    -- what the reader refuses with 7 and 23, and an accepted file, which stays as it is
    sample (repair variable_twice 52) (counts 40 1 0 0) ∷
    sample (repaired variable_twice 52) (written_as (1 ∷ 0 ∷ 0 ∷ 0 ∷ 0 ∷ 0 ∷ 1 ∷ 2 ∷ 2 ∷ 10 ∷ [])) ∷
    sample (repair not_rising 52) (counts 52 0 0 1) ∷
    sample (repaired not_rising 52) (written_as (1 ∷ 0 ∷ 2 ∷ 0 ∷ 2 ∷ 0 ∷ 0 ∷ 0 ∷ 0 ∷ 2 ∷ 2 ∷ 5 ∷ 13 ∷ [])) ∷
    sample (repair example 72) (counts 72 0 0 0) ∷
    sample (repaired example 72) (written_as example) ∷
    -- still 5 for {0, 0} over one variable; 6 before 25
    sample (repair (2 ∷ 0 ∷ 0 ∷ 0 ∷ 0 ∷ 1 ∷ 1 ∷ 3 ∷ 9 ∷ []) 36) (counted (refused 5 (Some 0))) ∷
    sample (repair (over_three 1 (1 ∷ 6 ∷ [])) 0) (counted (refused 6 (Some 0))) ∷
    -- 26: {0}, {2}, {2}, {0}, by both readers; two empty clauses; not {0} and {0, 2}
    sample (figure (1 ∷ 0 ∷ 1 ∷ 2 ∷ 1 ∷ 2 ∷ 1 ∷ 0 ∷ 0 ∷ 0 ∷ 0 ∷ 0 ∷ 4 ∷ 2 ∷ 8 ∷ 16 ∷ [])) (refused_at 26 2) ∷
    sample (read_by_small (1 ∷ 0 ∷ 1 ∷ 2 ∷ 1 ∷ 2 ∷ 1 ∷ 0 ∷ 0 ∷ 0 ∷ 0 ∷ 0 ∷ 4 ∷ 2 ∷ 8 ∷ 16 ∷ [])) (stated (refused 26 (Some 2))) ∷
    sample (figure (0 ∷ 0 ∷ 2 ∷ 0 ∷ 2 ∷ 6 ∷ [])) (refused_at 26 1) ∷
    sample (figure (1 ∷ 0 ∷ 2 ∷ 0 ∷ 2 ∷ 0 ∷ 0 ∷ 0 ∷ 0 ∷ 2 ∷ 2 ∷ 5 ∷ 13 ∷ [])) (out_of 1 1) ∷
    -- 23 before it, with {0}, {0} and {2, 0}; and it before 8, with {0} and {0} over weights 0:1
    sample (figure (1 ∷ 0 ∷ 1 ∷ 0 ∷ 2 ∷ 2 ∷ 0 ∷ 0 ∷ 0 ∷ 0 ∷ 0 ∷ 3 ∷ 2 ∷ 7 ∷ 15 ∷ [])) (refused_at 23 2) ∷
    sample (figure (1 ∷ 0 ∷ 1 ∷ 0 ∷ 0 ∷ 1 ∷ 2 ∷ 1 ∷ 4 ∷ 10 ∷ [])) (refused_at 26 1) ∷
    -- a repair of {0}, {2}, {2}, {0}; of {0, 4} and {4, 0, 4}, whose repeat and order do not count with it; of {4, 0}
    -- and {0, 4}, of which the first stays
    sample (repair (over_three 4 (1 ∷ 0 ∷ 1 ∷ 2 ∷ 1 ∷ 2 ∷ 1 ∷ 0 ∷ [])) 72) (counts 56 2 0 0) ∷
    sample (repaired (over_three 4 (1 ∷ 0 ∷ 1 ∷ 2 ∷ 1 ∷ 2 ∷ 1 ∷ 0 ∷ [])) 72) (written_as (over_three 2 (1 ∷ 0 ∷ 1 ∷ 2 ∷ []))) ∷
    sample (repair (over_three 2 (2 ∷ 0 ∷ 4 ∷ 3 ∷ 4 ∷ 0 ∷ 4 ∷ [])) 68) (counts 52 1 0 0) ∷
    sample (repair (over_three 2 (2 ∷ 4 ∷ 0 ∷ 2 ∷ 0 ∷ 4 ∷ [])) 64) (counts 52 1 0 1) ∷
    []
