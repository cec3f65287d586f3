-- Document 01's formulas: literals of two values, the statuses under their reading, and the order inside a clause.
-- Assumes nothing. Literal 2v is variable v and 2v + 1 its opposite. Of the values of a variable 1 is true and 0 is
-- false.
use Rattle.std.specs.Prelude.{ℕ, ◌+◌, ◌-◌, ◌*◌, ◌/◌, ◌%◌, ◌<◌, ◌≡◌, Bool, true, false, cond, ◌&&◌, ◌||◌, List, [], ◌∷◌, leb, ltb, eqb}
use Rattle.formula.specs.declared.Status.{Status}
unfoldable pub use Rattle.formula.specs.Lists.{some_of, all_of, those, first_of_each, is_empty, ◌∈◌, member}
use Rattle.formula.specs.Literals.{Literals, literal_status_by, clause_status_by, formula_status_by, unset_literals_by, is_unit_by, clash_by, node_status_by}

abbrev pub variable : ℕ → ℕ
variable l = l / 2

-- the literal of the same variable with the other sign
abbrev pub opposite : ℕ → ℕ
opposite l = cond (eqb (l % 2) 0) (l + 1) (l - 1)

-- whether l is a variable and k its opposite
unfoldable pub are_opposite : ℕ → ℕ → Bool
are_opposite l k = eqb (l % 2) 0 && eqb k (l + 1)

-- value 0 falsifies 2v and value 1 falsifies 2v + 1; the other value satisfies
abbrev pub two_valued : Literals
two_valued = record {
  variable = variable;
  false_at = λ l x. eqb x (l % 2);
  FalseAt = λ l x. x ≡ l % 2;
  excludes = are_opposite;
  SomeExcluding = λ P. (v : ℕ) × P (2 * v) (2 * v + 1);
}

abbrev pub literal_status : List ℕ → ℕ → Status
literal_status = literal_status_by two_valued

abbrev pub clause_status : List ℕ → List ℕ → Status
clause_status = clause_status_by two_valued

abbrev pub formula_status : List ℕ → List (List ℕ) → Status
formula_status = formula_status_by two_valued

abbrev pub unset_literals : List ℕ → List ℕ → List ℕ
unset_literals = unset_literals_by two_valued

abbrev pub is_unit : List ℕ → ℕ → List ℕ → Bool
is_unit = is_unit_by two_valued

abbrev pub clash : List ℕ → List (List ℕ) → Bool
clash = clash_by two_valued

abbrev pub node_status : List ℕ → List (List ℕ) → Status
node_status = node_status_by two_valued

-- whether the literal is of variable v
abbrev pub is_of : ℕ → ℕ → Bool
is_of v l = eqb v (variable l)

-- whether the clause has a literal of 2n or more, whose variable is not under n
unfoldable pub out_of_range : ℕ → List ℕ → Bool
out_of_range n = some_of (leb (2 * n))

-- whether a variable stands twice in the clause
unfoldable pub repeats : List ℕ → Bool
repeats [] = false
repeats (l ∷ ls) = some_of (is_of (variable l)) ls || repeats ls

-- whether the variables do not rise from literal to literal: a later literal is of the same variable or of one before.
-- So it is where a variable stands twice
unfoldable pub unordered : List ℕ → Bool
unordered [] = false
unordered (l ∷ ls) = some_of (λ k. leb (variable k) (variable l)) ls || unordered ls

-- whether the clause has a literal of 2n or more, or its variables do not rise
unfoldable pub ill_formed : ℕ → List ℕ → Bool
ill_formed n c = out_of_range n c || unordered c

-- the literals of a clause other than l
unfoldable pub without : ℕ → List ℕ → List ℕ
without l [] = []
without l (k ∷ ks) = cond (eqb k l) (without l ks) (k ∷ without l ks)

-- a rising list with l in its place, where it stands once
unfoldable pub insert_once : ℕ → List ℕ → List ℕ
insert_once l [] = l ∷ []
insert_once l (k ∷ ks) = cond (ltb l k) (l ∷ k ∷ ks) (cond (eqb l k) (k ∷ ks) (k ∷ insert_once l ks))

-- the literals of a clause, rising, each once
unfoldable pub rising : List ℕ → List ℕ
rising [] = []
rising (l ∷ ls) = insert_once l (rising ls)

-- each number is under all that come after it, as in a rising list
pub data Ascending : List ℕ → Type 0 where
  empty : Ascending []
  next : {x : ℕ} {xs : List ℕ} → ((y : ℕ) → y ∈ xs → x < y) → Ascending xs → Ascending (x ∷ xs)

-- whether two clauses have the same literals in the same order
unfoldable pub equal : List ℕ → List ℕ → Bool
equal [] [] = true
equal [] (k ∷ ks) = false
equal (l ∷ ls) [] = false
equal (l ∷ ls) (k ∷ ks) = eqb l k && equal ls ks
