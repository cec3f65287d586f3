-- `limit`: each turn reads a digit, and leaves where the byte is none or the number too large. Assumes nothing.
use Rattle.std.proofs.Common.{◌≡◌, ◌+◌, ◌-◌, ◌*◌, ◌∙◌, arith, add-one, rules, get_or}
use Rattle.job_list.proofs.LimitLaws.{read_none, digit, below_digits, past_digits, empty_limit, no_digit, too_large, read_digit, read_all}
use Rattle.job_list.proofs.limit.Goals as goal
use Rattle.job_list.proofs.limit.Goals.{then-byte-lt48-via-then-byte-lt48, then-byte-lt48-via-else-byte-lt48+then-byte-gt57}

pub returns-then-is_empty : goal.returns-then-is_empty
returns-then-is_empty c = record { answer = empty_limit _ (search rules) }

pub loop-byte-init : goal.loop-byte-init
loop-byte-init c = read_none _ (search rules)

pub returns-then-byte-lt48 : goal.returns-then-byte-lt48
returns-then-byte-lt48 c =
    elim c.then-byte-lt48.branch [
      | then-byte-lt48-via-then-byte-lt48 w ↦ record { answer = no_digit c.loop-byte.invariant c.loop-byte-test.true (below_digits _ w.if-byte-lt48.true) }
      | then-byte-lt48-via-else-byte-lt48+then-byte-gt57 w ↦ record { answer = no_digit c.loop-byte.invariant c.loop-byte-test.true (past_digits _ w.if-byte-gt57.true) }
    ]

pub returns-in_err-checked_mul : goal.returns-in_err-checked_mul
returns-in_err-checked_mul c =
    let over = too_large c.loop-byte.invariant c.loop-byte-test.true (omega (c.in_err-checked_mul.ensures, arith)) in
    record { answer = c.from_residual.ensures ∙ over }

pub returns-in_err-value : goal.returns-in_err-value
returns-in_err-value c =
    let (_, times) = c.in_ok-checked_mul.ensures in
    let over = too_large c.loop-byte.invariant c.loop-byte-test.true (omega (c.in_err-value.ensures, times, arith)) in
    record { answer = c.from_residual-in_err-value.ensures ∙ over }

pub loop-byte-preserved : goal.loop-byte-preserved
loop-byte-preserved c =
    let (_, times) = c.in_ok-checked_mul.ensures in
    let (fits, sum) = c.in_ok-value.ensures in
    let is : c.in_ok-value.value ≡ 10 * c.loop-byte.value + (get_or c.args.part.now c.loop-byte.byte-index 0 - 48) = omega (times, sum, arith) in
    rw (is, add-one)
    (read_digit
    c.loop-byte.invariant
    c.loop-byte-test.true
    (digit _ c.if-byte-lt48.false c.if-byte-gt57.false)
    (omega (fits, times, arith)))

pub returns : goal.returns
returns c = record { answer = read_all c.loop-byte.invariant c.loop-byte-test.false }
