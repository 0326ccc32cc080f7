use Rattle.std.proofs.Common.{refl, arith, inl}
use Rattle.text_phrases.proofs.Exits.{exit}
use Rattle.text_phrases.proofs.Phrases.{taken_shorter}
use Rattle.text_phrases.proofs.Sequences.{step_taken}
use Rattle.text_phrases.proofs.Joints.{whole_err, now, later, both}
use Rattle.exo_reader.proofs.Made.{made_branch, made_loop}
use Rattle.exo_reader.proofs.Statements.{step_block, block1, step_else, optional_else, if1, if2, step_if, for1}
use Rattle.exo_reader.proofs.Statements.{for2, for3, step_for, if_deep, for_deep, apart, statement_shorter}
use Rattle.exo_reader.proofs.Lists.{lines_more, lines_done, lines_err, lines_shorter}
use Rattle.exo_reader.proofs.Optional.{something_err, something_taken, nothing_taken}
use Rattle.exo_reader.proofs.statement.+statements.Goals as goal

pub read_if-returns-then-nesting-ge-NESTING : goal.read_if-returns-then-nesting-ge-NESTING
read_if-returns-then-nesting-ge-NESTING t c = if_deep _ _ _ (omega arith) c.requires.front

pub read_if-returns-in_err-condition : goal.read_if-returns-in_err-condition
read_if-returns-in_err-condition t c =
    exit _ _ _ _ _ _ c.from_residual.ensures.1 (whole_err _ _ _ _ _ _
    (step_if _ _ _ (omega (arith, c.if-nesting-ge-NESTING.false)) c.requires.front)
    (now (if1 _) _ _ c.in_err-condition.ensures))

pub read_if-returns-in_err-inside : goal.read_if-returns-in_err-inside
read_if-returns-in_err-inside t c =
    exit _ _ _ _ _ _ c.from_residual-in_err-inside.ensures.1 (whole_err _ _ _ _ _ _
    (step_if _ _ _ (omega (arith, c.if-nesting-ge-NESTING.false)) c.requires.front)
    (later (if1 _) c.in_ok-condition.ensures _ (now (if2 _) _ _ c.in_err-inside.ensures)))

pub read_if-returns-in_err-other : goal.read_if-returns-in_err-other
read_if-returns-in_err-other t c =
    exit _ _ _ _ _ _ c.from_residual-in_err-other.ensures.1 (whole_err _ _ _ _ _ _
    (step_if _ _ _ (omega (arith, c.if-nesting-ge-NESTING.false)) c.requires.front)
    (later (if1 _) c.in_ok-condition.ensures _ (later (if2 _) c.in_ok-inside.ensures _ c.in_err-other.ensures)))

pub read_if-returns : goal.read_if-returns
read_if-returns t c =
    rw (made_branch _ _ _, c.into_inner.ensures) (step_taken _ _ _ _ _ _ _
    (step_if _ _ _ (omega (arith, c.if-nesting-ge-NESTING.false)) c.requires.front)
    (both (if1 _) c.in_ok-condition.ensures (both (if2 _) c.in_ok-inside.ensures c.in_ok-other.ensures)))

pub read_else-returns-in_default : goal.read_else-returns-in_default
read_else-returns-in_default t c = rw c.new.ensures.items (nothing_taken (optional_else _) _ c.in_default.ensures)

pub read_else-returns-in_err-inside : goal.read_else-returns-in_err-inside
read_else-returns-in_err-inside t c = rw c.in-Some.ensures (exit _ _ _ _ _ _ c.from_residual.ensures.1 (something_err (optional_else _) _ _ refl (whole_err _ _ _ _ _ _ (step_else _ _) c.in_err-inside.ensures)))

pub read_else-returns : goal.read_else-returns
read_else-returns t c = rw c.in-Some.ensures (something_taken (optional_else _) _ _ _ (step_taken _ _ _ _ _ _ _ (step_else _ _) c.in_ok-inside.ensures))

pub read_for-returns-then-nesting-ge-NESTING : goal.read_for-returns-then-nesting-ge-NESTING
read_for-returns-then-nesting-ge-NESTING t c = for_deep _ _ _ (omega arith) c.requires.front

pub read_for-returns-in_err-name : goal.read_for-returns-in_err-name
read_for-returns-in_err-name t c =
    exit _ _ _ _ _ _ c.from_residual.ensures.1 (whole_err _ _ _ _ _ _
    (step_for _ _ _ (omega (arith, c.if-nesting-ge-NESTING.false)) c.requires.front)
    (now (for1 _) _ _ c.in_err-name.ensures))

pub read_for-returns-in_err-low : goal.read_for-returns-in_err-low
read_for-returns-in_err-low t c =
    exit _ _ _ _ _ _ c.from_residual-in_err-low.ensures.1 (whole_err _ _ _ _ _ _
    (step_for _ _ _ (omega (arith, c.if-nesting-ge-NESTING.false)) c.requires.front)
    (later (for1 _) c.in_ok-name.ensures _ (now (for2 _) _ _ c.in_err-low.ensures)))

pub read_for-returns-in_err-high : goal.read_for-returns-in_err-high
read_for-returns-in_err-high t c =
    exit _ _ _ _ _ _ c.from_residual-in_err-high.ensures.1 (whole_err _ _ _ _ _ _
    (step_for _ _ _ (omega (arith, c.if-nesting-ge-NESTING.false)) c.requires.front)
    (later (for1 _) c.in_ok-name.ensures _ (later (for2 _) c.in_ok-low.ensures _
    (now (for3 _) _ _ c.in_err-high.ensures))))

pub read_for-returns-in_err-inside : goal.read_for-returns-in_err-inside
read_for-returns-in_err-inside t c =
    exit _ _ _ _ _ _ c.from_residual-in_err-inside.ensures.1 (whole_err _ _ _ _ _ _
    (step_for _ _ _ (omega (arith, c.if-nesting-ge-NESTING.false)) c.requires.front)
    (later (for1 _) c.in_ok-name.ensures _ (later (for2 _) c.in_ok-low.ensures _
    (later (for3 _) c.in_ok-high.ensures _ c.in_err-inside.ensures))))

pub read_for-returns : goal.read_for-returns
read_for-returns t c =
    rw (made_loop _ _ _ _, c.into_inner.ensures, c.into_inner-2.ensures)
    (step_taken _ _ _ _ _ _ _ (step_for _ _ _ (omega (arith, c.if-nesting-ge-NESTING.false)) c.requires.front)
    (both (for1 _) c.in_ok-name.ensures (both (for2 _) c.in_ok-low.ensures
    (both (for3 _) c.in_ok-high.ensures c.in_ok-inside.ensures))))

pub read_block-returns-in_err-after : goal.read_block-returns-in_err-after
read_block-returns-in_err-after t c = exit _ _ _ _ _ _ c.from_residual.ensures.1 (whole_err _ _ _ _ _ _ (step_block _ _) (now (block1 _) _ _ c.in_err-after.ensures))

pub read_block-returns-in_err-inside : goal.read_block-returns-in_err-inside
read_block-returns-in_err-inside t c = exit _ _ _ _ _ _ c.from_residual-in_err-inside.ensures.1 (whole_err _ _ _ _ _ _ (step_block _ _) (later (block1 _) c.in_ok-after.ensures _ c.in_err-inside.ensures))

pub read_block-returns : goal.read_block-returns
read_block-returns t c = step_taken _ _ _ _ _ _ _ (step_block _ _) (both (block1 _) c.in_ok-after.ensures c.in_ok-inside.ensures)

pub read_body-read_statement-requires : goal.read_body-read_statement-requires
read_body-read_statement-requires t c = (omega (arith, lines_shorter _ _ _ _ _ c.more.invariant), c.requires)

pub read_body-returns-in_err-statement : goal.read_body-returns-in_err-statement
read_body-returns-in_err-statement t c =
    exit _ _ _ _ _ _ c.from_residual.ensures.1 (lines_err _ _ _ _ _ _ (apart _) c.more.invariant
    c.in_err-statement.ensures)

pub read_body-returns-in-Some : goal.read_body-returns-in-Some
read_body-returns-in-Some t c =
    rw c.in_ok-push.ensures.items (lines_done _ _ _ _ _ _ _ _ (apart _) c.more.invariant
    c.in_ok-statement.ensures c.in-Some.ensures)

pub read_body-more-init : goal.read_body-more-init
read_body-more-init t c = inl (c.new-inside.ensures.items, refl)

pub read_body-more-preserved : goal.read_body-more-preserved
read_body-more-preserved t c =
    rw c.in_ok-push.ensures.items (lines_more _ _ _ _ _ _ _ (apart _) c.more.invariant c.in_ok-statement.ensures
    c.in_default.ensures)

pub read_body-more-smaller : goal.read_body-more-smaller
read_body-more-smaller t c = statement_shorter _ _ _ _ c.in_ok-statement.ensures

pub read_if-read_block-requires : goal.read_if-read_block-requires
read_if-read_block-requires t c = (
  omega (arith, c.decreases, taken_shorter c.in_ok-condition.ensures),
  omega (arith, c.if-nesting-ge-NESTING.false),
)

pub read_if-read_else-requires : goal.read_if-read_else-requires
read_if-read_else-requires t c = (
  omega (arith, c.decreases, taken_shorter c.in_ok-condition.ensures, taken_shorter c.in_ok-inside.ensures),
  omega (arith, c.if-nesting-ge-NESTING.false),
)

pub read_for-read_block-requires : goal.read_for-read_block-requires
read_for-read_block-requires t c = (
  omega (
    arith,
    c.decreases,
    taken_shorter c.in_ok-name.ensures,
    taken_shorter c.in_ok-low.ensures,
    taken_shorter c.in_ok-high.ensures,
  ),
  omega (arith, c.if-nesting-ge-NESTING.false),
)
