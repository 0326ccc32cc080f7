use Rattle.text_phrases.proofs.Exits.{exit}
use Rattle.text_phrases.proofs.Sequences.{step_taken}
use Rattle.text_phrases.proofs.Joints.{whole_err, now, later, both}
use Rattle.exo_reader.proofs.Made.{made_allocate}
use Rattle.exo_reader.proofs.Statements.{step_allocation, alloc1, alloc2, alloc3}
use Rattle.exo_reader.proofs.statement.read_allocation.Goals as goal

pub returns-in_err-kind : goal.returns-in_err-kind
returns-in_err-kind c = λ nesting. exit _ _ _ _ _ _ c.from_residual.ensures.1 (whole_err _ _ _ _ _ _ (step_allocation nesting _ _ c.requires) (now alloc1 _ _ c.in_err-kind.ensures))

pub returns-in_err-list : goal.returns-in_err-list
returns-in_err-list c = λ nesting. exit _ _ _ _ _ _ c.from_residual-in_err-list.ensures.1 (whole_err _ _ _ _ _ _ (step_allocation nesting _ _ c.requires) (later alloc1 c.in_ok-kind.ensures _ (now alloc2 _ _ c.in_err-list.ensures)))

pub returns-in_err-memory : goal.returns-in_err-memory
returns-in_err-memory c = λ nesting. exit _ _ _ _ _ _ c.from_residual-in_err-memory.ensures.1 (whole_err _ _ _ _ _ _ (step_allocation nesting _ _ c.requires) (later alloc1 c.in_ok-kind.ensures _ (later alloc2 c.in_ok-list.ensures _ (now alloc3 _ _ c.in_err-memory.ensures))))

pub returns-in_err-rest : goal.returns-in_err-rest
returns-in_err-rest c = λ nesting. exit _ _ _ _ _ _ c.from_residual-in_err-rest.ensures.1 (whole_err _ _ _ _ _ _ (step_allocation nesting _ _ c.requires) (later alloc1 c.in_ok-kind.ensures _ (later alloc2 c.in_ok-list.ensures _ (later alloc3 c.in_ok-memory.ensures _ c.in_err-rest.ensures))))

pub returns : goal.returns
returns c = λ nesting. rw (made_allocate _ _ _ _) (step_taken _ _ _ _ _ _ _ (step_allocation nesting _ _ c.requires) (both alloc1 c.in_ok-kind.ensures (both alloc2 c.in_ok-list.ensures (both alloc3 c.in_ok-memory.ensures c.in_ok-rest.ensures))))
