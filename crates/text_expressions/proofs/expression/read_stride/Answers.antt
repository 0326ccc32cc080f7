use Rattle.text_phrases.proofs.Exits.{exit}
use Rattle.text_phrases.proofs.Sequences.{step_taken}
use Rattle.text_phrases.proofs.Joints.{whole_err, now, later, both}
use Rattle.text_expressions.proofs.Made.{made_stride}
use Rattle.text_expressions.proofs.Productions.{step_stride, stride0, stride1, stride2, stride3}
use Rattle.text_expressions.proofs.Returns.{renamed}
use Rattle.text_expressions.proofs.expression.read_stride.Goals as goal

pub returns-in_err-rest-clause-reads : goal.returns-in_err-rest-clause-reads
returns-in_err-rest-clause-reads c = exit _ _ _ _ _ _ c.from_residual.ensures.1 (whole_err _ _ _ _ _ _ (step_stride _ _ c.requires.place) (now stride0 _ _ c.in_err-rest.ensures))

pub returns-in_err-name-clause-reads : goal.returns-in_err-name-clause-reads
returns-in_err-name-clause-reads c = exit _ _ _ _ _ _ c.from_residual-in_err-name.ensures.1 (whole_err _ _ _ _ _ _ (step_stride _ _ c.requires.place) (later stride0 c.in_ok-rest.ensures _ (now stride1 _ _ c.in_err-name.ensures)))

pub returns-in_err-rest-2-clause-reads : goal.returns-in_err-rest-2-clause-reads
returns-in_err-rest-2-clause-reads c = exit _ _ _ _ _ _ c.from_residual-in_err-rest-2.ensures.1 (whole_err _ _ _ _ _ _ (step_stride _ _ c.requires.place) (later stride0 c.in_ok-rest.ensures _ (later stride1 c.in_ok-name.ensures _ (now stride2 _ _ c.in_err-rest-2.ensures))))

pub returns-in_err-dimension-clause-reads : goal.returns-in_err-dimension-clause-reads
returns-in_err-dimension-clause-reads c = exit _ _ _ _ _ _ c.from_residual-in_err-dimension.ensures.1 (whole_err _ _ _ _ _ _ (step_stride _ _ c.requires.place) (later stride0 c.in_ok-rest.ensures _ (later stride1 c.in_ok-name.ensures _ (later stride2 c.in_ok-rest-2.ensures _ (now stride3 _ _ c.in_err-dimension.ensures)))))

pub returns-in_err-rest-3-clause-reads : goal.returns-in_err-rest-3-clause-reads
returns-in_err-rest-3-clause-reads c = exit _ _ _ _ _ _ c.from_residual-in_err-rest-3.ensures.1 (whole_err _ _ _ _ _ _ (step_stride _ _ c.requires.place) (later stride0 c.in_ok-rest.ensures _ (later stride1 c.in_ok-name.ensures _ (later stride2 c.in_ok-rest-2.ensures _ (later stride3 c.in_ok-dimension.ensures _ c.in_err-rest-3.ensures)))))

pub returns-clause-reads : goal.returns-clause-reads
returns-clause-reads c = c.leaf.ensures.reads _ _ (renamed (made_stride _ _) (step_taken _ _ _ _ _ _ _ (step_stride _ _ c.requires.place) (both stride0 c.in_ok-rest.ensures (both stride1 c.in_ok-name.ensures (both stride2 c.in_ok-rest-2.ensures (both stride3 c.in_ok-dimension.ensures c.in_ok-rest-3.ensures))))))
