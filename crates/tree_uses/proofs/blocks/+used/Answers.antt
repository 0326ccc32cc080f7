use Rattle.std.proofs.Common.{◌+◌, Bool, ◌&&◌, List, drop, refl, sym, ap, ap₂, ◌∙◌, arith, ◌≤◌}
use Rattle.std.proofs.Common.{length}
use Rattle.std.proofs.lemmas.List.{drop_all}
use Rattle.std.proofs.lemmas.Result.{IfOk-from_err}
use Rattle.exo_tree.specs.Tree.{Statement, block}
use Rattle.exo_tree.specs.PlainBinder.{binding}
use Rattle.exo_tree.specs.PlainControl.{control, condition}
use Rattle.exo_tree.specs.PlainStatement.{statement}
use Rattle.exo_tree.specs.Tree as tree
use Rattle.exo_tree.specs.declared.block.Stmt.{Stmt}
use Rattle.exo_tree.proofs.Walk.{walk_on, walk_end}
use Rattle.tree_uses.specs.Uses.{Uses, used_condition, used_statement, used, condition_fits}
use Rattle.tree_uses.specs.Uses.{statement_fits, used_fits}
use Rattle.tree_uses.proofs.Nodes.{node_made, passed_on, with_one, with_two, last_off}
use Rattle.tree_uses.proofs.Nodes.{handed_on, handed_wide, no_memory}
use Rattle.tree_uses.proofs.blocks.+used.Goals as goal

abbrev used_of : Uses → Stmt → tree.Statement
used_of to s = used_statement to (statement s)

abbrev fits_of : Uses → Stmt → Bool
fits_of to s = statement_fits to (statement s)

pub used-loop-k-preserved : goal.used-loop-k-preserved
used-loop-k-preserved g t c =
    let to = g.U.Uses.uses c.args.uses.now in
    let rest = drop (c.loop-k.k + 1) c.args.b.now in (
      walk_on (used to) (used_statement to) (λ a b. refl) c.loop-k.made c.push.new.self c.args.b.now
          rest c.loop-k.k (statement c.statement.result.now)
          (statement c.in_ok-used_statement.field-0) (used to (block c.args.b.now))
          c.statement.ensures.value c.in_ok-used_statement.ensures.value c.in_ok-push.ensures.pushed
          c.loop-k.invariant.0,
      ap (λ (s : Bool). s && used_fits to (block rest)) (sym c.in_ok-used_statement.ensures.fits)
          ∙ sym (ap (λ (ss : List Statement). used_fits to (block ss)) c.statement.ensures.value)
          ∙ c.loop-k.invariant.1,
    )

pub used-returns-clause-value : goal.used-returns-clause-value
used-returns-clause-value g t c =
    let to = g.U.Uses.uses c.args.uses.now in
    walk_end (used to) refl c.loop-k.made c.args.b.now c.loop-k.k (used to (block c.args.b.now))
    (omega arith) c.loop-k.invariant.0

pub used-returns-clause-fits : goal.used-returns-clause-fits
used-returns-clause-fits g t c =
    let to = g.U.Uses.uses c.args.uses.now in
    let done : length c.args.b.now ≤ c.loop-k.k = omega arith in
    sym c.loop-k.invariant.1 ∙ ap (λ (ss : List Statement). used_fits to (block ss))
    (drop_all c.loop-k.k c.args.b.now done)

pub used-returns-in_err-used_statement-clause-value
    : goal.used-returns-in_err-used_statement-clause-value
used-returns-in_err-used_statement-clause-value g t c =
    IfOk-from_err c.from_residual.result _ c.from_residual.ensures.0

pub used-returns-in_err-push : goal.used-returns-in_err-push
used-returns-in_err-push g t c =
    no_memory c.from_residual-in_err-push.result _ _ c.from_residual-in_err-push.ensures.1

pub used_statement-returns-in-Pass : goal.used_statement-returns-in-Pass
used_statement-returns-in-Pass g t c =
    let to = g.U.Uses.uses c.args.uses.now in
    node_made (used_of to) (fits_of to) c.in-Pass.is refl refl

pub used_statement-returns-in_ok-used_argument-in-Config
    : goal.used_statement-returns-in_ok-used_argument-in-Config
used_statement-returns-in_ok-used_argument-in-Config g t c =
    let to = g.U.Uses.uses c.args.uses.now in
    let made = c.in_ok-used_argument-in-Config.ensures in
    node_made (used_of to) (fits_of to) c.in-Config.is
    (ap (tree.Config c.in-Config.f.0) made.value) made.fits

pub used_statement-returns-in_err-used_argument-in-Config
    : goal.used_statement-returns-in_err-used_argument-in-Config
used_statement-returns-in_err-used_argument-in-Config g t c =
    let told = c.from_residual in
    let error = c.in_err-used_argument-in-Config in
    handed_on told.result error.field-0.0 _ told.ensures.1 error.ensures.fits
    (sym (ap (fits_of (g.U.Uses.uses c.args.uses.now)) c.in-Config.is))

pub used_statement-returns-in_ok-used_arguments-in-Call
    : goal.used_statement-returns-in_ok-used_arguments-in-Call
used_statement-returns-in_ok-used_arguments-in-Call g t c =
    let to = g.U.Uses.uses c.args.uses.now in
    let made = c.in_ok-used_arguments-in-Call.ensures in
    node_made (used_of to) (fits_of to) c.in-Call.is
    (ap (tree.Call c.in-Call.p.0) made.value) made.fits

pub used_statement-returns-in_err-used_arguments-in-Call
    : goal.used_statement-returns-in_err-used_arguments-in-Call
used_statement-returns-in_err-used_arguments-in-Call g t c =
    let told = c.from_residual-in_err-used_arguments-in-Call in
    let error = c.in_err-used_arguments-in-Call in
    handed_on told.result error.field-0.0 _ told.ensures.1 error.ensures.fits
    (sym (ap (fits_of (g.U.Uses.uses c.args.uses.now)) c.in-Call.is))

pub used_statement-returns-in-Alloc : goal.used_statement-returns-in-Alloc
used_statement-returns-in-Alloc g t c =
    let to = g.U.Uses.uses c.args.uses.now in
    passed_on c.allocation.result statement c.allocation.ensures.value c.allocation.ensures.fits
    (sym (ap (used_of to) c.in-Alloc.is)) (sym (ap (fits_of to) c.in-Alloc.is))

pub used_statement-returns-in-View : goal.used_statement-returns-in-View
used_statement-returns-in-View g t c =
    let to = g.U.Uses.uses c.args.uses.now in
    passed_on c.view.result statement c.view.ensures.value c.view.ensures.fits
    (sym (ap (used_of to) c.in-View.is)) (sym (ap (fits_of to) c.in-View.is))

pub used_statement-returns-in-Assign : goal.used_statement-returns-in-Assign
used_statement-returns-in-Assign g t c =
    let to = g.U.Uses.uses c.args.uses.now in
    passed_on c.assignment.result statement c.assignment.ensures.value c.assignment.ensures.fits
    (sym (ap (used_of to) c.in-Assign.is)) (sym (ap (fits_of to) c.in-Assign.is))

pub used_statement-returns-in-Reduce : goal.used_statement-returns-in-Reduce
used_statement-returns-in-Reduce g t c =
    let to = g.U.Uses.uses c.args.uses.now in
    passed_on c.reduction.result statement c.reduction.ensures.value c.reduction.ensures.fits
    (sym (ap (used_of to) c.in-Reduce.is)) (sym (ap (fits_of to) c.in-Reduce.is))

pub used_statement-returns-in_ok-used-in-If-2 : goal.used_statement-returns-in_ok-used-in-If-2
used_statement-returns-in_ok-used-in-If-2 g t c =
    let to = g.U.Uses.uses c.args.uses.now in
    let cond = used_condition to (condition c.in-If.c) in
    let main = c.in_ok-used-in-If.ensures in
    let other = c.in_ok-used-in-If-2.ensures in
    passed_on c.branches.result statement c.branches.ensures.value c.branches.ensures.fits
    (ap₂ (λ a b. tree.If cond a b) main.value other.value ∙ sym (ap (used_of to) c.in-If.is))
    (with_two (condition_fits to (condition c.in-If.c)) (used_fits to (block c.in-If.a))
    (used_fits to (block c.in-If.b)) main.fits other.fits ∙ sym (ap (fits_of to) c.in-If.is))

pub used_statement-returns-in_err-used-in-If : goal.used_statement-returns-in_err-used-in-If
used_statement-returns-in_err-used-in-If g t c =
    let to = g.U.Uses.uses c.args.uses.now in
    let told = c.from_residual-in_err-used-in-If in
    let error = c.in_err-used-in-If in
    let own = used_fits to (block c.in-If.a) in
    let other = used_fits to (block c.in-If.b) in
    handed_wide told.result error.field-0.0 _ told.ensures.1 error.ensures.fits
    (λ h. ap (fits_of to) c.in-If.is
    ∙ last_off (condition_fits to (condition c.in-If.c)) (own && other)
    (ap (λ (b : Bool). b && other) h))

pub used_statement-returns-in_err-used-in-If-2 : goal.used_statement-returns-in_err-used-in-If-2
used_statement-returns-in_err-used-in-If-2 g t c =
    let to = g.U.Uses.uses c.args.uses.now in
    let told = c.from_residual-in_err-used-in-If-2 in
    let error = c.in_err-used-in-If-2 in
    let own = used_fits to (block c.in-If.a) in
    let other = used_fits to (block c.in-If.b) in
    handed_wide told.result error.field-0.0 _ told.ensures.1 error.ensures.fits
    (λ h. ap (fits_of to) c.in-If.is
    ∙ last_off (condition_fits to (condition c.in-If.c)) (own && other) (last_off own other h))

pub used_statement-returns-in_ok-used-in-For : goal.used_statement-returns-in_ok-used-in-For
used_statement-returns-in_ok-used-in-For g t c =
    let to = g.U.Uses.uses c.args.uses.now in
    let head = tree.For (to.binder (binding c.in-For.i)) (to.control (control c.in-For.lo))
    (to.control (control c.in-For.hi)) in
    let made = c.in_ok-used-in-For.ensures in
    passed_on c.loop_over.result statement c.loop_over.ensures.value c.loop_over.ensures.fits
    (ap head made.value ∙ sym (ap (used_of to) c.in-For.is))
    (with_one (to.control_fits (control c.in-For.lo) && to.control_fits (control c.in-For.hi))
    (used_fits to (block c.in-For.body)) made.fits ∙ sym (ap (fits_of to) c.in-For.is))

pub used_statement-returns-in_err-used-in-For : goal.used_statement-returns-in_err-used-in-For
used_statement-returns-in_err-used-in-For g t c =
    let to = g.U.Uses.uses c.args.uses.now in
    let told = c.from_residual-in_err-used-in-For in
    let error = c.in_err-used-in-For in
    handed_wide told.result error.field-0.0 _ told.ensures.1 error.ensures.fits
    (λ h. ap (fits_of to) c.in-For.is
    ∙ last_off (to.control_fits (control c.in-For.lo) && to.control_fits (control c.in-For.hi))
    (used_fits to (block c.in-For.body)) h)
