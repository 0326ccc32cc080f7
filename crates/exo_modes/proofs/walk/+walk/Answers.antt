use Rattle.std.proofs.Common.{◌≤◌, true, false, List, length, drop, take, refl, ap, sym, ◌∙◌, arith}
use Rattle.std.proofs.lemmas.List.{take_all}
use Rattle.exo_tree.specs.Tree.{block}
use Rattle.exo_tree.specs.PlainBinder.{binding, cell_type}
use Rattle.exo_tree.specs.PlainControl.{condition}
use Rattle.exo_tree.specs.PlainDatum.{datum}
use Rattle.exo_tree.specs.PlainStatement.{statement}
use Rattle.exo_meaning.specs.Modes.{picked}
use Rattle.exo_meaning.specs.Run.{roots_after}
use Rattle.exo_meaning.specs.Scene.{updated}
use Rattle.exo_modes.specs.Marks.{together, used, reads, block_marks, call_marks, step_marks}
use Rattle.exo_modes.specs.Aliases.{roots_in}
use Rattle.exo_modes.specs.declared.aliases.Alias.{Alias}
use Rattle.exo_modes.specs.Seen.{row_says, rows_say}
use Rattle.exo_modes.proofs.Unions.{nothing_more}
use Rattle.exo_modes.proofs.Walks.{kept_same, anyhow, made_of}
use Rattle.exo_modes.proofs.Walks.{assigned, reduced, made, branched, walked_on, walked_off, kept_on}
use Rattle.exo_modes.proofs.walk.+walk.Goals as goal

pub walk_statement-returns-in_ok-insert-in-Assign-clause-marks : goal.walk_statement-returns-in_ok-insert-in-Assign-clause-marks
walk_statement-returns-in_ok-insert-in-Assign-clause-marks t c =
    let o = row_says c.args.row.now in
    let ps = c.args.above.now.procs.now in
    let ms = rows_say c.args.above.now.rows.now in
    let known = roots_in c.args.aliases.now.items in
    let e = datum c.in-Assign.e in
    let is = sym (ap statement c.in-Assign.is) in
    let i =
    c.in_ok-insert-in-Assign.ensures
    ∙ ap (λ y. together o (used (λ m. picked m false true false) y))
    (c.root.ensures ∙ ap (λ xs. roots_in xs c.in-Assign.x.0) c.deref.ensures.value) in
    made_of c.mark_reads.result (λ f. f) (row_says c.mark_reads.new.row) _ _ c.mark_reads.ensures
    (ap (λ xs. together (row_says c.insert.new.self) (reads (roots_in xs) e))
    c.deref-in-Assign.ensures.value
    ∙ assigned ps ms known c.in-Assign.x.0 c.in-Assign.field-1 e o _ i
    ∙ ap (λ s. together o (step_marks ps ms known s)) is)

pub walk_statement-returns-in_ok-insert-in-Assign-clause-roots : goal.walk_statement-returns-in_ok-insert-in-Assign-clause-roots
walk_statement-returns-in_ok-insert-in-Assign-clause-roots t c =
    let root = roots_in c.args.aliases.now.items in
    let is = sym (ap statement c.in-Assign.is) in
    anyhow c.mark_reads.result (ap (λ s. roots_after s root) is)

pub walk_statement-returns-in_ok-insert-in-Assign-clause-kept : goal.walk_statement-returns-in_ok-insert-in-Assign-clause-kept
walk_statement-returns-in_ok-insert-in-Assign-clause-kept t c =
    anyhow c.mark_reads.result (kept_same c.args.aliases.now.items)

pub walk_statement-returns-in_ok-insert-in-Reduce-clause-marks : goal.walk_statement-returns-in_ok-insert-in-Reduce-clause-marks
walk_statement-returns-in_ok-insert-in-Reduce-clause-marks t c =
    let o = row_says c.args.row.now in
    let ps = c.args.above.now.procs.now in
    let ms = rows_say c.args.above.now.rows.now in
    let known = roots_in c.args.aliases.now.items in
    let e = datum c.in-Reduce.e in
    let is = sym (ap statement c.in-Reduce.is) in
    let i =
    c.in_ok-insert-in-Reduce.ensures
    ∙ ap (λ y. together o (used (λ m. picked m false false true) y))
    (c.root-in-Reduce.ensures ∙ ap (λ xs. roots_in xs c.in-Reduce.x.0) c.deref-in-Reduce.ensures.value) in
    made_of c.mark_reads-in-Reduce.result (λ f. f) (row_says c.mark_reads-in-Reduce.new.row) _ _ c.mark_reads-in-Reduce.ensures
    (ap (λ xs. together (row_says c.insert-in-Reduce.new.self) (reads (roots_in xs) e))
    c.deref-in-Reduce-2.ensures.value
    ∙ reduced ps ms known c.in-Reduce.x.0 c.in-Reduce.field-1 e o _ i
    ∙ ap (λ s. together o (step_marks ps ms known s)) is)

pub walk_statement-returns-in_ok-insert-in-Reduce-clause-roots : goal.walk_statement-returns-in_ok-insert-in-Reduce-clause-roots
walk_statement-returns-in_ok-insert-in-Reduce-clause-roots t c =
    let root = roots_in c.args.aliases.now.items in
    let is = sym (ap statement c.in-Reduce.is) in
    anyhow c.mark_reads-in-Reduce.result (ap (λ s. roots_after s root) is)

pub walk_statement-returns-in_ok-insert-in-Reduce-clause-kept : goal.walk_statement-returns-in_ok-insert-in-Reduce-clause-kept
walk_statement-returns-in_ok-insert-in-Reduce-clause-kept t c =
    anyhow c.mark_reads-in-Reduce.result (kept_same c.args.aliases.now.items)

pub walk_statement-returns-in_ok-insert-in-Alloc-clause-marks : goal.walk_statement-returns-in_ok-insert-in-Alloc-clause-marks
walk_statement-returns-in_ok-insert-in-Alloc-clause-marks t c =
    let o = row_says c.args.row.now in
    let ps = c.args.above.now.procs.now in
    let ms = rows_say c.args.above.now.rows.now in
    let root = roots_in c.args.aliases.now.items in
    let is = sym (ap statement c.in-Alloc.is) in
    anyhow c.set_root.result
    (made ps ms root (binding c.in-Alloc.x) (cell_type c.in-Alloc.field-1) c.in-Alloc.field-2
    c.in-Alloc.field-3.0 o _ c.in_ok-insert-in-Alloc.ensures
    ∙ ap (λ s. together o (step_marks ps ms root s)) is)

pub walk_statement-returns-in_ok-insert-in-Alloc-clause-roots : goal.walk_statement-returns-in_ok-insert-in-Alloc-clause-roots
walk_statement-returns-in_ok-insert-in-Alloc-clause-roots t c =
    let root = roots_in c.args.aliases.now.items in
    let is = sym (ap statement c.in-Alloc.is) in
    made_of c.set_root.result (λ f. f) (roots_in c.set_root.new.aliases.items) _ _
    c.set_root.ensures.set
    (ap (λ s. roots_after s root) is)

pub walk_statement-returns-in_ok-insert-in-Alloc-clause-kept : goal.walk_statement-returns-in_ok-insert-in-Alloc-clause-kept
walk_statement-returns-in_ok-insert-in-Alloc-clause-kept t c = c.set_root.ensures.kept

pub walk_statement-returns-in_ok-walk_block-in-If-2-clause-marks : goal.walk_statement-returns-in_ok-walk_block-in-If-2-clause-marks
walk_statement-returns-in_ok-walk_block-in-If-2-clause-marks t c =
    let o = row_says c.args.row.now in
    let i = c.in_ok-walk_block-in-If-2.ensures.marks ∙ ap (λ xs. together (row_says c.walk_block.new.row) (block_marks c.args.above.now.procs.now (rows_say c.args.above.now.rows.now) (roots_in xs) (block c.in-If.b))) c.in_ok-walk_block-in-If.ensures.kept in
    branched c.args.above.now.procs.now (rows_say c.args.above.now.rows.now) (roots_in c.args.aliases.now.items) (condition c.in-If.field-0) (block c.in-If.a) (block c.in-If.b) o _ _ c.in_ok-walk_block-in-If.ensures.marks i
    ∙ ap (λ s. together o (step_marks c.args.above.now.procs.now (rows_say c.args.above.now.rows.now) (roots_in c.args.aliases.now.items) s)) (sym (ap statement c.in-If.is))

pub walk_block-loop-k-preserved : goal.walk_block-loop-k-preserved
walk_block-loop-k-preserved t c = (
  walked_on c.args.above.now.procs.now (rows_say c.args.above.now.rows.now) (roots_in c.loop-k.aliases.items) (roots_in c.walk_statement.new.aliases.items) (row_says c.loop-k.row) (row_says c.walk_statement.new.row) _ (statement c.statement.result.now) (drop c.loop-k.k c.args.b.now) _ c.statement.ensures.value c.in_ok-walk_statement.ensures.marks c.in_ok-walk_statement.ensures.roots c.loop-k.invariant.0,
  kept_on _ c.loop-k.aliases.items c.walk_statement.new.aliases.items _ c.loop-k.invariant.1.0 c.loop-k.invariant.1.1 c.in_ok-walk_statement.ensures.kept,
)

pub walk_block-returns-clause-marks : goal.walk_block-returns-clause-marks
walk_block-returns-clause-marks t c =
    let h : length c.args.b.now ≤ c.loop-k.k = omega (arith, c.len-k-end.ensures, c.loop-k-test.false) in
    walked_off c.args.above.now.procs.now (rows_say c.args.above.now.rows.now) (roots_in c.loop-k.aliases.items) (row_says c.loop-k.row) _ c.args.b.now c.loop-k.k h c.loop-k.invariant.0

pub walk_statement-returns-in_ok-walk_block-in-If-2-clause-roots
    : goal.walk_statement-returns-in_ok-walk_block-in-If-2-clause-roots
walk_statement-returns-in_ok-walk_block-in-If-2-clause-roots t c =
    let root = roots_in c.args.aliases.now.items in
    let is = sym (ap statement c.in-If.is) in
    ap roots_in (c.in_ok-walk_block-in-If-2.ensures.kept ∙ c.in_ok-walk_block-in-If.ensures.kept)
    ∙ ap (λ s. roots_after s root) is

pub walk_statement-returns-in_ok-walk_block-in-If-2-clause-kept
    : goal.walk_statement-returns-in_ok-walk_block-in-If-2-clause-kept
walk_statement-returns-in_ok-walk_block-in-If-2-clause-kept t c =
    let known = c.args.aliases.now.items in
    ap (take (length known))
    (c.in_ok-walk_block-in-If-2.ensures.kept ∙ c.in_ok-walk_block-in-If.ensures.kept)
    ∙ kept_same known

pub walk_statement-returns-in-For-clause-marks : goal.walk_statement-returns-in-For-clause-marks
walk_statement-returns-in-For-clause-marks t c =
    let o = row_says c.args.row.now in
    let ps = c.args.above.now.procs.now in
    let ms = rows_say c.args.above.now.rows.now in
    let root = roots_in c.args.aliases.now.items in
    let is = sym (ap statement c.in-For.is) in
    made_of c.walk_block-in-For.result (λ f. f) (row_says c.walk_block-in-For.new.row) _ _
    c.walk_block-in-For.ensures.marks
    (ap (λ s. together o (step_marks ps ms root s)) is)

pub walk_statement-returns-in-For-clause-roots : goal.walk_statement-returns-in-For-clause-roots
walk_statement-returns-in-For-clause-roots t c =
    let known = c.args.aliases.now.items in
    let root = roots_in known in
    let is = sym (ap statement c.in-For.is) in
    made_of c.walk_block-in-For.result roots_in c.walk_block-in-For.new.aliases.items known _
    c.walk_block-in-For.ensures.kept
    (ap (λ s. roots_after s root) is)

pub walk_statement-returns-in-For-clause-kept : goal.walk_statement-returns-in-For-clause-kept
walk_statement-returns-in-For-clause-kept t c =
    let known = c.args.aliases.now.items in
    made_of c.walk_block-in-For.result (take (length known)) c.walk_block-in-For.new.aliases.items
    known known c.walk_block-in-For.ensures.kept (kept_same known)

pub walk_statement-returns-in-View-clause-marks : goal.walk_statement-returns-in-View-clause-marks
walk_statement-returns-in-View-clause-marks t c =
    let o = row_says c.args.row.now in
    let ps = c.args.above.now.procs.now in
    let ms = rows_say c.args.above.now.rows.now in
    let root = roots_in c.args.aliases.now.items in
    let is = sym (ap statement c.in-View.is) in
    anyhow c.set_root-in-View.result
    (sym (nothing_more o) ∙ ap (λ s. together o (step_marks ps ms root s)) is)

pub walk_statement-returns-in-View-clause-roots : goal.walk_statement-returns-in-View-clause-roots
walk_statement-returns-in-View-clause-roots t c =
    let root = roots_in c.args.aliases.now.items in
    let is = sym (ap statement c.in-View.is) in
    let found = ap (λ xs. roots_in xs c.in-View.x.0) c.deref-in-View.ensures.value in
    made_of c.set_root-in-View.result (λ f. f) (roots_in c.set_root-in-View.new.aliases.items) _ _
    c.set_root-in-View.ensures.set
    (ap (updated root c.in-View.w.id.0) (c.root-buffer.ensures ∙ found)
    ∙ ap (λ s. roots_after s root) is)

pub walk_statement-returns-in-View-clause-kept : goal.walk_statement-returns-in-View-clause-kept
walk_statement-returns-in-View-clause-kept t c =
    c.set_root-in-View.ensures.kept

pub walk_statement-returns-in-Call-clause-marks : goal.walk_statement-returns-in-Call-clause-marks
walk_statement-returns-in-Call-clause-marks t c =
    let o = row_says c.args.row.now in
    let ps = c.args.above.now.procs.now in
    let ms = rows_say c.args.above.now.rows.now in
    let root = roots_in c.args.aliases.now.items in
    let is = sym (ap statement c.in-Call.is) in
    let k = c.in-Call.k.0 in
    let args = c.in-Call.args in
    let call = λ (xs : List Alias). together o (call_marks ps ms (roots_in xs) k args) in
    made_of c.mark_call.result (λ f. f) (row_says c.mark_call.new.row) _ _ c.mark_call.ensures
    (ap call c.deref-in-Call.ensures.value ∙ ap (λ s. together o (step_marks ps ms root s)) is)

pub walk_statement-returns-in-Call-clause-roots : goal.walk_statement-returns-in-Call-clause-roots
walk_statement-returns-in-Call-clause-roots t c =
    let root = roots_in c.args.aliases.now.items in
    let is = sym (ap statement c.in-Call.is) in
    anyhow c.mark_call.result (ap (λ s. roots_after s root) is)

pub walk_statement-returns-in-Call-clause-kept : goal.walk_statement-returns-in-Call-clause-kept
walk_statement-returns-in-Call-clause-kept t c =
    anyhow c.mark_call.result (kept_same c.args.aliases.now.items)

pub walk_statement-returns-in_default-clause-kept
    : goal.walk_statement-returns-in_default-clause-kept
walk_statement-returns-in_default-clause-kept t c =
    kept_same c.args.aliases.now.items

pub walk_block-loop-k-init : goal.walk_block-loop-k-init
walk_block-loop-k-init t c = (
  refl,
  (
    take_all c.len-known.result c.args.aliases.now.items (omega (arith, c.len-known.ensures)),
    omega (arith, c.len-known.ensures),
  ),
)
