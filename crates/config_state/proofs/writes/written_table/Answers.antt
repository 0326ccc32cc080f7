use Rattle.std.proofs.Common.{◌≡◌, ◌∷◌, ◌+◌, [], drop, length, map, sym, ap, ◌∙◌, subst, false}
use Rattle.std.specs.Prelude.{replicate}
use Rattle.std.proofs.lemmas.List.{drop_all}
use Rattle.exo_tree.specs.Tree.{block}
use Rattle.exo_tree.specs.PlainProcedure.{procedure}
use Rattle.meaning_laws.specs.Fields.{writes_field}
use Rattle.config_state.specs.FieldSets.{in_table, Marked}
use Rattle.config_state.proofs.Sets.{drop_item}
use Rattle.config_state.proofs.Tables.{Written, written_start, written_next, written_all}
use Rattle.config_state.proofs.writes.written_table.Goals as goal

pub loop-p-init : goal.loop-p-init
loop-p-init c =
    let n = length c.args.unit.now.fields in
    subst (λ t. Written n t (map procedure c.as_slice-p-items.result.now) c.args.unit.now.procs) (sym c.new-table.ensures)
    (subst (λ r. Written n [] r c.args.unit.now.procs) (sym c.as_slice-p-items.ensures) (written_start n c.args.unit.now.procs))

pub loop-p-preserved : goal.loop-p-preserved
loop-p-preserved c =
    let n = length c.args.unit.now.fields in
    let rest = map procedure (drop (c.loop-p.p-index + 1) c.as_slice-p-items.result.now) in
    let one : drop c.loop-p.p-index c.as_slice-p-items.result.now ≡ c.p-item.result ∷ drop (c.loop-p.p-index + 1) c.as_slice-p-items.result.now = drop_item c.as_slice-p-items.result.now c.loop-p.p-index c.p-item.result c.loop-p-test.true c.p-item.is in
    let empty : c.in_ok-set.set ≡ replicate n false = c.in_ok-set.ensures ∙ ap (λ m. replicate m false) c.len.ensures in
    subst (λ t. Written n t rest c.args.unit.now.procs) (sym c.in_ok-push.ensures.pushed)
    (written_next n c.loop-p.table (procedure c.p-item.result) rest c.args.unit.now.procs c.add_written.new.set
    (subst (λ s. Marked (λ f. writes_field (in_table c.loop-p.table) f (block c.p-item.result.body)) s c.add_written.new.set) empty c.add_written.ensures)
    (subst (λ z. Written n c.loop-p.table (map procedure z) c.args.unit.now.procs) one c.loop-p.invariant))

pub returns : goal.returns
returns c =
    let n = length c.args.unit.now.fields in
    written_all n c.loop-p.table c.args.unit.now.procs (subst (λ z. Written n c.loop-p.table (map procedure z) c.args.unit.now.procs) (drop_all c.loop-p.p-index c.as_slice-p-items.result.now c.loop-p-test.false) c.loop-p.invariant)
