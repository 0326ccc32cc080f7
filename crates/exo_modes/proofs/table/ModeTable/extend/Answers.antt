use Rattle.std.proofs.Common.{◌≡◌, ◌≤◌, [], ◌∷◌, ◌++◌, length, take, ap, sym, ◌∙◌, arith}
use Rattle.std.proofs.lemmas.List.{map-append, length-map, length_push, take_all}
use Rattle.exo_tree.specs.Tree.{block}
use Rattle.exo_tree.specs.declared.procedure.Proc.{Proc}
use Rattle.exo_tree.specs.PlainUnit.{program}
use Rattle.exo_tree.specs.PlainProcedure.{procedure}
use Rattle.exo_meaning.specs.Run.{kinds_of, callees, world_of}
use Rattle.exo_meaning.specs.Modes.{modes_at, modes_in, all_modes}
use Rattle.exo_modes.specs.Marks.{block_marks}
use Rattle.exo_modes.specs.Seen.{row_says, rows_say}
use Rattle.exo_modes.proofs.Callees.{take_read}
use Rattle.exo_modes.proofs.Procedures.{marks_are, one_more, begun}
use Rattle.exo_modes.proofs.table.ModeTable.extend.Goals as goal

pub loop-k-init : goal.loop-k-init
loop-k-init c =
    let old = c.args.self.now.rows.items in
    let b = begun (rows_say old) (program c.args.unit.now) c.requires in
    let many : length (rows_say old) ≡ c.len-k.result = omega (arith, length-map old row_says, c.len-k.ensures) in (
      b.0 ∙ ap (λ n. all_modes (kinds_of c.args.unit.now.fields) [] [] (take n c.args.unit.now.procs)) many,
      omega (arith, length-map old row_says, many),
      omega (arith, b.1, many),
    )

pub loop-k-preserved : goal.loop-k-preserved
loop-k-preserved c =
    let ps = c.args.unit.now.procs in
    let kinds = kinds_of c.args.unit.now.fields in
    let old = c.loop-k.self.rows.items in
    let k = c.loop-k.k in
    let before = take k ps in
    let p = procedure c.index-procs-k.result in
    let taken = take_read procedure c.as_slice-procs.result.now ps k c.index-procs-k.result c.as_slice-procs.ensures c.index-procs-k.is c.loop-k-test.true in
    let many : length (rows_say old) ≡ k = omega (arith, length-map old row_says, c.loop-k.invariant.1) in
    let row =
    c.in_ok-row.ensures.says
    ∙ ap (λ (q : Proc). block_marks ps (rows_say c.deref.result.now) (λ y. y) (block q.body)) (sym c.index-procs-k.is)
    ∙ ap (λ rows. block_marks ps (rows_say rows) (λ y. y) p.body) c.deref.ensures.value
    ∙ marks_are kinds ps (rows_say old) p
    ∙ ap (λ n. modes_in (world_of kinds (callees kinds [] (take n ps))) (modes_at (rows_say old)) p) many
    ∙ ap (λ ms. modes_in (world_of kinds (callees kinds [] before)) (modes_at ms) p) c.loop-k.invariant.0 in (
      ap rows_say c.in_ok-push.ensures.items ∙ map-append row_says old _ ∙ (λ i. c.loop-k.invariant.0 i ++ row i ∷ []) ∙ sym (one_more kinds _ before p taken),
      omega (arith, ap length c.in_ok-push.ensures.items, length_push old c.in_ok-row.row, c.loop-k.invariant.1),
      omega (arith, c.loop-k-test.true, ap length c.as_slice-procs.ensures, length-map c.as_slice-procs.result.now procedure),
    )

pub returns : goal.returns
returns c =
    let ps = c.args.unit.now.procs in
    let items = c.as_slice-procs.result.now in
    let same = ap length c.as_slice-procs.ensures in
    let done : length ps ≤ c.loop-k.k = omega
    (arith, c.loop-k-test.false, same, length-map items procedure) in
    c.loop-k.invariant.0
    ∙ ap (all_modes (kinds_of c.args.unit.now.fields) [] []) (take_all c.loop-k.k ps done)
