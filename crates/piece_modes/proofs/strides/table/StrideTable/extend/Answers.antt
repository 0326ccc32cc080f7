use Rattle.std.proofs.Common.{◌≡◌, [], ◌∷◌, length, ap, sym, ◌∙◌, subst, arith}
use Rattle.std.proofs.lemmas.List.{map-append, length-map, length_push}
use Rattle.exo_tree.specs.PlainUnit.{program}
use Rattle.exo_tree.specs.PlainProcedure.{procedure}
use Rattle.exo_modes.proofs.Callees.{take_read}
use Rattle.buffer_laws.specs.Stride.Strides.{sees_strides}
use Rattle.piece_modes.specs.Strides.Seen.{seen_of, first_world, first_see}
use Rattle.piece_modes.specs.Strides.Table.{AreFirst}
use Rattle.piece_modes.specs.Strides.PlainTable.{rows, table_rows}
use Rattle.piece_modes.proofs.OfStrides.Rows.{no_more_rows, one_row_more}
use Rattle.piece_modes.proofs.strides.table.StrideTable.extend.Goals as goal

pub loop-k-init : goal.loop-k-init
loop-k-init c = (
  c.requires,
  omega (arith, c.len-k.ensures),
  omega (arith, c.len-k.ensures, no_more_rows (table_rows c.args.self.now) (program c.args.unit.now) c.requires, length-map c.args.self.now.rows.items (λ v. v.items)),
)

pub loop-k-preserved : goal.loop-k-preserved
loop-k-preserved c =
    let u = program c.args.unit.now in
    let old = c.loop-k.self.rows.items in
    let k = c.loop-k.k in
    let p = procedure c.index-procs-k.result in
    let taken = take_read procedure c.as_slice-procs.result.now c.args.unit.now.procs k c.index-procs-k.result c.as_slice-procs.ensures c.index-procs-k.is c.loop-k-test.true in
    let n = length c.deref.result.now in
    let many : n ≡ k = omega (arith, ap length c.deref.ensures.value, c.loop-k.invariant.1) in
    let row =
    c.in_ok-row.ensures
    ∙ ap (λ m. seen_of (sees_strides (first_world u m) (first_see u m) p) p.params) many in
    let more = one_row_more u (rows old) k p c.in_ok-row.row.items c.loop-k.invariant.0 (omega (arith, length-map old (λ v. v.items), c.loop-k.invariant.1)) taken row in
    let made = ap rows c.in_ok-push.ensures.items ∙ map-append (λ v. v.items) old (c.in_ok-row.row ∷ []) in (
      subst (λ rs. AreFirst rs u) (sym made) more,
      omega (arith, ap length c.in_ok-push.ensures.items, length_push old c.in_ok-row.row, c.loop-k.invariant.1),
      omega (arith, c.loop-k-test.true, ap length c.as_slice-procs.ensures, length-map c.as_slice-procs.result.now procedure),
    )
