use Rattle.std.proofs.Common.{◌≡◌, ◌+◌, ◌∙◌, [], ap, ap₂, sym, length, take, vec_len, arith}
use Rattle.affine_forms.specs.Tables.{is_known, with_lines}
use Rattle.affine_forms.specs.PlainTables.{plain_rows}
use Rattle.affine_forms.proofs.RowLists.{table_length}
use Rattle.affine_forms.proofs.Putting.{tables_alike, tables_known}
use Rattle.affine_forms.proofs.table.Table.same.Goals as goal

pub index-requires : goal.index-requires
index-requires c =
    let all = table_length c.self.inside.rows.items c.args.self.now c.self.view_is in
    let len : vec_len c.self.inside.rows ≡ length c.self.inside.rows.items = omega arith in
    omega (arith, all, len, c.requires.inside)

pub index-requires-2 : goal.index-requires-2
index-requires-2 c =
    let all = table_length c.other.inside.rows.items c.args.other.now c.other.view_is in
    let len : vec_len c.other.inside.rows ≡ length c.other.inside.rows.items = omega arith in
    omega (arith, all, len, c.requires.other_inside)

pub returns-then-not-is_alike : goal.returns-then-not-is_alike
returns-then-not-is_alike c = tables_alike c.self.inside.rows.items c.other.inside.rows.items c.args.self.now c.args.other.now c.args.i c.args.j c.index.result.now c.index-2.result.now c.self.view_is c.other.view_is c.self.invariant.0 c.other.invariant.0 c.requires.inside c.requires.other_inside c.index.ensures c.index-2.ensures (sym c.is_alike.ensures ∙ c.if-not-is_alike.true)

pub are_same-requires-clause-inside : goal.are_same-requires-clause-inside
are_same-requires-clause-inside c =
    let all = table_length c.self.inside.rows.items c.args.self.now c.self.view_is in
    let same = ap length c.deref.ensures.value in
    omega (arith, all, same, c.requires.inside)

pub are_same-requires-clause-other_inside : goal.are_same-requires-clause-other_inside
are_same-requires-clause-other_inside c =
    let all = table_length c.other.inside.rows.items c.args.other.now c.other.view_is in
    let same = ap length c.deref-2.ensures.value in
    omega (arith, all, same, c.requires.other_inside)

pub returns : goal.returns
returns c =
    c.in_ok-known.ensures
    ∙ ap₂ (λ xs ys. is_known (with_lines [] (plain_rows (take (c.args.i + 1) xs)) (plain_rows (take (c.args.j + 1) ys))) c.args.i c.args.j) c.deref.ensures.value c.deref-2.ensures.value
    ∙ tables_known c.self.inside.rows.items c.other.inside.rows.items c.args.self.now c.args.other.now c.args.i c.args.j c.self.view_is c.other.view_is c.self.invariant.0 c.other.invariant.0 c.requires.inside c.requires.other_inside
