use Rattle.std.proofs.Common.{◌≡◌, ◌<◌, length, vec_len, arith}
use Rattle.affine_forms.proofs.RowLists.{table_length, row_value, row_inside, row_kept}
use Rattle.affine_forms.proofs.table.Table.row.Goals as goal

pub index-requires : goal.index-requires
index-requires c =
    let all = table_length c.self.inside.rows.items c.args.self.now c.self.view_is in
    let len : vec_len c.self.inside.rows ≡ length c.self.inside.rows.items = omega arith in
    omega (arith, all, len, c.requires)

pub returns-clause-value : goal.returns-clause-value
returns-clause-value c = row_value c.self.inside.rows.items c.args.self.now c.args.k c.index.result.now c.self.view_is c.self.invariant.0 c.requires c.index.ensures

pub returns-clause-earlier : goal.returns-clause-earlier
returns-clause-earlier c = row_inside c.self.inside.rows.items c.args.self.now c.args.k c.index.result.now c.self.view_is c.self.invariant.0 c.requires c.index.ensures

pub returns-clause-kept : goal.returns-clause-kept
returns-clause-kept c = row_kept c.self.inside.rows.items c.args.self.now c.args.k c.index.result.now c.self.view_is c.self.invariant.0 c.self.invariant.1 c.requires c.index.ensures
