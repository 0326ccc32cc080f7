use Rattle.std.proofs.Common.{◌≡◌, ◌∙◌, ap, sym, subst, true, length, arith}
use Rattle.affine_forms.specs.Tables.{divisions, division_of, are_ordered, are_all_kept, is_row_at, Holds, Extends}
use Rattle.affine_forms.specs.PlainTables.{plain_row, plain_rows}
use Rattle.affine_forms.proofs.Putting.{put_ordered, put_kept, put_holds, put_extends, put_found}
use Rattle.affine_forms.proofs.table.Table.put.Goals as goal

pub returns-in-Some-clause-put : goal.returns-in-Some-clause-put
returns-in-Some-clause-put c = put_found c.self.inside.rows.items c.args.self.now c.args.row c.in-Some.k c.self.view_is c.self.invariant.0 (ap (λ rs. is_row_at (plain_row c.args.row) (plain_rows rs) c.in-Some.k) (sym c.deref.ensures.value) ∙ c.in-Some.ensures)

pub invariant_of-self-2 : goal.invariant_of-self-2
invariant_of-self-2 c = subst (λ rs. (are_ordered 0 (plain_rows rs) ≡ true) × (are_all_kept (divisions (plain_rows rs)) ≡ true)) (sym c.in_ok-push.ensures.items) (put_ordered c.self.inside.rows.items c.args.self.now c.args.row c.self.view_is c.self.invariant.0 c.requires.earlier, put_kept c.self.inside.rows.items c.args.self.now c.args.row c.self.view_is c.self.invariant.1 c.requires.kept)

pub returns-clause-grown : goal.returns-clause-grown
returns-clause-grown c = subst (λ rs. Extends c.args.self.now (divisions (plain_rows rs))) (sym c.in_ok-push.ensures.items) (put_extends c.self.inside.rows.items c.args.self.now c.args.row c.self.view_is)

pub returns-clause-put : goal.returns-clause-put
returns-clause-put c =
    let number : length c.self.inside.rows.items ≡ c.len-k.result = omega (arith, c.len-k.ensures) in
    subst (λ rs. Holds (divisions (plain_rows rs)) c.len-k.result (division_of c.args.self.now (plain_row c.args.row))) (sym c.in_ok-push.ensures.items) (put_holds c.self.inside.rows.items c.args.self.now c.args.row c.len-k.result c.self.view_is number)
