use Rattle.std.proofs.Common.{◌∙◌, [], ap, ap₂}
use Rattle.affine_forms.specs.Tables.{is_known, with_lines}
use Rattle.affine_forms.specs.PlainTables.{plain_rows}
use Rattle.affine_forms.proofs.row.are_same.Goals as goal

pub returns : goal.returns
returns c = c.is_known.ensures ∙ ap (λ ls. is_known ls c.args.i c.args.j) (c.deref.ensures.value ∙ c.in_ok-made.ensures ∙ ap₂ (λ rs ss. with_lines [] (plain_rows rs) (plain_rows ss)) c.rows_to-first.ensures c.rows_to-second.ensures)
