use Rattle.std.proofs.Common.{◌∙◌, ap, sym, option_map, remove, Some}
use Rattle.affine_forms.specs.Tables.{share_taken}
use Rattle.affine_forms.specs.PlainTables.{plain_share, plain_shares}
use Rattle.affine_forms.proofs.RowLists.{shares_remove}
use Rattle.affine_forms.proofs.row.take_out.Goals as goal

pub returns-in-Some : goal.returns-in-Some
returns-in-Some c =
    ap (λ ss. share_taken c.args.lines.now (plain_share c.args.s.now) (plain_shares ss)) (sym c.as_slice.ensures.value)
    ∙ c.place_in.ensures.taken
    ∙ ap (option_map (remove (plain_shares c.as_slice.result.now))) c.in-Some.is
    ∙ ap (λ ss. Some (remove (plain_shares ss) c.in-Some.k)) c.as_slice.ensures.value
    ∙ ap Some (sym (shares_remove c.args.shares.now.items c.in-Some.k))
    ∙ ap (λ ss. Some (plain_shares ss)) (sym c.remove-taken.ensures.items)

pub returns-in-None : goal.returns-in-None
returns-in-None c =
    ap (λ ss. share_taken c.args.lines.now (plain_share c.args.s.now) (plain_shares ss)) (sym c.as_slice.ensures.value)
    ∙ c.place_in.ensures.taken
    ∙ ap (option_map (remove (plain_shares c.as_slice.result.now))) c.in-None.is
