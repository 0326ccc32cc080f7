use Rattle.std.proofs.Common.{◌++◌, [], ◌∷◌, map, sym, ap, ◌∙◌, subst}
use Rattle.std.proofs.lemmas.List.{map-append}
use Rattle.exo_tree.specs.PlainBinder.{cell_type}
use Rattle.c_tree.specs.Plain.{plain_struct}
use Rattle.c_lowering.specs.Made.LoweredUnit.{is_struct}
use Rattle.c_printer.specs.Found.{Found}
use Rattle.c_printer.proofs.Finding.{put_behind, put_before}
use Rattle.c_printer.proofs.found.FoundStructs.insert.Goals as goal

pub returns-in_ok-push : goal.returns-in_ok-push
returns-in_ok-push c =
    let s = c.args.s in
    subst (Found (is_struct s.rank (cell_type s.cell)) c.args.self.now)
    (ap (λ set. set ++ plain_struct s ∷ []) (sym c.self.view_is) ∙ sym (map-append plain_struct c.self.inside.structs.items (s ∷ [])) ∙ ap (map plain_struct) (sym c.in_ok-push.ensures.items))
    (put_behind c.args.self.now (plain_struct s))

pub returns-else-not-has : goal.returns-else-not-has
returns-else-not-has c = put_before c.args.self.now (plain_struct c.args.s) (sym c.if-not-has.ensures)
