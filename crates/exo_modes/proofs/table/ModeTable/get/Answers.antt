use Rattle.std.proofs.Common.{◌≡◌, false, refl, ap, sym, ◌∙◌}
use Rattle.exo_meaning.specs.Modes.{Mode, Reading, Writing, Reducing, Modes, modes_at, picked}
use Rattle.exo_modes.specs.Seen.{row_says, rows_say}
use Rattle.exo_modes.proofs.Callees.{modes_of_read, modes_of_none}
use Rattle.exo_modes.proofs.table.ModeTable.get.Goals as goal

pub returns-in-Some : goal.returns-in-Some
returns-in-Some c = λ m.
    let rows = c.deref.result.now in
    let found = c.in-Some.ensures.lookup in
    let said = modes_of_read row_says rows c.args.p.0 c.in-Some.row.now found.1 found.3.0 in
    c.get-in-Some.ensures m
    ∙ ap (λ (f : Modes). f m c.args.x.0) (sym said)
    ∙ ap (λ rs. modes_at (rows_say rs) c.args.p.0 m c.args.x.0) c.deref.ensures.value

pub returns-in-None : goal.returns-in-None
returns-in-None c = λ m.
    let rows = c.deref.result.now in
    let said = modes_of_none row_says rows c.args.p.0 c.in-None.ensures.lookup.3 in
    not_touched m
    ∙ ap (λ (f : Modes). f m c.args.x.0) (sym said)
    ∙ ap (λ rs. modes_at (rows_say rs) c.args.p.0 m c.args.x.0) c.deref.ensures.value
  where
    not_touched : (m : Mode) → picked m false false false ≡ false
    not_touched Reading = refl
    not_touched Writing = refl
    not_touched Reducing = refl
