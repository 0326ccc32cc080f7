use Rattle.std.proofs.Common.{◌≡◌, ◌&&◌, length, sym, ap, subst, ◌∙◌}
use Rattle.exo_tree.specs.Tree.{block}
use Rattle.exo_tree.specs.PlainUnit.{program}
use Rattle.config_state.specs.FieldSets.{contains}
use Rattle.config_live.specs.Ways.{IsStart}
use Rattle.config_live.specs.Places.{side_taken}
use Rattle.config_live.proofs.Answer.{live_is}
use Rattle.config_live.proofs.place.live_in_body.Goals as goal
use Rattle.config_live.proofs.place.live_in_body.Goals.{then-there, else-there}

pub returns : goal.returns
returns c =
    let unit = program c.args.unit.now in
    let there = c.in_ok-there.there in
    let new = c.go_from.new.way in
    let f = c.args.f.0 in
    let start : IsStart (length unit.fields) c.in_ok-way.way =
    subst (λ m. IsStart m c.in_ok-way.way) c.len.ensures c.in_ok-way.ensures in
    let found : c.if-there.result ≡ (there && contains new.read f) =
    elim c.if-there.branch [
      | then-there w ↦ w.result-is ∙ w.contains.ensures ∙ sym (ap (λ z. z && contains new.read f) w.if-there.true)
      | else-there w ↦ w.result-is ∙ w.if-there.false ∙ sym (ap (λ z. z && contains new.read f) w.if-there.false)
    ] in
    found
    ∙ live_is unit.procedures (length unit.fields) c.args.table.now c.requires.read_first
    c.requires.surely_written (block c.args.body.now) c.args.path.now (side_taken c.args.side) there
    c.in_ok-way.way new f start c.in_ok-there.ensures
