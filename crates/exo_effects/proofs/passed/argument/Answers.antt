use Rattle.std.proofs.Common.{◌≡◌, ◌∙◌, Option, ap, subst}
use Rattle.exo_tree.proofs.Edits.{if_ok}
use Rattle.exo_tree.specs.Places.{opened}
use Rattle.exo_tree.specs.PlainArgument.{argument}
use Rattle.exo_tree.specs.PlainProcedure.{procedure}
use Rattle.exo_tree.specs.PlainUnit.{program}
use Rattle.text_show.specs.Seen.{words_in}
use Rattle.exo_effects.specs.Parts.{with_params}
use Rattle.exo_effects.specs.PlainParts.{parts_in}
use Rattle.exo_effects.specs.PlainSpots.{LeadsTo}
use Rattle.exo_effects.specs.PlainUses.{plain_uses}
use Rattle.exo_effects.specs.Uses.{argument_at}
use Rattle.exo_effects.specs.declared.piece.PieceStart.{PieceStart}
use Rattle.exo_effects.proofs.Given.{whole_use, argued}
use Rattle.exo_effects.proofs.passed.argument.Goals as goal

pub returns : goal.returns
returns c =
    let u = program c.args.unit.now in
    let p = procedure c.args.p.now in
    let path = c.args.path.now in
    let k = c.args.k in
    let w = words_in c.in_ok-words.words in
    let a = argument c.in-Some-get.a.now in
    let before = parts_in c.insert_params.new.self in
    let parts = parts_in c.find.new.parts in
    let leads =
    subst (λ (found : Option PieceStart). LeadsTo 1 (opened 1 path p.body) found before parts) c.in-Some.is c.in_ok-spot.ensures in
    if_ok (λ l. plain_uses l.items ≡ whole_use w parts a) (λ l. plain_uses l.items ≡ argument_at u p path k)
    (λ l h. h ∙ argued u p path k c.in-Some.spot before parts c.passed_at.result.now
    c.in-Some-get.a.now w leads
    (c.in_ok-insert_params.ensures ∙ ap (with_params p.params) c.new-parts.ensures) c.passed_at.ensures
    c.in-Some-get.ensures.lookup.3.0 c.in-Some-get.ensures.lookup.1 c.in_ok-words.ensures)
    c.whole_argument.result c.whole_argument.ensures
