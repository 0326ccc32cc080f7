use Rattle.std.proofs.Common.{rules, ◌≡◌, ◌<◌, ◌∷◌, List, length, map, ap, subst, arith}
use Rattle.std.specs.Prelude.{IfOk}
use Rattle.exo_tree.specs.Tree.{Coord}
use Rattle.exo_tree.specs.PlainControl.{control, coordinate}
use Rattle.match_laws.specs.Windows.{Offset}
use Rattle.block_matches.specs.Pairs.Held.{ids_in}
use Rattle.block_matches.specs.PlainMoving.{plain_moving}
use Rattle.block_matches.specs.PlainSpot.{plain_spot}
use Rattle.block_matches.proofs.Named.{later_short, from_offset}
use Rattle.block_matches.proofs.arguments.Windows.+coords_from.Goals as goal

pub coords_from-requires-in-Some-Offset-default-Some : goal.coords_from-requires-in-Some-Offset-default-Some
coords_from-requires-in-Some-Offset-default-Some g t c κs lives =
    let at = g.R.Reader.reading c.args.self.now.reader.now in
    let m = plain_moving c.args.self.now.by in
    let bound = ids_in c.args.self.now.bound.now in
    let all = map plain_spot c.args.spots.now in
    let ss = map plain_spot c.in-Some-Offset-default-Some.spots.now in
    let is : all ≡ Offset (control c.in-Some-Offset-default-Some.e) ∷ ss =
    search (rules, c.in-Some-Offset-default-Some.ensures.cases.0) in
    let whole : length c.args.spots.now ≡ t = c.decreases in
    let less : length c.in-Some-Offset-default-Some.spots.now < t =
    omega (arith, whole, ap length c.in-Some-Offset-default-Some.ensures.cases.0) in
    (less, (lives, later_short at m bound all ss (control c.in-Some-Offset-default-Some.e) is c.requires))

pub returns-in_ok-push-in-Some-Offset-default-Some-clause-value
    : goal.returns-in_ok-push-in-Some-Offset-default-Some-clause-value
returns-in_ok-push-in-Some-Offset-default-Some-clause-value g t c =
    let at = g.R.Reader.reading c.args.self.now.reader.now in
    let m = plain_moving c.args.self.now.by in
    let bound = ids_in c.args.self.now.bound.now in
    let all = map plain_spot c.args.spots.now in
    let ss = map plain_spot c.in-Some-Offset-default-Some.spots.now in
    let is : all ≡ Offset (control c.in-Some-Offset-default-Some.e) ∷ ss =
    search (rules, c.in-Some-Offset-default-Some.ensures.cases.0) in
    subst (λ (z : List Coord). IfOk c.coords_from-in-Some-Offset-default-Some.result (λ cs. cs ≡ z))
    (from_offset at m bound all ss (control c.in-Some-Offset-default-Some.e) is (map control c.args.extents.now)
    (map control c.in-Some-Offset-default-Some.extents.now) (control c.in-Some-Offset-default-Some.extent.now)
    c.args.made c.push-in-Some-Offset-default-Some.new.self
    (coordinate c.in_ok-span-in-Some-Offset-default-Some.field-0)
    (ap (map control) c.in-Some-Offset-default-Some.ensures'.cases.0)
    c.in_ok-span-in-Some-Offset-default-Some.ensures.value
    c.in_ok-push-in-Some-Offset-default-Some.ensures.pushed)
    c.coords_from-in-Some-Offset-default-Some.ensures.value
