use Rattle.std.proofs.Common.{◌∷◌, [], refl, subst}
use Rattle.exo_tree.specs.PlainControl.{coordinate}
use Rattle.meaning_laws.specs.Live.{read_by_coords}
use Rattle.config_state.specs.FieldSets.{Marked}
use Rattle.config_state.proofs.Sets.{items_marked, items_end, coords_split}
use Rattle.config_state.proofs.expression.add_coordinates.Goals as goal

pub loop-c-init : goal.loop-c-init
loop-c-init c = λ new h. subst (λ z. Marked (λ f. read_by_coords f z) c.args.set.now new) c.as_slice-c-items.ensures h

pub loop-c-preserved : goal.loop-c-preserved
loop-c-preserved c = λ new h. c.loop-c.invariant new (items_marked coordinate (λ es f. read_by_coords f es) (λ e f. read_by_coords f (e ∷ [])) (λ a as' f. (coords_split a as' f)) c.as_slice-c-items.result.now c.loop-c.c-index c.c-item.result c.loop-c.set c.add_coordinate.new.set new c.loop-c-test.true c.c-item.is c.add_coordinate.ensures h)

pub returns : goal.returns
returns c = c.loop-c.invariant c.loop-c.set (items_end coordinate (λ es f. read_by_coords f es) (λ f. refl) c.as_slice-c-items.result.now c.loop-c.c-index c.loop-c.set c.loop-c-test.false)
