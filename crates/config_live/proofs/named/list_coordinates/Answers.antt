use Rattle.std.proofs.Common.{◌∷◌, [], refl, subst}
use Rattle.exo_tree.specs.PlainControl.{coordinate}
use Rattle.meaning_laws.specs.Live.{read_by_coords}
use Rattle.config_state.proofs.Sets.{coords_split}
use Rattle.config_live.specs.Listed.{Listed}
use Rattle.config_live.proofs.Listed.{items_listed, items_done}
use Rattle.config_live.proofs.named.list_coordinates.Goals as goal

pub loop-c-init : goal.loop-c-init
loop-c-init c = λ new h.
    subst (λ z. Listed (λ f. read_by_coords f z) c.args.list.now new) c.as_slice-c-items.ensures h

pub loop-c-preserved : goal.loop-c-preserved
loop-c-preserved c = λ new h.
    c.loop-c.invariant new
    (items_listed coordinate (λ es f. read_by_coords f es) (λ e f. read_by_coords f (e ∷ []))
    coords_split c.as_slice-c-items.result.now c.loop-c.c-index c.c-item.result
    c.loop-c.list c.list_coordinate.new.list new c.loop-c-test.true c.c-item.is
    c.in_ok-list_coordinate.ensures h)

pub returns : goal.returns
returns c =
    c.loop-c.invariant c.loop-c.list
    (items_done coordinate (λ es f. read_by_coords f es) (λ f. refl) c.as_slice-c-items.result.now
    c.loop-c.c-index c.loop-c.list c.loop-c-test.false)
