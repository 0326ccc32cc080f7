use Rattle.std.proofs.Common.{refl, subst}
use Rattle.exo_tree.specs.PlainControl.{condition}
use Rattle.meaning_laws.specs.Live.{read_by_condition}
use Rattle.meaning_laws.specs.UnitFields.{read_by_conditions}
use Rattle.config_live.specs.Listed.{Listed}
use Rattle.config_live.proofs.Listed.{items_listed, items_done}
use Rattle.config_live.proofs.named.list_conditions.Goals as goal

pub loop-c-init : goal.loop-c-init
loop-c-init c = λ new h.
    subst (λ z. Listed (λ f. read_by_conditions f z) c.args.list.now new) c.as_slice-c-items.ensures h

pub loop-c-preserved : goal.loop-c-preserved
loop-c-preserved c = λ new h.
    c.loop-c.invariant new
    (items_listed condition (λ es f. read_by_conditions f es) (λ e f. read_by_condition f e)
    (λ a as' f. refl) c.as_slice-c-items.result.now c.loop-c.c-index c.c-item.result
    c.loop-c.list c.list_condition.new.list new c.loop-c-test.true c.c-item.is
    c.in_ok-list_condition.ensures h)

pub returns : goal.returns
returns c =
    c.loop-c.invariant c.loop-c.list
    (items_done condition (λ es f. read_by_conditions f es) (λ f. refl) c.as_slice-c-items.result.now
    c.loop-c.c-index c.loop-c.list c.loop-c-test.false)
