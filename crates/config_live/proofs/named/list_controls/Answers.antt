use Rattle.std.proofs.Common.{refl, subst}
use Rattle.exo_tree.specs.PlainControl.{control}
use Rattle.meaning_laws.specs.Live.{read_by_controls, read_by_control}
use Rattle.config_live.specs.Listed.{Listed}
use Rattle.config_live.proofs.Listed.{items_listed, items_done}
use Rattle.config_live.proofs.named.list_controls.Goals as goal

pub loop-e-init : goal.loop-e-init
loop-e-init c = λ new h.
    subst (λ z. Listed (λ f. read_by_controls f z) c.args.list.now new) c.as_slice-e-items.ensures h

pub loop-e-preserved : goal.loop-e-preserved
loop-e-preserved c = λ new h.
    c.loop-e.invariant new
    (items_listed control (λ es f. read_by_controls f es) (λ e f. read_by_control f e)
    (λ a as' f. refl) c.as_slice-e-items.result.now c.loop-e.e-index c.e-item.result
    c.loop-e.list c.list_control.new.list new c.loop-e-test.true c.e-item.is
    c.in_ok-list_control.ensures h)

pub returns : goal.returns
returns c =
    c.loop-e.invariant c.loop-e.list
    (items_done control (λ es f. read_by_controls f es) (λ f. refl) c.as_slice-e-items.result.now
    c.loop-e.e-index c.loop-e.list c.loop-e-test.false)
