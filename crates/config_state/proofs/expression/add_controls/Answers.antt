use Rattle.std.proofs.Common.{refl, subst}
use Rattle.exo_tree.specs.PlainControl.{control}
use Rattle.meaning_laws.specs.Live.{read_by_controls, read_by_control}
use Rattle.config_state.specs.FieldSets.{Marked}
use Rattle.config_state.proofs.Sets.{items_marked, items_end}
use Rattle.config_state.proofs.expression.add_controls.Goals as goal

pub loop-e-init : goal.loop-e-init
loop-e-init c = λ new h. subst (λ z. Marked (λ f. read_by_controls f z) c.args.set.now new) c.as_slice-e-items.ensures h

pub loop-e-preserved : goal.loop-e-preserved
loop-e-preserved c = λ new h. c.loop-e.invariant new (items_marked control (λ es f. read_by_controls f es) (λ e f. read_by_control f e) (λ a as' f. refl) c.as_slice-e-items.result.now c.loop-e.e-index c.e-item.result c.loop-e.set c.add_control.new.set new c.loop-e-test.true c.e-item.is c.add_control.ensures h)

pub returns : goal.returns
returns c = c.loop-e.invariant c.loop-e.set (items_end control (λ es f. read_by_controls f es) (λ f. refl) c.as_slice-e-items.result.now c.loop-e.e-index c.loop-e.set c.loop-e-test.false)
