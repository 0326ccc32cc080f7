use Rattle.std.proofs.Common.{refl, subst}
use Rattle.exo_tree.specs.PlainControl.{condition}
use Rattle.meaning_laws.specs.Live.{read_by_condition}
use Rattle.meaning_laws.specs.UnitFields.{read_by_conditions}
use Rattle.config_state.specs.FieldSets.{Marked}
use Rattle.config_state.proofs.Sets.{items_marked, items_end}
use Rattle.config_state.proofs.expression.add_conditions.Goals as goal

pub loop-c-init : goal.loop-c-init
loop-c-init c = λ new h. subst (λ z. Marked (λ f. read_by_conditions f z) c.args.set.now new) c.as_slice-c-items.ensures h

pub loop-c-preserved : goal.loop-c-preserved
loop-c-preserved c = λ new h. c.loop-c.invariant new (items_marked condition (λ es f. read_by_conditions f es) (λ e f. read_by_condition f e) (λ a as' f. refl) c.as_slice-c-items.result.now c.loop-c.c-index c.c-item.result c.loop-c.set c.add_condition.new.set new c.loop-c-test.true c.c-item.is c.add_condition.ensures h)

pub returns : goal.returns
returns c = c.loop-c.invariant c.loop-c.set (items_end condition (λ es f. read_by_conditions f es) (λ f. refl) c.as_slice-c-items.result.now c.loop-c.c-index c.loop-c.set c.loop-c-test.false)
