use Rattle.std.proofs.Common.{refl, subst}
use Rattle.exo_tree.specs.PlainArgument.{argument}
use Rattle.meaning_laws.specs.Live.{read_by_argument, read_by_arguments}
use Rattle.config_state.specs.FieldSets.{Marked}
use Rattle.config_state.proofs.Sets.{items_marked, items_end}
use Rattle.config_state.proofs.expression.add_arguments.Goals as goal

pub loop-a-init : goal.loop-a-init
loop-a-init c = λ new h. subst (λ z. Marked (λ f. read_by_arguments f z) c.args.set.now new) c.as_slice-a-items.ensures h

pub loop-a-preserved : goal.loop-a-preserved
loop-a-preserved c = λ new h. c.loop-a.invariant new (items_marked argument (λ es f. read_by_arguments f es) (λ e f. read_by_argument f e) (λ a as' f. refl) c.as_slice-a-items.result.now c.loop-a.a-index c.a-item.result c.loop-a.set c.add_argument.new.set new c.loop-a-test.true c.a-item.is c.add_argument.ensures h)

pub returns : goal.returns
returns c = c.loop-a.invariant c.loop-a.set (items_end argument (λ es f. read_by_arguments f es) (λ f. refl) c.as_slice-a-items.result.now c.loop-a.a-index c.loop-a.set c.loop-a-test.false)
