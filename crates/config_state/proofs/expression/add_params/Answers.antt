use Rattle.std.proofs.Common.{refl, subst}
use Rattle.exo_tree.specs.PlainParam.{parameter}
use Rattle.meaning_laws.specs.UnitFields.{read_by_params, read_by_kind}
use Rattle.config_state.specs.FieldSets.{Marked}
use Rattle.config_state.proofs.Sets.{items_marked, items_end}
use Rattle.config_state.proofs.expression.add_params.Goals as goal

pub loop-p-init : goal.loop-p-init
loop-p-init c = λ new h. subst (λ z. Marked (λ f. read_by_params f z) c.args.set.now new) c.as_slice-p-items.ensures h

pub loop-p-preserved : goal.loop-p-preserved
loop-p-preserved c = λ new h. c.loop-p.invariant new (items_marked parameter (λ es f. read_by_params f es) (λ e f. read_by_kind f e.kind) (λ a as' f. refl) c.as_slice-p-items.result.now c.loop-p.p-index c.p-item.result c.loop-p.set c.add_kind.new.set new c.loop-p-test.true c.p-item.is c.add_kind.ensures h)

pub returns : goal.returns
returns c = c.loop-p.invariant c.loop-p.set (items_end parameter (λ es f. read_by_params f es) (λ f. refl) c.as_slice-p-items.result.now c.loop-p.p-index c.loop-p.set c.loop-p-test.false)
