use Rattle.std.proofs.Common.{refl, subst}
use Rattle.exo_tree.specs.PlainParam.{parameter}
use Rattle.meaning_laws.specs.UnitFields.{read_by_params, read_by_kind}
use Rattle.config_live.specs.Listed.{Listed}
use Rattle.config_live.proofs.Listed.{items_listed, items_done}
use Rattle.config_live.proofs.named.list_params.Goals as goal

pub loop-p-init : goal.loop-p-init
loop-p-init c = λ new h.
    subst (λ z. Listed (λ f. read_by_params f z) c.args.list.now new) c.as_slice-p-items.ensures h

pub loop-p-preserved : goal.loop-p-preserved
loop-p-preserved c = λ new h.
    c.loop-p.invariant new
    (items_listed parameter (λ es f. read_by_params f es) (λ e f. read_by_kind f e.kind)
    (λ a as' f. refl) c.as_slice-p-items.result.now c.loop-p.p-index c.p-item.result
    c.loop-p.list c.list_kind.new.list new c.loop-p-test.true c.p-item.is
    c.in_ok-list_kind.ensures h)

pub returns : goal.returns
returns c =
    c.loop-p.invariant c.loop-p.list
    (items_done parameter (λ es f. read_by_params f es) (λ f. refl) c.as_slice-p-items.result.now
    c.loop-p.p-index c.loop-p.list c.loop-p-test.false)
