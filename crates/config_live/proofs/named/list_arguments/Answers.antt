use Rattle.std.proofs.Common.{refl, subst}
use Rattle.exo_tree.specs.PlainArgument.{argument}
use Rattle.meaning_laws.specs.Live.{read_by_argument, read_by_arguments}
use Rattle.config_live.specs.Listed.{Listed}
use Rattle.config_live.proofs.Listed.{items_listed, items_done}
use Rattle.config_live.proofs.named.list_arguments.Goals as goal

pub loop-a-init : goal.loop-a-init
loop-a-init c = λ new h.
    subst (λ z. Listed (λ f. read_by_arguments f z) c.args.list.now new) c.as_slice-a-items.ensures h

pub loop-a-preserved : goal.loop-a-preserved
loop-a-preserved c = λ new h.
    c.loop-a.invariant new
    (items_listed argument (λ es f. read_by_arguments f es) (λ e f. read_by_argument f e)
    (λ a as' f. refl) c.as_slice-a-items.result.now c.loop-a.a-index c.a-item.result
    c.loop-a.list c.list_argument.new.list new c.loop-a-test.true c.a-item.is
    c.in_ok-list_argument.ensures h)

pub returns : goal.returns
returns c =
    c.loop-a.invariant c.loop-a.list
    (items_done argument (λ es f. read_by_arguments f es) (λ f. refl) c.as_slice-a-items.result.now
    c.loop-a.a-index c.loop-a.list c.loop-a-test.false)
