use Rattle.std.proofs.Common.{ℕ, List, map, refl}
use Rattle.exo_tree.specs.Tree.{Param}
use Rattle.exo_tree.specs.declared.param.Param as held
use Rattle.exo_tree.specs.PlainParam.{parameter}
use Rattle.piece_modes.proofs.Rest.{row_on, row_all}
use Rattle.piece_modes.proofs.way.ids_of.Goals as goal

abbrev ids : List held.Param → List ℕ
ids ps = map (λ (q : Param). q.binder.id) (map parameter ps)

pub loop-p-preserved : goal.loop-p-preserved
loop-p-preserved c =
    row_on ids (λ q. (parameter q).binder.id) (λ _ _. refl) c.args.params.now c.loop-p.p-index c.p-item.result _
    c.loop-p.ids.items _ _
    c.loop-p-test.true c.p-item.is refl c.in_ok-push.ensures.items c.loop-p.invariant

pub returns : goal.returns
returns c = row_all ids refl c.args.params.now c.loop-p.p-index _ _ c.loop-p-test.false c.loop-p.invariant
