-- The list of a block is dropped with a measure that is above that of each of its statements.
use Rattle.std.proofs.Common.{arith, rules, ◌≡◌, [], ◌∷◌, ◌<◌, ◌≤◌, ◌*◌, ◌+◌, List, Global}
use Rattle.std.specs.declared.sync.Arc.{Arc}
use Rattle.std.specs.declared.vec.Vec.{Vec}
use denote.Param.Weighed.{most}
use Rattle.exo_tree.specs.declared.block.Stmt.{Stmt}
use Rattle.exo_tree.specs.declared.block.Stmt.TheVariants.{the_data}
use Rattle.exo_tree.specs.declared.block.Held.TheVariants.{Own, Shared}
use Rattle.exo_tree.specs.declared.block.Block.TheDeep.{size-Stmt, deep-Stmt, deep-Held}
use Rattle.exo_tree.specs.declared.block.Block.TheShapes.{weighed-Held-Own-0-at-1, weighed-Held-Shared-0-at-1}
use Rattle.exo_tree.proofs.block.+dropped.Goals as goal

size_is : (s : Stmt) → size-Stmt s ≡ 3 * deep-Stmt s + 1
size_is s = λ i. 3 * deep-Stmt s + 1

smaller : (rs : List (Arc Stmt Global)) → most (λ r. size-Stmt r.value) rs ≤ 3 * most (λ r. deep-Stmt r.value) rs + 1
smaller [] = omega arith
smaller (r ∷ rs) = omega (arith, smaller rs, size_is r.value)

own_smaller : (l : Vec (Arc Stmt Global) Global)
    → most (weighed-Held-Own-0-at-1.weight the_data size-Stmt) l.items < 3 * deep-Held (Own l) + 2
own_smaller l = omega (arith, smaller l.items)

shared_smaller : (l : Arc (Vec (Arc Stmt Global) Global) Global)
    → most (weighed-Held-Shared-0-at-1.weight the_data size-Stmt) l.value.items < 3 * deep-Held (Shared l) + 2
shared_smaller l = omega (arith, smaller l.value.items)

-- src/block.rt
pub Held::drop-drop-self-requires : goal.Held::drop-drop-self-requires
Held::drop-drop-self-requires t c κs =
    let h : most (weighed-Held-Own-0-at-1.weight the_data size-Stmt) c.self-1.given.0.0.items < t =
    grind (arith, own_smaller c.self-1.given.0.0) in
    search (rules, h)

pub Held::drop-drop-self-requires-in-Shared-1 : goal.Held::drop-drop-self-requires-in-Shared-1
Held::drop-drop-self-requires-in-Shared-1 t c κs =
    let h : most (weighed-Held-Shared-0-at-1.weight the_data size-Stmt) c.self-in-Shared-1.given.0.0.value.items < t =
    grind (arith, shared_smaller c.self-in-Shared-1.given.0.0) in
    search (rules, h)
