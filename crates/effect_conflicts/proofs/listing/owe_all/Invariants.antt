use Rattle.std.proofs.Common.{◌≡◌, ◌++◌, ◌^◌, List, map, drop}
use Rattle.exo_effects.specs.Accesses.{Access, access_of}
use Rattle.exo_effects.specs.Conflicts.{owed_behind, clashing}
use Rattle.exo_effects.specs.PlainUses.{plain_uses}
use Rattle.effect_conflicts.specs.PlainCopies.{plain_order}
use Rattle.effect_conflicts.proofs.listing.owe_all.Given as goal

abbrev pub invariant-loop-x : goal.invariant-loop-x
invariant-loop-x g l =
    (rest : List (Access × Access))
    → owed_behind (g.C.Contexts.fits l.contexts) (g.C.Contexts.known l.contexts) (plain_order l.order) l.place (2 ^ 31) l.initial.out (clashing (map access_of (plain_uses l.first)) (map access_of (plain_uses l.second)) ++ rest)
    ≡ owed_behind (g.C.Contexts.fits l.contexts) (g.C.Contexts.known l.contexts) (plain_order l.order) l.place (2 ^ 31) l.out (clashing (map access_of (plain_uses (drop l.x-index l.first))) (map access_of (plain_uses l.second)) ++ rest)
