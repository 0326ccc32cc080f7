use Rattle.std.proofs.Common.{◌≡◌, ◌++◌, ◌^◌, List, map, drop}
use Rattle.exo_effects.specs.Accesses.{Access, access_of}
use Rattle.exo_effects.specs.Conflicts.{owed_behind}
use Rattle.exo_effects.specs.PlainUses.{plain_use, plain_uses}
use Rattle.effect_conflicts.specs.Outcomes.{clashing_with}
use Rattle.effect_conflicts.specs.PlainCopies.{plain_order}
use Rattle.effect_conflicts.proofs.listing.owe_against.Given as goal

abbrev pub invariant-loop-y : goal.invariant-loop-y
invariant-loop-y g l =
    (rest : List (Access × Access))
    → owed_behind (g.C.Contexts.fits l.contexts) (g.C.Contexts.known l.contexts) (plain_order l.order) l.place (2 ^ 31) l.initial.out (clashing_with (access_of (plain_use l.x)) (map access_of (plain_uses l.others)) ++ rest)
    ≡ owed_behind (g.C.Contexts.fits l.contexts) (g.C.Contexts.known l.contexts) (plain_order l.order) l.place (2 ^ 31) l.out (clashing_with (access_of (plain_use l.x)) (map access_of (plain_uses (drop l.y-index l.others))) ++ rest)
