-- The plain forms of the program's accesses: uses of buffers, as trees.
use Rattle.std.specs.Prelude.{ℕ, List, [], ◌∷◌, map, flat_map, string_bytes}
use Rattle.exo_effects.specs.Uses.{Use}
use Rattle.exo_effects.specs.PlainAccess.{plain_mode}
use Rattle.exo_effects.specs.PlainGuards.{all_facts}
use Rattle.exo_effects.specs.declared.access.Access.{Access}
use Rattle.exo_effects.specs.declared.guards.Guard.{Guard}
use Rattle.exo_effects.specs.declared.guards.Guard.TheVariants as guard

-- the variable of a loop
abbrev pub variables_of : Guard → List ℕ
variables_of (guard.Loop i lo hi) = i.0 ∷ []
variables_of (guard.Holds c) = []
variables_of (guard.Fails c) = []

abbrev pub all_variables : List Guard → List ℕ
all_variables guards = flat_map variables_of guards

abbrev pub plain_use : Access → Use
plain_use a = record {
  root = a.root.0;
  mode = plain_mode a.mode;
  coords = a.coords;
  own = all_variables a.guards.items;
  round = all_facts a.guards.items;
  text = string_bytes a.text;
}

abbrev pub plain_uses : List Access → List Use
plain_uses l = map plain_use l
