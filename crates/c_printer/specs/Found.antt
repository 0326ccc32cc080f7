-- Sets of structs of windows, and what walks find.
use Rattle.std.specs.Prelude.{◌≡◌, ◌||◌, Bool, List}
use Rattle.std.specs.List.{list_any}
use Rattle.c_tree.specs.CTree.{StructOf}
use Rattle.c_lowering.specs.Made.LoweredUnit.{is_struct}

-- whether the struct is in the set
abbrev pub has : List StructOf → StructOf → Bool
has set s = list_any (λ t. is_struct t.rank t.cell s) set

-- the second set has what the first has, and each struct that passes the test
pub record Found (test : StructOf → Bool) (old new : List StructOf) : Type 0 where
  pub each : (s : StructOf) → has new s ≡ (has old s || test s)
