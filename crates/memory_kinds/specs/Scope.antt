-- Where the program looks for the memory of a name.
use Rattle.std.specs.Prelude.{ℕ, take}
use Rattle.memory_kinds.specs.Homes.{Homes, param_homes, homes_past}
use Rattle.memory_kinds.specs.declared.scope.Scope.{Scope, Params, Block'}
use Rattle.memory_kinds.specs.declared.scope.Found.{Found}
use Rattle.memory_kinds.specs.declared.scope.Found.TheVariants.{Memory, Name}

abbrev pub homes_in : Scope → Homes
homes_in (Params ps) = param_homes ps.now
homes_in (Block' b k p around) = homes_past (homes_in around) (take k b.now)

-- what is found is the memory itself, or the memory of another name further out
abbrev pub found_in : Homes → Found → ℕ
found_in home (Memory m) = m.0
found_in home (Name x) = home x.0
