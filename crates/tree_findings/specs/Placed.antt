-- The names in scope at a place, as a walk finds them.
use Rattle.std.specs.Prelude.{◌≡◌, List, [], ◌∷◌, Option, IfSome}
use Rattle.exo_tree.specs.Tree.{Statement, Block, next}
use Rattle.exo_tree.specs.Places.{Branch, Opened, into}
use Rattle.exo_meaning.specs.Units.{Scope, scope_after}
use Rattle.meaning_laws.specs.Sorted.{scope_at}

abbrev pub scope_behind_all : List Statement → Scope → Scope
scope_behind_all [] scope = scope
scope_behind_all (a ∷ ss) scope = scope_behind_all ss (scope_after a scope)

-- where something is opened, the names in scope there
abbrev pub IsScopeAt : Option Opened → Scope → Scope → Type 0
IsScopeAt x outer inner = IfSome x (λ o. inner ≡ scope_at o.around outer)

-- the same of what is opened in a branch of a statement
abbrev pub IsScopeIn : Branch → (Block → Option Opened) → Statement → Scope → Scope → Type 0
IsScopeIn branch inside a outer inner =
    (rest : Block) → IsScopeAt (into branch inside (next a rest)) outer inner
