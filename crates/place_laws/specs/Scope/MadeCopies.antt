-- Copies that are numbered one behind the other.
use Rattle.std.specs.Prelude.{ℕ, List}
use Rattle.exo_tree.specs.Tree.{Block}
use Rattle.exo_meaning.specs.Orders.{Each}
use Rattle.meaning_laws.specs.FreshCopies.{IsMadeOf, copies_from}
use Rattle.place_laws.specs.Scope.Scopes.{AreApart}

-- of copies of such blocks none mentions a name that one before it leaves
abbrev pub MadeCopiesAreApart : Type 0
MadeCopiesAreApart =
    (old : Block) (ds : List Block) (n : ℕ)
    → Each (IsMadeOf n old) ds
    → AreApart (copies_from n ds)
