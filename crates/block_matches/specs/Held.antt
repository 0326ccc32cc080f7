-- What tables of partners and of arguments hold.
use Rattle.std.specs.Prelude.{ℕ, nat_eq, Option, option_map}
use Rattle.indexmap.specs.IndexMap as map
use Rattle.exo_tree.specs.Tree.{Argument}
use Rattle.block_matches.specs.declared.partners.Partners.{Partners}
use Rattle.block_matches.specs.declared.determined.Determined.{Determined}
use Rattle.block_matches.specs.PlainGiven.{plain_given}

abbrev pub partners_in : Partners → ℕ → Option ℕ
partners_in t x = map.get nat_eq t.table x

abbrev pub determined_in : Determined → ℕ → Option Argument
determined_in t x = option_map plain_given (map.get nat_eq t.table x)
