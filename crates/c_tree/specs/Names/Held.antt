-- What a set of names holds.
use Rattle.std.specs.Prelude.{Bool}
use Rattle.std.specs.Str.{bytes_eq}
use Rattle.indexmap.specs.IndexSet.{contains_by}
use Rattle.c_tree.specs.Names.Words.{Name}
use Rattle.c_tree.specs.declared.names.set.NameSet.{NameSet}

abbrev pub names_in : NameSet → Name → Bool
names_in s x = contains_by (λ k. bytes_eq x k.now) s.set
