-- The words that a table of names and a unit give.
use Rattle.std.specs.Prelude.{ℕ, Some, None}
use Rattle.std.specs.BTreeMap.{get}
use Rattle.std.specs.Ordering.{nat_cmp}
use Rattle.exo_tree.specs.PlainUnit.{program}
use Rattle.text_show.specs.Layout.{Text}
use Rattle.text_show.specs.Names.{unknown}
use Rattle.text_show.specs.Words as words
use Rattle.text_show.specs.declared.names.ShownNames.{ShownNames}
use Rattle.text_show.specs.declared.words.Words.{Words}

abbrev pub names_in : ShownNames → ℕ → Text
names_in n x = elim (get nat_cmp n.table x) [ None ↦ unknown x | Some t ↦ t.now ]

abbrev pub words_in : Words → words.Words
words_in w = words.words_with (program w.unit.now) (names_in w.names)
