use Rattle.std.proofs.Common.{codes, string_bytes}
use Rattle.std.proofs.Output.{has_written_of_eq}
use Rattle.c_tree.specs.CText.{struct_word, actual_text}
use Rattle.exo_tree.specs.PlainBinder.{cell_type}
use Rattle.c_tree.specs.Plain.{plain_window}
use Rattle.c_tree.proofs.Joined.{six}
use Rattle.c_tree.proofs.show.BindingDisplay.fmt.Goals as goal

pub returns-clause-writes : goal.returns-clause-writes
returns-clause-writes g c = λ plain ok.
    let window = c.args.self.now.window.now in
    has_written_of_eq _ _ _ _ _ (six (struct_word window.kind.rank (cell_type window.kind.cell)) (codes " ") (string_bytes c.args.self.now.name.now) (codes " = ") (actual_text (plain_window window)) (codes ";")) (c.write.ensures.writes plain ok)
