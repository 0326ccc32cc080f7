use Rattle.std.proofs.Common.{codes, string_bytes}
use Rattle.std.proofs.Output.{has_written_of_eq}
use Rattle.c_tree.specs.CText.{element_word, number64_text}
use Rattle.c_tree.specs.Plain.{plain_element, plain_number}
use Rattle.c_tree.proofs.Joined.{ten}
use Rattle.c_tree.proofs.show.AllocationDisplay.fmt.Goals as goal

pub returns-clause-writes : goal.returns-clause-writes
returns-clause-writes g c = λ plain ok.
    let t = element_word (plain_element c.args.self.now.element.now) in
    let x = string_bytes c.args.self.now.name.now in
    let n = number64_text (plain_number c.args.self.now.count.now) in
    has_written_of_eq _ _ _ _ _ (ten t (codes " *") x (codes " = (") t (codes " *)malloc((size_t)") n (codes " * sizeof(") t (codes "));")) (c.write.ensures.writes plain ok)
