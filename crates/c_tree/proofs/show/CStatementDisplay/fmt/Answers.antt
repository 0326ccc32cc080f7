use Rattle.std.proofs.Common.{◌≡◌, codes, string_bytes, ap, sym, ◌∙◌}
use Rattle.std.specs.Fmt.{signed_decimal}
use Rattle.std.proofs.Output.{has_written_of_eq}
use Rattle.c_tree.specs.CText.{element_word, number64_text, actual_text, head_text}
use Rattle.c_tree.specs.Plain.{plain_element, plain_number, plain_actual, plain_statement}
use Rattle.c_tree.specs.declared.tree.CStatement.TheVariants as v
use Rattle.c_tree.proofs.Joined.{four, six, eleven}
use Rattle.c_tree.proofs.show.CStatementDisplay.fmt.Goals as goal

pub returns-in-SetField-clause-writes : goal.returns-in-SetField-clause-writes
returns-in-SetField-clause-writes g c = λ plain ok.
    let s = c.in-SetField in
    let is : c.args.self.now ≡ v.SetField s.x s.a = s.is in
    let joined = four (string_bytes s.x) (codes " = ") (actual_text (plain_actual s.a)) (codes ";") in
    let same = joined ∙ sym (ap (λ k. head_text (plain_statement k)) is) in
    has_written_of_eq _ _ _ _ _ same (c.write-in-SetField.ensures.writes plain ok)

pub returns-in-Array-clause-writes : goal.returns-in-Array-clause-writes
returns-in-Array-clause-writes g c = λ plain ok.
    let s = c.in-Array in
    let is : c.args.self.now ≡ v.Array s.t s.x s.n = s.is in
    let word = element_word (plain_element s.t) in
    let joined = six word (codes " ") (string_bytes s.x) (codes "[") (signed_decimal s.n) (codes "];") in
    let same = joined ∙ sym (ap (λ k. head_text (plain_statement k)) is) in
    has_written_of_eq _ _ _ _ _ same (c.write-in-Array.ensures.writes plain ok)

pub returns-in-Loop-clause-writes : goal.returns-in-Loop-clause-writes
returns-in-Loop-clause-writes g c = λ plain ok.
    let s = c.in-Loop in
    let is : c.args.self.now ≡ v.Loop s.x s.lo s.hi s.field-3 = s.is in
    let x = string_bytes s.x in
    let low = number64_text (plain_number s.lo.value) in
    let high = number64_text (plain_number s.hi.value) in
    let head = codes "for (int64_t " in
    let joined = eleven head x (codes " = ") low (codes "; ") x (codes " < ") high (codes "; ") x (codes "++) {") in
    let same = joined ∙ sym (ap (λ k. head_text (plain_statement k)) is) in
    has_written_of_eq _ _ _ _ _ same (c.write-in-Loop.ensures.writes plain ok)
