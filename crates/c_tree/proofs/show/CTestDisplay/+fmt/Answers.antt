use Rattle.std.proofs.Common.{◌≡◌, codes, string_bytes, ap, sym, ◌∙◌}
use Rattle.std.proofs.Output.{has_written_of_eq}
use Rattle.c_tree.specs.CText.{test_text}
use Rattle.c_tree.specs.Plain.{plain_test}
use Rattle.c_tree.specs.declared.tree.CTest.TheVariants as v
use Rattle.c_tree.proofs.Joined.{parted}
use Rattle.c_tree.proofs.show.CTestDisplay.+fmt.Goals as goal

pub returns-in-IsSet-clause-writes : goal.returns-in-IsSet-clause-writes
returns-in-IsSet-clause-writes g t c = λ plain ok.
    let s = c.in-IsSet in
    let is : c.args.self.now ≡ v.IsSet s.x = s.is in
    let joined = parted (string_bytes s.x) (codes "!=") (codes "0LL") in
    let same = joined ∙ sym (ap (λ k. test_text (plain_test k)) is) in
    has_written_of_eq _ _ _ _ _ same (c.write.ensures.writes plain ok)

pub returns-in-Both-clause-writes : goal.returns-in-Both-clause-writes
returns-in-Both-clause-writes g t c = λ plain ok.
    let s = c.in-Both in
    let is : c.args.self.now ≡ v.Both s.a s.b = s.is in
    let joined = parted (test_text (plain_test s.a.value)) (codes "&&") (test_text (plain_test s.b.value)) in
    let same = joined ∙ sym (ap (λ k. test_text (plain_test k)) is) in
    has_written_of_eq _ _ _ _ _ same (c.write-in-Both.ensures.writes plain ok)

pub returns-in-Either-clause-writes : goal.returns-in-Either-clause-writes
returns-in-Either-clause-writes g t c = λ plain ok.
    let s = c.in-Either in
    let is : c.args.self.now ≡ v.Either s.a s.b = s.is in
    let joined = parted (test_text (plain_test s.a.value)) (codes "||") (test_text (plain_test s.b.value)) in
    let same = joined ∙ sym (ap (λ k. test_text (plain_test k)) is) in
    has_written_of_eq _ _ _ _ _ same (c.write-in-Either.ensures.writes plain ok)
