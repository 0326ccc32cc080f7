use Rattle.std.proofs.Common.{◌≡◌, codes, ap, sym, ◌∙◌}
use Rattle.std.proofs.Output.{has_written_of_eq}
use Rattle.c_tree.specs.CText.{number32_text}
use Rattle.c_tree.specs.Plain.{plain_data}
use Rattle.c_tree.specs.declared.tree.CData.TheVariants as v
use Rattle.c_tree.proofs.Joined.{parted}
use Rattle.c_tree.proofs.show.CDataDisplay.+fmt.Goals as goal

pub returns-in-Opposite-clause-writes : goal.returns-in-Opposite-clause-writes
returns-in-Opposite-clause-writes g t c = λ plain ok.
    let s = c.in-Opposite in
    let is : c.args.self.now ≡ v.Opposite s.a = s.is in
    let joined = parted (codes "0u") (codes "-") (number32_text (plain_data s.a.value)) in
    let same = joined ∙ sym (ap (λ k. number32_text (plain_data k)) is) in
    has_written_of_eq _ _ _ _ _ same (c.write-in-Opposite.ensures.writes plain ok)

pub returns-in-Sum-clause-writes : goal.returns-in-Sum-clause-writes
returns-in-Sum-clause-writes g t c = λ plain ok.
    let s = c.in-Sum in
    let is : c.args.self.now ≡ v.Sum s.a s.b = s.is in
    let joined = parted (number32_text (plain_data s.a.value)) (codes "+") (number32_text (plain_data s.b.value)) in
    let same = joined ∙ sym (ap (λ k. number32_text (plain_data k)) is) in
    has_written_of_eq _ _ _ _ _ same (c.write-in-Sum.ensures.writes plain ok)

pub returns-in-Difference-clause-writes : goal.returns-in-Difference-clause-writes
returns-in-Difference-clause-writes g t c = λ plain ok.
    let s = c.in-Difference in
    let is : c.args.self.now ≡ v.Difference s.a s.b = s.is in
    let joined = parted (number32_text (plain_data s.a.value)) (codes "-") (number32_text (plain_data s.b.value)) in
    let same = joined ∙ sym (ap (λ k. number32_text (plain_data k)) is) in
    has_written_of_eq _ _ _ _ _ same (c.write-in-Difference.ensures.writes plain ok)

pub returns-in-Product-clause-writes : goal.returns-in-Product-clause-writes
returns-in-Product-clause-writes g t c = λ plain ok.
    let s = c.in-Product in
    let is : c.args.self.now ≡ v.Product s.a s.b = s.is in
    let joined = parted (number32_text (plain_data s.a.value)) (codes "*") (number32_text (plain_data s.b.value)) in
    let same = joined ∙ sym (ap (λ k. number32_text (plain_data k)) is) in
    has_written_of_eq _ _ _ _ _ same (c.write-in-Product.ensures.writes plain ok)
