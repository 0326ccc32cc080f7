use Rattle.std.proofs.Common.{◌≡◌, codes, string_bytes, ap, sym, ◌∙◌}
use Rattle.std.specs.Prelude.{decimal}
use Rattle.std.specs.Fmt.{signed_decimal}
use Rattle.std.proofs.Output.{has_written_of_eq}
use Rattle.c_tree.specs.CText.{number64_text}
use Rattle.c_tree.specs.Plain.{plain_number}
use Rattle.c_tree.specs.declared.tree.CNumber.TheVariants as v
use Rattle.c_tree.proofs.Joined.{four, five, parted}
use Rattle.c_tree.proofs.show.CNumberDisplay.+fmt.Goals as goal

pub returns-in-Stride-clause-writes : goal.returns-in-Stride-clause-writes
returns-in-Stride-clause-writes g t c = λ plain ok.
    let s = c.in-Stride in
    let is : c.args.self.now ≡ v.Stride s.w s.k = s.is in
    let joined = four (string_bytes s.w) (codes ".strides[") (decimal s.k) (codes "]") in
    let same = joined ∙ sym (ap (λ k. number64_text (plain_number k)) is) in
    has_written_of_eq _ _ _ _ _ same (c.write-in-Stride.ensures.writes plain ok)

pub returns-in-Sum-clause-writes : goal.returns-in-Sum-clause-writes
returns-in-Sum-clause-writes g t c = λ plain ok.
    let s = c.in-Sum in
    let is : c.args.self.now ≡ v.Sum s.a s.b = s.is in
    let joined = parted (number64_text (plain_number s.a.value)) (codes "+") (number64_text (plain_number s.b.value)) in
    let same = joined ∙ sym (ap (λ k. number64_text (plain_number k)) is) in
    has_written_of_eq _ _ _ _ _ same (c.write-in-Sum.ensures.writes plain ok)

pub returns-in-Difference-clause-writes : goal.returns-in-Difference-clause-writes
returns-in-Difference-clause-writes g t c = λ plain ok.
    let s = c.in-Difference in
    let is : c.args.self.now ≡ v.Difference s.a s.b = s.is in
    let joined = parted (number64_text (plain_number s.a.value)) (codes "-") (number64_text (plain_number s.b.value)) in
    let same = joined ∙ sym (ap (λ k. number64_text (plain_number k)) is) in
    has_written_of_eq _ _ _ _ _ same (c.write-in-Difference.ensures.writes plain ok)

pub returns-in-Product-clause-writes : goal.returns-in-Product-clause-writes
returns-in-Product-clause-writes g t c = λ plain ok.
    let s = c.in-Product in
    let is : c.args.self.now ≡ v.Product s.a s.b = s.is in
    let joined = parted (number64_text (plain_number s.a.value)) (codes "*") (number64_text (plain_number s.b.value)) in
    let same = joined ∙ sym (ap (λ k. number64_text (plain_number k)) is) in
    has_written_of_eq _ _ _ _ _ same (c.write-in-Product.ensures.writes plain ok)

pub returns-in-Quotient-clause-writes : goal.returns-in-Quotient-clause-writes
returns-in-Quotient-clause-writes g t c = λ plain ok.
    let s = c.in-Quotient in
    let is : c.args.self.now ≡ v.Quotient s.a s.n = s.is in
    let joined = five (codes "exo_div(") (number64_text (plain_number s.a.value)) (codes ", ") (signed_decimal s.n) (codes "LL)") in
    let same = joined ∙ sym (ap (λ k. number64_text (plain_number k)) is) in
    has_written_of_eq _ _ _ _ _ same (c.write-in-Quotient.ensures.writes plain ok)

pub returns-in-Remainder-clause-writes : goal.returns-in-Remainder-clause-writes
returns-in-Remainder-clause-writes g t c = λ plain ok.
    let s = c.in-Remainder in
    let is : c.args.self.now ≡ v.Remainder s.a s.n = s.is in
    let joined = five (codes "exo_mod(") (number64_text (plain_number s.a.value)) (codes ", ") (signed_decimal s.n) (codes "LL)") in
    let same = joined ∙ sym (ap (λ k. number64_text (plain_number k)) is) in
    has_written_of_eq _ _ _ _ _ same (c.write-in-Remainder.ensures.writes plain ok)
