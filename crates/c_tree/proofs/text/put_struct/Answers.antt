use Rattle.std.proofs.Common.{◌≡◌, ◌++◌, List, ℕ, OnOk, codes, decimal, string_bytes, ap, subst, ◌∙◌}
use Rattle.exo_tree.specs.PlainBinder.{cell_type}
use Rattle.c_tree.specs.CText.{struct_word, type_word}
use Rattle.c_tree.proofs.Joined.{seven}
use Rattle.c_tree.proofs.text.put_struct.Goals as goal

pub returns : goal.returns
returns c =
    let rank = c.args.s.now.rank in
    let cell = cell_type c.args.s.now.cell in
    let kind = struct_word rank cell in
    let strides = codes " *data; int64_t strides[" in
    let line : List ℕ → List ℕ = λ t. kind ++ (codes " { " ++ (t ++ (strides ++ (decimal rank ++ (codes "]; };" ++ codes "\n"))))) in
    subst (λ t. OnOk c.writeln.result (string_bytes c.writeln.new.self ≡ string_bytes c.args.out.now ++ t))
    (ap line c.type_word.ensures ∙ seven kind (codes " { ") (type_word cell) strides (decimal rank) (codes "]; };") (codes "\n")) c.writeln.ensures.bytes
