-- The trees of source trees.
use Rattle.std.proofs.Common.{◌≡◌, ℕ, Bool, List, Box, Global, sym, ap, ◌∙◌}
use Rattle.text_expressions.specs.Expression.{Tree, number, truth, variable, field, stride, relu, select, negative, parens, binary}
use Rattle.text_expressions.specs.Views.{tree_of, tree_step}
use Rattle.text_expressions.specs.declared.source.SourceExpr.TheVariants.{Int, Truth, Name, Field, Stride, rolls-Int, rolls-Truth, rolls-Name, rolls-Field, rolls-Stride}
use Rattle.text_expressions.specs.declared.source.SourceExpr.TheVariants.{Negative, Relu, Parens, Select, Binary}
use Rattle.text_expressions.specs.declared.source.SourceExpr.TheVariants.{rolls-Negative, rolls-Relu, rolls-Parens}
use Rattle.text_expressions.specs.declared.source.SourceExpr.TheVariants.{rolls-Select, rolls-Binary}
use Rattle.text_expressions.specs.declared.source.SourceExpr.{SourceExpr}
use Rattle.text_expressions.specs.declared.source.Infix.{Infix}
use Rattle.text_expressions.specs.declared.source.SourceExpr.TheFolds.{fold-roll-SourceExpr}
use Rattle.text_lexer.specs.declared.token.Literal.TheVariants.{Value}

pub made_int : (n : ℕ) → tree_of (Int n) ≡ number (Value n)
made_int n = ap tree_of (sym (rolls-Int n)) ∙ fold-roll-SourceExpr Tree tree_step _

pub made_truth : (b : Bool) → tree_of (Truth b) ≡ truth b
made_truth b = ap tree_of (sym (rolls-Truth b)) ∙ fold-roll-SourceExpr Tree tree_step _

pub made_name : (x : List ℕ) → tree_of (Name x) ≡ variable x
made_name x = ap tree_of (sym (rolls-Name x)) ∙ fold-roll-SourceExpr Tree tree_step _

pub made_field : (x f : List ℕ) → tree_of (Field x f) ≡ field x f
made_field x f = ap tree_of (sym (rolls-Field x f)) ∙ fold-roll-SourceExpr Tree tree_step _

pub made_stride : (x : List ℕ) (n : ℕ) → tree_of (Stride x n) ≡ stride x (Value n)
made_stride x n = ap tree_of (sym (rolls-Stride x n)) ∙ fold-roll-SourceExpr Tree tree_step _

pub made_negative : (e : Box SourceExpr Global) → tree_of (Negative e) ≡ negative (tree_of e.value)
made_negative e = ap tree_of (sym (rolls-Negative e)) ∙ fold-roll-SourceExpr Tree tree_step _

pub made_relu : (e : Box SourceExpr Global) → tree_of (Relu e) ≡ relu (tree_of e.value)
made_relu e = ap tree_of (sym (rolls-Relu e)) ∙ fold-roll-SourceExpr Tree tree_step _

pub made_parens : (e : Box SourceExpr Global) → tree_of (Parens e) ≡ parens (tree_of e.value)
made_parens e = ap tree_of (sym (rolls-Parens e)) ∙ fold-roll-SourceExpr Tree tree_step _

pub made_select : (a b c d : Box SourceExpr Global) →
    tree_of (Select a b c d) ≡ select (tree_of a.value) (tree_of b.value) (tree_of c.value) (tree_of d.value)
made_select a b c d = ap tree_of (sym (rolls-Select a b c d)) ∙ fold-roll-SourceExpr Tree tree_step _

pub made_binary : (operator : Infix) (left right : Box SourceExpr Global) →
    tree_of (Binary operator left right) ≡ binary operator (tree_of left.value) (tree_of right.value)
made_binary operator left right =
    ap tree_of (sym (rolls-Binary operator left right)) ∙ fold-roll-SourceExpr Tree tree_step _
