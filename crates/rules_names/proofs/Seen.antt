-- The trees of source expressions, form by form.
use Rattle.std.proofs.Common.{◌≡◌, ℕ, Bool, List, [], ◌∷◌, map, sym, ap, refl, ◌∙◌}
use Rattle.rules_names.specs.ExpressionRules.{list_of}
use Rattle.text_lexer.specs.declared.token.Literal.TheVariants.{Value}
use Rattle.text_expressions.specs.Expression.{Tree, number, truth, variable, access, field, stride, relu, select, negative, parens, binary, trees}
use Rattle.text_expressions.specs.Views.{tree_of, tree_step}
use Rattle.text_expressions.specs.declared.source.Infix.{Infix}
use Rattle.text_expressions.specs.declared.source.SourceExpr.{SourceExpr}
use Rattle.text_expressions.specs.declared.source.SourceExpr.TheVariants.{Int, Truth, Name, Access, Field, Stride, Relu, Select, Negative, Parens, Binary, rolls-Int, rolls-Truth, rolls-Name, rolls-Access, rolls-Field, rolls-Stride, rolls-Relu, rolls-Select, rolls-Negative, rolls-Parens, rolls-Binary}
use Rattle.text_expressions.specs.declared.source.SourceExpr.TheFolds.{fold-roll-SourceExpr}

pub seen_int : (k : ℕ) → tree_of (Int k) ≡ number (Value k)
seen_int k = ap tree_of (sym (rolls-Int k)) ∙ fold-roll-SourceExpr Tree tree_step _

pub seen_truth : (b : Bool) → tree_of (Truth b) ≡ truth b
seen_truth b = ap tree_of (sym (rolls-Truth b)) ∙ fold-roll-SourceExpr Tree tree_step _

pub seen_name : (x : List ℕ) → tree_of (Name x) ≡ variable x
seen_name x = ap tree_of (sym (rolls-Name x)) ∙ fold-roll-SourceExpr Tree tree_step _

pub seen_access : (x list : _) → tree_of (Access x list) ≡ access x (trees (map tree_of list.items))
seen_access x list = ap tree_of (sym (rolls-Access x list)) ∙ fold-roll-SourceExpr Tree tree_step _

pub seen_field : (c x : List ℕ) → tree_of (Field c x) ≡ field c x
seen_field c x = ap tree_of (sym (rolls-Field c x)) ∙ fold-roll-SourceExpr Tree tree_step _

pub seen_stride : (x : List ℕ) (k : ℕ) → tree_of (Stride x k) ≡ stride x (Value k)
seen_stride x k = ap tree_of (sym (rolls-Stride x k)) ∙ fold-roll-SourceExpr Tree tree_step _

pub seen_relu : (e : _) → tree_of (Relu e) ≡ relu (tree_of e.value)
seen_relu e = ap tree_of (sym (rolls-Relu e)) ∙ fold-roll-SourceExpr Tree tree_step _

pub seen_select : (a b c d : _) → tree_of (Select a b c d) ≡ select (tree_of a.value) (tree_of b.value) (tree_of c.value) (tree_of d.value)
seen_select a b c d = ap tree_of (sym (rolls-Select a b c d)) ∙ fold-roll-SourceExpr Tree tree_step _

pub seen_negative : (e : _) → tree_of (Negative e) ≡ negative (tree_of e.value)
seen_negative e = ap tree_of (sym (rolls-Negative e)) ∙ fold-roll-SourceExpr Tree tree_step _

pub seen_parens : (e : _) → tree_of (Parens e) ≡ parens (tree_of e.value)
seen_parens e = ap tree_of (sym (rolls-Parens e)) ∙ fold-roll-SourceExpr Tree tree_step _

pub seen_binary : (o : Infix) (l r : _) → tree_of (Binary o l r) ≡ binary o (tree_of l.value) (tree_of r.value)
seen_binary o l r = ap tree_of (sym (rolls-Binary o l r)) ∙ fold-roll-SourceExpr Tree tree_step _

-- two sides behind their boxes
pub sides : (e : SourceExpr) (o : Infix) (l r : _) (a b : SourceExpr) → e ≡ Binary o l r → a ≡ l.value → b ≡ r.value → tree_of e ≡ binary o (tree_of a) (tree_of b)
sides e o l r a b p q s = ap tree_of p ∙ seen_binary o l r ∙ ap (λ x. binary o (tree_of x) (tree_of r.value)) (sym q) ∙ ap (λ x. binary o (tree_of a) (tree_of x)) (sym s)

-- a list of indices is the list that it was made of
pub listed : (es : List Tree) → list_of (trees es) ≡ es
listed [] = refl
listed (e ∷ es) = ap (λ l. e ∷ l) (listed es)

-- four parts behind their boxes
pub choices : (e : SourceExpr) (f g h i : _) (a b c d : SourceExpr) → e ≡ Select f g h i → a ≡ f.value → b ≡ g.value → c ≡ h.value → d ≡ i.value → tree_of e ≡ select (tree_of a) (tree_of b) (tree_of c) (tree_of d)
choices e f g h i a b c d p q r s t =
    ap tree_of p ∙ seen_select f g h i ∙ ap (λ x. select (tree_of x) (tree_of g.value) (tree_of h.value) (tree_of i.value)) (sym q) ∙ ap (λ x. select (tree_of a) (tree_of x) (tree_of h.value) (tree_of i.value)) (sym r)
    ∙ ap (λ x. select (tree_of a) (tree_of b) (tree_of x) (tree_of i.value)) (sym s) ∙ ap (λ x. select (tree_of a) (tree_of b) (tree_of c) (tree_of x)) (sym t)
