-- How many tokens source expressions have, form by form.
use Rattle.std.proofs.Common.{◌≡◌, ℕ, suc, ◌+◌, Bool, List, map, ap, ◌∙◌}
use Rattle.text_expressions.specs.Views.{tree_of}
use Rattle.text_expressions.specs.declared.source.Infix.{Infix}
use Rattle.text_expressions.specs.declared.source.SourceExpr.{SourceExpr}
use Rattle.text_expressions.specs.declared.source.SourceExpr.TheVariants.{Int, Truth, Name, Access, Field, Stride, Relu, Select, Negative, Parens, Binary}
use Rattle.rules_names.specs.ExpressionRules.{width, closed_width}
use Rattle.rules_names.proofs.Seen.{seen_int, seen_truth, seen_name, seen_access, seen_field, seen_stride, seen_relu, seen_select, seen_negative, seen_parens, seen_binary}
use Rattle.rules_names.proofs.Widths.{width_number, width_truth, width_variable, width_access, width_field, width_stride, width_relu, width_select, width_negative, width_parens, width_binary}

abbrev pub wide : SourceExpr → ℕ
wide e = width (tree_of e)

pub wide_int : (e : SourceExpr) (k : ℕ) → e ≡ Int k → width (tree_of e) ≡ 1
wide_int e k p = ap wide p ∙ ap width (seen_int k) ∙ width_number _

pub wide_truth : (e : SourceExpr) (b : Bool) → e ≡ Truth b → width (tree_of e) ≡ 1
wide_truth e b p = ap wide p ∙ ap width (seen_truth b) ∙ width_truth b

pub wide_name : (e : SourceExpr) (x : List ℕ) → e ≡ Name x → width (tree_of e) ≡ 1
wide_name e x p = ap wide p ∙ ap width (seen_name x) ∙ width_variable x

pub wide_access : (e : SourceExpr) (x list : _) → e ≡ Access x list → width (tree_of e) ≡ suc (suc (closed_width (map tree_of list.items)))
wide_access e x list p = ap wide p ∙ ap width (seen_access x list) ∙ width_access x (map tree_of list.items)

pub wide_field : (e : SourceExpr) (c x : List ℕ) → e ≡ Field c x → width (tree_of e) ≡ 3
wide_field e c x p = ap wide p ∙ ap width (seen_field c x) ∙ width_field c x

pub wide_stride : (e : SourceExpr) (x : List ℕ) (k : ℕ) → e ≡ Stride x k → width (tree_of e) ≡ 6
wide_stride e x k p = ap wide p ∙ ap width (seen_stride x k) ∙ width_stride x _

pub wide_relu : (e : SourceExpr) (b : _) → e ≡ Relu b → width (tree_of e) ≡ suc (suc (suc (width (tree_of b.value))))
wide_relu e b p = ap wide p ∙ ap width (seen_relu b) ∙ width_relu _

pub wide_select : (e : SourceExpr) (f g h i : _) → e ≡ Select f g h i → width (tree_of e) ≡ 2 + width (tree_of f.value) + 1 + width (tree_of g.value) + 1 + width (tree_of h.value) + 1 + width (tree_of i.value) + 1
wide_select e f g h i p = ap wide p ∙ ap width (seen_select f g h i) ∙ width_select _ _ _ _

pub wide_negative : (e : SourceExpr) (b : _) → e ≡ Negative b → width (tree_of e) ≡ suc (width (tree_of b.value))
wide_negative e b p = ap wide p ∙ ap width (seen_negative b) ∙ width_negative _

pub wide_parens : (e : SourceExpr) (b : _) → e ≡ Parens b → width (tree_of e) ≡ suc (suc (width (tree_of b.value)))
wide_parens e b p = ap wide p ∙ ap width (seen_parens b) ∙ width_parens _

pub wide_binary : (e : SourceExpr) (o : Infix) (l r : _) → e ≡ Binary o l r → width (tree_of e) ≡ width (tree_of l.value) + suc (width (tree_of r.value))
wide_binary e o l r p = ap wide p ∙ ap width (seen_binary o l r) ∙ width_binary o _ _
