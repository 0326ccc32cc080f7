-- Source expressions that stand for parts of buffers: their trees, and how many tokens they have.
use Rattle.std.proofs.Common.{◌≡◌, ℕ, suc, List, [], ◌∷◌, length, map, refl, sym, ap, ◌∙◌, arith}
use Rattle.std.proofs.lemmas.List.{length-append}
use Rattle.text_lexer.specs.declared.token.Token.TheVariants as t
use Rattle.text_lexer.specs.declared.token.Sign.TheVariants as s
use Rattle.text_expressions.specs.Expression.{Tree, variable, access, parens, trees, spelling, spelling_list, spelling_more}
use Rattle.text_expressions.specs.Views.{tree_of, tree_step}
use Rattle.text_expressions.specs.declared.source.SourceExpr.{SourceExpr}
use Rattle.text_expressions.specs.declared.source.SourceExpr.TheVariants.{Name, Access, Parens, rolls-Name, rolls-Access, rolls-Parens}
use Rattle.text_expressions.specs.declared.source.SourceExpr.TheFolds.{fold-roll-SourceExpr}
use Rattle.rules_names.specs.ExpressionRules.{width, commas_width, closed_width, list_of}

-- an expression of each form is this tree
pub is_name : (e : SourceExpr) (x : List ℕ) → e ≡ Name x → tree_of e ≡ variable x
is_name e x p = ap tree_of p ∙ ap tree_of (sym (rolls-Name x)) ∙ fold-roll-SourceExpr Tree tree_step _

pub is_access : (e : SourceExpr) (x list : _) → e ≡ Access x list → tree_of e ≡ access x (trees (map tree_of list.items))
is_access e x list p = ap tree_of p ∙ ap tree_of (sym (rolls-Access x list)) ∙ fold-roll-SourceExpr Tree tree_step _

pub is_parens : (e : SourceExpr) (b : _) → e ≡ Parens b → tree_of e ≡ parens (tree_of b.value)
is_parens e b p = ap tree_of p ∙ ap tree_of (sym (rolls-Parens b)) ∙ fold-roll-SourceExpr Tree tree_step _

-- the tokens of each form
pub width_parens : (e : Tree) → width (parens e) ≡ suc (suc (width e))
unfolding width
width_parens e = let l = length-append (spelling e) (t.Sign s.Close ∷ []) in omega arith

more_width : (es : List Tree) → length (spelling_more (trees es)) ≡ commas_width es
unfolding width
more_width [] = refl
more_width (e ∷ es) = let l = length-append (spelling e) (spelling_more (trees es)) in let m = more_width es in omega arith

list_width : (es : List Tree) → suc (length (spelling_list (trees es))) ≡ closed_width es
unfolding width
list_width [] = refl
list_width (e ∷ es) = let l = length-append (spelling e) (spelling_more (trees es)) in let m = more_width es in omega arith

pub width_access : (x : List ℕ) (es : List Tree) → width (access x (trees es)) ≡ suc (suc (closed_width es))
unfolding width
width_access x es = let l = length-append (spelling_list (trees es)) (t.Sign s.CloseBracket ∷ []) in let m = list_width es in omega arith

-- a list of indices as a list
pub listed : (es : List Tree) → list_of (trees es) ≡ es
listed [] = refl
listed (e ∷ es) = ap (λ l. e ∷ l) (listed es)
