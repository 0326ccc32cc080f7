-- How many tokens expressions have, form by form.
use Rattle.std.proofs.Common.{◌≡◌, ℕ, suc, ◌+◌, Bool, true, false, List, [], ◌∷◌, ◌++◌, length, refl, arith}
use Rattle.std.proofs.lemmas.List.{length-append}
use Rattle.text_lexer.specs.declared.token.Literal.{Literal}
use Rattle.text_lexer.specs.declared.token.Token.TheVariants as t
use Rattle.text_lexer.specs.declared.token.Sign.TheVariants as s
use Rattle.text_expressions.specs.declared.source.Infix.{Infix}
use Rattle.text_expressions.specs.Expression.{Tree, number, truth, variable, access, field, stride, relu, select, negative, parens, binary, trees, spelling, spelling_list, spelling_more}
use Rattle.rules_names.specs.ExpressionRules.{width, commas_width, closed_width}

pub width_number : (k : Literal) → width (number k) ≡ 1
unfolding width
width_number k = refl

pub width_truth : (b : Bool) → width (truth b) ≡ 1
unfolding width
width_truth true = refl
width_truth false = refl

pub width_variable : (x : List ℕ) → width (variable x) ≡ 1
unfolding width
width_variable x = refl

pub width_field : (c x : List ℕ) → width (field c x) ≡ 3
unfolding width
width_field c x = refl

pub width_stride : (x : List ℕ) (k : Literal) → width (stride x k) ≡ 6
unfolding width
width_stride x k = refl

pub width_negative : (e : Tree) → width (negative e) ≡ suc (width e)
unfolding width
width_negative e = refl

pub width_parens : (e : Tree) → width (parens e) ≡ suc (suc (width e))
unfolding width
width_parens e = let l = length-append (spelling e) (t.Sign s.Close ∷ []) in omega arith

pub width_relu : (e : Tree) → width (relu e) ≡ suc (suc (suc (width e)))
unfolding width
width_relu e = let l = length-append (spelling e) (t.Sign s.Close ∷ []) in omega arith

pub width_binary : (o : Infix) (l r : Tree) → width (binary o l r) ≡ width l + suc (width r)
unfolding width
width_binary o l r = length-append (spelling l) _

pub width_select : (a b c d : Tree) → width (select a b c d) ≡ 2 + width a + 1 + width b + 1 + width c + 1 + width d + 1
unfolding width
width_select a b c d =
    let i = length-append (spelling d) (t.Sign s.Close ∷ []) in
    let j = length-append (spelling c) (t.Sign s.Comma ∷ (spelling d ++ (t.Sign s.Close ∷ []))) in
    let k = length-append (spelling b) (t.Sign s.Comma ∷ (spelling c ++ (t.Sign s.Comma ∷ (spelling d ++ (t.Sign s.Close ∷ []))))) in
    let l = length-append (spelling a) (t.Sign s.Comma ∷ (spelling b ++ (t.Sign s.Comma ∷ (spelling c ++ (t.Sign s.Comma ∷ (spelling d ++ (t.Sign s.Close ∷ []))))))) in
    omega arith

-- the tokens of more expressions behind a comma each
more_width : (es : List Tree) → length (spelling_more (trees es)) ≡ commas_width es
unfolding width
more_width [] = refl
more_width (e ∷ es) = let l = length-append (spelling e) (spelling_more (trees es)) in let m = more_width es in omega arith

list_width : (es : List Tree) → suc (length (spelling_list (trees es))) ≡ closed_width es
unfolding width
list_width [] = refl
list_width (e ∷ es) = let l = length-append (spelling e) (spelling_more (trees es)) in let m = more_width es in omega arith

pub width_access : (x : List ℕ) (es : List Tree) → width (access x (trees es)) ≡ suc (suc (closed_width es))
unfolding width
width_access x es = let l = length-append (spelling_list (trees es)) (t.Sign s.CloseBracket ∷ []) in let m = list_width es in omega arith
