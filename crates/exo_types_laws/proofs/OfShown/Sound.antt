-- What source trees spell has no fault and closes its brackets.
use Rattle.std.proofs.Common.{◌≡◌, ℕ, ◌+◌, ◌-◌, List, [], ◌∷◌, ◌++◌, Bool, true, false, refl, ap, ◌∙◌, append_assoc, arith, subst}
use Rattle.text_lexer.specs.Layout.{is_fault, brackets_behind}
use Rattle.text_lexer.specs.declared.token.Token.{Token}
use Rattle.text_lexer.specs.declared.token.Token.TheVariants as t
use Rattle.text_lexer.specs.declared.token.Sign.TheVariants as s
use Rattle.text_lexer.specs.declared.token.Word.TheVariants as w
use Rattle.text_expressions.specs.declared.source.Infix.{Infix}
use Rattle.text_expressions.specs.declared.source.Infix.TheVariants as o
use Rattle.text_expressions.specs.Expression.{Tree, number, truth, variable, access, field, stride, relu, select, negative, parens, binary, Trees, end, next, sign, spelling, spelling_list, spelling_more}
use Rattle.exo_types_laws.proofs.OfShown.Rows.{IsSound, open_after}

pub record Whole (tokens : List Token) : Type 0 where
  pub sound : IsSound tokens
  pub closed : (n : ℕ) → open_after n tokens ≡ n

pub sound_append : (xs ys : List Token) → IsSound xs → IsSound ys → IsSound (xs ++ ys)
sound_append [] ys l k = k
sound_append (x ∷ xs) ys l k = (l.0, sound_append xs ys l.1 k)

open_append : (n : ℕ) (xs ys : List Token) → open_after n (xs ++ ys) ≡ open_after (open_after n xs) ys
open_append n [] ys = refl
open_append n (x ∷ xs) ys = open_append (brackets_behind n x) xs ys

pub nothing : Whole []
nothing = record { sound = tt; closed = λ n. refl }

pub both : (xs ys : List Token) → Whole xs → Whole ys → Whole (xs ++ ys)
both xs ys l k = record { sound = sound_append xs ys l.sound k.sound; closed = λ n. open_append n xs ys ∙ ap (λ (m : ℕ). open_after m ys) (l.closed n) ∙ k.closed n }

pub before : (token : Token) (xs : List Token) → is_fault token ≡ false → ((n : ℕ) → brackets_behind n token ≡ n) → Whole xs → Whole (token ∷ xs)
before token xs sound same l = record { sound = (sound, l.sound); closed = λ n. ap (λ (m : ℕ). open_after m xs) (same n) ∙ l.closed n }

around : (left right : Token) (xs : List Token) → is_fault left ≡ false → is_fault right ≡ false → ((n : ℕ) → brackets_behind n left ≡ n + 1) → ((n : ℕ) → brackets_behind n right ≡ n - 1) → Whole xs → Whole (left ∷ (xs ++ (right ∷ [])))
around left right xs l k up down all = record {
  sound = (l, sound_append xs (right ∷ []) all.sound (k, tt));
  closed = λ n. open_append (brackets_behind n left) xs (right ∷ []) ∙ ap (λ (m : ℕ). brackets_behind m right) (all.closed (brackets_behind n left) ∙ up n) ∙ down (n + 1) ∙ omega arith;
}

pub in_parens : (xs : List Token) → Whole xs → Whole (t.Sign s.Open ∷ (xs ++ (t.Sign s.Close ∷ [])))
in_parens xs all = around (t.Sign s.Open) (t.Sign s.Close) xs refl refl (λ n. refl) (λ n. refl) all

pub in_brackets : (xs : List Token) → Whole xs → Whole (t.Sign s.OpenBracket ∷ (xs ++ (t.Sign s.CloseBracket ∷ [])))
in_brackets xs all = around (t.Sign s.OpenBracket) (t.Sign s.CloseBracket) xs refl refl (λ n. refl) (λ n. refl) all

pub name : (x : List ℕ) (xs : List Token) → Whole xs → Whole (t.Name x ∷ xs)
name x xs all = before (t.Name x) xs refl (λ n. refl) all

pub comma : (xs : List Token) → Whole xs → Whole (t.Sign s.Comma ∷ xs)
comma xs all = before (t.Sign s.Comma) xs refl (λ n. refl) all

record IsPlain (token : Token) : Type 0 where
  sound : is_fault token ≡ false
  same : (n : ℕ) → brackets_behind n token ≡ n

sign_is : (operator : Infix) → IsPlain (sign operator)
sign_is o.Or = record { sound = refl; same = λ n. refl }
sign_is o.And = record { sound = refl; same = λ n. refl }
sign_is o.Lt = record { sound = refl; same = λ n. refl }
sign_is o.Le = record { sound = refl; same = λ n. refl }
sign_is o.Gt = record { sound = refl; same = λ n. refl }
sign_is o.Ge = record { sound = refl; same = λ n. refl }
sign_is o.Eq = record { sound = refl; same = λ n. refl }
sign_is o.Add = record { sound = refl; same = λ n. refl }
sign_is o.Sub = record { sound = refl; same = λ n. refl }
sign_is o.Mul = record { sound = refl; same = λ n. refl }
sign_is o.Div = record { sound = refl; same = λ n. refl }
sign_is o.Mod = record { sound = refl; same = λ n. refl }

truth_is : (b : Bool) → Whole (spelling (truth b))
truth_is true = before (t.Word w.True) [] refl (λ n. refl) nothing
truth_is false = before (t.Word w.False) [] refl (λ n. refl) nothing

four : (a b c d : List Token) → (a ++ (t.Sign s.Comma ∷ (b ++ (t.Sign s.Comma ∷ (c ++ (t.Sign s.Comma ∷ d)))))) ++ (t.Sign s.Close ∷ []) ≡ a ++ (t.Sign s.Comma ∷ (b ++ (t.Sign s.Comma ∷ (c ++ (t.Sign s.Comma ∷ (d ++ (t.Sign s.Close ∷ [])))))))
four a b c d = simp append_assoc

select_is : (a b c d : List Token) → Whole a → Whole b → Whole c → Whole d → Whole (t.Word w.Select ∷ t.Sign s.Open ∷ (a ++ (t.Sign s.Comma ∷ (b ++ (t.Sign s.Comma ∷ (c ++ (t.Sign s.Comma ∷ (d ++ (t.Sign s.Close ∷ [])))))))))
select_is a b c d ha hb hc hd =
    let all : Whole (a ++ (t.Sign s.Comma ∷ (b ++ (t.Sign s.Comma ∷ (c ++ (t.Sign s.Comma ∷ d)))))) = both a _ ha (comma _ (both b _ hb (comma _ (both c _ hc (comma d hd))))) in
    before (t.Word w.Select) _ refl (λ n. refl) (subst (λ (ts : List Token). Whole (t.Sign s.Open ∷ ts)) (four a b c d) (in_parens _ all))

mutual
  pub tree_whole : (e : Tree) → Whole (spelling e)
  tree_whole (number n) = before (t.Int n) [] refl (λ m. refl) nothing
  tree_whole (truth b) = truth_is b
  tree_whole (variable x) = name x [] nothing
  tree_whole (access x indices) = name x _ (in_brackets (spelling_list indices) (list_whole indices))
  tree_whole (field x f) = name x _ (before (t.Sign s.Dot) _ refl (λ n. refl) (name f [] nothing))
  tree_whole (stride x n) = before (t.Word w.Stride) _ refl (λ m. refl) (in_parens (t.Name x ∷ t.Sign s.Comma ∷ t.Int n ∷ []) (name x _ (comma _ (before (t.Int n) [] refl (λ m. refl) nothing))))
  tree_whole (relu inner) = before (t.Word w.Relu) _ refl (λ n. refl) (in_parens (spelling inner) (tree_whole inner))
  tree_whole (select a b c d) = select_is (spelling a) (spelling b) (spelling c) (spelling d) (tree_whole a) (tree_whole b) (tree_whole c) (tree_whole d)
  tree_whole (negative inner) = before (t.Sign s.Minus) (spelling inner) refl (λ n. refl) (tree_whole inner)
  tree_whole (parens inner) = in_parens (spelling inner) (tree_whole inner)
  tree_whole (binary operator left right) = both (spelling left) (sign operator ∷ spelling right) (tree_whole left) (before (sign operator) (spelling right) (sign_is operator).sound (sign_is operator).same (tree_whole right))

  pub list_whole : (es : Trees) → Whole (spelling_list es)
  list_whole end = nothing
  list_whole (next e more) = both (spelling e) (spelling_more more) (tree_whole e) (more_whole more)

  pub more_whole : (es : Trees) → Whole (spelling_more es)
  more_whole end = nothing
  more_whole (next e more) = comma (spelling e ++ spelling_more more) (both (spelling e) (spelling_more more) (tree_whole e) (more_whole more))
