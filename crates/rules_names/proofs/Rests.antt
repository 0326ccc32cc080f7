-- What is left of a list in a loop over it.
use Rattle.std.proofs.Common.{◌≡◌, ℕ, suc, ◌+◌, ◌<◌, List, [], ◌∷◌, ◌++◌, append_assoc, map, drop, get_or, length, sym, ap, ◌∙◌, add-one, drop-cons, refl, arith, ◌==◌, ◌≤◌, true, false}
use Rattle.std.proofs.lemmas.Bool.Decides.{nat_tests}
use Rattle.std.proofs.Math.ListN.{drop_of_length-le}
use Rattle.text_expressions.specs.Views.{tree_of}
use Rattle.text_expressions.specs.declared.source.SourceExpr.{SourceExpr}
use Rattle.rules_names.specs.ExpressionRules.{width, commas_width, closed_width}

-- an item, and behind it the others
pub rest_of : {A : Type 0} (xs : List A) (i : ℕ) (d : A) → i < length xs → d ≡ get_or xs i d → drop i xs ≡ d ∷ drop (i + 1) xs
rest_of xs i d h e = drop-cons xs i d h ∙ ap (λ x. x ∷ drop (suc i) xs) (sym e) ∙ ap (λ j. d ∷ drop j xs) (sym (add-one i))

pub rest_width : (xs : List SourceExpr) (i : ℕ) (d : SourceExpr) → i < length xs → d ≡ get_or xs i d
    → commas_width (map tree_of (drop i xs)) ≡ width (tree_of d) + suc (commas_width (map tree_of (drop (i + 1) xs)))
rest_width xs i d h e = ap (λ l. commas_width (map tree_of l)) (rest_of xs i d h e)

-- where there is an item the bracket stands behind the last one
pub closed_some : (xs : List SourceExpr) → (length xs == 0) ≡ false → closed_width (map tree_of xs) ≡ commas_width (map tree_of xs)
closed_some [] h = cc
closed_some (x ∷ xs) h = refl

pub closed_none : (xs : List SourceExpr) → (length xs == 0) ≡ true → closed_width (map tree_of xs) ≡ 1
closed_none [] h = refl
closed_none (x ∷ xs) h = grind (arith, nat_tests)

-- nothing is left at the end
pub rest_none : (xs : List SourceExpr) (i : ℕ) → length xs ≤ i → commas_width (map tree_of (drop i xs)) ≡ 0
rest_none xs i h = ap (λ l. commas_width (map tree_of l)) (drop_of_length-le xs h)

pub empty_rest : {A : Type 0} (xs : List A) (i : ℕ) → length xs ≤ i → drop i xs ≡ []
empty_rest xs i h = drop_of_length-le xs h

-- a loop over a list pushes what its item at k stands for
pub pushed_on : {X Y C : Type 0} (f : Y → C) (g : X → Y) (xs : List X) (k : ℕ) (x : X) (out next whole : List C) (c : C)
    → k < length xs → x ≡ get_or xs k x → c ≡ f (g x) → next ≡ out ++ c ∷ []
    → out ++ map f (map g (drop k xs)) ≡ whole → next ++ map f (map g (drop (k + 1) xs)) ≡ whole
pushed_on f g xs k x out next whole c h r e p i =
    ap (λ l. l ++ map f (map g (drop (k + 1) xs))) (p ∙ ap (λ d. out ++ d ∷ []) e) ∙ append_assoc out (f (g x) ∷ []) (map f (map g (drop (k + 1) xs)))
    ∙ ap (λ l. out ++ map f (map g l)) (sym (rest_of xs k x h r)) ∙ i
