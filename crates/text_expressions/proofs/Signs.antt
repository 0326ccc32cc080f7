-- Operators and their tokens.
use Rattle.std.proofs.Common.{◌≡◌, ℕ, suc, ◌<◌, ◌≤◌, List, [], ◌∷◌, Option, Some, None, refl, sym, ap, ◌∙◌, subst, arith}
use Rattle.text_phrases.specs.Phrase.{first}
use Rattle.text_expressions.specs.Expression.{level_of, left_level, sign, joins, FollowsOperand, FollowsBy}
use Rattle.text_expressions.specs.declared.source.Infix.{Infix}
use Rattle.text_expressions.specs.declared.source.Infix.TheVariants.{Or, And, Lt, Le, Gt, Ge, Eq, Add, Sub, Mul, Div, Mod}
use Rattle.text_lexer.specs.declared.token.Token.{Token}

pub joins-sign : (o : Infix) → joins (sign o) ≡ Some o
joins-sign Or = refl
joins-sign And = refl
joins-sign Lt = refl
joins-sign Le = refl
joins-sign Gt = refl
joins-sign Ge = refl
joins-sign Eq = refl
joins-sign Add = refl
joins-sign Sub = refl
joins-sign Mul = refl
joins-sign Div = refl
joins-sign Mod = refl

pub left_low : (o : Infix) → level_of o ≤ left_level o
left_low Or = omega arith
left_low And = omega arith
left_low Lt = omega arith
left_low Le = omega arith
left_low Gt = omega arith
left_low Ge = omega arith
left_low Eq = omega arith
left_low Add = omega arith
left_low Sub = omega arith
left_low Mul = omega arith
left_low Div = omega arith
left_low Mod = omega arith

pub left_same : (o : Infix) → (level_of o ≡ 2 → ⊥) → left_level o ≡ level_of o
left_same Or ne = refl
left_same And ne = refl
left_same Lt ne = absurd (ne refl)
left_same Le ne = absurd (ne refl)
left_same Gt ne = absurd (ne refl)
left_same Ge ne = absurd (ne refl)
left_same Eq ne = absurd (ne refl)
left_same Add ne = refl
left_same Sub ne = refl
left_same Mul ne = refl
left_same Div ne = refl
left_same Mod ne = refl

pub compared_left : (o : Infix) → level_of o ≡ 2 → left_level o ≡ 3
compared_left Or same = absurd (omega arith)
compared_left And same = absurd (omega arith)
compared_left Lt same = refl
compared_left Le same = refl
compared_left Gt same = refl
compared_left Ge same = refl
compared_left Eq same = refl
compared_left Add same = absurd (omega arith)
compared_left Sub same = absurd (omega arith)
compared_left Mul same = absurd (omega arith)
compared_left Div same = absurd (omega arith)
compared_left Mod same = absurd (omega arith)

pub sign_same : (a b : Infix) → sign a ≡ sign b → a ≡ b
sign_same a b same =
    let e : Some a ≡ Some b = sym (joins-sign a) ∙ ap joins same ∙ joins-sign b in
    cc (e)

-- an operator stands behind every tighter operand
pub follows_sign : (level : ℕ) (o : Infix) → level_of o < level → FollowsOperand level (Some (sign o))
follows_sign level o below = subst (FollowsBy level (sign o)) (sym (joins-sign o)) below

pub sign_follows : (level : ℕ) (o : Infix) → FollowsOperand level (Some (sign o)) → level_of o < level
sign_follows level o follows = subst (FollowsBy level (sign o)) (joins-sign o) follows

weaker_by : (level : ℕ) (t : Token) (j : Option Infix) → FollowsBy level t j → FollowsBy (suc level) t j
weaker_by level t None follows = follows
weaker_by level t (Some o) follows = omega arith

pub follows_weaker : (level : ℕ) (o : Option Token) → FollowsOperand level o → FollowsOperand (suc level) o
follows_weaker level None follows = tt
follows_weaker level (Some t) follows = weaker_by level t (joins t) follows

-- a list that begins with a token
pub headed : {A : Type 0} (a : A) (x : List A) → Some a ≡ first x → (rest : List A) × (x ≡ a ∷ rest)
headed a [] same = absurd (let e : Some a ≡ None = same in cc (e))
headed a (b ∷ rest) same = (rest, (let e : b ≡ a = cc in ap (λ c. c ∷ rest) e))
