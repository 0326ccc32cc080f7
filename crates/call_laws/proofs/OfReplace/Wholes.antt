-- Where the rule refuses nothing, no window stands against a name for which a name is given.
use Rattle.std.proofs.Common.{◌≡◌, ℕ, Bool, true, false, ◌&&◌, List, [], ◌∷◌, Option, Some, None, IfSome}
use Rattle.std.proofs.Common.{not, refl, sym, ap, ap₂, ◌∙◌, true≢false}
use Rattle.exo_tree.specs.Tree.{Argument, ControlArg, ConditionArg, Whole, Window}
use Rattle.exo_tree.specs.Tree.{Statement, If, For, Call, Block, end, next}
use Rattle.exo_tree.specs.Renaming.{re_argument, re_arguments, re_statement, re_block}
use Rattle.exo_meaning.proofs.Frame.{or_parts}
use Rattle.inplace_laws.specs.Inline.{is_view}
use Rattle.match_laws.specs.Inline.AtOnce.{Put}
use Rattle.match_laws.specs.Inline.Meets.{is_window, wholes_alike, all_wholes_alike, calls_alike_in}
use Rattle.match_laws.specs.Inline.Meets.{calls_alike}
use Rattle.call_laws.specs.Replace.Rule.{takes_window, hands_on, hand_on, hands_on_in, hands_wholes}

no : {P : Type 0} → false ≡ true → P
no h = absurd (true≢false (sym h))

shown : (t : Bool) → not t ≡ false → t ≡ true
shown true e = refl
shown false e = no (sym e)

window_is_view : (a : Argument) → is_window a ≡ true → is_view a ≡ true
window_is_view (ControlArg e) h = h
window_is_view (ConditionArg c) h = h
window_is_view (Whole z) h = refl
window_is_view (Window z cs) h = refl

-- to: the parameters' new ids
module _ (put : Put) (to : ℕ → ℕ) (given : ℕ → Option Argument)
    (names : (x : ℕ) → IfSome (given x) (λ a. is_view a ≡ true → put.name (to x) ≡ a)) where
  takes : (x : ℕ) (o : Option Argument) → IfSome o (λ a. is_view a ≡ true → put.name (to x) ≡ a)
      → takes_window given o ≡ true → is_window (put.name (to x)) ≡ true
  takes x None i j = no j
  takes x (Some a) i j = ap is_window (i (window_is_view a j)) ∙ j

  argument_alike : (a b : Argument) → hands_on given a b ≡ false
      → wholes_alike put (re_argument to a) b ≡ true
  argument_alike (Whole x) (Window y ds) h =
      takes x (given x) (names x) (shown (takes_window given (given x)) h)
  argument_alike a b h = refl

  arguments_are : (as' bs : List Argument) → hand_on given as' bs ≡ false
      → all_wholes_alike put (re_arguments to as') bs ≡ true
  arguments_are [] bs h = refl
  arguments_are (a ∷ as') [] h = refl
  arguments_are (a ∷ as') (b ∷ bs) h =
      let q = or_parts (hands_on given a b) (hand_on given as' bs) h in
      ap₂ ◌&&◌ (argument_alike a b q.0) (arguments_are as' bs q.1)

  mutual
    pub blocks_are : (b d : Block) → hands_wholes given b d ≡ false
        → calls_alike put (re_block to b) d ≡ true
    blocks_are end d h = refl
    blocks_are (next a b) end h = refl
    blocks_are (next a b) (next c d) h =
        let q = or_parts (hands_on_in given a c) (hands_wholes given b d) h in
        ap₂ ◌&&◌ (statements_are a c q.0) (blocks_are b d q.1)

    statements_are : (a c : Statement) → hands_on_in given a c ≡ false
        → calls_alike_in put (re_statement to a) c ≡ true
    statements_are (If t a b) (If r c d) h =
        let q = or_parts (hands_wholes given a c) (hands_wholes given b d) h in
        ap₂ ◌&&◌ (blocks_are a c q.0) (blocks_are b d q.1)
    statements_are (For i lo hi b) (For j l u d) h = blocks_are b d h
    statements_are (Call k as') (Call n bs) h = arguments_are as' bs h
    statements_are a c h = refl
