-- The first fault of two, and of lists.
use Rattle.std.proofs.Common.{◌≡◌, ◌≤◌, ◌<◌, ℕ, zero, suc, ◌+◌, min, List, [], ◌∷◌, length, drop, get_or, Option, Some, None, Result, Ok, Err, refl, sym, ap, ◌∙◌, arith, drop-cons}
use Rattle.std.specs.Result.{result_err, IsErrAnd}
use Rattle.exo_tree.specs.Tree.{Param, Argument, MemoryKind}
use Rattle.memory_kinds.specs.declared.error.KindError.{KindError}
use Rattle.memory_kinds.specs.Homes.{Homes}
use Rattle.memory_kinds.specs.Faults.{or_first, arguments_fault, argument_fault}

-- the first fails
pub stopped : (f g : Option KindError) (e : KindError) → Some e ≡ f → Some e ≡ or_first f g
stopped f g e h = ap (λ x. or_first x g) h

-- the first holds
pub went_on : (r f g : Option KindError) → None ≡ f → r ≡ g → r ≡ or_first f g
went_on r f g h i = i ∙ ap (λ x. or_first x g) h

pub grouped : (f g h : Option KindError) → or_first (or_first f g) h ≡ or_first f (or_first g h)
grouped None g h = refl
grouped (Some e) g h = refl

-- by an early return
pub left : {X : Type 0} (result : Result X KindError) (e : KindError) (whole : Option KindError) → IsErrAnd result (λ r. r ≡ e) → Some e ≡ whole → result_err result ≡ whole
left (Ok x) e whole is h = absurd is
left (Err r) e whole is h = ap Some is ∙ h

pub drop_read : {X : Type 0} (xs : List X) (k : ℕ) (x : X) → x ≡ get_or xs k x → k < length xs → drop k xs ≡ x ∷ drop (k + 1) xs
drop_read xs k x r h = let e : suc k ≡ k + 1 = omega arith in drop-cons xs k x h ∙ ap (λ y. y ∷ drop (suc k) xs) (sym r) ∙ ap (λ n. x ∷ drop n xs) e

-- ---- arguments

module _ (memories : List MemoryKind) (home : Homes) where
  pub argued_on : (whole : Option KindError) (p : Param) (a : Argument) (ps more : List Param) (args rest : List Argument) → ps ≡ p ∷ more → args ≡ a ∷ rest → None ≡ argument_fault memories home p a → arguments_fault memories home ps args ≡ whole → arguments_fault memories home more rest ≡ whole
  argued_on whole p a ps more args rest d e h w = went_on (arguments_fault memories home more rest) (argument_fault memories home p a) (arguments_fault memories home more rest) h refl ∙ (λ i. arguments_fault memories home (sym d i) (sym e i)) ∙ w

  pub argued_off : (whole : Option KindError) (p : Param) (a : Argument) (ps more : List Param) (args rest : List Argument) (f : KindError) → ps ≡ p ∷ more → args ≡ a ∷ rest → Some f ≡ argument_fault memories home p a → arguments_fault memories home ps args ≡ whole → Some f ≡ whole
  argued_off whole p a ps more args rest f d e h w = stopped (argument_fault memories home p a) (arguments_fault memories home more rest) f h ∙ (λ i. arguments_fault memories home (sym d i) (sym e i)) ∙ w

  nothing_given : (ps : List Param) → arguments_fault memories home ps [] ≡ None
  nothing_given [] = refl
  nothing_given (p ∷ ps) = refl

  pub none_left : (ps : List Param) (args : List Argument) (k : ℕ) → min (length ps) (length args) ≤ k → arguments_fault memories home (drop k ps) (drop k args) ≡ None
  none_left [] args zero h = refl
  none_left [] args (suc k) h = refl
  none_left (p ∷ ps) [] zero h = refl
  none_left (p ∷ ps) [] (suc k) h = nothing_given (drop k ps)
  none_left (p ∷ ps) (a ∷ args) zero h = absurd (omega (arith, h))
  none_left (p ∷ ps) (a ∷ args) (suc k) h = none_left ps args k (omega (arith, h))
