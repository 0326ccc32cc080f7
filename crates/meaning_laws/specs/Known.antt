-- All that is known at a place, and what follows from it.
use Rattle.std.specs.Prelude.{◌≡◌, ◌++◌, ℕ, pos, true, false, List, [], ◌∷◌}
use Rattle.exo_tree.specs.Tree.{Kind, Size, Index, Truth, Stride, Lit, Var, Condition, Le, Block}
use Rattle.exo_tree.specs.Tree.{Param, ParamKind, ControlParam, TensorParam, WindowParam, Procedure}
use Rattle.exo_meaning.specs.Scene.{Scene, holds}
use Rattle.exo_meaning.specs.State.{State}
use Rattle.exo_meaning.specs.Run.{World}
use Rattle.exo_meaning.specs.Inputs.{IsAdmissible, is_buffer_of}
use Rattle.exo_meaning.specs.Orders.{Each}
use Rattle.exo_tree.specs.Context.{Context}
use Rattle.meaning_laws.specs.Context.{ComesTo}
use Rattle.meaning_laws.specs.Sound.{on_way}
use Rattle.meaning_laws.specs.Copies.{HoldsAt}
use Rattle.meaning_laws.specs.Facts.{Fact, Holds, IsTrueAt, with_fact, is_plain_condition, facts}
use Rattle.meaning_laws.specs.Facts.{IsSteady, AreSteady}

abbrev pub kind_facts : ℕ → Kind → List Fact
kind_facts x Size = Holds (Le (Lit (pos 1)) (Var x)) ∷ []
kind_facts x Index = []
kind_facts x Truth = Holds (Le (Lit (pos 0)) (Var x)) ∷ Holds (Le (Var x) (Lit (pos 1))) ∷ []
kind_facts x Stride = []

abbrev pub param_facts : ℕ → ParamKind → List Fact
param_facts x (ControlParam kind) = kind_facts x kind
param_facts x (TensorParam cell dims memory) = []
param_facts x (WindowParam cell dims memory) = []

abbrev pub params_facts : List Param → List Fact
params_facts [] = []
params_facts (p ∷ ps) = param_facts p.binder.id p.kind ++ params_facts ps

abbrev pub all_hold_facts : List Condition → List Fact
all_hold_facts [] = []
all_hold_facts (c ∷ cs) = with_fact (is_plain_condition c) (Holds c) (all_hold_facts cs)

-- of the parameters, the assertions, and the loops and branches round the hole
abbrev pub known : Procedure → Context → List Fact
known p c = params_facts p.params ++ (all_hold_facts p.asserts ++ facts c)

-- no loop or branch on the way changes what is known
pub record KeepsKnown (p : Procedure) (c : Context) : Type 0 where
  pub params : (x : ℕ) → is_buffer_of x p.params ≡ true → on_way c x ≡ false
  pub asserts : Each (IsSteady c) p.asserts
  pub facts : AreSteady c

abbrev pub KnownLaw : Type 0
KnownLaw =
    (world : World) (p : Procedure) (old : Block) (c : Context) (s u : State)
    → KeepsKnown p c
    → IsAdmissible world p s
    → ComesTo world old c s u
    → Each (IsTrueAt u.scene) (known p c)

-- a claim that follows from what is known holds there
abbrev pub ShownLaw : Type 0
ShownLaw =
    (world : World) (p : Procedure) (old : Block) (c : Context) (claim : Condition)
    → KeepsKnown p c
    → ((scene : Scene) → Each (IsTrueAt scene) (known p c) → holds scene claim ≡ true)
    → HoldsAt world p old c claim

-- ---- claims

pub record Claim : Type 0 where
  pub known : List Fact
  pub claim : Condition

-- in every scene in which all that is known holds, the claim does
abbrev pub Follows : Claim → Type 0
Follows c = (scene : Scene) → Each (IsTrueAt scene) c.known → holds scene c.claim ≡ true
