-- What is known at a place.
use Rattle.std.specs.Prelude.{◌≡◌, ◌&&◌, ◌||◌, ◌==◌, ℕ, Bool, true, false, List, [], ◌∷◌, ⊤}
use Rattle.exo_tree.specs.Tree.{Var, Condition, True, False, Flag, FieldFlag, Lt, Le, Gt, Ge, Eq}
use Rattle.exo_tree.specs.Tree.{And, Or, Block}
use Rattle.exo_meaning.specs.Scene.{Scene, holds}
use Rattle.exo_meaning.specs.State.{State}
use Rattle.exo_meaning.specs.Run.{World}
use Rattle.exo_meaning.specs.Orders.{Each}
use Rattle.exo_tree.specs.Context.{Context, Here, After, InLoop, InThen, InElse}
use Rattle.meaning_laws.specs.Context.{ComesTo}
use Rattle.meaning_laws.specs.Sound.{on_way}
use Rattle.meaning_laws.specs.Substitute.{is_plain, has_variable}

pub data Fact : Type 0 where
  Holds Fails : Condition → Fact

abbrev pub IsTrueAt : Scene → Fact → Type 0
IsTrueAt scene (Holds c) = holds scene c ≡ true
IsTrueAt scene (Fails c) = holds scene c ≡ false

-- no field and no stride stands in it
abbrev pub is_plain_condition : Condition → Bool
is_plain_condition True = true
is_plain_condition False = true
is_plain_condition (Flag x) = true
is_plain_condition (FieldFlag f) = false
is_plain_condition (Lt a b) = is_plain a && is_plain b
is_plain_condition (Le a b) = is_plain a && is_plain b
is_plain_condition (Gt a b) = is_plain a && is_plain b
is_plain_condition (Ge a b) = is_plain a && is_plain b
is_plain_condition (Eq a b) = is_plain a && is_plain b
is_plain_condition (And c d) = is_plain_condition c && is_plain_condition d
is_plain_condition (Or c d) = is_plain_condition c && is_plain_condition d

abbrev pub condition_has : Condition → ℕ → Bool
condition_has True y = false
condition_has False y = false
condition_has (Flag x) y = y == x
condition_has (FieldFlag f) y = false
condition_has (Lt a b) y = has_variable a y || has_variable b y
condition_has (Le a b) y = has_variable a y || has_variable b y
condition_has (Gt a b) y = has_variable a y || has_variable b y
condition_has (Ge a b) y = has_variable a y || has_variable b y
condition_has (Eq a b) y = has_variable a y || has_variable b y
condition_has (And c d) y = condition_has c y || condition_has d y
condition_has (Or c d) y = condition_has c y || condition_has d y

-- a fact, where its condition reads no field
abbrev pub with_fact : Bool → Fact → List Fact → List Fact
with_fact true fact rest = fact ∷ rest
with_fact false fact rest = rest

-- of the loops and branches round the hole, from the outermost inwards
abbrev pub facts : Context → List Fact
facts (Here rest) = []
facts (After a c) = facts c
facts (InLoop i lo hi c rest) = Holds (Le lo (Var i.id)) ∷ Holds (Lt (Var i.id) hi) ∷ facts c
facts (InThen t c other rest) = with_fact (is_plain_condition t) (Holds t) (facts c)
facts (InElse t other c rest) = with_fact (is_plain_condition t) (Fails t) (facts c)

-- nothing on the way to the hole binds a name of the condition
abbrev pub IsSteady : Context → Condition → Type 0
IsSteady c t = (x : ℕ) → condition_has t x ≡ true → on_way c x ≡ false

abbrev pub AreSteady : Context → Type 0
AreSteady (Here rest) = ⊤
AreSteady (After a c) = AreSteady c
AreSteady (InLoop i lo hi c rest) =
    (is_plain lo ≡ true)
    × (is_plain hi ≡ true)
    × (has_variable lo i.id ≡ false)
    × (has_variable hi i.id ≡ false)
    × IsSteady c (Le lo (Var i.id))
    × IsSteady c (Lt (Var i.id) hi)
    × AreSteady c
AreSteady (InThen t c other rest) = IsSteady c t × AreSteady c
AreSteady (InElse t other c rest) = IsSteady c t × AreSteady c

-- the facts hold in each state in which a run comes to the hole
abbrev pub FactsLaw : Type 0
FactsLaw =
    (world : World) (old : Block) (c : Context) (s u : State)
    → AreSteady c
    → ComesTo world old c s u
    → Each (IsTrueAt u.scene) (facts c)

-- so does what held at first
abbrev pub SteadyLaw : Type 0
SteadyLaw =
    (world : World) (old : Block) (c : Context) (s u : State) (t : Condition)
    → is_plain_condition t ≡ true
    → IsSteady c t
    → ComesTo world old c s u
    → holds u.scene t ≡ holds s.scene t
