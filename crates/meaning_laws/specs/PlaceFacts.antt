-- All facts at a place, with the numbers of the fields that their conditions read.
use Rattle.std.specs.Prelude.{◌≡◌, ◌&&◌, ◌||◌, ◌++◌, ℕ, zero, suc, ℤ, pos, Bool, true, false, List}
use Rattle.std.specs.Prelude.{[], ◌∷◌, Some, None, map, get_or}
use Rattle.exo_tree.specs.Tree.{Var, Lt, Le, Argument, Statement, Assign, Reduce, Config, Pass, If}
use Rattle.exo_tree.specs.Tree.{For, Alloc, View, Call, Block, end, next, Procedure, ConfigField}
use Rattle.exo_tree.specs.Context.{Context, Here, After, InLoop, InThen, InElse, fill}
use Rattle.exo_tree.specs.Places.{Branch, Main, Else, Path}
use Rattle.exo_meaning.specs.Scene.{Scene, stride_at}
use Rattle.exo_meaning.specs.State.{State}
use Rattle.exo_meaning.specs.Run.{World, argument_number, kinds_of, unit_world}
use Rattle.exo_meaning.specs.Inputs.{IsAdmissible, IsOfKind}
use Rattle.exo_meaning.specs.Orders.{Each}
use Rattle.exo_meaning.specs.Unseen.{in_argument}
use Rattle.meaning_laws.specs.Context.{ComesTo}
use Rattle.meaning_laws.specs.Sound.{on_way}
use Rattle.meaning_laws.specs.Facts.{Fact, Holds, Fails, IsTrueAt}
use Rattle.meaning_laws.specs.Fields.{writes_field}
use Rattle.meaning_laws.specs.Live.{read_by_argument}
use Rattle.meaning_laws.specs.Known.{params_facts}
use Rattle.meaning_laws.specs.Scoped.{is_not, is_param}
use Rattle.meaning_laws.specs.Sorted.{MayRun}
use Rattle.meaning_laws.specs.UnitFields.{unit_writes}
use Rattle.meaning_laws.specs.KnownFields.{FieldValue, AtEntry, Known, UnknownAt, KnownFields}
use Rattle.meaning_laws.specs.KnownFields.{at_entry, Telling, path_in, forgotten, after}
use Rattle.meaning_laws.specs.KnownFields.{known_fields}

-- ---- the facts

-- a fact, with what is known of the fields where its condition is evaluated
pub record PlaceFact : Type 0 where
  pub known : KnownFields
  pub fact : Fact

-- of the loops and branches round the hole, from the outermost inwards
module _ (tell : Telling) where
  abbrev pub facts_round : Path → Branch → ℕ → Context → Block → KnownFields → List PlaceFact
  facts_round outer branch n (Here rest) old known = []
  facts_round outer branch n (After a c) old known =
      facts_round outer branch (suc n) c old (after tell (path_in outer branch n) a known)
  facts_round outer branch n (InLoop i lo hi c rest) old known =
      record { known = known; fact = Holds (Le lo (Var i.id)) }
      ∷ record { known = known; fact = Holds (Lt (Var i.id) hi) }
      ∷ facts_round (path_in outer branch n) Main zero c old
      (forgotten (λ f. writes_field tell.writes f (fill c old)) (path_in outer branch n) known)
  facts_round outer branch n (InThen t c other rest) old known =
      record { known = known; fact = Holds t }
      ∷ facts_round (path_in outer branch n) Main zero c old known
  facts_round outer branch n (InElse t other c rest) old known =
      record { known = known; fact = Fails t }
      ∷ facts_round (path_in outer branch n) Else zero c old known

  -- of the parameters, the assertions, and the loops and branches
  abbrev pub place_facts : Procedure → Context → Block → List PlaceFact
  place_facts p c old =
      map (λ fact. record { known = at_entry; fact = fact })
      (params_facts p.params ++ map Holds p.asserts) ++ facts_round [] Main zero c old at_entry

-- ---- their numbers

-- the control values, the strides of names and the fields at entry of a scene, and the number of
-- each field that the statement at a path made unknown
pub record Numbers : Type 0 where
  pub scene : Scene
  pub unknown : ℕ → Path → ℤ

abbrev pub argument_value : Scene → Argument → ℤ
argument_value scene a = elim (argument_number scene a) [ None ↦ pos 0 | Some n ↦ n ]

abbrev pub field_number : Numbers → ℕ → FieldValue → ℤ
field_number v f AtEntry = v.scene.fields f
field_number v f (Known a) = argument_value v.scene a
field_number v f (UnknownAt path) = v.unknown f path

-- a scene in which each field has the number of what is known of it
abbrev pub with_known : Numbers → KnownFields → Scene
with_known v known = record v.scene { fields = λ f. field_number v f (known f) }

abbrev pub IsTrueIn : Numbers → PlaceFact → Type 0
IsTrueIn v e = IsTrueAt (with_known v e.known) e.fact

-- ---- what is written down for right sides

-- each right side of a block is of a set, as it is written down; the set of the field that is
-- written
module _ (may : ℕ → Argument → Bool) where
  abbrev mutual
    pub all_written : Block → Bool
    all_written end = true
    all_written (next a b) = step_all_written a && all_written b

    pub step_all_written : Statement → Bool
    step_all_written (Assign x is e) = true
    step_all_written (Reduce x is e) = true
    step_all_written (Config f a) = may f a
    step_all_written Pass = true
    step_all_written (If c a b) = all_written a && all_written b
    step_all_written (For i lo hi b) = all_written b
    step_all_written (Alloc x cell dims memory) = true
    step_all_written (View w x coords) = true
    step_all_written (Call k args) = true

  -- what is known of a field is of its set
  abbrev pub is_written : ℕ → FieldValue → Bool
  is_written f AtEntry = true
  is_written f (Known a) = may f a
  is_written f (UnknownAt path) = true

  abbrev pub AreWritten : KnownFields → Type 0
  AreWritten known = (f : ℕ) → is_written f (known f) ≡ true

-- ---- strides

-- the strides of each name, by the control values
abbrev pub Strides : Type 0
Strides = (ℕ → ℤ) → ℕ → List ℤ

abbrev pub HasStrides : Strides → Scene → Type 0
HasStrides strides scene =
    (x k : ℕ) → stride_at scene (scene.views x) k ≡ get_or (strides scene.control x) k (pos 0)

-- a parameter, or a name that is bound on the way
abbrev pub in_scope : Procedure → Context → ℕ → Bool
in_scope p c x = is_param p x || on_way c x

-- the names of a set have these strides, by the control values of these names alone
abbrev pub StridesAre : Strides → (ℕ → Bool) → Scene → Type 0
StridesAre strides bound scene =
    (values : ℕ → ℤ) → ((y : ℕ) → bound y ≡ true → values y ≡ scene.control y) → (x k : ℕ)
    → bound x ≡ true → stride_at scene (scene.views x) k ≡ get_or (strides values x) k (pos 0)

-- so have the names in scope wherever a run comes to
abbrev pub StridesStand : World → Procedure → State → Strides → Type 0
StridesStand world p s strides =
    (c : Context) (old : Block) (u : State) → p.body ≡ fill c old → ComesTo world old c s u
    → StridesAre strides (in_scope p c) u.scene

-- ---- the laws

-- numbers of a state u that a run from s comes to: those of its control values, of the strides by
-- them, and of each field what is known of it; and all facts are true
pub record AreNumbers (world : World) (s u : State) (steps : Strides) (may : ℕ → Argument → Bool)
    (known : KnownFields) (round : List PlaceFact) (v : Numbers) : Type 0 where
  pub control : (x : ℕ) → v.scene.control x ≡ u.scene.control x
  pub strides : HasStrides steps v.scene
  pub entry : (f : ℕ) → v.scene.fields f ≡ s.scene.fields f
  pub kinds : (f : ℕ) (path : Path) → IsOfKind (world.kinds f) (v.unknown f path)
  pub fields : (f : ℕ) → u.scene.fields f ≡ field_number v f (known f)
  pub facts : Each (IsTrueIn v) round
  pub written : AreWritten may known
  pub facts_written : Each (λ e. AreWritten may e.known) round

-- two arguments of the set that agree have the same number in every scene with these strides
abbrev pub AgreeWell : Strides → (ℕ → Argument → Bool) → (Argument → Argument → Bool) → Type 0
AgreeWell strides may agree =
    (f : ℕ) (a b : Argument) → may f a ≡ true → may f b ≡ true → agree a b ≡ true → (scene : Scene)
    → HasStrides strides scene → argument_value scene a ≡ argument_value scene b

-- what is written down for the right side of a write has its number wherever a run comes to the
-- write; it uses names in scope alone, and no field
pub record IsToldWell (world : World) (p : Procedure) (told : Argument → Argument) (c : Context)
    (f : ℕ) (a : Argument) (rest : Block) : Type 0 where
  pub named : in_argument (is_not (in_scope p c)) (told a) ≡ false
  pub plain : (g : ℕ) → read_by_argument g (told a) ≡ false
  pub same : (s u : State) → IsAdmissible world p s → ComesTo world (next (Config f a) rest) c s u
      → argument_value u.scene (told a) ≡ argument_value u.scene a

abbrev pub TellsWell : World → Procedure → (Argument → Argument) → Type 0
TellsWell world p told =
    (c : Context) (f : ℕ) (a : Argument) (rest : Block) → p.body ≡ fill c (next (Config f a) rest)
    → IsToldWell world p told c f a rest

-- where calls write what the procedures of a unit write
abbrev pub unit_telling : List Procedure → (Argument → Argument) → (Argument → Argument → Bool)
    → Telling
unit_telling ps told agree = record { writes = unit_writes ps; told = told; agree = agree }

-- in a well-formed unit, each state that a run on an admissible input comes to has numbers for what
-- is known of fields there, and with them all facts are true
abbrev pub PlaceFactsLaw : Type 0
PlaceFactsLaw =
    (fields : List ConfigField) (memories : ℕ) (ps : List Procedure) (p : Procedure)
    → MayRun fields memories ps p → let world = unit_world (kinds_of fields) ps in
    (told : Argument → Argument) (agree : Argument → Argument → Bool) (may : ℕ → Argument → Bool)
    → TellsWell world p told → all_written (λ f a. may f (told a)) p.body ≡ true
    → (s : State) (strides : Strides) → IsAdmissible world p s → StridesStand world p s strides
    → AgreeWell strides may agree → let tell = unit_telling ps told agree in
    (c : Context) (old : Block) (u : State) → p.body ≡ fill c old → ComesTo world old c s u
    → (v : Numbers)
    × AreNumbers world s u strides may (known_fields tell c old) (place_facts tell p c old) v

-- the right side of a write may be written down as it is
abbrev pub PlainTelling : Type 0
PlainTelling =
    (fields : List ConfigField) (memories : ℕ) (ps : List Procedure) (p : Procedure)
    → MayRun fields memories ps p → TellsWell (unit_world (kinds_of fields) ps) p (λ a. a)
