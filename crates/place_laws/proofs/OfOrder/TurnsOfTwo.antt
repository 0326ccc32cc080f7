-- The turns of a loop whose body is two blocks, and the loops of the one and of the other.
use Rattle.std.proofs.Common.{◌≡◌, ℕ, ℤ, ◌-ℤ◌, ◌&&◌, true, not, List, [], ◌∷◌, ◌++◌, Option, Some}
use Rattle.std.proofs.Common.{None, IfSome, refl, sym, ap, ap₂, ◌∙◌, subst}
use Rattle.exo_tree.specs.Tree.{Index, Kind, For, Block, end, next, Procedure, ConfigField}
use Rattle.exo_meaning.specs.Scene.{Scene, number, then_do}
use Rattle.exo_meaning.specs.State.{State, kept, left, on_scene, with_control}
use Rattle.exo_meaning.specs.Run.{World, run, turn, turns, turns_of, range, count, kinds_of}
use Rattle.exo_meaning.specs.Run.{unit_world}
use Rattle.exo_meaning.specs.Inputs.{FitsCell}
use Rattle.exo_meaning.specs.Footprint.{IsTidy}
use Rattle.exo_meaning.specs.Orders.{HasScene, Ascends, Crosses, Stays, Exchange, row}
use Rattle.exo_meaning.specs.Units.{Scope, ControlName, with_name, is_new, is_control, plainly}
use Rattle.exo_meaning.specs.Units.{is_empty, is_short, is_block, is_statement, field_kind}
use Rattle.exo_meaning.specs.Units.{AreProcedures}
use Rattle.exo_meaning.specs.Nests.{IsAt}
use Rattle.exo_meaning.proofs.Compose.{then_cong}
use Rattle.exo_meaning.proofs.Orders.{turns_reorder, transposed}
use Rattle.exo_meaning.proofs.Nested.{turns_append, turns_stay, then_cong_if, left_tidy}
use Rattle.exo_meaning.proofs.Frame.{if_map, here}
use Rattle.exo_meaning.proofs.Changes.{scoped_changes}
use Rattle.exo_meaning.proofs.Deltas.{scoped_exchanges}
use Rattle.exo_meaning.proofs.Together.{either_order}
use Rattle.meaning_laws.specs.Sound.{IsSound}
use Rattle.meaning_laws.specs.Sorted.{CellsFit, IsSorted, Ends}
use Rattle.meaning_laws.specs.Pairs.{LeavesFields, AreClear}
use Rattle.meaning_laws.specs.Touched.{touched, unit_modes, MayTouch}
use Rattle.meaning_laws.specs.NestsWithin.{IsBefore}
use Rattle.meaning_laws.proofs.Copies.{if_both}
use Rattle.meaning_laws.proofs.Substitute.{and_parts}
use Rattle.meaning_laws.proofs.NestsWithin.{turns_ascend}
use Rattle.meaning_laws.proofs.Sorted.{run_ends, agrees, unit_good, inside}
use Rattle.meaning_laws.proofs.UnitFootprints.{runs_exchange, runs_go_by_footprint}
use Rattle.place_laws.specs.Order.TurnsOfTwo.{Which, First, Second, Half, both, in_turn, apart}
use Rattle.place_laws.specs.Order.TurnsOfTwo.{HalvesExchange}
use Rattle.place_laws.specs.Order.TurnsOfTwo.{Loop, whole, halves, in_a_row, AgreesAt, TurnsOfTwo}
use Rattle.place_laws.specs.Order.TurnsOfTwo.{world_at, HalvesAreClear, TurnsFromFootprints}

-- ---- turns of two bodies

abbrev Comes : Which → Which → Type 0
Comes First First = ⊥
Comes First Second = Unit {0}
Comes Second w = ⊥

pub halves_part : (Good : State → Type 0) (Before : ℤ → ℤ → Type 0)
    (go : Half → State → Option State) → Stays Good go → HalvesExchange Good Before go
    → (ns : List ℤ) → Ascends Before ns → (s : State) → Good s
    → turns go (in_turn ns) s ≡ turns go (apart ns) s
halves_part Good Before go stays commute ns ascends s good =
    sym (turns_reorder (Crosses Comes Before) Good go stays
    (λ x y c. exchange x.0 y.0 x.1 y.1 c.0 c.1) (apart ns) (in_turn ns)
    (transposed Comes Before both ns ((tt, tt), (tt, tt)) ascends) s good)
  where
    exchange : (v w : Which) (m n : ℤ) → Comes v w → Before n m → Exchange Good go (v, m) (w, n)
    exchange First First m n c r = absurd c
    exchange First Second m n c r = λ t g. sym (commute n m r t g)
    exchange Second w m n c r = absurd c

turns_half : (go : Half → State → Option State) (w : Which) (ns : List ℤ) (s : State)
    → turns (λ n. go (w, n)) ns s ≡ turns go (row w ns) s
turns_half go w [] s = refl
turns_half go w (n ∷ ns) s =
    then_cong (go (w, n) s) (turns (λ n. go (w, n)) ns) (turns go (row w ns)) (turns_half go w ns)

-- ---- two loops

any_of : (o : Option State) → IfSome o (λ u. Unit {0})
any_of None = tt
any_of (Some u) = tt

-- by any set of states with the names and fields of s that the turns keep
module _ (world : World) (k l : Loop) (s : State) (Good : State → Type 0)
    (has_scene : (t : State) → Good t → t.scene ≡ s.scene) (stays : Stays Good (halves world k l))
    (agree : AgreesAt s.scene k l)
    (exchange : HalvesExchange Good (IsBefore s.scene k.lo k.hi) (halves world k l))
    (good : Good s) where
  abbrev go : Half → State → Option State
  go = halves world k l

  abbrev ns : List ℤ
  ns = turns_of s.scene k.lo k.hi

  abbrev first : ℤ → State → Option State
  first = turn k.binder.id (run world k.body)

  abbrev second : ℤ → State → Option State
  second = turn l.binder.id (run world l.body)

  abbrev then_second : State → Option State
  then_second u = then_do (turns second ns u) (λ v. Some v)

  all_apart : turns go (apart ns) s ≡ then_do (turns first ns s) then_second
  all_apart =
      turns_append go (row First ns) (row Second ns ++ []) s
      ∙ ap (λ o. then_do o (turns go (row Second ns ++ []))) (sym (turns_half go First ns s))
      ∙ then_cong (turns first ns s) (turns go (row Second ns ++ [])) then_second (λ u.
      turns_append go (row Second ns) [] u
      ∙ ap (λ o. then_do o (λ v. Some v)) (sym (turns_half go Second ns u)))

  pub rows_of_two : turns go (in_turn ns) s ≡ run world (in_a_row k l) s
  rows_of_two =
      halves_part Good (IsBefore s.scene k.lo k.hi) go stays exchange ns
      (turns_ascend (number s.scene k.lo) (number s.scene k.hi)) s good
      ∙ all_apart
      ∙ then_cong_if Good (turns first ns s) then_second
      (run world (next (For l.binder l.lo l.hi l.body) end))
      (turns_stay Good first (λ n. stays (First, n)) ns s good) (λ u h.
      ap (λ ms. then_do (turns second ms u) (λ v. Some v))
      (sym (ap (λ z. turns_of z l.lo l.hi) (has_scene u h)
      ∙ ap₂ (λ m n. range m (count (n -ℤ m))) agree.0 agree.1)))

-- ---- in any world

turn_at : (world : World) (i : ℕ) (b : Block) (s : State) → LeavesFields world b
    → (n : ℤ) (t : State) → IsAt s t → IfSome (turn i (run world b) n t) (IsAt s)
turn_at world i b s leaves n t h =
    let deep = on_scene (with_control i n) t in
    if_map (λ v. run world b deep ≡ Some v) (IsAt s) (run world b deep) (left t)
    (here (run world b deep))
    (λ v e. (ap (λ f. record t.scene { fields = f }) (leaves deep v e) ∙ h.0, left_tidy t v))

pub turns_of_two : TurnsOfTwo
turns_of_two world k l s tidy may exchange =
    rows_of_two world k l s (IsAt s) (λ t h. h.0) (λ x t h. which x.0 x.1 t h) may.agree exchange
    (refl, tidy)
  where
    which : (w : Which) (n : ℤ) (t : State) → IsAt s t → IfSome (halves world k l (w, n) t) (IsAt s)
    which First n t h = turn_at world k.binder.id k.body s may.first n t h
    which Second n t h = turn_at world l.binder.id l.body s may.second n t h

-- ---- in a well-formed unit

-- the names and fields of s, nothing else holds a value, and each cell fits its type
abbrev IsFitAt : State → State → Type 0
IsFitAt s t = (t.scene ≡ s.scene) × (IsTidy t × CellsFit t)

-- a body that is well formed in each turn from the names and fields of s, and writes no field
pub record IsBody (fields : List ConfigField) (memories : ℕ) (ps : List Procedure) (i : ℕ)
    (b : Block) (s : State) : Type 0 where
  pub scope : Scope
  pub root : ℕ → ℕ
  pub block : is_block (field_kind fields) memories (unit_world (kinds_of fields) ps).callees scope
      root b ≡ true
  pub sorted : (n : ℤ) → IsSorted (kinds_of fields) scope (on_scene (with_control i n) s)
  pub leaves : LeavesFields (unit_world (kinds_of fields) ps) b

module _ (fields : List ConfigField) (memories : ℕ) (ps : List Procedure)
    (unit : AreProcedures fields memories [] ps) (s : State) (sound : IsSound s) where
  abbrev kinds : ℕ → Kind
  kinds = kinds_of fields

  abbrev world : World
  world = unit_world kinds ps

  module _ (i : ℕ) (b : Block) (body : IsBody fields memories ps i b s) (n : ℤ) (t : State)
      (k : IsFitAt s t) where
    abbrev deep : State
    deep = on_scene (with_control i n) t

    at_scene : t ≡ record { scene = s.scene; cells = t.cells }
    at_scene = ap {B = State} (λ (z : Scene). record { scene = z; cells = t.cells }) k.0

    touch : MayTouch fields memories ps body.scope body.root b deep
    touch =
        let sorted = body.sorted n in
        let there : IsSound (on_scene (with_control i n)
        (record { scene = s.scene; cells = t.cells })) =
        record { tidy = subst IsTidy at_scene k.1.0; seen = sound.seen } in
        let fits : IsSorted kinds body.scope
        (on_scene (with_control i n) (record { scene = s.scene; cells = t.cells })) =
        record {
          buffers = sorted.buffers;
          views = sorted.views;
          cells =
              subst CellsFit at_scene k.1.1;
          fields = sorted.fields;
        } in
        record {
          unit = unit;
          block = body.block;
          sound = subst (λ (v : State). IsSound (on_scene (with_control i n) v)) (sym at_scene)
              there;
          sorted = subst (λ (v : State). IsSorted kinds body.scope (on_scene (with_control i n) v))
              (sym at_scene) fits;
        }

    same_scene : IfSome (turn i (run world b) n t) (HasScene t.scene)
    same_scene = if_map (λ v. run world b deep ≡ Some v) (HasScene t.scene) (run world b deep)
        (left t) (here (run world b deep))
        (λ v e. ap (λ f. record t.scene { fields = f }) (body.leaves deep v e))

    turn_fit : IfSome (turn i (run world b) n t) (IsFitAt s)
    turn_fit =
        let ends = run_ends kinds (field_kind fields) (agrees fields) memories world refl
        (unit_good fields memories ps unit) b body.scope body.root body.block deep touch.sound
        touch.sorted in
        let fits : IfSome (turn i (run world b) n t) (λ u. IsTidy u × CellsFit u) =
        if_map (Ends kinds deep) (λ u. IsTidy u × CellsFit u) (run world b deep) (left t) ends
        (λ u e. (
          left_tidy t u,
          λ x shape h at.
              subst (λ o. FitsCell shape.cell (kept o (u.cells x) at)) (sym h)
              (e.cells x shape (e.kept x shape h) at),
        )) in
        if_both (HasScene t.scene) (λ u. IsTidy u × CellsFit u) (IsFitAt s)
        (turn i (run world b) n t) same_scene fits (λ u a e. (a ∙ k.0, e))

  halves_commute : (i j : ℕ) (b c : Block) → IsBody fields memories ps i b s
      → IsBody fields memories ps j c s → (m n : ℤ) (t : State) → IsFitAt s t
      → AreClear t.scene (touched world (unit_modes kinds ps) b (on_scene (with_control i m) t))
      (touched world (unit_modes kinds ps) c (on_scene (with_control j n) t))
      → then_do (turn i (run world b) m t) (turn j (run world c) n) ≡ then_do
      (turn j (run world c) n t) (turn i (run world b) m)
  halves_commute i j b c first second m n t k clear =
      let modes = unit_modes kinds ps in
      let in_b = on_scene (with_control i m) t in
      let in_c = on_scene (with_control j n) t in
      let may_b = touch i b first m t k in
      let may_c = touch j c second n t k in
      either_order (turn i (run world b) m) (turn j (run world c) n) (touched world modes b in_b)
      (touched world modes c in_c) t clear.0 clear.1
      (λ d l p. scoped_exchanges d (run world b) t in_b l
      (runs_exchange fields memories ps first.scope first.root b in_b may_b d l p))
      (λ d l p. scoped_exchanges d (run world c) t in_c l
      (runs_exchange fields memories ps second.scope second.root c in_c may_c d l p))
      (turn i (run world b) m t) (turn j (run world c) n t) refl refl
      (scoped_changes (touched world modes b in_b) (run world b) t in_b k.1.0 refl refl
      (runs_go_by_footprint fields memories ps first.scope first.root b in_b may_b))
      (scoped_changes (touched world modes c in_c) (run world c) t in_c k.1.0 refl refl
      (runs_go_by_footprint fields memories ps second.scope second.root c in_c may_c))
      (same_scene i b first m t k) (same_scene j c second n t k)

  pub in_turn_or_apart : (k l : Loop) → IsBody fields memories ps k.binder.id k.body s
      → IsBody fields memories ps l.binder.id l.body s → AgreesAt s.scene k l
      → HalvesAreClear (record
      { fields = fields; memories = memories; procedures = ps; scope = []; root = λ x. x }) k l s
      → CellsFit s → turns (halves world k l) (in_turn (turns_of s.scene k.lo k.hi)) s ≡ run world
      (in_a_row k l) s
  in_turn_or_apart k l first second agree clear cells =
      rows_of_two world k l s (IsFitAt s) (λ t h. h.0) (λ x t h. which x.0 x.1 t h) agree
      (λ m n before t h. halves_commute l.binder.id k.binder.id l.body k.body second first m n t
      h (clear t m n h.0 before)) (refl, (sound.tidy, cells))
    where
      which : (w : Which) (n : ℤ) (t : State) → IsFitAt s t
          → IfSome (halves world k l (w, n) t) (IsFitAt s)
      which First n t h = turn_fit k.binder.id k.body first n t h
      which Second n t h = turn_fit l.binder.id l.body second n t h

-- the body of a well-formed loop
pub loop_body : (fields : List ConfigField) (memories : ℕ) (ps : List Procedure) (scope : Scope)
    (root : ℕ → ℕ) (k : Loop) (s : State)
    → is_statement (field_kind fields) memories (unit_world (kinds_of fields) ps).callees scope root
    (For k.binder k.lo k.hi k.body) ≡ true → IsSorted (kinds_of fields) scope s
    → LeavesFields (unit_world (kinds_of fields) ps) k.body
    → IsBody fields memories ps k.binder.id k.body s
loop_body fields memories ps scope root k s ok sorted leaves =
    let p = and_parts (is_new scope k.binder) _ ok in
    let q = and_parts (is_control (field_kind fields) plainly scope k.lo && is_control
    (field_kind fields) plainly scope k.hi) _ p.1 in
    let r = and_parts (not (is_empty k.body) && is_short k.body) _ q.1 in
    record {
      scope = with_name scope k.binder (ControlName Index);
      root = root;
      block = r.1;
      sorted = λ n. inside (kinds_of fields) scope k.binder n s p.0 sorted;
      leaves = leaves;
    }

pub turns_from_footprints : TurnsFromFootprints
turns_from_footprints at k l s start may clear =
    let callees = (world_at at).callees in
    let kind_of = field_kind at.fields in
    let p = and_parts (is_statement kind_of at.memories callees at.scope at.root (whole k)) _
    start.block in
    let q = and_parts (is_statement kind_of at.memories callees at.scope at.root (whole l)) _ p.1 in
    let first = loop_body at.fields at.memories at.procedures at.scope at.root k s p.0 start.sorted
    may.first in
    let second = loop_body at.fields at.memories at.procedures at.scope at.root l s q.0 start.sorted
    may.second in
    in_turn_or_apart at.fields at.memories at.procedures start.unit s start.sound k l first second
    may.agree clear start.sorted.cells
