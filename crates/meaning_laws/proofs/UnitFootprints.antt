-- Footprints in a well-formed unit, calls included.
use Rattle.std.proofs.Common.{◌≡◌, ℕ, zero, suc, ℤ, ◌==◌, Bool, true, false, true≢false, ◌&&◌, ◌||◌, List, [], ◌∷◌, ◌++◌, Option, Some, None, IfSome, option_map, refl, sym, ap, ap₂, ◌∙◌, subst}
use Rattle.std.specs.Prelude.{slice_get}
use Rattle.std.proofs.Math.Path.{fun_ext}
use Rattle.exo_tree.specs.Tree.{Kind, Index, Argument, Statement, Assign, Reduce, Config, Pass, If, For, Alloc, View, Call, Block, end, next, Param, ParamKind, ControlParam, TensorParam, WindowParam, Procedure, ConfigField}
use Rattle.exo_meaning.specs.Scene.{Scene, Seen, then_do, numbers, whole}
use Rattle.exo_meaning.specs.State.{State, Cells, left, on_scene, with_control}
use Rattle.exo_meaning.specs.Calls.{Callee}
use Rattle.exo_meaning.specs.Run.{World, run, turn, is_root, call_writes, call_to_writes, writes, step_writes, roots_after, world_of, callee_in, callees, kinds_of, unit_world}
use Rattle.exo_meaning.specs.Inputs.{IsAdmissible, IsArgument, is_buffer_of}
use Rattle.exo_meaning.specs.Laws.{HasRoots}
use Rattle.exo_meaning.specs.Footprint.{Entry, IsTidy, Change, Passes, LeavesOthers, Exchanges, ChangesBy}
use Rattle.exo_meaning.specs.Orders.{Each, HasScene}
use Rattle.exo_meaning.specs.Nests.{both_turns}
use Rattle.exo_meaning.specs.Units.{ControlName, Scope, with_name, is_block, are_params, scope_of, field_kind, IsProcedure, AreProcedures}
use Rattle.exo_meaning.proofs.Frame.{if_map, if_weaken, here}
use Rattle.exo_meaning.proofs.Nested.{left_same, kept_twice}
use Rattle.exo_meaning.proofs.Changes.{ScopedChanges, left_changes, scoped_changes}
use Rattle.exo_meaning.proofs.Deltas.{scoped_exchanges}
use Rattle.exo_meaning.proofs.Together.{either_order}
use Rattle.meaning_laws.specs.Sound.{IsSound}
use Rattle.meaning_laws.specs.Sorted.{IsSorted}
use Rattle.meaning_laws.specs.Pairs.{LeavesFields}
use Rattle.meaning_laws.specs.Touched.{IsCovered, Mode, Writing, Reducing, Modes, call_has, has_mode, step_has_mode, touched, modes_at, modes_in, all_modes, unit_modes, turn_touched, pair_touched, ModesCover, RunsGoByFootprint, RunsExchange, BlocksCommute, TurnsWithCallsCommute, PairsWithCallsCommute}
use Rattle.meaning_laws.proofs.Parts.{none_some, some_injective}
use Rattle.meaning_laws.proofs.Substitute.{and_parts}
use Rattle.meaning_laws.proofs.Copies.{admissible_sound}
use Rattle.meaning_laws.proofs.FirstState.{params_differ}
use Rattle.meaning_laws.proofs.Sorted.{IsGood, inside, found, admissible_sorted, agrees, good_callee}
use Rattle.meaning_laws.proofs.Covered.{or_left, run_covered}
use Rattle.meaning_laws.proofs.CallExchanges.{Obeys, all_pass, ExchangesWell, run_exchanges}
use Rattle.meaning_laws.proofs.CallChanges.{ModeChanges, by_modes, WritesAre, ChangesWell, run_changes}

-- ---- what may be written is written or reduced

or_parts_true : (a b : Bool) (P : Type 0) → (a || b) ≡ true → (a ≡ true → P) → (b ≡ true → P) → P
or_parts_true true b P h f g = f refl
or_parts_true false b P h f g = g h

module _ (world : World) (modes : ℕ → Modes) (are : (k : ℕ) (c : Callee) → world.callees k ≡ Some c → WritesAre c (modes k)) where
  abbrev Has : Mode → (ℕ → ℕ) → Block → ℕ → Bool
  Has m root b y = has_mode world.callees modes m root b y

  either : (a b c d : Bool) → (a || b) ≡ true → ((a || c) || (b || d)) ≡ true
  either true b c d h = refl
  either false true true d h = refl
  either false true false d h = refl
  either false false c d h = absurd (true≢false (sym h))

  either_later : (a b c d : Bool) → (c || d) ≡ true → ((a || c) || (b || d)) ≡ true
  either_later true b c d h = refl
  either_later false b true d h = refl
  either_later false true false d h = refl
  either_later false false false d h = h

  call_is : (w f g : ℕ → Bool) → ((x : ℕ) → w x ≡ true → (f x || g x) ≡ true) → (root : ℕ → ℕ) (y : ℕ) (ps : List Param) (args : List Argument) → call_writes w root y ps args ≡ true → (call_writes f root y ps args || call_writes g root y ps args) ≡ true
  call_is w f g h root y [] args k = absurd (true≢false (sym k))
  call_is w f g h root y (p ∷ ps) [] k = absurd (true≢false (sym k))
  call_is w f g h root y (p ∷ ps) (a ∷ args) k =
      or_parts_true (w p.binder.id && is_root root y a) (call_writes w root y ps args) _ k
      (λ e. let q = and_parts (w p.binder.id) (is_root root y a) e in either (f p.binder.id && is_root root y a) (g p.binder.id && is_root root y a) (call_writes f root y ps args) (call_writes g root y ps args) (both (f p.binder.id) (g p.binder.id) (is_root root y a) (h p.binder.id q.0) q.1))
      (λ e. either_later (f p.binder.id && is_root root y a) (g p.binder.id && is_root root y a) (call_writes f root y ps args) (call_writes g root y ps args) (call_is w f g h root y ps args e))
    where
      both : (a b c : Bool) → (a || b) ≡ true → c ≡ true → ((a && c) || (b && c)) ≡ true
      both true b c h k = or_left c (b && c) k
      both false true c h k = k
      both false false c h k = absurd (true≢false (sym h))

  call_to_is : (o : Option Callee) (m : Modes) → ((c : Callee) → o ≡ Some c → WritesAre c m) → (root : ℕ → ℕ) (y : ℕ) (args : List Argument) → call_to_writes o root y args ≡ true → (call_has o (m Writing) root y args || call_has o (m Reducing) root y args) ≡ true
  call_to_is None m h root y args k = absurd (true≢false (sym k))
  call_to_is (Some c) m h root y args k = call_is c.writes (m Writing) (m Reducing) (h c refl) root y c.procedure.params args k

  mutual
    block_is : (b : Block) (root : ℕ → ℕ) (y : ℕ) → writes world root b y ≡ true → (Has Writing root b y || Has Reducing root b y) ≡ true
    block_is end root y h = absurd (true≢false (sym h))
    block_is (next a b) root y h = or_parts_true (step_writes world root a y) (writes world (roots_after a root) b y) _ h
        (λ e. either (step_has_mode world.callees modes Writing root a y) (step_has_mode world.callees modes Reducing root a y) (Has Writing (roots_after a root) b y) (Has Reducing (roots_after a root) b y) (step_is a root y e))
        (λ e. either_later (step_has_mode world.callees modes Writing root a y) (step_has_mode world.callees modes Reducing root a y) (Has Writing (roots_after a root) b y) (Has Reducing (roots_after a root) b y) (block_is b (roots_after a root) y e))

    step_is : (a : Statement) (root : ℕ → ℕ) (y : ℕ) → step_writes world root a y ≡ true → (step_has_mode world.callees modes Writing root a y || step_has_mode world.callees modes Reducing root a y) ≡ true
    step_is (Assign x is e) root y h = or_left (y == root x) false h
    step_is (Reduce x is e) root y h = h
    step_is (Config f a) root y h = absurd (true≢false (sym h))
    step_is Pass root y h = absurd (true≢false (sym h))
    step_is (If c a b) root y h = or_parts_true (writes world root a y) (writes world root b y) _ h
        (λ e. either (Has Writing root a y) (Has Reducing root a y) (Has Writing root b y) (Has Reducing root b y) (block_is a root y e))
        (λ e. either_later (Has Writing root a y) (Has Reducing root a y) (Has Writing root b y) (Has Reducing root b y) (block_is b root y e))
    step_is (For i lo hi b) root y h = block_is b root y h
    step_is (Alloc x cell dims memory) root y h = or_left (y == x.id) false h
    step_is (View w x coords) root y h = absurd (true≢false (sym h))
    step_is (Call k args) root y h = call_to_is (world.callees k) (modes k) (are k) root y args h

-- ---- procedures

-- each name of an admissible input sees its own buffer
own_roots : (world : World) (p : Procedure) (s : State) → IsAdmissible world p s → (fields : ℕ → Option Kind) (memories : ℕ) → are_params fields memories [] p.params ≡ true → HasRoots (λ x. x) s.scene
own_roots world p s good fields memories ok x seen e = go (is_buffer_of x p.params) refl
  where
    by_kind : (kind : ParamKind) → IsArgument s.scene x kind → seen.buffer ≡ x
    by_kind (ControlParam kind) a = absurd (none_some (sym a.2 ∙ e))
    by_kind (TensorParam cell dims memory) a = ap (λ (z : Seen). z.buffer) (some_injective seen (record { buffer = x; sides = whole (numbers s.scene dims) }) (sym e ∙ a.1))
    by_kind (WindowParam cell dims memory) a = ap (λ (z : Seen). z.buffer) (some_injective seen (record { buffer = x; sides = whole (numbers s.scene dims) }) (sym e ∙ a.1.1))

    go : (t : Bool) → is_buffer_of x p.params ≡ t → seen.buffer ≡ x
    go false k = absurd (none_some (sym (good.no_others x k).2 ∙ e))
    go true k = let f = found s.scene p.params [] (params_differ fields memories p.params [] ok) good.arguments x k in by_kind f.0 f.1

module _ (fields : List ConfigField) (memories : ℕ) where
  abbrev kinds : ℕ → Kind
  kinds = kinds_of fields

  abbrev kind_of : ℕ → Option Kind
  kind_of = field_kind fields

  -- what is known of a procedure that can be called
  abbrev Well : Callee → Modes → Type 0
  Well c m = IsGood kinds kind_of memories c × (ExchangesWell kinds c m × (ChangesWell kinds c m × WritesAre c m))

  abbrev AllWell : List Callee → List Modes → Type 0
  AllWell [] [] = Unit {0}
  AllWell [] (m ∷ ms) = ⊥
  AllWell (c ∷ cs) [] = ⊥
  AllWell (c ∷ cs) (m ∷ ms) = Well c m × AllWell cs ms

  well_at : (cs : List Callee) (ms : List Modes) → AllWell cs ms → (k : ℕ) (c : Callee) → slice_get cs k ≡ Some c → Well c (modes_at ms k)
  well_at [] ms h zero c e = absurd (none_some e)
  well_at [] ms h (suc k) c e = absurd (none_some e)
  well_at (x ∷ cs) [] h k c e = absurd h
  well_at (x ∷ cs) (m ∷ ms) h zero c e = subst (λ y. Well y m) (some_injective x c e) h.0
  well_at (x ∷ cs) (m ∷ ms) h (suc k) c e = well_at cs ms h.1 k c e

  one_more : (cs : List Callee) (ms : List Modes) (c : Callee) (m : Modes) → AllWell cs ms → Well c m → AllWell (cs ++ c ∷ []) (ms ++ m ∷ [])
  one_more [] [] c m h w = (w, tt)
  one_more [] (n ∷ ms) c m h w = absurd h
  one_more (x ∷ cs) [] c m h w = absurd h
  one_more (x ∷ cs) (n ∷ ms) c m h w = (h.0, one_more cs ms c m h.1 w)

  module _ (above : List Callee) (ms : List Modes) (well : AllWell above ms) where
    abbrev world : World
    world = world_of kinds above

    abbrev modes : ℕ → Modes
    modes = modes_at ms

    good : (k : ℕ) (c : Callee) → world.callees k ≡ Some c → IsGood kinds kind_of memories c
    good k c e = (well_at above ms well k c e).0

    exchange : (k : ℕ) (c : Callee) → world.callees k ≡ Some c → ExchangesWell kinds c (modes k)
    exchange k c e = (well_at above ms well k c e).1.0

    change : (k : ℕ) (c : Callee) → world.callees k ≡ Some c → ChangesWell kinds c (modes k) × WritesAre c (modes k)
    change k c e = (well_at above ms well k c e).1.1

    module _ (p : Procedure) (ok : IsProcedure kind_of memories (slice_get above) p) (other : World) (same : other.kinds ≡ kinds) (s : State) (adm : IsAdmissible other p s) where
      pub covered : Each (IsCovered (scope_of [] p.params) (modes_in world modes p)) (touched world modes p.body s)
      covered = run_covered (scope_of [] p.params) (modes_in world modes p) kinds kind_of (agrees fields) memories world refl good modes p.body (scope_of [] p.params) (λ x. x) ok.body (λ x sort e. e) (λ x c r d e. (r, d, e)) (λ m y e. e) s (record {
        sound = admissible_sound other p s adm;
        sorted = admissible_sorted kinds kind_of memories other same p ok.params s adm;
        roots = own_roots other p s adm kind_of memories ok.params;
      })

      body_exchanges : (D : Change) → Obeys (scope_of [] p.params) (modes_in world modes p) D → LeavesOthers D s.scene → Exchanges D (run world p.body) s
      body_exchanges D obeys leaves = run_exchanges kinds kind_of (agrees fields) memories world refl good modes exchange D p.body (scope_of [] p.params) (λ x. x) ok.body s (admissible_sound other p s adm) (admissible_sorted kinds kind_of memories other same p ok.params s adm) leaves (all_pass (scope_of [] p.params) (modes_in world modes p) D obeys (touched world modes p.body s) covered)

      body_changes : IfSome (run world p.body s) (ModeChanges (scope_of [] p.params) (modes_in world modes p) s)
      body_changes = if_weaken (ChangesBy (touched world modes p.body s) s) (ModeChanges (scope_of [] p.params) (modes_in world modes p) s) (run world p.body s) (run_changes kinds kind_of (agrees fields) memories world refl good modes change p.body (scope_of [] p.params) (λ x. x) ok.body s (admissible_sound other p s adm) (admissible_sorted kinds kind_of memories other same p ok.params s adm)) (λ t c. by_modes (scope_of [] p.params) (modes_in world modes p) (touched world modes p.body s) s t covered c)

    well_callee : (p : Procedure) → IsProcedure kind_of memories (slice_get above) p → Well (callee_in world p) (modes_in world modes p)
    well_callee p ok = (good_callee fields memories above p (λ k c e. good k c e) ok, ((λ other s same adm D o l. body_exchanges p ok other same s adm D o l), ((λ other s same adm. body_changes p ok other same s adm), (λ x h. block_is world modes (λ k c e. (change k c e).1) p.body (λ y. y) x h))))

  all_well : (above : List Callee) (ms : List Modes) (ps : List Procedure) → AllWell above ms → AreProcedures fields memories above ps → AllWell (callees kinds above ps) (all_modes kinds above ms ps)
  all_well above ms [] h u = h
  all_well above ms (p ∷ ps) h u = all_well (above ++ callee_in (world_of kinds above) p ∷ []) (ms ++ modes_in (world_of kinds above) (modes_at ms) p ∷ []) ps (one_more above ms (callee_in (world_of kinds above) p) (modes_in (world_of kinds above) (modes_at ms) p) h (well_callee above ms h p u.0)) u.1

  module _ (ps : List Procedure) (unit : AreProcedures fields memories [] ps) where
    abbrev whole_world : World
    whole_world = unit_world kinds ps

    abbrev whole_modes : ℕ → Modes
    whole_modes = unit_modes kinds ps

    unit_well : AllWell (callees kinds [] ps) (all_modes kinds [] [] ps)
    unit_well = all_well [] [] ps tt unit

    abbrev cs : List Callee
    cs = callees kinds [] ps

    abbrev ms : List Modes
    ms = all_modes kinds [] [] ps

    block_exchanges : (d : Change) (b : Block) (scope : Scope) (root : ℕ → ℕ) → is_block kind_of memories whole_world.callees scope root b ≡ true → (s : State) → IsSound s → IsSorted kinds scope s → LeavesOthers d s.scene → Each (Passes d) (touched whole_world whole_modes b s) → Exchanges d (run whole_world b) s
    block_exchanges d = run_exchanges kinds kind_of (agrees fields) memories whole_world refl (good cs ms unit_well) whole_modes (exchange cs ms unit_well) d

    block_changes : (b : Block) (scope : Scope) (root : ℕ → ℕ) → is_block kind_of memories whole_world.callees scope root b ≡ true → (s : State) → IsSound s → IsSorted kinds scope s → IfSome (run whole_world b s) (ChangesBy (touched whole_world whole_modes b s) s)
    block_changes = run_changes kinds kind_of (agrees fields) memories whole_world refl (good cs ms unit_well) whole_modes (change cs ms unit_well)

-- ---- laws

pub modes_cover : ModesCover
modes_cover fields memories ps p may s adm = covered fields memories (callees (kinds_of fields) [] ps) (all_modes (kinds_of fields) [] [] ps) (unit_well fields memories ps may.unit) p may.procedure (unit_world (kinds_of fields) ps) refl s adm

pub runs_go_by_footprint : RunsGoByFootprint
runs_go_by_footprint fields memories ps scope root b s may = block_changes fields memories ps may.unit b scope root may.block s may.sound may.sorted

pub runs_exchange : RunsExchange
runs_exchange fields memories ps scope root b s may d = block_exchanges fields memories ps may.unit d b scope root may.block s may.sound may.sorted

-- what leaves all names and fields alone is as if in a scope of its own
settles : (es : List Entry) (s : State) → IsTidy s → (o : Option State) → IfSome o (HasScene s.scene) → IfSome o (ChangesBy es s) → IfSome o (ScopedChanges es s)
settles es s tidy None e c = tt
settles es s tidy (Some t) e c = subst (ScopedChanges es s) (left_same s t (e ∙ ap (λ (z : Scene). record s.scene { fields = z.fields }) (sym e)) c.tidy) (left_changes es s s t tidy refl refl c)

pub blocks_commute : BlocksCommute
blocks_commute fields memories ps scope root a b s may_a may_b same_a same_b clear =
    let world = unit_world (kinds_of fields) ps in
    let modes = unit_modes (kinds_of fields) ps in
    either_order (run world a) (run world b) (touched world modes a s) (touched world modes b s) s clear.0 clear.1
    (λ d l p. runs_exchange fields memories ps scope root a s may_a d l p)
    (λ d l p. runs_exchange fields memories ps scope root b s may_b d l p)
    (run world a s) (run world b s) refl refl
    (settles (touched world modes a s) s may_a.sound.tidy (run world a s) same_a (runs_go_by_footprint fields memories ps scope root a s may_a))
    (settles (touched world modes b s) s may_b.sound.tidy (run world b s) same_b (runs_go_by_footprint fields memories ps scope root b s may_b))
    same_a same_b

pub turns_with_calls_commute : TurnsWithCallsCommute
turns_with_calls_commute fields memories ps scope root i j a b m n s unit sound sorted may_a may_b same_a same_b h k =
    let world = unit_world (kinds_of fields) ps in
    let modes = unit_modes (kinds_of fields) ps in
    let in_a = on_scene (with_control i.id m) s in
    let in_b = on_scene (with_control j.id n) s in
    let sound_a : IsSound in_a = record { tidy = sound.tidy; seen = sound.seen } in
    let sound_b : IsSound in_b = record { tidy = sound.tidy; seen = sound.seen } in
    let sorted_a = inside (kinds_of fields) scope i m s may_a.0 sorted in
    let sorted_b = inside (kinds_of fields) scope j n s may_b.0 sorted in
    let scope_a = with_name scope i (ControlName Index) in
    let scope_b = with_name scope j (ControlName Index) in
    either_order (turn i.id (run world a) m) (turn j.id (run world b) n) (turn_touched world modes i a m s) (turn_touched world modes j b n s) s h k
    (λ d l p. scoped_exchanges d (run world a) s in_a l (block_exchanges fields memories ps unit d a scope_a root may_a.1 in_a sound_a sorted_a l p))
    (λ d l p. scoped_exchanges d (run world b) s in_b l (block_exchanges fields memories ps unit d b scope_b root may_b.1 in_b sound_b sorted_b l p))
    (turn i.id (run world a) m s) (turn j.id (run world b) n s) refl refl
    (scoped_changes (turn_touched world modes i a m s) (run world a) s in_a sound.tidy refl refl (block_changes fields memories ps unit a scope_a root may_a.1 in_a sound_a sorted_a))
    (scoped_changes (turn_touched world modes j b n s) (run world b) s in_b sound.tidy refl refl (block_changes fields memories ps unit b scope_b root may_b.1 in_b sound_b sorted_b))
    same_a same_b

module _ (world : World) (i j : ℕ) (b : Block) (leaves : LeavesFields world b) where
  abbrev pub deep : ℤ × ℤ → State → State
  deep x s = on_scene (with_control j x.1) (on_scene (with_control i x.0) s)

  -- both turns in one scope
  abbrev pub in_one : ℤ × ℤ → State → Option State
  in_one x s = option_map (left s) (run world b (deep x s))

  pub one_scope : (x : ℤ × ℤ) → both_turns i j (run world b) x ≡ in_one x
  one_scope x = fun_ext (λ s. scopes s (run world b (deep x s)))
    where
      scopes : (s : State) (o : Option State) → option_map (left s) (option_map (left (on_scene (with_control i x.0) s)) o) ≡ option_map (left s) o
      scopes s None = refl
      scopes s (Some t) = ap {A = Cells} (λ c. Some (record { scene = record s.scene { fields = t.scene.fields }; cells = c })) (fun_ext (λ z. fun_ext (λ at. kept_twice (s.scene.buffers z) (t.cells z) at)))

  pub same_scene : (x : ℤ × ℤ) (s : State) → IfSome (in_one x s) (HasScene s.scene)
  same_scene x s = if_map (λ t. run world b (deep x s) ≡ Some t) (HasScene s.scene) (run world b (deep x s)) (left s) (here (run world b (deep x s))) (λ t e. ap (λ f. record s.scene { fields = f }) (leaves (deep x s) t e))

pub pairs_with_calls_commute : PairsWithCallsCommute
pairs_with_calls_commute fields memories ps scope root i j b x y s unit sound sorted new_i new_j ok leaves clear =
    let kinds = kinds_of fields in
    let world = unit_world kinds ps in
    let modes = unit_modes kinds ps in
    let outer = with_name scope i (ControlName Index) in
    let inner = with_name outer j (ControlName Index) in
    let at = λ (z : ℤ × ℤ). on_scene (with_control j.id z.1) (on_scene (with_control i.id z.0) s) in
    let sound_at = λ (z : ℤ × ℤ). let r : IsSound (on_scene (with_control j.id z.1) (on_scene (with_control i.id z.0) s)) = record { tidy = sound.tidy; seen = sound.seen } in r in
    let sorted_at = λ (z : ℤ × ℤ). inside kinds outer j z.1 (on_scene (with_control i.id z.0) s) new_j (inside kinds scope i z.0 s new_i sorted) in
    let exchanges = λ (z : ℤ × ℤ) (d : Change) (l : LeavesOthers d s.scene) (p : Each (Passes d) (pair_touched world modes i j b z s)). scoped_exchanges d (run world b) s (on_scene (with_control j.id z.1) (on_scene (with_control i.id z.0) s)) l (block_exchanges fields memories ps unit d b inner root ok (on_scene (with_control j.id z.1) (on_scene (with_control i.id z.0) s)) (sound_at z) (sorted_at z) l p) in
    let changes = λ (z : ℤ × ℤ). scoped_changes (pair_touched world modes i j b z s) (run world b) s (on_scene (with_control j.id z.1) (on_scene (with_control i.id z.0) s)) sound.tidy refl refl (block_changes fields memories ps unit b inner root ok (on_scene (with_control j.id z.1) (on_scene (with_control i.id z.0) s)) (sound_at z) (sorted_at z)) in
    ap₂ (λ (f g : State → Option State). then_do (f s) g) (one_scope world i.id j.id b leaves x) (one_scope world i.id j.id b leaves y)
    ∙ either_order (in_one world i.id j.id b leaves x) (in_one world i.id j.id b leaves y) (pair_touched world modes i j b x s) (pair_touched world modes i j b y s) s clear.0 clear.1
    (exchanges x) (exchanges y)
    (in_one world i.id j.id b leaves x s) (in_one world i.id j.id b leaves y s) refl refl
    (changes x) (changes y)
    (same_scene world i.id j.id b leaves x s) (same_scene world i.id j.id b leaves y s)
    ∙ sym (ap₂ (λ (f g : State → Option State). then_do (g s) f) (one_scope world i.id j.id b leaves x) (one_scope world i.id j.id b leaves y))
