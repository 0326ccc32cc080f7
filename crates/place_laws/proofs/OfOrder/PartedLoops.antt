-- A loop in two, by its body, and two loops in one.
use Rattle.std.proofs.Common.{◌≡◌, ℕ, ℤ, ◌==◌, ◌&&◌, ◌||◌, Bool, true, false, true≢false, cond, not}
use Rattle.std.proofs.Common.{List, [], ◌∷◌, Option, Some, None, IfSome, option_map, refl, sym, ap}
use Rattle.std.proofs.Common.{ap₂, ◌∙◌, subst, eqb-true, eq-eqb}
use Rattle.std.specs.Prelude.{IsSome}
use Rattle.std.proofs.Math.Path.{fun_ext}
use Rattle.exo_tree.specs.Tree.{Binder, Cell, Kind, Index, Var, Statement, Assign, Reduce, Config}
use Rattle.exo_tree.specs.Tree.{Pass, If, For, Alloc, View, Call, Block, end, next, joined}
use Rattle.exo_tree.specs.Tree.{Procedure, ConfigField}
use Rattle.exo_meaning.specs.Scene.{Shape, Seen, then_do}
use Rattle.exo_meaning.specs.State.{State, kept, left, on_scene, with_control}
use Rattle.exo_meaning.specs.Run.{World, run, step, turn, turns, turns_of, roots_after, kinds_of}
use Rattle.exo_meaning.specs.Run.{unit_world}
use Rattle.exo_meaning.specs.Renaming.{re_statement}
use Rattle.exo_meaning.specs.Unseen.{in_block as mentions, SameBut}
use Rattle.exo_meaning.specs.Units.{Sort, ControlName, BufferName, Scope, sort_in, with_name}
use Rattle.exo_meaning.specs.Units.{is_new, is_control, plainly, is_empty, is_short, scope_after}
use Rattle.exo_meaning.specs.Units.{is_block, is_statement, field_kind}
use Rattle.exo_meaning.proofs.Compose.{compose, then_assoc, then_cong}
use Rattle.exo_meaning.proofs.Ignored.{run_alike}
use Rattle.exo_meaning.proofs.Nested.{then_cong_if, then_some}
use Rattle.exo_meaning.proofs.Frame.{if_then, if_weaken, or_parts}
use Rattle.exo_meaning.specs.Unseen.{in_control}
use Rattle.meaning_laws.specs.Scoped.{is_not, step_is_scoped, has_binder, step_has_binder}
use Rattle.meaning_laws.specs.Fields.{writes_field, HasField}
use Rattle.meaning_laws.specs.UnitFields.{unit_writes}
use Rattle.meaning_laws.proofs.Fields.{fields_are_kept}
use Rattle.meaning_laws.proofs.UnitFields.{unit_leaves}
use Rattle.meaning_laws.proofs.Covered.{or_left, or_right}
use Rattle.meaning_laws.proofs.Scoped.{or_elim}
use Rattle.meaning_laws.proofs.Binders.{step_binder_new}
use Rattle.meaning_laws.proofs.Unmentioned.{unmentioned_law}
use Rattle.meaning_laws.specs.Sound.{IsSound, IsUnbound, IsSameName, binds}
use Rattle.meaning_laws.specs.Sorted.{Sees, IsSorted}
use Rattle.meaning_laws.specs.Substitute.{catches, in_block}
use Rattle.meaning_laws.specs.Pairs.{LeavesFields}
use Rattle.meaning_laws.proofs.Parts.{none_some}
use Rattle.meaning_laws.proofs.Names.{Others, SameControl, name_same, name_on}
use Rattle.meaning_laws.proofs.Names.{step_control, turn_names}
use Rattle.meaning_laws.proofs.Sound.{run_sound, turn_sound}
use Rattle.meaning_laws.proofs.Substitute.{and_parts, substitution_law}
use Rattle.meaning_laws.proofs.Copies.{Stays, if_both, unbound_on, moves_on, turns_stay_so}
use Rattle.meaning_laws.proofs.Copies.{copy_law}
use Rattle.meaning_laws.proofs.FirstState.{new_is_none}
use Rattle.meaning_laws.proofs.Sorted.{is_other, inside}
use Rattle.place_laws.specs.Scope.Scopes.{top_binders}
use Rattle.place_laws.proofs.OfScope.Scopes.{run_names, left_same_but}
use Rattle.place_laws.proofs.OfScope.Turns.{split_turns_law}
use Rattle.place_laws.specs.Order.TurnsOfTwo.{in_turn, Loop, whole, halves, turn_of}
use Rattle.place_laws.specs.Order.PartedLoops.{with_body, of_both}
use Rattle.place_laws.specs.Order.PartedLoops.{FissionLaw, bound_by, FuseLaw, TurnByTurn, SplitHalves}
use Rattle.place_laws.specs.Order.PartedLoops.{SecondIsApart}
use Rattle.place_laws.proofs.OfOrder.Caught.{nothing_is_caught, binders_are_shown}
use Rattle.place_laws.proofs.OfOrder.TurnsOfTwo.{IsBody, in_turn_or_apart, turns_from_footprints}

-- ---- names of a block

run_control : (world : World) (b : Block) (s : State) → IfSome (run world b s) (SameControl s)
run_control world end s = λ x. refl
run_control world (next a b) s =
    if_then (SameControl s) (SameControl s) (step world a s) (run world b) (step_control world a s)
    (λ t h.
    if_weaken (SameControl t) (SameControl s) (run world b t) (run_control world b t)
    (λ u k x. k x ∙ h x))

abbrev AreGone : (ℕ → Bool) → State → Type 0
AreGone hidden s = (x : ℕ) → hidden x ≡ true → s.scene.buffers x ≡ None

pub turn_stays : (i : ℕ) (body : State → Option State) (n : ℤ) (s : State) → IsSound s
    → IfSome (turn i body n s) (Stays s)
turn_stays i body n s h =
    if_both IsSound (λ t. (x : ℕ) → IsSameName x s t) (Stays s) (turn i body n s)
    (turn_sound i body n s h) (turn_names i body n s) (λ t a b. record { sound = a; names = b })

-- ---- one turn in two: d does in a turn of i what c does in one of j

module _ (world : World) (k l : Loop) (d : Block) (hidden : ℕ → Bool)
    (unused : mentions hidden l.body ≡ false)
    (covers : (x : ℕ) → hidden x ≡ false → top_binders k.body x ≡ false)
    (keeps : (x : ℕ) (m n : ℤ) → hidden x ≡ false
    → cond (x == l.binder.id) n (cond (x == k.binder.id) n m) ≡ cond (x == l.binder.id) n m)
    (does : (s u : State) (n : ℤ) → u.scene.control k.binder.id ≡ n
    → option_map (left s) (run world d u) ≡ option_map (left s)
    (run world l.body (on_scene (with_control l.binder.id n) u))) where
  abbrev one : ℤ → State → Option State
  one = turn k.binder.id (run world (joined k.body d))

  module _ (n : ℤ) (s : State) (sound : IsSound s) (gone : AreGone hidden s) where
    abbrev deep : State
    deep = on_scene (with_control k.binder.id n) s

    abbrev second_at : State → State
    second_at u = on_scene (with_control l.binder.id n) u

    -- after the first part, with and without its names
    parts_same : (u : State) → IsSound u → Others (top_binders k.body) deep u → SameControl deep u
        → SameBut hidden (second_at u) (second_at (left s u))
    parts_same u good names control = record {
      control = λ x z. ap (λ m. cond (x == l.binder.id) n m) (control x)
          ∙ keeps x (s.scene.control x) n z;
      buffers = λ x z. sym (names x (covers x z)).buffers;
      views = λ x z. sym (names x (covers x z)).views;
      fields = refl;
      cells = λ x z. fun_ext (λ at. cell x (covers x z) at (s.scene.buffers x) refl);
      seen = λ x w z e. sees w (hidden w.buffer) refl
          (sound.seen x w ((names x (covers x z)).views ∙ e));
    }
      where
        cell : (x : ℕ) → top_binders k.body x ≡ false → (at : List ℤ) (o : Option Shape)
            → s.scene.buffers x ≡ o → u.cells x at ≡ kept o (u.cells x) at
        cell x z at None e = good.tidy x (sym (names x z).buffers ∙ e) at
        cell x z at (Some shape) e = refl

        sees : (w : Seen) (q : Bool) → hidden w.buffer ≡ q → IsSome (s.scene.buffers w.buffer)
            → hidden w.buffer ≡ false
        sees w true q there = absurd (true≢false (sym (subst IsSome (gone w.buffer q) there)))
        sees w false q there = q

    one_turn : one n s ≡ then_do (turn k.binder.id (run world k.body) n s)
        (turn l.binder.id (run world l.body) n)
    one_turn = ap (option_map (left s)) (compose world k.body d deep)
        ∙ go (run world k.body deep)
        (run_sound world k.body deep (record { tidy = sound.tidy; seen = sound.seen }))
        (run_names world k.body deep) (run_control world k.body deep)
      where
        at_own : cond (k.binder.id == k.binder.id) n (s.scene.control k.binder.id) ≡ n
        at_own = ap (λ t. cond t n (s.scene.control k.binder.id))
            (eq-eqb k.binder.id k.binder.id refl)

        go : (o : Option State) → IfSome o IsSound → IfSome o (Others (top_binders k.body) deep)
            → IfSome o (SameControl deep)
            → option_map (left s) (then_do o (run world d)) ≡ then_do (option_map (left s) o)
            (turn l.binder.id (run world l.body) n)
        go None h names control = refl
        go (Some u) h names control =
            does s u n (control k.binder.id ∙ at_own)
            ∙ left_same_but hidden s gone (run world l.body (second_at u))
            (run world l.body (second_at (left s u)))
            (run_alike hidden world l.body unused (second_at u) (second_at (left s u))
            (parts_same u h names control))

  pub all_in_turn : (s : State) → AreGone hidden s → (ns : List ℤ) (t : State) → Stays s t
      → turns one ns t ≡ turns (halves world k l) (in_turn ns) t
  all_in_turn s gone [] t h = refl
  all_in_turn s gone (n ∷ ns) t h =
      let gone_t : AreGone hidden t = λ x z. sym (h.names x).buffers ∙ gone x z in
      then_cong_if (Stays t) (one n t) (turns one ns) (turns (halves world k l) (in_turn ns))
      (turn_stays k.binder.id (run world (joined k.body d)) n t h.sound)
      (λ v z. all_in_turn s gone ns v
      (record { sound = z.sound; names = λ x. name_on x s t v (h.names x) (z.names x) }))
      ∙ ap (λ o. then_do o (turns (halves world k l) (in_turn ns))) (one_turn n t h.sound gone_t)
      ∙ then_assoc (turn k.binder.id (run world k.body) n t) (turn l.binder.id (run world l.body) n)
      (turns (halves world k l) (in_turn ns))

-- ---- turns of both, and both in turn

pub turn_by_turn : TurnByTurn
turn_by_turn world k l [] s = refl
turn_by_turn world k l (n ∷ ns) s =
    then_assoc (turn_of world k n s) (turn_of world l n) (turns both ns)
    ∙ then_cong (turn_of world k n s) (λ u. then_do (turn_of world l n u) (turns both ns))
    (λ u. then_do (turn_of world l n u) (turns (halves world k l) (in_turn ns)))
    (λ u. then_cong (turn_of world l n u) (turns both ns)
    (turns (halves world k l) (in_turn ns)) (turn_by_turn world k l ns))
  where
    both : ℤ → State → Option State
    both m t = then_do (turn_of world k m t) (turn_of world l m)

pub split_halves : SplitHalves
split_halves world k c ns s unused other none =
    split_turns_law world k.binder.id k.body c ns s unused other none
    ∙ turn_by_turn world k (with_body k c) ns s

-- ---- the parts of a well-formed block

-- a name more in scope that stands for nothing
one_more : (kinds : ℕ → Kind) (scope : Scope) (x : Binder) (sort : Sort) (s : State)
    → is_new scope x ≡ true → s.scene.views x.id ≡ None → IsSorted kinds scope s
    → IsSorted kinds (with_name scope x sort) s
one_more kinds scope x sort s new gone h = record {
  buffers = λ b shape e. let z =
      h.buffers b shape e in (
        z.0,
        z.1,
        ap (λ t. cond t (Some sort) (sort_in scope b))
            (is_other scope x new b _ z.2) ∙ z.2,
      );
  views = λ y c r dense z is v shape b. go y c r dense z shape (y == x.id) (eqb-true y x.id) is v b;
  cells = h.cells;
  fields = h.fields;
}
  where
    go : (y : ℕ) (c : Cell) (r : ℕ) (dense : Bool) (z : Seen) (shape : Shape) (t : Bool)
        → (t ≡ true → y ≡ x.id) → cond t (Some sort) (sort_in scope y) ≡ Some (BufferName c r dense)
        → s.scene.views y ≡ Some z → s.scene.buffers z.buffer ≡ Some shape → Sees c dense z shape
    go y c r dense z shape true same is v b =
        absurd (none_some (sym gone ∙ ap s.scene.views (sym (same refl)) ∙ v))
    go y c r dense z shape false same is v b = h.views y c r dense z is v shape b

module _ (fields : List ConfigField) (memories : ℕ) (ps : List Procedure) where
  abbrev kinds : ℕ → Kind
  kinds = kinds_of fields

  abbrev world : World
  world = unit_world kinds ps

  abbrev IsBlock : Scope → (ℕ → ℕ) → Block → Type 0
  IsBlock scope root b = is_block (field_kind fields) memories world.callees scope root b ≡ true

  abbrev IsStatement : Scope → (ℕ → ℕ) → Statement → Type 0
  IsStatement scope root a =
      is_statement (field_kind fields) memories world.callees scope root a ≡ true

  sorted_behind : (a : Statement) (scope : Scope) (root : ℕ → ℕ) (s : State)
      → IsStatement scope root a → ((x : ℕ) → binds a x ≡ true → s.scene.views x ≡ None)
      → IsSorted kinds scope s → IsSorted kinds (scope_after a scope) s
  sorted_behind (Assign x is e) scope root s ok gone h = h
  sorted_behind (Reduce x is e) scope root s ok gone h = h
  sorted_behind (Config f e) scope root s ok gone h = h
  sorted_behind Pass scope root s ok gone h = h
  sorted_behind (If c a b) scope root s ok gone h = h
  sorted_behind (For i lo hi b) scope root s ok gone h = h
  sorted_behind (Alloc x cell dims memory) scope root s ok gone h =
      one_more kinds scope x _ s (and_parts (is_new scope x) _ ok).0
      (gone x.id (eq-eqb x.id x.id refl)) h
  sorted_behind (View w x coords) scope root s ok gone h =
      one_more kinds scope w _ s (and_parts (is_new scope w) _ ok).0
      (gone w.id (eq-eqb w.id w.id refl)) h
  sorted_behind (Call g args) scope root s ok gone h = h

  first_part : (b c : Block) (scope : Scope) (root : ℕ → ℕ) → IsBlock scope root (joined b c)
      → IsBlock scope root b
  first_part end c scope root ok = refl
  first_part (next a b) c scope root ok =
      let p = and_parts (is_statement (field_kind fields) memories world.callees scope root a) _
      ok in
      ap₂ ◌&&◌ p.0 (first_part b c (scope_after a scope) (roots_after a root) p.1)

  -- the second part is well formed behind the first, also where the first one's names are unbound
  second_part : (i : ℕ) (s : State) (b c : Block) (scope : Scope) (root : ℕ → ℕ)
      → IsBlock scope root (joined b c)
      → ((x : ℕ) → top_binders b x ≡ true → s.scene.views x ≡ None)
      → ((n : ℤ) → IsSorted kinds scope (on_scene (with_control i n) s)) → LeavesFields world c
      → IsBody fields memories ps i c s
  second_part i s end c scope root ok gone sorted leaves =
      record { scope = scope; root = root; block = ok; sorted = sorted; leaves = leaves }
  second_part i s (next a b) c scope root ok gone sorted leaves =
      let p = and_parts (is_statement (field_kind fields) memories world.callees scope root a) _
      ok in
      second_part i s b c (scope_after a scope) (roots_after a root) p.1
      (λ x e. gone x (or_right (binds a x) (top_binders b x) e))
      (λ n. sorted_behind a scope root (on_scene (with_control i n) s) p.0
      (λ x e. gone x (or_left (binds a x) (top_binders b x) e)) (sorted n)) leaves

-- ---- one loop in two

twice : (t : Bool) (m n : ℤ) → cond t n (cond t n m) ≡ cond t n m
twice true m n = refl
twice false m n = refl

-- a variable is bound to its own number
own_number : (i : ℕ) (n : ℤ) (u : State) → u.scene.control i ≡ n → u ≡ on_scene (with_control i n) u
own_number i n u e = ap (λ c. record { scene = record u.scene { control = c }; cells = u.cells })
    (fun_ext (λ x. go x (x == i) (eqb-true x i)))
  where
    go : (x : ℕ) (t : Bool) → (t ≡ true → x ≡ i) → u.scene.control x ≡ cond t n (u.scene.control x)
    go x true same = ap u.scene.control (same refl) ∙ e
    go x false same = refl

pub fission_law : FissionLaw
fission_law at k c r s may moves clear =
    let fields = at.fields in
    let memories = at.memories in
    let ps = at.procedures in
    let scope = at.scope in
    let root = at.root in
    let world = unit_world (kinds_of fields) ps in
    let kind_of = field_kind fields in
    let sound = may.start.sound in
    let l = with_body k c in
    let ns = turns_of s.scene k.lo k.hi in
    let o = and_parts (is_statement kind_of memories world.callees scope root (whole (of_both k c)))
    _ may.start.block in
    let p = and_parts (is_new scope k.binder) _ o.0 in
    let q = and_parts (is_control kind_of plainly scope k.lo && is_control kind_of plainly scope
    k.hi) _ p.1 in
    let ok = (and_parts (not (is_empty (joined k.body c)) && is_short (joined k.body c)) _ q.1).1 in
    let inner = with_name scope k.binder (ControlName Index) in
    let sorted = λ (n : ℤ). inside (kinds_of fields) scope k.binder n s p.0 may.start.sorted in
    let first : IsBody fields memories ps k.binder.id k.body s =
    record {
      scope = inner;
      root = root;
      block =
          first_part fields memories ps k.body c inner root ok;
      sorted = sorted;
      leaves =
          may.turns.first;
    } in
    let second = second_part fields memories ps k.binder.id s k.body c inner root ok
    (λ x e. (may.unbound x e).views) sorted may.turns.second in
    let ends : Option State → Option State = λ z. then_do z (λ t. Some t) in
    let start : Stays s s = record { sound = sound; names = λ x. name_same x s } in
    ap ends (all_in_turn world k l c (top_binders k.body) may.unused (λ x e. e)
    (λ x m n e. twice (x == k.binder.id) m n)
    (λ t u n e. ap (λ v. option_map (left t) (run world c v)) (own_number k.binder.id n u e))
    s (λ x e. (may.unbound x e).buffers) ns s start)
    ∙ ap ends (in_turn_or_apart fields memories ps may.start.unit s sound k l first second
    may.turns.agree clear may.start.sorted.cells)
    ∙ then_some (run world (next (whole k) (next (whole l) end)) s)
    ∙ then_cong_if (Stays s) (step world (whole k) s) (run world (next (whole l) end))
    (run world (next (re_statement r (whole l)) end))
    (turns_stay_so k.binder.id (run world k.body) ns s sound) (λ t h.
    ap ends (sym (copy_law r world k.binder k.lo k.hi c t h.sound
    (moves_on r (IsUnbound s) (IsUnbound t) (λ x z. unbound_on s t x (h.names x) z) moves))))

-- ---- two loops in one

-- a new name is no buffer
new_is_gone : (kinds : ℕ → Kind) (scope : Scope) (x : Binder) (s : State) → is_new scope x ≡ true
    → IsSorted kinds scope s → s.scene.buffers x.id ≡ None
new_is_gone kinds scope x s new h = go (s.scene.buffers x.id) refl
  where
    go : (o : Option Shape) → s.scene.buffers x.id ≡ o → o ≡ None
    go None e = refl
    go (Some shape) e = absurd
        (none_some (sym (new_is_none scope x new) ∙ (h.buffers x.id shape e).2))

-- in its own scope a body with i for j does what it does where j has the number of i
substituted : (world : World) (i j : ℕ) (c : Block) → catches j (Var i) c ≡ false
    → (t u : State) (n : ℤ) → u.scene.control i ≡ n
    → option_map (left t) (run world (in_block j (Var i) c) u) ≡ option_map (left t)
    (run world c (on_scene (with_control j n) u))
substituted world i j c free t u n e =
    forget (run world (in_block j (Var i) c) u)
    ∙ sym (ap (option_map (left t)) (substitution_law world j (Var i) c u refl free))
    ∙ ap (λ m. option_map (left t) (run world c (on_scene (with_control j m) u))) e
  where
    forget : (o : Option State)
        → option_map (left t) o ≡ option_map (left t)
        (option_map (λ v. on_scene (with_control j (v.scene.control i)) v) o)
    forget None = refl
    forget (Some v) = refl

-- no loop in the second body binds the variable of the first loop
second_catches_nothing : (fields : List ConfigField) (memories : ℕ) (ps : List Procedure)
    (scope : Scope) (root : ℕ → ℕ) (k l : Loop)
    → is_statement (field_kind fields) memories (unit_world (kinds_of fields) ps).callees scope root
    (whole l) ≡ true → mentions (bound_by k) l.body ≡ false
    → catches l.binder.id (Var k.binder.id) l.body ≡ false
second_catches_nothing fields memories ps scope root k l ok unused =
    let kind_of = field_kind fields in
    let p = and_parts (is_new scope l.binder) _ ok in
    let q = and_parts (is_control kind_of plainly scope l.lo && is_control kind_of plainly scope
    l.hi) _ p.1 in
    let r = and_parts (not (is_empty l.body) && is_short l.body) _ q.1 in
    nothing_is_caught fields memories ps (with_name scope l.binder (ControlName Index)) root
    l.binder.id Index (Var k.binder.id) l.body r.1
    (ap (λ t. cond t (Some (ControlName Index)) (sort_in scope l.binder.id))
    (eq-eqb l.binder.id l.binder.id refl)) refl
    (λ x h. (or_parts (x == k.binder.id) (top_binders k.body x)
    (binders_are_shown (bound_by k) l.body unused x h)).0)

pub fuse_law : FuseLaw
fuse_law at k l s may clear =
    let fields = at.fields in
    let memories = at.memories in
    let ps = at.procedures in
    let scope = at.scope in
    let root = at.root in
    let world = unit_world (kinds_of fields) ps in
    let kind_of = field_kind fields in
    let ns = turns_of s.scene k.lo k.hi in
    let i = k.binder.id in
    let j = l.binder.id in
    let d = in_block j (Var i) l.body in
    let o = and_parts (is_statement kind_of memories world.callees scope root (whole k)) _
    may.start.block in
    let p = and_parts (is_new scope k.binder) _ o.0 in
    let q = and_parts (is_statement kind_of memories world.callees scope root (whole l)) _ o.1 in
    let free = second_catches_nothing fields memories ps scope root k l q.0 may.unused in
    let gone_i = new_is_gone (kinds_of fields) scope k.binder s p.0 may.start.sorted in
    let start : Stays s s = record { sound = may.start.sound; names = λ x. name_same x s } in
    sym (turns_from_footprints at k l s may.start may.turns clear)
    ∙ sym (all_in_turn world k l d (bound_by k) may.unused
    (λ x e. (or_parts (x == i) (top_binders k.body x) e).1)
    (λ x m n e. ap (λ t. cond (x == j) n (cond t n m))
    (or_parts (x == i) (top_binders k.body x) e).0)
    (substituted world i j l.body free)
    s (λ x e. gone x gone_i (x == i) (eqb-true x i) e) ns s start)
    ∙ sym (then_some (turns (turn i (run world (joined k.body d))) ns s))
  where
    gone : (x : ℕ) → s.scene.buffers k.binder.id ≡ None → (t : Bool) → (t ≡ true → x ≡ k.binder.id)
        → (t || top_binders k.body x) ≡ true → s.scene.buffers x ≡ None
    gone x here true same e = ap s.scene.buffers (same refl) ∙ here
    gone x here false same e = (may.unbound x e).buffers

-- ---- names

pub second_is_apart : SecondIsApart
second_is_apart bound k l scoped distinct =
    let first = and_parts (step_is_scoped bound (whole k)) (step_is_scoped bound (whole l) && true)
    scoped in
    let second = and_parts (step_is_scoped bound (whole l)) true first.1 in
    let p = and_parts (not (bound l.binder.id)) _ second.0 in
    let q = and_parts (not (in_control (is_not bound) l.lo || in_control (is_not bound) l.hi)) _
    p.1 in
    unmentioned_law (λ y. (y == l.binder.id) || bound y) (bound_by k) l.body q.1
    (λ x h. apart x (or_elim (x == l.binder.id) (bound x) h
    (λ e. in_second x (or_left (x == l.binder.id) (has_binder l.body x) e))
    (λ e. not_in_first x first.0 e)))
    (λ x h. apart x (in_second x (or_right (x == l.binder.id) (has_binder l.body x) h)))
  where
    by_cases : (t : Bool) → (t ≡ true → ⊥) → t ≡ false
    by_cases true h = absurd (h refl)
    by_cases false h = refl

    in_second : (x : ℕ) → step_has_binder (whole l) x ≡ true → step_has_binder (whole k) x ≡ false
    in_second x e = by_cases (step_has_binder (whole k) x) (λ h. true≢false (sym e ∙ distinct x h))

    not_in_first : (x : ℕ) → step_is_scoped bound (whole k) ≡ true → bound x ≡ true
        → step_has_binder (whole k) x ≡ false
    not_in_first x ok e = by_cases (step_has_binder (whole k) x)
        (λ h. true≢false (sym e ∙ step_binder_new bound (whole k) x ok h))

    top_is_binder : (b : Block) (x : ℕ) → top_binders b x ≡ true → has_binder b x ≡ true
    top_is_binder end x h = h
    top_is_binder (next a b) x h =
        or_elim (binds a x) (top_binders b x) h
        (λ e. or_left (step_has_binder a x) (has_binder b x) (one a e))
        (λ e. or_right (step_has_binder a x) (has_binder b x) (top_is_binder b x e))
      where
        one : (a : Statement) → binds a x ≡ true → step_has_binder a x ≡ true
        one (Assign y is e) h = h
        one (Reduce y is e) h = h
        one (Config f e) h = h
        one Pass h = h
        one (If c a b) h = absurd (true≢false (sym h))
        one (For i lo hi b) h = absurd (true≢false (sym h))
        one (Alloc y cell dims memory) h = h
        one (View w y coords) h = h
        one (Call g args) h = h

    apart : (x : ℕ) → step_has_binder (whole k) x ≡ false → bound_by k x ≡ false
    apart x none = by_cases (bound_by k x)
        (λ h. true≢false (sym (or_elim (x == k.binder.id) (top_binders k.body x) h
        (λ e. or_left (x == k.binder.id) (has_binder k.body x) e)
        (λ e. or_right (x == k.binder.id) (has_binder k.body x) (top_is_binder k.body x e)))
        ∙ none))

-- a block without writes of fields, calls included
pub leaves_fields : (kinds : ℕ → Kind) (ps : List Procedure) (b : Block)
    → ((f : ℕ) → writes_field (unit_writes ps) f b ≡ false) → LeavesFields (unit_world kinds ps) b
leaves_fields kinds ps b none s t e =
    fun_ext (λ f. subst (λ o. IfSome o (HasField f s)) e
    (fields_are_kept (unit_world kinds ps) (unit_writes ps) (unit_leaves kinds ps) f b (none f) s))
