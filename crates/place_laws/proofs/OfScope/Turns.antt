-- Scopes in the turns of a loop.
use Rattle.std.proofs.Common.{◌≡◌, ℕ, ℤ, pos, not, ◌==◌, Bool, true, false, cond, List, [], ◌∷◌}
use Rattle.std.proofs.Common.{Option, Some, None, IfSome, option_map, refl, sym, ap, ap₂, ◌∙◌}
use Rattle.std.specs.Prelude.{get_or}
use Rattle.std.proofs.Math.Path.{fun_ext}
use Rattle.exo_tree.specs.Tree.{Condition, If, For, Block, end, next, joined}
use Rattle.exo_meaning.specs.Scene.{Scene, Seen, holds, stride_at, strides_of, then_do}
use Rattle.exo_meaning.specs.State.{State, left, scoped, on_scene, with_control}
use Rattle.exo_meaning.specs.Run.{World, run, turn, turns, turns_of}
use Rattle.exo_meaning.specs.Unseen.{in_condition}
use Rattle.exo_meaning.proofs.Frame.{if_map, updated_other}
use Rattle.exo_meaning.proofs.Nested.{left_same, then_some}
use Rattle.meaning_laws.specs.Context.{ComesToTurn, now, later}
use Rattle.meaning_laws.specs.Fields.{HasField, CallsLeave, writes_field}
use Rattle.meaning_laws.specs.Sound.{IsSound, IsSameName}
use Rattle.meaning_laws.proofs.Names.{if_gives, Others, come_to_turn_names}
use Rattle.meaning_laws.proofs.Fields.{fields_are_kept}
use Rattle.meaning_laws.proofs.SameNumbers.{IsSameIn, holds_same}
use Rattle.meaning_laws.proofs.Scoped.{not_true}
use Rattle.meaning_laws.proofs.Sound.{run_sound, left_sound}
use Rattle.place_laws.specs.Scope.Scopes.{top_binders}
use Rattle.place_laws.specs.Scope.Turns.{SplitTurns, ScopeOfNone, SteadyInLoop, LiftBranch, LiftThen}
use Rattle.place_laws.specs.Scope.Turns.{SwapBranches}
use Rattle.place_laws.proofs.OfScope.Scopes.{run_names, none_left, left_then, split_turn_law}
use Rattle.place_laws.proofs.OfScope.Scopes.{branch_is_scope_law, scope_twice_law, scope_in_turn_law}

pub split_turns_law : SplitTurns
split_turns_law world i a b [] s apart out h = refl
split_turns_law world i a b (n ∷ ns) s apart out h =
    let split : ℤ → State → Option State =
    λ m t. then_do (turn i (run world a) m t) (turn i (run world b) m) in
    left_then s (run world (joined a b) (on_scene (with_control i n) s))
    (turns (turn i (run world (joined a b))) ns) (turns split ns) (λ t. split_turns_law world i
    a b ns (left s t) apart out (none_left (top_binders a) s t h))
    ∙ ap (λ o. then_do o (turns split ns)) (split_turn_law world i a b n s apart out h)

-- ---- a block that leaves no name

no_names_left : (s t : State) → IsSound t → ((x : ℕ) → IsSameName x s t) → left s t ≡ t
no_names_left s t sound names = left_same s t (scenes control buffers views) sound.tidy
  where
    control : t.scene.control ≡ s.scene.control
    control = fun_ext (λ x. sym (names x).control)

    buffers : t.scene.buffers ≡ s.scene.buffers
    buffers = fun_ext (λ x. sym (names x).buffers)

    views : t.scene.views ≡ s.scene.views
    views = fun_ext (λ x. sym (names x).views)

    scenes : t.scene.control ≡ s.scene.control → t.scene.buffers ≡ s.scene.buffers
        → t.scene.views ≡ s.scene.views → t.scene ≡ record s.scene { fields = t.scene.fields }
    scenes e f g =
        ap₂ (λ c d. record {
          control = c;
          buffers = d;
          views = t.scene.views;
          fields =
              t.scene.fields;
        }) e f
        ∙ ap (λ v. record {
          control = s.scene.control;
          buffers = s.scene.buffers;
          views = v;
          fields = t.scene.fields;
        }) g

pub scope_of_none_law : ScopeOfNone
scope_of_none_law world b s sound none =
    go (run world b s) (run_sound world b s sound) (run_names world b s)
  where
    go : (o : Option State) → IfSome o IsSound → IfSome o (Others (top_binders b) s)
        → option_map (left s) o ≡ o
    go None h k = refl
    go (Some t) h k = ap Some (no_names_left s t h (λ x. k x (none x)))

-- ---- a condition that is all of a loop

module _ (world : World) (i : ℕ) (test : Condition) (a b : Block) where
  abbrev whole : ℤ → State → Option State
  whole = turn i (run world (next (If test a b) end))

  one_turn : (t : Bool) (n : ℤ) (s : State) → holds (on_scene (with_control i n) s).scene test ≡ t
      → whole n s ≡ turn i (run world (cond t a b)) n s
  one_turn t n s e =
      let inner = on_scene (with_control i n) s in
      ap (option_map (left s)) (branch_is_scope_law world test a b inner
      ∙ ap (λ z. scoped (run world (cond z a b)) inner) e)
      ∙ scope_in_turn_law i (run world (cond t a b)) n s

  all_turns : (t : Bool) (ns : List ℤ) (s : State)
      → ((n : ℤ) (u : State) → ComesToTurn whole ns s n u → holds (on_scene (with_control i n)
      u).scene test ≡ t) → turns whole ns s ≡ turns (turn i (run world (cond t a b))) ns s
  all_turns t [] s h = refl
  all_turns t (n ∷ ns) s h =
      then_known (whole n s) (turns whole ns) (turns (turn i (run world (cond t a b))) ns)
      (λ u e. all_turns t ns u (λ m v k. h m v (later e k)))
      ∙ ap (λ o. then_do o (turns (turn i (run world (cond t a b))) ns))
      (one_turn t n s (h n s now))
    where
      then_known : {A B : Type 0} (o : Option A) (f g : A → Option B)
          → ((x : A) → o ≡ Some x → f x ≡ g x) → then_do o f ≡ then_do o g
      then_known None f g k = refl
      then_known (Some x) f g k = k x refl

pub lift_branch_law : LiftBranch
lift_branch_law world i lo hi test a b s sound steady =
    let ns = turns_of s.scene lo hi in
    let t = holds s.scene test in
    then_some (turns (turn i.id (run world (next (If test a b) end))) ns s)
    ∙ all_turns world i.id test a b t ns s steady
    ∙ sym (then_some (turns (turn i.id (run world (cond t a b))) ns s))
    ∙ sym (scope_of_none_law world (next (For i lo hi (cond t a b)) end) s sound (λ x. refl))
    ∙ ap (λ c. scoped (run world c) s) (loops t)
    ∙ sym (branch_is_scope_law world test (next (For i lo hi a) end) (next (For i lo hi b) end) s)
  where
    loops : (t : Bool) → next (For i lo hi (cond t a b)) end ≡ cond t (next (For i lo hi a) end)
        (next (For i lo hi b) end)
    loops true = refl
    loops false = refl

-- ---- a condition that stays

module _ (world : World) (calls : ℕ → ℕ → Bool) (leave : CallsLeave world calls) (f : ℕ) (i : ℕ)
    (body : Block) (kept : writes_field calls f body ≡ false) where
  turn_keeps : (n : ℤ) (s : State) → IfSome (turn i (run world body) n s) (HasField f s)
  turn_keeps n s =
      let inner = on_scene (with_control i n) s in
      if_map (HasField f inner) (HasField f s) (run world body inner) (left s)
      (fields_are_kept world calls leave f body kept inner) (λ t e. e)

  field_at_turn : (ns : List ℤ) (s : State) (n : ℤ) (u : State)
      → ComesToTurn (turn i (run world body)) ns s n u → HasField f s u
  field_at_turn [] s n u z = elim z [ ]
  field_at_turn (m ∷ ns) s n u now = refl
  field_at_turn (m ∷ ns) s n u (later {t} e z) = field_at_turn ns t n u z
      ∙ if_gives (HasField f s) (turn i (run world body) m s) t (turn_keeps m s) e

strides_stay : (s u : Scene) → ((x : ℕ) → s.buffers x ≡ u.buffers x) → (o : Option Seen) (k : ℕ)
    → stride_at s o k ≡ stride_at u o k
strides_stay s u same None k = refl
strides_stay s u same (Some seen) k =
    ap (λ l. get_or l k (pos 0)) (ap (λ o. elim o as (λ x. List ℤ) [
      | None ↦ []
      | Some shape ↦
          strides_of seen.sides shape.strides
    ]) (same seen.buffer))

not_not : (t : Bool) → not (not t) ≡ t
not_not true = refl
not_not false = refl

pub steady_in_loop_law : SteadyInLoop
steady_in_loop_law world calls i lo hi body test s leave free kept n u come =
    sym (holds_same others s.scene inner.scene names test (ap (λ h. in_condition h test)
    (fun_ext (λ x. not_not (x == i.id)))
    ∙ free) (λ f k. sym (field_at_turn world calls leave f i.id body (kept f k)
    (turns_of s.scene lo hi) s n u come)))
  where
    inner : State
    inner = on_scene (with_control i.id n) u

    others : ℕ → Bool
    others x = not (x == i.id)

    same : (x : ℕ) → IsSameName x s u
    same x = come_to_turn_names i.id (run world body) (turns_of s.scene lo hi) s n u come x

    names : (x : ℕ) → others x ≡ true → IsSameIn s.scene inner.scene x
    names x k = record {
      control = (same x).control ∙ sym (updated_other u.scene.control i.id n x
          (not_true (x == i.id) k));
      strides = λ d. ap (λ o. stride_at s.scene o d) (same x).views
          ∙ strides_stay s.scene inner.scene (λ y. (same y).buffers) (u.scene.views x) d;
    }

-- turns of nothing
idle : (world : World) (i : ℕ) (ns : List ℤ) (s : State) → IsSound s
    → turns (turn i (run world end)) ns s ≡ Some s
idle world i [] s sound = refl
idle world i (n ∷ ns) s sound =
    let inner = on_scene (with_control i n) s in
    idle world i ns (left s inner) (left_sound s inner sound)
    ∙ ap Some (left_same s s refl sound.tidy)

pub lift_then_law : LiftThen
lift_then_law world i lo hi test a s sound steady =
    lift_branch_law world i lo hi test a end s sound steady
    ∙ branch_is_scope_law world test (next (For i lo hi a) end) (next (For i lo hi end) end) s
    ∙ go (holds s.scene test)
    ∙ sym (branch_is_scope_law world test (next (For i lo hi a) end) end s)
  where
    go : (t : Bool) → scoped (run world (cond t (next (For i lo hi a) end) (next (For i lo hi end)
        end))) s ≡ scoped (run world (cond t (next (For i lo hi a) end) end)) s
    go true = refl
    go false = ap (option_map (left s))
        (then_some (turns (turn i.id (run world end)) (turns_of s.scene lo hi) s) ∙ idle world i.id
        (turns_of s.scene lo hi) s sound)

-- ---- a condition that is all of another

nested : (world : World) (test other : Condition) (b : Block) (s : State)
    → run world (next (If test (next (If other b end) end) end) end) s ≡ scoped
    (run world (cond (holds s.scene test) (cond (holds s.scene other) b end) end)) s
nested world test other b s = branch_is_scope_law world test (next (If other b end) end) end s
    ∙ go (holds s.scene test)
  where
    go : (t : Bool) → scoped (run world (cond t (next (If other b end) end) end)) s ≡ scoped
        (run world (cond t (cond (holds s.scene other) b end) end)) s
    go true = ap (option_map (left s)) (branch_is_scope_law world other b end s)
        ∙ scope_twice_law (run world (cond (holds s.scene other) b end)) s
    go false = refl

pub swap_branches_law : SwapBranches
swap_branches_law world test other b s =
    nested world test other b s
    ∙ ap (λ c. scoped (run world c) s) (go (holds s.scene test) (holds s.scene other))
    ∙ sym (nested world other test b s)
  where
    go : (t u : Bool) → cond t (cond u b end) end ≡ cond u (cond t b end) end
    go true true = refl
    go true false = refl
    go false true = refl
    go false false = refl
