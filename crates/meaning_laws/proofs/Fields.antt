-- Fields that a block does not write.
use Rattle.std.proofs.Common.{◌≡◌, ℕ, ℤ, ◌+ℤ◌, Bool, true, false, List, [], ◌∷◌, Option, Some, IfSome, option_map, refl, ap, ◌∙◌}
use Rattle.exo_tree.specs.Tree.{Statement, Assign, Reduce, Config, Pass, If, For, Alloc, View, Call, Block, end, next}
use Rattle.exo_meaning.specs.Value.{Value, Undefined, on_two}
use Rattle.exo_meaning.specs.Scene.{then_do, numbers, holds, window}
use Rattle.exo_meaning.specs.State.{State, Place, place, put, value, left, on_scene, with_control, with_field, with_contents, with_buffer}
use Rattle.exo_meaning.specs.Calls.{suits, all_positive}
use Rattle.exo_meaning.specs.Run.{World, run, step, turn, turns, turns_of, choose, argument_number, tensor}
use Rattle.exo_meaning.proofs.Frame.{if_then, if_map, if_where, any, if_weaken, updated_other, or_parts}
use Rattle.meaning_laws.specs.Fields.{writes_field, step_writes_field, HasField, CallsLeave, FieldsAreKept}

module _ (f : ℕ) where
  store_leaves : (s : State) (o : Option Place) (r : Option Value) (k : Value → Value → Value) → IfSome (then_do o (λ p. then_do r (λ v. put s (k v) p))) (HasField f s)
  store_leaves s o r k = if_then (λ p. Unit {0}) (HasField f s) o _ (any o) (λ p u. if_then (λ v. Unit {0}) (HasField f s) r _ (any r) (λ v w. if_map (λ t. Unit {0}) (HasField f s) (s.scene.buffers p.buffer) _ (any (s.scene.buffers p.buffer)) (λ t u. refl)))

  scoped_leaves : (k : State → Option State) (s s' : State) → s'.scene.fields ≡ s.scene.fields → IfSome (k s') (HasField f s') → IfSome (option_map (left s) (k s')) (HasField f s)
  scoped_leaves k s s' e h = if_map (HasField f s') (HasField f s) (k s') (left s) h (λ t j. j ∙ ap (λ g. g f) e)

  turns_leave : (i : ℕ) (body : State → Option State) → ((s : State) → IfSome (body s) (HasField f s)) → (ns : List ℤ) (s : State) → IfSome (turns (turn i body) ns s) (HasField f s)
  turns_leave i body h [] s = refl
  turns_leave i body h (n ∷ ns) s = if_then (HasField f s) (HasField f s) (turn i body n s) (turns (turn i body) ns) (scoped_leaves body s (on_scene (with_control i n) s) refl (h (on_scene (with_control i n) s))) (λ t k. if_weaken (HasField f t) (HasField f s) (turns (turn i body) ns t) (turns_leave i body h ns t) (λ u j. j ∙ k))

  choose_leaves : (t : Bool) (a b : State → Option State) (s : State) → IfSome (a s) (HasField f s) → IfSome (b s) (HasField f s) → IfSome (choose t a b s) (HasField f s)
  choose_leaves true a b s h k = h
  choose_leaves false a b s h k = k

  module _ (world : World) (calls : ℕ → ℕ → Bool) (leave : CallsLeave world calls) where
    mutual
      pub run_leaves : (b : Block) → writes_field calls f b ≡ false → (s : State) → IfSome (run world b s) (HasField f s)
      run_leaves end k s = refl
      run_leaves (next a b) k s =
          let p = or_parts (step_writes_field calls f a) (writes_field calls f b) k in
          if_then (HasField f s) (HasField f s) (step world a s) (run world b) (step_leaves a p.0 s) (λ t j. if_weaken (HasField f t) (HasField f s) (run world b t) (run_leaves b p.1 t) (λ u i. i ∙ j))

      pub step_leaves : (a : Statement) → step_writes_field calls f a ≡ false → (s : State) → IfSome (step world a s) (HasField f s)
      step_leaves (Assign x is e) k s = store_leaves s (place s.scene x is) (value s e) (λ v old. v)
      step_leaves (Reduce x is e) k s = store_leaves s (place s.scene x is) (value s e) (λ v old. on_two ◌+ℤ◌ old v)
      step_leaves (Config g a) k s = if_then (λ n. Unit {0}) (HasField f s) (argument_number s.scene a) _ (any (argument_number s.scene a)) (λ n u. if_where (HasField f s) (suits (world.kinds g) n) (Some (on_scene (with_field g n) s)) (updated_other s.scene.fields g n f k))
      step_leaves Pass k s = refl
      step_leaves (If c a b) k s =
          let p = or_parts (writes_field calls f a) (writes_field calls f b) k in
          scoped_leaves (choose (holds s.scene c) (run world a) (run world b)) s s refl (choose_leaves (holds s.scene c) (run world a) (run world b) s (run_leaves a p.0 s) (run_leaves b p.1 s))
      step_leaves (For i lo hi b) k s = turns_leave i.id (run world b) (run_leaves b k) (turns_of s.scene lo hi) s
      step_leaves (Alloc x cell dims memory) k s = if_where (HasField f s) (all_positive (numbers s.scene dims)) (Some (with_contents x.id (λ at. Undefined) (on_scene (with_buffer x.id (tensor cell (numbers s.scene dims))) s))) refl
      step_leaves (View w x coords) k s = if_then (λ n. Unit {0}) (HasField f s) (window s.scene x coords) _ (any (window s.scene x coords)) (λ seen u. refl)
      step_leaves (Call n args) k s = leave n f k args s

pub fields_are_kept : FieldsAreKept
fields_are_kept world calls leave f b k s = run_leaves f world calls leave b k s
