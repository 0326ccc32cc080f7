-- Two statements that commute.
use Rattle.std.proofs.Common.{◌≡◌, ℕ, ℤ, ◌+ℤ◌, Option, Some, None, option_map, List, refl, sym, ap, ◌∙◌, subst, true}
use Rattle.exo_tree.specs.Tree.{Control}
use Rattle.exo_meaning.specs.Value.{Value, Number, stored_as, on_two}
use Rattle.exo_meaning.specs.Scene.{then_do, Shape, Scene}
use Rattle.exo_meaning.specs.State.{State, Cells, Place, place, put, changed, is_there}
use Rattle.exo_meaning.specs.Laws.{StoresCommute, ReductionsCommute}
use Rattle.exo_meaning.proofs.Cells.{changes_swap, one_place, there_is}
use Rattle.exo_meaning.proofs.Wrap.{additions_swap}

abbrev at_scene : Scene → Cells → State
at_scene scene cells = record { scene = scene; cells = cells }

abbrev kept_by : Shape → (Value → Value) → Value → Value
kept_by shape f old = stored_as shape.cell (f old)

module _ (scene : Scene) (c : Cells) where
  -- two changes, by the shapes of their buffers
  abbrev puts : Place → Place → (Value → Value) → (Value → Value) → Option Shape → Option Shape → Option State
  puts p q f g None r = None
  puts p q f g (Some a) None = None
  puts p q f g (Some a) (Some b) = Some (at_scene scene (changed (changed c p (kept_by a f)) q (kept_by b g)))

  puts_swap : (p q : Place) (f g : Value → Value) (o r : Option Shape) → ((a b : Shape) → o ≡ Some a → r ≡ Some b → changed (changed c p (kept_by a f)) q (kept_by b g) ≡ changed (changed c q (kept_by b g)) p (kept_by a f)) → puts p q f g o r ≡ puts q p g f r o
  puts_swap p q f g None None h = refl
  puts_swap p q f g None (Some b) h = refl
  puts_swap p q f g (Some a) None h = refl
  puts_swap p q f g (Some a) (Some b) h = ap (λ x. Some (at_scene scene x)) (h a b refl refl)

  -- two changes, by their places
  abbrev by_places : Option Place → Option Place → (Value → Value) → (Value → Value) → Option State
  by_places None r f g = None
  by_places (Some p) None f g = None
  by_places (Some p) (Some q) f g = puts p q f g (scene.buffers p.buffer) (scene.buffers q.buffer)

  places_swap : (o r : Option Place) (f g : Value → Value) → ((p q : Place) → o ≡ Some p → r ≡ Some q → (a b : Shape) → scene.buffers p.buffer ≡ Some a → scene.buffers q.buffer ≡ Some b → changed (changed c p (kept_by a f)) q (kept_by b g) ≡ changed (changed c q (kept_by b g)) p (kept_by a f)) → by_places o r f g ≡ by_places r o g f
  places_swap None None f g h = refl
  places_swap None (Some q) f g h = refl
  places_swap (Some p) None f g h = refl
  places_swap (Some p) (Some q) f g h = puts_swap p q f g (scene.buffers p.buffer) (scene.buffers q.buffer) (h p q refl refl)

  -- a change at a place that the scene gives, and then another
  module _ (y : ℕ) (js : List Control) (f g : Value → Value) where
    after_first : (p : Place) (a : Shape) (r : Option Place) → scene.buffers p.buffer ≡ Some a → then_do (then_do r (λ q. put (at_scene scene (changed c p (kept_by a f))) g q)) (λ u. Some u) ≡ by_places (Some p) r f g
    after_first p a None e = refl
    after_first p a (Some q) e = go (scene.buffers q.buffer) ∙ ap (λ o. puts p q f g o (scene.buffers q.buffer)) (sym e)
      where
        go : (r : Option Shape) → then_do (option_map (λ b. at_scene scene (changed (changed c p (kept_by a f)) q (kept_by b g))) r) (λ u. Some u) ≡ puts p q f g (Some a) r
        go None = refl
        go (Some b) = refl

    no_first : (p : Place) (r : Option Place) → scene.buffers p.buffer ≡ None → None ≡ by_places (Some p) r f g
    no_first p None e = refl
    no_first p (Some q) e = ap (λ o. puts p q f g o (scene.buffers q.buffer)) (sym e)

    first_is : (p : Place) (o : Option Shape) → scene.buffers p.buffer ≡ o → then_do (option_map (λ a. at_scene scene (changed c p (kept_by a f))) o) (λ t. then_do (then_do (place t.scene y js) (λ q. put t g q)) (λ u. Some u)) ≡ by_places (Some p) (place scene y js) f g
    first_is p None e = no_first p (place scene y js) e
    first_is p (Some a) e = after_first p a (place scene y js) e

    two_are : (o : Option Place) → then_do (then_do o (λ p. put (at_scene scene c) f p)) (λ t. then_do (then_do (place t.scene y js) (λ q. put t g q)) (λ u. Some u)) ≡ by_places o (place scene y js) f g
    two_are None = refl
    two_are (Some p) = first_is p (scene.buffers p.buffer) refl

some_injective : {A : Type 0} (a b : A) → Some a ≡ Some b → a ≡ b
some_injective a b e = cc

pub stores_commute : StoresCommute
stores_commute world x y is js m n s p q ep eq h =
    two_are s.scene s.cells y js (λ old. Number m) (λ old. Number n) (place s.scene x is)
    ∙ places_swap s.scene s.cells (place s.scene x is) (place s.scene y js) (λ old. Number m) (λ old. Number n) (λ p' q' ep' eq' a b ea eb.
    changes_swap s.cells p' q' (kept_by a (λ old. Number m)) (kept_by b (λ old. Number n)) (λ c at i j old. absurd (one_place p q h c at (moved q' q (some_injective q' q (sym eq' ∙ eq)) c at i) (moved p' p (some_injective p' p (sym ep' ∙ ep)) c at j))))
    ∙ sym (two_are s.scene s.cells x is (λ old. Number n) (λ old. Number m) (place s.scene y js))
  where
    moved : (a b : Place) → a ≡ b → (c : ℕ) (at : List ℤ) → is_there a c at ≡ true → is_there b c at ≡ true
    moved a b e c at i = subst (λ z. is_there z c at ≡ true) e i

pub reductions_commute : ReductionsCommute
reductions_commute world x y is js m n s =
    two_are s.scene s.cells y js (λ old. on_two ◌+ℤ◌ old (Number m)) (λ old. on_two ◌+ℤ◌ old (Number n)) (place s.scene x is)
    ∙ places_swap s.scene s.cells (place s.scene x is) (place s.scene y js) (λ old. on_two ◌+ℤ◌ old (Number m)) (λ old. on_two ◌+ℤ◌ old (Number n)) (λ p q ep eq a b ea eb.
    changes_swap s.cells p q (kept_by a (λ old. on_two ◌+ℤ◌ old (Number m))) (kept_by b (λ old. on_two ◌+ℤ◌ old (Number n))) (λ c at i j old. one_cell p q c at i j a b ea eb old))
    ∙ sym (two_are s.scene s.cells x is (λ old. on_two ◌+ℤ◌ old (Number n)) (λ old. on_two ◌+ℤ◌ old (Number m)) (place s.scene y js))
  where
    -- both places are this one, so the shapes are the same
    one_cell : (p q : Place) (c : ℕ) (at : List ℤ) → is_there q c at ≡ true → is_there p c at ≡ true → (a b : Shape) → s.scene.buffers p.buffer ≡ Some a → s.scene.buffers q.buffer ≡ Some b → (old : Value) → kept_by b (λ v. on_two ◌+ℤ◌ v (Number n)) (kept_by a (λ v. on_two ◌+ℤ◌ v (Number m)) old) ≡ kept_by a (λ v. on_two ◌+ℤ◌ v (Number m)) (kept_by b (λ v. on_two ◌+ℤ◌ v (Number n)) old)
    one_cell p q c at i j a b ea eb old =
        let same : p.buffer ≡ q.buffer = sym (there_is p c at j).0 ∙ (there_is q c at i).0 in
        let shapes : a ≡ b = some_injective a b (sym ea ∙ ap s.scene.buffers same ∙ eb) in
        subst (λ z. kept_by z (λ v. on_two ◌+ℤ◌ v (Number n)) (kept_by a (λ v. on_two ◌+ℤ◌ v (Number m)) old) ≡ kept_by a (λ v. on_two ◌+ℤ◌ v (Number m)) (kept_by z (λ v. on_two ◌+ℤ◌ v (Number n)) old)) shapes (additions_swap a.cell (Number m) (Number n) old)
