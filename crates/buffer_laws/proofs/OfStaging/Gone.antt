-- The converted block with the window in the place of a does not use a.
use Rattle.std.proofs.Common.{◌≡◌, ℕ, ◌==◌, ◌||◌, Bool, true, false, cond, List, [], ◌∷◌, refl, ap}
use Rattle.std.proofs.Common.{ap₂, ◌∙◌, eq-eqb}
use Rattle.exo_tree.specs.Tree.{Control, Coord, At, Span, Datum, Const, Read, Negated, Relu, Plus}
use Rattle.exo_tree.specs.Tree.{Minus, Times, Select, Argument, ControlArg, ConditionArg, Whole}
use Rattle.exo_tree.specs.Tree.{Window, Condition, Statement, Assign, Reduce, Config, Pass, If, For}
use Rattle.exo_tree.specs.Tree.{Alloc, View, Call, Block, end, next}
use Rattle.exo_meaning.specs.Unseen.{in_control as control_mentions}
use Rattle.exo_meaning.specs.Unseen.{in_controls as controls_mention}
use Rattle.exo_meaning.specs.Unseen.{in_condition as condition_mentions, in_datum as datum_mentions}
use Rattle.exo_meaning.specs.Unseen.{in_coords as coords_mention, in_argument as argument_mentions}
use Rattle.exo_meaning.specs.Unseen.{in_arguments as arguments_mention, in_block as mentions}
use Rattle.exo_meaning.specs.Unseen.{in_statement as statement_mentions}
use Rattle.exo_meaning.proofs.Frame.{or_parts}
use Rattle.inplace_laws.specs.Windows.{shifted, joined_coords, to_name}
use Rattle.inplace_laws.specs.Windows.{coords_at as spots_of, in_control as control_with}
use Rattle.inplace_laws.specs.Windows.{in_controls as controls_with, in_condition as condition_with}
use Rattle.inplace_laws.specs.Windows.{in_datum as datum_with, in_coords as coords_with}
use Rattle.inplace_laws.specs.Windows.{in_argument as argument_with, in_block as block_with}
use Rattle.inplace_laws.specs.Windows.{in_arguments as arguments_with}
use Rattle.inplace_laws.specs.Windows.{in_statement as statement_with}
use Rattle.buffer_laws.specs.Staging.Converted.{indices_on, coords_on, name_on, indices_at, coords_at}
use Rattle.buffer_laws.specs.Staging.Converted.{converted_datum, converted_argument, converted_arguments}
use Rattle.buffer_laws.specs.Staging.Converted.{converted_statement, converted}
use Rattle.buffer_laws.proofs.OfStaging.Converted.{control_same, controls_same, condition_same, coords_same}

-- ---- lists

module _ (new : ℕ → Bool) where
  abbrev Free : List Control → Type 0
  Free is = controls_mention new is ≡ false

  abbrev AreFree : List Coord → Type 0
  AreFree ds = coords_mention new ds ≡ false

  pub indices_free : (cs : List Coord) (is : List Control) → AreFree cs → Free is
      → Free (indices_on cs is)
  indices_free [] is h k = refl
  indices_free (At u ∷ cs) [] h k = refl
  indices_free (Span u v ∷ cs) [] h k = refl
  indices_free (At u ∷ cs) (e ∷ is) h k =
      indices_free cs is (or_parts (control_mentions new u) (coords_mention new cs) h).1
      (or_parts (control_mentions new e) (controls_mention new is) k).1
  indices_free (Span u v ∷ cs) (e ∷ is) h k =
      let p = or_parts (control_mentions new u) (control_mentions new v || coords_mention new cs)
      h in
      let o = or_parts (control_mentions new v) (coords_mention new cs) p.1 in
      let q = or_parts (control_mentions new e) (controls_mention new is) k in
      ap₂ ◌||◌ (ap₂ ◌||◌ q.0 p.0) (indices_free cs is o.1 q.1)

  pub coords_free : (cs ds : List Coord) → AreFree cs → AreFree ds → AreFree (coords_on cs ds)
  coords_free [] ds h k = refl
  coords_free (At u ∷ cs) [] h k = refl
  coords_free (Span u v ∷ cs) [] h k = refl
  coords_free (At u ∷ cs) (At e ∷ ds) h k =
      coords_free cs ds (or_parts (control_mentions new u) (coords_mention new cs) h).1
      (or_parts (control_mentions new e) (coords_mention new ds) k).1
  coords_free (At u ∷ cs) (Span e f ∷ ds) h k =
      let q = or_parts (control_mentions new e) (control_mentions new f || coords_mention new ds)
      k in
      coords_free cs ds (or_parts (control_mentions new u) (coords_mention new cs) h).1
      (or_parts (control_mentions new f) (coords_mention new ds) q.1).1
  coords_free (Span u v ∷ cs) (At e ∷ ds) h k =
      let p = or_parts (control_mentions new u) (control_mentions new v || coords_mention new cs)
      h in
      let o = or_parts (control_mentions new v) (coords_mention new cs) p.1 in
      let q = or_parts (control_mentions new e) (coords_mention new ds) k in
      ap₂ ◌||◌ (ap₂ ◌||◌ q.0 p.0) (coords_free cs ds o.1 q.1)
  coords_free (Span u v ∷ cs) (Span e f ∷ ds) h k =
      let p = or_parts (control_mentions new u) (control_mentions new v || coords_mention new cs)
      h in
      let o = or_parts (control_mentions new v) (coords_mention new cs) p.1 in
      let q = or_parts (control_mentions new e) (control_mentions new f || coords_mention new ds)
      k in
      let r = or_parts (control_mentions new f) (coords_mention new ds) q.1 in
      ap₂ ◌||◌ (ap₂ ◌||◌ q.0 p.0) (ap₂ ◌||◌ (ap₂ ◌||◌ r.0 p.0) (coords_free cs ds o.1 r.1))

  shifted_free : (cs : List Coord) (is : List Control) → AreFree cs → Free is
      → Free (shifted cs is)
  shifted_free [] is h k = k
  shifted_free (At u ∷ cs) is h k =
      let p = or_parts (control_mentions new u) (coords_mention new cs) h in
      ap₂ ◌||◌ p.0 (shifted_free cs is p.1 k)
  shifted_free (Span u v ∷ cs) [] h k = refl
  shifted_free (Span u v ∷ cs) (e ∷ is) h k =
      let p = or_parts (control_mentions new u) (control_mentions new v || coords_mention new cs)
      h in
      let o = or_parts (control_mentions new v) (coords_mention new cs) p.1 in
      let q = or_parts (control_mentions new e) (controls_mention new is) k in
      ap₂ ◌||◌ (ap₂ ◌||◌ p.0 q.0) (shifted_free cs is o.1 q.1)

  joined_free : (cs ds : List Coord) → AreFree cs → AreFree ds → AreFree (joined_coords cs ds)
  joined_free [] ds h k = k
  joined_free (At u ∷ cs) ds h k =
      let p = or_parts (control_mentions new u) (coords_mention new cs) h in
      ap₂ ◌||◌ p.0 (joined_free cs ds p.1 k)
  joined_free (Span u v ∷ cs) [] h k = refl
  joined_free (Span u v ∷ cs) (At e ∷ ds) h k =
      let p = or_parts (control_mentions new u) (control_mentions new v || coords_mention new cs)
      h in
      let o = or_parts (control_mentions new v) (coords_mention new cs) p.1 in
      let q = or_parts (control_mentions new e) (coords_mention new ds) k in
      ap₂ ◌||◌ (ap₂ ◌||◌ p.0 q.0) (joined_free cs ds o.1 q.1)
  joined_free (Span u v ∷ cs) (Span e f ∷ ds) h k =
      let p = or_parts (control_mentions new u) (control_mentions new v || coords_mention new cs)
      h in
      let o = or_parts (control_mentions new v) (coords_mention new cs) p.1 in
      let q = or_parts (control_mentions new e) (control_mentions new f || coords_mention new ds)
      k in
      let r = or_parts (control_mentions new f) (coords_mention new ds) q.1 in
      ap₂ ◌||◌ (ap₂ ◌||◌ p.0 q.0) (ap₂ ◌||◌ (ap₂ ◌||◌ p.0 r.0) (joined_free cs ds o.1 r.1))

-- ---- trees

module _ (a x : ℕ) (coords : List Coord) (other : (x == a) ≡ false)
    (spots : coords_mention (λ y. y == a) coords ≡ false) where
  abbrev t : Argument
  t = Window x coords

  abbrev new : ℕ → Bool
  new y = y == a

  control_gone : (e : Control) → control_mentions new e ≡ false
      → control_mentions new (control_with a t e) ≡ false
  control_gone e h = ap (control_mentions new) (control_same a x coords e h) ∙ h

  controls_gone : (is : List Control) → controls_mention new is ≡ false
      → controls_mention new (controls_with a t is) ≡ false
  controls_gone is h = ap (controls_mention new) (controls_same a x coords is h) ∙ h

  condition_gone : (c : Condition) → condition_mentions new c ≡ false
      → condition_mentions new (condition_with a t c) ≡ false
  condition_gone c h = ap (condition_mentions new) (condition_same a x coords c h) ∙ h

  coords_gone : (ds : List Coord) → coords_mention new ds ≡ false
      → coords_mention new (coords_with a t ds) ≡ false
  coords_gone ds h = ap (coords_mention new) (coords_same a x coords ds h) ∙ h

  name_gone : (y : ℕ) → new y ≡ false → new (to_name a t (name_on a x coords y)) ≡ false
  name_gone y h = go (y == x)
    where
      go : (b : Bool) → new (to_name a t (cond b a y)) ≡ false
      go true = ap (λ r. new (cond r x a)) (eq-eqb a a refl) ∙ other
      go false = ap (λ r. new (cond r x y)) h ∙ h

  indices_gone : (y : ℕ) (is : List Control) → new y ≡ false → controls_mention new is ≡ false
      → controls_mention new (shifted (spots_of a t (name_on a x coords y))
      (controls_with a t (indices_at a x coords y is))) ≡ false
  indices_gone y is h k = go (y == x)
    where
      go : (b : Bool) → controls_mention new (shifted (spots_of a t (cond b a y))
          (controls_with a t (cond b (indices_on coords is) is))) ≡ false
      go true =
          ap (λ r. controls_mention new (shifted (cond r coords [])
          (controls_with a t (indices_on coords is)))) (eq-eqb a a refl)
          ∙ shifted_free new coords (controls_with a t (indices_on coords is)) spots
          (controls_gone (indices_on coords is) (indices_free new coords is spots k))
      go false =
          ap (λ r. controls_mention new (shifted (cond r coords []) (controls_with a t is))) h
          ∙ controls_gone is k

  parts_gone : (y : ℕ) (ds : List Coord) → new y ≡ false → coords_mention new ds ≡ false
      → coords_mention new (joined_coords (spots_of a t (name_on a x coords y))
      (coords_with a t (coords_at a x coords y ds))) ≡ false
  parts_gone y ds h k = go (y == x)
    where
      go : (b : Bool) → coords_mention new (joined_coords (spots_of a t (cond b a y))
          (coords_with a t (cond b (coords_on coords ds) ds))) ≡ false
      go true =
          ap (λ r. coords_mention new (joined_coords (cond r coords [])
          (coords_with a t (coords_on coords ds)))) (eq-eqb a a refl)
          ∙ joined_free new coords (coords_with a t (coords_on coords ds)) spots
          (coords_gone (coords_on coords ds) (coords_free new coords ds spots k))
      go false =
          ap (λ r. coords_mention new (joined_coords (cond r coords []) (coords_with a t ds))) h
          ∙ coords_gone ds k

  datum_gone : (d : Datum) → datum_mentions new d ≡ false
      → datum_mentions new (datum_with a t (converted_datum a x coords d)) ≡ false
  datum_gone (Const n) h = refl
  datum_gone (Read y is) h =
      let p = or_parts (new y) (controls_mention new is) h in
      ap₂ ◌||◌ (name_gone y p.0) (indices_gone y is p.0 p.1)
  datum_gone (Negated d) h = datum_gone d h
  datum_gone (Relu d) h = datum_gone d h
  datum_gone (Plus d e) h =
      let p = or_parts (datum_mentions new d) (datum_mentions new e) h in
      ap₂ ◌||◌ (datum_gone d p.0) (datum_gone e p.1)
  datum_gone (Minus d e) h =
      let p = or_parts (datum_mentions new d) (datum_mentions new e) h in
      ap₂ ◌||◌ (datum_gone d p.0) (datum_gone e p.1)
  datum_gone (Times d e) h =
      let p = or_parts (datum_mentions new d) (datum_mentions new e) h in
      ap₂ ◌||◌ (datum_gone d p.0) (datum_gone e p.1)
  datum_gone (Select d e f g) h =
      let p = or_parts (datum_mentions new d) _ h in
      let q = or_parts (datum_mentions new e) _ p.1 in
      let r = or_parts (datum_mentions new f) (datum_mentions new g) q.1 in
      ap₂ ◌||◌ (datum_gone d p.0) (ap₂ ◌||◌ (datum_gone e q.0)
      (ap₂ ◌||◌ (datum_gone f r.0) (datum_gone g r.1)))

  argument_gone : (g : Argument) → argument_mentions new g ≡ false
      → argument_mentions new (argument_with a t (converted_argument a x coords g)) ≡ false
  argument_gone (ControlArg e) h = control_gone e h
  argument_gone (ConditionArg c) h = condition_gone c h
  argument_gone (Whole y) h = go (y == x)
    where
      go : (b : Bool)
          → argument_mentions new (cond (cond b a y == a) t (Whole (cond b a y))) ≡ false
      go true =
          ap (λ r. argument_mentions new (cond r t (Whole a))) (eq-eqb a a refl)
          ∙ ap₂ ◌||◌ other spots
      go false = ap (λ r. argument_mentions new (cond r t (Whole y))) h ∙ h
  argument_gone (Window y ds) h =
      let p = or_parts (new y) (coords_mention new ds) h in
      ap₂ ◌||◌ (name_gone y p.0) (parts_gone y ds p.0 p.1)

  arguments_gone : (gs : List Argument) → arguments_mention new gs ≡ false
      → arguments_mention new (arguments_with a t (converted_arguments a x coords gs)) ≡ false
  arguments_gone [] h = refl
  arguments_gone (g ∷ gs) h =
      let p = or_parts (argument_mentions new g) (arguments_mention new gs) h in
      ap₂ ◌||◌ (argument_gone g p.0) (arguments_gone gs p.1)

  mutual
    pub gone : (b : Block) → mentions new b ≡ false
        → mentions new (block_with a t (converted a x coords b)) ≡ false
    gone end h = refl
    gone (next d b) h =
        let p = or_parts (statement_mentions new d) (mentions new b) h in
        ap₂ ◌||◌ (step_gone d p.0) (gone b p.1)

    step_gone : (d : Statement) → statement_mentions new d ≡ false
        → statement_mentions new (statement_with a t (converted_statement a x coords d)) ≡ false
    step_gone (Assign y is d) h =
        let p = or_parts (new y) (controls_mention new is || datum_mentions new d) h in
        let q = or_parts (controls_mention new is) (datum_mentions new d) p.1 in
        ap₂ ◌||◌ (name_gone y p.0) (ap₂ ◌||◌ (indices_gone y is p.0 q.0) (datum_gone d q.1))
    step_gone (Reduce y is d) h =
        let p = or_parts (new y) (controls_mention new is || datum_mentions new d) h in
        let q = or_parts (controls_mention new is) (datum_mentions new d) p.1 in
        ap₂ ◌||◌ (name_gone y p.0) (ap₂ ◌||◌ (indices_gone y is p.0 q.0) (datum_gone d q.1))
    step_gone (Config f g) h = argument_gone g h
    step_gone Pass h = refl
    step_gone (If c b d) h =
        let p = or_parts (condition_mentions new c) (mentions new b || mentions new d) h in
        let q = or_parts (mentions new b) (mentions new d) p.1 in
        ap₂ ◌||◌ (condition_gone c p.0) (ap₂ ◌||◌ (gone b q.0) (gone d q.1))
    step_gone (For i lo hi b) h =
        let p = or_parts (new i.id) _ h in
        let q = or_parts (control_mentions new lo) _ p.1 in
        let r = or_parts (control_mentions new hi) (mentions new b) q.1 in
        ap₂ ◌||◌ p.0 (ap₂ ◌||◌ (control_gone lo q.0)
        (ap₂ ◌||◌ (control_gone hi r.0) (gone b r.1)))
    step_gone (Alloc y cell dims memory) h =
        let p = or_parts (new y.id) (controls_mention new dims) h in
        ap₂ ◌||◌ p.0 (controls_gone dims p.1)
    step_gone (View w y ds) h =
        let p = or_parts (new w.id) (new y || coords_mention new ds) h in
        let q = or_parts (new y) (coords_mention new ds) p.1 in
        ap₂ ◌||◌ p.0 (ap₂ ◌||◌ (name_gone y q.0) (parts_gone y ds q.0 q.1))
    step_gone (Call k gs) h = arguments_gone gs h
