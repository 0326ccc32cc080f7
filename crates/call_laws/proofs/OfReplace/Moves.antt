-- Expressions of a callee that keeps the rules are known in the block's names.
use Rattle.std.proofs.Common.{◌≡◌, ℕ, pos, int_lt, Bool, true, false, ◌&&◌, ◌||◌, List}
use Rattle.std.proofs.Common.{[], ◌∷◌, Option, Some, None, IfSome, refl, sym, ap, ap₂, ◌∙◌}
use Rattle.std.proofs.Common.{true≢false}
use Rattle.exo_tree.specs.Tree.{Kind, Control, Lit, Var, Field, StrideOf, Neg}
use Rattle.exo_tree.specs.Tree.{Add, Sub, Mul, Div, Mod, Condition, True, False, Flag, FieldFlag, Lt}
use Rattle.exo_tree.specs.Tree.{Le, Gt, Ge, Eq, And, Or, Coord, At, Span}
use Rattle.exo_tree.specs.Renaming.{re_control, re_condition, re_coords}
use Rattle.std.specs.List.{list_all}
use Rattle.exo_meaning.specs.Units.{Scope, Reads, plainly, sort_in}
use Rattle.exo_meaning.specs.Units.{is_number, is_flag, has_dimension}
use Rattle.exo_meaning.specs.Units.{is_literal_number, is_of_literals, is_control, is_condition}
use Rattle.exo_meaning.specs.Units.{is_coord}
use Rattle.affine_forms.specs.Forms.{is_affine}
use Rattle.affine_forms.proofs.Values.{and_parts}
use Rattle.check_laws.proofs.OfFacts.Affine.{Grows, more_affine}
use Rattle.match_laws.specs.Moved.{Moving, both, one, moved, moved_condition}
use Rattle.match_laws.specs.Fitting.{coords_moved}
use Rattle.match_laws.specs.Inline.Known.{strides_of}
use Rattle.match_laws.specs.Inline.MatchLaw.{is_known, are_moved_of_known}

-- known, and with no strides but of known names
abbrev pub moves : (ℕ → Bool) → Option Control → Bool
moves known None = false
moves known (Some f) = is_affine (strides_of known) f

pub moves_known : (known : ℕ → Bool) (o : Option Control) → moves known o ≡ true
    → is_known o ≡ true
moves_known known None h = h
moves_known known (Some f) h = refl

-- more names may be known
abbrev pub IsMore : (ℕ → Bool) → (ℕ → Bool) → Type 0
IsMore known grown = (x : ℕ) → known x ≡ true → grown x ≡ true

pub grows : (known grown : ℕ → Bool) → IsMore known grown → Grows (strides_of known) (strides_of grown)
grows known grown more = record {
  variables = λ x h. h;
  fields = λ f h. h;
  strides = λ x k h. more x h;
}

pub moves_more : (known grown : ℕ → Bool) → IsMore known grown → (o : Option Control)
    → moves known o ≡ true → moves grown o ≡ true
moves_more known grown more None h = h
moves_more known grown more (Some f) h =
    more_affine (strides_of known) (strides_of grown) (grows known grown more) f h

module _ (known : ℕ → Bool) where
  abbrev Moves : Option Control → Type 0
  Moves o = moves known o ≡ true

  neg_moves : (o : Option Control) → Moves o → Moves (one Neg o)
  neg_moves None h = h
  neg_moves (Some f) h = h

  add_moves : (o p : Option Control) → Moves o → Moves p → Moves (both Add o p)
  add_moves None p h k = h
  add_moves (Some f) None h k = k
  add_moves (Some f) (Some g) h k = ap₂ ◌&&◌ h k

  sub_moves : (o p : Option Control) → Moves o → Moves p → Moves (both Sub o p)
  sub_moves None p h k = h
  sub_moves (Some f) None h k = k
  sub_moves (Some f) (Some g) h k = ap₂ ◌&&◌ h k

  abbrev OfLiterals : Option Control → Type 0
  OfLiterals o = IfSome o (λ f. is_of_literals f ≡ true)

  mul_moves : (o p : Option Control) (s t : Bool) → Moves o → Moves p → (s || t) ≡ true
      → (s ≡ true → OfLiterals o) → (t ≡ true → OfLiterals p) → Moves (both Mul o p)
  mul_moves None p s t h k l i j = h
  mul_moves (Some f) None s t h k l i j = k
  mul_moves (Some f) (Some g) true t h k l i j =
      ap₂ ◌&&◌ (ap (λ z. z || is_of_literals g) (i refl)) (ap₂ ◌&&◌ h k)
  mul_moves (Some f) (Some g) false t h k l i j =
      ap₂ ◌&&◌ (either (is_of_literals f) (j l)) (ap₂ ◌&&◌ h k)
    where
      either : (s : Bool) → is_of_literals g ≡ true → (s || is_of_literals g) ≡ true
      either true e = refl
      either false e = e

  div_moves : (o : Option Control) (c : _) → Moves o → int_lt (pos 0) c ≡ true
      → Moves (one (λ e. Div e c) o)
  div_moves None c h k = h
  div_moves (Some f) c h k = ap₂ ◌&&◌ k h

  mod_moves : (o : Option Control) (c : _) → Moves o → int_lt (pos 0) c ≡ true
      → Moves (one (λ e. Mod e c) o)
  mod_moves None c h k = h
  mod_moves (Some f) c h k = ap₂ ◌&&◌ k h

-- ---- literals stay literals

module _ (to : ℕ → ℕ) (m : Moving) where
  one_literal : (f : Control → Control) → ((e : Control) → is_of_literals (f e) ≡ is_of_literals e)
      → (o : Option Control) → IfSome o (λ e. is_of_literals e ≡ true)
      → IfSome (one f o) (λ e. is_of_literals e ≡ true)
  one_literal f same None h = tt
  one_literal f same (Some e) h = same e ∙ h

  two_literals : (f : Control → Control → Control)
      → ((e g : Control) → is_of_literals (f e g) ≡ (is_of_literals e && is_of_literals g))
      → (o p : Option Control) → IfSome o (λ e. is_of_literals e ≡ true)
      → IfSome p (λ e. is_of_literals e ≡ true) → IfSome (both f o p) (λ e. is_of_literals e ≡ true)
  two_literals f same None p h k = tt
  two_literals f same (Some e) None h k = tt
  two_literals f same (Some e) (Some g) h k = same e g ∙ ap₂ ◌&&◌ h k

  literal_moved : (e : Control) → is_of_literals e ≡ true
      → IfSome (moved m (re_control to e)) (λ f. is_of_literals f ≡ true)
  literal_moved (Lit n) h = refl
  literal_moved (Var x) h = absurd (true≢false (sym h))
  literal_moved (Field f) h = absurd (true≢false (sym h))
  literal_moved (StrideOf x k) h = absurd (true≢false (sym h))
  literal_moved (Neg a) h =
      one_literal Neg (λ e. refl) (moved m (re_control to a)) (literal_moved a h)
  literal_moved (Add a b) h =
      let p = and_parts (is_of_literals a) (is_of_literals b) h in
      two_literals Add (λ e g. refl) (moved m (re_control to a)) (moved m (re_control to b))
      (literal_moved a p.0) (literal_moved b p.1)
  literal_moved (Sub a b) h =
      let p = and_parts (is_of_literals a) (is_of_literals b) h in
      two_literals Sub (λ e g. refl) (moved m (re_control to a)) (moved m (re_control to b))
      (literal_moved a p.0) (literal_moved b p.1)
  literal_moved (Mul a b) h =
      let p = and_parts (is_of_literals a) (is_of_literals b) h in
      two_literals Mul (λ e g. refl) (moved m (re_control to a)) (moved m (re_control to b))
      (literal_moved a p.0) (literal_moved b p.1)
  literal_moved (Div a c) h =
      one_literal (λ e. Div e c) (λ e. refl) (moved m (re_control to a)) (literal_moved a h)
  literal_moved (Mod a c) h =
      one_literal (λ e. Mod e c) (λ e. refl) (moved m (re_control to a)) (literal_moved a h)

-- ---- expressions

module _ (fields : ℕ → Option Kind) (to : ℕ → ℕ) (m : Moving) (known : ℕ → Bool) (reads : Reads)
    (scope : Scope)
    (numbers : (x : ℕ) → is_number (sort_in scope x) ≡ true → moves known (m.variable (to x)) ≡ true)
    (strides : (x k : ℕ) → (reads.strides && has_dimension k (sort_in scope x)) ≡ true
    → moves known (m.stride (to x) k) ≡ true) where
  abbrev Keeps : Control → Type 0
  Keeps e = is_control fields reads scope e ≡ true

  abbrev new : Control → Option Control
  new e = moved m (re_control to e)

  pub control_moves : (e : Control) → Keeps e → moves known (new e) ≡ true
  control_moves (Lit n) h = refl
  control_moves (Var x) h = numbers x h
  control_moves (Field f) h = refl
  control_moves (StrideOf x k) h = strides x k h
  control_moves (Neg a) h = neg_moves known (new a) (control_moves a h)
  control_moves (Add a b) h =
      let p = and_parts (is_control fields reads scope a) (is_control fields reads scope b) h in
      add_moves known (new a) (new b) (control_moves a p.0) (control_moves b p.1)
  control_moves (Sub a b) h =
      let p = and_parts (is_control fields reads scope a) (is_control fields reads scope b) h in
      sub_moves known (new a) (new b) (control_moves a p.0) (control_moves b p.1)
  control_moves (Mul a b) h =
      let q = and_parts (is_control fields reads scope a && is_control fields reads scope b)
      (is_of_literals a || is_of_literals b) h in
      let p = and_parts (is_control fields reads scope a) (is_control fields reads scope b) q.0 in
      mul_moves known (new a) (new b) (is_of_literals a) (is_of_literals b) (control_moves a p.0)
      (control_moves b p.1) q.1 (literal_moved to m a) (literal_moved to m b)
  control_moves (Div a c) h =
      let p = and_parts (is_control fields reads scope a) (is_literal_number c && int_lt (pos 0) c) h in
      div_moves known (new a) c (control_moves a p.0)
      (and_parts (is_literal_number c) (int_lt (pos 0) c) p.1).1
  control_moves (Mod a c) h =
      let p = and_parts (is_control fields reads scope a) (is_literal_number c && int_lt (pos 0) c) h in
      mod_moves known (new a) c (control_moves a p.0)
      (and_parts (is_literal_number c) (int_lt (pos 0) c) p.1).1

  pub control_known : (e : Control) → Keeps e → is_known (new e) ≡ true
  control_known e h = moves_known known (new e) (control_moves e h)

  -- ---- conditions

  both_known : {A B C : Type 0} (f : A → B → C) (o : Option A) (p : Option B) → is_known o ≡ true
      → is_known p ≡ true → is_known (both f o p) ≡ true
  both_known f None p h k = h
  both_known f (Some a) None h k = k
  both_known f (Some a) (Some b) h k = refl

  sides_known : (f : Control → Control → Condition) (a b : Control)
      → (is_control fields reads scope a && is_control fields reads scope b) ≡ true
      → is_known (both f (new a) (new b)) ≡ true
  sides_known f a b h =
      let p = and_parts (is_control fields reads scope a) (is_control fields reads scope b) h in
      both_known f (new a) (new b) (control_known a p.0) (control_known b p.1)

  module _ (flags : (x : ℕ) → is_flag (sort_in scope x) ≡ true → is_known (m.flag (to x)) ≡ true) where
    pub condition_known : (c : Condition) → is_condition fields reads scope c ≡ true
        → is_known (moved_condition m (re_condition to c)) ≡ true
    condition_known True h = refl
    condition_known False h = refl
    condition_known (Flag x) h = flags x h
    condition_known (FieldFlag f) h = refl
    condition_known (Lt a b) h = sides_known Lt a b h
    condition_known (Le a b) h = sides_known Le a b h
    condition_known (Gt a b) h = sides_known Gt a b h
    condition_known (Ge a b) h = sides_known Ge a b h
    condition_known (Eq a b) h = sides_known Eq a b h
    condition_known (And c d) h =
        let p = and_parts (is_condition fields reads scope c) (is_condition fields reads scope d) h in
        both_known And (moved_condition m (re_condition to c)) (moved_condition m (re_condition to d))
        (condition_known c p.0) (condition_known d p.1)
    condition_known (Or c d) h =
        let p = and_parts (is_condition fields reads scope c) (is_condition fields reads scope d) h in
        both_known Or (moved_condition m (re_condition to c)) (moved_condition m (re_condition to d))
        (condition_known c p.0) (condition_known d p.1)

-- ---- coordinates

module _ (known : ℕ → Bool) where
  at_of_known : (o : Option Control) (q : Option (List Coord)) → moves known o ≡ true
      → are_moved_of_known known q ≡ true → are_moved_of_known known (both ◌∷◌ (one At o) q) ≡ true
  at_of_known None q h k = h
  at_of_known (Some f) None h k = k
  at_of_known (Some f) (Some cs) h k = ap₂ ◌&&◌ h k

  span_of_known : (o p : Option Control) (q : Option (List Coord)) → moves known o ≡ true
      → moves known p ≡ true → are_moved_of_known known q ≡ true
      → are_moved_of_known known (both ◌∷◌ (both Span o p) q) ≡ true
  span_of_known None p q h k l = h
  span_of_known (Some f) None q h k l = k
  span_of_known (Some f) (Some g) None h k l = l
  span_of_known (Some f) (Some g) (Some cs) h k l = ap₂ ◌&&◌ h (ap₂ ◌&&◌ k l)

module _ (fields : ℕ → Option Kind) (to : ℕ → ℕ) (m : Moving) (known : ℕ → Bool) (scope : Scope)
    (numbers : (x : ℕ) → is_number (sort_in scope x) ≡ true → moves known (m.variable (to x)) ≡ true) where
  plain_moves : (e : Control) → is_control fields plainly scope e ≡ true
      → moves known (moved m (re_control to e)) ≡ true
  plain_moves = control_moves fields to m known plainly scope numbers (λ x k h. absurd (true≢false (sym h)))

  pub coords_move : (cs : List Coord) → list_all (is_coord fields scope) cs ≡ true
      → are_moved_of_known known (coords_moved m (re_coords to cs)) ≡ true
  coords_move [] h = refl
  coords_move (At a ∷ cs) h =
      let p = and_parts (is_control fields plainly scope a) (list_all (is_coord fields scope) cs) h in
      at_of_known known (moved m (re_control to a)) (coords_moved m (re_coords to cs))
      (plain_moves a p.0) (coords_move cs p.1)
  coords_move (Span a b ∷ cs) h =
      let p = and_parts (is_control fields plainly scope a && is_control fields plainly scope b)
      (list_all (is_coord fields scope) cs) h in
      let q = and_parts (is_control fields plainly scope a) (is_control fields plainly scope b) p.0 in
      span_of_known known (moved m (re_control to a)) (moved m (re_control to b))
      (coords_moved m (re_coords to cs)) (plain_moves a q.0) (plain_moves b q.1) (coords_move cs p.1)
