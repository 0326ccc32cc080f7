-- What keeps the rules where some fields are known keeps them where these are known and more.
use Rattle.std.proofs.Common.{◌≡◌, ℕ, true, List, [], ◌∷◌, length, Option, Some, None, refl, sym, ap, ◌∙◌, true≢false}
use Rattle.std.specs.List.{list_all}
use Rattle.exo_tree.specs.Tree.{Kind, Control, Lit, Var, Field, StrideOf, Neg, Add, Sub, Mul, Div, Mod, Condition, True, False, Flag, FieldFlag, Lt, Le, Gt, Ge, Eq, And, Or, Datum, Const, Read, Negated, Relu, Plus, Minus, Times, Select, Coord, At, Span}
use Rattle.exo_meaning.specs.Units.{Scope, Reads, sort_in, plainly, has_rank, is_of_literals, is_number_field, is_flag_field, is_literal_number, is_control, are_controls, is_condition, is_access, is_datum, is_coord, is_window}
use Rattle.std.specs.Prelude.{◌&&◌, ◌||◌, int_lt, pos}
use Rattle.exo_types_laws.proofs.Unbroken.{both, pair}

module _ (G F : ℕ → Option Kind) (more : (f : ℕ) (k : Kind) → G f ≡ Some k → F f ≡ Some k) where
  number_field : (f : ℕ) → is_number_field G (G f) ≡ true → is_number_field F (F f) ≡ true
  number_field f h = by (G f) refl h
    where
      by : (o : Option Kind) → G f ≡ o → is_number_field G o ≡ true → is_number_field F (F f) ≡ true
      by None p h = absurd (true≢false (sym h))
      by (Some k) p h = ap (is_number_field F) (more f k p) ∙ h

  flag_field : (f : ℕ) → is_flag_field G (G f) ≡ true → is_flag_field F (F f) ≡ true
  flag_field f h = by (G f) refl h
    where
      by : (o : Option Kind) → G f ≡ o → is_flag_field G o ≡ true → is_flag_field F (F f) ≡ true
      by None p h = absurd (true≢false (sym h))
      by (Some k) p h = ap (is_flag_field F) (more f k p) ∙ h

  pub control_wider : (may : Reads) (scope : Scope) (a : Control) → is_control G may scope a ≡ true → is_control F may scope a ≡ true
  control_wider may scope (Lit n) h = h
  control_wider may scope (Var x) h = h
  control_wider may scope (Field f) h = let p = both may.fields (is_number_field G (G f)) h in pair p.0 (number_field f p.1)
  control_wider may scope (StrideOf x k) h = h
  control_wider may scope (Neg a) h = control_wider may scope a h
  control_wider may scope (Add a b) h = let p = both (is_control G may scope a) (is_control G may scope b) h in pair (control_wider may scope a p.0) (control_wider may scope b p.1)
  control_wider may scope (Sub a b) h = let p = both (is_control G may scope a) (is_control G may scope b) h in pair (control_wider may scope a p.0) (control_wider may scope b p.1)
  control_wider may scope (Mul a b) h =
      let p = both (is_control G may scope a && is_control G may scope b) (is_of_literals a || is_of_literals b) h in
      let q = both (is_control G may scope a) (is_control G may scope b) p.0 in
      pair (pair (control_wider may scope a q.0) (control_wider may scope b q.1)) p.1
  control_wider may scope (Div a c) h = let p = both (is_control G may scope a) (is_literal_number c && int_lt (pos 0) c) h in pair (control_wider may scope a p.0) p.1
  control_wider may scope (Mod a c) h = let p = both (is_control G may scope a) (is_literal_number c && int_lt (pos 0) c) h in pair (control_wider may scope a p.0) p.1

  pub controls_wider : (may : Reads) (scope : Scope) (as' : List Control) → are_controls G may scope as' ≡ true → are_controls F may scope as' ≡ true
  controls_wider may scope [] h = refl
  controls_wider may scope (a ∷ as') h = let p = both (is_control G may scope a) (are_controls G may scope as') h in pair (control_wider may scope a p.0) (controls_wider may scope as' p.1)

  sides : (may : Reads) (scope : Scope) (a b : Control) → (is_control G may scope a && is_control G may scope b) ≡ true → (is_control F may scope a && is_control F may scope b) ≡ true
  sides may scope a b h = let p = both (is_control G may scope a) (is_control G may scope b) h in pair (control_wider may scope a p.0) (control_wider may scope b p.1)

  pub condition_wider : (may : Reads) (scope : Scope) (c : Condition) → is_condition G may scope c ≡ true → is_condition F may scope c ≡ true
  condition_wider may scope True h = refl
  condition_wider may scope False h = refl
  condition_wider may scope (Flag x) h = h
  condition_wider may scope (FieldFlag f) h = let p = both may.fields (is_flag_field G (G f)) h in pair p.0 (flag_field f p.1)
  condition_wider may scope (Lt a b) h = sides may scope a b h
  condition_wider may scope (Le a b) h = sides may scope a b h
  condition_wider may scope (Gt a b) h = sides may scope a b h
  condition_wider may scope (Ge a b) h = sides may scope a b h
  condition_wider may scope (Eq a b) h = sides may scope a b h
  condition_wider may scope (And c d) h = let p = both (is_condition G may scope c) (is_condition G may scope d) h in pair (condition_wider may scope c p.0) (condition_wider may scope d p.1)
  condition_wider may scope (Or c d) h = let p = both (is_condition G may scope c) (is_condition G may scope d) h in pair (condition_wider may scope c p.0) (condition_wider may scope d p.1)

  pub access_wider : (scope : Scope) (x : ℕ) (is : List Control) → is_access G scope x is ≡ true → is_access F scope x is ≡ true
  access_wider scope x is h = let p = both (has_rank (length is) (sort_in scope x)) (are_controls G plainly scope is) h in pair p.0 (controls_wider plainly scope is p.1)

  pub datum_wider : (scope : Scope) (e : Datum) → is_datum G scope e ≡ true → is_datum F scope e ≡ true
  datum_wider scope (Const n) h = h
  datum_wider scope (Read x is) h = access_wider scope x is h
  datum_wider scope (Negated a) h = datum_wider scope a h
  datum_wider scope (Relu a) h = datum_wider scope a h
  datum_wider scope (Plus a b) h = let p = both (is_datum G scope a) (is_datum G scope b) h in pair (datum_wider scope a p.0) (datum_wider scope b p.1)
  datum_wider scope (Minus a b) h = let p = both (is_datum G scope a) (is_datum G scope b) h in pair (datum_wider scope a p.0) (datum_wider scope b p.1)
  datum_wider scope (Times a b) h = let p = both (is_datum G scope a) (is_datum G scope b) h in pair (datum_wider scope a p.0) (datum_wider scope b p.1)
  datum_wider scope (Select a b c d) h =
      let p = both (is_datum G scope a && is_datum G scope b) (is_datum G scope c && is_datum G scope d) h in
      let q = both (is_datum G scope a) (is_datum G scope b) p.0 in
      let r = both (is_datum G scope c) (is_datum G scope d) p.1 in
      pair (pair (datum_wider scope a q.0) (datum_wider scope b q.1)) (pair (datum_wider scope c r.0) (datum_wider scope d r.1))

  coord_wider : (scope : Scope) (c : Coord) → is_coord G scope c ≡ true → is_coord F scope c ≡ true
  coord_wider scope (At a) h = control_wider plainly scope a h
  coord_wider scope (Span a b) h = sides plainly scope a b h

  coords_wider : (scope : Scope) (cs : List Coord) → list_all (is_coord G scope) cs ≡ true → list_all (is_coord F scope) cs ≡ true
  coords_wider scope [] h = refl
  coords_wider scope (c ∷ cs) h = let p = both (is_coord G scope c) (list_all (is_coord G scope) cs) h in pair (coord_wider scope c p.0) (coords_wider scope cs p.1)

  pub window_wider : (scope : Scope) (x : ℕ) (cs : List Coord) → is_window G scope x cs ≡ true → is_window F scope x cs ≡ true
  window_wider scope x cs h = let p = both (has_rank (length cs) (sort_in scope x)) (list_all (is_coord G scope) cs) h in pair p.0 (coords_wider scope cs p.1)
