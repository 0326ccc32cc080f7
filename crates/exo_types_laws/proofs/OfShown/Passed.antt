-- Written arguments with their names resolved are themselves, under other ids, and break no rule.
use Rattle.std.proofs.Common.{◌≡◌, ℕ, suc, ◌+◌, ◌==◌, Bool, true, false, not, ◌&&◌, if◌then◌else◌, List, [], ◌∷◌, ◌++◌, length, map, Option, None, refl, sym, ap, ap₂, ◌∙◌, true≢false, eqb-true, eq-eqb}
use Rattle.std.proofs.lemmas.List.{length-map}
use Rattle.exo_tree.specs.Tree.{Kind, Cell, ConfigField, Control, Coord, At, Span, Argument, ControlArg, ConditionArg, Whole, Window, ParamKind, ControlParam, TensorParam, WindowParam}
use Rattle.exo_meaning.specs.Units as units
use Rattle.exo_meaning.specs.Units.{Scope, Sort, Reads, plainly, with_both, sort_in, is_truth, has_rank, has_cell, is_dense, is_control, is_condition, is_window, is_of_kind, is_for, field_kind}
use Rattle.exo_meaning.specs.Renaming.{Renaming, re_coords, re_argument}
use Rattle.text_expressions.specs.Expression.{Tree, trees}
use Rattle.exo_reader.specs.Source as source
use Rattle.exo_reader.specs.Source.{point, span}
use Rattle.rules_names.specs.declared.error.TypeKind.TheVariants.{RankMismatch}
use Rattle.rules_names.specs.declared.fault.Fault.{Fault}
use Rattle.rules_names.specs.Faults.{unless}
use Rattle.rules_names.specs.Names.{id_in, named_in, sort_of}
use Rattle.rules_names.specs.ExpressionRules.{width, name_faults, rank_faults, control_faults, controls_faults, condition_faults, list_of}
use Rattle.rules_names.specs.Resolved.{control_of, condition_of}
use Rattle.rules_names.specs.WindowRules.{coordinates_faults, window_faults, coordinates_of}
use Rattle.text_show.specs.Words.{Words}
use Rattle.exo_types.specs.ArgumentRules.{spans, points, tensor_takes, cell_takes, whole_faults, part_faults, kind_faults, argument_faults, part_of, kind_value_of, argument_of}
use Rattle.exo_types_laws.specs.Shown.Written as written
use Rattle.exo_types_laws.specs.Shown.Written.{access_tree, has_span, control_tree, condition_tree}
use Rattle.exo_types_laws.specs.Shown.Writable.{HasSome}
use Rattle.exo_types_laws.proofs.OfShown.Scoped.{Finds, re_scope, both, denied, id_found}
use Rattle.exo_types_laws.proofs.OfShown.Scoped.{sort_found}
use Rattle.exo_types_laws.proofs.OfShown.Resolved.{FindsFields, front_none, back_none, unless_fine}
use Rattle.exo_types_laws.proofs.OfShown.Resolved.{joined_fine, parts_fine, rank_fine, listed_again}
use Rattle.exo_types_laws.proofs.OfShown.Resolved.{name_fine, control_same, control_fine}
use Rattle.exo_types_laws.proofs.OfShown.Judged.{condition_same, condition_fine, coordinates_same}
use Rattle.exo_types_laws.proofs.OfShown.Judged.{window_fine}

-- a window has a coordinate
abbrev pub HasCoords : Argument → Type 0
HasCoords (ControlArg e) = Unit {0}
HasCoords (ConditionArg c) = Unit {0}
HasCoords (Whole x) = Unit {0}
HasCoords (Window x coords) = HasSome coords

pub all_true : (a b : Bool) → a ≡ true → b ≡ true → (a && b) ≡ true
all_true a b p q = ap (λ t. t && b) p ∙ q

no_spans : (cs : List Coord) → has_span cs ≡ false → units.spans cs ≡ 0
no_spans [] h = refl
no_spans (At a ∷ cs) h = no_spans cs h
no_spans (Span a b ∷ cs) h = absurd (true≢false h)

module _ (w : Words) (fields : List ConfigField) (r : Renaming) (scope : Scope) (finds : Finds w r scope) (finds_fields : FindsFields fields) where
  abbrev there : Scope
  there = re_scope r scope

  abbrev kinds : ℕ → Option Kind
  kinds = field_kind fields

  spans_same : (cs : List Coord) → spans (map (written.coordinate_of w fields) cs) ≡ units.spans cs
  spans_same [] = refl
  spans_same (At a ∷ cs) = spans_same cs
  spans_same (Span a b ∷ cs) = ap suc (spans_same cs)

  points_low : (cs : List Coord) → has_span cs ≡ false → points (map (written.low_tree w fields) cs) ≡ map (written.coordinate_of w fields) cs
  points_low [] h = refl
  points_low (At a ∷ cs) h = ap (λ l. point (control_tree w fields a) ∷ l) (points_low cs h)
  points_low (Span a b ∷ cs) h = absurd (true≢false h)

  -- ---- values of a kind

  pub kind_same : (may : Reads) (kind : Kind) (a : Argument) → is_of_kind kinds may scope kind a ≡ true → kind_value_of fields there kind (written.stored_tree w fields a) ≡ re_argument r a
  kind_same may kind (ControlArg e) h =
      let s = both (not (is_truth kind)) _ h in
      ap (λ t. if t then ConditionArg (condition_of fields there (control_tree w fields e)) else ControlArg (control_of fields there (control_tree w fields e))) (denied _ s.0)
      ∙ ap ControlArg (control_same w fields r scope finds finds_fields may e s.1)
  kind_same may kind (ConditionArg c) h =
      let s = both (is_truth kind) _ h in
      ap (λ t. if t then ConditionArg (condition_of fields there (condition_tree w fields c)) else ControlArg (control_of fields there (condition_tree w fields c))) s.0
      ∙ ap ConditionArg (condition_same w fields r scope finds finds_fields may c s.1)
  kind_same may kind (Whole x) h = absurd (true≢false (sym h))
  kind_same may kind (Window x coords) h = absurd (true≢false (sym h))

  pub kind_fine : (may : Reads) (kind : Kind) (a : Argument) → is_of_kind kinds may scope kind a ≡ true → (n : ℕ) → kind_faults fields may there kind n (written.stored_tree w fields a) ≡ []
  kind_fine may kind (ControlArg e) h n =
      let s = both (not (is_truth kind)) _ h in
      ap (λ t. if t then condition_faults fields may there n (control_tree w fields e) else control_faults fields may there n (control_tree w fields e)) (denied _ s.0)
      ∙ control_fine w fields r scope finds finds_fields may e s.1 n
  kind_fine may kind (ConditionArg c) h n =
      let s = both (is_truth kind) _ h in
      ap (λ t. if t then condition_faults fields may there n (condition_tree w fields c) else control_faults fields may there n (condition_tree w fields c)) s.0
      ∙ condition_fine w fields r scope finds finds_fields may c s.1 n
  kind_fine may kind (Whole x) h n = absurd (true≢false (sym h))
  kind_fine may kind (Window x coords) h n = absurd (true≢false (sym h))

  -- ---- windows

  window_id : (x : ℕ) (cs : List Coord) → is_window kinds scope x cs ≡ true → id_in there (w.name x) ≡ r.to x
  window_id x cs h = id_found w r scope finds x (has_rank (length cs)) refl (both _ _ h).0

  window_coords : (x : ℕ) (cs : List Coord) → is_window kinds scope x cs ≡ true → coordinates_of fields there (map (written.coordinate_of w fields) cs) ≡ re_coords r cs
  window_coords x cs h = coordinates_same w fields r scope finds finds_fields cs (both (has_rank (length cs) (sort_in scope x)) _ h).1

  -- points alone are the indices of a cell
  part_same : (x : ℕ) (cs : List Coord) → HasSome cs → has_span cs ≡ false → is_window kinds scope x cs ≡ true → part_of fields there (access_tree (w.name x) (map (written.low_tree w fields) cs)) ≡ Window (r.to x) (re_coords r cs)
  part_same x [] some absent h = absurd some
  part_same x (c ∷ cs) some absent h =
      ap₂ Window (window_id x (c ∷ cs) h)
      (ap (coordinates_of fields there) (ap points (listed_again (map (written.low_tree w fields) (c ∷ cs))) ∙ points_low (c ∷ cs) absent) ∙ window_coords x (c ∷ cs) h)

  tensor_window : (cell : Cell) (dims : List Control) (memory x : ℕ) (cs : List Coord) → HasSome cs → is_window kinds scope x cs ≡ true → argument_of fields there (TensorParam cell dims memory) (written.window_of w fields (w.name x) cs) ≡ Window (r.to x) (re_coords r cs)
  tensor_window cell dims memory x cs some h = by (has_span cs) refl
    where
      by : (t : Bool) → has_span cs ≡ t → argument_of fields there (TensorParam cell dims memory) (if t then source.window (w.name x) (map (written.coordinate_of w fields) cs) else source.value (access_tree (w.name x) (map (written.low_tree w fields) cs))) ≡ Window (r.to x) (re_coords r cs)
      by true p = ap₂ Window (window_id x cs h) (window_coords x cs h)
      by false p = part_same x cs some p h

  strided_window : (cell : Cell) (dims : List Control) (memory x : ℕ) (cs : List Coord) → HasSome cs → is_window kinds scope x cs ≡ true → argument_of fields there (WindowParam cell dims memory) (written.window_of w fields (w.name x) cs) ≡ Window (r.to x) (re_coords r cs)
  strided_window cell dims memory x cs some h = by (has_span cs) refl
    where
      by : (t : Bool) → has_span cs ≡ t → argument_of fields there (WindowParam cell dims memory) (if t then source.window (w.name x) (map (written.coordinate_of w fields) cs) else source.value (access_tree (w.name x) (map (written.low_tree w fields) cs))) ≡ Window (r.to x) (re_coords r cs)
      by true p = ap₂ Window (window_id x cs h) (window_coords x cs h)
      by false p = part_same x cs some p h

  -- ---- arguments

  pub argument_same : (kind : ParamKind) (a : Argument) → is_for kinds scope kind a ≡ true → HasCoords a → argument_of fields there kind (written.argument_of w fields a) ≡ re_argument r a
  argument_same (ControlParam kind) (ControlArg e) h some = kind_same with_both kind (ControlArg e) h
  argument_same (ControlParam kind) (ConditionArg c) h some = kind_same with_both kind (ConditionArg c) h
  argument_same (ControlParam kind) (Whole x) h some = absurd (true≢false (sym h))
  argument_same (ControlParam kind) (Window x cs) h some = absurd (true≢false (sym h))
  argument_same (TensorParam cell dims memory) (ControlArg e) h some = absurd (true≢false (sym h))
  argument_same (TensorParam cell dims memory) (ConditionArg c) h some = absurd (true≢false (sym h))
  argument_same (TensorParam cell dims memory) (Whole x) h some = ap Whole (id_found w r scope finds x (has_cell cell) refl (both _ _ h).0)
  argument_same (TensorParam cell dims memory) (Window x cs) h some = tensor_window cell dims memory x cs some (both _ _ (both (has_cell cell (sort_in scope x)) _ h).1).0
  argument_same (WindowParam cell dims memory) (ControlArg e) h some = absurd (true≢false (sym h))
  argument_same (WindowParam cell dims memory) (ConditionArg c) h some = absurd (true≢false (sym h))
  argument_same (WindowParam cell dims memory) (Whole x) h some = ap Whole (id_found w r scope finds x (has_cell cell) refl (both _ _ h).0)
  argument_same (WindowParam cell dims memory) (Window x cs) h some = strided_window cell dims memory x cs some (both _ _ (both (has_cell cell (sort_in scope x)) _ h).1).0

  -- ---- rules on arguments

  whole_fine : (test : Option Sort → Bool) (x rank : ℕ) → test None ≡ false → test (sort_in scope x) ≡ true → has_rank rank (sort_in scope x) ≡ true → (n : ℕ) → whole_faults fields test there n (w.name x) rank ≡ []
  whole_fine test x rank absent t h n =
      joined_fine _ _ (name_fine w fields r scope finds finds_fields test x n absent t)
      (ap (λ s. rank_faults s rank n) (sort_found w r scope finds x test absent t) ∙ rank_fine (sort_in scope x) rank n h)

  low_fine : (test : Option Sort → Bool) (x : ℕ) (c : Coord) (cs : List Coord) → test None ≡ false → test (sort_in scope x) ≡ true → has_span (c ∷ cs) ≡ false → is_window kinds scope x (c ∷ cs) ≡ true → (n : ℕ) → window_faults fields test there n (w.name x) (points (list_of (trees (map (written.low_tree w fields) (c ∷ cs))))) ≡ []
  low_fine test x c cs absent t none h n =
      ap (λ l. window_faults fields test there n (w.name x) (points l)) (listed_again (map (written.low_tree w fields) (c ∷ cs)))
      ∙ ap (window_faults fields test there n (w.name x)) (points_low (c ∷ cs) none)
      ∙ window_fine w fields r scope finds finds_fields test x (c ∷ cs) absent t h n

  points_faults : (n : ℕ) (es : List Tree) → controls_faults fields plainly there n es ≡ coordinates_faults fields there n (points es)
  points_faults n [] = refl
  points_faults n (e ∷ es) = ap (λ l. control_faults fields plainly there n e ++ l) (points_faults (n + width e + 1) es)

  part_fine : (test : Option Sort → Bool) (n : ℕ) (x : List ℕ) (es : List Tree) (more : List Fault) → window_faults fields test there n x (points es) ≡ [] → more ≡ [] → part_faults fields test there n x es more ≡ []
  part_fine test n x es more h m =
      let sort = sort_of (named_in there x) in
      let behind = back_none (name_faults test sort n) _ h in
      parts_fine _ _ (joined_fine _ _ (front_none (name_faults test sort n) _ h) (points_faults (n + 2) es ∙ back_none (rank_faults sort (length (points es)) n) _ behind))
      (joined_fine _ _ (ap (λ k. rank_faults sort k n) (sym (length-map es point)) ∙ front_none (rank_faults sort (length (points es)) n) _ behind) m)

  low_part : (test : Option Sort → Bool) (x : ℕ) (c : Coord) (cs : List Coord) → test None ≡ false → test (sort_in scope x) ≡ true → has_span (c ∷ cs) ≡ false → is_window kinds scope x (c ∷ cs) ≡ true → (n : ℕ) (more : List Fault) → more ≡ [] → part_faults fields test there n (w.name x) (list_of (trees (map (written.low_tree w fields) (c ∷ cs)))) more ≡ []
  low_part test x c cs absent t none h n more m = part_fine test n (w.name x) (list_of (trees (map (written.low_tree w fields) (c ∷ cs)))) more (low_fine test x c cs absent t none h n) m

  tensor_fine : (cell : Cell) (dims : List Control) (memory x : ℕ) (cs : List Coord) → HasSome cs → is_for kinds scope (TensorParam cell dims memory) (Window x cs) ≡ true → (n : ℕ) → argument_faults fields there (TensorParam cell dims memory) n (written.window_of w fields (w.name x) cs) ≡ []
  tensor_fine cell dims memory x [] some h n = absurd some
  tensor_fine cell dims memory x (c ∷ cs) some h n = by (has_span (c ∷ cs)) refl
    where
      has : (has_cell cell (sort_in scope x) ≡ true) × ((is_window kinds scope x (c ∷ cs) && (((length dims) == 0) && ((units.spans (c ∷ cs) == 0) && not (length (c ∷ cs) == 0)))) ≡ true)
      has = both _ _ h

      inner : (is_window kinds scope x (c ∷ cs) ≡ true) × ((((length dims) == 0) && ((units.spans (c ∷ cs) == 0) && not (length (c ∷ cs) == 0))) ≡ true)
      inner = both _ _ has.1

      zero_rank : (((length dims) == 0) ≡ true) × (((units.spans (c ∷ cs) == 0) && not (length (c ∷ cs) == 0)) ≡ true)
      zero_rank = both _ _ inner.1

      takes : cell_takes cell (length dims) (sort_in scope x) ≡ true
      takes = all_true _ _ has.0 zero_rank.0

      same_spans : (spans (map (written.coordinate_of w fields) (c ∷ cs)) == (length dims)) ≡ true
      same_spans = eq-eqb _ _ (spans_same (c ∷ cs) ∙ eqb-true _ _ (both _ _ zero_rank.1).0 ∙ sym (eqb-true _ _ zero_rank.0))

      by : (t : Bool) → has_span (c ∷ cs) ≡ t → argument_faults fields there (TensorParam cell dims memory) n (if t then source.window (w.name x) (map (written.coordinate_of w fields) (c ∷ cs)) else source.value (access_tree (w.name x) (map (written.low_tree w fields) (c ∷ cs)))) ≡ []
      by true p = joined_fine _ _ (window_fine w fields r scope finds finds_fields (cell_takes cell (length dims)) x (c ∷ cs) refl takes inner.0 n) (unless_fine _ _ n same_spans)
      by false p = low_part (cell_takes cell (length dims)) x c cs refl takes p inner.0 n [] refl

  strided_fine : (cell : Cell) (dims : List Control) (memory x : ℕ) (cs : List Coord) → HasSome cs → is_for kinds scope (WindowParam cell dims memory) (Window x cs) ≡ true → (n : ℕ) → argument_faults fields there (WindowParam cell dims memory) n (written.window_of w fields (w.name x) cs) ≡ []
  strided_fine cell dims memory x [] some h n = absurd some
  strided_fine cell dims memory x (c ∷ cs) some h n = by (has_span (c ∷ cs)) refl
    where
      has : (has_cell cell (sort_in scope x) ≡ true) × ((is_window kinds scope x (c ∷ cs) && ((length dims) == units.spans (c ∷ cs))) ≡ true)
      has = both _ _ h

      inner : (is_window kinds scope x (c ∷ cs) ≡ true) × (((length dims) == units.spans (c ∷ cs)) ≡ true)
      inner = both _ _ has.1

      by : (t : Bool) → has_span (c ∷ cs) ≡ t → argument_faults fields there (WindowParam cell dims memory) n (if t then source.window (w.name x) (map (written.coordinate_of w fields) (c ∷ cs)) else source.value (access_tree (w.name x) (map (written.low_tree w fields) (c ∷ cs)))) ≡ []
      by true p =
          joined_fine _ _ (window_fine w fields r scope finds finds_fields (has_cell cell) x (c ∷ cs) refl has.0 inner.0 n)
          (unless_fine _ _ n (eq-eqb _ _ (spans_same (c ∷ cs) ∙ sym (eqb-true _ _ inner.1))))
      by false p =
          low_part (has_cell cell) x c cs refl has.0 p inner.0 n (unless ((length dims) == 0) RankMismatch n)
          (unless_fine _ _ n (eq-eqb _ _ (eqb-true _ _ inner.1 ∙ no_spans (c ∷ cs) p)))

  pub argument_fine : (kind : ParamKind) (a : Argument) → is_for kinds scope kind a ≡ true → HasCoords a → (n : ℕ) → argument_faults fields there kind n (written.argument_of w fields a) ≡ []
  argument_fine (ControlParam kind) (ControlArg e) h some n = kind_fine with_both kind (ControlArg e) h n
  argument_fine (ControlParam kind) (ConditionArg c) h some n = kind_fine with_both kind (ConditionArg c) h n
  argument_fine (ControlParam kind) (Whole x) h some n = absurd (true≢false (sym h))
  argument_fine (ControlParam kind) (Window x cs) h some n = absurd (true≢false (sym h))
  argument_fine (TensorParam cell dims memory) (ControlArg e) h some n = absurd (true≢false (sym h))
  argument_fine (TensorParam cell dims memory) (ConditionArg c) h some n = absurd (true≢false (sym h))
  argument_fine (TensorParam cell dims memory) (Whole x) h some n =
      let s = both (has_cell cell (sort_in scope x)) _ h in
      let t = both (has_rank (length dims) (sort_in scope x)) _ s.1 in
      whole_fine (tensor_takes cell (length dims)) x (length dims) refl (all_true _ _ s.0 t.1) t.0 n
  argument_fine (TensorParam cell dims memory) (Window x cs) h some n = tensor_fine cell dims memory x cs some h n
  argument_fine (WindowParam cell dims memory) (ControlArg e) h some n = absurd (true≢false (sym h))
  argument_fine (WindowParam cell dims memory) (ConditionArg c) h some n = absurd (true≢false (sym h))
  argument_fine (WindowParam cell dims memory) (Whole x) h some n =
      let s = both (has_cell cell (sort_in scope x)) _ h in
      whole_fine (has_cell cell) x (length dims) refl s.0 s.1 n
  argument_fine (WindowParam cell dims memory) (Window x cs) h some n = strided_fine cell dims memory x cs some h n
