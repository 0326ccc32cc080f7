-- Written conditions, data and windows with their names resolved are themselves, under other ids, and break no rule.
use Rattle.std.proofs.Common.{◌≡◌, ℕ, pos, negsuc, ◌+◌, nat_lt, Bool, true, false, ◌&&◌, if◌then◌else◌, List, [], ◌∷◌, length, map, Option, Some, None, refl, sym, ap, ap₂, ◌∙◌, true≢false}
use Rattle.std.specs.List.{list_all}
use Rattle.std.proofs.lemmas.List.{length-map}
use Rattle.exo_tree.specs.Tree as tree
use Rattle.exo_tree.specs.Tree.{Kind, ConfigField, Control, Lit, Var, Field, StrideOf, Neg, Add, Sub, Mul, Div, Mod, Condition, Flag, FieldFlag, Lt, Le, Gt, Ge, Eq, And, Or, Datum, Const, Read, Negated, Relu, Plus, Minus, Times, Select, Coord, At, Span}
use Rattle.exo_meaning.specs.Units.{Scope, Sort, Reads, sort_in, plainly, is_truth, is_flag, has_rank, is_control, are_controls, is_condition, is_access, is_datum, is_coord, is_window, is_flag_field, field_kind}
use Rattle.exo_meaning.specs.Renaming.{Renaming, re_control, re_controls, re_condition, re_datum, re_coords}
use Rattle.text_expressions.specs.Expression.{Tree, parens}
use Rattle.exo_reader.specs.Source.{point}
use Rattle.rules_names.specs.ExpressionRules.{may_be_condition, may_be_data, rank_faults, is_buffer, field_faults, wrong_form, control_faults, condition_faults, read_faults, data_faults}
use Rattle.rules_names.specs.Resolved.{field_number, control_of, controls_of, condition_of, datum_of}
use Rattle.rules_names.specs.WindowRules.{coordinates_faults, window_faults, coordinates_of}
use Rattle.text_show.specs.Words.{Words}
use Rattle.text_show.specs.ControlText.{condition_precedence}
use Rattle.text_show.specs.DatumText.{datum_precedence}
use Rattle.exo_types_laws.specs.Shown.Written as written
use Rattle.exo_types_laws.specs.Shown.Written.{literal_tree, placed, access_tree, config_of}
use Rattle.exo_types_laws.specs.Shown.Written.{field_of, config_word, field_word, control_tree}
use Rattle.exo_types_laws.specs.Shown.Written.{condition_tree, datum_tree}
use Rattle.exo_types_laws.proofs.OfShown.Scoped.{Finds, re_scope, both, id_found, sort_found}
use Rattle.exo_types.specs.ArgumentRules.{points}
use Rattle.exo_types_laws.proofs.OfShown.Resolved.{front_none, parts_none, suits_kept, field_kept}
use Rattle.exo_types_laws.proofs.OfShown.Resolved.{unless_fine, joined_fine, parts_fine, rank_fine}
use Rattle.exo_types_laws.proofs.OfShown.Resolved.{ranked_buffer, listed_again, FindsFields}
use Rattle.exo_types_laws.proofs.OfShown.Resolved.{field_is, name_fine, control_same, control_fine}
use Rattle.exo_types_laws.proofs.OfShown.Resolved.{controls_same, controls_fine}

four_same : {a b c d e f g h : Datum} → a ≡ e → b ≡ f → c ≡ g → d ≡ h → Select a b c d ≡ Select e f g h
four_same {a = a} {b = b} {g = g} {h = h} p q s t = ap₂ (λ x y. Select a b x y) s t ∙ ap₂ (λ x y. Select x y g h) p q

module _ (w : Words) (fields : List ConfigField) (r : Renaming) (scope : Scope) (finds : Finds w r scope) (finds_fields : FindsFields fields) where
  abbrev there : Scope
  there = re_scope r scope

  abbrev of_control : Control → Tree
  of_control e = control_tree w fields e

  abbrev of_condition : Condition → Tree
  of_condition c = condition_tree w fields c

  abbrev of_datum : Datum → Tree
  of_datum e = datum_tree w fields e

  abbrev kinds : ℕ → Option Kind
  kinds = field_kind fields

  -- ---- conditions

  condition_by : (q : Bool) (e : Tree) → condition_of fields there (if q then parens e else e) ≡ condition_of fields there e
  condition_by true e = refl
  condition_by false e = refl

  module _ (may : Reads) where
    flag_fields : (f : ℕ) → is_flag_field kinds (field_kind fields f) ≡ true → (k : Kind) × (field_kind fields f ≡ Some k) × (is_truth k ≡ true)
    flag_fields f h = by (field_kind fields f) refl h
      where
        by : (o : Option Kind) → field_kind fields f ≡ o → is_flag_field kinds o ≡ true → (k : Kind) × (field_kind fields f ≡ Some k) × (is_truth k ≡ true)
        by None p h = cc
        by (Some k) p h = (k, p, h)

    side_same : (e : Control) → is_control kinds may scope e ≡ true → control_of fields there (of_control e) ≡ re_control r e
    side_same e h = control_same w fields r scope finds finds_fields may e h

    side_fine : (e : Control) → is_control kinds may scope e ≡ true → (n : ℕ) → control_faults fields may there n (of_control e) ≡ []
    side_fine e h n = control_fine w fields r scope finds finds_fields may e h n

    pub condition_same : (c : Condition) → is_condition kinds may scope c ≡ true → condition_of fields there (of_condition c) ≡ re_condition r c
    condition_same tree.True h = refl
    condition_same tree.False h = refl
    condition_same (Flag x) h = ap Flag (id_found w r scope finds x is_flag refl h)
    condition_same (FieldFlag f) h = let k = flag_fields f (both _ _ h).1 in ap (λ t. FieldFlag (field_number t)) (field_is fields finds_fields f k.0 k.1)
    condition_same (Lt a b) h = ap₂ Lt (side_same a (both _ _ h).0) (side_same b (both (is_control kinds may scope a) _ h).1)
    condition_same (Le a b) h = ap₂ Le (side_same a (both _ _ h).0) (side_same b (both (is_control kinds may scope a) _ h).1)
    condition_same (Gt a b) h = ap₂ Gt (side_same a (both _ _ h).0) (side_same b (both (is_control kinds may scope a) _ h).1)
    condition_same (Ge a b) h = ap₂ Ge (side_same a (both _ _ h).0) (side_same b (both (is_control kinds may scope a) _ h).1)
    condition_same (Eq a b) h = ap₂ Eq (side_same a (both _ _ h).0) (side_same b (both (is_control kinds may scope a) _ h).1)
    condition_same (And a b) h = ap₂ And (condition_by _ (of_condition a) ∙ condition_same a (both _ _ h).0) (condition_by _ (of_condition b) ∙ condition_same b (both (is_condition kinds may scope a) _ h).1)
    condition_same (Or a b) h = ap₂ Or (condition_by _ (of_condition a) ∙ condition_same a (both _ _ h).0) (condition_by _ (of_condition b) ∙ condition_same b (both (is_condition kinds may scope a) _ h).1)

    condition_form : (c : Condition) → ((m : ℕ) → condition_faults fields may there m (of_condition c) ≡ []) → may_be_condition fields there (of_condition c) ≡ true
    condition_form tree.True fine = refl
    condition_form tree.False fine = refl
    condition_form (Flag x) fine = suits_kept is_flag _ 0 (fine 0)
    condition_form (FieldFlag f) fine = field_kept true may.fields _ 0 (fine 0)
    condition_form (Lt a b) fine = refl
    condition_form (Le a b) fine = refl
    condition_form (Gt a b) fine = refl
    condition_form (Ge a b) fine = refl
    condition_form (Eq a b) fine = refl
    condition_form (And a b) fine = refl
    condition_form (Or a b) fine = refl

    condition_in : (q : Bool) (n : ℕ) (e : Tree) → may_be_condition fields there e ≡ true → ((m : ℕ) → condition_faults fields may there m e ≡ []) → condition_faults fields may there n (if q then parens e else e) ≡ []
    condition_in true n e form fine = ap (λ t. if t then condition_faults fields may there (n + 1) e else wrong_form fields there n (parens e)) form ∙ fine (n + 1)
    condition_in false n e form fine = fine n

    part_fine : (place : ℕ) (n : ℕ) (c : Condition) → ((m : ℕ) → condition_faults fields may there m (of_condition c) ≡ []) → condition_faults fields may there n (placed place (condition_precedence c) (of_condition c)) ≡ []
    part_fine place n c fine = condition_in (nat_lt (condition_precedence c) place) n (of_condition c) (condition_form c fine) fine

    pub condition_fine : (c : Condition) → is_condition kinds may scope c ≡ true → (n : ℕ) → condition_faults fields may there n (of_condition c) ≡ []
    condition_fine tree.True h n = refl
    condition_fine tree.False h n = refl
    condition_fine (Flag x) h n = name_fine w fields r scope finds finds_fields is_flag x n refl h
    condition_fine (FieldFlag f) h n =
        let k = flag_fields f (both _ _ h).1 in
        ap (λ t. field_faults true may.fields t n) (field_is fields finds_fields f k.0 k.1)
        ∙ joined_fine _ _ (unless_fine _ _ n k.2) (unless_fine _ _ n (both _ _ h).0)
    condition_fine (Lt a b) h n = joined_fine _ _ (side_fine a (both _ _ h).0 n) (side_fine b (both (is_control kinds may scope a) _ h).1 _)
    condition_fine (Le a b) h n = joined_fine _ _ (side_fine a (both _ _ h).0 n) (side_fine b (both (is_control kinds may scope a) _ h).1 _)
    condition_fine (Gt a b) h n = joined_fine _ _ (side_fine a (both _ _ h).0 n) (side_fine b (both (is_control kinds may scope a) _ h).1 _)
    condition_fine (Ge a b) h n = joined_fine _ _ (side_fine a (both _ _ h).0 n) (side_fine b (both (is_control kinds may scope a) _ h).1 _)
    condition_fine (Eq a b) h n = joined_fine _ _ (side_fine a (both _ _ h).0 n) (side_fine b (both (is_control kinds may scope a) _ h).1 _)
    condition_fine (And a b) h n = joined_fine _ _ (part_fine 1 n a (condition_fine a (both _ _ h).0)) (part_fine 2 _ b (condition_fine b (both (is_condition kinds may scope a) _ h).1))
    condition_fine (Or a b) h n = joined_fine _ _ (part_fine 0 n a (condition_fine a (both _ _ h).0)) (part_fine 1 _ b (condition_fine b (both (is_condition kinds may scope a) _ h).1))

  -- ---- cells

  datum_by : (q : Bool) (e : Tree) → datum_of fields there (if q then parens e else e) ≡ datum_of fields there e
  datum_by true e = refl
  datum_by false e = refl

  datum_form : (e : Datum) → ((m : ℕ) → data_faults fields there m (of_datum e) ≡ []) → may_be_data fields there (of_datum e) ≡ true
  datum_form (Const (pos n)) fine = refl
  datum_form (Const (negsuc n)) fine = refl
  datum_form (Read x []) fine = suits_kept is_buffer _ 0 (front_none _ _ (parts_none _ _ (fine 0)))
  datum_form (Read x (i ∷ is)) fine = refl
  datum_form (Negated a) fine = refl
  datum_form (Relu a) fine = refl
  datum_form (Plus a b) fine = refl
  datum_form (Minus a b) fine = refl
  datum_form (Times a b) fine = refl
  datum_form (Select a b c d) fine = refl

  indices_same : (is : List Control) → are_controls kinds plainly scope is ≡ true → controls_of fields there (map (control_tree w fields) is) ≡ re_controls r is
  indices_same is h = controls_same w fields r scope finds finds_fields plainly is h

  pub read_same : (x : ℕ) (is : List Control) → is_access kinds scope x is ≡ true → datum_of fields there (access_tree (w.name x) (map (control_tree w fields) is)) ≡ Read (r.to x) (re_controls r is)
  read_same x [] h = ap (λ y. Read y []) (id_found w r scope finds x (has_rank 0) refl (both _ _ h).0)
  read_same x (i ∷ is) h =
      let p = both (has_rank (length (i ∷ is)) (sort_in scope x)) _ h in
      ap₂ Read (id_found w r scope finds x (has_rank (length (i ∷ is))) refl p.0)
      (ap (controls_of fields there) (listed_again (map (control_tree w fields) (i ∷ is))) ∙ indices_same (i ∷ is) p.1)

  reads_fine : (x : ℕ) (is : List Control) (ts : List Tree) (n : ℕ) → ts ≡ map (control_tree w fields) is → is_access kinds scope x is ≡ true → read_faults fields there n (w.name x) ts ≡ []
  reads_fine x is ts n e h =
      let p = both (has_rank (length is) (sort_in scope x)) _ h in
      ap (read_faults fields there n (w.name x)) e
      ∙ parts_fine _ _
      (joined_fine _ _ (name_fine w fields r scope finds finds_fields is_buffer x n refl (ranked_buffer (sort_in scope x) (length is) p.0))
      (controls_fine w fields r scope finds finds_fields plainly is p.1 (n + 2)))
      (ap₂ (λ s k. rank_faults s k n) (sort_found w r scope finds x (has_rank (length is)) refl p.0) (length-map is (control_tree w fields)) ∙ rank_fine (sort_in scope x) (length is) n p.0)

  read_fine : (x : ℕ) (is : List Control) → is_access kinds scope x is ≡ true → (n : ℕ) → data_faults fields there n (access_tree (w.name x) (map (control_tree w fields) is)) ≡ []
  read_fine x [] h n = reads_fine x [] [] n refl h
  read_fine x (i ∷ is) h n = reads_fine x (i ∷ is) _ n (listed_again (map (control_tree w fields) (i ∷ is))) h

  pub datum_same : (e : Datum) → is_datum kinds scope e ≡ true → datum_of fields there (of_datum e) ≡ re_datum r e
  datum_same (Const (pos n)) h = refl
  datum_same (Const (negsuc n)) h = absurd (true≢false (sym h))
  datum_same (Read x is) h = read_same x is h
  datum_same (Negated a) h = ap Negated (datum_by _ (of_datum a) ∙ datum_same a h)
  datum_same (Relu a) h = ap Relu (datum_same a h)
  datum_same (Plus a b) h = ap₂ Plus (datum_by _ (of_datum a) ∙ datum_same a (both _ _ h).0) (datum_by _ (of_datum b) ∙ datum_same b (both (is_datum kinds scope a) _ h).1)
  datum_same (Minus a b) h = ap₂ Minus (datum_by _ (of_datum a) ∙ datum_same a (both _ _ h).0) (datum_by _ (of_datum b) ∙ datum_same b (both (is_datum kinds scope a) _ h).1)
  datum_same (Times a b) h = ap₂ Times (datum_by _ (of_datum a) ∙ datum_same a (both _ _ h).0) (datum_by _ (of_datum b) ∙ datum_same b (both (is_datum kinds scope a) _ h).1)
  datum_same (Select a b c d) h =
      let p = both (is_datum kinds scope a && is_datum kinds scope b) _ h in
      let q = both (is_datum kinds scope a) _ p.0 in
      let s = both (is_datum kinds scope c) _ p.1 in
      four_same (datum_same a q.0) (datum_same b q.1) (datum_same c s.0) (datum_same d s.1)

  datum_in : (q : Bool) (n : ℕ) (e : Tree) → may_be_data fields there e ≡ true → ((m : ℕ) → data_faults fields there m e ≡ []) → data_faults fields there n (if q then parens e else e) ≡ []
  datum_in true n e form fine = ap (λ t. if t then data_faults fields there (n + 1) e else wrong_form fields there n (parens e)) form ∙ fine (n + 1)
  datum_in false n e form fine = fine n

  datum_part : (place : ℕ) (n : ℕ) (e : Datum) → ((m : ℕ) → data_faults fields there m (of_datum e) ≡ []) → data_faults fields there n (placed place (datum_precedence e) (of_datum e)) ≡ []
  datum_part place n e fine = datum_in (nat_lt (datum_precedence e) place) n (of_datum e) (datum_form e fine) fine

  pub datum_fine : (e : Datum) → is_datum kinds scope e ≡ true → (n : ℕ) → data_faults fields there n (of_datum e) ≡ []
  datum_fine (Const (pos k)) h n = refl
  datum_fine (Const (negsuc k)) h n = absurd (true≢false (sym h))
  datum_fine (Read x is) h n = read_fine x is h n
  datum_fine (Negated a) h n = datum_part 5 (n + 1) a (datum_fine a h)
  datum_fine (Relu a) h n = datum_fine a h (n + 2)
  datum_fine (Plus a b) h n = joined_fine _ _ (datum_part 3 n a (datum_fine a (both _ _ h).0)) (datum_part 4 _ b (datum_fine b (both (is_datum kinds scope a) _ h).1))
  datum_fine (Minus a b) h n = joined_fine _ _ (datum_part 3 n a (datum_fine a (both _ _ h).0)) (datum_part 4 _ b (datum_fine b (both (is_datum kinds scope a) _ h).1))
  datum_fine (Times a b) h n = joined_fine _ _ (datum_part 4 n a (datum_fine a (both _ _ h).0)) (datum_part 5 _ b (datum_fine b (both (is_datum kinds scope a) _ h).1))
  datum_fine (Select a b c d) h n =
      let p = both (is_datum kinds scope a && is_datum kinds scope b) _ h in
      let q = both (is_datum kinds scope a) _ p.0 in
      let s = both (is_datum kinds scope c) _ p.1 in
      joined_fine _ _ (datum_fine a q.0 _) (joined_fine _ _ (datum_fine b q.1 _) (joined_fine _ _ (datum_fine c s.0 _) (datum_fine d s.1 _)))

  -- ---- windows

  pub coordinates_same : (cs : List Coord) → list_all (is_coord kinds scope) cs ≡ true → coordinates_of fields there (map (written.coordinate_of w fields) cs) ≡ re_coords r cs
  coordinates_same [] h = refl
  coordinates_same (At a ∷ cs) h = ap₂ (λ c l. At c ∷ l) (side_same plainly a (both _ _ h).0) (coordinates_same cs (both (is_control kinds plainly scope a) _ h).1)
  coordinates_same (Span a b ∷ cs) h =
      let p = both (is_control kinds plainly scope a && is_control kinds plainly scope b) _ h in
      let q = both (is_control kinds plainly scope a) _ p.0 in
      ap₂ ◌∷◌ (ap₂ Span (side_same plainly a q.0) (side_same plainly b q.1)) (coordinates_same cs p.1)

  pub coordinates_fine : (cs : List Coord) → list_all (is_coord kinds scope) cs ≡ true → (n : ℕ) → coordinates_faults fields there n (map (written.coordinate_of w fields) cs) ≡ []
  coordinates_fine [] h n = refl
  coordinates_fine (At a ∷ cs) h n = joined_fine _ _ (side_fine plainly a (both _ _ h).0 n) (coordinates_fine cs (both (is_control kinds plainly scope a) _ h).1 _)
  coordinates_fine (Span a b ∷ cs) h n =
      let p = both (is_control kinds plainly scope a && is_control kinds plainly scope b) _ h in
      let q = both (is_control kinds plainly scope a) _ p.0 in
      joined_fine _ _ (joined_fine _ _ (side_fine plainly a q.0 n) (side_fine plainly b q.1 _)) (coordinates_fine cs p.1 _)

  -- of a buffer that passes a test
  pub window_fine : (test : Option Sort → Bool) (x : ℕ) (cs : List Coord) → test None ≡ false → test (sort_in scope x) ≡ true → is_window kinds scope x cs ≡ true → (n : ℕ) → window_faults fields test there n (w.name x) (map (written.coordinate_of w fields) cs) ≡ []
  window_fine test x cs absent t h n =
      let p = both (has_rank (length cs) (sort_in scope x)) _ h in
      joined_fine _ _ (name_fine w fields r scope finds finds_fields test x n absent t)
      (joined_fine _ _
      (ap₂ (λ s k. rank_faults s k n) (sort_found w r scope finds x test absent t) (length-map cs (written.coordinate_of w fields)) ∙ rank_fine (sort_in scope x) (length cs) n p.0)
      (coordinates_fine cs p.1 (n + 2)))

  -- cells as windows
  pub points_are : (is : List Control) → points (map (control_tree w fields) is) ≡ map (written.coordinate_of w fields) (map At is)
  points_are [] = refl
  points_are (i ∷ is) = ap (λ l. point (control_tree w fields i) ∷ l) (points_are is)

  at_all : (is : List Control) → list_all (is_coord kinds scope) (map At is) ≡ are_controls kinds plainly scope is
  at_all [] = refl
  at_all (i ∷ is) = ap (λ t. is_control kinds plainly scope i && t) (at_all is)

  pub access_window : (x : ℕ) (is : List Control) → is_access kinds scope x is ≡ true → is_window kinds scope x (map At is) ≡ true
  access_window x is h = ap₂ (λ k t. has_rank k (sort_in scope x) && t) (length-map is At) (at_all is) ∙ h
