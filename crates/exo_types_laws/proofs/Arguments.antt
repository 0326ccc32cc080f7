-- Arguments that break no rule are such as their parameters take.
use Rattle.std.proofs.Common.{◌≡◌, ℕ, suc, ◌+◌, ◌<◌, ◌==◌, Bool, true, false, not, ◌||◌, List, [], ◌∷◌, ◌++◌, length, Option, Some, None, refl, ap, ◌∙◌, arith, if◌then◌else◌}
use Rattle.std.specs.List.{list_all}
use Rattle.std.proofs.lemmas.Bool.Decides.{Decides-eqb}
use Rattle.std.proofs.lemmas.List.{length-map}
use Rattle.text_phrases.specs.Limits.{in_size}
use Rattle.exo_tree.specs.Tree as tree
use Rattle.exo_tree.specs.Tree.{Kind, Size, Index, Truth, Stride, Cell, ConfigField, Param, ParamKind, ControlParam, TensorParam, WindowParam}
use Rattle.exo_meaning.specs.Units as units
use Rattle.exo_meaning.specs.Units.{Scope, Reads, plainly, Sort, ControlName, BufferName, sort_in, field_kind, with_both, has_cell, has_rank, is_dense, is_window, is_of_kind, is_for_tensor, is_for_window, is_for, are_for}
use Rattle.text_expressions.specs.Expression.{Tree, Trees, number, truth, variable, access, field, stride, relu, select, negative, parens, binary, end, next, Stands, HasIndex}
use Rattle.exo_reader.specs.Source.{Coordinate, point, span, Argument, value, window}
use Rattle.exo_reader.specs.Statements.{HasSpan, argument}
use Rattle.rules_names.specs.declared.fault.Fault.{Fault}
use Rattle.rules_names.specs.Names.{named_in, sort_of, id_in}
use Rattle.rules_names.specs.ExpressionRules.{width, is_buffer, name_faults, rank_faults, wrong_form, unknown_first, list_of, control_faults, controls_faults}
use Rattle.rules_names.specs.WindowRules.{window_faults, coordinates_faults, coordinate_of, coordinates_of}
use Rattle.rules_names.specs.Laws.{KeepsIds, fit, coordinate_fits}
use Rattle.exo_types.specs.ArgumentRules.{spans, points, may_be_tensor, may_be_strided, part_faults, tensor_takes, cell_takes, whole_faults, tensor_faults, strided_faults, kind_faults, value_faults, view_faults, argument_faults, part_of, kind_value_of, value_of, argument_of}
use Rattle.exo_types_laws.proofs.Unbroken.{both, pair, negated, turned, left_none, right_none, parts_none, fault_none, unless_none}
use Rattle.exo_types_laws.proofs.Scopes.{named_kept, buffer_kept}
use Rattle.exo_types_laws.proofs.Texts.{Text, fits_in, window_fits, points_fit, indices_fit}
use Rattle.exo_types_laws.proofs.Leaves.{Laws, control_formed, condition_formed, window_formed}

-- ---- buffers

cell_is_buffer : (cell : Cell) (s : Option Sort) → has_cell cell s ≡ true → is_buffer s ≡ true
cell_is_buffer cell None h = h
cell_is_buffer cell (Some (ControlName kind)) h = h
cell_is_buffer cell (Some (BufferName c rank dense)) h = refl

tensor_is_buffer : (cell : Cell) (rank : ℕ) (s : Option Sort) → tensor_takes cell rank s ≡ true → is_buffer s ≡ true
tensor_is_buffer cell rank s h = cell_is_buffer cell s (both (has_cell cell s) ((rank == 0) || is_dense s) h).0

single_is_buffer : (cell : Cell) (rank : ℕ) (s : Option Sort) → cell_takes cell rank s ≡ true → is_buffer s ≡ true
single_is_buffer cell rank s h = cell_is_buffer cell s (both (has_cell cell s) (rank == 0) h).0

no_name : (sort : Option Sort) (n : ℕ) → name_faults (λ s. false) sort n ≡ [] → ⊥
no_name None n h = fault_none _ n h
no_name (Some s) n h = fault_none _ n h

same_number : (a b c : ℕ) → (a == b) ≡ true → (b == c) ≡ true → (a == c) ≡ true
same_number a b c h k = (Decides-eqb a c).1 ((Decides-eqb a b).0 h ∙ (Decides-eqb b c).0 k)

not_zero : (n : ℕ) → not (suc n == 0) ≡ true
not_zero n = by (suc n == 0) refl
  where
    by : (t : Bool) → (suc n == 0) ≡ t → not (suc n == 0) ≡ true
    by true p = let e = (Decides-eqb (suc n) 0).0 p in absurd (omega arith)
    by false p = negated p

-- ---- coordinates

points_span : (es : List Tree) → spans (points es) ≡ 0
points_span [] = refl
points_span (e ∷ es) = points_span es

spans_same : (fields : List ConfigField) (scope : Scope) (cs : List Coordinate) → units.spans (coordinates_of fields scope cs) ≡ spans cs
spans_same fields scope [] = refl
spans_same fields scope (point e ∷ cs) = spans_same fields scope cs
spans_same fields scope (span a b ∷ cs) = ap suc (spans_same fields scope cs)

indexed : (is : Trees) → HasIndex is → not (length (points (list_of is)) == 0) ≡ true
indexed end h = absurd h
indexed (next e more) h = not_zero (length (points (list_of more)))

spanned : (cs : List Coordinate) → HasSpan cs → not (length cs == 0) ≡ true
spanned [] h = absurd h
spanned (c ∷ cs) h = not_zero (length cs)

pub span_counted : (fields : List ConfigField) (scope : Scope) (cs : List Coordinate) → HasSpan cs → 0 < units.spans (coordinates_of fields scope cs)
span_counted fields scope [] h = absurd h
span_counted fields scope (point e ∷ cs) h = span_counted fields scope cs h
span_counted fields scope (span a b ∷ cs) h = omega arith

coordinates_counted : (fields : List ConfigField) (scope : Scope) (cs : List Coordinate) → not (length cs == 0) ≡ true → not (length (coordinates_of fields scope cs) == 0) ≡ true
coordinates_counted fields scope cs h = ap (λ n. not (n == 0)) (length-map cs (coordinate_of fields scope)) ∙ h

module _ (laws : Laws) (fields : List ConfigField) (F : ℕ → Option Kind) (more : (f : ℕ) (k : Kind) → field_kind fields f ≡ Some k → F f ≡ Some k) (scope : Scope) (keeps : KeepsIds scope) where
  -- ---- control values

  pub kind_value_formed : (may : Reads) (kind : Kind) (n : ℕ) (e : Tree) → fit e ≡ true → kind_faults fields may scope kind n e ≡ [] → is_of_kind F may scope kind (kind_value_of fields scope kind e) ≡ true
  kind_value_formed may Size n e f h = control_formed laws fields F more may scope n e keeps f h
  kind_value_formed may Index n e f h = control_formed laws fields F more may scope n e keeps f h
  kind_value_formed may Truth n e f h = condition_formed laws fields F more may scope n e keeps f h
  kind_value_formed may Stride n e f h = control_formed laws fields F more may scope n e keeps f h

  wrong_part : (n : ℕ) (e : Tree) → wrong_form fields scope n e ≡ [] → ⊥
  wrong_part n e h = fault_none _ n (right_none (unknown_first fields scope n e) _ h)

  -- a cell that breaks no rule breaks none as a window of points
  points_faults : (n : ℕ) (es : List Tree) → coordinates_faults fields scope n (points es) ≡ controls_faults fields plainly scope n es
  points_faults n [] = refl
  points_faults n (e ∷ es) = ap (λ l. control_faults fields plainly scope n e ++ l) (points_faults (n + width e + 1) es)

  part_whole : (fits : Option Sort → Bool) (n : ℕ) (x : List ℕ) (es : List Tree) (more : List Fault) → part_faults fields fits scope n x es more ≡ [] → (window_faults fields fits scope n x (points es) ≡ []) × (more ≡ [])
  part_whole fits n x es more h =
      let sort = sort_of (named_in scope x) in
      let p = parts_none (name_faults fits sort n ++ controls_faults fields plainly scope (n + 2) es) (rank_faults sort (length es) n ++ more) h in
      let name = left_none (name_faults fits sort n) _ p.0 in
      let indices = points_faults (n + 2) es ∙ right_none (name_faults fits sort n) _ p.0 in
      let rank = ap (λ k. rank_faults sort k n) (length-map es point) ∙ left_none (rank_faults sort (length es) n) _ p.1 in
      ((λ i. name i ++ (rank i ++ indices i)), right_none (rank_faults sort (length es) n) _ p.1)

  -- ---- whole buffers and windows of a tensor

  whole_tensor : (cell : Cell) (rank n : ℕ) (x : List ℕ) → whole_faults fields (tensor_takes cell rank) scope n x rank ≡ [] → is_for_tensor F scope cell rank (tree.Whole (id_in scope x)) ≡ true
  whole_tensor cell rank n x h =
      let l = left_none (name_faults (tensor_takes cell rank) (sort_of (named_in scope x)) n) (rank_faults (sort_of (named_in scope x)) rank n) h in
      let r = right_none (name_faults (tensor_takes cell rank) (sort_of (named_in scope x)) n) (rank_faults (sort_of (named_in scope x)) rank n) h in
      let b = both (has_cell cell (sort_in scope (id_in scope x))) ((rank == 0) || is_dense (sort_in scope (id_in scope x))) (named_kept scope keeps x (tensor_takes cell rank) n l) in
      pair b.0 (pair (buffer_kept scope keeps x (tensor_takes cell rank) rank n (tensor_is_buffer cell rank) l r) b.1)

  window_tensor : (cell : Cell) (rank n : ℕ) (x : List ℕ) (cs : List Coordinate) → list_all coordinate_fits cs ≡ true → not (length cs == 0) ≡ true → ((rank == 0) ≡ true → (spans cs == 0) ≡ true) → window_faults fields (cell_takes cell rank) scope n x cs ≡ [] → is_for_tensor F scope cell rank (tree.Window (id_in scope x) (coordinates_of fields scope cs)) ≡ true
  window_tensor cell rank n x cs f some spans_none h =
      let l = left_none (name_faults (cell_takes cell rank) (sort_of (named_in scope x)) n) (rank_faults (sort_of (named_in scope x)) (length cs) n ++ coordinates_faults fields scope (n + 2) cs) h in
      let b = both (has_cell cell (sort_in scope (id_in scope x))) (rank == 0) (named_kept scope keeps x (cell_takes cell rank) n l) in
      pair b.0
      (pair (window_formed laws fields F more (cell_takes cell rank) scope n x cs keeps (single_is_buffer cell rank) f h)
      (pair b.1 (pair (ap (λ k. k == 0) (spans_same fields scope cs) ∙ spans_none b.1) (coordinates_counted fields scope cs some))))

  part_tensor : (cell : Cell) (rank n : ℕ) (e : Tree) (t : Bool) (A : Type 0) → (if t then tensor_faults fields scope cell rank (n + 1) e else wrong_form fields scope n (parens e)) ≡ [] → (tensor_faults fields scope cell rank (n + 1) e ≡ [] → A) → A
  part_tensor cell rank n e true A h rest = rest h
  part_tensor cell rank n e false A h rest = absurd (wrong_part n (parens e) h)

  tensor_formed : (level : ℕ) (cell : Cell) (rank n : ℕ) (e : Tree) → Stands level e → fit e ≡ true → tensor_faults fields scope cell rank n e ≡ [] → is_for_tensor F scope cell rank (part_of fields scope e) ≡ true
  tensor_formed level cell rank n (number k) st f h = absurd (wrong_part n (number k) h)
  tensor_formed level cell rank n (truth b) st f h = absurd (wrong_part n (truth b) h)
  tensor_formed level cell rank n (variable x) st f h = whole_tensor cell rank n x h
  tensor_formed level cell rank n (access x is) st f h =
      window_tensor cell rank n x (points (list_of is)) (points_fit (list_of is) (indices_fit is f)) (indexed is st.0) (λ z. ap (λ k. k == 0) (points_span (list_of is))) (part_whole (cell_takes cell rank) n x (list_of is) [] h).0
  tensor_formed level cell rank n (field c x) st f h = absurd (wrong_part n (field c x) h)
  tensor_formed level cell rank n (stride x k) st f h = absurd (wrong_part n (stride x k) h)
  tensor_formed level cell rank n (relu e) st f h = absurd (wrong_part n (relu e) h)
  tensor_formed level cell rank n (select a b c d) st f h = absurd (wrong_part n (select a b c d) h)
  tensor_formed level cell rank n (negative e) st f h = absurd (wrong_part n (negative e) h)
  tensor_formed level cell rank n (parens e) st f h =
      part_tensor cell rank n e (may_be_tensor scope cell rank e) (is_for_tensor F scope cell rank (part_of fields scope e) ≡ true) h (tensor_formed 0 cell rank (n + 1) e st f)
  tensor_formed level cell rank n (binary o l r) st f h = absurd (wrong_part n (binary o l r) h)

  -- ---- and of a window

  whole_strided : (cell : Cell) (rank n : ℕ) (x : List ℕ) → whole_faults fields (has_cell cell) scope n x rank ≡ [] → is_for_window F scope cell rank (tree.Whole (id_in scope x)) ≡ true
  whole_strided cell rank n x h =
      let l = left_none (name_faults (has_cell cell) (sort_of (named_in scope x)) n) (rank_faults (sort_of (named_in scope x)) rank n) h in
      let r = right_none (name_faults (has_cell cell) (sort_of (named_in scope x)) n) (rank_faults (sort_of (named_in scope x)) rank n) h in
      pair (named_kept scope keeps x (has_cell cell) n l) (buffer_kept scope keeps x (has_cell cell) rank n (cell_is_buffer cell) l r)

  window_strided : (cell : Cell) (rank n : ℕ) (x : List ℕ) (cs : List Coordinate) → list_all coordinate_fits cs ≡ true → (rank == spans cs) ≡ true → window_faults fields (has_cell cell) scope n x cs ≡ [] → is_for_window F scope cell rank (tree.Window (id_in scope x) (coordinates_of fields scope cs)) ≡ true
  window_strided cell rank n x cs f same h =
      let l = left_none (name_faults (has_cell cell) (sort_of (named_in scope x)) n) (rank_faults (sort_of (named_in scope x)) (length cs) n ++ coordinates_faults fields scope (n + 2) cs) h in
      pair (named_kept scope keeps x (has_cell cell) n l)
      (pair (window_formed laws fields F more (has_cell cell) scope n x cs keeps (cell_is_buffer cell) f h) (ap (λ k. rank == k) (spans_same fields scope cs) ∙ same))

  part_strided : (cell : Cell) (rank first n : ℕ) (e : Tree) (t : Bool) (A : Type 0) → (if t then strided_faults fields scope cell rank first (n + 1) e else wrong_form fields scope n (parens e)) ≡ [] → (strided_faults fields scope cell rank first (n + 1) e ≡ [] → A) → A
  part_strided cell rank first n e true A h rest = rest h
  part_strided cell rank first n e false A h rest = absurd (wrong_part n (parens e) h)

  strided_formed : (cell : Cell) (rank first n : ℕ) (e : Tree) → fit e ≡ true → strided_faults fields scope cell rank first n e ≡ [] → is_for_window F scope cell rank (part_of fields scope e) ≡ true
  strided_formed cell rank first n (number k) f h = absurd (wrong_part n (number k) h)
  strided_formed cell rank first n (truth b) f h = absurd (wrong_part n (truth b) h)
  strided_formed cell rank first n (variable x) f h = whole_strided cell rank n x h
  strided_formed cell rank first n (access x is) f h =
      let part = part_whole (has_cell cell) n x (list_of is) _ h in
      let none = unless_none (rank == 0) _ first part.1 in
      window_strided cell rank n x (points (list_of is)) (points_fit (list_of is) (indices_fit is f)) (ap (λ k. rank == k) (points_span (list_of is)) ∙ none) part.0
  strided_formed cell rank first n (field c x) f h = absurd (wrong_part n (field c x) h)
  strided_formed cell rank first n (stride x k) f h = absurd (wrong_part n (stride x k) h)
  strided_formed cell rank first n (relu e) f h = absurd (wrong_part n (relu e) h)
  strided_formed cell rank first n (select a b c d) f h = absurd (wrong_part n (select a b c d) h)
  strided_formed cell rank first n (negative e) f h = absurd (wrong_part n (negative e) h)
  strided_formed cell rank first n (parens e) f h =
      part_strided cell rank first n e (may_be_strided scope cell e) (is_for_window F scope cell rank (part_of fields scope e) ≡ true) h (strided_formed cell rank first (n + 1) e f)
  strided_formed cell rank first n (binary o l r) f h = absurd (wrong_part n (binary o l r) h)

  -- ---- arguments

  value_formed : (kind : ParamKind) (n : ℕ) (e : Tree) → Stands 0 e → fit e ≡ true → value_faults fields scope kind n e ≡ [] → is_for F scope kind (value_of fields scope kind e) ≡ true
  value_formed (ControlParam kind) n e st f h = kind_value_formed with_both kind n e f h
  value_formed (TensorParam cell dims memory) n e st f h = tensor_formed 0 cell (length dims) n e st f h
  value_formed (WindowParam cell dims memory) n e st f h = strided_formed cell (length dims) n n e f h

  view_formed : (kind : ParamKind) (n : ℕ) (x : List ℕ) (cs : List Coordinate) → HasSpan cs → list_all coordinate_fits cs ≡ true → view_faults fields scope kind n x cs ≡ [] → is_for F scope kind (tree.Window (id_in scope x) (coordinates_of fields scope cs)) ≡ true
  view_formed (ControlParam kind) n x cs some f h = absurd (no_name (sort_of (named_in scope x)) n h)
  view_formed (TensorParam cell dims memory) n x cs some f h =
      let faults : List Fault = window_faults fields (cell_takes cell (length dims)) scope n x cs in
      let same = unless_none (spans cs == length dims) _ n (right_none faults _ h) in
      window_tensor cell (length dims) n x cs f (spanned cs some) (λ z. same_number (spans cs) (length dims) 0 same z) (left_none faults _ h)
  view_formed (WindowParam cell dims memory) n x cs some f h =
      let faults : List Fault = window_faults fields (has_cell cell) scope n x cs in
      let same = unless_none (spans cs == length dims) _ n (right_none faults _ h) in
      window_strided cell (length dims) n x cs f (turned (spans cs) (length dims) same) (left_none faults _ h)

  pub argument_formed : (kind : ParamKind) (n : ℕ) (a : Argument) → argument.Fits in_size a → Text (argument.spell a) → argument_faults fields scope kind n a ≡ [] → is_for F scope kind (argument_of fields scope kind a) ≡ true
  argument_formed kind n (value e) fits text h = value_formed kind n e fits.0 (fits_in e fits.1.2 text) h
  argument_formed kind n (window x cs) fits text h = view_formed kind n x cs fits.2 (window_fits x cs fits.1 text) h
