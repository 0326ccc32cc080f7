-- Each rule that expressions, windows, arguments, types and binders break is charged at a token of theirs. No grammar is needed
-- for that.
use Rattle.std.proofs.Common.{◌≡◌, ℕ, suc, ◌+◌, ◌≤◌, ◌<◌, ◌==◌, Bool, true, false, not, ◌&&◌, List, [], ◌∷◌, ◌++◌, length, Option, Some, None, refl, ap, arith, if◌then◌else◌}
use Rattle.std.proofs.lemmas.List.{length-append}
use Rattle.exo_tree.specs.Tree.{Kind, Cell, ConfigField, Param, ParamKind, ControlParam, TensorParam, WindowParam}
use Rattle.exo_meaning.specs.Units.{Sort, ControlName, BufferName, Scope, Reads, plainly, with_both, is_truth, is_number, is_flag, has_cell, root_of, field_kind}
use Rattle.text_lexer.specs.declared.token.Literal.{Literal}
use Rattle.text_lexer.specs.declared.token.Token.TheVariants as t
use Rattle.text_lexer.specs.declared.token.Sign.TheVariants as s
use Rattle.text_expressions.specs.declared.source.Infix.{Infix}
use Rattle.text_expressions.specs.declared.source.Infix.TheVariants as o
use Rattle.text_expressions.specs.Expression.{Tree, Trees, number, truth, variable, access, field, stride, relu, select, negative, parens, binary, end, next, spelling, spelling_list, spelling_more}
use Rattle.exo_reader.specs.Source.{Coordinate, point, span, Argument, value, window, TypeName}
use Rattle.rules_names.specs.declared.error.TypeKind.{TypeKind}
use Rattle.rules_names.specs.declared.error.TypeKind.TheVariants as k
use Rattle.rules_names.specs.declared.fault.Fault.{Fault}
use Rattle.rules_names.specs.Faults.{fault, unless, earlier, least, or_else, is_before, any_hides, parts_then_whole}
use Rattle.rules_names.specs.Names.{named_in, sort_of, field_in, name_number}
use Rattle.rules_names.specs.ExpressionRules.{width, commas_width, closed_width, is_arithmetic, is_quotient, joins_conditions, may_be_control, may_be_condition, may_be_data, has_variables, is_divisor, name_faults, is_buffer, rank_faults, is_below, dimension_faults, field_faults, affine_faults, no_such_field, list_of, unknown_first, wrong_form, control_faults, controls_faults, condition_faults, read_faults, data_faults}
use Rattle.rules_names.specs.WindowRules.{coordinate_width, coordinates_width, coordinate_faults, coordinates_faults, window_faults}
use Rattle.exo_types.specs.declared.call.Passed.{Passed}
use Rattle.exo_types.specs.TypeRules.{cell_named, kind_named, no_cell_faults, cell_faults, no_kind_faults, kind_faults, is_taken, binder_faults, named_memory_faults, memory_faults, memory_width}
use Rattle.exo_types.specs.ArgumentRules as rules
use Rattle.exo_types.specs.ArgumentRules.{Signature, dims_width, argument_width, spaced_width, arguments_width, spans, points, may_be_tensor, may_be_strided, part_faults, passed_for, is_passed, tensor_takes, cell_takes, whole_faults, tensor_faults, strided_faults, value_faults, view_faults, argument_faults, argument_of, arguments_faults, call_faults}

-- ---- lists of broken rules before a token

abbrev Each : ℕ → List Fault → Type 0
Each hi [] = Unit {0}
Each hi (f ∷ fs) = (f.token < hi) × Each hi fs

pub record Within (hi : ℕ) (fs : List Fault) : Type 0 where
  pub each : Each hi fs

pub none : {hi : ℕ} → Within hi []
none = record { each = tt }

pub one : {hi : ℕ} (rule : TypeKind) (n : ℕ) → n < hi → Within hi (fault rule n)
one rule n h = record { each = (h, tt) }

each_append : (hi : ℕ) (xs ys : List Fault) → Each hi xs → Each hi ys → Each hi (xs ++ ys)
each_append hi [] ys h j = j
each_append hi (x ∷ xs) ys h j = (h.0, each_append hi xs ys h.1 j)

pub also : {hi : ℕ} {xs ys : List Fault} → Within hi xs → Within hi ys → Within hi (xs ++ ys)
also {hi = hi} {xs = xs} {ys = ys} h j = record { each = each_append hi xs ys h.each j.each }

pub either : {hi : ℕ} {xs ys : List Fault} (b : Bool) → Within hi xs → Within hi ys → Within hi (if b then xs else ys)
either true h j = h
either false h j = j

pub tested : {hi : ℕ} (b : Bool) (rule : TypeKind) (n : ℕ) → n < hi → Within hi (unless b rule n)
tested true rule n h = none
tested false rule n h = one rule n h

pub in_parts : {hi : ℕ} {parts whole : List Fault} → Within hi parts → Within hi whole → Within hi (parts_then_whole parts whole)
in_parts {hi = hi} {parts = parts} {whole = whole} h j = also {hi = hi} {xs = parts} {ys = if any_hides parts then [] else whole} h (either (any_hides parts) none j)

-- a rule that is the first one, if there is any
pub record First (hi : ℕ) (o : Option Fault) : Type 0 where
  pub before : (f : Fault) → o ≡ Some f → f.token < hi

pub unbroken : {hi : ℕ} → First hi None
unbroken = record { before = λ f h. cc }

earlier_within : (hi : ℕ) (a : Fault) (o : Option Fault) → a.token < hi → First hi o → First hi (earlier (Some a) o)
earlier_within hi a None h j = record { before = λ f e. let same : a ≡ f = cc in ap_token a f same h }
  where
    ap_token : (x y : Fault) → x ≡ y → x.token < hi → y.token < hi
    ap_token x y same l = omega (arith, ap (λ z. z.token) same, l)
earlier_within hi a (Some b) h j = record { before = λ f e. by f (is_before b a) e }
  where
    ap_token : (x y : Fault) → x ≡ y → x.token < hi → y.token < hi
    ap_token x y same l = omega (arith, ap (λ z. z.token) same, l)

    by : (f : Fault) (t : Bool) → (if t then Some b else Some a) ≡ Some f → f.token < hi
    by f true e = j.before f e
    by f false e = let same : a ≡ f = cc in ap_token a f same h

first_of : (hi : ℕ) (fs : List Fault) → Each hi fs → First hi (least fs)
first_of hi [] h = unbroken
first_of hi (f ∷ fs) h = earlier_within hi f (least fs) h.0 (first_of hi fs h.1)

pub leastly : {hi : ℕ} {fs : List Fault} → Within hi fs → First hi (least fs)
leastly {hi = hi} {fs = fs} h = first_of hi fs h.each

pub or_later : {hi : ℕ} {a b : Option Fault} → First hi a → First hi b → First hi (or_else a b)
or_later {a = None} h j = j
or_later {a = Some f} h j = h

pub sooner : {lo hi : ℕ} {o : Option Fault} → lo ≤ hi → First lo o → First hi o
sooner {lo = lo} {hi = hi} l h = record { before = λ f e. let m = h.before f e in omega (arith, l, m) }

-- ---- widths

width_relu : (e : Tree) → width (relu e) ≡ suc (suc (suc (width e)))
unfolding width
width_relu e = let l = length-append (spelling e) (t.Sign s.Close ∷ []) in omega arith

width_parens : (e : Tree) → width (parens e) ≡ suc (suc (width e))
unfolding width
width_parens e = let l = length-append (spelling e) (t.Sign s.Close ∷ []) in omega arith

width_negative : (e : Tree) → width (negative e) ≡ suc (width e)
unfolding width
width_negative e = refl

width_binary : (operator : Infix) (l r : Tree) → width (binary operator l r) ≡ width l + suc (width r)
unfolding width
width_binary operator l r = length-append (spelling l) _

width_select : (a b c d : Tree) → width (select a b c d) ≡ 2 + width a + 1 + width b + 1 + width c + 1 + width d + 1
unfolding width
width_select a b c d =
    let i = length-append (spelling d) (t.Sign s.Close ∷ []) in
    let j = length-append (spelling c) (t.Sign s.Comma ∷ (spelling d ++ (t.Sign s.Close ∷ []))) in
    let k = length-append (spelling b) (t.Sign s.Comma ∷ (spelling c ++ (t.Sign s.Comma ∷ (spelling d ++ (t.Sign s.Close ∷ []))))) in
    let l = length-append (spelling a) (t.Sign s.Comma ∷ (spelling b ++ (t.Sign s.Comma ∷ (spelling c ++ (t.Sign s.Comma ∷ (spelling d ++ (t.Sign s.Close ∷ []))))))) in
    omega arith

more_width : (is : Trees) → length (spelling_more is) ≡ commas_width (list_of is)
unfolding width
more_width end = refl
more_width (next e more) = let l = length-append (spelling e) (spelling_more more) in let m = more_width more in omega arith

list_width : (is : Trees) → suc (length (spelling_list is)) ≡ closed_width (list_of is)
unfolding width
list_width end = refl
list_width (next e more) = let l = length-append (spelling e) (spelling_more more) in let m = more_width more in omega arith

width_access : (x : List ℕ) (is : Trees) → width (access x is) ≡ suc (suc (closed_width (list_of is)))
unfolding width
width_access x is = let l = length-append (spelling_list is) (t.Sign s.CloseBracket ∷ []) in let m = list_width is in omega arith

width_leaf : (x : List ℕ) → width (variable x) ≡ 1
unfolding width
width_leaf x = refl

width_field : (c x : List ℕ) → width (field c x) ≡ 3
unfolding width
width_field c x = refl

width_stride : (x : List ℕ) (k : Literal) → width (stride x k) ≡ 6
unfolding width
width_stride x k = refl

pub some_width : (e : Tree) → 1 ≤ width e
unfolding width
some_width (number k) = omega arith
some_width (truth true) = omega arith
some_width (truth false) = omega arith
some_width (variable x) = omega arith
some_width (access x is) = omega arith
some_width (field c x) = omega arith
some_width (stride x k) = omega arith
some_width (relu e) = omega arith
some_width (select a b c d) = omega arith
some_width (negative e) = omega arith
some_width (parens e) = omega arith
some_width (binary operator l r) = omega (arith, width_binary operator l r)

pub commas_most : (es : List Tree) → commas_width es ≤ closed_width es
commas_most [] = omega arith
commas_most (e ∷ es) = omega arith

pub points_width : (es : List Tree) → coordinates_width (points es) ≡ commas_width es
points_width [] = refl
points_width (e ∷ es) = omega (arith, points_width es)

pub commas_of_dims : (ds : List Tree) → commas_width ds ≤ dims_width ds
commas_of_dims [] = omega arith
commas_of_dims (d ∷ ds) = omega arith

-- ---- names, ranks and fields

name_within : {hi : ℕ} (fits : Option Sort → Bool) (sort : Option Sort) (n : ℕ) → n < hi → Within hi (name_faults fits sort n)
name_within fits None n h = one k.UnknownName n h
name_within fits (Some sort) n h = tested (fits (Some sort)) k.KindMismatch n h

rank_within : {hi : ℕ} (sort : Option Sort) (r n : ℕ) → n < hi → Within hi (rank_faults sort r n)
rank_within None r n h = none
rank_within (Some (ControlName kind)) r n h = none
rank_within (Some (BufferName cell rank dense)) r n h = tested (rank == r) k.RankMismatch n h

dimension_within : {hi : ℕ} (sort : Option Sort) (d : Literal) (n : ℕ) → n < hi → Within hi (dimension_faults sort d n)
dimension_within None d n h = none
dimension_within (Some (ControlName kind)) d n h = none
dimension_within (Some (BufferName cell rank dense)) d n h = tested (is_below d rank) k.RankMismatch n h

field_within : {hi : ℕ} (wants may : Bool) (o : Option (ℕ × Kind)) (n : ℕ) → n < hi → Within hi (field_faults wants may o n)
field_within wants may None n h = one k.UnknownName n h
field_within true may (Some f) n h = also (tested (is_truth f.1) k.KindMismatch n h) (tested may k.ConfigPlace n h)
field_within false may (Some f) n h = also (tested (not (is_truth f.1)) k.KindMismatch n h) (tested may k.ConfigPlace n h)

affine_within : {hi : ℕ} (operator : Infix) (n right : ℕ) (vary divides : Bool) → n < hi → right < hi → Within hi (affine_faults operator n right vary divides)
affine_within o.Mul n right vary divides h j = tested (not vary) k.NotAffine n h
affine_within o.Div n right vary divides h j = tested divides k.NotAffine right j
affine_within o.Mod n right vary divides h j = tested divides k.NotAffine right j
affine_within other n right vary divides h j = none

no_field_within : {hi : ℕ} (f : Option (ℕ × Kind)) (n : ℕ) → n < hi → Within hi (no_such_field f n)
no_field_within None n h = one k.UnknownName n h
no_field_within (Some f) n h = none

module _ (fields : List ConfigField) (hi : ℕ) where
  first_within : (scope : Scope) (n : ℕ) (e : Tree) → n < hi → Within hi (unknown_first fields scope n e)
  first_within scope n (number k) h = none
  first_within scope n (truth b) h = none
  first_within scope n (variable x) h = name_within (λ sort. true) (sort_of (named_in scope x)) n h
  first_within scope n (access x is) h = name_within (λ sort. true) (sort_of (named_in scope x)) n h
  first_within scope n (field c x) h = no_field_within (field_in fields c x) n h
  first_within scope n (stride x k) h = none
  first_within scope n (relu e) h = none
  first_within scope n (select a b c d) h = none
  first_within scope n (negative e) h = none
  first_within scope n (parens e) h = none
  first_within scope n (binary operator l r) h = first_within scope n l h

  wrong_within : (scope : Scope) (n : ℕ) (e : Tree) → n + width e ≤ hi → Within hi (wrong_form fields scope n e)
  wrong_within scope n e h = let l : n < hi = omega (arith, h, some_width e) in also (first_within scope n e l) (one k.KindMismatch n l)

  -- ---- expressions

  pub control_within : (may : Reads) (scope : Scope) (n : ℕ) (e : Tree) → n + width e ≤ hi → Within hi (control_faults fields may scope n e)
  control_within may scope n (number k) h = none
  control_within may scope n (truth b) h = wrong_within scope n (truth b) h
  control_within may scope n (variable x) h = name_within is_number (sort_of (named_in scope x)) n (omega (arith, h, width_leaf x))
  control_within may scope n (access x is) h = wrong_within scope n (access x is) h
  control_within may scope n (field c x) h = field_within false may.fields (field_in fields c x) n (omega (arith, h, width_field c x))
  control_within may scope n (stride x d) h =
      in_parts (name_within is_buffer (sort_of (named_in scope x)) (n + 2) (omega (arith, h, width_stride x d)))
      (also (dimension_within (sort_of (named_in scope x)) d (n + 4) (omega (arith, h, width_stride x d))) (tested may.strides k.StridePlace n (omega (arith, h, width_stride x d))))
  control_within may scope n (relu e) h = wrong_within scope n (relu e) h
  control_within may scope n (select a b c d) h = wrong_within scope n (select a b c d) h
  control_within may scope n (negative e) h = control_within may scope (n + 1) e (omega (arith, h, width_negative e))
  control_within may scope n (parens e) h = either (may_be_control fields scope e) (control_within may scope (n + 1) e (omega (arith, h, width_parens e))) (wrong_within scope n (parens e) h)
  control_within may scope n (binary operator l r) h =
      let left : n + width l ≤ hi = omega (arith, h, width_binary operator l r) in
      let right : n + width l + 1 + width r ≤ hi = omega (arith, h, width_binary operator l r) in
      either (is_arithmetic operator)
      (in_parts (also (control_within may scope n l left) (control_within may scope (n + width l + 1) r right))
      (affine_within operator n (n + width l + 1) (has_variables l && has_variables r) (is_divisor r) (omega (arith, left, some_width l)) (omega (arith, right, some_width r))))
      (wrong_within scope n (binary operator l r) h)

  pub controls_within : (may : Reads) (scope : Scope) (n : ℕ) (es : List Tree) → n + commas_width es ≤ hi → Within hi (controls_faults fields may scope n es)
  controls_within may scope n [] h = none
  controls_within may scope n (e ∷ es) h = also (control_within may scope n e (omega (arith, h))) (controls_within may scope (n + width e + 1) es (omega (arith, h)))

  pub condition_within : (may : Reads) (scope : Scope) (n : ℕ) (e : Tree) → n + width e ≤ hi → Within hi (condition_faults fields may scope n e)
  condition_within may scope n (number k) h = wrong_within scope n (number k) h
  condition_within may scope n (truth b) h = none
  condition_within may scope n (variable x) h = name_within is_flag (sort_of (named_in scope x)) n (omega (arith, h, width_leaf x))
  condition_within may scope n (access x is) h = wrong_within scope n (access x is) h
  condition_within may scope n (field c x) h = field_within true may.fields (field_in fields c x) n (omega (arith, h, width_field c x))
  condition_within may scope n (stride x k) h = wrong_within scope n (stride x k) h
  condition_within may scope n (relu e) h = wrong_within scope n (relu e) h
  condition_within may scope n (select a b c d) h = wrong_within scope n (select a b c d) h
  condition_within may scope n (negative e) h = wrong_within scope n (negative e) h
  condition_within may scope n (parens e) h = either (may_be_condition fields scope e) (condition_within may scope (n + 1) e (omega (arith, h, width_parens e))) (wrong_within scope n (parens e) h)
  condition_within may scope n (binary operator l r) h =
      let left : n + width l ≤ hi = omega (arith, h, width_binary operator l r) in
      let right : n + width l + 1 + width r ≤ hi = omega (arith, h, width_binary operator l r) in
      either (is_arithmetic operator) (wrong_within scope n (binary operator l r) h)
      (either (joins_conditions operator) (also (condition_within may scope n l left) (condition_within may scope (n + width l + 1) r right))
      (also (control_within may scope n l left) (control_within may scope (n + width l + 1) r right)))

  read_within : (scope : Scope) (n : ℕ) (x : List ℕ) (is : Trees) → n + width (access x is) ≤ hi → Within hi (read_faults fields scope n x (list_of is))
  read_within scope n x is h =
      let l : n < hi = omega (arith, h, some_width (access x is)) in
      in_parts
      (also (name_within is_buffer (sort_of (named_in scope x)) n l) (controls_within plainly scope (n + 2) (list_of is) (omega (arith, h, width_access x is, commas_most (list_of is)))))
      (rank_within (sort_of (named_in scope x)) (length (list_of is)) n l)

  pub data_within : (scope : Scope) (n : ℕ) (e : Tree) → n + width e ≤ hi → Within hi (data_faults fields scope n e)
  data_within scope n (number k) h = none
  data_within scope n (truth b) h = wrong_within scope n (truth b) h
  data_within scope n (variable x) h =
      let l : n < hi = omega (arith, h, width_leaf x) in
      in_parts (also (name_within is_buffer (sort_of (named_in scope x)) n l) none) (rank_within (sort_of (named_in scope x)) 0 n l)
  data_within scope n (access x is) h = read_within scope n x is h
  data_within scope n (field c x) h = wrong_within scope n (field c x) h
  data_within scope n (stride x k) h = wrong_within scope n (stride x k) h
  data_within scope n (relu e) h = data_within scope (n + 2) e (omega (arith, h, width_relu e))
  data_within scope n (select a b c d) h =
      also (data_within scope (n + 2) a (omega (arith, h, width_select a b c d)))
      (also (data_within scope (n + 2 + width a + 1) b (omega (arith, h, width_select a b c d)))
      (also (data_within scope (n + 2 + width a + 1 + width b + 1) c (omega (arith, h, width_select a b c d))) (data_within scope (n + 2 + width a + 1 + width b + 1 + width c + 1) d (omega (arith, h, width_select a b c d)))))
  data_within scope n (negative e) h = data_within scope (n + 1) e (omega (arith, h, width_negative e))
  data_within scope n (parens e) h = either (may_be_data fields scope e) (data_within scope (n + 1) e (omega (arith, h, width_parens e))) (wrong_within scope n (parens e) h)
  data_within scope n (binary operator l r) h =
      either (is_arithmetic operator && not (is_quotient operator))
      (also (data_within scope n l (omega (arith, h, width_binary operator l r))) (data_within scope (n + width l + 1) r (omega (arith, h, width_binary operator l r))))
      (wrong_within scope n (binary operator l r) h)

  -- ---- windows

  coordinate_within : (scope : Scope) (n : ℕ) (c : Coordinate) → n + coordinate_width c ≤ hi → Within hi (coordinate_faults fields scope n c)
  coordinate_within scope n (point e) h = control_within plainly scope n e h
  coordinate_within scope n (span a b) h = also (control_within plainly scope n a (omega (arith, h))) (control_within plainly scope (n + width a + 1) b (omega (arith, h)))

  coordinates_within : (scope : Scope) (n : ℕ) (cs : List Coordinate) → n + coordinates_width cs ≤ hi → Within hi (coordinates_faults fields scope n cs)
  coordinates_within scope n [] h = none
  coordinates_within scope n (c ∷ cs) h = also (coordinate_within scope n c (omega (arith, h))) (coordinates_within scope (n + coordinate_width c + 1) cs (omega (arith, h)))

  pub window_within : (fits : Option Sort → Bool) (scope : Scope) (n : ℕ) (x : List ℕ) (cs : List Coordinate) → n + 2 + coordinates_width cs ≤ hi → Within hi (window_faults fields fits scope n x cs)
  window_within fits scope n x cs h =
      let l : n < hi = omega (arith, h) in
      also (name_within fits (sort_of (named_in scope x)) n l) (also (rank_within (sort_of (named_in scope x)) (length cs) n l) (coordinates_within scope (n + 2) cs h))

  -- ---- arguments

  whole_within : (fits : Option Sort → Bool) (scope : Scope) (n : ℕ) (x : List ℕ) (rank : ℕ) → n < hi → Within hi (whole_faults fields fits scope n x rank)
  whole_within fits scope n x rank h = also (name_within fits (sort_of (named_in scope x)) n h) (rank_within (sort_of (named_in scope x)) rank n h)

  part_within : (fits : Option Sort → Bool) (scope : Scope) (n : ℕ) (x : List ℕ) (is : Trees) (more : List Fault) → Within hi more → n + width (access x is) ≤ hi → Within hi (part_faults fields fits scope n x (list_of is) more)
  part_within fits scope n x is more m h =
      let l : n < hi = omega (arith, h, some_width (access x is)) in
      in_parts
      (also (name_within fits (sort_of (named_in scope x)) n l) (controls_within plainly scope (n + 2) (list_of is) (omega (arith, h, width_access x is, commas_most (list_of is)))))
      (also (rank_within (sort_of (named_in scope x)) (length (list_of is)) n l) m)

  tensor_within : (scope : Scope) (cell : Cell) (rank n : ℕ) (e : Tree) → n + width e ≤ hi → Within hi (tensor_faults fields scope cell rank n e)
  tensor_within scope cell rank n (number k) h = wrong_within scope n (number k) h
  tensor_within scope cell rank n (truth b) h = wrong_within scope n (truth b) h
  tensor_within scope cell rank n (variable x) h = whole_within (tensor_takes cell rank) scope n x rank (omega (arith, h, width_leaf x))
  tensor_within scope cell rank n (access x is) h = part_within (cell_takes cell rank) scope n x is [] none h
  tensor_within scope cell rank n (field c x) h = wrong_within scope n (field c x) h
  tensor_within scope cell rank n (stride x k) h = wrong_within scope n (stride x k) h
  tensor_within scope cell rank n (relu e) h = wrong_within scope n (relu e) h
  tensor_within scope cell rank n (select a b c d) h = wrong_within scope n (select a b c d) h
  tensor_within scope cell rank n (negative e) h = wrong_within scope n (negative e) h
  tensor_within scope cell rank n (parens e) h = either (may_be_tensor scope cell rank e) (tensor_within scope cell rank (n + 1) e (omega (arith, h, width_parens e))) (wrong_within scope n (parens e) h)
  tensor_within scope cell rank n (binary operator l r) h = wrong_within scope n (binary operator l r) h

  strided_within : (scope : Scope) (cell : Cell) (rank first n : ℕ) (e : Tree) → first < hi → n + width e ≤ hi → Within hi (strided_faults fields scope cell rank first n e)
  strided_within scope cell rank first n (number k) l h = wrong_within scope n (number k) h
  strided_within scope cell rank first n (truth b) l h = wrong_within scope n (truth b) h
  strided_within scope cell rank first n (variable x) l h = whole_within (has_cell cell) scope n x rank (omega (arith, h, width_leaf x))
  strided_within scope cell rank first n (access x is) l h = part_within (has_cell cell) scope n x is _ (tested (rank == 0) k.RankMismatch first l) h
  strided_within scope cell rank first n (field c x) l h = wrong_within scope n (field c x) h
  strided_within scope cell rank first n (stride x k) l h = wrong_within scope n (stride x k) h
  strided_within scope cell rank first n (relu e) l h = wrong_within scope n (relu e) h
  strided_within scope cell rank first n (select a b c d) l h = wrong_within scope n (select a b c d) h
  strided_within scope cell rank first n (negative e) l h = wrong_within scope n (negative e) h
  strided_within scope cell rank first n (parens e) l h = either (may_be_strided scope cell e) (strided_within scope cell rank first (n + 1) e l (omega (arith, h, width_parens e))) (wrong_within scope n (parens e) h)
  strided_within scope cell rank first n (binary operator l r) m h = wrong_within scope n (binary operator l r) h

  pub kind_within : (may : Reads) (scope : Scope) (kind : Kind) (n : ℕ) (e : Tree) → n + width e ≤ hi → Within hi (rules.kind_faults fields may scope kind n e)
  kind_within may scope kind n e h = either (is_truth kind) (condition_within may scope n e h) (control_within may scope n e h)

  value_within : (scope : Scope) (kind : ParamKind) (n : ℕ) (e : Tree) → n + width e ≤ hi → Within hi (value_faults fields scope kind n e)
  value_within scope (ControlParam kind) n e h = kind_within with_both scope kind n e h
  value_within scope (TensorParam cell dims m) n e h = tensor_within scope cell (length dims) n e h
  value_within scope (WindowParam cell dims m) n e h = strided_within scope cell (length dims) n n e (omega (arith, h, some_width e)) h

  view_within : (scope : Scope) (kind : ParamKind) (n : ℕ) (x : List ℕ) (cs : List Coordinate) → n + 2 + coordinates_width cs ≤ hi → Within hi (view_faults fields scope kind n x cs)
  view_within scope (ControlParam kind) n x cs h = name_within (λ sort. false) (sort_of (named_in scope x)) n (omega (arith, h))
  view_within scope (TensorParam cell dims m) n x cs h = also (window_within (cell_takes cell (length dims)) scope n x cs h) (tested (spans cs == length dims) k.RankMismatch n (omega (arith, h)))
  view_within scope (WindowParam cell dims m) n x cs h = also (window_within (has_cell cell) scope n x cs h) (tested (spans cs == length dims) k.RankMismatch n (omega (arith, h)))

  argument_within : (scope : Scope) (kind : ParamKind) (n : ℕ) (a : Argument) → n + argument_width a ≤ hi → Within hi (argument_faults fields scope kind n a)
  argument_within scope kind n (value e) h = value_within scope kind n e h
  argument_within scope kind n (window x cs) h = view_within scope kind n x cs (omega (arith, h))

  some_argument : (a : Argument) → 1 ≤ argument_width a
  some_argument (value e) = some_width e
  some_argument (window x cs) = omega arith

  arguments_within : (writes : ℕ → Bool) (scope : Scope) (root : ℕ → ℕ) (passed : List Passed) (ps : List Param) (n : ℕ) (args : List Argument) → n + spaced_width args ≤ hi → Within hi (arguments_faults fields writes scope root passed ps n args)
  arguments_within writes scope root passed [] n args h = none
  arguments_within writes scope root passed (p ∷ ps) n [] h = none
  arguments_within writes scope root passed (p ∷ ps) n (a ∷ args) h =
      let now : Passed = passed_for writes p (root_of (field_kind fields) root (argument_of fields scope p.kind a)) in
      also (argument_within scope p.kind n a (omega (arith, h)))
      (also (tested (not (is_passed now passed)) k.SharedArgument n (omega (arith, h, some_argument a)))
      (arguments_within writes scope root (passed ++ now ∷ []) ps (n + argument_width a + 1) args (omega (arith, h))))

  pub call_within : (callee : Option Signature) (scope : Scope) (root : ℕ → ℕ) (n : ℕ) (args : List Argument) → n + 2 + arguments_width args ≤ hi → Within hi (call_faults fields callee scope root n args)
  call_within None scope root n args h = one k.UnknownName n (omega (arith, h))
  call_within (Some callee) scope root n args h =
      also (tested (length args == length callee.params) k.RankMismatch n (omega (arith, h))) (arguments_within callee.writes scope root [] callee.params (n + 2) args (omega (arith, h, spaced_most args)))
    where
      spaced_most : (args : List Argument) → spaced_width args ≤ arguments_width args
      spaced_most [] = omega arith
      spaced_most (a ∷ args) = omega arith

-- ---- types, binders, memories

pub cell_within : {hi : ℕ} (type : TypeName) (n : ℕ) → n < hi → Within hi (cell_faults type n)
cell_within {hi = hi} type n h = by (cell_named type)
  where
    absent : (o : Option Kind) → Within hi (no_cell_faults o n)
    absent None = one k.UnknownName n h
    absent (Some kind) = one k.KindMismatch n h

    by : (o : Option Cell) → Within hi (elim o [ None ↦ no_cell_faults (kind_named type) n | Some cell ↦ [] ])
    by None = absent (kind_named type)
    by (Some cell) = none

pub kind_type_within : {hi : ℕ} (type : TypeName) (n : ℕ) → n < hi → Within hi (kind_faults type n)
kind_type_within {hi = hi} type n h = by (kind_named type)
  where
    absent : (o : Option Cell) → Within hi (no_kind_faults o n)
    absent None = one k.UnknownName n h
    absent (Some cell) = one k.KindMismatch n h

    by : (o : Option Kind) → Within hi (elim o [ None ↦ no_kind_faults (cell_named type) n | Some kind ↦ [] ])
    by None = absent (cell_named type)
    by (Some kind) = none

pub binder_within : {hi : ℕ} (scope : Scope) (n : ℕ) (x : List ℕ) → n < hi → Within hi (binder_faults scope n x)
binder_within scope n x h = tested (not (is_taken scope x)) k.Redefined n h

named_within : {hi : ℕ} (o : Option ℕ) (n : ℕ) → n < hi → Within hi (named_memory_faults o n)
named_within None n h = one k.UnknownName n h
named_within (Some m) n h = none

pub memory_within : {hi : ℕ} (memories : List (List ℕ)) (n : ℕ) (m : Option (List ℕ)) → n + memory_width m ≤ hi → Within hi (memory_faults memories n m)
memory_within memories n None h = none
memory_within memories n (Some x) h = named_within (name_number memories x) (n + 1) (omega (arith, h))
