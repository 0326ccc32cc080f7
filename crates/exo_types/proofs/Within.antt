-- The first rule that a unit breaks is charged at a token of the unit. No grammar is needed for that.
use Rattle.std.proofs.Common.{◌≡◌, ℕ, suc, ◌+◌, ◌*◌, ◌≤◌, ◌<◌, not, List, [], ◌∷◌, ◌++◌, length, Option, Some, None, arith}
use Rattle.std.specs.List.{list_any}
use Rattle.exo_tree.specs.Tree.{Kind, Index, ConfigField, MemoryKind}
use Rattle.exo_meaning.specs.Units.{Scope, ControlName, plainly, with_fields, with_strides, with_both, with_name, scope_of, scope_after, is_template, is_memory, is_text, same_field}
use Rattle.exo_meaning.specs.Run.{roots_after}
use Rattle.text_expressions.specs.Expression.{Tree}
use Rattle.exo_reader.specs.Source as source
use Rattle.exo_reader.specs.Source.{TypeName, Form, plain, strided, Parameter, Definition, Statement, pass, branch, loop, allocate, call, configure, assign, reduce, view, Block, end, next, Attribute, Setting, Item, procedure, instruction, configuration, memory}
use Rattle.exo_reader.specs.Items.{joined}
use Rattle.rules_names.specs.declared.error.TypeKind.TheVariants as k
use Rattle.rules_names.specs.declared.fault.Fault.{Fault}
use Rattle.rules_names.specs.Names.{field_in}
use Rattle.rules_names.specs.ExpressionRules.{width, is_buffer, closed_width}
use Rattle.exo_types.specs.declared.attribute.Trait.{Trait}
use Rattle.exo_types.specs.TypeRules.{kind_named, memory_width, binder}
use Rattle.exo_types.specs.ArgumentRules.{Signature, dims_width, points}
use Rattle.exo_types.specs.StatementRules.{statement_width, block_width, else_width, bound, bound_in, write_faults, store_faults, callee_named, statement_of, own_faults, inner_fault, block_fault}
use Rattle.exo_types.specs.ItemRules.{form_width, parameter_width, spaced_params, params_width, asserts_width, asserts_start, body_start, definition_end, no_memory_faults, scalar_faults, form_faults, param_of, with_param, params_from, params_fault, assertions_fault, definition_fault, field_of, fields_fault}
use Rattle.exo_types.specs.MemoryRules.{attribute_width, attributes_width, trait_named, has_form, trait_faults, attributes_fault, lanes_faults, plain_memory, with_attributes}
use Rattle.exo_types.specs.UnitRules.{Above, nothing_above, is_given, item_name_faults, memory_names, procedure_names, signatures, procedure_here, procedure_fault, item_width, items_width, item_fault, after_item, items_fault, unit_fault}
use Rattle.exo_types.proofs.Charged.{Within, First, none, one, also, tested, leastly, or_later, unbroken, some_width, commas_most, commas_of_dims, points_width, control_within, controls_within, condition_within, data_within, window_within, kind_within, call_within, cell_within, kind_type_within, binder_within, memory_within}

-- ---- statements

module _ (fields : List ConfigField) (hi : ℕ) where
  target_within : (scope : Scope) (n : ℕ) (x : List ℕ) (ds : List Tree) (e : Tree) → n + 1 + dims_width ds + 1 + width e ≤ hi → Within hi (store_faults fields scope n x ds e)
  target_within scope n x ds e h =
      also (window_within fields hi is_buffer scope n x (points ds) (omega (arith, h, points_width ds, commas_of_dims ds, some_width e))) (data_within fields hi scope (n + 1 + dims_width ds + 1) e h)

  write_within : (o : Option (ℕ × Kind)) (scope : Scope) (n right : ℕ) (e : Tree) → n < hi → right + width e ≤ hi → Within hi (write_faults fields o scope n right e)
  write_within None scope n right e l h = one k.UnknownName n l
  write_within (Some f) scope n right e l h = kind_within fields hi with_strides scope f.1 right e h

  module _ (memories above : List (List ℕ)) (signatures : List Signature) where
    own_within : (scope : Scope) (root : ℕ → ℕ) (n : ℕ) (t : Statement) → n + statement_width t ≤ hi → Within hi (own_faults fields memories above signatures scope root n t)
    own_within scope root n pass h = none
    own_within scope root n (branch c a b) h = condition_within fields hi with_fields scope (n + 1) c (omega (arith, h))
    own_within scope root n (loop i low high a) h =
        also (binder_within scope (n + 1) i (omega (arith, h)))
        (also (control_within fields hi plainly scope (n + 5) low (omega (arith, h))) (control_within fields hi plainly scope (n + 5 + width low + 1) high (omega (arith, h))))
    own_within scope root n (allocate x type ds m) h =
        also (binder_within scope n x (omega (arith, h)))
        (also (cell_within type (n + 2) (omega (arith, h)))
        (also (controls_within fields hi plainly scope (n + 4) ds (omega (arith, h, commas_of_dims ds))) (memory_within memories (n + 3 + dims_width ds) m (omega (arith, h)))))
    own_within scope root n (call f args trailing) h = call_within fields hi (callee_named fields memories above signatures f) scope root n args (omega (arith, h))
    own_within scope root n (configure c x e) h = write_within (field_in fields c x) scope n (n + 4) e (omega (arith, h)) (omega (arith, h))
    own_within scope root n (assign x ds e) h = target_within scope n x ds e (omega (arith, h))
    own_within scope root n (reduce x ds e) h = target_within scope n x ds e (omega (arith, h))
    own_within scope root n (view w x cs) h = also (binder_within scope n w (omega (arith, h))) (window_within fields hi is_buffer scope (n + 2) x cs (omega (arith, h)))

    mutual
      inner_within : (id : ℕ) (scope : Scope) (root : ℕ → ℕ) (n : ℕ) (t : Statement) → n + statement_width t ≤ hi → First hi (inner_fault fields memories above signatures id scope root n t)
      inner_within id scope root n pass h = unbroken
      inner_within id scope root n (branch c a b) h =
          or_later (block_within id scope root (n + 1 + width c + 3) a (omega (arith, h))) (else_within (id + bound_in a) scope root (n + 1 + width c + 3 + block_width a + 5) b (omega (arith, h)))
      inner_within id scope root n (loop i low high a) h = block_within (suc id) (with_name scope (binder id i) (ControlName Index)) root (n + 5 + width low + 1 + width high + 4) a (omega (arith, h))
      inner_within id scope root n (allocate x type ds m) h = unbroken
      inner_within id scope root n (call f args trailing) h = unbroken
      inner_within id scope root n (configure c x e) h = unbroken
      inner_within id scope root n (assign x ds e) h = unbroken
      inner_within id scope root n (reduce x ds e) h = unbroken
      inner_within id scope root n (view w x cs) h = unbroken

      -- n is the number of the first token behind the indentation, which is four behind the `else`
      else_within : (id : ℕ) (scope : Scope) (root : ℕ → ℕ) (n : ℕ) (b : Block) → n + else_width b ≤ hi + 4 → First hi (block_fault fields memories above signatures id scope root n b)
      else_within id scope root n end h = unbroken
      else_within id scope root n (next t more) h =
          or_later (or_later (leastly (own_within scope root n t (omega (arith, h)))) (inner_within id scope root n t (omega (arith, h))))
          (block_within (id + bound t) (scope_after (statement_of fields memories above signatures id scope t) scope) (roots_after (statement_of fields memories above signatures id scope t) root) (n + statement_width t) more (omega (arith, h)))

      block_within : (id : ℕ) (scope : Scope) (root : ℕ → ℕ) (n : ℕ) (b : Block) → n + block_width b ≤ hi → First hi (block_fault fields memories above signatures id scope root n b)
      block_within id scope root n end h = unbroken
      block_within id scope root n (next t more) h =
          or_later (or_later (leastly (own_within scope root n t (omega (arith, h)))) (inner_within id scope root n t (omega (arith, h))))
          (block_within (id + bound t) (scope_after (statement_of fields memories above signatures id scope t) scope) (roots_after (statement_of fields memories above signatures id scope t) root) (n + statement_width t) more (omega (arith, h)))

-- ---- parameters and assertions

module _ (fields : List ConfigField) (memories : List (List ℕ)) (hi : ℕ) where
  no_memory_within : (n : ℕ) (m : Option (List ℕ)) → n + memory_width m ≤ hi → Within hi (no_memory_faults memories n m)
  no_memory_within n None h = none
  no_memory_within n (Some x) h = also (memory_within memories n (Some x) h) (one k.KindMismatch (n + 1) (omega (arith, h)))

  scalar_within : (o : Option Kind) (type : TypeName) (n : ℕ) (m : Option (List ℕ)) → n + 1 + memory_width m ≤ hi → Within hi (scalar_faults fields memories o type n m)
  scalar_within (Some kind) type n m h = no_memory_within (n + 1) m h
  scalar_within None type n m h = also (cell_within type n (omega (arith, h))) (memory_within memories (n + 1) m h)

  form_within : (scope : Scope) (n : ℕ) (f : Form) (m : Option (List ℕ)) → n + form_width f + memory_width m ≤ hi → Within hi (form_faults fields memories scope n f m)
  form_within scope n (plain type []) m h = scalar_within (kind_named type) type n m (omega (arith, h))
  form_within scope n (plain type (d ∷ ds)) m h =
      also (cell_within type n (omega (arith, h)))
      (also (controls_within fields hi plainly scope (n + 2) (d ∷ ds) (omega (arith, h))) (memory_within memories (n + 1 + dims_width (d ∷ ds)) m (omega (arith, h))))
  form_within scope n (strided type ds) m h =
      also (cell_within type (n + 1) (omega (arith, h)))
      (also (controls_within fields hi plainly scope (n + 4) ds (omega (arith, h, commas_most ds))) (memory_within memories (n + 4 + closed_width ds) m (omega (arith, h))))

  params_within : (id : ℕ) (scope : Scope) (n : ℕ) (ps : List Parameter) → n + spaced_params ps ≤ hi → First hi (params_fault fields memories id scope n ps)
  params_within id scope n [] h = unbroken
  params_within id scope n (p ∷ ps) h =
      or_later (leastly (also (binder_within scope n p.name (omega (arith, h))) (form_within scope (n + 2) p.form p.memory (omega (arith, h)))))
      (params_within (suc id) (with_param fields memories scope (param_of fields memories id scope p)) (n + parameter_width p + 1) ps (omega (arith, h)))

  assertions_within : (scope : Scope) (n : ℕ) (es : List Tree) → n + asserts_width es ≤ hi → First hi (assertions_fault fields memories scope n es)
  assertions_within scope n [] h = unbroken
  assertions_within scope n (e ∷ es) h = or_later (leastly (condition_within fields hi with_both scope (n + 1) e (omega (arith, h)))) (assertions_within scope (n + width e + 2) es (omega (arith, h)))

  definition_within : (above : List (List ℕ)) (signatures : List Signature) (id n : ℕ) (d : Definition) → definition_end n d ≤ hi → First hi (definition_fault fields memories above signatures id n d)
  definition_within above signatures id n d h =
      or_later (params_within id [] (n + 3) d.params (omega (arith, h, spaced_most d.params)))
      (or_later (assertions_within (scope_of [] (params_from fields memories id [] d.params)) (asserts_start n d) d.asserts (omega (arith, h)))
      (block_within fields hi memories above signatures (id + length (params_from fields memories id [] d.params)) (scope_of [] (params_from fields memories id [] d.params)) (λ x. x) (body_start n d) (source.block_of d.body) (omega (arith, h))))
    where
      spaced_most : (ps : List Parameter) → spaced_params ps ≤ params_width ps
      spaced_most [] = omega arith
      spaced_most (p ∷ ps) = omega arith

-- ---- configurations and memories

fields_within : (hi : ℕ) (given : List ConfigField) (config : List ℕ) (n : ℕ) (fs : List source.ConfigField) → n + 4 * length fs ≤ hi → First hi (fields_fault given config n fs)
fields_within hi given config n [] h = unbroken
fields_within hi given config n (f ∷ fs) h =
    or_later (leastly (also (tested (not (list_any (same_field (field_of config f)) given)) k.Redefined n (omega (arith, h))) (kind_type_within f.kind (n + 2) (omega (arith, h)))))
    (fields_within hi (given ++ field_of config f ∷ []) config (n + 4) fs (omega (arith, h)))

trait_within : {hi : ℕ} (o : Option Trait) (n : ℕ) (v : Setting) → n < hi → Within hi (trait_faults o n v)
trait_within None n v h = one k.UnknownName n h
trait_within (Some t) n v h = tested (has_form t v) k.KindMismatch n h

attributes_within : (hi : ℕ) (given : List (List ℕ)) (n : ℕ) (settings : List Attribute) → n + attributes_width settings ≤ hi → First hi (attributes_fault given n settings)
attributes_within hi given n [] h = unbroken
attributes_within hi given n (a ∷ settings) h =
    or_later (leastly (also (trait_within (trait_named a.name) n a.value (omega (arith, h))) (tested (not (list_any (λ x. is_text x a.name) given)) k.Redefined n (omega (arith, h)))))
    (attributes_within hi (given ++ a.name ∷ []) (n + attribute_width a) settings (omega (arith, h)))

lanes_within : {hi : ℕ} (o : Option Fault) (n : ℕ) (m : MemoryKind) → n < hi → Within hi (lanes_faults o n m)
lanes_within None n m h = tested (is_memory m) k.KindMismatch n h
lanes_within (Some own) n m h = none

-- ---- items

module _ (hi : ℕ) (above : Above) where
  name_within : (n : ℕ) (x : List ℕ) → n < hi → Within hi (item_name_faults above n x)
  name_within n x h = tested (not (is_given above.program x)) k.Redefined n h

  -- n is the number of the token `def`
  procedure_within : (n : ℕ) (d : Definition) → definition_end n d ≤ hi → First hi (procedure_fault above n d)
  procedure_within n d h =
      or_later (leastly (name_within (n + 1) d.name (omega (arith, h))))
      (definition_within above.program.fields (memory_names above.program) hi (procedure_names above.program) (signatures above) above.next_id n d h)

  item_within : (n : ℕ) (i : Item) → n + item_width i ≤ hi → First hi (item_fault above n i)
  item_within n (procedure d) h = procedure_within (n + 2) d (omega (arith, h))
  item_within n (instruction template d) h =
      or_later (leastly (tested (is_template (procedure_here above None d).params (Some (joined template))) k.UnknownName (n + 2) (omega (arith, h))))
      (procedure_within (n + 2 + length template + 2) d (omega (arith, h)))
  item_within n (configuration x fs) h = or_later (leastly (name_within (n + 3) x (omega (arith, h)))) (fields_within hi [] x (n + 7) fs (omega (arith, h)))
  item_within n (memory x settings) h =
      or_later (leastly (also (name_within (n + 3) x (omega (arith, h))) (lanes_within (attributes_fault [] (n + 7) settings) (n + 3) (with_attributes (plain_memory x) settings) (omega (arith, h)))))
      (attributes_within hi [] (n + 7) settings (omega (arith, h)))

items_within : (hi : ℕ) (above : Above) (n : ℕ) (items : List Item) → n + items_width items ≤ hi → First hi (items_fault above n items)
items_within hi above n [] h = unbroken
items_within hi above n (i ∷ more) h = or_later (item_within hi above n i (omega (arith, h))) (items_within hi (after_item above i) (n + item_width i) more (omega (arith, h)))

pub unit_fault_within : (items : List Item) (f : Fault) → unit_fault items ≡ Some f → f.token < items_width items
unit_fault_within items f h = (items_within (items_width items) nothing_above 0 items (omega arith)).before f h
