-- The rules on parameters, procedures and configurations, and what they are as trees. n is the
-- number of the first token.
use Rattle.std.specs.Prelude.{ℕ, suc, ◌+◌, not, List, [], ◌∷◌, ◌++◌, length, map, Option, Some}
use Rattle.std.specs.Prelude.{None}
use Rattle.std.specs.List.{list_any}
use Rattle.exo_tree.specs.Tree.{Kind, ConfigField, Procedure, Param, ParamKind, ControlParam}
use Rattle.exo_tree.specs.Tree.{TensorParam, WindowParam}
use Rattle.exo_meaning.specs.Units.{Scope, with_name, scope_of, param_sort, plainly, with_both}
use Rattle.exo_meaning.specs.Units.{same_field}
use Rattle.text_expressions.specs.Expression.{Tree}
use Rattle.exo_reader.specs.Source as source
use Rattle.exo_reader.specs.Source.{TypeName, Form, plain, strided, Parameter, Definition}
use Rattle.rules_names.specs.declared.error.TypeKind.TheVariants.{Redefined, KindMismatch}
use Rattle.rules_names.specs.declared.fault.Fault.{Fault}
use Rattle.rules_names.specs.Faults.{fault, unless, least, or_else}
use Rattle.rules_names.specs.ExpressionRules.{width, closed_width, controls_faults}
use Rattle.rules_names.specs.ExpressionRules.{condition_faults}
use Rattle.rules_names.specs.Resolved.{controls_of, condition_of}
use Rattle.exo_types.specs.TypeRules.{kind_named, cell_faults, kind_faults, cell_of, kind_of}
use Rattle.exo_types.specs.TypeRules.{binder, binder_faults, memory_faults, memory_of, memory_width}
use Rattle.exo_types.specs.ArgumentRules.{Signature, dims_width, comma_width}
use Rattle.exo_types.specs.StatementRules.{block_width, block_of, block_fault}

-- ---- parameters

-- a control parameter has no memory; the `@` is token n
abbrev pub no_memory_faults : List (List ℕ) → ℕ → Option (List ℕ) → List Fault
no_memory_faults memories n None = []
no_memory_faults memories n (Some x) =
    memory_faults memories n (Some x) ++ fault KindMismatch (n + 1)

-- ---- how many tokens there are

abbrev pub form_width : Form → ℕ
form_width (plain type ds) = 1 + dims_width ds
form_width (strided type ds) = 4 + closed_width ds

abbrev pub parameter_width : Parameter → ℕ
parameter_width p = 2 + form_width p.form + memory_width p.memory

-- parameters with the token behind each
abbrev pub spaced_params : List Parameter → ℕ
spaced_params [] = 0
spaced_params (p ∷ more) = parameter_width p + suc (spaced_params more)

-- parameters and the parenthesis that closes them; a comma behind the last one is not counted
abbrev pub params_width : List Parameter → ℕ
params_width [] = 1
params_width (p ∷ more) = spaced_params (p ∷ more)

-- `assert`, a condition and a line end each
abbrev pub asserts_width : List Tree → ℕ
asserts_width [] = 0
asserts_width (e ∷ es) = width e + 2 + asserts_width es

-- the number of the first token of the assertions, and of the body; n is that of `def`
abbrev pub asserts_start : ℕ → Definition → ℕ
asserts_start n d = n + 3 + params_width d.params + comma_width d.trailing + 3

abbrev pub body_start : ℕ → Definition → ℕ
body_start n d = asserts_start n d + asserts_width d.asserts

-- the number of the token behind a definition
abbrev pub definition_end : ℕ → Definition → ℕ
definition_end n d = body_start n d + block_width (source.block_of d.body) + 1

module _ (fields : List ConfigField) (memories : List (List ℕ)) where
  -- a type without dimensions: a control value, or a single cell
  abbrev pub scalar_faults : Option Kind → TypeName → ℕ → Option (List ℕ) → List Fault
  scalar_faults (Some kind) type n m = no_memory_faults memories (n + 1) m
  scalar_faults None type n m = cell_faults type n ++ memory_faults memories (n + 1) m

  -- the type of a parameter: `TYPE`, `TYPE[..]` or `[TYPE][..]`, and the memory behind it
  abbrev pub form_faults : Scope → ℕ → Form → Option (List ℕ) → List Fault
  form_faults scope n (plain type []) m = scalar_faults (kind_named type) type n m
  form_faults scope n (plain type (d ∷ ds)) m =
      cell_faults type n
      ++ (controls_faults fields plainly scope (n + 2) (d ∷ ds)
      ++ memory_faults memories (n + 1 + dims_width (d ∷ ds)) m)
  form_faults scope n (strided type ds) m =
      cell_faults type (n + 1)
      ++ (controls_faults fields plainly scope (n + 4) ds
      ++ memory_faults memories (n + 4 + closed_width ds) m)

  abbrev pub scalar_of : Option Kind → TypeName → Option (List ℕ) → ParamKind
  scalar_of (Some kind) type m = ControlParam kind
  scalar_of None type m = TensorParam (cell_of type) [] (memory_of memories m)

  abbrev pub form_of : Scope → Form → Option (List ℕ) → ParamKind
  form_of scope (plain type []) m = scalar_of (kind_named type) type m
  form_of scope (plain type (d ∷ ds)) m =
      TensorParam (cell_of type) (controls_of fields scope (d ∷ ds)) (memory_of memories m)
  form_of scope (strided type ds) m =
      WindowParam (cell_of type) (controls_of fields scope ds) (memory_of memories m)

  abbrev pub param_of : ℕ → Scope → Parameter → Param
  param_of id scope p = record { binder = binder id p.name; kind = form_of scope p.form p.memory }

  abbrev pub with_param : Scope → Param → Scope
  with_param scope p = with_name scope p.binder (param_sort p.kind)

  -- the dimensions of a parameter see the parameters before it
  abbrev pub params_from : ℕ → Scope → List Parameter → List Param
  params_from id scope [] = []
  params_from id scope (p ∷ ps) =
      param_of id scope p ∷ params_from (suc id) (with_param scope (param_of id scope p)) ps

  abbrev pub params_fault : ℕ → Scope → ℕ → List Parameter → Option Fault
  params_fault id scope n [] = None
  params_fault id scope n (p ∷ ps) =
      or_else (least (binder_faults scope n p.name ++ form_faults scope (n + 2) p.form p.memory))
      (params_fault (suc id) (with_param scope (param_of id scope p)) (n + parameter_width p + 1)
      ps)

  -- ---- procedures and instructions

  abbrev pub assertions_fault : Scope → ℕ → List Tree → Option Fault
  assertions_fault scope n [] = None
  assertions_fault scope n (e ∷ es) =
      or_else (least (condition_faults fields with_both scope (n + 1) e))
      (assertions_fault scope (n + width e + 2) es)

  module _ (above : List (List ℕ)) (signatures : List Signature) where
    -- the procedure, whose first binder gets this id
    abbrev pub definition_of : ℕ → Option (List ℕ) → Definition → Procedure
    definition_of id template d =
        let params = params_from id [] d.params in
        let scope = scope_of [] params in
        record {
          name = d.name;
          params = params;
          asserts = map (condition_of fields scope) d.asserts;
          body =
              block_of fields memories above signatures (id + length params) scope
              (source.block_of d.body);
          template = template;
        }

    -- its parameters, its assertions and its body; n is the number of the token `def`
    abbrev pub definition_fault : ℕ → ℕ → Definition → Option Fault
    definition_fault id n d =
        let params = params_from id [] d.params in
        let scope = scope_of [] params in
        or_else (params_fault id [] (n + 3) d.params)
        (or_else (assertions_fault scope (asserts_start n d) d.asserts)
        (block_fault fields memories above signatures (id + length params) scope (λ x. x)
        (body_start n d) (source.block_of d.body)))

-- ---- configurations

abbrev pub field_of : List ℕ → source.ConfigField → ConfigField
field_of config f = record { config = config; name = f.name; kind = kind_of f.kind }

-- `NAME : TYPE` and a line end each; given are the fields before
abbrev pub fields_fault : List ConfigField → List ℕ → ℕ → List source.ConfigField → Option Fault
fields_fault given config n [] = None
fields_fault given config n (f ∷ fs) =
    or_else (least (unless (not (list_any (same_field (field_of config f)) given)) Redefined n
    ++ kind_faults f.kind (n + 2)))
    (fields_fault (given ++ field_of config f ∷ []) config (n + 4) fs)
