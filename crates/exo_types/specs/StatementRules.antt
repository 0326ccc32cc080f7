-- The rules on statements, and what statements are as trees of a procedure. n is always the number
-- of the first token, id the id that the next binder gets, root the buffer of each name.
use Rattle.std.specs.Prelude.{ℕ, suc, ◌+◌, List, [], ◌++◌, slice_get, Option, Some, None}
use Rattle.exo_tree.specs.Tree as tree
use Rattle.exo_tree.specs.Tree.{Kind, Index, ConfigField}
use Rattle.exo_meaning.specs.Run.{roots_after}
use Rattle.exo_meaning.specs.Units.{ControlName, Scope, with_name, scope_after, plainly}
use Rattle.exo_meaning.specs.Units.{with_fields, with_strides}
use Rattle.text_expressions.specs.Expression.{Tree}
use Rattle.exo_reader.specs.Source.{Statement, pass, branch, loop, allocate, call, configure}
use Rattle.exo_reader.specs.Source.{assign, reduce, view, Block, end, next}
use Rattle.rules_names.specs.declared.error.TypeKind.TheVariants.{UnknownName}
use Rattle.rules_names.specs.declared.fault.Fault.{Fault}
use Rattle.rules_names.specs.Faults.{fault, least, or_else}
use Rattle.rules_names.specs.Names.{id_in, field_in, name_number, no_id}
use Rattle.rules_names.specs.ExpressionRules.{width, is_buffer, control_faults, controls_faults}
use Rattle.rules_names.specs.ExpressionRules.{condition_faults, data_faults}
use Rattle.rules_names.specs.WindowRules.{coordinates_width, window_faults, coordinates_of}
use Rattle.rules_names.specs.Resolved.{control_of, condition_of, controls_of, datum_of}
use Rattle.rules_names.specs.Resolved.{field_number}
use Rattle.exo_types.specs.TypeRules.{cell_faults, cell_of, binder, binder_faults, memory_faults}
use Rattle.exo_types.specs.TypeRules.{memory_of, memory_width, number_or}
use Rattle.exo_types.specs.ArgumentRules.{Signature, dims_width, arguments_width, comma_width}
use Rattle.exo_types.specs.ArgumentRules.{points, kind_faults, kind_value_of, arguments_of}
use Rattle.exo_types.specs.ArgumentRules.{call_faults, params_of}

-- how many tokens statements have, and blocks without what stands around them
abbrev mutual
  pub statement_width : Statement → ℕ
  statement_width pass = 2
  statement_width (branch c a b) = 1 + width c + 3 + block_width a + 1 + else_width b
  statement_width (loop i low high a) = 5 + width low + 1 + width high + 4 + block_width a + 1
  statement_width (allocate x type ds m) = 3 + dims_width ds + memory_width m + 1
  statement_width (call f args trailing) = 2 + arguments_width args + comma_width trailing + 1
  statement_width (configure c x e) = 4 + width e + 1
  statement_width (assign x ds e) = 1 + dims_width ds + 1 + width e + 1
  statement_width (reduce x ds e) = 1 + dims_width ds + 1 + width e + 1
  statement_width (view w x cs) = 4 + coordinates_width cs + 1

  pub block_width : Block → ℕ
  block_width end = 0
  block_width (next s more) = statement_width s + block_width more

  -- `else`, a colon, a line end and an indentation, and the end of the block
  pub else_width : Block → ℕ
  else_width end = 0
  else_width (next s more) = 4 + (statement_width s + block_width more) + 1

-- how many names a statement or a block binds
abbrev mutual
  pub bound : Statement → ℕ
  bound pass = 0
  bound (branch c a b) = bound_in a + bound_in b
  bound (loop i low high a) = suc (bound_in a)
  bound (allocate x type ds m) = 1
  bound (call f args trailing) = 0
  bound (configure c x e) = 0
  bound (assign x ds e) = 0
  bound (reduce x ds e) = 0
  bound (view w x cs) = 1

  pub bound_in : Block → ℕ
  bound_in end = 0
  bound_in (next s more) = bound s + bound_in more

module _ (fields : List ConfigField) where
  -- ---- configuration writes: a condition where the field is a `bool`; right is the number of the
  -- right side's first token
  abbrev pub write_faults : Option (ℕ × Kind) → Scope → ℕ → ℕ → Tree → List Fault
  write_faults None scope n right e = fault UnknownName n
  write_faults (Some f) scope n right e = kind_faults fields with_strides scope f.1 right e

  abbrev pub written_of : Option (ℕ × Kind) → Scope → Tree → tree.Argument
  written_of None scope e = tree.ControlArg (control_of fields scope e)
  written_of (Some f) scope e = kind_value_of fields scope f.1 e

  -- the left side of an assignment: its name, the number of its indices and each of them are tested
  -- by themselves
  abbrev pub target_faults : Scope → ℕ → List ℕ → List Tree → List Fault
  target_faults scope n x ds = window_faults fields is_buffer scope n x (points ds)

  abbrev pub store_faults : Scope → ℕ → List ℕ → List Tree → Tree → List Fault
  store_faults scope n x ds e =
      target_faults scope n x ds ++ data_faults fields scope (n + 1 + dims_width ds + 1) e

  -- the names of the memories, and the names and signatures of the procedures that stand above
  module _ (memories above : List (List ℕ)) (signatures : List Signature) where
    abbrev pub number_in : List ℕ → ℕ
    number_in f = number_or no_id (name_number above f)

    abbrev pub callee_named : List ℕ → Option Signature
    callee_named f = elim (name_number above f) [ None ↦ None | Some k ↦ slice_get signatures k ]

    -- ---- as trees

    abbrev mutual
      pub statement_of : ℕ → Scope → Statement → tree.Statement
      statement_of id scope pass = tree.Pass
      statement_of id scope (branch c a b) =
          tree.If (condition_of fields scope c) (block_of id scope a)
          (block_of (id + bound_in a) scope b)
      statement_of id scope (loop i low high a) =
          tree.For (binder id i)
          (control_of fields scope low)
          (control_of fields scope high)
          (block_of (suc id) (with_name scope (binder id i) (ControlName Index)) a)
      statement_of id scope (allocate x type ds m) =
          tree.Alloc (binder id x) (cell_of type) (controls_of fields scope ds)
          (memory_of memories m)
      statement_of id scope (call f args trailing) =
          tree.Call (number_in f) (arguments_of fields scope (params_of (callee_named f)) args)
      statement_of id scope (configure c x e) =
          tree.Config (field_number (field_in fields c x))
          (written_of (field_in fields c x) scope e)
      statement_of id scope (assign x ds e) =
          tree.Assign (id_in scope x) (controls_of fields scope ds) (datum_of fields scope e)
      statement_of id scope (reduce x ds e) =
          tree.Reduce (id_in scope x) (controls_of fields scope ds) (datum_of fields scope e)
      statement_of id scope (view w x cs) =
          tree.View (binder id w) (id_in scope x) (coordinates_of fields scope cs)

      pub block_of : ℕ → Scope → Block → tree.Block
      block_of id scope end = tree.end
      block_of id scope (next s more) =
          let t = statement_of id scope s in
          tree.next t (block_of (id + bound s) (scope_after t scope) more)

    -- ---- rules

    -- the rules that a statement breaks, but for those inside its blocks; a loop's bounds do not
    -- see its variable
    abbrev pub own_faults : Scope → (ℕ → ℕ) → ℕ → Statement → List Fault
    own_faults scope root n pass = []
    own_faults scope root n (branch c a b) = condition_faults fields with_fields scope (n + 1) c
    own_faults scope root n (loop i low high a) =
        binder_faults scope (n + 1) i
        ++ (control_faults fields plainly scope (n + 5) low
        ++ control_faults fields plainly scope (n + 5 + width low + 1) high)
    own_faults scope root n (allocate x type ds m) =
        binder_faults scope n x
        ++ (cell_faults type (n + 2)
        ++ (controls_faults fields plainly scope (n + 4) ds
        ++ memory_faults memories (n + 3 + dims_width ds) m))
    own_faults scope root n (call f args trailing) =
        call_faults fields (callee_named f) scope root n args
    own_faults scope root n (configure c x e) = write_faults (field_in fields c x) scope n (n + 4) e
    own_faults scope root n (assign x ds e) = store_faults scope n x ds e
    own_faults scope root n (reduce x ds e) = store_faults scope n x ds e
    own_faults scope root n (view w x cs) =
        binder_faults scope n w ++ window_faults fields is_buffer scope (n + 2) x cs

    -- The first rule that a statement breaks, and a block. A header stands before its blocks, and
    -- names end with their block.
    abbrev mutual
      pub inner_fault : ℕ → Scope → (ℕ → ℕ) → ℕ → Statement → Option Fault
      inner_fault id scope root n pass = None
      inner_fault id scope root n (branch c a b) =
          let first = n + 1 + width c + 3 in
          or_else (block_fault id scope root first a)
          (block_fault (id + bound_in a) scope root (first + block_width a + 5) b)
      inner_fault id scope root n (loop i low high a) =
          block_fault (suc id)
          (with_name scope (binder id i) (ControlName Index)) root
          (n + 5 + width low + 1 + width high + 4) a
      inner_fault id scope root n (allocate x type ds m) = None
      inner_fault id scope root n (call f args trailing) = None
      inner_fault id scope root n (configure c x e) = None
      inner_fault id scope root n (assign x ds e) = None
      inner_fault id scope root n (reduce x ds e) = None
      inner_fault id scope root n (view w x cs) = None

      pub block_fault : ℕ → Scope → (ℕ → ℕ) → ℕ → Block → Option Fault
      block_fault id scope root n end = None
      block_fault id scope root n (next s more) =
          let t = statement_of id scope s in
          or_else (or_else (least (own_faults scope root n s)) (inner_fault id scope root n s))
          (block_fault (id + bound s) (scope_after t scope) (roots_after t root)
          (n + statement_width s) more)

    abbrev pub statement_fault : ℕ → Scope → (ℕ → ℕ) → ℕ → Statement → Option Fault
    statement_fault id scope root n s =
        or_else (least (own_faults scope root n s)) (inner_fault id scope root n s)
