use Rattle.std.proofs.Common.{◌≡◌, ℕ, Bool, List, ◌+◌, ◌||◌, take, drop, length, ap, sym, ◌∙◌, refl}
use Rattle.std.proofs.Common.{arith, Result, IsErr, IfOk, OnOk}
use Rattle.std.proofs.lemmas.List.{take_all}
use Rattle.std.proofs.lemmas.Result.{IfOk-from_err}
use Rattle.exo_meaning.specs.Scene.{updated}
use Rattle.exo_meaning.specs.Run.{roots_after}
use Rattle.exo_tree.specs.Tree.{Statement, block}
use Rattle.exo_tree.specs.declared.block.Block.TheDeep.{deep-Stmt}
use Rattle.exo_tree.specs.declared.block.Stmt.{Stmt}
use Rattle.exo_tree.specs.Falls.{deep_le-nodes}
use Rattle.exo_tree.specs.PlainArgument.{argument}
use Rattle.exo_tree.specs.PlainControl.{control, condition}
use Rattle.exo_tree.specs.PlainDatum.{datum}
use Rattle.exo_tree.specs.PlainStatement.{statement}
use Rattle.exo_tree.specs.PlainUnit.{program}
use Rattle.inplace_laws.specs.CallInPlace.{no_name}
use Rattle.inplace_laws.specs.Uses.{in_control, in_controls, in_condition, in_datum, in_coords}
use Rattle.buffer_laws.specs.Staging.Alone.{has_root}
use Rattle.buffer_laws.specs.Stride.Strides.{argument_uses, arguments_use}
use Rattle.exo_modes.specs.Aliases.{roots_in}
use Rattle.exo_modes.specs.declared.aliases.Alias.{Alias}
use Rattle.piece_modes.specs.declared.strides.walk.CallableStrides.{CallableStrides}
use Rattle.piece_modes.specs.Strides.Seen.{call_sees, step_sees, block_sees}
use Rattle.piece_modes.proofs.Found.{at_node, by_same, by_roots, or_then, or_else, or_true, or_false}
use Rattle.piece_modes.proofs.Found.{found_on, found_all, kept_on, leaves_names}
use Rattle.piece_modes.proofs.strides.walk.+walk.Goals as goal
use Rattle.piece_modes.proofs.strides.walk.+walk.Goals.{block_sees-then-found, block_sees-else-found}

-- an error says nothing of what follows `Ok`
refused : {A E : Type 0} (r : Result A E) (P : A → Type 0) (Q R : Type 0) → IsErr r
    → record { sees : IfOk r P; roots : OnOk r Q; kept : OnOk r R }
refused r P Q R e =
    record { sees = IfOk-from_err r P e; roots = IfOk-from_err r _ e; kept = IfOk-from_err r _ e }

module _ (above : CallableStrides) (items : List Alias) (y : ℕ) where
  abbrev looks : Statement → Bool
  looks a = step_sees (program above.unit.now) (length above.rows.now) (roots_in items) a y

  -- a statement that leaves the names as they are
  leaves : {s a : Stmt} {new : List Alias} {here : Bool} → s ≡ a → new ≡ items
      → roots_in items ≡ roots_after (statement a) (roots_in items) → here ≡ looks (statement a)
      → record {
        sees : here ≡ looks (statement s);
        roots : roots_in new ≡ roots_after (statement s) (roots_in items);
        kept : take (length items) new ≡ items;
      }
  leaves is same none e =
      let w = leaves_names looks items is same none e in
      record { sees = w.told; roots = w.roots; kept = w.kept }

pub block_sees-loop-k-init : goal.block_sees-loop-k-init
block_sees-loop-k-init t c =
    (refl, (take_all _ _ (omega (arith, c.len-known.ensures)), omega (arith, c.len-known.ensures)))

pub block_sees-statement-requires : goal.block_sees-statement-requires
block_sees-statement-requires t c = omega (arith, c.len-k-end.ensures)

pub block_sees-statement_sees-requires : goal.block_sees-statement_sees-requires
block_sees-statement_sees-requires t c =
    (omega (arith, c.statement.ensures.smaller, deep_le-nodes c.statement.result.now), c.requires)

pub block_sees-returns-in_err-here : goal.block_sees-returns-in_err-here
block_sees-returns-in_err-here t c =
    let e = c.from_residual in
    record { sees = IfOk-from_err e.result _ e.ensures.0; kept = IfOk-from_err e.result _ e.ensures.0 }

pub block_sees-loop-k-smaller : goal.block_sees-loop-k-smaller
block_sees-loop-k-smaller t c = omega arith

pub block_sees-loop-k-preserved : goal.block_sees-loop-k-preserved
block_sees-loop-k-preserved t c =
    let y = c.args.y in
    let u = program c.args.above.now.unit.now in
    let n = length c.args.above.now.rows.now in
    let seen = λ (f : ℕ → ℕ) (ss : List Statement). block_sees u n f (block ss) y in
    let more : c.if-found.found ≡ (c.loop-k.found || c.in_ok-here.here) = elim c.if-found.branch [
      | block_sees-then-found w ↦ or_true _ w.if-found.true (w.found-is ∙ w.if-found.true)
      | block_sees-else-found w ↦ or_false w.if-found.false w.found-is
    ] in
    let a = statement c.statement.result.now in
    let rest = drop (c.loop-k.k + 1) c.args.b.now in
    let roots = roots_in c.loop-k.aliases.items in
    let step = ap (λ b. b || seen (roots_after a roots) rest) (sym c.in_ok-here.ensures.sees) in
    let inv = c.loop-k.invariant in (
      found_on seen roots _ _ rest a c.loop-k.found c.in_ok-here.here _ _
          c.statement.ensures.value c.in_ok-here.ensures.roots more step inv.0,
      kept_on _ c.loop-k.aliases.items _ _ inv.1.0 inv.1.1 c.in_ok-here.ensures.kept,
    )

pub block_sees-returns : goal.block_sees-returns
block_sees-returns t c =
    let y = c.args.y in
    let u = program c.args.above.now.unit.now in
    let n = length c.args.above.now.rows.now in
    let roots = roots_in c.loop-k.aliases.items in
    let inv = c.loop-k.invariant in
    record {
      sees = found_all (λ ss. block_sees u n roots (block ss) y) c.args.b.now c.loop-k.k _ _
          (omega (arith, c.len-k-end.ensures)) refl inv.0;
      kept = c.truncate.ensures.items ∙ inv.1.0;
    }

pub statement_sees-block_sees-requires : goal.statement_sees-block_sees-requires
statement_sees-block_sees-requires t c = (omega (arith, ap deep-Stmt c.in-If.is), c.requires)

pub statement_sees-block_sees-requires-in-If : goal.statement_sees-block_sees-requires-in-If
statement_sees-block_sees-requires-in-If t c = (omega (arith, ap deep-Stmt c.in-If.is), c.requires)

pub statement_sees-block_sees-requires-in-For : goal.statement_sees-block_sees-requires-in-For
statement_sees-block_sees-requires-in-For t c = (omega (arith, ap deep-Stmt c.in-For.is), c.requires)

pub statement_sees-call_sees-requires : goal.statement_sees-call_sees-requires
statement_sees-call_sees-requires t c = c.requires

pub statement_sees-returns-in_err-in_first-in-If : goal.statement_sees-returns-in_err-in_first-in-If
statement_sees-returns-in_err-in_first-in-If t c =
    let e = c.from_residual in refused e.result _ _ _ e.ensures.0

pub statement_sees-returns-in_err-in_second-in-If : goal.statement_sees-returns-in_err-in_second-in-If
statement_sees-returns-in_err-in_second-in-If t c =
    let e = c.from_residual-in_err-in_second-in-If in refused e.result _ _ _ e.ensures.0

pub statement_sees-returns-in_err-in_body-in-For : goal.statement_sees-returns-in_err-in_body-in-For
statement_sees-returns-in_err-in_body-in-For t c =
    let e = c.from_residual-in_err-in_body-in-For in refused e.result _ _ _ e.ensures.0

pub statement_sees-returns-in_err-set_root-in-Alloc : goal.statement_sees-returns-in_err-set_root-in-Alloc
statement_sees-returns-in_err-set_root-in-Alloc t c =
    let e = c.from_residual-in_err-set_root-in-Alloc in refused e.result _ _ _ e.ensures.0

pub statement_sees-returns-in_err-set_root-in-View : goal.statement_sees-returns-in_err-set_root-in-View
statement_sees-returns-in_err-set_root-in-View t c =
    let e = c.from_residual-in_err-set_root-in-View in refused e.result _ _ _ e.ensures.0

pub statement_sees-returns-then-controls_use : goal.statement_sees-returns-then-controls_use
statement_sees-returns-then-controls_use t c =
    leaves c.args.above.now c.args.aliases.now.items c.args.y c.in-Assign.is refl refl
    (or_then _ c.if-controls_use.true
    (by_roots (λ f. in_controls no_name (has_root f c.args.y) c.in-Assign.list)
    c.deref.ensures.value c.controls_use.ensures))

pub statement_sees-returns-else-controls_use : goal.statement_sees-returns-else-controls_use
statement_sees-returns-else-controls_use t c =
    leaves c.args.above.now c.args.aliases.now.items c.args.y c.in-Assign.is refl refl
    (or_else c.if-controls_use.false
    (by_roots (λ f. in_controls no_name (has_root f c.args.y) c.in-Assign.list)
    c.deref.ensures.value c.controls_use.ensures)
    (by_roots (λ f. in_datum no_name (has_root f c.args.y) (datum c.in-Assign.e))
    c.deref-else-controls_use.ensures.value c.datum_uses.ensures))

pub statement_sees-returns-then-controls_use-2 : goal.statement_sees-returns-then-controls_use-2
statement_sees-returns-then-controls_use-2 t c =
    leaves c.args.above.now c.args.aliases.now.items c.args.y c.in-Reduce.is refl refl
    (or_then _ c.if-controls_use-2.true
    (by_roots (λ f. in_controls no_name (has_root f c.args.y) c.in-Reduce.list)
    c.deref-in-Reduce.ensures.value c.controls_use-in-Reduce.ensures))

pub statement_sees-returns-else-controls_use-2 : goal.statement_sees-returns-else-controls_use-2
statement_sees-returns-else-controls_use-2 t c =
    leaves c.args.above.now c.args.aliases.now.items c.args.y c.in-Reduce.is refl refl
    (or_else c.if-controls_use-2.false
    (by_roots (λ f. in_controls no_name (has_root f c.args.y) c.in-Reduce.list)
    c.deref-in-Reduce.ensures.value c.controls_use-in-Reduce.ensures)
    (by_roots (λ f. in_datum no_name (has_root f c.args.y) (datum c.in-Reduce.e))
    c.deref-else-controls_use-2.ensures.value c.datum_uses-else-controls_use-2.ensures))

pub statement_sees-returns-in-Config : goal.statement_sees-returns-in-Config
statement_sees-returns-in-Config t c =
    leaves c.args.above.now c.args.aliases.now.items c.args.y c.in-Config.is refl refl
    (by_roots (λ f. argument_uses f c.args.y (argument c.in-Config.a))
    c.deref-in-Config.ensures.value c.argument_uses.ensures)

pub statement_sees-returns-in-Pass : goal.statement_sees-returns-in-Pass
statement_sees-returns-in-Pass t c =
    leaves c.args.above.now c.args.aliases.now.items c.args.y c.in-Pass.is refl refl refl

pub statement_sees-returns-then-in_condition : goal.statement_sees-returns-then-in_condition
statement_sees-returns-then-in_condition t c =
    leaves c.args.above.now c.args.aliases.now.items c.args.y c.in-If.is
    (c.in_ok-in_second-in-If.ensures.kept ∙ c.in_ok-in_first-in-If.ensures.kept) refl
    (or_then _ c.if-in_condition.true
    (by_roots (λ f. in_condition no_name (has_root f c.args.y) (condition c.in-If.c))
    c.deref-in-If.ensures.value c.condition_uses-in_condition.ensures))

pub statement_sees-returns-then-in_first : goal.statement_sees-returns-then-in_first
statement_sees-returns-then-in_first t c =
    leaves c.args.above.now c.args.aliases.now.items c.args.y c.in-If.is
    (c.in_ok-in_second-in-If.ensures.kept ∙ c.in_ok-in_first-in-If.ensures.kept) refl
    (or_else c.if-in_condition.false
    (by_roots (λ f. in_condition no_name (has_root f c.args.y) (condition c.in-If.c))
    c.deref-in-If.ensures.value c.condition_uses-in_condition.ensures)
    (or_then _ c.if-in_first.true c.in_ok-in_first-in-If.ensures.sees))

pub statement_sees-returns-else-in_first : goal.statement_sees-returns-else-in_first
statement_sees-returns-else-in_first t c =
    leaves c.args.above.now c.args.aliases.now.items c.args.y c.in-If.is
    (c.in_ok-in_second-in-If.ensures.kept ∙ c.in_ok-in_first-in-If.ensures.kept) refl
    (or_else c.if-in_condition.false
    (by_roots (λ f. in_condition no_name (has_root f c.args.y) (condition c.in-If.c))
    c.deref-in-If.ensures.value c.condition_uses-in_condition.ensures)
    (or_else c.if-in_first.false c.in_ok-in_first-in-If.ensures.sees
    (by_roots (λ f. block_sees (program c.args.above.now.unit.now)
    (length c.args.above.now.rows.now) f (block c.in-If.b) c.args.y)
    c.in_ok-in_first-in-If.ensures.kept
    c.in_ok-in_second-in-If.ensures.sees)))

pub statement_sees-returns-then-in_lower : goal.statement_sees-returns-then-in_lower
statement_sees-returns-then-in_lower t c =
    leaves c.args.above.now c.args.aliases.now.items c.args.y c.in-For.is
    c.in_ok-in_body-in-For.ensures.kept refl
    (or_then _ c.if-in_lower.true
    (by_roots (λ f. in_control no_name (has_root f c.args.y) (control c.in-For.lo))
    c.deref-in-For.ensures.value c.control_uses-in_lower.ensures))

pub statement_sees-returns-then-in_upper : goal.statement_sees-returns-then-in_upper
statement_sees-returns-then-in_upper t c =
    leaves c.args.above.now c.args.aliases.now.items c.args.y c.in-For.is
    c.in_ok-in_body-in-For.ensures.kept refl
    (or_else c.if-in_lower.false
    (by_roots (λ f. in_control no_name (has_root f c.args.y) (control c.in-For.lo))
    c.deref-in-For.ensures.value c.control_uses-in_lower.ensures)
    (or_then _ c.if-in_upper.true
    (by_roots (λ f. in_control no_name (has_root f c.args.y) (control c.in-For.hi))
    c.deref-in-For-2.ensures.value c.control_uses-in_upper.ensures)))

pub statement_sees-returns-else-in_upper : goal.statement_sees-returns-else-in_upper
statement_sees-returns-else-in_upper t c =
    leaves c.args.above.now c.args.aliases.now.items c.args.y c.in-For.is
    c.in_ok-in_body-in-For.ensures.kept refl
    (or_else c.if-in_lower.false
    (by_roots (λ f. in_control no_name (has_root f c.args.y) (control c.in-For.lo))
    c.deref-in-For.ensures.value c.control_uses-in_lower.ensures)
    (or_else c.if-in_upper.false
    (by_roots (λ f. in_control no_name (has_root f c.args.y) (control c.in-For.hi))
    c.deref-in-For-2.ensures.value c.control_uses-in_upper.ensures)
    c.in_ok-in_body-in-For.ensures.sees))

pub statement_sees-returns-in_ok-set_root-in-Alloc : goal.statement_sees-returns-in_ok-set_root-in-Alloc
statement_sees-returns-in_ok-set_root-in-Alloc t c =
    let roots = roots_in c.args.aliases.now.items in
    let looks_here = looks c.args.above.now c.args.aliases.now.items c.args.y in
    record {
      sees = at_node (λ s. looks_here (statement s)) c.in-Alloc.is
          (by_roots (λ f. in_controls no_name (has_root f c.args.y) c.in-Alloc.dims)
          c.deref-in-Alloc.ensures.value c.controls_use-found.ensures);
      roots = at_node (λ s. roots_after (statement s) roots) c.in-Alloc.is
          c.in_ok-set_root-in-Alloc.ensures.set;
      kept = c.in_ok-set_root-in-Alloc.ensures.kept;
    }

pub statement_sees-returns-in_ok-set_root-in-View : goal.statement_sees-returns-in_ok-set_root-in-View
statement_sees-returns-in_ok-set_root-in-View t c =
    let roots = roots_in c.args.aliases.now.items in
    let looks_here = looks c.args.above.now c.args.aliases.now.items c.args.y in
    record {
      sees = at_node (λ s. looks_here (statement s)) c.in-View.is
          (by_roots (λ f. in_coords no_name (has_root f c.args.y) c.in-View.coords)
          c.deref-in-View.ensures.value c.coords_use-found.ensures);
      roots = at_node (λ s. roots_after (statement s) roots) c.in-View.is
          (c.in_ok-set_root-in-View.ensures.set ∙ ap (updated roots c.in-View.w.id.0)
          (by_same (λ f. f c.in-View.x.0) (ap roots_in c.deref-in-View-2.ensures.value)
          c.root-buffer.ensures));
      kept = c.in_ok-set_root-in-View.ensures.kept;
    }

pub statement_sees-returns-then-arguments_use : goal.statement_sees-returns-then-arguments_use
statement_sees-returns-then-arguments_use t c =
    leaves c.args.above.now c.args.aliases.now.items c.args.y c.in-Call.is refl refl
    (or_then _ c.if-arguments_use.true
    (by_roots (λ f. arguments_use f c.args.y c.in-Call.args)
    c.deref-in-Call.ensures.value c.arguments_use.ensures))

pub statement_sees-returns-else-arguments_use : goal.statement_sees-returns-else-arguments_use
statement_sees-returns-else-arguments_use t c =
    leaves c.args.above.now c.args.aliases.now.items c.args.y c.in-Call.is refl refl
    (or_else c.if-arguments_use.false
    (by_roots (λ f. arguments_use f c.args.y c.in-Call.args)
    c.deref-in-Call.ensures.value c.arguments_use.ensures)
    (by_roots (λ f. call_sees (program c.args.above.now.unit.now) (length c.args.above.now.rows.now)
    c.in-Call.k.0 f c.args.y c.in-Call.args)
    c.deref-else-arguments_use.ensures.value c.call_sees.ensures))
