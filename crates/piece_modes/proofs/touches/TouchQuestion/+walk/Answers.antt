use Rattle.std.proofs.Common.{◌≡◌, ℕ, Bool, List, ◌+◌, ◌||◌, ◌==◌, false, take, drop, length, ap, ap₂}
use Rattle.std.proofs.Common.{sym, ◌∙◌, refl, arith, Result, IsErr, IfOk, OnOk}
use Rattle.std.proofs.lemmas.List.{take_all}
use Rattle.std.proofs.lemmas.Result.{IfOk-from_err, on_ok_weaker}
use Rattle.exo_tree.specs.Tree.{Statement, block}
use Rattle.exo_tree.specs.declared.block.Stmt.{Stmt}
use Rattle.exo_tree.specs.declared.block.Stmt.TheVariants.{Assign, Reduce, Config, Pass, If, For, Alloc, View, Call}
use Rattle.exo_tree.specs.declared.block.Block.TheDeep.{deep-Stmt}
use Rattle.exo_tree.specs.Falls.{deep_le-nodes}
use Rattle.exo_tree.specs.PlainDatum.{datum}
use Rattle.exo_tree.specs.PlainStatement.{statement}
use Rattle.exo_tree.specs.PlainUnit.{program}
use Rattle.exo_meaning.specs.Scene.{updated}
use Rattle.exo_meaning.specs.Run.{roots_after}
use Rattle.exo_meaning.specs.Modes.{picked, reads_from}
use Rattle.exo_modes.specs.Aliases.{roots_in}
use Rattle.exo_modes.specs.declared.aliases.Alias.{Alias}
use Rattle.piece_modes.specs.PlainMode.{plain_mode}
use Rattle.piece_modes.specs.Touching.{call_touches, step_touches, block_touches}
use Rattle.piece_modes.specs.declared.touches.TouchQuestion.{TouchQuestion}
use Rattle.piece_modes.proofs.Found.{at_node, by_same, by_roots, or_then, or_else, or_true}
use Rattle.piece_modes.proofs.Found.{or_false, ok_told, found_on, found_all, same_kept, kept_on, leaves_names}
use Rattle.piece_modes.proofs.touches.TouchQuestion.+walk.Goals as goal
use Rattle.piece_modes.proofs.touches.TouchQuestion.+walk.Goals.{block_touches-then-found, block_touches-else-found}

-- an error says nothing of what follows `Ok`
refused : {A E : Type 0} (r : Result A E) (P : A → Type 0) (Q R : Type 0) → IsErr r
    → record { touches : IfOk r P; roots : OnOk r Q; kept : OnOk r R }
refused r P Q R e = record {
  touches = IfOk-from_err r P e;
  roots = IfOk-from_err r _ e;
  kept = IfOk-from_err r _ e;
}

module _ (question : TouchQuestion) (items : List Alias) where
  abbrev touched : Statement → Bool
  touched a =
      step_touches (program question.unit.now) (plain_mode question.mode) (roots_in items) a
      question.buffer

  -- a statement that leaves the names as they are
  leaves : {s a : Stmt} {new : List Alias} {here : Bool} → s ≡ a → new ≡ items
      → roots_in items ≡ roots_after (statement a) (roots_in items) → here ≡ touched (statement a)
      → record {
        touches : here ≡ touched (statement s);
        roots : roots_in new ≡ roots_after (statement s) (roots_in items);
        kept : take (length items) new ≡ items;
      }
  leaves is same none e =
      let w = leaves_names touched items is same none e in
      record { touches = w.told; roots = w.roots; kept = w.kept }

  -- one that touches nothing and binds nothing
  abbrev Skipped : Stmt → Type 0
  Skipped s =
      (false ≡ touched (statement s))
      × (roots_in items ≡ roots_after (statement s) (roots_in items))

pub block_touches-loop-k-init : goal.block_touches-loop-k-init
block_touches-loop-k-init t c =
    (refl, (take_all _ _ (omega (arith, c.len-known.ensures)), omega (arith, c.len-known.ensures)))

pub block_touches-statement-requires : goal.block_touches-statement-requires
block_touches-statement-requires t c = omega (arith, c.len-k-end.ensures)

pub block_touches-statement_touches-requires : goal.block_touches-statement_touches-requires
block_touches-statement_touches-requires t c =
    (omega (arith, c.statement.ensures.smaller, deep_le-nodes c.statement.result.now), tt)

pub block_touches-returns-in_err-here : goal.block_touches-returns-in_err-here
block_touches-returns-in_err-here t c =
    let e = c.from_residual in
    record { touches = IfOk-from_err e.result _ e.ensures.0; kept = IfOk-from_err e.result _ e.ensures.0 }

pub block_touches-loop-k-smaller : goal.block_touches-loop-k-smaller
block_touches-loop-k-smaller t c = omega arith

pub block_touches-loop-k-preserved : goal.block_touches-loop-k-preserved
block_touches-loop-k-preserved t c =
    let y = c.args.self.now.buffer in
    let u = program c.args.self.now.unit.now in
    let m = plain_mode c.args.self.now.mode in
    let seen = λ (f : ℕ → ℕ) (ss : List Statement). block_touches u m f (block ss) y in
    let more : c.if-found.found ≡ (c.loop-k.found || c.in_ok-here.here) = elim c.if-found.branch [
      | block_touches-then-found w ↦ or_true _ w.if-found.true (w.found-is ∙ w.if-found.true)
      | block_touches-else-found w ↦ or_false w.if-found.false w.found-is
    ] in
    let a = statement c.statement.result.now in
    let rest = drop (c.loop-k.k + 1) c.args.b.now in
    let roots = roots_in c.loop-k.aliases.items in
    let step = ap (λ b. b || seen (roots_after a roots) rest) (sym c.in_ok-here.ensures.touches) in
    let inv = c.loop-k.invariant in (
      found_on seen roots _ _ rest a c.loop-k.found c.in_ok-here.here _ _
          c.statement.ensures.value c.in_ok-here.ensures.roots more step inv.0,
      kept_on _ c.loop-k.aliases.items _ _ inv.1.0 inv.1.1 c.in_ok-here.ensures.kept,
    )

pub block_touches-returns : goal.block_touches-returns
block_touches-returns t c =
    let y = c.args.self.now.buffer in
    let u = program c.args.self.now.unit.now in
    let m = plain_mode c.args.self.now.mode in
    let roots = roots_in c.loop-k.aliases.items in
    let inv = c.loop-k.invariant in
    record {
      touches = found_all (λ ss. block_touches u m roots (block ss) y) c.args.b.now c.loop-k.k _ _
          (omega (arith, c.len-k-end.ensures)) refl inv.0;
      kept = c.truncate.ensures.items ∙ inv.1.0;
    }

pub statement_touches-block_touches-requires : goal.statement_touches-block_touches-requires
statement_touches-block_touches-requires t c = (omega (arith, ap deep-Stmt c.in-If.is), tt)

pub statement_touches-block_touches-requires-in-If : goal.statement_touches-block_touches-requires-in-If
statement_touches-block_touches-requires-in-If t c = (omega (arith, ap deep-Stmt c.in-If.is), tt)

pub statement_touches-block_touches-requires-in-For : goal.statement_touches-block_touches-requires-in-For
statement_touches-block_touches-requires-in-For t c = (omega (arith, ap deep-Stmt c.in-For.is), tt)

pub statement_touches-returns-in_err-in_first-in-If : goal.statement_touches-returns-in_err-in_first-in-If
statement_touches-returns-in_err-in_first-in-If t c =
    let e = c.from_residual in refused e.result _ _ _ e.ensures.0

pub statement_touches-returns-in_err-in_second-in-If : goal.statement_touches-returns-in_err-in_second-in-If
statement_touches-returns-in_err-in_second-in-If t c =
    let e = c.from_residual-in_err-in_second-in-If in refused e.result _ _ _ e.ensures.0

pub statement_touches-returns-in_err-set_root-in-Alloc : goal.statement_touches-returns-in_err-set_root-in-Alloc
statement_touches-returns-in_err-set_root-in-Alloc t c =
    let e = c.from_residual-in_err-set_root-in-Alloc in refused e.result _ _ _ e.ensures.0

pub statement_touches-returns-in_err-set_root-in-View : goal.statement_touches-returns-in_err-set_root-in-View
statement_touches-returns-in_err-set_root-in-View t c =
    let e = c.from_residual-in_err-set_root-in-View in refused e.result _ _ _ e.ensures.0

pub statement_touches-returns-in-Assign : goal.statement_touches-returns-in-Assign
statement_touches-returns-in-Assign t c =
    leaves c.args.self.now c.args.aliases.now.items c.in-Assign.is refl refl
    (c.picked.ensures
    ∙ ap₂ (λ r x. picked (plain_mode c.args.self.now.mode) r (c.args.self.now.buffer == x) false)
    (by_roots (λ f. reads_from f (datum c.in-Assign.e) c.args.self.now.buffer)
    c.deref.ensures.value c.reads_from-reads.ensures)
    (by_same (λ f. f c.in-Assign.x.0) (ap roots_in c.deref-in-Assign.ensures.value) c.root.ensures))

pub statement_touches-returns-in-Reduce : goal.statement_touches-returns-in-Reduce
statement_touches-returns-in-Reduce t c =
    leaves c.args.self.now c.args.aliases.now.items c.in-Reduce.is refl refl
    (c.picked-in-Reduce.ensures
    ∙ ap₂ (λ r x. picked (plain_mode c.args.self.now.mode) r false (c.args.self.now.buffer == x))
    (by_roots (λ f. reads_from f (datum c.in-Reduce.e) c.args.self.now.buffer)
    c.deref-in-Reduce.ensures.value c.reads_from-reads-in-Reduce.ensures)
    (by_same (λ f. f c.in-Reduce.x.0) (ap roots_in c.deref-in-Reduce-2.ensures.value)
    c.root-in-Reduce.ensures))

pub statement_touches-returns-then-in_first : goal.statement_touches-returns-then-in_first
statement_touches-returns-then-in_first t c =
    leaves c.args.self.now c.args.aliases.now.items c.in-If.is
    (c.in_ok-in_second-in-If.ensures.kept ∙ c.in_ok-in_first-in-If.ensures.kept) refl
    (or_then _ c.if-in_first.true c.in_ok-in_first-in-If.ensures.touches)

pub statement_touches-returns-else-in_first : goal.statement_touches-returns-else-in_first
statement_touches-returns-else-in_first t c =
    leaves c.args.self.now c.args.aliases.now.items c.in-If.is
    (c.in_ok-in_second-in-If.ensures.kept ∙ c.in_ok-in_first-in-If.ensures.kept) refl
    (or_else c.if-in_first.false c.in_ok-in_first-in-If.ensures.touches
    (by_roots (λ f. block_touches (program c.args.self.now.unit.now)
    (plain_mode c.args.self.now.mode) f (block c.in-If.b) c.args.self.now.buffer)
    c.in_ok-in_first-in-If.ensures.kept c.in_ok-in_second-in-If.ensures.touches))

pub statement_touches-returns-in-For : goal.statement_touches-returns-in-For
statement_touches-returns-in-For t c =
    let touched_here = touched c.args.self.now c.args.aliases.now.items in
    let roots = roots_in c.args.aliases.now.items in
    let r = c.block_touches-in-For.result in
    let inner = c.block_touches-in-For.ensures in
    let is = sym c.in-For.is in
    record {
      touches = ok_told r _ _ (ap (λ s. touched_here (statement s)) is) inner.touches;
      roots = on_ok_weaker r (λ e. ap roots_in e ∙ ap (λ s. roots_after (statement s) roots) is)
          inner.kept;
      kept = on_ok_weaker r (λ e. same_kept _ _ e) inner.kept;
    }

pub statement_touches-returns-in_ok-set_root-in-Alloc : goal.statement_touches-returns-in_ok-set_root-in-Alloc
statement_touches-returns-in_ok-set_root-in-Alloc t c =
    let touched_here = touched c.args.self.now c.args.aliases.now.items in
    let roots = roots_in c.args.aliases.now.items in
    record {
      touches = at_node (λ s. touched_here (statement s)) c.in-Alloc.is c.picked-in-Alloc.ensures;
      roots = at_node (λ s. roots_after (statement s) roots) c.in-Alloc.is
          c.in_ok-set_root-in-Alloc.ensures.set;
      kept = c.in_ok-set_root-in-Alloc.ensures.kept;
    }

pub statement_touches-returns-in_ok-set_root-in-View : goal.statement_touches-returns-in_ok-set_root-in-View
statement_touches-returns-in_ok-set_root-in-View t c =
    let touched_here = touched c.args.self.now c.args.aliases.now.items in
    let roots = roots_in c.args.aliases.now.items in
    record {
      touches = at_node (λ s. touched_here (statement s)) c.in-View.is refl;
      roots = at_node (λ s. roots_after (statement s) roots) c.in-View.is
          (c.in_ok-set_root-in-View.ensures.set ∙ ap (updated roots c.in-View.w.id.0)
          (by_same (λ f. f c.in-View.x.0) (ap roots_in c.deref-in-View.ensures.value)
          c.root-buffer.ensures));
      kept = c.in_ok-set_root-in-View.ensures.kept;
    }

pub statement_touches-returns-in-Call : goal.statement_touches-returns-in-Call
statement_touches-returns-in-Call t c =
    leaves c.args.self.now c.args.aliases.now.items c.in-Call.is refl refl
    (by_roots (λ f. call_touches (program c.args.self.now.unit.now)
    (plain_mode c.args.self.now.mode) f c.in-Call.k.0 c.in-Call.args c.args.self.now.buffer)
    c.deref-in-Call.ensures.value c.call_touches.ensures)

pub statement_touches-returns-in_default : goal.statement_touches-returns-in_default
statement_touches-returns-in_default t c =
    let o = c.in_default in
    let p = (elim c.args.s.now as (λ (s : Stmt). c.args.s.now ≡ s → Skipped c.args.self.now c.args.aliases.now.items s) [
      | Assign x is d ↦ λ e. absurd (o.not-Assign x is d e)
      | Reduce x is d ↦ λ e. absurd (o.not-Reduce x is d e)
      | If b p q ↦ λ e. absurd (o.not-If b p q e)
      | For i lo hi b ↦ λ e. absurd (o.not-For i lo hi b e)
      | Alloc x k dims h ↦ λ e. absurd (o.not-Alloc x k dims h e)
      | View w x cs ↦ λ e. absurd (o.not-View w x cs e)
      | Call k gs ↦ λ e. absurd (o.not-Call k gs e)
      | Config f a ↦ λ e. (refl, refl)
      | Pass ↦ λ e. (refl, refl)
    ]) refl in
    leaves c.args.self.now c.args.aliases.now.items refl refl p.1 p.0
