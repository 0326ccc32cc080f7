use Rattle.std.proofs.Common.{◌≡◌, ◌∙◌, ◌+◌, ◌&&◌, max, drop, refl, ap, ap₂, sym, subst, IfOk, true}
use Rattle.std.proofs.Common.{false, arith}
use Rattle.std.specs.Prelude.{slice_get}
use Rattle.std.proofs.lemmas.Bool.{false≢true}
use Rattle.std.proofs.lemmas.Result.{IfOk-weaker}
use Rattle.exo_meaning.specs.Scene.{updated}
use Rattle.exo_tree.specs.Nodes.{nodes}
use Rattle.exo_tree.specs.Tree.{block, next}
use Rattle.exo_tree.specs.PlainControl.{control}
use Rattle.exo_tree.specs.PlainDatum.{datum}
use Rattle.exo_tree.specs.PlainStatement.{statement}
use Rattle.c_widths.specs.Bounds.{most_in}
use Rattle.c_widths.specs.Magnitude.{magnitude}
use Rattle.c_widths.specs.Widths.{are_narrow, is_narrow_datum, fits_stack, with_bounds}
use Rattle.c_widths.specs.Widths.{is_narrow_block, is_narrow_statement}
use Rattle.c_widths.specs.Raises.{raised, step_raised}
use Rattle.c_widths.specs.Given.{IsChanged}
use Rattle.c_widths.proofs.Growing.{nothing_left}
use Rattle.c_widths.proofs.Changes.{not_changed, changed_then, block_is_local, block_changed}
use Rattle.c_widths.proofs.Changes.{block_left}
use Rattle.c_widths.proofs.Parts.{of_either, ok_same}
use Rattle.c_widths.proofs.statements.+narrow.Goals as goal

pub fits_block-loop-k-preserved : goal.fits_block-loop-k-preserved
fits_block-loop-k-preserved t c =
    let most = most_in c.args.bounds.now in
    let a = statement c.statement.result.now in
    let rest = block (drop (c.loop-k.k + 1) c.args.b.now) in
    let e : block (drop c.loop-k.k c.args.b.now) ≡ next a rest = ap block c.statement.ensures.value in
    let fits : is_narrow_statement c.args.memories.now most a ≡ true = sym c.in_ok-fits_statement.ensures.narrow ∙ c.if-not-branch.false in
    record {
      narrow = sym (block_left c.args.memories.now most (block (drop c.loop-k.k c.args.b.now)) rest a true e fits) ∙ c.loop-k.invariant.narrow;
      given = λ new h. c.loop-k.invariant.given new
          (block_changed most (block (drop c.loop-k.k c.args.b.now)) rest a c.loop-k.given c.fits_statement.new.given new e (c.in_ok-fits_statement.ensures.given c.if-not-branch.false) h);
    }

pub fits_block-returns-clause-given : goal.fits_block-returns-clause-given
fits_block-returns-clause-given t c =
    λ e. c.loop-k.invariant.given c.loop-k.given (subst (λ l. IsChanged (raised (most_in c.args.bounds.now) (block l)) c.loop-k.given c.loop-k.given) (sym (nothing_left c.loop-k.k c.args.b.now (omega arith))) (not_changed c.loop-k.given))

pub fits_branches-returns-clause-given : goal.fits_branches-returns-clause-given
fits_branches-returns-clause-given t c =
    let most = most_in c.args.bounds.now in
    let new = c.fits_block-2.new.given in
    IfOk-weaker c.fits_block-2.result (λ t. t ≡ true → IsChanged (raised most (block c.args.b.now)) c.fits_block.new.given new) (λ t. t ≡ true → IsChanged (λ old. raised most (block c.args.b.now) (raised most (block c.args.a.now) old)) c.args.given.now new)
    (λ t change e. changed_then (raised most (block c.args.a.now)) (raised most (block c.args.b.now)) c.args.given.now c.fits_block.new.given new (block_is_local most (block c.args.b.now)) (c.in_ok-fits_block.ensures.given c.if-not-branch.false) (change e))
    c.fits_block-2.ensures.given

pub fits_statement-returns-else-not-is_narrow_test-clause-given : goal.fits_statement-returns-else-not-is_narrow_test-clause-given
fits_statement-returns-else-not-is_narrow_test-clause-given t c = subst (λ s. IfOk c.fits_branches.result (λ b. b ≡ true → IsChanged (step_raised (most_in c.args.bounds.now) (statement s)) c.args.given.now c.fits_branches.new.given)) (sym c.in-If.is) c.fits_branches.ensures.given

pub fits_statement-returns-in-For-clause-narrow : goal.fits_statement-returns-in-For-clause-narrow
fits_statement-returns-in-For-clause-narrow t c = subst (λ s. IfOk c.fits_loop.result (λ b. b ≡ is_narrow_statement c.args.memories.now (most_in c.args.bounds.now) (statement s))) (sym c.in-For.is) c.fits_loop.ensures.narrow

pub fits_block-returns-clause-narrow : goal.fits_block-returns-clause-narrow
fits_block-returns-clause-narrow t c =
    sym (ap (λ l. is_narrow_block c.args.memories.now (most_in c.args.bounds.now) (block l))
    (nothing_left c.loop-k.k c.args.b.now (omega arith))) ∙ c.loop-k.invariant.narrow

pub fits_block-returns-then-not-branch : goal.fits_block-returns-then-not-branch
fits_block-returns-then-not-branch t c =
    let most = most_in c.args.bounds.now in
    let a = statement c.statement.result.now in
    let rest = block (drop (c.loop-k.k + 1) c.args.b.now) in
    let e : block (drop c.loop-k.k c.args.b.now) ≡ next a rest = ap block
    c.statement.ensures.value in
    let fits : is_narrow_statement c.args.memories.now most a ≡ false =
    sym c.in_ok-fits_statement.ensures.narrow ∙ c.if-not-branch.true in
    record {
      narrow = sym (block_left c.args.memories.now most (block (drop c.loop-k.k c.args.b.now)) rest
          a false e fits) ∙ c.loop-k.invariant.narrow;
      given = λ e. absurd (false≢true e);
    }

pub fits_branches-returns-then-not-branch : goal.fits_branches-returns-then-not-branch
fits_branches-returns-then-not-branch t c =
    let second = is_narrow_block c.args.memories.now (most_in c.args.bounds.now)
    (block c.args.b.now) in
    record {
      narrow = ap (λ x. x && second) (sym c.if-not-branch.true ∙ c.in_ok-fits_block.ensures.narrow);
      given = λ e. absurd (false≢true e);
    }

pub fits_branches-returns-clause-narrow : goal.fits_branches-returns-clause-narrow
fits_branches-returns-clause-narrow t c =
    let second = is_narrow_block c.args.memories.now (most_in c.args.bounds.now)
    (block c.args.b.now) in
    ok_same c.fits_block-2.result
    (ap (λ x. x && second) (sym c.if-not-branch.false ∙ c.in_ok-fits_block.ensures.narrow))
    c.fits_block-2.ensures.narrow

pub fits_loop-returns-in_default : goal.fits_loop-returns-in_default
fits_loop-returns-in_default t c =
    let most = most_in c.args.bounds.now in
    let inner = with_bounds most c.args.i.now.id.0 (control c.args.lo.now)
    (control c.args.hi.now) in
    let body = is_narrow_block c.args.memories.now inner (block c.args.body.now) in
    record {
      narrow = ap₂ (λ s t. s && t && body) c.in_default.ensures.there c.in_default.ensures'.there;
      given = λ e. absurd (false≢true e);
    }

pub fits_loop-returns : goal.fits_loop-returns
fits_loop-returns t c =
    let most = most_in c.args.bounds.now in
    let low = control c.args.lo.now in
    let high = control c.args.hi.now in
    let body = block c.args.body.now in
    let inner = with_bounds most c.args.i.now.id.0 low high in
    let greatest : c.max.result ≡ max (magnitude most low) (magnitude most high) = c.max.ensures
    ∙ ap₂ max c.in-Some-Some.ensures.value c.in-Some-Some.ensures'.value in
    let same : most_in c.deref.result.now ≡ inner = ap most_in
    (c.deref.ensures.value ∙ c.in_ok-inner.ensures)
    ∙ ap (updated most c.args.i.now.id.0) greatest in
    let both = ap₂ (λ s t. s && t && is_narrow_block c.args.memories.now inner body)
    c.in-Some-Some.ensures.there c.in-Some-Some.ensures'.there in
    record {
      narrow = ok_same c.fits_block.result
          (ap (λ f. is_narrow_block c.args.memories.now f body) same ∙ both)
          c.fits_block.ensures.narrow;
      given = subst (λ f. IfOk c.fits_block.result
          (λ t. t ≡ true → IsChanged (raised f body) c.args.given.now c.fits_block.new.given)) same
          c.fits_block.ensures.given;
    }

pub fits_statement-fits_branches-requires : goal.fits_statement-fits_branches-requires
fits_statement-fits_branches-requires t c =
    (omega (arith, ap (λ s. nodes (statement s)) c.in-If.is), tt)

pub fits_statement-fits_loop-requires : goal.fits_statement-fits_loop-requires
fits_statement-fits_loop-requires t c =
    (omega (arith, ap (λ s. nodes (statement s)) c.in-For.is), tt)

pub fits_statement-returns-then-not-is_narrow_test :
    goal.fits_statement-returns-then-not-is_narrow_test
fits_statement-returns-then-not-is_narrow_test t c =
    let most = most_in c.args.bounds.now in
    let first = is_narrow_block c.args.memories.now most (block c.in-If.a) in
    let second = is_narrow_block c.args.memories.now most (block c.in-If.b) in
    record {
      narrow = ap (λ x. x && first && second)
          (sym c.if-not-is_narrow_test.true ∙ c.is_narrow_test.ensures)
          ∙ sym (ap (λ s. is_narrow_statement c.args.memories.now most (statement s)) c.in-If.is);
      given = λ e. absurd (false≢true e);
    }

pub fits_statement-returns-else-not-is_narrow_test-clause-narrow :
    goal.fits_statement-returns-else-not-is_narrow_test-clause-narrow
fits_statement-returns-else-not-is_narrow_test-clause-narrow t c =
    let most = most_in c.args.bounds.now in
    let first = is_narrow_block c.args.memories.now most (block c.in-If.a) in
    let second = is_narrow_block c.args.memories.now most (block c.in-If.b) in
    ok_same c.fits_branches.result
    (ap (λ x. x && first && second) (sym c.if-not-is_narrow_test.false ∙ c.is_narrow_test.ensures)
    ∙ sym (ap (λ s. is_narrow_statement c.args.memories.now most (statement s)) c.in-If.is))
    c.fits_branches.ensures.narrow

pub fits_statement-returns-in-For-clause-given : goal.fits_statement-returns-in-For-clause-given
fits_statement-returns-in-For-clause-given t c = subst
    (λ s. IfOk c.fits_loop.result
    (λ b. b ≡ true → IsChanged (step_raised (most_in c.args.bounds.now) (statement s))
    c.args.given.now c.fits_loop.new.given)) (sym c.in-For.is) c.fits_loop.ensures.given

pub fits_statement-returns-in-Config : goal.fits_statement-returns-in-Config
fits_statement-returns-in-Config t c =
    let most = most_in c.args.bounds.now in
    record {
      narrow = c.is_narrow_setting.ensures
          ∙ sym (ap (λ s. is_narrow_statement c.args.memories.now most (statement s))
          c.in-Config.is);
      given = λ e. subst (λ s. IsChanged (step_raised most (statement s)) c.args.given.now
          c.args.given.now) (sym c.in-Config.is) (not_changed c.args.given.now);
    }

pub fits_statement-returns-in-View : goal.fits_statement-returns-in-View
fits_statement-returns-in-View t c =
    let most = most_in c.args.bounds.now in
    record {
      narrow = c.are_narrow_coords.ensures
          ∙ sym (ap (λ s. is_narrow_statement c.args.memories.now most (statement s)) c.in-View.is);
      given = λ e. subst (λ s. IsChanged (step_raised most (statement s)) c.args.given.now
          c.args.given.now) (sym c.in-View.is) (not_changed c.args.given.now);
    }

pub fits_statement-returns-in-Pass : goal.fits_statement-returns-in-Pass
fits_statement-returns-in-Pass t c =
    let most = most_in c.args.bounds.now in
    record {
      narrow = sym (ap (λ s. is_narrow_statement c.args.memories.now most (statement s))
          c.in-Pass.is);
      given = λ e. subst (λ s. IsChanged (step_raised most (statement s)) c.args.given.now
          c.args.given.now) (sym c.in-Pass.is) (not_changed c.args.given.now);
    }

pub fits_statement-returns-in-Call : goal.fits_statement-returns-in-Call
fits_statement-returns-in-Call t c =
    let most = most_in c.args.bounds.now in
    record {
      narrow = c.fits_call.ensures.narrow
          ∙ sym (ap (λ s. is_narrow_statement c.args.memories.now most (statement s)) c.in-Call.is);
      given = λ e. subst (λ s. IsChanged (step_raised most (statement s)) c.args.given.now
          c.fits_call.new.given) (sym c.in-Call.is) (c.fits_call.ensures.given e);
    }

pub fits_statement-returns-in-Assign : goal.fits_statement-returns-in-Assign
fits_statement-returns-in-Assign t c =
    let most = most_in c.args.bounds.now in
    record {
      narrow = c.is_narrow_store.ensures
          ∙ sym (of_either (λ s. is_narrow_statement c.args.memories.now most (statement s))
          (are_narrow most c.in-Assign.is' && is_narrow_datum most (datum c.in-Assign.e))
          c.in-Assign.is (λ x. refl) (λ x. refl));
      given = λ e. subst (λ change. IsChanged change c.args.given.now c.args.given.now)
          (sym (of_either (λ s. step_raised most (statement s)) (λ given. given) c.in-Assign.is
          (λ x. refl) (λ x. refl))) (not_changed c.args.given.now);
    }

pub fits_statement-returns-then-are_narrow : goal.fits_statement-returns-then-are_narrow
fits_statement-returns-then-are_narrow t c =
    let most = most_in c.args.bounds.now in
    record {
      narrow = ap₂ (λ x y. x && y) (sym c.if-are_narrow.true ∙ c.are_narrow.ensures)
          c.fits_stack.ensures ∙ sym (ap
          (λ s. is_narrow_statement c.args.memories.now most (statement s)) c.in-Alloc.is);
      given = λ e. subst (λ s. IsChanged (step_raised most (statement s)) c.args.given.now
          c.args.given.now) (sym c.in-Alloc.is) (not_changed c.args.given.now);
    }

pub fits_statement-returns-else-are_narrow : goal.fits_statement-returns-else-are_narrow
fits_statement-returns-else-are_narrow t c =
    let most = most_in c.args.bounds.now in
    let stack = fits_stack (slice_get c.args.memories.now c.in-Alloc.memory.0) most
    c.in-Alloc.dims in
    record {
      narrow = c.if-are_narrow.false
          ∙ ap (λ x. x && stack) (sym c.if-are_narrow.false ∙ c.are_narrow.ensures)
          ∙ sym (ap (λ s. is_narrow_statement c.args.memories.now most (statement s))
          c.in-Alloc.is);
      given = λ e. subst (λ s. IsChanged (step_raised most (statement s)) c.args.given.now
          c.args.given.now) (sym c.in-Alloc.is) (not_changed c.args.given.now);
    }
