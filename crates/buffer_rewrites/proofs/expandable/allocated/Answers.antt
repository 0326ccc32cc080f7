use Rattle.std.proofs.Common.{ap, sym, ◌∙◌}
use Rattle.std.proofs.lemmas.Option.{slice_get_within}
use Rattle.std.specs.Prelude.{option_map}
use Rattle.exo_tree.specs.PlainStatement.{statement}
use Rattle.buffer_rewrites.specs.PlainAlloc.{plain_alloc}
use Rattle.buffer_rewrites.specs.PlainAllocated.{plain_allocated}
use Rattle.buffer_rewrites.proofs.Expanded.{no_first, first_no_alloc, first_alloc}
use Rattle.buffer_rewrites.proofs.expandable.allocated.Goals as goal

pub returns-in_err-get : goal.returns-in_err-get
returns-in_err-get c =
    ap (option_map plain_allocated) c.from_residual.ensures
    ∙ no_first c.args.b.now (sym c.in_err-get.ensures)

pub returns-in_err-buffer : goal.returns-in_err-buffer
returns-in_err-buffer c =
    ap (option_map plain_allocated) c.from_residual-in_err-buffer.ensures
    ∙ first_no_alloc c.args.b.now (statement c.in_ok-get.field-0.now) (sym c.in_ok-get.ensures)
    c.in_err-buffer.ensures

pub invariant_of-result : goal.invariant_of-result
invariant_of-result c = record {
  inside = slice_get_within c.args.b.now 0 (statement c.in_ok-get.field-0.now)
      (sym c.in_ok-get.ensures);
}

pub returns : goal.returns
returns c =
    first_alloc c.args.b.now (statement c.in_ok-get.field-0.now) (sym c.in_ok-get.ensures)
    (plain_alloc c.in_ok-buffer.buffer)
    c.in_ok-buffer.ensures
