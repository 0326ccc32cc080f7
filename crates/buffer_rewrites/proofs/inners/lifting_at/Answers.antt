use Rattle.std.proofs.Common.{ap, sym, ◌∙◌}
use Rattle.std.proofs.lemmas.Option.{slice_get_within}
use Rattle.std.specs.Prelude.{option_map}
use Rattle.exo_tree.specs.PlainStatement.{statement}
use Rattle.buffer_rewrites.specs.PlainAlloc.{plain_alloc}
use Rattle.buffer_rewrites.specs.PlainInner.{plain_inner, plain_lifting}
use Rattle.buffer_rewrites.proofs.Lifted.{no_statement, no_alloc, alloc_there}
use Rattle.buffer_rewrites.proofs.inners.lifting_at.Goals as goal

pub returns-in_err-get : goal.returns-in_err-get
returns-in_err-get c =
    ap (option_map plain_lifting) c.from_residual.ensures
    ∙ no_statement (plain_inner c.args.inner) c.block-block.result.now c.args.index
    c.block-block.ensures (sym c.in_err-get.ensures)

pub returns-in_err-buffer : goal.returns-in_err-buffer
returns-in_err-buffer c =
    ap (option_map plain_lifting) c.from_residual-in_err-buffer.ensures
    ∙ no_alloc (plain_inner c.args.inner) c.block-block.result.now c.args.index
    c.block-block.ensures
    (statement c.in_ok-get.field-0.now) (sym c.in_ok-get.ensures) c.in_err-buffer.ensures

pub invariant_of-result : goal.invariant_of-result
invariant_of-result c = record {
  inside = slice_get_within c.block-block.result.now c.args.index
      (statement c.in_ok-get.field-0.now) (sym c.in_ok-get.ensures);
}

pub returns : goal.returns
returns c =
    alloc_there (plain_inner c.args.inner) c.block-block.result.now c.args.index
    c.block-block.ensures
    (statement c.in_ok-get.field-0.now) (sym c.in_ok-get.ensures)
    (plain_alloc c.in_ok-buffer.buffer) c.in_ok-buffer.ensures
