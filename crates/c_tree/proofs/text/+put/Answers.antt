use Rattle.std.proofs.Common.{codes, string_bytes, ap, sym, ◌∙◌, ◌++◌}
use Rattle.c_tree.specs.CTree.{cblock}
use Rattle.c_tree.specs.CText.{block_text}
use Rattle.c_tree.proofs.Appends.{three}
use Rattle.c_tree.proofs.Blocks.{or_else_full}
use Rattle.c_tree.proofs.text.+put.Goals as goal
use Rattle.text_show.specs.Layout.{line}

pub put_other-returns : goal.put_other-returns
put_other-returns t c =
    three (string_bytes c.args.out.now) (line c.args.indent.now (codes "} else {")) (block_text c.args.inner.now (cblock c.args.other.now)) (line c.args.indent.now (codes "}")) _ _ _ c.in_ok-put_line.ensures c.in_ok-put_block.ensures c.in_ok-put_line-2.ensures
    ∙ ap (λ x. string_bytes c.args.out.now ++ x) (sym (or_else_full c.args.indent.now (block_text c.args.inner.now (cblock c.args.other.now)) c.args.other.now (sym c.is_empty.ensures ∙ c.if-is_empty.false)))
