use Rattle.std.proofs.Common.{◌≡◌, ◌+◌, codes, drop, string_bytes, ap, sym, ◌∙◌, ◌++◌}
use Rattle.std.proofs.lemmas.Result.{on_ok_weaker}
use Rattle.exo_tree.specs.Tree.{block}
use Rattle.exo_tree.specs.PlainStatement.{statement}
use Rattle.text_show.specs.Layout.{line}
use Rattle.text_show.specs.Seen.{words_in}
use Rattle.text_show.specs.StatementText.{or_else, head_text, block_text, inner_text}
use Rattle.text_show.proofs.Appends.{more, lines_on}
use Rattle.text_show.proofs.Branches.{or_else_full}
use Rattle.text_show.proofs.statement.+block.Goals as goal

pub put_other-returns : goal.put_other-returns
put_other-returns t c =
    let out = string_bytes c.args.out.now in
    let other = block_text (words_in c.args.words.now) c.args.inner.now (block c.args.other.now) in
    let full = or_else_full c.args.indent.now other c.args.other.now (λ e. c.if-len-eq0.false (c.len.ensures ∙ e)) in
    on_ok_weaker {P = string_bytes c.put_block.new.out ≡ string_bytes c.put_line.new.out ++ other}
    {Q = string_bytes c.put_block.new.out ≡ out ++ or_else c.args.indent.now (block c.args.other.now) other} c.put_block.result
    (λ e. more out (line c.args.indent.now (codes "else:")) other _ _ c.in_ok-put_line.ensures e ∙ ap (λ x. out ++ x) (sym full)) c.put_block.ensures

pub put_block-loop-k-preserved : goal.put_block-loop-k-preserved
put_block-loop-k-preserved t c =
    let w = words_in c.args.words.now in
    let indent = c.args.indent.now in
    let s = statement c.statement-s.result.now in
    lines_on (string_bytes c.loop-k.out) indent (head_text w s) (codes "\n") (inner_text w indent s)
    (block_text w indent (block (drop (c.loop-k.k + 1) c.args.b.now)))
    (string_bytes c.push_str.new.self) (string_bytes c.put_head.new.out) (string_bytes c.push_str-in-loop-k.new.self)
    (string_bytes c.put_inner.new.out)
    c.in_ok-push_str.ensures.bytes c.in_ok-put_head.ensures c.in_ok-push_str-2.ensures.bytes c.in_ok-put_inner.ensures
    ∙ ap (λ ys. string_bytes c.loop-k.out ++ block_text w indent (block ys)) (sym c.statement-s.ensures.value) ∙ c.loop-k.invariant
