use Rattle.std.proofs.Common.{[], ◌++◌, codes, flat_map, string_bytes, ap, ◌∙◌}
use Rattle.exo_tree.specs.PlainProcedure.{procedure}
use Rattle.text_show.specs.Layout.{line}
use Rattle.text_show.specs.Seen.{words_in}
use Rattle.text_show.specs.StatementText.{block_text}
use Rattle.text_show.specs.ProcedureText.{marker_text, header_text, assert_text, procedure_text}
use Rattle.text_show.proofs.Appends.{whole}
use Rattle.text_show.proofs.procedure.procedure_text.Goals as goal

pub returns : goal.returns
returns c =
    let p = procedure c.args.p.now in
    let w = words_in c.in_ok-words.words in
    whole (line [] (marker_text p.template)) (line [] (header_text w p)) (flat_map (assert_text w) p.asserts) (block_text w (codes "    ") p.body)
    (string_bytes c.put_marker.new.out) (string_bytes c.put_header.new.out) (string_bytes c.put_asserts.new.out) (string_bytes c.put_block.new.out)
    (c.in_ok-put_marker.ensures ∙ ap (λ x. x ++ line [] (marker_text p.template)) c.new-out.ensures.bytes)
    c.in_ok-put_header.ensures
    (c.in_ok-put_asserts.ensures ∙ ap (λ cs. string_bytes c.put_header.new.out ++ flat_map (assert_text w) cs) c.as_slice.ensures)
    c.in_ok-put_block.ensures
    ∙ ap (λ v. procedure_text v p) c.in_ok-words.ensures
