use Rattle.std.proofs.Common.{[], ◌++◌, codes, map, string_bytes, ap, ◌∙◌}
use Rattle.c_tree.specs.CText.{margin, each, report_text, preamble_text, struct_text, field_text, function_text}
use Rattle.c_tree.specs.Plain.{plain_line, plain_struct, plain_function}
use Rattle.c_tree.proofs.Appends.{whole}
use Rattle.c_tree.proofs.text.c_text.Goals as goal

pub returns : goal.returns
returns c =
    whole (margin (codes "/* exoc")) (each report_text (map plain_line c.args.c.now.report.items)) (margin (codes " */")) (preamble_text (map string_bytes c.args.c.now.includes.items)) (each struct_text (map plain_struct c.args.c.now.structs.items)) (each field_text (map string_bytes c.args.c.now.fields.items)) (each (λ f. margin [] ++ function_text f) (map plain_function c.args.c.now.functions.items))
    (string_bytes c.put_margin.new.out) (string_bytes c.put_report.new.out) (string_bytes c.put_margin-2.new.out) (string_bytes c.put_preamble.new.out) (string_bytes c.put_structs.new.out) (string_bytes c.put_fields.new.out) (string_bytes c.put_functions.new.out)
    (c.in_ok-put_margin.ensures ∙ ap (λ x. x ++ margin (codes "/* exoc")) c.new-out.ensures.bytes)
    (c.in_ok-put_report.ensures ∙ ap (λ xs. string_bytes c.put_margin.new.out ++ each report_text (map plain_line xs)) c.deref.ensures.value)
    c.in_ok-put_margin-2.ensures
    (c.in_ok-put_preamble.ensures ∙ ap (λ xs. string_bytes c.put_margin-2.new.out ++ preamble_text (map string_bytes xs)) c.deref-2.ensures.value)
    (c.in_ok-put_structs.ensures ∙ ap (λ xs. string_bytes c.put_preamble.new.out ++ each struct_text (map plain_struct xs)) c.deref-3.ensures.value)
    (c.in_ok-put_fields.ensures ∙ ap (λ xs. string_bytes c.put_structs.new.out ++ each field_text (map string_bytes xs)) c.deref-4.ensures.value)
    (c.in_ok-put_functions.ensures ∙ ap (λ xs. string_bytes c.put_fields.new.out ++ each (λ f. margin [] ++ function_text f) (map plain_function xs)) c.deref-5.ensures.value)
