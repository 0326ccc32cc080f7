use Rattle.std.proofs.Common.{◌≡◌, ◌∙◌, ap, sym, map, string_bytes}
use Rattle.exo_tree.specs.PlainUnit.{program}
use Rattle.c_tree.specs.Plain.{plain_line, plain_struct, plain_function}
use Rattle.c_tree.proofs.Maps.{map_of_map}
use Rattle.c_lowering.specs.Made.LoweredUnit.{line_of, structs_of, fields_of, functions_of}
use Rattle.c_lowering.specs.Made.LoweredUnit.{global_names}
use Rattle.c_printer.specs.PlainPrinted.{printing}
use Rattle.c_printer.proofs.units.lower_file.Goals as goal

pub returns : goal.returns
returns c =
    let unit = program c.args.unit.now in
    let what = map printing c.args.what.now in
    let report : map plain_line c.in_ok-report.report.items ≡ map (line_of unit) what = c.in_ok-report.ensures ∙ sym (map_of_map (line_of unit) printing c.args.what.now) in
    let functions : map plain_function c.in_ok-functions.functions.items ≡ functions_of unit (global_names unit what) what = c.in_ok-functions.ensures ∙ ap (λ gs. functions_of unit gs what) (c.in_ok-held.ensures ∙ c.requires.globals) in
    let structs : map plain_struct c.in_ok-structs.structs.items ≡ structs_of (functions_of unit (global_names unit what) what) = c.in_ok-structs.ensures ∙ ap (λ fs. structs_of (map plain_function fs)) c.deref.ensures.value ∙ ap structs_of functions in
    let fields : map string_bytes c.in_ok-fields.fields.items ≡ fields_of unit what = c.in_ok-fields.ensures ∙ c.requires.fields in
    λ i. record { report = report i; includes = c.in_ok-includes.ensures i; structs = structs i; fields = fields i; functions = functions i }
