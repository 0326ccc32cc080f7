use Rattle.std.proofs.Common.{◌≡◌, ◌∙◌, ap, sym, map, string_bytes, slice_get}
use Rattle.exo_tree.specs.Named.{name_of}
use Rattle.c_lowering.specs.Made.LoweredUnit.{named_field, field_word}
use Rattle.c_tree.proofs.Maps.{map_of_map}
use Rattle.c_printer.proofs.report.report_line.Goals as goal

pub returns : goal.returns
returns c =
    let fields = c.args.unit.now.fields in
    let name : string_bytes c.in_ok-name.name ≡ name_of (slice_get c.args.unit.now.procs c.args.w.now.proc.0) = c.in_ok-name.ensures.ok ∙ c.name_of.ensures in
    let origin : string_bytes c.in_ok-origin.origin ≡ c.args.w.now.origin = c.in_ok-origin.ensures.ok ∙ c.as_str.ensures in
    let differs : map string_bytes c.in_ok-differs.differs.items ≡ map (named_field field_word fields) (map (λ f. f.0) c.args.w.now.fields.items) =
    c.in_ok-differs.ensures ∙ ap (map (λ f. named_field field_word fields f.0)) c.deref.ensures.value ∙ sym (map_of_map (named_field field_word fields) (λ f. f.0) c.args.w.now.fields.items) in
    λ i. record { name = name i; origin = origin i; differs = differs i }
