use Rattle.std.proofs.Common.{◌+◌, [], List, Some, None, map, ap, sym, subst, ◌∙◌, arith}
use Rattle.exo_reader.specs.Source.{Parameter}
use Rattle.exo_reader.specs.Views.{plain_parameter, plain_definition}
use Rattle.rules_names.specs.Faults.{charged, unless}
use Rattle.rules_names.specs.declared.error.TypeKind.TheVariants.{UnknownName}
use Rattle.exo_meaning.specs.Units.{is_template}
use Rattle.exo_types.specs.HoleRules.{HaveHoles}
use Rattle.exo_types.specs.UnitRules.{procedure_here, memory_names}
use Rattle.exo_types.proofs.Broken.{exit, refuses_first, kept_none, kept_err}
use Rattle.exo_types.proofs.Holes.{have_holes}
use Rattle.exo_types.proofs.Procedures.{few_later, instruction_item}
use Rattle.exo_types.proofs.typed.UnitBuilder.add_instruction.Goals as goal

pub returns-in_err-keep : goal.returns-in_err-keep
returns-in_err-keep c = λ above s.
    let d = plain_definition c.args.definition.now in
    let ps = (procedure_here above None d).params in
    let holes : HaveHoles ps (map plain_parameter c.deref.result.now) = subst (λ (l : List Parameter). HaveHoles ps l) (ap (map plain_parameter) (sym c.deref.ensures.value)) (have_holes above.program.fields (memory_names above.program) above.next_id [] d.params) in
    let text = c.as_bytes.ensures.value ∙ c.as_str.ensures ∙ c.in_ok-template.ensures in
    let fits = c.is_template-fits.ensures ps holes ∙ ap (λ y. is_template ps (Some y)) text in
    exit _ _ _ _ c.from_residual-in_err-keep.ensures.1 (refuses_first _ _ _ (kept_err _ _ _ (c.unless.ensures ∙ ap (λ b. charged (unless b UnknownName (c.args.n + 2))) fits) c.in_err-keep.ensures))

pub add_procedure-requires-clause-few : goal.add_procedure-requires-clause-few
add_procedure-requires-clause-few c = few_later c.args.self.now c.args.n _ (omega arith) c.requires.few

pub add_procedure-requires-clause-places : goal.add_procedure-requires-clause-places
add_procedure-requires-clause-places c = record { tokens = omega (arith, c.requires.places.tokens); few = c.requires.places.few }

pub returns : goal.returns
returns c = λ above s.
    let d = plain_definition c.args.definition.now in
    let ps = (procedure_here above None d).params in
    let holes : HaveHoles ps (map plain_parameter c.deref.result.now) = subst (λ (l : List Parameter). HaveHoles ps l) (ap (map plain_parameter) (sym c.deref.ensures.value)) (have_holes above.program.fields (memory_names above.program) above.next_id [] d.params) in
    let text = c.as_bytes.ensures.value ∙ c.as_str.ensures ∙ c.in_ok-template.ensures in
    let fits = c.is_template-fits.ensures ps holes ∙ ap (λ y. is_template ps (Some y)) text in
    instruction_item above c.args.places.now c.args.self.now _ c.args.n d c.args.pieces.now _ _ (omega arith) c.in_ok-template.ensures
    (kept_none _ _ (c.unless.ensures ∙ ap (λ b. charged (unless b UnknownName (c.args.n + 2))) fits) c.in_ok-keep.ensures)
    _ (c.add_procedure.ensures above s)
