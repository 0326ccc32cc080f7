use Rattle.std.proofs.Common.{ℕ, ◌+◌, List, ap, sym, refl, subst, ◌∙◌, arith}
use Rattle.exo_reader.specs.Views.{plain_definition}
use Rattle.exo_tree.specs.declared.lines.ProcLines.{ProcLines}
use Rattle.exo_tree.specs.PlainProcedure as plain
use Rattle.rules_names.specs.Faults.{least}
use Rattle.rules_names.specs.Names.{name_number}
use Rattle.exo_types.specs.Standing.{IsPushed}
use Rattle.exo_types.proofs.Broken.{exit, refuses_same, refuses_first, refuses_second, kept_none, kept_err}
use Rattle.exo_types.proofs.Added.{same_name_faults, not_given_alone, new_procedure, few_ids, procedure_added}
use Rattle.exo_types.proofs.typed.UnitBuilder.add_procedure.Goals as goal

pub returns-in_err-keep : goal.returns-in_err-keep
returns-in_err-keep c = λ above s.
    exit _ _ _ _ c.from_residual.ensures.1
    (refuses_first _ _ _ (refuses_same _ _ _ (ap least (same_name_faults c.args.self.now above c.requires.agrees s (c.args.n + 1) c.args.definition.now.name)) (kept_err _ _ _ c.name_charge.ensures c.in_err-keep.ensures)))

pub returns-in_err-made : goal.returns-in_err-made
returns-in_err-made c = λ above s.
    exit _ _ _ _ c.from_residual-in_err-made.ensures.1
    (refuses_second _ _ _ (sym (ap least (same_name_faults c.args.self.now above c.requires.agrees s (c.args.n + 1) c.args.definition.now.name)) ∙ kept_none _ _ c.name_charge.ensures c.in_ok-keep.ensures) (c.in_err-made.ensures.made above s))

pub line_of-requires : goal.line_of-requires
line_of-requires c = omega (arith, few_ids c.args.n (plain_definition c.args.definition.now), c.requires.places.tokens)

pub push_procedure-requires : goal.push_procedure-requires
push_procedure-requires c =
    ap (name_number c.args.self.now.procedures) c.as_str.ensures
    ∙ new_procedure c.args.self.now c.args.definition.now.name c.requires.agrees (not_given_alone _ (c.args.n + 1) (kept_none _ _ c.name_charge.ensures c.in_ok-keep.ensures))

pub returns : goal.returns
returns c = λ above s.
    let t = c.args.self.now in
    let made = c.in_ok-made.made in
    let lines : ProcLines = record { def = c.line_of.result; statements = made.lines } in
    procedure_added t c.push_procedure.new.self _ above c.args.places.now c.args.template c.args.n (plain_definition c.args.definition.now) made c.in_ok-made.row lines _ c.requires.agrees c.requires.few s
    (kept_none _ _ c.name_charge.ensures c.in_ok-keep.ensures)
    (c.in_ok-made.ensures.made above s)
    c.in_ok-made.ensures.row
    (ap (λ k. record { def = k; statements = made.lines }) c.line_of.ensures)
    (subst (λ (y : List ℕ). IsPushed t c.push_procedure.new.self y (plain.procedure made.procedure) c.in_ok-made.row lines) c.as_str.ensures c.in_ok-push_procedure.ensures)
    refl refl refl refl refl refl refl refl
