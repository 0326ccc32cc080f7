use Rattle.std.proofs.Common.{◌≡◌, length, map, sym, ◌∙◌}
use Rattle.config_live.specs.Origins.{number}
use Rattle.config_laws.specs.FieldRule.{any_live}
use Rattle.call_laws.specs.Fields.FieldRules.{are_fields}
use Rattle.step_driver.specs.PlainTarget.{target}
use Rattle.field_rewrites.specs.Beside.{opening, one_is_live}
use Rattle.field_rewrites.proofs.Causes.{all_refuse, nothing_refuses, any_known}
use Rattle.field_rewrites.proofs.liveness.unless_one_is_live.Goals as goal

pub returns-then-branch : goal.returns-then-branch
returns-then-branch c =
    let t = target c.args.on.now in
    let o = opening c.args.on.now c.args.piece.now in
    let fs = map number c.args.fields.now in
    let all : one_is_live c.args.on.now c.args.piece.now fs ≡ any_live t.unit.procedures o fs =
    any_known t.unit.procedures o (length t.unit.fields) fs c.requires.known in
    all_refuse (are_fields t fs) (any_live t.unit.procedures o fs) c.requires.known
    (sym c.if-branch.true ∙ c.in_ok-one_is_live.ensures ∙ all)

pub returns : goal.returns
returns c =
    let t = target c.args.on.now in
    let o = opening c.args.on.now c.args.piece.now in
    let fs = map number c.args.fields.now in
    let all : one_is_live c.args.on.now c.args.piece.now fs ≡ any_live t.unit.procedures o fs =
    any_known t.unit.procedures o (length t.unit.fields) fs c.requires.known in
    nothing_refuses (are_fields t fs) (any_live t.unit.procedures o fs) c.requires.known
    (sym c.if-branch.false ∙ c.in_ok-one_is_live.ensures ∙ all)
