use Rattle.std.proofs.Common.{◌^◌, map, subst₂}
use Rattle.exo_tree.specs.PlainControl.{condition}
use Rattle.affine_forms.specs.PlainFormulas.{FormulaMade}
use Rattle.exo_effects.specs.Conflicts.{variables_of}
use Rattle.exo_effects.specs.PlainUses.{all_variables}
use Rattle.effect_conflicts.specs.PlainCopies.{plain_turn}
use Rattle.effect_conflicts.proofs.CopyForms.{copy_formula, copy_condition_writable}
use Rattle.effect_conflicts.proofs.PastForms.{condition_rules_kept}
use Rattle.effect_conflicts.proofs.copies.copied_formula.Goals as goal

pub formula_of-requires : goal.formula_of-requires
formula_of-requires c = condition_rules_kept (2 ^ 31) (condition c.args.c.now) c.requires

pub returns : goal.returns
returns c =
    let t = c.args.twin.now in
    let e = condition c.args.c.now in
    let turns = variables_of (map plain_turn t.turns.now) in
    let own = all_variables t.guards.now in
    subst₂ (λ fits f. FormulaMade c.formula_of.result fits f) (copy_condition_writable (2 ^ 31) t.side turns own t.sides e c.requires) (copy_formula (2 ^ 31) t.side turns own t.sides e c.requires) c.formula_of.ensures
