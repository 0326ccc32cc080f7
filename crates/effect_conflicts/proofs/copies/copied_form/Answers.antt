use Rattle.std.proofs.Common.{◌^◌, map, subst₂}
use Rattle.exo_tree.specs.PlainControl.{control}
use Rattle.affine_forms.specs.Outcomes.{Formed}
use Rattle.exo_effects.specs.Conflicts.{variables_of}
use Rattle.exo_effects.specs.PlainUses.{all_variables}
use Rattle.effect_conflicts.specs.PlainCopies.{plain_turn}
use Rattle.effect_conflicts.proofs.CopyForms.{copy_normal, copy_writable}
use Rattle.effect_conflicts.proofs.PastForms.{rules_kept}
use Rattle.effect_conflicts.proofs.copies.copied_form.Goals as goal

pub normal_form-requires : goal.normal_form-requires
normal_form-requires c = rules_kept (2 ^ 31) (control c.args.e.now) c.requires

pub returns : goal.returns
returns c =
    let t = c.args.twin.now in
    let e = control c.args.e.now in
    let turns = variables_of (map plain_turn t.turns.now) in
    let own = all_variables t.guards.now in
    subst₂ (λ fits l. Formed c.normal_form.result fits l) (copy_writable (2 ^ 31) t.side turns own t.sides e c.requires) (copy_normal (2 ^ 31) t.side turns own t.sides e c.requires) c.normal_form.ensures
