-- The rules on configuration writes give names of the grammar: what they draft has no binders.
use Rattle.std.proofs.Common.{◌≡◌, ℕ, List, sym, subst}
use Rattle.exo_tree.specs.Tree.{Argument, Block}
use Rattle.exo_tree.specs.Places.{Opened}
use Rattle.exo_types_laws.specs.Shown.Named.{IsNamedBlock}
use Rattle.config_laws.specs.FieldRule as config
use Rattle.config_laws.specs.FieldRule.{FieldRule, Side}
use Rattle.config_laws.specs.WriteConfig.{write_config}
use Rattle.config_laws.specs.DeleteConfig.{delete_config}
use Rattle.config_laws.specs.BindConfig.{bind_config}
use Rattle.config_laws.specs.CallEqv.{call_eqv}
use Rattle.config_laws.proofs.Proposed.{got_injective}
use Rattle.step_rules.specs.Rule.{Target}
use Rattle.call_laws.specs.Fields.FieldRules.{of_field_rule, write_rule, delete_rule, bind_rule}
use Rattle.call_laws.specs.Fields.FieldRules.{version_rule}
use Rattle.call_laws.proofs.OfFields.Stand.{tried_of}
use Rattle.call_laws.proofs.OfFields.Rules.{bound_made}
use Rattle.call_laws.proofs.OfFields.Version.{call_made}
use Rattle.schedule_laws.specs.Names.Rules.{IsNaming}

field_names : (rule : Target → FieldRule)
    → ((t : Target) (o : Opened) (made : Block) → (rule t).draft t.proc o ≡ config.Got made
    → IsNamedBlock made)
    → IsNaming (of_field_rule rule)
field_names rule named = record {
  name = λ p h. h;
  draft = λ s how base made unit proc piece h.
      let d = tried_of ((rule s.target).draft s.target.proc s.opened) (λ b. b) made h in
      subst IsNamedBlock d.2 (named s.target s.opened d.0 d.1);
}

pub write_field_names : (side : Side) (f : ℕ) (e : Argument) → IsNaming (write_rule side f e)
write_field_names side f e =
    field_names (λ t. write_config t.unit.procedures side f e)
    (λ t o made h. subst IsNamedBlock (got_injective _ made h) (tt, tt))

pub delete_field_names : IsNaming delete_rule
delete_field_names =
    field_names (λ t. delete_config t.unit.procedures)
    (λ t o made h. subst IsNamedBlock (got_injective _ made h) tt)

pub bind_field_names : (name : List ℕ) (f : ℕ) → IsNaming (bind_rule name f)
bind_field_names name f =
    field_names (λ t. bind_config t.unit.procedures name f)
    (λ t o made h.
    let d = bound_made t.unit.procedures name f o.piece made h in
    subst IsNamedBlock (sym d.is) (tt, (tt, tt)))

pub version_names : (j : ℕ) → IsNaming (version_rule j)
version_names j =
    field_names (λ t. call_eqv t.unit t.origins j)
    (λ t o made h. subst IsNamedBlock (sym (call_made t j o.piece made h).is) (tt, tt))
