use Rattle.std.proofs.Common.{◌≡◌, not, is_some, ap, ◌∙◌}
use Rattle.rules_names.specs.Faults.{charged, unless}
use Rattle.rules_names.specs.Names.{field_in}
use Rattle.rules_names.specs.declared.error.TypeKind.TheVariants.{Redefined}
use Rattle.exo_types.proofs.Broken.{exit, kept_none, kept_err}
use Rattle.exo_types.proofs.Named.{nothing_found}
use Rattle.exo_types.proofs.Added.{not_given}
use Rattle.exo_types.proofs.typed.add_field.Goals as goal

pub returns-in_err-keep-clause-kept : goal.returns-in_err-keep-clause-kept
returns-in_err-keep-clause-kept c =
    let table = c.args.table.now in
    let known : c.has-is_known.result ≡ is_some (field_in table c.args.config.now c.args.field.now.name) = c.has-is_known.ensures ∙ (λ i. is_some (field_in table (c.as_str.ensures i) (c.as_str-2.ensures i))) in
    let charge = c.and.ensures _ _ (c.unless-taken.ensures ∙ ap (λ b. charged (unless (not b) Redefined c.args.n)) known) c.kind_charge.ensures in
    exit _ _ _ _ c.from_residual.ensures.1 (kept_err _ _ _ charge c.in_err-keep.ensures)

pub push-requires-2-clause-new : goal.push-requires-2-clause-new
push-requires-2-clause-new c =
    let table = c.args.table.now in
    let known : c.has-is_known.result ≡ is_some (field_in table c.args.config.now c.args.field.now.name) = c.has-is_known.ensures ∙ (λ i. is_some (field_in table (c.as_str.ensures i) (c.as_str-2.ensures i))) in
    let charge = c.and.ensures _ _ (c.unless-taken.ensures ∙ ap (λ b. charged (unless (not b) Redefined c.args.n)) known) c.kind_charge.ensures in
    (λ i. field_in table (c.as_str-5.ensures i) (c.as_str-6.ensures i))
    ∙ nothing_found (field_in table c.args.config.now c.args.field.now.name) (not_given _ c.args.n _ (kept_none _ _ charge c.in_ok-keep.ensures))

pub returns-clause-kept : goal.returns-clause-kept
returns-clause-kept c =
    let table = c.args.table.now in
    let known : c.has-is_known.result ≡ is_some (field_in table c.args.config.now c.args.field.now.name) = c.has-is_known.ensures ∙ (λ i. is_some (field_in table (c.as_str.ensures i) (c.as_str-2.ensures i))) in
    let charge = c.and.ensures _ _ (c.unless-taken.ensures ∙ ap (λ b. charged (unless (not b) Redefined c.args.n)) known) c.kind_charge.ensures in
    kept_none _ _ charge c.in_ok-keep.ensures
