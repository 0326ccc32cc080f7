use Rattle.std.proofs.Common.{not, map, ap, ◌∙◌}
use Rattle.std.specs.List.{list_any}
use Rattle.exo_meaning.specs.Units.{is_text}
use Rattle.exo_reader.specs.Views.{plain_setting}
use Rattle.rules_names.specs.declared.error.TypeKind.TheVariants.{Redefined}
use Rattle.rules_names.specs.Faults.{charged, unless}
use Rattle.exo_types.specs.MemoryRules.{trait_named, trait_faults}
use Rattle.exo_types.proofs.attribute.attribute_charge.Goals as goal

pub returns : goal.returns
returns c =
    let n = c.args.token in
    let a = c.args.attribute.now in
    let names = map (λ x. x.name) c.args.before.now in
    let own =
    c.trait_charge-own.ensures
    ∙ ap (λ t. charged (trait_faults t n (plain_setting a.value))) (c.trait_named-kind.ensures ∙ ap trait_named c.as_slice.ensures) in
    let repeated =
    c.unless.ensures
    ∙ ap (λ b. charged (unless (not b) Redefined n)) (c.is_among-repeated.ensures ∙ ap (λ y. list_any (λ x. is_text x y) names) c.as_slice-2.ensures) in
    c.and.ensures _ _ own repeated
