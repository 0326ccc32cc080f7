use Rattle.std.proofs.Common.{◌+◌, [], ◌∷◌, ◌++◌, map, ap, sym, refl, ◌∙◌}
use Rattle.exo_tree.specs.PlainTables.{memory_kind}
use Rattle.exo_reader.specs.Views.{plain_attribute}
use Rattle.rules_names.specs.Faults.{or_else}
use Rattle.rules_names.specs.Names.{name_number}
use Rattle.exo_types.specs.MemoryRules.{plain_memory, with_attributes, attributes_fault}
use Rattle.exo_types.proofs.Broken.{exit, refuses_same, refuses_first, kept_none}
use Rattle.exo_types.proofs.Added.{not_given, new_memory}
use Rattle.exo_types.proofs.Declared.{memory_charged, memory_added}
use Rattle.exo_types.proofs.typed.UnitBuilder.add_memory.Goals as goal

pub returns-in_err-keep : goal.returns-in_err-keep
returns-in_err-keep c = λ above places s.
    let settings = map plain_attribute c.args.attributes.now in
    let means = c.in_ok-made.ensures ∙ ap (λ y. with_attributes (plain_memory y) settings) c.as_str.ensures in
    let charge = memory_charged c.args.self.now above c.requires.agrees s c.and.result c.args.n c.args.name.now settings _ _ (c.and.ensures _ _ c.name_charge.ensures c.lanes_charge-lanes.ensures) c.in_ok-own.ensures.fault means in
    exit _ _ _ _ c.from_residual-in_err-keep.ensures.1 (refuses_first _ _ _ (refuses_same _ _ _ charge c.in_err-keep.ensures))

pub returns-in-Some : goal.returns-in-Some
returns-in-Some c = λ above places s.
    let settings = map plain_attribute c.args.attributes.now in
    let means = c.in_ok-made.ensures ∙ ap (λ y. with_attributes (plain_memory y) settings) c.as_str.ensures in
    let charge = memory_charged c.args.self.now above c.requires.agrees s c.and.result c.args.n c.args.name.now settings _ _ (c.and.ensures _ _ c.name_charge.ensures c.lanes_charge-lanes.ensures) c.in_ok-own.ensures.fault means in
    ap (λ o. or_else o (attributes_fault [] (c.args.n + 7) settings)) (sym charge ∙ c.in_ok-keep.ensures) ∙ sym c.in_ok-own.ensures.fault ∙ c.in-Some.is

pub push-requires-2 : goal.push-requires-2
push-requires-2 c =
    ap (name_number c.args.self.now.memories) c.as_str-2.ensures
    ∙ new_memory c.args.self.now c.args.name.now c.requires.agrees (not_given _ (c.args.n + 3) _ (kept_none _ _ (c.and.ensures _ _ c.name_charge.ensures c.lanes_charge-lanes.ensures) c.in_ok-keep.ensures))

pub returns : goal.returns
returns c = λ above places s.
    let t = c.args.self.now in
    let settings = map plain_attribute c.args.attributes.now in
    let means = c.in_ok-made.ensures ∙ ap (λ y. with_attributes (plain_memory y) settings) c.as_str.ensures in
    let charge = memory_charged t above c.requires.agrees s c.and.result c.args.n c.args.name.now settings _ _ (c.and.ensures _ _ c.name_charge.ensures c.lanes_charge-lanes.ensures) c.in_ok-own.ensures.fault means in
    memory_added t _ above places c.args.n (c.in_ok-own.end + 1) c.requires.agrees c.requires.few s (record { procs = refl; lines = refl; procedures = refl; rows = refl; next_id = refl }) c.args.name.now settings (memory_kind c.in_ok-made.made)
    (sym c.in_ok-own.ensures.fault ∙ c.in_default.is) (sym charge ∙ c.in_ok-keep.ensures) means
    (ap (λ k. k + 1) (c.in_ok-own.ensures.end c.in_default.is))
    c.in_ok-push.ensures.pushed refl (c.in_ok-push-2.ensures.pushed ∙ ap (λ y. t.memories ++ y ∷ []) c.as_str-2.ensures) refl refl
