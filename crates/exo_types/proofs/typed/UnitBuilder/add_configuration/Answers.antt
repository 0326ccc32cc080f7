use Rattle.std.proofs.Common.{◌≡◌, ◌+◌, ◌*◌, ◌==◌, not, [], ◌∷◌, ◌++◌, if◌then◌else◌, length, map, ap, sym, refl, ◌∙◌, arith}
use Rattle.std.proofs.lemmas.List.{length-map}
use Rattle.exo_reader.specs.Views.{plain_field}
use Rattle.exo_types.proofs.Broken.{exit, refuses_same, refuses_first, refuses_second, kept_none, kept_err}
use Rattle.rules_names.specs.Faults.{least}
use Rattle.rules_names.specs.Names.{name_number}
use Rattle.exo_types.proofs.Named.{configurations_after}
use Rattle.exo_types.proofs.Added.{not_given_alone, new_fields, new_configuration, same_name_faults}
use Rattle.exo_types.proofs.Declared.{configuration_added}
use Rattle.exo_types.proofs.typed.UnitBuilder.add_configuration.Goals as goal

pub returns-in_err-keep : goal.returns-in_err-keep
returns-in_err-keep c = λ above places s.
    exit _ _ _ _ c.from_residual.ensures.1
    (refuses_first _ _ _ (refuses_same _ _ _ (ap least (same_name_faults c.args.self.now above c.requires.agrees s (c.args.n + 3) c.args.name.now)) (kept_err _ _ _ c.name_charge.ensures c.in_err-keep.ensures)))

pub add_fields-requires-clause-new : goal.add_fields-requires-clause-new
add_fields-requires-clause-new c =
    new_fields c.args.self.now c.args.name.now c.requires.agrees (not_given_alone _ (c.args.n + 3) (kept_none _ _ c.name_charge.ensures c.in_ok-keep.ensures))

pub returns-in_err-end : goal.returns-in_err-end
returns-in_err-end c = λ above places s.
    let none = sym (ap least (same_name_faults c.args.self.now above c.requires.agrees s (c.args.n + 3) c.args.name.now)) ∙ kept_none _ _ c.name_charge.ensures c.in_ok-keep.ensures in
    exit _ _ _ _ c.from_residual-in_err-end.ensures.1 (refuses_second _ _ _ none c.in_err-end.ensures.kept)

pub push_used-requires : goal.push_used-requires
push_used-requires c =
    ap (name_number c.args.self.now.configurations) c.as_str.ensures
    ∙ new_configuration c.args.self.now c.args.name.now c.requires.agrees (not_given_alone _ (c.args.n + 3) (kept_none _ _ c.name_charge.ensures c.in_ok-keep.ensures))

pub returns : goal.returns
returns c = λ above places s.
    let t = c.args.self.now in
    let x = c.args.name.now in
    let fs = map plain_field c.args.fields.now in
    let long = length-map c.args.fields.now plain_field in
    let none = sym (ap least (same_name_faults t above c.requires.agrees s (c.args.n + 3) x)) ∙ kept_none _ _ c.name_charge.ensures c.in_ok-keep.ensures in
    let used = ap not (c.is_empty.ensures ∙ ap (λ k. k == 0) (sym long)) in
    let names : c.push_used.new.names ≡ t.configurations ++ (if not c.is_empty.result then x ∷ [] else []) = c.in_ok-push_used.ensures ∙ ap (λ y. t.configurations ++ (if not c.is_empty.result then y ∷ [] else [])) c.as_str.ensures in
    let last : c.in_ok-end.end + 1 ≡ c.args.n + 7 + 4 * length fs + 1 = omega (arith, c.in_ok-end.ensures.end, long) in
    configuration_added t _ above places c.args.n (c.in_ok-end.end + 1) c.requires.agrees c.requires.few s (record { procs = refl; lines = refl; procedures = refl; rows = refl; next_id = refl }) x fs none c.in_ok-end.ensures.kept last
    c.in_ok-end.ensures.fields c.in_ok-end.ensures.table
    (λ y. configurations_after x y t.configurations c.push_used.new.names t.unit.fields fs (not c.is_empty.result) used names (c.requires.agrees.configurations y))
    refl refl
