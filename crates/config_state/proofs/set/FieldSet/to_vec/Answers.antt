use Rattle.std.proofs.Common.{◌<◌, ◌≤◌, ◌++◌, ◌∷◌, [], ◌-◌, ◌+◌, map, length, ap, sym, ◌∙◌, arith}
use Rattle.std.proofs.lemmas.List.{map-append}
use Rattle.exo_tree.specs.declared.number.FieldId.{FieldId}
use Rattle.config_state.specs.FieldSets.{contains, fields_from}
use Rattle.config_state.proofs.Sets.{take_one, pass_one, all_taken}
use Rattle.config_state.proofs.set.FieldSet.to_vec.Goals as goal
use Rattle.config_state.proofs.set.FieldSet.to_vec.Goals.{then-contains+in_ok-push, else-contains}

pub loop-k-preserved : goal.loop-k-preserved
loop-k-preserved c =
    let below : c.loop-k.k < length c.args.self.now = grind arith in
    let rest = fields_from (c.loop-k.k + 1) (length c.args.self.now - (c.loop-k.k + 1)) (contains c.args.self.now) in
    elim c.if-contains.branch [
      | then-contains+in_ok-push w ↦
          ap (λ (v : _). map (λ (f : FieldId). f.0) v.items ++ rest) w.fields-is
          ∙ ap (λ zs. map (λ (f : FieldId). f.0) zs ++ rest) w.in_ok-push.ensures.items
          ∙ ap (λ z. z ++ rest) (map-append (λ (f : FieldId). f.0) c.loop-k.fields.items (record { 0 = c.loop-k.k } ∷ []))
          ∙ take_one (map (λ (f : FieldId). f.0) c.loop-k.fields.items) c.loop-k.k (length c.args.self.now) (contains c.args.self.now) _ below (sym c.contains.ensures ∙ w.if-contains.true) c.loop-k.invariant
      | else-contains w ↦
          ap (λ (v : _). map (λ (f : FieldId). f.0) v.items ++ rest) w.fields-is
          ∙ pass_one (map (λ (f : FieldId). f.0) c.loop-k.fields.items) c.loop-k.k (length c.args.self.now) (contains c.args.self.now) _ below (sym c.contains.ensures ∙ w.if-contains.false) c.loop-k.invariant
    ]

pub returns : goal.returns
returns c =
    let n = length c.args.self.now in
    let done : n ≤ c.loop-k.k = grind arith in
    all_taken (map (λ (f : FieldId). f.0) c.loop-k.fields.items) c.loop-k.k n (contains c.args.self.now) _ done
    c.loop-k.invariant
