use Rattle.std.proofs.Common.{ℕ, List, map, subst, ap, ◌∙◌}
use Rattle.exo_tree.specs.Tree.{ConfigField}
use Rattle.exo_meaning.specs.Units.{Scope}
use Rattle.exo_reader.specs.Source.{Coordinate}
use Rattle.exo_reader.specs.Views.{plain_coordinate}
use Rattle.rules_names.specs.Scopes.Resolved.{IsWindowIn}
use Rattle.rules_names.proofs.scopes.place.window_at.Goals as goal

pub returns : goal.returns
returns c =
    let fields = c.names-names.ensures.fields ∙ ap (λ s. s.fields) c.deref.ensures ∙ c.in_ok-seen.ensures.fields in
    let scope = c.names-names.ensures.scope ∙ ap (λ s. s.scope) c.deref.ensures ∙ c.in_ok-seen.ensures.scope in
    let coords = ap (map plain_coordinate) c.as_slice.ensures.value in
    subst (λ (k : List ConfigField × Scope × List ℕ × List Coordinate). IsWindowIn k.0 k.1 k.2 k.3 c.window_argument.result) (λ i. (fields i, scope i, c.as_str.ensures i, coords i)) c.window_argument.ensures
