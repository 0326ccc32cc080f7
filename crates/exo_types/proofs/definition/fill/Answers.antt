use Rattle.std.proofs.Common.{◌≡◌, ◌+◌, List, map, ap, sym, refl, subst, ◌∙◌}
use Rattle.text_expressions.specs.Views.{tree_of}
use Rattle.text_expressions.specs.declared.source.SourceExpr.{SourceExpr}
use Rattle.exo_reader.specs.Source.{block_of}
use Rattle.exo_reader.specs.Views.{plain_parameter, plain_definition, plain_statement}
use Rattle.exo_reader.specs.declared.source.SourceParam.{SourceParam}
use Rattle.exo_reader.specs.declared.source.SourceStmt.{SourceStmt}
use Rattle.exo_types.specs.StatementRules.{block_width}
use Rattle.exo_types.specs.ItemRules.{params_width, asserts_width, asserts_start, body_start, definition_end}
use Rattle.exo_types.specs.Walks.{HasRoom, IsBlock, block_fault}
use Rattle.exo_types.specs.Definitions.{AreParams, AreAsserts}
use Rattle.exo_types.specs.Refusals.{Refuses}
use Rattle.exo_types.proofs.Broken.{exit}
use Rattle.exo_types.proofs.Defining.{IsFirst, behind, room_behind, refused_body, defined}
use Rattle.exo_types.proofs.definition.fill.Goals as goal

pub add_statements-requires-clause-room : goal.add_statements-requires-clause-room
add_statements-requires-clause-room c =
    let context = c.args.context.now in
    let id = c.args.walk.now.next_id in
    let n = c.args.n in
    let d = plain_definition c.args.definition.now in
    let walk = c.add_params.new.walk in
    let first : IsFirst context c.args.walk.now id = record { scope = c.requires.scope; aliases = c.requires.aliases; ids = refl; lines = c.requires.lines } in
    let made = subst (λ (l : List SourceParam). AreParams context c.args.walk.now walk c.add_params.new.made (n + 3) (map plain_parameter l)) c.deref.ensures.value c.in_ok-closed.ensures.made in
    let b = behind context c.args.walk.now walk c.add_params.new.made id n d first made in
    let closed : c.in_ok-closed.closed ≡ n + 3 + params_width d.params = c.in_ok-closed.ensures.end ∙ ap (λ l. n + 3 + params_width (map plain_parameter l)) c.deref.ensures.value in
    let start : c.in_ok-closed.closed + c.comma_width.result + 3 ≡ asserts_start n d = λ i. closed i + c.comma_width.ensures i + 3 in
    let asserts = subst (λ (l : List SourceExpr). AreAsserts context walk.scope (c.in_ok-closed.closed + c.comma_width.result + 3) c.add_asserts.new.made (map tree_of l)) c.deref-2.ensures.value c.in_ok-middle.ensures.made in
    let middle : c.in_ok-middle.middle ≡ body_start n d = c.in_ok-middle.ensures.end ∙ (λ i. start i + asserts_width (map tree_of (c.deref-2.ensures.value i))) in
    subst (λ (l : List SourceStmt). HasRoom context walk c.in_ok-middle.middle (block_width (block_of (map plain_statement l)))) (sym c.deref-3.ensures.value) (room_behind context walk c.add_params.new.made id n c.in_ok-middle.middle d c.requires.space b middle)

pub returns-in_err-end : goal.returns-in_err-end
returns-in_err-end c =
    let context = c.args.context.now in
    let id = c.args.walk.now.next_id in
    let n = c.args.n in
    let d = plain_definition c.args.definition.now in
    let walk = c.add_params.new.walk in
    let first : IsFirst context c.args.walk.now id = record { scope = c.requires.scope; aliases = c.requires.aliases; ids = refl; lines = c.requires.lines } in
    let made = subst (λ (l : List SourceParam). AreParams context c.args.walk.now walk c.add_params.new.made (n + 3) (map plain_parameter l)) c.deref.ensures.value c.in_ok-closed.ensures.made in
    let b = behind context c.args.walk.now walk c.add_params.new.made id n d first made in
    let closed : c.in_ok-closed.closed ≡ n + 3 + params_width d.params = c.in_ok-closed.ensures.end ∙ ap (λ l. n + 3 + params_width (map plain_parameter l)) c.deref.ensures.value in
    let start : c.in_ok-closed.closed + c.comma_width.result + 3 ≡ asserts_start n d = λ i. closed i + c.comma_width.ensures i + 3 in
    let asserts = subst (λ (l : List SourceExpr). AreAsserts context walk.scope (c.in_ok-closed.closed + c.comma_width.result + 3) c.add_asserts.new.made (map tree_of l)) c.deref-2.ensures.value c.in_ok-middle.ensures.made in
    let middle : c.in_ok-middle.middle ≡ body_start n d = c.in_ok-middle.ensures.end ∙ (λ i. start i + asserts_width (map tree_of (c.deref-2.ensures.value i))) in
    let refused = subst (λ (l : List SourceStmt). Refuses c.in_err-end.field-0.0 (block_fault context walk c.in_ok-middle.middle (block_of (map plain_statement l)))) c.deref-3.ensures.value c.in_err-end.ensures.made in
    exit _ _ _ _ c.from_residual-in_err-end.ensures.1 (refused_body context walk c.add_params.new.made id n _ c.in_ok-middle.middle d c.add_asserts.new.made _ b start asserts middle refused)

pub returns : goal.returns
returns c =
    let context = c.args.context.now in
    let id = c.args.walk.now.next_id in
    let n = c.args.n in
    let d = plain_definition c.args.definition.now in
    let walk = c.add_params.new.walk in
    let first : IsFirst context c.args.walk.now id = record { scope = c.requires.scope; aliases = c.requires.aliases; ids = refl; lines = c.requires.lines } in
    let made = subst (λ (l : List SourceParam). AreParams context c.args.walk.now walk c.add_params.new.made (n + 3) (map plain_parameter l)) c.deref.ensures.value c.in_ok-closed.ensures.made in
    let b = behind context c.args.walk.now walk c.add_params.new.made id n d first made in
    let closed : c.in_ok-closed.closed ≡ n + 3 + params_width d.params = c.in_ok-closed.ensures.end ∙ ap (λ l. n + 3 + params_width (map plain_parameter l)) c.deref.ensures.value in
    let start : c.in_ok-closed.closed + c.comma_width.result + 3 ≡ asserts_start n d = λ i. closed i + c.comma_width.ensures i + 3 in
    let asserts = subst (λ (l : List SourceExpr). AreAsserts context walk.scope (c.in_ok-closed.closed + c.comma_width.result + 3) c.add_asserts.new.made (map tree_of l)) c.deref-2.ensures.value c.in_ok-middle.ensures.made in
    let middle : c.in_ok-middle.middle ≡ body_start n d = c.in_ok-middle.ensures.end ∙ (λ i. start i + asserts_width (map tree_of (c.deref-2.ensures.value i))) in
    let after = c.add_statements.new.walk in
    let block = subst (λ (l : List SourceStmt). IsBlock context walk after c.add_statements.new.made c.in_ok-middle.middle (block_of (map plain_statement l))) c.deref-3.ensures.value c.in_ok-end.ensures.made in
    let last : c.in_ok-end.end + 1 ≡ definition_end n d = (λ i. c.in_ok-end.ensures.end i + 1) ∙ (λ i. middle i + block_width (block_of (map plain_statement (c.deref-3.ensures.value i))) + 1) in
    defined context walk after id n _ c.in_ok-middle.middle c.args.made.now.template d _ b start asserts middle block c.requires.name refl refl refl last
