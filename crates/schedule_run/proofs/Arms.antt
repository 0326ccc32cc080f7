-- What is planned for what a line asks, as the arm of it is written.
use Rattle.std.proofs.Common.{◌≡◌, ℕ, List, sym, subst}
use Rattle.std.specs.Prelude.{Result}
use Rattle.exo_tree.specs.Tree.{Procedure}
use Rattle.text_expressions.specs.Expression.{Tree}
use Rattle.text_expressions.specs.Views.{tree_of}
use Rattle.text_expressions.specs.declared.source.SourceExpr.{SourceExpr}
use Rattle.exo_reader.specs.Views.{plain_window}
use Rattle.exo_reader.specs.declared.source.SourceWindow.{SourceWindow}
use Rattle.cursor_forward.specs.PlainProposal.{plain_proposal}
use Rattle.cursor_forward.specs.declared.proposal.Proposal.{Proposal}
use Rattle.schedule_calls.specs.Requests as plain
use Rattle.schedule_calls.specs.PlainRequest.{plain_asked, plain_change, plain_operation}
use Rattle.schedule_calls.specs.declared.operator.CursorOperator.{CursorOperator}
use Rattle.schedule_calls.specs.declared.operator.WordOperator.{WordOperator}
use Rattle.schedule_calls.specs.declared.request.Asked.{Asked}
use Rattle.schedule_calls.specs.declared.request.Change.{Change}
use Rattle.schedule_calls.specs.declared.request.Operation.{Operation}
use Rattle.schedule_laws.specs.Versions.Versions.{Versions}
use Rattle.schedule_laws.specs.Versions.Lines.{Call}
use Rattle.schedule_laws.specs.Operators.Operators.{cursor_call, word_call, change_call, call_of}
use Rattle.schedule_run.specs.Outcomes.{Makes}
use Rattle.schedule_run.specs.Planned.{planned}
use Rattle.schedule_run.specs.declared.why.Why as memory

module _ (v : Versions) (k : ℕ) (p : Procedure) (r : Result Proposal memory.Why) where
  abbrev Plans : Call → Type 0
  Plans call = Makes plain_proposal (planned v k p call) r

  pub of_arm : (o written : Operation) → o ≡ written → Plans (call_of (plain_operation written))
      → Plans (call_of (plain_operation o))
  of_arm o written is h =
      subst (λ (x : Operation). Plans (call_of (plain_operation x))) (sym is) h

  pub of_change : (at : plain.Asked) (change written : Change) → change ≡ written
      → Plans (change_call at (plain_change written)) → Plans (change_call at (plain_change change))
  of_change at change written is h =
      subst (λ (x : Change). Plans (change_call at (plain_change x))) (sym is) h

  pub of_operator : (at : plain.Asked) (o written : CursorOperator) → o ≡ written
      → Plans (cursor_call written at) → Plans (cursor_call o at)
  of_operator at o written is h = subst (λ (x : CursorOperator). Plans (cursor_call x at)) (sym is) h

  pub of_word : (at : plain.Asked) (name : List ℕ) (o written : WordOperator) → o ≡ written
      → Plans (word_call written name at) → Plans (word_call o name at)
  of_word at name o written is h =
      subst (λ (x : WordOperator). Plans (word_call x name at)) (sym is) h

  -- its cursor is behind a box
  pub of_cursor : (call : plain.Asked → Call) (a b : Asked) → a ≡ b → Plans (call (plain_asked a))
      → Plans (call (plain_asked b))
  of_cursor call a b is h = subst (λ (x : Asked). Plans (call (plain_asked x))) is h

  -- so is its expression
  pub of_expression : (call : Tree → Call) (a b : SourceExpr) → a ≡ b → Plans (call (tree_of a))
      → Plans (call (tree_of b))
  of_expression call a b is h = subst (λ (x : SourceExpr). Plans (call (tree_of x))) is h

  -- and its window
  pub of_window : (call : plain.Window → Call) (a b : SourceWindow) → a ≡ b
      → Plans (call (plain_window a)) → Plans (call (plain_window b))
  of_window call a b is h = subst (λ (x : SourceWindow). Plans (call (plain_window x))) is h
