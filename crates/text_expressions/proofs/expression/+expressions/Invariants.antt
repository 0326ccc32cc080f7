use Rattle.std.proofs.Common.{◌≡◌, ◌≤◌, List, length, map, ◌+◌, ◌-◌, ◌*◌}
use Rattle.text_expressions.specs.Expression.{operand, trees, deepest, control_room, EndsList}
use Rattle.text_expressions.specs.Views.{tree_of, IsMeasured}
use Rattle.text_expressions.specs.Chain.{Begun}
use Rattle.text_phrases.proofs.Commas.{Listed}
use Rattle.text_lexer.specs.declared.token.Token.{Token}
use Rattle.text_lexer.specs.declared.token.Token.TheVariants.{Sign}
use Rattle.text_lexer.specs.declared.token.Sign.TheVariants.{Comma}
use Rattle.text_expressions.proofs.expression.+expressions.Given as goal

abbrev pub decreases-read_access : goal.decreases-read_access
decreases-read_access l = 16 * length l.rest.now + 12

abbrev pub decreases-read_indices : goal.decreases-read_indices
decreases-read_indices l = 16 * length l.tokens.now + 11

abbrev pub decreases-read_named : goal.decreases-read_named
decreases-read_named l = 16 * length l.rest.now + 15

abbrev pub decreases-read_word : goal.decreases-read_word
decreases-read_word l = 16 * length l.rest.now + 15

abbrev pub decreases-read_signed : goal.decreases-read_signed
decreases-read_signed l = 16 * length l.rest.now + 15

abbrev pub decreases-read_relu : goal.decreases-read_relu
decreases-read_relu l = 16 * length l.rest.now + 12

abbrev pub decreases-read_select : goal.decreases-read_select
decreases-read_select l = 16 * length l.rest.now + 12

abbrev pub decreases-read_chain : goal.decreases-read_chain
decreases-read_chain l = 16 * length l.tail.now + 1

abbrev pub decreases-read_comparison : goal.decreases-read_comparison
decreases-read_comparison l = 16 * length l.rest.now + 1

abbrev pub decreases-read_operand : goal.decreases-read_operand
decreases-read_operand l = 16 * length l.tokens.now + 10

abbrev pub decreases-read_ended : goal.decreases-read_ended
decreases-read_ended l = 16 * length l.tokens.now + 11

abbrev pub decreases-read_unary : goal.decreases-read_unary
decreases-read_unary l = 16 * length l.tokens.now + 4

abbrev pub decreases-read_parens : goal.decreases-read_parens
decreases-read_parens l = 16 * length l.rest.now + 12

abbrev pub decreases-read_negative : goal.decreases-read_negative
decreases-read_negative l = 16 * length l.rest.now + 12

abbrev pub decreases-read_from : goal.decreases-read_from
decreases-read_from l = 16 * length l.rest.now + (9 - l.level)

abbrev pub invariant-read_chain-loop-operator : goal.invariant-read_chain-loop-operator
invariant-read_chain-loop-operator l = record {
  shorter : length l.rest ≤ length l.fn.tail;
  measured : IsMeasured l.left;
  begun : (tokens : List Token) → Begun l.level l.room tokens (tree_of l.fn.leftmost.tree.value) l.fn.tail → Begun l.level l.room tokens (tree_of l.left.tree.value) l.rest;
}

abbrev pub decreases-read_chain-loop-operator : goal.decreases-read_chain-loop-operator
decreases-read_chain-loop-operator l = length l.rest

abbrev pub invariant-read_indices-more : goal.invariant-read_indices-more
invariant-read_indices-more l = record {
  shorter : length l.rest ≤ length l.fn.tokens;
  few : length l.items.items ≤ 8;
  deepest : l.deepest ≡ deepest (trees (map tree_of l.items.items));
  read : Listed (operand 0 (control_room l.depth)) (Sign Comma) EndsList l.fn.tokens (map tree_of l.items.items) l.rest;
}

abbrev pub decreases-read_indices-more : goal.decreases-read_indices-more
decreases-read_indices-more l = length l.rest
