use Rattle.std.proofs.Common.{ap, arith, subst, sym, ◌≡◌, ◌∙◌, ◌++◌, ◌+◌, ◌≤◌, ℕ, List, length}
use Rattle.std.specs.Prelude.{IfOk}
use Rattle.std.proofs.lemmas.Result.{IfOk-weaker}
use Rattle.text_lexer.specs.Layout.{at, with_end}
use Rattle.text_lexer.specs.declared.layout.LineLaid.{LineLaid}
use Rattle.text_lexer.specs.declared.place.Place.{Place}
use Rattle.text_lexer.specs.declared.place.Placed.{Placed}
use Rattle.text_lexer.proofs.Begun.{laid_import, laid_none, laid_foreign, laid_some}
use Rattle.text_lexer.proofs.Begun.{placed_of, blocks_of, brackets_of}
use Rattle.text_lexer.proofs.layout.begin_line.Goals as goal

within : (n k m : ℕ) → n ≤ 0 + k → k ≤ m → n ≤ m
within n k m few less = omega arith

pub returns-then-is_import : goal.returns-then-is_import
returns-then-is_import c =
    let laid =
    sym (laid_import c.args.line c.args.blocks.now c.args.bytes.now c.if-is_import.ensures) in
    record {
      given = c.new.ensures.items ∙ ap placed_of laid;
      opened = ap blocks_of laid;
      brackets = ap brackets_of laid;
      bound = omega arith;
    }

pub returns-in_default : goal.returns-in_default
returns-in_default c =
    let laid =
    sym (laid_none c.args.line c.args.blocks.now c.args.bytes.now c.in_ok-tokens.tokens.items
    c.deref.result.now c.if-is_import.ensures c.in_ok-tokens.ensures.value c.deref.ensures.value
    c.in_default.ensures.value) in
    record {
      given = ap placed_of laid;
      opened = ap blocks_of laid;
      brackets = ap brackets_of laid;
      bound = omega arith;
    }

pub returns-then-is_foreign : goal.returns-then-is_foreign
returns-then-is_foreign c =
    let laid =
    sym (laid_foreign c.args.line c.args.blocks.now c.args.bytes.now c.in_ok-tokens.tokens.items
    c.deref.result.now c.in-Some.first.now c.if-is_import.ensures c.in_ok-tokens.ensures.value
    c.deref.ensures.value c.in-Some.ensures.value c.if-is_foreign.ensures) in
    record {
      given = ap placed_of laid;
      opened = ap blocks_of laid;
      brackets = ap brackets_of laid;
      bound = omega arith;
    }

pub returns : goal.returns
returns c =
    let laid =
    sym (laid_some c.args.line c.args.blocks.now c.args.bytes.now c.in_ok-tokens.tokens.items
    c.deref.result.now c.in-Some.first.now c.if-is_import.ensures c.in_ok-tokens.ensures.value
    c.deref.ensures.value c.in-Some.ensures.value c.if-is_foreign.ensures) in
    let result = c.end_line.result in
    record {
      given = subst (λ (ts : List Placed). IfOk result (λ l. l.given.items ≡ ts))
          (ap (λ (e : Place). c.in_ok-given.given.items ++ with_end 0 e c.in_ok-tokens.tokens.items) c.end_of.ensures
          ∙ ap (λ (ts : List Placed). ts ++ with_end 0 (at c.args.line (length c.args.bytes.now + 1))
          c.in_ok-tokens.tokens.items) c.in_ok-given.ensures.given
          ∙ ap placed_of laid)
          c.end_line.ensures.given;
      opened = IfOk-weaker result _ _
          (λ l some. c.in_ok-given.ensures.opened ∙ ap blocks_of laid) c.end_line.ensures.brackets;
      brackets = subst (λ (n : ℕ). IfOk result (λ l. l.brackets ≡ n)) (ap brackets_of laid)
          c.end_line.ensures.brackets;
      bound = IfOk-weaker result _ _
          (λ (l : LineLaid) few. within l.brackets _ _ few c.in_ok-tokens.ensures.bound)
          c.end_line.ensures.bound;
    }
