use Rattle.std.proofs.Common.{◌≡◌, false, true, refl}
use Rattle.text_phrases.proofs.Exits.{exit}
use Rattle.text_phrases.proofs.Sequences.{step_taken}
use Rattle.text_phrases.proofs.Joints.{whole_err}
use Rattle.exo_reader.proofs.Items.{taken_yes, taken_no, step_strings, step_int}
use Rattle.exo_reader.proofs.item.read_value.Goals as goal

pub returns-in-Some : goal.returns-in-Some
returns-in-Some c = taken_yes _ _ c.in-Some.ensures

pub returns-in-Some-behind : goal.returns-in-Some-behind
returns-in-Some-behind c = taken_no _ _ c.in-Some-behind.ensures

pub returns-in_err-pieces : goal.returns-in_err-pieces
returns-in_err-pieces c = exit _ _ _ _ _ _ c.from_residual.ensures.1 (whole_err _ _ _ _ _ _ (step_strings _ (c.if-string_stands_first.ensures.0 refl)) c.in_err-pieces.ensures)

pub returns-then-string_stands_first : goal.returns-then-string_stands_first
returns-then-string_stands_first c = step_taken _ _ _ _ _ _ _ (step_strings _ (c.if-string_stands_first.ensures.0 refl)) c.in_ok-pieces.ensures

pub returns-in_err-number : goal.returns-in_err-number
returns-in_err-number c = exit _ _ _ _ _ _ c.from_residual-in_err-number.ensures.1 (whole_err _ _ _ _ _ _ (step_int _ c.in_default.ensures c.in_default-behind.ensures (λ begins. let h : false ≡ true = c.if-string_stands_first.ensures.1 begins in cc)) c.in_err-number.ensures)

pub returns : goal.returns
returns c = step_taken _ _ _ _ _ _ _ (step_int _ c.in_default.ensures c.in_default-behind.ensures (λ begins. let h : false ≡ true = c.if-string_stands_first.ensures.1 begins in cc)) c.in_ok-number.ensures
