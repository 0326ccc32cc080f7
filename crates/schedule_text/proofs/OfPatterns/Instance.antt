-- Closed texts.
use Rattle.std.proofs.Common.{◌≡◌, ℕ, ◌≤◌, List, [], ◌∷◌, Some, None, refl, arith}
use Rattle.std.specs.Prelude.{codes}
use Rattle.text_phrases.specs.Phrase.{Taken}
use Rattle.text_phrases.specs.Sequence.{then}
use Rattle.text_phrases.proofs.Sequences.{step_taken, taken_short}
use Rattle.text_phrases.proofs.Joints.{both, both_by}
use Rattle.text_lexer.specs.declared.token.Token.TheVariants.{Name, Sign}
use Rattle.text_lexer.specs.declared.token.Sign.TheVariants.{Any}
use Rattle.text_expressions.specs.Values.{IsShortName, name}
use Rattle.cursor_forward.specs.Search.Patterns as p
use Rattle.schedule_text.specs.Patterns.Grammar.{name_or_any, maybe_behind, named, statement, meant}
use Rattle.schedule_text.specs.Patterns.Grammar.{expression, form_meant}
use Rattle.schedule_text.specs.Patterns.Texts.{MeansWhole, in_number}
use Rattle.schedule_text.specs.Patterns.Instance.{TextInstance}
use Rattle.schedule_text.proofs.OfPatterns.Meanings.{means, means_whole}
use Rattle.schedule_text.proofs.OfPatterns.Parts.{taken_any, step_name}
use Rattle.schedule_text.proofs.OfPatterns.Statements as s
use Rattle.schedule_text.proofs.OfPatterns.Expressions as e

abbrev i : List ℕ
i = codes "i"

short : IsShortName i
short = let few : 1 ≤ 63 = omega arith in few

name_same : (a b : List ℕ) → Name a ≡ Name b → a ≡ b
name_same a b same = cc (same)

taken_name : Taken name_or_any (Name i ∷ []) (Some i) []
taken_name = step_taken name_or_any name Some (Name i ∷ []) (Name i ∷ []) [] i (step_name (Name i ∷ []) (λ is. cc (is))) (taken_short Name IsShortName [] i name_same short)

taken_loop : Taken statement (Name i ∷ []) (named (Some i) None) []
taken_loop =
    step_taken statement (then name_or_any maybe_behind) (λ t. named t.0 t.1) (Name i ∷ []) (Name i ∷ []) [] (Some i, None)
    (s.step_named (Name i ∷ []) (λ is. cc (is)) (λ is. cc (is)) (λ is. cc (is)))
    (both s.name_behind taken_name (s.taken_alone [] refl))

loop_means : MeansWhole statement meant (Name i ∷ []) (p.Loop (Some i))
loop_means = means_whole statement meant (Name i ∷ []) [] (p.Loop (Some i)) refl (means statement meant (Name i ∷ []) [] (named (Some i) None) (p.Loop (Some i)) taken_loop refl) refl

taken_read : Taken expression (Sign Any ∷ []) (None, None) []
taken_read = both_by e.name_after (taken_any (Sign Any ∷ []) [] refl) (e.taken_alone None [] refl)

read_means : MeansWhole expression form_meant (Sign Any ∷ []) (p.Read None)
read_means = means_whole expression form_meant (Sign Any ∷ []) [] (p.Read None) refl (means expression form_meant (Sign Any ∷ []) [] (None, None) (p.Read None) taken_read refl) refl

pub instance : TextInstance
instance = record {
  loop = record { form = loop_means; number = refl };
  no_number = in_number loop_means.written loop_means.text refl;
  any = record { form = read_means; number = refl };
  name = record { begins = refl; goes_on = refl; no_any = refl; no_word = refl; short = short };
  word = refl;
  blank = refl;
}
