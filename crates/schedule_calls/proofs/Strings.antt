-- Strings that are not what their place asks.
use Rattle.std.proofs.Common.{◌≡◌, ℕ, List, true, false, refl, sym, subst, ap, ◌∙◌}
use Rattle.std.specs.List.{list_all}
use Rattle.text_expressions.specs.Expression.{Tree, control}
use Rattle.exo_reader.specs.Strings.{line_tokens_of, window}
use Rattle.exo_reader.specs.Texts.{TextsAreOne}
use Rattle.rules_names.specs.Arguments.{is_control_form, is_condition_form}
use Rattle.rules_names.specs.Arguments.{is_coordinate_form}
use Rattle.exo_reader.specs.Items.{joined}
use Rattle.exo_reader.specs.declared.unit.ReadError.{ReadError}
use Rattle.exo_reader.specs.declared.unit.ReadKind.{ReadKind}
use Rattle.exo_reader.specs.declared.unit.ReadKind.TheVariants as k
use Rattle.cursor_forward.specs.Search.Patterns.{Pattern, ExprPattern}
use Rattle.schedule_text.specs.Patterns.Errors.{UnlessMemory}
use Rattle.schedule_text.specs.Patterns.Grammar.{statement, meant, expression, form_meant}
use Rattle.schedule_text.specs.Patterns.Texts.{IsPattern, IsPatternFault, PatternsAreOne}
use Rattle.schedule_calls.specs.Readings.{IsPatternIn, IsExprPatternOf}
use Rattle.schedule_calls.specs.Requests.{Window}
use Rattle.schedule_calls.specs.Readings.{IsExpressionOf, IsControlOf, IsConditionOf}
use Rattle.schedule_calls.specs.Readings.{IsAnyWindowOf, IsWindowOf}

-- what an error that is no want of memory says
claimed : (kind : ReadKind) {Claim : Type 0} → UnlessMemory kind Claim
    → (kind ≡ k.Memory → ⊥) → Claim
claimed k.Memory claim never = absurd (never refl)
claimed k.BadByte claim never = claim
claimed k.BadIndent claim never = claim
claimed k.Syntax claim never = claim
claimed k.TooDeep claim never = claim
claimed k.TooLong claim never = claim
claimed k.LiteralTooLarge claim never = claim

pub no_pattern : PatternsAreOne statement meant → (pieces : List (List ℕ)) (bytes : List ℕ)
    (e : ReadError) → bytes ≡ joined pieces
    → UnlessMemory e.kind (IsPatternFault statement bytes e) → (e.kind ≡ k.Memory → ⊥)
    → (t : Pattern × ℕ) → IsPatternIn pieces t → ⊥
no_pattern one pieces bytes e is fault never t asks =
    one.no_error bytes t.0 t.1 e (subst (λ b. IsPattern statement meant b t.0 t.1) (sym is) asks)
    (claimed e.kind fault never)

pub no_expression : PatternsAreOne expression form_meant → (pieces : List (List ℕ))
    (bytes : List ℕ) (e : ReadError) → bytes ≡ joined pieces
    → UnlessMemory e.kind (IsPatternFault expression bytes e) → (e.kind ≡ k.Memory → ⊥)
    → (x : ExprPattern) → IsExprPatternOf pieces x → ⊥
no_expression one pieces bytes e is fault never x asks =
    one.no_error bytes x.form x.nth e
    (subst (λ b. IsPattern expression form_meant b x.form x.nth) (sym is) asks)
    (claimed e.kind fault never)

pub no_control : TextsAreOne control → (pieces : List (List ℕ)) (e : Tree) → IsExpressionOf pieces e
    → is_control_form e ≡ false → (t : Tree) → IsControlOf pieces t → ⊥
no_control one pieces e read bad t asks =
    let same : t ≡ e = one.tree (line_tokens_of (joined pieces)) t e asks.written read in
    let both : true ≡ false = sym asks.form ∙ (ap is_control_form same ∙ bad) in cc (both)

pub no_condition : TextsAreOne control → (pieces : List (List ℕ)) (e : Tree)
    → IsExpressionOf pieces e → is_condition_form e ≡ false → (t : Tree) → IsConditionOf pieces t
    → ⊥
no_condition one pieces e read bad t asks =
    let same : t ≡ e = one.tree (line_tokens_of (joined pieces)) t e asks.written read in
    let both : true ≡ false = sym asks.form ∙ (ap is_condition_form same ∙ bad) in cc (both)

pub no_window : TextsAreOne window → (pieces : List (List ℕ)) (w : Window)
    → IsAnyWindowOf pieces w → list_all is_coordinate_form w.1 ≡ false
    → (v : Window) → IsWindowOf pieces v → ⊥
no_window one pieces w read bad v asks =
    let same : v ≡ w = one.tree (line_tokens_of (joined pieces)) v w asks.written read in
    let both : true ≡ false =
    sym asks.form ∙ (ap (λ (u : Window). list_all is_coordinate_form u.1) same ∙ bad) in cc (both)
