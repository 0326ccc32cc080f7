-- Arguments that ask for no change, by the one that is none of its place.
use Rattle.std.proofs.Common.{◌≡◌, ℕ, List, [], ◌∷◌, Some, None, map, sym, subst, ◌∙◌}
use Rattle.text_expressions.specs.Expression.{Tree}
use Rattle.cursor_forward.specs.Search.Patterns.{ExprPattern}
use Rattle.schedule_text.specs.Tree as tree
use Rattle.schedule_text.specs.Views.{plain_argument}
use Rattle.schedule_text.specs.declared.source.ArgText.{ArgText}
use Rattle.schedule_calls.specs.Requests.{Window, Division, Change, Operation}
use Rattle.schedule_calls.specs.Keys.{keep_in, accum_in}
use Rattle.schedule_calls.specs.Readings.{IsWord, AsksExpression, AsksName, AsksControl}
use Rattle.schedule_calls.specs.Readings.{AsksCondition, AsksEither, AsksWindow, AsksDivision}
use Rattle.schedule_calls.specs.Readings.{AsksChange, with_control, with_word, mult_loops}
use Rattle.schedule_calls.specs.Readings.{specialize, bind_expr}
use Rattle.schedule_calls.specs.Readings.{stage_mem, write_config, bind_config, divide_loop}
use Rattle.schedule_calls.specs.Readings.{eliminate_dead_code}
use Rattle.schedule_calls.specs.Readings.{AsksOperation, at}
use Rattle.schedule_calls.specs.declared.operator.ControlOperator.{ControlOperator}
use Rattle.schedule_calls.specs.declared.operator.WordOperator.{WordOperator}
use Rattle.schedule_calls.specs.declared.operator.ChangeOperator.{ChangeOperator}
use Rattle.schedule_calls.specs.declared.operator.ChangeOperator.TheVariants as kind
use Rattle.schedule_calls.specs.declared.operator.OperatorName.{OperatorName}
use Rattle.schedule_calls.specs.declared.operator.OperatorName.TheVariants as operator

-- ---- arguments as they are read

pub asks_read : (o : ChangeOperator) (args read : List ArgText) (x : Change) → args ≡ read
    → AsksChange o (map plain_argument read) x → AsksChange o (map plain_argument args) x
asks_read o args read x is = subst (λ l. AsksChange o (map plain_argument l) x) (sym is)

pub none_read : (o : ChangeOperator) (args read : List ArgText) → args ≡ read
    → ((x : Change) → AsksChange o (map plain_argument read) x → ⊥) → (x : Change)
    → AsksChange o (map plain_argument args) x → ⊥
none_read o args read is never x asks =
    never x (subst (λ l. AsksChange o (map plain_argument l) x) is asks)

pub operation_read : (o : OperatorName) (args read : List ArgText) (x : Operation) → args ≡ read
    → AsksOperation o (map plain_argument read) x → AsksOperation o (map plain_argument args) x
operation_read o args read x is = subst (λ l. AsksOperation o (map plain_argument l) x) (sym is)

-- ---- by their form

pub no_control : (o : ControlOperator) (a : tree.Argument) → ((e : Tree) → AsksControl a e → ⊥)
    → (x : Change) → AsksChange (kind.WithControl o) (a ∷ []) x → ⊥
no_control o a never _ (with_control _ _ e h) = never e h

pub no_word : (o : WordOperator) (a : tree.Argument) → ((word : List ℕ) → IsWord a word → ⊥)
    → (x : Change) → AsksChange (kind.WithWord o) (a ∷ []) x → ⊥
no_word o a never _ (with_word _ _ word h) = never word h

pub no_loop : (a : tree.Argument) → ((name : List ℕ) → AsksName a name → ⊥) → (x : Change)
    → AsksChange kind.MultLoops (a ∷ []) x → ⊥
no_loop a never _ (mult_loops _ name h) = never name h

pub no_condition : (a : tree.Argument) → ((c : Tree) → AsksCondition a c → ⊥) → (x : Change)
    → AsksChange kind.Specialize (a ∷ []) x → ⊥
no_condition a never _ (specialize _ c h) = never c h

pub no_bound_part : (a b : tree.Argument) → ((p : ExprPattern) → AsksExpression a p → ⊥)
    → (x : Change) → AsksChange kind.BindExpr (a ∷ b ∷ []) x → ⊥
no_bound_part a b never _ (bind_expr _ _ p name h k) = never p h

pub no_written : (a b c : tree.Argument) → ((e : Tree) → AsksEither c e → ⊥) → (x : Change)
    → AsksChange kind.WriteConfig (a ∷ b ∷ c ∷ []) x → ⊥
no_written a b c never _ (write_config _ _ _ word field e h k l) = never e l

pub no_param : (a b c : tree.Argument) → ((name : List ℕ) → AsksName a name → ⊥) → (x : Change)
    → AsksChange kind.BindConfig (a ∷ b ∷ c ∷ []) x → ⊥
no_param a b c never _ (bind_config _ _ _ param word field h k l) = never param h

pub no_bound_field : (a b c : tree.Argument) → ((name : List ℕ) → AsksName c name → ⊥)
    → (x : Change) → AsksChange kind.BindConfig (a ∷ b ∷ c ∷ []) x → ⊥
no_bound_field a b c never _ (bind_config _ _ _ param word field h k l) = never field l

pub no_window : (a b : tree.Argument) (keys : List tree.Argument)
    → ((w : Window) → AsksWindow a w → ⊥) → (x : Change)
    → AsksChange kind.StageMem (a ∷ b ∷ keys) x → ⊥
no_window a b keys never _ (stage_mem _ _ _ w name accum h k l) = never w h

pub no_accum : (a b : tree.Argument) (keys : List tree.Argument) → accum_in keys ≡ None
    → (x : Change) → AsksChange kind.StageMem (a ∷ b ∷ keys) x → ⊥
no_accum a b keys none _ (stage_mem _ _ _ w name accum h k l) =
    let e : None ≡ Some accum = sym none ∙ l in cc (e)

pub no_division : (a b : tree.Argument) (keys : List tree.Argument)
    → ((d : Division) → AsksDivision a b keys d → ⊥) → (x : Change)
    → AsksChange kind.DivideLoop (a ∷ b ∷ keys) x → ⊥
no_division a b keys never _ (divide_loop _ _ _ d h) = never d h

pub no_branch : (keys : List tree.Argument) → keep_in keys ≡ None → (x : Change)
    → AsksChange kind.EliminateDeadCode keys x → ⊥
no_branch keys none _ (eliminate_dead_code _ keep h) =
    let e : None ≡ Some keep = sym none ∙ h in cc (e)

pub no_change : (o : ChangeOperator) (a : tree.Argument) (more : List tree.Argument)
    → ((x : Change) → AsksChange o more x → ⊥) → (x : Operation)
    → AsksOperation (operator.At o) (a ∷ more) x → ⊥
no_change o a more never _ (at _ _ _ asked change h k) = never change k
