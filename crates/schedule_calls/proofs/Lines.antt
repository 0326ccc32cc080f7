-- Lines that ask for something, and some that ask for nothing.
use Rattle.std.proofs.Common.{◌≡◌, ℕ, List, ◌∷◌, Some, None, true, false, map, sym, ap, subst, ◌∙◌}
use Rattle.std.specs.Prelude.{not}
use Rattle.std.specs.Option.{is_some}
use Rattle.cursor_forward.specs.Search.Patterns.{Pattern}
use Rattle.schedule_text.specs.Tree as tree
use Rattle.schedule_text.specs.Views.{plain_move}
use Rattle.schedule_text.specs.declared.source.Move as source
use Rattle.schedule_calls.specs.Requests.{Operation, Request, Search, Moved}
use Rattle.schedule_calls.specs.Operators.{operator_of}
use Rattle.schedule_calls.specs.declared.operator.OperatorName.{OperatorName}
use Rattle.schedule_calls.specs.Readings.{IsPatternIn, IsWord, AsksOperation, Asks}
use Rattle.schedule_calls.specs.Readings.{apply, search, moved, move, is_unknown}
use Rattle.schedule_calls.specs.PlainRequest.{moves_of}

pub asks_search : (bind x : List ℕ) (pieces : List (List ℕ)) (read : List source.Move)
    (p : Pattern) (nth : ℕ) (ms : List source.Move) → ms ≡ read → IsPatternIn pieces (p, nth)
    → Asks
    (tree.bind bind
    (tree.search (record { version = x; pattern = pieces; moves = map plain_move read })))
    (Search bind x p nth (moves_of ms))
asks_search bind x pieces read p nth ms is asks =
    subst
    (λ l. Asks
    (tree.bind bind
    (tree.search (record { version = x; pattern = pieces; moves = map plain_move read })))
    (Search bind x p nth (moves_of l)))
    (sym is)
    (search bind (record { version = x; pattern = pieces; moves = map plain_move read }) p nth asks)

pub asks_moved : (bind x : List ℕ) (m : source.Move) (read ms : List source.Move) → ms ≡ read
    → Asks (tree.bind bind (tree.moved x (plain_move m) (map plain_move read)))
    (Moved bind x (move (plain_move m) ∷ moves_of ms))
asks_moved bind x m read ms is =
    subst
    (λ l. Asks (tree.bind bind (tree.moved x (plain_move m) (map plain_move read)))
    (Moved bind x (move (plain_move m) ∷ moves_of l)))
    (sym is) (moved bind x (plain_move m) (map plain_move read))

pub no_search : (bind : List ℕ) (f : tree.Found)
    → ((t : Pattern × ℕ) → IsPatternIn f.pattern t → ⊥) → (r : Request)
    → Asks (tree.bind bind (tree.search f)) r → ⊥
no_search bind f never _ (search _ _ p nth asks) = never (p, nth) asks

-- ---- operators

known : (name : List ℕ) (o p : OperatorName) → operator_of name ≡ Some o → operator_of name ≡ Some p
    → o ≡ p
known name o p h k = let same : Some o ≡ Some p = sym h ∙ k in cc (same)

pub no_apply : (bind name : List ℕ) (args : tree.Arguments) (o : OperatorName)
    → operator_of name ≡ Some o → ((x : Operation) → AsksOperation o args.more x → ⊥)
    → (r : Request) → Asks (tree.bind bind (tree.operation name args)) r → ⊥
no_apply bind name args o is never _ (apply _ _ of _ p x there word asks) =
    never x (subst (λ q. AsksOperation q args.more x) (known name p o there is) asks)

pub no_version : (bind name : List ℕ) (args : tree.Arguments)
    → ((of : List ℕ) → IsWord args.head of → ⊥) → (r : Request)
    → Asks (tree.bind bind (tree.operation name args)) r → ⊥
no_version bind name args never _ (apply _ _ of _ o x there word asks) = never of word

pub no_operator : (bind name : List ℕ) (args : tree.Arguments) → operator_of name ≡ None
    → is_unknown (tree.bind bind (tree.operation name args)) ≡ true
no_operator bind name args none = ap (λ found. not (is_some found)) none

pub is_known : (bind name : List ℕ) (args : tree.Arguments) (o : OperatorName)
    → operator_of name ≡ Some o → is_unknown (tree.bind bind (tree.operation name args)) ≡ false
is_known bind name args o is = ap (λ found. not (is_some found)) is
