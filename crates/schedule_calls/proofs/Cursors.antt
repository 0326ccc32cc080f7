-- Arguments that ask for cursors, and some that ask for none.
use Rattle.std.proofs.Common.{◌≡◌, ℕ, List, [], map, sym, subst}
use Rattle.cursor_forward.specs.Search.Patterns.{Pattern}
use Rattle.schedule_text.specs.Tree as tree
use Rattle.schedule_text.specs.Views.{plain_move}
use Rattle.schedule_text.specs.declared.source.Move as source
use Rattle.schedule_calls.specs.Requests.{Asked, Under, Found, Here}
use Rattle.schedule_calls.specs.Readings.{IsPatternIn, AsksCursor, under, found, here}
use Rattle.schedule_calls.specs.PlainRequest.{moves_of}

pub asks_under : (x : List ℕ) (read : List source.Move) (ms : List source.Move) → ms ≡ read
    → AsksCursor (tree.cursor (tree.held x (map plain_move read)))
    (record { source = Under x; moves = moves_of ms })
asks_under x read ms is =
    subst
    (λ l. AsksCursor (tree.cursor (tree.held x (map plain_move read)))
    (record { source = Under x; moves = moves_of l }))
    (sym is) (under x (map plain_move read))

pub asks_found : (x : List ℕ) (pieces : List (List ℕ)) (read : List source.Move) (p : Pattern)
    (nth : ℕ) (ms : List source.Move) → ms ≡ read → IsPatternIn pieces (p, nth)
    → AsksCursor
    (tree.cursor
    (tree.found (record { version = x; pattern = pieces; moves = map plain_move read })))
    (record { source = Found x p nth; moves = moves_of ms })
asks_found x pieces read p nth ms is asks =
    subst
    (λ l. AsksCursor
    (tree.cursor
    (tree.found (record { version = x; pattern = pieces; moves = map plain_move read })))
    (record { source = Found x p nth; moves = moves_of l }))
    (sym is)
    (found (record { version = x; pattern = pieces; moves = map plain_move read }) p nth asks)

pub asks_here : (pieces : List (List ℕ)) (p : Pattern) (nth : ℕ) (ms : List source.Move) → ms ≡ []
    → IsPatternIn pieces (p, nth)
    → AsksCursor (tree.string pieces) (record { source = Here p nth; moves = moves_of ms })
asks_here pieces p nth ms is asks =
    subst
    (λ l. AsksCursor (tree.string pieces) (record { source = Here p nth; moves = moves_of l }))
    (sym is) (here pieces p nth asks)

pub no_found : (f : tree.Found) → ((t : Pattern × ℕ) → IsPatternIn f.pattern t → ⊥) → (a : Asked)
    → AsksCursor (tree.cursor (tree.found f)) a → ⊥
no_found f never a (found _ p nth asks) = never (p, nth) asks

pub no_here : (pieces : List (List ℕ)) → ((t : Pattern × ℕ) → IsPatternIn pieces t → ⊥)
    → (a : Asked) → AsksCursor (tree.string pieces) a → ⊥
no_here pieces never a (here _ p nth asks) = never (p, nth) asks
