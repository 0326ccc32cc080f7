-- Answers where a piece is there.
use Rattle.std.proofs.Common.{◌≡◌, Bool, List, [], ◌∷◌, Option, Some, None, refl, sym, ap, ◌∙◌}
use Rattle.std.specs.Prelude.{option_map}
use Rattle.exo_tree.specs.Tree.{Statement, Block, block, statements}
use Rattle.exo_tree.specs.Context.{fill}
use Rattle.exo_tree.specs.Places.{Path, Opened, opened}
use Rattle.tree_edits.specs.Made.Passes.{is_alone}
use Rattle.cursor_forward.specs.Causes.{WrongShape}
use Rattle.step_rules.specs.Rule.{Tried, Got, Not, Target, Piece, Rule}
use Rattle.step_rules.specs.Answer.{then_try, opened_or_wrong, spot, answered, proposed}
use Rattle.step_driver.specs.Spots.{or_nothing, spot_at}

abbrev alone_of : Option Opened → Option Bool
alone_of x = option_map (λ o. is_alone o.around) x

there_at : (r : Rule) (t : Target) (p : Piece) (x : Option Opened) (alone : Bool)
    → alone_of x ≡ Some alone
    → then_try (opened_or_wrong x) (λ o. answered r (spot t p o)) ≡ answered r (spot t p (or_nothing x))
there_at r t p None alone h = cc
there_at r t p (Some o) alone h = refl

not_there : (r : Rule) (t : Target) (p : Piece) (x : Option Opened) → alone_of x ≡ None
    → then_try (opened_or_wrong x) (λ o. answered r (spot t p o)) ≡ Not WrongShape
not_there r t p None h = refl
not_there r t p (Some o) h = cc

pub answered_there : (r : Rule) (t : Target) (at : Path) (p : Piece) (alone : Bool)
    → r.piece t at ≡ Got p
    → Some alone ≡ option_map (λ (o : Opened). is_alone o.around) (opened p.count p.path t.proc.body)
    → proposed r t at ≡ answered r (spot_at t p)
answered_there r t at p alone h k =
    ap (λ (x : Tried Piece). then_try x (λ p. then_try (opened_or_wrong (opened p.count p.path t.proc.body))
    (λ o. answered r (spot t p o)))) h
    ∙ there_at r t p (opened p.count p.path t.proc.body) alone (sym k)

pub nothing_there : (r : Rule) (t : Target) (at : Path) (p : Piece)
    → r.piece t at ≡ Got p
    → None ≡ option_map (λ (o : Opened). is_alone o.around) (opened p.count p.path t.proc.body)
    → proposed r t at ≡ Not WrongShape
nothing_there r t at p h k =
    ap (λ (x : Tried Piece). then_try x (λ p. then_try (opened_or_wrong (opened p.count p.path t.proc.body))
    (λ o. answered r (spot t p o)))) h
    ∙ not_there r t p (opened p.count p.path t.proc.body) (sym k)

pub filled_there : (x : Option Opened) (alone : Bool) (b body : Block)
    → option_map (λ (o : Opened). is_alone o.around) x ≡ Some alone
    → Some body ≡ option_map (λ (o : Opened). fill o.around b) x
    → body ≡ fill (or_nothing x).around b
filled_there None alone b body h k = cc
filled_there (Some o) alone b body h k = cc

pub never_missing : (x : Option Opened) (alone : Bool) (b : Block)
    → option_map (λ (o : Opened). is_alone o.around) x ≡ Some alone
    → None ≡ option_map (λ (o : Opened). fill o.around b) x → ⊥
never_missing None alone b h k = cc
never_missing (Some o) alone b h k = cc

pub alone_there : (x : Option Opened) (alone : Bool)
    → option_map (λ (o : Opened). is_alone o.around) x ≡ Some alone
    → is_alone (or_nothing x).around ≡ alone
alone_there None alone h = cc
alone_there (Some o) alone h = cc

pub statements_of : (ss : List Statement) → statements (block ss) ≡ ss
statements_of [] = refl
statements_of (a ∷ ss) = ap (λ xs. a ∷ xs) (statements_of ss)
