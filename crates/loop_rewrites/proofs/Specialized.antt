-- Whether statements may be put under a condition, by what is found of the statements behind them.
use Rattle.std.proofs.Common.{◌≡◌, Bool, if◌then◌else◌, Option, Some, None, refl, ap, sym, ◌∙◌}
use Rattle.std.specs.Prelude.{option_map}
use Rattle.exo_tree.specs.Tree.{Block}
use Rattle.exo_tree.specs.Context.{rest_of}
use Rattle.exo_tree.specs.Places.{Opened}
use Rattle.exo_meaning.specs.Unseen.{in_block as mentions}
use Rattle.place_laws.specs.Scope.Scopes.{top_binders}
use Rattle.cursor_forward.specs.Causes.{WrongShape}
use Rattle.step_rules.specs.Rule.{Tried, Got, Not, Piece}
use Rattle.step_rules.specs.Answer.{then_try, opened_or_wrong}
use Rattle.step_driver.specs.Spots.{or_nothing}
use Rattle.loop_laws.specs.Specialize.{is_used_after}

-- what follows mentions a name that this block leaves
abbrev pub mentioned : Block → Option Opened → Option Bool
mentioned b x = option_map (λ (o : Opened). mentions (top_binders b) (rest_of o.around)) x

abbrev pub tried_piece : Piece → Option Opened → Tried Piece
tried_piece p x =
    then_try (opened_or_wrong x) (λ (o : Opened). if is_used_after o then Not WrongShape else Got p)

pub piece_tried : (x : Option Opened) (b : Block) (p : Piece) (used : Bool)
    → b ≡ (or_nothing x).piece → Some used ≡ mentioned b x
    → tried_piece p x ≡ (if used then Not WrongShape else Got p)
piece_tried None b p used e h = cc
piece_tried (Some o) b p used e h =
    ap (λ (y : Option Bool). elim y [ None ↦ Not WrongShape | Some t ↦ if t then Not WrongShape else Got p ])
    (ap (λ (c : Block). Some (mentions (top_binders c) (rest_of o.around))) (sym e) ∙ sym h)

pub nothing_tried : (x : Option Opened) (b : Block) (p : Piece) → None ≡ mentioned b x
    → tried_piece p x ≡ Not WrongShape
nothing_tried None b p h = refl
nothing_tried (Some o) b p h = cc
