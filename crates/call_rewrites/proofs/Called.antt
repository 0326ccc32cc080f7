-- The call that stands at a piece, and what is made of it.
use Rattle.std.proofs.Common.{◌≡◌, ℕ, Bool, true, false, if◌then◌else◌, refl, sym, ap, ◌∙◌}
use Rattle.std.specs.Prelude.{Option, Some, None, option_map, option_and_then, slice_get}
use Rattle.exo_tree.specs.Tree.{Block, end, next, Procedure}
use Rattle.exo_tree.specs.Places.{Path, Opened, opened}
use Rattle.match_laws.specs.Inline.InlineRule.{Called, called_by, called_in, are_plain_arguments, inline_piece}
use Rattle.cursor_forward.specs.Causes.{WrongShape}
use Rattle.step_rules.specs.Rule.{Tried, Got, Not, Target, Spot, Piece}
use Rattle.step_rules.specs.Lawful.{old}
use Rattle.step_rules.specs.Shapes.{tried, alone_in}
use Rattle.step_driver.specs.Spots.{or_nothing, spot_at}
use Rattle.call_laws.specs.Calls.Here.{inlined_by}
use Rattle.call_laws.specs.Calls.Inline.{inlined_there}

pub called_alone : (b : Block) → option_and_then called_by (alone_in b) ≡ called_in b
called_alone end = refl
called_alone (next a end) = refl
called_alone (next a (next b c)) = refl

-- ---- the piece

abbrev if_plain : Path → Option Called → Option Piece
if_plain at o =
    elim o [
      | None ↦ None
      | Some c ↦ if are_plain_arguments c.args then Some (record { path = at; count = 1 }) else None
    ]

abbrev one_at : Path → Piece
one_at at = record { path = at; count = 1 }

abbrev call_there : Target → Piece → Option Called
call_there t p = called_in (spot_at t p).opened.piece

module _ (t : Target) (at : Path) (p : Piece) (one : p ≡ one_at at) where
  asked : inline_piece t.proc at ≡ if_plain at (call_there t (one_at at))
  asked = by (opened 1 at t.proc.body)
    where
      by : (o : Option Opened)
          → (elim o [
            | None ↦ None
            | Some k ↦ if_plain at (called_in k.piece)
          ]) ≡ if_plain at (called_in (or_nothing o).piece)
      by None = refl
      by (Some o) = refl

  -- by what the code has found
  found : (o : Option Called) → o ≡ call_there t p → inline_piece t.proc at ≡ if_plain at o
  found o h = asked ∙ sym (ap (if_plain at) (h ∙ ap (call_there t) one))

  pub no_piece : None ≡ call_there t p → tried (inline_piece t.proc at) (λ p. p) ≡ Not WrongShape
  no_piece h = ap (λ o. tried o (λ p. p)) (found None h)

  abbrev answer : Bool → Tried Piece
  answer b = tried (if b then Some (record { path = at; count = 1 }) else None) (λ p. p)

  pub not_plain : (c : Called) → Some c ≡ call_there t p → are_plain_arguments c.args ≡ false
      → tried (inline_piece t.proc at) (λ p. p) ≡ Not WrongShape
  not_plain c h k = ap (λ o. tried o (λ p. p)) (found (Some c) h) ∙ ap answer k

  pub one_call : (c : Called) → Some c ≡ call_there t p → are_plain_arguments c.args ≡ true
      → tried (inline_piece t.proc at) (λ p. p) ≡ Got p
  one_call c h k = ap (λ o. tried o (λ p. p)) (found (Some c) h) ∙ ap answer k ∙ ap Got (sym one)

-- ---- what stands for it

module _ (s : Spot) (base : ℕ) where
  abbrev made : Option Called → Option Block
  made o =
      option_and_then (λ c. option_map (inlined_by base c) (slice_get s.target.unit.procedures c.callee)) o

  pub not_called : None ≡ called_in (old s) → tried (inlined_there s base) (λ b. b) ≡ Not WrongShape
  not_called h = sym (ap (λ o. tried (made o) (λ b. b)) h)

  pub no_callee : (c : Called) → Some c ≡ called_in (old s)
      → None ≡ slice_get s.target.unit.procedures c.callee
      → tried (inlined_there s base) (λ b. b) ≡ Not WrongShape
  no_callee c h k =
      sym (ap (λ o. tried (made o) (λ b. b)) h)
      ∙ sym (ap (λ o. tried (option_map (inlined_by base c) o) (λ b. b)) k)

  pub callee_put : (c : Called) (q : Procedure) (b : Block) → Some c ≡ called_in (old s)
      → Some q ≡ slice_get s.target.unit.procedures c.callee
      → b ≡ inlined_by base c q
      → tried (inlined_there s base) (λ b. b) ≡ Got b
  callee_put c q b h k e =
      sym (ap (λ o. tried (made o) (λ b. b)) h)
      ∙ sym (ap (λ o. tried (option_map (inlined_by base c) o) (λ b. b)) k)
      ∙ ap Got (sym e)
