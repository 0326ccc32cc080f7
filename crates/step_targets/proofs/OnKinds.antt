-- What rules of a kind say.
use Rattle.std.proofs.Common.{◌≡◌, ℕ, zero, Bool, true, List, [], Option, Some, None, refl, ap, ◌∙◌}
use Rattle.std.specs.Prelude.{option_and_then}
use Rattle.exo_tree.specs.Tree.{Block, Procedure}
use Rattle.exo_tree.specs.Places.{Path, Opened, opened}
use Rattle.cursor_forward.specs.Cursors.{Before}
use Rattle.cursor_forward.specs.Shifts.{Shift}
use Rattle.place_laws.specs.Order.TurnsOfTwo.{Loop}
use Rattle.step_rules.specs.Rule.{Tried, Need, Piece, Target, Spot, Writing, Rule}
use Rattle.step_rules.specs.Shapes.{tried}
use Rattle.loop_laws.specs.Shapes.{loop_of, listed}
use Rattle.step_driver.specs.Spots.{or_nothing, spot_at, exit_of}
use Rattle.step_targets.specs.Kinds.{quietly, plainly, fitting, on_loop}

-- ---- besides

module _ (r : Rule) (is : r ≡ plainly r) where
  pub unnamed : r.named ≡ zero
  unnamed = ap (λ (q : Rule). q.named) is

  pub unrefused : (s : Spot) → r.refusal s ≡ None
  unrefused s = ap (λ (q : Rule). q.refusal s) is

module _ (r : Rule) (is : r ≡ quietly r) where
  pub name_is : (p : Procedure) → r.name p ≡ p.name
  name_is p = ap (λ (q : Rule). q.name p) is

  pub exit_is : (s : Spot) → exit_of r s ≡ record { fields = []; place = []; side = Before }
  exit_is s = ap (λ (q : Rule). exit_of q s) is

-- ---- on a loop

-- each loop fits
pub any_fits : (b : Block) → loop_of b ≡ fitting (λ l. true) b
any_fits b =
    elim (loop_of b) as (λ o. o ≡ option_and_then (λ l. Some l) o) [
      | None ↦ refl
      | Some l ↦ refl
    ]

module _ (r : Rule) (read : Block → Option Loop) (fit : Loop → Bool) (make : Loop → ℕ → Block)
    (owe : Path → Loop → List Need) (go : Loop → List Shift)
    (is : r ≡ on_loop read make owe go r) (reads : (b : Block) → read b ≡ fitting fit b) where
  pub piece_is : (t : Target) (at : Path)
      → r.piece t at
      ≡ tried (fitting fit (spot_at t (record { path = at; count = 1 })).opened.piece)
      (λ l. record { path = at; count = 1 })
  piece_is t at =
      let found : Option Loop → Tried Piece = λ x. tried x (λ l. record { path = at; count = 1 }) in
      ap (λ (q : Rule). q.piece t at) is
      ∙ elim (opened 1 at t.proc.body) as (λ (m : Option Opened).
      found (option_and_then (λ o. read o.piece) m) ≡ found (fitting fit (or_nothing m).piece)) [
        | None ↦ refl
        | Some o ↦ ap found (reads o.piece)
      ]

  pub draft_is : (s : Spot) (how : Writing) (base : ℕ)
      → r.draft s how base ≡ tried (fitting fit s.opened.piece) (λ l. make l base)
  draft_is s how base =
      ap (λ (q : Rule). q.draft s how base) is
      ∙ ap (λ (x : Option Loop). tried x (λ l. make l base)) (reads s.opened.piece)

  pub needs_are : (s : Spot) → r.needs s ≡ listed (fitting fit) (owe s.piece.path) s
  needs_are s =
      let told : Option Loop → List Need = λ x. elim x [ None ↦ [] | Some l ↦ owe s.piece.path l ] in
      ap (λ (q : Rule). q.needs s) is ∙ ap told (reads s.opened.piece)

  pub shifts_are : (s : Spot) → r.shifts s ≡ listed (fitting fit) go s
  shifts_are s =
      let told : Option Loop → List Shift = λ x. elim x [ None ↦ [] | Some l ↦ go l ] in
      ap (λ (q : Rule). q.shifts s) is ∙ ap told (reads s.opened.piece)
