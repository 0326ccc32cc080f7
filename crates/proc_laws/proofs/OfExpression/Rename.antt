-- The rule that gives another name is lawful.
use Rattle.std.proofs.Common.{◌≡◌, ℕ, List, Some, refl, sym, ap, ◌∙◌, subst}
use Rattle.exo_tree.specs.Tree.{Block, end}
use Rattle.exo_tree.specs.Places.{Opened, opened}
use Rattle.exo_meaning.specs.Run.{run}
use Rattle.cursor_forward.specs.Shifts.{at_index}
use Rattle.step_rules.specs.Rule.{Got, Piece}
use Rattle.step_rules.specs.Lawful.{world_of, same, IsLawful, IsCarrying}
use Rattle.proc_laws.specs.Expression.Rename.{rename_rule}

nothing_opened : (body : Block) (o : Opened) → opened 0 (at_index 0) body ≡ Some o → end ≡ o.piece
nothing_opened body o h = ap (λ (p : Opened). p.piece) (some_is h)
  where
    some_is : {o p : Opened} → Some o ≡ Some p → o ≡ p
    some_is e = cc

same_piece : {p q : Piece} → Got p ≡ Got q → p ≡ q
same_piece h = cc

same_block : {b d : Block} → Got b ≡ Got d → b ≡ d
same_block h = cc

pub rename_is_lawful : (name : List ℕ) → IsLawful (rename_rule name)
rename_is_lawful name = record {
  replaces = λ a is versions met. same (λ first u good come stands.
      let none = nothing_opened a.spot.target.proc.body a.spot.opened
      (subst (λ (p : Piece). opened p.count p.path a.spot.target.proc.body ≡ Some a.spot.opened)
      (sym (same_piece is.chosen)) is.spot.opens) in
      ap (λ b. run (world_of a.spot) b u) (sym none ∙ same_block is.drafted));
}

pub rename_is_carrying : (name : List ℕ) → IsCarrying (rename_rule name)
rename_is_carrying name = record { carries = λ a is. tt; apart = λ a is. refl }
