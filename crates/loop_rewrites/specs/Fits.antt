-- Which loops fit.
use Rattle.std.specs.Prelude.{◌≡◌, ℤ, pos, int_le, Bool, true, false, ◌&&◌, if◌then◌else◌}
use Rattle.std.specs.Prelude.{Option, Some, None, option_and_then, refl}
use Rattle.exo_tree.specs.Tree.{Block}
use Rattle.place_laws.specs.Order.TurnsOfTwo.{Loop}
use Rattle.loop_laws.specs.Shapes.{loop_of, is_zero, from_zero}
use Rattle.loop_laws.specs.DivideLoop.{divisible}
use Rattle.step_targets.specs.Kinds.{fitting}

-- those from the literal 0 on, where groups have turns
pub divisible_fits :
    (by : ℤ) (b : Block) → divisible by b ≡ fitting (λ l. int_le (pos 1) by && is_zero l.lo) b
divisible_fits by b =
    elim (int_le (pos 1) by) as (λ (t : Bool).
    (if t then option_and_then from_zero (loop_of b) else None)
    ≡ fitting (λ l. t && is_zero l.lo) b) [
      | true ↦ refl
      | false ↦
          elim (loop_of b) as (λ (o : Option Loop).
          ◌≡◌ {A = Option Loop} None (option_and_then (λ (l : Loop). None) o)) [
            | None ↦ refl
            | Some l ↦ refl
          ]
    ]
