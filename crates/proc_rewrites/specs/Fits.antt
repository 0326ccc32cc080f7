-- Which loops fit.
use Rattle.std.specs.Prelude.{◌≡◌, ◌==◌, Bool, true, false, not, if◌then◌else◌, Option, Some, None}
use Rattle.std.specs.Prelude.{option_and_then, refl}
use Rattle.exo_tree.specs.Tree.{Block}
use Rattle.exo_meaning.specs.Unseen.{in_block}
use Rattle.place_laws.specs.Order.TurnsOfTwo.{Loop}
use Rattle.loop_laws.specs.Shapes.{loop_of}
use Rattle.proc_laws.specs.Statement.RemoveLoop.{without_variable, removable}
use Rattle.step_targets.specs.Kinds.{fitting}

-- those whose bodies lack their variables
pub removable_fits :
    (b : Block) → removable b ≡ fitting (λ l. not (in_block (λ x. x == l.binder.id) l.body)) b
removable_fits b =
    elim (loop_of b) as (λ (o : Option Loop).
    option_and_then without_variable o
    ≡ option_and_then
    (λ l. if not (in_block (λ x. x == l.binder.id) l.body) then Some l else None) o) [
      | None ↦ refl
      | Some l ↦
          elim (in_block (λ x. x == l.binder.id) l.body) as (λ (t : Bool).
          Rattle.std.specs.Prelude.if◌then◌else◌ t None (Some l)
          ≡ (if not t then Some l else None)) [
            | true ↦ refl
            | false ↦ refl
          ]
    ]
