-- Loops whose bodies see what they do.
use Rattle.std.proofs.Common.{◌≡◌, ◌||◌, ◌&&◌, Bool, Option, Some, None, refl, ap, ap₂, ◌∙◌}
use Rattle.exo_tree.specs.Context.{Context}
use Rattle.exo_tree.specs.Places.{Opened, opened}
use Rattle.place_laws.specs.Order.TurnsOfTwo.{Loop}
use Rattle.piece_modes.specs.Own.{sees_own_root}
use Rattle.piece_modes.specs.Way.{around_of}
use Rattle.step_rules.specs.Rule.{Target, Piece}
use Rattle.step_driver.specs.Spots.{or_nothing, spot_at}
use Rattle.config_state.specs.Steps.Fields.{written_in, read_in}
use Rattle.proc_laws.specs.Statement.Fields.{some_field}
use Rattle.proc_laws.specs.Statement.RemoveLoop.{sees_own}

same_around : (x : Option Opened) → around_of x ≡ (or_nothing x).around
same_around None = refl
same_around (Some o) = refl

pub own_seen : (t : Target) (q : Piece) (l : Loop) (root field : Bool)
    → root ≡ sees_own_root t.unit t.proc (around_of (opened q.count q.path t.proc.body)) l.body
    → field ≡ some_field t.unit.fields (λ f. written_in t.unit l.body f && read_in t.unit l.body f)
    → (root || field) ≡ sees_own (spot_at t q) l
own_seen t q l root field h k =
    ap₂ ◌||◌
    (h ∙ ap (λ (c : Context). sees_own_root t.unit t.proc c l.body) (same_around (opened q.count q.path t.proc.body)))
    k
