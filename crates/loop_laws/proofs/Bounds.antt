-- Bounds that agree.
use Rattle.std.proofs.Common.{◌≡◌, Bool, true, false, Some, None, refl}
use Rattle.std.specs.Prelude.{if◌then◌else◌}
use Rattle.exo_tree.specs.Tree.{Control}
use Rattle.affine_places.specs.Agreement.{agree, agreement_fits}
use Rattle.affine_places.specs.Readings.{extent_reading}
use Rattle.cursor_forward.specs.Causes.{WrongShape, Form, WideNumber}
use Rattle.loop_laws.specs.Bounds.{bounds_differ}

pub bounds_agree : (a b : Control) → bounds_differ a b ≡ None → agree extent_reading a b ≡ true
bounds_agree a b h = by (agreement_fits extent_reading a b) (agree extent_reading a b) refl h
  where
    by : (s t : Bool) → agree extent_reading a b ≡ t
        → (if s then (if t then None else Some WrongShape) else Some (Form WideNumber)) ≡ None
        → agree extent_reading a b ≡ true
    by true true e h = e
    by true false e h = cc
    by false t e h = cc
