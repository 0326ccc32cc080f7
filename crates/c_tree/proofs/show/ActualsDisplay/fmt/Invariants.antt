-- What is written and what is left make the whole.
use Rattle.std.proofs.Common.{◌≡◌, ℕ, List, ◌++◌, codes, drop, map}
use Rattle.std.specs.Fmt.{HasWritten, IsPlainFormatter}
use Rattle.c_tree.specs.CText.{each, listed, actual_text}
use Rattle.c_tree.specs.Plain.{plain_actual}
use Rattle.c_tree.proofs.show.ActualsDisplay.fmt.Given as goal

abbrev pub invariant-loop-actual : goal.invariant-loop-actual
invariant-loop-actual g l =
    IsPlainFormatter l.fn.f
    → (done : List ℕ) × HasWritten g.W.Write.write_str_gives l.fn.f done l.f
    × (done ++ each (λ u. codes ", " ++ u) (map actual_text (map plain_actual (drop l.actual-index l.rest))) ≡ listed (map actual_text (map plain_actual l.fn.self.0.now.items)))
