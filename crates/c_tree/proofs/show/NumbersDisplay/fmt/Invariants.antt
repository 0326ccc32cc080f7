-- What is written and what is left make the whole.
use Rattle.std.proofs.Common.{◌≡◌, ℕ, List, ◌++◌, codes, drop, map}
use Rattle.std.specs.Fmt.{HasWritten, IsPlainFormatter}
use Rattle.c_tree.specs.CText.{each, listed, number64_text}
use Rattle.c_tree.specs.Plain.{plain_number}
use Rattle.c_tree.proofs.show.NumbersDisplay.fmt.Given as goal

abbrev pub invariant-loop-number : goal.invariant-loop-number
invariant-loop-number g l =
    IsPlainFormatter l.fn.f
    → (done : List ℕ) × HasWritten g.W.Write.write_str_gives l.fn.f done l.f
    × (done ++ each (λ u. codes ", " ++ u) (map number64_text (map plain_number (drop l.number-index l.rest))) ≡ listed (map number64_text (map plain_number l.fn.self.0.now.items)))
