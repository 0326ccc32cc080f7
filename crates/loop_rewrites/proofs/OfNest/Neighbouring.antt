-- Two loops, the second of which goes on where the first ends.
use Rattle.std.proofs.Common.{◌≡◌, ℕ, Bool, true, false, ◌&&◌, Option, Some, None, sym, ap, ◌∙◌}
use Rattle.std.specs.Prelude.{if◌then◌else◌, option_and_then}
use Rattle.exo_tree.specs.Tree.{Block}
use Rattle.cursor_forward.specs.Causes.{Cause, WrongShape}
use Rattle.step_rules.specs.Rule.{Tried, Got, Not}
use Rattle.step_rules.specs.Answer.{then_try, unless}
use Rattle.step_rules.specs.Shapes.{tried}
use Rattle.step_driver.specs.Needs.Outcomes.{RefusedBy, IsCause}
use Rattle.loop_laws.specs.Bounds.{bounds_differ}
use Rattle.loop_laws.specs.JoinLoops.{have_one_body, meet_in_variables}
use Rattle.loop_laws.specs.JoinLoops.{with_one_body, where_they_meet, joining}
use Rattle.loop_laws.specs.Nest.Fuse.{Two, two_of}

-- ---- where they meet

module _ (n : Two) where
  pub they_meet : bounds_differ n.second.lo n.first.hi ≡ None → where_they_meet n ≡ Got n
  they_meet h = ap (λ (w : Option Cause). unless w (Got n)) h

  pub they_miss : (why : Option Cause) → IsCause (bounds_differ n.second.lo n.first.hi) why
      → RefusedBy (where_they_meet n) why
  they_miss None h = tt
  they_miss (Some cause) h = ap (λ (w : Option Cause). unless w (Got n)) h

-- ---- the shape

module _ (base : ℕ) (b : Block) where
  abbrev from : Option Two → Tried Two
  from x = then_try (tried (option_and_then (with_one_body base) x) (λ n. n)) where_they_meet

  abbrev tested : Two → Bool → Tried Two
  tested n t = then_try (tried (if t then Some n else None) (λ n. n)) where_they_meet

  pub no_neighbours : None ≡ two_of b → joining base b ≡ Not WrongShape
  no_neighbours h = ap from (sym h)

  pub other_bodies : (n : Two) → Some n ≡ two_of b → have_one_body base n ≡ false
      → joining base b ≡ Not WrongShape
  other_bodies n h k = ap from (sym h) ∙ ap (λ t. tested n (t && meet_in_variables n)) k

  pub other_bounds : (n : Two) → Some n ≡ two_of b → have_one_body base n ≡ true
      → meet_in_variables n ≡ false → joining base b ≡ Not WrongShape
  other_bounds n h k l =
      ap from (sym h) ∙ ap (λ t. tested n (t && meet_in_variables n)) k ∙ ap (tested n) l

  pub joining_of : (n : Two) → Some n ≡ two_of b → have_one_body base n ≡ true
      → meet_in_variables n ≡ true → joining base b ≡ where_they_meet n
  joining_of n h k l =
      ap from (sym h) ∙ ap (λ t. tested n (t && meet_in_variables n)) k ∙ ap (tested n) l
