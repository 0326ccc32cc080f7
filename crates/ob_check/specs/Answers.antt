-- The answer to which verdicts come.
use Rattle.std.specs.Prelude.{◌≡◌, ℕ, ◌+◌, Bool, true, false}
use Rattle.std.specs.Prelude.{List, All, Option, Some, None, slice_get}
use Rattle.std.specs.List.{position_or_len}
use Rattle.affine_forms.specs.Affine.{Constraints, HasNoIntegerPoint}
use Rattle.affine_prover.specs.declared.answer.Verdict.{Verdict}
use Rattle.affine_prover.specs.declared.answer.Verdict.TheVariants.{Shown, Open, TooMany, TooWide}
use Rattle.ob_check.specs.declared.answer.Answer.{Answer}
use Rattle.ob_check.specs.declared.answer.Answer.TheVariants.{AllShown, First}

-- the verdict leaves it open whether its system has an integer point
abbrev pub is_refused : Verdict → Bool
is_refused Shown = false
is_refused Open = true
is_refused TooMany = true
is_refused TooWide = true

abbrev pub answer_at : ℕ → Option Verdict → Answer
answer_at i None = AllShown
answer_at i (Some v) = First i v

-- the first verdict that is refused, with its index, or `AllShown` where none is
abbrev pub answer_of : List Verdict → Answer
answer_of vs = let i = position_or_len is_refused vs in answer_at i (slice_get vs i)

-- the answer on two lists, one after the other, by those on each, where the first has n items
abbrev pub joined_answer : ℕ → Answer → Answer → Answer
joined_answer n AllShown AllShown = AllShown
joined_answer n AllShown (First i v) = First (n + i) v
joined_answer n (First i v) b = First i v

-- where the answer is `AllShown`, no system has an integer point
abbrev pub ShownHasNoPoint : List Constraints → Answer → Type 0
ShownHasNoPoint ss a = a ≡ AllShown → All HasNoIntegerPoint ss
