-- What the refusals of a staged block say of the block in which the buffer stands for the window.
use Rattle.std.specs.Prelude.{◌≡◌, ◌==◌, ℕ, Bool, true, false, Option}
use Rattle.std.specs.Prelude.{List}
use Rattle.exo_tree.specs.Tree.{Coord, Block}
use Rattle.exo_meaning.specs.Calls.{Callee}
use Rattle.exo_meaning.specs.Scene.{updated}
use Rattle.exo_meaning.specs.Unseen.{in_block as mentions, in_coords as coords_mention}
use Rattle.meaning_laws.specs.Scoped.{has_binder}
use Rattle.inplace_laws.specs.Windows.{are_plain}
use Rattle.buffer_laws.specs.Staging.Alone.{has_root}
use Rattle.buffer_laws.specs.Staging.Converted.{converted}
use Rattle.buffer_laws.specs.StageMem.{is_aliased}
use Rattle.buffer_laws.specs.Stride.Strides.{uses_strides, is_stride_used}

-- where the block uses no stride of x, the converted one uses none of a
abbrev pub StridesOnLaw : Type 0
StridesOnLaw =
    (called : ℕ → Option Callee) (sees : ℕ → ℕ → Bool) (root : ℕ → ℕ) (a x : ℕ)
    (coords : List Coord) (b : Block)
    → mentions (λ y. y == a) b ≡ false
    → has_binder b x ≡ false
    → ((y : ℕ) → (y == a) ≡ false → (a == root y) ≡ false)
    → are_plain coords ≡ true
    → is_stride_used called sees root x b ≡ false
    → uses_strides called sees (updated root a a) (converted a x coords b) a ≡ false

-- where it uses no other name of the root of x from outside, and no use of x is left, the converted
-- one uses no name of that root
abbrev pub NamesOnLaw : Type 0
NamesOnLaw =
    (root : ℕ → ℕ) (a x : ℕ) (coords : List Coord) (b : Block)
    → let of_root = has_root (updated root a a) (root x) in
    mentions (λ y. y == a) b ≡ false
    → (root x == a) ≡ false
    → ((y : ℕ) → has_binder b y ≡ true → (root x == root y) ≡ false)
    → coords_mention of_root coords ≡ false
    → mentions (λ y. y == x) (converted a x coords b) ≡ false
    → is_aliased root x b ≡ false
    → mentions of_root (converted a x coords b) ≡ false
