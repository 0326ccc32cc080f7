-- Blocks that look at what they write.
use Rattle.std.specs.Prelude.{◌&&◌, ◌||◌, ℕ, Bool}
use Rattle.exo_tree.specs.Tree.{Block, Procedure, Program}
use Rattle.exo_tree.specs.Context.{Context}
use Rattle.exo_meaning.specs.Modes.{Reading, Writing, Reducing}
use Rattle.exo_meaning.specs.Units.{bound_ids}
use Rattle.std.specs.List.{list_any}
use Rattle.place_laws.specs.Scope.Roots.{own_roots_at}
use Rattle.place_laws.specs.Order.RemoveLoop.{is_outside}
use Rattle.piece_modes.specs.Touching.{block_touches}

-- it reduces into the buffer, or reads it and writes it
abbrev pub looks_back : Program → (ℕ → ℕ) → Block → ℕ → Bool
looks_back u root b y =
    block_touches u Reducing root b y
    || (block_touches u Writing root b y && block_touches u Reading root b y)

-- it does so with a root from outside
abbrev pub sees_own_root : Program → Procedure → Context → Block → Bool
sees_own_root u p c b =
    list_any (λ y. is_outside p c y && looks_back u (own_roots_at c) b y) (bound_ids p)
