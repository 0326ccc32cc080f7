-- A condition with strides in the place of a flag.
use Rattle.std.specs.Prelude.{◌≡◌, ℕ, Bool, true, false, ◌&&◌, ◌||◌, Some}
use Rattle.exo_tree.specs.Tree.{Condition, True, False, Flag, FieldFlag, Lt, Le, Gt, Ge, Eq, And}
use Rattle.exo_tree.specs.Tree.{Or, Block}
use Rattle.exo_meaning.specs.Scene.{Seen, is_set, holds}
use Rattle.exo_meaning.specs.State.{State}
use Rattle.exo_meaning.specs.Run.{World, run}
use Rattle.meaning_laws.specs.Facts.{condition_has}
use Rattle.meaning_laws.specs.Flags.{in_block}
use Rattle.meaning_laws.specs.Scoped.{has_binder}
use Rattle.inplace_laws.specs.Steady.{is_steady, has_stride}

-- no field stands in it
abbrev pub is_steady_condition : Condition → Bool
is_steady_condition True = true
is_steady_condition False = true
is_steady_condition (Flag x) = true
is_steady_condition (FieldFlag f) = false
is_steady_condition (Lt a b) = is_steady a && is_steady b
is_steady_condition (Le a b) = is_steady a && is_steady b
is_steady_condition (Gt a b) = is_steady a && is_steady b
is_steady_condition (Ge a b) = is_steady a && is_steady b
is_steady_condition (Eq a b) = is_steady a && is_steady b
is_steady_condition (And c d) = is_steady_condition c && is_steady_condition d
is_steady_condition (Or c d) = is_steady_condition c && is_steady_condition d

-- a stride of y stands in it
abbrev pub condition_has_stride : Condition → ℕ → Bool
condition_has_stride True y = false
condition_has_stride False y = false
condition_has_stride (Flag x) y = false
condition_has_stride (FieldFlag f) y = false
condition_has_stride (Lt a b) y = has_stride a y || has_stride b y
condition_has_stride (Le a b) y = has_stride a y || has_stride b y
condition_has_stride (Gt a b) y = has_stride a y || has_stride b y
condition_has_stride (Ge a b) y = has_stride a y || has_stride b y
condition_has_stride (Eq a b) y = has_stride a y || has_stride b y
condition_has_stride (And c d) y = condition_has_stride c y || condition_has_stride d y
condition_has_stride (Or c d) y = condition_has_stride c y || condition_has_stride d y

-- names whose strides stand in it are none of these, nor are their buffers
abbrev pub ConditionKeeps : Condition → (ℕ → Bool) → State → Type 0
ConditionKeeps c binds s =
    (y : ℕ)
    → condition_has_stride c y ≡ true
    → (binds y ≡ false)
    × ((seen : Seen) → s.scene.views y ≡ Some seen → binds seen.buffer ≡ false)

-- where the flag is set exactly where the condition holds, and the block binds neither it nor a name
-- of the condition, the block runs the same with the condition for the flag
abbrev pub SteadyFlagLaw : Type 0
SteadyFlagLaw =
    (world : World) (x : ℕ) (c : Condition) (b : Block) (s : State)
    → is_steady_condition c ≡ true
    → has_binder b x ≡ false
    → ((y : ℕ) → condition_has c y ≡ true → has_binder b y ≡ false)
    → ConditionKeeps c (has_binder b) s
    → is_set (s.scene.control x) ≡ holds s.scene c
    → run world b s ≡ run world (in_block x c b) s
