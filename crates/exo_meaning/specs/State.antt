-- States, and what changes them.
use Rattle.std.specs.Prelude.{ℕ, ℤ, pos, ◌+ℤ◌, ◌-ℤ◌, ◌*ℤ◌, ◌==◌, Bool, ◌&&◌, if◌then◌else◌, List}
use Rattle.std.specs.Prelude.{Option, Some, None, option_map}
use Rattle.std.specs.Ordering.{int_eq}
use Rattle.std.specs.Cmp.Lexicographic.{pointwise}
use Rattle.exo_tree.specs.Tree.{Control, Datum, Const, Read, Negated, Relu, Plus, Minus, Times}
use Rattle.exo_tree.specs.Tree.{Select}
use Rattle.exo_meaning.specs.Value.{Value, Undefined, Number, stored_as, on_one, on_two, on_four}
use Rattle.exo_meaning.specs.Value.{relu, selected}
use Rattle.exo_meaning.specs.Scene.{Shape, Seen, Scene, updated, numbers, cell_at, whole, then_do}

-- what each buffer holds at each list of indices
abbrev pub Cells : Type 0
Cells = ℕ → List ℤ → Value

pub record State : Type 0 where
  pub scene : Scene
  pub cells : Cells

abbrev pub same_index : List ℤ → List ℤ → Bool
same_index = pointwise int_eq

-- ---- a cell

pub record Place : Type 0 where
  pub buffer : ℕ
  pub at : List ℤ

-- the cell under a name at these indices; None where they are outside
abbrev pub place : Scene → ℕ → List Control → Option Place
place scene x is =
    then_do (scene.views x) (λ seen. option_map (λ at. record { buffer = seen.buffer; at = at })
    (cell_at seen.sides (numbers scene is)))

abbrev pub held : Cells → Place → Value
held cells p = cells p.buffer p.at

abbrev pub is_there : Place → ℕ → List ℤ → Bool
is_there p b at = (b == p.buffer) && same_index at p.at

-- the cells with that one changed
abbrev pub changed : Cells → Place → (Value → Value) → Cells
changed cells p f b at = if is_there p b at then f (cells b at) else cells b at

-- changes the value of a cell, and keeps what its type holds
abbrev pub put : State → (Value → Value) → Place → Option State
put s f p =
    option_map
    (λ shape. record s { cells = changed s.cells p (λ old. stored_as shape.cell (f old)) })
    (s.scene.buffers p.buffer)

-- ---- data values: None where an index is outside

abbrev pub value : State → Datum → Option Value
value s (Const n) = Some (Number n)
value s (Read x is) = option_map (held s.cells) (place s.scene x is)
value s (Negated a) = option_map (on_one (λ m. pos 0 -ℤ m)) (value s a)
value s (Relu a) = option_map (on_one relu) (value s a)
value s (Plus a b) = then_do (value s a) (λ u. option_map (on_two ◌+ℤ◌ u) (value s b))
value s (Minus a b) = then_do (value s a) (λ u. option_map (on_two ◌-ℤ◌ u) (value s b))
value s (Times a b) = then_do (value s a) (λ u. option_map (on_two ◌*ℤ◌ u) (value s b))
value s (Select a b c d) =
    then_do (value s a) (λ x. then_do (value s b)
    (λ v. then_do (value s c) (λ y. option_map (on_four selected x v y) (value s d))))

-- ---- names

abbrev pub with_control : ℕ → ℤ → Scene → Scene
with_control x n scene = record scene { control = updated scene.control x n }

abbrev pub with_field : ℕ → ℤ → Scene → Scene
with_field f n scene = record scene { fields = updated scene.fields f n }

abbrev pub with_view : ℕ → Seen → Scene → Scene
with_view x seen scene = record scene { views = updated scene.views x (Some seen) }

-- a buffer, under its own number as its name
abbrev pub with_buffer : ℕ → Shape → Scene → Scene
with_buffer x shape scene =
    record scene {
      buffers = updated scene.buffers x (Some shape);
      views = updated scene.views x (Some (record { buffer = x; sides = whole shape.dims }));
    }

abbrev pub on_scene : (Scene → Scene) → State → State
on_scene f s = record s { scene = f s.scene }

abbrev pub with_contents : ℕ → (List ℤ → Value) → State → State
with_contents x contents s = record s { cells = updated s.cells x contents }

-- ---- the end of a block

-- the contents of a buffer that was there before; those of any other are gone
abbrev pub kept : Option Shape → (List ℤ → Value) → List ℤ → Value
kept None contents at = Undefined
kept (Some shape) contents at = contents at

-- the names of before, with the fields and the cells of after
abbrev pub left : State → State → State
left before after = record {
  scene = record before.scene { fields = after.scene.fields };
  cells = λ b. kept (before.scene.buffers b) (after.cells b);
}

-- runs in a scope of its own
abbrev pub scoped : (State → Option State) → State → Option State
scoped run s = option_map (left s) (run s)
