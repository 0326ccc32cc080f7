-- The offset of a cell, by the C of its indices and of the dimensions behind the first.
use Rattle.std.specs.Prelude.{pos, List, [], ◌∷◌}
use Rattle.c_tree.specs.CTree.{Number64, Literal}
use Rattle.c_lowering.specs.Made.Lowered.{horner}

abbrev pub offset_behind : List Number64 → List Number64 → Number64
offset_behind [] ds = Literal (pos 0)
offset_behind (e ∷ es) ds = horner e es ds
