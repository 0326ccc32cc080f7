-- How large an expression is. An index, a bound, a dimension or a coordinate is an expression of
-- its own: its nodes do not count in what stands round it, but its depth does.
use Rattle.std.specs.Prelude.{ℕ, ◌+◌, max, nat_le, Bool, ◌&&◌, List, [], ◌∷◌}
use Rattle.exo_tree.specs.Tree.{Control, Lit, Var, Field, StrideOf, Neg, Add, Sub, Mul, Div, Mod}
use Rattle.exo_tree.specs.Tree.{Condition, True, False, Flag, FieldFlag, Lt, Le, Gt, Ge, Eq, And, Or}
use Rattle.exo_tree.specs.Tree.{Datum, Const, Read, Negated, Relu, Plus, Minus, Times, Select}
use Rattle.exo_tree.specs.Tree.{Coord, At, Span}
use Rattle.tree_findings.specs.declared.size.Size.{Size}
use Rattle.exo_tree.specs.Nodes.{capped}

abbrev pub leaf : Size
leaf = record { nodes = 1; depth = 1 }

-- one node with this below
abbrev pub above : Size → Size
above a = record { nodes = capped (a.nodes + 1); depth = capped (a.depth + 1) }

-- two side by side
abbrev pub beside : Size → Size → Size
beside a b = record { nodes = capped (a.nodes + b.nodes); depth = max a.depth b.depth }

-- the literal right of a quotient or remainder is a node
abbrev pub control_size : Control → Size
control_size (Lit n) = leaf
control_size (Var x) = leaf
control_size (Field f) = leaf
control_size (StrideOf x k) = leaf
control_size (Neg a) = above (control_size a)
control_size (Add a b) = above (beside (control_size a) (control_size b))
control_size (Sub a b) = above (beside (control_size a) (control_size b))
control_size (Mul a b) = above (beside (control_size a) (control_size b))
control_size (Div a c) = above (beside (control_size a) leaf)
control_size (Mod a c) = above (beside (control_size a) leaf)

abbrev pub condition_size : Condition → Size
condition_size True = leaf
condition_size False = leaf
condition_size (Flag x) = leaf
condition_size (FieldFlag f) = leaf
condition_size (Lt a b) = above (beside (control_size a) (control_size b))
condition_size (Le a b) = above (beside (control_size a) (control_size b))
condition_size (Gt a b) = above (beside (control_size a) (control_size b))
condition_size (Ge a b) = above (beside (control_size a) (control_size b))
condition_size (Eq a b) = above (beside (control_size a) (control_size b))
condition_size (And c d) = above (beside (condition_size c) (condition_size d))
condition_size (Or c d) = above (beside (condition_size c) (condition_size d))

-- the depth of the deepest of several expressions
abbrev pub deepest : List Control → ℕ
deepest [] = 0
deepest (a ∷ rest) = max (control_size a).depth (deepest rest)

abbrev pub datum_size : Datum → Size
datum_size (Const n) = leaf
datum_size (Read x is) = record { nodes = 1; depth = capped (deepest is + 1) }
datum_size (Negated a) = above (datum_size a)
datum_size (Relu a) = above (datum_size a)
datum_size (Plus a b) = above (beside (datum_size a) (datum_size b))
datum_size (Minus a b) = above (beside (datum_size a) (datum_size b))
datum_size (Times a b) = above (beside (datum_size a) (datum_size b))
datum_size (Select a b c d) =
    above (beside (beside (datum_size a) (datum_size b)) (beside (datum_size c) (datum_size d)))

abbrev pub coord_depth : Coord → ℕ
coord_depth (At a) = (control_size a).depth
coord_depth (Span a b) = max (control_size a).depth (control_size b).depth

abbrev pub deepest_coord : List Coord → ℕ
deepest_coord [] = 0
deepest_coord (c ∷ rest) = max (coord_depth c) (deepest_coord rest)

-- ---- limits

abbrev pub is_within : ℕ → Size → Bool
is_within most size = nat_le size.nodes most && nat_le size.depth 64

-- at most 256 nodes and a depth of 64
abbrev pub is_small_control : Control → Bool
is_small_control e = is_within 256 (control_size e)

abbrev pub is_small_condition : Condition → Bool
is_small_condition c = is_within 256 (condition_size c)

-- at most 1,024 nodes and a depth of 64
abbrev pub is_small_datum : Datum → Bool
is_small_datum e = is_within 1024 (datum_size e)
