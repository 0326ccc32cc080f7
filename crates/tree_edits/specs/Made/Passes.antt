-- What stands in a block that is left empty.
use Rattle.std.specs.Prelude.{Bool, true, false, ◌&&◌, if◌then◌else◌}
use Rattle.exo_tree.specs.Tree.{Pass, Block, end, next}
use Rattle.exo_tree.specs.Context.{Context, Here, After, InLoop, InThen, InElse}
use Rattle.exo_meaning.specs.Units.{is_empty}

-- nothing else stands in the block of the hole; `first`: no statement stands before this context
abbrev pub has_nothing : Bool → Context → Bool
has_nothing first (Here rest) = first && is_empty rest
has_nothing first (After a c) = has_nothing false c
has_nothing first (InLoop i lo hi c rest) = has_nothing true c
has_nothing first (InThen t c other rest) = has_nothing true c
has_nothing first (InElse t other c rest) = has_nothing true c

abbrev pub is_alone : Context → Bool
is_alone c = has_nothing true c

-- an empty block becomes one `pass`
abbrev pub or_one_pass : Block → Block
or_one_pass end = next Pass end
or_one_pass (next a b) = next a b

-- a new `pass` in the place of nothing
abbrev pub pass_for : Bool → Block → Block
pass_for alone b = if alone && is_empty b then next Pass end else b

-- the block that is put into a hole: a new `pass` where nothing else would stand there
abbrev pub or_pass : Context → Block → Block
or_pass c b = pass_for (is_alone c) b
