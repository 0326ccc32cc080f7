-- Names that mean something by themselves where the grammar asks for them.
use Rattle.std.specs.Prelude.{ℕ, List, Option, Some, None, if◌then◌else◌, bytes_eq, codes}
use Rattle.schedule_text.specs.declared.source.Direction.{Direction}
use Rattle.schedule_text.specs.declared.source.Direction.TheVariants.{Parent, Next, Prev, Body, Before, After}

abbrev pub word : Direction → List ℕ
word Parent = codes "parent"
word Next = codes "next"
word Prev = codes "prev"
word Body = codes "body"
word Before = codes "before"
word After = codes "after"

-- the direction that is written so
abbrev pub direction_of : List ℕ → Option Direction
direction_of text =
    if bytes_eq text (codes "parent") then Some Parent
    else (if bytes_eq text (codes "next") then Some Next
    else (if bytes_eq text (codes "prev") then Some Prev
    else (if bytes_eq text (codes "body") then Some Body
    else (if bytes_eq text (codes "before") then Some Before
    else (if bytes_eq text (codes "after") then Some After
    else None)))))

abbrev pub expand_word : List ℕ
expand_word = codes "expand"

abbrev pub find_word : List ℕ
find_word = codes "find"

abbrev pub emit_word : List ℕ
emit_word = codes "emit"
