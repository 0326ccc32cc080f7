-- Which name of a function or a field C cannot keep.
use Rattle.std.specs.Prelude.{Bool, true, false, ◌||◌, List, [], ◌∷◌, Option, Some, None}
use Rattle.c_tree.specs.Names.Words.{Name, is_in, is_word}

-- the name where it clashes, else what the rest gives
abbrev pub clashing : Bool → Name → Option Name → Option Name
clashing true x later = Some x
clashing false x later = later

-- of the names of all functions and then of all fields, the first that is a word or stands in the list again;
-- where it stands twice its first place is meant
abbrev pub first_clash : List Name → Option Name
first_clash [] = None
first_clash (x ∷ xs) = clashing (is_word x || is_in xs x) x (first_clash xs)
