-- Arguments with keys: what becomes of the turns that fill no group, which branch is kept, and
-- whether a copy is added up.
use Rattle.std.specs.Prelude.{ℕ, Bool, true, false, if◌then◌else◌, List, [], ◌∷◌}
use Rattle.std.specs.Prelude.{Option, Some, None, option_map, option_and_then, codes}
use Rattle.std.specs.Option.{is_some}
use Rattle.std.specs.Str.{bytes_eq}
use Rattle.exo_tree.specs.Places.{Branch, Main, Else}
use Rattle.exo_reader.specs.Items.{joined}
use Rattle.schedule_text.specs.Tree as tree
use Rattle.schedule_calls.specs.Requests.{Tail, Guard, Cut, CutAndGuard, Perfect}

-- ---- turns that fill no group

-- `tail` and `perfect`, where they are given
pub record TailKeys : Type 0 where
  pub tail : Option Tail
  pub perfect : Option Bool

abbrev pub tail_named : List ℕ → Option Tail
tail_named s =
    if bytes_eq s (codes "guard") then Some Guard
    else (if bytes_eq s (codes "cut") then Some Cut
    else (if bytes_eq s (codes "cut_and_guard") then Some CutAndGuard
    else None))

abbrev pub tail_of_value : tree.KeyValue → Option Tail
tail_of_value (tree.text pieces) = tail_named (joined pieces)
tail_of_value tree.yes = None
tail_of_value tree.no = None

abbrev pub flag_of_value : tree.KeyValue → Option Bool
flag_of_value (tree.text pieces) = None
flag_of_value tree.yes = Some true
flag_of_value tree.no = Some false

-- None: it is given already, or the value is none of its own
abbrev pub with_tail : TailKeys → tree.KeyValue → Option TailKeys
with_tail k value =
    if is_some k.tail then None
    else option_map (λ t. record k { tail = Some t }) (tail_of_value value)

abbrev pub with_perfect : TailKeys → tree.KeyValue → Option TailKeys
with_perfect k value =
    if is_some k.perfect then None
    else option_map (λ b. record k { perfect = Some b }) (flag_of_value value)

-- None also where the key is neither
abbrev pub with_key : TailKeys → List ℕ → tree.KeyValue → Option TailKeys
with_key k name value =
    if bytes_eq name (codes "tail") then with_tail k value
    else (if bytes_eq name (codes "perfect") then with_perfect k value
    else None)

-- None also where the argument has no key
abbrev pub with_argument : TailKeys → tree.Argument → Option TailKeys
with_argument k (tree.key name value) = with_key k name value
with_argument k other = None

abbrev pub keys_behind : TailKeys → List tree.Argument → Option TailKeys
keys_behind k [] = Some k
keys_behind k (a ∷ more) = option_and_then (λ j. keys_behind j more) (with_argument k a)

abbrev pub or_guard : Option Tail → Tail
or_guard None = Guard
or_guard (Some t) = t

-- `perfect=True` holds over `tail`
abbrev pub perfect_or : Option Bool → Tail → Tail
perfect_or None t = t
perfect_or (Some perfect) t = if perfect then Perfect else t

abbrev pub tail_meant : TailKeys → Tail
tail_meant k = perfect_or k.perfect (or_guard k.tail)

-- the tail that arguments with keys ask for; None where they are refused
abbrev pub tail_in : List tree.Argument → Option Tail
tail_in args = option_map tail_meant (keys_behind (record { tail = None; perfect = None }) args)

-- ---- one key

-- the value under a key, where there is an argument; None where the arguments are others
abbrev pub value_under : List ℕ → List tree.Argument → Option (Option tree.KeyValue)
value_under key [] = Some None
value_under key (tree.key name value ∷ []) =
    if bytes_eq name key then Some (Some value) else None
value_under key other = None

-- ---- the branch that is kept

abbrev pub branch_named : List ℕ → Option Branch
branch_named s =
    if bytes_eq s (codes "body") then Some Main
    else (if bytes_eq s (codes "orelse") then Some Else
    else None)

abbrev pub branch_of_value : tree.KeyValue → Option Branch
branch_of_value (tree.text pieces) = branch_named (joined pieces)
branch_of_value tree.yes = None
branch_of_value tree.no = None

abbrev pub branch_asked : Option tree.KeyValue → Option (Option Branch)
branch_asked None = Some None
branch_asked (Some value) = option_map Some (branch_of_value value)

-- the branch that arguments with keys ask for, where there is one; None where they are refused
abbrev pub keep_in : List tree.Argument → Option (Option Branch)
keep_in args = option_and_then branch_asked (value_under (codes "keep") args)

-- ---- whether a copy is added up

abbrev pub accum_asked : Option tree.KeyValue → Option Bool
accum_asked None = Some false
accum_asked (Some value) = flag_of_value value

-- None: the arguments are refused
abbrev pub accum_in : List tree.Argument → Option Bool
accum_in args = option_and_then accum_asked (value_under (codes "accum") args)
