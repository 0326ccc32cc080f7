-- Broken rules: which rule, and at which token. Of all rules that a statement breaks, the one at
-- the earliest token is named; where several are broken at one token, the one that stands first in
-- the list of rules.
use Rattle.std.specs.Prelude.{ℕ, ◌==◌, nat_lt, Bool, true, false, ◌&&◌, ◌||◌, if◌then◌else◌, List}
use Rattle.std.specs.Prelude.{[], ◌∷◌, ◌++◌, Option, Some, None}
use Rattle.std.specs.List.{list_any}
use Rattle.rules_names.specs.declared.error.TypeKind.{TypeKind}
use Rattle.rules_names.specs.declared.error.TypeKind.TheVariants.{UnknownName, Redefined}
use Rattle.rules_names.specs.declared.error.TypeKind.TheVariants.{KindMismatch, RankMismatch}
use Rattle.rules_names.specs.declared.error.TypeKind.TheVariants.{NotAffine, ConfigPlace}
use Rattle.rules_names.specs.declared.error.TypeKind.TheVariants.{StridePlace, SharedArgument}
use Rattle.rules_names.specs.declared.error.TypeKind.TheVariants.{Memory}
use Rattle.rules_names.specs.declared.fault.Fault.{Fault}
use Rattle.rules_names.specs.declared.fault.Charge.{Charge}

-- a rule that is broken, and the number of the token at which it is
abbrev pub fault : TypeKind → ℕ → List Fault
fault rule n = record { token = n; rule = rule } ∷ []

-- a rule that is broken at a token unless the test holds
abbrev pub unless : Bool → TypeKind → ℕ → List Fault
unless holds rule n = if holds then [] else fault rule n

-- where a rule stands in the list
abbrev pub rank_of : TypeKind → ℕ
rank_of UnknownName = 0
rank_of Redefined = 1
rank_of KindMismatch = 2
rank_of RankMismatch = 3
rank_of NotAffine = 4
rank_of ConfigPlace = 5
rank_of StridePlace = 6
rank_of SharedArgument = 7
rank_of Memory = 8

abbrev pub is_before : Fault → Fault → Bool
is_before a b =
    nat_lt a.token b.token || ((a.token == b.token) && nat_lt (rank_of a.rule) (rank_of b.rule))

-- the earlier of two; the first where neither is
abbrev pub earlier : Option Fault → Option Fault → Option Fault
earlier None b = b
earlier (Some a) None = Some a
earlier (Some a) (Some b) = if is_before b a then Some b else Some a

-- the first of all rules that are broken
abbrev pub least : List Fault → Option Fault
least [] = None
least (f ∷ fs) = earlier (Some f) (least fs)

-- the first part that breaks a rule: later parts stand at later tokens
abbrev pub or_else : Option Fault → Option Fault → Option Fault
or_else None b = b
or_else (Some a) b = Some a

-- an unknown name or another kind than is asked: what such parts make up is charged with no further
-- rule
abbrev pub hides : TypeKind → Bool
hides UnknownName = true
hides KindMismatch = true
hides _ = false

abbrev pub any_hides : List Fault → Bool
any_hides faults = list_any (λ f. hides f.rule) faults

-- the faults of the parts, and behind them those of the whole where no part hides these
abbrev pub parts_then_whole : List Fault → List Fault → List Fault
parts_then_whole parts whole = parts ++ (if any_hides parts then [] else whole)

-- what is told of the faults of an expression: the first of them, and whether one of them hides
-- those of what it is a part of
unfoldable pub charged : List Fault → Charge
charged faults = record { first = least faults; hides = any_hides faults }
