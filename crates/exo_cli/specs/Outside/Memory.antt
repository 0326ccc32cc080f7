-- Files and a sink in memory: what they hold, and what each call of them answers.
use Rattle.std.specs.Prelude.{ℕ, ◌==◌, zero, suc, min, Bool, true, false, List, map, string_bytes}
use Rattle.std.specs.Prelude.{Option, Some, None, length, nat_lt, if◌then◌else◌}
use Rattle.std.specs.List.{list_any}
use Rattle.std.specs.declared.string.String.{String}
use Rattle.std.specs.declared.vec.Vec.{Vec}
use Rattle.std.specs.declared.alloc.Global.{Global}
use Rattle.exo_cli.specs.declared.outside.count.Plan.{Plan}
use Rattle.exo_cli.specs.declared.outside.outside.FileFault.{FileFault}
use Rattle.exo_cli.specs.declared.outside.outside.FileFault.TheVariants.{Failed, TooLong}
use Rattle.exo_cli.specs.Outside.Outside.{Folder}

-- each name with its bytes
abbrev pub folder_of : List (String Global × Vec ℕ Global) → Folder
folder_of files = map (λ file. (string_bytes file.0, file.1.items)) files

-- the next call is one of those that are to fail
abbrev pub is_to_fail : Plan → Bool
is_to_fail plan = list_any (λ n. n == plan.calls.0) plan.fail.items

-- Why a file is not read, want of memory apart: by whether the call is to fail, what the file of
-- that name holds, and the limit.
abbrev pub read_fault : Bool → Option (List ℕ) → ℕ → Option FileFault
read_fault true held limit = Some Failed
read_fault false None limit = Some Failed
read_fault false (Some bytes) limit = if nat_lt limit (length bytes) then Some TooLong else None

-- How many bytes a sink takes, where it takes any: by whether the call is to fail, the room that is
-- left, and how many there are.
abbrev pub put_count : Bool → ℕ → ℕ → Option ℕ
put_count true left count = None
put_count false zero count = None
put_count false (suc left) count = Some (min (suc left) count)
