-- Configuration writes at one state.
use Rattle.std.specs.Prelude.{◌≡◌, ℕ, Bool, false, List, Some}
use Rattle.exo_tree.specs.Tree.{Argument, end, Param}
use Rattle.exo_tree.specs.Context.{Context}
use Rattle.exo_meaning.specs.State.{State}
use Rattle.exo_meaning.specs.Run.{World}
use Rattle.meaning_laws.specs.Live.{live, CallsForget}
use Rattle.config_laws.specs.Live.LiveFits.{MayReplaceLive}
use Rattle.config_laws.specs.Live.CallVersion.{called}
use Rattle.config_laws.specs.FieldRule.{or_pass}
use Rattle.config_laws.specs.WriteConfig.{written}
use Rattle.config_laws.specs.BindConfig.{Bound, bound_in, write_and_call}

-- nothing, by a write
abbrev pub WritesMayBePutIn : Type 0
WritesMayBePutIn =
    (world : World) (before behind : ℕ → Bool) (f : ℕ) (e : Argument) (u : State)
    → behind f ≡ false
    → MayReplaceLive world before behind end (written f e) u

-- a write, by nothing or by a `pass`
abbrev pub WritesMayBeLeftOut : Type 0
WritesMayBeLeftOut =
    (world : World) (before behind : ℕ → Bool) (f : ℕ) (e : Argument) (c : Context) (u : State)
    → behind f ≡ false
    → MayReplaceLive world before behind (written f e) (or_pass c end) u

-- a call, by a write of an argument and a call that is given the field
abbrev pub ArgumentsMayBeBound : Type 0
ArgumentsMayBeBound =
    (world : World) (calls : ℕ → ℕ → Bool → Bool) (f k : ℕ) (args : List Argument)
    (name : List ℕ) (params : List Param) (b : Bound) (behind : ℕ → Bool) (u : State)
    → let before = λ (g : ℕ). live calls g (called k args) (behind g) in
    CallsForget world calls
    → bound_in f name params args ≡ Some b
    → before f ≡ false
    → MayReplaceLive world before behind (called k args) (write_and_call f k b) u
