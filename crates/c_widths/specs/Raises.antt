-- How large the parameters of procedures can be, by what those that call them give, and which
-- procedure is too wide by that.
use Rattle.std.specs.Prelude.{◌≡◌, ◌≤◌, ◌<◌, ℕ, suc, ◌==◌, max, Bool, true, false, not, ◌&&◌}
use Rattle.std.specs.Prelude.{if◌then◌else◌, List, [], ◌∷◌, drop, length, Option, Some, None}
use Rattle.std.specs.Prelude.{slice_get, ⊤}
use Rattle.exo_tree.specs.Tree.{Argument, ControlArg, ConditionArg, Whole, Window, Statement}
use Rattle.exo_tree.specs.Tree.{Assign, Reduce, Config, Pass, If, For, Alloc, View, Call, Block}
use Rattle.exo_tree.specs.Tree.{end, next, Param, Procedure, MemoryKind, Program}
use Rattle.exo_tree.specs.Calls.{calls}
use Rattle.c_widths.specs.Magnitude.{magnitude}
use Rattle.c_widths.specs.Widths.{with_bounds, most_of_param, have_narrow_dims, are_narrow_tests}
use Rattle.c_widths.specs.Widths.{is_narrow_block}

-- the greatest magnitude that is given to each parameter of each procedure, by its number and by
-- the parameter's place
abbrev pub Raises : Type 0
Raises = ℕ → ℕ → ℕ

abbrev pub argument_magnitude : (ℕ → ℕ) → Argument → ℕ
argument_magnitude most (ControlArg a) = magnitude most a
argument_magnitude most (ConditionArg c) = 1
argument_magnitude most (Whole x) = 0
argument_magnitude most (Window x coords) = 0

-- a call of the procedure k gives these arguments, the first at the place i
abbrev pub raised_by : (ℕ → ℕ) → ℕ → ℕ → List Argument → Raises → Raises
raised_by most k i [] given = given
raised_by most k i (a ∷ rest) given =
    let m = argument_magnitude most a in
    raised_by most k (suc i) rest
    (λ j n. if (j == k) && (n == i) then max m (given j n) else given j n)

abbrev mutual
  pub raised : (ℕ → ℕ) → Block → Raises → Raises
  raised most end given = given
  raised most (next a b) given = raised most b (step_raised most a given)

  pub step_raised : (ℕ → ℕ) → Statement → Raises → Raises
  step_raised most (Assign x is e) given = given
  step_raised most (Reduce x is e) given = given
  step_raised most (Config f a) given = given
  step_raised most Pass given = given
  step_raised most (If c a b) given = raised most b (raised most a given)
  step_raised most (For i lo hi b) given = raised (with_bounds most i.id lo hi) b given
  step_raised most (Alloc x cell dims memory) given = given
  step_raised most (View w x coords) given = given
  step_raised most (Call k args) given = raised_by most k 0 args given

-- a parameter is as large as a valid input may make it, or as large as a call gives
abbrev pub most_from : List Param → (ℕ → ℕ) → ℕ → ℕ
most_from [] given x = 0
most_from (p ∷ ps) given x =
    if x == p.binder.id then max (most_of_param p.kind) (given 0)
    else most_from ps (λ i. given (suc i)) x

-- what the procedures from the number k on give, as far as they count; each calls those above it
abbrev pub given_from : (ℕ → Bool) → ℕ → List Procedure → Raises
given_from counted k [] = λ j i. 0
given_from counted k (p ∷ ps) =
    let given = given_from counted (suc k) ps in
    if counted k then raised (most_from p.params (given k)) p.body given else given

-- what is given to the procedure of that number
abbrev pub given_to : List Procedure → (ℕ → Bool) → ℕ → ℕ → ℕ
given_to ps counted k = given_from counted (suc k) (drop (suc k) ps) k

-- how large its names can be
abbrev pub most_at : List Procedure → (ℕ → Bool) → ℕ → Procedure → ℕ → ℕ
most_at ps counted k p = most_from p.params (given_to ps counted k)

-- ---- the widest

-- the dimensions of the parameters, the assertions and the body, by how large the parameters can be
abbrev pub is_narrow_by : List MemoryKind → (ℕ → ℕ) → Procedure → Bool
is_narrow_by memories most p =
    have_narrow_dims most p.params
    && are_narrow_tests most p.asserts
    && is_narrow_block memories most p.body

-- allocations on the stack are counted in printed procedures alone
abbrev pub memories_for : Bool → List MemoryKind → List MemoryKind
memories_for true memories = memories
memories_for false memories = []

abbrev pub is_wide_at : Program → (ℕ → Bool) → (ℕ → Bool) → ℕ → Procedure → Bool
is_wide_at program printed counted k p =
    let memories = memories_for (printed k) program.memories in
    counted k && not (is_narrow_by memories (most_at program.procedures counted k p) p)

abbrev pub or_own : Option ℕ → Bool → ℕ → Option ℕ
or_own (Some k) wide own = Some k
or_own None true own = Some own
or_own None false own = None

-- the greatest number of a counted procedure in whose tree a magnitude passes its bound
abbrev pub widest_from : Program → (ℕ → Bool) → (ℕ → Bool) → ℕ → List Procedure → Option ℕ
widest_from program printed counted k [] = None
widest_from program printed counted k (p ∷ ps) =
    or_own (widest_from program printed counted (suc k) ps)
    (is_wide_at program printed counted k p) k

abbrev pub widest : Program → (ℕ → Bool) → (ℕ → Bool) → Option ℕ
widest program printed counted = widest_from program printed counted 0 program.procedures

-- which numbers are printed and counted matters for the procedures of the unit alone
abbrev pub WidestIsOfTheUnit : Type 0
WidestIsOfTheUnit =
    (program : Program) (p q c d : ℕ → Bool)
    → ((k : ℕ) → k < length program.procedures → p k ≡ q k)
    → ((k : ℕ) → k < length program.procedures → c k ≡ d k)
    → widest program p c ≡ widest program q d

-- ---- what is given is covered

abbrev pub AreCoveredFrom : (ℕ → ℕ) → (ℕ → ℕ) → ℕ → List Argument → Type 0
AreCoveredFrom given most i [] = ⊤
AreCoveredFrom given most i (a ∷ rest) =
    (argument_magnitude most a ≤ given i) × AreCoveredFrom given most (suc i) rest

-- each call of a block gives at most so much
abbrev mutual
  pub IsCovered : Raises → (ℕ → ℕ) → Block → Type 0
  IsCovered given most end = ⊤
  IsCovered given most (next a b) = StatementIsCovered given most a × IsCovered given most b

  pub StatementIsCovered : Raises → (ℕ → ℕ) → Statement → Type 0
  StatementIsCovered given most (Assign x is e) = ⊤
  StatementIsCovered given most (Reduce x is e) = ⊤
  StatementIsCovered given most (Config f a) = ⊤
  StatementIsCovered given most Pass = ⊤
  StatementIsCovered given most (If c a b) = IsCovered given most a × IsCovered given most b
  StatementIsCovered given most (For i lo hi b) = IsCovered given (with_bounds most i.id lo hi) b
  StatementIsCovered given most (Alloc x cell dims memory) = ⊤
  StatementIsCovered given most (View w x coords) = ⊤
  StatementIsCovered given most (Call k args) = AreCoveredFrom (given k) most 0 args

-- no call of a counted procedure gives more than what its callee's parameters are taken to be
abbrev pub RaisesCover : Type 0
RaisesCover =
    (ps : List Procedure) (counted : ℕ → Bool) (k : ℕ) (p : Procedure)
    → slice_get ps k ≡ Some p
    → counted k ≡ true
    → ((j : ℕ) → calls j p.body ≡ true → j < k)
    → IsCovered (given_to ps counted) (most_at ps counted k p) p.body
