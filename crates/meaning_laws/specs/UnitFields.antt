-- The fields that the procedures of a unit write, and those that they read before they write them.
use Rattle.std.specs.Prelude.{◌||◌, ◌++◌, ℕ, Bool, false, List, [], ◌∷◌, Some, None, slice_get}
use Rattle.exo_tree.specs.Tree.{Kind, Condition, Param, ParamKind, ControlParam, TensorParam, WindowParam, Procedure}
use Rattle.exo_meaning.specs.Run.{unit_world}
use Rattle.meaning_laws.specs.Fields.{writes_field, CallsLeave}
use Rattle.meaning_laws.specs.Live.{read_by_controls, read_by_condition, live, CallsForget}

-- ---- writes

-- of each procedure, the fields that it may write
abbrev pub written_at : List (ℕ → Bool) → ℕ → ℕ → Bool
written_at ws k f = elim (slice_get ws k) [ None ↦ false | Some w ↦ w f ]

abbrev pub written_by : (ℕ → ℕ → Bool) → Procedure → ℕ → Bool
written_by calls p f = writes_field calls f p.body

abbrev pub all_written : List (ℕ → Bool) → List Procedure → List (ℕ → Bool)
all_written ws [] = ws
all_written ws (p ∷ ps) = all_written (ws ++ written_by (written_at ws) p ∷ []) ps

abbrev pub unit_writes : List Procedure → ℕ → ℕ → Bool
unit_writes ps = written_at (all_written [] ps)

-- a call leaves the fields alone that its procedure does not write
abbrev pub UnitLeaves : Type 0
UnitLeaves = (kinds : ℕ → Kind) (ps : List Procedure) → CallsLeave (unit_world kinds ps) (unit_writes ps)

-- ---- reads before writes

abbrev pub read_by_conditions : ℕ → List Condition → Bool
read_by_conditions f [] = false
read_by_conditions f (c ∷ cs) = read_by_condition f c || read_by_conditions f cs

-- in a dimension; a well-formed unit reads none there
abbrev pub read_by_kind : ℕ → ParamKind → Bool
read_by_kind f (ControlParam kind) = false
read_by_kind f (TensorParam cell dims memory) = read_by_controls f dims
read_by_kind f (WindowParam cell dims memory) = read_by_controls f dims

abbrev pub read_by_params : ℕ → List Param → Bool
read_by_params f [] = false
read_by_params f (p ∷ ps) = read_by_kind f p.kind || read_by_params f ps

-- whether the field is live before a call, by whether it is after it
abbrev pub live_before : (ℕ → ℕ → Bool → Bool) → Procedure → ℕ → Bool → Bool
live_before calls p f out = read_by_params f p.params || (read_by_conditions f p.asserts || live calls f p.body out)

abbrev pub live_at : List (ℕ → Bool → Bool) → ℕ → ℕ → Bool → Bool
live_at ls k f out = elim (slice_get ls k) [ None ↦ out | Some l ↦ l f out ]

abbrev pub all_live : List (ℕ → Bool → Bool) → List Procedure → List (ℕ → Bool → Bool)
all_live ls [] = ls
all_live ls (p ∷ ps) = all_live (ls ++ live_before (live_at ls) p ∷ []) ps

abbrev pub unit_live : List Procedure → ℕ → ℕ → Bool → Bool
unit_live ps = live_at (all_live [] ps)

-- a call does not see the fields that are not live before it
abbrev pub UnitForgets : Type 0
UnitForgets = (kinds : ℕ → Kind) (ps : List Procedure) → CallsForget (unit_world kinds ps) (unit_live ps)
