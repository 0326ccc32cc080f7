-- Which buffers are touched, and how, by the tables of the program.
use Rattle.std.specs.Prelude.{◌≡◌, ℕ, ◌++◌, ◌==◌, ◌||◌, ◌&&◌, Bool, false, List, [], ◌∷◌, map}
use Rattle.std.specs.Prelude.{Option, Some, None, slice_get}
use Rattle.exo_tree.specs.Tree.{Datum, Argument, Block, Statement, Procedure, Program, Param}
use Rattle.exo_meaning.specs.Calls.{Callee}
use Rattle.exo_meaning.specs.Run.{kinds_of, call_writes}
use Rattle.exo_meaning.specs.Modes.{Mode, Writing, Reducing, Modes, picked, reads_from, call_has}
use Rattle.exo_meaning.specs.Modes.{modes_at, has_mode, step_has_mode, all_modes, unit_modes}

-- what either says
abbrev pub together : Modes → Modes → Modes
together f g m y = f m y || g m y

-- buffer x is touched so
abbrev pub used : (Mode → Bool) → ℕ → Modes
used f x m y = f m && (y == x)

-- what an expression reads, by the buffer of each name
abbrev pub reads : (ℕ → ℕ) → Datum → Modes
reads root e m y = picked m (reads_from root e y) false false

-- what the arguments of a call touch, by what the callee's parameters do
abbrev pub argument_marks : Modes → (ℕ → ℕ) → List Param → List Argument → Modes
argument_marks callee root ps args m y = call_writes (callee m) root y ps args

-- ---- the procedures that may be called: each with what it writes

abbrev pub callee_by : Procedure → (ℕ → Bool) → Callee
callee_by p w = record { procedure = p; run = λ s. None; writes = w }

abbrev pub callees_by : List Procedure → List (ℕ → Bool) → List Callee
callees_by [] ws = []
callees_by (p ∷ ps) [] = []
callees_by (p ∷ ps) (w ∷ ws) = callee_by p w ∷ callees_by ps ws

-- what is written or reduced
abbrev pub writing : Modes → ℕ → Bool
writing f y = f Writing y || f Reducing y

abbrev pub callable : List Procedure → List Modes → ℕ → Option Callee
callable ps ms = slice_get (callees_by ps (map writing ms))

-- what a block touches that calls these procedures, of which each touches so
abbrev pub block_marks : List Procedure → List Modes → (ℕ → ℕ) → Block → Modes
block_marks ps ms root b m y = has_mode (callable ps ms) (modes_at ms) m root b y

abbrev pub call_marks : List Procedure → List Modes → (ℕ → ℕ) → ℕ → List Argument → Modes
call_marks ps ms root k args m y = call_has (callable ps ms k) (modes_at ms k m) root y args

abbrev pub step_marks : List Procedure → List Modes → (ℕ → ℕ) → Statement → Modes
step_marks ps ms root s m y = step_has_mode (callable ps ms) (modes_at ms) m root s y

-- ---- units

-- the modes of each procedure of a program, in order
abbrev pub modes_of : Program → List Modes
modes_of program = all_modes (kinds_of program.fields) [] [] program.procedures

-- the modes of the first procedures of a program
abbrev pub AreFirst : List Modes → Program → Type 0
AreFirst modes program =
    (first : List Procedure)
    × (rest : List Procedure)
    × (program.procedures ≡ first ++ rest)
    × (modes ≡ modes_of (record program { procedures = first }))

-- how the procedure of number k touches its parameter of index i; not at all where there is none
abbrev pub param_modes : Program → ℕ → ℕ → Mode → Bool
param_modes program k i m =
    elim (slice_get program.procedures k) [
      | None ↦ false
      | Some p ↦
          elim (slice_get p.params i) [
            | None ↦ false
            | Some x ↦ unit_modes (kinds_of program.fields) program.procedures k m x.binder.id
          ]
    ]
