-- In a unit that grows at its end, what is surely written stays so, and the same fields may differ.
use Rattle.std.specs.Prelude.{◌≡◌, ◌++◌, ℕ, true, List, length, Some, slice_get}
use Rattle.exo_tree.specs.Tree.{Block, Procedure}
use Rattle.exo_tree.specs.Context.{Context, fill}
use Rattle.meaning_laws.specs.Grown.{calls_below}
use Rattle.config_laws.specs.Surely.{surely_writes, surely_behind, unit_surely}
use Rattle.config_laws.specs.Differing.{Origin, step_fields}

abbrev pub SurelyGrown : Type 0
SurelyGrown =
    (ps more : List Procedure) (f : ℕ) (b : Block)
    → calls_below (length ps) b ≡ true
    → surely_writes (unit_surely (ps ++ more)) f b ≡ surely_writes (unit_surely ps) f b

abbrev pub SurelyBehindGrown : Type 0
SurelyBehindGrown =
    (ps more : List Procedure) (f : ℕ) (c : Context) (old : Block)
    → calls_below (length ps) (fill c old) ≡ true
    → surely_behind (unit_surely (ps ++ more)) f c ≡ surely_behind (unit_surely ps) f c

-- the fields of the step that made a version of the shorter unit
abbrev pub StepFieldsGrown : Type 0
StepFieldsGrown =
    (ps more : List Procedure) (os : List Origin) (k : ℕ) (q : Procedure)
    → slice_get ps k ≡ Some q
    → calls_below (length ps) q.body ≡ true
    → step_fields (ps ++ more) os k ≡ step_fields ps os k
