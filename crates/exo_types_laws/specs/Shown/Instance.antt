-- A closed unit with names of the grammar: a procedure that fills a window, one that calls it, and
-- versions of both.
use Rattle.std.specs.Prelude.{◌≡◌, ◌+◌, ℕ, pos, List, [], ◌∷◌, codes, None}
use Rattle.exo_tree.specs.Tree.{I32, Size, Lit, Var, Sub, At, Span, ControlArg, Window}
use Rattle.exo_tree.specs.Tree.{Const}
use Rattle.exo_tree.specs.Tree.{Assign, For, Call, Block, end, next, Param, ParamKind, ControlParam}
use Rattle.exo_tree.specs.Tree.{TensorParam, WindowParam, Procedure, Program}
use Rattle.exo_meaning.specs.Units.{IsUnit}
use Rattle.exo_reader.specs.Source.{Item}
use Rattle.exo_types.specs.MemoryRules.{dram}
use Rattle.exo_types.specs.UnitRules.{nothing_above, after_items, unit_fault}
use Rattle.exo_types_laws.specs.Shown.Again.{HoldsWhatIsNamed, StandsFor}
use Rattle.exo_types_laws.specs.Shown.Written.{written}
use Rattle.exo_types_laws.specs.Shown.Writable.{IsWritable}
use Rattle.exo_types_laws.specs.Shown.Named.{AreNamed}
use Rattle.exo_types.specs.TypeRules.{binder}

abbrev pub param : ℕ → List ℕ → ParamKind → Param
param id name kind = record { binder = binder id name; kind = kind }

-- for l in seq(0, n): w[l] = 5
abbrev pub five : ℕ → Block
five id =
    next (For (binder (2 + id) (codes "l")) (Lit (pos 0)) (Var id)
    (next (Assign (1 + id) (Var (2 + id) ∷ []) (Const (pos 5))) end)) end

-- def NAME(n: size, w: [i32][n]), whose binders have ids from this one on
abbrev pub fill : List ℕ → ℕ → Procedure
fill name id = record {
  name = name;
  params =
      param id (codes "n") (ControlParam Size)
      ∷ param (1 + id) (codes "w") (WindowParam I32 (Var id ∷ []) 0) ∷ [];
  asserts = [];
  body = five id;
  template = None;
}

-- the procedure of that number, called with M and A[0:M, N - 1]
abbrev pub filling : ℕ → Block
filling k =
    next (Call k
    (ControlArg (Var 3)
    ∷ Window 5 (Span (Lit (pos 0)) (Var 3) ∷ At (Sub (Var 4) (Lit (pos 1))) ∷ []) ∷ [])) end

-- def column(M: size, N: size, A: i32[M, N])
abbrev pub column : ℕ → Procedure
column k = record {
  name = codes "column";
  params =
      param 3 (codes "M") (ControlParam Size)
      ∷ param 4 (codes "N") (ControlParam Size)
      ∷ param 5 (codes "A") (TensorParam I32 (Var 3 ∷ Var 4 ∷ []) 0) ∷ [];
  asserts = [];
  body = filling k;
  template = None;
}

-- a procedure, one that calls it, a version of the first with other ids, and a version of the
-- second
-- that calls the third
abbrev pub unit : Program
unit = record {
  procedures =
      fill (codes "fill") 0
      ∷ column 0
      ∷ fill (codes "fill_two") 6
      ∷ column 2 ∷ [];
  fields = [];
  memories = dram ∷ [];
}

-- the text of the third procedure alone
abbrev pub items : List Item
items = written unit (fill (codes "fill_two") 6) ∷ []

pub record NamesInstance : Type 0 where
  pub formed : IsUnit unit
  pub named : AreNamed unit
  pub written : IsWritable unit (column 2)

-- below that text a version stands for itself which calls a version
pub record VersionsInstance : Type 0 where
  pub keeps : unit_fault items ≡ None
  pub holds : HoldsWhatIsNamed (after_items nothing_above items) unit (column 2)
  pub stands :
      StandsFor (after_items nothing_above items) (written unit (column 2)) holds.to (column 2)
