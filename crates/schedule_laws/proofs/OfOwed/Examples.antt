-- The law at a small unit: `def set(n: size, x: [i8][n]): cfg.size = n; x[0] = 1` and, behind it,
-- `def go(y: i8[16]): set(4, y[2:6])`, which comes again as `on`.
use Rattle.std.proofs.Common.{◌≡◌, ℕ, pos, true, false, List, [], ◌∷◌, length, None, refl, codes}
use Rattle.exo_tree.specs.Tree.{Binder, I8, Size, Lit, Var, Const, ControlArg, Window, Span, Assign, Config, Call}
use Rattle.exo_tree.specs.Tree.{end, next, ControlParam, TensorParam, WindowParam, Procedure, MemoryKind, Program}
use Rattle.exo_meaning.specs.Units.{IsUnit}
use Rattle.bounds_check.specs.Obligations.{obligations_of, list_fault}
use Rattle.tree_laws.specs.Findings.Versions.{with_version}
use Rattle.schedule_laws.specs.Owed.Renamed.{OwesTheSame, renamed, RenamedOwesTheSame}

abbrev pub named : ℕ → List ℕ → Binder
named n name = record { id = n; name = name }

abbrev set : Procedure
set = record {
  name = codes "set";
  params =
      record { binder = named 0 (codes "n"); kind = ControlParam Size }
      ∷ record { binder = named 1 (codes "x"); kind = WindowParam I8 (Var 0 ∷ []) 0 } ∷ [];
  asserts = [];
  body =
      next (Config 0 (ControlArg (Var 0)))
      (next (Assign 1 (Lit (pos 0) ∷ []) (Const (pos 1))) end);
  template = None;
}

abbrev go : Procedure
go = record {
  name = codes "go";
  params = record { binder = named 0 (codes "y"); kind = TensorParam I8 (Lit (pos 16) ∷ []) 0 } ∷ [];
  asserts = [];
  body =
      next (Call 0 (ControlArg (Lit (pos 4))
      ∷ Window 0 (Span (Lit (pos 2)) (Lit (pos 6)) ∷ []) ∷ [])) end;
  template = None;
}

abbrev pub plain_memory : MemoryKind
plain_memory = record {
  name = codes "DRAM";
  ctype = [];
  lanes = 0;
  cell = None;
  stack = false;
  read = true;
  write = true;
  reduce = true;
  header = [];
}

abbrev unit : Program
unit = record {
  procedures = set ∷ go ∷ [];
  fields = record { config = codes "cfg"; name = codes "size"; kind = Size } ∷ [];
  memories = plain_memory ∷ [];
}

formed : IsUnit unit
formed = record {
  procedures = (
    record {
      params = refl;
      asserts = refl;
      body = refl;
      filled = refl;
      ids = refl;
      distinct = refl;
      paths = refl;
      template = refl;
    },
    (
      record {
        params = refl;
        asserts = refl;
        body = refl;
        filled = refl;
        ids = refl;
        distinct = refl;
        paths = refl;
        template = refl;
      },
      tt,
    ),
  );
  fields = refl;
  memories = refl;
  spaces = refl;
  counts = refl;
}

abbrev on : Procedure
on = renamed (codes "on") go

so_it_owes_the_same : RenamedOwesTheSame → OwesTheSame unit go (with_version unit on) on
so_it_owes_the_same law = law unit 1 go (codes "on") formed refl

-- the extent of `y`, the size, the ends of the window, and in two cases the extent that is passed
and_it_owes_much : length (obligations_of (with_version unit on) on) ≡ 7
and_it_owes_much = refl

and_it_is_listed : list_fault (with_version unit on) on ≡ None
and_it_is_listed = refl
