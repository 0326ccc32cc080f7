-- The law of changed stores at a small unit: `def go(y: [i8][16]): y[0] = 1`, and then
-- `for i in seq(0, 15): y[i + 1] = y[i] * y[0]`, which comes again with `y[0] * y[i]`.
use Rattle.std.proofs.Common.{◌≡◌, pos, [], ◌∷◌, length, None, refl, codes}
use Rattle.exo_tree.specs.Tree.{I8, Lit, Var, Add, Datum, Const, Read, Times, Statement, Assign, For, end, next}
use Rattle.exo_tree.specs.Tree.{TensorParam, Procedure, Program}
use Rattle.exo_tree.specs.Context.{Here, After, InLoop}
use Rattle.exo_tree.specs.Places.{Main, Path}
use Rattle.exo_meaning.specs.Units.{IsUnit}
use Rattle.bounds_check.specs.Obligations.{obligations_of}
use Rattle.tree_laws.specs.Findings.Versions.{with_version}
use Rattle.schedule_laws.specs.Owed.Stores.{StoreVersion, owed_there, OwesItsStore}
use Rattle.schedule_laws.specs.Owed.Stores.{ChangedStoresOweTheirOwn}
use Rattle.schedule_laws.proofs.OfOwed.Examples.{named, plain_memory}

abbrev first : Statement
first = Assign 0 (Lit (pos 0) ∷ []) (Const (pos 1))

abbrev at_turn : Datum
at_turn = Read 0 (Var 1 ∷ [])

abbrev at_start : Datum
at_start = Read 0 (Lit (pos 0) ∷ [])

abbrev store : Datum → Statement
store e = Assign 0 (Add (Var 1) (Lit (pos 1)) ∷ []) e

abbrev with_store : Statement → Procedure
with_store s = record {
  name = codes "go";
  params = record { binder = named 0 (codes "y"); kind = TensorParam I8 (Lit (pos 16) ∷ []) 0 } ∷ [];
  asserts = [];
  body =
      next first
      (next (For (named 1 (codes "i")) (Lit (pos 0)) (Lit (pos 15)) (next s end)) end);
  template = None;
}

abbrev go : Procedure
go = with_store (store (Times at_turn at_start))

abbrev commuted : Procedure
commuted = with_store (store (Times at_start at_turn))

abbrev unit : Program
unit = record { procedures = go ∷ []; fields = []; memories = plain_memory ∷ [] }

formed : IsUnit unit
formed = record {
  procedures = (
    record {
      params = refl;
      asserts = refl;
      body = refl;
      filled = refl;
      ids = refl;
      distinct = refl;
      paths = refl;
      template = refl;
    },
    tt,
  );
  fields = refl;
  memories = refl;
  spaces = refl;
  counts = refl;
}

abbrev place : Path
place = record { branch = Main; index = 1 } ∷ record { branch = Main; index = 0 } ∷ []

version : StoreVersion unit 0 go commuted place
version = record {
  unit = formed;
  place = refl;
  head = record { params = refl; asserts = refl; template = refl };
  changed = record {
    around =
        After first
        (InLoop (named 1 (codes "i")) (Lit (pos 0)) (Lit (pos 15)) (Here end) end);
    old = store (Times at_turn at_start);
    new = store (Times at_start at_turn);
    opens = refl;
    is = refl;
    old_is = tt;
    new_is = tt;
  };
}

so_it_owes_its_store : ChangedStoresOweTheirOwn → OwesItsStore unit go commuted place
so_it_owes_its_store law = law unit 0 go commuted place version refl refl refl refl

-- the extent of `y`, and two of each index
and_it_owes_much : length (obligations_of (with_version unit commuted) commuted) ≡ 9
and_it_owes_much = refl

and_its_store_owes : length (owed_there (with_version unit commuted) commuted place) ≡ 6
and_its_store_owes = refl
