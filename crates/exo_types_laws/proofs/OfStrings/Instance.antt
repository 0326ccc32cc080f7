-- The names at a place of a closed procedure.
use Rattle.std.proofs.Common.{◌≡◌, ℕ, pos, true, false, List, [], ◌∷◌, None, refl}
use Rattle.std.specs.Prelude.{codes}
use Rattle.exo_tree.specs.Tree.{Size, I32, Binder, Lit, Var, Const, Assign, For, Alloc, Block, end, next}
use Rattle.exo_tree.specs.Tree.{ControlParam, Procedure, MemoryKind, Program}
use Rattle.exo_meaning.specs.Units.{plainly, is_control, is_condition, field_kind, IsUnit}
use Rattle.text_expressions.specs.Expression.{Tree, variable, binary}
use Rattle.text_expressions.specs.declared.source.Infix.TheVariants.{Add, Lt}
use Rattle.rules_names.specs.Resolved.{control_of, condition_of}
use Rattle.exo_tree.specs.Context.{Here, InLoop}
use Rattle.exo_tree.specs.Places.{Main, Path, Opened}
use Rattle.rules_names.specs.Names.{id_in}
use Rattle.rules_names.specs.Scopes.PlaceScope.{scope_at}
use Rattle.exo_types_laws.specs.Strings.Laws.{scope_beside, StandsAt, SameIdsAtPlace}
use Rattle.exo_types_laws.specs.Strings.Laws.{binders_of, SameNamesAtPlace, SameControlsAtPlace}
use Rattle.exo_types_laws.specs.Strings.Laws.{SameConditionsAtPlace, ControlsStandAtPlace}
use Rattle.exo_types_laws.specs.Strings.Laws.{ConditionsStandAtPlace}

abbrev named : ℕ → List ℕ → Binder
named n name = record { id = n; name = name }

-- t : i32
abbrev made : Block
made = next (Alloc (named 2 (codes "t")) I32 [] 0) end

-- t = 1
abbrev stored : Block
stored = next (Assign 2 [] (Const (pos 1))) end

abbrev body : Block
body = next (Alloc (named 2 (codes "t")) I32 [] 0) stored

-- def f(n: size): for i in seq(0, n): t : i32, t = 1
abbrev f : Procedure
f = record {
  name = codes "f";
  params = record { binder = named 0 (codes "n"); kind = ControlParam Size } ∷ [];
  asserts = [];
  body = next (For (named 1 (codes "i")) (Lit (pos 0)) (Var 0) body) end;
  template = None;
}

abbrev unit : Program
unit = record { procedures = f ∷ []; fields = []; memories = [] }

-- the allocation
abbrev path : Path
path = record { branch = Main; index = 0 } ∷ record { branch = Main; index = 0 } ∷ []

abbrev opened_there : Opened
opened_there = record {
  around = InLoop (named 1 (codes "i")) (Lit (pos 0)) (Var 0) (Here stored) end;
  piece = made;
}

it_stands : StandsAt unit 0 path f opened_there
it_stands = record { procedure = refl; statement = refl }

-- before it the buffer is not in scope, and behind it it is
pub before_it : id_in (scope_at unit 0 path false) (codes "t") ≡ 4294967295
before_it = refl

pub behind_it : id_in (scope_at unit 0 path true) (codes "t") ≡ 2
behind_it = refl

pub same_before : SameIdsAtPlace
    → id_in (scope_at unit 0 path false) (codes "i") ≡ id_in (scope_beside f opened_there false) (codes "i")
same_before law = law unit 0 path f opened_there false (codes "i") it_stands

pub same_behind : SameIdsAtPlace
    → id_in (scope_at unit 0 path true) (codes "t") ≡ id_in (scope_beside f opened_there true) (codes "t")
same_behind law = law unit 0 path f opened_there true (codes "t") it_stands

-- ---- in a well-formed unit

abbrev plain_cells : MemoryKind
plain_cells = record {
  name = codes "DRAM";
  ctype = [];
  lanes = 0;
  cell = None;
  stack = false;
  read = true;
  write = true;
  reduce = true;
  header = [];
}

abbrev with_cells : Program
with_cells = record { procedures = f ∷ []; fields = []; memories = plain_cells ∷ [] }

is_unit : IsUnit with_cells
is_unit = record {
  procedures = (
    record {
      params = refl;
      asserts = refl;
      body = refl;
      filled = refl;
      ids = refl;
      distinct = refl;
      paths = refl;
      template = refl;
    },
    tt,
  );
  fields = refl;
  memories = refl;
  spaces = refl;
  counts = refl;
}

-- i + n
abbrev sum : Tree
sum = binary Add (variable (codes "i")) (variable (codes "n"))

pub sum_stands : ControlsStandAtPlace
    → is_control (field_kind []) plainly (scope_beside f opened_there true)
    (control_of [] (scope_at with_cells 0 path true) sum)
    ≡ true
sum_stands law =
    law with_cells 0 path f opened_there true plainly 0 sum is_unit
    (record { procedure = refl; statement = refl }) refl refl

-- i < n
abbrev less : Tree
less = binary Lt (variable (codes "i")) (variable (codes "n"))

pub less_stands : ConditionsStandAtPlace
    → is_condition (field_kind []) plainly (scope_beside f opened_there false)
    (condition_of [] (scope_at with_cells 0 path false) less)
    ≡ true
less_stands law =
    law with_cells 0 path f opened_there false plainly 0 less is_unit
    (record { procedure = refl; statement = refl }) refl refl

-- ---- names and expressions

pub same_names : SameNamesAtPlace
    → binders_of (scope_at unit 0 path true) ≡ binders_of (scope_beside f opened_there true)
same_names law = law unit 0 path f opened_there true it_stands

pub same_sum : SameControlsAtPlace
    → control_of [] (scope_at unit 0 path false) sum
    ≡ control_of [] (scope_beside f opened_there false) sum
same_sum law = law unit 0 path f opened_there false [] sum it_stands

pub same_less : SameConditionsAtPlace
    → condition_of [] (scope_at unit 0 path false) less
    ≡ condition_of [] (scope_beside f opened_there false) less
same_less law = law unit 0 path f opened_there false [] less it_stands
