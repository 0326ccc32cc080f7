-- Runs of C blocks and files.
use Rattle.std.specs.Prelude.{ℕ, zero, suc, ℤ, pos, ◌+ℤ◌, ◌-ℤ◌, ◌*ℤ◌, int_lt, int_le, ◌==◌, nat_lt}
use Rattle.std.specs.Prelude.{Bool, true, false, not, ◌&&◌, if◌then◌else◌, List, [], ◌∷◌, map}
use Rattle.std.specs.Prelude.{length, take, Option, Some, None, option_map, slice_get}
use Rattle.std.specs.Ordering.{int_eq}
use Rattle.exo_tree.specs.Tree.{Cell}
use Rattle.exo_meaning.specs.Value.{Value, Undefined, stored_as}
use Rattle.exo_meaning.specs.Calls.{truth}
use Rattle.exo_meaning.specs.Run.{count}
use Rattle.c_tree.specs.CTree.{Name, Element, Single, Vector, Number64, Named, Product}
use Rattle.c_tree.specs.CTree.{CellRef, Number32}
use Rattle.c_tree.specs.CTree.{Actual, Control64, Tested, Alone, Address, WindowOf, CStatement}
use Rattle.c_tree.specs.CTree.{Store, AddTo, SetField, Empty, Branch, Loop, Array, Malloc, Free}
use Rattle.c_tree.specs.CTree.{Bind, CallOf, Instruction, CBlock, stop, first, Formal}
use Rattle.c_tree.specs.CTree.{Number64Param, ArrayParam, WindowParamOf, CFunction, CUnit}
use Rattle.c_unit_laws.specs.Follows.Machine.Machine.{Outcome, Done, Fault, NoStore, after}
use Rattle.c_unit_laws.specs.Follows.Machine.Machine.{where_good, Pointer}
use Rattle.c_unit_laws.specs.Follows.Machine.Machine.{Thing, IsNumber, IsField, IsFunction, IsArray}
use Rattle.c_unit_laws.specs.Follows.Machine.Machine.{IsVectors}
use Rattle.c_unit_laws.specs.Follows.Machine.Machine.{IsWindow, Object, Setting, Machine, named}
use Rattle.c_unit_laws.specs.Follows.Machine.Machine.{with_thing, hiding}
use Rattle.c_unit_laws.specs.Follows.Machine.Machine.{number64, all_numbers64, test, from_array}
use Rattle.c_unit_laws.specs.Follows.Machine.Machine.{from_elements}
use Rattle.c_unit_laws.specs.Follows.Machine.Machine.{spot_by, typed_spot, holds_cells, with_change}
use Rattle.c_unit_laws.specs.Follows.Machine.Machine.{number32}
use Rattle.c_unit_laws.specs.Follows.Machine.Machine.{with_two, as_unsigned}

-- a function with the run of its body
pub record Behaviour : Type 0 where
  pub formals : List Formal
  pub run : Machine → Outcome Machine

pub record CWorld : Type 0 where
  pub globals : Name → Option Thing
  pub functions : Name → Option Behaviour
  pub instructions : ℕ → Option Behaviour

abbrev pub on_setting : (Setting → Setting) → Machine → Machine
on_setting f m = record m { setting = f m.setting }

-- ---- scopes

abbrev pub still_there : {A : Type 0} → Bool → A → A → A
still_there true a gone = a
still_there false a gone = gone

-- the names of before, and the objects, fields and contents of after, without what was made in
-- between
abbrev pub back_to : Machine → Machine → Machine
back_to before m = record {
  setting = record {
    names = before.setting.names;
    objects = λ o. still_there (nat_lt o before.setting.free) (m.setting.objects o) None;
    free = before.setting.free;
    fields = m.setting.fields;
  };
  contents = λ o. still_there (nat_lt o before.setting.free) (m.contents o) (λ k. Undefined);
}

abbrev pub in_scope : (Machine → Outcome Machine) → Machine → Outcome Machine
in_scope run m = after (run m) (λ n. Done (back_to m n))

-- ---- stores

abbrev pub into_object : Option Object → Value → Value
into_object None v = v
into_object (Some o) v = stored_as o.cell v

-- the conversion to the cell's type is taken modulo its width
abbrev pub put32 : Machine → Cell → (Value → Value) → Pointer → Machine
put32 m cell f p =
    record m {
      contents = with_change m.contents p
          (λ old. into_object (m.setting.objects p.object) (stored_as cell (f old)));
    }

abbrev pub store : Cell → CellRef → Number32 → Machine → Outcome Machine
store cell ref e m =
    after (typed_spot cell m.setting ref)
    (λ p. after (number32 m e) (λ v. Done (put32 m cell (λ old. v) p)))

abbrev pub add_to : Cell → CellRef → Number32 → Machine → Outcome Machine
add_to cell ref e m =
    after (typed_spot cell m.setting ref)
    (λ p. after (number32 m e)
    (λ v. Done (put32 m cell (λ old. with_two ◌+ℤ◌ (as_unsigned old) v) p)))

-- ---- what an argument gives

abbrev pub thing_alone : Setting → Name → Option Thing → Outcome Thing
thing_alone s x None = Fault
thing_alone s x (Some (IsNumber n)) = Done (IsNumber n)
thing_alone s x (Some IsField) = Done (IsNumber (s.fields x))
thing_alone s x (Some IsFunction) = Fault
thing_alone s x (Some (IsArray p)) = Done (IsArray p)
thing_alone s x (Some (IsVectors p lanes)) = Done (IsVectors p lanes)
thing_alone s x (Some (IsWindow p strides)) = Done (IsWindow p strides)

-- a name alone gives what it stands for, whatever it is
abbrev pub number_thing : Setting → Number64 → Outcome Thing
number_thing s (Named x) = thing_alone s x (s.names x)
number_thing s e = after (number64 s e) (λ n. Done (IsNumber n))

-- a window from a cell on: so many strides, and cells of that type
abbrev pub window_from : ℕ → Cell → (ℕ → Option Object) → Pointer → List ℤ → Outcome Thing
window_from rank cell objects p strides =
    where_good (holds_cells (objects p.object) cell && (length strides == rank))
    (Done (IsWindow p strides))

-- by where a cell lies
abbrev pub thing_by : (Option Thing → ℤ → Outcome Pointer) → Setting → Actual → Outcome Thing
thing_by from s (Control64 e) = number_thing s e
thing_by from s (Tested t) = after (test s t) (λ b. Done (IsNumber (truth b)))
thing_by from s (Alone x) = thing_alone s x (s.names x)
thing_by from s (Address ref) = after (spot_by from s ref) (λ p. Done (IsArray p))
thing_by from s (WindowOf rank cell ref strides) =
    after (spot_by from s ref)
    (λ p. after (all_numbers64 s strides) (window_from rank cell s.objects p))

abbrev pub things_by : (Option Thing → ℤ → Outcome Pointer) → Setting → List Actual
    → Outcome (List Thing)
things_by from s [] = Done []
things_by from s (a ∷ rest) =
    after (thing_by from s a) (λ t. after (things_by from s rest) (λ ts. Done (t ∷ ts)))

abbrev pub thing : Setting → Actual → Outcome Thing
thing = thing_by from_array

abbrev pub things : Setting → List Actual → Outcome (List Thing)
things = things_by from_array

-- for the body of an instruction, vectors are their cells
abbrev pub as_cells : Thing → Thing
as_cells (IsVectors p lanes) = IsArray p
as_cells t = t

abbrev pub things_of_cells : Setting → List Actual → Outcome (List Thing)
things_of_cells s args = after (things_by from_elements s args) (λ ts. Done (map as_cells ts))

-- ---- fields

abbrev pub set_under : Name → Option Thing → Thing → Setting → Outcome Setting
set_under x (Some IsField) (IsNumber n) s = Done (record s { fields = named s.fields x n })
set_under x held t s = Fault

abbrev pub set_field : Name → Actual → Machine → Outcome Machine
set_field x a m =
    after (thing m.setting a)
    (λ t. after (set_under x (m.setting.names x) t m.setting)
    (λ s. Done (record m { setting = s })))

-- ---- allocations

-- no store where the size passes 2 ^ 48
abbrev pub storable : Bool → ℤ → Outcome ℤ
storable true n = Done n
storable false n = NoStore

abbrev pub at_most_48 : ℤ → Outcome ℤ
at_most_48 n = storable (int_le n (pos 281474976710656)) n

-- a product of dimensions, with its parts
abbrev pub amount : Setting → Number64 → Outcome ℤ
amount s (Product a b) =
    after (amount s a)
    (λ m. after (number64 s b) (λ n. after (at_most_48 n) (λ k. at_most_48 (m *ℤ n))))
amount s e = after (number64 s e) at_most_48

abbrev pub cell_of : Element → Cell
cell_of (Single cell) = cell
cell_of (Vector ctype lanes cell) = cell

abbrev pub lanes_of : Element → ℕ
lanes_of (Single cell) = 1
lanes_of (Vector ctype lanes cell) = lanes

abbrev pub array_thing : Element → Pointer → Thing
array_thing (Single cell) p = IsArray p
array_thing (Vector ctype lanes cell) p = IsVectors p lanes

abbrev pub with_object : Object → Setting → Setting
with_object o s =
    record s { objects = λ k. if k == s.free then Some o else s.objects k; free = suc s.free }

-- a new object under a name; its cells are undefined
abbrev pub made : Bool → Element → Name → ℤ → Machine → Machine
made heap element x n m =
    let o = m.setting.free in
    record {
      setting =
          with_thing x (array_thing element (record { object = o; offset = pos 0 }))
          (with_object
          (record { cell = cell_of element; size = n *ℤ pos (lanes_of element); heap = heap })
          m.setting);
      contents = λ k. if k == o then (λ at. Undefined) else m.contents k;
    }

-- there is no store for more than 2 ^ 48 cells, and less than one element is a fault
abbrev pub make : Bool → Element → Name → Outcome ℤ → Machine → Outcome Machine
make heap element x o m =
    after o
    (λ n. after (at_most_48 (n *ℤ pos (lanes_of element)))
    (λ cells. where_good (int_le (pos 1) n) (Done (made heap element x n m))))

-- what `malloc` gave, by a pointer to its first cell
abbrev pub freed : Pointer → Option Object → Setting → Outcome Setting
freed p None s = Fault
freed p (Some o) s =
    where_good (o.heap && int_eq p.offset (pos 0))
    (Done (record s { objects = λ k. if k == p.object then None else s.objects k }))

abbrev pub free_under : Option Thing → Setting → Outcome Setting
free_under (Some (IsArray p)) s = freed p (s.objects p.object) s
free_under (Some (IsVectors p lanes)) s = freed p (s.objects p.object) s
free_under held s = Fault

-- ---- calls, in place

-- a parameter takes a thing of its form: a number, a pointer to cells of its type, or a window of
-- its rank
abbrev pub bind_formal : (ℕ → Option Object) → Formal → Thing → (Name → Option Thing)
    → Outcome (Name → Option Thing)
bind_formal objects (Number64Param x) (IsNumber n) names = Done (named names x (Some (IsNumber n)))
bind_formal objects (ArrayParam cell x) (IsArray p) names =
    where_good (holds_cells (objects p.object) cell) (Done (named names x (Some (IsArray p))))
bind_formal objects (WindowParamOf rank cell x) (IsWindow p strides) names =
    after (window_from rank cell objects p strides) (λ t. Done (named names x (Some t)))
bind_formal objects f t names = Fault

abbrev pub bind_formals : (ℕ → Option Object) → List Formal → List Thing → (Name → Option Thing)
    → Outcome (Name → Option Thing)
bind_formals objects [] [] names = Done names
bind_formals objects (f ∷ fs) (t ∷ ts) names =
    after (bind_formal objects f t names) (bind_formals objects fs ts)
bind_formals objects fs ts names = Fault

abbrev pub with_names : (Name → Option Thing) → Machine → Machine
with_names names = on_setting (λ s. record s { names = names })

-- the body sees what all functions see and its parameters, and nothing of the names of the caller
abbrev pub run_in_place : CWorld → Option Behaviour → List Thing → Machine → Outcome Machine
run_in_place world None ts m = Fault
run_in_place world (Some f) ts m =
    after (bind_formals m.setting.objects f.formals ts world.globals)
    (λ names. in_scope (λ n. f.run (with_names names n)) m)

-- the name has to stand for a function there, and the function above
abbrev pub run_function : CWorld → Option Thing → Name → List Actual → Machine → Outcome Machine
run_function world (Some IsFunction) f args m =
    after (things m.setting args) (λ ts. run_in_place world (world.functions f) ts m)
run_function world held f args m = Fault

-- ---- loops

abbrev pub go_on : {A : Type 0} → Bool → (A → Outcome A) → A → Outcome A
go_on true f a = f a
go_on false f a = Done a

-- the turns from n on, at most so many
abbrev pub turns64 : (ℤ → Machine → Outcome Machine) → (ℤ → Machine → Outcome ℤ) → ℕ → ℤ → Machine
    → Outcome Machine
turns64 turn upper zero n m = after (upper n m) (λ h. where_good (not (int_lt n h)) (Done m))
turns64 turn upper (suc k) n m =
    after (upper n m)
    (λ h. go_on (int_lt n h) (λ p. after (turn n p) (turns64 turn upper k (n +ℤ pos 1))) m)

abbrev pub with_counter : Name → ℤ → Machine → Machine
with_counter x n = on_setting (with_thing x (IsNumber n))

abbrev pub turn64 : Name → (Machine → Outcome Machine) → ℤ → Machine → Outcome Machine
turn64 x body n = in_scope (λ m. body (with_counter x n m))

abbrev pub upper64 : Name → Number64 → ℤ → Machine → Outcome ℤ
upper64 x hi n m = number64 (with_thing x (IsNumber n) m.setting) hi

-- ---- trees

abbrev pub either_way : Bool → (Machine → Outcome Machine) → (Machine → Outcome Machine) → Machine
    → Outcome Machine
either_way true f g m = f m
either_way false f g m = g m

abbrev mutual
  pub run_c : CWorld → CBlock → Machine → Outcome Machine
  run_c world stop m = Done m
  run_c world (first a b) m = after (step_c world a m) (run_c world b)

  pub step_c : CWorld → CStatement → Machine → Outcome Machine
  step_c world (Store cell ref e) m = store cell ref e m
  step_c world (AddTo cell ref e) m = add_to cell ref e m
  step_c world (SetField x a) m = set_field x a m
  step_c world Empty m = Done m
  step_c world (Branch t a b) m =
      after (test m.setting t) (λ h. in_scope (either_way h (run_c world a) (run_c world b)) m)
  step_c world (Loop x lo hi b) m =
      after (number64 (hiding x m.setting) lo)
      (λ n. turns64 (turn64 x (run_c world b)) (upper64 x hi)
      (count (pos 9223372036854775807 -ℤ n)) n m)
  step_c world (Array element x n) m = make false element x (at_most_48 n) m
  step_c world (Malloc element x n) m = make true element x (amount (hiding x m.setting) n) m
  step_c world (Free x) m =
      after (free_under (m.setting.names x) m.setting) (λ s. Done (record m { setting = s }))
  step_c world (Bind rank cell w ref strides) m =
      after (thing (hiding w m.setting) (WindowOf rank cell ref strides))
      (λ t. Done (on_setting (with_thing w t) m))
  step_c world (CallOf f args) m = run_function world (m.setting.names f) f args m
  step_c world (Instruction k pieces args) m =
      after (things_of_cells m.setting args) (λ ts. run_in_place world (world.instructions k) ts m)

-- ---- files

abbrev pub behaviour : CWorld → CFunction → Behaviour
behaviour world f = record { formals = f.formals; run = run_c world f.body }

abbrev pub all_named : List Name → Thing → (Name → Option Thing) → Name → Option Thing
all_named [] t names = names
all_named (x ∷ xs) t names = named (all_named xs t names) x (Some t)

abbrev pub names_of_functions : List CFunction → List Name
names_of_functions [] = []
names_of_functions (f ∷ fs) = f.name ∷ names_of_functions fs

-- what every function of a file sees: its fields and its functions
abbrev pub globals_of : CUnit → Name → Option Thing
globals_of u =
    all_named u.fields IsField (all_named (names_of_functions u.functions) IsFunction (λ x. None))

-- functions by name, each calling those above it
abbrev pub with_functions : (Name → Option Thing) → (ℕ → Option Behaviour)
    → (Name → Option Behaviour) → List CFunction → Name → Option Behaviour
with_functions globals templates above [] = above
with_functions globals templates above (f ∷ fs) =
    with_functions globals templates
    (named above f.name
    (Some
    (behaviour (record { globals = globals; functions = above; instructions = templates }) f)))
    fs

-- where the function at that place of the file runs, by what the templates of instructions do
abbrev pub file_world : CUnit → (ℕ → Option Behaviour) → ℕ → CWorld
file_world u templates at =
    record {
      globals = globals_of u;
      functions = with_functions (globals_of u) templates (λ f. None)
          (take at u.functions);
      instructions = templates;
    }

-- a call of the function at that place of the file
abbrev pub run_file : CUnit → (ℕ → Option Behaviour) → ℕ → List Thing → Machine → Outcome Machine
run_file u templates at ts m =
    let world = file_world u templates at in
    run_in_place world (option_map (behaviour world) (slice_get u.functions at)) ts m
