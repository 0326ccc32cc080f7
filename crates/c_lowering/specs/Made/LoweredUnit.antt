-- The C of a unit.
use Rattle.std.specs.Prelude.{ℕ, zero, suc, ◌==◌, Bool, true, false, not, ◌&&◌, ◌||◌, if◌then◌else◌}
use Rattle.std.specs.Prelude.{List, [], ◌∷◌, ◌++◌, map, length, codes, Option, Some, None}
use Rattle.std.specs.Prelude.{option_map, slice_get}
use Rattle.std.specs.List.{list_any}
use Rattle.exo_tree.specs.Tree.{Cell, I8, I16, I32, Ui8, Binder, Control, Lit, Var, Field, StrideOf}
use Rattle.exo_tree.specs.Tree.{Neg, Add, Sub, Mul, Div, Mod, Condition, True, False, Flag}
use Rattle.exo_tree.specs.Tree.{FieldFlag, Lt, Le, Gt, Ge, Eq, And, Or, Argument, ControlArg}
use Rattle.exo_tree.specs.Tree.{ConditionArg, Whole, Window, Statement, Config, If, For, Alloc}
use Rattle.exo_tree.specs.Tree.{Call, Block, end, next, Param, ParamKind, ControlParam, TensorParam}
use Rattle.exo_tree.specs.Tree.{WindowParam, Procedure, ConfigField, MemoryKind, Program}
use Rattle.exo_tree.specs.Named.{name_of}
use Rattle.exo_meaning.specs.Units.{Reading, Plain, Opened, Closed, InHole, same_cell}
use Rattle.exo_modes.specs.Calls.Closed.{closed}
use Rattle.c_tree.specs.CTree.{Name, Actual, WindowOf, CStatement, Branch, Loop, Bind, CallOf}
use Rattle.c_tree.specs.CTree.{CBlock, stop, first, Formal, Number64Param, ArrayParam}
use Rattle.c_tree.specs.CTree.{WindowParamOf, CFunction, ReportLine, StructOf, CUnit}
use Rattle.c_tree.specs.Names.Words.{is_in}
use Rattle.c_tree.specs.Names.Binders.{name_in, c_names}
use Rattle.c_lowering.specs.Made.Lowered.{Memory, Hole, Bytes, InBraces, Routine, Naming}
use Rattle.c_lowering.specs.Made.Lowered.{param_forms}
use Rattle.c_lowering.specs.Made.Lowered.{block_of, is_empty}

-- a procedure to print: its number, the procedure of the text that it comes from, and the fields that it may leave different
pub record Printing : Type 0 where
  pub proc : ℕ
  pub origin : Name
  pub fields : List ℕ

-- ---- names of fields

-- `Cfg_f`, as C has it
abbrev pub field_name : ConfigField → Name
field_name f = f.config ++ codes "_" ++ f.name

-- `Cfg.f`, as the report has it
abbrev pub field_word : ConfigField → Name
field_word f = f.config ++ codes "." ++ f.name

abbrev pub or_none : Option Name → Name
or_none None = []
or_none (Some x) = x

-- the field of that number; nothing where there is none
abbrev pub named_field : (ConfigField → Name) → List ConfigField → ℕ → Name
named_field word fields f = or_none (option_map word (slice_get fields f))

-- ---- the naming of a procedure

abbrev pub memory_of : Option MemoryKind → Memory
memory_of None = record { ctype = []; lanes = 0; stack = false }
memory_of (Some m) = record { ctype = m.ctype; lanes = m.lanes; stack = m.stack }

abbrev pub with_byte : ℕ → List Hole → List Hole
with_byte c [] = Bytes (c ∷ []) ∷ []
with_byte c (Bytes text ∷ hs) = Bytes (c ∷ text) ∷ hs
with_byte c (InBraces name ∷ hs) = Bytes (c ∷ []) ∷ (InBraces name ∷ hs)

-- The parts of a template. A brace stands for itself where it is doubled; what follows a lone brace is left out.
abbrev pub holes_from : Reading → List ℕ → List Hole
holes_from state [] = []
holes_from Plain (c ∷ text) =
    if c == 123 then holes_from Opened text
    else (if c == 125 then holes_from Closed text else with_byte c (holes_from Plain text))
holes_from Opened (c ∷ text) =
    if c == 123 then with_byte c (holes_from Plain text)
    else (if c == 125 then [] else holes_from (InHole (c ∷ [])) text)
holes_from Closed (c ∷ text) = if c == 125 then with_byte c (holes_from Plain text) else []
holes_from (InHole name) (c ∷ text) =
    if c == 125 then InBraces name ∷ holes_from Plain text
    else holes_from (InHole (name ++ c ∷ [])) text

abbrev pub holes_of : List ℕ → List Hole
holes_of = holes_from Plain

abbrev pub routine_of : Option Procedure → Routine
routine_of None = record { name = []; params = []; template = None }
routine_of (Some p) =
    record { name = p.name; params = p.params; template = option_map holes_of p.template }

-- by the table of its names
abbrev pub naming_in : Program → List Binder → Naming
naming_in program table = record {
  binder = name_in table;
  field = named_field field_name program.fields;
  memory = λ m. memory_of (slice_get program.memories m);
  routine = λ k. routine_of (slice_get program.procedures k);
}

-- ---- functions

abbrev pub formal_of : ParamKind → Name → Formal
formal_of (ControlParam kind) x = Number64Param x
formal_of (TensorParam cell dims memory) x = ArrayParam cell x
formal_of (WindowParam cell dims memory) x = WindowParamOf (length dims) cell x

abbrev pub formals_of : Naming → List Param → List Formal
formals_of naming [] = []
formals_of naming (p ∷ ps) = formal_of p.kind (naming.binder p.binder.id) ∷ formals_of naming ps

-- by a naming of its binders
abbrev pub function_of : Naming → Procedure → CFunction
function_of naming p =
    record {
      name = p.name;
      formals = formals_of naming p.params;
      body = block_of naming (param_forms p.params) p.body;
    }

abbrev pub function_at : Program → List Name → Option Procedure → CFunction
function_at program globals None = record { name = []; formals = []; body = stop }
function_at program globals (Some p) = function_of (naming_in program (c_names globals p)) p

abbrev pub functions_of : Program → List Name → List Printing → List CFunction
functions_of program globals [] = []
functions_of program globals (w ∷ ws) =
    function_at program globals (slice_get program.procedures w.proc)
    ∷ functions_of program globals ws

-- ---- the fields that a tree reads or writes

abbrev pub in_control : ℕ → Control → Bool
in_control f (Lit n) = false
in_control f (Var x) = false
in_control f (Field g) = f == g
in_control f (StrideOf x k) = false
in_control f (Neg a) = in_control f a
in_control f (Add a b) = in_control f a || in_control f b
in_control f (Sub a b) = in_control f a || in_control f b
in_control f (Mul a b) = in_control f a || in_control f b
in_control f (Div a c) = in_control f a
in_control f (Mod a c) = in_control f a

abbrev pub in_condition : ℕ → Condition → Bool
in_condition f True = false
in_condition f False = false
in_condition f (Flag x) = false
in_condition f (FieldFlag g) = f == g
in_condition f (Lt a b) = in_control f a || in_control f b
in_condition f (Le a b) = in_control f a || in_control f b
in_condition f (Gt a b) = in_control f a || in_control f b
in_condition f (Ge a b) = in_control f a || in_control f b
in_condition f (Eq a b) = in_control f a || in_control f b
in_condition f (And c d) = in_condition f c || in_condition f d
in_condition f (Or c d) = in_condition f c || in_condition f d

abbrev pub in_conditions : ℕ → List Condition → Bool
in_conditions f [] = false
in_conditions f (c ∷ cs) = in_condition f c || in_conditions f cs

-- indices, bounds and dimensions hold no field
abbrev pub in_argument : ℕ → Argument → Bool
in_argument f (ControlArg a) = in_control f a
in_argument f (ConditionArg c) = in_condition f c
in_argument f (Whole x) = false
in_argument f (Window x coords) = false

abbrev pub in_arguments : ℕ → List Argument → Bool
in_arguments f [] = false
in_arguments f (a ∷ rest) = in_argument f a || in_arguments f rest

abbrev mutual
  pub in_block : ℕ → Block → Bool
  in_block f end = false
  in_block f (next a b) = in_statement f a || in_block f b

  pub in_statement : ℕ → Statement → Bool
  in_statement f (Config g a) = (f == g) || in_argument f a
  in_statement f (If c a b) = in_condition f c || in_block f a || in_block f b
  in_statement f (For i lo hi b) = in_block f b
  in_statement f (Call k args) = in_arguments f args
  in_statement f a = false

abbrev pub in_procedure : ℕ → Procedure → Bool
in_procedure f p = in_conditions f p.asserts || in_block f p.body

-- ---- what is printed, and what counts with it

abbrev pub is_listed : List Printing → ℕ → Bool
is_listed [] k = false
is_listed (w ∷ ws) k = (k == w.proc) || is_listed ws k

-- the printed procedures, the instructions that they call, and what these call
abbrev pub counts : Program → List Printing → ℕ → Bool
counts program what = closed (λ p. true) (is_listed what) 0 program.procedures

abbrev pub is_used_from : (ℕ → Bool) → ℕ → ℕ → List Procedure → Bool
is_used_from counted f k [] = false
is_used_from counted f k (p ∷ ps) =
    (counted k && in_procedure f p) || is_used_from counted f (suc k) ps

-- whether one of these reads or writes the field
abbrev pub is_used : Program → List Printing → ℕ → Bool
is_used program what f = is_used_from (counts program what) f 0 program.procedures

-- the names of the fields in use, in the unit's order
abbrev pub fields_from : (ℕ → Bool) → ℕ → List ConfigField → List Name
fields_from used k [] = []
fields_from used k (f ∷ fs) =
    if used k then field_name f ∷ fields_from used (suc k) fs else fields_from used (suc k) fs

abbrev pub fields_of : Program → List Printing → List Name
fields_of program what = fields_from (is_used program what) 0 program.fields

-- ---- the headers of memories

abbrev mutual
  pub stands_in : ℕ → Block → Bool
  stands_in memory end = false
  stands_in memory (next a b) = is_made_in memory a || stands_in memory b

  -- whether the statement allocates in the memory
  pub is_made_in : ℕ → Statement → Bool
  is_made_in memory (If c a b) = stands_in memory a || stands_in memory b
  is_made_in memory (For i lo hi b) = stands_in memory b
  is_made_in memory (Alloc x cell dims own) = memory == own
  is_made_in memory a = false

abbrev pub stands_in_procedure : ℕ → Option Procedure → Bool
stands_in_procedure memory None = false
stands_in_procedure memory (Some p) = stands_in memory p.body

-- whether a printed procedure allocates in the memory
abbrev pub is_filled : Program → List Printing → ℕ → Bool
is_filled program [] memory = false
is_filled program (w ∷ ws) memory =
    stands_in_procedure memory (slice_get program.procedures w.proc) || is_filled program ws memory

abbrev pub is_new : List Name → Name → Bool
is_new seen header = not (is_empty header) && not (is_in seen header)

-- each header once, in the unit's order
abbrev pub headers_from : (ℕ → Bool) → ℕ → List Name → List MemoryKind → List Name
headers_from filled k seen [] = []
headers_from filled k seen (m ∷ ms) =
    if filled k && is_new seen m.header
    then m.header ∷ headers_from filled (suc k) (seen ++ m.header ∷ []) ms
    else headers_from filled (suc k) seen ms

abbrev pub headers_of : Program → List Printing → List Name
headers_of program what = headers_from (is_filled program what) 0 [] program.memories

-- ---- the structs of windows

abbrev pub is_struct : ℕ → Cell → StructOf → Bool
is_struct rank cell s = (rank == s.rank) && same_cell cell s.cell

-- a window made for a call of a function
abbrev pub in_actual : StructOf → Actual → Bool
in_actual s (WindowOf rank cell ref strides) = is_struct rank cell s
in_actual s a = false

-- a template has no struct
abbrev mutual
  pub struct_in_block : StructOf → CBlock → Bool
  struct_in_block s stop = false
  struct_in_block s (first a b) = struct_in s a || struct_in_block s b

  pub struct_in : StructOf → CStatement → Bool
  struct_in s (Branch t a b) = struct_in_block s a || struct_in_block s b
  struct_in s (Loop x lo hi b) = struct_in_block s b
  struct_in s (Bind rank cell w ref strides) = is_struct rank cell s
  struct_in s (CallOf f args) = list_any (in_actual s) args
  struct_in s a = false

abbrev pub in_formal : StructOf → Formal → Bool
in_formal s (Number64Param x) = false
in_formal s (ArrayParam cell x) = false
in_formal s (WindowParamOf rank cell x) = is_struct rank cell s

-- whether the C of a function names the struct
abbrev pub names_struct : StructOf → CFunction → Bool
names_struct s f = list_any (in_formal s) f.formals || struct_in_block s f.body

abbrev pub struct_at : ℕ → Cell → StructOf
struct_at rank cell = record { rank = rank; cell = cell }

abbrev pub structs_of_rank : ℕ → List StructOf
structs_of_rank rank = map (struct_at rank) (I8 ∷ I16 ∷ I32 ∷ Ui8 ∷ [])

abbrev pub structs_from : ℕ → ℕ → List StructOf
structs_from zero rank = []
structs_from (suc n) rank = structs_of_rank rank ++ structs_from n (suc rank)

-- by rank, and then by type
abbrev pub all_structs : List StructOf
all_structs = structs_from 8 1

abbrev pub kept_structs : List CFunction → List StructOf → List StructOf
kept_structs fs [] = []
kept_structs fs (s ∷ rest) =
    if list_any (names_struct s) fs then s ∷ kept_structs fs rest else kept_structs fs rest

abbrev pub structs_of : List CFunction → List StructOf
structs_of fs = kept_structs fs all_structs

-- ---- the file

abbrev pub printed_names : Program → List Printing → List Name
printed_names program [] = []
printed_names program (w ∷ ws) =
    name_of (slice_get program.procedures w.proc) ∷ printed_names program ws

-- the names of all functions, and then of all fields
abbrev pub global_names : Program → List Printing → List Name
global_names program what = printed_names program what ++ fields_of program what

abbrev pub line_of : Program → Printing → ReportLine
line_of program w =
    record {
      name = name_of (slice_get program.procedures w.proc);
      origin = w.origin;
      differs = map (named_field field_word program.fields) w.fields;
    }

-- the C of the listed procedures
abbrev pub lowered : Program → List Printing → CUnit
lowered program what =
    let functions = functions_of program (global_names program what) what in
    record {
      report = map (line_of program) what;
      includes = headers_of program what;
      structs = structs_of functions;
      fields = fields_of program what;
      functions = functions;
    }
