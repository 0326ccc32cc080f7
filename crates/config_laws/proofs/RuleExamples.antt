-- The rules, computed on closed units.
use Rattle.std.proofs.Common.{◌≡◌, ℕ, ℤ, pos, true, false, List, [], ◌∷◌, Some, None, refl}
use Rattle.exo_tree.specs.Tree.{Size, Lit, Var, Field, Eq, Config, Assign, Const, Call, For, Pass}
use Rattle.exo_tree.specs.Tree.{ControlArg, Whole, Window, Span, I32, Binder, Block, end, next}
use Rattle.exo_tree.specs.Tree.{Condition, Param, ControlParam, TensorParam, WindowParam, Procedure}
use Rattle.exo_tree.specs.Tree.{ConfigField, Program}
use Rattle.exo_tree.specs.Context.{Here, After}
use Rattle.exo_tree.specs.Places.{Main, Path, Opened}
use Rattle.config_laws.specs.FieldRule.{Got, Not, WrongShape, ConfigLive, NotDescendant}
use Rattle.config_laws.specs.FieldRule.{Before, Behind, proposed, fields_at_end}
use Rattle.config_laws.specs.Beside.{IsLiveAt}
use Rattle.config_laws.proofs.Beside.{live_beside}
use Rattle.config_laws.specs.WriteConfig.{write_config}
use Rattle.config_laws.specs.DeleteConfig.{delete_config}
use Rattle.config_laws.specs.BindConfig.{bind_config}
use Rattle.config_laws.specs.Differing.{Origin, differing}
use Rattle.config_laws.specs.CallEqv.{call_eqv}

-- ---- units

-- Cfg.w : size
abbrev pub one_field : List ConfigField
one_field = record { config = 67 ∷ []; name = 119 ∷ []; kind = Size } ∷ []

abbrev pub unit_of : List Procedure → Program
unit_of ps = record { procedures = ps; fields = one_field; memories = [] }

abbrev named : ℕ → ℕ → Binder
named n letter = record { id = n; name = letter ∷ [] }

abbrev procedure : List Param → List Condition → Block → Procedure
procedure params asserts body = record {
  name = [];
  template = None;
  params = params;
  asserts = asserts;
  body = body;
}

-- x: i32[8], and as a window
abbrev buffer : ℕ → Param
buffer n = record { binder = named n 120; kind = TensorParam I32 (Lit (pos 8) ∷ []) 0 }

abbrev window : ℕ → Param
window n = record { binder = named n 120; kind = WindowParam I32 (Lit (pos 8) ∷ []) 0 }

-- n: size
abbrev size : ℕ → Param
size n = record { binder = named n 110; kind = ControlParam Size }

abbrev pub sets : ℤ → Block → Block
sets n rest = next (Config 0 (ControlArg (Lit n))) rest

-- x[0] = 1
abbrev stores : ℕ → Block → Block
stores x rest = next (Assign x (Lit (pos 0) ∷ []) (Const (pos 1))) rest

abbrev pub at : ℕ → Path
at k = record { branch = Main; index = k } ∷ []

-- ---- a write before and behind a call that asserts the field

-- assert Cfg.w == 8
abbrev step8 : Procedure
step8 = procedure (window 0 ∷ []) (Eq (Field 0) (Lit (pos 8)) ∷ []) (stores 0 end)

-- step8(x[0:8])
abbrev steps : Block → Block
steps rest = next (Call 0 (Window 0 (Span (Lit (pos 0)) (Lit (pos 8)) ∷ []) ∷ [])) rest

abbrev pub stepping : Procedure
stepping = procedure (buffer 0 ∷ []) [] (sets (pos 8) (steps end))

abbrev pub stepping_unit : List Procedure
stepping_unit = step8 ∷ stepping ∷ []

write_before_is_refused :
    proposed (write_config stepping_unit Before 0 (ControlArg (Lit (pos 4)))) stepping (at 1)
    ≡ Not ConfigLive
write_before_is_refused = refl

abbrev pub stepping_then_sets : Procedure
stepping_then_sets = procedure (buffer 0 ∷ []) [] (sets (pos 8) (steps (sets (pos 4) end)))

pub write_behind_is_accepted :
    proposed (write_config stepping_unit Behind 0 (ControlArg (Lit (pos 4)))) stepping (at 1)
    ≡ Got (record { proc = stepping_then_sets; fields = 0 ∷ []; place = at 2; side = Behind })
write_behind_is_accepted = refl

-- a procedure of the text, and a version with a field
abbrev pub of_text : Origin
of_text = record { parent = None; place = []; side = Before; fields = [] }

abbrev made_at : ℕ → ℕ → Origin
made_at parent k = record {
  parent = Some parent;
  place = at k;
  side = Behind;
  fields = 0 ∷ [];
}

it_differs :
    differing (unit_of (step8 ∷ stepping ∷ stepping_then_sets ∷ []))
    (of_text ∷ of_text ∷ made_at 1 2 ∷ []) 2 1 ≡ 0 ∷ []
it_differs = refl

-- no statement there
no_gap :
    proposed (write_config stepping_unit Before 0 (ControlArg (Lit (pos 4)))) stepping (at 2)
    ≡ Not WrongShape
no_gap = refl

-- behind both statements the field is not live, and before the call it is
abbrev both : Opened
both = record { around = Here end; piece = stepping.body }

dead_behind : IsLiveAt stepping_unit 0 stepping.body (at 2) false
dead_behind = (live_beside stepping_unit 0 2 (at 0) stepping.body both refl).0

live_before_call : IsLiveAt stepping_unit 0 stepping.body (at 1) true
live_before_call =
    (live_beside stepping_unit 0 1 (at 1) stepping.body
    (record { around = After (Config 0 (ControlArg (Lit (pos 8)))) (Here end); piece = steps end })
    refl).1

-- ---- an argument is bound

-- for l in seq(0, n): x[l] = 5
abbrev pub fill_n : Procedure
fill_n =
    procedure (size 0 ∷ window 1 ∷ []) []
    (next (For (named 2 108) (Lit (pos 0)) (Var 0)
    (next (Assign 1 (Var 2 ∷ []) (Const (pos 5))) end)) end)

abbrev pub fills : List Procedure
fills = fill_n ∷ []

abbrev pub filling : Procedure
filling =
    procedure (buffer 0 ∷ []) [] (next (Call 0 (ControlArg (Lit (pos 4)) ∷ Whole 0 ∷ [])) end)

-- Cfg.w = 4, fill(Cfg.w, x)
abbrev pub filling_bound : Procedure
filling_bound =
    procedure (buffer 0 ∷ []) []
    (sets (pos 4) (next (Call 0 (ControlArg (Field 0) ∷ Whole 0 ∷ [])) end))

pub it_is_bound :
    proposed (bind_config fills (110 ∷ []) 0) filling (at 0)
    ≡ Got (record { proc = filling_bound; fields = 0 ∷ []; place = at 0; side = Behind })
it_is_bound = refl

bound_differs : fields_at_end fills filling_bound.body (at 0) Behind (0 ∷ []) ≡ 0 ∷ []
bound_differs = refl

-- the write cannot be left out then
bound_is_read : proposed (delete_config fills) filling_bound (at 0) ≡ Not ConfigLive
bound_is_read = refl

-- x is no control parameter, and no parameter is called m
no_control : proposed (bind_config fills (120 ∷ []) 0) filling (at 0) ≡ Not WrongShape
no_control = refl

no_parameter : proposed (bind_config fills (109 ∷ []) 0) filling (at 0) ≡ Not WrongShape
no_parameter = refl

-- what is bound reads no field
bound_once : proposed (bind_config fills (110 ∷ []) 0) filling_bound (at 1) ≡ Not WrongShape
bound_once = refl

-- ---- a write is left out, and put in before one

-- Cfg.w = 8, x[0] = 1
abbrev pub setting : Procedure
setting = procedure (buffer 0 ∷ []) [] (sets (pos 8) (stores 0 end))

abbrev pub storing : Procedure
storing = procedure (buffer 0 ∷ []) [] (stores 0 end)

pub it_is_left_out :
    proposed (delete_config fills) setting (at 0)
    ≡ Got (record { proc = storing; fields = 0 ∷ []; place = at 0; side = Before })
it_is_left_out = refl

left_out_differs : fields_at_end fills storing.body (at 0) Before (0 ∷ []) ≡ 0 ∷ []
left_out_differs = refl

abbrev pub set_twice : Procedure
set_twice = procedure (buffer 0 ∷ []) [] (sets (pos 4) (sets (pos 8) (stores 0 end)))

pub it_is_put_in :
    proposed (write_config fills Before 0 (ControlArg (Lit (pos 4)))) setting (at 0)
    ≡ Got (record { proc = set_twice; fields = 0 ∷ []; place = at 0; side = Behind })
it_is_put_in = refl

-- the field is surely written again
written_again : fields_at_end fills set_twice.body (at 0) Behind (0 ∷ []) ≡ []
written_again = refl

-- the last write, and the only statement
last_is_left_out :
    proposed (delete_config fills) (procedure (buffer 0 ∷ []) [] (stores 0 (sets (pos 8) end)))
    (at 1) ≡ Got (record { proc = storing; fields = 0 ∷ []; place = at 0; side = Behind })
last_is_left_out = refl

only_is_left_out :
    proposed (delete_config fills) (procedure [] [] (sets (pos 8) end)) (at 0)
    ≡ Got (record {
      proc = procedure [] [] (next Pass end);
      fields = 0 ∷ [];
      place = at 0;
      side = Before;
    })
only_is_left_out = refl

-- ---- steps without fields

-- for i in seq(0, n): Cfg.w = 8, x[i] = 0; then the write in a loop of its own, then alone
abbrev over : Block → Block → Block
over b rest = next (For (named 2 105) (Lit (pos 0)) (Var 0) b) rest

abbrev zeros : Block
zeros = next (Assign 1 (Var 2 ∷ []) (Const (pos 0))) end

abbrev looped : Block → Procedure
looped b = procedure (size 0 ∷ buffer 1 ∷ []) [] b

abbrev looping : List Procedure
looping =
    looped (over (sets (pos 8) zeros) end)
    ∷ looped (over (sets (pos 8) end) (over zeros end))
    ∷ looped (sets (pos 8) (over zeros end)) ∷ []

abbrev plainly_from : ℕ → Origin
plainly_from k = record { parent = Some k; place = []; side = Before; fields = [] }

nothing_differs :
    differing (unit_of looping) (of_text ∷ plainly_from 0 ∷ plainly_from 1 ∷ []) 2 0 ≡ []
nothing_differs = refl

-- ---- calls of versions

-- a procedure that sets the field, one made from it that does not, and another made from the first
abbrev pub quiet : Procedure
quiet = procedure [] [] (next Pass end)

abbrev pub loud : Procedure
loud = procedure [] [] (sets (pos 8) end)

abbrev pub calls_it : ℕ → Block → Procedure
calls_it k rest = procedure [] [] (next (Call k []) rest)

abbrev calling : Program
calling = unit_of (loud ∷ calls_it 0 end ∷ quiet ∷ loud ∷ calls_it 2 end ∷ [])

abbrev origins : List Origin
origins =
    of_text ∷ of_text
    ∷ record { parent = Some 0; place = at 0; side = Before; fields = 0 ∷ [] }
    ∷ plainly_from 0 ∷ plainly_from 1 ∷ []

version_is_called :
    proposed (call_eqv calling origins 2) (calls_it 0 end) (at 0)
    ≡ Got (record { proc = calls_it 2 end; fields = 0 ∷ []; place = at 0; side = Behind })
version_is_called = refl

-- the third is not made from the second
no_descendant :
    proposed (call_eqv calling origins 3) (calls_it 2 end) (at 0) ≡ Not NotDescendant
no_descendant = refl

-- a read of the field behind the call
asked_behind :
    proposed (call_eqv calling origins 2)
    (calls_it 0 (next (Config 0 (ControlArg (Field 0))) end)) (at 0) ≡ Not ConfigLive
asked_behind = refl
