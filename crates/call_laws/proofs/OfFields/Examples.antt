-- The rules on closed procedures.
use Rattle.std.proofs.Common.{◌≡◌, ℕ, ℤ, pos, true, false, List, [], ◌∷◌, ◌++◌, None, Some, refl}
use Rattle.std.proofs.Math.Nat.{not-suc-le-zero}
use Rattle.std.specs.Prelude.{codes, length}
use Rattle.exo_tree.specs.Tree.{Binder, I32, Kind, Size, Truth, Lit, Var, Field, StrideOf, Eq, True}
use Rattle.exo_tree.specs.Tree.{Argument, ControlArg, ConditionArg, Whole, Window, Span, Condition}
use Rattle.exo_tree.specs.Tree.{Assign, Const, Config, Pass, For, Alloc, Call, Block, end, next}
use Rattle.exo_tree.specs.Tree.{Param, ControlParam, TensorParam, WindowParam, Procedure, MemoryKind, ConfigField}
use Rattle.exo_tree.specs.Places.{Path}
use Rattle.exo_meaning.specs.Inputs.{Refines}
use Rattle.exo_meaning.specs.Run.{program_world}
use Rattle.config_laws.specs.FieldRule as config
use Rattle.config_laws.specs.Differing.{Origin}
use Rattle.config_laws.proofs.Derived.{no_versions}
use Rattle.cursor_forward.specs.Causes.{WrongShape, OutOfScope, ConfigLive, NotDescendant}
use Rattle.tree_edits.specs.Made.Names.{named_copies}
use Rattle.cursor_forward.specs.Cursors.{Side, Before, After}
use Rattle.cursor_forward.specs.Proposals.{Plan}
use Rattle.cursor_forward.specs.Forwards.{Forwards}
use Rattle.cursor_forward.specs.Shifts.{Edits, edits_of, at_index, move_of}
use Rattle.step_rules.specs.Rule.{Tried, Got, Not, Target, Rule}
use Rattle.step_rules.specs.Answer.{proposed}
use Rattle.step_rules.specs.Lawful.{IsTarget, differ_at_end}
use Rattle.step_rules.specs.Laws.{MeaningLaw, ForwardsLaw}
use Rattle.step_rules.specs.Owing.{AreShown}
use Rattle.call_laws.specs.Fields.FieldRules.{moved_to, write_rule, delete_rule, bind_rule}
use Rattle.call_laws.specs.Fields.FieldRules.{version_rule}
use Rattle.call_laws.proofs.OfFields.Rules.{write_is_lawful, delete_is_lawful, bind_is_lawful}
use Rattle.call_laws.proofs.OfFields.Rules.{bind_is_carrying}

abbrev named : ℕ → List ℕ → Binder
named n name = record { id = n; name = name }

-- x: i32[8], or a window
abbrev buffer : ℕ → Param
buffer n = record { binder = named n (codes "x"); kind = TensorParam I32 (Lit (pos 8) ∷ []) 0 }

abbrev window : ℕ → Param
window n = record { binder = named n (codes "x"); kind = WindowParam I32 (Lit (pos 8) ∷ []) 0 }

abbrev size : ℕ → Param
size n = record { binder = named n (codes "n"); kind = ControlParam Size }

abbrev plain_cells : MemoryKind
plain_cells = record {
  name = codes "DRAM";
  ctype = [];
  lanes = 0;
  cell = None;
  stack = false;
  read = true;
  write = true;
  reduce = true;
  header = [];
}

abbrev procedure : List ℕ → List Param → List Condition → Block → Procedure
procedure name params asserts body = record {
  name = name;
  params = params;
  asserts = asserts;
  body = body;
  template = None;
}

-- Cfg.w: size, Cfg.on: bool
abbrev field : List ℕ → Kind → ConfigField
field name kind = record { config = codes "Cfg"; name = name; kind = kind }

abbrev target_from : List Origin → List Procedure → Procedure → Target
target_from origins above p = record {
  unit = record {
    procedures = above ++ p ∷ [];
    fields = field (codes "w") Size ∷ field (codes "on") Truth ∷ [];
    memories = plain_cells ∷ [];
  };
  origins = origins;
  number = length above;
  proc = p;
}

abbrev target_of : List Procedure → Procedure → Target
target_of above p = target_from [] above p

-- the body, the fields that differ at the end, and the point
record Told : Type 0 where
  body : Block
  differs : List ℕ
  place : Path
  side : Side

abbrev told_of : Target → Tried Plan → Tried Told
told_of t (Got m) = Got (record {
  body = m.proc.body;
  differs = differ_at_end t m.proc.body m.place m.side m.fields;
  place = m.place;
  side = m.side;
})
told_of t (Not cause) = Not cause

abbrev makes : Rule → Target → ℕ → Tried Told
makes r t k = told_of t (proposed r t (at_index k))

abbrev sets : ℕ → Argument → Block → Block
sets f e rest = next (Config f e) rest

abbrev number : ℤ → Argument
number n = ControlArg (Lit n)

-- x[0] = 1
abbrev stores : ℕ → Block → Block
stores x rest = next (Assign x (Lit (pos 0) ∷ []) (Const (pos 1))) rest

-- ---- a write before and behind a call that asserts the field

-- assert Cfg.w == 8
abbrev step8 : Procedure
step8 = procedure (codes "step8") (window 0 ∷ []) (Eq (Field 0) (Lit (pos 8)) ∷ []) (stores 0 end)

-- step8(x[0:8])
abbrev steps : Block → Block
steps rest = next (Call 0 (Window 0 (Span (Lit (pos 0)) (Lit (pos 8)) ∷ []) ∷ [])) rest

abbrev stepping : Target
stepping = target_of (step8 ∷ []) (procedure (codes "g") (buffer 0 ∷ []) [] (sets 0 (number (pos 8)) (steps end)))

before_is_refused : makes (write_rule config.Before 0 (number (pos 4))) stepping 1 ≡ Not ConfigLive
before_is_refused = refl

behind_is_accepted :
    makes (write_rule config.Behind 0 (number (pos 4))) stepping 1
    ≡ Got (record {
      body = sets 0 (number (pos 8)) (steps (sets 0 (number (pos 4)) end));
      differs = 0 ∷ [];
      place = at_index 2;
      side = After;
    })
behind_is_accepted = refl

-- a field of kind bool is live nowhere, but a number is no condition
another_kind : makes (write_rule config.Before 1 (number (pos 4))) stepping 1 ≡ Not WrongShape
another_kind = refl

a_condition :
    makes (write_rule config.Before 1 (ConditionArg True)) stepping 1
    ≡ Got (record {
      body = sets 0 (number (pos 8)) (sets 1 (ConditionArg True) (steps end));
      differs = 1 ∷ [];
      place = at_index 1;
      side = After;
    })
a_condition = refl

-- the shape and the names come before the field
unknown_field : makes (write_rule config.Before 2 (number (pos 4))) stepping 1 ≡ Not WrongShape
unknown_field = refl

reads_a_field : makes (write_rule config.Before 0 (ControlArg (Field 0))) stepping 1 ≡ Not WrongShape
reads_a_field = refl

not_in_scope : makes (write_rule config.Before 0 (ControlArg (Var 7))) stepping 1 ≡ Not OutOfScope
not_in_scope = refl

a_stride :
    makes (write_rule config.Behind 0 (ControlArg (StrideOf 0 0))) stepping 1
    ≡ Got (record {
      body = sets 0 (number (pos 8)) (steps (sets 0 (ControlArg (StrideOf 0 0)) end));
      differs = 0 ∷ [];
      place = at_index 2;
      side = After;
    })
a_stride = refl

no_gap : makes (write_rule config.Before 0 (number (pos 4))) stepping 2 ≡ Not WrongShape
no_gap = refl

-- the write that is read cannot go
read_behind : makes delete_rule stepping 0 ≡ Not ConfigLive
read_behind = refl

no_write : makes delete_rule stepping 1 ≡ Not WrongShape
no_write = refl

-- ---- an argument is bound

-- for l in seq(0, n): x[l] = 5
abbrev fill_n : Procedure
fill_n =
    procedure (codes "fill") (size 0 ∷ window 1 ∷ []) []
    (next (For (named 2 (codes "l")) (Lit (pos 0)) (Var 0)
    (next (Assign 1 (Var 2 ∷ []) (Const (pos 5))) end)) end)

abbrev fills : Argument → Block → Block
fills n rest = next (Call 0 (n ∷ Whole 0 ∷ [])) rest

abbrev filling : Target
filling = target_of (fill_n ∷ []) (procedure (codes "g") (buffer 0 ∷ []) [] (fills (number (pos 4)) end))

abbrev bound : Block
bound = sets 0 (number (pos 4)) (fills (ControlArg (Field 0)) end)

it_is_bound :
    makes (bind_rule (codes "n") 0) filling 0
    ≡ Got (record { body = bound; differs = 0 ∷ []; place = at_index 0; side = After })
it_is_bound = refl

-- the call goes behind the write
abbrev call_goes : Tried Path
call_goes = elim (proposed (bind_rule (codes "n") 0) filling (at_index 0)) [
  | Got m ↦ elim (move_of m.edits (at_index 0)) [ None ↦ Not WrongShape | Some to ↦ Got to ]
  | Not cause ↦ Not cause
]

it_goes : call_goes ≡ Got (at_index 1)
it_goes = refl

-- the write is read then, and its argument reads the field
abbrev filling_bound : Target
filling_bound = target_of (fill_n ∷ []) (procedure (codes "g") (buffer 0 ∷ []) [] bound)

bound_is_read : makes delete_rule filling_bound 0 ≡ Not ConfigLive
bound_is_read = refl

not_twice : makes (bind_rule (codes "n") 0) filling_bound 1 ≡ Not WrongShape
not_twice = refl

no_control : makes (bind_rule (codes "x") 0) filling 0 ≡ Not WrongShape
no_control = refl

no_parameter : makes (bind_rule (codes "m") 0) filling 0 ≡ Not WrongShape
no_parameter = refl

-- a size is no bool
no_flag : makes (bind_rule (codes "n") 1) filling 0 ≡ Not WrongShape
no_flag = refl

no_call : makes (bind_rule (codes "n") 0) filling_bound 0 ≡ Not WrongShape
no_call = refl

-- ---- a write goes, or is written again

abbrev writing : Target
writing = target_of [] (procedure (codes "g") (buffer 0 ∷ []) [] (sets 0 (number (pos 8)) (stores 0 end)))

it_goes_out :
    makes delete_rule writing 0
    ≡ Got (record { body = stores 0 end; differs = 0 ∷ []; place = at_index 0; side = Before })
it_goes_out = refl

written_again :
    makes (write_rule config.Before 0 (number (pos 4))) writing 0
    ≡ Got (record {
      body = sets 0 (number (pos 4)) (sets 0 (number (pos 8)) (stores 0 end));
      differs = [];
      place = at_index 0;
      side = After;
    })
written_again = refl

-- a lone write leaves a `pass`, a last one the point behind what stood before
abbrev lone : Target
lone = target_of [] (procedure (codes "g") (buffer 0 ∷ []) [] (sets 0 (number (pos 8)) end))

pass_is_left :
    makes delete_rule lone 0
    ≡ Got (record { body = next Pass end; differs = 0 ∷ []; place = at_index 0; side = Before })
pass_is_left = refl

abbrev last : Target
last = target_of [] (procedure (codes "g") (buffer 0 ∷ []) [] (stores 0 (sets 0 (number (pos 8)) end)))

last_goes_out :
    makes delete_rule last 1
    ≡ Got (record { body = stores 0 end; differs = 0 ∷ []; place = at_index 0; side = After })
last_goes_out = refl

-- ---- a version is called

abbrev of_text : Origin
of_text = record { parent = None; place = []; side = config.Before; fields = [] }

abbrev made_from : ℕ → Origin
made_from parent = record { parent = Some parent; place = []; side = config.Before; fields = [] }

-- behind its second statement it leaves another number in Cfg.w
abbrev made_with_write : ℕ → Origin
made_with_write parent = record {
  parent = Some parent;
  place = at_index 1;
  side = config.Behind;
  fields = 0 ∷ [];
}

abbrev calls : ℕ → Block → Block
calls k rest = next (Call k (Window 0 (Span (Lit (pos 0)) (Lit (pos 8)) ∷ []) ∷ [])) rest

-- step8, mark, a version of mark with a write, one without
abbrev marks : List ℕ → Block → Procedure
marks name rest = procedure name (window 0 ∷ []) [] (stores 0 rest)

abbrev calling : Block → Target
calling body =
    target_from (of_text ∷ of_text ∷ made_with_write 1 ∷ made_from 1 ∷ of_text ∷ [])
    (step8 ∷ marks (codes "mark") end ∷ marks (codes "m2") (sets 0 (number (pos 4)) end)
    ∷ marks (codes "m3") end ∷ [])
    (procedure (codes "g") (buffer 0 ∷ []) [] body)

abbrev calls_for : Block → ℕ → List ℕ → Tried Told
calls_for body k differs =
    Got (record { body = body; differs = differs; place = at_index k; side = After })

its_own : makes (version_rule 1) (calling (calls 1 end)) 0 ≡ calls_for (calls 1 end) 0 []
its_own = refl

its_version : makes (version_rule 3) (calling (calls 1 end)) 0 ≡ calls_for (calls 3 end) 0 []
its_version = refl

it_differs : makes (version_rule 2) (calling (calls 1 end)) 0 ≡ calls_for (calls 2 end) 0 (0 ∷ [])
it_differs = refl

it_is_written_again :
    makes (version_rule 2) (calling (calls 1 (sets 0 (number (pos 8)) end))) 0
    ≡ calls_for (calls 2 (sets 0 (number (pos 8)) end)) 0 []
it_is_written_again = refl

it_is_live :
    makes (version_rule 2) (calling (sets 0 (number (pos 8)) (calls 1 (calls 0 end)))) 1
    ≡ Not ConfigLive
it_is_live = refl

-- neither from what it was made from nor from a sister
no_descendant : makes (version_rule 1) (calling (calls 3 end)) 0 ≡ Not NotDescendant
no_descendant = refl

no_sister : makes (version_rule 2) (calling (calls 3 end)) 0 ≡ Not NotDescendant
no_sister = refl

no_call_there : makes (version_rule 2) (calling (sets 0 (number (pos 8)) end)) 0 ≡ Not WrongShape
no_call_there = refl

-- ---- names of copies

abbrev cell : ℕ → List ℕ → Block → Block
cell n name rest = next (Alloc (named n name) I32 [] 0) rest

-- where an id is bound twice a name changes, though nothing is a copy
a_name_changes :
    named_copies lone.proc 9 (cell 1 (codes "a") (cell 1 (codes "b") end))
    ≡ cell 1 (codes "a") (cell 1 (codes "a") end)
a_name_changes = refl

-- ---- the laws where all that they ask is met

abbrev planned : Target → Block → Edits → Path → Side → Plan
planned t body edits place side = record {
  proc = record t.proc { body = body };
  must = [];
  edits = edits;
  fields = 0 ∷ [];
  place = place;
  side = side;
}

none_owed : AreShown []
none_owed k d less = absurd (not-suc-le-zero less)

writing_is_target : IsTarget writing
writing_is_target = record {
  unit = record {
    procedures = (
      record {
        params = refl;
        asserts = refl;
        body = refl;
        filled = refl;
        ids = refl;
        distinct = refl;
        paths = refl;
        template = refl;
      },
      tt,
    );
    fields = refl;
    memories = refl;
    spaces = refl;
    counts = refl;
  };
  there = refl;
  ids = refl;
}

filling_is_target : IsTarget filling
filling_is_target = record {
  unit = record {
    procedures = (
      record {
        params = refl;
        asserts = refl;
        body = refl;
        filled = refl;
        ids = refl;
        distinct = refl;
        paths = refl;
        template = refl;
      },
      (
        record {
          params = refl;
          asserts = refl;
          body = refl;
          filled = refl;
          ids = refl;
          distinct = refl;
          paths = refl;
          template = refl;
        },
        tt,
      ),
    );
    fields = refl;
    memories = refl;
    spaces = refl;
    counts = refl;
  };
  there = refl;
  ids = refl;
}

-- the field is written again, so none differs
abbrev put_in : Plan
put_in =
    planned writing (sets 0 (number (pos 4)) (sets 0 (number (pos 8)) (stores 0 end)))
    (edits_of (at_index 0) 0 1 []) (at_index 0) After

write_refines : MeaningLaw → Refines (program_world writing.unit) writing.proc put_in.proc []
write_refines law =
    law (write_rule config.Before 0 (number (pos 4))) writing (at_index 0) put_in
    (write_is_lawful config.Before 0 (number (pos 4))) writing_is_target
    (no_versions writing.unit) refl none_owed

abbrev left_out : Plan
left_out = planned writing (stores 0 end) (edits_of (at_index 0) 1 0 []) (at_index 0) Before

delete_refines : MeaningLaw
    → Refines (program_world writing.unit) writing.proc left_out.proc (0 ∷ [])
delete_refines law =
    law delete_rule writing (at_index 0) left_out delete_is_lawful writing_is_target
    (no_versions writing.unit) refl none_owed

abbrev bound_plan : Plan
bound_plan = planned filling bound (edits_of (at_index 0) 1 2 (moved_to (Some 1))) (at_index 0) After

bind_refines : MeaningLaw
    → Refines (program_world filling.unit) filling.proc bound_plan.proc (0 ∷ [])
bind_refines law =
    law (bind_rule (codes "n") 0) filling (at_index 0) bound_plan (bind_is_lawful (codes "n") 0)
    filling_is_target (no_versions filling.unit) refl none_owed

bind_forwards : ForwardsLaw → Forwards (move_of bound_plan.edits) filling.proc bound_plan.proc
bind_forwards law =
    law (bind_rule (codes "n") 0) filling (at_index 0) bound_plan (bind_is_carrying (codes "n") 0)
    filling_is_target refl
