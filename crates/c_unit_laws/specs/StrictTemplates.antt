-- A closed run of a file with templates that are not the bodies of their instructions: they fault
-- where a window is not dense, as intrinsics do other than the body there.
use Rattle.std.specs.Prelude.{◌≡◌, ℕ, ℤ, pos, Bool, true, false, ◌&&◌, if◌then◌else◌, List, [], ◌∷◌}
use Rattle.std.specs.Prelude.{codes, Option, Some, None, option_map, slice_get}
use Rattle.std.specs.Ordering.{int_eq}
use Rattle.exo_meaning.specs.Value.{Number}
use Rattle.c_unit_laws.specs.Follows.Machine.Machine.{Outcome, Done, Fault, where_good, Thing}
use Rattle.c_unit_laws.specs.Follows.Machine.Machine.{IsWindow, Object}
use Rattle.c_unit_laws.specs.Follows.Machine.Machine.{Machine, same_name}
use Rattle.c_unit_laws.specs.Follows.Machine.CRun.{Behaviour, run_file}
use Rattle.c_tree.specs.CTree.{Name}
use Rattle.c_lowering.specs.Made.LoweredUnit.{lowered}
use Rattle.c_lowering.specs.Made.Examples.{vector_program}
use Rattle.c_unit_laws.specs.Follows.Templates.{TemplatesDoTheirBodies}
use Rattle.c_unit_laws.specs.Instance.{copy_printed}
use Rattle.c_unit_laws.specs.Runs.{by_object, layout, object, machine, things, templates}

abbrev pub is_one : List ℤ → Bool
is_one [] = false
is_one (t ∷ []) = int_eq t (pos 1)
is_one (t ∷ (u ∷ ts)) = false

-- a window whose cells lie one step apart
abbrev pub is_dense : Option Thing → Bool
is_dense (Some (IsWindow p strides)) = is_one strides
is_dense held = false

-- where both windows are dense it does the same, and else it faults
abbrev pub strictly : Behaviour → Behaviour
strictly f = record f {
  run =
      λ m. where_good
      (is_dense (m.setting.names (codes "dst")) && is_dense (m.setting.names (codes "src")))
      (f.run m);
}

abbrev pub strict : ℕ → Option Behaviour
strict k = option_map strictly (templates k)

-- ---- a machine where they differ: src is every other cell of sixteen

abbrev pub windows : Name → Option Thing
windows x =
    if same_name x (codes "dst") then Some (IsWindow (layout 7) (pos 1 ∷ []))
    else (if same_name x (codes "src") then Some (IsWindow (layout 6) (pos 2 ∷ [])) else None)

abbrev pub sixteen : Object
sixteen = record object { size = pos 16 }

abbrev pub spread : Machine
spread = record machine {
  setting = record machine.setting {
    names = windows;
    objects = by_object (Some sixteen) (Some object) None;
  };
}

abbrev pub run_of : Option Behaviour → Machine → Outcome Machine
run_of None m = Fault
run_of (Some f) m = f.run m

-- They do what their bodies say wherever a call begins, though they are none: there are machines
-- where the body is done and they fault. The call of the function is done with them.
pub record StrictTemplatesRun : Type 0 where
  pub does : TemplatesDoTheirBodies vector_program copy_printed strict
  pub body_is_done : (n : Machine) × (run_of (templates 0) spread ≡ Done n)
  pub faults : run_of (strict 0) spread ≡ Fault
  pub done :
      (n : Machine)
      × (run_file (lowered vector_program copy_printed) strict 0 things machine ≡ Done n)
      × (n.contents 1 (pos 7) ≡ Number (pos 7))
