-- Closed procedures, of which the laws speak: one with a field and a view, one with guards of each
-- form, one that calls another.
use Rattle.std.specs.Prelude.{Vec, IsAscii, nat_lt, codes, slice_get}
use Rattle.std.specs.Fmt.{digits}
use Rattle.std.specs.List.{list_all}
use Rattle.std.specs.declared.alloc.Global.{Global}
use Rattle.std.specs.declared.string.String.{String}
use Rattle.std.proofs.lemmas.Bool.Decides.{nat_tests}
use Rattle.std.proofs.lemmas.Str.{IsUtf8-from_ascii}
use Rattle.std.proofs.lemmas.Str.Ascii.{IsAscii-nil, IsAscii-cons}
use Rattle.std.proofs.Common.{◌≡◌, ◌<◌, ◌≤◌, ◌^◌, ℕ, pos, Bool, true, List, [], ◌∷◌, length, Option, Some, None}
use Rattle.std.proofs.Common.{Bor, refl, le_refl, arith}
use denote.RawPtr.{Ptr}
use Rattle.exo_tree.specs.declared.control.Cond as cond
use Rattle.exo_tree.specs.declared.control.Ctrl as ctrl
use Rattle.exo_tree.specs.Tree.{I32, Size, Index, Binder, Control, Lit, Var, Field, Add, Lt, Coord}
use Rattle.exo_tree.specs.Tree.{At, Span, Const, Read, ControlArg, Assign, Reduce, Config, If, For}
use Rattle.exo_tree.specs.Tree.{View, Call, Window, Block, end, next, Param, ControlParam}
use Rattle.exo_tree.specs.Tree.{TensorParam, WindowParam, Procedure}
use Rattle.exo_tree.specs.Tree.{Program}
use Rattle.exo_tree.specs.Places.{Main, Path}
use Rattle.exo_meaning.specs.Calls.{Callee}
use Rattle.exo_meaning.specs.Orders.{Each}
use Rattle.exo_meaning.specs.Run.{world_of, callee_in}
use Rattle.exo_meaning.specs.Units.{IsProcedure}
use Rattle.meaning_laws.proofs.Unmentioned.{unmentioned_law}
use Rattle.meaning_laws.proofs.WellFormed.{well_scoped}
use Rattle.affine_places.proofs.WellFormed.{well_formed_is_affine}
use Rattle.affine_forms.proofs.Values.{and_parts}
use Rattle.check_facts.specs.Contexts.{context_of}
use Rattle.exo_effects.specs.Fresh.{past_all, past_formula}
use Rattle.exo_effects.specs.Uses.{uses_at}
use Rattle.exo_effects.specs.PlainUses.{plain_uses}
use Rattle.exo_effects.specs.declared.access.Access.{Access}
use Rattle.exo_effects.specs.declared.access.Mode.{Mode}
use Rattle.exo_effects.specs.declared.access.Mode.TheVariants as mode
use Rattle.exo_effects.specs.declared.guards.Guard.{Guard}
use Rattle.exo_effects.specs.declared.guards.Guard.TheVariants as guard
use Rattle.exo_effects.proofs.LowProcedures.{well_formed_is_low}
use Rattle.exo_effects.proofs.LowUses.{uses_stay_low, passed_stays_low}
use Rattle.effect_conflicts.specs.Outcomes.{access_is_low}
use Rattle.effect_laws.proofs.OfBounds.LowAccesses.{accesses_low, arguments_low}
use Rattle.effect_laws.proofs.OfBounds.LowContexts.{context_low}
use Rattle.effect_laws.proofs.OfBounds.SmallUses.{IsSmall, uses_small}

-- ---- def f(N: size, A: i32[N, 4]): C.first = N, then for i in seq(0, N): if i < C.first: a store
-- into a row of A, by a view

abbrev named : ℕ → ℕ → Binder
named id letter = record { id = id; name = letter ∷ [] }

abbrev row_of : List Coord
row_of = At (Var 2) ∷ Span (Lit (pos 0)) (Lit (pos 4)) ∷ []

abbrev store : Block
store = next (View (named 3 114) 1 row_of) (next (Assign 3 (Lit (pos 1) ∷ []) (Const (pos 0))) end)

abbrev body : Block
body =
    next (Config 0 (ControlArg (Var 0)))
    (next (For (named 2 105) (Lit (pos 0)) (Var 0) (next (If (Lt (Var 2) (Field 0)) store end) end))
    end)

-- N: size, A: i32[N, 4]
abbrev params : List Param
params = record { binder = named 0 78; kind = ControlParam Size }
    ∷ record { binder = named 1 65; kind = TensorParam I32 (Var 0 ∷ Lit (pos 4) ∷ []) 0 }
    ∷ []

abbrev f : Procedure
f = record {
  name = 102 ∷ [];
  params = params;
  asserts = [];
  body = body;
  template = None;
}

abbrev unit : Program
unit = record {
  procedures = f ∷ [];
  fields = record { config = 67 ∷ []; name = 102 ∷ []; kind = Index } ∷ [];
  memories = [];
}

f_is_well_formed : IsProcedure (λ k. Some Index) 1 (λ k. None) f
f_is_well_formed = record {
  params = refl;
  asserts = refl;
  body = refl;
  filled = refl;
  ids = refl;
  distinct = refl;
  paths = refl;
  template = refl;
}

-- in the branch
abbrev inside : Path
inside = record { branch = Main; index = 1 } ∷ record { branch = Main; index = 0 }
    ∷ record { branch = Main; index = 0 } ∷ []

f_context_is_low : past_all past_formula (context_of unit f inside) ≤ 2 ^ 31
f_context_is_low =
    context_low well_scoped unmentioned_law well_formed_is_affine well_formed_is_low
    (λ k. Some Index) 1 (λ k. None) unit f inside f_is_well_formed

f_uses_are_small : Each (IsSmall 64) (uses_at unit f inside 2)
f_uses_are_small =
    uses_small (λ k. Some Index) 1 (λ k. None) unit f inside 2 f_is_well_formed

-- ---- def g(N: size, A: i32[N, 4]): for i in seq(0, N): if i < 2: A[i, 0] = 1, else:
-- A[i, 2] += A[i, 3]

abbrev cell : ℕ → List Control
cell k = Var 2 ∷ Lit (pos k) ∷ []

abbrev branches : Block
branches = next (If (Lt (Var 2) (Lit (pos 2))) (next (Assign 1 (cell 0) (Const (pos 1))) end)
    (next (Reduce 1 (cell 2) (Read 1 (cell 3))) end)) end

abbrev g : Procedure
g = record f {
  name = 103 ∷ [];
  body = next (For (named 2 105) (Lit (pos 0)) (Var 0) branches) end;
}

abbrev unit_of_g : Program
unit_of_g = record { procedures = g ∷ []; fields = []; memories = [] }

g_is_well_formed : IsProcedure (λ k. None) 1 (λ k. None) g
g_is_well_formed = record {
  params = refl;
  asserts = refl;
  body = refl;
  filled = refl;
  ids = refl;
  distinct = refl;
  paths = refl;
  template = refl;
}

abbrev the_loop : Path
the_loop = record { branch = Main; index = 0 } ∷ []

-- ---- def callee(x: [i32][4]): x[0] = 1, and def caller(N: size, A: i32[N, 4]):
-- for i in seq(0, N): callee(A[i, 0:4])

abbrev callee : Procedure
callee = record {
  name = 99 ∷ [];
  params = record { binder = named 0 120; kind = WindowParam I32 (Lit (pos 4) ∷ []) 0 } ∷ [];
  asserts = [];
  body = next (Assign 0 (Lit (pos 0) ∷ []) (Const (pos 1))) end;
  template = None;
}

abbrev caller : Procedure
caller = record f {
  name = 100 ∷ [];
  body = next (For (named 2 105) (Lit (pos 0)) (Var 0) (next (Call 0 (Window 1 row_of ∷ [])) end)) end;
}

abbrev unit_of_caller : Program
unit_of_caller = record { procedures = callee ∷ caller ∷ []; fields = []; memories = [] }

abbrev above : ℕ → Option Callee
above = slice_get (callee_in (world_of (λ k. Index) []) callee ∷ [])

caller_is_well_formed : IsProcedure (λ k. None) 1 above caller
caller_is_well_formed = record {
  params = refl;
  asserts = refl;
  body = refl;
  filled = refl;
  ids = refl;
  distinct = refl;
  paths = refl;
  template = refl;
}

abbrev the_call : Path
the_call = record { branch = Main; index = 0 } ∷ record { branch = Main; index = 0 } ∷ []

-- ---- the program's accesses of all, wherever their lists and references stand in memory

abbrev is_ascii : ℕ → Bool
is_ascii b = nat_lt b 128

ascii : (text : List ℕ) → list_all is_ascii text ≡ true → IsAscii text
ascii [] h = IsAscii-nil
ascii (b ∷ bs) h =
    let q = and_parts (is_ascii b) (list_all is_ascii bs) h in
    IsAscii-cons b bs (let low = q.0 in grind (arith, nat_tests)) (ascii bs q.1)

module _ (ptr : Ptr) (heap : Global) (address : ℕ × ℕ) where
  abbrev listed : {X : Type 0} → (items : List X) → length items < 2 ^ 63 → Vec X Global
  listed items few = record {
    ptr = ptr;
    len = length items;
    cap = length items;
    alloc = heap;
    items = items;
    ok = (refl, le_refl (length items));
    small = few;
  }

  abbrev spelled : (text : List ℕ) → list_all is_ascii text ≡ true → length text < 2 ^ 63 → String Global
  spelled text good few =
      record { bytes = listed text few; ok = ∣ IsUtf8-from_ascii text (ascii text good) ∣₁ }

  abbrev to : {X : Type 0} → X → Bor X
  to x = record { ref_ptr = address; now = x }

  abbrev f_accesses : List Access
  f_accesses = record {
    root = record { 0 = 1 };
    mode = mode.Write;
    coords = At (Add (Lit (pos 0)) (Var 2))
        ∷ At (Add (Add (Lit (pos 0)) (Lit (pos 0))) (Lit (pos 1))) ∷ [];
    guards = listed [] (omega arith);
    text = spelled (codes "r[1]") refl (omega arith);
  } ∷ []

  f_accesses_are_low : list_all access_is_low f_accesses ≡ true
  unfolding digits
  f_accesses_are_low =
      accesses_low well_formed_is_low uses_stay_low (λ k. Some Index) 1 (λ k. None) unit f inside 2
      f_accesses f_is_well_formed refl

  -- of a column of A, in the loop and one of its branches
  abbrev in_branch :
      Mode → ℕ → Guard → (text : List ℕ) → list_all is_ascii text ≡ true → length text < 2 ^ 63 → Access
  in_branch how column branch text good few = record {
    root = record { 0 = 1 };
    mode = how;
    coords = At (Add (Lit (pos 0)) (Var 2)) ∷ At (Add (Lit (pos 0)) (Lit (pos column))) ∷ [];
    guards = listed (guard.Loop (record { 0 = 2 }) (to (ctrl.Lit (pos 0))) (to (ctrl.Var (record { 0 = 0 })))
        ∷ branch ∷ []) (omega arith);
    text = spelled text good few;
  }

  abbrev below_2 : Bor cond.Cond
  below_2 = to (cond.Lt (ctrl.Var (record { 0 = 2 })) (ctrl.Lit (pos 2)))

  abbrev g_accesses : List Access
  g_accesses =
      in_branch mode.Write 0 (guard.Holds below_2) (codes "A[i, 0]") refl (omega arith)
      ∷ in_branch mode.Reduce 2 (guard.Fails below_2) (codes "A[i, 2]") refl (omega arith)
      ∷ in_branch mode.Read 3 (guard.Fails below_2) (codes "A[i, 3]") refl (omega arith)
      ∷ []

  g_accesses_are_its_uses : plain_uses g_accesses ≡ uses_at unit_of_g g the_loop 1
  unfolding digits
  g_accesses_are_its_uses = refl

  g_accesses_are_low : list_all access_is_low g_accesses ≡ true
  g_accesses_are_low =
      accesses_low well_formed_is_low uses_stay_low (λ k. None) 1 (λ k. None) unit_of_g g the_loop 1
      g_accesses g_is_well_formed g_accesses_are_its_uses

  -- the same by counting
  g_accesses_counted : list_all access_is_low g_accesses ≡ true
  g_accesses_counted = refl

  -- the row that the call passes
  abbrev passed : List Access
  passed = record {
    root = record { 0 = 1 };
    mode = mode.Write;
    coords = At (Add (Lit (pos 0)) (Var 2))
        ∷ Span (Add (Lit (pos 0)) (Lit (pos 0))) (Add (Lit (pos 0)) (Lit (pos 4))) ∷ [];
    guards = listed [] (omega arith);
    text = spelled (codes "A[i, 0:4]") refl (omega arith);
  } ∷ []

  passed_is_low : list_all access_is_low passed ≡ true
  unfolding digits
  passed_is_low =
      arguments_low well_formed_is_low passed_stays_low (λ k. None) 1 above unit_of_caller caller
      the_call 0 passed caller_is_well_formed refl
