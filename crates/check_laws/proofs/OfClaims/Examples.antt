-- The laws at two small units: `def set(n: size, x: [i8][n]): assert stride(x, 0) == 1; x[0] = 1` and
-- `def go(y: i8[16]): set(4, y[2:6])`; `def copy(a: [i8][2], b: [i8][2]): a[0] = b[0]` and
-- `def halves(x: i8[4]): copy(x[0:2], x[2:4])`.
use Rattle.std.proofs.Common.{◌≡◌, ℕ, zero, suc, ℤ, pos, ◌≤ℤ◌, int_le, int_lt, true, false, List, [], ◌∷◌, get_or, Option, Some, None, option_map, refl, sym, ap, ◌∙◌, subst, arith}
use Rattle.std.specs.Ordering.{int_eq}
use Rattle.std.proofs.lemmas.Int.{ints}
use Rattle.exo_tree.specs.Tree.{Binder, I8, Size, Lit, Var, StrideOf, Eq, Const, Read, Argument, ControlArg, Window, Span, Assign, Call, end, next, ParamKind, ControlParam, TensorParam, WindowParam, Procedure, MemoryKind, Program}
use Rattle.exo_meaning.specs.Scene.{Shape, Seen, Scene, then_do, narrowed, stride_at, strides_of, whole}
use Rattle.exo_meaning.specs.State.{State}
use Rattle.exo_meaning.specs.Calls.{Given, GivenView, given_apart, are_apart_at}
use Rattle.exo_meaning.specs.Run.{program_world}
use Rattle.exo_meaning.specs.Orders.{Each}
use Rattle.exo_meaning.specs.Units.{IsUnit}
use Rattle.check_claims.specs.Claims.{claims_of}
use Rattle.check_laws.specs.Claims.Holding.{ClaimHolds, ClaimsHold}
use Rattle.check_laws.specs.Claims.Laws.{NeverFaults, ClaimsSuffice}
use Rattle.check_laws.proofs.OfClaims.Basics.{none_some, some_injective}

abbrev letter : ℕ → ℕ → Binder
letter n c = record { id = n; name = c ∷ [] }

abbrev set : Procedure
set = record {
  name = 115 ∷ [];
  params = record { binder = letter 0 110; kind = ControlParam Size } ∷ record { binder = letter 1 120; kind = WindowParam I8 (Var 0 ∷ []) 0 } ∷ [];
  asserts = Eq (StrideOf 1 0) (Lit (pos 1)) ∷ [];
  body = next (Assign 1 (Lit (pos 0) ∷ []) (Const (pos 1))) end;
  template = None;
}

abbrev go : Procedure
go = record {
  name = 103 ∷ [];
  params = record { binder = letter 0 121; kind = TensorParam I8 (Lit (pos 16) ∷ []) 0 } ∷ [];
  asserts = [];
  body = next (Call 0 (ControlArg (Lit (pos 4)) ∷ Window 0 (Span (Lit (pos 2)) (Lit (pos 6)) ∷ []) ∷ [])) end;
  template = None;
}

abbrev plain_memory : MemoryKind
plain_memory = record { name = 68 ∷ []; ctype = []; lanes = 0; cell = None; stack = false; read = true; write = true; reduce = true; header = [] }

abbrev both : Program
both = record { procedures = set ∷ go ∷ []; fields = []; memories = plain_memory ∷ [] }

formed : IsUnit both
formed = record {
  procedures = (record { params = refl; asserts = refl; body = refl; filled = refl; ids = refl; distinct = refl; paths = refl; template = refl }, (record { params = refl; asserts = refl; body = refl; filled = refl; ids = refl; distinct = refl; paths = refl; template = refl }, tt));
  fields = refl;
  memories = refl;
  spaces = refl;
  counts = refl;
}

-- ---- the claims hold

above_zero : (n : ℤ) → pos 1 ≤ℤ n → int_lt (pos 0) n ≡ true
above_zero n h = grind (arith, ints)

at_least_one : (n : ℤ) → pos 1 ≤ℤ n → int_le (pos 1) n ≡ true
at_least_one n h = grind (arith, ints)

-- a tensor of 16 cells lies row by row
module _ (scene : Scene) (view : scene.views 0 ≡ Some (record { buffer = 0; sides = whole (pos 16 ∷ []) })) (buffer : scene.buffers 0 ≡ Some (record { cell = I8; dims = pos 16 ∷ []; strides = pos 1 ∷ [] })) where
  stride_is_one : int_eq (stride_at scene (scene.views 0) 0) (pos 1) ≡ true
  stride_is_one =
      ap (λ (o : Option Seen). int_eq (stride_at scene o 0) (pos 1)) view
      ∙ ap (λ (o : Option Shape). int_eq (get_or (elim o [ None ↦ [] | Some shape ↦ strides_of (whole (pos 16 ∷ [])) shape.strides ]) 0 (pos 0)) (pos 1)) buffer

claims_hold : (k : ℕ) → ClaimsHold both k
claims_hold zero p e = subst (λ q. Each (ClaimHolds (program_world both) q) (claims_of both q)) (some_injective set p e) (
  λ s good. at_least_one (s.scene.control 0) good.arguments.0.0,
  (
    λ s u good come. refl,
    (λ s u good come. subst (λ (z : State). int_lt (pos 0) (z.scene.control 0) ≡ true) (sym come) (above_zero (s.scene.control 0) good.arguments.0.0), tt),
  ),
)
claims_hold (suc zero) p e = subst (λ q. Each (ClaimHolds (program_world both) q) (claims_of both q)) (some_injective go p e) (
  λ s good. refl,
  (
    λ s u good come. refl,
    (
      λ s u good come. refl,
      (
        λ s u good come. refl,
        (
          λ s u good come. refl,
          (
            λ s u good come. refl,
            (λ s u good come. subst (λ (z : State). int_eq (stride_at z.scene (z.scene.views 0) 0) (pos 1) ≡ true) (sym come) (stride_is_one s.scene good.arguments.0.1 good.arguments.0.0), tt),
          ),
        ),
      ),
    ),
  ),
)
claims_hold (suc (suc k)) p e = absurd (none_some e)

-- so none of the two faults
never_faults : ClaimsSuffice → NeverFaults both 1
never_faults law = law both 1 formed (λ j way. claims_hold j)

-- ---- two halves of one buffer

abbrev pair_of_cells : ParamKind
pair_of_cells = WindowParam I8 (Lit (pos 2) ∷ []) 0

abbrev copy : Procedure
copy = record {
  name = 99 ∷ [];
  params = record { binder = letter 0 97; kind = pair_of_cells } ∷ record { binder = letter 1 98; kind = pair_of_cells } ∷ [];
  asserts = [];
  body = next (Assign 0 (Lit (pos 0) ∷ []) (Read 1 (Lit (pos 0) ∷ []))) end;
  template = None;
}

abbrev half : ℤ → ℤ → Argument
half lo hi = Window 0 (Span (Lit lo) (Lit hi) ∷ [])

abbrev passed : List Argument
passed = half (pos 0) (pos 2) ∷ half (pos 2) (pos 4) ∷ []

abbrev halves : Procedure
halves = record {
  name = 104 ∷ [];
  params = record { binder = letter 0 120; kind = TensorParam I8 (Lit (pos 4) ∷ []) 0 } ∷ [];
  asserts = [];
  body = next (Call 0 passed) end;
  template = None;
}

abbrev in_halves : Program
in_halves = record { procedures = copy ∷ halves ∷ []; fields = []; memories = plain_memory ∷ [] }

formed_halves : IsUnit in_halves
formed_halves = record {
  procedures = (record { params = refl; asserts = refl; body = refl; filled = refl; ids = refl; distinct = refl; paths = refl; template = refl }, (record { params = refl; asserts = refl; body = refl; filled = refl; ids = refl; distinct = refl; paths = refl; template = refl }, tt));
  fields = refl;
  memories = refl;
  spaces = refl;
  counts = refl;
}

-- the halves of a tensor have no cell in common
module _ (scene : Scene) (view : scene.views 0 ≡ Some (record { buffer = 0; sides = whole (pos 4 ∷ []) })) where
  abbrev half_of : ℤ → ℤ → Option Seen → Option Given
  half_of lo hi o = option_map GivenView (then_do o (λ seen. option_map (λ sides. record { buffer = seen.buffer; sides = sides }) (narrowed scene seen.sides (Span (Lit lo) (Lit hi) ∷ []))))

  halves_apart : are_apart_at scene passed 0 1 ≡ true
  halves_apart = ap (λ (o : Option Seen). elim (half_of (pos 0) (pos 2) o) [ None ↦ true | Some g ↦ elim (half_of (pos 2) (pos 4) o) [ None ↦ true | Some h ↦ given_apart g h ] ]) view

claims_hold_halves : (k : ℕ) → ClaimsHold in_halves k
claims_hold_halves zero p e = subst (λ q. Each (ClaimHolds (program_world in_halves) q) (claims_of in_halves q)) (some_injective copy p e) (
  λ s good. refl,
  (λ s good. refl, (λ s u good come. refl, (λ s u good come. refl, (λ s u good come. refl, (λ s u good come. refl, tt))))),
)
claims_hold_halves (suc zero) p e = subst (λ q. Each (ClaimHolds (program_world in_halves) q) (claims_of in_halves q)) (some_injective halves p e) (
  λ s good. refl,
  (
    λ s u good come. refl,
    (
      λ s u good come. refl,
      (
        λ s u good come. refl,
        (
          λ s u good come. refl,
          (
            λ s u good come. refl,
            (
              λ s u good come. refl,
              (
                λ s u good come. refl,
                (
                  λ s u good come. refl,
                  (λ s u good come. subst (λ (z : State). are_apart_at z.scene passed 0 1 ≡ true) (sym come) (halves_apart s.scene good.arguments.0.1), tt),
                ),
              ),
            ),
          ),
        ),
      ),
    ),
  ),
)
claims_hold_halves (suc (suc k)) p e = absurd (none_some e)

halves_never_fault : ClaimsSuffice → NeverFaults in_halves 1
halves_never_fault law = law in_halves 1 formed_halves (λ j way. claims_hold_halves j)
