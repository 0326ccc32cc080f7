-- The laws at a place of a small procedure, in a run that computes.
use Rattle.std.proofs.Common.{◌≡◌, ℕ, zero, suc, pos, ◌==◌, ◌||◌, Bool, true, false, true≢false}
use Rattle.std.proofs.Common.{cond}
use Rattle.std.proofs.Common.{[], ◌∷◌, Option, Some, None, refl}
use Rattle.std.specs.Prelude.{codes}
use Rattle.exo_tree.specs.Tree.{Index, I32, Control, Lit, StrideOf, Add, Span, ControlArg, Config}
use Rattle.exo_tree.specs.Tree.{View}
use Rattle.exo_tree.specs.Tree.{Statement, Block, end, next, WindowParam, Procedure, Program}
use Rattle.exo_tree.specs.Context.{Context, Here, After}
use Rattle.exo_meaning.specs.Value.{Undefined}
use Rattle.exo_meaning.specs.Scene.{Shape, Seen, number, stride_at, whole}
use Rattle.exo_meaning.specs.State.{State}
use Rattle.exo_meaning.specs.Run.{step, kinds_of, program_world}
use Rattle.exo_meaning.specs.Inputs.{IsAdmissible, IsOfKind}
use Rattle.exo_meaning.specs.Units.{with_strides, field_kind, scope_of}
use Rattle.meaning_laws.specs.Sorted.{MayRun}
use Rattle.affine_forms.specs.Laws.{ReadsAt}
use Rattle.affine_places.specs.Laws.{stride_in}
use Rattle.match_laws.specs.Simplify.Simplified.{simplified, values_in}
use Rattle.match_laws.specs.Simplify.SameControls.{in_block, OfEach}
use Rattle.match_laws.specs.Simplify.SimplifiedBlocks.{standing, IsRead, simplified_block}
use Rattle.match_laws.proofs.OfSimplify.Simplified.{simplified_law}
use Rattle.match_laws.specs.Alike.{nameless}
use Rattle.call_laws.specs.Places.{IsThere, NamesSee, scope_in, reading_in}
use Rattle.call_laws.specs.Simplify.{simpler}
use Rattle.call_laws.proofs.Places.{places_stand}
use Rattle.call_laws.proofs.Entries.{entry_reads, reads_there}
use Rattle.call_laws.proofs.Each.{each_is_read}
use Rattle.call_laws.proofs.Nameless.{of_each_nameless}
use Rattle.call_laws.proofs.Simplest.{simplifies_all}

abbrev stride : Control
stride = Add (StrideOf 1 0) (Lit (pos 0))

-- def f(x: [i32][2]):
--     w = x[0:1]
--     Cfg.s = stride(w, 0) + 0
abbrev viewed : Statement
viewed = View (record { id = 1; name = codes "w" }) 0 (Span (Lit (pos 0)) (Lit (pos 1)) ∷ [])

abbrev write : Block
write = next (Config 0 (ControlArg stride)) end

abbrev f : Procedure
f = record {
  name = codes "f";
  params = record {
    binder = record { id = 0; name = codes "x" };
    kind = WindowParam I32 (Lit (pos 2) ∷ []) 0;
  } ∷ [];
  asserts = [];
  body = next viewed write;
  template = None;
}

abbrev unit : Program
unit = record {
  procedures = [];
  fields = record { config = codes "Cfg"; name = codes "s"; kind = Index } ∷ [];
  memories = record {
    name = codes "DRAM";
    ctype = [];
    lanes = 0;
    cell = None;
    stack = false;
    read = true;
    write = true;
    reduce = true;
    header = [];
  } ∷ [];
}

may : MayRun unit.fields 1 [] f
may = record {
  unit = tt;
  procedure = record {
    params = refl;
    asserts = refl;
    body = refl;
    filled = refl;
    ids = refl;
    distinct = refl;
    paths = refl;
    template = refl;
  };
}

-- ---- a run: x has two cells five apart, and more strides than dimensions

abbrev cells : Shape
cells = record { cell = I32; dims = pos 2 ∷ []; strides = pos 5 ∷ pos 9 ∷ [] }

abbrev seen : Seen
seen = record { buffer = 0; sides = whole (pos 2 ∷ []) }

abbrev input : State
input = record {
  scene = record {
    control = λ x. pos 0;
    buffers = λ x. cond (x == 0) (Some cells) None;
    views = λ x. cond (x == 0) (Some seen) None;
    fields = λ g. pos 7;
  };
  cells = λ b at. Undefined;
}

good : IsAdmissible (program_world unit) f input
good = record {
  arguments = ((pos 5 ∷ pos 9 ∷ [], (refl, refl)), tt);
  no_others = others;
  cells = λ b s e at. tt;
  tidy = λ b e at. refl;
  fields = kinds;
  asserts = refl;
}
  where
    kinds : (g : ℕ) → IsOfKind (kinds_of unit.fields g) (pos 7)
    kinds zero = tt
    kinds (suc g) = tt

    others : (x : ℕ) → ((x == 0) || false) ≡ false
        → (input.scene.control x ≡ pos 0) × (input.scene.buffers x ≡ None)
        × (input.scene.views x ≡ None)
    others x k = go (x == 0) k
      where
        go : (t : Bool) → (t || false) ≡ false
            → (pos 0 ≡ pos 0) × (cond t (Some cells) None ≡ None) × (cond t (Some seen) None ≡ None)
        go true k = absurd (true≢false k)
        go false k = (refl, refl, refl)

abbrev got : Option State → State
got None = input
got (Some t) = t

abbrev at_write : State
at_write = got (step (program_world unit) viewed input)

abbrev before : Context
before = After viewed (Here end)

there : IsThere unit f before write at_write
there = record {
  may = may;
  body = refl;
  first = input;
  good = good;
  comes = (at_write, refl, refl);
}

-- a buffer may have more strides than dimensions: behind these its own name has none
past_name : stride_at at_write.scene (at_write.scene.views 0) 1 ≡ pos 0
past_name = refl

past_buffer : stride_in at_write.scene 0 1 ≡ pos 9
past_buffer = refl

-- ---- the laws there

names_see : NamesSee f (scope_in f before) at_write.scene
names_see = places_stand unit f before write at_write there

reads : ReadsAt (standing at_write.scene) (values_in at_write.scene) (reading_in unit f)
    at_write.scene
reads = entry_reads unit f before write at_write there

is_read : IsRead (reading_in unit f) at_write.scene stride
is_read = reads_there unit f before write at_write with_strides stride there refl

each : OfEach (program_world unit) (IsRead (reading_in unit f)) write at_write
each = each_is_read unit f before write at_write there

each_nameless : OfEach (program_world unit) (IsRead (reading_in unit f)) (nameless write) at_write
each_nameless = of_each_nameless (program_world unit) (reading_in unit f) write at_write each

-- it is written as the stride of x, which is five
written : simplified (reading_in unit f) stride ≡ StrideOf 0 0
written = refl

five : number at_write.scene (simplified (reading_in unit f) stride) ≡ pos 5
five = refl

same_five : number at_write.scene (simplified (reading_in unit f) stride)
    ≡ number at_write.scene stride
same_five =
    simplified_law (standing at_write.scene) (reading_in unit f) at_write.scene stride is_read.0
    is_read.1

all_of_it : in_block (simpler (reading_in unit f)) f.body
    ≡ simplified_block (reading_in unit f) f.body
all_of_it =
    simplifies_all (field_kind unit.fields) 1 (program_world unit).callees (reading_in unit f)
    (scope_of [] f.params) (λ x. x) f.body refl
