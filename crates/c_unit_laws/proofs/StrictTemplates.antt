-- Templates that fault where a window is not dense do what their bodies say where these are called.
use Rattle.std.proofs.Common.{◌≡◌, ◌≤◌, ◌==◌, ℕ, zero, suc, ℤ, pos, Bool, true, false, ◌&&◌, ◌||◌, List, [], ◌∷◌, length, get_or, Option, Some, None, option_map, refl, sym, ap, ◌∙◌, subst, arith, true≢false, eqb-true, slice_get}
use Rattle.std.specs.Ordering.{int_eq}
use Rattle.std.specs.Int.{int_wrap}
use Rattle.std.specs.Prelude.{codes}
use Rattle.std.proofs.lemmas.Bool.{and_from, and_parts}
use Rattle.exo_tree.specs.Tree.{I32, Procedure}
use Rattle.exo_tree.specs.Calls.{calls}
use Rattle.exo_meaning.specs.Scene.{Scene, Side, Point, Range, extents, strides_of, stride_at}
use Rattle.exo_meaning.specs.State.{State}
use Rattle.exo_meaning.specs.Calls.{all_hold}
use Rattle.exo_meaning.specs.Run.{run}
use Rattle.c_tree.specs.Names.Words.{Name, is_word}
use Rattle.c_widths.specs.Few.{fewness_of}
use Rattle.c_unit_laws.specs.Follows.Machine.Machine.{Outcome, Thing, Machine, where_good}
use Rattle.c_unit_laws.specs.Follows.Machine.CRun.{Behaviour, run_file}
use Rattle.c_lowering.specs.Made.Lowered.{Naming, Forms, param_forms}
use Rattle.c_lowering.specs.Made.LoweredUnit.{Printing, lowered}
use Rattle.c_lowering.specs.Made.Examples.{load8, store8, copy8, vector_program}
use Rattle.c_unit_laws.specs.Follows.Simulation.{Follows, Ends, Layout, Matches, IsWindowName}
use Rattle.c_unit_laws.specs.Follows.Grounds.{world_above, bounds_in, plain_naming, plain_ground}
use Rattle.c_unit_laws.specs.Follows.Templates.{DoesItsBody, TemplatesDoTheirBodies}
use Rattle.c_unit_laws.proofs.OfFollows.Instance.{machine_of}
use Rattle.c_unit_laws.specs.Instance.{copy_printed}
use Rattle.c_unit_laws.specs.Runs.{machine, things, templates}
use Rattle.c_unit_laws.specs.StrictTemplates.{is_one, is_dense, strictly, strict, spread, run_of, StrictTemplatesRun}
use Rattle.c_unit_laws.proofs.Standing.{none_some, some_same}
use Rattle.c_unit_laws.proofs.Instance.{vectors_have_c}
use Rattle.c_unit_laws.proofs.Bodies.{bodies_are_templates}

-- ---- a window of one dimension whose stride is 1 is dense

strides_few : (sides : List Side) (ts : List ℤ) → length (strides_of sides ts) ≤ length (extents sides)
strides_few [] ts = omega arith
strides_few (Point p ∷ sides) [] = omega arith
strides_few (Range lo n ∷ sides) [] = omega arith
strides_few (Point p ∷ sides) (t ∷ ts) = strides_few sides ts
strides_few (Range lo n ∷ sides) (t ∷ ts) = let r = strides_few sides ts in omega (arith, r)

one_stride : (ts : List ℤ) → length ts ≤ 1 → int_eq (get_or ts 0 (pos 0)) (pos 1) ≡ true → is_one ts ≡ true
one_stride [] h e = absurd (true≢false (sym e))
one_stride (t ∷ []) h e = e
one_stride (t ∷ (u ∷ ts)) h e = absurd (omega (arith, h))

module _ (naming : Naming) (forms : Forms) (most : ℕ → ℕ) (layout : Layout) (scene : Scene) (names : Name → Option Thing) (x : ℕ) (w : IsWindowName naming forms most layout scene.control scene.buffers scene.views names x I32 1) where
  dense : (word : Name) → naming.binder x ≡ word → int_eq (stride_at scene (scene.views x) 0) (pos 1) ≡ true → is_dense (names word) ≡ true
  dense word is e =
      let strides = strides_of w.seen.sides w.shape.strides in
      let seen : stride_at scene (scene.views x) 0 ≡ get_or strides 0 (pos 0) =
      ap (λ o. stride_at scene o 0) w.view
      ∙ ap (λ o. get_or (elim o [ None ↦ [] | Some shape ↦ strides_of w.seen.sides shape.strides ]) 0 (pos 0)) w.buffer in
      ap (λ y. is_dense (names y)) (sym is)
      ∙ (ap is_dense w.name
      ∙ one_stride strides (subst (λ n. length strides ≤ n) w.rank_is (strides_few w.seen.sides w.shape.strides)) (ap (λ z. int_eq z (pos 1)) (sym seen) ∙ e))

-- ---- the two instructions

-- at a call's beginning its windows are dense
abbrev AreDense : ℕ → Procedure → Type 0
AreDense k p =
    (layout : Layout) (s : State) (m : Machine)
    → Matches (plain_ground vector_program copy_printed k p) (param_forms p.params) (bounds_in vector_program copy_printed k) (λ x. x) layout s m
    → all_hold s.scene p.asserts ≡ true
    → (is_dense (m.setting.names (codes "dst")) && is_dense (m.setting.names (codes "src"))) ≡ true

both_dense : (p : Procedure) (dst src : ℕ) (naming : Naming) (forms : Forms) (most : ℕ → ℕ) (layout : Layout) (scene : Scene) (names : Name → Option Thing) → naming.binder dst ≡ codes "dst" → naming.binder src ≡ codes "src" → IsWindowName naming forms most layout scene.control scene.buffers scene.views names dst I32 1 → IsWindowName naming forms most layout scene.control scene.buffers scene.views names src I32 1 → (int_eq (stride_at scene (scene.views src) 0) (pos 1) && (int_eq (stride_at scene (scene.views dst) 0) (pos 1) && true)) ≡ true → (is_dense (names (codes "dst")) && is_dense (names (codes "src"))) ≡ true
both_dense p dst src naming forms most layout scene names d e v w holds =
    let parts = and_parts (int_eq (stride_at scene (scene.views src) 0) (pos 1)) (int_eq (stride_at scene (scene.views dst) 0) (pos 1) && true) holds in
    let rest = and_parts (int_eq (stride_at scene (scene.views dst) 0) (pos 1)) true parts.1 in
    and_from (is_dense (names (codes "dst"))) (is_dense (names (codes "src"))) (dense naming forms most layout scene names dst v (codes "dst") d rest.0) (dense naming forms most layout scene names src w (codes "src") e parts.0)

load_dense : AreDense 0 load8
unfolding is_word
load_dense layout s m match holds = both_dense load8 0 1 (plain_naming vector_program copy_printed load8) (param_forms load8.params) (bounds_in vector_program copy_printed 0) layout s.scene m.setting.names refl refl (match.names 0) (match.names 1) holds

store_dense : AreDense 1 store8
unfolding is_word
store_dense layout s m match holds = both_dense store8 3 4 (plain_naming vector_program copy_printed store8) (param_forms store8.params) (bounds_in vector_program copy_printed 1) layout s.scene m.setting.names refl refl (match.names 3) (match.names 4) holds

all_dense : (k : ℕ) (p : Procedure) (text : List ℕ) → slice_get vector_program.procedures k ≡ Some p → p.template ≡ Some text → AreDense k p
all_dense zero p text e t = subst (AreDense 0) (some_same e) load_dense
all_dense (suc zero) p text e t = subst (AreDense 1) (some_same e) store_dense
all_dense (suc (suc zero)) p text e t = absurd (none_some (ap (λ q. q.template) (some_same e) ∙ t))
all_dense (suc (suc (suc k))) p text e t = absurd (none_there k e)
  where
    none_there : (j : ℕ) → slice_get {X = Procedure} [] j ≡ Some p → ⊥
    none_there zero d = none_some d
    none_there (suc j) d = none_some d

-- ---- so they do what their bodies say

strict_does : (k : ℕ) (p : Procedure) (f : Behaviour) → AreDense k p → DoesItsBody vector_program copy_printed k p f → DoesItsBody vector_program copy_printed k p (strictly f)
strict_does k p f dense body = record {
  formals = body.formals;
  follows = λ layout s m match holds.
      let g = plain_ground vector_program copy_printed k p in
      subst (λ b. Follows (fewness_of vector_program k s) (Ends g (param_forms p.params) layout s m) (run (world_above vector_program k) p.body s) (where_good b (f.run m)))
      (sym (dense layout s m match holds)) (body.follows layout s m match holds);
}

strict_ones_do : TemplatesDoTheirBodies vector_program copy_printed strict
strict_ones_do i k w caller p text there at_caller u at t =
    let body = bodies_are_templates vector_program copy_printed vectors_have_c.unit vectors_have_c.lowered i k w caller p text there at_caller u at t in
    (strictly body.0, ap (option_map strictly) body.1, strict_does k p body.0 (all_dense k p text at t) body.2)

abbrev ran : Outcome Machine
ran = run_file (lowered vector_program copy_printed) strict 0 things machine

pub strict_templates_run : StrictTemplatesRun
unfolding is_word int_wrap
strict_templates_run = record {
  does = strict_ones_do;
  body_is_done = (machine_of (run_of (templates 0) spread), refl);
  faults = refl;
  done = (machine_of ran, refl, refl);
}
