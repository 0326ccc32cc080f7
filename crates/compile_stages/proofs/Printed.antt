-- What is printed for a version does what the procedure of the text does from which it comes.
use Rattle.std.proofs.Common.{◌≡◌, ◌<◌, ◌==◌, ◌||◌, Bool, eq-eqb, ◌++◌, ◌∷◌, arith, ℕ, zero, suc, ℤ, List, [], length, slice_get, Option, Some, None, refl, sym}
use Rattle.std.proofs.Common.{ap, ◌∙◌, subst, true, false, true≢false}
use Rattle.std.specs.Prelude.{Contains}
use Rattle.std.specs.Option.{IsSome}
use Rattle.exo_tree.specs.Tree.{ConfigField, Procedure, Program}
use Rattle.exo_tree.specs.Named.{name_of}
use Rattle.exo_meaning.specs.Value.{Value, Undefined, Number, IsRefinedBy}
use Rattle.exo_meaning.specs.Scene.{Shape}
use Rattle.exo_meaning.specs.Calls.{all_hold}
use Rattle.exo_meaning.specs.State.{State}
use Rattle.exo_meaning.specs.Run.{kinds_of, program_world}
use Rattle.exo_meaning.specs.Inputs.{IsOfKind, IsAdmissible, IsValid, AreArguments, AreBounded}
use Rattle.exo_meaning.specs.Inputs.{is_buffer_of, Refines, run_procedure}
use Rattle.exo_meaning.specs.Units.{IsUnit}
use Rattle.meaning_laws.specs.Chain.{HasHead}
use Rattle.memory_kinds.specs.Faults.{fault_of}
use Rattle.c_unit_laws.specs.Follows.Machine.Machine.{Outcome, Done, Thing, Machine}
use Rattle.c_lowering.specs.Made.Lowered.{Naming}
use Rattle.c_lowering.specs.Made.LoweredUnit.{Printing, is_listed}
use Rattle.c_unit_laws.specs.Follows.Simulation.{Declared, Layout}
use Rattle.c_unit_laws.specs.Follows.Grounds.{naming_of, declared_in}
use Rattle.c_unit_laws.specs.Follows.Units.{AreLowered, LeavesTheSame, EndsWell}
use Rattle.c_unit_laws.specs.Laws.{FilesFollow}
use Rattle.c_unit_laws.specs.Stores.{FilesWithoutAllocationsAreDone}
use Rattle.unit_check.specs.Faults.{NothingFaults}
use Rattle.schedule_laws.specs.Versions.Versions.{Versions, version_at}
use Rattle.schedule_run.specs.Roots.{root_of}
use Rattle.schedule_run.specs.Laws.{AreVersionsOf, IsVersionOf, AreKept}
use Rattle.compile_stages.specs.Printings.{differing_from, printing_of, printings_of}
use Rattle.compile_stages.specs.Undeclared.{UndeclaredFieldsStay}
use Rattle.compile_stages.specs.Promise.{ComesFrom, LeavesSo, DoesWhat, IsPrinted}
use Rattle.compile_stages.proofs.Worlds.{same_runs}
use Rattle.compile_stages.proofs.Listing.{nothing_there, some_is, own_printing}

-- ---- inputs

-- what takes the same inputs has the same valid ones, in each program with these fields
module _ (text program : Program) (p q : Procedure) (fields : program.fields ≡ text.fields) (head : HasHead p q)
    (s : State) where
  kind_kept : (f : ℕ) → IsOfKind (kinds_of text.fields f) (s.scene.fields f)
      → IsOfKind (kinds_of program.fields f) (s.scene.fields f)
  kind_kept f h =
      subst (λ (fs : List ConfigField). IsOfKind (kinds_of fs f) (s.scene.fields f)) (sym fields) h

  admissible_too : IsAdmissible (program_world text) p s → IsAdmissible (program_world program) q s
  admissible_too good = record {
    arguments = subst (λ ps. AreArguments s.scene ps) head.0 good.arguments;
    no_others = λ x k. good.no_others x (ap (λ ps. is_buffer_of x ps) head.0 ∙ k);
    cells = good.cells;
    tidy = good.tidy;
    fields = λ f. kind_kept f (good.fields f);
    asserts = ap (λ cs. all_hold s.scene cs) (sym head.1) ∙ good.asserts;
  }

  valid_too : IsValid (program_world text) p s → IsValid (program_world program) q s
  valid_too good = record {
    admissible = admissible_too good.admissible;
    bounded = subst (λ ps. AreBounded s.scene ps) head.0 good.bounded;
    fields = good.fields;
    cells = good.cells;
    strides = good.strides;
    separate = good.separate;
    defined = good.defined;
  }

-- ---- what is left

refined_twice : (u v w : Value) → IsRefinedBy u v → IsRefinedBy v w → IsRefinedBy u w
refined_twice Undefined v w h k = tt
refined_twice (Number n) v w h k = subst (λ x. IsRefinedBy x w) (sym h) k

some_of : {A : Type 0} (o : Option A) → IsSome o → (a : A) × (o ≡ Some a)
some_of None h = absurd (true≢false (sym h))
some_of (Some a) h = (a, refl)

is_there : {A : Type 0} (o : Option A) (a : A) → o ≡ Some a → IsSome o
is_there o a h = subst IsSome (sym h) refl

-- what the C leaves of a version is so of what the version refines
module _ (naming : Naming) (declared : Declared) (but : List ℕ) (layout : Layout) (s t u : State) (m : Machine)
    (cells : (b : ℕ) → IsSome (s.scene.buffers b) → (at : List ℤ) → IsRefinedBy (t.cells b at) (u.cells b at))
    (fields : (f : ℕ) → (Contains but f → ⊥) → t.scene.fields f ≡ u.scene.fields f)
    (stay : (f : ℕ) → declared f ≡ false → u.scene.fields f ≡ s.scene.fields f) where
  so_left : (n : Machine) → LeavesTheSame naming declared layout s m u n
      → LeavesSo naming declared but layout s m t n
  so_left n h = record {
    cells = λ b shape there at inside.
        refined_twice (t.cells b at) (u.cells b at) _
        (cells b (is_there (s.scene.buffers b) shape there) at) (h.cells b shape there at inside);
    outside = h.outside;
    fields = λ f d k. h.fields f d ∙ sym (fields f k);
    untouched = λ f d k. fields f k ∙ stay f d;
  }

  ends_so : (few : Type 0) (o : Outcome Machine) → EndsWell few (LeavesTheSame naming declared layout s m u) o
      → EndsWell few (LeavesSo naming declared but layout s m t) o
  ends_so few o h = record {
    no_fault = h.no_fault;
    leaves = λ n e. so_left n (h.leaves n e);
    done = h.done;
  }

-- what is printed is listed
is_in : (what : List Printing) (at : ℕ) (w : Printing) → slice_get what at ≡ Some w
    → is_listed what w.proc ≡ true
is_in [] zero w e = absurd (nothing_there e)
is_in [] (suc at) w e = absurd (nothing_there e)
is_in (v ∷ what) zero w e =
    ap (λ (x : Printing). (x.proc == v.proc) || is_listed what x.proc) (sym (some_is e))
    ∙ ap (λ t. t || is_listed what v.proc) (eq-eqb v.proc v.proc refl)
is_in (v ∷ what) (suc at) w e = later (w.proc == v.proc) (is_listed what w.proc) (is_in what at w e)
  where
    later : (a b : Bool) → b ≡ true → (a || b) ≡ true
    later true b h = refl
    later false b h = h

-- ---- a version

-- there are so many of them
below : {A : Type 0} (xs : List A) (k : ℕ) (x : A) → slice_get xs k ≡ Some x → k < length xs
below [] zero x e = absurd (nothing_there e)
below [] (suc k) x e = absurd (nothing_there e)
below (y ∷ xs) zero x e = omega arith
below (y ∷ xs) (suc k) x e = let h = below xs k x e in omega (arith, h)

pub at_place : {A : Type 0} (xs : List A) (k : ℕ) → k < length xs → (x : A) × (slice_get xs k ≡ Some x)
at_place [] k h = absurd (omega (arith, h))
at_place (x ∷ xs) zero h = (x, refl)
at_place (x ∷ xs) (suc k) h = at_place xs k (omega (arith, h))

in_front : {A : Type 0} (xs ys : List A) (k : ℕ) → k < length xs → slice_get (xs ++ ys) k ≡ slice_get xs k
in_front [] ys k h = absurd (omega (arith, h))
in_front (x ∷ xs) ys zero h = refl
in_front (x ∷ xs) ys (suc k) h = in_front xs ys k (omega (arith, h))

-- each version comes from the procedure of the text at its root
module _ (text : Program) (v : Versions) (kept : AreKept text v) (k : ℕ) (q : Procedure)
    (there : version_at v k ≡ Some q) where
  abbrev from : ℕ
  from = root_of v k

  inside : k < length v.unit.procedures
  inside = below v.unit.procedures k q there

  pub origin : (p : Procedure) × (slice_get text.procedures from ≡ Some p)
  origin = at_place text.procedures from (kept.versions.root k inside)

  abbrev pub origin_of : Procedure
  origin_of = origin.0

  first : version_at v from ≡ Some origin.0
  first =
      ap (λ ps. slice_get ps from) kept.versions.grown
      ∙ (in_front text.procedures kept.versions.made from (kept.versions.root k inside) ∙ origin.1)

  is_version : IsVersionOf v from k origin.0 q
  is_version = record { descends = kept.versions.from_root k inside; old = first; new = there }

  pub comes_from : ComesFrom text v k origin_of q
  comes_from = record {
    from = from;
    in_text = origin.1;
    first = first;
    there = there;
    derives = is_version.descends;
    head = kept.heads from k origin.0 q is_version;
    refines = kept.refines from k origin.0 q is_version;
  }

-- ---- what is printed

-- the laws on the C of files
pub record FileLaws : Type 0 where
  pub follow : FilesFollow
  pub done : FilesWithoutAllocationsAreDone

module _ (text : Program) (v : Versions) (formed : IsUnit text) (safe : NothingFaults text)
    (kept : AreKept text v) (laws : FileLaws) (undeclared : UndeclaredFieldsStay)
    (lowers : AreLowered fault_of v.unit (printings_of v)) where
  abbrev what : List Printing
  what = printings_of v

  version_does : (at : ℕ) (w : Printing) (q : Procedure) → slice_get what at ≡ Some w
      → version_at v w.proc ≡ Some q → (p : Procedure) (c : ComesFrom text v w.proc p q)
      → DoesWhat text v.unit what at w.proc (differing_from v w.proc c.from) p q
  version_does at w q here there p c templates layout s things m filled valid input =
      let ends = some_of (run_procedure (program_world text) p s) (safe c.from p c.in_text s valid.admissible) in
      let first = admissible_too text v.unit p p kept.versions.fields (refl, refl) s valid.admissible in
      let also = valid_too text v.unit p q kept.versions.fields c.head s valid in
      let more = some_of (run_procedure (program_world v.unit) q s)
      (kept.derived.quiet w.proc q there s also.admissible) in
      let runs = same_runs text v.unit kept.versions.made formed kept.versions.grown kept.versions.fields
      c.from p c.in_text s ∙ ends.1 in
      let follows = laws.follow v.unit what at w q layout templates s more.0 things m kept.derived.formed
      lowers here there filled also input more.1 in
      let cells = c.refines.cells s ends.0 more.0 first runs more.1 in
      let fields = c.refines.fields s ends.0 more.0 first runs more.1 in
      let stay : (f : ℕ) → declared_in v.unit what f ≡ false → more.0.scene.fields f ≡ s.scene.fields f =
      λ f out. undeclared v.unit what w.proc q f s more.0 kept.derived.formed there
      (is_in what at w here) out more.1 in
      let but = differing_from v w.proc c.from in
      let naming = naming_of v.unit what q in
      let declared = declared_in v.unit what in (
        ends.0,
        ends.1,
        (
          ends_so naming declared but layout s ends.0 more.0 m cells fields stay _ _ follows,
          λ none.
              let done = laws.done v.unit what at w q layout templates s more.0 things m
              kept.derived.formed lowers here there none filled also input more.1 in
              (done.0, done.1, so_left naming declared but layout s ends.0 more.0 m cells fields stay done.0 done.2),
        ),
      )

  pub each_printed : (at : ℕ) (w : Printing) → slice_get what at ≡ Some w → IsPrinted text v what at w
  unfolding comes_from
  each_printed at w here =
      let there = lowers.listing.there at w here in
      let q = there.0 in
      let c = comes_from text v kept w.proc q there.1 in
      let own = own_printing v at w here in
      let fields = ap (λ (z : Printing). z.fields) own in
      record {
        version = q;
        origin = origin_of text v kept w.proc q there.1;
        comes = c;
        origin_named = ap (λ (z : Printing). z.origin) own ∙ ap name_of c.first;
        fields = fields;
        kept =
            subst (λ but. DoesWhat text v.unit what at w.proc but (origin_of text v kept w.proc q there.1) q)
            (sym fields) (version_does at w q here there.1 (origin_of text v kept w.proc q there.1) c);
      }
