-- The functions of a file are followed.
use Rattle.std.proofs.Common.{◌≡◌, ◌<◌, ◌==◌, ℕ, zero, suc, nat_lt, Bool, true, false, ◌||◌, List, [], ◌∷◌, length, Option, Some, None, refl, sym, ap, ◌∙◌, subst, arith, true≢false, eqb-true, eq-eqb, slice_get}
use Rattle.std.specs.Prelude.{option_map}
use Rattle.exo_tree.specs.Tree.{Procedure, Program}
use Rattle.exo_tree.specs.Calls.{calls}
use Rattle.exo_tree.specs.Named.{name_of}
use Rattle.exo_meaning.specs.State.{State}
use Rattle.exo_meaning.specs.Calls.{Callee}
use Rattle.exo_meaning.specs.Run.{kinds_of}
use Rattle.exo_meaning.specs.Units.{IsUnit}
use Rattle.memory_kinds.specs.Faults.{fault_of}
use Rattle.c_tree.specs.Names.Words.{Name, same_name, is_in}
use Rattle.c_widths.specs.Few.{Fewness, fewness_of}
use Rattle.c_unit_laws.specs.Follows.Machine.CRun.{Behaviour, CWorld, globals_of, file_world}
use Rattle.c_lowering.specs.Made.Lowered.{param_forms}
use Rattle.c_lowering.specs.Made.LoweredUnit.{Printing, holes_of, routine_of, function_of}
use Rattle.c_lowering.specs.Made.LoweredUnit.{function_at, functions_of, is_listed, counts}
use Rattle.c_lowering.specs.Made.LoweredUnit.{printed_names, global_names, lowered}
use Rattle.c_unit_laws.specs.Follows.Good.{is_function}
use Rattle.c_unit_laws.specs.Follows.Calls.{called_in, IsFollowed}
use Rattle.c_unit_laws.specs.Follows.Templates.{DoesItsBody, TemplatesDoTheirBodies}
use Rattle.c_unit_laws.specs.Follows.Functions.{behaviour_of}
use Rattle.c_unit_laws.specs.Follows.Units.{AreLowered}
use Rattle.c_unit_laws.specs.Follows.Simulation.{Ends}
use Rattle.c_unit_laws.specs.Follows.Grounds.{naming_of, function_in, printed_ground, plain_ground}
use Rattle.c_unit_laws.proofs.Spelling.{same_self}
use Rattle.c_unit_laws.proofs.ClearBlocks.{no_template}
use Rattle.c_unit_laws.proofs.Standing.{none_some, some_same, Stood, stood, calls_before}
use Rattle.c_unit_laws.proofs.Listed.{listed_here, listed_at}
use Rattle.c_unit_laws.proofs.Fewer.{few_before, few_above, made_few}
use Rattle.c_unit_laws.proofs.Functions.{field_global, function_global, found_above, functions_once}
use Rattle.c_unit_laws.proofs.Followed.{IsOfFile, FewAt, callee_of, HasCalls, follows_less, followed}
use Rattle.c_unit_laws.proofs.Units.{printed_procedures_are_good, bodies_are_good}
use Rattle.c_unit_laws.proofs.Bodies.{called_counts}

-- ---- what is listed

either : (a b : Bool) → b ≡ true → (a || b) ≡ true
either true b i = refl
either false b i = i

-- a listed procedure's name is one of a function
name_listed : (program : Program) (what : List Printing) (j : ℕ) (q : Procedure) → slice_get program.procedures j ≡ Some q → is_listed what j ≡ true → is_in (printed_names program what) q.name ≡ true
name_listed program [] j q at h = absurd (true≢false (sym h))
name_listed program (w ∷ what) j q at h = go (name_listed program what j q at) (j == w.proc) refl h
  where
    go : (is_listed what j ≡ true → is_in (printed_names program what) q.name ≡ true) → (t : Bool) → (j == w.proc) ≡ t → (t || is_listed what j) ≡ true → (same_name (name_of (slice_get program.procedures w.proc)) q.name || is_in (printed_names program what) q.name) ≡ true
    go rest true e i = ap (λ t. t || is_in (printed_names program what) q.name) (ap (λ o. same_name (name_of o) q.name) (ap (slice_get program.procedures) (sym (eqb-true j w.proc e)) ∙ at) ∙ same_self q.name)
    go rest false e i = either _ _ (rest i)

-- each procedure before one that is there is there
earlier_there : {A : Type 0} (xs : List A) (j k : ℕ) (a : A) → j < k → slice_get xs k ≡ Some a → slice_get xs j ≡ None → ⊥
earlier_there [] j zero a b e n = none_some e
earlier_there [] j (suc k) a b e n = none_some e
earlier_there (x ∷ xs) zero k a b e n = none_some (sym n)
earlier_there (x ∷ xs) (suc j) zero a b e n = absurd (omega (arith, b))
earlier_there (x ∷ xs) (suc j) (suc k) a b e n = earlier_there xs j k a (omega (arith, b)) e n

pub function_there : (program : Program) (globals : List Name) (what : List Printing) (i : ℕ) (w : Printing) → slice_get what i ≡ Some w → slice_get (functions_of program globals what) i ≡ Some (function_at program globals (slice_get program.procedures w.proc))
function_there program globals [] zero w e = absurd (none_some e)
function_there program globals [] (suc i) w e = absurd (none_some e)
function_there program globals (v ∷ what) zero w e = ap (λ z. Some (function_at program globals (slice_get program.procedures z.proc))) (some_same e)
function_there program globals (v ∷ what) (suc i) w e = function_there program globals what i w e

module _ (program : Program) (what : List Printing) (unit : IsUnit program) (lowers : AreLowered fault_of program what) (templates : ℕ → Option Behaviour) (does : TemplatesDoTheirBodies program what templates) where
  abbrev pub file_at : ℕ → CWorld
  file_at i = file_world (lowered program what) templates i

  abbrev Before : ℕ → Fewness
  Before k = few_before (kinds_of program.fields) program.procedures k

  pub printed_there : (i : ℕ) (w : Printing) (p : Procedure) → slice_get what i ≡ Some w → slice_get program.procedures w.proc ≡ Some p → slice_get (lowered program what).functions i ≡ Some (function_of (naming_of program what p) p)
  printed_there i w p there at = function_there program (global_names program what) what i w there ∙ ap (λ o. Some (function_at program (global_names program what) o)) at

  printed_is_of_file : (p : Procedure) → IsOfFile program (naming_of program what p)
  printed_is_of_file p = record { field = refl; params = λ k. refl }

  -- what stands before in the unit is printed before
  printed_before : (i j : ℕ) (w v : Printing) → slice_get what i ≡ Some w → slice_get what j ≡ Some v → w.proc < v.proc → i < j
  printed_before i j w v e f b = go (nat_lt i j) (nat_lt j i) refl refl
    where
      go : (s t : Bool) → nat_lt i j ≡ s → nat_lt j i ≡ t → i < j
      go true t c d = grind arith
      go false true c d = let r = lowers.listing.ascends j i v w f e (grind arith) in absurd (omega (arith, b, r))
      go false false c d =
          let same : i ≡ j = grind arith in
          let one = ap (λ z. z.proc) (some_same (sym e ∙ (ap (slice_get what) same ∙ f))) in
          absurd (omega (arith, b, one))

  module _ (i : ℕ) (w : Printing) (p : Procedure) (there : slice_get what i ≡ Some w) (at : slice_get program.procedures w.proc ≡ Some p) where
    -- a function that is called has a name of the file
    named_function : (j : ℕ) → calls j p.body ≡ true → (routine_of (slice_get program.procedures j)).template ≡ None → function_in program what (routine_of (slice_get program.procedures j)).name ≡ true
    named_function j u n = go (slice_get program.procedures j) refl n
      where
        go : (o : Option Procedure) → slice_get program.procedures j ≡ o → (routine_of o).template ≡ None → function_in program what (routine_of o).name ≡ true
        go None e t = absurd (earlier_there program.procedures j w.proc p (calls_before program.fields (length program.memories) program.procedures w.proc j p unit.procedures at u) at e)
        go (Some q) e t = name_listed program what j q e (lowers.listing.closed i j w p q there at e u (no_template q.template (ap is_function t)))

    abbrev Called : ℕ → Procedure → Option (List ℕ) → Type 0
    Called j q t = (f : Behaviour) × (called_in (file_at i) q.name (option_map holes_of t) j ≡ Some f) × IsFollowed (printed_ground program what w.proc p) (Before w.proc j) (callee_of program what j q) f j

    -- what those printed before call is followed
    abbrev Earlier : Type 0
    Earlier = (l : ℕ) (v : Printing) (q : Procedure) → l < i → slice_get what l ≡ Some v → slice_get program.procedures v.proc ≡ Some q → HasCalls program what (naming_of program what q) v.proc q (file_at l)

    -- one that does what its body says is followed
    template_followed : (j : ℕ) (q : Procedure) → calls j p.body ≡ true → j < w.proc → slice_get program.procedures j ≡ Some q → counts program what j ≡ true → (f : Behaviour) → DoesItsBody program what j q f → IsFollowed (printed_ground program what w.proc p) (Before w.proc j) (callee_of program what j q) f j
    template_followed j q u b e counted f template =
        let g = plain_ground program what j q in
        let good = bodies_are_good program what j q unit lowers e counted in
        record {
          own = g;
          params = sym (ap (λ o. (routine_of o).params) e);
          field = refl;
          declared = refl;
          function = refl;
          stored = refl;
          formals = template.formals;
          named = good.named;
          distinct = good.distinct;
          good = good.params;
          follows = λ layout s m match holds. follows_less (fewness_of program j s) (Before w.proc j s) (Ends g (param_forms q.params) layout s m) ((callee_of program what j q).run s) (f.run m)
              (λ h. made_few (kinds_of program.fields) program.procedures j q s e (few_above (kinds_of program.fields) program.procedures w.proc j q s b e h))
              (template.follows layout s m match holds);
        }

    called_instruction : (j : ℕ) (q : Procedure) (text : List ℕ) → calls j p.body ≡ true → j < w.proc → slice_get program.procedures j ≡ Some q → q.template ≡ Some text → counts program what w.proc ≡ true → Called j q (Some text)
    called_instruction j q text u b e t c =
        let template = does i j w p q text there at u e t in
        (template.0, template.1, template_followed j q u b e (called_counts program what unit lowers w.proc j p at c u) template.0 template.2)

    called_function : (j : ℕ) (q : Procedure) → calls j p.body ≡ true → j < w.proc → slice_get program.procedures j ≡ Some q → q.template ≡ None → Earlier → Called j q None
    called_function j q u b e t before =
        let l = listed_at what j (lowers.listing.closed i j w p q there at e u t) in
        let v = l.printing in
        let own : slice_get program.procedures v.proc ≡ Some q = ap (slice_get program.procedures) l.is ∙ e in
        let first : l.at < i = printed_before l.at i v w l.there there (subst (λ z. z < w.proc) (sym l.is) b) in
        let few : (s : State) → Before w.proc j s → FewAt program what v.proc q s = λ s h. subst (λ z. FewAt program what z q s) (sym l.is) (few_above (kinds_of program.fields) program.procedures w.proc j q s b e h) in
        let good = printed_procedures_are_good program what v.proc q unit lowers own (listed_here what l.at v l.there) in (
          behaviour_of (printed_ground program what v.proc q) (file_at l.at) q,
          found_above (globals_of (lowered program what)) templates (lowered program what).functions i l.at (function_of (naming_of program what q) q) (functions_once program what lowers.named) first (printed_there l.at v q l.there own),
          subst (λ z. IsFollowed (printed_ground program what w.proc p) (Before w.proc j) (callee_of program what z q) (behaviour_of (printed_ground program what v.proc q) (file_at l.at) q) z) l.is
              (followed program what (naming_of program what p) (printed_is_of_file p) w.proc p (naming_of program what q) (printed_is_of_file q) v.proc q own (file_at l.at) good (before l.at v q first l.there own) (Before w.proc j) few),
        )

    called_one : (j : ℕ) (q : Procedure) → calls j p.body ≡ true → j < w.proc → slice_get program.procedures j ≡ Some q → counts program what w.proc ≡ true → Earlier → (t : Option (List ℕ)) → q.template ≡ t → Called j q t
    called_one j q u b e c before None t = called_function j q u b e t before
    called_one j q u b e c before (Some text) t = called_instruction j q text u b e t c

    abbrev CalledAs : ℕ → Option Procedure → Callee → Type 0
    CalledAs j o d = (f : Behaviour) × (called_in (file_at i) (routine_of o).name (routine_of o).template j ≡ Some f) × IsFollowed (printed_ground program what w.proc p) (Before w.proc j) d f j

    pub calls_here : counts program what w.proc ≡ true → Earlier → HasCalls program what (naming_of program what p) w.proc p (file_at i)
    calls_here c before = record {
      fields = field_global program what lowers.named;
      functions = function_global program what lowers.named;
      named = named_function;
      each = λ j d e u. each j d u (stood (kinds_of program.fields) program.procedures w.proc j d e);
    }
      where
        each : (j : ℕ) (d : Callee) → calls j p.body ≡ true → Stood (kinds_of program.fields) program.procedures w.proc j d → CalledAs j (slice_get program.procedures j) d
        each j d u s = subst (λ o. CalledAs j o d) (sym s.at) (subst (CalledAs j (Some s.procedure)) s.same (called_one j s.procedure u s.before s.at c before s.procedure.template refl))
