-- An argument that is written into a field before the call.
use Rattle.std.proofs.Common.{◌≡◌, ℕ, ℤ, Bool, true, false, cond, ◌||◌, List, [], ◌∷◌}
use Rattle.std.proofs.Common.{Option, Some, None, option_map, refl, sym, ap, ap₂, ◌∙◌, subst}
use Rattle.std.proofs.Common.{true≢false, eq-eqb}
use Rattle.std.specs.Prelude.{if◌then◌else◌}
use Rattle.std.specs.Str.{bytes_eq}
use Rattle.exo_tree.specs.Tree.{Control, Lit, Var, Field, StrideOf, Neg, Add, Sub, Mul, Div, Mod}
use Rattle.exo_tree.specs.Tree.{Condition, True, False, Flag, FieldFlag, Lt, Le, Gt, Ge, Eq, And}
use Rattle.exo_tree.specs.Tree.{Or}
use Rattle.exo_tree.specs.Tree.{Argument, ControlArg, ConditionArg, Whole, Window, Param}
use Rattle.exo_tree.specs.Tree.{Procedure}
use Rattle.exo_tree.specs.Context.{Context}
use Rattle.exo_meaning.specs.Scene.{where_true}
use Rattle.exo_meaning.specs.Scene.{Scene, then_do, number, holds, is_set}
use Rattle.exo_meaning.specs.State.{State, on_scene, with_field}
use Rattle.exo_meaning.specs.Calls.{given_all_apart}
use Rattle.exo_meaning.specs.Calls.{Callee, GivenNumber, given, all_given, truth}
use Rattle.exo_meaning.specs.Calls.{entered, returned, run_asserted}
use Rattle.exo_meaning.specs.Run.{World, run, argument_number, configure, call_to}
use Rattle.exo_meaning.specs.Run.{unit_world, kinds_of}
use Rattle.meaning_laws.specs.Live.{read_by_control, read_by_condition, live, live_behind, refield}
use Rattle.meaning_laws.specs.Live.{Agree, SameLive, RefinedLive, CallsForget}
use Rattle.meaning_laws.specs.UnitFields.{unit_live}
use Rattle.meaning_laws.proofs.Live.{number_live, holds_live, run_forgets}
use Rattle.meaning_laws.proofs.Parts.{none_some, some_injective, then_gives, both_some}
use Rattle.meaning_laws.proofs.Refined.{state_same}
use Rattle.meaning_laws.proofs.UnitFields.{unit_forgets}
use Rattle.config_laws.specs.Live.CallVersion.{called}
use Rattle.config_laws.proofs.OfLive.LiveFits.{live_fits}
use Rattle.config_laws.specs.Surely.{surely_behind, unit_surely}
use Rattle.config_laws.specs.Exits.{by_exit}
use Rattle.config_laws.specs.FieldRule.{is_listed, not_again}
use Rattle.config_laws.specs.BindConfig.{reads_any, asks_any, Bound, bound_here}
use Rattle.config_laws.specs.BindConfig.{behind_argument, bound_in, write_and_call}
use Rattle.config_laws.specs.Holes.{with_block, BoundRefines}
use Rattle.config_laws.proofs.Exits.{blocks_go_by_exit, holes_go_by_exit, units_go_by_exit}
use Rattle.config_laws.proofs.Exits.{in_order}
use Rattle.config_laws.specs.AtEnd.{lives_at_end}
use Rattle.config_laws.proofs.AtEnd.{at_end, not_live}
use Rattle.config_laws.proofs.Holes.{write_gives, not_seen}
use Rattle.exo_meaning.specs.Units.{is_control_param}

-- ---- what reads no field

either : (a b : Bool) → (a || b) ≡ false → (a ≡ false) × (b ≡ false)
either true b h = absurd (true≢false h)
either false b h = (refl, h)

both_false : (a b : Bool) → a ≡ false → b ≡ false → (a || b) ≡ false
both_false a b h k = ap₂ ◌||◌ h k

module _ (f : ℕ) where
  not_read : (a : Control) → reads_any a ≡ false → read_by_control f a ≡ false
  not_read (Lit n) h = refl
  not_read (Var x) h = refl
  not_read (Field g) h = absurd (true≢false h)
  not_read (StrideOf x k) h = refl
  not_read (Neg a) h = not_read a h
  not_read (Add a b) h =
      let p = either (reads_any a) (reads_any b) h in
      both_false (read_by_control f a) (read_by_control f b) (not_read a p.0) (not_read b p.1)
  not_read (Sub a b) h =
      let p = either (reads_any a) (reads_any b) h in
      both_false (read_by_control f a) (read_by_control f b) (not_read a p.0) (not_read b p.1)
  not_read (Mul a b) h =
      let p = either (reads_any a) (reads_any b) h in
      both_false (read_by_control f a) (read_by_control f b) (not_read a p.0) (not_read b p.1)
  not_read (Div a c) h = not_read a h
  not_read (Mod a c) h = not_read a h

  two_not_read : (a b : Control) → (reads_any a || reads_any b) ≡ false
      → (read_by_control f a || read_by_control f b) ≡ false
  two_not_read a b h =
      let p = either (reads_any a) (reads_any b) h in
      both_false (read_by_control f a) (read_by_control f b) (not_read a p.0) (not_read b p.1)

  not_asked : (c : Condition) → asks_any c ≡ false → read_by_condition f c ≡ false
  not_asked True h = refl
  not_asked False h = refl
  not_asked (Flag x) h = refl
  not_asked (FieldFlag g) h = absurd (true≢false h)
  not_asked (Lt a b) h = two_not_read a b h
  not_asked (Le a b) h = two_not_read a b h
  not_asked (Gt a b) h = two_not_read a b h
  not_asked (Ge a b) h = two_not_read a b h
  not_asked (Eq a b) h = two_not_read a b h
  not_asked (And c d) h =
      let p = either (asks_any c) (asks_any d) h in
      both_false (read_by_condition f c) (read_by_condition f d) (not_asked c p.0) (not_asked d p.1)
  not_asked (Or c d) h =
      let p = either (asks_any c) (asks_any d) h in
      both_false (read_by_condition f c) (read_by_condition f d) (not_asked c p.0) (not_asked d p.1)

-- ---- the arguments are given alike

-- behind the write, for what reads no field
module _ (f : ℕ) (n : ℤ) (scene : Scene) where
  abbrev later : Scene
  later = with_field f n scene

  unseen : (reads : ℕ → Bool) → ((g : ℕ) → reads g ≡ false)
      → Agree reads scene.fields later.fields
  unseen reads h g k = absurd (true≢false (sym k ∙ h g))

  holds_now : later.fields f ≡ n
  holds_now = ap (λ t. cond t n (scene.fields f)) (eq-eqb f f refl)

  set_truth : (t : Bool) → truth (is_set (truth t)) ≡ truth t
  set_truth true = refl
  set_truth false = refl

  number_given : (a : Control) → reads_any a ≡ false
      → argument_number scene (ControlArg a) ≡ Some n
      → given later (ControlArg (Field f)) ≡ given later (ControlArg a)
  number_given a h e =
      ap (λ m. Some (GivenNumber m)) (holds_now ∙ sym (some_injective (number scene a) n e)
      ∙ sym (number_live later.fields scene a
      (unseen (λ g. read_by_control g a) (λ g. not_read g a h))))

  truth_given : (c : Condition) → asks_any c ≡ false
      → argument_number scene (ConditionArg c) ≡ Some n
      → given later (ConditionArg (FieldFlag f)) ≡ given later (ConditionArg c)
  truth_given c h e =
      let is = some_injective (truth (holds scene c)) n e in
      ap (λ m. Some (GivenNumber m)) (ap (λ m. truth (is_set m)) (holds_now ∙ sym is)
      ∙ set_truth (holds scene c)
      ∙ ap truth (sym (holds_live later.fields scene c
      (unseen (λ g. read_by_condition g c) (λ g. not_asked g c h)))))

  abbrev GivenAlike : List Argument → Bound → Type 0
  GivenAlike args b =
      argument_number scene b.value ≡ Some n → all_given later b.args ≡ all_given later args

  with_rest : (a d : Argument) (rest : List Argument) → given later d ≡ given later a
      → all_given later (d ∷ rest) ≡ all_given later (a ∷ rest)
  with_rest a d rest e =
      ap (λ o. then_do o (λ g. option_map (λ gs. g ∷ gs) (all_given later rest))) e

  control_bound : (a : Control) (rest : List Argument) (b : Bound) (r : Bool) → reads_any a ≡ r
      → (if r then None else Some (record {
        value = ControlArg a;
        args = ControlArg (Field f) ∷ rest;
      })) ≡ Some b
      → GivenAlike (ControlArg a ∷ rest) b
  control_bound a rest b true h e = absurd (none_some e)
  control_bound a rest b false h e =
      subst (GivenAlike (ControlArg a ∷ rest)) (some_injective _ b e)
      (λ k. with_rest (ControlArg a) (ControlArg (Field f)) rest (number_given a h k))

  condition_bound : (c : Condition) (rest : List Argument) (b : Bound) (r : Bool)
      → asks_any c ≡ r
      → (if r then None else Some (record {
        value = ConditionArg c;
        args = ConditionArg (FieldFlag f) ∷ rest;
      })) ≡ Some b
      → GivenAlike (ConditionArg c ∷ rest) b
  condition_bound c rest b true h e = absurd (none_some e)
  condition_bound c rest b false h e =
      subst (GivenAlike (ConditionArg c ∷ rest)) (some_injective _ b e)
      (λ k. with_rest (ConditionArg c) (ConditionArg (FieldFlag f)) rest (truth_given c h k))

  here_alike : (a : Argument) (rest : List Argument) (b : Bound)
      → bound_here f a rest ≡ Some b → GivenAlike (a ∷ rest) b
  here_alike (ControlArg a) rest b e = control_bound a rest b (reads_any a) refl e
  here_alike (ConditionArg c) rest b e = condition_bound c rest b (asks_any c) refl e
  here_alike (Whole x) rest b e = absurd (none_some e)
  here_alike (Window x coords) rest b e = absurd (none_some e)

  behind_alike : (a : Argument) (rest : List Argument) (b : Bound) (o : Option Bound)
      → ((d : Bound) → o ≡ Some d → GivenAlike rest d)
      → behind_argument a o ≡ Some b → GivenAlike (a ∷ rest) b
  behind_alike a rest b None h e = absurd (none_some e)
  behind_alike a rest b (Some d) h e =
      subst (GivenAlike (a ∷ rest)) (some_injective _ b e)
      (λ k. ap (λ r. then_do (given later a) (λ g. option_map (λ gs. g ∷ gs) r)) (h d refl k))

  alike : (name : List ℕ) (params : List Param) (args : List Argument) (b : Bound)
      → bound_in f name params args ≡ Some b → GivenAlike args b
  alike name [] args b e = absurd (none_some e)
  alike name (p ∷ ps) [] b e = absurd (none_some e)
  alike name (p ∷ ps) (a ∷ rest) b e =
      go (bytes_eq p.binder.name name) (is_control_param p.kind) e (λ d. alike name ps rest d)
    where
      go : (same control : Bool)
          → (if same then (if control then bound_here f a rest else None)
          else behind_argument a (bound_in f name ps rest)) ≡ Some b
          → ((d : Bound) → bound_in f name ps rest ≡ Some d → GivenAlike rest d)
          → GivenAlike (a ∷ rest) b
      go true true e h = here_alike a rest b e
      go true false e h = absurd (none_some e)
      go false control e h = behind_alike a rest b (bound_in f name ps rest) h e

-- ---- the call

called_alike : (o : Option Callee) (xs ys : List Argument) (s : State)
    → all_given s.scene xs ≡ all_given s.scene ys → call_to o xs s ≡ call_to o ys s
called_alike None xs ys s e = refl
called_alike (Some c) xs ys s e =
    ap (λ o. where_true (given_all_apart c.writes c.procedure.params o)
    (then_do o (λ gs. then_do (entered c.procedure.params gs s)
    (λ inner. option_map (returned c gs s) (run_asserted c inner))))) e

module _ (world : World) (calls : ℕ → ℕ → Bool → Bool) (forget : CallsForget world calls)
    (f k : ℕ) (args : List Argument) (name : List ℕ) (params : List Param) (d : Bound)
    (is : bound_in f name params args ≡ Some d) (behind : ℕ → Bool)
    (dead : live calls f (called k args) (behind f) ≡ false) where
  abbrev before : ℕ → Bool
  before g = live calls g (called k args) (behind g)

  pub binds_alike : (s a b : State) → run world (called k args) s ≡ Some a
      → run world (write_and_call f k d) s ≡ Some b → RefinedLive behind a b
  binds_alike s a b i j =
      let p = then_gives (configure world f d.value s) (run world (called k d.args)) b j in
      let w = write_gives world f d.value s p.0 p.1 in
      let t = on_scene (with_field f w.0) s in
      let runs : run world (called k d.args) t ≡ Some b =
      ap (run world (called k d.args)) w.2 ∙ p.2 in
      let same = called_alike (world.callees k) d.args args t
      (alike f w.0 s.scene name params args d is w.1) in
      let old : run world (called k args) t ≡ Some b =
      ap (λ o. then_do o (λ z. Some z)) (sym same) ∙ runs in
      record {
        middle = b;
        live = both_some (SameLive behind) (run world (called k args) s)
            (run world (called k args) t) a b i old
            (run_forgets world calls forget (called k args) behind s t.scene.fields
            (λ g h. sym (not_seen f before dead s w.0 g h)));
        refined = state_same b;
      }

-- ---- the hole

module _ (ps : List Procedure) (f k : ℕ) (args : List Argument) (c : Context) where
  abbrev again : ℕ → Bool
  again g = unit_surely ps k g || surely_behind (unit_surely ps) g c

  abbrev out : ℕ → Bool
  out = lives_at_end again (f ∷ [])

  abbrev lives : ℕ → Bool
  lives g = live_behind (unit_live ps) g (called k args) c (out g)

  listed : is_listed f (f ∷ []) ≡ true
  listed = ap (λ t. t || false) (eq-eqb f f refl)

  or_none : (t : Bool) → (t || false) ≡ t
  or_none true = refl
  or_none false = refl

  dead_before :
      live (unit_live ps) f (called k args)
      (live_behind (unit_live ps) f (called k args) c false) ≡ false
      → live (unit_live ps) f (called k args) (lives f) ≡ false
  dead_before h =
      let calls = unit_live ps in
      let sure = unit_surely ps in
      let old = called k args in
      let rest = live_behind calls f old c false in
      ap (live calls f old)
      (holes_go_by_exit calls sure (units_go_by_exit ps) f old c (out f))
      ∙ blocks_go_by_exit calls sure (units_go_by_exit ps) f old
      (by_exit rest (surely_behind sure f c) (out f))
      ∙ in_order (live calls f old false) rest (sure k f || false) (surely_behind sure f c) (out f)
      ∙ ap (λ t. by_exit (by_exit (live calls f old false) (sure k f || false) rest)
      (t || surely_behind sure f c) (out f)) (or_none (sure k f))
      ∙ ap (λ r. by_exit r (again f) (out f))
      (sym (blocks_go_by_exit calls sure (units_go_by_exit ps) f old rest) ∙ h)
      ∙ not_live again (f ∷ []) f listed

pub bound_refines : BoundRefines
bound_refines fields memories ps p c f k args name params b was is fine dead =
    let world = unit_world (kinds_of fields) ps in
    let forget = unit_forgets (kinds_of fields) ps in
    let written = again ps f k args c in
    live_fits fields memories ps (unit_live ps) c (called k args) (write_and_call f k b) p
    (with_block p c (write_and_call f k b)) (out ps f k args c) (not_again written (f ∷ []))
    forget was refl fine (at_end written (f ∷ []))
    (λ s u good come g fit agree a d i j. binds_alike world (unit_live ps) forget f k args name
    params b is (lives ps f k args c) (dead_before ps f k args c dead) (refield g u) a d i j)
