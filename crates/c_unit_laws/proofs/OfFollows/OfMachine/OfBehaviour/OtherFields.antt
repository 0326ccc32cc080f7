-- Fields that a file does not declare stay: no name stands for them, along a run and in calls.
use Rattle.std.proofs.Common.{◌≡◌, ◌==◌, codes, ℕ, zero, suc, ℤ, pos, ◌+ℤ◌, ◌-ℤ◌, ◌*ℤ◌, Bool, true, false, not, ◌||◌, ◌&&◌, length, if◌then◌else◌, List, [], ◌∷◌, take, slice_get, int_lt, int_le, Option, Some, None, option_map, refl, sym, ap, ◌∙◌, subst, true≢false, eqb-true, eq-eqb}
use Rattle.std.specs.Prelude.{⊤}
use Rattle.std.proofs.lemmas.Bool.{and_parts, and_from}
use Rattle.std.specs.Ordering.{int_eq}
use Rattle.exo_tree.specs.Tree.{Cell, I32}
use Rattle.exo_meaning.specs.Run.{count}
use Rattle.c_tree.specs.Names.Words.{Name, same_name, is_in}
use Rattle.c_tree.specs.CTree.{Element, Single, Vector, Number64, CellRef, Read32, Actual, WindowOf, Formal, Number64Param, ArrayParam, WindowParamOf, CStatement, Store, AddTo, SetField, Empty, Branch, Loop, Array, Malloc, Free, Bind, CallOf, Instruction, CBlock, stop, first, CFunction, CUnit}
use Rattle.c_unit_laws.specs.Follows.Machine.Machine.{Outcome, Done, Fault, NoStore, after}
use Rattle.c_unit_laws.specs.Follows.Machine.Machine.{where_good, Pointer, Thing, IsNumber, IsField}
use Rattle.c_unit_laws.specs.Follows.Machine.Machine.{IsFunction, IsArray, IsVectors, IsWindow}
use Rattle.c_unit_laws.specs.Follows.Machine.Machine.{Object, Setting, Machine, named, hiding}
use Rattle.c_unit_laws.specs.Follows.Machine.Machine.{number64, all_numbers64, test, typed_spot}
use Rattle.c_unit_laws.specs.Follows.Machine.Machine.{spot_by, from_array, number32, holds_cells}
use Rattle.c_unit_laws.specs.Follows.Machine.CRun.{Behaviour, CWorld, back_to, in_scope}
use Rattle.c_unit_laws.specs.Follows.Machine.CRun.{window_from, thing, things, things_of_cells}
use Rattle.c_unit_laws.specs.Follows.Machine.CRun.{set_under, amount, at_most_48, lanes_of}
use Rattle.c_unit_laws.specs.Follows.Machine.CRun.{array_thing, made, make, freed, free_under}
use Rattle.c_unit_laws.specs.Follows.Machine.CRun.{bind_formal, bind_formals, with_names}
use Rattle.c_unit_laws.specs.Follows.Machine.CRun.{run_in_place, run_function, go_on, turns64}
use Rattle.c_unit_laws.specs.Follows.Machine.CRun.{with_counter, turn64, upper64, either_way, run_c}
use Rattle.c_unit_laws.specs.Follows.Machine.CRun.{step_c, behaviour, all_named, names_of_functions}
use Rattle.c_unit_laws.specs.Follows.Machine.CRun.{globals_of, with_functions, file_world, run_file}
use Rattle.c_unit_laws.specs.Follows.Machine.Examples.{alone, moves, for_l, at_l, eight}
use Rattle.c_unit_laws.specs.Follows.Machine.Behaviour.OtherFields.{FieldsAreDeclared, OthersStay}
use Rattle.c_unit_laws.specs.Follows.Machine.Behaviour.OtherFields.{KeepsOthers}
use Rattle.c_unit_laws.specs.Follows.Machine.Behaviour.OtherFields.{TemplatesKeepOthers}
use Rattle.c_unit_laws.specs.Follows.Machine.Behaviour.OtherFields.{OtherFieldsStay}
use Rattle.c_unit_laws.specs.Follows.Machine.Behaviour.OtherFields.{BlocksKeepOthers}
use Rattle.c_unit_laws.specs.Follows.Machine.Behaviour.OtherFields.{OtherFieldsInstance, file_of}
use Rattle.c_unit_laws.specs.Follows.Machine.Behaviour.OtherFields.{move_and_set}

-- ---- equal names

names_equal : (x y : Name) → same_name x y ≡ true → x ≡ y
names_equal [] [] h = refl
names_equal [] (b ∷ y) h = absurd (true≢false (sym h))
names_equal (a ∷ x) [] h = absurd (true≢false (sym h))
names_equal (a ∷ x) (b ∷ y) h = let p = and_parts (a == b) (same_name x y) h in both (eqb-true a b p.0) (names_equal x y p.1)
  where
    both : a ≡ b → x ≡ y → (a ∷ x) ≡ (b ∷ y)
    both e f = cc

same_self : (x : Name) → same_name x x ≡ true
same_self [] = refl
same_self (a ∷ x) = and_from (a == a) (same_name x x) (eq-eqb a a refl) (same_self x)

-- ---- what holds where a run is done

abbrev Where : {A : Type 0} → (A → Type 0) → Outcome A → Type 0
Where P (Done a) = P a
Where P Fault = ⊤
Where P NoStore = ⊤

where_after : {A B : Type 0} (P : A → Type 0) (Q : B → Type 0) (o : Outcome A) (k : A → Outcome B) → Where P o → ((a : A) → P a → Where Q (k a)) → Where Q (after o k)
where_after P Q (Done a) k h f = f a h
where_after P Q Fault k h f = tt
where_after P Q NoStore k h f = tt

after_any : {A B : Type 0} (Q : B → Type 0) (o : Outcome A) (k : A → Outcome B) → ((a : A) → Where Q (k a)) → Where Q (after o k)
after_any Q (Done a) k f = f a
after_any Q Fault k f = tt
after_any Q NoStore k f = tt

good : {A : Type 0} (P : A → Type 0) (b : Bool) (o : Outcome A) → Where P o → Where P (where_good b o)
good P true o h = h
good P false o h = tt

weaker : {A : Type 0} (P Q : A → Type 0) (o : Outcome A) → Where P o → ((a : A) → P a → Q a) → Where Q o
weaker P Q (Done a) h f = f a h
weaker P Q Fault h f = tt
weaker P Q NoStore h f = tt

where_done : {A : Type 0} (P : A → Type 0) (o : Outcome A) → ((a : A) → o ≡ Done a → P a) → Where P o
where_done P (Done a) h = h a refl
where_done P Fault h = tt
where_done P NoStore h = tt

-- ---- things that are no field

abbrev is_field : Option Thing → Bool
is_field None = false
is_field (Some (IsNumber n)) = false
is_field (Some IsField) = true
is_field (Some IsFunction) = false
is_field (Some (IsArray p)) = false
is_field (Some (IsVectors p lanes)) = false
is_field (Some (IsWindow p strides)) = false

no_field : (held : Option Thing) → is_field held ≡ false → held ≡ Some IsField → ⊥
no_field held not_it e = true≢false (sym (ap is_field e) ∙ not_it)

array_is_none : (element : Element) (p : Pointer) → is_field (Some (array_thing element p)) ≡ false
array_is_none (Single cell) p = refl
array_is_none (Vector ctype lanes cell) p = refl

abbrev NoField : Thing → Type 0
NoField t = is_field (Some t) ≡ false

window_is_none : (s : Setting) (rank : ℕ) (cell : Cell) (ref : CellRef) (strides : List Number64) → Where NoField (thing s (WindowOf rank cell ref strides))
window_is_none s rank cell ref strides =
    after_any NoField (spot_by from_array s ref) (λ p. after (all_numbers64 s strides) (window_from rank cell s.objects p)) (λ p.
    after_any NoField (all_numbers64 s strides) (window_from rank cell s.objects p) (λ ns.
    good NoField (holds_cells (s.objects p.object) cell && (length ns == rank)) (Done (IsWindow p ns)) refl))

-- ---- names of a file

module _ (u : CUnit) where
  abbrev Declared : (Name → Option Thing) → Type 0
  Declared = FieldsAreDeclared u

  named_declared : (names : Name → Option Thing) (x : Name) (held : Option Thing) → is_field held ≡ false → Declared names → Declared (named names x held)
  named_declared names x held not_it d y = by_test (same_name y x)
    where
      by_test : (t : Bool) → (if t then held else names y) ≡ Some IsField → is_in u.fields y ≡ true
      by_test true e = absurd (no_field held not_it e)
      by_test false e = d y e

  field_named : (x y : Name) (n : ℤ) (fields : Name → ℤ) → is_in u.fields x ≡ true → is_in u.fields y ≡ false → named fields x n y ≡ fields y
  field_named x y n fields is_it not_it = by_test (same_name y x) refl
    where
      by_test : (t : Bool) → same_name y x ≡ t → (if t then n else fields y) ≡ fields y
      by_test true e = absurd (true≢false (sym is_it ∙ ap (is_in u.fields) (sym (names_equal y x e)) ∙ not_it))
      by_test false e = refl

  abbrev Kept : Machine → Machine → Type 0
  Kept m n = Declared n.setting.names × OthersStay u m n

  kept_trans : (m n p : Machine) → Kept m n → Kept n p → Kept m p
  kept_trans m n p h k = (k.0, λ y not_it. k.1 y not_it ∙ h.1 y not_it)

  -- a statement, and then the rest
  on_kept : (m : Machine) (o : Outcome Machine) (k : Machine → Outcome Machine) → Where (Kept m) o → ((n : Machine) → Declared n.setting.names → Where (Kept n) (k n)) → Where (Kept m) (after o k)
  on_kept m o k h f = where_after (Kept m) (Kept m) o k h (λ n r. weaker (Kept n) (Kept m) (k n) (f n r.0) (λ p q. kept_trans m n p r q))

  scope_keeps : (run : Machine → Outcome Machine) (m : Machine) (P : Machine → Type 0) → ((n : Machine) → OthersStay u m n → P (back_to m n)) → Where (OthersStay u m) (run m) → Where P (in_scope run m)
  scope_keeps run m P close h = where_after (OthersStay u m) P (run m) (λ n. Done (back_to m n)) h close

  -- ---- statements without blocks

  set_keeps : (m : Machine) (x : Name) (held : Option Thing) (t : Thing) → m.setting.names x ≡ held → Declared m.setting.names → Where (Kept m) (after (set_under x held t m.setting) (λ s. Done (record m { setting = s })))
  set_keeps m x None t e d = tt
  set_keeps m x (Some (IsNumber k)) t e d = tt
  set_keeps m x (Some IsFunction) t e d = tt
  set_keeps m x (Some (IsArray p)) t e d = tt
  set_keeps m x (Some (IsVectors p lanes)) t e d = tt
  set_keeps m x (Some (IsWindow p strides)) t e d = tt
  set_keeps m x (Some IsField) (IsNumber n) e d = (d, λ y not_it. field_named x y n m.setting.fields (d x e) not_it)
  set_keeps m x (Some IsField) IsField e d = tt
  set_keeps m x (Some IsField) IsFunction e d = tt
  set_keeps m x (Some IsField) (IsArray p) e d = tt
  set_keeps m x (Some IsField) (IsVectors p lanes) e d = tt
  set_keeps m x (Some IsField) (IsWindow p strides) e d = tt

  make_keeps : (heap : Bool) (element : Element) (x : Name) (o : Outcome ℤ) (m : Machine) → Declared m.setting.names → Where (Kept m) (make heap element x o m)
  make_keeps heap element x o m d =
      after_any (Kept m) o _ (λ n.
      after_any (Kept m) (at_most_48 (n *ℤ pos (lanes_of element))) _ (λ cells.
      good (Kept m) (int_le (pos 1) n) (Done (made heap element x n m)) (named_declared m.setting.names x _ (array_is_none element _) d, λ y not_it. refl)))

  -- names and fields are those of before
  abbrev Same : Setting → Setting → Type 0
  Same s t = (t.names ≡ s.names) × (t.fields ≡ s.fields)

  freed_same : (p : Pointer) (o : Option Object) (s : Setting) → Where (Same s) (freed p o s)
  freed_same p None s = tt
  freed_same p (Some o) s =
      good (Same s) (o.heap && int_eq p.offset (pos 0)) (Done (record s { objects = λ k. if k == p.object then None else s.objects k })) (refl, refl)

  free_same : (held : Option Thing) (s : Setting) → Where (Same s) (free_under held s)
  free_same None s = tt
  free_same (Some (IsNumber n)) s = tt
  free_same (Some IsField) s = tt
  free_same (Some IsFunction) s = tt
  free_same (Some (IsArray p)) s = freed_same p (s.objects p.object) s
  free_same (Some (IsVectors p lanes)) s = freed_same p (s.objects p.object) s
  free_same (Some (IsWindow p strides)) s = tt

  free_keeps : (x : Name) (m : Machine) → Declared m.setting.names → Where (Kept m) (after (free_under (m.setting.names x) m.setting) (λ s. Done (record m { setting = s })))
  free_keeps x m d =
      where_after (Same m.setting) (Kept m) (free_under (m.setting.names x) m.setting) _ (free_same (m.setting.names x) m.setting) (λ s h.
      (subst Declared (sym h.0) d, λ y not_it. ap (λ f. f y) h.1))

  -- ---- calls

  formal_bound : (objects : ℕ → Option Object) (f : Formal) (t : Thing) (names : Name → Option Thing) → Declared names → Where Declared (bind_formal objects f t names)
  formal_bound objects (Number64Param x) (IsNumber n) names d = named_declared names x (Some (IsNumber n)) refl d
  formal_bound objects (Number64Param x) IsField names d = tt
  formal_bound objects (Number64Param x) IsFunction names d = tt
  formal_bound objects (Number64Param x) (IsArray p) names d = tt
  formal_bound objects (Number64Param x) (IsVectors p lanes) names d = tt
  formal_bound objects (Number64Param x) (IsWindow p strides) names d = tt
  formal_bound objects (ArrayParam cell x) (IsNumber n) names d = tt
  formal_bound objects (ArrayParam cell x) IsField names d = tt
  formal_bound objects (ArrayParam cell x) IsFunction names d = tt
  formal_bound objects (ArrayParam cell x) (IsArray p) names d = good Declared (holds_cells (objects p.object) cell) (Done (named names x (Some (IsArray p)))) (named_declared names x (Some (IsArray p)) refl d)
  formal_bound objects (ArrayParam cell x) (IsVectors p lanes) names d = tt
  formal_bound objects (ArrayParam cell x) (IsWindow p strides) names d = tt
  formal_bound objects (WindowParamOf rank cell x) (IsNumber n) names d = tt
  formal_bound objects (WindowParamOf rank cell x) IsField names d = tt
  formal_bound objects (WindowParamOf rank cell x) IsFunction names d = tt
  formal_bound objects (WindowParamOf rank cell x) (IsArray p) names d = tt
  formal_bound objects (WindowParamOf rank cell x) (IsVectors p lanes) names d = tt
  formal_bound objects (WindowParamOf rank cell x) (IsWindow p strides) names d =
      where_after NoField Declared (window_from rank cell objects p strides) _ (good NoField (holds_cells (objects p.object) cell && (length strides == rank)) (Done (IsWindow p strides)) refl) (λ t not_it.
      named_declared names x (Some t) not_it d)

  formals_bound : (objects : ℕ → Option Object) (fs : List Formal) (ts : List Thing) (names : Name → Option Thing) → Declared names → Where Declared (bind_formals objects fs ts names)
  formals_bound objects [] [] names d = d
  formals_bound objects [] (t ∷ ts) names d = tt
  formals_bound objects (f ∷ fs) [] names d = tt
  formals_bound objects (f ∷ fs) (t ∷ ts) names d =
      where_after Declared Declared (bind_formal objects f t names) (bind_formals objects fs ts) (formal_bound objects f t names d) (formals_bound objects fs ts)

  -- a function that is there keeps them
  abbrev Keeps : Option Behaviour → Type 0
  Keeps None = ⊤
  Keeps (Some f) = (m : Machine) → Declared m.setting.names → Where (OthersStay u m) (f.run m)

  in_place_keeps : (world : CWorld) → Declared world.globals → (b : Option Behaviour) → Keeps b → (ts : List Thing) (m : Machine) (P : Machine → Type 0) → ((n : Machine) → OthersStay u m n → P (back_to m n)) → Where P (run_in_place world b ts m)
  in_place_keeps world g None k ts m P close = tt
  in_place_keeps world g (Some f) k ts m P close =
      where_after Declared P (bind_formals m.setting.objects f.formals ts world.globals) _ (formals_bound m.setting.objects f.formals ts world.globals g) (λ names d.
      scope_keeps (λ n. f.run (with_names names n)) m P close (k (with_names names m) d))

  -- ---- loops

  goes_on : {A : Type 0} (P : A → Type 0) (b : Bool) (f : A → Outcome A) (a : A) → Where P (f a) → P a → Where P (go_on b f a)
  goes_on P true f a h k = h
  goes_on P false f a h k = k

  stays : (m : Machine) → Declared m.setting.names → Kept m m
  stays m d = (d, λ y not_it. refl)

  module _ (turn : ℤ → Machine → Outcome Machine) (upper : ℤ → Machine → Outcome ℤ) (each : (n : ℤ) (m : Machine) → Declared m.setting.names → Where (Kept m) (turn n m)) where
    turns_keep : (k : ℕ) (n : ℤ) (m : Machine) → Declared m.setting.names → Where (Kept m) (turns64 turn upper k n m)
    turns_keep zero n m d = after_any (Kept m) (upper n m) _ (λ h. good (Kept m) (not (int_lt n h)) (Done m) (stays m d))
    turns_keep (suc k) n m d =
        after_any (Kept m) (upper n m) _ (λ h.
        goes_on (Kept m) (int_lt n h) (λ p. after (turn n p) (turns64 turn upper k (n +ℤ pos 1))) m
        (on_kept m (turn n m) (turns64 turn upper k (n +ℤ pos 1)) (each n m d) (turns_keep k (n +ℤ pos 1)))
        (stays m d))

  either_keeps : (P : Machine → Type 0) (b : Bool) (f g : Machine → Outcome Machine) (m : Machine) → Where P (f m) → Where P (g m) → Where P (either_way b f g m)
  either_keeps P true f g m h k = h
  either_keeps P false f g m h k = k

  -- ---- blocks

  module _ (world : CWorld) (global : Declared world.globals) (function : (f : Name) → Keeps (world.functions f)) (instruction : (k : ℕ) → Keeps (world.instructions k)) where
    abbrev Run : (Machine → Outcome Machine) → Type 0
    Run run = (m : Machine) → Declared m.setting.names → Where (Kept m) (run m)

    call_keeps : (b : Option Behaviour) → Keeps b → (ts : List Thing) → Run (run_in_place world b ts)
    call_keeps b k ts m d = in_place_keeps world global b k ts m (Kept m) (λ n o. (d, o))

    function_keeps : (held : Option Thing) (f : Name) (args : List Actual) → Run (run_function world held f args)
    function_keeps None f args m d = tt
    function_keeps (Some (IsNumber n)) f args m d = tt
    function_keeps (Some IsField) f args m d = tt
    function_keeps (Some IsFunction) f args m d = after_any (Kept m) (things m.setting args) _ (λ ts. call_keeps (world.functions f) (function f) ts m d)
    function_keeps (Some (IsArray p)) f args m d = tt
    function_keeps (Some (IsVectors p lanes)) f args m d = tt
    function_keeps (Some (IsWindow p strides)) f args m d = tt

    scoped : (run : Machine → Outcome Machine) (m : Machine) → Declared m.setting.names → Where (Kept m) (run m) → Where (Kept m) (in_scope run m)
    scoped run m d h = scope_keeps run m (Kept m) (λ n o. (d, o)) (weaker (Kept m) (OthersStay u m) (run m) h (λ n k. k.1))

    turn_keeps : (x : Name) (run : Machine → Outcome Machine) → Run run → (n : ℤ) → Run (turn64 x run n)
    turn_keeps x run h n m d =
        scope_keeps (λ p. run (with_counter x n p)) m (Kept m) (λ p o. (d, o))
        (weaker (Kept (with_counter x n m)) (OthersStay u m) (run (with_counter x n m)) (h (with_counter x n m) (named_declared m.setting.names x (Some (IsNumber n)) refl d)) (λ p k. k.1))

    mutual
      block_keeps : (b : CBlock) → Run (run_c world b)
      block_keeps stop m d = stays m d
      block_keeps (first a b) m d = on_kept m (step_c world a m) (run_c world b) (step_keeps a m d) (block_keeps b)

      step_keeps : (a : CStatement) → Run (step_c world a)
      step_keeps (Store cell ref e) m d =
          after_any (Kept m) (typed_spot cell m.setting ref) _ (λ p. after_any (Kept m) (number32 m e) _ (λ v. stays m d))
      step_keeps (AddTo cell ref e) m d =
          after_any (Kept m) (typed_spot cell m.setting ref) _ (λ p. after_any (Kept m) (number32 m e) _ (λ v. stays m d))
      step_keeps (SetField x a) m d = after_any (Kept m) (thing m.setting a) _ (λ t. set_keeps m x (m.setting.names x) t refl d)
      step_keeps Empty m d = stays m d
      step_keeps (Branch t a b) m d =
          after_any (Kept m) (test m.setting t) _ (λ h.
          scoped (either_way h (run_c world a) (run_c world b)) m d
          (either_keeps (Kept m) h (run_c world a) (run_c world b) m (block_keeps a m d) (block_keeps b m d)))
      step_keeps (Loop x lo hi b) m d =
          after_any (Kept m) (number64 (hiding x m.setting) lo) _ (λ n.
          turns_keep (turn64 x (run_c world b)) (upper64 x hi) (turn_keeps x (run_c world b) (block_keeps b)) (count (pos 9223372036854775807 -ℤ n)) n m d)
      step_keeps (Array element x n) m d = make_keeps false element x (at_most_48 n) m d
      step_keeps (Malloc element x n) m d = make_keeps true element x (amount (hiding x m.setting) n) m d
      step_keeps (Free x) m d = free_keeps x m d
      step_keeps (Bind rank cell w ref strides) m d =
          where_after NoField (Kept m) (thing (hiding w m.setting) (WindowOf rank cell ref strides)) _ (window_is_none (hiding w m.setting) rank cell ref strides) (λ t not_it.
          (named_declared m.setting.names w (Some t) not_it d, λ y h. refl))
      step_keeps (CallOf f args) m d = function_keeps (m.setting.names f) f args m d
      step_keeps (Instruction k pieces args) m d =
          after_any (Kept m) (things_of_cells m.setting args) _ (λ ts. call_keeps (world.instructions k) (instruction k) ts m d)

    behaviour_keeps : (f : CFunction) → Keeps (Some (behaviour world f))
    behaviour_keeps f m d = weaker (Kept m) (OthersStay u m) (run_c world f.body m) (block_keeps f.body m d) (λ n k. k.1)

  -- ---- files

  functions_are_none : (fs : List Name) (x : Name) → is_field (all_named fs IsFunction (λ y. None) x) ≡ false
  functions_are_none [] x = refl
  functions_are_none (f ∷ fs) x = by_test (same_name x f) (functions_are_none fs x)
    where
      by_test : (t : Bool) → is_field (all_named fs IsFunction (λ y. None) x) ≡ false → is_field (if t then Some IsFunction else all_named fs IsFunction (λ y. None) x) ≡ false
      by_test true h = refl
      by_test false h = h

  or_true : (a b : Bool) → b ≡ true → (a || b) ≡ true
  or_true true b e = refl
  or_true false b e = e

  fields_are_declared : (fields : List Name) (names : Name → Option Thing) (x : Name) → is_field (names x) ≡ false → all_named fields IsField names x ≡ Some IsField → is_in fields x ≡ true
  fields_are_declared [] names x not_it = λ e. absurd (no_field (names x) not_it e)
  fields_are_declared (f ∷ fs) names x not_it = by_test (same_name x f) refl (fields_are_declared fs names x not_it)
    where
      by_test : (t : Bool) → same_name x f ≡ t → (all_named fs IsField names x ≡ Some IsField → is_in fs x ≡ true) → (if t then Some IsField else all_named fs IsField names x) ≡ Some IsField → (same_name f x || is_in fs x) ≡ true
      by_test true h rest e = ap (λ t. t || is_in fs x) (ap (λ y. same_name f y) (names_equal x f h) ∙ same_self f)
      by_test false h rest e = or_true (same_name f x) (is_in fs x) (rest e)

  globals_declared : Declared (globals_of u)
  globals_declared x = fields_are_declared u.fields (all_named (names_of_functions u.functions) IsFunction (λ y. None)) x (functions_are_none (names_of_functions u.functions) x)

  keeps_behaviour : (b : Option Behaviour) → ((f : Behaviour) → b ≡ Some f → KeepsOthers u f.run) → Keeps b
  keeps_behaviour None h = tt
  keeps_behaviour (Some f) h = λ m d. where_done (OthersStay u m) (f.run m) (λ n e. h f refl m n d e)

  module _ (templates : ℕ → Option Behaviour) (lawful : TemplatesKeepOthers u templates) where
    template_keeps : (k : ℕ) → Keeps (templates k)
    template_keeps k = keeps_behaviour (templates k) (lawful k)

    abbrev world_of : (Name → Option Behaviour) → CWorld
    world_of functions = record { globals = globals_of u; functions = functions; instructions = templates }

    functions_keep : (fs : List CFunction) (functions : Name → Option Behaviour) → ((f : Name) → Keeps (functions f)) → (f : Name) → Keeps (with_functions (globals_of u) templates functions fs f)
    functions_keep [] functions h f = h f
    functions_keep (c ∷ fs) functions h f =
        functions_keep fs (named functions c.name (Some (behaviour (world_of functions) c))) (λ y. by_test y (same_name y c.name)) f
      where
        by_test : (y : Name) (t : Bool) → Keeps (if t then Some (behaviour (world_of functions) c) else functions y)
        by_test y true = behaviour_keeps (world_of functions) globals_declared h template_keeps c
        by_test y false = h y

    file_keeps : (at : ℕ) → (c : Option CFunction) → Keeps (option_map (behaviour (file_world u templates at)) c)
    file_keeps at None = tt
    file_keeps at (Some c) =
        behaviour_keeps (file_world u templates at) globals_declared (functions_keep (take at u.functions) (λ f. None) (λ f. tt)) template_keeps c

    call_of_file : (at : ℕ) (ts : List Thing) (m : Machine) → Where (OthersStay u m) (run_file u templates at ts m)
    call_of_file at ts m =
        in_place_keeps (file_world u templates at) globals_declared _ (file_keeps at (slice_get u.functions at)) ts m (OthersStay u m) (λ n o. o)

pub other_fields_stay : OtherFieldsStay
other_fields_stay u templates at ts m n lawful e = subst (Where (OthersStay u m)) e (call_of_file u templates lawful at ts m)

pub blocks_keep_others : BlocksKeepOthers
blocks_keep_others u world b global functions templates m n d e = kept.1
  where
    function : (f : Name) → Keeps u (world.functions f)
    function f = keeps_behaviour u (world.functions f) (functions f)

    instruction : (k : ℕ) → Keeps u (world.instructions k)
    instruction k = keeps_behaviour u (world.instructions k) (templates k)

    kept : Kept u m n
    kept = subst (Where (Kept u m)) e (block_keeps u world global function instruction b m d)

-- ---- a closed instance

abbrev IsLawful : Option Behaviour → Type 0
IsLawful None = ⊤
IsLawful (Some f) = KeepsOthers (file_of move_and_set) f.run

abbrev moves_body : CBlock
moves_body = for_l eight (Store I32 (at_l (codes "dst")) (Read32 (at_l (codes "src"))))

-- what an instruction does that moves eight cells, in a world of no names
moves_keep : KeepsOthers (file_of move_and_set) (run_c alone moves_body)
moves_keep = blocks_keep_others (file_of move_and_set) alone moves_body (λ y h. absurd cc) (λ y f h. absurd cc) (λ k f h. absurd cc)

moves_lawful : TemplatesKeepOthers (file_of move_and_set) moves
moves_lawful k f e = subst IsLawful e moves_keep

pub other_fields_instance : OtherFieldsInstance
other_fields_instance = record {
  lawful = moves_lawful;
  is_set = refl;
  stays = refl;
  undeclared = refl;
  hidden = refl;
  changed = refl;
}
