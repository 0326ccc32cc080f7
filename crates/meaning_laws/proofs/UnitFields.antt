-- The fields that the procedures of a unit write, and those that they read before they write them.
use Rattle.std.proofs.Common.{◌≡◌, ℕ, zero, suc, ℤ, pos, Bool, true, false, ◌&&◌, ◌||◌, List, [], ◌∷◌, ◌++◌, Option, Some, None, IfSome, option_map, refl, sym, ap, ap₂, ◌∙◌, subst}
use Rattle.std.specs.Prelude.{slice_get}
use Rattle.exo_tree.specs.Tree.{Cell, Kind, Condition, Argument, ControlArg, ConditionArg, Whole, Window, Param, ParamKind, ControlParam, TensorParam, WindowParam, Procedure}
use Rattle.exo_meaning.specs.Scene.{Scene, then_do, where_true, numbers, extents, strides_seen}
use Rattle.exo_meaning.specs.State.{State, same_index, with_buffer, with_contents, on_scene}
use Rattle.exo_meaning.specs.Calls.{keeps_apart, copied_call, given_all_apart, Callee, Given, GivenNumber, GivenView, given, all_given, truth, all_positive, bind_numbers, bind_buffer, bind_buffers, copy_in, contents, bare, entered, returned, all_hold, run_asserted}
use Rattle.exo_meaning.specs.Run.{call_to, world_of, callee_in, callees}
use Rattle.exo_meaning.specs.Refines.{Both}
use Rattle.exo_meaning.proofs.Both.{both_where}
use Rattle.exo_meaning.proofs.Frame.{if_then, if_map, if_where, any, if_weaken}
use Rattle.meaning_laws.specs.Fields.{HasField, CallsLeave}
use Rattle.meaning_laws.specs.Live.{read_by_condition, read_by_argument, read_by_arguments, live, refield, Agree, SameLive, CallsForget}
use Rattle.meaning_laws.specs.UnitFields.{written_at, written_by, all_written, UnitLeaves, read_by_conditions, read_by_kind, read_by_params, live_before, live_at, all_live, UnitForgets}
use Rattle.meaning_laws.proofs.Parts.{none_some, some_injective}
use Rattle.meaning_laws.proofs.Fields.{run_leaves}
use Rattle.meaning_laws.proofs.Covered.{or_left, or_right}
use Rattle.meaning_laws.proofs.Live.{left_of, right_of, number_live, numbers_live, holds_live, window_live, run_forgets}

-- ---- tables beside the callees

module _ {B : Type 0} (Rel : Callee → B → Type 0) where
  abbrev pub Zip : List Callee → List B → Type 0
  Zip [] [] = Unit {0}
  Zip [] (m ∷ ms) = ⊥
  Zip (c ∷ cs) [] = ⊥
  Zip (c ∷ cs) (m ∷ ms) = Rel c m × Zip cs ms

  pub zip_more : (cs : List Callee) (ms : List B) (c : Callee) (m : B) → Zip cs ms → Rel c m → Zip (cs ++ c ∷ []) (ms ++ m ∷ [])
  zip_more [] [] c m h w = (w, tt)
  zip_more [] (n ∷ ms) c m h w = absurd h
  zip_more (x ∷ cs) [] c m h w = absurd h
  zip_more (x ∷ cs) (n ∷ ms) c m h w = (h.0, zip_more cs ms c m h.1 w)

  -- either both have an entry, or neither has
  pub zip_at : (cs : List Callee) (ms : List B) → Zip cs ms → (k : ℕ) (c : Callee) → slice_get cs k ≡ Some c → (m : B) × (slice_get ms k ≡ Some m) × Rel c m
  zip_at [] ms h zero c e = absurd (none_some e)
  zip_at [] ms h (suc k) c e = absurd (none_some e)
  zip_at (x ∷ cs) [] h k c e = absurd h
  zip_at (x ∷ cs) (m ∷ ms) h zero c e = (m, refl, subst (λ y. Rel y m) (some_injective x c e) h.0)
  zip_at (x ∷ cs) (m ∷ ms) h (suc k) c e = zip_at cs ms h.1 k c e

-- ---- writes

abbrev SameFields : State → State → Type 0
SameFields s t = t.scene.fields ≡ s.scene.fields

module _ (outer : State) where
  copied_fields : (x : ℕ) (cell : Cell) (ds : List ℤ) (g : Given) (s : State) → IfSome (copy_in outer x cell ds g s) (SameFields s)
  copied_fields x cell ds (GivenNumber n) s = tt
  copied_fields x cell ds (GivenView z) s = if_where (SameFields s) (same_index ds (extents z.sides) && all_positive ds) (Some (with_contents x (contents outer.cells z) (on_scene (with_buffer x (record { cell = cell; dims = ds; strides = strides_seen outer.scene z })) s))) refl

  one_fields : (x : ℕ) (kind : ParamKind) (g : Given) (s : State) → IfSome (bind_buffer outer x kind g s) (SameFields s)
  one_fields x (ControlParam kind) g s = refl
  one_fields x (TensorParam cell dims memory) g s = copied_fields x cell (numbers s.scene dims) g s
  one_fields x (WindowParam cell dims memory) g s = copied_fields x cell (numbers s.scene dims) g s

  buffers_fields : (ps : List Param) (gs : List Given) (s : State) → IfSome (bind_buffers outer ps gs s) (SameFields s)
  buffers_fields [] gs s = refl
  buffers_fields (p ∷ ps) [] s = tt
  buffers_fields (p ∷ ps) (g ∷ gs) s = if_then (SameFields s) (SameFields s) (bind_buffer outer p.binder.id p.kind g s) (bind_buffers outer ps gs) (one_fields p.binder.id p.kind g s) (λ t e. if_weaken (SameFields t) (SameFields s) (bind_buffers outer ps gs t) (buffers_fields ps gs t) (λ u k. k ∙ e))

  pub entered_fields : (ps : List Param) (gs : List Given) → IfSome (entered ps gs outer) (SameFields outer)
  entered_fields ps gs = if_then (λ c. Unit {0}) (SameFields outer) (bind_numbers ps gs (λ x. pos 0)) _ (any (bind_numbers ps gs (λ x. pos 0))) (λ c u. buffers_fields ps gs (bare c outer.scene.fields))

abbrev LeavesWell : Callee → (ℕ → Bool) → Type 0
LeavesWell c w = (f : ℕ) → w f ≡ false → (s : State) → IfSome (c.run s) (HasField f s)

call_leaves : (c : Callee) (w : ℕ → Bool) → LeavesWell c w → (f : ℕ) → w f ≡ false → (args : List Argument) (s : State) → IfSome (call_to (Some c) args s) (HasField f s)
call_leaves c w h f k args s = if_where (HasField f s) (keeps_apart c s.scene args) (copied_call c args s) (if_then (λ gs. Unit {0}) (HasField f s) (all_given s.scene args) _ (any (all_given s.scene args)) (λ gs u.
    if_then (SameFields s) (HasField f s) (entered c.procedure.params gs s) _ (entered_fields s c.procedure.params gs) (λ inner e.
    if_map (HasField f inner) (HasField f s) (run_asserted c inner) (returned c gs s) (if_where (HasField f inner) (all_hold inner.scene c.procedure.asserts) (c.run inner) (h f k inner)) (λ t d. d ∙ ap (λ g. g f) e))))

table_leaves : (kinds : ℕ → Kind) (cs : List Callee) (ws : List (ℕ → Bool)) → Zip LeavesWell cs ws → CallsLeave (world_of kinds cs) (written_at ws)
table_leaves kinds cs ws z k f h args s = go (slice_get cs k) refl
  where
    go : (o : Option Callee) → slice_get cs k ≡ o → IfSome (call_to o args s) (HasField f s)
    go None e = tt
    go (Some c) e =
        let m = zip_at LeavesWell cs ws z k c e in
        call_leaves c m.0 m.2 f (ap (λ o. elim o as (λ o. Bool) [ None ↦ false | Some w ↦ w f ]) (sym m.1) ∙ h) args s

all_leave : (kinds : ℕ → Kind) (above : List Callee) (ws : List (ℕ → Bool)) (ps : List Procedure) → Zip LeavesWell above ws → Zip LeavesWell (callees kinds above ps) (all_written ws ps)
all_leave kinds above ws [] z = z
all_leave kinds above ws (p ∷ ps) z = all_leave kinds (above ++ callee_in (world_of kinds above) p ∷ []) (ws ++ written_by (written_at ws) p ∷ []) ps (zip_more LeavesWell above ws (callee_in (world_of kinds above) p) (written_by (written_at ws) p) z (λ f k s. run_leaves f (world_of kinds above) (written_at ws) (table_leaves kinds above ws z) p.body k s))

pub unit_leaves : UnitLeaves
unit_leaves kinds ps = table_leaves kinds (callees kinds [] ps) (all_written [] ps) (all_leave kinds [] [] ps tt)

-- ---- reads before writes

module _ (g : ℕ → ℤ) (s : State) where
  given_live : (a : Argument) → Agree (λ f. read_by_argument f a) s.scene.fields g → given (refield g s).scene a ≡ given s.scene a
  given_live (ControlArg a) h = ap (λ n. Some (GivenNumber n)) (number_live g s.scene a h)
  given_live (ConditionArg c) h = ap (λ t. Some (GivenNumber (truth t))) (holds_live g s.scene c h)
  given_live (Whole x) h = refl
  given_live (Window x coords) h = ap (option_map GivenView) (window_live g s.scene x coords h)

  all_given_live : (args : List Argument) → Agree (λ f. read_by_arguments f args) s.scene.fields g → all_given (refield g s).scene args ≡ all_given s.scene args
  all_given_live [] h = refl
  all_given_live (a ∷ args) h = ap₂ (λ o r. then_do o (λ y. option_map (λ ys. y ∷ ys) r)) (given_live a (left_of g s.scene (λ f. read_by_argument f a) (λ f. read_by_arguments f args) h)) (all_given_live args (right_of g s.scene (λ f. read_by_argument f a) (λ f. read_by_arguments f args) h))

  -- a copy has the same strides and cells
  copied_live : (x : ℕ) (cell : Cell) (ds : List ℤ) (y : Given) (t : State) → copy_in (refield g s) x cell ds y (refield g t) ≡ option_map (refield g) (copy_in s x cell ds y t)
  copied_live x cell ds (GivenNumber n) t = refl
  copied_live x cell ds (GivenView z) t = go (same_index ds (extents z.sides) && all_positive ds)
    where
      go : (test : Bool) → where_true test (Some (with_contents x (contents s.cells z) (on_scene (with_buffer x (record { cell = cell; dims = ds; strides = strides_seen s.scene z })) (refield g t)))) ≡ option_map (refield g) (where_true test (Some (with_contents x (contents s.cells z) (on_scene (with_buffer x (record { cell = cell; dims = ds; strides = strides_seen s.scene z })) t))))
      go true = refl
      go false = refl

  bound_live : (x : ℕ) (kind : ParamKind) (y : Given) (t : State) → Agree (λ f. read_by_kind f kind) t.scene.fields g → bind_buffer (refield g s) x kind y (refield g t) ≡ option_map (refield g) (bind_buffer s x kind y t)
  bound_live x (ControlParam kind) y t h = refl
  bound_live x (TensorParam cell dims memory) y t h = ap (λ ds. copy_in (refield g s) x cell ds y (refield g t)) (numbers_live g t.scene dims h) ∙ copied_live x cell (numbers t.scene dims) y t
  bound_live x (WindowParam cell dims memory) y t h = ap (λ ds. copy_in (refield g s) x cell ds y (refield g t)) (numbers_live g t.scene dims h) ∙ copied_live x cell (numbers t.scene dims) y t

  all_bound_live : (ps : List Param) (gs : List Given) (t : State) → Agree (λ f. read_by_params f ps) t.scene.fields g → bind_buffers (refield g s) ps gs (refield g t) ≡ option_map (refield g) (bind_buffers s ps gs t)
  all_bound_live [] gs t h = refl
  all_bound_live (p ∷ ps) [] t h = refl
  all_bound_live (p ∷ ps) (y ∷ gs) t h =
      ap (λ o. then_do o (bind_buffers (refield g s) ps gs)) (bound_live p.binder.id p.kind y t (left_of g t.scene (λ f. read_by_kind f p.kind) (λ f. read_by_params f ps) h))
      ∙ go (bind_buffer s p.binder.id p.kind y t) (one_fields s p.binder.id p.kind y t) (λ u e. all_bound_live ps gs u (subst (λ k. Agree (λ f. read_by_params f ps) k g) (sym e) (right_of g t.scene (λ f. read_by_kind f p.kind) (λ f. read_by_params f ps) h)))
    where
      go : (o : Option State) → IfSome o (SameFields t) → ((u : State) → SameFields t u → bind_buffers (refield g s) ps gs (refield g u) ≡ option_map (refield g) (bind_buffers s ps gs u)) → then_do (option_map (refield g) o) (bind_buffers (refield g s) ps gs) ≡ option_map (refield g) (then_do o (bind_buffers s ps gs))
      go None e k = refl
      go (Some u) e k = k u e

  entered_live : (ps : List Param) (gs : List Given) → Agree (λ f. read_by_params f ps) s.scene.fields g → entered ps gs (refield g s) ≡ option_map (refield g) (entered ps gs s)
  entered_live ps gs h = go (bind_numbers ps gs (λ x. pos 0))
    where
      go : (o : Option (ℕ → ℤ)) → then_do o (λ control. bind_buffers (refield g s) ps gs (bare control g)) ≡ option_map (refield g) (then_do o (λ control. bind_buffers s ps gs (bare control s.scene.fields)))
      go None = refl
      go (Some c) = all_bound_live ps gs (bare c s.scene.fields) h

all_hold_live : (g : ℕ → ℤ) (scene : Scene) (cs : List Condition) → Agree (λ f. read_by_conditions f cs) scene.fields g → all_hold (record scene { fields = g }) cs ≡ all_hold scene cs
all_hold_live g scene [] h = refl
all_hold_live g scene (c ∷ cs) h = ap₂ (λ a b. a && b) (holds_live g scene c (left_of g scene (λ f. read_by_condition f c) (λ f. read_by_conditions f cs) h)) (all_hold_live g scene cs (right_of g scene (λ f. read_by_condition f c) (λ f. read_by_conditions f cs) h))

-- a procedure, by what is live before a call of it
abbrev ForgetsWell : Callee → (ℕ → Bool → Bool) → Type 0
ForgetsWell c l = (out : ℕ → Bool) (g : ℕ → ℤ) (fields : ℕ → ℤ) → Agree (λ f. l f (out f)) fields g → Agree (λ f. read_by_params f c.procedure.params) fields g × (Agree (λ f. read_by_conditions f c.procedure.asserts) fields g × ((inner : State) → inner.scene.fields ≡ fields → Both (SameLive out) (c.run inner) (c.run (refield g inner))))

call_forgets : (c : Callee) (l : ℕ → Bool → Bool) → ForgetsWell c l → (args : List Argument) (out : ℕ → Bool) (s : State) (g : ℕ → ℤ) → Agree (λ f. read_by_arguments f args || l f (out f)) s.scene.fields g → Both (SameLive out) (call_to (Some c) args s) (call_to (Some c) args (refield g s))
call_forgets c l w args out s g h =
    subst (λ o. Both (SameLive out) (call_to (Some c) args s) (where_true (given_all_apart c.writes c.procedure.params o) (then_do o (λ gs. then_do (entered c.procedure.params gs (refield g s)) (λ inner. option_map (returned c gs (refield g s)) (run_asserted c inner)))))) (sym (all_given_live g s args (left_of g s.scene (λ f. read_by_arguments f args) (λ f. l f (out f)) h)))
    (both_where (SameLive out) (keeps_apart c s.scene args) (copied_call c args s) _ (at_givens (all_given s.scene args)))
  where
    k : Agree (λ f. read_by_params f c.procedure.params) s.scene.fields g × (Agree (λ f. read_by_conditions f c.procedure.asserts) s.scene.fields g × ((inner : State) → inner.scene.fields ≡ s.scene.fields → Both (SameLive out) (c.run inner) (c.run (refield g inner))))
    k = w out g s.scene.fields (right_of g s.scene (λ f. read_by_arguments f args) (λ f. l f (out f)) h)

    at_end : (gs : List Given) (o r : Option State) → Both (SameLive out) o r → Both (SameLive out) (option_map (returned c gs s) o) (option_map (returned c gs (refield g s)) r)
    at_end gs None None b = tt
    at_end gs None (Some v) b = absurd b
    at_end gs (Some u) None b = absurd b
    at_end gs (Some u) (Some v) b = record { fields = b.fields; agree = b.agree; same = ap (returned c gs (refield g s)) b.same }

    asserted : (gs : List Given) (inner : State) → inner.scene.fields ≡ s.scene.fields → Both (SameLive out) (option_map (returned c gs s) (run_asserted c inner)) (option_map (returned c gs (refield g s)) (run_asserted c (refield g inner)))
    asserted gs inner e =
        subst (λ t. Both (SameLive out) (option_map (returned c gs s) (run_asserted c inner)) (option_map (returned c gs (refield g s)) (where_true t (c.run (refield g inner))))) (sym (all_hold_live g inner.scene c.procedure.asserts (subst (λ y. Agree (λ f. read_by_conditions f c.procedure.asserts) y g) (sym e) k.1.0)))
        (go (all_hold inner.scene c.procedure.asserts))
      where
        go : (t : Bool) → Both (SameLive out) (option_map (returned c gs s) (where_true t (c.run inner))) (option_map (returned c gs (refield g s)) (where_true t (c.run (refield g inner))))
        go false = tt
        go true = at_end gs (c.run inner) (c.run (refield g inner)) (k.1.1 inner e)

    at_entered : (gs : List Given) (o : Option State) → IfSome o (SameFields s) → Both (SameLive out) (then_do o (λ inner. option_map (returned c gs s) (run_asserted c inner))) (then_do (option_map (refield g) o) (λ inner. option_map (returned c gs (refield g s)) (run_asserted c inner)))
    at_entered gs None e = tt
    at_entered gs (Some inner) e = asserted gs inner e

    at_givens : (o : Option (List Given)) → Both (SameLive out) (then_do o (λ gs. then_do (entered c.procedure.params gs s) (λ inner. option_map (returned c gs s) (run_asserted c inner)))) (then_do o (λ gs. then_do (entered c.procedure.params gs (refield g s)) (λ inner. option_map (returned c gs (refield g s)) (run_asserted c inner))))
    at_givens None = tt
    at_givens (Some gs) =
        subst (λ o. Both (SameLive out) (then_do (entered c.procedure.params gs s) (λ inner. option_map (returned c gs s) (run_asserted c inner))) (then_do o (λ inner. option_map (returned c gs (refield g s)) (run_asserted c inner)))) (sym (entered_live g s c.procedure.params gs k.0))
        (at_entered gs (entered c.procedure.params gs s) (entered_fields s c.procedure.params gs))

table_forgets : (kinds : ℕ → Kind) (cs : List Callee) (ls : List (ℕ → Bool → Bool)) → Zip ForgetsWell cs ls → CallsForget (world_of kinds cs) (live_at ls)
table_forgets kinds cs ls z k args out s g h = go (slice_get cs k) refl
  where
    go : (o : Option Callee) → slice_get cs k ≡ o → Both (SameLive out) (call_to o args s) (call_to o args (refield g s))
    go None e = tt
    go (Some c) e =
        let m = zip_at ForgetsWell cs ls z k c e in
        call_forgets c m.0 m.2 args out s g (λ f t. h f (ap (λ (o : Option (ℕ → Bool → Bool)). read_by_arguments f args || elim o as (λ o. Bool) [ None ↦ out f | Some l ↦ l f (out f) ]) m.1 ∙ t))

forgets_well : (kinds : ℕ → Kind) (above : List Callee) (ls : List (ℕ → Bool → Bool)) (p : Procedure) → Zip ForgetsWell above ls → ForgetsWell (callee_in (world_of kinds above) p) (live_before (live_at ls) p)
forgets_well kinds above ls p z out g fields h =
    let in_params = λ (f : ℕ). read_by_params f p.params in
    let in_asserts = λ (f : ℕ). read_by_conditions f p.asserts in
    let in_body = λ (f : ℕ). live (live_at ls) f p.body (out f) in (
      λ f k. h f (or_left (in_params f) (in_asserts f || in_body f) k),
      (
        λ f k. h f (or_right (in_params f) (in_asserts f || in_body f) (or_left (in_asserts f) (in_body f) k)),
        λ inner e. run_forgets (world_of kinds above) (live_at ls) (table_forgets kinds above ls z) p.body out inner g (λ f k. ap (λ y. y f) e ∙ h f (or_right (in_params f) (in_asserts f || in_body f) (or_right (in_asserts f) (in_body f) k))),
      ),
    )

all_forget : (kinds : ℕ → Kind) (above : List Callee) (ls : List (ℕ → Bool → Bool)) (ps : List Procedure) → Zip ForgetsWell above ls → Zip ForgetsWell (callees kinds above ps) (all_live ls ps)
all_forget kinds above ls [] z = z
all_forget kinds above ls (p ∷ ps) z = all_forget kinds (above ++ callee_in (world_of kinds above) p ∷ []) (ls ++ live_before (live_at ls) p ∷ []) ps (zip_more ForgetsWell above ls (callee_in (world_of kinds above) p) (live_before (live_at ls) p) z (forgets_well kinds above ls p z))

pub unit_forgets : UnitForgets
unit_forgets kinds ps = table_forgets kinds (callees kinds [] ps) (all_live [] ps) (all_forget kinds [] [] ps tt)
