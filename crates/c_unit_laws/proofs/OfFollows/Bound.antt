-- What the names of a function's parameters stand for when it is called.
use Rattle.std.proofs.Common.{◌≡◌, ◌==◌, ◌||◌, ℕ, ℤ, Bool, true, false, cond, if◌then◌else◌, List, [], ◌∷◌, length, Option, Some, None, refl, sym, ap, ◌∙◌, subst, true≢false, ⊎_elim, eqb-true, eq-eqb}
use Rattle.std.proofs.lemmas.Bool.{and_from}
use Rattle.exo_tree.specs.Tree.{Param, ParamKind, ControlParam, TensorParam, WindowParam}
use Rattle.exo_meaning.specs.Inputs.{is_buffer_of}
use Rattle.inplace_laws.specs.CallInPlace.{AreDistinct}
use Rattle.c_tree.specs.CTree.{Name}
use Rattle.c_unit_laws.specs.Follows.Machine.Machine.{Done, after, where_good, Pointer, Thing}
use Rattle.c_unit_laws.specs.Follows.Machine.Machine.{IsNumber, IsArray, IsWindow, Object, named}
use Rattle.c_unit_laws.specs.Follows.Machine.Machine.{same_name, holds_cells}
use Rattle.c_unit_laws.specs.Follows.Machine.CRun.{bind_formal, bind_formals}
use Rattle.c_lowering.specs.Made.Lowered.{Naming, Forms, NoForm, form_of, param_forms}
use Rattle.c_lowering.specs.Made.LoweredUnit.{formal_of, formals_of}
use Rattle.c_unit_laws.specs.Follows.Simulation.{Ground}
use Rattle.c_unit_laws.specs.Follows.Good.{AreNamedApart}
use Rattle.c_unit_laws.proofs.OfFollows.Scopes.{same_name_self}

-- ---- things that parameters take

abbrev pub Suits : (ℕ → Option Object) → ParamKind → Thing → Type 0
Suits objects (ControlParam kind) t = (n : ℤ) × (t ≡ IsNumber n)
Suits objects (TensorParam cell dims memory) t = (p : Pointer) × (t ≡ IsArray p) × (holds_cells (objects p.object) cell ≡ true)
Suits objects (WindowParam cell dims memory) t = (p : Pointer) × (strides : List ℤ) × (t ≡ IsWindow p strides) × (holds_cells (objects p.object) cell ≡ true) × (length strides ≡ length dims)

abbrev pub AreSuited : (ℕ → Option Object) → List Param → List Thing → Type 0
AreSuited objects [] [] = Unit {0}
AreSuited objects [] (t ∷ ts) = ⊥
AreSuited objects (p ∷ ps) [] = ⊥
AreSuited objects (p ∷ ps) (t ∷ ts) = Suits objects p.kind t × AreSuited objects ps ts

abbrev pub named_by : Naming → List Param → List Thing → (Name → Option Thing) → Name → Option Thing
named_by naming [] ts names = names
named_by naming (p ∷ ps) [] names = names
named_by naming (p ∷ ps) (t ∷ ts) names = named_by naming ps ts (named names (naming.binder p.binder.id) (Some t))

kind_binds : (objects : ℕ → Option Object) (kind : ParamKind) (x : Name) (t : Thing) (names : Name → Option Thing) → Suits objects kind t → bind_formal objects (formal_of kind x) t names ≡ Done (named names x (Some t))
kind_binds objects (ControlParam kind) x t names h = subst (λ z. bind_formal objects (formal_of (ControlParam kind) x) z names ≡ Done (named names x (Some z))) (sym h.1) refl
kind_binds objects (TensorParam cell dims memory) x t names h =
    subst (λ z. bind_formal objects (formal_of (TensorParam cell dims memory) x) z names ≡ Done (named names x (Some z))) (sym h.1)
    (ap (λ c. where_good c (Done (named names x (Some (IsArray h.0))))) h.2)
kind_binds objects (WindowParam cell dims memory) x t names h =
    subst (λ z. bind_formal objects (formal_of (WindowParam cell dims memory) x) z names ≡ Done (named names x (Some z))) (sym h.2)
    (ap (λ c. after (where_good c (Done (IsWindow h.0 h.1))) (λ z. Done (named names x (Some z)))) (and_from (holds_cells (objects h.0.object) cell) (length h.1 == length dims) h.3 (eq-eqb (length h.1) (length dims) h.4)))

pub formals_bind : (naming : Naming) (objects : ℕ → Option Object) (ps : List Param) (ts : List Thing) (names : Name → Option Thing) → AreSuited objects ps ts → bind_formals objects (formals_of naming ps) ts names ≡ Done (named_by naming ps ts names)
formals_bind naming objects [] [] names h = refl
formals_bind naming objects [] (t ∷ ts) names h = absurd h
formals_bind naming objects (p ∷ ps) [] names h = absurd h
formals_bind naming objects (p ∷ ps) (t ∷ ts) names h =
    ap (λ o. after o (bind_formals objects (formals_of naming ps) ts)) (kind_binds objects p.kind (naming.binder p.binder.id) t names h.0)
    ∙ formals_bind naming objects ps ts (named names (naming.binder p.binder.id) (Some t)) h.1

-- ---- what each name stands for

abbrev pub AreOther : Naming → Name → List Param → Type 0
AreOther naming y [] = Unit {0}
AreOther naming y (p ∷ ps) = (same_name y (naming.binder p.binder.id) ≡ false) × AreOther naming y ps

-- no two parameters have one C name
abbrev pub NamesDiffer : Naming → List Param → Type 0
NamesDiffer naming [] = Unit {0}
NamesDiffer naming (p ∷ ps) = AreOther naming (naming.binder p.binder.id) ps × NamesDiffer naming ps

pub bound_elsewhere : (naming : Naming) (ps : List Param) (ts : List Thing) (names : Name → Option Thing) (y : Name) → AreOther naming y ps → named_by naming ps ts names y ≡ names y
bound_elsewhere naming [] ts names y h = refl
bound_elsewhere naming (p ∷ ps) [] names y h = refl
bound_elsewhere naming (p ∷ ps) (t ∷ ts) names y h = bound_elsewhere naming ps ts (named names (naming.binder p.binder.id) (Some t)) y h.1 ∙ ap (λ b. cond b (Some t) (names y)) h.0

-- the thing of the first parameter of that number
abbrev pub thing_of : List Param → List Thing → ℕ → Option Thing
thing_of [] ts x = None
thing_of (p ∷ ps) [] x = None
thing_of (p ∷ ps) (t ∷ ts) x = if x == p.binder.id then Some t else thing_of ps ts x

pub bound_here : (naming : Naming) (objects : ℕ → Option Object) (ps : List Param) (ts : List Thing) (names : Name → Option Thing) → AreSuited objects ps ts → NamesDiffer naming ps → (x : ℕ) → is_buffer_of x ps ≡ true → named_by naming ps ts names (naming.binder x) ≡ thing_of ps ts x
bound_here naming objects [] ts names h d x i = absurd (true≢false (sym i))
bound_here naming objects (p ∷ ps) [] names h d x i = absurd h
bound_here naming objects (p ∷ ps) (t ∷ ts) names h d x i = pick (x == p.binder.id) refl i (bound_here naming objects ps ts (named names (naming.binder p.binder.id) (Some t)) h.1 d.1 x)
  where
    pick : (b : Bool) → (x == p.binder.id) ≡ b → (b || is_buffer_of x ps) ≡ true → (is_buffer_of x ps ≡ true → named_by naming ps ts (named names (naming.binder p.binder.id) (Some t)) (naming.binder x) ≡ thing_of ps ts x) → named_by naming ps ts (named names (naming.binder p.binder.id) (Some t)) (naming.binder x) ≡ cond b (Some t) (thing_of ps ts x)
    pick true e j rest =
        ap (λ y. named_by naming ps ts (named names (naming.binder p.binder.id) (Some t)) (naming.binder y)) (eqb-true x p.binder.id e)
        ∙ bound_elsewhere naming ps ts (named names (naming.binder p.binder.id) (Some t)) (naming.binder p.binder.id) d.0
        ∙ ap (λ b. cond b (Some t) (names (naming.binder p.binder.id))) (same_name_self (naming.binder p.binder.id))
    pick false e j rest = rest j

-- ---- from names that differ in scope

form_there : (kind : ParamKind) → form_of kind ≡ NoForm → ⊥
form_there (ControlParam kind) e = cc
form_there (TensorParam cell dims memory) e = cc
form_there (WindowParam cell dims memory) e = cc

-- a parameter is in scope
pub param_there : (ps : List Param) (x : ℕ) → is_buffer_of x ps ≡ true → param_forms ps x ≡ NoForm → ⊥
param_there [] x i e = true≢false (sym i)
param_there (p ∷ ps) x i e = pick (x == p.binder.id) i e (param_there ps x)
  where
    pick : (b : Bool) → (b || is_buffer_of x ps) ≡ true → cond b (form_of p.kind) (param_forms ps x) ≡ NoForm → (is_buffer_of x ps ≡ true → param_forms ps x ≡ NoForm → ⊥) → ⊥
    pick true j f rest = form_there p.kind f
    pick false j f rest = rest j f

module _ (g : Ground) (forms : Forms) (apart : AreNamedApart g forms) where
  others_differ : (x : ℕ) (ps : List Param) → (forms x ≡ NoForm → ⊥) → ((q : ℕ) → is_buffer_of q ps ≡ true → forms q ≡ NoForm → ⊥) → is_buffer_of x ps ≡ false → AreOther g.naming (g.naming.binder x) ps
  others_differ x [] h there d = tt
  others_differ x (p ∷ ps) h there d = (differ, others_differ x ps h (λ q i. there q (later q i)) (rest_of (x == p.binder.id) (is_buffer_of x ps) d))
    where
      rest_of : (a b : Bool) → (a || b) ≡ false → b ≡ false
      rest_of true b e = absurd (true≢false e)
      rest_of false b e = e

      first_of : (a b : Bool) → (a || b) ≡ false → a ≡ false
      first_of true b e = absurd (true≢false e)
      first_of false b e = refl

      later : (q : ℕ) → is_buffer_of q ps ≡ true → is_buffer_of q (p ∷ ps) ≡ true
      later q i = or_right (q == p.binder.id) (is_buffer_of q ps) i
        where
          or_right : (a b : Bool) → b ≡ true → (a || b) ≡ true
          or_right true b e = refl
          or_right false b e = e

      itself : is_buffer_of p.binder.id (p ∷ ps) ≡ true
      itself = ap (λ b. b || is_buffer_of p.binder.id ps) (eq-eqb p.binder.id p.binder.id refl)

      differ : same_name (g.naming.binder x) (g.naming.binder p.binder.id) ≡ false
      differ =
          ⊎_elim (λ e. absurd (h e))
          (λ o. ⊎_elim (λ e. absurd (there p.binder.id itself e)) (λ i. ⊎_elim (λ e. absurd (true≢false (sym (eq-eqb x p.binder.id e) ∙ first_of (x == p.binder.id) (is_buffer_of x ps) d))) (λ e. e) i) o)
          (apart.others x p.binder.id)

pub names_differ : (g : Ground) (forms : Forms) → AreNamedApart g forms → (ps : List Param) → ((q : ℕ) → is_buffer_of q ps ≡ true → forms q ≡ NoForm → ⊥) → AreDistinct ps → NamesDiffer g.naming ps
names_differ g forms apart [] there d = tt
names_differ g forms apart (p ∷ ps) there d = (others_differ g forms apart p.binder.id ps (there p.binder.id itself) (λ q i. there q (later q i)) d.0, names_differ g forms apart ps (λ q i. there q (later q i)) d.1)
  where
    itself : is_buffer_of p.binder.id (p ∷ ps) ≡ true
    itself = ap (λ b. b || is_buffer_of p.binder.id ps) (eq-eqb p.binder.id p.binder.id refl)

    or_right : (a b : Bool) → b ≡ true → (a || b) ≡ true
    or_right true b e = refl
    or_right false b e = e

    later : (q : ℕ) → is_buffer_of q ps ≡ true → is_buffer_of q (p ∷ ps) ≡ true
    later q i = or_right (q == p.binder.id) (is_buffer_of q ps) i

-- ---- names of no parameter

-- such a name stands for what it did
pub params_other : (naming : Naming) (forms : Forms) (y : Name) → ((x : ℕ) → (forms x ≡ NoForm → ⊥) → same_name y (naming.binder x) ≡ false) → (ps : List Param) → ((q : ℕ) → is_buffer_of q ps ≡ true → forms q ≡ NoForm → ⊥) → AreOther naming y ps
params_other naming forms y other [] there = tt
params_other naming forms y other (p ∷ ps) there = (other p.binder.id (there p.binder.id itself), params_other naming forms y other ps (λ q i. there q (or_right (q == p.binder.id) (is_buffer_of q ps) i)))
  where
    itself : is_buffer_of p.binder.id (p ∷ ps) ≡ true
    itself = ap (λ b. b || is_buffer_of p.binder.id ps) (eq-eqb p.binder.id p.binder.id refl)

    or_right : (a b : Bool) → b ≡ true → (a || b) ≡ true
    or_right true b e = refl
    or_right false b e = e
