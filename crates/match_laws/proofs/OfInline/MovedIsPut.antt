-- The callee's expressions as the match has them are those of the inlined body.
use Rattle.std.proofs.Common.{◌≡◌, ℕ, ◌==◌, Bool, true, false, if◌then◌else◌, List, [], ◌∷◌, Option}
use Rattle.std.proofs.Common.{Some, None, IfSome, refl, sym, ap, ap₂, ◌∙◌, true≢false, eqb-true}
use Rattle.std.proofs.Common.{eq-eqb}
use Rattle.exo_tree.specs.Tree.{Control, Lit, Var, Field, StrideOf, Neg, Add, Sub, Mul, Div, Mod}
use Rattle.exo_tree.specs.Tree.{Condition, True, False, Flag, FieldFlag, Lt, Le, Gt, Ge, Eq, And}
use Rattle.exo_tree.specs.Tree.{Or}
use Rattle.exo_tree.specs.Tree.{Argument, ControlArg, ConditionArg, Whole, Window, ParamKind}
use Rattle.exo_tree.specs.Tree.{ControlParam, TensorParam, WindowParam, Param, Block, Procedure}
use Rattle.exo_tree.specs.Passed.{passed_for}
use Rattle.exo_meaning.specs.Inputs.{is_buffer_of}
use Rattle.affine_forms.specs.Forms.{Reading}
use Rattle.affine_forms.proofs.Values.{and_parts}
use Rattle.inplace_laws.specs.Windows.{nth_span, root_in, coords_of}
use Rattle.match_laws.specs.Names.{Names}
use Rattle.match_laws.specs.Moved.{Moving, both, one, moved, moved_condition}
use Rattle.match_laws.specs.Moved.{agree, conditions_agree}
use Rattle.match_laws.specs.Pairs.{Pair, Numbers, Truths, Binders, Own, Access, Unlike}
use Rattle.match_laws.specs.Matched.{to, number_in, truth_in, stride_in, variable_for, stride_for}
use Rattle.match_laws.specs.Matched.{all_pairs}
use Rattle.match_laws.specs.MatchedFits.{Fits, given_names}
use Rattle.match_laws.proofs.MatchedFits.{matched_fits}
use Rattle.exo_meaning.specs.Orders.{Each}
use Rattle.match_laws.specs.Inline.AtOnce.{Put, puts, with_put, put_control, put_condition}
use Rattle.match_laws.specs.Inline.MovedIsPut.{is_of_kind, are_of_kinds, HasBlockIds, MovedIsPut}
use Rattle.match_laws.specs.Inline.MovedIsPut.{Agrees, MatchedAgrees}
use Rattle.match_laws.proofs.OfInline.AtOnce.{Keeps, puts_keep}

-- ---- expressions, by their leaves

module _ (m : Moving) (put : Put)
    (variables : (x : ℕ) → IfSome (m.variable x) (λ f. f ≡ put.variable x))
    (strides : (x k : ℕ) → IfSome (m.stride x k) (λ f. f ≡ put_control put (StrideOf x k)))
    (flags : (x : ℕ) → IfSome (m.flag x) (λ c. c ≡ put.flag x)) where
  one_is : {A B : Type 0} (f : A → B) (o : Option A) (a : A) → IfSome o (λ x. x ≡ a)
      → IfSome (one f o) (λ y. y ≡ f a)
  one_is f None a h = tt
  one_is f (Some x) a h = ap f h

  both_are : {A B C : Type 0} (f : A → B → C) (o : Option A) (p : Option B) (a : A) (b : B)
      → IfSome o (λ x. x ≡ a) → IfSome p (λ y. y ≡ b) → IfSome (both f o p) (λ z. z ≡ f a b)
  both_are f None p a b h k = tt
  both_are f (Some x) None a b h k = tt
  both_are f (Some x) (Some y) a b h k = ap₂ f h k

  pub control_is : (e : Control) → IfSome (moved m e) (λ f. f ≡ put_control put e)
  control_is (Lit n) = refl
  control_is (Var x) = variables x
  control_is (Field f) = refl
  control_is (StrideOf x k) = strides x k
  control_is (Neg a) = one_is Neg (moved m a) (put_control put a) (control_is a)
  control_is (Add a b) =
      both_are Add (moved m a) (moved m b) (put_control put a) (put_control put b) (control_is a)
      (control_is b)
  control_is (Sub a b) =
      both_are Sub (moved m a) (moved m b) (put_control put a) (put_control put b) (control_is a)
      (control_is b)
  control_is (Mul a b) =
      both_are Mul (moved m a) (moved m b) (put_control put a) (put_control put b) (control_is a)
      (control_is b)
  control_is (Div a c) = one_is (λ n. Div n c) (moved m a) (put_control put a) (control_is a)
  control_is (Mod a c) = one_is (λ n. Mod n c) (moved m a) (put_control put a) (control_is a)

  sides_are : (f : Control → Control → Condition) (a b : Control)
      → IfSome (both f (moved m a) (moved m b))
      (λ r. r ≡ f (put_control put a) (put_control put b))
  sides_are f a b =
      both_are f (moved m a) (moved m b) (put_control put a) (put_control put b) (control_is a)
      (control_is b)

  condition_is : (c : Condition) → IfSome (moved_condition m c) (λ r. r ≡ put_condition put c)
  condition_is True = refl
  condition_is False = refl
  condition_is (Flag x) = flags x
  condition_is (FieldFlag f) = refl
  condition_is (Lt a b) = sides_are Lt a b
  condition_is (Le a b) = sides_are Le a b
  condition_is (Gt a b) = sides_are Gt a b
  condition_is (Ge a b) = sides_are Ge a b
  condition_is (Eq a b) = sides_are Eq a b
  condition_is (And c d) =
      both_are And (moved_condition m c) (moved_condition m d) (put_condition put c)
      (put_condition put d) (condition_is c) (condition_is d)
  condition_is (Or c d) =
      both_are Or (moved_condition m c) (moved_condition m d) (put_condition put c)
      (put_condition put d) (condition_is c) (condition_is d)

-- ---- the argument of a parameter

pub same_test : (x y : ℕ) (t : Bool) → (x == y) ≡ t → (y == x) ≡ t
same_test x y true h = eq-eqb y x (sym (eqb-true x y h))
same_test x y false h = go (y == x) refl
  where
    go : (t : Bool) → (y == x) ≡ t → t ≡ false
    go true e = absurd (true≢false (sym (eq-eqb x y (sym (eqb-true y x e))) ∙ h))
    go false e = refl

-- what is said of the first argument, or of the later ones
abbrev pub NumberIs : Put → ℕ → Option Argument → Type 0
NumberIs put x o = IfSome (number_in o) (λ f. f ≡ put.variable x)

abbrev pub TruthIs : Put → ℕ → Option Argument → Type 0
TruthIs put x o = IfSome (truth_in o) (λ c. c ≡ put.flag x)

abbrev pub StrideIs : Put → ℕ → ℕ → Option Argument → Type 0
StrideIs put x k o = IfSome (stride_in o k) (λ f. f ≡ put_control put (StrideOf x k))

abbrev StrideBy : Argument → ℕ → ℕ → Type 0
StrideBy a x k =
    IfSome (stride_in (Some a) k) (λ f. f ≡ StrideOf (root_in a x) (nth_span (coords_of a) k))

pub stride_by : (a : Argument) (x k : ℕ) → StrideBy a x k
stride_by (ControlArg e) x k = tt
stride_by (ConditionArg c) x k = tt
stride_by (Whole y) x k = refl
stride_by (Window y cs) x k = refl

pick : {A : Type 0} (x y : ℕ) (a b : A) → (x == y) ≡ true → a ≡ (if x == y then a else b)
pick x y a b h = ap (λ t. if t then a else b) (sym h)

skip : {A : Type 0} (x y : ℕ) (a b : A) → (x == y) ≡ false → b ≡ (if x == y then a else b)
skip x y a b h = ap (λ t. if t then a else b) (sym h)

then_is : {A : Type 0} (o : Option A) (a b : A) → a ≡ b → IfSome o (λ x. x ≡ a)
    → IfSome o (λ x. x ≡ b)
then_is None a b e h = tt
then_is (Some x) a b e h = h ∙ e

abbrev pub GivenIs : Put → ℕ → Option Argument → Type 0
GivenIs put x o = NumberIs put x o × TruthIs put x o × ((k : ℕ) → StrideIs put x k o)

abbrev pub stride_under : ℕ → ℕ → Argument → Control
stride_under x k n = StrideOf (root_in n x) (nth_span (coords_of n) k)

wrong : {P : Type 0} → false ≡ true → P
wrong h = absurd (true≢false (sym h))

buffer_is : (x y : ℕ) (a : Argument) (put : Put) → (y == x) ≡ true → (k : ℕ)
    → IfSome (stride_in (Some a) k)
    (λ f. f ≡ stride_under y k (if y == x then a else put.name y))
buffer_is x y a put h k =
    then_is (stride_in (Some a) k) (stride_under y k a)
    (stride_under y k (if y == x then a else put.name y))
    (ap (stride_under y k) (pick y x a (put.name y) h)) (stride_by a y k)

pub first_is : (x : ℕ) (kind : ParamKind) (a : Argument) (put : Put) (y : ℕ)
    → is_of_kind kind a ≡ true → (y == x) ≡ true → GivenIs (with_put x kind a put) y (Some a)
first_is x (ControlParam kind) (ControlArg e) put y s h =
    (pick y x e (put.variable y) h, tt, λ k. tt)
first_is x (ControlParam kind) (ConditionArg c) put y s h =
    (tt, pick y x c (put.flag y) h, λ k. tt)
first_is x (ControlParam kind) (Whole z) put y s h = wrong s
first_is x (ControlParam kind) (Window z cs) put y s h = wrong s
first_is x (TensorParam cell dims memory) (ControlArg e) put y s h = wrong s
first_is x (TensorParam cell dims memory) (ConditionArg c) put y s h = wrong s
first_is x (TensorParam cell dims memory) (Whole z) put y s h =
    (tt, tt, buffer_is x y (Whole z) put h)
first_is x (TensorParam cell dims memory) (Window z cs) put y s h =
    (tt, tt, buffer_is x y (Window z cs) put h)
first_is x (WindowParam cell dims memory) (ControlArg e) put y s h = wrong s
first_is x (WindowParam cell dims memory) (ConditionArg c) put y s h = wrong s
first_is x (WindowParam cell dims memory) (Whole z) put y s h =
    (tt, tt, buffer_is x y (Whole z) put h)
first_is x (WindowParam cell dims memory) (Window z cs) put y s h =
    (tt, tt, buffer_is x y (Window z cs) put h)

other_buffer : (x y : ℕ) (a : Argument) (put : Put) (o : Option Argument) → (y == x) ≡ false
    → (k : ℕ) → StrideIs put y k o
    → IfSome (stride_in o k) (λ f. f ≡ stride_under y k (if y == x then a else put.name y))
other_buffer x y a put o h k is =
    then_is (stride_in o k) (stride_under y k (put.name y))
    (stride_under y k (if y == x then a else put.name y))
    (ap (stride_under y k) (skip y x a (put.name y) h)) is

pub later_is : (x : ℕ) (kind : ParamKind) (a : Argument) (put : Put) (y : ℕ) (o : Option Argument)
    → (y == x) ≡ false → GivenIs put y o → GivenIs (with_put x kind a put) y o
later_is x (ControlParam kind) (ControlArg e) put y o h is = (
  then_is (number_in o) (put.variable y) (if y == x then e else put.variable y)
      (skip y x e (put.variable y) h) is.0,
  is.1,
  is.2,
)
later_is x (ControlParam kind) (ConditionArg c) put y o h is = (
  is.0,
  then_is (truth_in o) (put.flag y) (if y == x then c else put.flag y)
      (skip y x c (put.flag y) h) is.1,
  is.2,
)
later_is x (ControlParam kind) (Whole z) put y o h is = is
later_is x (ControlParam kind) (Window z cs) put y o h is = is
later_is x (TensorParam cell dims memory) a put y o h is =
    (is.0, is.1, λ k. other_buffer x y a put o h k (is.2 k))
later_is x (WindowParam cell dims memory) a put y o h is =
    (is.0, is.1, λ k. other_buffer x y a put o h k (is.2 k))

module _ (at : Reading) (theirs : Names) (block : Block) (q : Procedure) where
  given_is : (ps : List Param) (args : List Argument) (x : ℕ) → are_of_kinds ps args ≡ true
      → GivenIs (puts ps args) x (passed_for ps args x)
  given_is [] args x s = (tt, tt, λ k. tt)
  given_is (p ∷ ps) [] x s = (tt, tt, λ k. tt)
  given_is (p ∷ ps) (a ∷ args) x s =
      let fit = and_parts (is_of_kind p.kind a) (are_of_kinds ps args) s in
      go (p.binder.id == x) refl fit.0 (given_is ps args x fit.1)
    where
      go : (t : Bool) → (p.binder.id == x) ≡ t → is_of_kind p.kind a ≡ true
          → GivenIs (puts ps args) x (passed_for ps args x)
          → GivenIs (with_put p.binder.id p.kind a (puts ps args)) x
          (if t then Some a else passed_for ps args x)
      go true e k rest =
          first_is p.binder.id p.kind a (puts ps args) x k (same_test p.binder.id x true e)
      go false e k rest =
          later_is p.binder.id p.kind a (puts ps args) x (passed_for ps args x)
          (same_test p.binder.id x false e) rest

  module _ (args : List Argument) (own : HasBlockIds at theirs block q)
      (s : are_of_kinds q.params args ≡ true) where
    abbrev put : Put
    put = puts q.params args

    abbrev given : ℕ → Option Argument
    given = passed_for q.params args

    keeps : Keeps (λ x. is_buffer_of x q.params) put
    keeps = puts_keep (λ x. is_buffer_of x q.params) q.params args (λ x k. k)

    variable_is : (x : ℕ)
        → IfSome ((given_names at theirs block q args).variable x) (λ f. f ≡ put.variable x)
    variable_is x = go (is_buffer_of x q.params) refl
      where
        own_one : is_buffer_of x q.params ≡ false → (o : Option ℕ) → to at theirs block q x ≡ o
            → IfSome (variable_for o) (λ f. f ≡ put.variable x)
        own_one e None i = tt
        own_one e (Some y) i = ap Var (sym (own x y i)) ∙ sym (keeps.variable x e)

        go : (t : Bool) → is_buffer_of x q.params ≡ t
            → IfSome (if t then number_in (given x) else variable_for (to at theirs block q x))
            (λ f. f ≡ put.variable x)
        go true e = (given_is q.params args x s).0
        go false e = own_one e (to at theirs block q x) refl

    stride_is : (x k : ℕ) → IfSome ((given_names at theirs block q args).stride x k)
        (λ f. f ≡ put_control put (StrideOf x k))
    stride_is x k = go (is_buffer_of x q.params) refl
      where
        own_one : is_buffer_of x q.params ≡ false → (o : Option ℕ) → to at theirs block q x ≡ o
            → IfSome (stride_for o k) (λ f. f ≡ put_control put (StrideOf x k))
        own_one e None i = tt
        own_one e (Some y) i =
            ap (λ z. StrideOf z k) (sym (own x y i))
            ∙ ap (stride_under x k) (sym (keeps.name x e))

        go : (t : Bool) → is_buffer_of x q.params ≡ t
            → IfSome (if t then stride_in (given x) k else stride_for (to at theirs block q x) k)
            (λ f. f ≡ put_control put (StrideOf x k))
        go true e = (given_is q.params args x s).2 k
        go false e = own_one e (to at theirs block q x) refl

    flag_is : (x : ℕ)
        → IfSome ((given_names at theirs block q args).flag x) (λ c. c ≡ put.flag x)
    flag_is x = (given_is q.params args x s).1

pub moved_is_put : MovedIsPut
moved_is_put at theirs block q args own s = (
  control_is (given_names at theirs block q args) (puts q.params args)
      (variable_is at theirs block q args own s) (stride_is at theirs block q args own s)
      (flag_is at theirs block q args own s),
  condition_is (given_names at theirs block q args) (puts q.params args)
      (variable_is at theirs block q args own s) (stride_is at theirs block q args own s)
      (flag_is at theirs block q args own s),
)

-- ---- so the pairs of a match agree

module _ (at : Reading) (to : ℕ → Option ℕ) (m : Moving) (put : Put)
    (own : (x y : ℕ) → to x ≡ Some y → x ≡ y)
    (controls : (e : Control) → IfSome (moved m e) (λ f. f ≡ put_control put e))
    (truths : (c : Condition) → IfSome (moved_condition m c) (λ r. r ≡ put_condition put c)) where
  number_agrees : (e g : Control) (o : Option Control) → IfSome o (λ f. agree at f g ≡ true)
      → IfSome o (λ f. f ≡ put_control put e)
      → IfSome o (λ f. agree at (put_control put e) g ≡ true)
  number_agrees e g None h k = tt
  number_agrees e g (Some f) h k = ap (λ z. agree at z g) (sym k) ∙ h

  truth_agrees : (c d : Condition) (o : Option Condition)
      → IfSome o (λ r. conditions_agree at r d ≡ true) → IfSome o (λ r. r ≡ put_condition put c)
      → IfSome o (λ r. conditions_agree at (put_condition put c) d ≡ true)
  truth_agrees c d None h k = tt
  truth_agrees c d (Some r) h k = ap (λ z. conditions_agree at z d) (sym k) ∙ h

  pair_agrees : (a : Pair) → Fits at to m a → Agrees at m put a
  pair_agrees (Numbers p whole e g) h = number_agrees e g (moved m e) h (controls e)
  pair_agrees (Truths p whole c d) h = truth_agrees c d (moved_condition m c) h (truths c)
  pair_agrees (Binders x y) h = tt
  pair_agrees (Own p x y) h = own x y h
  pair_agrees (Access p x cs y ds) h = tt
  pair_agrees (Unlike p) h = h

  all_agree : (pairs : List Pair) → Each (Fits at to m) pairs → Each (Agrees at m put) pairs
  all_agree [] h = tt
  all_agree (a ∷ pairs) h = (pair_agrees a h.0, all_agree pairs h.1)

pub matched_agrees : MatchedAgrees
matched_agrees at theirs block q args e own s =
    let is = moved_is_put at theirs block q args own s in
    let it = matched_fits at theirs block q args e in
    all_agree at (to at theirs block q) (given_names at theirs block q args) (puts q.params args)
    own is.0 is.1 (all_pairs at theirs block q) it.fits
