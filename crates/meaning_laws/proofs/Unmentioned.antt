-- Names that a block whose names are in scope does not mention.
use Rattle.std.proofs.Common.{◌≡◌, ℕ, ◌==◌, ◌&&◌, ◌||◌, not, Bool, true, false, List, [], ◌∷◌, refl, sym, true≢false, eq-eqb}
use Rattle.exo_tree.specs.Tree.{Control, Lit, Var, Field, StrideOf, Neg, Add, Sub, Mul, Div, Mod, Condition, True, False, Flag, FieldFlag, Lt, Le, Gt, Ge, Eq, And, Or, Datum, Const, Read, Negated, Relu, Plus, Minus, Times, Select, Coord, At, Span, Argument, ControlArg, ConditionArg, Whole, Window, Statement, Assign, Reduce, Config, Pass, If, For, Alloc, View, Call, Block, end, next}
use Rattle.exo_meaning.specs.Unseen.{in_control, in_controls, in_condition, in_datum, in_coords, in_argument, in_arguments, in_statement, in_block}
use Rattle.exo_meaning.proofs.Frame.{or_parts}
use Rattle.meaning_laws.specs.Sound.{binds}
use Rattle.meaning_laws.specs.Scoped.{is_not, is_scoped, step_is_scoped, has_binder, step_has_binder, UnmentionedLaw}
use Rattle.meaning_laws.proofs.Substitute.{and_parts}
use Rattle.meaning_laws.proofs.Facts.{or_left, or_right}
use Rattle.meaning_laws.proofs.Scoped.{not_true, not_false, or_elim, both_false}

-- fewer hidden names
module _ (more fewer : ℕ → Bool) (less : (x : ℕ) → more x ≡ false → fewer x ≡ false) where
  two : (a b c d : Bool) → (a || b) ≡ false → (a ≡ false → c ≡ false) → (b ≡ false → d ≡ false) → (c || d) ≡ false
  two a b c d h f g = let p = or_parts a b h in both_false c d (f p.0) (g p.1)

  control : (a : Control) → in_control more a ≡ false → in_control fewer a ≡ false
  control (Lit n) h = refl
  control (Var x) h = less x h
  control (Field f) h = refl
  control (StrideOf x k) h = less x h
  control (Neg a) h = control a h
  control (Add a b) h = two (in_control more a) (in_control more b) (in_control fewer a) (in_control fewer b) h (control a) (control b)
  control (Sub a b) h = two (in_control more a) (in_control more b) (in_control fewer a) (in_control fewer b) h (control a) (control b)
  control (Mul a b) h = two (in_control more a) (in_control more b) (in_control fewer a) (in_control fewer b) h (control a) (control b)
  control (Div a c) h = control a h
  control (Mod a c) h = control a h

  controls : (as' : List Control) → in_controls more as' ≡ false → in_controls fewer as' ≡ false
  controls [] h = refl
  controls (a ∷ as') h = two (in_control more a) (in_controls more as') (in_control fewer a) (in_controls fewer as') h (control a) (controls as')

  sides : (a b : Control) → (in_control more a || in_control more b) ≡ false → (in_control fewer a || in_control fewer b) ≡ false
  sides a b h = two (in_control more a) (in_control more b) (in_control fewer a) (in_control fewer b) h (control a) (control b)

  condition : (c : Condition) → in_condition more c ≡ false → in_condition fewer c ≡ false
  condition True h = refl
  condition False h = refl
  condition (Flag x) h = less x h
  condition (FieldFlag f) h = refl
  condition (Lt a b) h = sides a b h
  condition (Le a b) h = sides a b h
  condition (Gt a b) h = sides a b h
  condition (Ge a b) h = sides a b h
  condition (Eq a b) h = sides a b h
  condition (And c d) h = two (in_condition more c) (in_condition more d) (in_condition fewer c) (in_condition fewer d) h (condition c) (condition d)
  condition (Or c d) h = two (in_condition more c) (in_condition more d) (in_condition fewer c) (in_condition fewer d) h (condition c) (condition d)

  datum : (d : Datum) → in_datum more d ≡ false → in_datum fewer d ≡ false
  datum (Const n) h = refl
  datum (Read x is) h = two (more x) (in_controls more is) (fewer x) (in_controls fewer is) h (less x) (controls is)
  datum (Negated a) h = datum a h
  datum (Relu a) h = datum a h
  datum (Plus a b) h = two (in_datum more a) (in_datum more b) (in_datum fewer a) (in_datum fewer b) h (datum a) (datum b)
  datum (Minus a b) h = two (in_datum more a) (in_datum more b) (in_datum fewer a) (in_datum fewer b) h (datum a) (datum b)
  datum (Times a b) h = two (in_datum more a) (in_datum more b) (in_datum fewer a) (in_datum fewer b) h (datum a) (datum b)
  datum (Select a b c d) h =
      let p = or_parts (in_datum more a) (in_datum more b || (in_datum more c || in_datum more d)) h in
      let q = or_parts (in_datum more b) (in_datum more c || in_datum more d) p.1 in
      let r = or_parts (in_datum more c) (in_datum more d) q.1 in
      both_false (in_datum fewer a) (in_datum fewer b || (in_datum fewer c || in_datum fewer d)) (datum a p.0) (both_false (in_datum fewer b) (in_datum fewer c || in_datum fewer d) (datum b q.0) (both_false (in_datum fewer c) (in_datum fewer d) (datum c r.0) (datum d r.1)))

  coords : (cs : List Coord) → in_coords more cs ≡ false → in_coords fewer cs ≡ false
  coords [] h = refl
  coords (At a ∷ cs) h = two (in_control more a) (in_coords more cs) (in_control fewer a) (in_coords fewer cs) h (control a) (coords cs)
  coords (Span a b ∷ cs) h =
      let p = or_parts (in_control more a) (in_control more b || in_coords more cs) h in
      both_false (in_control fewer a) (in_control fewer b || in_coords fewer cs) (control a p.0) (two (in_control more b) (in_coords more cs) (in_control fewer b) (in_coords fewer cs) p.1 (control b) (coords cs))

  argument : (a : Argument) → in_argument more a ≡ false → in_argument fewer a ≡ false
  argument (ControlArg a) h = control a h
  argument (ConditionArg c) h = condition c h
  argument (Whole x) h = less x h
  argument (Window x cs) h = two (more x) (in_coords more cs) (fewer x) (in_coords fewer cs) h (less x) (coords cs)

  arguments : (as' : List Argument) → in_arguments more as' ≡ false → in_arguments fewer as' ≡ false
  arguments [] h = refl
  arguments (a ∷ as') h = two (in_argument more a) (in_arguments more as') (in_argument fewer a) (in_arguments fewer as') h (argument a) (arguments as')

bound_less : (bound hidden : ℕ → Bool) → ((x : ℕ) → bound x ≡ true → hidden x ≡ false) → (x : ℕ) → is_not bound x ≡ false → hidden x ≡ false
bound_less bound hidden k x h = k x (not_false (bound x) h)

store_unmentioned : (bound hidden : ℕ → Bool) (x : ℕ) (is : List Control) (e : Datum) → (bound x && not (in_controls (is_not bound) is || in_datum (is_not bound) e)) ≡ true → ((x : ℕ) → bound x ≡ true → hidden x ≡ false) → (hidden x || (in_controls hidden is || in_datum hidden e)) ≡ false
store_unmentioned bound hidden x is e h k =
    let p = and_parts (bound x) (not (in_controls (is_not bound) is || in_datum (is_not bound) e)) h in
    let q = or_parts (in_controls (is_not bound) is) (in_datum (is_not bound) e) (not_true (in_controls (is_not bound) is || in_datum (is_not bound) e) p.1) in
    both_false (hidden x) (in_controls hidden is || in_datum hidden e) (k x p.0) (both_false (in_controls hidden is) (in_datum hidden e) (controls (is_not bound) hidden (bound_less bound hidden k) is q.0) (datum (is_not bound) hidden (bound_less bound hidden k) e q.1))

step_binds : (a : Statement) (x : ℕ) → binds a x ≡ true → step_has_binder a x ≡ true
step_binds (Assign y is e) x h = h
step_binds (Reduce y is e) x h = h
step_binds (Config f a) x h = h
step_binds Pass x h = h
step_binds (If c a b) x h = absurd (true≢false (sym h))
step_binds (For i lo hi b) x h = absurd (true≢false (sym h))
step_binds (Alloc y cell dims memory) x h = h
step_binds (View w y cs) x h = h
step_binds (Call n args) x h = h

module _ (hidden : ℕ → Bool) where
  mutual
    unmentioned : (b : Block) (bound : ℕ → Bool) → is_scoped bound b ≡ true → ((x : ℕ) → bound x ≡ true → hidden x ≡ false) → ((x : ℕ) → has_binder b x ≡ true → hidden x ≡ false) → in_block hidden b ≡ false
    unmentioned end bound h k j = refl
    unmentioned (next a b) bound h k j =
        let p = and_parts (step_is_scoped bound a) (is_scoped (λ y. binds a y || bound y) b) h in
        both_false (in_statement hidden a) (in_block hidden b)
        (step_unmentioned a bound p.0 k (λ x e. j x (or_left (step_has_binder a x) (has_binder b x) e)))
        (unmentioned b (λ y. binds a y || bound y) p.1 (λ x e. or_elim (binds a x) (bound x) e (λ i. j x (or_left (step_has_binder a x) (has_binder b x) (step_binds a x i))) (k x)) (λ x e. j x (or_right (step_has_binder a x) (has_binder b x) e)))

    step_unmentioned : (a : Statement) (bound : ℕ → Bool) → step_is_scoped bound a ≡ true → ((x : ℕ) → bound x ≡ true → hidden x ≡ false) → ((x : ℕ) → step_has_binder a x ≡ true → hidden x ≡ false) → in_statement hidden a ≡ false
    step_unmentioned (Assign x is e) bound h k j = store_unmentioned bound hidden x is e h k
    step_unmentioned (Reduce x is e) bound h k j = store_unmentioned bound hidden x is e h k
    step_unmentioned (Config f a) bound h k j = argument (is_not bound) hidden (bound_less bound hidden k) a (not_true (in_argument (is_not bound) a) h)
    step_unmentioned Pass bound h k j = refl
    step_unmentioned (If c a b) bound h k j =
        let p = and_parts (not (in_condition (is_not bound) c)) (is_scoped bound a && is_scoped bound b) h in
        let q = and_parts (is_scoped bound a) (is_scoped bound b) p.1 in
        both_false (in_condition hidden c) (in_block hidden a || in_block hidden b) (condition (is_not bound) hidden (bound_less bound hidden k) c (not_true (in_condition (is_not bound) c) p.0))
        (both_false (in_block hidden a) (in_block hidden b) (unmentioned a bound q.0 k (λ x e. j x (or_left (has_binder a x) (has_binder b x) e))) (unmentioned b bound q.1 k (λ x e. j x (or_right (has_binder a x) (has_binder b x) e))))
    step_unmentioned (For i lo hi b) bound h k j =
        let q = and_parts (not (bound i.id)) (not (in_control (is_not bound) lo || in_control (is_not bound) hi) && is_scoped (λ y. (y == i.id) || bound y) b) h in
        let r = and_parts (not (in_control (is_not bound) lo || in_control (is_not bound) hi)) (is_scoped (λ y. (y == i.id) || bound y) b) q.1 in
        let n = or_parts (in_control (is_not bound) lo) (in_control (is_not bound) hi) (not_true (in_control (is_not bound) lo || in_control (is_not bound) hi) r.0) in
        both_false (hidden i.id) (in_control hidden lo || (in_control hidden hi || in_block hidden b)) (j i.id (or_left (i.id == i.id) (has_binder b i.id) (eq-eqb i.id i.id refl)))
        (both_false (in_control hidden lo) (in_control hidden hi || in_block hidden b) (control (is_not bound) hidden (bound_less bound hidden k) lo n.0)
        (both_false (in_control hidden hi) (in_block hidden b) (control (is_not bound) hidden (bound_less bound hidden k) hi n.1)
        (unmentioned b (λ y. (y == i.id) || bound y) r.1 (λ x e. or_elim (x == i.id) (bound x) e (λ z. j x (or_left (x == i.id) (has_binder b x) z)) (k x)) (λ x e. j x (or_right (x == i.id) (has_binder b x) e)))))
    step_unmentioned (Alloc x cell dims memory) bound h k j =
        let p = and_parts (not (bound x.id)) (not (in_controls (is_not bound) dims)) h in
        both_false (hidden x.id) (in_controls hidden dims) (j x.id (eq-eqb x.id x.id refl)) (controls (is_not bound) hidden (bound_less bound hidden k) dims (not_true (in_controls (is_not bound) dims) p.1))
    step_unmentioned (View w x cs) bound h k j =
        let p = and_parts (not (bound w.id)) (bound x && not (in_coords (is_not bound) cs)) h in
        let q = and_parts (bound x) (not (in_coords (is_not bound) cs)) p.1 in
        both_false (hidden w.id) (hidden x || in_coords hidden cs) (j w.id (eq-eqb w.id w.id refl)) (both_false (hidden x) (in_coords hidden cs) (k x q.0) (coords (is_not bound) hidden (bound_less bound hidden k) cs (not_true (in_coords (is_not bound) cs) q.1)))
    step_unmentioned (Call n args) bound h k j = arguments (is_not bound) hidden (bound_less bound hidden k) args (not_true (in_arguments (is_not bound) args) h)

pub unmentioned_law : UnmentionedLaw
unmentioned_law bound hidden b h k j = unmentioned hidden b bound h k j
