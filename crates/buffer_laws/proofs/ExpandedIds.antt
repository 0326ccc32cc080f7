-- A window of a buffer in the place of a name, under another id for the buffer.
use Rattle.std.proofs.Common.{◌≡◌, ℕ, ◌==◌, ◌||◌, Bool, true, false, cond, List, [], ◌∷◌, refl}
use Rattle.std.proofs.Common.{ap, ap₂, ◌∙◌}
use Rattle.exo_tree.specs.Tree.{Binder, Control, Lit, Var, Field, StrideOf, Neg, Add, Sub, Mul, Div}
use Rattle.exo_tree.specs.Tree.{Mod}
use Rattle.exo_tree.specs.Tree.{Condition, True, False, Flag, FieldFlag, Lt, Le, Gt, Ge, Eq, And}
use Rattle.exo_tree.specs.Tree.{Or}
use Rattle.exo_tree.specs.Tree.{Datum, Const, Read, Negated, Relu, Plus, Minus, Times, Select}
use Rattle.exo_tree.specs.Tree.{Coord, At, Span, Argument, ControlArg, ConditionArg, Whole, Window}
use Rattle.exo_tree.specs.Tree.{Statement, Assign, Reduce, Config, Pass, If, For, Alloc, View, Call}
use Rattle.exo_tree.specs.Tree.{Block, end, next}
use Rattle.exo_tree.specs.Renaming as tree
use Rattle.exo_meaning.specs.Unseen as seen
use Rattle.exo_meaning.proofs.Frame.{or_parts}
use Rattle.inplace_laws.specs.Windows as windows

-- ids that stay
module _ (to : ℕ → ℕ) (moved : ℕ → Bool) (stays : (y : ℕ) → moved y ≡ false → to y ≡ y) where
  pub control_stays : (e : Control) → seen.in_control moved e ≡ false → tree.re_control to e ≡ e
  control_stays (Lit n) h = refl
  control_stays (Var y) h = ap Var (stays y h)
  control_stays (Field f) h = refl
  control_stays (StrideOf y k) h = ap (λ z. StrideOf z k) (stays y h)
  control_stays (Neg e) h = ap Neg (control_stays e h)
  control_stays (Add e f) h =
      let p = or_parts (seen.in_control moved e) (seen.in_control moved f) h in
      ap₂ Add (control_stays e p.0) (control_stays f p.1)
  control_stays (Sub e f) h =
      let p = or_parts (seen.in_control moved e) (seen.in_control moved f) h in
      ap₂ Sub (control_stays e p.0) (control_stays f p.1)
  control_stays (Mul e f) h =
      let p = or_parts (seen.in_control moved e) (seen.in_control moved f) h in
      ap₂ Mul (control_stays e p.0) (control_stays f p.1)
  control_stays (Div e c) h = ap (λ z. Div z c) (control_stays e h)
  control_stays (Mod e c) h = ap (λ z. Mod z c) (control_stays e h)

  pub controls_stay : (es : List Control) → seen.in_controls moved es ≡ false
      → tree.re_controls to es ≡ es
  controls_stay [] h = refl
  controls_stay (e ∷ es) h =
      let p = or_parts (seen.in_control moved e) (seen.in_controls moved es) h in
      ap₂ ◌∷◌ (control_stays e p.0) (controls_stay es p.1)

  coords_stay : (cs : List Coord) → seen.in_coords moved cs ≡ false → tree.re_coords to cs ≡ cs
  coords_stay [] h = refl
  coords_stay (At u ∷ cs) h =
      let p = or_parts (seen.in_control moved u) (seen.in_coords moved cs) h in
      ap₂ (λ w ds. At w ∷ ds) (control_stays u p.0) (coords_stay cs p.1)
  coords_stay (Span u v ∷ cs) h =
      let p = or_parts (seen.in_control moved u) _ h in
      let q = or_parts (seen.in_control moved v) (seen.in_coords moved cs) p.1 in
      ap₂ (λ w ds. Span w (tree.re_control to v) ∷ ds) (control_stays u p.0) (coords_stay cs q.1)
      ∙ ap (λ w. Span u w ∷ cs) (control_stays v q.0)

  -- the indices of a window and its coordinates
  shifted_stays : (cs : List Coord) (is : List Control) → seen.in_coords moved cs ≡ false
      → tree.re_controls to (windows.shifted cs is)
      ≡ windows.shifted cs (tree.re_controls to is)
  shifted_stays [] is h = refl
  shifted_stays (At u ∷ cs) is h =
      let p = or_parts (seen.in_control moved u) (seen.in_coords moved cs) h in
      ap₂ ◌∷◌ (control_stays u p.0) (shifted_stays cs is p.1)
  shifted_stays (Span u v ∷ cs) [] h = refl
  shifted_stays (Span u v ∷ cs) (i ∷ is) h =
      let p = or_parts (seen.in_control moved u) _ h in
      let q = or_parts (seen.in_control moved v) (seen.in_coords moved cs) p.1 in
      ap₂ (λ w js. Add w (tree.re_control to i) ∷ js) (control_stays u p.0)
      (shifted_stays cs is q.1)

  joined_stays : (cs ds : List Coord) → seen.in_coords moved cs ≡ false
      → tree.re_coords to (windows.joined_coords cs ds)
      ≡ windows.joined_coords cs (tree.re_coords to ds)
  joined_stays [] ds h = refl
  joined_stays (At u ∷ cs) ds h =
      let p = or_parts (seen.in_control moved u) (seen.in_coords moved cs) h in
      ap₂ (λ w js. At w ∷ js) (control_stays u p.0) (joined_stays cs ds p.1)
  joined_stays (Span u v ∷ cs) [] h = refl
  joined_stays (Span u v ∷ cs) (At d ∷ ds) h =
      let p = or_parts (seen.in_control moved u) _ h in
      let q = or_parts (seen.in_control moved v) (seen.in_coords moved cs) p.1 in
      ap₂ (λ w js. At (Add w (tree.re_control to d)) ∷ js) (control_stays u p.0)
      (joined_stays cs ds q.1)
  joined_stays (Span u v ∷ cs) (Span d e ∷ ds) h =
      let p = or_parts (seen.in_control moved u) _ h in
      let q = or_parts (seen.in_control moved v) (seen.in_coords moved cs) p.1 in
      ap₂ (λ w js. Span (Add w (tree.re_control to d)) (Add w (tree.re_control to e)) ∷ js)
      (control_stays u p.0) (joined_stays cs ds q.1)

-- ---- what a window's indices and coordinates hold of those that it is given

module _ (new : ℕ → Bool) where
  in_shifted : (cs : List Coord) (is : List Control)
      → seen.in_controls new (windows.shifted cs is) ≡ false → seen.in_controls new is ≡ false
  in_shifted [] is h = h
  in_shifted (At u ∷ cs) is h = in_shifted cs is (or_parts (seen.in_control new u) _ h).1
  in_shifted (Span u v ∷ cs) [] h = refl
  in_shifted (Span u v ∷ cs) (i ∷ is) h =
      let p = or_parts (seen.in_control new u || seen.in_control new i)
      (seen.in_controls new (windows.shifted cs is)) h in
      ap₂ ◌||◌ (or_parts (seen.in_control new u) (seen.in_control new i) p.0).1
      (in_shifted cs is p.1)

  in_joined : (cs ds : List Coord)
      → seen.in_coords new (windows.joined_coords cs ds) ≡ false → seen.in_coords new ds ≡ false
  in_joined [] ds h = h
  in_joined (At u ∷ cs) ds h = in_joined cs ds (or_parts (seen.in_control new u) _ h).1
  in_joined (Span u v ∷ cs) [] h = refl
  in_joined (Span u v ∷ cs) (At d ∷ ds) h =
      let p = or_parts (seen.in_control new u || seen.in_control new d)
      (seen.in_coords new (windows.joined_coords cs ds)) h in
      ap₂ ◌||◌ (or_parts (seen.in_control new u) (seen.in_control new d) p.0).1
      (in_joined cs ds p.1)
  in_joined (Span u v ∷ cs) (Span d e ∷ ds) h =
      let p = or_parts (seen.in_control new u || seen.in_control new d)
      ((seen.in_control new u || seen.in_control new e)
      || seen.in_coords new (windows.joined_coords cs ds)) h in
      let q = or_parts (seen.in_control new u || seen.in_control new e)
      (seen.in_coords new (windows.joined_coords cs ds)) p.1 in
      ap₂ ◌||◌ (or_parts (seen.in_control new u) (seen.in_control new d) p.0).1
      (ap₂ ◌||◌ (or_parts (seen.in_control new u) (seen.in_control new e) q.0).1
      (in_joined cs ds q.1))

-- ---- trees that do not mention a, and no x once the window stands for it

module _ (to : ℕ → ℕ) (a x : ℕ) (cs : List Coord) (to_x : to a ≡ x)
    (stays : (y : ℕ) → ((y == x) || (y == a)) ≡ false → to y ≡ y)
    (free : seen.in_coords (λ y. (y == x) || (y == a)) cs ≡ false) where
  abbrev t : Argument
  t = Window a cs

  abbrev v : Argument
  v = Window x cs

  abbrev moved : ℕ → Bool
  moved y = (y == x) || (y == a)

  abbrev is_a : ℕ → Bool
  is_a y = y == a

  abbrev is_x : ℕ → Bool
  is_x y = y == x

  other : (y : ℕ) → is_x y ≡ false → is_a y ≡ false → to y ≡ y
  other y h k = stays y (ap₂ ◌||◌ h k)

  name : (y : ℕ) → is_a y ≡ false → to (windows.to_name x t y) ≡ windows.to_name x v y
  name y k = go (y == x) refl
    where
      go : (r : Bool) → (y == x) ≡ r → to (cond r a y) ≡ cond r x y
      go true e = to_x
      go false e = other y e k

  spots : (y : ℕ) → seen.in_coords moved (windows.coords_at x t y) ≡ false
  spots y = go (y == x)
    where
      go : (r : Bool) → seen.in_coords moved (cond r cs []) ≡ false
      go true = free
      go false = refl

  control : (e : Control) → seen.in_control is_a e ≡ false
      → seen.in_control is_x (windows.in_control x t e) ≡ false
      → tree.re_control to (windows.in_control x t e) ≡ windows.in_control x v e
  control (Lit n) h k = refl
  control (Var y) h k = ap Var (other y k h)
  control (Field f) h k = refl
  control (StrideOf y n) h k =
      ap (λ z. StrideOf z (windows.nth_span (windows.coords_at x t y) n)) (name y h)
  control (Neg e) h k = ap Neg (control e h k)
  control (Add e f) h k =
      let p = or_parts (seen.in_control is_a e) (seen.in_control is_a f) h in
      let q = or_parts (seen.in_control is_x (windows.in_control x t e)) _ k in
      ap₂ Add (control e p.0 q.0) (control f p.1 q.1)
  control (Sub e f) h k =
      let p = or_parts (seen.in_control is_a e) (seen.in_control is_a f) h in
      let q = or_parts (seen.in_control is_x (windows.in_control x t e)) _ k in
      ap₂ Sub (control e p.0 q.0) (control f p.1 q.1)
  control (Mul e f) h k =
      let p = or_parts (seen.in_control is_a e) (seen.in_control is_a f) h in
      let q = or_parts (seen.in_control is_x (windows.in_control x t e)) _ k in
      ap₂ Mul (control e p.0 q.0) (control f p.1 q.1)
  control (Div e c) h k = ap (λ z. Div z c) (control e h k)
  control (Mod e c) h k = ap (λ z. Mod z c) (control e h k)

  controls : (es : List Control) → seen.in_controls is_a es ≡ false
      → seen.in_controls is_x (windows.in_controls x t es) ≡ false
      → tree.re_controls to (windows.in_controls x t es) ≡ windows.in_controls x v es
  controls [] h k = refl
  controls (e ∷ es) h k =
      let p = or_parts (seen.in_control is_a e) (seen.in_controls is_a es) h in
      let q = or_parts (seen.in_control is_x (windows.in_control x t e)) _ k in
      ap₂ ◌∷◌ (control e p.0 q.0) (controls es p.1 q.1)

  two_controls : (f : Control → Control → Condition) (d e : Control)
      → (seen.in_control is_a d || seen.in_control is_a e) ≡ false
      → (seen.in_control is_x (windows.in_control x t d)
      || seen.in_control is_x (windows.in_control x t e)) ≡ false
      → f (tree.re_control to (windows.in_control x t d))
      (tree.re_control to (windows.in_control x t e))
      ≡ f (windows.in_control x v d) (windows.in_control x v e)
  two_controls f d e h k =
      let p = or_parts (seen.in_control is_a d) (seen.in_control is_a e) h in
      let q = or_parts (seen.in_control is_x (windows.in_control x t d)) _ k in
      ap₂ f (control d p.0 q.0) (control e p.1 q.1)

  condition : (c : Condition) → seen.in_condition is_a c ≡ false
      → seen.in_condition is_x (windows.in_condition x t c) ≡ false
      → tree.re_condition to (windows.in_condition x t c) ≡ windows.in_condition x v c
  condition True h k = refl
  condition False h k = refl
  condition (Flag y) h k = ap Flag (other y k h)
  condition (FieldFlag f) h k = refl
  condition (Lt d e) h k = two_controls Lt d e h k
  condition (Le d e) h k = two_controls Le d e h k
  condition (Gt d e) h k = two_controls Gt d e h k
  condition (Ge d e) h k = two_controls Ge d e h k
  condition (Eq d e) h k = two_controls Eq d e h k
  condition (And c d) h k =
      let p = or_parts (seen.in_condition is_a c) (seen.in_condition is_a d) h in
      let q = or_parts (seen.in_condition is_x (windows.in_condition x t c)) _ k in
      ap₂ And (condition c p.0 q.0) (condition d p.1 q.1)
  condition (Or c d) h k =
      let p = or_parts (seen.in_condition is_a c) (seen.in_condition is_a d) h in
      let q = or_parts (seen.in_condition is_x (windows.in_condition x t c)) _ k in
      ap₂ Or (condition c p.0 q.0) (condition d p.1 q.1)

  -- an access, and a window
  indices : (y : ℕ) (is : List Control) → seen.in_controls is_a is ≡ false
      → seen.in_controls is_x (windows.shifted (windows.coords_at x t y)
      (windows.in_controls x t is)) ≡ false
      → tree.re_controls to (windows.shifted (windows.coords_at x t y)
      (windows.in_controls x t is))
      ≡ windows.shifted (windows.coords_at x v y) (windows.in_controls x v is)
  indices y is h k = shifted_stays to moved stays (windows.coords_at x t y)
      (windows.in_controls x t is) (spots y)
      ∙ ap (windows.shifted (windows.coords_at x t y)) (controls is h
      (in_shifted is_x (windows.coords_at x t y) (windows.in_controls x t is) k))

  coords : (ds : List Coord) → seen.in_coords is_a ds ≡ false
      → seen.in_coords is_x (windows.in_coords x t ds) ≡ false
      → tree.re_coords to (windows.in_coords x t ds) ≡ windows.in_coords x v ds
  coords [] h k = refl
  coords (At e ∷ ds) h k =
      let p = or_parts (seen.in_control is_a e) (seen.in_coords is_a ds) h in
      let q = or_parts (seen.in_control is_x (windows.in_control x t e)) _ k in
      ap₂ (λ z zs. At z ∷ zs) (control e p.0 q.0) (coords ds p.1 q.1)
  coords (Span e f ∷ ds) h k =
      let p = or_parts (seen.in_control is_a e) _ h in
      let o = or_parts (seen.in_control is_a f) (seen.in_coords is_a ds) p.1 in
      let q = or_parts (seen.in_control is_x (windows.in_control x t e)) _ k in
      let r = or_parts (seen.in_control is_x (windows.in_control x t f)) _ q.1 in
      ap₂ (λ z zs. Span z (tree.re_control to (windows.in_control x t f)) ∷ zs)
      (control e p.0 q.0) (coords ds o.1 r.1)
      ∙ ap (λ z. Span (windows.in_control x v e) z ∷ windows.in_coords x v ds)
      (control f o.0 r.0)

  window_of : (y : ℕ) (ds : List Coord) → seen.in_coords is_a ds ≡ false
      → seen.in_coords is_x (windows.joined_coords (windows.coords_at x t y)
      (windows.in_coords x t ds)) ≡ false
      → tree.re_coords to (windows.joined_coords (windows.coords_at x t y)
      (windows.in_coords x t ds))
      ≡ windows.joined_coords (windows.coords_at x v y) (windows.in_coords x v ds)
  window_of y ds h k = joined_stays to moved stays (windows.coords_at x t y)
      (windows.in_coords x t ds) (spots y)
      ∙ ap (windows.joined_coords (windows.coords_at x t y)) (coords ds h
      (in_joined is_x (windows.coords_at x t y) (windows.in_coords x t ds) k))

  datum : (d : Datum) → seen.in_datum is_a d ≡ false
      → seen.in_datum is_x (windows.in_datum x t d) ≡ false
      → tree.re_datum to (windows.in_datum x t d) ≡ windows.in_datum x v d
  datum (Const n) h k = refl
  datum (Read y is) h k =
      let p = or_parts (is_a y) (seen.in_controls is_a is) h in
      let q = or_parts (is_x (windows.to_name x t y)) _ k in
      ap₂ Read (name y p.0) (indices y is p.1 q.1)
  datum (Negated d) h k = ap Negated (datum d h k)
  datum (Relu d) h k = ap Relu (datum d h k)
  datum (Plus d e) h k =
      let p = or_parts (seen.in_datum is_a d) (seen.in_datum is_a e) h in
      let q = or_parts (seen.in_datum is_x (windows.in_datum x t d)) _ k in
      ap₂ Plus (datum d p.0 q.0) (datum e p.1 q.1)
  datum (Minus d e) h k =
      let p = or_parts (seen.in_datum is_a d) (seen.in_datum is_a e) h in
      let q = or_parts (seen.in_datum is_x (windows.in_datum x t d)) _ k in
      ap₂ Minus (datum d p.0 q.0) (datum e p.1 q.1)
  datum (Times d e) h k =
      let p = or_parts (seen.in_datum is_a d) (seen.in_datum is_a e) h in
      let q = or_parts (seen.in_datum is_x (windows.in_datum x t d)) _ k in
      ap₂ Times (datum d p.0 q.0) (datum e p.1 q.1)
  datum (Select d e f g) h k =
      let p = or_parts (seen.in_datum is_a d) _ h in
      let q = or_parts (seen.in_datum is_a e) _ p.1 in
      let r = or_parts (seen.in_datum is_a f) (seen.in_datum is_a g) q.1 in
      let i = or_parts (seen.in_datum is_x (windows.in_datum x t d)) _ k in
      let j = or_parts (seen.in_datum is_x (windows.in_datum x t e)) _ i.1 in
      let l = or_parts (seen.in_datum is_x (windows.in_datum x t f)) _ j.1 in
      ap₂ (λ m n. Select m n (tree.re_datum to (windows.in_datum x t f))
      (tree.re_datum to (windows.in_datum x t g))) (datum d p.0 i.0) (datum e q.0 j.0)
      ∙ ap₂ (Select (windows.in_datum x v d) (windows.in_datum x v e)) (datum f r.0 l.0)
      (datum g r.1 l.1)

  argument : (g : Argument) → seen.in_argument is_a g ≡ false
      → seen.in_argument is_x (windows.in_argument x t g) ≡ false
      → tree.re_argument to (windows.in_argument x t g) ≡ windows.in_argument x v g
  argument (ControlArg e) h k = ap ControlArg (control e h k)
  argument (ConditionArg c) h k = ap ConditionArg (condition c h k)
  argument (Whole y) h k = go (y == x) refl
    where
      go : (r : Bool) → (y == x) ≡ r
          → tree.re_argument to (cond r t (Whole y)) ≡ cond r v (Whole y)
      go true e = ap₂ Window to_x (coords_stay to moved stays cs free)
      go false e = ap Whole (other y e h)
  argument (Window y ds) h k =
      let p = or_parts (is_a y) (seen.in_coords is_a ds) h in
      let q = or_parts (is_x (windows.to_name x t y)) _ k in
      ap₂ Window (name y p.0) (window_of y ds p.1 q.1)

  arguments : (gs : List Argument) → seen.in_arguments is_a gs ≡ false
      → seen.in_arguments is_x (windows.in_arguments x t gs) ≡ false
      → tree.re_arguments to (windows.in_arguments x t gs) ≡ windows.in_arguments x v gs
  arguments [] h k = refl
  arguments (g ∷ gs) h k =
      let p = or_parts (seen.in_argument is_a g) (seen.in_arguments is_a gs) h in
      let q = or_parts (seen.in_argument is_x (windows.in_argument x t g)) _ k in
      ap₂ ◌∷◌ (argument g p.0 q.0) (arguments gs p.1 q.1)

  bound : (i : Binder) → is_a i.id ≡ false → is_x i.id ≡ false → tree.re_binder to i ≡ i
  bound i h k = ap (λ z. record i { id = z }) (other i.id k h)

  mutual
    pub block : (b : Block) → seen.in_block is_a b ≡ false
        → seen.in_block is_x (windows.in_block x t b) ≡ false
        → tree.re_block to (windows.in_block x t b) ≡ windows.in_block x v b
    block end h k = refl
    block (next d b) h k =
        let p = or_parts (seen.in_statement is_a d) (seen.in_block is_a b) h in
        let q = or_parts (seen.in_statement is_x (windows.in_statement x t d)) _ k in
        ap₂ next (statement d p.0 q.0) (block b p.1 q.1)

    statement : (d : Statement) → seen.in_statement is_a d ≡ false
        → seen.in_statement is_x (windows.in_statement x t d) ≡ false
        → tree.re_statement to (windows.in_statement x t d) ≡ windows.in_statement x v d
    statement (Assign y is d) h k =
        let p = or_parts (is_a y) _ h in
        let o = or_parts (seen.in_controls is_a is) (seen.in_datum is_a d) p.1 in
        let q = or_parts (is_x (windows.to_name x t y)) _ k in
        let r = or_parts (seen.in_controls is_x (windows.shifted (windows.coords_at x t y)
        (windows.in_controls x t is))) _ q.1 in
        ap₂ (λ z js. Assign z js (tree.re_datum to (windows.in_datum x t d))) (name y p.0)
        (indices y is o.0 r.0)
        ∙ ap (Assign (windows.to_name x v y) (windows.shifted (windows.coords_at x v y)
        (windows.in_controls x v is))) (datum d o.1 r.1)
    statement (Reduce y is d) h k =
        let p = or_parts (is_a y) _ h in
        let o = or_parts (seen.in_controls is_a is) (seen.in_datum is_a d) p.1 in
        let q = or_parts (is_x (windows.to_name x t y)) _ k in
        let r = or_parts (seen.in_controls is_x (windows.shifted (windows.coords_at x t y)
        (windows.in_controls x t is))) _ q.1 in
        ap₂ (λ z js. Reduce z js (tree.re_datum to (windows.in_datum x t d))) (name y p.0)
        (indices y is o.0 r.0)
        ∙ ap (Reduce (windows.to_name x v y) (windows.shifted (windows.coords_at x v y)
        (windows.in_controls x v is))) (datum d o.1 r.1)
    statement (Config f g) h k = ap (Config f) (argument g h k)
    statement Pass h k = refl
    statement (If c b d) h k =
        let p = or_parts (seen.in_condition is_a c) _ h in
        let o = or_parts (seen.in_block is_a b) (seen.in_block is_a d) p.1 in
        let q = or_parts (seen.in_condition is_x (windows.in_condition x t c)) _ k in
        let r = or_parts (seen.in_block is_x (windows.in_block x t b)) _ q.1 in
        ap₂ (λ z w. If z w (tree.re_block to (windows.in_block x t d))) (condition c p.0 q.0)
        (block b o.0 r.0)
        ∙ ap (If (windows.in_condition x v c) (windows.in_block x v b)) (block d o.1 r.1)
    statement (For i lo hi b) h k =
        let p = or_parts (is_a i.id) _ h in
        let o = or_parts (seen.in_control is_a lo) _ p.1 in
        let m = or_parts (seen.in_control is_a hi) (seen.in_block is_a b) o.1 in
        let q = or_parts (is_x i.id) _ k in
        let r = or_parts (seen.in_control is_x (windows.in_control x t lo)) _ q.1 in
        let n = or_parts (seen.in_control is_x (windows.in_control x t hi)) _ r.1 in
        ap₂ (λ j z. For j z (tree.re_control to (windows.in_control x t hi))
        (tree.re_block to (windows.in_block x t b))) (bound i p.0 q.0) (control lo o.0 r.0)
        ∙ ap₂ (For i (windows.in_control x v lo)) (control hi m.0 n.0) (block b m.1 n.1)
    statement (Alloc y cell ds memory) h k =
        let p = or_parts (is_a y.id) (seen.in_controls is_a ds) h in
        let q = or_parts (is_x y.id) _ k in
        ap₂ (λ z zs. Alloc z cell zs memory) (bound y p.0 q.0) (controls ds p.1 q.1)
    statement (View w y ds) h k =
        let p = or_parts (is_a w.id) _ h in
        let o = or_parts (is_a y) (seen.in_coords is_a ds) p.1 in
        let q = or_parts (is_x w.id) _ k in
        let r = or_parts (is_x (windows.to_name x t y)) _ q.1 in
        ap₂ (λ z u. View z u (tree.re_coords to (windows.joined_coords (windows.coords_at x t y)
        (windows.in_coords x t ds)))) (bound w p.0 q.0) (name y o.0)
        ∙ ap (View w (windows.to_name x v y)) (window_of y ds o.1 r.1)
    statement (Call n gs) h k = ap (Call n) (arguments gs h k)
