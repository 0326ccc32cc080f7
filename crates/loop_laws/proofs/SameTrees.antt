-- Trees that are found the same are the same but for the names of binders.
use Rattle.std.proofs.Common.{◌≡◌, ℕ, ℤ, ◌==◌, Bool, true, false, true≢false, ◌&&◌, List, [], ◌∷◌}
use Rattle.std.proofs.Common.{refl, sym, ap, ap₂, arith}
use Rattle.std.proofs.lemmas.Bool.Decides.{nat_tests}
use Rattle.std.proofs.lemmas.Int.{ints}
use Rattle.std.specs.Ordering.{int_eq}
use Rattle.exo_tree.specs.Cells.{same_cell, same_cell_is}
use Rattle.exo_tree.specs.Tree.{Cell, Binder, Control, Lit, Var, Field, StrideOf, Neg, Add, Sub}
use Rattle.exo_tree.specs.Tree.{Mul, Div, Mod, Condition, True, False, Flag, FieldFlag, Lt, Le, Gt, Ge}
use Rattle.exo_tree.specs.Tree.{Eq, And, Or, Datum, Const, Read, Negated, Relu, Plus, Minus, Times}
use Rattle.exo_tree.specs.Tree.{Select, Coord, At, Span, Argument, ControlArg, ConditionArg, Whole}
use Rattle.exo_tree.specs.Tree.{Window, Statement, Assign, Reduce, Config, Pass, If, For, Alloc, View}
use Rattle.exo_tree.specs.Tree.{Call, Block, end, next}
use Rattle.meaning_laws.proofs.Substitute.{and_parts}
use Rattle.place_laws.specs.Scope.Bare.{bare_binder, bare_statement, bare}
use Rattle.loop_laws.specs.SameTrees.{same_control, same_controls, same_condition}
use Rattle.loop_laws.specs.SameTrees.{same_datum, same_coord, same_coords, same_argument}
use Rattle.loop_laws.specs.SameTrees.{same_arguments, same_statement, same_block}

not_true : {A : Type 0} → false ≡ true → A
not_true h = absurd (true≢false (sym h))

numbers_are : (m n : ℕ) → (m == n) ≡ true → m ≡ n
numbers_are m n h = grind (arith, nat_tests)

integers_are : (m n : ℤ) → int_eq m n ≡ true → m ≡ n
integers_are m n h = grind (arith, ints)

-- both halves
two : {A B C : Type 0} {a a' : A} {b b' : B} (make : A → B → C) (s t : Bool)
    → (s ≡ true → a ≡ a') → (t ≡ true → b ≡ b') → s && t ≡ true → make a b ≡ make a' b'
two make s t f g h = let p = and_parts s t h in ap₂ make (f p.0) (g p.1)

controls_are : (a b : Control) → same_control a b ≡ true → a ≡ b
controls_are (Lit m) (Lit n) h = ap Lit (integers_are m n h)
controls_are (Var x) (Var y) h = ap Var (numbers_are x y h)
controls_are (Field f) (Field g) h = ap Field (numbers_are f g h)
controls_are (StrideOf x j) (StrideOf y k) h =
    two StrideOf (x == y) (j == k) (numbers_are x y) (numbers_are j k) h
controls_are (Neg a) (Neg b) h = ap Neg (controls_are a b h)
controls_are (Add a b) (Add c d) h =
    two Add (same_control a c) (same_control b d) (controls_are a c) (controls_are b d) h
controls_are (Sub a b) (Sub c d) h =
    two Sub (same_control a c) (same_control b d) (controls_are a c) (controls_are b d) h
controls_are (Mul a b) (Mul c d) h =
    two Mul (same_control a c) (same_control b d) (controls_are a c) (controls_are b d) h
controls_are (Div a m) (Div b n) h =
    two Div (same_control a b) (int_eq m n) (controls_are a b) (integers_are m n) h
controls_are (Mod a m) (Mod b n) h =
    two Mod (same_control a b) (int_eq m n) (controls_are a b) (integers_are m n) h
controls_are _ _ h = not_true h

lists_of_controls_are : (as' bs : List Control) → same_controls as' bs ≡ true → as' ≡ bs
lists_of_controls_are [] [] h = refl
lists_of_controls_are (a ∷ as') (b ∷ bs) h =
    two (λ x xs. x ∷ xs) (same_control a b) (same_controls as' bs) (controls_are a b)
    (lists_of_controls_are as' bs) h
lists_of_controls_are _ _ h = not_true h

conditions_are : (a b : Condition) → same_condition a b ≡ true → a ≡ b
conditions_are True True h = refl
conditions_are False False h = refl
conditions_are (Flag x) (Flag y) h = ap Flag (numbers_are x y h)
conditions_are (FieldFlag f) (FieldFlag g) h = ap FieldFlag (numbers_are f g h)
conditions_are (Lt a b) (Lt c d) h =
    two Lt (same_control a c) (same_control b d) (controls_are a c) (controls_are b d) h
conditions_are (Le a b) (Le c d) h =
    two Le (same_control a c) (same_control b d) (controls_are a c) (controls_are b d) h
conditions_are (Gt a b) (Gt c d) h =
    two Gt (same_control a c) (same_control b d) (controls_are a c) (controls_are b d) h
conditions_are (Ge a b) (Ge c d) h =
    two Ge (same_control a c) (same_control b d) (controls_are a c) (controls_are b d) h
conditions_are (Eq a b) (Eq c d) h =
    two Eq (same_control a c) (same_control b d) (controls_are a c) (controls_are b d) h
conditions_are (And a b) (And c d) h =
    two And (same_condition a c) (same_condition b d) (conditions_are a c) (conditions_are b d) h
conditions_are (Or a b) (Or c d) h =
    two Or (same_condition a c) (same_condition b d) (conditions_are a c) (conditions_are b d) h
conditions_are _ _ h = not_true h

data_are : (a b : Datum) → same_datum a b ≡ true → a ≡ b
data_are (Const m) (Const n) h = ap Const (integers_are m n h)
data_are (Read x is) (Read y js) h =
    two Read (x == y) (same_controls is js) (numbers_are x y) (lists_of_controls_are is js) h
data_are (Negated a) (Negated b) h = ap Negated (data_are a b h)
data_are (Relu a) (Relu b) h = ap Relu (data_are a b h)
data_are (Plus a b) (Plus c d) h =
    two Plus (same_datum a c) (same_datum b d) (data_are a c) (data_are b d) h
data_are (Minus a b) (Minus c d) h =
    two Minus (same_datum a c) (same_datum b d) (data_are a c) (data_are b d) h
data_are (Times a b) (Times c d) h =
    two Times (same_datum a c) (same_datum b d) (data_are a c) (data_are b d) h
data_are (Select a b c d) (Select e f g i) h =
    two (λ (p q : Datum × Datum). Select p.0 p.1 q.0 q.1)
    (same_datum a e && same_datum b f) (same_datum c g && same_datum d i)
    (two (λ x y. (x, y)) (same_datum a e) (same_datum b f) (data_are a e) (data_are b f))
    (two (λ x y. (x, y)) (same_datum c g) (same_datum d i) (data_are c g) (data_are d i)) h
data_are _ _ h = not_true h

coords_are : (c d : Coord) → same_coord c d ≡ true → c ≡ d
coords_are (At a) (At b) h = ap At (controls_are a b h)
coords_are (Span a b) (Span c d) h =
    two Span (same_control a c) (same_control b d) (controls_are a c) (controls_are b d) h
coords_are _ _ h = not_true h

lists_of_coords_are : (cs ds : List Coord) → same_coords cs ds ≡ true → cs ≡ ds
lists_of_coords_are [] [] h = refl
lists_of_coords_are (c ∷ cs) (d ∷ ds) h =
    two (λ x xs. x ∷ xs) (same_coord c d) (same_coords cs ds) (coords_are c d)
    (lists_of_coords_are cs ds) h
lists_of_coords_are _ _ h = not_true h

arguments_are : (a b : Argument) → same_argument a b ≡ true → a ≡ b
arguments_are (ControlArg a) (ControlArg b) h = ap ControlArg (controls_are a b h)
arguments_are (ConditionArg c) (ConditionArg d) h = ap ConditionArg (conditions_are c d h)
arguments_are (Whole x) (Whole y) h = ap Whole (numbers_are x y h)
arguments_are (Window x cs) (Window y ds) h =
    two Window (x == y) (same_coords cs ds) (numbers_are x y) (lists_of_coords_are cs ds) h
arguments_are _ _ h = not_true h

lists_of_arguments_are : (as' bs : List Argument) → same_arguments as' bs ≡ true → as' ≡ bs
lists_of_arguments_are [] [] h = refl
lists_of_arguments_are (a ∷ as') (b ∷ bs) h =
    two (λ x xs. x ∷ xs) (same_argument a b) (same_arguments as' bs) (arguments_are a b)
    (lists_of_arguments_are as' bs) h
lists_of_arguments_are _ _ h = not_true h

binders_are : (i j : Binder) → (i.id == j.id) ≡ true → bare_binder i ≡ bare_binder j
binders_are i j h = ap (λ n. record { id = n; name = [] }) (numbers_are i.id j.id h)

mutual
  statements_are : (a b : Statement) → same_statement a b ≡ true → bare_statement a ≡ bare_statement b
  statements_are (Assign x is e) (Assign y js d) h =
      two (λ z (p : List Control × Datum). Assign z p.0 p.1) (x == y)
      (same_controls is js && same_datum e d) (numbers_are x y)
      (two (λ s t. (s, t)) (same_controls is js) (same_datum e d) (lists_of_controls_are is js)
      (data_are e d)) h
  statements_are (Reduce x is e) (Reduce y js d) h =
      two (λ z (p : List Control × Datum). Reduce z p.0 p.1) (x == y)
      (same_controls is js && same_datum e d) (numbers_are x y)
      (two (λ s t. (s, t)) (same_controls is js) (same_datum e d) (lists_of_controls_are is js)
      (data_are e d)) h
  statements_are (Config f a) (Config g b) h =
      two Config (f == g) (same_argument a b) (numbers_are f g) (arguments_are a b) h
  statements_are Pass Pass h = refl
  statements_are (If c a b) (If d e f) h =
      two (λ z (p : Block × Block). If z p.0 p.1) (same_condition c d)
      (same_block a e && same_block b f) (conditions_are c d)
      (two (λ s t. (s, t)) (same_block a e) (same_block b f) (same_blocks_are a e)
      (same_blocks_are b f)) h
  statements_are (For i lo hi b) (For j m n c) h =
      two (λ k (p : (Control × Control) × Block). For k p.0.0 p.0.1 p.1) (i.id == j.id)
      ((same_control lo m && same_control hi n) && same_block b c) (binders_are i j)
      (two (λ s t. (s, t)) (same_control lo m && same_control hi n) (same_block b c)
      (two (λ s t. (s, t)) (same_control lo m) (same_control hi n) (controls_are lo m)
      (controls_are hi n)) (same_blocks_are b c)) h
  statements_are (Alloc x cell dims k) (Alloc y other extents l) h =
      two (λ z (p : (Cell × List Control) × ℕ). Alloc z p.0.0 p.0.1 p.1) (x.id == y.id)
      ((same_cell cell other && same_controls dims extents) && (k == l)) (binders_are x y)
      (two (λ s t. (s, t)) (same_cell cell other && same_controls dims extents) (k == l)
      (two (λ s t. (s, t)) (same_cell cell other) (same_controls dims extents) (same_cell_is cell other)
      (lists_of_controls_are dims extents)) (numbers_are k l)) h
  statements_are (View w x cs) (View v y ds) h =
      two (λ z (p : ℕ × List Coord). View z p.0 p.1) (w.id == v.id) ((x == y) && same_coords cs ds)
      (binders_are w v)
      (two (λ s t. (s, t)) (x == y) (same_coords cs ds) (numbers_are x y)
      (lists_of_coords_are cs ds)) h
  statements_are (Call k as') (Call l bs) h =
      two Call (k == l) (same_arguments as' bs) (numbers_are k l) (lists_of_arguments_are as' bs) h
  statements_are _ _ h = not_true h

  pub same_blocks_are : (a b : Block) → same_block a b ≡ true → bare a ≡ bare b
  same_blocks_are end end h = refl
  same_blocks_are (next a b) (next c d) h =
      two next (same_statement a c) (same_block b d) (statements_are a c) (same_blocks_are b d) h
  same_blocks_are _ _ h = not_true h
