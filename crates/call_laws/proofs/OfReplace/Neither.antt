-- What mentions none of some names and none of others mentions none of both.
use Rattle.std.proofs.Common.{◌≡◌, ℕ, Bool, false, ◌||◌, List, [], ◌∷◌, refl}
use Rattle.exo_tree.specs.Tree.{Control, Lit, Var, Field, StrideOf, Neg, Add, Sub, Mul, Div, Mod}
use Rattle.exo_tree.specs.Tree.{Condition, True, False, Flag, FieldFlag, Lt, Le, Gt, Ge, Eq, And, Or}
use Rattle.exo_tree.specs.Tree.{Datum, Const, Read, Negated, Relu, Plus, Minus, Times, Select, Coord}
use Rattle.exo_tree.specs.Tree.{At, Span, Argument, ControlArg, ConditionArg, Whole, Window, Statement}
use Rattle.exo_tree.specs.Tree.{Assign, Reduce, Config, Pass, If, For, Alloc, View, Call, Block, end}
use Rattle.exo_tree.specs.Tree.{next}
use Rattle.exo_meaning.specs.Unseen.{in_control, in_controls, in_condition, in_datum, in_coords}
use Rattle.exo_meaning.specs.Unseen.{in_argument, in_arguments, in_statement, in_block}
use Rattle.exo_meaning.proofs.Frame.{or_parts}
use Rattle.meaning_laws.proofs.Scoped.{both_false}

module _ (f g : ℕ → Bool) where
  abbrev any : ℕ → Bool
  any x = f x || g x

  -- of two parts
  two : (a b c d e h : Bool) → (a || b) ≡ false → (c || d) ≡ false
      → (a ≡ false → c ≡ false → e ≡ false) → (b ≡ false → d ≡ false → h ≡ false)
      → (e || h) ≡ false
  two a b c d e h p q one other =
      let r = or_parts a b p in
      let s = or_parts c d q in
      both_false e h (one r.0 s.0) (other r.1 s.1)

  name : (x : ℕ) → f x ≡ false → g x ≡ false → any x ≡ false
  name x = both_false (f x) (g x)

  control : (e : Control) → in_control f e ≡ false → in_control g e ≡ false → in_control any e ≡ false
  control (Lit n) p q = refl
  control (Var x) p q = name x p q
  control (Field n) p q = refl
  control (StrideOf x k) p q = name x p q
  control (Neg a) p q = control a p q
  control (Add a b) p q =
      two (in_control f a) (in_control f b) (in_control g a) (in_control g b) (in_control any a)
      (in_control any b) p q (control a) (control b)
  control (Sub a b) p q =
      two (in_control f a) (in_control f b) (in_control g a) (in_control g b) (in_control any a)
      (in_control any b) p q (control a) (control b)
  control (Mul a b) p q =
      two (in_control f a) (in_control f b) (in_control g a) (in_control g b) (in_control any a)
      (in_control any b) p q (control a) (control b)
  control (Div a c) p q = control a p q
  control (Mod a c) p q = control a p q

  sides : (a b : Control) → (in_control f a || in_control f b) ≡ false
      → (in_control g a || in_control g b) ≡ false → (in_control any a || in_control any b) ≡ false
  sides a b p q =
      two (in_control f a) (in_control f b) (in_control g a) (in_control g b) (in_control any a)
      (in_control any b) p q (control a) (control b)

  controls : (es : List Control) → in_controls f es ≡ false → in_controls g es ≡ false
      → in_controls any es ≡ false
  controls [] p q = refl
  controls (e ∷ es) p q =
      two (in_control f e) (in_controls f es) (in_control g e) (in_controls g es) (in_control any e)
      (in_controls any es) p q (control e) (controls es)

  condition : (c : Condition) → in_condition f c ≡ false → in_condition g c ≡ false
      → in_condition any c ≡ false
  condition True p q = refl
  condition False p q = refl
  condition (Flag x) p q = name x p q
  condition (FieldFlag n) p q = refl
  condition (Lt a b) p q = sides a b p q
  condition (Le a b) p q = sides a b p q
  condition (Gt a b) p q = sides a b p q
  condition (Ge a b) p q = sides a b p q
  condition (Eq a b) p q = sides a b p q
  condition (And c d) p q =
      two (in_condition f c) (in_condition f d) (in_condition g c) (in_condition g d)
      (in_condition any c) (in_condition any d) p q (condition c) (condition d)
  condition (Or c d) p q =
      two (in_condition f c) (in_condition f d) (in_condition g c) (in_condition g d)
      (in_condition any c) (in_condition any d) p q (condition c) (condition d)

  datum : (e : Datum) → in_datum f e ≡ false → in_datum g e ≡ false → in_datum any e ≡ false
  datum (Const n) p q = refl
  datum (Read x is) p q =
      two (f x) (in_controls f is) (g x) (in_controls g is) (any x) (in_controls any is) p q (name x)
      (controls is)
  datum (Negated a) p q = datum a p q
  datum (Relu a) p q = datum a p q
  datum (Plus a b) p q =
      two (in_datum f a) (in_datum f b) (in_datum g a) (in_datum g b) (in_datum any a) (in_datum any b)
      p q (datum a) (datum b)
  datum (Minus a b) p q =
      two (in_datum f a) (in_datum f b) (in_datum g a) (in_datum g b) (in_datum any a) (in_datum any b)
      p q (datum a) (datum b)
  datum (Times a b) p q =
      two (in_datum f a) (in_datum f b) (in_datum g a) (in_datum g b) (in_datum any a) (in_datum any b)
      p q (datum a) (datum b)
  datum (Select a b c d) p q =
      two (in_datum f a) (in_datum f b || (in_datum f c || in_datum f d)) (in_datum g a)
      (in_datum g b || (in_datum g c || in_datum g d)) (in_datum any a)
      (in_datum any b || (in_datum any c || in_datum any d)) p q (datum a) (λ r s.
      two (in_datum f b) (in_datum f c || in_datum f d) (in_datum g b) (in_datum g c || in_datum g d)
      (in_datum any b) (in_datum any c || in_datum any d) r s (datum b) (λ t u.
      two (in_datum f c) (in_datum f d) (in_datum g c) (in_datum g d) (in_datum any c) (in_datum any d)
      t u (datum c) (datum d)))

  coords : (cs : List Coord) → in_coords f cs ≡ false → in_coords g cs ≡ false
      → in_coords any cs ≡ false
  coords [] p q = refl
  coords (At a ∷ cs) p q =
      two (in_control f a) (in_coords f cs) (in_control g a) (in_coords g cs) (in_control any a)
      (in_coords any cs) p q (control a) (coords cs)
  coords (Span a b ∷ cs) p q =
      two (in_control f a) (in_control f b || in_coords f cs) (in_control g a)
      (in_control g b || in_coords g cs) (in_control any a) (in_control any b || in_coords any cs) p q
      (control a) (λ r s.
      two (in_control f b) (in_coords f cs) (in_control g b) (in_coords g cs) (in_control any b)
      (in_coords any cs) r s (control b) (coords cs))

  argument : (a : Argument) → in_argument f a ≡ false → in_argument g a ≡ false
      → in_argument any a ≡ false
  argument (ControlArg e) p q = control e p q
  argument (ConditionArg c) p q = condition c p q
  argument (Whole x) p q = name x p q
  argument (Window x cs) p q =
      two (f x) (in_coords f cs) (g x) (in_coords g cs) (any x) (in_coords any cs) p q (name x)
      (coords cs)

  arguments : (args : List Argument) → in_arguments f args ≡ false → in_arguments g args ≡ false
      → in_arguments any args ≡ false
  arguments [] p q = refl
  arguments (a ∷ rest) p q =
      two (in_argument f a) (in_arguments f rest) (in_argument g a) (in_arguments g rest)
      (in_argument any a) (in_arguments any rest) p q (argument a) (arguments rest)

  mutual
    statement : (a : Statement) → in_statement f a ≡ false → in_statement g a ≡ false
        → in_statement any a ≡ false
    statement (Assign x is e) p q =
        two (f x) (in_controls f is || in_datum f e) (g x) (in_controls g is || in_datum g e) (any x)
        (in_controls any is || in_datum any e) p q (name x) (λ r s.
        two (in_controls f is) (in_datum f e) (in_controls g is) (in_datum g e) (in_controls any is)
        (in_datum any e) r s (controls is) (datum e))
    statement (Reduce x is e) p q =
        two (f x) (in_controls f is || in_datum f e) (g x) (in_controls g is || in_datum g e) (any x)
        (in_controls any is || in_datum any e) p q (name x) (λ r s.
        two (in_controls f is) (in_datum f e) (in_controls g is) (in_datum g e) (in_controls any is)
        (in_datum any e) r s (controls is) (datum e))
    statement (Config n a) p q = argument a p q
    statement Pass p q = refl
    statement (If c a b) p q =
        two (in_condition f c) (in_block f a || in_block f b) (in_condition g c)
        (in_block g a || in_block g b) (in_condition any c) (in_block any a || in_block any b) p q
        (condition c) (λ r s.
        two (in_block f a) (in_block f b) (in_block g a) (in_block g b) (in_block any a) (in_block any b)
        r s (block a) (block b))
    statement (For i lo hi b) p q =
        two (f i.id) (in_control f lo || (in_control f hi || in_block f b)) (g i.id)
        (in_control g lo || (in_control g hi || in_block g b)) (any i.id)
        (in_control any lo || (in_control any hi || in_block any b)) p q (name i.id) (λ r s.
        two (in_control f lo) (in_control f hi || in_block f b) (in_control g lo)
        (in_control g hi || in_block g b) (in_control any lo) (in_control any hi || in_block any b) r s
        (control lo) (λ t u.
        two (in_control f hi) (in_block f b) (in_control g hi) (in_block g b) (in_control any hi)
        (in_block any b) t u (control hi) (block b)))
    statement (Alloc x cell dims memory) p q =
        two (f x.id) (in_controls f dims) (g x.id) (in_controls g dims) (any x.id)
        (in_controls any dims) p q (name x.id) (controls dims)
    statement (View w x cs) p q =
        two (f w.id) (f x || in_coords f cs) (g w.id) (g x || in_coords g cs) (any w.id)
        (any x || in_coords any cs) p q (name w.id) (λ r s.
        two (f x) (in_coords f cs) (g x) (in_coords g cs) (any x) (in_coords any cs) r s (name x)
        (coords cs))
    statement (Call k args) p q = arguments args p q

    pub block : (b : Block) → in_block f b ≡ false → in_block g b ≡ false → in_block any b ≡ false
    block end p q = refl
    block (next a b) p q =
        two (in_statement f a) (in_block f b) (in_statement g a) (in_block g b) (in_statement any a)
        (in_block any b) p q (statement a) (block b)
