-- Two maps of ids that agree on the ids of a block make one block of it.
use Rattle.std.proofs.Common.{◌≡◌, ℕ, Bool, false, ◌||◌, List, [], ◌∷◌, refl, ap, ap₂}
use Rattle.exo_tree.specs.Tree.{Binder, Control, Lit, Var, Field, StrideOf, Neg, Add, Sub, Mul, Div, Mod}
use Rattle.exo_tree.specs.Tree.{Condition, True, False, Flag, FieldFlag, Lt, Le, Gt, Ge, Eq, And, Or}
use Rattle.exo_tree.specs.Tree.{Datum, Const, Read, Negated, Relu, Plus, Minus, Times, Select}
use Rattle.exo_tree.specs.Tree.{Coord, At, Span, Argument, ControlArg, ConditionArg, Whole, Window}
use Rattle.exo_tree.specs.Tree.{Statement, Assign, Reduce, Config, Pass, If, For, Alloc, View, Call, Block, end, next}
use Rattle.exo_meaning.specs.Unseen.{in_control, in_controls, in_condition, in_datum, in_coords}
use Rattle.exo_meaning.specs.Unseen.{in_argument, in_arguments, in_statement, in_block}
use Rattle.exo_tree.specs.Renaming.{re_control, re_controls, re_condition, re_datum, re_coords}
use Rattle.exo_tree.specs.Renaming.{re_argument, re_arguments, re_binder, re_statement, re_block}
use Rattle.exo_meaning.proofs.Frame.{or_parts}

module _ (hidden : ℕ → Bool) (to on : ℕ → ℕ) (agree : (x : ℕ) → hidden x ≡ false → to x ≡ on x) where
  control : (a : Control) → in_control hidden a ≡ false → re_control to a ≡ re_control on a
  control (Lit n) h = refl
  control (Var x) h = ap Var (agree x h)
  control (Field f) h = refl
  control (StrideOf x k) h = ap (λ z. StrideOf z k) (agree x h)
  control (Neg a) h = ap Neg (control a h)
  control (Add a b) h = let p = or_parts (in_control hidden a) (in_control hidden b) h in ap₂ Add (control a p.0) (control b p.1)
  control (Sub a b) h = let p = or_parts (in_control hidden a) (in_control hidden b) h in ap₂ Sub (control a p.0) (control b p.1)
  control (Mul a b) h = let p = or_parts (in_control hidden a) (in_control hidden b) h in ap₂ Mul (control a p.0) (control b p.1)
  control (Div a c) h = ap (λ z. Div z c) (control a h)
  control (Mod a c) h = ap (λ z. Mod z c) (control a h)

  controls : (is : List Control) → in_controls hidden is ≡ false → re_controls to is ≡ re_controls on is
  controls [] h = refl
  controls (a ∷ is) h =
      let p = or_parts (in_control hidden a) (in_controls hidden is) h in ap₂ ◌∷◌ (control a p.0) (controls is p.1)

  -- two sides of a comparison
  sides : (f : Control → Control → Condition) (a b : Control) → (in_control hidden a || in_control hidden b) ≡ false
      → f (re_control to a) (re_control to b) ≡ f (re_control on a) (re_control on b)
  sides f a b h = let p = or_parts (in_control hidden a) (in_control hidden b) h in ap₂ f (control a p.0) (control b p.1)

  condition : (c : Condition) → in_condition hidden c ≡ false → re_condition to c ≡ re_condition on c
  condition True h = refl
  condition False h = refl
  condition (Flag x) h = ap Flag (agree x h)
  condition (FieldFlag f) h = refl
  condition (Lt a b) h = sides Lt a b h
  condition (Le a b) h = sides Le a b h
  condition (Gt a b) h = sides Gt a b h
  condition (Ge a b) h = sides Ge a b h
  condition (Eq a b) h = sides Eq a b h
  condition (And c d) h =
      let p = or_parts (in_condition hidden c) (in_condition hidden d) h in ap₂ And (condition c p.0) (condition d p.1)
  condition (Or c d) h =
      let p = or_parts (in_condition hidden c) (in_condition hidden d) h in ap₂ Or (condition c p.0) (condition d p.1)

  datum : (d : Datum) → in_datum hidden d ≡ false → re_datum to d ≡ re_datum on d
  datum (Const n) h = refl
  datum (Read x is) h = let p = or_parts (hidden x) (in_controls hidden is) h in ap₂ Read (agree x p.0) (controls is p.1)
  datum (Negated a) h = ap Negated (datum a h)
  datum (Relu a) h = ap Relu (datum a h)
  datum (Plus a b) h = let p = or_parts (in_datum hidden a) (in_datum hidden b) h in ap₂ Plus (datum a p.0) (datum b p.1)
  datum (Minus a b) h = let p = or_parts (in_datum hidden a) (in_datum hidden b) h in ap₂ Minus (datum a p.0) (datum b p.1)
  datum (Times a b) h = let p = or_parts (in_datum hidden a) (in_datum hidden b) h in ap₂ Times (datum a p.0) (datum b p.1)
  datum (Select a b c d) h =
      let p = or_parts (in_datum hidden a) (in_datum hidden b || (in_datum hidden c || in_datum hidden d)) h in
      let q = or_parts (in_datum hidden b) (in_datum hidden c || in_datum hidden d) p.1 in
      let t = or_parts (in_datum hidden c) (in_datum hidden d) q.1 in
      let u = datum a p.0 in let v = datum b q.0 in let x = datum c t.0 in let y = datum d t.1 in
      λ j. Select (u j) (v j) (x j) (y j)

  coords : (cs : List Coord) → in_coords hidden cs ≡ false → re_coords to cs ≡ re_coords on cs
  coords [] h = refl
  coords (At a ∷ cs) h =
      let p = or_parts (in_control hidden a) (in_coords hidden cs) h in
      ap₂ (λ z rest. At z ∷ rest) (control a p.0) (coords cs p.1)
  coords (Span a b ∷ cs) h =
      let p = or_parts (in_control hidden a) (in_control hidden b || in_coords hidden cs) h in
      let q = or_parts (in_control hidden b) (in_coords hidden cs) p.1 in
      let u = control a p.0 in let v = control b q.0 in let rest = coords cs q.1 in
      λ j. Span (u j) (v j) ∷ rest j

  argument : (a : Argument) → in_argument hidden a ≡ false → re_argument to a ≡ re_argument on a
  argument (ControlArg a) h = ap ControlArg (control a h)
  argument (ConditionArg c) h = ap ConditionArg (condition c h)
  argument (Whole x) h = ap Whole (agree x h)
  argument (Window x cs) h =
      let p = or_parts (hidden x) (in_coords hidden cs) h in ap₂ Window (agree x p.0) (coords cs p.1)

  arguments : (args : List Argument) → in_arguments hidden args ≡ false → re_arguments to args ≡ re_arguments on args
  arguments [] h = refl
  arguments (a ∷ args) h =
      let p = or_parts (in_argument hidden a) (in_arguments hidden args) h in ap₂ ◌∷◌ (argument a p.0) (arguments args p.1)

  binder : (x : Binder) → hidden x.id ≡ false → re_binder to x ≡ re_binder on x
  binder x h = ap (λ n. record x { id = n }) (agree x.id h)

  store : (f : ℕ → List Control → Datum → Statement) (x : ℕ) (is : List Control) (d : Datum)
      → (hidden x || (in_controls hidden is || in_datum hidden d)) ≡ false
      → f (to x) (re_controls to is) (re_datum to d) ≡ f (on x) (re_controls on is) (re_datum on d)
  store f x is d h =
      let p = or_parts (hidden x) (in_controls hidden is || in_datum hidden d) h in
      let q = or_parts (in_controls hidden is) (in_datum hidden d) p.1 in
      let u = agree x p.0 in let v = controls is q.0 in let w = datum d q.1 in
      λ j. f (u j) (v j) (w j)

  mutual
    statement : (a : Statement) → in_statement hidden a ≡ false → re_statement to a ≡ re_statement on a
    statement (Assign x is d) h = store Assign x is d h
    statement (Reduce x is d) h = store Reduce x is d h
    statement (Config f a) h = ap (Config f) (argument a h)
    statement Pass h = refl
    statement (If c a b) h =
        let p = or_parts (in_condition hidden c) (in_block hidden a || in_block hidden b) h in
        let q = or_parts (in_block hidden a) (in_block hidden b) p.1 in
        let u = condition c p.0 in let v = block a q.0 in let w = block b q.1 in
        λ j. If (u j) (v j) (w j)
    statement (For i lo hi b) h =
        let p = or_parts (hidden i.id) (in_control hidden lo || (in_control hidden hi || in_block hidden b)) h in
        let q = or_parts (in_control hidden lo) (in_control hidden hi || in_block hidden b) p.1 in
        let t = or_parts (in_control hidden hi) (in_block hidden b) q.1 in
        let u = binder i p.0 in let v = control lo q.0 in let w = control hi t.0 in let x = block b t.1 in
        λ j. For (u j) (v j) (w j) (x j)
    statement (Alloc x cell dims memory) h =
        let p = or_parts (hidden x.id) (in_controls hidden dims) h in
        ap₂ (λ y z. Alloc y cell z memory) (binder x p.0) (controls dims p.1)
    statement (View w x cs) h =
        let p = or_parts (hidden w.id) (hidden x || in_coords hidden cs) h in
        let q = or_parts (hidden x) (in_coords hidden cs) p.1 in
        let u = binder w p.0 in let v = agree x q.0 in let t = coords cs q.1 in
        λ j. View (u j) (v j) (t j)
    statement (Call k args) h = ap (Call k) (arguments args h)

    pub block : (b : Block) → in_block hidden b ≡ false → re_block to b ≡ re_block on b
    block end h = refl
    block (next a b) h =
        let p = or_parts (in_statement hidden a) (in_block hidden b) h in ap₂ next (statement a p.0) (block b p.1)
