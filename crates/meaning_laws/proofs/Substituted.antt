-- A substitution keeps the binders of a block, and mentions no more than the block and the expression do.
use Rattle.std.proofs.Common.{◌≡◌, ℕ, ◌==◌, Bool, true, false, cond, ◌||◌, List, [], ◌∷◌, ◌++◌, refl, ap, ap₂}
use Rattle.exo_tree.specs.Tree.{Control, Lit, Var, Field, StrideOf, Neg, Add, Sub, Mul, Div, Mod}
use Rattle.exo_tree.specs.Tree.{Condition, True, False, Flag, FieldFlag, Lt, Le, Gt, Ge, Eq, And, Or}
use Rattle.exo_tree.specs.Tree.{Datum, Const, Read, Negated, Relu, Plus, Minus, Times, Select}
use Rattle.exo_tree.specs.Tree.{Coord, At, Span, Argument, ControlArg, ConditionArg, Whole, Window}
use Rattle.exo_tree.specs.Tree.{Statement, Assign, Reduce, Config, Pass, If, For, Alloc, View, Call, Block, end, next}
use Rattle.exo_tree.specs.Substitution as code
use Rattle.exo_tree.specs.Renaming.{binders, binders_below}
use Rattle.exo_meaning.specs.Unseen as seen
use Rattle.exo_meaning.proofs.Frame.{or_parts}
use Rattle.meaning_laws.specs.Substituted.{SubstitutionKeepsBinders, SubstitutionMentionsNoMore}

-- ---- binders

module _ (i : ℕ) (e : Control) where
  mutual
    step_binders_stay : (a : Statement) → binders_below (code.in_statement i e a) ≡ binders_below a
    step_binders_stay (Assign x is d) = refl
    step_binders_stay (Reduce x is d) = refl
    step_binders_stay (Config f a) = refl
    step_binders_stay Pass = refl
    step_binders_stay (If c a b) = ap₂ ◌++◌ (binders_stay a) (binders_stay b)
    step_binders_stay (For x lo hi b) = ap (λ is. x.id ∷ is) (binders_stay b)
    step_binders_stay (Alloc x cell dims memory) = refl
    step_binders_stay (View w x cs) = refl
    step_binders_stay (Call k args) = refl

    binders_stay : (b : Block) → binders (code.in_block i e b) ≡ binders b
    binders_stay end = refl
    binders_stay (next a b) = ap₂ ◌++◌ (step_binders_stay a) (binders_stay b)

pub substitution_keeps_binders : SubstitutionKeepsBinders
substitution_keeps_binders i e b = binders_stay i e b

-- ---- names that are mentioned

module _ (hidden : ℕ → Bool) (i : ℕ) (e : Control) (none : seen.in_control hidden e ≡ false) where
  -- a part of a tree that has no hidden name has none with e for i
  two : (a b c d : Bool) → (a || b) ≡ false → (a ≡ false → c ≡ false) → (b ≡ false → d ≡ false) → (c || d) ≡ false
  two a b c d h f g = let p = or_parts a b h in ap₂ ◌||◌ (f p.0) (g p.1)

  still : (x : ℕ) → hidden x ≡ false → hidden x ≡ false
  still x h = h

  no_control : (a : Control) → seen.in_control hidden a ≡ false → seen.in_control hidden (code.in_control i e a) ≡ false
  no_control (Lit n) h = refl
  no_control (Var x) h = go (x == i)
    where
      go : (t : Bool) → seen.in_control hidden (cond t e (Var x)) ≡ false
      go true = none
      go false = h
  no_control (Field f) h = refl
  no_control (StrideOf x k) h = h
  no_control (Neg a) h = no_control a h
  no_control (Add a b) h = two _ _ _ _ h (no_control a) (no_control b)
  no_control (Sub a b) h = two _ _ _ _ h (no_control a) (no_control b)
  no_control (Mul a b) h = two _ _ _ _ h (no_control a) (no_control b)
  no_control (Div a c) h = no_control a h
  no_control (Mod a c) h = no_control a h

  no_sides : (a b : Control) → (seen.in_control hidden a || seen.in_control hidden b) ≡ false
      → (seen.in_control hidden (code.in_control i e a) || seen.in_control hidden (code.in_control i e b)) ≡ false
  no_sides a b h = two _ _ _ _ h (no_control a) (no_control b)

  no_controls : (is : List Control) → seen.in_controls hidden is ≡ false → seen.in_controls hidden (code.in_controls i e is) ≡ false
  no_controls [] h = refl
  no_controls (a ∷ is) h = two _ _ _ _ h (no_control a) (no_controls is)

  no_condition : (c : Condition) → seen.in_condition hidden c ≡ false
      → seen.in_condition hidden (code.in_condition i e c) ≡ false
  no_condition True h = refl
  no_condition False h = refl
  no_condition (Flag x) h = h
  no_condition (FieldFlag f) h = refl
  no_condition (Lt a b) h = no_sides a b h
  no_condition (Le a b) h = no_sides a b h
  no_condition (Gt a b) h = no_sides a b h
  no_condition (Ge a b) h = no_sides a b h
  no_condition (Eq a b) h = no_sides a b h
  no_condition (And c d) h = two _ _ _ _ h (no_condition c) (no_condition d)
  no_condition (Or c d) h = two _ _ _ _ h (no_condition c) (no_condition d)

  no_datum : (d : Datum) → seen.in_datum hidden d ≡ false → seen.in_datum hidden (code.in_datum i e d) ≡ false
  no_datum (Const n) h = refl
  no_datum (Read x is) h = two _ _ _ _ h (still x) (no_controls is)
  no_datum (Negated a) h = no_datum a h
  no_datum (Relu a) h = no_datum a h
  no_datum (Plus a b) h = two _ _ _ _ h (no_datum a) (no_datum b)
  no_datum (Minus a b) h = two _ _ _ _ h (no_datum a) (no_datum b)
  no_datum (Times a b) h = two _ _ _ _ h (no_datum a) (no_datum b)
  no_datum (Select a b c d) h =
      two _ _ _ _ h (no_datum a) (λ k. two _ _ _ _ k (no_datum b) (λ l. two _ _ _ _ l (no_datum c) (no_datum d)))

  no_coords : (cs : List Coord) → seen.in_coords hidden cs ≡ false → seen.in_coords hidden (code.in_coords i e cs) ≡ false
  no_coords [] h = refl
  no_coords (At a ∷ cs) h = two _ _ _ _ h (no_control a) (no_coords cs)
  no_coords (Span a b ∷ cs) h = two _ _ _ _ h (no_control a) (λ k. two _ _ _ _ k (no_control b) (no_coords cs))

  no_argument : (a : Argument) → seen.in_argument hidden a ≡ false → seen.in_argument hidden (code.in_argument i e a) ≡ false
  no_argument (ControlArg a) h = no_control a h
  no_argument (ConditionArg c) h = no_condition c h
  no_argument (Whole x) h = h
  no_argument (Window x cs) h = two _ _ _ _ h (still x) (no_coords cs)

  no_arguments : (args : List Argument) → seen.in_arguments hidden args ≡ false
      → seen.in_arguments hidden (code.in_arguments i e args) ≡ false
  no_arguments [] h = refl
  no_arguments (a ∷ args) h = two _ _ _ _ h (no_argument a) (no_arguments args)

  mutual
    no_statement : (a : Statement) → seen.in_statement hidden a ≡ false
        → seen.in_statement hidden (code.in_statement i e a) ≡ false
    no_statement (Assign x is d) h = two _ _ _ _ h (still x) (λ k. two _ _ _ _ k (no_controls is) (no_datum d))
    no_statement (Reduce x is d) h = two _ _ _ _ h (still x) (λ k. two _ _ _ _ k (no_controls is) (no_datum d))
    no_statement (Config f a) h = no_argument a h
    no_statement Pass h = refl
    no_statement (If c a b) h = two _ _ _ _ h (no_condition c) (λ k. two _ _ _ _ k (no_block a) (no_block b))
    no_statement (For x lo hi b) h =
        two _ _ _ _ h (still x.id) (λ k. two _ _ _ _ k (no_control lo) (λ l. two _ _ _ _ l (no_control hi) (no_block b)))
    no_statement (Alloc x cell dims memory) h = two _ _ _ _ h (still x.id) (no_controls dims)
    no_statement (View w x cs) h = two _ _ _ _ h (still w.id) (λ k. two _ _ _ _ k (still x) (no_coords cs))
    no_statement (Call k args) h = no_arguments args h

    no_block : (b : Block) → seen.in_block hidden b ≡ false → seen.in_block hidden (code.in_block i e b) ≡ false
    no_block end h = refl
    no_block (next a b) h = two _ _ _ _ h (no_statement a) (no_block b)

pub substitution_mentions_no_more : SubstitutionMentionsNoMore
substitution_mentions_no_more hidden i e b none h = no_block hidden i e none b h
