-- What copies of blocks leave and mention.
use Rattle.std.proofs.Common.{◌≡◌, ℕ, ◌==◌, Bool, true, false, ◌||◌, List, [], ◌∷◌, refl, sym, ap}
use Rattle.std.proofs.Common.{ap₂, ◌∙◌, true≢false, eqb-true, eq-eqb}
use Rattle.std.proofs.Math.Path.{fun_ext}
use Rattle.exo_tree.specs.Tree.{Control, Lit, Var, Field, StrideOf, Neg, Add, Sub, Mul, Div, Mod}
use Rattle.exo_tree.specs.Tree.{Condition, True, False, Flag, FieldFlag, Lt, Le, Gt, Ge, Eq, And}
use Rattle.exo_tree.specs.Tree.{Or, Datum, Const, Read, Negated, Relu, Plus, Minus, Times, Select}
use Rattle.exo_tree.specs.Tree.{Coord, At, Span, Argument, ControlArg, ConditionArg, Whole, Window}
use Rattle.exo_tree.specs.Tree.{Statement, Assign, Reduce, Config, Pass, If, For, Alloc, View, Call}
use Rattle.exo_tree.specs.Tree.{Block, end, next, joined}
use Rattle.exo_tree.specs.Renaming as code
use Rattle.exo_meaning.specs.Orders.{Each}
use Rattle.exo_meaning.specs.Renaming.{Renaming, re_statement, re_block}
use Rattle.exo_meaning.specs.Unseen.{in_control, in_controls, in_condition, in_datum, in_coords}
use Rattle.exo_meaning.specs.Unseen.{in_argument, in_arguments, in_statement, in_block}
use Rattle.meaning_laws.specs.Sound.{binds}
use Rattle.meaning_laws.specs.Substitute.{in_statement as substituted_in}
use Rattle.meaning_laws.proofs.Scoped.{both_false}
use Rattle.exo_meaning.proofs.Frame.{or_parts}
use Rattle.place_laws.specs.Scope.Apart.{RenamedMentions, RenamedLeaves, SubstitutedLeaves, CopyAvoids}
use Rattle.place_laws.specs.Scope.Apart.{ApartLaw}
use Rattle.place_laws.specs.Scope.Scopes.{top_binders, joined_all}

-- ---- what is mentioned

module _ (hidden : ℕ → Bool) (to : ℕ → ℕ) where
  abbrev moved : ℕ → Bool
  moved x = hidden (to x)

  control : (a : Control) → in_control hidden (code.re_control to a) ≡ in_control moved a
  control (Lit n) = refl
  control (Var x) = refl
  control (Field f) = refl
  control (StrideOf x k) = refl
  control (Neg a) = control a
  control (Add a b) = ap₂ ◌||◌ (control a) (control b)
  control (Sub a b) = ap₂ ◌||◌ (control a) (control b)
  control (Mul a b) = ap₂ ◌||◌ (control a) (control b)
  control (Div a c) = control a
  control (Mod a c) = control a

  controls : (as' : List Control) → in_controls hidden (code.re_controls to as') ≡ in_controls moved
      as'
  controls [] = refl
  controls (a ∷ as') = ap₂ ◌||◌ (control a) (controls as')

  condition : (c : Condition) → in_condition hidden (code.re_condition to c) ≡ in_condition moved c
  condition True = refl
  condition False = refl
  condition (Flag x) = refl
  condition (FieldFlag f) = refl
  condition (Lt a b) = ap₂ ◌||◌ (control a) (control b)
  condition (Le a b) = ap₂ ◌||◌ (control a) (control b)
  condition (Gt a b) = ap₂ ◌||◌ (control a) (control b)
  condition (Ge a b) = ap₂ ◌||◌ (control a) (control b)
  condition (Eq a b) = ap₂ ◌||◌ (control a) (control b)
  condition (And c d) = ap₂ ◌||◌ (condition c) (condition d)
  condition (Or c d) = ap₂ ◌||◌ (condition c) (condition d)

  datum : (d : Datum) → in_datum hidden (code.re_datum to d) ≡ in_datum moved d
  datum (Const n) = refl
  datum (Read x is) = ap (λ t. moved x || t) (controls is)
  datum (Negated a) = datum a
  datum (Relu a) = datum a
  datum (Plus a b) = ap₂ ◌||◌ (datum a) (datum b)
  datum (Minus a b) = ap₂ ◌||◌ (datum a) (datum b)
  datum (Times a b) = ap₂ ◌||◌ (datum a) (datum b)
  datum (Select a b c d) = ap₂ ◌||◌ (datum a) (ap₂ ◌||◌ (datum b) (ap₂ ◌||◌ (datum c) (datum d)))

  coords : (cs : List Coord) → in_coords hidden (code.re_coords to cs) ≡ in_coords moved cs
  coords [] = refl
  coords (At a ∷ cs) = ap₂ ◌||◌ (control a) (coords cs)
  coords (Span a b ∷ cs) = ap₂ ◌||◌ (control a) (ap₂ ◌||◌ (control b) (coords cs))

  argument : (a : Argument) → in_argument hidden (code.re_argument to a) ≡ in_argument moved a
  argument (ControlArg a) = control a
  argument (ConditionArg c) = condition c
  argument (Whole x) = refl
  argument (Window x cs) = ap (λ t. moved x || t) (coords cs)

  arguments : (as' : List Argument) → in_arguments hidden (code.re_arguments to as') ≡ in_arguments
      moved as'
  arguments [] = refl
  arguments (a ∷ as') = ap₂ ◌||◌ (argument a) (arguments as')

  mutual
    pub block : (b : Block) → in_block hidden (code.re_block to b) ≡ in_block moved b
    block end = refl
    block (next a b) = ap₂ ◌||◌ (statement a) (block b)

    statement : (a : Statement) → in_statement hidden (code.re_statement to a) ≡ in_statement moved
        a
    statement (Assign x is e) = ap (λ t. moved x || t) (ap₂ ◌||◌ (controls is) (datum e))
    statement (Reduce x is e) = ap (λ t. moved x || t) (ap₂ ◌||◌ (controls is) (datum e))
    statement (Config f a) = argument a
    statement Pass = refl
    statement (If c a b) = ap₂ ◌||◌ (condition c) (ap₂ ◌||◌ (block a) (block b))
    statement (For i lo hi b) = ap (λ t. moved i.id || t)
        (ap₂ ◌||◌ (control lo) (ap₂ ◌||◌ (control hi) (block b)))
    statement (Alloc x cell dims memory) = ap (λ t. moved x.id || t) (controls dims)
    statement (View w x cs) = ap (λ t. moved w.id || (moved x || t)) (coords cs)
    statement (Call k args) = arguments args

-- a map of ids, whether or not it is a renaming
pub map_mentions :
    (hidden : ℕ → Bool) (to : ℕ → ℕ) (b : Block)
    → in_block hidden (code.re_block to b) ≡ in_block (λ x. hidden (to x)) b
map_mentions hidden to b = block hidden to b

pub renamed_mentions : RenamedMentions
renamed_mentions hidden r b = block hidden r.to b

-- ---- what is left

moved_name : (r : Renaming) (x y : ℕ) → (x == r.to y) ≡ (r.from x == y)
moved_name r x y = go (x == r.to y) (r.from x == y) refl refl
  where
    go : (t u : Bool) → (x == r.to y) ≡ t → (r.from x == y) ≡ u → t ≡ u
    go true true e k = refl
    go false false e k = refl
    go true false e k =
        absurd (true≢false (sym (eq-eqb (r.from x) y (ap r.from (eqb-true x (r.to y) e)
        ∙ r.from_to y)) ∙ k))
    go false true e k =
        absurd (true≢false (sym (eq-eqb x (r.to y) (sym (r.to_from x)
        ∙ ap r.to (eqb-true (r.from x) y k))) ∙ e))

renamed_binds : (r : Renaming) (a : Statement) (x : ℕ)
    → binds (re_statement r a) x ≡ binds a (r.from x)
renamed_binds r (Assign y is e) x = refl
renamed_binds r (Reduce y is e) x = refl
renamed_binds r (Config f a) x = refl
renamed_binds r Pass x = refl
renamed_binds r (If c a b) x = refl
renamed_binds r (For i lo hi b) x = refl
renamed_binds r (Alloc y cell dims memory) x = moved_name r x y.id
renamed_binds r (View w y cs) x = moved_name r x w.id
renamed_binds r (Call k args) x = refl

pub renamed_leaves : RenamedLeaves
renamed_leaves r end x = refl
renamed_leaves r (next a b) x = ap₂ ◌||◌ (renamed_binds r a x) (renamed_leaves r b x)

substituted_binds : (i : ℕ) (e : Control) (a : Statement) (x : ℕ)
    → binds (substituted_in i e a) x ≡ binds a x
substituted_binds i e (Assign y is d) x = refl
substituted_binds i e (Reduce y is d) x = refl
substituted_binds i e (Config f a) x = refl
substituted_binds i e Pass x = refl
substituted_binds i e (If c a b) x = refl
substituted_binds i e (For y lo hi b) x = refl
substituted_binds i e (Alloc y cell dims memory) x = refl
substituted_binds i e (View w y cs) x = refl
substituted_binds i e (Call k args) x = refl

pub substituted_leaves : SubstitutedLeaves
substituted_leaves i e end x = refl
substituted_leaves i e (next a b) x =
    ap₂ ◌||◌ (substituted_binds i e a x) (substituted_leaves i e b x)

pub copy_avoids : CopyAvoids
copy_avoids r t a b h =
    renamed_mentions (top_binders (re_block r a)) t b
    ∙ ap (λ hidden. in_block hidden b) (fun_ext (λ x. renamed_leaves r a (t.to x)))
    ∙ h

-- ---- blocks in a row

joined_avoids : (hidden : ℕ → Bool) (a b : Block) → in_block hidden a ≡ false
    → in_block hidden b ≡ false → in_block hidden (joined a b) ≡ false
joined_avoids hidden end b h k = k
joined_avoids hidden (next s a) b h k =
    let p = or_parts (in_statement hidden s) (in_block hidden a) h in
    both_false (in_statement hidden s) (in_block hidden (joined a b)) p.0 (joined_avoids hidden a b
    p.1 k)

pub all_avoid : (hidden : ℕ → Bool) (bs : List Block) → Each (λ b. in_block hidden b ≡ false) bs
    → in_block hidden (joined_all bs) ≡ false
all_avoid hidden [] h = refl
all_avoid hidden (b ∷ bs) h = joined_avoids hidden b (joined_all bs) h.0 (all_avoid hidden bs h.1)

pub apart_law : ApartLaw
apart_law [] h = tt
apart_law (b ∷ bs) h = (all_avoid (top_binders b) bs h.0, apart_law bs h.1)
