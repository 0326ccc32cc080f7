-- Names in scope.
use Rattle.std.specs.Prelude.{◌≡◌, ◌==◌, ◌&&◌, ◌||◌, not, ℕ, Bool, true, false, ⊤}
use Rattle.exo_tree.specs.Tree.{Statement, Assign, Reduce, Config, Pass, If, For, Alloc, View, Call}
use Rattle.exo_tree.specs.Tree.{Block, end, next, Procedure}
use Rattle.exo_meaning.specs.Inputs.{is_buffer_of}
use Rattle.exo_meaning.specs.Orders.{Each}
use Rattle.exo_meaning.specs.Unseen.{in_control, in_controls, in_condition, in_datum, in_coords}
use Rattle.exo_meaning.specs.Unseen.{in_argument, in_arguments, in_block as mentions}
use Rattle.exo_tree.specs.Context.{Context, Here, After, InLoop, InThen, InElse, fill}
use Rattle.meaning_laws.specs.Sound.{binds}
use Rattle.meaning_laws.specs.Substitute.{is_plain}
use Rattle.meaning_laws.specs.Known.{KeepsKnown}
use Rattle.meaning_laws.specs.Copies.{IsFree}

abbrev pub is_not : (ℕ → Bool) → ℕ → Bool
is_not bound x = not (bound x)

-- each name that is used is bound, and each binder is new
abbrev mutual
  pub is_scoped : (ℕ → Bool) → Block → Bool
  is_scoped bound end = true
  is_scoped bound (next a b) = step_is_scoped bound a && is_scoped (λ y. binds a y || bound y) b

  pub step_is_scoped : (ℕ → Bool) → Statement → Bool
  step_is_scoped bound (Assign x is e) =
      bound x && not (in_controls (is_not bound) is || in_datum (is_not bound) e)
  step_is_scoped bound (Reduce x is e) =
      bound x && not (in_controls (is_not bound) is || in_datum (is_not bound) e)
  step_is_scoped bound (Config f a) = not (in_argument (is_not bound) a)
  step_is_scoped bound Pass = true
  step_is_scoped bound (If c a b) =
      not (in_condition (is_not bound) c) && (is_scoped bound a && is_scoped bound b)
  step_is_scoped bound (For i lo hi b) =
      not (bound i.id)
      && (not (in_control (is_not bound) lo || in_control (is_not bound) hi)
      && is_scoped (λ y. (y == i.id) || bound y) b)
  step_is_scoped bound (Alloc x cell dims memory) =
      not (bound x.id) && not (in_controls (is_not bound) dims)
  step_is_scoped bound (View w x coords) =
      not (bound w.id) && (bound x && not (in_coords (is_not bound) coords))
  step_is_scoped bound (Call k args) = not (in_arguments (is_not bound) args)

abbrev pub is_param : Procedure → ℕ → Bool
is_param p x = is_buffer_of x p.params

-- no bound reads a field or a stride
abbrev pub HasPlainBounds : Context → Type 0
HasPlainBounds (Here rest) = ⊤
HasPlainBounds (After a c) = HasPlainBounds c
HasPlainBounds (InLoop i lo hi c rest) =
    (is_plain lo ≡ true) × (is_plain hi ≡ true) × HasPlainBounds c
HasPlainBounds (InThen t c other rest) = HasPlainBounds c
HasPlainBounds (InElse t other c rest) = HasPlainBounds c

-- in a procedure whose names are in scope nothing on the way changes what is known
abbrev pub ScopeLaw : Type 0
ScopeLaw =
    (p : Procedure) (c : Context) (old : Block)
    → p.body ≡ fill c old
    → is_scoped (is_param p) p.body ≡ true
    → Each (λ t. in_condition (is_not (is_param p)) t ≡ false) p.asserts
    → HasPlainBounds c
    → KeepsKnown p c

-- ---- binders

abbrev mutual
  pub has_binder : Block → ℕ → Bool
  has_binder end y = false
  has_binder (next a b) y = step_has_binder a y || has_binder b y

  pub step_has_binder : Statement → ℕ → Bool
  step_has_binder (Assign x is e) y = false
  step_has_binder (Reduce x is e) y = false
  step_has_binder (Config f a) y = false
  step_has_binder Pass y = false
  step_has_binder (If c a b) y = has_binder a y || has_binder b y
  step_has_binder (For i lo hi b) y = (y == i.id) || has_binder b y
  step_has_binder (Alloc x cell dims memory) y = y == x.id
  step_has_binder (View w x coords) y = y == w.id
  step_has_binder (Call k args) y = false

-- the binders of what stands in the hole are free there
abbrev pub BindersLaw : Type 0
BindersLaw =
    (p : Procedure) (c : Context) (old : Block) (x : ℕ)
    → is_scoped (is_param p) (fill c old) ≡ true
    → has_binder old x ≡ true
    → IsFree p c x

-- so is a name that the procedure does not bind
abbrev pub FreshLaw : Type 0
FreshLaw =
    (p : Procedure) (c : Context) (old : Block) (x : ℕ)
    → is_param p x ≡ false
    → has_binder (fill c old) x ≡ false
    → IsFree p c x

-- a block mentions no name but those bound before it and its own
abbrev pub UnmentionedLaw : Type 0
UnmentionedLaw =
    (bound hidden : ℕ → Bool) (b : Block)
    → is_scoped bound b ≡ true
    → ((x : ℕ) → bound x ≡ true → hidden x ≡ false)
    → ((x : ℕ) → has_binder b x ≡ true → hidden x ≡ false)
    → mentions hidden b ≡ false
