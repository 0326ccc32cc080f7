-- The table of a procedure's names has the dimensions of its parameters.
use Rattle.std.proofs.Common.{◌≡◌, ◌∙◌, ℕ, ◌==◌, Bool, true, false, not, cond, ◌&&◌, ◌||◌, List, [], ◌∷◌}
use Rattle.std.proofs.Common.{Option, Some, None, refl, sym, ap, ap₂, true≢false, eqb-true, eq-eqb}
use Rattle.exo_tree.specs.Tree.{Control, ParamKind, ControlParam, TensorParam, WindowParam, Param}
use Rattle.exo_tree.specs.Tree.{Statement, Assign, Reduce, Config, Pass, If, For, Alloc, View, Call}
use Rattle.exo_tree.specs.Tree.{Block, end, next, Procedure}
use Rattle.exo_meaning.specs.Inputs.{is_buffer_of}
use Rattle.exo_meaning.proofs.Frame.{or_parts}
use Rattle.affine_forms.proofs.Values.{and_parts, none_some, some_injective}
use Rattle.meaning_laws.specs.Scoped.{has_binder, step_has_binder}
use Rattle.inplace_laws.specs.CallInPlace.{AreDistinct}
use Rattle.match_laws.specs.Names.{Buffer, Names, with_kind, with_params, viewed, with_block}
use Rattle.match_laws.specs.Names.{with_statement, names_of, extents_of}
use Rattle.match_laws.specs.Inline.MatchLaw.{dims_if, dims_of}

-- ---- a block changes the entries of its binders alone

set_frame : (names : Names) (y x : ℕ) (b : Option Buffer) → (x == y) ≡ false
    → cond (x == y) b (names x) ≡ names x
set_frame names y x b h = ap (λ t. cond t b (names x)) h

mutual
  pub block_frame : (b : Block) (names : Names) (x : ℕ) → has_binder b x ≡ false
      → with_block b names x ≡ names x
  block_frame end names x h = refl
  block_frame (next a b) names x h =
      let p = or_parts (step_has_binder a x) (has_binder b x) h in
      block_frame b (with_statement a names) x p.1 ∙ step_frame a names x p.0

  pub step_frame : (a : Statement) (names : Names) (x : ℕ) → step_has_binder a x ≡ false
      → with_statement a names x ≡ names x
  step_frame (Assign y is e) names x h = refl
  step_frame (Reduce y is e) names x h = refl
  step_frame (Config f a) names x h = refl
  step_frame Pass names x h = refl
  step_frame (If c a b) names x h =
      let p = or_parts (has_binder a x) (has_binder b x) h in
      block_frame b (with_block a names) x p.1 ∙ block_frame a names x p.0
  step_frame (For i lo hi b) names x h =
      block_frame b names x (or_parts (x == i.id) (has_binder b x) h).1
  step_frame (Alloc y cell dims memory) names x h =
      set_frame names y.id x (Some (record { cell = cell; extents = dims; tensor = true })) h
  step_frame (View w y cs) names x h = set_frame names w.id x (viewed cs (names y)) h
  step_frame (Call k args) names x h = refl

pub kind_frame : (y : ℕ) (kind : ParamKind) (names : Names) (x : ℕ) → (x == y) ≡ false
    → with_kind y kind names x ≡ names x
kind_frame y (ControlParam kind) names x h = refl
kind_frame y (TensorParam cell dims memory) names x h =
    set_frame names y x (Some (record { cell = cell; extents = dims; tensor = true })) h
kind_frame y (WindowParam cell dims memory) names x h =
    set_frame names y x (Some (record { cell = cell; extents = dims; tensor = false })) h

pub params_frame : (ps : List Param) (names : Names) (x : ℕ) → is_buffer_of x ps ≡ false
    → with_params ps names x ≡ names x
params_frame [] names x h = refl
params_frame (p ∷ ps) names x h =
    let q = or_parts (x == p.binder.id) (is_buffer_of x ps) h in
    params_frame ps (with_kind p.binder.id p.kind names) x q.1
    ∙ kind_frame p.binder.id p.kind names x q.0

-- ---- parameters

-- no parameter has the id of another, or of a binder of the block
abbrev pub are_own : List Param → Block → Bool
are_own [] b = true
are_own (p ∷ ps) b =
    not (is_buffer_of p.binder.id ps || has_binder b p.binder.id) && are_own ps b

denied : (t : Bool) → not t ≡ true → t ≡ false
denied true h = sym h
denied false h = refl

module _ (b : Block) where
  params_named : (ps : List Param) (names : Names) (x : ℕ) (dims : List Control)
      → are_own ps b ≡ true → dims_of ps x ≡ Some dims
      → (extents_of (with_params ps names x) ≡ dims) × (has_binder b x ≡ false)
  params_named [] names x dims h e = absurd (none_some e)
  params_named (p ∷ ps) names x dims h e =
      go p.kind (x == p.binder.id) refl e (λ others. params_named ps others x dims
      (and_parts (not (is_buffer_of p.binder.id ps || has_binder b p.binder.id)) (are_own ps b) h).1)
    where
      own : (is_buffer_of p.binder.id ps ≡ false) × (has_binder b p.binder.id ≡ false)
      own = or_parts (is_buffer_of p.binder.id ps) (has_binder b p.binder.id)
          (denied (is_buffer_of p.binder.id ps || has_binder b p.binder.id) (and_parts
          (not (is_buffer_of p.binder.id ps || has_binder b p.binder.id)) (are_own ps b) h).0)

      first : (buffer : Buffer) → (x == p.binder.id) ≡ true → Some buffer.extents ≡ Some dims
          → (extents_of (with_params ps (λ y. cond (y == p.binder.id) (Some buffer) (names y)) x) ≡ dims)
          × (has_binder b x ≡ false)
      first buffer i k =
          let same = eqb-true x p.binder.id i in (
            ap extents_of (params_frame ps (λ y. cond (y == p.binder.id) (Some buffer) (names y)) x
                (ap (λ y. is_buffer_of y ps) same ∙ own.0)
                ∙ ap (λ t. cond t (Some buffer) (names x)) i)
                ∙ some_injective buffer.extents dims k,
            ap (has_binder b) same ∙ own.1,
          )

      go : (kind : ParamKind) (t : Bool) → (x == p.binder.id) ≡ t
          → dims_if kind t (dims_of ps x) ≡ Some dims
          → ((others : Names) → dims_of ps x ≡ Some dims
          → (extents_of (with_params ps others x) ≡ dims) × (has_binder b x ≡ false))
          → (extents_of (with_params ps (with_kind p.binder.id kind names) x) ≡ dims)
          × (has_binder b x ≡ false)
      go (ControlParam kind) t i k rest = rest names k
      go (TensorParam cell ds memory) true i k rest =
          first (record { cell = cell; extents = ds; tensor = true }) i k
      go (TensorParam cell ds memory) false i k rest =
          rest (with_kind p.binder.id (TensorParam cell ds memory) names) k
      go (WindowParam cell ds memory) true i k rest =
          first (record { cell = cell; extents = ds; tensor = false }) i k
      go (WindowParam cell ds memory) false i k rest =
          rest (with_kind p.binder.id (WindowParam cell ds memory) names) k

  pub own_params : (ps : List Param) → AreDistinct ps
      → ((x : ℕ) → is_buffer_of x ps ≡ true → has_binder b x ≡ false) → are_own ps b ≡ true
  own_params [] h k = refl
  own_params (p ∷ ps) h k =
      ap₂ ◌&&◌ (ap₂ (λ s t. not (s || t)) h.0
      (k p.binder.id (ap (λ t. t || is_buffer_of p.binder.id ps) (eq-eqb p.binder.id p.binder.id refl))))
      (own_params ps h.1 (λ x i. k x (right (x == p.binder.id) (is_buffer_of x ps) i)))
    where
      right : (s t : Bool) → t ≡ true → (s || t) ≡ true
      right true t i = refl
      right false t i = i

pub named_dims : (q : Procedure) → are_own q.params q.body ≡ true → (x : ℕ) (dims : List Control)
    → dims_of q.params x ≡ Some dims → extents_of (names_of q x) ≡ dims
named_dims q h x dims e =
    let it = params_named q.body q.params (λ y. None) x dims h e in
    ap extents_of (block_frame q.body (with_params q.params (λ y. None)) x it.1) ∙ it.0
