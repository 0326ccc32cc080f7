-- The table of roots says of each name what its binder says.
use Rattle.std.proofs.Common.{◌≡◌, ℕ, ◌==◌, Bool, true, false, cond, not, ◌&&◌, ◌||◌, List, [], ◌∷◌, ◌++◌, length, map, Option, Some, None, option_map, refl, sym, ap, ◌∙◌, true≢false, eqb-true}
use Rattle.exo_tree.specs.Tree.{Coord, Statement, Assign, Reduce, Config, Pass, If, For, Alloc, View, Call, Block, end, next, Param, ParamKind, ControlParam, TensorParam, WindowParam, Procedure}
use Rattle.exo_meaning.specs.Unseen.{in_control, in_condition, in_coords}
use Rattle.exo_meaning.specs.Binders.{binders}
use Rattle.exo_meaning.specs.Units.{are_distinct}
use Rattle.exo_meaning.specs.Inputs.{is_buffer_of}
use Rattle.meaning_laws.specs.Sound.{binds}
use Rattle.meaning_laws.specs.Scoped.{is_not, is_param, is_scoped, step_is_scoped, has_binder, step_has_binder}
use Rattle.affine_places.specs.Roots.{Dense, Strided, Rooted, Roots, no_roots, own_root, with_kind, with_params, seen_through, with_view, with_block, with_statement, roots_of}
use Rattle.check_laws.proofs.OfFacts.Truths.{parts, neither, both_false, one_of, on_left, on_right, denied, contrary, self}
use Rattle.check_laws.proofs.OfFacts.Binders.{IsApart, StepIsApart, apart_there, step_apart_there, binds_less, Among, split, not_bound, apart}

-- ---- a block changes the roots of its binders alone

with_view_frame : (w : ℕ) (coords : List Coord) (o : Option Rooted) (roots : Roots) (x : ℕ) → (x == w) ≡ false → with_view w coords o roots x ≡ roots x
with_view_frame w coords None roots x h = refl
with_view_frame w coords (Some r) roots x h = ap (λ t. cond t (Some (seen_through coords r)) (roots x)) h

mutual
  block_frame : (b : Block) (roots : Roots) (x : ℕ) → has_binder b x ≡ false → with_block b roots x ≡ roots x
  block_frame end roots x h = refl
  block_frame (next a b) roots x h = let p = neither (step_has_binder a x) (has_binder b x) h in block_frame b (with_statement a roots) x p.1 ∙ step_frame a roots x p.0

  step_frame : (a : Statement) (roots : Roots) (x : ℕ) → step_has_binder a x ≡ false → with_statement a roots x ≡ roots x
  step_frame (Assign y is e) roots x h = refl
  step_frame (Reduce y is e) roots x h = refl
  step_frame (Config f a) roots x h = refl
  step_frame Pass roots x h = refl
  step_frame (If c a b) roots x h = let p = neither (has_binder a x) (has_binder b x) h in block_frame b (with_block a roots) x p.1 ∙ block_frame a roots x p.0
  step_frame (For i lo hi b) roots x h = block_frame b roots x (neither (x == i.id) (has_binder b x) h).1
  step_frame (Alloc y cell es memory) roots x h = ap (λ t. cond t (Some (own_root y.id (Dense es) (length es))) (roots x)) h
  step_frame (View w y coords) roots x h = with_view_frame w.id coords (roots y) roots x h
  step_frame (Call k args) roots x h = refl

assoc : (p q r : Bool) → ((p || q) || r) ≡ false → (p || (q || r)) ≡ false
assoc true q r h = h
assoc false q r h = h

kind_frame : (x : ℕ) (kind : ParamKind) (roots : Roots) (y : ℕ) → (y == x) ≡ false → with_kind x kind roots y ≡ roots y
kind_frame x (ControlParam kind) roots y h = refl
kind_frame x (TensorParam cell es memory) roots y h = ap (λ t. cond t (Some (own_root x (Dense es) (length es))) (roots y)) h
kind_frame x (WindowParam cell es memory) roots y h = ap (λ t. cond t (Some (own_root x Strided (length es))) (roots y)) h

params_frame : (ps : List Param) (roots : Roots) (x : ℕ) → Among (map (λ p. p.binder.id) ps) x ≡ false → with_params ps roots x ≡ roots x
params_frame [] roots x h = refl
params_frame (p ∷ ps) roots x h =
    let q = neither (x == p.binder.id) (Among (map (λ (q : Param). q.binder.id) ps) x) h in
    params_frame ps (with_kind p.binder.id p.kind roots) x q.1 ∙ kind_frame p.binder.id p.kind roots x q.0

-- ---- what a table says of the binders of a block

module _ (table : Roots) where
  abbrev mutual
    pub Agrees : Block → Type 0
    Agrees end = Unit {0}
    Agrees (next a b) = StepAgrees a × Agrees b

    pub StepAgrees : Statement → Type 0
    StepAgrees (Assign x is e) = Unit {0}
    StepAgrees (Reduce x is e) = Unit {0}
    StepAgrees (Config f a) = Unit {0}
    StepAgrees Pass = Unit {0}
    StepAgrees (If c a b) = Agrees a × Agrees b
    StepAgrees (For i lo hi b) = (table i.id ≡ None) × Agrees b
    StepAgrees (Alloc x cell es memory) = table x.id ≡ Some (own_root x.id (Dense es) (length es))
    StepAgrees (View w x coords) = table w.id ≡ option_map (seen_through coords) (table x)
    StepAgrees (Call k args) = Unit {0}

  abbrev pub KindAgrees : ℕ → ParamKind → Type 0
  KindAgrees x (ControlParam kind) = table x ≡ None
  KindAgrees x (TensorParam cell es memory) = table x ≡ Some (own_root x (Dense es) (length es))
  KindAgrees x (WindowParam cell es memory) = table x ≡ Some (own_root x Strided (length es))

  abbrev pub ParamsAgree : List Param → Type 0
  ParamsAgree [] = Unit {0}
  ParamsAgree (p ∷ ps) = KindAgrees p.binder.id p.kind × ParamsAgree ps

  mutual
    block_agrees : (b : Block) (bound later : ℕ → Bool) (roots : Roots) → is_scoped bound b ≡ true → IsApart later b → ((x : ℕ) → bound x ≡ true → (has_binder b x || later x) ≡ false) → ((x : ℕ) → has_binder b x ≡ true → roots x ≡ None) → ((x : ℕ) → later x ≡ false → table x ≡ with_block b roots x) → Agrees b
    block_agrees end bound later roots scoped apart new none is = tt
    block_agrees (next a b) bound later roots scoped apart new none is =
        let s = parts (step_is_scoped bound a) (is_scoped (λ y. binds a y || bound y) b) scoped in
        let behind : ℕ → Bool = λ x. has_binder b x || later x in (
          step_agrees a bound behind roots s.0 apart.0 (λ x k. assoc (step_has_binder a x) (has_binder b x) (later x) (new x k)) (λ x k. none x (on_left (step_has_binder a x) (has_binder b x) k)) (λ x k. (let p = neither (has_binder b x) (later x) k in is x p.1 ∙ block_frame b (with_statement a roots) x p.0)),
          block_agrees b (λ y. binds a y || bound y) later (with_statement a roots) s.1 apart.1
              (λ x k. one_of (binds a x) (bound x) k (λ j. step_apart_there behind a apart.0 x (binds_less a x j)) (λ j. (neither (step_has_binder a x) (has_binder b x || later x) (assoc (step_has_binder a x) (has_binder b x) (later x) (new x j))).1))
              (λ x k. step_frame a roots x (contrary (step_has_binder a x) (λ j. true≢false (sym (on_left (has_binder b x) (later x) k) ∙ step_apart_there behind a apart.0 x j))) ∙ none x (on_right (step_has_binder a x) (has_binder b x) k)) is,
        )

    step_agrees : (a : Statement) (bound later : ℕ → Bool) (roots : Roots) → step_is_scoped bound a ≡ true → StepIsApart later a → ((x : ℕ) → bound x ≡ true → (step_has_binder a x || later x) ≡ false) → ((x : ℕ) → step_has_binder a x ≡ true → roots x ≡ None) → ((x : ℕ) → later x ≡ false → table x ≡ with_statement a roots x) → StepAgrees a
    step_agrees (Assign y is e) bound later roots scoped apart new none same = tt
    step_agrees (Reduce y is e) bound later roots scoped apart new none same = tt
    step_agrees (Config f a) bound later roots scoped apart new none same = tt
    step_agrees Pass bound later roots scoped apart new none same = tt
    step_agrees (If c a b) bound later roots scoped apart new none same =
        let s = parts (is_scoped bound a) (is_scoped bound b) (parts (not (in_condition (is_not bound) c)) (is_scoped bound a && is_scoped bound b) scoped).1 in
        let behind : ℕ → Bool = λ x. has_binder b x || later x in (
          block_agrees a bound behind roots s.0 apart.0 (λ x k. assoc (has_binder a x) (has_binder b x) (later x) (new x k)) (λ x k. none x (on_left (has_binder a x) (has_binder b x) k)) (λ x k. (let p = neither (has_binder b x) (later x) k in same x p.1 ∙ block_frame b (with_block a roots) x p.0)),
          block_agrees b bound later (with_block a roots) s.1 apart.1 (λ x k. (neither (has_binder a x) (has_binder b x || later x) (assoc (has_binder a x) (has_binder b x) (later x) (new x k))).1)
              (λ x k. block_frame a roots x (contrary (has_binder a x) (λ j. true≢false (sym (on_left (has_binder b x) (later x) k) ∙ apart_there behind a apart.0 x j))) ∙ none x (on_right (has_binder a x) (has_binder b x) k)) same,
        )
    step_agrees (For i lo hi b) bound later roots scoped apart new none same =
        let s = parts (not (in_control (is_not bound) lo || in_control (is_not bound) hi)) (is_scoped (λ y. (y == i.id) || bound y) b) (parts (not (bound i.id)) (not (in_control (is_not bound) lo || in_control (is_not bound) hi) && is_scoped (λ y. (y == i.id) || bound y) b) scoped).1 in
        let p = neither (has_binder b i.id) (later i.id) apart.0 in (
          same i.id p.1 ∙ block_frame b roots i.id p.0 ∙ none i.id (on_left (i.id == i.id) (has_binder b i.id) (self i.id)),
          block_agrees b (λ y. (y == i.id) || bound y) later roots s.1 apart.1
              (λ x k. one_of (x == i.id) (bound x) k (λ j. ap (λ y. has_binder b y || later y) (eqb-true x i.id j) ∙ apart.0) (λ j. (let q = neither ((x == i.id) || has_binder b x) (later x) (new x j) in both_false (has_binder b x) (later x) (neither (x == i.id) (has_binder b x) q.0).1 q.1)))
              (λ x k. none x (on_right (x == i.id) (has_binder b x) k)) same,
        )
    step_agrees (Alloc y cell es memory) bound later roots scoped apart new none same = same y.id apart ∙ ap (λ t. cond t (Some (own_root y.id (Dense es) (length es))) (roots y.id)) (self y.id)
    step_agrees (View w y coords) bound later roots scoped apart new none same =
        let p = parts (bound y) (not (in_coords (is_not bound) coords)) (parts (not (bound w.id)) (bound y && not (in_coords (is_not bound) coords)) scoped).1 in
        let q = neither (y == w.id) (later y) (new y p.0) in
        let seen : table y ≡ roots y = same y q.1 ∙ with_view_frame w.id coords (roots y) roots y q.0 in
        same w.id apart ∙ go (roots y) (none w.id (self w.id)) ∙ sym (ap (option_map (seen_through coords)) seen)
      where
        go : (o : Option Rooted) → roots w.id ≡ None → with_view w.id coords o roots w.id ≡ option_map (seen_through coords) o
        go None k = k
        go (Some r) k = ap (λ t. cond t (Some (seen_through coords r)) (roots w.id)) (self w.id)
    step_agrees (Call n args) bound later roots scoped apart new none same = tt

  -- ---- parameters

  kind_agrees : (x : ℕ) (kind : ParamKind) (roots : Roots) → roots x ≡ None → table x ≡ with_kind x kind roots x → KindAgrees x kind
  kind_agrees x (ControlParam kind) roots none own = own ∙ none
  kind_agrees x (TensorParam cell es memory) roots none own = own ∙ ap (λ t. cond t (Some (own_root x (Dense es) (length es))) (roots x)) (self x)
  kind_agrees x (WindowParam cell es memory) roots none own = own ∙ ap (λ t. cond t (Some (own_root x Strided (length es))) (roots x)) (self x)

  params_agree : (ps : List Param) (roots : Roots) → are_distinct (map (λ p. p.binder.id) ps) ≡ true → ((x : ℕ) → Among (map (λ p. p.binder.id) ps) x ≡ true → roots x ≡ None) → ((x : ℕ) → Among (map (λ p. p.binder.id) ps) x ≡ true → table x ≡ with_params ps roots x) → ParamsAgree ps
  params_agree [] roots h none same = tt
  params_agree (p ∷ ps) roots h none same =
      let x = p.binder.id in
      let ids = map (λ (q : Param). q.binder.id) ps in
      let d = parts (not (Among ids x)) (are_distinct ids) h in
      let own : table x ≡ with_kind x p.kind roots x = same x (on_left (x == x) (Among ids x) (self x)) ∙ params_frame ps (with_kind x p.kind roots) x (denied (Among ids x) d.0) in (
        kind_agrees x p.kind roots (none x (on_left (x == x) (Among ids x) (self x))) own,
        params_agree ps (with_kind x p.kind roots) d.1
            (λ y k. kind_frame x p.kind roots y (contrary (y == x) (λ j. true≢false (sym k ∙ ap (Among ids) (eqb-true y x j) ∙ denied (Among ids x) d.0))) ∙ none y (on_right (y == x) (Among ids y) k))
            (λ y k. same y (on_right (y == x) (Among ids y) k)),
      )

param_among : (ps : List Param) (x : ℕ) → is_buffer_of x ps ≡ true → Among (map (λ p. p.binder.id) ps) x ≡ true
param_among [] x h = h
param_among (p ∷ ps) x h = one_of (x == p.binder.id) (is_buffer_of x ps) h (on_left (x == p.binder.id) (Among (map (λ (q : Param). q.binder.id) ps) x)) (λ k. on_right (x == p.binder.id) (Among (map (λ (q : Param). q.binder.id) ps) x) (param_among ps x k))

among_param : (ps : List Param) (x : ℕ) → Among (map (λ p. p.binder.id) ps) x ≡ true → is_buffer_of x ps ≡ true
among_param [] x h = h
among_param (p ∷ ps) x h = one_of (x == p.binder.id) (Among (map (λ (q : Param). q.binder.id) ps) x) h (on_left (x == p.binder.id) (is_buffer_of x ps)) (λ k. on_right (x == p.binder.id) (is_buffer_of x ps) (among_param ps x k))

pub block_is_told : (p : Procedure) → is_scoped (is_param p) p.body ≡ true → are_distinct (map (λ q. q.binder.id) p.params ++ binders p.body) ≡ true → Agrees (roots_of p) p.body
block_is_told p scoped distinct =
    let ids = map (λ (q : Param). q.binder.id) p.params in
    let d = split ids (binders p.body) distinct in
    let fresh : (x : ℕ) → Among ids x ≡ true → has_binder p.body x ≡ false = λ x k. not_bound p.body x (d.apart x k) in
    block_agrees (roots_of p) p.body (is_param p) (λ x. false) (with_params p.params no_roots) scoped (apart (λ x. false) p.body d.second (λ x k. refl))
    (λ x k. both_false (has_binder p.body x) false (fresh x (param_among p.params x k)) refl)
    (λ x k. params_frame p.params no_roots x (contrary (Among ids x) (λ j. true≢false (sym k ∙ fresh x j))))
    (λ x k. refl)

pub params_are_told : (p : Procedure) → are_distinct (map (λ q. q.binder.id) p.params ++ binders p.body) ≡ true → ParamsAgree (roots_of p) p.params
params_are_told p distinct =
    let d = split (map (λ (q : Param). q.binder.id) p.params) (binders p.body) distinct in
    params_agree (roots_of p) p.params no_roots d.first (λ x k. refl) (λ x k. block_frame p.body (with_params p.params no_roots) x (not_bound p.body x (d.apart x k)))

-- a name that nothing binds has no root
pub no_root : (p : Procedure) (x : ℕ) → is_param p x ≡ false → has_binder p.body x ≡ false → roots_of p x ≡ None
no_root p x h k = block_frame p.body (with_params p.params no_roots) x k ∙ params_frame p.params no_roots x (contrary (Among (map (λ (q : Param). q.binder.id) p.params) x) (λ j. true≢false (sym (among_param p.params x j) ∙ h)))
