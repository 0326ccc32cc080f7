-- The parts of a block that is two blocks.
use Rattle.std.proofs.Common.{◌≡◌, ℕ, Bool, true, false, true≢false, ◌==◌, ◌||◌, cond, [], ◌∷◌, length}
use Rattle.std.proofs.Common.{Option, Some, None, option_map, refl, sym, ap, ap₂, ◌∙◌, eqb-true}
use Rattle.std.specs.Prelude.{IsSome}
use Rattle.exo_tree.specs.Tree.{Kind, Binder, Statement, Assign, Reduce, Config, Pass, If, For, Alloc}
use Rattle.exo_tree.specs.Tree.{View, Call, Block, end, next, joined}
use Rattle.exo_tree.specs.Context.{Here}
use Rattle.exo_tree.specs.Places.{parted, opened_in}
use Rattle.exo_meaning.specs.Calls.{Callee}
use Rattle.exo_meaning.specs.Run.{roots_after}
use Rattle.exo_meaning.specs.Units.{Sort, BufferName, Scope, sort_in, with_name, is_new, spans}
use Rattle.exo_meaning.specs.Units.{view_sort, scope_after, is_block, is_statement}
use Rattle.exo_meaning.specs.Unseen.{in_block as mentions, in_statement}
use Rattle.exo_meaning.proofs.Frame.{or_parts, updated_other}
use Rattle.meaning_laws.specs.Fields.{writes_field, step_writes_field}
use Rattle.meaning_laws.specs.Scoped.{has_binder, step_has_binder}
use Rattle.meaning_laws.specs.Sound.{binds}
use Rattle.meaning_laws.proofs.Facts.{or_right}
use Rattle.meaning_laws.proofs.FirstState.{new_is_none}
use Rattle.meaning_laws.proofs.Scoped.{or_elim}
use Rattle.meaning_laws.proofs.Substitute.{and_parts}
use Rattle.place_laws.specs.Scope.Holes.{behind}
use Rattle.place_laws.specs.Scope.Scopes.{top_binders}
use Rattle.place_laws.proofs.OfScope.BehindBlocks.{opened_behind}
use Rattle.exo_effects.specs.Parts.{Parts, passed, parts_at}
use Rattle.loop_laws.proofs.Bones.{all_parted}
use Rattle.loop_laws.specs.Nest.Shapes.{size, step}

pub behind_parted : (b c : Block) → parted (size b) (joined b c) ≡ Some (b, c)
behind_parted end c = refl
behind_parted (next a b) c =
    ap (option_map (λ (p : Block × Block). (next a p.0, p.1))) (behind_parted b c)

-- all of the second is opened behind the first
pub second_opened : (b c : Block)
    → opened_in (size c) (step (size b) ∷ []) (joined b c)
    ≡ Some (record { around = behind b (Here end); piece = c })
second_opened b c =
    opened_behind (size c) (step (size b)) (joined b c) (b, c) (c, end) (behind_parted b c)
    (all_parted c)

-- ---- what the parts bind, mention and write

pub has_second : (b c : Block) (x : ℕ) → has_binder c x ≡ true → has_binder (joined b c) x ≡ true
has_second end c x h = h
has_second (next a b) c x h =
    or_right (step_has_binder a x) (has_binder (joined b c) x) (has_second b c x h)

pub has_first : (b c : Block) (x : ℕ) → has_binder b x ≡ true → has_binder (joined b c) x ≡ true
has_first end c x h = absurd (true≢false (sym h))
has_first (next a b) c x h = by (step_has_binder a x) h (has_first b c x)
  where
    by : (t : Bool) → (t || has_binder b x) ≡ true
        → (has_binder b x ≡ true → has_binder (joined b c) x ≡ true)
        → (t || has_binder (joined b c) x) ≡ true
    by true h later = refl
    by false h later = later h

pub mentions_second : (hidden : ℕ → Bool) (b c : Block) → mentions hidden (joined b c) ≡ false
    → mentions hidden c ≡ false
mentions_second hidden end c h = h
mentions_second hidden (next a b) c h =
    mentions_second hidden b c (or_parts (in_statement hidden a) (mentions hidden (joined b c)) h).1

pub both_write : (calls : ℕ → ℕ → Bool) (f : ℕ) (b c : Block)
    → writes_field calls f (joined b c) ≡ false
    → (writes_field calls f b ≡ false) × (writes_field calls f c ≡ false)
both_write calls f end c h = (refl, h)
both_write calls f (next a b) c h =
    let p = or_parts (step_writes_field calls f a) (writes_field calls f (joined b c)) h in
    let q = both_write calls f b c p.1 in
    (ap₂ ◌||◌ p.0 q.0, q.1)

-- ---- what names stand for behind a block that does not bind them

passed_other : (a : Statement) (parts : Parts) (x : ℕ) → binds a x ≡ false
    → passed a parts x ≡ parts x
passed_other (Assign y is e) parts x h = refl
passed_other (Reduce y is e) parts x h = refl
passed_other (Config f a) parts x h = refl
passed_other Pass parts x h = refl
passed_other (If c a b) parts x h = refl
passed_other (For i lo hi b) parts x h = refl
passed_other (Alloc y cell dims memory) parts x h = updated_other parts y.id _ x h
passed_other (View w y cs) parts x h = updated_other parts w.id _ x h
passed_other (Call k args) parts x h = refl

pub parts_behind : (b : Block) (parts : Parts) (x : ℕ) → top_binders b x ≡ false
    → parts_at (behind b (Here end)) parts x ≡ parts x
parts_behind end parts x h = refl
parts_behind (next a b) parts x h =
    let p = or_parts (binds a x) (top_binders b x) h in
    parts_behind b (passed a parts) x p.1 ∙ passed_other a parts x p.0

-- ---- what a block binds is not in scope before it

module _ (fields : ℕ → Option Kind) (memories : ℕ) (callees : ℕ → Option Callee) where
  none_before : (scope : Scope) (y : Binder) (sort : Sort) (x : ℕ)
      → sort_in (with_name scope y sort) x ≡ None → sort_in scope x ≡ None
  none_before scope y sort x h = by (x == y.id) h
    where
      by : (t : Bool) → cond t (Some sort) (sort_in scope x) ≡ None → sort_in scope x ≡ None
      by true h = cc
      by false h = h

  none_before_step : (scope : Scope) (a : Statement) (x : ℕ) → sort_in (scope_after a scope) x ≡ None
      → sort_in scope x ≡ None
  none_before_step scope (Assign y is e) x h = h
  none_before_step scope (Reduce y is e) x h = h
  none_before_step scope (Config f a) x h = h
  none_before_step scope Pass x h = h
  none_before_step scope (If c a b) x h = h
  none_before_step scope (For i lo hi b) x h = h
  none_before_step scope (Alloc y cell dims memory) x h =
      none_before scope y (BufferName cell (length dims) true) x h
  none_before_step scope (View w y cs) x h =
      none_before scope w (view_sort (sort_in scope y) (spans cs)) x h
  none_before_step scope (Call k args) x h = h

  own_binder : (scope : Scope) (y : Binder) (x : ℕ) → is_new scope y ≡ true → (x == y.id) ≡ true
      → sort_in scope x ≡ None
  own_binder scope y x new e = ap (sort_in scope) (eqb-true x y.id e) ∙ new_is_none scope y new

  bound_by_step : (scope : Scope) (root : ℕ → ℕ) (a : Statement) (x : ℕ)
      → is_statement fields memories callees scope root a ≡ true → binds a x ≡ true
      → sort_in scope x ≡ None
  bound_by_step scope root (Assign y is e) x ok h = absurd (true≢false (sym h))
  bound_by_step scope root (Reduce y is e) x ok h = absurd (true≢false (sym h))
  bound_by_step scope root (Config f a) x ok h = absurd (true≢false (sym h))
  bound_by_step scope root Pass x ok h = absurd (true≢false (sym h))
  bound_by_step scope root (If c a b) x ok h = absurd (true≢false (sym h))
  bound_by_step scope root (For i lo hi b) x ok h = absurd (true≢false (sym h))
  bound_by_step scope root (Alloc y cell dims memory) x ok h =
      own_binder scope y x (and_parts (is_new scope y) _ ok).0 h
  bound_by_step scope root (View w y cs) x ok h =
      own_binder scope w x (and_parts (is_new scope w) _ ok).0 h
  bound_by_step scope root (Call k args) x ok h = absurd (true≢false (sym h))

  bound_behind : (b : Block) (scope : Scope) (root : ℕ → ℕ) (x : ℕ)
      → is_block fields memories callees scope root b ≡ true → top_binders b x ≡ true
      → sort_in scope x ≡ None
  bound_behind end scope root x ok h = absurd (true≢false (sym h))
  bound_behind (next a b) scope root x ok h =
      let p = and_parts (is_statement fields memories callees scope root a) _ ok in
      or_elim (binds a x) (top_binders b x) h (bound_by_step scope root a x p.0) (λ e.
      none_before_step scope a x
      (bound_behind b (scope_after a scope) (roots_after a root) x p.1 e))

  pub not_bound : (b : Block) (scope : Scope) (root : ℕ → ℕ) (x : ℕ)
      → is_block fields memories callees scope root b ≡ true → IsSome (sort_in scope x)
      → top_binders b x ≡ false
  not_bound b scope root x ok there = by (top_binders b x) refl
    where
      by : (t : Bool) → top_binders b x ≡ t → t ≡ false
      by false e = refl
      by true e = absurd (none_there (sort_in scope x) (bound_behind b scope root x ok e) there)
        where
          none_there : (o : Option Sort) → o ≡ None → IsSome o → ⊥
          none_there None e h = true≢false (sym h)
          none_there (Some s) e h = cc
