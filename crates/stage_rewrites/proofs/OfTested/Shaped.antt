-- The shape of a block, from what is used behind it and the rest.
use Rattle.std.proofs.Common.{◌≡◌, ◌&&◌, ◌||◌, not, ℕ, Bool, true, false, Option, Some, None, refl}
use Rattle.std.proofs.Common.{sym, ap, ◌∙◌, length}
use Rattle.std.specs.Prelude.{◌==◌, if◌then◌else◌, option_map}
use Rattle.exo_tree.specs.Tree.{Block}
use Rattle.exo_tree.specs.Context.{rest_of}
use Rattle.exo_tree.specs.Places.{Path, Opened, opened}
use Rattle.exo_meaning.specs.Units.{sort_in}
use Rattle.exo_meaning.specs.Unseen.{in_block as mentions}
use Rattle.place_laws.specs.Scope.Roots.{own_roots_at}
use Rattle.place_laws.specs.Scope.Scopes.{top_binders}
use Rattle.check_claims.specs.Extents.{extents_of}
use Rattle.cursor_forward.specs.Causes.{WrongShape}
use Rattle.buffer_laws.specs.StageMem.{Staging, roots_behind, is_view_used}
use Rattle.alloc_laws.specs.Goes.Fits.{has_spans}
use Rattle.step_rules.specs.Rule.{Tried, Got, Not, Target, Piece}
use Rattle.step_rules.specs.Answer.{then_try, opened_or_wrong}
use Rattle.step_driver.specs.Spots.{or_nothing}
use Rattle.alloc_laws.specs.Stage.Staging.{has_window, is_unused, are_of_numbers, scope_round}
use Rattle.alloc_laws.specs.Stage.Staging.{has_shape, staged_piece}
use Rattle.stage_rewrites.specs.Tested.Fitting.{fits}

-- ---- views that are used behind the block

-- names that the block leaves, and what they stand for behind it
abbrev left : Block → (ℕ → ℕ) → ℕ → ℕ → Bool
left b roots y z = top_binders b z && (roots z == y)

abbrev mentioned : (ℕ → Bool) → Option Opened → Option Bool
mentioned names x = option_map (λ (o : Opened). mentions names (rest_of o.around)) x

abbrev used : ℕ → Option Opened → Option Bool
used x y =
    option_map
    (λ (o : Opened). is_view_used (own_roots_at o.around) x o.piece (rest_of o.around)) y

pub used_same : (y : Option Opened) (x : ℕ) (b : Block) (roots : ℕ → ℕ) (buffer : ℕ)
    → b ≡ (or_nothing y).piece
    → roots ≡ roots_behind b (own_roots_at (or_nothing y).around)
    → buffer ≡ own_roots_at (or_nothing y).around x
    → mentioned (left b roots buffer) y ≡ used x y
used_same None x b roots buffer h k l = refl
used_same (Some o) x b roots buffer h k l =
    let own = own_roots_at o.around in
    ap (λ (r : ℕ → ℕ). mentioned (left b r buffer) (Some o)) k
    ∙ ap (λ (n : ℕ). mentioned (left b (roots_behind b own) n) (Some o)) l
    ∙ ap (λ (c : Block). mentioned (left c (roots_behind c own) (own x)) (Some o)) h

-- ---- the whole shape

and_false : (a : Bool) → a && false ≡ false
and_false true = refl
and_false false = refl

module _ (count : ℕ) (w : Staging) (t : Target) (at : Path) where
  abbrev here : Option Opened
  here = opened count at t.proc.body

  abbrev by_shape : Bool → Tried Piece
  by_shape b = if b then Got (record { path = at; count = count }) else Not WrongShape

  abbrev answer : Option Opened → Tried Piece
  answer x = then_try (opened_or_wrong x) (λ o. by_shape (has_shape w t o))

  abbrev used_behind : Opened → Bool
  used_behind o = is_view_used (own_roots_at o.around) w.root o.piece (rest_of o.around)

  abbrev has_rank : Opened → Bool
  has_rank o = has_window (sort_in (scope_round t o) w.root) (length w.coords)

  abbrev has_rest : Opened → Bool
  has_rest o =
      not (has_spans w.root (extents_of t.proc w.root) w.coords o.piece)
      && (is_unused w t o || are_of_numbers (scope_round t o) w.coords)

  pub nothing_there : None ≡ used w.root here → staged_piece count w t at ≡ Not WrongShape
  nothing_there h = by here h
    where
      by : (x : Option Opened) → None ≡ used w.root x → answer x ≡ Not WrongShape
      by None h = refl
      by (Some o) h = cc

  pub views_used : Some true ≡ used w.root here → staged_piece count w t at ≡ Not WrongShape
  views_used h = by here h
    where
      by : (x : Option Opened) → Some true ≡ used w.root x → answer x ≡ Not WrongShape
      by None h = refl
      by (Some o) h =
          let same : true ≡ used_behind o = cc in
          ap (λ (b : Bool). by_shape (has_rank o && (not b && has_rest o))) (sym same)
          ∙ ap by_shape (and_false (has_rank o))

  by_rest : (b : Bool) → Some false ≡ used w.root here → b ≡ fits w t (or_nothing here)
      → staged_piece count w t at ≡ by_shape b
  by_rest b h k = by here h k
    where
      by : (x : Option Opened) → Some false ≡ used w.root x → b ≡ fits w t (or_nothing x)
          → answer x ≡ by_shape b
      by None h k = cc
      by (Some o) h k =
          let same : false ≡ used_behind o = cc in
          ap (λ (b : Bool). by_shape (has_rank o && (not b && has_rest o))) (sym same)
          ∙ ap by_shape (sym k)

  pub has_all : Some false ≡ used w.root here → fits w t (or_nothing here) ≡ true
      → staged_piece count w t at ≡ Got (record { path = at; count = count })
  has_all h k = by_rest true h (sym k)

  pub misses_some : Some false ≡ used w.root here → fits w t (or_nothing here) ≡ false
      → staged_piece count w t at ≡ Not WrongShape
  misses_some h k = by_rest false h (sym k)
