-- What is known of a piece that is there, and of one that is not.
use Rattle.std.proofs.Common.{◌≡◌, ◌≢◌, ◌≤◌, ℕ, zero, suc, Bool, true, false, ◌&&◌, List, Option, Some, None}
use Rattle.std.proofs.Common.{refl, sym, ap, ◌∙◌, arith}
use Rattle.std.specs.Prelude.{is_some, option_map, option_and_then}
use Rattle.exo_tree.specs.Tree.{Block, end, next, Procedure}
use Rattle.exo_tree.specs.Context.{rest_of}
use Rattle.exo_tree.specs.Places.{Path, Opened, opened, statement_at, first_of}
use Rattle.meaning_laws.proofs.Parts.{some_injective}
use Rattle.place_laws.specs.Scope.SamePlace.{start_of}
use Rattle.place_laws.proofs.OfScope.SamePlace.{same_place, first_place}
use Rattle.tree_edits.specs.Made.Passes.{is_alone}
use Rattle.config_laws.specs.FieldRule as config
use Rattle.config_laws.specs.FieldRule.{further, is_live}
use Rattle.config_laws.specs.DeleteConfig.{previous, behind_or_before, where_it_was}
use Rattle.config_laws.proofs.Beside.{live_beside}
use Rattle.config_live.specs.Places.{live_from}
use Rattle.cursor_forward.specs.Cursors.{Before, After}
use Rattle.step_driver.specs.Spots.{or_nothing}
use Rattle.field_rewrites.specs.Beside.{live_before, placed}
use Rattle.field_rewrites.proofs.Following.{first_behind, next_statement}

-- ---- whether it is there

abbrev alone_of : Option Opened → Option Bool
alone_of x = option_map (λ o. is_alone o.around) x

pub is_there : (x : Option Opened) (alone : Bool) → Some alone ≡ alone_of x → is_some x ≡ true
is_there None alone h = cc
is_there (Some o) alone h = refl

pub is_nowhere : (x : Option Opened) → None ≡ alone_of x → is_some x ≡ false
is_nowhere None h = refl
is_nowhere (Some o) h = cc

-- ---- its first statement

pub first_nowhere : (x : Option Opened) → is_some x ≡ false → None ≡ first_of (or_nothing x).piece
first_nowhere None h = refl
first_nowhere (Some o) h = cc

module _ (path : Path) (body : Block) where
  first_of_more : (n : ℕ) (x : Option Opened) → opened (suc n) path body ≡ x → is_some x ≡ true
      → statement_at path body ≡ first_of (or_nothing x).piece
  first_of_more n None e h = cc
  first_of_more n (Some o) e h =
      let i = first_place n path body o e in
      ap (option_and_then (λ (p : Opened). first_of p.piece)) i.1.there ∙ i.1.first

  pub first_there : (n : ℕ) → n ≢ 0 → is_some (opened n path body) ≡ true
      → statement_at path body ≡ first_of (or_nothing (opened n path body)).piece
  first_there zero more h = absurd (more refl)
  first_there (suc n) more h = first_of_more n (opened (suc n) path body) refl h

  no_first : (x : Option Opened) → opened 0 path body ≡ x → None ≡ first_of (or_nothing x).piece
  no_first None e = refl
  no_first (Some o) e =
      let none = same_place 0 0 path body o least e in
      ap first_of (ap (λ (p : Block × Block). p.0) (some_injective (end, o.piece) none.0 none.1.parts)
      ∙ ap (λ (i : Opened). i.piece) (some_injective (start_of o none.0) o (sym none.1.there ∙ e)))
    where
      least : 0 ≤ 0
      least = omega arith

  pub first_of_none : (n : ℕ) → n ≡ 0 → None ≡ first_of (or_nothing (opened n path body)).piece
  first_of_none n none = no_first (opened n path body) (ap (λ (m : ℕ). opened m path body) (sym none))

-- ---- whether a field is live beside it

module _ (ps : List Procedure) (f : ℕ) where
  pub dead_behind : (x : Option Opened) (t : Bool) → is_some x ≡ false
      → false ≡ (t && is_live ps f (or_nothing x))
  dead_behind None true h = refl
  dead_behind None false h = refl
  dead_behind (Some o) t h = cc

  pub dead_before : (x : Option Opened) (t : Bool) → is_some x ≡ false
      → false ≡ (t && live_before ps f (or_nothing x))
  dead_before None true h = refl
  dead_before None false h = refl
  dead_before (Some o) t h = cc

  module _ (n : ℕ) (path : Path) (body : Block) where
    behind_more : (x : Option Opened) → opened n path body ≡ x → is_some x ≡ true
        → live_from ps body (further n path) config.Before f ≡ is_live ps f (or_nothing x)
    behind_more None e h = cc
    behind_more (Some o) e h =
        let at = (live_beside ps f n path body o e).0 in
        ap (λ (x : Option Opened). elim x as (λ x. Bool) [
          | None ↦ false
          | Some o ↦ is_live ps f o
        ]) at.there
        ∙ at.live

    pub live_behind : is_some (opened n path body) ≡ true
        → live_from ps body (further n path) config.Before f ≡ is_live ps f (or_nothing (opened n path body))
    live_behind h = behind_more (opened n path body) refl h

    before_more : (x : Option Opened) → opened n path body ≡ x → is_some x ≡ true
        → live_from ps body path config.Before f ≡ live_before ps f (or_nothing x)
    before_more None e h = cc
    before_more (Some o) e h =
        let at = (live_beside ps f n path body o e).1 in
        ap (λ (x : Option Opened). elim x as (λ x. Bool) [
          | None ↦ false
          | Some o ↦ is_live ps f o
        ]) at.there
        ∙ at.live

    pub live_ahead : is_some (opened n path body) ≡ true
        → live_from ps body path config.Before f ≡ live_before ps f (or_nothing (opened n path body))
    live_ahead h = before_more (opened n path body) refl h

-- ---- where it was

abbrev rest : Option Opened → Block
rest x = rest_of (or_nothing x).around

same_first : (x : Option Opened) → first_behind x ≡ first_of (rest x)
same_first None = refl
same_first (Some o) = refl

module _ (path : Path) where
  on_rest : (r : Block) → is_some (first_of r) ≡ true → placed (where_it_was path r) ≡ (path, Before)
  on_rest (next a b) h = refl
  on_rest end h = cc

  at_end : (r : Block) → is_some (first_of r) ≡ false
      → placed (where_it_was path r) ≡ placed (behind_or_before (previous path) path)
  at_end (next a b) h = cc
  at_end end h = refl

  module _ (n : ℕ) (body : Block) where
    abbrev there : Option Opened
    there = opened n path body

    begins : is_some (statement_at (further n path) body) ≡ is_some (first_of (rest there))
    begins = ap is_some (next_statement n path body ∙ same_first there)

    pub goes_on : is_some (statement_at (further n path) body) ≡ true
        → (path, Before) ≡ placed (where_it_was path (rest there))
    goes_on h = sym (on_rest (rest there) (sym begins ∙ h))

    pub was_first : is_some (statement_at (further n path) body) ≡ false → None ≡ previous path
        → (path, Before) ≡ placed (where_it_was path (rest there))
    was_first h e =
        sym (at_end (rest there) (sym begins ∙ h)
        ∙ ap (λ (o : Option Path). placed (behind_or_before o path)) (sym e))

    pub was_later : (earlier : Path) → is_some (statement_at (further n path) body) ≡ false
        → Some earlier ≡ previous path
        → (earlier, After) ≡ placed (where_it_was path (rest there))
    was_later earlier h e =
        sym (at_end (rest there) (sym begins ∙ h)
        ∙ ap (λ (o : Option Path). placed (behind_or_before o path)) (sym e))
