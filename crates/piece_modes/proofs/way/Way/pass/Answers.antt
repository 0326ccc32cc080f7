use Rattle.std.proofs.Common.{◌≡◌, ◌||◌, ◌==◌, ◌++◌, ◌∷◌, [], ℕ, List, Bool, true, false, refl, sym, ap, ap₂, ◌∙◌}
use Rattle.std.specs.List.{list_any}
use Rattle.std.proofs.lemmas.List.Folds.{list_any-append}
use Rattle.exo_tree.specs.PlainStatement.{statement}
use Rattle.exo_meaning.specs.Scene.{updated}
use Rattle.exo_modes.specs.Aliases.{roots_in}
use Rattle.piece_modes.specs.Way.{Way, passed}
use Rattle.piece_modes.specs.PlainWay.{plain_way}
use Rattle.piece_modes.proofs.way.Way.pass.Goals as goal

or_none : (b : Bool) → (b || false) ≡ b
or_none true = refl
or_none false = refl

abbrev is_in : List ℕ → ℕ → Bool
is_in names y = list_any (λ x. y == x) names

abbrev told : (ℕ → ℕ) → (ℕ → Bool) → Way
told roots bound = record { roots = roots; bound = bound }

-- one more name is bound
bound_on : (now next : ℕ → ℕ) (had has : List ℕ) (x : ℕ) → next ≡ now → has ≡ had ++ x ∷ []
    → told next (is_in has) ≡ told now (λ y. is_in had y || (y == x))
bound_on now next had has x r e =
    ap₂ told r
    (λ i y.
    (ap (λ names. is_in names y) e ∙ list_any-append (λ z. y == z) had (x ∷ [])
    ∙ ap (λ b. is_in had y || b) (or_none (y == x))) i)

pub returns-in_ok-push-in-View : goal.returns-in_ok-push-in-View
returns-in_ok-push-in-View c =
    let old = c.args.self.now in
    let roots = roots_in old.aliases.items in
    let to = c.root-buffer.ensures ∙ ap (λ xs. roots_in xs c.in-View.x.0) c.deref.ensures.value in
    bound_on _ _ old.names.items _ c.in-View.w.id.0
    (c.in_ok-set_root-in-View.ensures.set ∙ ap (updated roots c.in-View.w.id.0) to)
    c.in_ok-push-in-View.ensures.items
    ∙ ap (λ s. passed (statement s) (plain_way old)) (sym c.in-View.is)

pub returns-in_ok-push-in-Alloc : goal.returns-in_ok-push-in-Alloc
returns-in_ok-push-in-Alloc c =
    let old = c.args.self.now in
    bound_on _ _ old.names.items _ c.in-Alloc.x.id.0 c.in_ok-set_root-in-Alloc.ensures.set
    c.in_ok-push-in-Alloc.ensures.items
    ∙ ap (λ s. passed (statement s) (plain_way old)) (sym c.in-Alloc.is)
