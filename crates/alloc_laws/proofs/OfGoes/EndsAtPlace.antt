-- What a block leaves in a procedure that keeps the rules.
use Rattle.std.proofs.Common.{◌≡◌, ℕ, refl, sym, ap, ◌∙◌, subst}
use Rattle.exo_tree.specs.Tree.{Block, end, next, joined}
use Rattle.exo_tree.specs.Context.{Here, fill}
use Rattle.exo_meaning.specs.Run.{roots_after, unit_world, kinds_of}
use Rattle.meaning_laws.specs.Context.{ComesTo}
use Rattle.meaning_laws.proofs.Sorted.{fits_at_law}
use Rattle.place_laws.specs.Scope.Holes.{behind, within, roots_at}
use Rattle.place_laws.specs.Scope.Roots.{own_roots_at}
use Rattle.place_laws.proofs.OfScope.BehindBlocks.{holes_behind_blocks}
use Rattle.place_laws.proofs.OfScope.Within.{holes_compose}
use Rattle.buffer_laws.specs.Staging.Alone.{AreRoots}
use Rattle.buffer_laws.proofs.OfStaging.AtPlaces.{own_roots_law}
use Rattle.buffer_laws.specs.StageMem.{roots_behind}
use Rattle.alloc_laws.specs.Goes.Goes.{EndsWellAtPlace}

nothing_more : (b : Block) → joined b end ≡ b
nothing_more end = refl
nothing_more (next a b) = ap (next a) (nothing_more b)

roots_there : (b : Block) (root : ℕ → ℕ) → roots_at (behind b (Here end)) root ≡ roots_behind b root
roots_there end root = refl
roots_there (next a b) root = roots_there b (roots_after a root)

pub ends_well_at_place : EndsWellAtPlace
ends_well_at_place fields memories ps p c b s u t may was good come e =
    let world = unit_world (kinds_of fields) ps in
    let d = behind b (Here end) in
    let after = holes_behind_blocks b end (Here end) in
    let whole = holes_compose end c d in
    let is : fill d end ≡ b = after.body ∙ nothing_more b in
    let body : p.body ≡ fill (within c d) end = was ∙ ap (fill c) (sym is) ∙ sym whole.body in
    let comes : ComesTo world end (within c d) s t = (whole.comes world s t).0 (record {
      middle = u;
      first = subst (λ x. ComesTo world x c s u) (sym is) come;
      second = (after.comes world u t).0 (record { middle = t; runs = e; comes = refl });
    }) in
    record {
      cells = (fits_at_law fields memories ps p (within c d) end may body s t good comes).cells;
      own_roots = subst (λ r. AreRoots r t)
          (whole.roots (λ x. x) ∙ roots_there b (own_roots_at c))
          (own_roots_law fields memories ps p (within c d) end s t may body good comes);
    }
