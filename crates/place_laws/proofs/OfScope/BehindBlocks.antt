-- A hole behind a block.
use Rattle.std.proofs.Common.{◌≡◌, ℕ, zero, suc, Option, Some, option_map, refl, sym, ap, ◌∙◌}
use Rattle.std.proofs.Common.{subst}
use Rattle.exo_tree.specs.Tree.{Block, end, next, joined}
use Rattle.exo_tree.specs.Context.{Context, After, fill, rest_of}
use Rattle.exo_tree.specs.Places.{Opened, parted, past}
use Rattle.exo_meaning.specs.State.{State}
use Rattle.exo_meaning.specs.Scene.{then_do}
use Rattle.exo_meaning.specs.Run.{World, run, step}
use Rattle.meaning_laws.specs.Context.{ComesTo}
use Rattle.meaning_laws.proofs.Parts.{none_some, some_injective, then_gives, map_gives}
use Rattle.place_laws.specs.Scope.Holes.{behind}
use Rattle.place_laws.specs.Scope.BehindBlocks.{RunsOn, HolesBehindBlocks, OpenedBehind}
use Rattle.place_laws.proofs.OfScope.SamePlace.{here, with_first}

fill_behind : (a old : Block) (c : Context) → fill (behind a c) old ≡ joined a (fill c old)
fill_behind end old c = refl
fill_behind (next x a) old c = ap (next x) (fill_behind a old c)

rest_behind : (a : Block) (c : Context) → rest_of (behind a c) ≡ rest_of c
rest_behind end c = refl
rest_behind (next x a) c = rest_behind a c

module _ (world : World) (old : Block) (c : Context) where
  to : (a : Block) (s t u : State) → run world a s ≡ Some t → ComesTo world old c t u
      → ComesTo world old (behind a c) s u
  to end s t u e z = subst (λ t. ComesTo world old c t u) (sym (some_injective s t e)) z
  to (next x a) s t u e z = let g =
      then_gives (step world x s) (run world a) t e in (g.0, g.1, to a g.0 t u g.2 z)

  back : (a : Block) (s u : State) → ComesTo world old (behind a c) s u → RunsOn world a old c s u
  back end s u z = record { middle = s; runs = refl; comes = z }
  back (next x a) s u z =
      let w = back a z.0 u z.2 in
      record {
        middle = w.middle;
        runs = ap (λ o. then_do o (run world a)) z.1 ∙ w.runs;
        comes =
            w.comes;
      }

pub holes_behind_blocks : HolesBehindBlocks
holes_behind_blocks a old c = record {
  body = fill_behind a old c;
  rest = rest_behind a c;
  comes = λ world s u. (
    (λ w. to world old c a s w.middle u w.runs w.comes),
    back world old c a s
        u,
  );
}

abbrev with_before : Block → Opened → Opened
with_before a o = record { around = behind a o.around; piece = o.piece }

past_behind : (k : ℕ) (f : Block → Option Opened) (b : Block) (p : Block × Block) (o : Opened)
    → parted k b ≡ Some p → f p.1 ≡ Some o → past k f b ≡ Some (with_before p.0 o)
past_behind zero f b p o e z = let same : p ≡ (end, b) =
    cc in ap f (ap (λ (p : Block × Block). p.1) (sym same)) ∙ z
    ∙ ap (λ (p : Block × Block). Some (with_before p.0 o)) (sym same)
past_behind (suc k) f end p o e z = absurd (none_some e)
past_behind (suc k) f (next a b) p o e z =
    let q = map_gives (parted k b) (with_first a) p e in
    let at_rest : f q.0.1 ≡ Some o = ap f (ap (λ (p : Block × Block). p.1) q.2) ∙ z in
    ap (option_map (λ (o : Opened). record { around = After a o.around; piece = o.piece }))
    (past_behind k f b q.0 o q.1 at_rest) ∙ ap (λ (p : Block × Block). Some (with_before p.0 o))
    q.2

pub opened_behind : OpenedBehind
opened_behind m t b p q e k = past_behind t.index (λ c. option_map here (parted m c)) b p (here q) e
    (ap (option_map here) k)
