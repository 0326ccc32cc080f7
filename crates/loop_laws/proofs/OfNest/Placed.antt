-- Pieces of loops at the place of a step.
use Rattle.std.proofs.Common.{◌≡◌, ◌≤◌, ℕ, true, [], Some, refl, sym, ap, ◌∙◌, subst}
use Rattle.std.specs.Prelude.{◌∷◌, List, length, IsSome}
use Rattle.exo_tree.specs.Tree.{Block, joined}
use Rattle.exo_tree.specs.Context.{Context, Here, After, InLoop, InThen, InElse, fill}
use Rattle.exo_tree.specs.Context.{rest_of}
use Rattle.exo_tree.specs.Places.{Step, Path, Opened, parted, opened, opened_in}
use Rattle.exo_meaning.specs.State.{State}
use Rattle.exo_meaning.specs.Run.{program_world}
use Rattle.exo_meaning.specs.Units.{sort_in, scope_of, field_kind, is_block}
use Rattle.meaning_laws.specs.Context.{ComesTo}
use Rattle.meaning_laws.specs.Sorted.{scope_at, scope_there}
use Rattle.place_laws.specs.Scope.Holes.{with_rest, within, followed}
use Rattle.place_laws.specs.Scope.PlacesCompose.{onward, inside}
use Rattle.place_laws.specs.Scope.SamePlace.{start_of}
use Rattle.place_laws.proofs.OfScope.PlacesCompose.{places_compose}
use Rattle.place_laws.proofs.OfScope.SamePlace.{same_place}
use Rattle.check_laws.specs.Facts.Laws.{ComesToPlace}
use Rattle.exo_effects.specs.Orders.{Header}
use Rattle.exo_effects.specs.Parts.{Parts, no_parts, with_params, passed, parts_at}
use Rattle.effect_laws.specs.Apart.{scope_in, are_loops, parts_there}
use Rattle.effect_laws.specs.Fits.{IsBlockThere}
use Rattle.step_rules.specs.Rule.{Target, Spot}
use Rattle.step_rules.specs.Lawful.{around, old, world_of, scope_here, IsSpot}

-- ---- what names stand for in holes

parts_followed : (c : Context) (more : Block) (parts : Parts)
    → parts_at (followed c more) parts ≡ parts_at c parts
parts_followed (Here rest) more parts = refl
parts_followed (After a c) more parts = parts_followed c more (passed a parts)
parts_followed (InLoop i lo hi c rest) more parts = refl
parts_followed (InThen t c other rest) more parts = refl
parts_followed (InElse t other c rest) more parts = refl

parts_within : (c d : Context) (parts : Parts)
    → parts_at (within c d) parts ≡ parts_at d (parts_at c parts)
parts_within (Here rest) d parts = parts_followed d rest parts
parts_within (After a c) d parts = parts_within c d (passed a parts)
parts_within (InLoop i lo hi c rest) d parts = parts_within c d parts
parts_within (InThen t c other rest) d parts = parts_within c d parts
parts_within (InElse t other c rest) d parts = parts_within c d parts

parts_with_rest : (c : Context) (rest : Block) (parts : Parts)
    → parts_at (with_rest c rest) parts ≡ parts_at c parts
parts_with_rest (Here r) rest parts = refl
parts_with_rest (After a c) rest parts = parts_with_rest c rest (passed a parts)
parts_with_rest (InLoop i lo hi c r) rest parts = parts_with_rest c rest parts
parts_with_rest (InThen t c other r) rest parts = parts_with_rest c rest parts
parts_with_rest (InElse t other c r) rest parts = parts_with_rest c rest parts

rest_with_rest : (c : Context) (rest : Block) → rest_of (with_rest c rest) ≡ rest
rest_with_rest (Here r) rest = refl
rest_with_rest (After a c) rest = rest_with_rest c rest
rest_with_rest (InLoop i lo hi c r) rest = rest_with_rest c rest
rest_with_rest (InThen t c other r) rest = rest_with_rest c rest
rest_with_rest (InElse t other c r) rest = rest_with_rest c rest

-- ---- the place of the first statement of a piece

pub record Placed (s : Spot) : Type 0 where
  pub first : Opened
  -- what is behind it in the piece
  pub more : Block
  pub parts_of : parted 1 (old s) ≡ Some (first.piece, more)
  pub body : fill first.around first.piece ≡ fill (around s) (old s)
  pub rest : rest_of first.around ≡ joined more (rest_of (around s))
  pub opens : opened 1 s.piece.path s.target.proc.body ≡ Some first
  pub scope : scope_at first.around (scope_of [] s.target.proc.params) ≡ scope_here s
  pub parts : (parts : Parts) → parts_at first.around parts ≡ parts_at (around s) parts
  pub comes :
      (start u : State)
      → ComesTo (world_of s) (old s) (around s) start u
      → ComesTo (world_of s) first.piece first.around start u

pub placed : (s : Spot) → IsSpot s → 1 ≤ s.piece.count → Placed s
placed s spot some =
    let p = same_place 1 s.piece.count s.piece.path s.target.proc.body s.opened some spot.opens in
    record {
      first = start_of s.opened p.0;
      more = p.0.1;
      parts_of = p.1.parts;
      body = p.1.same.body;
      rest = rest_with_rest (around s) (joined p.0.1 (rest_of (around s)));
      opens = p.1.there;
      scope = p.1.same.scope (scope_of [] s.target.proc.params);
      parts = parts_with_rest (around s) (joined p.0.1 (rest_of (around s)));
      comes = λ start u h. (p.1.same.comes (world_of s) start u).0 h;
    }

module _ (s : Spot) (spot : IsSpot s) (at : Placed s) where
  abbrev t : Target
  t = s.target

  -- where a run comes to the piece, it comes to the place
  pub comes_there : (start u : State) → ComesTo (world_of s) (old s) (around s) start u
      → ComesToPlace (world_of s) (opened 1 s.piece.path t.proc.body) start u
  comes_there start u h =
      subst (λ o. ComesToPlace (world_of s) o start u) (sym at.opens) (at.comes start u h)

  scope_is : scope_there t.proc (opened 1 s.piece.path t.proc.body) ≡ scope_here s
  scope_is = ap (scope_there t.proc) at.opens ∙ at.scope

  abbrev start_parts : Parts
  start_parts = with_params t.proc.params no_parts

  -- what is opened in the piece is there, at turns of loops
  pub there : (k : Step) (q : Path) (count : ℕ) (hs : List Header) (i : Opened) (root : ℕ → ℕ)
      → opened_in count (k ∷ q) (old s) ≡ Some i
      → are_loops t.unit t.proc hs (scope_here s) ≡ true
      → is_block (field_kind t.unit.fields) (length t.unit.memories)
      (program_world t.unit).callees (scope_in hs (scope_here s)) root i.piece ≡ true
      → ((x : ℕ) (parts : Parts) → IsSome (sort_in (scope_here s) x)
      → parts_at i.around parts x ≡ parts x)
      → IsBlockThere t.unit t.proc s.piece.path
      (record { path = onward s.piece.path k q; count = count; loops = hs }) i.piece
  there k q count hs i root opens loops keeps parts = record {
    opened_as = inside s.opened i;
    is_there = record {
      opens =
          (places_compose count s.piece.count s.piece.path k q t.proc.body s.opened i spot.opens
          opens).there;
      loops = subst (λ z. are_loops t.unit t.proc hs z ≡ true) (sym scope_is) loops;
      root = root;
      block =
          subst (λ z. is_block (field_kind t.unit.fields) (length t.unit.memories)
          (program_world t.unit).callees (scope_in hs z) root i.piece ≡ true) (sym scope_is) keeps;
      parts = λ x h.
          ap (λ (f : Parts). f x) (parts_within (around s) i.around start_parts)
          ∙ parts x (parts_at (around s) start_parts)
          (subst (λ z. IsSome (sort_in z x)) scope_is h)
          ∙ sym (ap (λ (f : Parts). f x)
          (ap (parts_there t.unit t.proc) at.opens ∙ at.parts start_parts));
    };
    piece = refl;
  }
