-- A piece at a place is there, so its accesses cover what it touches.
use Rattle.std.proofs.Common.{◌≡◌, ℕ, suc, true, List, [], length, Option, Some, refl, sym, ap, ◌∙◌, subst, arith}
use Rattle.exo_tree.specs.Tree.{Kind, Block, joined, Procedure, Program}
use Rattle.exo_tree.specs.Context.{Context, Here, After, InLoop, InThen, InElse, fill, rest_of}
use Rattle.exo_tree.specs.Places.{Path, Opened, opened}
use Rattle.exo_meaning.specs.Run.{program_world}
use Rattle.exo_meaning.specs.Units.{scope_of, field_kind, is_block}
use Rattle.meaning_laws.specs.Places.{OpenedLaw}
use Rattle.meaning_laws.specs.Sorted.{MayRun, scope_at, scope_there}
use Rattle.place_laws.specs.Scope.Holes.{with_rest, roots_at}
use Rattle.place_laws.specs.Scope.SamePlace.{SamePlace, IsStart, start_of}
use Rattle.place_laws.specs.Scope.WellAtPlace.{WellAtPlace}
use Rattle.exo_effects.specs.Parts.{Parts, no_parts, with_params, passed, parts_at}
use Rattle.effect_laws.specs.Apart.{Turns, parts_there, IsThere}
use Rattle.effect_laws.specs.Clear.{ClearLaw}
use Rattle.effect_laws.specs.Covers.{CoversLaw}
use Rattle.effect_laws.specs.CoversAtPlaces.{CoversAtPlaces}
use Rattle.effect_laws.proofs.Apart.{Laws, covered_at}

-- what follows does not count
parts_before : (c : Context) (rest : Block) (table : Parts) → parts_at (with_rest c rest) table ≡ parts_at c table
parts_before (Here r) rest table = refl
parts_before (After a c) rest table = parts_before c rest (passed a table)
parts_before (InLoop i lo hi c r) rest table = parts_before c rest table
parts_before (InThen t c other r) rest table = parts_before c rest table
parts_before (InElse t other c r) rest table = parts_before c rest table

module _ (starts : SamePlace) (well : WellAtPlace) (opens : OpenedLaw) (u : Program) (p : Procedure)
    (may : MayRun u.fields (length u.memories) u.procedures p) (path : Path) (n : ℕ) (o : Opened)
    (is : opened (suc n) path p.body ≡ Some o) where
  abbrev pub piece : Turns
  piece = record { path = path; count = suc n; loops = [] }

  start : (q : Block × Block) × IsStart 1 path p.body o q
  start = starts 1 (suc n) path p.body o (omega arith) is

  abbrev first : Opened
  first = start_of o start.0

  there : opened 1 path p.body ≡ Some first
  there = start.1.there

  body : p.body ≡ fill o.around o.piece
  body = sym (opens (suc n) path p.body o is)

  abbrev fields : ℕ → Option Kind
  fields = field_kind u.fields

  abbrev root : ℕ → ℕ
  root = roots_at o.around (λ x. x)

  same_scope : scope_at o.around (scope_of [] p.params) ≡ scope_there p (opened 1 path p.body)
  same_scope = sym (start.1.same.scope (scope_of [] p.params)) ∙ sym (ap (scope_there p) there)

  pub piece_is_there : IsThere u p path piece o
  piece_is_there = record {
    opens = is;
    loops = refl;
    root = root;
    block = subst (λ scope. is_block fields (length u.memories) (program_world u).callees scope root o.piece ≡ true) same_scope
        (well fields (length u.memories) (program_world u).callees p o.around o.piece may.procedure body).piece;
    parts = λ x h.
        ap (λ (t : Parts). t x) (sym (parts_before o.around (joined start.0.1 (rest_of o.around)) (with_params p.params no_parts)))
        ∙ ap (λ q. parts_there u p q x) (sym there);
  }

pub covers_at_places : Laws → CoversLaw → ClearLaw → SamePlace → WellAtPlace → CoversAtPlaces
covers_at_places laws covers clear starts well u p path n o s a t may is ok come same =
    covered_at laws u p may path s a ok come covers clear t same (piece starts well laws.opens u p may path n o is) o []
    (piece_is_there starts well laws.opens u p may path n o is) tt
