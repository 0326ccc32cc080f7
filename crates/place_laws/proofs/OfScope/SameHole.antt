-- A hole with more or less of what follows in it.
use Rattle.std.proofs.Common.{◌≡◌, ℕ, zero, suc, ℤ, ◌==◌, ◌||◌, List, [], ◌∷◌, ◌++◌, map, refl, sym}
use Rattle.std.proofs.Common.{ap, ◌∙◌, subst}
use Rattle.exo_tree.specs.Tree.{Var, Lt, Le, Block, next, joined, For, If}
use Rattle.exo_tree.specs.Context.{Context, Here, After, InLoop, InThen, InElse, fill, rest_of}
use Rattle.exo_tree.specs.Places.{Branch, Main, Else, Path}
use Rattle.exo_meaning.specs.State.{State}
use Rattle.exo_meaning.specs.Run.{World, run, turn, turns_of}
use Rattle.exo_meaning.specs.Units.{Scope, scope_after}
use Rattle.exo_meaning.specs.Run.{roots_after}
use Rattle.meaning_laws.specs.Context.{ComesToTurn, ComesTo}
use Rattle.meaning_laws.specs.Facts.{Holds, Fails, facts, with_fact, is_plain_condition}
use Rattle.meaning_laws.specs.Known.{params_facts}
use Rattle.meaning_laws.specs.Fields.{writes_field}
use Rattle.meaning_laws.specs.KnownFields.{Telling, KnownFields, path_in, forgotten, after}
use Rattle.meaning_laws.specs.KnownFields.{known_at, at_entry}
use Rattle.meaning_laws.specs.PlaceFacts.{PlaceFact, facts_round}
use Rattle.meaning_laws.specs.Sound.{on_way, binds}
use Rattle.meaning_laws.specs.Sorted.{scope_at}
use Rattle.place_laws.specs.Scope.Holes.{with_rest, roots_at}
use Rattle.place_laws.specs.Scope.SamePlace.{SameHole}

fill_same : (c : Context) (old new rest : Block) → joined new rest ≡ joined old (rest_of c)
    → fill (with_rest c rest) new ≡ fill c old
fill_same (Here r) old new rest e = e
fill_same (After a c) old new rest e = ap (next a) (fill_same c old new rest e)
fill_same (InLoop i lo hi c r) old new rest e =
    ap (λ b. next (For i lo hi b) r) (fill_same c old new rest e)
fill_same (InThen t c other r) old new rest e =
    ap (λ b. next (If t b other) r) (fill_same c old new rest e)
fill_same (InElse t other c r) old new rest e =
    ap (λ b. next (If t other b) r) (fill_same c old new rest e)

rest_is : (c : Context) (rest : Block) → rest_of (with_rest c rest) ≡ rest
rest_is (Here r) rest = refl
rest_is (After a c) rest = rest_is c rest
rest_is (InLoop i lo hi c r) rest = rest_is c rest
rest_is (InThen t c other r) rest = rest_is c rest
rest_is (InElse t other c r) rest = rest_is c rest

scope_same : (c : Context) (rest : Block) (scope : Scope)
    → scope_at (with_rest c rest) scope ≡ scope_at c scope
scope_same (Here r) rest scope = refl
scope_same (After a c) rest scope = scope_same c rest (scope_after a scope)
scope_same (InLoop i lo hi c r) rest scope = scope_same c rest _
scope_same (InThen t c other r) rest scope = scope_same c rest scope
scope_same (InElse t other c r) rest scope = scope_same c rest scope

roots_same : (c : Context) (rest : Block) (root : ℕ → ℕ)
    → roots_at (with_rest c rest) root ≡ roots_at c root
roots_same (Here r) rest root = refl
roots_same (After a c) rest root = roots_same c rest (roots_after a root)
roots_same (InLoop i lo hi c r) rest root = roots_same c rest root
roots_same (InThen t c other r) rest root = roots_same c rest root
roots_same (InElse t other c r) rest root = roots_same c rest root

bound_same : (c : Context) (rest : Block) (x : ℕ) → on_way (with_rest c rest) x ≡ on_way c x
bound_same (Here r) rest x = refl
bound_same (After a c) rest x = ap (λ t. binds a x || t) (bound_same c rest x)
bound_same (InLoop i lo hi c r) rest x = ap (λ t. (x == i.id) || t) (bound_same c rest x)
bound_same (InThen t c other r) rest x = bound_same c rest x
bound_same (InElse t other c r) rest x = bound_same c rest x

around_same : (c : Context) (rest : Block) → facts (with_rest c rest) ≡ facts c
around_same (Here r) rest = refl
around_same (After a c) rest = around_same c rest
around_same (InLoop i lo hi c r) rest =
    ap (λ fs. Holds (Le lo (Var i.id)) ∷ Holds (Lt (Var i.id) hi) ∷ fs) (around_same c rest)
around_same (InThen t c other r) rest =
    ap (with_fact (is_plain_condition t) (Holds t)) (around_same c rest)
around_same (InElse t other c r) rest =
    ap (with_fact (is_plain_condition t) (Fails t)) (around_same c rest)

module _ (tell : Telling) where
  -- what a loop round the hole makes unknown depends on its body alone
  abbrev unknown_in : Path → KnownFields → Block → KnownFields
  unknown_in path known b = forgotten (λ f. writes_field tell.writes f b) path known

  known_same : (c : Context) (old new rest : Block) → joined new rest ≡ joined old (rest_of c)
      → (outer : Path) (branch : Branch) (n : ℕ) (known : KnownFields)
      → known_at tell outer branch n (with_rest c rest) new known ≡ known_at tell outer branch n c
      old known
  known_same (Here r) old new rest e outer branch n known = refl
  known_same (After a c) old new rest e outer branch n known =
      known_same c old new rest e outer branch (suc n) (after tell (path_in outer branch n) a known)
  known_same (InLoop i lo hi c r) old new rest e outer branch n known =
      known_same c old new rest e (path_in outer branch n) Main zero
      (unknown_in (path_in outer branch n) known (fill (with_rest c rest) new))
      ∙ ap (λ b. known_at tell (path_in outer branch n) Main zero c old
      (unknown_in (path_in outer branch n) known b)) (fill_same c old new rest e)
  known_same (InThen t c other r) old new rest e outer branch n known =
      known_same c old new rest e (path_in outer branch n) Main zero known
  known_same (InElse t other c r) old new rest e outer branch n known =
      known_same c old new rest e (path_in outer branch n) Else zero known

  round_same : (c : Context) (old new rest : Block) → joined new rest ≡ joined old (rest_of c)
      → (outer : Path) (branch : Branch) (n : ℕ) (known : KnownFields)
      → facts_round tell outer branch n (with_rest c rest) new known ≡ facts_round tell outer branch
      n c old known
  round_same (Here r) old new rest e outer branch n known = refl
  round_same (After a c) old new rest e outer branch n known =
      round_same c old new rest e outer branch (suc n) (after tell (path_in outer branch n) a known)
  round_same (InLoop i lo hi c r) old new rest e outer branch n known =
      ap (λ (fs : List PlaceFact). record { known = known; fact = Holds (Le lo (Var i.id)) }
      ∷ record { known = known; fact = Holds (Lt (Var i.id) hi) } ∷ fs)
      (round_same c old new rest e (path_in outer branch n) Main zero
      (unknown_in (path_in outer branch n) known (fill (with_rest c rest) new))
      ∙ ap (λ b. facts_round tell (path_in outer branch n) Main zero c old
      (unknown_in (path_in outer branch n) known b)) (fill_same c old new rest e))
  round_same (InThen t c other r) old new rest e outer branch n known =
      ap (λ (fs : List PlaceFact). record { known = known; fact = Holds t } ∷ fs)
      (round_same c old new rest e (path_in outer branch n) Main zero known)
  round_same (InElse t other c r) old new rest e outer branch n known =
      ap (λ (fs : List PlaceFact). record { known = known; fact = Fails t } ∷ fs)
      (round_same c old new rest e (path_in outer branch n) Else zero known)

-- turns of equal bodies come to the same
pub turns_same : (world : World) (i : ℕ) (b c : Block) → b ≡ c
    → (ns : List ℤ) (s : State) (n : ℤ) (u : State) → ComesToTurn (turn i (run world b)) ns s n u
    → ComesToTurn (turn i (run world c)) ns s n u
turns_same world i b c e ns s n u z = subst (λ b. ComesToTurn (turn i (run world b)) ns s n u) e z

module _ (world : World) (old new rest : Block) where
  to : (c : Context) → joined new rest ≡ joined old (rest_of c) → (s u : State)
      → ComesTo world old c s u → ComesTo world new (with_rest c rest) s u
  to (Here r) e s u z = z
  to (After a c) e s u z = (z.0, z.1, to c e z.0 u z.2)
  to (InLoop i lo hi c r) e s u z = (
    z.0,
    z.1,
    turns_same world i.id (fill c old) (fill (with_rest c rest) new)
        (sym (fill_same c old new rest e)) (turns_of s.scene lo hi) s z.0 z.1 z.2,
    to c e _ u z.3,
  )
  to (InThen t c other r) e s u z = (z.0, to c e s u z.1)
  to (InElse t other c r) e s u z = (z.0, to c e s u z.1)

  back : (c : Context) → joined new rest ≡ joined old (rest_of c) → (s u : State)
      → ComesTo world new (with_rest c rest) s u → ComesTo world old c s u
  back (Here r) e s u z = z
  back (After a c) e s u z = (z.0, z.1, back c e z.0 u z.2)
  back (InLoop i lo hi c r) e s u z = (
    z.0,
    z.1,
    turns_same world i.id (fill (with_rest c rest) new) (fill c old)
        (fill_same c old new rest e) (turns_of s.scene lo hi) s z.0 z.1 z.2,
    back c e _ u z.3,
  )
  back (InThen t c other r) e s u z = (z.0, back c e s u z.1)
  back (InElse t other c r) e s u z = (z.0, back c e s u z.1)

pub same_hole : SameHole
same_hole c old new rest e = record {
  body = fill_same c old new rest e;
  block = ap (joined new) (rest_is c rest) ∙ e;
  comes = λ world s u. (to world old new rest c e s u, back world old new rest c e s u);
  scope = scope_same c rest;
  roots = roots_same c rest;
  bound = bound_same c rest;
  facts_round = around_same c rest;
  known = λ tell. known_same tell c old new rest e [] Main zero at_entry;
  facts_there = λ tell p. ap (λ fs. map (λ fact. record { known = at_entry; fact = fact })
      (params_facts p.params ++ map Holds p.asserts) ++ fs) (round_same tell c old new rest e []
      Main zero at_entry);
}
