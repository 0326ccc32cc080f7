-- A hole in a hole.
use Rattle.std.proofs.Common.{◌≡◌, ℕ, Bool, true, false, ◌==◌, ◌||◌, refl, sym, ap, ◌∙◌, subst}
use Rattle.exo_tree.specs.Tree.{Index, Block, next, joined, For, If}
use Rattle.exo_tree.specs.Context.{Context, Here, After, InLoop, InThen, InElse, fill}
use Rattle.exo_meaning.specs.State.{State}
use Rattle.exo_meaning.specs.Run.{World, turns_of, roots_after}
use Rattle.exo_meaning.specs.Units.{Scope, ControlName, with_name, scope_after}
use Rattle.meaning_laws.specs.Context.{ComesTo}
use Rattle.meaning_laws.specs.Sound.{on_way, binds}
use Rattle.meaning_laws.specs.Sorted.{scope_at}
use Rattle.place_laws.specs.Scope.Holes.{followed, within, roots_at}
use Rattle.place_laws.specs.Scope.PlacesCompose.{ComesThrough, HolesCompose}
use Rattle.place_laws.proofs.OfScope.SameHole.{turns_same}
use Rattle.place_laws.proofs.OfScope.SamePlace.{joined_assoc}

fill_followed : (d : Context) (old more : Block) → fill (followed d more) old ≡ joined (fill d old)
    more
fill_followed (Here rest) old more = sym (joined_assoc old rest more)
fill_followed (After a d) old more = ap (next a) (fill_followed d old more)
fill_followed (InLoop i lo hi d rest) old more = refl
fill_followed (InThen t d other rest) old more = refl
fill_followed (InElse t other d rest) old more = refl

fill_within : (c d : Context) (old : Block) → fill (within c d) old ≡ fill c (fill d old)
fill_within (Here rest) d old = fill_followed d old rest
fill_within (After a c) d old = ap (next a) (fill_within c d old)
fill_within (InLoop i lo hi c rest) d old =
    ap (λ b. next (For i lo hi b) rest) (fill_within c d old)
fill_within (InThen t c other rest) d old = ap (λ b. next (If t b other) rest) (fill_within c d old)
fill_within (InElse t other c rest) d old = ap (λ b. next (If t other b) rest) (fill_within c d old)

scope_followed : (d : Context) (more : Block) (scope : Scope)
    → scope_at (followed d more) scope ≡ scope_at d scope
scope_followed (Here rest) more scope = refl
scope_followed (After a d) more scope = scope_followed d more (scope_after a scope)
scope_followed (InLoop i lo hi d rest) more scope = refl
scope_followed (InThen t d other rest) more scope = refl
scope_followed (InElse t other d rest) more scope = refl

scope_within : (c d : Context) (scope : Scope)
    → scope_at (within c d) scope ≡ scope_at d (scope_at c scope)
scope_within (Here rest) d scope = scope_followed d rest scope
scope_within (After a c) d scope = scope_within c d (scope_after a scope)
scope_within (InLoop i lo hi c rest) d scope =
    scope_within c d (with_name scope i (ControlName Index))
scope_within (InThen t c other rest) d scope = scope_within c d scope
scope_within (InElse t other c rest) d scope = scope_within c d scope

roots_followed : (d : Context) (more : Block) (root : ℕ → ℕ)
    → roots_at (followed d more) root ≡ roots_at d root
roots_followed (Here rest) more root = refl
roots_followed (After a d) more root = roots_followed d more (roots_after a root)
roots_followed (InLoop i lo hi d rest) more root = refl
roots_followed (InThen t d other rest) more root = refl
roots_followed (InElse t other d rest) more root = refl

roots_within : (c d : Context) (root : ℕ → ℕ)
    → roots_at (within c d) root ≡ roots_at d (roots_at c root)
roots_within (Here rest) d root = roots_followed d rest root
roots_within (After a c) d root = roots_within c d (roots_after a root)
roots_within (InLoop i lo hi c rest) d root = roots_within c d root
roots_within (InThen t c other rest) d root = roots_within c d root
roots_within (InElse t other c rest) d root = roots_within c d root

or_assoc : (a b c : Bool) → (a || (b || c)) ≡ ((a || b) || c)
or_assoc true b c = refl
or_assoc false b c = refl

bound_followed : (d : Context) (more : Block) (x : ℕ) → on_way (followed d more) x ≡ on_way d x
bound_followed (Here rest) more x = refl
bound_followed (After a d) more x = ap (λ t. binds a x || t) (bound_followed d more x)
bound_followed (InLoop i lo hi d rest) more x = refl
bound_followed (InThen t d other rest) more x = refl
bound_followed (InElse t other d rest) more x = refl

bound_within : (c d : Context) (x : ℕ) → on_way (within c d) x ≡ (on_way c x || on_way d x)
bound_within (Here rest) d x = bound_followed d rest x
bound_within (After a c) d x = ap (λ t. binds a x || t) (bound_within c d x)
    ∙ or_assoc (binds a x) (on_way c x) (on_way d x)
bound_within (InLoop i lo hi c rest) d x = ap (λ t. (x == i.id) || t) (bound_within c d x)
    ∙ or_assoc (x == i.id) (on_way c x) (on_way d x)
bound_within (InThen t c other rest) d x = bound_within c d x
bound_within (InElse t other c rest) d x = bound_within c d x

module _ (world : World) (old : Block) where
  followed_to : (d : Context) (more : Block) (s u : State) → ComesTo world old d s u
      → ComesTo world old (followed d more) s u
  followed_to (Here rest) more s u z = z
  followed_to (After a d) more s u z = (z.0, z.1, followed_to d more z.0 u z.2)
  followed_to (InLoop i lo hi d rest) more s u z = z
  followed_to (InThen t d other rest) more s u z = z
  followed_to (InElse t other d rest) more s u z = z

  followed_back : (d : Context) (more : Block) (s u : State)
      → ComesTo world old (followed d more) s u → ComesTo world old d s u
  followed_back (Here rest) more s u z = z
  followed_back (After a d) more s u z = (z.0, z.1, followed_back d more z.0 u z.2)
  followed_back (InLoop i lo hi d rest) more s u z = z
  followed_back (InThen t d other rest) more s u z = z
  followed_back (InElse t other d rest) more s u z = z

  through : (c d : Context) (s t u : State) → ComesTo world (fill d old) c s t
      → ComesTo world old d t u → ComesTo world old (within c d) s u
  through (Here rest) d s t u z w =
      followed_to d rest s u (subst (λ t. ComesTo world old d t u) z w)
  through (After a c) d s t u z w = (z.0, z.1, through c d z.0 t u z.2 w)
  through (InLoop i lo hi c rest) d s t u z w = (
    z.0,
    z.1,
    turns_same world i.id (fill c (fill d old)) (fill (within c d) old)
        (sym (fill_within c d old)) (turns_of s.scene lo hi) s z.0 z.1 z.2,
    through c d _ t u z.3 w,
  )
  through (InThen test c other rest) d s t u z w = (z.0, through c d s t u z.1 w)
  through (InElse test other c rest) d s t u z w = (z.0, through c d s t u z.1 w)

  split : (c d : Context) (s u : State) → ComesTo world old (within c d) s u
      → ComesThrough world old c d s u
  split (Here rest) d s u z = record {
    middle = s;
    first = refl;
    second = followed_back d rest s u z;
  }
  split (After a c) d s u z = let w =
      split c d z.0 u z.2 in record {
        middle = w.middle;
        first = (z.0, z.1, w.first);
        second =
            w.second;
      }
  split (InLoop i lo hi c rest) d s u z =
      let w = split c d _ u z.3 in
      record {
        middle = w.middle;
        first = (
          z.0,
          z.1,
          turns_same world i.id (fill (within c d) old)
              (fill c (fill d old)) (fill_within c d old) (turns_of s.scene lo hi) s z.0 z.1 z.2,
          w.first,
        );
        second = w.second;
      }
  split (InThen test c other rest) d s u z = let w =
      split c d s u z.1 in record { middle = w.middle; first = (z.0, w.first); second = w.second }
  split (InElse test other c rest) d s u z = let w =
      split c d s u z.1 in record { middle = w.middle; first = (z.0, w.first); second = w.second }

pub holes_compose : HolesCompose
holes_compose old c d = record {
  body = fill_within c d old;
  comes = λ world s u. (
    λ z. through world old c d s z.middle u z.first z.second,
    split world old c
        d s u,
  );
  scope = scope_within c d;
  roots = roots_within c d;
  bound = bound_within c d;
}
