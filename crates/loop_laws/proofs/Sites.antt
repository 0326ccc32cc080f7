-- What is known at a site of a rule on one loop.
use Rattle.std.proofs.Common.{◌≡◌, ◌≤◌, ℕ, Bool, true, false, ◌==◌, ◌||◌, ◌&&◌, not}
use Rattle.std.proofs.Common.{List, [], Option, Some, None, refl, sym, ap, ap₂, ◌∙◌, subst}
use Rattle.std.specs.Prelude.{◌+◌, nat_le, nat_lt, option_and_then, length, slice_get}
use Rattle.std.specs.List.{list_all}
use Rattle.exo_tree.specs.Tree.{Kind, Index, Binder, Control, Statement, Assign, Reduce, Config, Pass, If, For}
use Rattle.exo_tree.specs.Tree.{Alloc, View, Call, Block, end, next, joined, Procedure}
use Rattle.exo_tree.specs.Context.{Context, Here, After, InLoop, InThen, InElse, fill, rest_of}
use Rattle.exo_tree.specs.Places.{Path, opened}
use Rattle.exo_tree.specs.Renaming.{binders}
use Rattle.exo_meaning.specs.Calls.{Callee}
use Rattle.exo_meaning.specs.Inputs.{IsAdmissible}
use Rattle.exo_meaning.specs.State.{State}
use Rattle.exo_meaning.specs.Run.{callees, kinds_of, program_world}
use Rattle.exo_meaning.specs.Orders.{Each}
use Rattle.exo_meaning.specs.Units.{Scope, ControlName, with_name, scope_of, plainly, is_new, is_control}
use Rattle.exo_meaning.specs.Units.{is_empty, is_short, is_block, is_statement, field_kind, bound_ids}
use Rattle.exo_meaning.specs.Unseen.{in_control as uses, in_condition, in_block as mentions}
use Rattle.exo_meaning.proofs.Frame.{or_parts}
use Rattle.meaning_laws.specs.Context.{ComesTo}
use Rattle.meaning_laws.specs.Copies.{IsFree}
use Rattle.meaning_laws.specs.Facts.{Fact, IsTrueAt}
use Rattle.meaning_laws.specs.FreshCopies.{IsBelow, IsMadeOf, StandsAt, MayCopy, is_given}
use Rattle.meaning_laws.specs.Scoped.{is_not, has_binder, is_scoped, step_is_scoped, is_param}
use Rattle.meaning_laws.specs.Sound.{binds}
use Rattle.meaning_laws.specs.Substitute.{is_plain}
use Rattle.meaning_laws.proofs.Binders.{binder_new, binders_law, fresh_law}
use Rattle.meaning_laws.proofs.CopiesAtPlaces.{no_param, no_binder, old_is_made}
use Rattle.meaning_laws.proofs.Copies.{unbound_on}
use Rattle.meaning_laws.proofs.Fewer as fewer
use Rattle.meaning_laws.proofs.Substitute.{and_parts}
use Rattle.meaning_laws.proofs.WellFormed.{well_scoped, plain_of}
use Rattle.place_laws.specs.Scope.Roots.{own_roots_at}
use Rattle.place_laws.specs.Scope.UnrollLoop.{only_loop}
use Rattle.place_laws.specs.Scope.Unrolled.{HasNamesOf}
use Rattle.check_laws.specs.Facts.Laws.{ComesToPlace}
use Rattle.tree_findings.specs.Classes.{both, rule, limit}
use Rattle.tree_findings.specs.Findings.{found_in_binder, found_in_control, findings_of_control}
use Rattle.tree_findings.specs.Findings.{findings_of_statement, findings_of_block}
use Rattle.tree_findings.specs.Sizes.{is_small_control}
use Rattle.place_laws.specs.Order.TurnsOfTwo.{Loop}
use Rattle.step_rules.specs.Rule.{Got, Target, Piece, Spot, Need, Says}
use Rattle.step_rules.specs.Lawful.{IsMet, around, old, world_of, IsSpot, AtHole, Site, IsFormedHere}
use Rattle.step_rules.specs.Lawful.{found_scope_at, scope_here, callees_for}
use Rattle.step_rules.specs.Shapes.{tried, alone_in, one_statement}
use Rattle.step_rules.proofs.Formed.{HasShape, shape_parts}
use Rattle.step_rules.proofs.Shapes.{made_of, alone_is}
use Rattle.loop_laws.specs.Shapes.{loop_in, loop_of}
use Rattle.loop_laws.proofs.Formed.{IsFormed, formed}

-- ---- what is read

some_same : {A : Type 0} {a b : A} → Some a ≡ Some b → a ≡ b
some_same e = cc

got_same : {A : Type 0} {a b : A} → Got a ≡ Got b → a ≡ b
got_same e = cc

pub found_then : {T U : Type 0} (o : Option T) (f : T → Option U) (y : U)
    → option_and_then f o ≡ Some y → (x : T) × (o ≡ Some x) × (f x ≡ Some y)
found_then None f y h = cc
found_then (Some x) f y h = (x, refl, h)

abbrev pub block_of : Loop → Block
block_of l = only_loop l.binder l.lo l.hi l.body

loop_in_is : (a : Statement) (l : Loop) → loop_in a ≡ Some l → a ≡ For l.binder l.lo l.hi l.body
loop_in_is (Assign x is e) l h = cc
loop_in_is (Reduce x is e) l h = cc
loop_in_is (Config f a) l h = cc
loop_in_is Pass l h = cc
loop_in_is (If c a b) l h = cc
loop_in_is (For i lo hi b) l h = ap (λ (k : Loop). For k.binder k.lo k.hi k.body) (some_same h)
loop_in_is (Alloc x cell dims memory) l h = cc
loop_in_is (View w x coords) l h = cc
loop_in_is (Call k args) l h = cc

pub loop_of_is : (b : Block) (l : Loop) → loop_of b ≡ Some l → b ≡ block_of l
loop_of_is b l h =
    let f = found_then (alone_in b) loop_in l h in
    alone_is b f.0 f.1 ∙ ap (λ a. next a end) (loop_in_is f.0 l f.2)

-- what a rule on the loop that is read of a block says
pub record OnLoop (read : Block → Option Loop) (make : Loop → ℕ → Block) (a : Site) : Type 0 where
  pub loop : Loop
  pub found : read (old a.spot) ≡ Some loop
  pub single : a.spot.piece.count ≡ 1
  pub made : make loop a.base ≡ a.draft
  pub plain : make loop a.base ≡ a.plain

pub on_loop : (read : Block → Option Loop) (make : Loop → ℕ → Block) (a : Site) (at : Path)
    → one_statement read a.spot.target at ≡ Got a.spot.piece
    → tried (read (old a.spot)) (λ l. make l a.base) ≡ Got a.plain
    → tried (read (old a.spot)) (λ l. make l a.base) ≡ Got a.draft
    → OnLoop read make a
on_loop read make a at chosen plain drafted =
    let d = made_of (read (old a.spot)) (λ l. make l a.base) a.draft drafted in
    let at_place = made_of _ (λ (l : Loop). record { path = at; count = 1 }) a.spot.piece chosen in
    record {
      loop = d.of;
      found = d.found;
      single = sym (ap (λ (p : Piece). p.count) at_place.made);
      made = d.made;
      plain = d.made ∙ got_same (sym drafted ∙ plain);
    }

-- ---- needs

-- what is listed of the loop that is read
pub of_found : (o : Option Loop) (list : Loop → List Need) (l : Loop) (t : Target) → o ≡ Some l
    → Each (IsMet t) (elim o [ None ↦ [] | Some k ↦ list k ]) → Each (IsMet t) (list l)
of_found o list l t found met =
    subst (λ (z : Option Loop). Each (IsMet t) (elim z [ None ↦ [] | Some k ↦ list k ])) found met

-- what is said of the place of a piece of one statement is so at its hole
pub there : (s : Spot) (fact : Fact) → IsSpot s → s.piece.count ≡ 1
    → IsMet s.target (Says s.piece.path fact) → AtHole s (λ u. IsTrueAt u.scene fact)
there s fact is single met first u good come stands =
    met first u good (
    subst (λ o. ComesToPlace (world_of s) o first u)
    (sym (ap (λ n. opened n s.piece.path s.target.proc.body) (sym single) ∙ is.opens)) come)

-- ---- names

-- in a hole names are in scope too
module _ (b : Block) where
  scoped_there : (c : Context) (bound : ℕ → Bool) → is_scoped bound (fill c b) ≡ true
      → (inner : ℕ → Bool) × (is_scoped inner (joined b (rest_of c)) ≡ true)
  scoped_there (Here rest) bound h = (bound, h)
  scoped_there (After a c) bound h =
      scoped_there c (λ y. binds a y || bound y) (and_parts (step_is_scoped bound a) _ h).1
  scoped_there (InLoop i lo hi c rest) bound h =
      let p = and_parts (step_is_scoped bound (For i lo hi (fill c b))) _ h in
      let q = and_parts (not (bound i.id)) _ p.0 in
      scoped_there c (λ y. (y == i.id) || bound y)
      (and_parts (not (uses (is_not bound) lo || uses (is_not bound) hi)) _ q.1).1
  scoped_there (InThen t c other rest) bound h =
      let p = and_parts (step_is_scoped bound (If t (fill c b) other)) _ h in
      let q = and_parts (not (in_condition (is_not bound) t)) _ p.0 in
      scoped_there c bound
      (and_parts (is_scoped bound (fill c b)) (is_scoped bound other) q.1).0
  scoped_there (InElse t other c rest) bound h =
      let p = and_parts (step_is_scoped bound (If t other (fill c b))) _ h in
      let q = and_parts (not (in_condition (is_not bound) t)) _ p.0 in
      scoped_there c bound
      (and_parts (is_scoped bound other) (is_scoped bound (fill c b)) q.1).1

module _ (a : Site) (spot : IsSpot a.spot) (l : Loop) (was : old a.spot ≡ block_of l)
    (below : IsBelow a.base a.spot.target.proc) where
  abbrev p : Procedure
  p = a.spot.target.proc

  abbrev c : Context
  c = around a.spot

  body_is : p.body ≡ fill c (block_of l)
  body_is = spot.body ∙ ap (fill c) was

  -- new ids are free
  pub new_is_free : (x : ℕ) → a.base ≤ x → IsFree p c x
  new_is_free x from =
      fresh_law p c (block_of l) x (no_param a.base p below.below x from)
      (ap (λ b. has_binder b x) (sym body_is) ∙ no_binder a.base p below.below x from)

  -- and so are the loop's own
  pub own_is_free : (x : ℕ) → has_binder (block_of l) x ≡ true → IsFree p c x
  own_is_free x h =
      binders_law p c (block_of l) x
      (ap (is_scoped (is_param p)) (sym body_is) ∙ below.scoped) h

  -- the body does not bind the variable
  pub variable_is_other : (x : ℕ) → has_binder l.body x ≡ true → (x == l.binder.id) ≡ false
  variable_is_other x h =
      let s = scoped_there (block_of l) c (is_param p)
      (ap (is_scoped (is_param p)) (sym body_is) ∙ below.scoped) in
      let bound = s.0 in
      let first = and_parts (step_is_scoped bound (For l.binder l.lo l.hi l.body)) _ s.1 in
      let q = and_parts (not (bound l.binder.id)) _ first.0 in
      let body =
      and_parts (not (uses (is_not bound) l.lo || uses (is_not bound) l.hi)) _ q.1 in
      (or_parts (x == l.binder.id) (bound x)
      (binder_new (λ y. (y == l.binder.id) || bound y) l.body x body.1 h)).0

  pub loop_is_made : IsMadeOf a.base (block_of l) (block_of l)
  loop_is_made = old_is_made p c (block_of l) a.base below body_is

  -- the states of the hole are those of the loop's
  pub stands_at : {u first : State} → IsAdmissible (world_of a.spot) p first
      → ComesTo (world_of a.spot) (old a.spot) c first u
      → StandsAt (world_of a.spot) p c (block_of l) u
  stands_at {u} {first} good come = record {
    body = body_is;
    first = first;
    good = good;
    comes = subst (λ b. ComesTo (world_of a.spot) b c first u) was come;
  }

-- all names of the procedure are in scope, and its ids are below the new ones
pub is_below : (a : Site) → IsSpot a.spot
    → list_all (λ x. nat_lt x a.base) (bound_ids a.spot.target.proc) ≡ true
    → IsBelow a.base a.spot.target.proc
is_below a spot below =
    let unit = a.spot.target.unit in
    record {
      scoped =
          (well_scoped (field_kind unit.fields) (length unit.memories)
          (slice_get (callees (kinds_of unit.fields) [] unit.procedures)) a.spot.target.proc
          spot.runs.procedure).0;
      below = below;
    }

-- ---- bounds

module _ (fields : ℕ → Option Kind) (memories : ℕ) (callees : ℕ → Option Callee) (scope : Scope)
    (root : ℕ → ℕ) (i : Binder) (lo hi : Control) (b rest : Block) where
  -- those of a loop that is found to keep the rules
  pub bounds_formed :
      HasShape (findings_of_block fields memories callees scope root (next (For i lo hi b) rest))
      → IsFormed scope lo × IsFormed scope hi
  bounds_formed h =
      let low = findings_of_control fields plainly scope lo in
      let high = findings_of_control fields plainly scope hi in
      let inner =
      findings_of_block fields memories callees (with_name scope i (ControlName Index)) root b in
      let last = both (limit (is_short b)) inner in
      let p =
      shape_parts (findings_of_statement fields memories callees scope root (For i lo hi b))
      (findings_of_block fields memories callees scope root rest) h in
      let q =
      shape_parts (both (found_in_binder scope i) (rule (not (is_empty b))))
      (both (both low high) last) p.0 in
      let t = shape_parts low high (shape_parts (both low high) last q.1).0 in (
        formed fields scope lo
            (shape_parts (found_in_control fields plainly scope lo)
            (limit (is_small_control lo)) t.0).0,
        formed fields scope hi
            (shape_parts (found_in_control fields plainly scope hi)
            (limit (is_small_control hi)) t.1).0,
      )

  -- those of a loop that keeps them
  pub bounds_plain :
      is_block fields memories callees scope root (next (For i lo hi b) rest) ≡ true
      → (is_plain lo ≡ true) × (is_plain hi ≡ true)
  bounds_plain h =
      let o = and_parts (is_statement fields memories callees scope root (For i lo hi b)) _ h in
      let p = and_parts (is_new scope i) _ o.0 in
      let q =
      and_parts (is_control fields plainly scope lo && is_control fields plainly scope hi) _ p.1 in
      let t = and_parts (is_control fields plainly scope lo) (is_control fields plainly scope hi) q.0 in
      (plain_of fields scope lo t.0, plain_of fields scope hi t.1)

  -- and its body keeps them too
  pub body_keeps :
      is_block fields memories callees scope root (next (For i lo hi b) rest) ≡ true
      → is_block fields memories callees (with_name scope i (ControlName Index)) root b ≡ true
  body_keeps h =
      let o = and_parts (is_statement fields memories callees scope root (For i lo hi b)) _ h in
      let p = and_parts (is_new scope i) _ o.0 in
      let q =
      and_parts (is_control fields plainly scope lo && is_control fields plainly scope hi) _ p.1 in
      (and_parts (not (is_empty b) && is_short b) _ q.1).1

abbrev pub keeps_here : Spot → Block → Bool
keeps_here s b =
    is_block (field_kind s.target.unit.fields) (length s.target.unit.memories)
    (callees_for s.target) (scope_here s) (own_roots_at (around s)) b

-- the old loop keeps the rules at its place
pub loop_keeps : (a : Site) → IsSpot a.spot → (l : Loop) → old a.spot ≡ block_of l
    → keeps_here a.spot (block_of l) ≡ true
loop_keeps a spot l was = subst (λ b. keeps_here a.spot b ≡ true) was spot.well.piece

abbrev pub found_scope : Spot → Scope
found_scope s = found_scope_at (around s) (scope_of [] s.target.proc.params)

-- the bounds of a loop that is drafted first
pub formed_here : (s : Spot) (i : Binder) (lo hi : Control) (b rest : Block)
    → IsFormedHere s (next (For i lo hi b) rest)
    → IsFormed (found_scope s) lo × IsFormed (found_scope s) hi
formed_here s i lo hi b rest h =
    let unit = s.target.unit in
    bounds_formed (field_kind unit.fields) (length unit.memories) (program_world unit).callees
    (found_scope s) (own_roots_at (around s)) i lo hi b (joined rest (rest_of (around s))) h

-- ---- parts of a loop that mention nothing hidden

pub record LoopLacks (hidden : ℕ → Bool) (l : Loop) : Type 0 where
  pub binder : hidden l.binder.id ≡ false
  pub lo : uses hidden l.lo ≡ false
  pub hi : uses hidden l.hi ≡ false
  pub body : mentions hidden l.body ≡ false

pub loop_lacks : (hidden : ℕ → Bool) (l : Loop) → mentions hidden (block_of l) ≡ false
    → LoopLacks hidden l
loop_lacks hidden l h =
    let a = uses hidden l.hi || mentions hidden l.body in
    let p = or_parts (hidden l.binder.id || (uses hidden l.lo || a)) false h in
    let q = or_parts (hidden l.binder.id) (uses hidden l.lo || a) p.0 in
    let t = or_parts (uses hidden l.lo) a q.1 in
    let v = or_parts (uses hidden l.hi) (mentions hidden l.body) t.1 in
    record { binder = q.0; lo = t.0; hi = v.0; body = v.1 }

pub lacking_loop : (hidden : ℕ → Bool) (l : Loop) → LoopLacks hidden l
    → mentions hidden (block_of l) ≡ false
lacking_loop hidden l h =
    ap₂ ◌||◌ (ap₂ ◌||◌ h.binder (ap₂ ◌||◌ h.lo (ap₂ ◌||◌ h.hi h.body))) refl

-- ---- copies

-- a block that has no id from n on has none of a copy that is numbered from n on
pub given_unused : (n : ℕ) (b : Block) → mentions (nat_le n) b ≡ false
    → mentions (is_given n b) b ≡ false
given_unused n b low =
    fewer.block (nat_le n) (is_given n b)
    (λ x h. ap (λ t. t && nat_lt x (n + length (binders b))) h) b low

-- what may be copied may be copied where the names are the same
pub may_copy_there : (n : ℕ) (b : Block) (s t : State) → MayCopy n b s → HasNamesOf s t
    → MayCopy n b t
may_copy_there n b s t may h = record {
  sound = h.sound;
  own = λ x e. unbound_on s t x (h.names x) (may.own x e);
  given = λ x e. unbound_on s t x (h.names x) (may.given x e);
  unused = may.unused;
}
