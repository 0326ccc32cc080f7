-- Why it has to be known that buffers which the block leaves are their own roots: a name that is
-- bound twice, first to a buffer and then to a view of x, goes, and a view of that buffer does not.
use Rattle.std.proofs.Common.{◌≡◌, ◌==◌, ◌||◌, ℕ, ℤ, pos, Bool, true, false, true≢false, cond, List}
use Rattle.std.proofs.Common.{[], ◌∷◌, Option, Some, None, IsSome, refl, sym, ap, ◌∙◌, subst, eqb-true}
use Rattle.exo_tree.specs.Tree.{Cell, Binder, I32, Control, Lit, Coord, Span, Alloc, View, Block, end}
use Rattle.exo_tree.specs.Tree.{next}
use Rattle.exo_meaning.specs.Value.{Value, Undefined}
use Rattle.exo_meaning.specs.Scene.{Shape, Seen, whole, updated}
use Rattle.exo_meaning.specs.State.{State}
use Rattle.exo_meaning.specs.Inputs.{FitsCell}
use Rattle.exo_meaning.specs.Run.{World, run, tensor, unit_world, kinds_of, writes}
use Rattle.exo_meaning.proofs.Windows.{one_value, none_is_some}
use Rattle.meaning_laws.specs.Context.{MayReplace}
use Rattle.meaning_laws.specs.Sorted.{CellsFit}
use Rattle.meaning_laws.specs.Sound.{IsSound, IsUnbound}
use Rattle.inplace_laws.specs.Filled.{Loop}
use Rattle.place_laws.specs.Scope.Scopes.{top_binders, HasNone}
use Rattle.buffer_laws.specs.Staging.Converted.{converted, FitsWithin}
use Rattle.buffer_laws.specs.Staging.Known.{IsKnown, up_to_store}
use Rattle.buffer_laws.specs.Staging.Replaced.{between}
use Rattle.buffer_laws.proofs.OfStaging.Converted.{fits_law}
use Rattle.buffer_laws.specs.StageMem.{asked_of_statement}
use Rattle.buffer_laws.specs.Stride.OnView.{AllHold, LiesWithin}
use Rattle.buffer_laws.specs.Stride.Passed.{ArePassed}
use Rattle.buffer_laws.specs.Stride.Strides.{CallsAreBlind, stride_seen}
use Rattle.buffer_laws.proofs.OfStride.Along.{each_within}
use Rattle.buffer_laws.proofs.OfStride.Units.{blind_calls_law}
use Rattle.alloc_laws.specs.Goes.Goes.{goes}

-- ---- the law with cells alone known of the end

pub record KnowsCells (world : World) (root : ℕ → ℕ) (a : Binder) (cell : Cell) (x : ℕ)
    (sides : List Control) (coords : List Coord) (b new : Block) (s : State) : Type 0 where
  none : HasNone (λ y. (y == a.id) || top_binders b y) s
  known : (t u : State) → run world b s ≡ Some t → run world new s ≡ Some u
      → IsKnown world root a cell x coords b s × LiesWithin world x sides coords b s × CellsFit t

abbrev GoesByCells : Type 0
GoesByCells =
    (world : World) (sees : ℕ → ℕ → Bool) (root : ℕ → ℕ) (a : Binder)
    (cell : Cell) (dims sides : List Control) (memory x : ℕ) (coords : List Coord)
    (ls ks : List Loop) (b : Block) (s : State)
    → let new = between a cell dims memory x coords ls ks (converted a.id x coords b) in
    CallsAreBlind world sees
    → ArePassed world.callees sees root a dims x coords ls ks b
    → KnowsCells world root a cell x sides coords b new s
    → MayReplace world (goes root a.id x b) b new s

-- and the same behind the load nest alone
abbrev ReaderGoesByCells : Type 0
ReaderGoesByCells =
    (world : World) (sees : ℕ → ℕ → Bool) (root : ℕ → ℕ) (a : Binder)
    (cell : Cell) (dims sides : List Control) (memory x : ℕ) (coords : List Coord)
    (ls : List Loop) (b : Block) (s : State)
    → let new = up_to_store a cell dims memory x coords ls b in
    CallsAreBlind world sees
    → ArePassed world.callees sees root a dims x coords ls ls b
    → writes world (updated root a.id a.id) (converted a.id x coords b) a.id ≡ false
    → KnowsCells world root a cell x sides coords b new s
    → MayReplace world (goes root a.id x b) b new s

-- ---- the case

abbrev world : World
world = unit_world (kinds_of []) []

abbrev one : List Control
one = Lit (pos 1) ∷ []

abbrev four : List Control
four = Lit (pos 4) ∷ []

abbrev first_cell : List Coord
first_cell = Span (Lit (pos 0)) (Lit (pos 1)) ∷ []

-- x[0:4]
abbrev coords : List Coord
coords = Span (Lit (pos 0)) (Lit (pos 4)) ∷ []

-- x is number 0: w : i32[1]; y = w[0:1]; w = x[0:1]
abbrev twice : Block
twice = next (Alloc (record { id = 5; name = 119 ∷ [] }) I32 one 0)
    (next (View (record { id = 6; name = 121 ∷ [] }) 5 first_cell)
    (next (View (record { id = 5; name = 119 ∷ [] }) 0 first_cell) end))

abbrev a : Binder
a = record { id = 2; name = 116 ∷ [] }

abbrev loop : ℕ → List Loop
loop n = record { binder = record { id = n; name = 105 ∷ [] }; extent = Lit (pos 4) } ∷ []

abbrev new : Block
new = between a I32 four 0 0 coords (loop 3) (loop 4) (converted 2 0 coords twice)

abbrev nothing : List ℤ → Value
nothing at = Undefined

abbrev s : State
s = record {
  scene = record {
    control = λ y. pos 0;
    buffers = λ b. cond (b == 0) (Some (tensor I32 (pos 8 ∷ []))) None;
    views = λ y. cond (y == 0) (Some (record { buffer = 0; sides = whole (pos 8 ∷ []) })) None;
    fields = λ f. pos 0;
  };
  cells = λ b. nothing;
}

passes : ArePassed world.callees (stride_seen (kinds_of []) []) (λ y. y) a four 0 coords (loop 3)
    (loop 4) twice
passes = record {
  new = record { block = refl; spots = refl };
  other = refl;
  plain = refl;
  sizes = λ z. refl;
  loads = record {
    distinct = (refl, tt);
    apart = λ y e. absurd (true≢false (sym e));
    equal = λ z. refl;
  };
  stores = record {
    distinct = (refl, tt);
    apart = λ y e. absurd (true≢false (sym e));
    equal = λ z. refl;
  };
  names = refl;
  strides = refl;
  own = refl;
  name = refl;
  root_name = refl;
  variables = λ y e. absurd (true≢false (sym e));
}

sound : IsSound s
sound = record {
  tidy = λ b e at. refl;
  seen = λ y z e. there y z (y == 0) e;
}
  where
    there : (y : ℕ) (z : Seen) (r : Bool)
        → cond {A = Option Seen} r (Some (record { buffer = 0; sides = whole (pos 8 ∷ []) })) None
        ≡ Some z → IsSome (s.scene.buffers z.buffer)
    there y z true e = subst (λ (w : Seen). IsSome (s.scene.buffers w.buffer))
        (one_value (record { buffer = 0; sides = whole (pos 8 ∷ []) }) z e) refl
    there y z false e = absurd (none_is_some e)

-- all but x stand for nothing
free : (y : ℕ) → (y == 0) ≡ false → IsUnbound s y
free y e = record {
  control = refl;
  buffers = ap (λ r. cond {A = Option Shape} r (Some (tensor I32 (pos 8 ∷ []))) None) e;
  views = ap (λ r. cond {A = Option Seen} r (Some (record {
    buffer = 0;
    sides = whole (pos 8 ∷ []);
  })) None) e;
}

none_there : HasNone (λ y. (y == 2) || top_binders twice y) s
none_there = record { sound = sound; unbound = λ y h. free y (not_x y h (y == 0) refl) }
  where
    not_x : (y : ℕ) → ((y == 2) || top_binders twice y) ≡ true → (r : Bool) → (y == 0) ≡ r
        → r ≡ false
    not_x y h false e = refl
    not_x y h true e = absurd (true≢false (sym (subst
        (λ n. ((n == 2) || top_binders twice n) ≡ true) (eqb-true y 0 e) h)))

fits : FitsWithin world 0 coords twice s
fits = fits_law world 0 coords twice s
    (tt, tt, λ u e. ((λ k. absurd (true≢false (sym k))), tt, λ v f. ((λ k. tt), tt, λ w g. tt)))

known : IsKnown world (λ y. y) a I32 0 coords twice s
known = record {
  sound = sound;
  cells = λ b shape e at. tt;
  unbound = free 2 refl;
  roots = λ y z e. root_of y z (y == 0) refl e;
  own_roots = λ b i. refl;
  cell_is = λ z to v k. cell z to v (z.buffer == 0) k;
  fit = fits;
}
  where
    root_of : (y : ℕ) (z : Seen) (r : Bool) → (y == 0) ≡ r
        → cond {A = Option Seen} r (Some (record { buffer = 0; sides = whole (pos 8 ∷ []) })) None
        ≡ Some z → z.buffer ≡ y
    root_of y z true k e = ap (λ (w : Seen). w.buffer) (sym (one_value (record {
      buffer = 0;
      sides = whole (pos 8 ∷ []);
    }) z e)) ∙ sym (eqb-true y 0 k)
    root_of y z false k e = absurd (none_is_some e)

    cell : (z : Seen) (to : Shape)
        → Some (record { buffer = 0; sides = whole (pos 8 ∷ []) }) ≡ Some z → (r : Bool)
        → cond {A = Option Shape} r (Some (tensor I32 (pos 8 ∷ []))) None ≡ Some to
        → to.cell ≡ I32
    cell z to v true k = ap (λ (q : Shape). q.cell)
        (sym (one_value (tensor I32 (pos 8 ∷ [])) to k))
    cell z to v false k = absurd (none_is_some k)

lies : LiesWithin world 0 (Lit (pos 8) ∷ []) coords twice s
lies c d u is come = each_within world
    (λ d z. AllHold z (asked_of_statement 0 (Lit (pos 8) ∷ []) coords d)) twice s
    (tt, tt, λ u e. (tt, tt, λ v f. ((refl, (refl, tt)), tt, λ w g. tt))) c d u is come

-- ---- both run

abbrev Ends : Block → Type 0
Ends b = (t : State) × (run world b s ≡ Some t)

gives : (o : Option State) → IsSome o → (t : State) × (o ≡ Some t)
gives None i = absurd (true≢false (sym i))
gives (Some t) i = (t, refl)

abbrev old_end : State
old_end = record {
  scene = record {
    control = λ y. pos 0;
    buffers = λ b. cond (b == 5) (Some (tensor I32 (pos 1 ∷ [])))
        (cond (b == 0) (Some (tensor I32 (pos 8 ∷ []))) None);
    views = λ y. cond (y == 5) (Some (record { buffer = 0; sides = whole (pos 1 ∷ []) }))
        (cond (y == 6) (Some (record { buffer = 5; sides = whole (pos 1 ∷ []) }))
        (cond (y == 5) (Some (record { buffer = 5; sides = whole (pos 1 ∷ []) }))
        (cond (y == 0) (Some (record { buffer = 0; sides = whole (pos 8 ∷ []) })) None)));
    fields = λ f. pos 0;
  };
  cells = λ b. cond (b == 5) nothing nothing;
}

old_runs : run world twice s ≡ Some old_end
old_runs = refl

new_runs : IsSome (run world new s)
new_runs = refl

old_fits : CellsFit old_end
old_fits b shape e at = go (b == 5)
  where
    go : (r : Bool) → FitsCell shape.cell (cond {A = List ℤ → Value} r nothing nothing at)
    go true = tt
    go false = tt

knows : KnowsCells world (λ y. y) a I32 0 (Lit (pos 8) ∷ []) coords twice new s
knows = record {
  none = none_there;
  known = λ t u e f. (known, lies, subst CellsFit (one_value old_end t e) old_fits);
}

-- w goes, y does not, and sees w
pub cells_do_not_suffice : GoesByCells → ⊥
cells_do_not_suffice law =
    let v = gives (run world new s) new_runs in
    let h = law world (stride_seen (kinds_of []) []) (λ y. y) a I32 four (Lit (pos 8) ∷ []) 0 0
    coords (loop 3) (loop 4) twice s (blind_calls_law (kinds_of []) []) passes knows in
    true≢false ((h.runs old_end v.0 old_runs v.1).seen 6
    (record { buffer = 5; sides = whole (pos 1 ∷ []) }) refl refl)

-- ---- nor where the block only reads

abbrev reader : Block
reader = up_to_store a I32 four 0 0 coords (loop 3) twice

reader_runs : IsSome (run world reader s)
reader_runs = refl

reader_knows : KnowsCells world (λ y. y) a I32 0 (Lit (pos 8) ∷ []) coords twice reader s
reader_knows = record {
  none = none_there;
  known = λ t u e f. (known, lies, subst CellsFit (one_value old_end t e) old_fits);
}

reader_passes : ArePassed world.callees (stride_seen (kinds_of []) []) (λ y. y) a four 0 coords
    (loop 3) (loop 3) twice
reader_passes = record {
  new = record { block = refl; spots = refl };
  other = refl;
  plain = refl;
  sizes = λ z. refl;
  loads = passes.loads;
  stores = passes.loads;
  names = refl;
  strides = refl;
  own = refl;
  name = refl;
  root_name = refl;
  variables = λ y e. absurd (true≢false (sym e));
}

pub cells_do_not_suffice_for_readers : ReaderGoesByCells → ⊥
cells_do_not_suffice_for_readers law =
    let v = gives (run world reader s) reader_runs in
    let h = law world (stride_seen (kinds_of []) []) (λ y. y) a I32 four (Lit (pos 8) ∷ []) 0 0
    coords (loop 3) twice s (blind_calls_law (kinds_of []) []) reader_passes refl reader_knows in
    true≢false ((h.runs old_end v.0 old_runs v.1).seen 6
    (record { buffer = 5; sides = whole (pos 1 ∷ []) }) refl refl)
