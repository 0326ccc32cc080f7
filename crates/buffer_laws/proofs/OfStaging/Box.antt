-- The extents of a window's spans, and blocks that only read.
use Rattle.std.proofs.Common.{◌≡◌, ℕ, ℤ, pos, ◌+ℤ◌, ◌-ℤ◌, int_le, int_lt, ◌==◌, ◌&&◌, true, false}
use Rattle.std.proofs.Common.{cond, List, [], ◌∷◌, Option, Some, None, IfSome, IsSome, option_map}
use Rattle.std.proofs.Common.{refl, sym, ap, ap₂, ◌∙◌, subst, eq-eqb, arith}
use Rattle.std.proofs.lemmas.Int.{ints}
use Rattle.exo_tree.specs.Tree.{Coord, At, Span, Block}
use Rattle.exo_meaning.specs.Value.{Value}
use Rattle.exo_meaning.specs.Scene.{Shape, Side, Point, Range, Seen, Scene, number, numbers}
use Rattle.exo_meaning.specs.Scene.{cell_at, narrowed, extents, is_below}
use Rattle.exo_meaning.specs.State.{State}
use Rattle.exo_meaning.specs.Calls.{GivenView, contents, held_at, copy_back, all_positive}
use Rattle.exo_meaning.specs.Run.{World, run, tensor}
use Rattle.exo_meaning.specs.Laws.{IsKept}
use Rattle.exo_meaning.proofs.Frame.{others_are_kept, updated_other}
use Rattle.exo_meaning.proofs.Windows.{none_is_some, one_value, where_parts, map_parts}
use Rattle.exo_meaning.proofs.Windows.{copy_is_same}
use Rattle.inplace_laws.specs.Staged.{staged}
use Rattle.buffer_laws.specs.Staging.Stores.{spans, BoxLaw, NoStoreLaw}
use Rattle.buffer_laws.proofs.OfStaging.Stores.{under}

abbrev IsBox : Scene → List Coord → List Side → Type 0
IsBox scene cs ts = (numbers scene (spans cs) ≡ extents ts) × (all_positive (extents ts) ≡ true)

is_positive : (i j n : ℤ) → (int_le (pos 0) i && int_lt i j && int_le j n) ≡ true
    → int_le (pos 1) (j -ℤ i) ≡ true
is_positive i j n h = grind (arith, ints)

narrowed_box : (scene : Scene) (sides : List Side) (cs : List Coord) (ts : List Side)
    → narrowed scene sides cs ≡ Some ts → IsBox scene cs ts
narrowed_box scene [] [] ts e = subst (IsBox scene []) (one_value [] ts e) (refl, refl)
narrowed_box scene [] (c ∷ cs) ts e = absurd (none_is_some e)
narrowed_box scene (Point p ∷ sides) cs ts e =
    let m = map_parts (λ rest. Point p ∷ rest) (narrowed scene sides cs) ts e in
    subst (IsBox scene cs) m.2 (narrowed_box scene sides cs m.0 m.1)
narrowed_box scene (Range lo n ∷ sides) [] ts e = absurd (none_is_some e)
narrowed_box scene (Range lo n ∷ sides) (At a ∷ cs) ts e =
    let i = number scene a in
    let w = where_parts (is_below i n) (option_map (λ rest. Point (lo +ℤ i) ∷ rest)
    (narrowed scene sides cs)) ts e in
    let m = map_parts (λ rest. Point (lo +ℤ i) ∷ rest) (narrowed scene sides cs) ts w.1 in
    subst (IsBox scene (At a ∷ cs)) m.2 (narrowed_box scene sides cs m.0 m.1)
narrowed_box scene (Range lo n ∷ sides) (Span a b ∷ cs) ts e =
    let i = number scene a in
    let j = number scene b in
    let w = where_parts (int_le (pos 0) i && int_lt i j && int_le j n)
    (option_map (λ rest. Range (lo +ℤ i) (j -ℤ i) ∷ rest) (narrowed scene sides cs)) ts e in
    let m = map_parts (λ rest. Range (lo +ℤ i) (j -ℤ i) ∷ rest) (narrowed scene sides cs) ts w.1 in
    let h = narrowed_box scene sides cs m.0 m.1 in
    subst (IsBox scene (Span a b ∷ cs)) m.2 (
      ap (λ r. (j -ℤ i) ∷ r) h.0,
      ap₂ ◌&&◌
          (is_positive i j n w.0) h.1,
    )

pub box_law : BoxLaw
box_law scene x coords seen e = let u =
    under scene x coords seen e in narrowed_box scene u.root.sides coords seen.sides u.sides

-- ---- a block that only reads

module _ (world : World) (root : ℕ → ℕ) (a : ℕ) (seen : Seen) (to : Shape) (b : Block) (s : State)
    (other : (seen.buffer == a) ≡ false) where
  same_back : (t : State) → IsKept a (staged a seen to s) t
      → IsKept seen.buffer (staged a seen to s) t → copy_back true (GivenView seen) (t.cells a)
      t.cells ≡ t.cells
  same_back t k l =
      let held : t.cells a ≡ contents s.cells seen = k.cells
      ∙ ap (λ q. cond {A = List ℤ → Value} q (contents s.cells seen) (s.cells a))
      (eq-eqb a a refl) in
      let left : t.cells seen.buffer ≡ s.cells seen.buffer = l.cells
      ∙ updated_other s.cells a (contents s.cells seen) seen.buffer other in
      ap (λ c. copy_back true (GivenView seen) c t.cells)
      (held ∙ ap (λ (d : List ℤ → Value). λ is. held_at d (cell_at seen.sides is)) (sym left))
      ∙ copy_is_same seen t.cells

  both_left : (o : Option State) → IfSome o (IsKept a (staged a seen to s))
      → IfSome o (IsKept seen.buffer (staged a seen to s))
      → IfSome o (λ t. copy_back true (GivenView seen) (t.cells a) t.cells ≡ t.cells)
  both_left None k l = tt
  both_left (Some t) k l = same_back t k l

  own_there : IsSome ((staged a seen to s).scene.buffers a)
  own_there =
      subst IsSome (sym (ap (λ q. cond {A = Option Shape} q
      (Some (tensor to.cell (extents seen.sides))) (s.scene.buffers a)) (eq-eqb a a refl))) refl

  root_there : IsSome (s.scene.buffers seen.buffer)
      → IsSome ((staged a seen to s).scene.buffers seen.buffer)
  root_there h = subst IsSome (sym (updated_other s.scene.buffers a
      (Some (tensor to.cell (extents seen.sides))) seen.buffer other)) h

pub no_store_law : NoStoreLaw
no_store_law world root a seen to b s roots there other w v =
    both_left world root a seen to b s other (run world b (staged a seen to s))
    (others_are_kept world root b a (staged a seen to s) roots (own_there world root a seen to b s
    other) w)
    (others_are_kept world root b seen.buffer (staged a seen to s) roots (root_there world root a
    seen to b s other there) v)
