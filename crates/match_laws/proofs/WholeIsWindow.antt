-- A window with the coordinates of a whole name is that name.
use Rattle.std.proofs.Common.{◌≡◌, ◌∙◌, ℤ, ◌+ℤ◌, ◌-ℤ◌, pos, int_le, int_lt}
use Rattle.std.proofs.Common.{Bool, true, false, ◌&&◌, List, [], ◌∷◌, Option, Some, None, option_map}
use Rattle.std.proofs.Common.{refl, sym, ap, ap₂, arith, true≢false}
use Rattle.std.proofs.lemmas.Int.{ints}
use Rattle.exo_tree.specs.Tree.{Control}
use Rattle.exo_meaning.specs.Scene.{Side, Point, Range, Seen, Scene, then_do, number, numbers}
use Rattle.exo_meaning.specs.Scene.{narrowed, where_true, extents}
use Rattle.exo_meaning.specs.Calls.{GivenView, all_positive}
use Rattle.affine_forms.proofs.Values.{and_parts}
use Rattle.match_laws.specs.Names.{whole_of}
use Rattle.match_laws.specs.WholeIsWindow.{WholeIsWindow}
use Rattle.match_laws.proofs.Fitting.{same_windows}

within : (n : ℤ) → int_le (pos 1) n ≡ true
    → (int_le (pos 0) (pos 0) && int_lt (pos 0) n && int_le n n) ≡ true
within n h = search (ints, arith)

from_zero : (lo : ℤ) → lo +ℤ pos 0 ≡ lo
from_zero lo = omega (arith, ints)

all_of_it : (n : ℤ) → n -ℤ pos 0 ≡ n
all_of_it n = omega (arith, ints)

first_is : (m n : ℤ) (ms ns : List ℤ) → m ∷ ms ≡ n ∷ ns → m ≡ n
first_is m n ms ns h = cc

others_are : (m n : ℤ) (ms ns : List ℤ) → m ∷ ms ≡ n ∷ ns → ms ≡ ns
others_are m n ms ns h = cc

nothing_left : (n : ℤ) (ns : List ℤ) → [] ≡ n ∷ ns → ⊥
nothing_left n ns h = cc

pub whole_narrowed : (scene : Scene) (sides : List Side) (known : List Control)
    → numbers scene known ≡ extents sides → all_positive (extents sides) ≡ true
    → narrowed scene sides (whole_of known) ≡ Some sides
whole_narrowed scene [] [] e h = refl
whole_narrowed scene [] (d ∷ known) e h =
    absurd (nothing_left (number scene d) (numbers scene known) (sym e))
whole_narrowed scene (Point p ∷ sides) known e h =
    ap (option_map (λ rest. Point p ∷ rest)) (whole_narrowed scene sides known e h)
whole_narrowed scene (Range lo n ∷ sides) [] e h =
    absurd (nothing_left n (extents sides) e)
whole_narrowed scene (Range lo n ∷ sides) (d ∷ known) e h =
    let m = number scene d in
    let same = first_is m n (numbers scene known) (extents sides) e in
    let rest = others_are m n (numbers scene known) (extents sides) e in
    let p = and_parts (int_le (pos 1) n) (all_positive (extents sides)) h in
    ap₂ (λ k o. where_true (int_le (pos 0) (pos 0) && int_lt (pos 0) k && int_le k n)
    (option_map (λ more. Range (lo +ℤ pos 0) (k -ℤ pos 0) ∷ more) o)) same
    (whole_narrowed scene sides known rest p.1)
    ∙ ap (λ t. where_true t (Some (Range (lo +ℤ pos 0) (n -ℤ pos 0) ∷ sides))) (within n p.0)
    ∙ ap₂ (λ k l. Some (Range k l ∷ sides)) (from_zero lo) (all_of_it n)

-- and with an empty one there is none
pub never : {A : Type 0} (t : Bool) (o : Option A) → o ≡ None → where_true t o ≡ None
never true o e = e
never false o e = refl

not_within : (n : ℤ) → int_le (pos 1) n ≡ false
    → (int_le (pos 0) (pos 0) && int_lt (pos 0) n && int_le n n) ≡ false
not_within n h = search (ints, arith)

pub none_narrowed : (scene : Scene) (sides : List Side) (known : List Control)
    → numbers scene known ≡ extents sides → all_positive (extents sides) ≡ false
    → narrowed scene sides (whole_of known) ≡ None
none_narrowed scene [] known e h = absurd (true≢false h)
none_narrowed scene (Point p ∷ sides) known e h =
    ap (option_map (λ rest. Point p ∷ rest)) (none_narrowed scene sides known e h)
none_narrowed scene (Range lo n ∷ sides) [] e h =
    absurd (nothing_left n (extents sides) e)
none_narrowed scene (Range lo n ∷ sides) (d ∷ known) e h =
    go (int_le (pos 1) n) refl h (none_narrowed scene sides known
    (others_are (number scene d) n (numbers scene known) (extents sides) e))
  where
    same : number scene d ≡ n
    same = first_is (number scene d) n (numbers scene known) (extents sides) e

    test : ℤ → Bool
    test k = int_le (pos 0) (pos 0) && int_lt (pos 0) k && int_le k n

    part : ℤ → Option (List Side) → Option (List Side)
    part k o = option_map (λ more. Range (lo +ℤ pos 0) (k -ℤ pos 0) ∷ more) o

    go : (t : Bool) → int_le (pos 1) n ≡ t → (t && all_positive (extents sides)) ≡ false
        → (all_positive (extents sides) ≡ false → narrowed scene sides (whole_of known) ≡ None)
        → where_true (test (number scene d)) (part (number scene d) (narrowed scene sides (whole_of known)))
        ≡ None
    go true i k rest =
        never (test (number scene d)) (part (number scene d) (narrowed scene sides (whole_of known)))
        (ap (part (number scene d)) (rest k))
    go false i k rest =
        ap (λ t. where_true t (part (number scene d) (narrowed scene sides (whole_of known))))
        (ap test same ∙ not_within n i)

abbrev sided : Seen → List Side → Seen
sided seen sides = record { buffer = seen.buffer; sides = sides }

pub whole_is_window : WholeIsWindow
whole_is_window scene y seen known cs there e h same =
    ap (option_map GivenView) (same_windows scene y cs (whole_of known) same
    ∙ ap (λ o. then_do o (λ s. option_map (sided s) (narrowed scene s.sides (whole_of known)))) there
    ∙ ap (option_map (sided seen)) (whole_narrowed scene seen.sides known e h)
    ∙ sym there)
