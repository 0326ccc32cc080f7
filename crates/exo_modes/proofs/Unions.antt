-- What several marks say together.
use Rattle.std.proofs.Common.{◌≡◌, ℕ, ◌==◌, ◌||◌, ◌&&◌, Bool, true, false, List, refl, ap, ◌∙◌}
use Rattle.std.proofs.Math.Bool.{or_assoc}
use Rattle.exo_tree.specs.Tree.{Control, Datum, Read, Plus, Select}
use Rattle.exo_meaning.specs.Modes.{Mode, Reading, Writing, Reducing, Modes, picked, no_modes, reads_from}
use Rattle.exo_modes.specs.Marks.{together, used, reads}

pub same_modes : (f g : Modes) → ((m : Mode) (y : ℕ) → f m y ≡ g m y) → f ≡ g
same_modes f g h = λ i m y. h m y i

pub or_false : (a : Bool) → (a || false) ≡ a
or_false true = refl
or_false false = refl

pub nothing_more : (f : Modes) → together f no_modes ≡ f
nothing_more f = same_modes _ _ (λ m y. or_false (f m y))

-- one more mark after o and a
pub more : (o a b p t : Modes) → p ≡ together o a → t ≡ together p b → t ≡ together o (together a b)
more o a b p t h i = i ∙ ap (λ f. together f b) h ∙ same_modes _ _ (λ m y. or_assoc (o m y) (a m y) (b m y))

-- what two expressions read
reads_at : (m : Mode) (r s : Bool) → (picked m r false false || picked m s false false) ≡ picked m (r || s) false false
reads_at Reading r s = refl
reads_at Writing r s = refl
reads_at Reducing r s = refl

name_at : (m : Mode) (t : Bool) → (picked m true false false && t) ≡ picked m t false false
name_at Reading t = refl
name_at Writing t = refl
name_at Reducing t = refl

-- what a name reads
pub read_name : (root : ℕ → ℕ) (x : ℕ) (is : List Control)
    → used (λ m. picked m true false false) (root x) ≡ reads root (Read x is)
read_name root x is = same_modes _ _ (λ m y. name_at m (y == root x))

-- what a sum reads, where its first part is marked
pub read_both : (root : ℕ → ℕ) (a b : Datum) (o p : Modes) → p ≡ together o (reads root a)
    → together p (reads root b) ≡ together o (reads root (Plus a b))
read_both root a b o p h =
    more o (reads root a) (reads root b) p _ h refl
    ∙ ap (together o) (same_modes _ _ (λ m y. reads_at m (reads_from root a y) (reads_from root b y)))

-- what a selection reads, where its first two parts are marked
pub read_four : (root : ℕ → ℕ) (a b c d : Datum) (o p : Modes)
    → p ≡ together o (reads root (Plus a b))
    → together p (reads root (Plus c d)) ≡ together o (reads root (Select a b c d))
read_four root a b c d o p h =
    read_both root (Plus a b) (Plus c d) o p h
    ∙ ap (together o)
    (same_modes _ _ (λ m y. ap (λ t. picked m t false false)
    (or_assoc (reads_from root a y) (reads_from root b y) (reads_from root (Plus c d) y))))
