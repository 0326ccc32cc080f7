-- What is opened at a path is a piece in the hole of a context, and the path is that of the hole.
use Rattle.std.proofs.Common.{◌≡◌, ℕ, zero, suc, [], ◌∷◌, length, Option, Some, None, refl, ap, sym, ◌∙◌, arith, subst}
use Rattle.std.specs.Prelude.{option_map, option_and_then}
use Rattle.exo_tree.specs.Tree.{If, For, Block, end, next, statements}
use Rattle.exo_tree.specs.Context.{Here, After, InLoop, InThen, InElse, fill}
use Rattle.exo_tree.specs.Places.{Branch, Main, Else, Step, Path, Opened, parted, past, into, opened_in, opened}
use Rattle.exo_tree.proofs.Heights.{opened_whole}
use Rattle.cursor_forward.proofs.Lands.{step, depth_of, tail_of, none_some}

-- something is mapped from something
pub mapped_some : {A B : Type 0} (g : A → B) (x : Option A) (y : B) → option_map g x ≡ Some y → (a : A) × (x ≡ Some a) × (g a ≡ y)
mapped_some g None y h = absurd (none_some refl h)
mapped_some g (Some a) y h = (a, refl, cc)

pub then_some : {A B : Type 0} (g : A → Option B) (x : Option A) (y : B) → option_and_then g x ≡ Some y → (a : A) × (x ≡ Some a) × (g a ≡ Some y)
then_some g None y h = absurd (none_some refl h)
then_some g (Some a) y h = (a, refl, h)

pub record IsHole (k : ℕ) (path : Path) (count : ℕ) (o : Opened) : Type 0 where
  pub depth : k ≡ depth_of o.around
  pub tail : path ≡ tail_of o.around
  pub size : length (statements o.piece) ≡ count

parted_size : (n : ℕ) (b : Block) (p : Block × Block) → parted n b ≡ Some p → length (statements p.0) ≡ n
parted_size zero b p h =
    let e : (end, b) ≡ p = cc in
    ap (λ (q : Block × Block). length (statements q.0)) (sym e)
parted_size (suc n) end p h = absurd (none_some refl h)
parted_size (suc n) (next a b) p h =
    let m = mapped_some (λ (q : Block × Block). (next a q.0, q.1)) (parted n b) p h in
    ap (λ (q : Block × Block). length (statements q.0)) (sym m.2) ∙ omega (arith, parted_size n b m.0 m.1)

hole_past : (f : Block → Option Opened) (path : Path) (count : ℕ) → ((c : Block) (o : Opened) → f c ≡ Some o → IsHole zero path count o) → (k : ℕ) (b : Block) (o : Opened) → past k f b ≡ Some o → IsHole k path count o
hole_past f path count h zero b o e = h b o e
hole_past f path count h (suc k) end o e = absurd (none_some refl e)
hole_past f path count h (suc k) (next a b) o e =
    let m = mapped_some (λ (q : Opened). record { around = After a q.around; piece = q.piece }) (past k f b) o e in
    let i = hole_past f path count h k b m.0 m.1 in
    subst (IsHole (suc k) path count) m.2 (record { depth = ap suc i.depth; tail = i.tail; size = i.size })

hole_into : (f : Block → Option Opened) (j : ℕ) (path : Path) (count : ℕ) → ((c : Block) (o : Opened) → f c ≡ Some o → IsHole j path count o) → (which : Branch) (c : Block) (o : Opened) → into which f c ≡ Some o → IsHole zero (step which j ∷ path) count o
hole_into f j path count h Main (next (For i lo hi b) rest) o e =
    let m = mapped_some (λ (q : Opened). record { around = InLoop i lo hi q.around rest; piece = q.piece }) (f b) o e in
    let n = h b m.0 m.1 in
    subst (IsHole zero (step Main j ∷ path) count) m.2 (record { depth = refl; tail = λ x. step Main (n.depth x) ∷ n.tail x; size = n.size })
hole_into f j path count h Main (next (If t a b) rest) o e =
    let m = mapped_some (λ (q : Opened). record { around = InThen t q.around b rest; piece = q.piece }) (f a) o e in
    let n = h a m.0 m.1 in
    subst (IsHole zero (step Main j ∷ path) count) m.2 (record { depth = refl; tail = λ x. step Main (n.depth x) ∷ n.tail x; size = n.size })
hole_into f j path count h Else (next (If t a b) rest) o e =
    let m = mapped_some (λ (q : Opened). record { around = InElse t a q.around rest; piece = q.piece }) (f b) o e in
    let n = h b m.0 m.1 in
    subst (IsHole zero (step Else j ∷ path) count) m.2 (record { depth = refl; tail = λ x. step Else (n.depth x) ∷ n.tail x; size = n.size })
hole_into f j path count h _ _ o e = absurd (none_some refl e)

hole_here : (count : ℕ) (c : Block) (o : Opened) → option_map (λ (p : Block × Block). record { around = Here p.1; piece = p.0 }) (parted count c) ≡ Some o → IsHole zero [] count o
hole_here count c o e =
    let m = mapped_some (λ (p : Block × Block). record { around = Here p.1; piece = p.0 }) (parted count c) o e in
    subst (IsHole zero [] count) m.2 (record { depth = refl; tail = refl; size = parted_size count c m.0 m.1 })

pub hole_in : (count : ℕ) (s : Step) (path : Path) (b : Block) (o : Opened) → opened_in count (s ∷ path) b ≡ Some o → IsHole s.index path count o
hole_in count s [] b o e = hole_past (λ c. option_map (λ p. record { around = Here p.1; piece = p.0 }) (parted count c)) [] count (hole_here count) s.index b o e
hole_in count s (t ∷ path) b o e =
    hole_past (into t.branch (opened_in count (t ∷ path))) (t ∷ path) count
    (hole_into (opened_in count (t ∷ path)) t.index path count (λ c o e. hole_in count t path c o e) t.branch)
    s.index b o e

-- what is opened from the body of a procedure, or from a piece, which goes by Main as well
pub record IsOpened (count : ℕ) (path : Path) (b : Block) (o : Opened) : Type 0 where
  pub hole : path ≡ step Main (depth_of o.around) ∷ tail_of o.around
  pub size : length (statements o.piece) ≡ count
  pub whole : fill o.around o.piece ≡ b

pub is_opened : (count : ℕ) (path : Path) (b : Block) (o : Opened) → opened count path b ≡ Some o → IsOpened count path b o
is_opened count [] b o e = absurd (none_some refl e)
is_opened count (s ∷ path) b o e = by_branch s.branch (opened_whole count (s ∷ path) b o e) e
  where
    by_branch : (r : Branch) → fill o.around o.piece ≡ b → (elim r as (λ (_ : Branch). Option Opened) [ Main ↦ opened_in count (s ∷ path) b | Else ↦ None ]) ≡ Some o → IsOpened count (step r s.index ∷ path) b o
    by_branch Main w h =
        let i = hole_in count s path b o h in
        record { hole = λ x. step Main (i.depth x) ∷ i.tail x; size = i.size; whole = w }
    by_branch Else w h = absurd (none_some refl h)
