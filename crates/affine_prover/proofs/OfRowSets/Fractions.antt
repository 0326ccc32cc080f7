-- The values of sums where each variable is a numerator over one denominator.
use Rattle.std.proofs.Common.{ℕ, zero, suc, ◌<◌, ◌≤◌, ◌≡◌, List, [], ◌∷◌, map, length, get_or, ℤ, pos, ◌+ℤ◌, ◌*ℤ◌, ◌≤ℤ◌, neg_ℤ, arith, ap, sym, ◌∙◌, refl}
use Rattle.std.specs.List.{remove, insert}
use Rattle.std.proofs.lemmas.Int.{ints}
use Rattle.std.proofs.Math.IntN.{*ℤ-zero, *ℤ_comm}
use Rattle.affine_forms.specs.Affine.{Affine, dot, value_over}
use Rattle.affine_prover.specs.RowSets.Rows.{weighed, weighed_lists, combined, without, coefficient}
use Rattle.affine_forms.proofs.Integers.{times-add, times_assoc, times_natural, natural_from_times}
use Rattle.affine_prover.proofs.OfRowSets.Values.{dot-weighed_lists}
use Rattle.affine_prover.proofs.OfRowSets.Widths.{IsWide, length-remove}

-- ---- products
pub swap_times : (a b z : ℤ) → a *ℤ (b *ℤ z) ≡ b *ℤ (a *ℤ z)
swap_times a b z = sym (times_assoc a b z) ∙ ap (λ y. y *ℤ z) (*ℤ_comm a b) ∙ times_assoc b a z

pub times_at_most : (n : ℕ) (a b : ℤ) → a ≤ℤ b → (pos n *ℤ a) ≤ℤ (pos n *ℤ b)
times_at_most n a b h =
    let c = b +ℤ neg_ℤ a in
    let whole : a +ℤ c ≡ b = omega (arith, ints) in
    let natural : pos 0 ≤ℤ (pos n *ℤ c) = times_natural n c (omega (arith, ints)) in
    let split : pos n *ℤ (a +ℤ c) ≡ pos n *ℤ a +ℤ pos n *ℤ c = times-add (pos n) a c in
    let same : pos n *ℤ (a +ℤ c) ≡ pos n *ℤ b = ap (λ z. pos n *ℤ z) whole in
    omega (arith, ints, natural, split, same)

pub at_most_from_times : (n : ℕ) (a b : ℤ) → 0 < n → (pos n *ℤ a) ≤ℤ (pos n *ℤ b) → a ≤ℤ b
at_most_from_times n a b l h =
    let c = b +ℤ neg_ℤ a in
    let whole : a +ℤ c ≡ b = omega (arith, ints) in
    let split : pos n *ℤ (a +ℤ c) ≡ pos n *ℤ a +ℤ pos n *ℤ c = times-add (pos n) a c in
    let same : pos n *ℤ (a +ℤ c) ≡ pos n *ℤ b = ap (λ z. pos n *ℤ z) whole in
    let natural : pos 0 ≤ℤ c = natural_from_times n 0 c l (omega (arith, ints, split, same, h)) in
    omega (arith, ints, natural)

-- where p / cp is at most s / cs and r / cr is at most p / cp, r / cr is at most s / cs
pub ratio_trans : (p s r : ℤ) (cp cs cr : ℕ) → 0 < cp → (pos cs *ℤ p) ≤ℤ (pos cp *ℤ s) → (pos cp *ℤ r) ≤ℤ (pos cr *ℤ p) → (pos cs *ℤ r) ≤ℤ (pos cr *ℤ s)
ratio_trans p s r cp cs cr l h k =
    let high = times_at_most cr (pos cs *ℤ p) (pos cp *ℤ s) h in
    let low = times_at_most cs (pos cp *ℤ r) (pos cr *ℤ p) k in
    at_most_from_times cp (pos cs *ℤ r) (pos cr *ℤ s) l (through _ _ _ _ _ _ low high (swap_times (pos cs) (pos cp) r) (swap_times (pos cs) (pos cr) p) (swap_times (pos cr) (pos cp) s))
  where
    through : (a b c d e f : ℤ) → a ≤ℤ b → c ≤ℤ d → a ≡ e → b ≡ c → d ≡ f → e ≤ℤ f
    through a b c d e f i j m n o = omega (arith, ints)

-- ---- values
pub dot-insert : (cs ps : List ℤ) (v : ℕ) (x : ℤ) → v < length cs → v ≤ length ps → dot cs (insert ps v x) ≡ get_or cs v (pos 0) *ℤ x +ℤ dot (remove cs v) ps
dot-insert [] ps v x h k = absurd (omega arith)
dot-insert (c ∷ cs) ps zero x h k = refl
dot-insert (c ∷ cs) [] (suc v) x h k = absurd (omega arith)
dot-insert (c ∷ cs) (p ∷ ps) (suc v) x h k =
    let rest = dot-insert cs ps v x (omega arith) (omega arith) in
    omega (arith, ints, rest)

-- the value with one variable more, of numerator x
pub over-insert : (n v : ℕ) (d : ℤ) (r : Affine) (ps : List ℤ) (x : ℤ) → v < suc n → IsWide (suc n) r → length ps ≡ n → value_over d r (insert ps v x) ≡ coefficient r v *ℤ x +ℤ value_over d (without v r) ps
over-insert n v d r ps x l w e =
    let sum = dot-insert r.coefficients ps v x (omega arith) (omega arith) in
    omega (arith, ints, sum)

dot-scaled : (m : ℤ) (cs ps : List ℤ) → dot cs (map (λ p. m *ℤ p) ps) ≡ m *ℤ dot cs ps
dot-scaled m [] ps = sym (*ℤ-zero m)
dot-scaled m (c ∷ cs) [] = sym (*ℤ-zero m)
dot-scaled m (c ∷ cs) (p ∷ ps) =
    let rest = dot-scaled m cs ps in
    let here = swap_times c m p in
    let split = times-add m (c *ℤ p) (dot cs ps) in
    omega (arith, ints, rest, here, split)

-- denominator and numerators m times as large
pub over-scaled : (m d : ℤ) (r : Affine) (ps : List ℤ) → value_over (m *ℤ d) r (map (λ p. m *ℤ p) ps) ≡ m *ℤ value_over d r ps
over-scaled m d r ps =
    let sum = dot-scaled m r.coefficients ps in
    let here = times_assoc m d r.constant in
    let split = times-add m (d *ℤ r.constant) (dot r.coefficients ps) in
    omega (arith, ints, sum, here, split)

over-combined : (d f : ℤ) (a : Affine) (g : ℤ) (b : Affine) (ps : List ℤ) → length a.coefficients ≡ length b.coefficients → value_over d (combined f a g b) ps ≡ f *ℤ value_over d a ps +ℤ g *ℤ value_over d b ps
over-combined d f a g b ps e =
    let rest = dot-weighed_lists f a.coefficients g b.coefficients ps e in
    let left = times-add f (d *ℤ a.constant) (dot a.coefficients ps) in
    let right = times-add g (d *ℤ b.constant) (dot b.coefficients ps) in
    let split = times-add d (f *ℤ a.constant) (g *ℤ b.constant) in
    let one = swap_times d f a.constant in
    let other = swap_times d g b.constant in
    omega (arith, ints, rest, left, right, split, one, other)

remove-weighed_lists : (f : ℤ) (xs : List ℤ) (g : ℤ) (ys : List ℤ) (v : ℕ) → length xs ≡ length ys → remove (weighed_lists f xs g ys) v ≡ weighed_lists f (remove xs v) g (remove ys v)
remove-weighed_lists f [] g [] zero e = refl
remove-weighed_lists f [] g [] (suc v) e = refl
remove-weighed_lists f [] g (y ∷ ys) v e = absurd (omega arith)
remove-weighed_lists f (x ∷ xs) g [] v e = absurd (omega arith)
remove-weighed_lists f (x ∷ xs) g (y ∷ ys) zero e = refl
remove-weighed_lists f (x ∷ xs) g (y ∷ ys) (suc v) e = ap (λ zs. weighed f x g y ∷ zs) (remove-weighed_lists f xs g ys v (omega arith))

-- the value of a combination with one variable left out
pub over-combined_without : (n v : ℕ) (d f : ℤ) (a : Affine) (g : ℤ) (b : Affine) (ps : List ℤ) → v < suc n → IsWide (suc n) a → IsWide (suc n) b → value_over d (without v (combined f a g b)) ps ≡ f *ℤ value_over d (without v a) ps +ℤ g *ℤ value_over d (without v b) ps
over-combined_without n v d f a g b ps l w u =
    ap (λ cs. d *ℤ weighed f a.constant g b.constant +ℤ dot cs ps) (remove-weighed_lists f a.coefficients g b.coefficients v (w ∙ sym u))
    ∙ over-combined d f (without v a) g (without v b) ps (length-remove a.coefficients v n w l ∙ sym (length-remove b.coefficients v n u l))
