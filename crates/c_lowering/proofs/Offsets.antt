-- Dimensions, strides and the offsets over them.
use Rattle.std.proofs.Common.{◌≡◌, ◌<◌, ◌≤◌, ℕ, zero, suc, pos, ◌+◌, ◌-◌, List, [], ◌∷◌, map, length, take, drop, replicate, refl, sym, ap, ap₂, ◌∙◌, add-one, arith}
use Rattle.std.proofs.lemmas.List.{drop-map, take_rest}
use Rattle.exo_tree.specs.Tree.{Cell, Control, Lit}
use Rattle.exo_tree.specs.PlainControl.{control}
use Rattle.exo_tree.specs.declared.control.Ctrl.{Ctrl}
use Rattle.c_tree.specs.CTree.{Name, Number64, Literal, StrideIn}
use Rattle.c_lowering.specs.Made.Lowered.{Naming, TensorForm, WindowForm, number_with, numbers_with}
use Rattle.c_lowering.specs.Made.Lowered.{dims_of, strides_in, product_of, row_strides}
use Rattle.c_lowering.specs.Made.Lowered.{window_strides, or_one, offset, front, without_lanes}
use Rattle.c_lowering.specs.Made.Lowered.{zeros}
use Rattle.c_lowering.specs.Behind.{offset_behind}

-- ---- dimensions behind one

pub later_part : (xs : List Ctrl) (k : ℕ) → map control (take (length xs - (k + 1)) (drop (k + 1) xs)) ≡ drop (k + 1) (map control xs)
later_part xs k = ap (map control) (take_rest xs (k + 1)) ∙ sym (drop-map control (k + 1) xs)

stride_after : (naming : Naming) (dims : List Control) (k : ℕ) → product_of (dims_of naming (drop (suc k) dims)) ≡ or_one (row_strides (dims_of naming dims)) k
stride_after naming [] k = refl
stride_after naming (d ∷ ds) zero = refl
stride_after naming (d ∷ ds) (suc k) = stride_after naming ds k

-- the stride of a buffer's dimension is the product of the later ones
pub stride_is : (naming : Naming) (dims later all : List Control) (k : ℕ) → later ≡ drop (k + 1) all → all ≡ dims → product_of (dims_of naming later) ≡ or_one (row_strides (dims_of naming dims)) k
stride_is naming dims later all k e f =
    ap (λ l. product_of (dims_of naming l)) (e ∙ ap (drop (k + 1)) f ∙ ap (λ n. drop n dims) (add-one k)) ∙ stride_after naming dims k

-- ---- strides of windows

window_stride_at : (w : Name) (a rank k : ℕ) → k < rank → StrideIn w (a + k) ≡ or_one (window_strides w a rank) k
window_stride_at w a zero k h = absurd (omega (arith, h))
window_stride_at w a (suc n) zero h = ap (StrideIn w) (omega arith)
window_stride_at w a (suc n) (suc k) h = ap (StrideIn w) (omega arith) ∙ window_stride_at w (suc a) n k (omega (arith, h))

pub window_stride_is : (w : Name) (rank k : ℕ) → k < rank → StrideIn w k ≡ or_one (window_strides w 0 rank) k
window_stride_is w rank k h = ap (StrideIn w) (omega arith) ∙ window_stride_at w 0 rank k h

no_stride_at : (w : Name) (a rank k : ℕ) → rank ≤ k → Literal (pos 1) ≡ or_one (window_strides w a rank) k
no_stride_at w a zero k h = refl
no_stride_at w a (suc n) zero h = absurd (omega (arith, h))
no_stride_at w a (suc n) (suc k) h = no_stride_at w (suc a) n k (omega (arith, h))

pub no_window_stride : (w : Name) (rank k : ℕ) → rank ≤ k → Literal (pos 1) ≡ or_one (window_strides w 0 rank) k
no_window_stride w rank k h = no_stride_at w 0 rank k h

-- the strides from one on
pub strides_from : (w : Name) (k rank : ℕ) → k < rank → window_strides w k (rank - k) ≡ StrideIn w k ∷ window_strides w (k + 1) (rank - (k + 1))
strides_from w k rank h =
    let n : rank - k ≡ suc (rank - (k + 1)) = omega (arith, h) in
    ap (window_strides w k) n ∙ ap (λ j. StrideIn w k ∷ window_strides w j (rank - (k + 1))) (sym (add-one k))

pub no_strides_from : (w : Name) (k rank : ℕ) → rank ≤ k → window_strides w k (rank - k) ≡ []
no_strides_from w k rank h = let n : rank - k ≡ 0 = omega (arith, h) in ap (window_strides w k) n

-- ---- offsets

dims_after : (naming : Naming) (strides : ℕ → ℕ → Number64) (dims : List Control) → numbers_with naming strides (drop 1 dims) ≡ drop 1 (numbers_with naming strides dims)
dims_after naming strides [] = refl
dims_after naming strides (d ∷ ds) = refl

behind_first : (es ds : List Number64) → offset_behind es (drop 1 ds) ≡ offset es ds
behind_first [] ds = refl
behind_first (e ∷ es) ds = refl

front_of_numbers : (naming : Naming) (strides : ℕ → ℕ → Number64) (is : List Control) → numbers_with naming strides (front is) ≡ front (numbers_with naming strides is)
front_of_numbers naming strides [] = refl
front_of_numbers naming strides (i ∷ []) = refl
front_of_numbers naming strides (i ∷ (j ∷ rest)) = ap (λ es. number_with naming strides i ∷ es) (front_of_numbers naming strides (j ∷ rest))

-- the C of all but the last is all but the last of the C
pub own_numbers : (naming : Naming) (strides : ℕ → ℕ → Number64) (lanes : ℕ) (is : List Control) → numbers_with naming strides (without_lanes lanes is) ≡ without_lanes lanes (numbers_with naming strides is)
own_numbers naming strides zero is = refl
own_numbers naming strides (suc n) is = front_of_numbers naming strides is

-- the first dimension is passed over
pub offset_is : (naming : Naming) (strides : ℕ → ℕ → Number64) (lanes : ℕ) (is own_is all_is dims own_dims all_dims later : List Control) → own_is ≡ without_lanes lanes all_is → all_is ≡ is → later ≡ drop 1 own_dims → own_dims ≡ without_lanes lanes all_dims → all_dims ≡ dims → offset_behind (numbers_with naming strides own_is) (dims_of naming later) ≡ offset (without_lanes lanes (numbers_with naming strides is)) (without_lanes lanes (dims_of naming dims))
offset_is naming strides lanes is own_is all_is dims own_dims all_dims later e f g h k =
    let indices : numbers_with naming strides own_is ≡ without_lanes lanes (numbers_with naming strides is) = ap (numbers_with naming strides) (e ∙ ap (without_lanes lanes) f) ∙ own_numbers naming strides lanes is in
    let extents : dims_of naming own_dims ≡ without_lanes lanes (dims_of naming dims) = ap (dims_of naming) (h ∙ ap (without_lanes lanes) k) ∙ own_numbers naming (λ x j. Literal (pos 1)) lanes dims in
    ap₂ (λ i l. offset_behind i (dims_of naming l)) indices g
    ∙ ap (offset_behind (without_lanes lanes (numbers_with naming strides is))) (dims_after naming (λ x j. Literal (pos 1)) own_dims ∙ ap (drop 1) extents)
    ∙ behind_first (without_lanes lanes (numbers_with naming strides is)) (without_lanes lanes (dims_of naming dims))

-- ---- all but the last of a list

pub front_is : (xs : List Ctrl) → map control (take (length xs - 1) xs) ≡ front (map control xs)
front_is [] = refl
front_is (x ∷ []) = refl
front_is (x ∷ (y ∷ rest)) =
    let n : length (x ∷ (y ∷ rest)) - 1 ≡ suc (length (y ∷ rest) - 1) = omega arith in
    ap (λ m. map control (take m (x ∷ (y ∷ rest)))) n ∙ ap (λ ys. control x ∷ ys) (front_is (y ∷ rest))

pub own_all : (xs : List Ctrl) (lanes : ℕ) → lanes ≡ 0 → map control xs ≡ without_lanes lanes (map control xs)
own_all xs lanes h = ap (λ n. without_lanes n (map control xs)) (sym h)

pub own_front : (xs : List Control) (lanes : ℕ) → (lanes ≡ 0 → ⊥) → front xs ≡ without_lanes lanes xs
own_front xs zero h = absurd (h refl)
own_front xs (suc n) h = refl

-- ---- how many strides there are

tensor_count : (naming : Naming) (dims : List Control) → length dims ≡ length (row_strides (dims_of naming dims))
tensor_count naming [] = refl
tensor_count naming (d ∷ ds) = ap suc (tensor_count naming ds)

pub tensor_strides : (naming : Naming) (x : ℕ) (cell : Cell) (dims : List Control) (lanes : ℕ) → length dims ≡ length (strides_in naming x (TensorForm cell dims lanes))
tensor_strides naming x cell dims lanes = tensor_count naming dims

window_count : (w : Name) (k rank : ℕ) → rank ≡ length (window_strides w k rank)
window_count w k zero = refl
window_count w k (suc n) = ap suc (window_count w (suc k) n)

pub window_rank : (naming : Naming) (x : ℕ) (cell : Cell) (rank : ℕ) → rank ≡ length (strides_in naming x (WindowForm cell rank))
window_rank naming x cell rank = window_count (naming.binder x) 0 rank

-- ---- indices 0

pub zero_numbers : (naming : Naming) (strides : ℕ → ℕ → Number64) (ts : List Number64) (n : ℕ) → n ≡ length ts → numbers_with naming strides (replicate n (Lit (pos 0))) ≡ zeros ts
zero_numbers naming strides [] zero h = refl
zero_numbers naming strides [] (suc n) h = absurd (omega (arith, h))
zero_numbers naming strides (t ∷ ts) zero h = absurd (omega (arith, h))
zero_numbers naming strides (t ∷ ts) (suc n) h = ap (λ es. Literal (pos 0) ∷ es) (zero_numbers naming strides ts n (omega (arith, h)))
