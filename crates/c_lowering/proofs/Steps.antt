-- Offsets in windows, index by index.
use Rattle.std.proofs.Common.{◌≡◌, ◌<◌, ◌≤◌, ℕ, pos, ◌+◌, ◌-◌, List, [], ◌∷◌, refl, sym, ap, ap₂, ◌∙◌, arith}
use Rattle.c_tree.specs.CTree.{Name, Number64, Literal, StrideIn, Sum, Product}
use Rattle.c_lowering.specs.Made.Lowered.{window_strides, scaled, scaled_from}
use Rattle.c_lowering.proofs.Offsets.{strides_from, no_strides_from}

ends : (a : Number64) (es ts : List Number64) → ts ≡ [] → a ≡ scaled_from a es ts
ends a [] ts e = refl
ends a (x ∷ es) ts e = ap (scaled_from a (x ∷ es)) (sym e)

-- there is no further dimension
pub no_step : (a : Number64) (es : List Number64) (w : Name) (k rank : ℕ) → rank ≤ k → a ≡ scaled_from a es (window_strides w k (rank - k))
no_step a es w k rank h = ends a es (window_strides w k (rank - k)) (no_strides_from w k rank h)

-- one index more
pub step_more : (a more whole e : Number64) (es rest : List Number64) (w : Name) (k rank : ℕ) → k < rank → es ≡ e ∷ rest → more ≡ Sum a (Product e (StrideIn w k)) → whole ≡ scaled_from more rest (window_strides w (k + 1) (rank - (k + 1))) → whole ≡ scaled_from a es (window_strides w k (rank - k))
step_more a more whole e es rest w k rank h is next all =
    all
    ∙ ap (λ n. scaled_from n rest (window_strides w (k + 1) (rank - (k + 1)))) next
    ∙ sym (ap₂ (λ l ts. scaled_from a l ts) is (strides_from w k rank h))

-- the first index
pub first_step : (first whole e : Number64) (es rest : List Number64) (w : Name) (rank : ℕ) → 0 < rank → es ≡ e ∷ rest → first ≡ Product e (StrideIn w 0) → whole ≡ scaled_from first rest (window_strides w 1 (rank - 1)) → whole ≡ scaled es (window_strides w 0 rank)
first_step first whole e es rest w rank h is next all =
    all
    ∙ ap (λ n. scaled_from n rest (window_strides w 1 (rank - 1))) next
    ∙ sym (ap₂ (λ l ts. scaled l ts) is (ap (window_strides w 0) whole_rank ∙ strides_from w 0 rank h))
  where
    whole_rank : rank ≡ rank - 0
    whole_rank = omega arith

pub no_first : (es : List Number64) (w : Name) (rank : ℕ) → rank ≡ 0 → Literal (pos 0) ≡ scaled es (window_strides w 0 rank)
no_first [] w rank e = refl
no_first (x ∷ es) w rank e = ap (λ n. scaled (x ∷ es) (window_strides w 0 n)) (sym e)
