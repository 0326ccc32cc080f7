-- Strides at the spans of a window, dimension by dimension.
use Rattle.std.proofs.Common.{◌≡◌, ◌<◌, ◌≤◌, ◌&&◌, nat_lt, ℕ, zero, suc, pos, ◌+◌, Bool, true, false, List, [], ◌∷◌, ◌++◌, map, length, drop, get_or, refl, sym, ap, ap₂, ◌∙◌, arith, append_assoc, drop-cons, add-one, true≢false}
use Rattle.std.proofs.lemmas.List.{drop_all, drop-drop, map-append, length-append}
use Rattle.exo_tree.specs.Tree.{Cell, Coord, At, Span}
use Rattle.exo_tree.specs.Spans.{is_span}
use Rattle.c_tree.specs.CTree.{Number64, Literal, CellRef, WindowOf}
use Rattle.c_tree.specs.Plain.{plain_number}
use Rattle.c_tree.specs.declared.tree.CNumber.{CNumber}
use Rattle.c_lowering.specs.Made.Lowered.{or_one, at_spans}

or_one_is : (ts : List Number64) (k : ℕ) → or_one ts k ≡ get_or ts k (Literal (pos 1))
or_one_is [] k = refl
or_one_is (t ∷ ts) zero = refl
or_one_is (t ∷ ts) (suc k) = or_one_is ts k

pub stride_next : (ts : List Number64) (k : ℕ) → k < length ts → drop k ts ≡ or_one ts k ∷ drop (k + 1) ts
stride_next ts k h = drop-cons ts k (Literal (pos 1)) h ∙ ap₂ (λ t n. t ∷ drop n ts) (sym (or_one_is ts k)) (sym (add-one k))

-- ---- one coordinate

taken : (c : Coord) (t : Number64) (ts : List Number64) → is_span c ≡ true → at_spans (c ∷ []) (t ∷ ts) ≡ t ∷ []
taken (At a) t ts h = absurd (true≢false (sym h))
taken (Span a b) t ts h = refl

left_out : (c : Coord) (ts : List Number64) → is_span c ≡ false → at_spans (c ∷ []) ts ≡ []
left_out (At a) [] h = refl
left_out (At a) (t ∷ ts) h = refl
left_out (Span a b) ts h = absurd (true≢false h)

none_there : (c : Coord) (ts : List Number64) → ts ≡ [] → at_spans (c ∷ []) ts ≡ []
none_there c ts e = ap (at_spans (c ∷ [])) e

below_is : (a b : ℕ) → nat_lt a b ≡ true → a < b
below_is a b h = grind arith

not_below_is : (a b : ℕ) → nat_lt a b ≡ false → b ≤ a
not_below_is a b h = grind arith

pub span_here : (c : Coord) (ts : List Number64) (k n : ℕ) (b : Bool) → n ≡ length ts → b ≡ (is_span c && nat_lt k n) → b ≡ true → at_spans (c ∷ []) (drop k ts) ≡ or_one ts k ∷ []
span_here c ts k n b count is on = go (is_span c) refl (sym is ∙ on)
  where
    go : (s : Bool) → is_span c ≡ s → (s && nat_lt k n) ≡ true → at_spans (c ∷ []) (drop k ts) ≡ or_one ts k ∷ []
    go true e h = ap (at_spans (c ∷ [])) (stride_next ts k (omega (arith, below_is k n h, count))) ∙ taken c (or_one ts k) (drop (k + 1) ts) e
    go false e h = absurd (true≢false (sym h))

pub no_span_here : (c : Coord) (ts : List Number64) (k n : ℕ) (b : Bool) → n ≡ length ts → b ≡ (is_span c && nat_lt k n) → b ≡ false → at_spans (c ∷ []) (drop k ts) ≡ []
no_span_here c ts k n b count is off = go (is_span c) refl (sym is ∙ off)
  where
    go : (s : Bool) → is_span c ≡ s → (s && nat_lt k n) ≡ false → at_spans (c ∷ []) (drop k ts) ≡ []
    go true e h = none_there c (drop k ts) (drop_all k ts (omega (arith, not_below_is k n h, count)))
    go false e h = left_out c (drop k ts) e

-- ---- a coordinate more

first_then : (c : Coord) (cs : List Coord) (ts : List Number64) → at_spans (c ∷ cs) ts ≡ at_spans (c ∷ []) ts ++ at_spans cs (drop 1 ts)
first_then c [] [] = refl
first_then c (d ∷ cs) [] = refl
first_then (At a) cs (t ∷ ts) = refl
first_then (Span a b) cs (t ∷ ts) = refl

pub spans_next : (c : Coord) (cs all : List Coord) (ts : List Number64) (k : ℕ) → all ≡ c ∷ cs → at_spans all (drop k ts) ≡ at_spans (c ∷ []) (drop k ts) ++ at_spans cs (drop (k + 1) ts)
spans_next c cs all ts k e =
    ap (λ l. at_spans l (drop k ts)) e
    ∙ first_then c cs (drop k ts)
    ∙ ap (λ l. at_spans (c ∷ []) (drop k ts) ++ at_spans cs l) (drop-drop 1 k ts)

-- what is made, and then the strides of what is left
pub spans_more : (made more : List Number64) (c : Coord) (cs all : List Coord) (ts : List Number64) (k : ℕ) (whole : List Number64) → all ≡ c ∷ cs → more ≡ made ++ at_spans (c ∷ []) (drop k ts) → made ++ at_spans all (drop k ts) ≡ whole → more ++ at_spans cs (drop (k + 1) ts) ≡ whole
spans_more made more c cs all ts k whole e pushed so_far =
    ap (λ l. l ++ at_spans cs (drop (k + 1) ts)) pushed
    ∙ append_assoc made (at_spans (c ∷ []) (drop k ts)) (at_spans cs (drop (k + 1) ts))
    ∙ ap (λ l. made ++ l) (sym (spans_next c cs all ts k e))
    ∙ so_far

-- how many there are
pub spans_counted : (count more : ℕ) (c : Coord) (cs all : List Coord) (ts : List Number64) (k whole : ℕ) → all ≡ c ∷ cs → more ≡ count + length (at_spans (c ∷ []) (drop k ts)) → count + length (at_spans all (drop k ts)) ≡ whole → more + length (at_spans cs (drop (k + 1) ts)) ≡ whole
spans_counted count more c cs all ts k whole e counted so_far =
    let parts : length (at_spans all (drop k ts)) ≡ length (at_spans (c ∷ []) (drop k ts)) + length (at_spans cs (drop (k + 1) ts)) = ap length (spans_next c cs all ts k e) ∙ length-append (at_spans (c ∷ []) (drop k ts)) (at_spans cs (drop (k + 1) ts)) in
    omega (arith, parts, counted, so_far)

-- the stride of a coordinate goes behind the others
pub stride_put : (old new : List CNumber) (n : CNumber) (c : Coord) (ts : List Number64) (k count : ℕ) (b : Bool) → count ≡ length ts → b ≡ (is_span c && nat_lt k count) → b ≡ true → plain_number n ≡ or_one ts k → new ≡ old ++ n ∷ [] → map plain_number new ≡ map plain_number old ++ at_spans (c ∷ []) (drop k ts)
stride_put old new n c ts k count b counted is on value pushed =
    ap (map plain_number) pushed
    ∙ map-append plain_number old (n ∷ [])
    ∙ ap (λ l. map plain_number old ++ l) (ap (λ t. t ∷ []) value ∙ sym (span_here c ts k count b counted is on))

-- a window by its parts
pub window_same : (cell : Cell) (first ref : CellRef) (ts us : List Number64) → first ≡ ref → ts ≡ us → WindowOf (length ts) cell first ts ≡ WindowOf (length us) cell ref us
window_same cell first ref ts us f g = λ i. WindowOf (length (g i)) cell (f i) (g i)
