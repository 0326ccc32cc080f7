-- What names in scope stand for in the C.
use Rattle.std.proofs.Common.{◌≡◌, ◌==◌, ℕ, zero, suc, Bool, true, false, cond, List, [], ◌∷◌, length, Option, Some, None, refl, sym, ap, ◌∙◌, subst, arith, true≢false, eqb-true, ◌⊎◌, inl, inr}
use Rattle.exo_tree.specs.Tree.{Cell, Kind, Binder, Control, Coord, At, Span}
use Rattle.exo_meaning.specs.Scene.{updated}
use Rattle.exo_meaning.specs.Units.{Sort, ControlName, BufferName, Scope, sort_in, with_name, is_number, is_flag, has_rank, has_dimension, has_cell, is_dense, spans}
use Rattle.exo_tree.specs.Cells.{same_cell_is}
use Rattle.memory_kinds.specs.Homes.{Homes}
use Rattle.c_lowering.specs.Made.Lowered.{Naming, Form, NoForm, NumberForm, TensorForm, WindowForm}
use Rattle.c_lowering.specs.Made.Lowered.{Forms}
use Rattle.c_unit_laws.specs.Follows.Good.{HasStride, EndsInSpan, EndsInLanes}

-- the lanes of the memory that a name stands in
abbrev pub lanes_in : Naming → Homes → ℕ → ℕ
lanes_in naming home x = (naming.memory (home x)).lanes

-- A name stands for what its sort says: a number, a dense tensor, or a window, which has no lanes.
abbrev pub Stands : ℕ → Option Sort → Form → Type 0
Stands lanes None f = f ≡ NoForm
Stands lanes (Some (ControlName kind)) f = f ≡ NumberForm
Stands lanes (Some (BufferName cell rank true)) f =
    (dims : List Control) × (f ≡ TensorForm cell dims lanes) × (length dims ≡ rank) × EndsInLanes lanes dims
Stands lanes (Some (BufferName cell rank false)) f = (f ≡ WindowForm cell rank) × (lanes ≡ 0)

abbrev pub Fits : (ℕ → ℕ) → Scope → Forms → Type 0
Fits lanes scope forms = (x : ℕ) → Stands (lanes x) (sort_in scope x) (forms x)

-- ---- a name more

pub wider : (naming : Naming) (home : Homes) (scope : Scope) (forms : Forms) (i : Binder) (sort : Sort) (form : Form) (memory : ℕ)
    → Fits (lanes_in naming home) scope forms → Stands (naming.memory memory).lanes (Some sort) form
    → Fits (lanes_in naming (updated home i.id memory)) (with_name scope i sort) (updated forms i.id form)
wider naming home scope forms i sort form memory stand h x = go (x == i.id)
  where
    go : (t : Bool) → Stands (naming.memory (cond t memory (home x))).lanes (cond t (Some sort) (sort_in scope x)) (cond t form (forms x))
    go true = h
    go false = stand x

-- numbers stand in no memory
pub wider_number : (lanes : ℕ → ℕ) (scope : Scope) (forms : Forms) (i : Binder) (kind : Kind) → Fits lanes scope forms
    → Fits lanes (with_name scope i (ControlName kind)) (updated forms i.id NumberForm)
wider_number lanes scope forms i kind stand x = go (x == i.id)
  where
    go : (t : Bool) → Stands (lanes x) (cond t (Some (ControlName kind)) (sort_in scope x)) (cond t NumberForm (forms x))
    go true = refl
    go false = stand x

-- ---- numbers and flags

pub number_form : (l : ℕ) (o : Option Sort) (f : Form) → Stands l o f → is_number o ≡ true → f ≡ NumberForm
number_form l None f h k = absurd (true≢false (sym k))
number_form l (Some (ControlName kind)) f h k = h
number_form l (Some (BufferName cell rank dense)) f h k = absurd (true≢false (sym k))

pub flag_form : (l : ℕ) (o : Option Sort) (f : Form) → Stands l o f → is_flag o ≡ true → f ≡ NumberForm
flag_form l None f h k = absurd (true≢false (sym k))
flag_form l (Some (ControlName kind)) f h k = h
flag_form l (Some (BufferName cell rank dense)) f h k = absurd (true≢false (sym k))

-- ---- buffers

-- a buffer of that type and rank, by its form alone
abbrev pub IsForm : Form → Cell → ℕ → ℕ → Type 0
IsForm f cell rank lanes =
    ((f ≡ WindowForm cell rank) × (lanes ≡ 0))
    ⊎ ((dims : List Control) × (f ≡ TensorForm cell dims lanes) × (length dims ≡ rank))

pub form_by : (l : ℕ) (cell : Cell) (rank : ℕ) (dense : Bool) (f : Form) → Stands l (Some (BufferName cell rank dense)) f → IsForm f cell rank l
form_by l cell rank true f h = inr (h.0, h.1, h.2)
form_by l cell rank false f h = inl h

pub buffer_form : (l : ℕ) (o : Option Sort) (f : Form) (n : ℕ) → Stands l o f → has_rank n o ≡ true → (cell : Cell) × IsForm f cell n l
buffer_form l None f n h k = absurd (true≢false (sym k))
buffer_form l (Some (ControlName kind)) f n h k = absurd (true≢false (sym k))
buffer_form l (Some (BufferName cell rank dense)) f n h k =
    (cell, subst (λ r. IsForm f cell r l) (sym (eqb-true n rank k)) (form_by l cell rank dense f h))

-- of a type
pub typed_form : (l : ℕ) (o : Option Sort) (f : Form) (cell : Cell) (n : ℕ) → Stands l o f → has_cell cell o ≡ true → has_rank n o ≡ true → IsForm f cell n l
typed_form l None f cell n h c k = absurd (true≢false (sym k))
typed_form l (Some (ControlName kind)) f cell n h c k = absurd (true≢false (sym k))
typed_form l (Some (BufferName own rank dense)) f cell n h c k =
    subst (λ d. IsForm f d n l) (sym (same_cell_is cell own c))
    (subst (λ r. IsForm f own r l) (sym (eqb-true n rank k)) (form_by l own rank dense f h))

-- a dense one is a tensor
pub tensor_form : (l : ℕ) (o : Option Sort) (f : Form) (cell : Cell) (n : ℕ) → Stands l o f → has_cell cell o ≡ true → has_rank n o ≡ true → is_dense o ≡ true
    → (dims : List Control) × (f ≡ TensorForm cell dims l) × (length dims ≡ n)
tensor_form l None f cell n h c k d = absurd (true≢false (sym k))
tensor_form l (Some (ControlName kind)) f cell n h c k d = absurd (true≢false (sym k))
tensor_form l (Some (BufferName own rank false)) f cell n h c k d = absurd (true≢false (sym d))
tensor_form l (Some (BufferName own rank true)) f cell n h c k d =
    (h.0, h.1 ∙ ap (λ z. TensorForm z h.0 l) (sym (same_cell_is cell own c)), h.2 ∙ sym (eqb-true n rank k))

-- one without dimensions has no lanes
pub no_lanes : (l : ℕ) (o : Option Sort) (f : Form) → Stands l o f → has_rank 0 o ≡ true → l ≡ 0
no_lanes l None f h k = absurd (true≢false (sym k))
no_lanes l (Some (ControlName kind)) f h k = absurd (true≢false (sym k))
no_lanes l (Some (BufferName cell rank false)) f h k = h.1
no_lanes l (Some (BufferName cell rank true)) f h k = go l h.0 (h.2 ∙ sym (eqb-true 0 rank k)) h.3
  where
    go : (m : ℕ) (dims : List Control) → length dims ≡ 0 → EndsInLanes m dims → m ≡ 0
    go zero dims e i = refl
    go (suc m) [] e i = absurd i
    go (suc m) (d ∷ dims) e i = absurd (omega (arith, e))

pub stride_form : (forms : Forms) (x l k : ℕ) (o : Option Sort) → Stands l o (forms x) → has_dimension k o ≡ true → HasStride forms x k
stride_form forms x l k None h d = absurd (true≢false (sym d))
stride_form forms x l k (Some (ControlName kind)) h d = absurd (true≢false (sym d))
stride_form forms x l k (Some (BufferName cell rank dense)) h d = (cell, rank, l, form_by l cell rank dense (forms x) h, grind arith)

-- ---- windows

-- a window without spans has no last span of all lanes
pub no_span : (l : ℕ) (cs : List Coord) → EndsInSpan l cs → spans cs ≡ 0 → l ≡ 0
no_span zero cs h e = refl
no_span (suc l) [] h e = absurd h
no_span (suc l) (c ∷ []) h e = absurd (one (sym (ap (λ d. spans (d ∷ [])) h) ∙ e))
  where
    one : suc zero ≡ zero → ⊥
    one k = omega (arith, k)
no_span (suc l) (At a ∷ (d ∷ cs)) h e = no_span (suc l) (d ∷ cs) h e
no_span (suc l) (Span a b ∷ (d ∷ cs)) h e = absurd (omega (arith, e))
