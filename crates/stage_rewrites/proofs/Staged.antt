-- The parts of a staged block.
use Rattle.std.proofs.Common.{◌≡◌, ◌+◌, ℕ, zero, suc, Bool, true, false, not, ◌&&◌, ◌||◌, cond, List, [], ◌∷◌, ◌++◌}
use Rattle.std.proofs.Common.{length, refl, sym, ap, ap₂, ◌∙◌, pos}
use Rattle.exo_tree.specs.Tree.{Cell, Control, Var, Add, Coord, At, Span, Datum, Const, Read}
use Rattle.exo_tree.specs.Tree.{Statement, Assign, Reduce, Block, end, next, joined, block}
use Rattle.inplace_laws.specs.Filled.{nest}
use Rattle.inplace_laws.specs.Windows.{shifted}
use Rattle.affine_forms.specs.Outcomes.{IsWide}
use Rattle.affine_forms.specs.declared.error.FormError.{FormError}
use Rattle.buffer_laws.specs.Buffers.{Buffer, allocation, only_buffer}
use Rattle.buffer_laws.specs.Simplified.{all_simpler}
use Rattle.buffer_laws.specs.Staging.Stores.{spans, variables}
use Rattle.buffer_laws.specs.StageMem.{Staging, loops_over, loads, stores, spots, loading, storing}
use Rattle.buffer_laws.specs.StageMem.{on_buffer, staged_block, staging_buffer}
use Rattle.step_rules.specs.Rule.{Writing}
use Rattle.step_targets.proofs.Made.{joined_blocks}
use Rattle.alloc_laws.specs.Stage.Written.{written_as, are_written}
use Rattle.stage_rewrites.specs.Places.{variables_from, spots_from}
use Rattle.stage_rewrites.specs.Nests.{head, loaded, stored, second, taken}
use Rattle.stage_rewrites.specs.Nests.{value_loaded, spots_at, rest, load_written, store_written}
use Rattle.stage_rewrites.specs.Nests.{rest_written, stage_written}
use Rattle.stage_rewrites.proofs.Written.{wide_same, first_wide, second_wide}

-- ---- variables and cells

pub same_length : (simple : Control → Control) (es : List Control)
    → length (all_simpler simple es) ≡ length es
same_length simple [] = refl
same_length simple (e ∷ es) = ap suc (same_length simple es)

variables_are : (id k : ℕ) (es : List Control)
    → variables (loops_over id k es) ≡ variables_from id es
variables_are id k [] = refl
variables_are id k (e ∷ es) = ap (λ rest. Var id ∷ rest) (variables_are (suc id) (suc k) es)

pub spots_are : (simple : Control → Control) (id k : ℕ) (cs : List Coord)
    → shifted cs (variables (loops_over id k (all_simpler simple (spans cs)))) ≡ spots_from id cs
spots_are simple id k [] = refl
spots_are simple id k (At a ∷ cs) = ap (λ rest. a ∷ rest) (spots_are simple id k cs)
spots_are simple id k (Span a b ∷ cs) =
    ap (λ rest. Add a (Var id) ∷ rest) (spots_are simple (suc id) (suc k) cs)

-- ---- blocks

pub joined_out : (made more new : List Statement) (a b : Block) → block made ≡ a → block more ≡ b
    → new ≡ made ++ more
    → block new ≡ joined a b
joined_out made more new a b h k e = ap block e ∙ joined_blocks made more ∙ ap₂ joined h k

pub headed_out : (made more new : List Statement) (x : Buffer) (b : Block)
    → block made ≡ only_buffer x → block more ≡ b → new ≡ made ++ more
    → block new ≡ next (allocation x) b
headed_out made more new x b h k e = ap block e ∙ joined_blocks made more ∙ ap₂ joined h k

-- ---- what is loaded, and what takes it back

module _ (how : Writing) (w : Staging) (base : ℕ) where
  pub zero_loaded : w.accum ≡ true → Const (pos 0) ≡ value_loaded how w base
  zero_loaded h =
      sym (ap (λ (b : Bool). cond b (Const (pos 0)) (Read w.root (spots_at how w base (suc base)))) h)

  pub zero_fits : w.accum ≡ true → load_written how w base ≡ true
  zero_fits h = ap (λ (b : Bool). b || are_written how (spots_from (suc base) w.coords)) h

  module _ (first : ℕ) (is : first ≡ suc base) where
    pub cell_loaded : (at : List Control) → w.accum ≡ false → at ≡ spots_at how w base first
        → Read w.root at ≡ value_loaded how w base
    cell_loaded at h k =
        ap (Read w.root) (k ∙ ap (spots_at how w base) is)
        ∙ sym (ap (λ (b : Bool). cond b (Const (pos 0)) (Read w.root (spots_at how w base (suc base)))) h)

    cell_same : w.accum ≡ false
        → load_written how w base ≡ are_written how (spots_from first w.coords)
    cell_same h =
        ap (λ (b : Bool). b || are_written how (spots_from (suc base) w.coords)) h
        ∙ ap (λ (n : ℕ). are_written how (spots_from n w.coords)) (sym is)

    pub cell_fits : w.accum ≡ false → are_written how (spots_from first w.coords) ≡ true
        → load_written how w base ≡ true
    cell_fits h k = cell_same h ∙ k

    pub cell_wide : (x y : FormError) → x ≡ y → w.accum ≡ false
        → IsWide y (are_written how (spots_from first w.coords))
        → IsWide x (load_written how w base)
    cell_wide x y same h =
        wide_same x y (are_written how (spots_from first w.coords)) (load_written how w base) same
        (cell_same h)

  module _ (first : ℕ) (at : List Control) (value : Datum) (is : at ≡ spots_at how w base first) where
    pub sum_taken : w.accum ≡ true → Reduce w.root at value ≡ taken how w base first value
    sum_taken h =
        ap (λ (es : List Control). Reduce w.root es value) is
        ∙ sym (ap (λ (b : Bool). cond b (Reduce w.root (spots_at how w base first) value)
        (Assign w.root (spots_at how w base first) value)) h)

    pub cell_taken : w.accum ≡ false → Assign w.root at value ≡ taken how w base first value
    cell_taken h =
        ap (λ (es : List Control). Assign w.root es value) is
        ∙ sym (ap (λ (b : Bool). cond b (Reduce w.root (spots_at how w base first) value)
        (Assign w.root (spots_at how w base first) value)) h)

-- ---- the nests

module _ (how : Writing) (w : Staging) (base : ℕ) (es : List Control) where
  pub loaded_out : (first : ℕ) (at : List Control) (value : Datum) (b : Block) → first ≡ suc base
      → at ≡ variables_from first es → value ≡ value_loaded how w base
      → b ≡ nest (loops_over first zero es) (Assign base at value)
      → b ≡ loaded how w base es
  loaded_out first at value b h k l m =
      m
      ∙ ap₂ (λ is v. nest (loops_over first zero es) (Assign base is v)) k l
      ∙ ap (λ (n : ℕ). nest (loops_over n zero es)
      (Assign base (variables_from n es) (value_loaded how w base))) h

  pub stored_out : (n first : ℕ) (at : List Control) (value : Datum) (a : Statement) (b : Block)
      → n ≡ length es → first ≡ suc (base + n) → at ≡ variables_from first es → value ≡ Read base at
      → a ≡ taken how w base first value
      → b ≡ nest (loops_over first zero es) a
      → b ≡ stored how w base es
  stored_out n first at value a b h k l v m o =
      o
      ∙ ap (nest (loops_over first zero es)) m
      ∙ ap (λ (d : Datum). nest (loops_over first zero es) (taken how w base first d)) (v ∙ ap (Read base) l)
      ∙ ap (λ (i : ℕ). nest (loops_over i zero es) (taken how w base i (Read base (variables_from i es))))
      (k ∙ ap (λ (j : ℕ). suc (base + j)) h)

  store_same : (n first : ℕ) → n ≡ length es → first ≡ suc (base + n)
      → store_written how w base es ≡ are_written how (spots_from first w.coords)
  store_same n first h k =
      ap (λ (i : ℕ). are_written how (spots_from i w.coords)) (sym (k ∙ ap (λ (j : ℕ). suc (base + j)) h))

  pub store_fits : (n first : ℕ) → n ≡ length es → first ≡ suc (base + n)
      → are_written how (spots_from first w.coords) ≡ true
      → store_written how w base es ≡ true
  store_fits n first h k l = store_same n first h k ∙ l

  pub store_wide : (x y : FormError) (n first : ℕ) → x ≡ y → n ≡ length es → first ≡ suc (base + n)
      → IsWide y (are_written how (spots_from first w.coords))
      → IsWide x (store_written how w base es)
  store_wide x y n first same h k =
      wide_same x y (are_written how (spots_from first w.coords)) (store_written how w base es) same
      (store_same n first h k)

  module _ (writes : Bool) where
    pub nothing_stored : (ss : List Statement) → writes ≡ false → ss ≡ []
        → block ss ≡ cond writes (stored how w base es) end
    nothing_stored ss h k = ap block k ∙ sym (ap (λ (b : Bool). cond b (stored how w base es) end) h)

    pub nothing_fits : writes ≡ false → (not writes || store_written how w base es) ≡ true
    nothing_fits h = ap (λ (b : Bool). not b || store_written how w base es) h

    pub nest_stored : (c : Block) → writes ≡ true → c ≡ stored how w base es
        → c ≡ cond writes (stored how w base es) end
    nest_stored c h k = k ∙ sym (ap (λ (b : Bool). cond b (stored how w base es) end) h)

    nest_same : writes ≡ true
        → (not writes || store_written how w base es) ≡ store_written how w base es
    nest_same h = ap (λ (b : Bool). not b || store_written how w base es) h

    pub nest_fits : writes ≡ true → store_written how w base es ≡ true
        → (not writes || store_written how w base es) ≡ true
    nest_fits h k = nest_same h ∙ k

    pub nest_wide : (x y : FormError) → x ≡ y → writes ≡ true
        → IsWide y (store_written how w base es)
        → IsWide x (not writes || store_written how w base es)
    nest_wide x y same h =
        wide_same x y (store_written how w base es) (not writes || store_written how w base es) same
        (nest_same h)

-- ---- the whole

module _ (how : Writing) (w : Staging) (base : ℕ) (writes : Bool) (b : Block) where
  abbrev sizes_fit : Bool
  sizes_fit = are_written how (spans w.coords)

  abbrev rest_fits : List Control → Bool
  rest_fits es = rest_written how w base writes es b

  pub head_wide : (x y : FormError) → x ≡ y → sizes_fit ≡ true → IsWide y (load_written how w base)
      → IsWide x (stage_written how w base writes b)
  head_wide x y same h k =
      second_wide x y sizes_fit
      (load_written how w base && rest_fits (all_simpler (written_as how) (spans w.coords))) same h
      (first_wide y y (load_written how w base)
      (rest_fits (all_simpler (written_as how) (spans w.coords))) refl k)

  module _ (es : List Control) (is : es ≡ all_simpler (written_as how) (spans w.coords))
      (sized : sizes_fit ≡ true) (loads_fit : load_written how w base ≡ true) where
    all_same : stage_written how w base writes b ≡ rest_fits es
    all_same =
        ap₂ (λ p q. p && (q && rest_fits (all_simpler (written_as how) (spans w.coords)))) sized loads_fit
        ∙ ap rest_fits (sym is)

    pub stage_fits : rest_written how w base writes es b ≡ true
        → stage_written how w base writes b ≡ true
    stage_fits h = all_same ∙ h

    pub rest_wide : (x y : FormError) → x ≡ y → IsWide y (rest_written how w base writes es b)
        → IsWide x (stage_written how w base writes b)
    rest_wide x y same =
        wide_same x y (rest_fits es) (stage_written how w base writes b) same all_same

module _ (how : Writing) (w : Staging) (cell : Cell) (base : ℕ) where
  abbrev simple : Control → Control
  simple = written_as how

  abbrev sizes : List Control
  sizes = all_simpler simple (spans w.coords)

  cells_are : (id : ℕ)
      → spots simple w cell 0 base (loops_over id zero sizes)
      ≡ all_simpler simple (spots_from id w.coords)
  cells_are id = ap (all_simpler simple) (spots_are simple id zero w.coords)

  loading_is : Assign base (variables_from (suc base) sizes) (value_loaded how w base)
      ≡ loading simple w cell 0 base
  loading_is =
      sym (ap₂ (λ at is. Assign base at (cond w.accum (Const (pos 0)) (Read w.root is)))
      (variables_are (suc base) zero sizes) (cells_are (suc base)))

  loaded_is : loaded how w base sizes ≡ nest (loads simple w cell 0 base) (loading simple w cell 0 base)
  loaded_is = ap (nest (loops_over (suc base) zero sizes)) loading_is

  storing_is : taken how w base (second how w base sizes)
      (Read base (variables_from (second how w base sizes) sizes))
      ≡ storing simple w cell 0 base
  storing_is =
      sym (ap₂ (λ at is. cond w.accum (Reduce w.root is (Read base at)) (Assign w.root is (Read base at)))
      (variables_are (second how w base sizes) zero sizes) (cells_are (second how w base sizes)))

  stored_is : stored how w base sizes ≡ nest (stores simple w cell 0 base) (storing simple w cell 0 base)
  stored_is = ap (nest (loops_over (second how w base sizes) zero sizes)) storing_is

  head_is : head how w base cell sizes
      ≡ next (allocation (staging_buffer simple w cell 0 base))
      (nest (loads simple w cell 0 base) (loading simple w cell 0 base))
  head_is = ap (next (allocation (staging_buffer simple w cell 0 base))) loaded_is

  module _ (writes : Bool) (b : Block) where
    staged_is : joined (head how w base cell sizes) (rest how w base writes sizes b)
        ≡ staged_block simple w cell 0 base writes b
    staged_is =
        let p = head_is in
        let q = stored_is in
        λ j. joined (p j) (joined (on_buffer simple w cell 0 base b) (cond writes (q j) end))

    pub staged_out : (es : List Control) (made more new : List Statement) → es ≡ sizes
        → block made ≡ head how w base cell es → block more ≡ rest how w base writes es b
        → new ≡ made ++ more
        → block new ≡ staged_block simple w cell 0 base writes b
    staged_out es made more new is h k e =
        joined_out made more new (head how w base cell es) (rest how w base writes es b) h k e
        ∙ ap (λ (ds : List Control). joined (head how w base cell ds) (rest how w base writes ds b)) is
        ∙ staged_is
