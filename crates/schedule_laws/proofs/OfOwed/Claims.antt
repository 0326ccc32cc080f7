-- The claims of a procedure that calls the first procedures alone, whatever comes behind them.
use Rattle.std.proofs.Common.{◌≡◌, ◌||◌, ◌++◌, ℕ, suc, pos, Bool, true, List, [], ◌∷◌, map, length}
use Rattle.std.proofs.Common.{Option, None, Some, refl, ◌∙◌}
use Rattle.std.specs.Prelude.{flat_map, nat_lt, slice_get}
use Rattle.std.proofs.lemmas.Bool.{and_parts}
use Rattle.exo_tree.specs.Tree.{Kind, Size, Index, Truth, Stride, Control, Lit, Condition, Le, Lt, Eq, Datum, Const}
use Rattle.exo_tree.specs.Tree.{Read, Negated, Relu, Plus, Minus, Times, Select, Coord, At, Span, Argument, ControlArg}
use Rattle.exo_tree.specs.Tree.{ConditionArg, Whole, Window, Statement, Assign, Reduce, Config, Pass, If, For, Alloc}
use Rattle.exo_tree.specs.Tree.{View, Call, Block, end, next, ControlParam, TensorParam, WindowParam, Param}
use Rattle.exo_tree.specs.Tree.{Procedure, Program}
use Rattle.exo_tree.specs.Places.{Branch, Main, Else, Path, path_below}
use Rattle.exo_meaning.specs.Run.{kinds_of}
use Rattle.exo_meaning.specs.Modes.{Writing, Reducing}
use Rattle.exo_meaning.specs.Units.{field_kind}
use Rattle.meaning_laws.specs.Grown.{calls_below, step_calls_below}
use Rattle.affine_places.specs.Roots.{Roots, roots_of}
use Rattle.text_show.specs.Layout.{Text}
use Rattle.text_show.specs.Words.{Words, callee_name, words_of}
use Rattle.check_claims.specs.Pairs.{flat_zip}
use Rattle.check_claims.specs.Claim.{Claim, Is}
use Rattle.check_claims.specs.Extents.{Extents, dims_of, extents_of}
use Rattle.check_claims.specs.Arguments.{control_under, condition_under}
use Rattle.check_claims.specs.Claims.{asserted, pair_claims, written_by, as_shown, at_least_one}
use Rattle.check_claims.specs.Claims.{one_index, index_claims, coord_claims, window_claims, read_claims, store_claims}
use Rattle.check_claims.specs.Claims.{argument_window, given_claims, argument_size, argument_extents, equal_extents}
use Rattle.check_claims.specs.Claims.{passed_extents, call_claims, write_claims, own_claims, placed_at}
use Rattle.check_claims.specs.Claims.{block_claims, inner_claims, param_claims, claims_of}
use Rattle.schedule_laws.proofs.OfOwed.Texts.{other, condition_same}
use Rattle.schedule_laws.proofs.OfOwed.Tables.{get_same, modes_same}

-- ---- under other names of procedures

module _ (w : Words) (callee : ℕ → Text) where
  abbrev v : Words
  v = other w callee

  shown_same : (c : Condition) → as_shown v c ≡ as_shown w c
  shown_same c = λ i. Is c (condition_same w callee c i)

  positive_same : (d : Control) → at_least_one v d ≡ at_least_one w d
  positive_same d = shown_same (Le (Lit (pos 1)) d)

  index_same : (e d : Control) → one_index v e d ≡ one_index w e d
  index_same e d = λ i. shown_same (Le (Lit (pos 0)) e) i ∷ shown_same (Lt e d) i ∷ []

  indices_same : (is dims : List Control) → index_claims v is dims ≡ index_claims w is dims
  indices_same is dims = λ i. flat_zip (λ e d. index_same e d i) is dims

  coord_same : (c : Coord) (d : Control) → coord_claims v c d ≡ coord_claims w c d
  coord_same (At a) d = index_same a d
  coord_same (Span a b) d =
      λ i. shown_same (Le (Lit (pos 0)) a) i ∷ shown_same (Lt a b) i ∷ shown_same (Le b d) i ∷ []

  window_same : (coords : List Coord) (dims : List Control)
      → window_claims v coords dims ≡ window_claims w coords dims
  window_same coords dims = λ i. flat_zip (λ c d. coord_same c d i) coords dims

  reads_same : (extents : Extents) (e : Datum) → read_claims v extents e ≡ read_claims w extents e
  reads_same extents (Const n) = refl
  reads_same extents (Read x is) = indices_same is (extents x)
  reads_same extents (Negated a) = reads_same extents a
  reads_same extents (Relu a) = reads_same extents a
  reads_same extents (Plus a b) = λ i. reads_same extents a i ++ reads_same extents b i
  reads_same extents (Minus a b) = λ i. reads_same extents a i ++ reads_same extents b i
  reads_same extents (Times a b) = λ i. reads_same extents a i ++ reads_same extents b i
  reads_same extents (Select a b c d) =
      λ i. reads_same extents a i ++ reads_same extents b i
      ++ reads_same extents c i ++ reads_same extents d i

  stores_same : (extents : Extents) (x : ℕ) (is : List Control) (e : Datum)
      → store_claims v extents x is e ≡ store_claims w extents x is e
  stores_same extents x is e = λ i. indices_same is (extents x) i ++ reads_same extents e i

  -- ---- calls

  argument_window_same : (extents : Extents) (a : Argument)
      → argument_window v extents a ≡ argument_window w extents a
  argument_window_same extents (ControlArg a) = refl
  argument_window_same extents (ConditionArg c) = refl
  argument_window_same extents (Whole x) = refl
  argument_window_same extents (Window x coords) = window_same coords (extents x)

  given_same : (kind : Kind) (a : Argument) → given_claims v kind a ≡ given_claims w kind a
  given_same Size (ControlArg a) = λ i. positive_same a i ∷ []
  given_same Size (ConditionArg c) = refl
  given_same Size (Whole x) = refl
  given_same Size (Window x coords) = refl
  given_same Index a = refl
  given_same Truth a = refl
  given_same Stride a = refl

  size_same : (p : Param) (a : Argument) → argument_size v p a ≡ argument_size w p a
  size_same p a = λ i. elim p.kind as (λ k. List Claim) [
    | ControlParam kind ↦ given_same kind a i
    | TensorParam cell dims memory ↦ []
    | WindowParam cell dims memory ↦ []
  ]

  equal_same : (es dims : List Control) → equal_extents v es dims ≡ equal_extents w es dims
  equal_same es dims = λ i. flat_zip (λ e d. shown_same (Eq e d) i ∷ []) es dims

  ends_same : (extents : Extents) (a : Argument)
      → argument_extents v extents a ≡ argument_extents w extents a
  ends_same extents (ControlArg a) = refl
  ends_same extents (ConditionArg c) = refl
  ends_same extents (Whole x) = refl
  ends_same extents (Window x coords) = refl

  passed_same : (extents : Extents) (ps : List Param) (args : List Argument) (p : Param) (a : Argument)
      → passed_extents v extents ps args p a ≡ passed_extents w extents ps args p a
  passed_same extents ps args p a =
      let dims = map (control_under ps args) (dims_of p.kind) in
      (λ i. equal_extents v (ends_same extents a i) dims)
      ∙ equal_same (argument_extents w extents a) dims

  asserted_same : (ps : List Param) (args : List Argument) (c : Condition)
      → asserted v ps args c ≡ asserted w ps args c
  asserted_same ps args c = λ i. Is (condition_under ps args c) (condition_same w callee c i)

  write_same : (kind : Option Kind) (a : Argument) → write_claims v kind a ≡ write_claims w kind a
  write_same None a = refl
  write_same (Some kind) a = given_same kind a

  params_same : (ps : List Param) → param_claims v ps ≡ param_claims w ps
  params_same ps = λ i. flat_map (λ p. map (λ d. positive_same d i) (dims_of p.kind)) ps

-- ---- with more procedures

module _ (u : Program) (more : List Procedure) where
  abbrev pub longer : Program
  longer = record u { procedures = u.procedures ++ more }

  abbrev count : ℕ
  count = length u.procedures

  abbrev callee : ℕ → Text
  callee = callee_name (u.procedures ++ more)

  written_same : (k : ℕ) → nat_lt k count ≡ true → written_by longer k ≡ written_by u k
  written_same k h =
      let same = modes_same (kinds_of u.fields) u.procedures more k h in
      λ i x. same i Writing x || same i Reducing x

  module _ (w : Words) (extents : Extents) (roots : Roots) where
    abbrev words : Words
    words = other w callee

    called_same : (writes : ℕ → Bool) (q : Option Procedure) (args : List Argument)
        → call_claims words longer extents roots writes q args ≡ call_claims w u extents roots writes q args
    called_same writes None args = refl
    called_same writes (Some q) args =
        λ i. flat_map (λ a. argument_window_same w callee extents a i) args
        ++ flat_zip (λ p a. size_same w callee p a i) q.params args
        ++ flat_zip (λ p a. passed_same w callee extents q.params args p a i) q.params args
        ++ pair_claims roots writes 0 q.params args
        ++ map (λ c. asserted_same (words_of u q) callee q.params args c i) q.asserts

    own_same : (a : Statement) → step_calls_below count a ≡ true
        → own_claims words longer extents roots a ≡ own_claims w u extents roots a
    own_same (Assign x is e) h = stores_same w callee extents x is e
    own_same (Reduce x is e) h = stores_same w callee extents x is e
    own_same (Config f a) h = write_same w callee (field_kind u.fields f) a
    own_same Pass h = refl
    own_same (If c a b) h = refl
    own_same (For i lo hi b) h = refl
    own_same (Alloc x cell dims memory) h = λ i. map (λ d. positive_same w callee d i) dims
    own_same (View y x coords) h = window_same w callee coords (extents x)
    own_same (Call k args) h =
        (λ i. call_claims words longer extents roots (written_same k h i)
        (get_same u.procedures more k h i) args)
        ∙ called_same (written_by u k) (slice_get u.procedures k) args

    mutual
      block_same : (outer : Path) (branch : Branch) (n : ℕ) (b : Block) → calls_below count b ≡ true
          → block_claims words longer extents roots outer branch n b
          ≡ block_claims w u extents roots outer branch n b
      block_same outer branch n end h = refl
      block_same outer branch n (next a b) h =
          let p = and_parts (step_calls_below count a) (calls_below count b) h in
          λ i. placed_at (path_below outer branch n) (own_same a p.0 i)
          ++ inner_same (path_below outer branch n) a p.0 i
          ++ block_same outer branch (suc n) b p.1 i

      inner_same : (path : Path) (a : Statement) → step_calls_below count a ≡ true
          → inner_claims words longer extents roots path a ≡ inner_claims w u extents roots path a
      inner_same path (Assign x is e) h = refl
      inner_same path (Reduce x is e) h = refl
      inner_same path (Config f a) h = refl
      inner_same path Pass h = refl
      inner_same path (If c a b) h =
          let p = and_parts (calls_below count a) (calls_below count b) h in
          λ i. block_same path Main 0 a p.0 i ++ block_same path Else 0 b p.1 i
      inner_same path (For i lo hi b) h = block_same path Main 0 b h
      inner_same path (Alloc x cell dims memory) h = refl
      inner_same path (View y x coords) h = refl
      inner_same path (Call k args) h = refl

  pub claims_same : (p : Procedure) (name : List ℕ) → calls_below count p.body ≡ true
      → claims_of longer (record p { name = name }) ≡ claims_of u p
  claims_same p name h =
      let w = words_of u p in
      λ i. placed_at [] (params_same w callee p.params i)
      ++ block_same w (extents_of p) (roots_of p) [] Main 0 p.body h i
