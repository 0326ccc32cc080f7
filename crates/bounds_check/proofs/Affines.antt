-- The claims of well-formed statements are affine.
use Rattle.std.proofs.Common.{◌≡◌, ℕ, suc, nat_lt, ◌==◌, Bool, true, false, not, ◌&&◌, if◌then◌else◌, List, [], ◌∷◌, ◌++◌, map, length, Option, Some, None, slice_get, refl, sym, ◌∙◌, true≢false}
use Rattle.std.specs.List.{list_all, flat_map}
use Rattle.std.proofs.lemmas.Bool.{and_parts, and_from}
use Rattle.std.proofs.lemmas.List.Folds.{list_all-append, list_all-map}
use Rattle.exo_tree.specs.Tree.{Kind, Size, Index, Truth, Stride, Control, Eq, Datum, Const, Read, Negated, Relu, Plus, Minus, Times, Select, Coord, At, Span, Argument, ControlArg, ConditionArg, Whole, Window, Statement, Assign, Reduce, Config, Pass, If, For, Alloc, View, Call, Block, end, next, Param, ParamKind, ControlParam, TensorParam, WindowParam, Procedure, Program}
use Rattle.exo_tree.specs.Places.{Branch, Main, Else, Path, path_below}
use Rattle.exo_meaning.specs.Calls.{Callee}
use Rattle.exo_meaning.specs.Run.{roots_after}
use Rattle.exo_meaning.specs.Units.{Scope, ControlName, plainly, with_fields, with_strides, sort_in, has_rank, is_control, are_controls, is_condition, is_access, is_datum, is_window, is_write, are_for, share_nothing_written, is_call, is_new, is_empty, is_short, is_rank, with_name, scope_after, spans, is_block, is_statement, field_kind}
use Rattle.affine_forms.specs.Forms.{keeps_rules}
use Rattle.affine_forms.specs.Formulas.{condition_keeps_rules}
use Rattle.affine_places.specs.Roots.{Roots}
use Rattle.text_show.specs.Words.{Words, words_of}
use Rattle.check_claims.specs.Pairs.{flat_zip}
use Rattle.check_claims.specs.Claim.{Claim, Apart, Placed}
use Rattle.check_claims.specs.Extents.{Extents, with_extents, span_extent, span_extents, dims_of, with_params, with_block, with_statement}
use Rattle.check_claims.specs.Arguments.{control_under}
use Rattle.check_claims.specs.Claims.{asserted, as_shown, at_least_one, one_index, index_claims, coord_claims, window_claims, read_claims, store_claims, argument_window, given_claims, argument_size, argument_extents, equal_extents, passed_extents, call_claims, write_claims, own_claims, placed_at, block_claims, inner_claims, param_claims}
use Rattle.check_claims.specs.Claims.{written_by, must_be_apart, pairs_with, pair_claims}
use Rattle.bounds_check.specs.Laws.{claim_keeps_rules}
use Rattle.bounds_check.proofs.Affine.{coord_keeps_rules, argument_keeps_rules, dims_keep_rules, all_pass, all_affine, window_affine, given_affine, arguments_affine}
use Rattle.bounds_check.proofs.Under.{control_affine, condition_under_affine}

-- ---- lists

abbrev says_affine : Claim → Bool
says_affine c = claim_keeps_rules c

abbrev pub claim_affine : Placed → Bool
claim_affine c = claim_keeps_rules c.claim

abbrev All : List Claim → Type 0
All cs = list_all says_affine cs ≡ true

pub appended : {X : Type 0} (f : X → Bool) (xs ys : List X) → list_all f xs ≡ true → list_all f ys ≡ true → list_all f (xs ++ ys) ≡ true
appended f xs ys h k = list_all-append f xs ys ∙ and_from (list_all f xs) (list_all f ys) h k

mapped : {X Y : Type 0} (good : X → Bool) (f : Y → Bool) (g : X → Y) → ((x : X) → good x ≡ true → f (g x) ≡ true) → (xs : List X) → list_all good xs ≡ true → list_all f (map g xs) ≡ true
mapped good f g h xs k = list_all-map f g xs ∙ all_pass good (λ x. f (g x)) h xs k

flat_mapped : {X Y : Type 0} (good : X → Bool) (f : Y → Bool) (g : X → List Y) → ((x : X) → good x ≡ true → list_all f (g x) ≡ true) → (xs : List X) → list_all good xs ≡ true → list_all f (flat_map g xs) ≡ true
flat_mapped good f g h [] k = refl
flat_mapped good f g h (x ∷ xs) k = let p = and_parts (good x) (list_all good xs) k in appended f (g x) (flat_map g xs) (h x p.0) (flat_mapped good f g h xs p.1)

zipped : {X Y : Type 0} (good : X → Bool) (fine : Y → Bool) (g : X → Y → List Claim) → ((x : X) (y : Y) → good x ≡ true → fine y ≡ true → All (g x y)) → (xs : List X) (ys : List Y) → list_all good xs ≡ true → list_all fine ys ≡ true → All (flat_zip g xs ys)
zipped good fine g h [] ys k l = refl
zipped good fine g h (x ∷ xs) [] k l = refl
zipped good fine g h (x ∷ xs) (y ∷ ys) k l =
    let p = and_parts (good x) (list_all good xs) k in
    let q = and_parts (fine y) (list_all fine ys) l in
    appended says_affine (g x y) (flat_zip g xs ys) (h x y p.0 q.0) (zipped good fine g h xs ys p.1 q.1)

pub placed_affine : (path : Path) (cs : List Claim) → All cs → list_all claim_affine (placed_at path cs) ≡ true
placed_affine path cs h = list_all-map claim_affine (λ c. record { place = path; claim = c }) cs ∙ h

-- ---- extents

abbrev pub AreAffine : Extents → Type 0
AreAffine extents = (x : ℕ) → list_all keeps_rules (extents x) ≡ true

more_extents : (x : ℕ) (dims : List Control) (extents : Extents) → list_all keeps_rules dims ≡ true → AreAffine extents → AreAffine (with_extents x dims extents)
more_extents x dims extents h k y = go (y == x)
  where
    go : (t : Bool) → list_all keeps_rules (if t then dims else extents y) ≡ true
    go true = h
    go false = k y

span_affine : (c : Coord) → coord_keeps_rules c ≡ true → list_all keeps_rules (span_extent c) ≡ true
span_affine (At a) h = refl
span_affine (Span a b) h = let p = and_parts (keeps_rules a) (keeps_rules b) h in and_from (keeps_rules b && keeps_rules a) true (and_from (keeps_rules b) (keeps_rules a) p.1 p.0) refl

spans_affine : (coords : List Coord) → list_all coord_keeps_rules coords ≡ true → list_all keeps_rules (span_extents coords) ≡ true
spans_affine = flat_mapped coord_keeps_rules keeps_rules span_extent span_affine

pub params_extents : (ps : List Param) (extents : Extents) → list_all dims_keep_rules ps ≡ true → AreAffine extents → AreAffine (with_params ps extents)
params_extents [] extents h k = k
params_extents (p ∷ ps) extents h k =
    let q = and_parts (dims_keep_rules p) (list_all dims_keep_rules ps) h in
    params_extents ps (with_extents p.binder.id (dims_of p.kind) extents) q.1 (more_extents p.binder.id (dims_of p.kind) extents q.0 k)

-- ---- claims

-- what is asked of the procedure that a call names
pub record CalleeAffine (q : Procedure) : Type 0 where
  pub params : list_all dims_keep_rules q.params ≡ true
  pub asserts : list_all condition_keeps_rules q.asserts ≡ true

abbrev pub AreCalleesAffine : Program → Type 0
AreCalleesAffine u = (k : ℕ) (q : Procedure) → slice_get u.procedures k ≡ Some q → CalleeAffine q

-- two arguments have no condition
module _ (roots : Roots) (writes : ℕ → Bool) where
  pair_affine : (j : ℕ) (p : Param) (a : Argument) (k : ℕ) (qs : List Param) (args : List Argument)
      → All (pairs_with roots writes j p a k qs args)
  pair_affine j p a k [] args = refl
  pair_affine j p a k (q ∷ qs) [] = refl
  pair_affine j p a k (q ∷ qs) (b ∷ args) =
      by (must_be_apart roots writes p a q b) (pair_affine j p a (suc k) qs args)
    where
      by : (t : Bool) → All (pairs_with roots writes j p a (suc k) qs args)
          → All ((if t then Apart j k ∷ [] else []) ++ pairs_with roots writes j p a (suc k) qs args)
      by true h = h
      by false h = h

  pub pairs_affine : (j : ℕ) (ps : List Param) (args : List Argument) → All (pair_claims roots writes j ps args)
  pairs_affine j [] args = refl
  pairs_affine j (p ∷ ps) [] = refl
  pairs_affine j (p ∷ ps) (a ∷ args) =
      appended says_affine (pairs_with roots writes j p a (suc j) ps args)
      (pair_claims roots writes (suc j) ps args)
      (pair_affine j p a (suc j) ps args) (pairs_affine (suc j) ps args)

module _ (w : Words) where
  size_affine : (d : Control) → keeps_rules d ≡ true → says_affine (at_least_one w d) ≡ true
  size_affine d h = h

  size_claim : (d : Control) → keeps_rules d ≡ true → All (at_least_one w d ∷ [])
  size_claim d h = and_from (keeps_rules d) true h refl

  index_affine : (e d : Control) → keeps_rules e ≡ true → keeps_rules d ≡ true → All (one_index w e d)
  index_affine e d h k = and_from (keeps_rules e) ((keeps_rules e && keeps_rules d) && true) h (and_from (keeps_rules e && keeps_rules d) true (and_from (keeps_rules e) (keeps_rules d) h k) refl)

  coord_affine : (c : Coord) (d : Control) → coord_keeps_rules c ≡ true → keeps_rules d ≡ true → All (coord_claims w c d)
  coord_affine (At a) d h k = index_affine a d h k
  coord_affine (Span a b) d h k =
      let p = and_parts (keeps_rules a) (keeps_rules b) h in
      and_from (keeps_rules a) ((keeps_rules a && keeps_rules b) && ((keeps_rules b && keeps_rules d) && true)) p.0
      (and_from (keeps_rules a && keeps_rules b) ((keeps_rules b && keeps_rules d) && true) h
      (and_from (keeps_rules b && keeps_rules d) true (and_from (keeps_rules b) (keeps_rules d) p.1 k) refl))

  given_claim : (kind : Kind) (a : Argument) → argument_keeps_rules a ≡ true → All (given_claims w kind a)
  given_claim Size (ControlArg a) h = size_claim a h
  given_claim Size (ConditionArg c) h = refl
  given_claim Size (Whole x) h = refl
  given_claim Size (Window x coords) h = refl
  given_claim Index a h = refl
  given_claim Truth a h = refl
  given_claim Stride a h = refl

  write_claim : (kind : Option Kind) (a : Argument) → argument_keeps_rules a ≡ true → All (write_claims w kind a)
  write_claim None a h = refl
  write_claim (Some kind) a h = given_claim kind a h

  param_claim : (p : Param) → dims_keep_rules p ≡ true → All (map (at_least_one w) (dims_of p.kind))
  param_claim p h = mapped keeps_rules says_affine (at_least_one w) size_affine (dims_of p.kind) h

  pub params_claims : (ps : List Param) → list_all dims_keep_rules ps ≡ true → All (param_claims w ps)
  params_claims = flat_mapped dims_keep_rules says_affine (λ p. map (at_least_one w) (dims_of p.kind)) param_claim

  kind_size : (kind : ParamKind) (a : Argument) → argument_keeps_rules a ≡ true → All (elim kind [ ControlParam k ↦ given_claims w k a | TensorParam cell dims memory ↦ [] | WindowParam cell dims memory ↦ [] ])
  kind_size (ControlParam kind) a h = given_claim kind a h
  kind_size (TensorParam cell dims memory) a h = refl
  kind_size (WindowParam cell dims memory) a h = refl

  equal_claims : (es dims : List Control) → list_all keeps_rules es ≡ true → list_all keeps_rules dims ≡ true → All (equal_extents w es dims)
  equal_claims = zipped keeps_rules keeps_rules (λ e d. as_shown w (Eq e d) ∷ []) (λ e d h k. and_from (keeps_rules e && keeps_rules d) true (and_from (keeps_rules e) (keeps_rules d) h k) refl)

  module _ (u : Program) (extents : Extents) (roots : Roots) (known : AreAffine extents) where
    indices_affine : (x : ℕ) (is : List Control) → list_all keeps_rules is ≡ true → All (index_claims w is (extents x))
    indices_affine x is h = zipped keeps_rules keeps_rules (one_index w) index_affine is (extents x) h (known x)

    windows_affine : (x : ℕ) (coords : List Coord) → list_all coord_keeps_rules coords ≡ true → All (window_claims w coords (extents x))
    windows_affine x coords h = zipped coord_keeps_rules keeps_rules (coord_claims w) coord_affine coords (extents x) h (known x)

    argument_claims : (a : Argument) → argument_keeps_rules a ≡ true → All (argument_window w extents a)
    argument_claims (ControlArg a) h = refl
    argument_claims (ConditionArg c) h = refl
    argument_claims (Whole x) h = refl
    argument_claims (Window x coords) h = windows_affine x coords h

    passed_affine : (a : Argument) → argument_keeps_rules a ≡ true → list_all keeps_rules (argument_extents w extents a) ≡ true
    passed_affine (ControlArg a) h = refl
    passed_affine (ConditionArg c) h = refl
    passed_affine (Whole x) h = known x
    passed_affine (Window x coords) h = spans_affine coords h

    called_affine : (writes : ℕ → Bool) (q : Procedure) (args : List Argument) → CalleeAffine q → list_all argument_keeps_rules args ≡ true → All (call_claims w u extents roots writes (Some q) args)
    called_affine writes q args good h =
        let windows = flat_mapped argument_keeps_rules says_affine (argument_window w extents) argument_claims args h in
        let sizes = zipped dims_keep_rules argument_keeps_rules (argument_size w) (λ p a k l. kind_size p.kind a l) q.params args good.params h in
        let parts = zipped dims_keep_rules argument_keeps_rules (passed_extents w extents q.params args)
        (λ p a k l. equal_claims (argument_extents w extents a) (map (control_under q.params args) (dims_of p.kind)) (passed_affine a l) (mapped keeps_rules keeps_rules (control_under q.params args) (control_affine q.params args h) (dims_of p.kind) k)) q.params args good.params h in
        let pairs = pairs_affine roots writes 0 q.params args in
        let rest = mapped condition_keeps_rules says_affine (asserted (words_of u q) q.params args) (condition_under_affine q.params args h) q.asserts good.asserts in
        let first = flat_map (argument_window w extents) args in
        let second = flat_zip (argument_size w) q.params args in
        let third = flat_zip (passed_extents w extents q.params args) q.params args in
        let fourth = pair_claims roots writes 0 q.params args in
        appended says_affine (first ++ second ++ third ++ fourth) (map (asserted (words_of u q) q.params args) q.asserts)
        (appended says_affine (first ++ second ++ third) fourth
        (appended says_affine (first ++ second) third (appended says_affine first second windows sizes) parts) pairs) rest

    call_affine : (writes : ℕ → Bool) (o : Option Procedure) (args : List Argument) → ((q : Procedure) → o ≡ Some q → CalleeAffine q) → list_all argument_keeps_rules args ≡ true → All (call_claims w u extents roots writes o args)
    call_affine writes None args good h = refl
    call_affine writes (Some q) args good h = called_affine writes q args (good q refl) h

    -- ---- statements

    module _ (fields : ℕ → Option Kind) where
      module _ (scope : Scope) where
        access_affine : (x : ℕ) (is : List Control) → is_access fields scope x is ≡ true → All (index_claims w is (extents x))
        access_affine x is h = indices_affine x is (all_affine fields plainly scope is (and_parts (has_rank (length is) (sort_in scope x)) (are_controls fields plainly scope is) h).1)

        datum_affine : (e : Datum) → is_datum fields scope e ≡ true → All (read_claims w extents e)
        datum_affine (Const n) h = refl
        datum_affine (Read x is) h = access_affine x is h
        datum_affine (Negated a) h = datum_affine a h
        datum_affine (Relu a) h = datum_affine a h
        datum_affine (Plus a b) h = let p = and_parts (is_datum fields scope a) (is_datum fields scope b) h in appended says_affine (read_claims w extents a) (read_claims w extents b) (datum_affine a p.0) (datum_affine b p.1)
        datum_affine (Minus a b) h = let p = and_parts (is_datum fields scope a) (is_datum fields scope b) h in appended says_affine (read_claims w extents a) (read_claims w extents b) (datum_affine a p.0) (datum_affine b p.1)
        datum_affine (Times a b) h = let p = and_parts (is_datum fields scope a) (is_datum fields scope b) h in appended says_affine (read_claims w extents a) (read_claims w extents b) (datum_affine a p.0) (datum_affine b p.1)
        datum_affine (Select a b c d) h =
            let p = and_parts (is_datum fields scope a && is_datum fields scope b) (is_datum fields scope c && is_datum fields scope d) h in
            let q = and_parts (is_datum fields scope a) (is_datum fields scope b) p.0 in
            let r = and_parts (is_datum fields scope c) (is_datum fields scope d) p.1 in
            let two = appended says_affine (read_claims w extents a) (read_claims w extents b) (datum_affine a q.0) (datum_affine b q.1) in
            let three = appended says_affine (read_claims w extents a ++ read_claims w extents b) (read_claims w extents c) two (datum_affine c r.0) in
            appended says_affine (read_claims w extents a ++ read_claims w extents b ++ read_claims w extents c) (read_claims w extents d) three (datum_affine d r.1)

        store_affine : (x : ℕ) (is : List Control) (e : Datum) → (is_access fields scope x is && is_datum fields scope e) ≡ true → All (store_claims w extents x is e)
        store_affine x is e h =
            let p = and_parts (is_access fields scope x is) (is_datum fields scope e) h in
            appended says_affine (index_claims w is (extents x)) (read_claims w extents e) (access_affine x is p.0) (datum_affine e p.1)

        written_affine : (kind : Option Kind) (a : Argument) → is_write fields scope kind a ≡ true → argument_keeps_rules a ≡ true
        written_affine None a h = absurd (true≢false (sym h))
        written_affine (Some kind) a h = given_affine fields scope with_strides kind a h

        arguments_of_call : (root : ℕ → ℕ) (o : Option Callee) (args : List Argument) → is_call fields scope root o args ≡ true → list_all argument_keeps_rules args ≡ true
        arguments_of_call root None args h = absurd (true≢false (sym h))
        arguments_of_call root (Some c) args h = arguments_affine fields scope c.procedure.params args (and_parts (are_for fields scope c.procedure.params args) (share_nothing_written fields c.writes root c.procedure.params args) h).0

      -- ---- statements and blocks

      module _ (memories : ℕ) (callees : ℕ → Option Callee) (called : AreCalleesAffine u) where
        own_affine : (scope : Scope) (root : ℕ → ℕ) (a : Statement) → is_statement fields memories callees scope root a ≡ true → All (own_claims w u extents roots a)
        own_affine scope root (Assign x is e) h = store_affine scope x is e h
        own_affine scope root (Reduce x is e) h = store_affine scope x is e h
        own_affine scope root (Config f a) h = write_claim (field_kind u.fields f) a (written_affine scope (fields f) a h)
        own_affine scope root Pass h = refl
        own_affine scope root (If c a b) h = refl
        own_affine scope root (For i lo hi b) h = refl
        own_affine scope root (Alloc x cell dims memory) h =
            let p = (and_parts (is_new scope x) (are_controls fields plainly scope dims && (is_rank (length dims) && nat_lt memory memories)) h).1 in
            mapped keeps_rules says_affine (at_least_one w) size_affine dims (all_affine fields plainly scope dims (and_parts (are_controls fields plainly scope dims) (is_rank (length dims) && nat_lt memory memories) p).0)
        own_affine scope root (View v x coords) h =
            let p = (and_parts (is_new scope v) (is_window fields scope x coords && nat_lt 0 (spans coords)) h).1 in
            windows_affine x coords (window_affine fields scope x coords (and_parts (is_window fields scope x coords) (nat_lt 0 (spans coords)) p).0)
        own_affine scope root (Call k args) h = call_affine (written_by u k) (slice_get u.procedures k) args (called k) (arguments_of_call scope root (callees k) args h)

        abbrev AllPlaced : List Placed → Type 0
        AllPlaced cs = list_all claim_affine cs ≡ true

        mutual
          pub block_affine : (outer : Path) (branch : Branch) (n : ℕ) (scope : Scope) (root : ℕ → ℕ) (b : Block) → is_block fields memories callees scope root b ≡ true → AllPlaced (block_claims w u extents roots outer branch n b)
          block_affine outer branch n scope root end h = refl
          block_affine outer branch n scope root (next a b) h =
              let p = and_parts (is_statement fields memories callees scope root a) (is_block fields memories callees (scope_after a scope) (roots_after a root) b) h in
              let here = path_below outer branch n in
              let inner = inner_claims w u extents roots here a in
              let rest = block_claims w u extents roots outer branch (suc n) b in
              let own = placed_at here (own_claims w u extents roots a) in
              appended claim_affine (own ++ inner) rest
              (appended claim_affine own inner (placed_affine here (own_claims w u extents roots a) (own_affine scope root a p.0)) (inner_affine here scope root a p.0))
              (block_affine outer branch (suc n) (scope_after a scope) (roots_after a root) b p.1)

          inner_affine : (path : Path) (scope : Scope) (root : ℕ → ℕ) (a : Statement) → is_statement fields memories callees scope root a ≡ true → AllPlaced (inner_claims w u extents roots path a)
          inner_affine path scope root (Assign x is e) h = refl
          inner_affine path scope root (Reduce x is e) h = refl
          inner_affine path scope root (Config f a) h = refl
          inner_affine path scope root Pass h = refl
          inner_affine path scope root (If c a b) h =
              let p = (and_parts (is_condition fields with_fields scope c) ((not (is_empty a) && (is_short a && is_short b)) && (is_block fields memories callees scope root a && is_block fields memories callees scope root b)) h).1 in
              let q = (and_parts (not (is_empty a) && (is_short a && is_short b)) (is_block fields memories callees scope root a && is_block fields memories callees scope root b) p).1 in
              let r = and_parts (is_block fields memories callees scope root a) (is_block fields memories callees scope root b) q in
              appended claim_affine (block_claims w u extents roots path Main 0 a) (block_claims w u extents roots path Else 0 b) (block_affine path Main 0 scope root a r.0) (block_affine path Else 0 scope root b r.1)
          inner_affine path scope root (For i lo hi b) h =
              let inner = with_name scope i (ControlName Index) in
              let p = (and_parts (is_new scope i) ((is_control fields plainly scope lo && is_control fields plainly scope hi) && ((not (is_empty b) && is_short b) && is_block fields memories callees inner root b)) h).1 in
              let q = (and_parts (is_control fields plainly scope lo && is_control fields plainly scope hi) ((not (is_empty b) && is_short b) && is_block fields memories callees inner root b) p).1 in
              block_affine path Main 0 inner root b (and_parts (not (is_empty b) && is_short b) (is_block fields memories callees inner root b) q).1
          inner_affine path scope root (Alloc x cell dims memory) h = refl
          inner_affine path scope root (View v x coords) h = refl
          inner_affine path scope root (Call k args) h = refl

-- ---- what a block binds

module _ (fields : ℕ → Option Kind) (memories : ℕ) (callees : ℕ → Option Callee) where
  mutual
    pub block_extents : (scope : Scope) (root : ℕ → ℕ) (b : Block) (extents : Extents) → is_block fields memories callees scope root b ≡ true → AreAffine extents → AreAffine (with_block b extents)
    block_extents scope root end extents h k = k
    block_extents scope root (next a b) extents h k =
        let p = and_parts (is_statement fields memories callees scope root a) (is_block fields memories callees (scope_after a scope) (roots_after a root) b) h in
        block_extents (scope_after a scope) (roots_after a root) b (with_statement a extents) p.1 (statement_extents scope root a extents p.0 k)

    statement_extents : (scope : Scope) (root : ℕ → ℕ) (a : Statement) (extents : Extents) → is_statement fields memories callees scope root a ≡ true → AreAffine extents → AreAffine (with_statement a extents)
    statement_extents scope root (Assign x is e) extents h k = k
    statement_extents scope root (Reduce x is e) extents h k = k
    statement_extents scope root (Config f a) extents h k = k
    statement_extents scope root Pass extents h k = k
    statement_extents scope root (If c a b) extents h k =
        let p = (and_parts (is_condition fields with_fields scope c) ((not (is_empty a) && (is_short a && is_short b)) && (is_block fields memories callees scope root a && is_block fields memories callees scope root b)) h).1 in
        let q = (and_parts (not (is_empty a) && (is_short a && is_short b)) (is_block fields memories callees scope root a && is_block fields memories callees scope root b) p).1 in
        let r = and_parts (is_block fields memories callees scope root a) (is_block fields memories callees scope root b) q in
        block_extents scope root b (with_block a extents) r.1 (block_extents scope root a extents r.0 k)
    statement_extents scope root (For i lo hi b) extents h k =
        let inner = with_name scope i (ControlName Index) in
        let p = (and_parts (is_new scope i) ((is_control fields plainly scope lo && is_control fields plainly scope hi) && ((not (is_empty b) && is_short b) && is_block fields memories callees inner root b)) h).1 in
        let q = (and_parts (is_control fields plainly scope lo && is_control fields plainly scope hi) ((not (is_empty b) && is_short b) && is_block fields memories callees inner root b) p).1 in
        block_extents inner root b extents (and_parts (not (is_empty b) && is_short b) (is_block fields memories callees inner root b) q).1 k
    statement_extents scope root (Alloc x cell dims memory) extents h k =
        let p = (and_parts (is_new scope x) (are_controls fields plainly scope dims && (is_rank (length dims) && nat_lt memory memories)) h).1 in
        more_extents x.id dims extents (all_affine fields plainly scope dims (and_parts (are_controls fields plainly scope dims) (is_rank (length dims) && nat_lt memory memories) p).0) k
    statement_extents scope root (View v x coords) extents h k =
        let p = (and_parts (is_new scope v) (is_window fields scope x coords && nat_lt 0 (spans coords)) h).1 in
        more_extents v.id (span_extents coords) extents (spans_affine coords (window_affine fields scope x coords (and_parts (is_window fields scope x coords) (nat_lt 0 (spans coords)) p).0)) k
    statement_extents scope root (Call k args) extents h j = j
