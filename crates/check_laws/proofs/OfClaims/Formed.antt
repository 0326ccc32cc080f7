-- The claims of a well-formed procedure are conditions over the names in scope at their places.
use Rattle.std.proofs.Common.{◌≡◌, ℕ, suc, ◌==◌, Bool, true, false, if◌then◌else◌, not, ◌&&◌, ◌||◌, List, [], ◌∷◌, ◌++◌, length, map, Option, Some, refl, sym, subst}
use Rattle.std.specs.Prelude.{flat_map}
use Rattle.std.specs.List.{list_all}
use Rattle.exo_tree.specs.Tree.{Kind, Size, Index, Truth, Stride, Control, Condition, Datum, Const, Read, Negated, Relu, Plus, Minus, Times, Select, Coord, At, Span, Argument, ControlArg, ConditionArg, Whole, Window, Param, ParamKind, ControlParam, TensorParam, WindowParam, Procedure, Program}
use Rattle.exo_meaning.specs.Orders.{Each}
use Rattle.exo_meaning.specs.Units.{Scope, sort_in, with_name, scope_of, param_sort, is_new, has_rank, has_cell, is_dense, is_rank, plainly, with_both, Reads, is_control, are_controls, is_condition, is_access, is_datum, is_coord, is_window, is_of_kind, is_for, are_for, is_param_kind, are_params, spans}
use Rattle.affine_places.specs.Roots.{Roots}
use Rattle.text_show.specs.Words.{Words, words_of}
use Rattle.check_claims.specs.Pairs.{flat_zip}
use Rattle.check_claims.specs.Claim.{Claim, Is, Apart}
use Rattle.check_claims.specs.Extents.{Extents, dims_of}
use Rattle.check_claims.specs.Arguments.{control_under}
use Rattle.check_claims.specs.Claims.{asserted, at_least_one, index_claims, window_claims, read_claims, store_claims, argument_window, given_claims, argument_size, argument_extents, equal_extents, passed_extents, must_be_apart, pairs_with, pair_claims, call_claims}
use Rattle.check_laws.proofs.OfClaims.Basics.{and_parts, and_true, no_test}
use Rattle.check_laws.proofs.OfClaims.Entered.{Passed, params_differ, all_passed}
use Rattle.check_laws.proofs.OfClaims.Shapes.{control_freer, controls_freer, spans_formed, AreRanks, Gives, controls_formed, condition_formed, gives_nothing, gives_more, all_give}

-- ---- lists

pub each_append : {A : Type 0} (P : A → Type 0) (xs ys : List A) → Each P xs → Each P ys → Each P (xs ++ ys)
each_append P [] ys h k = k
each_append P (x ∷ xs) ys h k = (h.0, each_append P xs ys h.1 k)

-- ---- claims in a scope

module _ (w : Words) (fields : ℕ → Option Kind) (table : Extents) (scope : Scope) where
  abbrev pub IsFormedHere : Claim → Type 0
  IsFormedHere (Is c text) = is_condition fields with_both scope c ≡ true
  IsFormedHere (Apart j k) = Unit {0}

  abbrev pub AreFormed : List Claim → Type 0
  AreFormed cs = Each IsFormedHere cs

  abbrev Fits : Control → Bool
  Fits = is_control fields with_both scope

  abbrev Are : List Control → Bool
  Are = are_controls fields with_both scope

  append : (xs ys : List Claim) → AreFormed xs → AreFormed ys → AreFormed (xs ++ ys)
  append xs ys h k = each_append IsFormedHere xs ys h k

  pub sizes_formed : (ds : List Control) → Are ds ≡ true → AreFormed (map (at_least_one w) ds)
  sizes_formed [] h = tt
  sizes_formed (d ∷ ds) h = let p = and_parts (Fits d) (Are ds) h in (p.0, sizes_formed ds p.1)

  indices_formed : (is ds : List Control) → Are is ≡ true → Are ds ≡ true → AreFormed (index_claims w is ds)
  indices_formed [] ds h k = tt
  indices_formed (i ∷ is) [] h k = tt
  indices_formed (i ∷ is) (d ∷ ds) h k =
      let p = and_parts (Fits i) (Are is) h in
      let q = and_parts (Fits d) (Are ds) k in
      (p.0, (and_true (Fits i) (Fits d) p.0 q.0, indices_formed is ds p.1 q.1))

  window_formed : (cs : List Coord) (ds : List Control) → list_all (is_coord fields scope) cs ≡ true → Are ds ≡ true → AreFormed (window_claims w cs ds)
  window_formed [] ds h k = tt
  window_formed (c ∷ cs) [] h k = tt
  window_formed (At a ∷ cs) (d ∷ ds) h k =
      let p = and_parts (is_control fields plainly scope a) (list_all (is_coord fields scope) cs) h in
      let q = and_parts (Fits d) (Are ds) k in
      let i = control_freer fields plainly scope a p.0 in
      (i, (and_true (Fits a) (Fits d) i q.0, window_formed cs ds p.1 q.1))
  window_formed (Span a b ∷ cs) (d ∷ ds) h k =
      let p = and_parts (is_control fields plainly scope a && is_control fields plainly scope b) (list_all (is_coord fields scope) cs) h in
      let r = and_parts (is_control fields plainly scope a) (is_control fields plainly scope b) p.0 in
      let q = and_parts (Fits d) (Are ds) k in
      let i = control_freer fields plainly scope a r.0 in
      let j = control_freer fields plainly scope b r.1 in
      (i, (and_true (Fits a) (Fits b) i j, (and_true (Fits b) (Fits d) j q.0, window_formed cs ds p.1 q.1)))

  pub given_formed : (may : Reads) (kind : Kind) (a : Argument) → is_of_kind fields may scope kind a ≡ true → ((e : Control) → is_control fields may scope e ≡ true → Fits e ≡ true) → AreFormed (given_claims w kind a)
  given_formed may Size (ControlArg e) h k = (k e h, tt)
  given_formed may Index a h k = tt
  given_formed may Truth a h k = tt
  given_formed may Stride a h k = tt
  given_formed may Size (ConditionArg c) h k = tt
  given_formed may Size (Whole x) h k = tt
  given_formed may Size (Window x cs) h k = tt

  -- the table has expressions of the scope for its buffers, which have few dimensions
  abbrev pub IsTabled : Type 0
  IsTabled = (x n : ℕ) → has_rank n (sort_in scope x) ≡ true → (Are (table x) ≡ true) × (is_rank n ≡ true)

  module _ (tabled : IsTabled) where
    access_formed : (x : ℕ) (is : List Control) → is_access fields scope x is ≡ true → AreFormed (index_claims w is (table x))
    access_formed x is h =
        let p = and_parts (has_rank (length is) (sort_in scope x)) (are_controls fields plainly scope is) h in
        indices_formed is (table x) (controls_freer fields scope is p.1) (tabled x (length is) p.0).0

    reads_formed : (e : Datum) → is_datum fields scope e ≡ true → AreFormed (read_claims w table e)
    reads_formed (Const n) h = tt
    reads_formed (Read x is) h = access_formed x is h
    reads_formed (Negated a) h = reads_formed a h
    reads_formed (Relu a) h = reads_formed a h
    reads_formed (Plus a b) h = let p = and_parts (is_datum fields scope a) (is_datum fields scope b) h in append (read_claims w table a) (read_claims w table b) (reads_formed a p.0) (reads_formed b p.1)
    reads_formed (Minus a b) h = let p = and_parts (is_datum fields scope a) (is_datum fields scope b) h in append (read_claims w table a) (read_claims w table b) (reads_formed a p.0) (reads_formed b p.1)
    reads_formed (Times a b) h = let p = and_parts (is_datum fields scope a) (is_datum fields scope b) h in append (read_claims w table a) (read_claims w table b) (reads_formed a p.0) (reads_formed b p.1)
    reads_formed (Select a b c d) h =
        let p = and_parts (is_datum fields scope a && is_datum fields scope b) (is_datum fields scope c && is_datum fields scope d) h in
        let q = and_parts (is_datum fields scope a) (is_datum fields scope b) p.0 in
        let r = and_parts (is_datum fields scope c) (is_datum fields scope d) p.1 in
        let ra = read_claims w table a in
        let rb = read_claims w table b in
        let rc = read_claims w table c in
        append (ra ++ rb ++ rc) (read_claims w table d) (append (ra ++ rb) rc (append ra rb (reads_formed a q.0) (reads_formed b q.1)) (reads_formed c r.0)) (reads_formed d r.1)

    pub store_formed : (x : ℕ) (is : List Control) (e : Datum) → (is_access fields scope x is && is_datum fields scope e) ≡ true → AreFormed (store_claims w table x is e)
    store_formed x is e h = let p = and_parts (is_access fields scope x is) (is_datum fields scope e) h in append (index_claims w is (table x)) (read_claims w table e) (access_formed x is p.0) (reads_formed e p.1)

    pub seen_formed : (x : ℕ) (cs : List Coord) → is_window fields scope x cs ≡ true → AreFormed (window_claims w cs (table x))
    seen_formed x cs h = let p = and_parts (has_rank (length cs) (sort_in scope x)) (list_all (is_coord fields scope) cs) h in window_formed cs (table x) p.1 (tabled x (length cs) p.0).0

    -- ---- arguments

    -- what an argument shows, and its extents
    argument_formed : (kind : ParamKind) (a : Argument) → is_for fields scope kind a ≡ true → AreFormed (argument_window w table a) × (Are (argument_extents w table a) ≡ true)
    argument_formed kind (ControlArg e) h = (tt, refl)
    argument_formed kind (ConditionArg c) h = (tt, refl)
    argument_formed (ControlParam kind) (Whole x) h = no_test h
    argument_formed (TensorParam cell dims memory) (Whole x) h =
        let q = and_parts (has_cell cell (sort_in scope x)) _ h in
        (tt, (tabled x (length dims) (and_parts (has_rank (length dims) (sort_in scope x)) ((length dims == 0) || is_dense (sort_in scope x)) q.1).0).0)
    argument_formed (WindowParam cell dims memory) (Whole x) h = (tt, (tabled x (length dims) (and_parts (has_cell cell (sort_in scope x)) (has_rank (length dims) (sort_in scope x)) h).1).0)
    argument_formed (ControlParam kind) (Window x cs) h = no_test h
    argument_formed (TensorParam cell dims memory) (Window x cs) h =
        let q = and_parts (has_cell cell (sort_in scope x)) _ h in
        let r = (and_parts (is_window fields scope x cs) ((length dims == 0) && ((spans cs == 0) && not (length cs == 0))) q.1).0 in
        (seen_formed x cs r, spans_formed fields scope cs (and_parts (has_rank (length cs) (sort_in scope x)) (list_all (is_coord fields scope) cs) r).1)
    argument_formed (WindowParam cell dims memory) (Window x cs) h =
        let q = and_parts (has_cell cell (sort_in scope x)) _ h in
        let r = (and_parts (is_window fields scope x cs) (length dims == spans cs) q.1).0 in
        (seen_formed x cs r, spans_formed fields scope cs (and_parts (has_rank (length cs) (sort_in scope x)) (list_all (is_coord fields scope) cs) r).1)

    windows_formed : (ps : List Param) (args : List Argument) → are_for fields scope ps args ≡ true → AreFormed (flat_map (argument_window w table) args)
    windows_formed [] [] h = tt
    windows_formed [] (a ∷ args) h = no_test h
    windows_formed (p ∷ ps) [] h = no_test h
    windows_formed (p ∷ ps) (a ∷ args) h =
        let q = and_parts (is_for fields scope p.kind a) (are_for fields scope ps args) h in
        append (argument_window w table a) (flat_map (argument_window w table) args) (argument_formed p.kind a q.0).0 (windows_formed ps args q.1)

    size_formed : (p : Param) (kind : ParamKind) (a : Argument) → p.kind ≡ kind → is_for fields scope kind a ≡ true → AreFormed (argument_size w p a)
    size_formed p kind a same h = subst (λ k. AreFormed (elim k [ ControlParam kind ↦ given_claims w kind a | TensorParam cell dims memory ↦ [] | WindowParam cell dims memory ↦ [] ])) (sym same) (go kind h)
      where
        go : (kind : ParamKind) → is_for fields scope kind a ≡ true → AreFormed (elim kind [ ControlParam kind ↦ given_claims w kind a | TensorParam cell dims memory ↦ [] | WindowParam cell dims memory ↦ [] ])
        go (ControlParam kind) h = given_formed with_both kind a h (λ e k. k)
        go (TensorParam cell dims memory) h = tt
        go (WindowParam cell dims memory) h = tt

    all_sizes_formed : (ps : List Param) (args : List Argument) → are_for fields scope ps args ≡ true → AreFormed (flat_zip (argument_size w) ps args)
    all_sizes_formed [] args h = tt
    all_sizes_formed (p ∷ ps) [] h = tt
    all_sizes_formed (p ∷ ps) (a ∷ args) h =
        let q = and_parts (is_for fields scope p.kind a) (are_for fields scope ps args) h in
        append (argument_size w p a) (flat_zip (argument_size w) ps args) (size_formed p p.kind a refl q.0) (all_sizes_formed ps args q.1)

    equal_formed : (es ds : List Control) → Are es ≡ true → Are ds ≡ true → AreFormed (equal_extents w es ds)
    equal_formed [] ds h k = tt
    equal_formed (e ∷ es) [] h k = tt
    equal_formed (e ∷ es) (d ∷ ds) h k =
        let p = and_parts (Fits e) (Are es) h in
        let q = and_parts (Fits d) (Are ds) k in
        (and_true (Fits e) (Fits d) p.0 q.0, equal_formed es ds p.1 q.1)

    ranks : AreRanks scope
    ranks x n h = (tabled x n h).1

    -- that arguments are apart is no condition
    module _ (roots : Roots) (writes : ℕ → Bool) where
      with_formed : (j : ℕ) (p : Param) (a : Argument) (k : ℕ) (qs : List Param) (rest : List Argument) → AreFormed (pairs_with roots writes j p a k qs rest)
      with_formed j p a k [] rest = tt
      with_formed j p a k (q ∷ qs) [] = tt
      with_formed j p a k (q ∷ qs) (b ∷ rest) =
          let t = must_be_apart roots writes p a q b in
          append (if t then Apart j k ∷ [] else []) (pairs_with roots writes j p a (suc k) qs rest) (one t) (with_formed j p a (suc k) qs rest)
        where
          one : (t : Bool) → AreFormed (if t then Apart j k ∷ [] else [])
          one true = (tt, tt)
          one false = tt

      pairs_formed : (j : ℕ) (ps : List Param) (rest : List Argument) → AreFormed (pair_claims roots writes j ps rest)
      pairs_formed j [] rest = tt
      pairs_formed j (p ∷ ps) [] = tt
      pairs_formed j (p ∷ ps) (a ∷ rest) =
          append (pairs_with roots writes j p a (suc j) ps rest) (pair_claims roots writes (suc j) ps rest)
          (with_formed j p a (suc j) ps rest) (pairs_formed (suc j) ps rest)

    module _ (memories : ℕ) (params : List Param) (args : List Argument) where
      dims_formed : (names : Scope) → Gives fields plainly params args scope ranks names → (kind : ParamKind) → is_param_kind fields memories names kind ≡ true → Are (map (control_under params args) (dims_of kind)) ≡ true
      dims_formed names g (ControlParam kind) h = refl
      dims_formed names g (TensorParam cell dims memory) h = controls_formed fields plainly params args scope ranks names g dims (and_parts (are_controls fields plainly names dims) _ h).0
      dims_formed names g (WindowParam cell dims memory) h = controls_formed fields plainly params args scope ranks names g dims (and_parts (are_controls fields plainly names dims) _ h).0

      passed_formed : (ps : List Param) (rest : List Argument) (names : Scope) → Gives fields plainly params args scope ranks names → are_params fields memories names ps ≡ true → Passed params args ps rest → are_for fields scope ps rest ≡ true → AreFormed (flat_zip (passed_extents w table params args) ps rest)
      passed_formed [] rest names g h passed f = tt
      passed_formed (p ∷ ps) [] names g h passed f = tt
      passed_formed (p ∷ ps) (a ∷ rest) names g h passed f =
          let q = and_parts (is_new names p.binder) (is_param_kind fields memories names p.kind && are_params fields memories (with_name names p.binder (param_sort p.kind)) ps) h in
          let r = and_parts (is_param_kind fields memories names p.kind) (are_params fields memories (with_name names p.binder (param_sort p.kind)) ps) q.1 in
          let k = and_parts (is_for fields scope p.kind a) (are_for fields scope ps rest) f in
          append (passed_extents w table params args p a) (flat_zip (passed_extents w table params args) ps rest)
          (equal_formed (argument_extents w table a) (map (control_under params args) (dims_of p.kind)) (argument_formed p.kind a k.0).1 (dims_formed names g p.kind r.0))
          (passed_formed ps rest (with_name names p.binder (param_sort p.kind)) (gives_more fields plainly params args scope ranks names p a g passed.0 k.0) r.1 passed.1 k.1)

      asserts_formed : (v : Words) (names : Scope) → Gives fields with_both params args scope ranks names → (cs : List Condition) → list_all (is_condition fields with_both names) cs ≡ true → AreFormed (map (asserted v params args) cs)
      asserts_formed v names g [] h = tt
      asserts_formed v names g (c ∷ cs) h =
          let p = and_parts (is_condition fields with_both names c) (list_all (is_condition fields with_both names) cs) h in
          (condition_formed fields with_both params args scope ranks names g c p.0, asserts_formed v names g cs p.1)

      pub calls_formed : (u : Program) (roots : Roots) (writes : ℕ → Bool) (q : Procedure) → q.params ≡ params → are_params fields memories [] params ≡ true → list_all (is_condition fields with_both (scope_of [] params)) q.asserts ≡ true → are_for fields scope params args ≡ true → AreFormed (call_claims w u table roots writes (Some q) args)
      calls_formed u roots writes q same h asserts f = subst (λ ps. AreFormed (claims ps)) (sym same) inside
        where
          passed : Passed params args params args
          passed = all_passed fields scope params args f (params_differ fields memories params [] h)

          claims : List Param → List Claim
          claims ps =
              flat_map (argument_window w table) args ++ flat_zip (argument_size w) ps args ++ flat_zip (passed_extents w table ps args) ps args
              ++ pair_claims roots writes 0 ps args ++ map (asserted (words_of u q) ps args) q.asserts

          inside : AreFormed (claims params)
          inside =
              let windows = flat_map (argument_window w table) args in
              let sizes = flat_zip (argument_size w) params args in
              let extents = flat_zip (passed_extents w table params args) params args in
              let pairs = pair_claims roots writes 0 params args in
              let gives = all_give fields with_both params args scope ranks params args [] (gives_nothing fields with_both params args scope ranks) passed f in
              append (windows ++ sizes ++ extents ++ pairs) (map (asserted (words_of u q) params args) q.asserts)
              (append (windows ++ sizes ++ extents) pairs
              (append (windows ++ sizes) extents (append windows sizes (windows_formed params args f) (all_sizes_formed params args f)) (passed_formed params args [] (gives_nothing fields plainly params args scope ranks) h passed f))
              (pairs_formed roots writes 0 params args))
              (asserts_formed (words_of u q) (scope_of [] params) gives q.asserts asserts)
