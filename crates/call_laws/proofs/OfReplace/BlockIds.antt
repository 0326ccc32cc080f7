-- A matched callee takes the ids of the block.
use Rattle.std.proofs.Common.{◌≡◌, ℕ, suc, ◌==◌, nat_lt, Bool, true, false, not, ◌&&◌, ◌||◌, List, []}
use Rattle.std.proofs.Common.{◌∷◌, ◌++◌, length, map, if◌then◌else◌, arith, refl, sym, ap, ap₂, ◌∙◌}
use Rattle.std.proofs.Common.{eqb-true, eq-eqb, leb-true, ◌<◌, ◌≤◌}
use Rattle.std.specs.List.{list_all, list_any}
use Rattle.std.specs.Ordering.{int_eq}
use Rattle.exo_tree.specs.Cells.{same_cell}
use Rattle.exo_tree.specs.Tree.{Control, Datum, Const, Read, Negated, Relu, Plus, Minus, Times, Select}
use Rattle.exo_tree.specs.Tree.{Coord, At, Span, Argument, ControlArg, ConditionArg, Whole, Window}
use Rattle.exo_tree.specs.Tree.{Statement, Assign, Reduce, Config, Pass, If, For, Alloc, View, Call}
use Rattle.exo_tree.specs.Tree.{Param, Block, end, next, Procedure}
use Rattle.exo_tree.specs.Places.{Branch, Main, Else, Path}
use Rattle.exo_tree.specs.Renaming.{binders, binders_below, re_block, re_statement}
use Rattle.exo_meaning.specs.Orders.{Each}
use Rattle.exo_meaning.specs.Renaming.{Renaming}
use Rattle.exo_meaning.specs.Units.{are_distinct, bound_ids}
use Rattle.meaning_laws.specs.Scoped.{has_binder}
use Rattle.meaning_laws.proofs.Substitute.{and_parts}
use Rattle.affine_forms.specs.Forms.{Reading}
use Rattle.inplace_laws.specs.Inline.{is_param}
use Rattle.match_laws.specs.Names.{Names, names_of, extents_of, whole_of}
use Rattle.match_laws.specs.Pairs.{Pair, Numbers, Truths, Binders, Own, Access, Unlike}
use Rattle.match_laws.specs.Pairs.{same_cells, points, step_to, controls_paired}
use Rattle.match_laws.specs.Pairs.{coords_paired, access_paired, data_paired, argument_paired}
use Rattle.match_laws.specs.Pairs.{arguments_paired, blocks_paired, statements_paired}
use Rattle.match_laws.specs.Matched.{Arguments, matched, all_pairs, to}
use Rattle.match_laws.specs.MatchedFits.{Fits, given_names}
use Rattle.match_laws.specs.RenamedCallee.{re_params, re_procedure}
use Rattle.match_laws.specs.RenamedMatch.{re_matched}
use Rattle.match_laws.proofs.MatchedFits.{matched_fits}
use Rattle.match_laws.proofs.RenamedMatch.{match_is_renamed}
use Rattle.match_laws.specs.Inline.MatchLaw.{have_one_id}
use Rattle.match_laws.proofs.OfInline.Meets.{each_split}
use Rattle.call_laws.proofs.OfCalls.OfNames.Renamings.{lists_extend}
use Rattle.call_laws.specs.Replace.BlockIds.{param_ids, TakesBlockIds, BlockIds}

-- ---- the binders that stand against each other

-- of each two, one of them
module _ (side : ℕ → ℕ → ℕ) where
  abbrev pub ids : List Pair → List ℕ
  ids [] = []
  ids (Numbers p whole e g ∷ pairs) = ids pairs
  ids (Truths p whole c d ∷ pairs) = ids pairs
  ids (Binders x y ∷ pairs) = side x y ∷ ids pairs
  ids (Own p x y ∷ pairs) = ids pairs
  ids (Access p x cs y ds ∷ pairs) = ids pairs
  ids (Unlike p ∷ pairs) = ids pairs

  joined : (xs ys : List Pair) → ids (xs ++ ys) ≡ ids xs ++ ids ys
  joined [] ys = refl
  joined (Numbers p whole e g ∷ xs) ys = joined xs ys
  joined (Truths p whole c d ∷ xs) ys = joined xs ys
  joined (Binders x y ∷ xs) ys = ap (λ zs. side x y ∷ zs) (joined xs ys)
  joined (Own p x y ∷ xs) ys = joined xs ys
  joined (Access p x cs y ds ∷ xs) ys = joined xs ys
  joined (Unlike p ∷ xs) ys = joined xs ys

  both : (xs ys : List Pair) (is js : List ℕ) → ids xs ≡ is → ids ys ≡ js
      → ids (xs ++ ys) ≡ is ++ js
  both xs ys is js h k = joined xs ys ∙ ap₂ ◌++◌ h k

  either : (t : Bool) (xs ys : List Pair) → ids xs ≡ [] → ids ys ≡ []
      → ids (if t then xs else ys) ≡ []
  either true xs ys h k = h
  either false xs ys h k = k

  module _ (params bound : ℕ → Bool) (ours theirs : Names) where
    controls_none : (p : Path) (es gs : List Control)
        → ids (controls_paired params bound ours theirs p es gs) ≡ []
    controls_none p [] [] = refl
    controls_none p [] (g ∷ gs) = refl
    controls_none p (e ∷ es) [] = refl
    controls_none p (e ∷ es) (g ∷ gs) = controls_none p es gs

    coords_none : (p : Path) (cs ds : List Coord)
        → ids (coords_paired params bound ours theirs p cs ds) ≡ []
    coords_none p [] [] = refl
    coords_none p [] (d ∷ ds) = refl
    coords_none p (c ∷ cs) [] = refl
    coords_none p (At e ∷ cs) (At g ∷ ds) = coords_none p cs ds
    coords_none p (At e ∷ cs) (Span g h ∷ ds) = refl
    coords_none p (Span e f ∷ cs) (At g ∷ ds) = refl
    coords_none p (Span e f ∷ cs) (Span g h ∷ ds) = coords_none p cs ds

    chosen_none : (s t u : Bool) (p : Path) (access own : List Pair) → ids access ≡ []
        → ids own ≡ []
        → ids (if s then (if t then (if u then Unlike p ∷ [] else access) else own)
        else Unlike p ∷ []) ≡ []
    chosen_none false t u p access own h k = refl
    chosen_none true false u p access own h k = k
    chosen_none true true false p access own h k = h
    chosen_none true true true p access own h k = refl

    access_none : (p : Path) (x : ℕ) (cs : List Coord) (y : ℕ) (ds : List Coord)
        → ids (access_paired params bound ours theirs p x cs y ds) ≡ []
    access_none p x cs y ds =
        chosen_none (same_cells (ours x) (theirs y)) (params x) (bound y) p
        (Access p x cs y ds ∷ []) (Own p x y ∷ coords_paired params bound ours theirs p cs ds) refl
        (coords_none p cs ds)

    abbrev of_data : Path → Datum → Datum → List Pair
    of_data = data_paired params bound ours theirs

    data_none : (p : Path) (a b : Datum) → ids (data_paired params bound ours theirs p a b) ≡ []
    data_none p (Const m) (Const n) = either (int_eq m n) [] (Unlike p ∷ []) refl refl
    data_none p (Read x is) (Read y js) = access_none p x (points is) y (points js)
    data_none p (Negated a) (Negated b) = data_none p a b
    data_none p (Relu a) (Relu b) = data_none p a b
    data_none p (Plus a b) (Plus c d) =
        both (of_data p a c) (of_data p b d) [] [] (data_none p a c) (data_none p b d)
    data_none p (Minus a b) (Minus c d) =
        both (of_data p a c) (of_data p b d) [] [] (data_none p a c) (data_none p b d)
    data_none p (Times a b) (Times c d) =
        both (of_data p a c) (of_data p b d) [] [] (data_none p a c) (data_none p b d)
    data_none p (Select a b c d) (Select k l m n) =
        both ((of_data p a k ++ of_data p b l) ++ of_data p c m) (of_data p d n) [] []
        (both (of_data p a k ++ of_data p b l) (of_data p c m) [] []
        (both (of_data p a k) (of_data p b l) [] [] (data_none p a k) (data_none p b l))
        (data_none p c m)) (data_none p d n)
    data_none p a b = refl

    argument_none : (p : Path) (whole : Bool) (a b : Argument)
        → ids (argument_paired params bound ours theirs p whole a b) ≡ []
    argument_none p whole (ControlArg e) (ControlArg d) = refl
    argument_none p whole (ConditionArg c) (ConditionArg d) = refl
    argument_none p whole (Whole x) (Whole y) =
        chosen_none (same_cells (ours x) (theirs y)) (params x) (bound y) p
        (Access p x (whole_of (extents_of (ours x))) y (whole_of (extents_of (theirs y))) ∷ [])
        (Own p x y ∷ []) refl refl
    argument_none p whole (Whole x) (Window y ds) =
        either (params x)
        (access_paired params bound ours theirs p x (whole_of (extents_of (ours x))) y ds)
        (Unlike p ∷ []) (access_none p x (whole_of (extents_of (ours x))) y ds) refl
    argument_none p whole (Window x cs) (Whole y) =
        either (params x)
        (access_paired params bound ours theirs p x cs y (whole_of (extents_of (theirs y))))
        (Unlike p ∷ []) (access_none p x cs y (whole_of (extents_of (theirs y)))) refl
    argument_none p whole (Window x cs) (Window y ds) = access_none p x cs y ds
    argument_none p whole a b = refl

    arguments_none : (p : Path) (as' bs : List Argument)
        → ids (arguments_paired params bound ours theirs p as' bs) ≡ []
    arguments_none p [] [] = refl
    arguments_none p [] (b ∷ bs) = refl
    arguments_none p (a ∷ as') [] = refl
    arguments_none p (a ∷ as') (b ∷ bs) =
        both (argument_paired params bound ours theirs p false a b)
        (arguments_paired params bound ours theirs p as' bs) [] []
        (argument_none p false a b) (arguments_none p as' bs)

-- P: what no pair has where the walk ends
module _ (P : Pair → Type 0) (no : (p : Path) → P (Unlike p) → ⊥) (side : ℕ → ℕ → ℕ) where
  like : (t : Bool) (p : Path) (pairs : List Pair) (is : List ℕ) → ids side pairs ≡ is
      → Each P (if t then pairs else Unlike p ∷ [])
      → ids side (if t then pairs else Unlike p ∷ []) ≡ is
  like true p pairs is e h = e
  like false p pairs is e h = absurd (no p h.0)

module _ (P : Pair → Type 0) (no : (p : Path) → P (Unlike p) → ⊥) (left : Bool)
    (params bound : ℕ → Bool) (ours theirs : Names) where
  abbrev side : ℕ → ℕ → ℕ
  side x y = if left then x else y

  abbrev these : Block → Block → List ℕ
  these b d = if left then binders b else binders d

  abbrev those : Statement → Statement → List ℕ
  those a c = if left then binders_below a else binders_below c

  -- the choice goes into the parts
  chosen_joined : (t : Bool) (as' bs cs ds : List ℕ)
      → (if t then as' else cs) ++ (if t then bs else ds)
      ≡ (if t then as' ++ bs else cs ++ ds)
  chosen_joined true as' bs cs ds = refl
  chosen_joined false as' bs cs ds = refl

  chosen_first : (t : Bool) (x y : ℕ) (is js : List ℕ)
      → (if t then x else y) ∷ (if t then is else js) ≡ (if t then x ∷ is else y ∷ js)
  chosen_first true x y is js = refl
  chosen_first false x y is js = refl

  abbrev no_ids : List ℕ
  no_ids = []

  chosen_end : (t : Bool) → no_ids ≡ (if t then no_ids else no_ids)
  chosen_end true = refl
  chosen_end false = refl

  none : (is : List ℕ) → is ≡ [] → is ≡ (if left then no_ids else no_ids)
  none is e = e ∙ chosen_end left

  one : (x y : ℕ) → side x y ∷ [] ≡ (if left then x ∷ [] else y ∷ [])
  one x y = ap (λ zs. side x y ∷ zs) (chosen_end left) ∙ chosen_first left x y [] []

  stored_none : (p : Path) (x y : ℕ) (is js : List Control) (a b : Datum)
      → ids side (access_paired params bound ours theirs p x (points is) y (points js)
      ++ data_paired params bound ours theirs p a b) ≡ []
  stored_none p x y is js a b = both side
      (access_paired params bound ours theirs p x (points is) y (points js))
      (data_paired params bound ours theirs p a b) [] []
      (access_none side params bound ours theirs p x (points is) y (points js))
      (data_none side params bound ours theirs p a b)

  mutual
    blocks : (under : Path → Path) (branch : Branch) (n : ℕ) (b d : Block)
        → Each P (blocks_paired params bound ours theirs under branch n b d)
        → ids side (blocks_paired params bound ours theirs under branch n b d) ≡ these b d
    blocks under branch n end end h = chosen_end left
    blocks under branch n end (next c d) h = absurd (no _ h.0)
    blocks under branch n (next a b) end h = absurd (no _ h.0)
    blocks under branch n (next a b) (next c d) h =
        let first = statements_paired params bound ours theirs
        (step_to params bound ours theirs under branch n) a c in
        let rest = blocks_paired params bound ours theirs under branch (suc n) b d in
        let k = each_split P first rest h in
        both side first rest (those a c) (these b d)
        (statements (step_to params bound ours theirs under branch n) a c k.0)
        (blocks under branch (suc n) b d k.1)
        ∙ chosen_joined left (binders_below a) (binders b) (binders_below c) (binders d)

    statements : (at : Path → Path) (a c : Statement)
        → Each P (statements_paired params bound ours theirs at a c)
        → ids side (statements_paired params bound ours theirs at a c) ≡ those a c
    statements at (Assign x is e) (Assign y js d) h = none _ (stored_none (at []) x y is js e d)
    statements at (Reduce x is e) (Reduce y js d) h = none _ (stored_none (at []) x y is js e d)
    statements at (Config f a) (Config g b) h =
        like P no side (f == g) (at []) (argument_paired params bound ours theirs (at []) true a b)
        (if left then no_ids else no_ids)
        (none _ (argument_none side params bound ours theirs (at []) true a b)) h
    statements at Pass Pass h = chosen_end left
    statements at (If t a b) (If r c d) h =
        let main = blocks_paired params bound ours theirs at Main 0 a c in
        let other = blocks_paired params bound ours theirs at Else 0 b d in
        let k = each_split P main other h.1 in
        both side main other (these a c) (these b d) (blocks at Main 0 a c k.0)
        (blocks at Else 0 b d k.1)
        ∙ chosen_joined left (binders a) (binders b) (binders c) (binders d)
    statements at (For i lo hi b) (For j l u d) h =
        ap (λ zs. side i.id j.id ∷ zs) (blocks at Main 0 b d h.1.1.1)
        ∙ chosen_first left i.id j.id (binders b) (binders d)
    statements at (Alloc x cell dims memory) (Alloc y type extents store) h =
        like P no side (same_cell cell type && (memory == store)) (at [])
        (controls_paired params bound ours theirs (at []) dims extents ++ Binders x.id y.id ∷ [])
        (if left then x.id ∷ [] else y.id ∷ [])
        (both side (controls_paired params bound ours theirs (at []) dims extents)
        (Binders x.id y.id ∷ []) [] (side x.id y.id ∷ [])
        (controls_none side params bound ours theirs (at []) dims extents) refl
        ∙ one x.id y.id) h
    statements at (View w x cs) (View v y ds) h =
        both side (access_paired params bound ours theirs (at []) x cs y ds)
        (Binders w.id v.id ∷ []) [] (side w.id v.id ∷ [])
        (access_none side params bound ours theirs (at []) x cs y ds) refl
        ∙ one w.id v.id
    statements at (Call k as') (Call m bs) h =
        like P no side (k == m) (at []) (arguments_paired params bound ours theirs (at []) as' bs)
        (if left then no_ids else no_ids)
        (none _ (arguments_none side params bound ours theirs (at []) as' bs)) h
    statements at a c h = absurd (no _ h.0)

-- ---- of a match

module _ (at : Reading) (theirs : Names) (block : Block) (q : Procedure) (args : List Argument)
    (e : matched at theirs block q ≡ Arguments args) where
  pub pairs_are : (left : Bool)
      → ids (λ x y. if left then x else y) (all_pairs at theirs block q)
      ≡ (if left then binders q.body else binders block)
  pairs_are left =
      blocks (Fits at (to at theirs block q) (given_names at theirs block q args)) (λ p h. h) left
      (is_param q) (has_binder block) (names_of q) theirs (λ path. path) Main 0 q.body block
      (matched_fits at theirs block q args e).fits

-- as many on one side as on the other
same_length : (side other : ℕ → ℕ → ℕ) (pairs : List Pair)
    → length (ids side pairs) ≡ length (ids other pairs)
same_length side other [] = refl
same_length side other (Numbers p whole e g ∷ pairs) = same_length side other pairs
same_length side other (Truths p whole c d ∷ pairs) = same_length side other pairs
same_length side other (Binders x y ∷ pairs) = ap suc (same_length side other pairs)
same_length side other (Own p x y ∷ pairs) = same_length side other pairs
same_length side other (Access p x cs y ds ∷ pairs) = same_length side other pairs
same_length side other (Unlike p ∷ pairs) = same_length side other pairs

heads_same : (x y : ℕ) (xs ys : List ℕ) → x ∷ xs ≡ y ∷ ys → x ≡ y
heads_same x y xs ys e = cc

tails_same : (x y : ℕ) (xs ys : List ℕ) → x ∷ xs ≡ y ∷ ys → xs ≡ ys
tails_same x y xs ys e = cc

one_id : (pairs : List Pair) → ids (λ x y. x) pairs ≡ ids (λ x y. y) pairs
    → have_one_id pairs ≡ true
one_id [] e = refl
one_id (Numbers p whole c g ∷ pairs) e = one_id pairs e
one_id (Truths p whole c d ∷ pairs) e = one_id pairs e
one_id (Binders x y ∷ pairs) e =
    ap₂ (λ s t. s && t)
    (eq-eqb x y (heads_same x y (ids (λ x y. x) pairs) (ids (λ x y. y) pairs) e))
    (one_id pairs (tails_same x y (ids (λ x y. x) pairs) (ids (λ x y. y) pairs) e))
one_id (Own p x y ∷ pairs) e = one_id pairs e
one_id (Access p x cs y ds ∷ pairs) e = one_id pairs e
one_id (Unlike p ∷ pairs) e = one_id pairs e

-- ---- binders of the renamed body

mapped : (f : ℕ → ℕ) (xs ys : List ℕ) → map f (xs ++ ys) ≡ map f xs ++ map f ys
mapped f [] ys = refl
mapped f (x ∷ xs) ys = ap (λ zs. f x ∷ zs) (mapped f xs ys)

module _ (f : ℕ → ℕ) where
  mutual
    pub binders_re : (b : Block) → binders (re_block f b) ≡ map f (binders b)
    binders_re end = refl
    binders_re (next a b) =
        ap₂ ◌++◌ (below_re a) (binders_re b) ∙ sym (mapped f (binders_below a) (binders b))

    below_re : (a : Statement) → binders_below (re_statement f a) ≡ map f (binders_below a)
    below_re (Assign x is e) = refl
    below_re (Reduce x is e) = refl
    below_re (Config k a) = refl
    below_re Pass = refl
    below_re (If c a b) =
        ap₂ ◌++◌ (binders_re a) (binders_re b) ∙ sym (mapped f (binders a) (binders b))
    below_re (For i lo hi b) = ap (λ zs. f i.id ∷ zs) (binders_re b)
    below_re (Alloc x cell dims memory) = refl
    below_re (View w x cs) = refl
    below_re (Call k args) = refl

params_re : (r : Renaming) (ps : List Param)
    → map (λ (p : Param). p.binder.id) (re_params r ps)
    ≡ map r.to (map (λ (p : Param). p.binder.id) ps)
params_re r [] = refl
params_re r (p ∷ ps) = ap (λ zs. r.to p.binder.id ∷ zs) (params_re r ps)

params_mapped : (f : ℕ → ℕ) (ps : List Param)
    → map (λ (p : Param). f p.binder.id) ps ≡ map f (map (λ (p : Param). p.binder.id) ps)
params_mapped f [] = refl
params_mapped f (p ∷ ps) = ap (λ zs. f p.binder.id ∷ zs) (params_mapped f ps)

-- ---- the new ids

abbrev Among : List ℕ → ℕ → Bool
Among xs x = list_any (λ y. x == y) xs

other : (x y : ℕ) → (x ≡ y → ⊥) → (x == y) ≡ false
other x y h = go (x == y) refl
  where
    go : (t : Bool) → (x == y) ≡ t → t ≡ false
    go true e = absurd (h (eqb-true x y e))
    go false e = refl

less : (m n : ℕ) → nat_lt m n ≡ true → m < n
less m n h = leb-true (suc m) n h

below_base : (x base : ℕ) (is : List ℕ) → list_all (λ i. nat_lt i base) is ≡ true
    → base ≤ x → Among is x ≡ false
below_base x base [] h k = refl
below_base x base (i ∷ is) h k =
    let p = and_parts (nat_lt i base) (list_all (λ j. nat_lt j base) is) h in
    let low = less i base p.0 in
    ap₂ (λ s t. s || t) (other x i (λ e. omega (arith, low, k))) (below_base x base is p.1 k)

-- a number before all of them
before_all : (x n : ℕ) (ps : List Param) → x < n → Among (param_ids n ps) x ≡ false
before_all x n [] h = refl
before_all x n (p ∷ ps) h =
    ap₂ (λ s t. s || t) (other x n (λ e. omega arith)) (before_all x (suc n) ps (omega arith))

neither : (xs ys : List ℕ) (x : ℕ) → Among xs x ≡ false → Among ys x ≡ false
    → Among (xs ++ ys) x ≡ false
neither [] ys x h k = k
neither (z ∷ xs) ys x h k = go (x == z) h (λ f. neither xs ys x f k)
  where
    go : (t : Bool) → (t || Among xs x) ≡ false
        → (Among xs x ≡ false → Among (xs ++ ys) x ≡ false) → (t || Among (xs ++ ys) x) ≡ false
    go true f g = f
    go false f g = g f

new_distinct : (base n : ℕ) (ps : List Param) (is : List ℕ)
    → base ≤ n
    → list_all (λ i. nat_lt i base) is ≡ true
    → are_distinct is ≡ true
    → are_distinct (param_ids n ps ++ is) ≡ true
new_distinct base n [] is k h d = d
new_distinct base n (p ∷ ps) is k h d =
    ap₂ (λ s t. not s && t)
    (neither (param_ids (suc n) ps) is n (before_all n (suc n) ps (omega arith))
    (below_base n base is h k))
    (new_distinct base (suc n) ps is (omega arith) h d)

ids_long : (n : ℕ) (ps : List Param)
    → length (map (λ (p : Param). p.binder.id) ps) ≡ length (param_ids n ps)
ids_long n [] = refl
ids_long n (p ∷ ps) = ap suc (ids_long (suc n) ps)

long : (xs ys zs ws : List ℕ) → length xs ≡ length zs → length ys ≡ length ws
    → length (xs ++ ys) ≡ length (zs ++ ws)
long [] ys [] ws h k = k
long [] ys (z ∷ zs) ws h k = absurd (omega arith)
long (x ∷ xs) ys [] ws h k = absurd (omega arith)
long (x ∷ xs) ys (z ∷ zs) ws h k = ap suc (long xs ys zs ws (omega arith) k)

-- of two joined lists that are one, with parts of one length
parts_same : (xs ys zs ws : List ℕ) → length xs ≡ length zs → xs ++ ys ≡ zs ++ ws
    → (xs ≡ zs) × (ys ≡ ws)
parts_same [] ys [] ws h e = (refl, e)
parts_same [] ys (z ∷ zs) ws h e = absurd (omega arith)
parts_same (x ∷ xs) ys [] ws h e = absurd (omega arith)
parts_same (x ∷ xs) ys (z ∷ zs) ws h e =
    let rest = parts_same xs ys zs ws (omega arith) (tails_same x z (xs ++ ys) (zs ++ ws) e) in
    (ap₂ ◌∷◌ (heads_same x z (xs ++ ys) (zs ++ ws) e) rest.0, rest.1)

map_long : (f : ℕ → ℕ) (xs : List ℕ) → length (map f xs) ≡ length xs
map_long f [] = refl
map_long f (x ∷ xs) = ap suc (map_long f xs)

-- ---- the law

module _ (at : Reading) (theirs : Names) (block : Block) (q : Procedure) (args : List Argument)
    (base : ℕ) (e : matched at theirs block q ≡ Arguments args)
    (own : are_distinct (bound_ids q) ≡ true) (its : are_distinct (binders block) ≡ true)
    (low : list_all (λ x. nat_lt x base) (binders block) ≡ true) where
  abbrev param_names : List ℕ
  param_names = map (λ (p : Param). p.binder.id) q.params

  abbrev new : List ℕ
  new = param_ids base q.params ++ binders block

  bodies_long : length (binders q.body) ≡ length (binders block)
  bodies_long =
      ap length (sym (pairs_are at theirs block q args e true))
      ∙ same_length (λ x y. x) (λ x y. y) (all_pairs at theirs block q)
      ∙ ap length (pairs_are at theirs block q args e false)

  new_are_distinct : are_distinct new ≡ true
  new_are_distinct = new_distinct base base q.params (binders block) (omega arith) low its

  abbrev extended : (r : Renaming) × (map r.to (bound_ids q) ≡ new)
  extended = lists_extend (bound_ids q) new
      (long param_names (binders q.body) (param_ids base q.params) (binders block)
      (ids_long base q.params) bodies_long) own new_are_distinct

  module _ (r : Renaming) (goes : map r.to (bound_ids q) ≡ new) where
    abbrev renamed : Procedure
    renamed = re_procedure r q

    goes_apart : (map r.to param_names ≡ param_ids base q.params)
        × (map r.to (binders q.body) ≡ binders block)
    goes_apart =
        parts_same (map r.to param_names) (map r.to (binders q.body)) (param_ids base q.params)
        (binders block) (map_long r.to param_names ∙ ids_long base q.params)
        (sym (mapped r.to param_names (binders q.body)) ∙ goes)

    bound_are : bound_ids renamed ≡ new
    bound_are =
        ap₂ ◌++◌ (params_re r q.params ∙ goes_apart.0) (binders_re r.to q.body ∙ goes_apart.1)

    match_stays : matched at theirs block renamed ≡ Arguments args
    match_stays = match_is_renamed r at theirs block q ∙ ap (re_matched r) e

    ids_one : ids (λ x y. x) (all_pairs at theirs block renamed)
        ≡ ids (λ x y. y) (all_pairs at theirs block renamed)
    ids_one =
        pairs_are at theirs block renamed args match_stays true
        ∙ binders_re r.to q.body ∙ goes_apart.1
        ∙ sym (pairs_are at theirs block renamed args match_stays false)

    has_ids : TakesBlockIds at theirs block q args base r
    has_ids = record {
      params = params_mapped r.to q.params ∙ goes_apart.0;
      body = goes_apart.1;
      bound = bound_are;
      distinct = ap are_distinct bound_are ∙ new_are_distinct;
      found = match_stays;
      binders_are_one = one_id (all_pairs at theirs block renamed) ids_one;
    }

pub block_ids : BlockIds
block_ids at theirs block q args base e own its low =
    let r = extended at theirs block q args base e own its low in
    (r.0, has_ids at theirs block q args base e own its low r.0 r.1)
