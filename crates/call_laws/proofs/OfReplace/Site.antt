-- A block that is matched with a procedure of the unit may become a call of it.
use Rattle.std.proofs.Common.{◌≡◌, ◌≤◌, ◌<◌, ℕ, suc, ◌==◌, Bool, true, false, not, ◌||◌, List, []}
use Rattle.std.proofs.Common.{◌∷◌, ◌++◌, length, map, Option, Some, None, arith, refl, sym, ap, ap₂}
use Rattle.std.proofs.Common.{◌∙◌, subst, true≢false, eqb-true, leb-true, nat_lt}
use Rattle.std.specs.Prelude.{slice_get}
use Rattle.std.specs.List.{list_all}
use Rattle.exo_tree.specs.Tree.{Kind, Control, Argument, ControlArg, ConditionArg, Whole, Window}
use Rattle.exo_tree.specs.Tree.{Param, Statement, Call, Block, end, next}
use Rattle.exo_tree.specs.Tree.{joined, Procedure, Program}
use Rattle.exo_tree.specs.Context.{rest_of}
use Rattle.exo_tree.specs.Renaming.{binders, renaming}
use Rattle.exo_meaning.specs.Calls.{Callee, all_given}
use Rattle.exo_meaning.specs.Inputs.{is_buffer_of, IsAdmissible, Refines}
use Rattle.exo_meaning.specs.Orders.{Each}
use Rattle.exo_meaning.specs.Renaming.{Renaming}
use Rattle.exo_meaning.specs.Run.{World, run, unit_world, kinds_of, callees, callee_in}
use Rattle.exo_meaning.specs.Scene.{Scene}
use Rattle.exo_meaning.specs.State.{State}
use Rattle.exo_meaning.specs.Units.{Scope, Sort, ControlName, BufferName, sort_in}
use Rattle.exo_meaning.specs.Units.{has_dimension, field_kind}
use Rattle.exo_meaning.specs.Units.{are_for, is_call, is_statement, bound_ids, are_distinct}
use Rattle.exo_meaning.specs.Units.{IsProcedure}
use Rattle.exo_meaning.specs.Unseen.{in_arguments, in_block as mentions}
use Rattle.exo_meaning.proofs.Frame.{or_parts}
use Rattle.meaning_laws.specs.Context.{ComesTo}
use Rattle.meaning_laws.specs.Copies.{IsFree}
use Rattle.meaning_laws.specs.Scoped.{is_not, is_param, is_scoped, has_binder}
use Rattle.meaning_laws.proofs.Binders.{binder_new, fresh_law}
use Rattle.meaning_laws.proofs.CopiesAtPlaces.{no_param, no_binder}
use Rattle.meaning_laws.proofs.Facts.{or_left, or_right}
use Rattle.meaning_laws.proofs.Fewer as fewer
use Rattle.meaning_laws.proofs.FirstState.{Differ, params_differ, AllMatch, all_match}
use Rattle.meaning_laws.proofs.Names.{if_gives}
use Rattle.meaning_laws.proofs.Numbers.{among, block_among}
use Rattle.meaning_laws.proofs.Scoped.{or_elim, not_true, not_false, both_false}
use Rattle.meaning_laws.proofs.Sound.{AreThere, all_there}
use Rattle.meaning_laws.proofs.Unmentioned.{unmentioned_law}
use Rattle.meaning_laws.proofs.WellFormed.{well_scoped}
use Rattle.affine_forms.specs.Forms.{Reading}
use Rattle.affine_forms.proofs.Values.{and_parts}
use Rattle.check_laws.proofs.OfFacts.Affine.{affine}
use Rattle.inplace_laws.specs.CallInPlace.{AreDistinct, HaveTypes, no_name}
use Rattle.inplace_laws.specs.InPlace.{makes}
use Rattle.inplace_laws.specs.Inline.{inlined, TakesAll, not_own, MayInline}
use Rattle.inplace_laws.specs.Uses.{in_block as uses}
use Rattle.inplace_laws.proofs.Above.{above_law}
use Rattle.match_laws.specs.Names.{Names, names_of, extents_of}
use Rattle.match_laws.specs.Matched.{Matched, Arguments, NoMatch, Undetermined, matched, all_pairs}
use Rattle.match_laws.specs.MatchedFits.{IsMatch}
use Rattle.match_laws.specs.RenamedCallee.{re_params, re_procedure}
use Rattle.match_laws.proofs.MatchedFits.{matched_fits}
use Rattle.match_laws.proofs.RenamedCallee.{same_ids}
use Rattle.match_laws.proofs.RenamedNames.{params_are}
use Rattle.match_laws.specs.Alike.{nameless, nameless_statement}
use Rattle.match_laws.specs.Simplify.SimplifiedBlocks.{IsRead}
use Rattle.match_laws.specs.Simplify.SameControls.{OfArguments}
use Rattle.match_laws.specs.Inline.AtOnce.{Put, puts}
use Rattle.match_laws.specs.Inline.InlineConditions.{IsInlinable, StandThere}
use Rattle.match_laws.specs.Inline.Known.{strides_of, IsOfKnown, Sees, HasExtents, ArgumentHas}
use Rattle.match_laws.specs.Inline.Known.{CallHas, IsReadWith, ReadAlong}
use Rattle.match_laws.specs.Inline.MatchLaw.{dims_of, MayMatch}
use Rattle.match_laws.specs.Inline.Meets.{calls_alike}
use Rattle.match_laws.specs.Inline.MovedIsPut.{are_of_kinds, HasBlockIds}
use Rattle.match_laws.specs.Inline.ReplaceRule.{MayReplace}
use Rattle.match_laws.proofs.OfInline.AtOnce.{puts_keep, Keeps}
use Rattle.match_laws.proofs.OfInline.InlineConditions.{inline_conditions}
use Rattle.match_laws.proofs.OfInline.MatchLaw.{one_id, match_runs}
use Rattle.match_laws.proofs.OfInline.Named.{named_dims, own_params}
use Rattle.match_laws.proofs.OfInline.ReplaceRule as landed
use Rattle.place_laws.specs.Scope.Holes.{roots_at, within}
use Rattle.place_laws.proofs.OfScope.Apart.{renamed_mentions}
use Rattle.place_laws.proofs.OfScope.WellAtPlace.{well_at_place}
use Rattle.step_rules.specs.Rule.{Spot}
use Rattle.step_rules.specs.Lawful.{IsSpot, MayRunIn, callees_for, around, old, world_of, with_block}
use Rattle.step_rules.specs.Lawful.{scope_here}
use Rattle.step_rules.proofs.Replaced.{stands}
use Rattle.call_laws.specs.Calls.Callees.{StandsAt}
use Rattle.call_laws.specs.Calls.Names.Scopes.{bound_at}
use Rattle.call_laws.specs.Calls.Takes.{are_steady}
use Rattle.call_laws.proofs.OfCalls.Callees.{callee_at, callee_keeps_rules}
use Rattle.call_laws.proofs.OfCalls.Caught.{IsUncaught, AreUncaught, caught_mapped, params_uncaught}
use Rattle.call_laws.proofs.OfCalls.Inlinable.{inlined_binders, made_binder, hole_binder, in_rest}
use Rattle.call_laws.proofs.OfCalls.InlineWindow.{not_if}
use Rattle.call_laws.proofs.OfCalls.OfNames.Bound.{scoped_there, bound_or_free, spot_scoped}
use Rattle.call_laws.proofs.OfCalls.OfNames.Bound.{joined_has}
use Rattle.call_laws.proofs.OfCalls.Standing.{all}
use Rattle.call_laws.proofs.OfCalls.Takes.{all_taken}
use Rattle.call_laws.proofs.OfCalls.Uses as used
use Rattle.call_laws.specs.Places.{IsThere, reading_in}
use Rattle.call_laws.specs.Replace.BlockIds.{param_ids, TakesBlockIds}
use Rattle.call_laws.specs.Replace.Rule.{hands_wholes}
use Rattle.call_laws.proofs.Each.{statement_so, each_is_read, on_there}
use Rattle.call_laws.proofs.Entries.{entry_reads, some_is_seen}
use Rattle.call_laws.proofs.Nameless.{of_nameless, each_nameless}
use Rattle.call_laws.proofs.Places.{places_stand}
use Rattle.call_laws.proofs.Spots.{comes_there}
use Rattle.call_laws.proofs.OfReplace.BlockIds.{binders_re, block_ids}
use Rattle.call_laws.proofs.OfReplace.ComesAlike.{comes_as_before}
use Rattle.call_laws.proofs.OfReplace.Extents.{names_plain}
use Rattle.call_laws.proofs.OfReplace.Given.{params_same, name_is}
use Rattle.call_laws.proofs.OfReplace.Matches.{among_mapped, may_match, args_steady, body_clear}
use Rattle.call_laws.proofs.OfReplace.MatchedKinds.{kinds_match}
use Rattle.call_laws.proofs.OfReplace.Neither as neither
use Rattle.call_laws.proofs.OfReplace.PieceIds.{piece_ids}
use Rattle.call_laws.proofs.OfReplace.Tables.{extents_stand}
use Rattle.call_laws.proofs.OfReplace.Wholes.{blocks_are}
use Rattle.check_claims.specs.Arguments.{passed_for}

no : {P : Type 0} → false ≡ true → P
no h = absurd (true≢false (sym h))

-- ---- ids

-- numbers of a list from n on
module _ (r : Renaming) where
  heads : (x y : ℕ) (xs ys : List ℕ) → x ∷ xs ≡ y ∷ ys → x ≡ y
  heads x y xs ys e = cc

  tails : (x y : ℕ) (xs ys : List ℕ) → x ∷ xs ≡ y ∷ ys → xs ≡ ys
  tails x y xs ys e = cc

  from_base : (ps : List Param) (n x : ℕ) → map (λ p. r.to p.binder.id) ps ≡ param_ids n ps
      → is_buffer_of x (re_params r ps) ≡ true → n ≤ x
  from_base [] n x e h = no h
  from_base (p ∷ ps) n x e h =
      or_elim (x == r.to p.binder.id) (is_buffer_of x (re_params r ps)) {P = n ≤ x} h
      (λ f. let i = eqb-true x (r.to p.binder.id) f ∙ heads (r.to p.binder.id) n
      (map (λ (p : Param). r.to p.binder.id) ps) (param_ids (suc n) ps) e in omega (arith, i))
      (λ f. let i = from_base ps (suc n) x
      (tails (r.to p.binder.id) n (map (λ (p : Param). r.to p.binder.id) ps) (param_ids (suc n) ps) e) f in
      omega (arith, i))

  params_differ_still : (ps : List Param) → Differ ps → AreDistinct (re_params r ps)
  params_differ_still [] h = tt
  params_differ_still (p ∷ ps) h = (params_are r ps p.binder.id ∙ h.0, params_differ_still ps h.1)

all_among : (f : ℕ → Bool) (xs : List ℕ) (x : ℕ) → list_all f xs ≡ true → among xs x ≡ true
    → f x ≡ true
all_among f [] x h k = no k
all_among f (y ∷ xs) x h k =
    let p = and_parts (f y) (list_all f xs) h in
    or_elim (x == y) (among xs x) {P = f x ≡ true} k
    (λ e. ap f (eqb-true x y e) ∙ p.0) (λ e. all_among f xs x p.1 e)

first_dimension : (k : ℕ) (o : Option Sort) → has_dimension k o ≡ true → has_dimension 0 o ≡ true
first_dimension k None h = no h
first_dimension k (Some (ControlName kind)) h = no h
first_dimension k (Some (BufferName cell rank dense)) h = some k rank h
  where
    some : (k n : ℕ) → nat_lt k n ≡ true → nat_lt 0 n ≡ true
    some k n h = grind arith

same_arguments : (a b : List Argument) → Arguments a ≡ Arguments b → a ≡ b
same_arguments a b e = cc

-- ---- names given whole in calls

call_nameless : (names : Names) (scene : Scene) (a : Statement) → CallHas names scene a
    → CallHas names scene (nameless_statement a)
call_nameless names scene (Call n those) h = h
call_nameless names scene a h = tt

arguments_have : (names : Names) (scene : Scene) → ((y : ℕ) → HasExtents names scene y)
    → (those : List Argument) → Each (ArgumentHas names scene) those
arguments_have names scene h [] = tt
arguments_have names scene h (Whole y ∷ those) = (h y, arguments_have names scene h those)
arguments_have names scene h (ControlArg e ∷ those) = (tt, arguments_have names scene h those)
arguments_have names scene h (ConditionArg c ∷ those) = (tt, arguments_have names scene h those)
arguments_have names scene h (Window y cs ∷ those) = (tt, arguments_have names scene h those)

call_has : (names : Names) (scene : Scene) (a : Statement) → ((y : ℕ) → HasExtents names scene y)
    → CallHas names scene a
call_has names scene (Call n those) h = arguments_have names scene h those
call_has names scene a h = tt

-- ---- at a spot

module _ (s : Spot) (base k : ℕ) (q : Procedure) (args : List Argument) (is : IsSpot s)
    (below : list_all (λ x. nat_lt x base) (bound_ids s.target.proc) ≡ true)
    (there : slice_get s.target.unit.procedures k ≡ Some q)
    (runs : MayRunIn s.target (with_block s (next (Call k args) end)))
    (found : matched (reading_in s.target.unit s.target.proc) (names_of s.target.proc) (old s) q
    ≡ Arguments args)
    (unused : mentions (has_binder (old s)) (rest_of (around s)) ≡ false)
    (plain : hands_wholes (passed_for q.params args) q.body (old s) ≡ false) where
  abbrev unit : Program
  unit = s.target.unit

  abbrev p : Procedure
  p = s.target.proc

  abbrev fields : ℕ → Option Kind
  fields = field_kind unit.fields

  abbrev memories : ℕ
  memories = length unit.memories

  abbrev kinds : ℕ → Kind
  kinds = kinds_of unit.fields

  abbrev ps : List Procedure
  ps = unit.procedures

  abbrev called : ℕ → Option Callee
  called = callees_for s.target

  abbrev call : Block
  call = next (Call k args) end

  abbrev scope : Scope
  scope = scope_here s

  abbrev root : ℕ → ℕ
  root = roots_at (around s) (λ x. x)

  abbrev bound : ℕ → Bool
  bound = bound_at (around s) (is_param p)

  abbrev at : Reading
  at = reading_in unit p

  abbrev theirs : Names
  theirs = names_of p

  abbrev known : ℕ → Bool
  known x = has_dimension 0 (sort_in scope x)

  -- ---- the callee and the call

  stands_at : StandsAt ps k q
  stands_at = callee_at ps k q there

  abbrev above : World
  above = unit_world kinds stands_at.before

  kept : (table : List Callee) × IsProcedure fields memories (slice_get table) q
  kept = callee_keeps_rules unit.fields memories [] ps k q is.target.unit.procedures there

  callee_is : called k ≡ Some (callee_in above q)
  callee_is =
      ap₂ (λ (us : List Procedure) (j : ℕ). slice_get (callees kinds [] us) j) stands_at.parts
      (sym stands_at.count)
      ∙ (above_law kinds stands_at.before q stands_at.behind).1

  call_well : is_statement fields memories called scope root (Call k args) ≡ true
  call_well =
      (and_parts (is_statement fields memories called scope root (Call k args)) true
      (well_at_place fields memories called (with_block s call) (around s) call runs.procedure refl).piece).0

  fit : are_for fields scope q.params args ≡ true
  fit =
      let it : is_call fields scope root (Some (callee_in above q)) args ≡ true
      = subst (λ o. is_call fields scope root o args ≡ true) callee_is call_well in
      (and_parts (are_for fields scope q.params args) _ it).0

  said : in_arguments (is_not bound) args ≡ false
  said =
      let scoped : is_scoped bound (next (Call k args) (rest_of (around s))) ≡ true
      = scoped_there (around s) call (is_param p)
      (well_scoped fields memories called (with_block s call) runs.procedure).0 in
      not_true (in_arguments (is_not bound) args)
      (and_parts (not (in_arguments (is_not bound) args)) _ scoped).0

  read : OfArguments (IsOfKnown known) args
  read =
      statement_so fields scope (IsOfKnown known) (λ reads e h.
      affine fields reads scope (strides_of known) (record {
        variables = λ x i. refl;
        of_fields = λ f i. refl;
        strides = λ x j i. first_dimension j (sort_in scope x)
            (and_parts reads.strides (has_dimension j (sort_in scope x)) i).1;
      }) e h) memories called root (Call k args) call_well

  -- ---- the callee with the ids of the block

  ids : (are_distinct (binders (old s)) ≡ true)
      × (list_all (λ x. nat_lt x base) (binders (old s)) ≡ true)
  ids = piece_ids p s.piece.count s.piece.path s.opened base is.opens is.runs.procedure.distinct below

  its : (r : Renaming) × TakesBlockIds at theirs (old s) q args base r
  its = block_ids at theirs (old s) q args base found kept.1.distinct ids.0 ids.1

  abbrev r : Renaming
  r = its.0

  abbrev fresh : Procedure
  fresh = re_procedure r q

  abbrev par : ℕ → Bool
  par x = is_buffer_of x fresh.params

  abbrev put : Put
  put = puts fresh.params args

  it : IsMatch at theirs (old s) fresh args
  it = matched_fits at theirs (old s) fresh args its.1.found

  own_ids : HasBlockIds at theirs (old s) fresh
  own_ids x y h = one_id (all_pairs at theirs (old s) fresh) x y its.1.binders_are_one h

  -- the body binds what the block binds
  same_binders : (x : ℕ) → has_binder fresh.body x ≡ has_binder (old s) x
  same_binders x =
      sym (block_among fresh.body x)
      ∙ ap (λ is. among is x) (binders_re r.to q.body ∙ its.1.body)
      ∙ block_among (old s) x

  renamed_binder : (x : ℕ) → has_binder fresh.body (r.to x) ≡ has_binder q.body x
  renamed_binder x =
      sym (block_among fresh.body (r.to x))
      ∙ ap (λ is. among is (r.to x)) (binders_re r.to q.body)
      ∙ among_mapped r (binders q.body) x
      ∙ block_among q.body x

  binder_below : (x : ℕ) → has_binder (old s) x ≡ true → nat_lt x base ≡ true
  binder_below x h =
      all_among (λ y. nat_lt y base) (binders (old s)) x ids.1 (block_among (old s) x ∙ h)

  param_late : (x : ℕ) → par x ≡ true → base ≤ x
  param_late x h = from_base r q.params base x its.1.params h

  late_not_bound : (x : ℕ) → base ≤ x → bound x ≡ false
  late_not_bound x from =
      (bound_or_free p (around s) x).1
      (fresh_law p (around s) (old s) x (no_param base p below x from)
      (ap (λ b. has_binder b x) (sym is.body) ∙ no_binder base p below x from))

  late_no_binder : (x : ℕ) → base ≤ x → has_binder (old s) x ≡ false
  late_no_binder x from =
      not_if (has_binder (old s) x) (λ e.
      let less : x < base = leb-true (suc x) base (binder_below x e) in omega (arith, less, from))

  binder_not_bound : (x : ℕ) → has_binder (old s) x ≡ true → bound x ≡ false
  binder_not_bound x h =
      binder_new bound (joined (old s) (rest_of (around s))) x (spot_scoped s is)
      (joined_has (old s) (rest_of (around s)) x
      ∙ or_left (has_binder (old s) x) (has_binder (rest_of (around s)) x) h)

  apart : in_arguments par args ≡ false
  apart =
      (or_parts (in_arguments par args) false
      (fewer.block (is_not bound) par less call (both_false (in_arguments (is_not bound) args) false said refl))).0
    where
      less : (x : ℕ) → is_not bound x ≡ false → par x ≡ false
      less x h =
          not_if (par x) (λ e. true≢false (sym (not_false (bound x) h) ∙ late_not_bound x (param_late x e)))

  -- ---- the match

  knowns : (x : ℕ) → has_dimension 0 (sort_in scope x) ≡ true → known x ≡ true
  knowns x h = h

  names_keep : Keeps par put
  names_keep = puts_keep par fresh.params args (λ y h. h)

  kinds_fit : are_of_kinds fresh.params args ≡ true
  kinds_fit = kinds_match at theirs (old s) fresh args its.1.found

  calls : calls_alike put fresh.body (old s) ≡ true
  calls =
      blocks_are put r.to (passed_for q.params args) (λ x. name_is r q.params args x kinds_fit) q.body
      (old s) plain

  distinct : AreDistinct fresh.params
  distinct = params_differ_still r q.params (params_differ fields memories q.params [] kept.1.params)

  named : (x : ℕ) (dims : List Control) → dims_of fresh.params x ≡ Some dims
      → extents_of (names_of fresh x) ≡ dims
  named =
      named_dims fresh (own_params fresh.body fresh.params distinct (λ x h.
      same_binders x ∙ late_no_binder x (param_late x h)))

  may : MayMatch at theirs (old s) fresh args known
  may =
      may_match fields memories (slice_get kept.0) called scope root known knowns r at theirs
      (names_plain fields memories called known p is.runs.procedure) (old s) q args kept.1 is.well.piece
      fit read its.1.found its.1.binders_are_one apart named calls

  steady : are_steady args ≡ true
  steady =
      args_steady fields memories (slice_get kept.0) called scope root known knowns r at theirs
      (names_plain fields memories called known p is.runs.procedure) (old s) q args kept.1 is.well.piece
      fit read its.1.found its.1.binders_are_one

  -- ---- runs

  sees : (first u : State) → IsAdmissible (world_of s) p first
      → ComesTo (world_of s) (old s) (around s) first u → Sees known u.scene
  sees first u good come x h =
      some_is_seen (u.scene.views x)
      ((places_stand unit p (around s) (old s) u (comes_there s is first u good come)).seen x 0 h)

  reads : (first u : State) → IsAdmissible (world_of s) p first
      → ComesTo (world_of s) (old s) (around s) first u
      → ReadAlong (world_of s) at theirs (nameless (old s)) u
  reads first u good come =
      let here : IsThere unit p (around s) (old s) u = comes_there s is first u good come in
      each_nameless (world_of s) (IsReadWith at theirs)
      (λ scene a h. ((h.0.0, of_nameless (IsRead at scene) a h.0.1), call_nameless theirs scene a h.1))
      (old s) u (λ c d v same after.
      let inner = on_there unit p (around s) (old s) u here c (next d end) v same after in (
        (
          entry_reads unit p (within (around s) c) (next d end) v inner,
          each_is_read unit p (around s) (old s) u here c d v same after,
        ),
        call_has theirs v.scene d (extents_stand unit p (within (around s) c) (next d end) v inner),
      ))

  abbrev body : Block
  body = inlined fresh.params args fresh.body

  alike : (first u : State) → IsAdmissible (world_of s) p first
      → ComesTo (world_of s) (old s) (around s) first u
      → run (world_of s) (old s) u ≡ run (world_of s) body u
  alike first u good come =
      match_runs (world_of s) at theirs (old s) fresh args known u its.1.found may
      (sees first u good come) (reads first u good come)

  -- ---- names

  abbrev own : ℕ → Bool
  own x = has_binder (old s) x || par x

  own_param : (x : ℕ) → par x ≡ true → own x ≡ true
  own_param x h = or_right (has_binder (old s) x) (par x) h

  own_binder : (x : ℕ) → has_binder (old s) x ≡ true → own x ≡ true
  own_binder x h = or_left (has_binder (old s) x) (par x) h

  own_free : (x : ℕ) → own x ≡ true → IsFree p (around s) x
  own_free x h =
      (bound_or_free p (around s) x).0
      (or_elim (has_binder (old s) x) (par x) {P = bound x ≡ false} h (binder_not_bound x)
      (λ e. late_not_bound x (param_late x e)))

  names_own : uses (not_own own) no_name fresh.body ≡ false
  names_own =
      used.block (not_own own) fresh.body
      ∙ renamed_mentions (not_own own) r q.body
      ∙ unmentioned_law (is_param q) (λ x. not_own own (r.to x)) q.body
      (well_scoped fields memories (slice_get kept.0) q kept.1).0
      (λ x h. ap not (own_param (r.to x) (params_are r q.params x ∙ h)))
      (λ x h. ap not (own_binder (r.to x) (sym (same_binders (r.to x)) ∙ renamed_binder x ∙ h)))

  rest_lacks : mentions par (rest_of (around s)) ≡ false
  rest_lacks =
      in_rest par (old s) (rest_of (around s))
      (unmentioned_law bound par (joined (old s) (rest_of (around s))) (spot_scoped s is)
      (λ x h. not_if (par x) (λ e. true≢false (sym h ∙ late_not_bound x (param_late x e))))
      (λ x h. not_if (par x) (λ e. true≢false (sym h ∙ hole_binder (around s) (old s) x
      (ap (λ b. has_binder b x) (sym is.body) ∙ no_binder base p below x (param_late x e))))))

  -- ---- the arguments

  copied : (i : ℕ) → is_param q i ≡ true → IsUncaught i q.body → IsUncaught (r.to i) fresh.body
  copied i own h =
      caught_mapped (renaming r.to) i (r.to i) (λ x. same_ids r x i) (λ x. same_ids r x.id i) q.body ∙ h

  uncaught : AreUncaught r.to q.params fresh.body
  uncaught =
      params_uncaught fields memories (slice_get kept.0) (λ x. x) q.body r.to fresh.body (is_param q)
      copied q.params [] (params_differ fields memories q.params [] kept.1.params) (λ y h. h) kept.1.body

  takes : TakesAll par fresh.params args fresh.body
  takes =
      subst (λ qs. TakesAll par qs args fresh.body) (params_same r q.params)
      (all_taken par bound
      (λ x h. not_if (par x) (λ e. true≢false (sym h ∙ late_not_bound x (param_late x e))))
      fields scope r.to q.params args fresh.body fit steady said
      (λ y h. late_not_bound (r.to y) (param_late (r.to y) (params_are r q.params y ∙ h)))
      (λ y h. same_binders (r.to y) ∙ late_no_binder (r.to y) (param_late (r.to y) (params_are r q.params y ∙ h)))
      (λ y h. same_binders y
      ∙ not_if (has_binder (old s) y) (λ e. true≢false (sym h ∙ binder_not_bound y e)))
      uncaught)

  -- ---- the call in the place of the body

  gone : mentions par body ≡ false
  gone =
      body_clear fields memories (slice_get kept.0) called scope root known knowns r at theirs
      (names_plain fields memories called known p is.runs.procedure) (old s) q args kept.1 is.well.piece
      fit read its.1.found its.1.binders_are_one apart

  inlinable : IsInlinable own (with_block s body) fresh (around s) args
  inlinable = record {
    names = names_own;
    params = λ x h. (
      own_param x h,
      not_if (makes fresh.body x) (λ m. true≢false
          (sym (made_binder fresh.body x m) ∙ same_binders x ∙ late_no_binder x (param_late x h))),
    );
    distinct = distinct;
    takes = takes;
    free = own_free;
    others = λ x h.
        let parts = or_parts (has_binder (old s) x) (par x) h in
        (parts.1, inlined_binders fresh.params args fresh.body x ∙ same_binders x ∙ parts.0);
    gone = gone;
    rest = neither.block (has_binder (old s)) par (rest_of (around s)) unused rest_lacks;
  }

  stand_there : StandThere (world_of s) (with_block s body) fresh (around s) body args
  stand_there first u good come gs e =
      let was = comes_as_before (world_of s) p s.opened body alike first u good come in
      let st = stands s is first u was.0 was.1 in
      subst (λ qs. HaveTypes u qs gs) (params_same r q.params)
      (all fields (world_of s).kinds scope u st.sorted r.to q.params gs
      (if_gives (AllMatch fields (world_of s).kinds scope u st.sorted q.params) (all_given u.scene args) gs
      (all_match fields (world_of s).kinds scope u st.sorted q.params args fit) e)
      (if_gives (AreThere u) (all_given u.scene args) gs (all_there u args st.sound) e))

  may_inline : MayInline (world_of s) above own (with_block s body) fresh (around s) body k args
  may_inline =
      subst (λ (us : List Procedure). MayInline (unit_world kinds us) above own (with_block s body) fresh
      (around s) body k args) (sym stands_at.parts)
      (subst (λ (j : ℕ). MayInline (unit_world kinds (stands_at.before ++ q ∷ stands_at.behind)) above own
      (with_block s body) fresh (around s) body j args) stands_at.count
      (inline_conditions kinds stands_at.before q stands_at.behind r own (with_block s body) (around s)
      body args inlinable
      (subst (λ (us : List Procedure). StandThere (unit_world kinds us) (with_block s body) fresh (around s)
      body args) stands_at.parts stand_there)))

  may_replace : MayReplace (world_of s) above own at theirs p fresh k s.opened args known
  may_replace = record {
    found = its.1.found;
    match = may;
    read = λ first u good come. (sees first u good come, reads first u good come);
    call = may_inline;
  }

  pub call_refines : Refines (world_of s) p (with_block s call) []
  call_refines =
      landed.replace_rule kinds ps p s.piece.path s.piece.count s.opened at theirs q k call above own
      fresh known is.opens
      (ap (λ (m : Matched). elim m as (λ m. Option Block) [
        | Arguments those ↦ Some (next (Call k those) end)
        | NoMatch path ↦ None
        | Undetermined x ↦ None
      ]) found)
      (λ those e. subst (λ z. MayReplace (world_of s) above own at theirs p fresh k s.opened z known)
      (same_arguments args those (sym found ∙ e)) may_replace)
