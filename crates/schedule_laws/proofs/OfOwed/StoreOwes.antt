-- A version with another store owes what the earlier one owes elsewhere, and its own store's claims.
use Rattle.std.proofs.Common.{◌≡◌, ◌++◌, ◌&&◌, ◌==◌, ℕ, true, false, List, [], ◌∷◌, length, Option, None, Some}
use Rattle.std.proofs.Common.{refl, sym, ap, ◌∙◌, subst, eq-eqb}
use Rattle.std.proofs.Common.{option_and_then}
use Rattle.std.specs.List.{list_any}
use Rattle.std.proofs.lemmas.Bool.{and_from}
use Rattle.std.proofs.lemmas.Grind.{flat_map-append}
use Rattle.exo_tree.specs.Tree.{Statement, Block, end, next, Procedure, Program}
use Rattle.exo_tree.specs.Context.{fill}
use Rattle.exo_tree.specs.Places.{Branch, Main, Else, Path, Opened, same_branch, same_path, first_of, statement_at}
use Rattle.exo_meaning.specs.Orders.{Each}
use Rattle.meaning_laws.specs.Grown.{calls_below}
use Rattle.meaning_laws.specs.Places.{OpenedLaw}
use Rattle.meaning_laws.specs.WellFormed.{CallsAreBelow}
use Rattle.affine_places.specs.Roots.{roots_of}
use Rattle.affine_systems.specs.Outcomes.{Owed}
use Rattle.text_show.specs.Words.{words_of}
use Rattle.check_claims.specs.Claim.{Claim, Placed}
use Rattle.check_claims.specs.Extents.{extents_of}
use Rattle.check_claims.specs.Claims.{own_claims, placed_at, param_claims, block_claims, procedure_claims, claims_of}
use Rattle.bounds_check.specs.Limits.{are_within}
use Rattle.bounds_check.specs.Obligations.{owed_for, owed_for_all, obligations_of, first_fault, list_fault}
use Rattle.tree_laws.specs.Findings.Versions.{with_version, ProcedureLaw}
use Rattle.schedule_laws.specs.Owed.Renamed.{renamed}
use Rattle.schedule_laws.specs.Owed.Stores.{StoreChanged, claims_there, owed_there, stands_at}
use Rattle.schedule_laws.specs.Owed.Stores.{with_others_there, owed_with_store, OwesItsStore}
use Rattle.schedule_laws.specs.Owed.Stores.{ChangedStoresOweTheirOwn}
use Rattle.schedule_laws.proofs.OfOwed.Alike.{SaysTheSame, says_through, all_owed_same}
use Rattle.schedule_laws.proofs.OfOwed.Alike.{claim_fault_same}
use Rattle.schedule_laws.proofs.OfOwed.Claims.{claims_same}
use Rattle.schedule_laws.proofs.OfOwed.Each.{each_join, each_parts, each_so}
use Rattle.schedule_laws.proofs.OfOwed.Faultless.{IsFaultless, each_faultless, all_faultless}
use Rattle.schedule_laws.proofs.OfOwed.Owed.{says_same, calls_are_below}
use Rattle.schedule_laws.proofs.OfOwed.Parted.{Parted, parted_claims}
use Rattle.schedule_laws.proofs.OfOwed.Plain.{plain, changed_plain}
use Rattle.schedule_laws.proofs.OfOwed.Reopened.{opened_again}
use Rattle.schedule_laws.proofs.OfOwed.Replaced.{all_stand, middle_replaced}
use Rattle.schedule_laws.proofs.OfOwed.StoreSays.{says_stored, words_same, extents_same, roots_same}
use Rattle.schedule_laws.proofs.OfOwed.Trails.{path_is_trail}

-- ---- paths

one_branch : (b : Branch) → same_branch b b ≡ true
one_branch Main = refl
one_branch Else = refl

one_path : (path : Path) → same_path path path ≡ true
one_path [] = refl
one_path (s ∷ path) =
    and_from (same_branch s.branch s.branch && (s.index == s.index)) (same_path path path)
    (and_from (same_branch s.branch s.branch) (s.index == s.index) (one_branch s.branch)
    (eq-eqb s.index s.index refl)) (one_path path)

all_there : (path : Path) (claims : List Claim)
    → Each (λ (c : Placed). same_path c.place path ≡ true) (placed_at path claims)
all_there path [] = tt
all_there path (c ∷ cs) = (one_path path, all_there path cs)

-- ---- the version behind the procedures

module _ (opens : OpenedLaw) (u : Program) (p : Procedure) (name : List ℕ) (path : Path) (body : Block)
    (below : calls_below (length u.procedures) p.body ≡ true) (changed : StoreChanged path p.body body)
  where
    -- the earlier one by the name of the version, and the version
    abbrev r : Procedure
    r = renamed name p

    abbrev q : Procedure
    q = record r { body = body }

    abbrev v : Program
    v = with_version u q

    abbrev before : Opened
    before = record { around = changed.around; piece = next changed.old end }

    old_body : p.body ≡ fill changed.around (next changed.old end)
    old_body = sym (opens 1 path p.body before changed.opens)

    same : plain body ≡ plain r.body
    same =
        ap plain changed.is
        ∙ (changed_plain changed.around changed.old changed.new changed.old_is changed.new_is
        ∙ ap plain (sym old_body))

    says : SaysTheSame v q u p
    says =
        says_through v q v r u p (says_stored v r body same)
        (says_same opens u (q ∷ []) p name below)

    -- ---- its claims

    abbrev own : Statement → List Claim
    own = own_claims (words_of v q) v (extents_of q) (roots_of q)

    abbrev by_body : Block → List Placed
    by_body b =
        placed_at [] (param_claims (words_of v q) p.params)
        ++ block_claims (words_of v q) v (extents_of q) (roots_of q) [] Main 0 b

    abbrev by_store : Statement → List Placed
    by_store s = by_body (fill changed.around (next s end))

    parted : Parted path own by_store
    parted =
        subst (λ (x : Path). Parted x own by_store)
        (sym (path_is_trail path p.body before changed.opens))
        (parted_claims v (words_of v q) (extents_of q) (roots_of q)
        (param_claims (words_of v q) p.params) changed.around)

    abbrev claims_with : List Placed → List Placed
    claims_with mid = parted.front ++ (mid ++ parted.back)

    new_claims : claims_of v q ≡ claims_with (placed_at path (own changed.new))
    new_claims = ap by_body changed.is ∙ parted.is changed.new changed.new_is

    old_claims : claims_of u p ≡ claims_with (placed_at path (own changed.old))
    old_claims =
        sym (claims_same u (q ∷ []) p name below)
        ∙ ((λ i. procedure_claims (sym (words_same v r body same) i) v
        (sym (extents_same v r body same) i) (sym (roots_same v r body same) i) r)
        ∙ (ap by_body old_body ∙ parted.is changed.old changed.old_is))

    -- of the store
    its_claims : claims_there v q path ≡ placed_at path (own changed.new)
    its_claims =
        ap (λ (o : Option Statement). elim o as (λ o. List Placed) [
          | None ↦ []
          | Some s ↦ placed_at path (own s)
        ]) (ap (statement_at path) changed.is ∙ found)
      where
        found : statement_at path (fill changed.around (next changed.new end)) ≡ Some changed.new
        found =
            ap (λ (x : Option Opened). option_and_then (λ o. first_of o.piece) x)
            (opened_again changed.new path p.body before changed.opens)

    -- ---- what it owes

    abbrev owing : List Placed → List Owed
    owing = owed_for_all v q

    abbrev owed_with : List Owed → List Owed
    owed_with mid = owing parted.front ++ (mid ++ owing parted.back)

    owing_parts : (mid : List Placed) → owing (claims_with mid) ≡ owed_with (owing mid)
    owing_parts mid =
        flat_map-append (owed_for v q) parted.front (mid ++ parted.back)
        ∙ ap (λ (os : List Owed). owing parted.front ++ os)
        (flat_map-append (owed_for v q) mid parted.back)

    old_owed : obligations_of u p ≡ owed_with (owing (placed_at path (own changed.old)))
    old_owed =
        sym (all_owed_same v q u p says (claims_of u p))
        ∙ (ap owing old_claims ∙ owing_parts (placed_at path (own changed.old)))

    new_owed : obligations_of v q ≡ owed_with (owed_there v q path)
    new_owed =
        ap owing new_claims
        ∙ (owing_parts (placed_at path (own changed.new))
        ∙ ap (λ cs. owed_with (owing cs)) (sym its_claims))

    replaced : list_any (stands_at path) (obligations_of u p) ≡ true
        → owed_with_store u p q path ≡ owed_with (owed_there v q path)
    replaced any =
        let mid = owing (placed_at path (own changed.old)) in
        let others = owed_there v q path in
        ap (with_others_there path others) old_owed
        ∙ middle_replaced path others (owing parted.front) mid (owing parted.back)
        (all_stand v q (λ at. same_path at path ≡ false) parted.front parted.before)
        (all_stand v q (λ at. same_path at path ≡ true) (placed_at path (own changed.old))
        (all_there path (own changed.old)))
        (all_stand v q (λ at. same_path at path ≡ false) parted.back parted.behind)
        (subst (λ os. list_any (stands_at path) os ≡ true) old_owed any)

    owes : list_any (stands_at path) (obligations_of u p) ≡ true
        → obligations_of v q ≡ owed_with_store u p q path
    owes any = new_owed ∙ sym (replaced any)

    -- ---- where it is refused

    faultless : list_fault u p ≡ None → first_fault v q [] (claims_there v q path) ≡ None
        → Each (IsFaultless v q) (claims_of v q)
    faultless old its =
        let old_mid = placed_at path (own changed.old) in
        let new_mid = placed_at path (own changed.new) in
        let each_old = subst (Each (IsFaultless u p)) old_claims (each_faultless u p [] (claims_of u p) old) in
        let as_new = λ (c : Placed) (e : IsFaultless u p c). claim_fault_same v q u p says c ∙ e in
        let here = each_so (IsFaultless u p) (IsFaultless v q) (claims_with old_mid) as_new each_old in
        let front = each_parts (IsFaultless v q) parted.front (old_mid ++ parted.back) here in
        let back = each_parts (IsFaultless v q) old_mid parted.back front.1 in
        let mid = subst (Each (IsFaultless v q)) its_claims
        (each_faultless v q [] (claims_there v q path) its) in
        subst (Each (IsFaultless v q)) (sym new_claims)
        (each_join (IsFaultless v q) parted.front (new_mid ++ parted.back) front.0
        (each_join (IsFaultless v q) new_mid parted.back mid back.1))

    pub stored_owes : list_fault u p ≡ None
        → list_any (stands_at path) (obligations_of u p) ≡ true
        → first_fault v q [] (claims_there v q path) ≡ None
        → are_within (owed_with_store u p q path) ≡ true
        → OwesItsStore u p q path
    stored_owes old any its within = record {
      owed = owes any;
      fault =
          all_faultless v q [] (claims_of v q) (faultless old its)
          (subst (λ (os : List Owed). are_within os ≡ true) (sym (owes any)) within);
    }

module _ (opens : OpenedLaw) (calls : CallsAreBelow) (keeps : ProcedureLaw) where
  abbrev Owes : Program → Procedure → Path → Procedure → Type 0
  Owes u p path q =
      list_fault u p ≡ None
      → list_any (stands_at path) (obligations_of u p) ≡ true
      → first_fault (with_version u q) q [] (claims_there (with_version u q) q path) ≡ None
      → are_within (owed_with_store u p q path) ≡ true
      → OwesItsStore u p q path

  pub store_owes : ChangedStoresOweTheirOwn
  store_owes u k p q path version =
      let below = calls_are_below calls keeps u k p version.unit version.place in
      subst (Owes u p path) (sym is) (stored_owes opens u p q.name path q.body below version.changed)
    where
      is : q ≡ record p { name = q.name; body = q.body }
      is = λ i. record {
        name = q.name;
        params = version.head.params i;
        asserts = version.head.asserts i;
        body = q.body;
        template = version.head.template i;
      }
