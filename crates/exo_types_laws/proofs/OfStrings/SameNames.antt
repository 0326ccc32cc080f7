-- The names in scope at a statement are those of the meaning.
use Rattle.std.proofs.Common.{◌≡◌, ℕ, zero, suc, Bool, true, false, List, [], ◌∷◌, Option, Some, None}
use Rattle.std.proofs.Common.{option_map, refl, sym, ap, ap₂, ◌∙◌, subst}
use Rattle.std.specs.Prelude.{slice_get, if◌then◌else◌}
use Rattle.exo_tree.specs.Tree as tree
use Rattle.exo_tree.specs.Tree.{Binder, Statement, Assign, Reduce, Config, Pass, If, For, Alloc, View}
use Rattle.exo_tree.specs.Tree.{Call, Block, end, next, statements, Param, Procedure}
use Rattle.exo_tree.specs.Tree.{ConfigField}
use Rattle.exo_tree.specs.Context.{Here, After, InLoop, InThen, InElse}
use Rattle.exo_tree.specs.Places.{Branch, Main, Else, Path, Opened, parted, past, into}
use Rattle.exo_tree.specs.Places.{opened_in, opened}
use Rattle.exo_meaning.specs.Units.{Named, Scope, is_text, param_sort, with_name, scope_of}
use Rattle.exo_meaning.specs.Units.{scope_after}
use Rattle.meaning_laws.specs.Sorted.{scope_at}
use Rattle.meaning_laws.proofs.Parts.{none_some, map_gives}
use Rattle.text_expressions.specs.Expression.{Tree, number, truth, variable, access, field, stride}
use Rattle.text_expressions.specs.Expression.{relu, select, negative, parens, binary}
use Rattle.rules_names.specs.ExpressionRules.{joins_conditions}
use Rattle.rules_names.specs.Names.{named_in, id_of, id_in}
use Rattle.rules_names.specs.Resolved.{number_of, divisor_of, joined, compared, joined_conditions, control_of}
use Rattle.rules_names.specs.Resolved.{condition_of}
use Rattle.rules_names.specs.Scopes.PlaceScope.{naming_params, naming_after, naming_inside}
use Rattle.rules_names.specs.Scopes.PlaceScope.{scope_behind}
use Rattle.rules_names.specs.Scopes.PlaceScope.{before, scope_inside, scope_along, scope_in}
use Rattle.rules_names.specs.Scopes.PlaceScope as place
use Rattle.exo_types_laws.specs.Strings.Laws.{binders_of, scope_past, SameNamesAtPlace}
use Rattle.exo_types_laws.specs.Strings.Laws.{SameIdsAtPlace, SameControlsAtPlace, SameConditionsAtPlace}

abbrev Same : Scope → Scope → Type 0
Same named scope = binders_of named ≡ binders_of scope

one_more : (x : Binder) (named scope : Scope) → Same named scope
    → x ∷ binders_of named ≡ x ∷ binders_of scope
one_more x named scope h = ap (λ xs. x ∷ xs) h

params_same : (ps : List Param) (named scope : Scope) → Same named scope
    → Same (naming_params ps named) (scope_of scope ps)
params_same [] named scope h = h
params_same (p ∷ ps) named scope h =
    params_same ps (place.naming p.binder named) (with_name scope p.binder (param_sort p.kind))
    (one_more p.binder named scope h)

after_same : (a : Statement) (named scope : Scope) → Same named scope
    → Same (naming_after a named) (scope_after a scope)
after_same (Assign x is e) named scope h = h
after_same (Reduce x is e) named scope h = h
after_same (Config f e) named scope h = h
after_same Pass named scope h = h
after_same (If c a b) named scope h = h
after_same (For i lo hi b) named scope h = h
after_same (Alloc x cell dims memory) named scope h = one_more x named scope h
after_same (View w x cs) named scope h = one_more w named scope h
after_same (Call k args) named scope h = h

-- ---- along a path

-- the scope at what is opened, or behind it
abbrev beside : Bool → Opened → Scope → Scope
beside after o scope =
    if after then scope_past o.piece (scope_at o.around scope) else scope_at o.around scope

-- a walk names what is in scope at what is opened
abbrev Names : Bool → (Scope → Block → Scope) → (Block → Option Opened) → Type 0
Names after walk f =
    (b : Block) (o : Opened) (named scope : Scope)
    → f b ≡ Some o
    → Same named scope
    → Same (walk named b) (beside after o scope)

abbrev here : Block × Block → Opened
here p = record { around = Here p.1; piece = p.0 }

abbrev behind_one : Statement → Opened → Opened
behind_one a o = record { around = After a o.around; piece = o.piece }

abbrev first : Block → Option Opened
first c = option_map here (parted 1 c)

here_names : (after : Bool) (n : ℕ)
    → Names after (λ z b. scope_behind (before after n) z b) (past n first)
here_names after zero end o named scope e h = absurd (none_some e)
here_names false zero (next a b) o named scope e h =
    subst (λ (q : Opened). Same named (scope_at q.around scope)) (is_here a b o e) h
  where
    is_here : (a : Statement) (b : Block) (o : Opened) → Some (here (next a end, b)) ≡ Some o
        → here (next a end, b) ≡ o
    is_here a b o e = cc
here_names true zero (next a b) o named scope e h =
    subst (λ (q : Opened). Same (naming_after a named) (scope_past q.piece (scope_at q.around scope)))
    (is_here a b o e) (after_same a named scope h)
  where
    is_here : (a : Statement) (b : Block) (o : Opened) → Some (here (next a end, b)) ≡ Some o
        → here (next a end, b) ≡ o
    is_here a b o e = cc
here_names after (suc n) end o named scope e h = absurd (none_some e)
here_names false (suc n) (next a b) o named scope e h =
    let p = map_gives (past n first b) (behind_one a) o e in
    subst (λ q. Same (scope_behind n (naming_after a named) b) (beside false q scope)) p.2
    (here_names false n b p.0 (naming_after a named) (scope_after a scope) p.1
    (after_same a named scope h))
here_names true (suc n) (next a b) o named scope e h =
    let p = map_gives (past n first b) (behind_one a) o e in
    subst (λ q. Same (scope_behind (suc n) (naming_after a named) b) (beside true q scope)) p.2
    (here_names true n b p.0 (naming_after a named) (scope_after a scope) p.1
    (after_same a named scope h))

module _ (after : Bool) (walk : Scope → Block → Scope) (f : Block → Option Opened)
    (names : Names after walk f) where
  -- into a branch of a statement
  inside_names : (branch : Branch)
      → Names after (λ z b. scope_inside walk branch z (slice_get (statements b) 0)) (into branch f)
  inside_names Main (next (For i lo hi b) rest) o named scope e h =
      let p =
      map_gives (f b) (λ o. record { around = InLoop i lo hi o.around rest; piece = o.piece }) o e in
      subst (λ q. Same (walk (place.naming i named) b) (beside after q scope)) p.2
      (names b p.0 (place.naming i named) _ p.1 (one_more i named scope h))
  inside_names Main (next (If c a b) rest) o named scope e h =
      let p =
      map_gives (f a) (λ o. record { around = InThen c o.around b rest; piece = o.piece }) o e in
      subst (λ q. Same (walk named a) (beside after q scope)) p.2 (names a p.0 named scope p.1 h)
  inside_names Else (next (If c a b) rest) o named scope e h =
      let p =
      map_gives (f b) (λ o. record { around = InElse c a o.around rest; piece = o.piece }) o e in
      subst (λ q. Same (walk named b) (beside after q scope)) p.2 (names b p.0 named scope p.1 h)
  inside_names branch b o named scope e h = absurd (none_some e)

  past_names : (branch : Branch) (n : ℕ)
      → Names after
      (λ z b. scope_inside walk branch (scope_behind n z b) (slice_get (statements b) n))
      (past n (into branch f))
  past_names branch zero b o named scope e h = inside_names branch b o named scope e h
  past_names branch (suc n) end o named scope e h = absurd (none_some e)
  past_names branch (suc n) (next a b) o named scope e h =
      let p = map_gives (past n (into branch f) b) (behind_one a) o e in
      subst (λ q. Same
      (scope_inside walk branch (scope_behind n (naming_after a named) b)
      (slice_get (statements b) n)) (beside after q scope)) p.2
      (past_names branch n b p.0 (naming_after a named) (scope_after a scope) p.1
      (after_same a named scope h))

along_names : (after : Bool) (path : Path) → Names after (scope_along after path) (opened_in 1 path)
along_names after [] b o named scope e h = absurd (none_some e)
along_names after (s ∷ []) b o named scope e h = here_names after s.index b o named scope e h
along_names after (s ∷ t ∷ path) b o named scope e h =
    past_names after (scope_along after (t ∷ path)) (opened_in 1 (t ∷ path))
    (along_names after (t ∷ path)) t.branch s.index b o named scope e h

-- a procedure has its body alone
in_body : (path : Path) (b : Block) (o : Opened) → opened 1 path b ≡ Some o
    → opened_in 1 path b ≡ Some o
in_body [] b o e = absurd (none_some e)
in_body (s ∷ path) b o e = by s.branch (opened_in 1 (s ∷ path) b) e
  where
    by : (branch : Branch) (found : Option Opened)
        → elim branch as (λ (_ : Branch). Option Opened) [ Main ↦ found | Else ↦ None ] ≡ Some o
        → found ≡ Some o
    by Main found e = e
    by Else found e = absurd (none_some e)

pub same_names_at_place : SameNamesAtPlace
same_names_at_place u k path p o after stands =
    ap (λ q. binders_of (elim q as (λ (q : Option Procedure). Scope) [
      | None ↦ []
      | Some p ↦ scope_in p path after
    ])) stands.procedure
    ∙ along_names after path p.body o (naming_params p.params []) (scope_of [] p.params)
    (in_body path p.body o stands.statement) (params_same p.params [] [] refl)

-- ---- ids

abbrev first_of : List Binder → List ℕ → Option Binder
first_of [] x = None
first_of (b ∷ bs) x = if is_text b.name x then Some b else first_of bs x

named_first : (scope : Scope) (x : List ℕ)
    → option_map (λ (n : Named). n.binder) (named_in scope x) ≡ first_of (binders_of scope) x
named_first [] x = refl
named_first (n ∷ scope) x = by (is_text n.binder.name x) (named_first scope x)
  where
    by : (t : Bool)
        → option_map (λ (n : Named). n.binder) (named_in scope x) ≡ first_of (binders_of scope) x
        → option_map (λ (n : Named). n.binder) (if t then Some n else named_in scope x)
        ≡ (if t then Some n.binder else first_of (binders_of scope) x)
    by true h = refl
    by false h = h

abbrev id_of_binder : Option Binder → ℕ
id_of_binder None = id_of None
id_of_binder (Some b) = b.id

id_is : (o : Option Named) → id_of o ≡ id_of_binder (option_map (λ (n : Named). n.binder) o)
id_is None = refl
id_is (Some n) = refl

same_ids : (named scope : Scope) → Same named scope → (x : List ℕ) → id_in named x ≡ id_in scope x
same_ids named scope h x =
    id_is (named_in named x)
    ∙ ap id_of_binder (named_first named x ∙ ap (λ bs. first_of bs x) h ∙ sym (named_first scope x))
    ∙ sym (id_is (named_in scope x))

pub same_ids_at_place : SameIdsAtPlace
same_ids_at_place u k path p o after x stands =
    same_ids _ _ (same_names_at_place u k path p o after stands) x

-- ---- expressions

module _ (fields : List ConfigField) (named scope : Scope)
    (ids : (x : List ℕ) → id_in named x ≡ id_in scope x) where
  control_same : (e : Tree) → control_of fields named e ≡ control_of fields scope e
  control_same (number n) = refl
  control_same (truth b) = refl
  control_same (variable x) = ap tree.Var (ids x)
  control_same (access x is) = refl
  control_same (field c x) = refl
  control_same (stride x n) = ap (λ y. tree.StrideOf y (number_of n)) (ids x)
  control_same (relu e) = refl
  control_same (select a b c d) = refl
  control_same (negative e) = ap tree.Neg (control_same e)
  control_same (parens e) = control_same e
  control_same (binary operator l r) =
      ap₂ (λ a b. joined operator a b (divisor_of r)) (control_same l) (control_same r)

  condition_same : (e : Tree) → condition_of fields named e ≡ condition_of fields scope e
  condition_same (number n) = refl
  condition_same (truth b) = refl
  condition_same (variable x) = ap tree.Flag (ids x)
  condition_same (access x is) = refl
  condition_same (field c x) = refl
  condition_same (stride x n) = refl
  condition_same (relu e) = refl
  condition_same (select a b c d) = refl
  condition_same (negative e) = refl
  condition_same (parens e) = condition_same e
  condition_same (binary operator l r) =
      ap₂ (λ a b. if joins_conditions operator then a else b)
      (ap₂ (joined_conditions operator) (condition_same l) (condition_same r))
      (ap₂ (compared operator) (control_same l) (control_same r))

pub same_controls_at_place : SameControlsAtPlace
same_controls_at_place u k path p o after fields e stands =
    control_same fields _ _ (λ x. same_ids_at_place u k path p o after x stands) e

pub same_conditions_at_place : SameConditionsAtPlace
same_conditions_at_place u k path p o after fields e stands =
    condition_same fields _ _ (λ x. same_ids_at_place u k path p o after x stands) e
