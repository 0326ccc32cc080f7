-- What tables say once all is noted.
use Rattle.std.proofs.Common.{◌≡◌, ℕ, not, Bool, true, false, cond, List, [], ◌∷◌, Option}
use Rattle.std.proofs.Common.{Some, None, refl, ap, sym, ◌∙◌, eqb, arith, suc, ◌+◌, ◌<◌, length, drop}
use Rattle.std.proofs.Common.{drop-cons, get_or}
use Rattle.std.proofs.lemmas.Bool.{eqb-true}
use Rattle.std.proofs.lemmas.Bool.Decides.{nat_tests}
use Rattle.std.specs.Prelude.{is_some, if◌then◌else◌}
use Rattle.exo_tree.specs.Tree.{Argument, Binder, ParamKind, ControlParam, TensorParam, WindowParam}
use Rattle.exo_tree.specs.Tree.{Param, Procedure, Block}
use Rattle.exo_tree.specs.Passed.{passed_for}
use Rattle.exo_meaning.specs.Scene.{updated}
use Rattle.affine_forms.specs.Forms.{Reading}
use Rattle.match_laws.specs.Names.{Names}
use Rattle.match_laws.specs.Pairs.{Pair}
use Rattle.match_laws.specs.Matched.{argument_in, is_undetermined, first_undetermined}
use Rattle.block_matches.specs.Noted.{earlier, entry, given_by, is_open}

-- an item, and those behind it
pub next_item : {A : Type 0} (xs : List A) (k : ℕ) (a : A) → k < length xs → a ≡ get_or xs k a
    → drop k xs ≡ a ∷ drop (k + 1) xs
next_item xs k a h item =
    let next_k : suc k ≡ k + 1 = omega arith in
    drop-cons xs k a h
    ∙ ap (λ x. x ∷ drop (suc k) xs) (sym item)
    ∙ ap (λ m. a ∷ drop m xs) next_k

-- ---- the first stays

abbrev or_else : {A : Type 0} → Option A → Option A → Option A
or_else o p = elim o [ None ↦ p | Some a ↦ Some a ]

or_none : {A : Type 0} (o : Option A) → o ≡ or_else o None
or_none None = refl
or_none (Some a) = refl

or_assoc : {A : Type 0} (o p r : Option A) → or_else (or_else o p) r ≡ or_else o (or_else p r)
or_assoc None p r = refl
or_assoc (Some a) p r = refl

eqb_sym : (a b : ℕ) → eqb a b ≡ eqb b a
eqb_sym a b = grind (arith, nat_tests)

module _ {A : Type 0} where
  pub nothing_more : (table : ℕ → Option A) → table ≡ earlier table (λ x. None)
  nothing_more table = λ i x. or_none (table x) i

  earlier_assoc : (table one more : ℕ → Option A)
      → earlier (earlier table one) more ≡ earlier table (earlier one more)
  earlier_assoc table one more = λ i x. or_assoc (table x) (one x) (more x) i

  pub joined : (old mid new one more : ℕ → Option A) → mid ≡ earlier old one
      → new ≡ earlier mid more
      → new ≡ earlier old (earlier one more)
  joined old mid new one more h l =
      l ∙ ap (λ t. earlier t more) h ∙ earlier_assoc old one more

  -- one more is noted, and the rest is left
  pub one_noted : (old new one more all : ℕ → Option A) → new ≡ earlier old one
      → earlier old (earlier one more) ≡ all
      → earlier new more ≡ all
  one_noted old new one more all h l =
      ap (λ t. earlier t more) h ∙ earlier_assoc old one more ∙ l

  pub all_noted : (table all : ℕ → Option A) → earlier table (λ x. None) ≡ all → table ≡ all
  all_noted table all h = nothing_more table ∙ h

module _ {A : Type 0} (table : ℕ → Option A) (k : ℕ) (v : A) where
  -- k is noted already, as w
  noted : (x : ℕ) (w : A) (b : Bool) → eqb k x ≡ b → table k ≡ Some w
      → table x ≡ or_else (table x) (cond b (Some v) None)
  noted x w false e h = or_none (table x)
  noted x w true e h =
      let there : table x ≡ Some w = ap table (sym (eqb-true k x e)) ∙ h in
      there ∙ sym (ap (λ o. or_else o (Some v)) there)

  unnoted : (x : ℕ) (b : Bool) → eqb k x ≡ b → table k ≡ None
      → cond b (Some v) (table x) ≡ or_else (table x) (cond b (Some v) None)
  unnoted x false e h = or_none (table x)
  unnoted x true e h =
      sym (ap (λ o. or_else o (Some v)) (ap table (sym (eqb-true k x e)) ∙ h))

  pub stays : is_some (table k) ≡ true → table ≡ earlier table (entry k v)
  stays h = λ i x. by x (table k) refl h i
    where
      by : (x : ℕ) (o : Option A) → table k ≡ o → is_some o ≡ true
          → table x ≡ earlier table (entry k v) x
      by x None e i = cc
      by x (Some w) e i = noted x w (eqb k x) refl e

  pub is_put : (new : ℕ → Option A) → is_some (table k) ≡ false → new ≡ updated table k (Some v)
      → new ≡ earlier table (entry k v)
  is_put new h l = l ∙ (λ i x. by x (table k) refl h i)
    where
      by : (x : ℕ) (o : Option A) → table k ≡ o → is_some o ≡ false
          → updated table k (Some v) x ≡ earlier table (entry k v) x
      by x None e i =
          ap (λ b. cond b (Some v) (table x)) (eqb_sym x k) ∙ unnoted x (eqb k x) refl e
      by x (Some w) e i = cc

-- ---- arguments

or_cond : {A : Type 0} (b : Bool) (v : A) (o : Option A)
    → or_else (cond b (Some v) None) o ≡ cond b (Some v) o
or_cond true v o = refl
or_cond false v o = refl

given_same : (ps : List Param) (args : List Argument) (x : ℕ)
    → given_by ps args x ≡ passed_for ps args x
given_same [] args x = refl
given_same (p ∷ ps) [] x = refl
given_same (p ∷ ps) (a ∷ args) x =
    or_cond (eqb p.binder.id x) a (given_by ps args x)
    ∙ ap (cond (eqb p.binder.id x) (Some a)) (given_same ps args x)

pub arguments_all : (ps : List Param) (args : List Argument) (given all : ℕ → Option Argument)
    → all ≡ earlier given (given_by ps args) → given ≡ (λ x. None)
    → all ≡ passed_for ps args
arguments_all ps args given all h k =
    h ∙ ap (λ t. earlier t (given_by ps args)) k ∙ (λ i x. given_same ps args x i)

-- ---- what is open

open_number : (o : Option Argument)
    → not (is_some o) ≡ elim o [ None ↦ true | Some a ↦ false ]
open_number None = refl
open_number (Some a) = refl

module _ (params : ℕ → Bool) (own : List Pair) where
  open_kind : (kind : ParamKind) (b : Binder)
      → is_open (argument_in params own) own (record { binder = b; kind = kind })
      ≡ is_undetermined params own (record { binder = b; kind = kind })
  open_kind (ControlParam k) b = open_number (argument_in params own b.id)
  open_kind (TensorParam cell dims memory) b = refl
  open_kind (WindowParam cell dims memory) b = refl

  open_is : (given : ℕ → Option Argument) (p : Param) (t : Bool) → given ≡ argument_in params own
      → t ≡ is_open given own p
      → t ≡ is_undetermined params own p
  open_is given p t h e = e ∙ ap (λ g. is_open g own p) h ∙ open_kind p.kind p.binder

  pub is_first : (given : ℕ → Option Argument) (p : Param) (ps : List Param) (o : Option ℕ)
      → given ≡ argument_in params own
      → true ≡ is_open given own p
      → o ≡ first_undetermined params own (p ∷ ps)
      → o ≡ Some p.binder.id
  is_first given p ps o h e l =
      l ∙ ap (λ t. if t then Some p.binder.id else first_undetermined params own ps)
      (sym (open_is given p true h e))

  pub is_later : (given : ℕ → Option Argument) (p : Param) (ps : List Param) (o : Option ℕ)
      → given ≡ argument_in params own
      → false ≡ is_open given own p
      → o ≡ first_undetermined params own (p ∷ ps)
      → o ≡ first_undetermined params own ps
  is_later given p ps o h e l =
      l ∙ ap (λ t. if t then Some p.binder.id else first_undetermined params own ps)
      (sym (open_is given p false h e))
