-- Each binder of a procedure gives its name to its id, where each id is bound once.
use Rattle.std.proofs.Common.{◌≡◌, ℕ, ◌==◌, true, false, not, ◌||◌, if◌then◌else◌, List, [], ◌∷◌, map, refl, sym, ap, ◌∙◌}
use Rattle.exo_tree.specs.Tree.{Binder, Statement, Assign, Reduce, Config, Pass, If, For, Alloc, View, Call, Block, end, next, Param, Procedure}
use Rattle.exo_meaning.specs.Binders.{binders, step_binders}
use Rattle.exo_meaning.specs.Units.{are_distinct, bound_ids}
use Rattle.text_show.specs.Layout.{Text}
use Rattle.text_show.specs.Names.{unknown, with_binder, with_params, with_block, with_statement, names_of}
use Rattle.exo_types_laws.proofs.OfShown.Scoped.{both, neither, denied}
use Rattle.exo_types_laws.proofs.OfShown.Distinct.{has, same_number, has_append, in_left, in_right}
use Rattle.exo_types_laws.proofs.OfShown.Distinct.{apart}

-- all binders of a block have their names
abbrev mutual
  pub AreCalled : (ℕ → Text) → Block → Type 0
  AreCalled names end = Unit {0}
  AreCalled names (next a b) = IsCalled names a × AreCalled names b

  pub IsCalled : (ℕ → Text) → Statement → Type 0
  IsCalled names (Assign x is e) = Unit {0}
  IsCalled names (Reduce x is e) = Unit {0}
  IsCalled names (Config f a) = Unit {0}
  IsCalled names Pass = Unit {0}
  IsCalled names (If c a b) = AreCalled names a × AreCalled names b
  IsCalled names (For i lo hi b) = (names i.id ≡ i.name) × AreCalled names b
  IsCalled names (Alloc x cell dims memory) = names x.id ≡ x.name
  IsCalled names (View v x coords) = names v.id ≡ v.name
  IsCalled names (Call k args) = Unit {0}

abbrev pub ParamsCalled : (ℕ → Text) → List Param → Type 0
ParamsCalled names [] = Unit {0}
ParamsCalled names (p ∷ ps) = (names p.binder.id ≡ p.binder.name) × ParamsCalled names ps

-- ---- what is not bound keeps its name

other_binder : (b : Binder) (names : ℕ → Text) (x : ℕ) → (x == b.id) ≡ false → with_binder b names x ≡ names x
other_binder b names x h = ap (λ t. if t then b.name else names x) h

own_binder : (b : Binder) (names : ℕ → Text) → with_binder b names b.id ≡ b.name
own_binder b names = ap (λ t. if t then b.name else names b.id) (same_number b.id)

mutual
  block_keeps : (b : Block) (names : ℕ → Text) (x : ℕ) → has (binders b) x ≡ false → with_block b names x ≡ names x
  block_keeps end names x h = refl
  block_keeps (next a b) names x h =
      let s = neither (has (step_binders a) x) (has (binders b) x) (sym (has_append (step_binders a) (binders b) x) ∙ h) in
      block_keeps b (with_statement a names) x s.1 ∙ statement_keeps a names x s.0

  statement_keeps : (a : Statement) (names : ℕ → Text) (x : ℕ) → has (step_binders a) x ≡ false → with_statement a names x ≡ names x
  statement_keeps (Assign y is e) names x h = refl
  statement_keeps (Reduce y is e) names x h = refl
  statement_keeps (Config f a) names x h = refl
  statement_keeps Pass names x h = refl
  statement_keeps (If c a b) names x h =
      let s = neither (has (binders a) x) (has (binders b) x) (sym (has_append (binders a) (binders b) x) ∙ h) in
      block_keeps b (with_block a names) x s.1 ∙ block_keeps a names x s.0
  statement_keeps (For i lo hi b) names x h =
      let s = neither (x == i.id) (has (binders b) x) h in
      block_keeps b (with_binder i names) x s.1 ∙ other_binder i names x s.0
  statement_keeps (Alloc y cell dims memory) names x h = other_binder y names x (neither (x == y.id) false h).0
  statement_keeps (View v y coords) names x h = other_binder v names x (neither (x == v.id) false h).0
  statement_keeps (Call k args) names x h = refl

-- ---- what is bound has its name, in names that agree with those

abbrev Agrees : (ℕ → Text) → List ℕ → (ℕ → Text) → Type 0
Agrees final xs names = (x : ℕ) → has xs x ≡ true → final x ≡ names x

head_in : (x : ℕ) (xs : List ℕ) → has (x ∷ xs) x ≡ true
head_in x xs = ap (λ t. t || has xs x) (same_number x)

tail_in : (y : ℕ) (xs : List ℕ) (x : ℕ) → has xs x ≡ true → has (y ∷ xs) x ≡ true
tail_in y xs x h = in_right (y ∷ []) xs x h

mutual
  block_called : (b : Block) (names final : ℕ → Text) → are_distinct (binders b) ≡ true → Agrees final (binders b) (with_block b names) → AreCalled final b
  block_called end names final d agrees = tt
  block_called (next a b) names final d agrees =
      let s = apart (step_binders a) (binders b) d in (
        statement_called a names final s.left (λ x h. agrees x (in_left (step_binders a) (binders b) x h) ∙ block_keeps b (with_statement a names) x (s.none x h)),
        block_called b (with_statement a names) final s.right (λ x h. agrees x (in_right (step_binders a) (binders b) x h)),
      )

  statement_called : (a : Statement) (names final : ℕ → Text) → are_distinct (step_binders a) ≡ true → Agrees final (step_binders a) (with_statement a names) → IsCalled final a
  statement_called (Assign y is e) names final d agrees = tt
  statement_called (Reduce y is e) names final d agrees = tt
  statement_called (Config f a) names final d agrees = tt
  statement_called Pass names final d agrees = tt
  statement_called (If c a b) names final d agrees =
      let s = apart (binders a) (binders b) d in (
        block_called a names final s.left (λ x h. agrees x (in_left (binders a) (binders b) x h) ∙ block_keeps b (with_block a names) x (s.none x h)),
        block_called b (with_block a names) final s.right (λ x h. agrees x (in_right (binders a) (binders b) x h)),
      )
  statement_called (For i lo hi b) names final d agrees =
      let s = both (not (has (binders b) i.id)) _ d in (
        agrees i.id (head_in i.id (binders b)) ∙ block_keeps b (with_binder i names) i.id (denied _ s.0) ∙ own_binder i names,
        block_called b (with_binder i names) final s.1 (λ x h. agrees x (tail_in i.id (binders b) x h)),
      )
  statement_called (Alloc y cell dims memory) names final d agrees = agrees y.id (head_in y.id []) ∙ own_binder y names
  statement_called (View v y coords) names final d agrees = agrees v.id (head_in v.id []) ∙ own_binder v names
  statement_called (Call k args) names final d agrees = tt

abbrev param_ids : List Param → List ℕ
param_ids ps = map (λ q. q.binder.id) ps

params_keep : (ps : List Param) (names : ℕ → Text) (x : ℕ) → has (param_ids ps) x ≡ false → with_params ps names x ≡ names x
params_keep [] names x h = refl
params_keep (p ∷ ps) names x h =
    let s = neither (x == p.binder.id) (has (param_ids ps) x) h in
    params_keep ps (with_binder p.binder names) x s.1 ∙ other_binder p.binder names x s.0

params_called : (ps : List Param) (names final : ℕ → Text) → are_distinct (param_ids ps) ≡ true → Agrees final (param_ids ps) (with_params ps names) → ParamsCalled final ps
params_called [] names final d agrees = tt
params_called (p ∷ ps) names final d agrees =
    let s = both (not (has (param_ids ps) p.binder.id)) _ d in (
      agrees p.binder.id (head_in p.binder.id (param_ids ps)) ∙ params_keep ps (with_binder p.binder names) p.binder.id (denied _ s.0) ∙ own_binder p.binder names,
      params_called ps (with_binder p.binder names) final s.1 (λ x h. agrees x (tail_in p.binder.id (param_ids ps) x h)),
    )

pub called : (p : Procedure) → are_distinct (bound_ids p) ≡ true → ParamsCalled (names_of p) p.params × AreCalled (names_of p) p.body
called p d =
    let s = apart (param_ids p.params) (binders p.body) d in (
      params_called p.params unknown (names_of p) s.left (λ x h. block_keeps p.body (with_params p.params unknown) x (s.none x h)),
      block_called p.body (with_params p.params unknown) (names_of p) s.right (λ x h. refl),
    )
