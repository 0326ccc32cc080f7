-- A body without copies keeps the names of its binders.
use Rattle.std.proofs.Common.{◌≡◌, ℕ, ◌==◌, Bool, true, false, true≢false, ◌&&◌, ◌||◌, not, nat_lt, List, [], ◌∷◌, ◌++◌, map}
use Rattle.std.proofs.Common.{refl, sym, ap, ap₂, ◌∙◌, subst, append_assoc, if◌then◌else◌, eqb-true, eq-eqb}
use Rattle.std.specs.List.{list_all, list_any}
use Rattle.exo_tree.specs.Tree.{Binder}
use Rattle.exo_tree.specs.Tree.{Statement, Assign, Reduce, Config, Pass, If, For, Alloc, View, Call}
use Rattle.exo_tree.specs.Tree.{Block, end, next}
use Rattle.exo_tree.specs.Mapped.{mapped_statement, mapped_block}
use Rattle.exo_tree.specs.Renaming.{binders, binders_below}
use Rattle.exo_meaning.specs.Orders.{Each}
use Rattle.exo_meaning.specs.Units.{are_distinct}
use Rattle.meaning_laws.proofs.Substitute.{and_parts}
use Rattle.exo_meaning.proofs.Frame.{or_parts}
use Rattle.meaning_laws.proofs.Scoped.{not_true}
use Rattle.tree_edits.specs.Made.Names.{Name, Naming, is_in, free_name, named_by, with_names}
use Rattle.tree_edits.specs.Made.Names.{first_naming, Tops}
use Rattle.tree_edits.specs.Made.Names.{tops, with_binder, name_statements, name_statement}
use Rattle.tree_laws.proofs.OfMade.Names.{ids_stay}
use Rattle.call_laws.proofs.OfCalls.OfNames.Expressions.{control, controls, condition, datum}
use Rattle.call_laws.proofs.OfCalls.OfNames.Expressions.{coords, argument, arguments}
use Rattle.call_laws.specs.Calls.Names.Copies.{NoCopies, BodiesWithoutCopies}

-- ---- the binders of a block, with their names

abbrev mutual
  owned : Block → List Binder
  owned end = []
  owned (next a b) = owned_below a ++ owned b

  owned_below : Statement → List Binder
  owned_below (Assign x is e) = []
  owned_below (Reduce x is e) = []
  owned_below (Config f a) = []
  owned_below Pass = []
  owned_below (If c a b) = owned a ++ owned b
  owned_below (For i lo hi b) = i ∷ owned b
  owned_below (Alloc x cell dims memory) = x ∷ []
  owned_below (View w x coords) = w ∷ []
  owned_below (Call k args) = []

abbrev ids : List Binder → List ℕ
ids bs = map (λ b. b.id) bs

ids_of_both : (as' bs : List Binder) → ids (as' ++ bs) ≡ (ids as' ++ ids bs)
ids_of_both [] bs = refl
ids_of_both (a ∷ as') bs = ap (λ rest. a.id ∷ rest) (ids_of_both as' bs)

mutual
  owned_ids : (b : Block) → binders b ≡ ids (owned b)
  owned_ids end = refl
  owned_ids (next a b) =
      ap₂ (λ xs ys. xs ++ ys) (below_ids a) (owned_ids b) ∙ sym (ids_of_both (owned_below a) (owned b))

  below_ids : (a : Statement) → binders_below a ≡ ids (owned_below a)
  below_ids (Assign x is e) = refl
  below_ids (Reduce x is e) = refl
  below_ids (Config f a) = refl
  below_ids Pass = refl
  below_ids (If c a b) =
      ap₂ (λ xs ys. xs ++ ys) (owned_ids a) (owned_ids b) ∙ sym (ids_of_both (owned a) (owned b))
  below_ids (For i lo hi b) = ap (λ xs. i.id ∷ xs) (owned_ids b)
  below_ids (Alloc x cell dims memory) = refl
  below_ids (View w x coords) = refl
  below_ids (Call k args) = refl

-- ---- what is given

nothing_behind : (as' : List Binder) → (as' ++ []) ≡ as'
nothing_behind [] = refl
nothing_behind (a ∷ as') = ap (λ rest. a ∷ rest) (nothing_behind as')

-- a test of all of two lists
all_parts : (keeps : ℕ → Bool) (as' bs : List ℕ) → list_all keeps (as' ++ bs) ≡ true
    → (list_all keeps as' ≡ true) × (list_all keeps bs ≡ true)
all_parts keeps [] bs h = (refl, h)
all_parts keeps (a ∷ as') bs h =
    let p = and_parts (keeps a) (list_all keeps (as' ++ bs)) h in
    let q = all_parts keeps as' bs p.1 in
    (ap₂ (λ s t. s && t) p.0 q.0, q.1)

module _ (copies : ℕ) where
  abbrev AreOld : List ℕ → Type 0
  AreOld xs = list_all (λ x. nat_lt x copies) xs ≡ true

  one_given : (top : List Name) (n : Naming) (x : Binder) → nat_lt x.id copies ≡ true
      → (with_binder copies top n x).given ≡ (n.given ++ x ∷ [])
  one_given top n x h =
      ap (λ t. n.given ++ record {
        id = x.id;
        name =
            if t then x.name
            else (if is_in n.scope x.name || is_in top x.name then free_name n.taken x.name else x.name);
      } ∷ []) h

  mutual
    given : (b : Block) (top : Tops) (n : Naming) → AreOld (binders b)
        → (name_statements copies top n b).given ≡ (n.given ++ owned b)
    given end top n h = sym (nothing_behind n.given)
    given (next a b) top n h =
        let p = all_parts (λ x. nat_lt x copies) (binders_below a) (binders b) h in
        given b top (name_statement copies top n a) p.1
        ∙ ap (λ xs. xs ++ owned b) (given_below a top n p.0)
        ∙ append_assoc (n.given) (owned_below a) (owned b)

    given_below : (a : Statement) (top : Tops) (n : Naming) → AreOld (binders_below a)
        → (name_statement copies top n a).given ≡ (n.given ++ owned_below a)
    given_below (Assign x is e) top n h = sym (nothing_behind n.given)
    given_below (Reduce x is e) top n h = sym (nothing_behind n.given)
    given_below (Config f a) top n h = sym (nothing_behind n.given)
    given_below Pass top n h = sym (nothing_behind n.given)
    given_below (If c a b) top n h =
        let p = all_parts (λ x. nat_lt x copies) (binders a) (binders b) h in
        let first = name_statements copies (tops copies a) n a in
        given b (tops copies b) (record first { scope = n.scope }) p.1
        ∙ ap (λ xs. xs ++ owned b) (given a (tops copies a) n p.0)
        ∙ append_assoc (n.given) (owned a) (owned b)
    given_below (For i lo hi b) top n h =
        let p = and_parts (nat_lt i.id copies) (list_all (λ x. nat_lt x copies) (binders b)) h in
        given b (tops copies b) (with_binder copies top.all n i) p.1
        ∙ ap (λ xs. xs ++ owned b) (one_given top.all n i p.0)
        ∙ append_assoc (n.given) (i ∷ []) (owned b)
    given_below (Alloc x cell dims memory) top n h =
        one_given top.own n x (and_parts (nat_lt x.id copies) true h).0
    given_below (View w x coords) top n h =
        one_given top.own n w (and_parts (nat_lt w.id copies) true h).0
    given_below (Call k args) top n h = sym (nothing_behind n.given)

-- ---- names that are their own

module _ (gs : List Binder) where
  abbrev Stays : Binder → Type 0
  Stays x = named_by gs x ≡ x

  stay_parts : (as' bs : List Binder) → Each Stays (as' ++ bs) → Each Stays as' × Each Stays bs
  stay_parts [] bs h = (tt, h)
  stay_parts (a ∷ as') bs h = let p = stay_parts as' bs h.1 in ((h.0, p.0), p.1)

-- those in which no id comes twice
stay_behind : (y : Binder) (gs xs : List Binder) → list_any (λ z. y.id == z) (ids xs) ≡ false
    → Each (λ x. named_by gs x ≡ x) xs → Each (λ x. named_by (y ∷ gs) x ≡ x) xs
stay_behind y gs [] h k = tt
stay_behind y gs (x ∷ xs) h k =
    let p = or_parts (y.id == x.id) (list_any (λ z. y.id == z) (ids xs)) h in
    (one (x.id == y.id) refl p.0, stay_behind y gs xs p.1 k.1)
  where
    one : (t : Bool) → (x.id == y.id) ≡ t → (y.id == x.id) ≡ false → named_by (y ∷ gs) x ≡ x
    one true e not_same =
        absurd (true≢false (sym (eq-eqb y.id x.id (sym (eqb-true x.id y.id e))) ∙ not_same))
    one false e not_same =
        ap (λ t. if t then (record x { name = y.name }) else named_by gs x) e ∙ k.0

all_stay : (gs : List Binder) → are_distinct (ids gs) ≡ true → Each (Stays gs) gs
all_stay [] h = tt
all_stay (y ∷ gs) h =
    let p = and_parts (not (list_any (λ z. y.id == z) (ids gs))) (are_distinct (ids gs)) h in (
      ap (λ t. if t then (record y { name = y.name }) else named_by gs y) (eq-eqb y.id y.id refl),
      stay_behind y gs gs (not_true (list_any (λ z. y.id == z) (ids gs)) p.0) (all_stay gs p.1),
    )

-- ---- the block

module _ (gs : List Binder) where
  mutual
    block : (b : Block) → Each (Stays gs) (owned b) → mapped_block (with_names gs) b ≡ b
    block end h = refl
    block (next a b) h =
        let p = stay_parts gs (owned_below a) (owned b) h in ap₂ next (statement a p.0) (block b p.1)

    statement : (a : Statement) → Each (Stays gs) (owned_below a)
        → mapped_statement (with_names gs) a ≡ a
    statement (Assign x is e) h = ap₂ (Assign x) (controls gs is) (datum gs e)
    statement (Reduce x is e) h = ap₂ (Reduce x) (controls gs is) (datum gs e)
    statement (Config f a) h = ap (Config f) (argument gs a)
    statement Pass h = refl
    statement (If c a b) h =
        let p = stay_parts gs (owned a) (owned b) h in
        let t = condition gs c in
        let u = block a p.0 in
        let v = block b p.1 in
        λ j. If (t j) (u j) (v j)
    statement (For i lo hi b) h =
        let o : named_by gs i ≡ i = h.0 in
        let p = control gs lo in
        let q = control gs hi in
        let r = block b h.1 in
        λ j. For (o j) (p j) (q j) (r j)
    statement (Alloc x t dims m) h =
        let o : named_by gs x ≡ x = h.0 in
        let p = controls gs dims in
        λ j. Alloc (o j) t (p j) m
    statement (View w x cs) h =
        let o : named_by gs w ≡ w = h.0 in
        let p = coords gs cs in
        λ j. View (o j) x (p j)
    statement (Call k args) h = ap (Call k) (arguments gs args)

pub no_copies : NoCopies
no_copies p copies b old distinct =
    ap (λ gs. mapped_block (with_names gs) b) (given copies b (tops copies b) (first_naming p) old)
    ∙ block (owned b) b (all_stay (owned b) (subst (λ xs. are_distinct xs ≡ true) (owned_ids b) distinct))

-- the last part of a list in which no id comes twice
distinct_behind : (xs ys : List ℕ) → are_distinct (xs ++ ys) ≡ true → are_distinct ys ≡ true
distinct_behind [] ys h = h
distinct_behind (x ∷ xs) ys h =
    distinct_behind xs ys
    (and_parts (not (list_any (λ y. x == y) (xs ++ ys))) (are_distinct (xs ++ ys)) h).1

pub bodies_without_copies : BodiesWithoutCopies
bodies_without_copies p q copies b old is distinct =
    is ∙ no_copies p copies b old
    (subst (λ xs. are_distinct xs ≡ true) (ap binders is ∙ ids_stay p copies b)
    (distinct_behind (map (λ r. r.binder.id) q.params) (binders q.body) distinct))
