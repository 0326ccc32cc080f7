-- A body without copies in which no id is bound twice keeps the names of its binders.
use Rattle.std.proofs.Common.{◌≡◌, ℕ, suc, ◌≤◌, ◌==◌, Bool, true, false, true≢false, ◌&&◌, ◌||◌, not, nat_lt, List, [], ◌∷◌, ◌++◌, map}
use Rattle.std.proofs.Common.{refl, sym, ap, ap₂, ◌∙◌, subst, append_assoc, if◌then◌else◌, eqb-true, eq-eqb, arith}
use Rattle.std.proofs.lemmas.Bool.Decides.{nat_tests}
use Rattle.std.specs.List.{list_any}
use Rattle.exo_tree.specs.Tree.{Binder, Procedure}
use Rattle.exo_tree.specs.Tree.{Statement, Assign, Reduce, Config, Pass, If, For, Alloc, View, Call}
use Rattle.exo_tree.specs.Tree.{Block, end, next, block}
use Rattle.exo_tree.specs.Mapped.{mapped_statement, mapped_block}
use Rattle.exo_tree.specs.Renaming.{binders, binders_below}
use Rattle.exo_meaning.specs.Orders.{Each}
use Rattle.exo_meaning.specs.Units.{are_distinct}
use Rattle.tree_edits.specs.Made.Ids.{above_all}
use Rattle.tree_edits.specs.Made.Names.{Name, Naming, is_in, free_name, named_by, with_names}
use Rattle.tree_edits.specs.Made.Names.{first_naming, Tops}
use Rattle.tree_edits.specs.Made.Names.{tops, with_binder, name_statements, name_statement}
use Rattle.tree_edits.specs.Made.Names.{named_copies}
use Rattle.tree_edits.proofs.OfMade.Above.{above_joined}
use Rattle.tree_edits.proofs.OfMade.Expressions.{control, controls, condition, datum, coords}
use Rattle.tree_edits.proofs.OfMade.Expressions.{argument, arguments}

and_parts : (a b : Bool) → (a && b) ≡ true → (a ≡ true) × (b ≡ true)
and_parts true b h = (refl, h)
and_parts false b h = absurd (true≢false (sym h))

or_parts : (a b : Bool) → (a || b) ≡ false → (a ≡ false) × (b ≡ false)
or_parts true b h = absurd (true≢false h)
or_parts false b h = (refl, h)

not_true : (a : Bool) → not a ≡ true → a ≡ false
not_true true h = absurd (true≢false (sym h))
not_true false h = refl

-- ---- the binders of a block, with their names

abbrev mutual
  owned : Block → List Binder
  owned end = []
  owned (next a b) = owned_below a ++ owned b

  owned_below : Statement → List Binder
  owned_below (Assign x is e) = []
  owned_below (Reduce x is e) = []
  owned_below (Config f a) = []
  owned_below Pass = []
  owned_below (If c a b) = owned a ++ owned b
  owned_below (For i lo hi b) = i ∷ owned b
  owned_below (Alloc x cell dims memory) = x ∷ []
  owned_below (View w x coords) = w ∷ []
  owned_below (Call k args) = []

abbrev ids : List Binder → List ℕ
ids bs = map (λ b. b.id) bs

ids_of_both : (as' bs : List Binder) → ids (as' ++ bs) ≡ (ids as' ++ ids bs)
ids_of_both [] bs = refl
ids_of_both (a ∷ as') bs = ap (λ rest. a.id ∷ rest) (ids_of_both as' bs)

mutual
  owned_ids : (b : Block) → binders b ≡ ids (owned b)
  owned_ids end = refl
  owned_ids (next a b) =
      ap₂ (λ xs ys. xs ++ ys) (below_ids a) (owned_ids b) ∙ sym (ids_of_both (owned_below a) (owned b))

  below_ids : (a : Statement) → binders_below a ≡ ids (owned_below a)
  below_ids (Assign x is e) = refl
  below_ids (Reduce x is e) = refl
  below_ids (Config f a) = refl
  below_ids Pass = refl
  below_ids (If c a b) =
      ap₂ (λ xs ys. xs ++ ys) (owned_ids a) (owned_ids b) ∙ sym (ids_of_both (owned a) (owned b))
  below_ids (For i lo hi b) = ap (λ xs. i.id ∷ xs) (owned_ids b)
  below_ids (Alloc x cell dims memory) = refl
  below_ids (View w x coords) = refl
  below_ids (Call k args) = refl

-- ---- what is given

nothing_behind : (as' : List Binder) → (as' ++ []) ≡ as'
nothing_behind [] = refl
nothing_behind (a ∷ as') = ap (λ rest. a ∷ rest) (nothing_behind as')

module _ (copies : ℕ) where
  abbrev AreOld : List ℕ → Type 0
  AreOld xs = above_all xs ≤ copies

  old_parts : (xs ys : List ℕ) → AreOld (xs ++ ys) → AreOld xs × AreOld ys
  old_parts xs ys h =
      let both = above_joined xs ys in
      (omega (arith, both, h), omega (arith, both, h))

  first_is_old : (x : ℕ) (xs : List ℕ) → AreOld (x ∷ xs) → nat_lt x copies ≡ true
  first_is_old x xs h =
      let k : suc x ≤ copies = omega (arith, h) in
      grind (arith, nat_tests)

  one_given : (top : List Name) (n : Naming) (x : Binder) → nat_lt x.id copies ≡ true
      → (with_binder copies top n x).given ≡ (n.given ++ x ∷ [])
  one_given top n x h =
      ap (λ t. n.given ++ record {
        id = x.id;
        name =
            if t then x.name
            else (if is_in n.scope x.name || is_in top x.name then free_name n.taken x.name else x.name);
      } ∷ []) h

  mutual
    given : (b : Block) (top : Tops) (n : Naming) → AreOld (binders b)
        → (name_statements copies top n b).given ≡ (n.given ++ owned b)
    given end top n h = sym (nothing_behind n.given)
    given (next a b) top n h =
        let p = old_parts (binders_below a) (binders b) h in
        given b top (name_statement copies top n a) p.1
        ∙ ap (λ xs. xs ++ owned b) (given_below a top n p.0)
        ∙ append_assoc (n.given) (owned_below a) (owned b)

    given_below : (a : Statement) (top : Tops) (n : Naming) → AreOld (binders_below a)
        → (name_statement copies top n a).given ≡ (n.given ++ owned_below a)
    given_below (Assign x is e) top n h = sym (nothing_behind n.given)
    given_below (Reduce x is e) top n h = sym (nothing_behind n.given)
    given_below (Config f a) top n h = sym (nothing_behind n.given)
    given_below Pass top n h = sym (nothing_behind n.given)
    given_below (If c a b) top n h =
        let p = old_parts (binders a) (binders b) h in
        let first = name_statements copies (tops copies a) n a in
        given b (tops copies b) (record first { scope = n.scope }) p.1
        ∙ ap (λ xs. xs ++ owned b) (given a (tops copies a) n p.0)
        ∙ append_assoc (n.given) (owned a) (owned b)
    given_below (For i lo hi b) top n h =
        let p = old_parts (i.id ∷ []) (binders b) h in
        given b (tops copies b) (with_binder copies top.all n i) p.1
        ∙ ap (λ xs. xs ++ owned b) (one_given top.all n i (first_is_old i.id [] p.0))
        ∙ append_assoc (n.given) (i ∷ []) (owned b)
    given_below (Alloc x cell dims memory) top n h =
        one_given top.own n x (first_is_old x.id [] h)
    given_below (View w x coords) top n h =
        one_given top.own n w (first_is_old w.id [] h)
    given_below (Call k args) top n h = sym (nothing_behind n.given)

-- ---- names that are their own

module _ (gs : List Binder) where
  abbrev Stays : Binder → Type 0
  Stays x = named_by gs x ≡ x

  stay_parts : (as' bs : List Binder) → Each Stays (as' ++ bs) → Each Stays as' × Each Stays bs
  stay_parts [] bs h = (tt, h)
  stay_parts (a ∷ as') bs h = let p = stay_parts as' bs h.1 in ((h.0, p.0), p.1)

-- those in which no id comes twice
stay_behind : (y : Binder) (gs xs : List Binder) → list_any (λ z. y.id == z) (ids xs) ≡ false
    → Each (λ x. named_by gs x ≡ x) xs → Each (λ x. named_by (y ∷ gs) x ≡ x) xs
stay_behind y gs [] h k = tt
stay_behind y gs (x ∷ xs) h k =
    let p = or_parts (y.id == x.id) (list_any (λ z. y.id == z) (ids xs)) h in
    (one (x.id == y.id) refl p.0, stay_behind y gs xs p.1 k.1)
  where
    one : (t : Bool) → (x.id == y.id) ≡ t → (y.id == x.id) ≡ false → named_by (y ∷ gs) x ≡ x
    one true e not_same =
        absurd (true≢false (sym (eq-eqb y.id x.id (sym (eqb-true x.id y.id e))) ∙ not_same))
    one false e not_same =
        ap (λ t. if t then (record x { name = y.name }) else named_by gs x) e ∙ k.0

all_stay : (gs : List Binder) → are_distinct (ids gs) ≡ true → Each (Stays gs) gs
all_stay [] h = tt
all_stay (y ∷ gs) h =
    let p = and_parts (not (list_any (λ z. y.id == z) (ids gs))) (are_distinct (ids gs)) h in (
      ap (λ t. if t then (record y { name = y.name }) else named_by gs y) (eq-eqb y.id y.id refl),
      stay_behind y gs gs (not_true (list_any (λ z. y.id == z) (ids gs)) p.0) (all_stay gs p.1),
    )

-- ---- the block

module _ (gs : List Binder) where
  mutual
    block_stays : (b : Block) → Each (Stays gs) (owned b) → mapped_block (with_names gs) b ≡ b
    block_stays end h = refl
    block_stays (next a b) h =
        let p = stay_parts gs (owned_below a) (owned b) h in ap₂ next (statement_stays a p.0) (block_stays b p.1)

    statement_stays : (a : Statement) → Each (Stays gs) (owned_below a)
        → mapped_statement (with_names gs) a ≡ a
    statement_stays (Assign x is e) h = ap₂ (Assign x) (controls gs is) (datum gs e)
    statement_stays (Reduce x is e) h = ap₂ (Reduce x) (controls gs is) (datum gs e)
    statement_stays (Config f a) h = ap (Config f) (argument gs a)
    statement_stays Pass h = refl
    statement_stays (If c a b) h =
        let p = stay_parts gs (owned a) (owned b) h in
        let t = condition gs c in
        let u = block_stays a p.0 in
        let v = block_stays b p.1 in
        λ j. If (t j) (u j) (v j)
    statement_stays (For i lo hi b) h =
        let o : named_by gs i ≡ i = h.0 in
        let p = control gs lo in
        let q = control gs hi in
        let r = block_stays b h.1 in
        λ j. For (o j) (p j) (q j) (r j)
    statement_stays (Alloc x t dims m) h =
        let o : named_by gs x ≡ x = h.0 in
        let p = controls gs dims in
        λ j. Alloc (o j) t (p j) m
    statement_stays (View w x cs) h =
        let o : named_by gs w ≡ w = h.0 in
        let p = coords gs cs in
        λ j. View (o j) x (p j)
    statement_stays (Call k args) h = ap (Call k) (arguments gs args)

pub keeps_its_names : (p : Procedure) (copies : ℕ) (b : Block) → above_all (binders b) ≤ copies → are_distinct (binders b) ≡ true
    → named_copies p copies b ≡ b
keeps_its_names p copies b old distinct =
    ap (λ gs. mapped_block (with_names gs) b) (given copies b (tops copies b) (first_naming p) old)
    ∙ block_stays (owned b) b (all_stay (owned b) (subst (λ xs. are_distinct xs ≡ true) (owned_ids b) distinct))

pub is_shared : (p : Procedure) (copies : ℕ) (made ss : List Statement) → above_all (binders (block ss)) ≤ copies → are_distinct (binders (block ss)) ≡ true
    → made ≡ ss → block made ≡ named_copies p copies (block ss)
is_shared p copies made ss old distinct same = ap block same ∙ sym (keeps_its_names p copies (block ss) old distinct)
