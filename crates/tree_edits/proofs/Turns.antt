-- Turns of loops over the statements of a block and over other lists.
use Rattle.std.proofs.Common.{◌≡◌, ℕ, suc, ◌+◌, ◌-◌, ◌<◌, ◌≤◌, List, [], ◌∷◌, ◌++◌, length, take, drop, get_or, sym, ap}
use Rattle.std.proofs.Common.{◌∙◌}
use Rattle.std.proofs.Common.{Bool, true, false, not, ◌&&◌, ◌==◌, arith, refl, add-one, drop-cons, append_assoc}
use Rattle.std.proofs.Common.{append-nil}
use Rattle.std.proofs.Common.{take_all, length-drop}
use Rattle.std.proofs.lemmas.List.{drop_all}
use Rattle.std.specs.List.{list_any}
use Rattle.exo_tree.specs.Tree.{Statement, Block, end, next, block}
use Rattle.exo_meaning.specs.Units.{are_distinct}

-- what was put and what the rest gives is all, also when a statement more was passed
pub one_put : {A : Type 0} (F : Block → List A) (f : Statement → List A) →
    ((a : Statement) (b : Block) → F (next a b) ≡ f a ++ F b) → (old new all : List A) (left rest : List Statement)
    (a : Statement) → left ≡ a ∷ rest → new ≡ old ++ f a → old ++ F (block left) ≡ all → new ++ F (block rest) ≡ all
one_put {A} F f goes old new all left rest a front put so_far =
    ap (λ (l : List A). l ++ F (block rest)) put ∙ append_assoc old (f a) (F (block rest))
    ∙ ap (λ (l : List A). old ++ l) (sym (goes a (block rest)))
    ∙ ap (λ (l : List Statement). old ++ F (block l)) (sym front) ∙ so_far

pub all_put : {A : Type 0} (F : Block → List A) → F end ≡ [] → (old all : List A) (ss : List Statement) (k : ℕ) →
    length ss ≤ k → old ++ F (block (drop k ss)) ≡ all → old ≡ all
all_put {A} F ends old all ss k past so_far =
    sym (append-nil old) ∙ ap (λ (l : List A). old ++ l) (sym ends)
    ∙ ap (λ (l : List Statement). old ++ F (block l)) (sym (drop_all k ss past)) ∙ so_far

-- the element that a turn has, and those behind it
pub front_is : {A : Type 0} (xs : List A) (i : ℕ) (item x : A) → i < length xs → item ≡ get_or xs i item → x ≡ item →
    drop i xs ≡ x ∷ drop (i + 1) xs
front_is {A} xs i item x within is same =
    drop-cons xs i item within ∙ ap (λ (y : A). y ∷ drop (suc i) xs) (sym is ∙ sym same)
    ∙ ap (λ (n : ℕ). x ∷ drop n xs) (sym (add-one i))

-- ids: what is left decides

id_front : (ids : List ℕ) (k : ℕ) → k < length ids →
    drop k ids ≡ get_or ids k 0 ∷ take (length ids - (k + 1)) (drop (k + 1) ids)
id_front ids k within =
    drop-cons ids k 0 within ∙ ap (λ (n : ℕ). get_or ids k 0 ∷ drop n ids) (sym (add-one k))
    ∙ ap (λ (l : List ℕ). get_or ids k 0 ∷ l)
    (sym (take_all (length ids - (k + 1)) (drop (k + 1) ids) (omega (arith, length-drop (k + 1) ids))))

other_by : (t b : Bool) → false ≡ t → b ≡ (not t && b)
other_by true b is = cc (is)
other_by false b is = refl

same_by : (t b : Bool) → true ≡ t → false ≡ (not t && b)
same_by true b is = refl
same_by false b is = cc (is)

pub other_id : (ids : List ℕ) (k : ℕ) → k < length ids →
    false ≡ list_any (λ y. get_or ids k 0 == y) (take (length ids - (k + 1)) (drop (k + 1) ids)) →
    are_distinct (drop k ids) ≡ are_distinct ids → are_distinct (drop (k + 1) ids) ≡ are_distinct ids
other_id ids k within other so_far =
    ap are_distinct (sym (take_all (length ids - (k + 1)) (drop (k + 1) ids) (omega (arith, length-drop (k + 1) ids))))
    ∙ other_by (list_any (λ y. get_or ids k 0 == y) (take (length ids - (k + 1)) (drop (k + 1) ids))) _ other
    ∙ ap are_distinct (sym (id_front ids k within)) ∙ so_far

pub same_id : (ids : List ℕ) (k : ℕ) → k < length ids →
    true ≡ list_any (λ y. get_or ids k 0 == y) (take (length ids - (k + 1)) (drop (k + 1) ids)) →
    are_distinct (drop k ids) ≡ are_distinct ids → false ≡ are_distinct ids
same_id ids k within same so_far =
    same_by (list_any (λ y. get_or ids k 0 == y) (take (length ids - (k + 1)) (drop (k + 1) ids))) _ same
    ∙ ap are_distinct (sym (id_front ids k within)) ∙ so_far

pub all_ids : (ids : List ℕ) (k : ℕ) → length ids ≤ k → are_distinct (drop k ids) ≡ are_distinct ids →
    true ≡ are_distinct ids
all_ids ids k past so_far = ap are_distinct (sym (drop_all k ids past)) ∙ so_far
