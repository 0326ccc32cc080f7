-- A statement's C in two parts, and blocks put together from them.
use Rattle.std.proofs.Common.{◌≡◌, ◌≤◌, ◌<◌, ◌+◌, ◌-◌, ℕ, ℤ, Bool, true, false, List, [], ◌∷◌, ◌++◌, map, length, take, get_or, arith, refl, sym, ap, ap₂, ◌∙◌}
use Rattle.std.proofs.lemmas.List.{take_more, map-append}
use Rattle.exo_tree.specs.declared.number.Id.{Id}
use Rattle.exo_tree.specs.Tree.{Statement, Assign, Reduce, Config, Pass, If, For, Alloc, View, Call, block}
use Rattle.c_tree.specs.CTree.{Number64, Element, CStatement, Array, Malloc, Free, CBlock, stop, first, followed_by, cblock}
use Rattle.c_lowering.specs.Made.Lowered.{Naming, Forms, allocated, before, block_of, forms_after}
use Rattle.c_lowering.specs.Heads.{is_on_stack, made, head_of, kept, heaped, frees}

pub followed_by_stop : (c : CBlock) → followed_by c stop ≡ c
followed_by_stop stop = refl
followed_by_stop (first a c) = ap (first a) (followed_by_stop c)

pub followed_by_assoc : (a b c : CBlock) → followed_by (followed_by a b) c ≡ followed_by a (followed_by b c)
followed_by_assoc stop b c = refl
followed_by_assoc (first s a) b c = ap (first s) (followed_by_assoc a b c)

-- ---- the statement that stands in its place, the rest, and what stands at the end

alloc_parts : (naming : Naming) (t : Bool) (e : Element) (x : ℕ) (n : ℤ) (a : Number64) (rest : CBlock) → allocated t e (naming.binder x) n a rest ≡ first (made t (Array e (naming.binder x) n) (Malloc e (naming.binder x) a)) (followed_by rest (frees naming (kept t x)))
alloc_parts naming true e x n a rest = ap (first (Array e (naming.binder x) n)) (sym (followed_by_stop rest))
alloc_parts naming false e x n a rest = refl

pub in_two : (naming : Naming) (forms : Forms) (a : Statement) (rest : CBlock) → before naming forms a rest ≡ first (head_of naming forms a) (followed_by rest (frees naming (heaped naming a)))
in_two naming forms (Assign x is e) rest = ap (first (head_of naming forms (Assign x is e))) (sym (followed_by_stop rest))
in_two naming forms (Reduce x is e) rest = ap (first (head_of naming forms (Reduce x is e))) (sym (followed_by_stop rest))
in_two naming forms (Config f a) rest = ap (first (head_of naming forms (Config f a))) (sym (followed_by_stop rest))
in_two naming forms Pass rest = ap (first (head_of naming forms Pass)) (sym (followed_by_stop rest))
in_two naming forms (If c a b) rest = ap (first (head_of naming forms (If c a b))) (sym (followed_by_stop rest))
in_two naming forms (For i lo hi b) rest = ap (first (head_of naming forms (For i lo hi b))) (sym (followed_by_stop rest))
in_two naming forms (Alloc x cell dims memory) rest = alloc_parts naming (is_on_stack (naming.memory memory) dims) _ x.id _ _ rest
in_two naming forms (View w x coords) rest = ap (first (head_of naming forms (View w x coords))) (sym (followed_by_stop rest))
in_two naming forms (Call k args) rest = ap (first (head_of naming forms (Call k args))) (sym (followed_by_stop rest))

-- ---- blocks

pub cblock_push : (made : List CStatement) (c : CStatement) → cblock (made ++ c ∷ []) ≡ followed_by (cblock made) (first c stop)
cblock_push [] c = refl
cblock_push (a ∷ made) c = ap (first a) (cblock_push made c)

-- the later buffers are freed first
pub frees_append : (naming : Naming) (xs ys : List ℕ) → frees naming (xs ++ ys) ≡ followed_by (frees naming ys) (frees naming xs)
frees_append naming [] ys = sym (followed_by_stop (frees naming ys))
frees_append naming (x ∷ xs) ys = ap (λ c. followed_by c (first (Free (naming.binder x)) stop)) (frees_append naming xs ys) ∙ followed_by_assoc (frees naming ys) (frees naming xs) (first (Free (naming.binder x)) stop)

-- one statement more
one_more : (made : CBlock) (head : CStatement) (x e f : CBlock) → followed_by made (followed_by (first head (followed_by x e)) f) ≡ followed_by (followed_by made (first head stop)) (followed_by x (followed_by e f))
one_more made head x e f = ap (λ c. followed_by made (first head c)) (followed_by_assoc x e f) ∙ sym (followed_by_assoc made (first head stop) (followed_by x (followed_by e f)))

-- what is made, the C of what is left and the ends stay the same together
pub next_made : (naming : Naming) (forms later : Forms) (a : Statement) (rest ss : List Statement) (made more : List CStatement) (c : CStatement) (xs ys : List ℕ) (whole : CBlock) → ss ≡ a ∷ rest → c ≡ head_of naming forms a → more ≡ made ++ c ∷ [] → later ≡ forms_after naming a forms → ys ≡ xs ++ heaped naming a → followed_by (cblock made) (followed_by (block_of naming forms (block ss)) (frees naming xs)) ≡ whole → followed_by (cblock more) (followed_by (block_of naming later (block rest)) (frees naming ys)) ≡ whole
next_made naming forms later a rest ss made more c xs ys whole is head pushed scope buffers before_it =
    let made_is : cblock more ≡ followed_by (cblock made) (first (head_of naming forms a) stop) = ap cblock pushed ∙ cblock_push made c ∙ ap (λ s. followed_by (cblock made) (first s stop)) head in
    let ends_are : frees naming ys ≡ followed_by (frees naming (heaped naming a)) (frees naming xs) = ap (frees naming) buffers ∙ frees_append naming xs (heaped naming a) in
    let parts : block_of naming forms (block ss) ≡ first (head_of naming forms a) (followed_by (block_of naming (forms_after naming a forms) (block rest)) (frees naming (heaped naming a))) = ap (λ l. block_of naming forms (block l)) is ∙ in_two naming forms a (block_of naming (forms_after naming a forms) (block rest)) in
    ap₂ (λ m r. followed_by m r) made_is (ap₂ (λ f e. followed_by (block_of naming f (block rest)) e) scope ends_are)
    ∙ sym (one_more (cblock made) (head_of naming forms a) (block_of naming (forms_after naming a forms) (block rest)) (frees naming (heaped naming a)) (frees naming xs))
    ∙ ap (λ b. followed_by (cblock made) (followed_by b (frees naming xs))) (sym parts)
    ∙ before_it

-- nothing is left
pub all_made : (naming : Naming) (forms : Forms) (ss : List Statement) (made : CBlock) (xs : List ℕ) (whole : CBlock) → ss ≡ [] → followed_by made (followed_by (block_of naming forms (block ss)) (frees naming xs)) ≡ whole → followed_by made (frees naming xs) ≡ whole
all_made naming forms ss made xs whole e h = ap (λ l. followed_by made (followed_by (block_of naming forms (block l)) (frees naming xs))) (sym e) ∙ h

-- the buffer that is freed next is the last of those left
next_freed : (naming : Naming) (xs : List Id) (k : ℕ) (d : Id) → k < length xs → frees naming (map (λ y. y.0) (take (length xs - k) xs)) ≡ first (Free (naming.binder (get_or xs (length xs - 1 - k) d).0)) (frees naming (map (λ y. y.0) (take (length xs - (k + 1)) xs)))
next_freed naming xs k d h =
    let at = length xs - 1 - k in
    let x = get_or xs at d in
    let inside : at < length xs = omega (arith, h) in
    let now : length xs - k ≡ at + 1 = omega (arith, h) in
    let after : at ≡ length xs - (k + 1) = omega (arith, h) in
    ap (λ n. frees naming (map (λ y. y.0) (take n xs))) now
    ∙ ap (λ ys. frees naming (map (λ y. y.0) ys)) (take_more xs at d inside)
    ∙ ap (frees naming) (map-append (λ y. y.0) (take at xs) (x ∷ []))
    ∙ frees_append naming (map (λ y. y.0) (take at xs)) (x.0 ∷ [])
    ∙ ap (λ n. first (Free (naming.binder x.0)) (frees naming (map (λ y. y.0) (take n xs)))) after

-- one buffer more is freed
pub freed_more : (naming : Naming) (xs : List Id) (k : ℕ) (d : Id) (made more : List CStatement) (whole : CBlock) → k < length xs → more ≡ made ++ Free (naming.binder (get_or xs (length xs - 1 - k) d).0) ∷ [] → followed_by (cblock made) (frees naming (map (λ y. y.0) (take (length xs - k) xs))) ≡ whole → followed_by (cblock more) (frees naming (map (λ y. y.0) (take (length xs - (k + 1)) xs))) ≡ whole
freed_more naming xs k d made more whole h pushed before_it =
    let left = frees naming (map (λ y. y.0) (take (length xs - (k + 1)) xs)) in
    let free = Free (naming.binder (get_or xs (length xs - 1 - k) d).0) in
    ap (λ m. followed_by m left) (ap cblock pushed ∙ cblock_push made free)
    ∙ followed_by_assoc (cblock made) (first free stop) left
    ∙ ap (followed_by (cblock made)) (sym (next_freed naming xs k d h))
    ∙ before_it

-- none is left
pub all_freed : (naming : Naming) (xs : List Id) (k : ℕ) (made whole : CBlock) → length xs ≤ k → followed_by made (frees naming (map (λ y. y.0) (take (length xs - k) xs))) ≡ whole → made ≡ whole
all_freed naming xs k made whole h before_it =
    let none : 0 ≡ length xs - k = omega (arith, h) in
    sym (followed_by_stop made) ∙ ap (λ n. followed_by made (frees naming (map (λ y. y.0) (take n xs)))) none ∙ before_it
