-- Sets of fields, and their members in order.
use Rattle.std.proofs.Common.{◌≡◌, ◌<◌, ◌≤◌, ℕ, zero, suc, ◌+◌, ◌-◌, Bool, true, false, if◌then◌else◌, ◌||◌, List, [], ◌∷◌, ◌++◌, length, get_or}
use Rattle.std.proofs.Common.{refl, sym, ap, ap₂, ◌∙◌, arith, drop-cons, Result, Ok, Err, IfOk}
use Rattle.std.proofs.lemmas.List.{append-nil, drop_all}
use Rattle.std.specs.Prelude.{map, drop, take, slice_range, replicate}
use Rattle.exo_tree.specs.Tree.{Statement, Block, end, next, block, Coord, At, Span}
use Rattle.meaning_laws.specs.Live.{read_by_control, read_by_coords}
use Rattle.config_state.specs.FieldSets.{contains, Marked, fields_from}

-- ---- members in order

one_more : (n m : ℕ) → n < m → m - n ≡ suc (m - (n + 1))
one_more n m h = omega arith

next_is : (n : ℕ) → suc n ≡ n + 1
next_is n = omega arith

fields_step : (n m : ℕ) (test : ℕ → Bool) → n < m → fields_from n (m - n) test ≡ (if test n then n ∷ fields_from (n + 1) (m - (n + 1)) test else fields_from (n + 1) (m - (n + 1)) test)
fields_step n m test h = ap (λ c. fields_from n c test) (one_more n m h) ∙ ap (λ k. if test n then n ∷ fields_from k (m - (n + 1)) test else fields_from k (m - (n + 1)) test) (next_is n)

append_one : (done : List ℕ) (n : ℕ) (rest : List ℕ) → (done ++ n ∷ []) ++ rest ≡ done ++ n ∷ rest
append_one [] n rest = refl
append_one (d ∷ done) n rest = ap (λ z. d ∷ z) (append_one done n rest)

pub take_one : (done : List ℕ) (n m : ℕ) (test : ℕ → Bool) (whole : List ℕ) → n < m → test n ≡ true → done ++ fields_from n (m - n) test ≡ whole → (done ++ n ∷ []) ++ fields_from (n + 1) (m - (n + 1)) test ≡ whole
take_one done n m test whole h t e = append_one done n (fields_from (n + 1) (m - (n + 1)) test) ∙ ap (λ z. done ++ z) (sym (fields_step n m test h ∙ ap (λ b. if b then n ∷ fields_from (n + 1) (m - (n + 1)) test else fields_from (n + 1) (m - (n + 1)) test) t)) ∙ e

pub pass_one : (done : List ℕ) (n m : ℕ) (test : ℕ → Bool) (whole : List ℕ) → n < m → test n ≡ false → done ++ fields_from n (m - n) test ≡ whole → done ++ fields_from (n + 1) (m - (n + 1)) test ≡ whole
pass_one done n m test whole h t e = ap (λ z. done ++ z) (sym (fields_step n m test h ∙ ap (λ b. if b then n ∷ fields_from (n + 1) (m - (n + 1)) test else fields_from (n + 1) (m - (n + 1)) test) t)) ∙ e

-- none is left
pub all_taken : (done : List ℕ) (n m : ℕ) (test : ℕ → Bool) (whole : List ℕ) → m ≤ n
    → done ++ fields_from n (m - n) test ≡ whole → done ≡ whole
all_taken done n m test whole h e =
    let none : m - n ≡ 0 = omega (arith, h) in
    sym (append-nil done) ∙ ap (λ c. done ++ fields_from n c test) (sym none) ∙ e

-- ---- marks

pub marked_same : (test other : ℕ → Bool) (old new : List Bool) → ((f : ℕ) → f < length old → test f ≡ other f) → Marked test old new → Marked other old new
marked_same test other old new same h = record { same_length = h.same_length; each = λ f k. h.each f k ∙ ap (λ t. contains old f || t) (same f k) }

pub marked_none : (s : List Bool) → Marked (λ f. false) s s
marked_none s = record { same_length = refl; each = λ f k. none (contains s f) }
  where
    none : (t : Bool) → t ≡ (t || false)
    none true = refl
    none false = refl

pub marked_then : (test more : ℕ → Bool) (old mid new : List Bool) → Marked test old mid → Marked more mid new → Marked (λ f. test f || more f) old new
marked_then test more old mid new h k = record {
  same_length = k.same_length ∙ h.same_length;
  each = λ f j. k.each f (let e = h.same_length in omega arith) ∙ ap (λ t. t || more f) (h.each f j) ∙ associate (contains old f) (test f) (more f);
}
  where
    associate : (a b c : Bool) → ((a || b) || c) ≡ (a || (b || c))
    associate true b c = refl
    associate false b c = refl

-- one statement and then the rest
pub block_marked : (whole : Block → ℕ → Bool) (one : Statement → ℕ → Bool) → ((a : Statement) (b : Block) (f : ℕ) → whole (next a b) f ≡ (one a f || whole b f)) → (ss rest : List Statement) (k : ℕ) (a : Statement) (set mid new : List Bool) → drop k ss ≡ a ∷ rest → Marked (one a) set mid → Marked (whole (block rest)) mid new → Marked (whole (block (drop k ss))) set new
block_marked whole one e ss rest k a set mid new d h j = marked_same (λ f. one a f || whole (block rest) f) (whole (block (drop k ss))) set new (λ f l. sym (e a (block rest) f) ∙ ap (λ (z : List Statement). whole (block z) f) (sym d)) (marked_then (one a) (whole (block rest)) set mid new h j)

-- no statement is left
pub block_ended : (whole : Block → ℕ → Bool) → ((f : ℕ) → whole end f ≡ false) → (ss : List Statement) (k : ℕ)
    (set : List Bool) → length ss ≤ k → Marked (whole (block (drop k ss))) set set
block_ended whole e ss k set h =
    marked_same (λ f. false) (whole (block (drop k ss))) set set
    (λ f l. sym (e f) ∙ ap (λ (z : List Statement). whole (block z) f) (sym (drop_all k ss h)))
    (marked_none set)

-- ---- how long sets are

pub length_none : (n : ℕ) → length (replicate n false) ≡ n
length_none zero = refl
length_none (suc n) = ap suc (length_none n)

-- so is one to which something is added
pub below_limit : (n m limit : ℕ) (empty set : List Bool) → empty ≡ replicate n false → n ≡ m
    → length set ≡ length empty → m < limit → length set < limit
below_limit n m limit empty set e k s h = omega (arith, s, ap length e, length_none n, k, h)

-- ---- an item of a slice

pub drop_item : {X : Type 0} (xs : List X) (i : ℕ) (d : X) → i < length xs → d ≡ get_or xs i d → drop i xs ≡ d ∷ drop (i + 1) xs
drop_item xs i d h e = drop-cons xs i d h ∙ ap₂ (λ a k. a ∷ drop k xs) (sym e) (next_is i)

-- ---- some statements of a block

range_step : (ss rest : List Statement) (k to : ℕ) (a : Statement) → k < to → drop k ss ≡ a ∷ rest → rest ≡ drop (k + 1) ss → slice_range ss k to ≡ a ∷ slice_range ss (k + 1) to
range_step ss rest k to a h d e =
    let one : to - k ≡ suc (to - (k + 1)) = omega arith in
    ap₂ (λ n xs. take n xs) one d ∙ ap (λ xs. a ∷ take (to - (k + 1)) xs) e

pub range_marked : (whole : Block → ℕ → Bool) (one : Statement → ℕ → Bool) → ((a : Statement) (b : Block) (f : ℕ) → whole (next a b) f ≡ (one a f || whole b f)) → (ss : List Statement) (k to : ℕ) (a : Statement) (set mid new : List Bool) → k < to → drop k ss ≡ a ∷ drop (k + 1) ss → Marked (one a) set mid → Marked (whole (block (slice_range ss (k + 1) to))) mid new → Marked (whole (block (slice_range ss k to))) set new
range_marked whole one e ss k to a set mid new l d h j = marked_same (λ f. one a f || whole (block (slice_range ss (k + 1) to)) f) (whole (block (slice_range ss k to))) set new (λ f m. sym (e a (block (slice_range ss (k + 1) to)) f) ∙ ap (λ (z : List Statement). whole (block z) f) (sym (range_step ss (drop (k + 1) ss) k to a l d refl))) (marked_then (one a) (whole (block (slice_range ss (k + 1) to))) set mid new h j)

pub range_end : (ss : List Statement) (k to : ℕ) → to ≤ k → slice_range ss k to ≡ []
range_end ss k to h = let none : to - k ≡ 0 = omega arith in ap (λ n. take n (drop k ss)) none ∙ take_none (drop k ss)
  where
    take_none : (xs : List Statement) → take 0 xs ≡ []
    take_none [] = refl
    take_none (x ∷ xs) = refl

-- ---- the same members

pub fields_same : (n count : ℕ) (test other : ℕ → Bool) → ((f : ℕ) → f < n + count → test f ≡ other f) → fields_from n count test ≡ fields_from n count other
fields_same n zero test other h = refl
fields_same n (suc count) test other h = ap₂ (λ t fs. if t then n ∷ fs else fs) (h n (omega arith)) (fields_same (suc n) count test other (λ f l. h f (omega arith)))

pub if_ok : {X E : Type 0} (r : Result X E) (P Q : X → Type 0) → ((x : X) → P x → Q x) → IfOk r P → IfOk r Q
if_ok (Ok x) P Q k h = k x h
if_ok (Err e) P Q k h = tt

-- ---- items of a list one after the other

pub items_marked : {X A : Type 0} (plain : X → A) (whole : List A → ℕ → Bool) (one : A → ℕ → Bool) → ((a : A) (as' : List A) (f : ℕ) → whole (a ∷ as') f ≡ (one a f || whole as' f)) → (xs : List X) (k : ℕ) (d : X) (set mid new : List Bool) → k < length xs → d ≡ get_or xs k d → Marked (one (plain d)) set mid → Marked (whole (map plain (drop (k + 1) xs))) mid new → Marked (whole (map plain (drop k xs))) set new
items_marked plain whole one e xs k d set mid new l i h j = marked_same (λ f. one (plain d) f || whole (map plain (drop (k + 1) xs)) f) (whole (map plain (drop k xs))) set new (λ f m. sym (e (plain d) (map plain (drop (k + 1) xs)) f) ∙ ap (λ ys. whole (map plain ys) f) (sym (drop_item xs k d l i))) (marked_then (one (plain d)) (whole (map plain (drop (k + 1) xs))) set mid new h j)

pub items_end : {X A : Type 0} (plain : X → A) (whole : List A → ℕ → Bool) → ((f : ℕ) → whole [] f ≡ false) → (xs : List X) (k : ℕ) (set : List Bool) → length xs ≤ k → Marked (whole (map plain (drop k xs))) set set
items_end plain whole e xs k set h = marked_same (λ f. false) (whole (map plain (drop k xs))) set set (λ f l. sym (e f) ∙ ap (λ ys. whole (map plain ys) f) (sym (drop_all k xs h))) (marked_none set)

-- ---- coordinates

pub coords_split : (c : Coord) (cs : List Coord) (f : ℕ) → read_by_coords f (c ∷ cs) ≡ (read_by_coords f (c ∷ []) || read_by_coords f cs)
coords_split (At a) cs f = go (read_by_control f a)
  where
    go : (t : Bool) → (t || read_by_coords f cs) ≡ ((t || false) || read_by_coords f cs)
    go true = refl
    go false = refl
coords_split (Span a b) cs f = go (read_by_control f a) (read_by_control f b)
  where
    go : (s t : Bool) → (s || (t || read_by_coords f cs)) ≡ ((s || (t || false)) || read_by_coords f cs)
    go true t = refl
    go false true = refl
    go false false = refl
