-- The claims of places, and how a window goes over them.
use Rattle.std.proofs.Common.{◌≡◌, ℕ, zero, suc, ◌-◌, ◌==◌, ◌&&◌, if◌then◌else◌, nat_lt, arith, Bool, true, false, ◌||◌, length, take, drop, append-nil, List, [], ◌∷◌, ◌++◌, append_assoc, add-one, ◌+◌, refl, sym, ap, ◌∙◌, subst}
use Rattle.std.proofs.lemmas.Bool.Decides.{nat_tests}
use Rattle.std.proofs.lemmas.List.Sums.{fold-append}
use Rattle.std.proofs.lemmas.Grind.{flat_map-append}
use Rattle.exo_tree.specs.Tree.{Statement, Assign, Reduce, Config, Pass, If, For, Alloc, View, Call}
use Rattle.exo_tree.specs.Tree.{Block, block, end, next, Program}
use Rattle.exo_tree.specs.Places.{Branch, Main, Else, Path, path_below}
use Rattle.affine_places.specs.Roots.{Roots, roots_of}
use Rattle.text_show.specs.Words.{Words, words_of}
use Rattle.check_claims.specs.Claim.{Placed}
use Rattle.check_claims.specs.Extents.{Extents, extents_of}
use Rattle.check_claims.specs.Claims.{own_claims, param_claims, placed_at}
use Rattle.check_claims.specs.Claims.{block_claims, inner_claims}
use Rattle.check_claims.specs.Places.{Place, block_places, inner_places, claims_at}
use Rattle.check_claims.specs.Places.{PlacesHaveAllClaims, moved, with_place, with_places}
use Rattle.check_claims.specs.declared.parts.Window.{Window}

-- ---- all places

-- of places one after the other
claims_on : (is js : List Place) → claims_at (is ++ js) ≡ claims_at is ++ claims_at js
claims_on is js = flat_map-append (λ (i : Place). placed_at i.0 i.1) is js

module _ (w : Words) (u : Program) (extents : Extents) (roots : Roots) where
  abbrev mutual
    block_same : (outer : Path) (branch : Branch) (n : ℕ) (b : Block)
        → claims_at (block_places w u extents roots outer branch n b) ≡ block_claims w u extents roots outer branch n b
    block_same outer branch n end = refl
    block_same outer branch n (next a b) =
        let path = path_below outer branch n in
        ap (λ l. placed_at path (own_claims w u extents roots a) ++ l)
        (claims_on (inner_places w u extents roots path a) (block_places w u extents roots outer branch (suc n) b)
        ∙ (λ i. inner_same path a i ++ block_same outer branch (suc n) b i))
        ∙ sym (append_assoc (placed_at path (own_claims w u extents roots a)) (inner_claims w u extents roots path a)
        (block_claims w u extents roots outer branch (suc n) b))

    inner_same : (path : Path) (s : Statement)
        → claims_at (inner_places w u extents roots path s) ≡ inner_claims w u extents roots path s
    inner_same path (Assign x is e) = refl
    inner_same path (Reduce x is e) = refl
    inner_same path (Config f a) = refl
    inner_same path Pass = refl
    inner_same path (If c a b) =
        claims_on (block_places w u extents roots path Main 0 a) (block_places w u extents roots path Else 0 b)
        ∙ (λ i. block_same path Main 0 a i ++ block_same path Else 0 b i)
    inner_same path (For i lo hi b) = block_same path Main 0 b
    inner_same path (Alloc x cell dims memory) = refl
    inner_same path (View v x coords) = refl
    inner_same path (Call k args) = refl

pub all_claims : PlacesHaveAllClaims
all_claims u p =
    ap (λ l. placed_at [] (param_claims (words_of u p) p.params) ++ l)
    (block_same (words_of u p) u (extents_of p) (roots_of p) [] Main 0 p.body)

-- ---- one statement more

module _ (w : Words) (u : Program) (extents : Extents) (roots : Roots) (outer : Path) (branch : Branch) where
  pub placed_on : (k : ℕ) (before behind after whole : List Placed × Window) (path : Path) (s : Statement)
      (ss rest : List Statement) → ss ≡ s ∷ rest → path ≡ path_below outer branch k
      → behind ≡ with_place before (path, own_claims w u extents roots s)
      → after ≡ with_places behind (inner_places w u extents roots path s)
      → with_places before (block_places w u extents roots outer branch k (block ss)) ≡ whole
      → with_places after (block_places w u extents roots outer branch (k + 1) (block rest)) ≡ whole
  placed_on k before behind after whole path s ss rest e p h j g =
      let here = path_below outer branch k in
      let inner = inner_places w u extents roots here s in
      let more = block_places w u extents roots outer branch (suc k) (block rest) in
      let first : behind ≡ with_place before (here, own_claims w u extents roots s) =
      h ∙ (λ i. with_place before (p i, own_claims w u extents roots s)) in
      let second : after ≡ with_places (with_place before (here, own_claims w u extents roots s)) inner =
      j ∙ (λ i. with_places (first i) (inner_places w u extents roots (p i) s)) in
      ap (λ n. with_places after (block_places w u extents roots outer branch n (block rest))) (add-one k)
      ∙ ap (λ l. with_places l more) second
      ∙ sym (fold-append with_place (with_place before (here, own_claims w u extents roots s)) inner more)
      ∙ ap (λ (l : List Statement). with_places before (block_places w u extents roots outer branch k (block l))) (sym e)
      ∙ g

-- ---- a window over all places

lt_suc : (m n : ℕ) → nat_lt (suc m) (suc n) ≡ nat_lt m n
lt_suc m n = grind (arith, nat_tests)

lt_pos : (n : ℕ) → nat_lt 0 (suc n) ≡ true
lt_pos n = grind (arith, nat_tests)

eq_pos : (n : ℕ) → (suc n == 0) ≡ false
eq_pos n = grind (arith, nat_tests)

one_less : (n : ℕ) → suc n - 1 ≡ n
one_less n = omega arith

or_true : (m : Bool) → (m || true) ≡ true
or_true true = refl
or_true false = refl

or_false : (m : Bool) → (m || false) ≡ m
or_false true = refl
or_false false = refl

abbrev window : ℕ → ℕ → Bool → Window
window skip count more = record { skip = skip; left = count; more = more }

skipped : (k n : ℕ) (m : Bool) (os : List Placed) (i : Place)
    → with_place (os, window (suc k) n m) i ≡ (os, window k n m)
skipped k n m os i =
    ap (λ (e : Bool). (if e && nat_lt 0 n then os ++ placed_at i.0 i.1 else os, moved (window (suc k) n m))) (eq_pos k)
    ∙ ap (λ (t : Bool). (os, if t then window (suc k - 1) n m else if nat_lt 0 n then window (suc k) (n - 1) m else window (suc k) n true)) (lt_pos k)
    ∙ ap (λ j. (os, window j n m)) (one_less k)

taken : (n : ℕ) (m : Bool) (os : List Placed) (i : Place)
    → with_place (os, window 0 (suc n) m) i ≡ (os ++ placed_at i.0 i.1, window 0 n m)
taken n m os i =
    ap (λ (t : Bool). (if (0 == 0) && t then os ++ placed_at i.0 i.1 else os, if t then window 0 (suc n - 1) m else window 0 (suc n) true)) (lt_pos n)
    ∙ ap (λ j. (os ++ placed_at i.0 i.1, window 0 j m)) (one_less n)

pub window_claims : (skip count : ℕ) (m : Bool) (os : List Placed) (is : List Place)
    → (with_places (os, window skip count m) is).0 ≡ os ++ claims_at (take count (drop skip is))
window_claims zero zero m os [] = sym (append-nil os)
window_claims zero (suc n) m os [] = sym (append-nil os)
window_claims (suc k) zero m os [] = sym (append-nil os)
window_claims (suc k) (suc n) m os [] = sym (append-nil os)
window_claims zero zero m os (i ∷ is) = window_claims zero zero true os is
window_claims zero (suc n) m os (i ∷ is) =
    ap (λ s. (with_places s is).0) (taken n m os i)
    ∙ window_claims zero n m (os ++ placed_at i.0 i.1) is
    ∙ append_assoc os (placed_at i.0 i.1) (claims_at (take n is))
window_claims (suc k) count m os (i ∷ is) =
    ap (λ s. (with_places s is).0) (skipped k count m os i) ∙ window_claims k count m os is

none_more : (n : ℕ) → nat_lt n 0 ≡ false
none_more n = grind (arith, nat_tests)

pub window_more : (skip count : ℕ) (m : Bool) (os : List Placed) (is : List Place)
    → (with_places (os, window skip count m) is).1.more ≡ (m || nat_lt count (length (drop skip is)))
window_more zero n m os [] = sym (ap (λ t. m || t) (none_more n) ∙ or_false m)
window_more (suc k) n m os [] = sym (ap (λ t. m || t) (none_more n) ∙ or_false m)
window_more zero zero m os (i ∷ is) =
    window_more zero zero true os is ∙ sym (ap (λ t. m || t) (lt_pos (length is)) ∙ or_true m)
window_more zero (suc n) m os (i ∷ is) =
    ap (λ s. (with_places s is).1.more) (taken n m os i)
    ∙ window_more zero n m (os ++ placed_at i.0 i.1) is
    ∙ ap (λ t. m || t) (sym (lt_suc n (length is)))
window_more (suc k) count m os (i ∷ is) =
    ap (λ s. (with_places s is).1.more) (skipped k count m os i) ∙ window_more k count m os is

-- ---- a window behind which no place changes anything
past_stays : (os : List Placed) (is : List Place)
    → with_places (os, window 0 0 true) is ≡ (os, window 0 0 true)
past_stays os [] = refl
past_stays os (i ∷ is) = past_stays os is

pub past : (w : Window) → w.skip ≡ 0 → w.left ≡ 0 → w.more ≡ true
    → (os : List Placed) (is : List Place) → with_places (os, w) is ≡ (os, w)
past w s l m os is =
    let e : window 0 0 true ≡ w = λ i. record { skip = sym s i; left = sym l i; more = sym m i } in
    subst (λ v. with_places (os, v) is ≡ (os, v)) e (past_stays os is)
