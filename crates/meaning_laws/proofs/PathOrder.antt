-- The order of paths in the text: what is round a statement comes before it.
use Rattle.std.proofs.Common.{◌≡◌, ℕ, suc, ◌==◌, nat_lt, Bool, true, false, ◌&&◌, ◌||◌, [], ◌∷◌, ◌++◌, arith, refl, sym, ap, ap₂, ◌∙◌, true≢false, eqb-true, eq-eqb}
use Rattle.std.proofs.lemmas.Bool.Decides.{nat_tests}
use Rattle.exo_tree.specs.Places.{Branch, Main, Else, Step, Path}
use Rattle.meaning_laws.specs.KnownFields.{same_branch, same_step, same_path, path_in}
use Rattle.meaning_laws.proofs.Substitute.{and_parts}

abbrev is_earlier : Branch → Branch → Bool
is_earlier Main Main = false
is_earlier Main Else = true
is_earlier Else Main = false
is_earlier Else Else = false

abbrev step_before : Step → Step → Bool
step_before s t = is_earlier s.branch t.branch || (same_branch s.branch t.branch && nat_lt s.index t.index)

abbrev pub is_before : Path → Path → Bool
is_before [] [] = false
is_before [] (t ∷ q) = true
is_before (s ∷ p) [] = false
is_before (s ∷ p) (t ∷ q) = step_before s t || (same_step s t && is_before p q)

abbrev pub step_of : Branch → ℕ → Step
step_of branch n = record { branch = branch; index = n }

lt_self : (n : ℕ) → nat_lt n n ≡ false
lt_self n = grind (arith, nat_tests)

lt_next : (n : ℕ) → nat_lt n (suc n) ≡ true
lt_next n = grind (arith, nat_tests)

lt_on : (m n : ℕ) → nat_lt m n ≡ true → nat_lt m (suc n) ≡ true
lt_on m n h = grind (arith, nat_tests)

pub either_left : (a b : Bool) → a ≡ true → (a || b) ≡ true
either_left a b h = ap (λ t. t || b) h

pub either_right : (a b : Bool) → b ≡ true → (a || b) ≡ true
either_right true b h = refl
either_right false b h = h

-- ---- equal paths

branch_self : (b : Branch) → same_branch b b ≡ true
branch_self Main = refl
branch_self Else = refl

branch_is : (b c : Branch) → same_branch b c ≡ true → b ≡ c
branch_is Main Main h = refl
branch_is Main Else h = absurd (true≢false (sym h))
branch_is Else Main h = absurd (true≢false (sym h))
branch_is Else Else h = refl

step_self : (s : Step) → same_step s s ≡ true
step_self s = ap₂ ◌&&◌ (branch_self s.branch) (eq-eqb s.index s.index refl)

step_is : (s t : Step) → same_step s t ≡ true → s ≡ t
step_is s t h =
    let p = and_parts (same_branch s.branch t.branch) (s.index == t.index) h in
    ap₂ step_of (branch_is s.branch t.branch p.0) (eqb-true s.index t.index p.1)

pub path_self : (p : Path) → same_path p p ≡ true
path_self [] = refl
path_self (s ∷ p) = ap₂ ◌&&◌ (step_self s) (path_self p)

pub path_is : (p q : Path) → same_path p q ≡ true → p ≡ q
path_is [] [] h = refl
path_is [] (t ∷ q) h = absurd (true≢false (sym h))
path_is (s ∷ p) [] h = absurd (true≢false (sym h))
path_is (s ∷ p) (t ∷ q) h = let k = and_parts (same_step s t) (same_path p q) h in ap₂ (λ a b. a ∷ b) (step_is s t k.0) (path_is p q k.1)

-- ---- order

not_before_self : (s : Step) → step_before s s ≡ false
not_before_self s = go s.branch
  where
    go : (b : Branch) → (is_earlier b b || (same_branch b b && nat_lt s.index s.index)) ≡ false
    go Main = lt_self s.index
    go Else = lt_self s.index

-- nothing comes before itself
pub other_path : (p q : Path) → is_before p q ≡ true → same_path p q ≡ false
other_path [] [] h = absurd (true≢false (sym h))
other_path [] (t ∷ q) h = refl
other_path (s ∷ p) [] h = refl
other_path (s ∷ p) (t ∷ q) h = go (other_path p q) (same_step s t) refl
  where
    go : (is_before p q ≡ true → same_path p q ≡ false) → (e : Bool) → same_step s t ≡ e → (e && same_path p q) ≡ false
    go rest true e = rest (sym (ap₂ (λ a b. a || (b && is_before p q)) (ap (step_before s) (sym (step_is s t e)) ∙ not_before_self s) e) ∙ h)
    go rest false e = refl

-- what comes before a statement comes before each in it
pub before_inside : (p q r : Path) → is_before p q ≡ true → is_before p (q ++ r) ≡ true
before_inside [] [] r h = absurd (true≢false (sym h))
before_inside [] (t ∷ q) r h = refl
before_inside (s ∷ p) [] r h = absurd (true≢false (sym h))
before_inside (s ∷ p) (t ∷ q) r h = go (before_inside p q r) (step_before s t) (same_step s t) h
  where
    go : (is_before p q ≡ true → is_before p (q ++ r) ≡ true) → (a b : Bool) → (a || (b && is_before p q)) ≡ true → (a || (b && is_before p (q ++ r))) ≡ true
    go rest true b e = refl
    go rest false true e = rest e
    go rest false false e = e

-- a statement comes before each in it
pub self_before_inside : (p : Path) (s : Step) (r : Path) → is_before p (p ++ s ∷ r) ≡ true
self_before_inside [] s r = refl
self_before_inside (t ∷ p) s r = either_right (step_before t t) (same_step t t && is_before p (p ++ s ∷ r)) (ap₂ ◌&&◌ (step_self t) (self_before_inside p s r))

-- a statement comes before the next one
step_before_next : (branch : Branch) (n : ℕ) → step_before (step_of branch n) (step_of branch (suc n)) ≡ true
step_before_next Main n = lt_next n
step_before_next Else n = lt_next n

pub self_before_next : (q : Path) (branch : Branch) (n : ℕ) → is_before (path_in q branch n) (path_in q branch (suc n)) ≡ true
self_before_next [] branch n = either_left (step_before (step_of branch n) (step_of branch (suc n))) _ (step_before_next branch n)
self_before_next (t ∷ q) branch n = either_right (step_before t t) (same_step t t && is_before (path_in q branch n) (path_in q branch (suc n))) (ap₂ ◌&&◌ (step_self t) (self_before_next q branch n))

step_before_on : (s : Step) (branch : Branch) (n : ℕ) → step_before s (step_of branch n) ≡ true → step_before s (step_of branch (suc n)) ≡ true
step_before_on s branch n h = go s.branch branch h
  where
    go : (b c : Branch) → (is_earlier b c || (same_branch b c && nat_lt s.index n)) ≡ true → (is_earlier b c || (same_branch b c && nat_lt s.index (suc n))) ≡ true
    go Main Main k = lt_on s.index n k
    go Main Else k = refl
    go Else Main k = absurd (true≢false (sym k))
    go Else Else k = lt_on s.index n k

-- what comes before a part of a statement comes before the next statement
pub before_next : (p q : Path) (branch : Branch) (n : ℕ) (r : Path) → is_before p (q ++ step_of branch n ∷ r) ≡ true → is_before p (path_in q branch (suc n)) ≡ true
before_next [] [] branch n r h = refl
before_next (s ∷ p) [] branch n r h = go (step_before s (step_of branch n)) refl (same_step s (step_of branch n)) refl h
  where
    go : (a : Bool) → step_before s (step_of branch n) ≡ a → (b : Bool) → same_step s (step_of branch n) ≡ b → (a || (b && is_before p r)) ≡ true → (step_before s (step_of branch (suc n)) || (same_step s (step_of branch (suc n)) && is_before p [])) ≡ true
    go true e b f k = either_left (step_before s (step_of branch (suc n))) (same_step s (step_of branch (suc n)) && is_before p []) (step_before_on s branch n e)
    go false e true f k = either_left (step_before s (step_of branch (suc n))) (same_step s (step_of branch (suc n)) && is_before p []) (ap (λ z. step_before z (step_of branch (suc n))) (step_is s (step_of branch n) f) ∙ step_before_next branch n)
    go false e false f k = absurd (true≢false (sym k))
before_next [] (t ∷ q) branch n r h = refl
before_next (s ∷ p) (t ∷ q) branch n r h = go (before_next p q branch n r) (step_before s t) (same_step s t) h
  where
    go : (is_before p (q ++ step_of branch n ∷ r) ≡ true → is_before p (path_in q branch (suc n)) ≡ true) → (a b : Bool) → (a || (b && is_before p (q ++ step_of branch n ∷ r))) ≡ true → (a || (b && is_before p (path_in q branch (suc n)))) ≡ true
    go rest true b e = refl
    go rest false true e = rest e
    go rest false false e = e

pub appended : (p q r : Path) → (p ++ q) ++ r ≡ p ++ (q ++ r)
appended [] q r = refl
appended (s ∷ p) q r = ap (λ z. s ∷ z) (appended p q r)

-- a statement comes before the next one of its block, and so does all before it
pub before_step : (p q : Path) (branch : Branch) (n : ℕ) → is_before p (path_in q branch n) ≡ true → is_before p (path_in q branch (suc n)) ≡ true
before_step p q branch n h = before_next p q branch n [] h

-- so does what comes before a place in one of its branches
pub before_after : (p q : Path) (branch inner : Branch) (n m : ℕ) → is_before p (path_in (path_in q branch n) inner m) ≡ true → is_before p (path_in q branch (suc n)) ≡ true
before_after p q branch inner n m h = before_next p q branch n (step_of inner m ∷ []) (ap (is_before p) (sym (appended q (step_of branch n ∷ []) (step_of inner m ∷ []))) ∙ h)
