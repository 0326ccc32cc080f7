-- What is known of a field after statements hangs on what was known of that field alone.
use Rattle.std.proofs.Common.{◌≡◌, ℕ, zero, suc, ◌+◌, ◌≤◌, Bool, cond, ◌||◌, List, [], ◌∷◌, drop, get_or, length, arith, refl, sym, ap, ap₂, ◌∙◌, add-one}
use Rattle.std.proofs.lemmas.List.{drop_all}
use Rattle.exo_tree.specs.Tree.{Statement, Assign, Reduce, Config, Pass, If, For, Alloc, View, Call, Block, end, next, block}
use Rattle.exo_tree.specs.Places.{Branch, Main, Else, Path}
use Rattle.meaning_laws.specs.Fields.{writes_field, step_writes_field}
use Rattle.meaning_laws.specs.KnownFields.{FieldValue, UnknownAt, KnownFields, Telling, same_value, path_in, after, at_end}
use Rattle.check_facts.specs.Walks.{value_after, value_at_end, SameBelow, passed}

module _ (tell : Telling) (f : ℕ) where
  mutual
    pub after_value : (path : Path) (a : Statement) (known : KnownFields) → after tell path a known f ≡ value_after tell f path a (known f)
    after_value path (Assign x is e) known = refl
    after_value path (Reduce x is e) known = refl
    after_value path (Config g a) known = refl
    after_value path Pass known = refl
    after_value path (If c a b) known = ap₂ (λ x y. cond (same_value tell.agree x y) x (UnknownAt path)) (end_value path Main zero a known) (end_value path Else zero b known)
    after_value path (For i lo hi b) known = refl
    after_value path (Alloc x cell dims memory) known = refl
    after_value path (View w x coords) known = refl
    after_value path (Call k args) known = refl

    end_value : (outer : Path) (branch : Branch) (n : ℕ) (b : Block) (known : KnownFields) → at_end tell outer branch n b known f ≡ value_at_end tell f outer branch n b (known f)
    end_value outer branch n end known = refl
    end_value outer branch n (next a b) known = end_value outer branch (suc n) b (after tell (path_in outer branch n) a known) ∙ ap (value_at_end tell f outer branch (suc n) b) (after_value (path_in outer branch n) a known)

  -- where as much is known of the field, as much is known after the statement
  pub after_same : (path : Path) (a : Statement) (known other : KnownFields) → known f ≡ other f → after tell path a known f ≡ after tell path a other f
  after_same path a known other h = after_value path a known ∙ ap (value_after tell f path a) h ∙ sym (after_value path a other)

  -- one statement of a block more
  pub end_on : (outer : Path) (branch : Branch) (k : ℕ) (xs rest : List Statement) (a : Statement) (path : Path) (v w whole : FieldValue) → xs ≡ a ∷ rest → path ≡ path_in outer branch k → w ≡ value_after tell f path a v → value_at_end tell f outer branch k (block xs) v ≡ whole → value_at_end tell f outer branch (k + 1) (block rest) w ≡ whole
  end_on outer branch k xs rest a path v w whole e p h i =
      ap (λ n. value_at_end tell f outer branch n (block rest) w) (add-one k)
      ∙ ap (value_at_end tell f outer branch (suc k) (block rest)) (h ∙ ap (λ q. value_after tell f q a v) p)
      ∙ sym (ap (λ ys. value_at_end tell f outer branch k (block ys) v) e)
      ∙ i

  pub end_done : (outer : Path) (branch : Branch) (k : ℕ) (xs : List Statement) (v whole : FieldValue) → length xs ≤ k → value_at_end tell f outer branch k (block (drop k xs)) v ≡ whole → v ≡ whole
  end_done outer branch k xs v whole h i = sym (ap (λ ys. value_at_end tell f outer branch k (block ys) v) (drop_all k xs h)) ∙ i

-- ---- the first statements of a block

same_statement : (x a : Statement) (xs rest : List Statement) → x ∷ xs ≡ a ∷ rest → x ≡ a
same_statement x a xs rest e = ap (λ ys. get_or ys 0 x) e

module _ (tell : Telling) (outer : Path) (branch : Branch) where
  -- after one statement more
  passed_more : (n k : ℕ) (xs rest : List Statement) (a : Statement) (known : KnownFields) → drop k xs ≡ a ∷ rest → passed tell outer branch n (suc k) (block xs) known ≡ after tell (path_in outer branch (n + k)) a (passed tell outer branch n k (block xs) known)
  passed_more n k [] rest a known e = no k e
    where
      no : (k : ℕ) → drop k [] ≡ a ∷ rest → passed tell outer branch n (suc k) end known ≡ after tell (path_in outer branch (n + k)) a (passed tell outer branch n k end known)
      no zero e = cc
      no (suc k) e = cc
  passed_more n zero (x ∷ xs) rest a known e =
      let z : n ≡ n + zero = omega arith in
      ap₂ (λ m y. after tell (path_in outer branch m) y known) z (same_statement x a xs rest e)
  passed_more n (suc k) (x ∷ xs) rest a known e =
      let new = after tell (path_in outer branch n) x known in
      let m : suc n + k ≡ n + suc k = omega arith in
      passed_more (suc n) k xs rest a new e ∙ ap (λ j. after tell (path_in outer branch j) a (passed tell outer branch (suc n) k (block xs) new)) m

  pub passed_next : (count k : ℕ) (xs rest : List Statement) (a : Statement) (path : Path) (old new first : KnownFields) → path ≡ path_in outer branch k → drop k xs ≡ a ∷ rest → SameBelow count new (after tell path a old) → SameBelow count old (passed tell outer branch zero k (block xs) first) → SameBelow count new (passed tell outer branch zero (k + 1) (block xs) first)
  passed_next count k xs rest a path old new first p e h w = λ f lt.
      let z : zero + k ≡ k = omega arith in
      h f lt
      ∙ after_same tell f path a old (passed tell outer branch zero k (block xs) first) (w f lt)
      ∙ ap (λ q. after tell q a (passed tell outer branch zero k (block xs) first) f) (p ∙ ap (path_in outer branch) (sym z))
      ∙ sym (ap (λ known. known f) (passed_more zero k xs rest a first e))
      ∙ ap (λ n. passed tell outer branch zero n (block xs) first f) (sym (add-one k))

-- ---- writes

module _ (calls other : ℕ → ℕ → Bool) (f : ℕ) (same : (k : ℕ) → calls k f ≡ other k f) where
  mutual
    pub writes_same : (b : Block) → writes_field calls f b ≡ writes_field other f b
    writes_same end = refl
    writes_same (next a b) = ap₂ ◌||◌ (step_same a) (writes_same b)

    step_same : (a : Statement) → step_writes_field calls f a ≡ step_writes_field other f a
    step_same (Assign x is e) = refl
    step_same (Reduce x is e) = refl
    step_same (Config g a) = refl
    step_same Pass = refl
    step_same (If c a b) = ap₂ ◌||◌ (writes_same a) (writes_same b)
    step_same (For i lo hi b) = writes_same b
    step_same (Alloc x cell dims memory) = refl
    step_same (View w x coords) = refl
    step_same (Call k args) = same k
