-- Where two blocks differ in one store: in the block itself, or in a loop or branch of it.
use Rattle.std.proofs.Common.{◌≡◌, ℕ, zero, suc, ◌+◌, ◌<◌, ◌≤◌, true, List, [], ◌∷◌, ◌++◌, take}
use Rattle.std.proofs.Common.{drop, length}
use Rattle.std.proofs.Common.{option_map, append_assoc, refl, sym, ap, ap₂, ◌∙◌, subst, arith}
use Rattle.std.proofs.lemmas.List.{drop_all}
use Rattle.exo_tree.specs.Tree.{Binder, Control, Condition, Statement, If, For, Block, end, next}
use Rattle.exo_tree.specs.Tree.{block}
use Rattle.exo_tree.specs.Context.{Here, After, InLoop, InThen, InElse}
use Rattle.exo_tree.specs.Places.{Branch, Main, Else, Path, opened}
use Rattle.schedule_laws.specs.Owed.Stores.{IsStore, StoreChanged}
use Rattle.loop_laws.specs.SameTrees.{same_control, same_condition}
use Rattle.schedule_run.specs.Changed.{same_binder, to, StoreIn, StoreUnder, ChangedIn, ChangedAt}
use Rattle.schedule_run.proofs.SameNames.{binders_are, each_control_is, each_condition_is}

-- ---- lists that are the same up to an index, and from an index on

past : (k : ℕ) → suc k + 1 ≡ suc (k + 1)
past k = omega arith

module _ {A : Type 0} where
  no_more : {X : Type 0} (x : A) (xs : List A) → [] ≡ x ∷ xs → X
  no_more x xs h = absurd (no x xs h)
    where
      no : (x : A) (xs : List A) → [] ≡ x ∷ xs → ⊥
      no x xs h = cc

  take_more : (k : ℕ) (xs rest : List A) (x : A) → drop k xs ≡ x ∷ rest
      → take (k + 1) xs ≡ take k xs ++ x ∷ []
  take_more zero xs rest x h = ap (take 1) h
  take_more (suc k) [] rest x h = no_more x rest h
  take_more (suc k) (y ∷ ys) rest x h =
      ap (λ n. take n (y ∷ ys)) (past k) ∙ ap (λ l. y ∷ l) (take_more k ys rest x h)

  pub same_further : (k : ℕ) (xs ys us vs : List A) (x y : A) → drop k xs ≡ x ∷ us
      → drop k ys ≡ y ∷ vs
      → x ≡ y → take k xs ≡ take k ys → take (k + 1) xs ≡ take (k + 1) ys
  same_further k xs ys us vs x y e f same h =
      take_more k xs us x e ∙ ap₂ (λ l z. l ++ z ∷ []) h same ∙ sym (take_more k ys vs y f)

  pub same_before : (k : ℕ) (xs ys : List A) (x y : A) → drop k xs ≡ x ∷ drop (k + 1) xs
      → drop k ys ≡ y ∷ drop (k + 1) ys → x ≡ y → drop (k + 1) xs ≡ drop (k + 1) ys
      → drop k xs ≡ drop k ys
  same_before k xs ys x y e f same h = e ∙ ap₂ (λ z l. z ∷ l) same h ∙ sym f

  pub both_ended : (k : ℕ) (xs ys : List A) → length xs ≤ k → length ys ≤ k → drop k xs ≡ drop k ys
  both_ended k xs ys h l = drop_all k xs h ∙ sym (drop_all k ys l)

-- ---- of statements

pub stores_under : (a b : Statement) → IsStore a → IsStore b → StoreUnder [] a b
stores_under a b h k = record {
  around = λ rest. Here rest;
  old = a;
  new = b;
  opens = λ branch rest. refl;
  is = λ rest. refl;
  old_is = h;
  new_is = k;
}

pub stores_at : (path : Path) (a b : Statement) → IsStore a → IsStore b → ChangedAt path path a b
stores_at path a b h k = record {
  inner = [];
  goes = sym (nothing path);
  store = stores_under a b h k;
}
  where
    nothing : (path : Path) → path ++ [] ≡ path
    nothing [] = refl
    nothing (s ∷ path) = ap (λ l. s ∷ l) (nothing path)

module _ (path found : Path) (x y : Block) where
  pub loop_changed : (i j : Binder) (lo hi m n : Control) → i ≡ j → lo ≡ m → hi ≡ n
      → ChangedIn path Main found x y → ChangedAt path found (For i lo hi x) (For j m n y)
  loop_changed i j lo hi m n p q r h =
      let s = h.store in
      subst (λ z. ChangedAt path found (For i lo hi x) z) (λ t. For (p t) (q t) (r t) y)
      (record {
        inner = to Main h.index ∷ h.inner;
        goes = h.goes;
        store = record {
          around = λ rest. InLoop i lo hi s.around rest;
          old = s.old;
          new = s.new;
          opens =
              λ branch rest.
              ap
              (option_map (λ o. record { around = InLoop i lo hi o.around rest; piece = o.piece }))
              s.opens;
          is = λ rest. ap (λ z. next (For i lo hi z) rest) s.is;
          old_is = s.old_is;
          new_is = s.new_is;
        };
      })

  pub then_changed : (c d : Condition) (other more : Block) → c ≡ d → other ≡ more
      → ChangedIn path Main found x y → ChangedAt path found (If c x other) (If d y more)
  then_changed c d other more p q h =
      let s = h.store in
      subst (λ z. ChangedAt path found (If c x other) z) (λ t. If (p t) y (q t))
      (record {
        inner = to Main h.index ∷ h.inner;
        goes = h.goes;
        store = record {
          around = λ rest. InThen c s.around other rest;
          old = s.old;
          new = s.new;
          opens =
              λ branch rest.
              ap
              (option_map (λ o. record { around = InThen c o.around other rest; piece = o.piece }))
              s.opens;
          is = λ rest. ap (λ z. next (If c z other) rest) s.is;
          old_is = s.old_is;
          new_is = s.new_is;
        };
      })

  pub else_changed : (c d : Condition) (other more : Block) → c ≡ d → other ≡ more
      → ChangedIn path Else found x y → ChangedAt path found (If c other x) (If d more y)
  else_changed c d other more p q h =
      let s = h.store in
      subst (λ z. ChangedAt path found (If c other x) z) (λ t. If (p t) (q t) y)
      (record {
        inner = to Else h.index ∷ h.inner;
        goes = h.goes;
        store = record {
          around = λ rest. InElse c other s.around rest;
          old = s.old;
          new = s.new;
          opens =
              λ branch rest.
              ap
              (option_map (λ o. record { around = InElse c other o.around rest; piece = o.piece }))
              s.opens;
          is = λ rest. ap (λ z. next (If c other z) rest) s.is;
          old_is = s.old_is;
          new_is = s.new_is;
        };
      })

module _ (path found : Path) (a b : Statement) (x y : Block) where
  pub in_loops : (i j : Binder) (lo hi m n : Control) → a ≡ For i lo hi x → b ≡ For j m n y
      → same_binder i j ≡ true → same_control lo m ≡ true → same_control hi n ≡ true
      → ChangedIn path Main found x y → ChangedAt path found a b
  in_loops i j lo hi m n e f p q r h =
      subst (λ z. ChangedAt path found z b) (sym e)
      (subst (λ z. ChangedAt path found (For i lo hi x) z) (sym f)
      (loop_changed path found x y i j lo hi m n (binders_are i j p) (each_control_is lo m q)
      (each_control_is hi n r) h))

  module _ (c d : Condition) (other more : Block) (same : same_condition c d ≡ true)
      (q : other ≡ more) where
    pub in_first_branches : a ≡ If c x other → b ≡ If d y more → ChangedIn path Main found x y
        → ChangedAt path found a b
    in_first_branches e f h =
        subst (λ z. ChangedAt path found z b) (sym e)
        (subst (λ z. ChangedAt path found (If c x other) z) (sym f)
        (then_changed path found x y c d other more (each_condition_is c d same) q h))

    pub in_second_branches : a ≡ If c other x → b ≡ If d more y → ChangedIn path Else found x y
        → ChangedAt path found a b
    in_second_branches e f h =
        subst (λ z. ChangedAt path found z b) (sym e)
        (subst (λ z. ChangedAt path found (If c other x) z) (sym f)
        (else_changed path found x y c d other more (each_condition_is c d same) q h))

-- ---- of blocks

first_in : (inner : Path) (a b : Statement) (rest : Block) (branch : Branch) → StoreUnder inner a b
    → StoreIn (to branch 0 ∷ inner) (next a rest) (next b rest)
first_in inner a b rest branch s = record {
  around = s.around rest;
  old = s.old;
  new = s.new;
  opens = s.opens branch rest;
  is = s.is rest;
  old_is = s.old_is;
  new_is = s.new_is;
}

further : (branch : Branch) (k : ℕ) (inner : Path) (x : Statement) (b c : Block)
    → StoreIn (to branch k ∷ inner) b c → StoreIn (to branch (suc k) ∷ inner) (next x b) (next x c)
further branch k [] x b c s = record {
  around = After x s.around;
  old = s.old;
  new = s.new;
  opens = ap (option_map (λ o. record { around = After x o.around; piece = o.piece })) s.opens;
  is = ap (next x) s.is;
  old_is = s.old_is;
  new_is = s.new_is;
}
further branch k (t ∷ inner) x b c s = record {
  around = After x s.around;
  old = s.old;
  new = s.new;
  opens = ap (option_map (λ o. record { around = After x o.around; piece = o.piece })) s.opens;
  is = ap (next x) s.is;
  old_is = s.old_is;
  new_is = s.new_is;
}

heads_are : {A : Type 0} (x y : A) (xs ys : List A) → x ∷ xs ≡ y ∷ ys → x ≡ y
heads_are x y xs ys h = cc

tails_are : {A : Type 0} (x y : A) (xs ys : List A) → x ∷ xs ≡ y ∷ ys → xs ≡ ys
tails_are x y xs ys h = cc

at_index : (branch : Branch) (k : ℕ) (inner : Path) (xs ys rest : List Statement) (a b : Statement)
    → take k xs ≡ take k ys → drop k xs ≡ a ∷ rest → drop k ys ≡ b ∷ rest → StoreUnder inner a b
    → StoreIn (to branch k ∷ inner) (block xs) (block ys)
at_index branch zero inner xs ys rest a b h e f s =
    subst (λ l. StoreIn (to branch 0 ∷ inner) (block l) (block ys)) (sym e)
    (subst (λ l. StoreIn (to branch 0 ∷ inner) (next a (block rest)) (block l)) (sym f)
    (first_in inner a b (block rest) branch s))
at_index branch (suc k) inner [] ys rest a b h e f s = no_more a rest e
at_index branch (suc k) inner (x ∷ xs) [] rest a b h e f s = no_more b rest f
at_index branch (suc k) inner (x ∷ xs) (y ∷ ys) rest a b h e f s =
    subst (λ z. StoreIn (to branch (suc k) ∷ inner) (next x (block xs)) (next z (block ys)))
    (heads_are x y (take k xs) (take k ys) h)
    (further branch k inner x (block xs) (block ys)
    (at_index branch k inner xs ys rest a b (tails_are x y (take k xs) (take k ys) h) e f s))

pub in_block : (outer path found : Path) (branch : Branch) (k : ℕ) (xs ys us vs : List Statement)
    (a b : Statement)
    → path ≡ outer ++ to branch k ∷ [] → take k xs ≡ take k ys → drop k xs ≡ a ∷ us
    → drop k ys ≡ b ∷ vs
    → us ≡ vs → ChangedAt path found a b → ChangedIn outer branch found (block xs) (block ys)
in_block outer path found branch k xs ys us vs a b p h e f same s = record {
  index = k;
  inner = s.inner;
  goes = s.goes ∙ ap (λ q. q ++ s.inner) p ∙ append_assoc outer (to branch k ∷ []) s.inner;
  store = at_index branch k s.inner xs ys vs a b h (e ∙ ap (λ l. a ∷ l) same) f s.store;
}

pub changed_body : (found : Path) (b c : Block) → ChangedIn [] Main found b c
    → StoreChanged found b c
changed_body found b c h =
    let s = h.store in
    record {
      around = s.around;
      old = s.old;
      new = s.new;
      opens = ap (λ p. opened 1 p b) h.goes ∙ s.opens;
      is = s.is;
      old_is = s.old_is;
      new_is = s.new_is;
    }
