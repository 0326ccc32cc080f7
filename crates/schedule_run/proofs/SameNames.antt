-- Trees that are the same but for the names of binders, and have the same names, are the same.
use Rattle.std.proofs.Common.{◌≡◌, ◌≢◌, ◌==◌, ℕ, zero, suc, Bool, true, false, true≢false, ◌&&◌}
use Rattle.std.proofs.Common.{List}
use Rattle.std.proofs.Common.{[], ◌∷◌, length, drop, refl, sym, ap, ap₂, ◌∙◌, arith}
use Rattle.std.specs.Cmp.Lexicographic.{same_text}
use Rattle.std.proofs.lemmas.Bool.{and_parts}
use Rattle.std.proofs.lemmas.Bool.Decides.{nat_tests}
use Rattle.exo_tree.specs.Tree.{Cell, Binder, Control, Condition, Coord, Statement, Assign, Reduce}
use Rattle.exo_tree.specs.Tree.{ControlArg, ConditionArg}
use Rattle.exo_tree.specs.Tree.{Config, Pass, If, For, Alloc, View, Call, Block, end, next, block}
use Rattle.exo_meaning.specs.Units.{is_text}
use Rattle.place_laws.specs.Scope.Bare.{bare_binder, bare_statement, bare}
use Rattle.loop_laws.specs.SameTrees.{same_control, same_condition, same_statement, same_block}
use Rattle.loop_laws.proofs.SameTrees.{same_blocks_are}
use Rattle.schedule_run.specs.Changed.{same_binder, same_names, all_same_names, is_same}

-- ---- one statement after the other

and_false : (t : Bool) → t && false ≡ false
and_false true = refl
and_false false = refl

pub other_length : (xs ys : List Statement) → length xs ≢ length ys
    → false ≡ all_same_names (block xs) (block ys)
other_length [] [] h = absurd (h refl)
other_length [] (y ∷ ys) h = refl
other_length (x ∷ xs) [] h = refl
other_length (x ∷ xs) (y ∷ ys) h =
    sym (ap (λ t. same_names x y && t) (sym (other_length xs ys (λ e. h (omega (arith, e)))))
    ∙ and_false (same_names x y))

none_left : (k : ℕ) (xs : List Statement) → length xs ≡ k → drop k xs ≡ []
none_left zero [] h = refl
none_left zero (x ∷ xs) h = absurd (omega (arith, h))
none_left (suc k) [] h = refl
none_left (suc k) (x ∷ xs) h = none_left k xs (omega (arith, h))

pub all_same : (k : ℕ) (xs ys : List Statement) → length xs ≡ k → length ys ≡ k
    → true ≡ all_same_names (block (drop k xs)) (block (drop k ys))
all_same k xs ys h l =
    sym (ap₂ (λ p q. all_same_names (block p) (block q)) (none_left k xs h) (none_left k ys l))

-- ---- with the same names

not_true : {A : Type 0} → false ≡ true → A
not_true h = absurd (true≢false (sym h))

numbers_are : (m n : ℕ) → (m == n) ≡ true → m ≡ n
numbers_are m n h = grind (arith, nat_tests)

pub binders_are : (x y : Binder) → same_binder x y ≡ true → x ≡ y
binders_are x y h =
    let p = and_parts (x.id == y.id) (is_text x.name y.name) h in
    let ids = numbers_are x.id y.id p.0 in
    let names = same_text x.name y.name (sym p.1) in
    λ i. record { id = ids i; name = names i }

firsts_are : (a b : Statement) (x y : Block) → next a x ≡ next b y → a ≡ b
firsts_are a b x y h = cc

bare_are : (a b : Statement) → same_statement a b ≡ true → bare_statement a ≡ bare_statement b
bare_are a b h =
    firsts_are (bare_statement a) (bare_statement b) end end
    (same_blocks_are (next a end) (next b end) (ap (λ t. t && true) h))

control_args_are : (a b : Control) → Config 0 (ControlArg a) ≡ Config 0 (ControlArg b) → a ≡ b
control_args_are a b h = cc

condition_args_are : (c d : Condition) → Config 0 (ConditionArg c) ≡ Config 0 (ConditionArg d)
    → c ≡ d
condition_args_are c d h = cc

pub each_control_is : (a b : Control) → same_control a b ≡ true → a ≡ b
each_control_is a b h =
    control_args_are a b (bare_are (Config 0 (ControlArg a)) (Config 0 (ControlArg b)) h)

pub each_condition_is : (c d : Condition) → same_condition c d ≡ true → c ≡ d
each_condition_is c d h =
    condition_args_are c d (bare_are (Config 0 (ConditionArg c)) (Config 0 (ConditionArg d)) h)

conditions_are : (c d : Condition) (x y z w : Block) → If c x y ≡ If d z w → c ≡ d
conditions_are c d x y z w h = cc

lows_are : (i j : Binder) (lo hi m n : Control) (x y : Block) → For i lo hi x ≡ For j m n y → lo ≡ m
lows_are i j lo hi m n x y h = cc

highs_are : (i j : Binder) (lo hi m n : Control) (x y : Block) → For i lo hi x ≡ For j m n y
    → hi ≡ n
highs_are i j lo hi m n x y h = cc

allocs_are : (x y : Binder) (s t : Cell) (ds es : List Control) (k l : ℕ)
    → Alloc x s ds k ≡ Alloc y t es l
    → (z w : Binder) → z ≡ w → Alloc z s ds k ≡ Alloc w t es l
allocs_are x y s t ds es k l h z w f = cc

views_are : (v w : Binder) (x y : ℕ) (cs ds : List Coord) → View v x cs ≡ View w y ds
    → (z u : Binder) → z ≡ u → View z x cs ≡ View u y ds
views_are v w x y cs ds h z u f = cc

inside_if : (c d : Condition) (x y z w : Block) → same_statement (If c x y) (If d z w) ≡ true
    → (same_block x z ≡ true) × (same_block y w ≡ true)
inside_if c d x y z w h =
    and_parts (same_block x z) (same_block y w)
    (and_parts (same_condition c d) (same_block x z && same_block y w) h).1

inside_for : (i j : Binder) (lo hi m n : Control) (x y : Block)
    → same_statement (For i lo hi x) (For j m n y) ≡ true → same_block x y ≡ true
inside_for i j lo hi m n x y h =
    (and_parts (same_control lo m && same_control hi n) (same_block x y)
    (and_parts (i.id == j.id) ((same_control lo m && same_control hi n) && same_block x y) h).1).1

mutual
  pub statements_are : (a b : Statement) → same_statement a b ≡ true → same_names a b ≡ true → a ≡ b
  statements_are (Assign x is e) (Assign y js d) h n = bare_are (Assign x is e) (Assign y js d) h
  statements_are (Reduce x is e) (Reduce y js d) h n = bare_are (Reduce x is e) (Reduce y js d) h
  statements_are (Config f a) (Config g b) h n = bare_are (Config f a) (Config g b) h
  statements_are Pass Pass h n = refl
  statements_are (If c x y) (If d z w) h n =
      let heads =
      conditions_are c d (bare x) (bare y) (bare z) (bare w) (bare_are (If c x y) (If d z w) h) in
      let same = inside_if c d x y z w h in
      let names = and_parts (all_same_names x z) (all_same_names y w) n in
      let first = blocks_are x z same.0 names.0 in
      let second = blocks_are y w same.1 names.1 in
      λ i. If (heads i) (first i) (second i)
  statements_are (For i lo hi x) (For j m n y) h k =
      let bares = bare_are (For i lo hi x) (For j m n y) h in
      let names = and_parts (same_binder i j) (all_same_names x y) k in
      let binder = binders_are i j names.0 in
      let low = lows_are (bare_binder i) (bare_binder j) lo hi m n (bare x) (bare y) bares in
      let high = highs_are (bare_binder i) (bare_binder j) lo hi m n (bare x) (bare y) bares in
      let body = blocks_are x y (inside_for i j lo hi m n x y h) names.1 in
      λ t. For (binder t) (low t) (high t) (body t)
  statements_are (Alloc x s ds k) (Alloc y t es l) h n =
      allocs_are (bare_binder x) (bare_binder y) s t ds es k l
      (bare_are (Alloc x s ds k) (Alloc y t es l) h) x y (binders_are x y n)
  statements_are (View v x cs) (View w y ds) h n =
      views_are (bare_binder v) (bare_binder w) x y cs ds
      (bare_are (View v x cs) (View w y ds) h) v w
      (binders_are v w n)
  statements_are (Call k xs) (Call l ys) h n = bare_are (Call k xs) (Call l ys) h
  statements_are _ _ h n = not_true h

  pub blocks_are : (x y : Block) → same_block x y ≡ true → all_same_names x y ≡ true → x ≡ y
  blocks_are end end h n = refl
  blocks_are (next a x) (next b y) h n =
      let same = and_parts (same_statement a b) (same_block x y) h in
      let names = and_parts (same_names a b) (all_same_names x y) n in
      ap₂ next (statements_are a b same.0 names.0) (blocks_are x y same.1 names.1)
  blocks_are _ _ h n = not_true h

pub alike : (a b : Statement) → is_same a b ≡ true → a ≡ b
alike a b h =
    let p = and_parts (same_statement a b) (same_names a b) h in statements_are a b p.0 p.1
