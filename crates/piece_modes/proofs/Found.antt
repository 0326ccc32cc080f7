-- What a walk through a block has found so far and finds in the rest; the names from before are kept.
use Rattle.std.proofs.Common.{◌≡◌, ℕ, ◌||◌, ◌≤◌, Bool, true, false, List, [], ◌∷◌, length, drop, take, refl}
use Rattle.std.proofs.Common.{sym, ap, ap₂, ◌∙◌, arith}
use Rattle.std.specs.Prelude.{Result, IfOk}
use Rattle.std.proofs.lemmas.Result.{IfOk-weaker}
use Rattle.std.proofs.Math.Bool.{or_assoc}
use Rattle.std.proofs.lemmas.List.{drop_all, take_all, take-take, length-take}
use Rattle.exo_tree.specs.Tree.{Statement}
use Rattle.exo_tree.specs.PlainStatement.{statement}
use Rattle.exo_tree.specs.declared.block.Stmt.{Stmt}
use Rattle.exo_meaning.specs.Run.{roots_after}
use Rattle.exo_modes.specs.Aliases.{roots_in}
use Rattle.exo_modes.specs.declared.aliases.Alias.{Alias}

-- ---- what is said of a thing by another

-- of a tree by its node
pub at_node : {S B : Type 0} (f : S → B) {s a : S} {r : B} → s ≡ a → r ≡ f a → r ≡ f s
at_node f is e = e ∙ ap f (sym is)

-- of a value by one that is the same
pub by_same : {S B : Type 0} (f : S → B) {s a : S} {r : B} → a ≡ s → r ≡ f a → r ≡ f s
by_same f same e = e ∙ ap f same

-- ---- one or the other

-- the first one holds
pub or_then : {r b : Bool} (x : Bool) → r ≡ true → r ≡ b → r ≡ (b || x)
or_then x t e = t ∙ ap (λ b. b || x) (sym t ∙ e)

-- the first one does not hold, and the second is known
pub or_else : {r s b x : Bool} → s ≡ false → s ≡ b → r ≡ x → r ≡ (b || x)
or_else f e g = ap₂ (λ b x. b || x) (sym f ∙ e) g

-- of a node that has what its first part or the rest has: the first part has it
pub first_has : {S : Type 0} (f : S → Bool) {e node a p : S} {r : Bool} (x : Bool) → e ≡ node
    → f node ≡ (f a || x) → r ≡ true → p ≡ a → r ≡ f p → r ≡ f e
first_has f x is whole t same e = at_node f is (or_then x t (by_same f same e) ∙ sym whole)

-- the first part does not have it, and the rest is known
pub rest_has : {S : Type 0} (f : S → Bool) {e node a p : S} {q r x : Bool} → e ≡ node
    → f node ≡ (f a || x) → q ≡ false → p ≡ a → q ≡ f p → r ≡ x → r ≡ f e
rest_has f is whole t same e rest =
    at_node f is (or_else t (by_same f same e) rest ∙ sym whole)

-- what was found stays found
pub or_true : {m found : Bool} (here : Bool) → found ≡ true → m ≡ true → m ≡ (found || here)
or_true here t e = e ∙ ap (λ b. b || here) (sym t)

-- what was not found is what is found here
pub or_false : {m found here : Bool} → found ≡ false → m ≡ here → m ≡ (found || here)
or_false {here = here} f e = e ∙ ap (λ b. b || here) (sym f)

plus_none : (b : Bool) → b ≡ (b || false)
plus_none true = refl
plus_none false = refl

-- what is returned is told in another way
pub ok_told : {E : Type 0} (r : Result Bool E) (x y : Bool) → x ≡ y → IfOk r (λ z. z ≡ x) → IfOk r (λ z. z ≡ y)
ok_told r x y e h = IfOk-weaker r (λ z. z ≡ x) (λ z. z ≡ y) (λ z p. p ∙ e) h

-- ---- a walk that looks for something in the rest of a block

-- one more statement
pub found_on : (sees : (ℕ → ℕ) → List Statement → Bool) (root after : ℕ → ℕ)
    (ss rest : List Statement) (a : Statement) (found here more whole : Bool)
    → ss ≡ a ∷ rest → after ≡ roots_after a root → more ≡ (found || here)
    → sees root (a ∷ rest) ≡ (here || sees (roots_after a root) rest)
    → (found || sees root ss) ≡ whole
    → (more || sees after rest) ≡ whole
found_on sees root after ss rest a found here more whole d r m h w =
    ap₂ (λ b f. b || sees f rest) m r
    ∙ or_assoc found here (sees (roots_after a root) rest)
    ∙ ap (λ b. found || b) (sym h ∙ ap (sees root) (sym d))
    ∙ w

-- no statement is left
pub found_all : (sees : List Statement → Bool) (ss : List Statement) (k : ℕ) (found whole : Bool)
    → length ss ≤ k → sees [] ≡ false → (found || sees (drop k ss)) ≡ whole → found ≡ whole
found_all sees ss k found whole l none w =
    plus_none found ∙ ap (λ b. found || b) (sym (ap sees (drop_all k ss l) ∙ none)) ∙ w

-- ---- lists that grow

-- a list keeps all that it had
pub all_kept : {A : Type 0} (xs : List A) → take (length xs) xs ≡ xs
all_kept xs = take_all (length xs) xs (omega arith)

pub same_kept : {A : Type 0} (xs ys : List A) → ys ≡ xs → take (length xs) ys ≡ xs
same_kept xs ys e = ap (take (length xs)) e ∙ all_kept xs

-- what is kept of a list is kept of a longer one
pub kept_on : {A : Type 0} (n : ℕ) (xs ys zs : List A)
    → take n xs ≡ zs → n ≤ length xs → take (length xs) ys ≡ xs
    → (take n ys ≡ zs) × (n ≤ length ys)
kept_on n xs ys zs e h k = (
  sym (take-take n (length xs) ys h) ∙ ap (take n) k ∙ e,
  omega (arith, h, ap length k, length-take (length xs) ys),
)

-- ---- what a walk tells of a statement

-- whether it does something, what names stand for behind it, and that the names before it are kept
pub record Told (does : Statement → Bool) (items : List Alias) (s : Stmt) (here : Bool)
    (new : List Alias) : Type 0 where
  pub told : here ≡ does (statement s)
  pub roots : roots_in new ≡ roots_after (statement s) (roots_in items)
  pub kept : take (length items) new ≡ items

-- of one that leaves the names as they are
pub leaves_names : (does : Statement → Bool) (items : List Alias) {s a : Stmt} {new : List Alias}
    {here : Bool} → s ≡ a → new ≡ items
    → roots_in items ≡ roots_after (statement a) (roots_in items)
    → here ≡ does (statement a) → Told does items s here new
leaves_names does items is same none e = record {
  told = at_node (λ s. does (statement s)) is e;
  roots = at_node (λ s. roots_after (statement s) (roots_in items)) is (ap roots_in same ∙ none);
  kept = same_kept _ _ same;
}

-- by what names stand for, read from a list that is the same
pub by_roots : (f : (ℕ → ℕ) → Bool) {items known : List Alias} {r : Bool} → known ≡ items
    → r ≡ f (roots_in known) → r ≡ f (roots_in items)
by_roots f same e = by_same f (ap roots_in same) e
