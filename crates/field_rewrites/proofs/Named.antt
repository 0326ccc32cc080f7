-- Lists of parameters and arguments, gone over.
use Rattle.std.proofs.Common.{◌≡◌, ◌==◌, ◌+◌, ◌<◌, ℕ, zero, suc, List, [], ◌∷◌, ◌++◌, length, take}
use Rattle.std.proofs.Common.{Option, refl, ap, ◌∙◌, arith, false, Bool, sym}
use Rattle.std.proofs.Common.{map}
use Rattle.std.specs.Prelude.{option_map, get_or}
use Rattle.std.proofs.Math.Seq.{take-suc, take-length}
use Rattle.exo_tree.specs.Tree.{Argument}
use Rattle.exo_tree.specs.PlainArgument.{argument}
use Rattle.exo_tree.specs.declared.argument.Arg.{Arg}
use Rattle.field_rewrites.specs.Binding.{field_for, field_or, with_field}

-- the number in what is left, counted from the head of all
abbrev pub further : ℕ → Option ℕ → Option ℕ
further k o = option_map (λ j. k + j) o

pub as_many : (f i : ℕ) (args : List Argument) → length (with_field f i args) ≡ length args
as_many f i [] = refl
as_many f zero (a ∷ args) = refl
as_many f (suc i) (a ∷ args) = ap suc (as_many f i args)

-- one argument more
pub one_more : (f i : ℕ) (args : List Argument) (k : ℕ) (d : Argument) → k < length args
    → take (suc k) (with_field f i args)
    ≡ take k (with_field f i args) ++ field_or f (k == i) (get_or args k d) ∷ []
one_more f i [] k d h = absurd (none k h)
  where
    none : (k : ℕ) → k < 0 → ⊥
    none k h = omega arith
one_more f zero (a ∷ args) zero d h = refl
one_more f zero (a ∷ args) (suc k) d h =
    ap (λ (others : List Argument). field_for f a ∷ others) (take-suc args k d (omega (arith, h)))
    ∙ ap (λ (t : Bool). field_for f a ∷ (take k args ++ field_or f t (get_or args k d) ∷ []))
    (other k)
  where
    other : (k : ℕ) → false ≡ (suc k == zero)
    other k = grind arith
one_more f (suc i) (a ∷ args) zero d h = ap (λ (t : Bool). field_or f t a ∷ []) (other i)
  where
    other : (i : ℕ) → false ≡ (zero == suc i)
    other i = grind arith
one_more f (suc i) (a ∷ args) (suc k) d h =
    ap (λ (others : List Argument). a ∷ others) (one_more f i args k d (omega (arith, h)))
    ∙ ap (λ (t : Bool). a ∷ (take k (with_field f i args) ++ field_or f t (get_or args k d) ∷ []))
    (same k i)
  where
    same : (k i : ℕ) → (k == i) ≡ (suc k == suc i)
    same k i = grind arith

got : (items : List Arg) (k : ℕ) (a : Arg)
    → get_or (map argument items) k (argument a) ≡ argument (get_or items k a)
got [] k a = refl
got (b ∷ items) zero a = refl
got (b ∷ items) (suc k) a = got items k a

pub many : (items : List Arg) → length (map argument items) ≡ length items
many [] = refl
many (b ∷ items) = ap suc (many items)

-- by what the code has gone over
pub next_argument : (f i : ℕ) (items : List Arg) (args : List Argument) (k : ℕ) (a : Arg)
    → map argument items ≡ args → a ≡ get_or items k a → k < length items
    → take (k + 1) (with_field f i args)
    ≡ take k (with_field f i args) ++ field_or f (k == i) (argument a) ∷ []
next_argument f i items args k a same is less =
    let one : k + 1 ≡ suc k = omega arith in
    let inside : k < length args =
    let e = many items in let l = ap length same in omega arith in
    ap (λ (n : ℕ). take n (with_field f i args)) one
    ∙ one_more f i args k (argument a) inside
    ∙ ap (λ (b : Argument). take k (with_field f i args) ++ field_or f (k == i) b ∷ [])
    (ap (λ (as_list : List Argument). get_or as_list k (argument a)) (sym same)
    ∙ got items k a ∙ ap argument (sym is))

pub all_arguments : (f i : ℕ) (args : List Argument) (k : ℕ) → k ≡ length args
    → take k (with_field f i args) ≡ with_field f i args
all_arguments f i args k h =
    ap (λ (n : ℕ). take n (with_field f i args)) (h ∙ sym (as_many f i args))
    ∙ take-length (with_field f i args)
