-- Two statements that are all of a block, and the fields that both use.
use Rattle.std.proofs.Common.{◌≡◌, ◌≢◌, ℕ, Bool, true, false, ◌||◌, List, [], ◌∷◌, length, drop, zero, suc}
use Rattle.std.proofs.Common.{Some, None, if◌then◌else◌, refl, ap, ap₂, sym, ◌∙◌, arith}
use Rattle.exo_tree.specs.Tree.{Statement, block, Program}
use Rattle.exo_meaning.specs.Unseen.{in_block, in_statement}
use Rattle.meaning_laws.specs.Sound.{binds}
use Rattle.config_state.specs.FieldSets.{contains, Marked, fields_from}
use Rattle.proc_laws.specs.Statement.Fields.{some_field}
use Rattle.proc_laws.specs.Statement.ReorderStatements.{neighbours_of, share_field}
use Rattle.config_state.specs.Steps.Fields.{IsFieldSet, written_by, read_by, some_listed}
use Rattle.proc_rewrites.specs.PlainNeighbours.{used_by, writes_used}

-- ---- two statements

or_false : (t : Bool) → (t || false) ≡ t
or_false true = refl
or_false false = refl

two_are : (ss : List Statement) (a b : Statement) (used : Bool) → length ss ≡ 2
    → drop 0 ss ≡ a ∷ drop 1 ss → drop 1 ss ≡ b ∷ drop 2 ss
    → used ≡ in_block (binds a) (block (drop 1 ss))
    → (if used then None else Some (record { first = a; second = b })) ≡ neighbours_of (block ss)
two_are [] a b used h k l u = absurd (omega (arith, h))
two_are (c ∷ []) a b used h k l u = absurd (omega (arith, h))
two_are (c ∷ d ∷ []) a b used h k l u =
    let first : a ≡ c = cc in
    let second : b ≡ d = cc in
    let said : used ≡ in_statement (binds c) d =
    u ∙ or_false (in_statement (binds a) d) ∙ ap (λ x. in_statement (binds x) d) first in
    (λ i. if said i then None else Some (record { first = first i; second = second i }))
two_are (c ∷ d ∷ e ∷ ss) a b used h k l u = absurd (omega (arith, h))

pub two_there : (ss : List Statement) (a b : Statement) (used : Bool) → length ss ≡ 2
    → drop 0 ss ≡ a ∷ drop 1 ss → drop 1 ss ≡ b ∷ drop 2 ss
    → used ≡ in_block (binds a) (block (drop 1 ss)) → used ≡ false
    → Some (record { first = a; second = b }) ≡ neighbours_of (block ss)
two_there ss a b used h k l u f =
    ap (λ (t : Bool). if t then None else Some (record { first = a; second = b })) (sym f) ∙ two_are ss a b used h k l u

pub two_bound : (ss : List Statement) (a : Statement) (used : Bool) → length ss ≡ 2 → drop 0 ss ≡ a ∷ drop 1 ss
    → used ≡ in_block (binds a) (block (drop 1 ss)) → used ≡ true → None ≡ neighbours_of (block ss)
two_bound [] a used h k u t = absurd (omega (arith, h))
two_bound (c ∷ []) a used h k u t = absurd (omega (arith, h))
two_bound (c ∷ d ∷ []) a used h k u t =
    ap (λ (t : Bool). if t then None else Some (record { first = a; second = d })) (sym t)
    ∙ two_are (c ∷ d ∷ []) a d used h k refl u
two_bound (c ∷ d ∷ e ∷ ss) a used h k u t = absurd (omega (arith, h))

pub no_two : (ss : List Statement) → length ss ≢ 2 → None ≡ neighbours_of (block ss)
no_two [] h = refl
no_two (a ∷ []) h = refl
no_two (a ∷ b ∷ []) h = absurd (h refl)
no_two (a ∷ b ∷ c ∷ ss) h = refl

-- ---- fields

-- what one may write and what it may read
pub both_used : (n : ℕ) (u : Program) (a : Statement) (written read all : List Bool)
    → IsFieldSet n (written_by u a) written → IsFieldSet n (read_by u a) read
    → Marked (contains read) written all → IsFieldSet n (used_by u a) all
both_used n u a written read all h k m = record {
  as_long = m.same_length ∙ h.as_long;
  each = λ f l.
      let e = h.as_long in
      m.each f (omega (arith, e)) ∙ ap₂ ◌||◌ (h.each f l) (k.each f l);
}

either_listed : (n count : ℕ) (p q : ℕ → Bool)
    → (some_listed (fields_from n count p) || some_listed (fields_from n count q))
    ≡ some_listed (fields_from n count (λ f. p f || q f))
either_listed n zero p q = refl
either_listed n (suc count) p q =
    by (p n) (q n) (fields_from (suc n) count p) (fields_from (suc n) count q)
    (fields_from (suc n) count (λ f. p f || q f)) (either_listed (suc n) count p q)
  where
    or_true : (t : Bool) → (t || true) ≡ true
    or_true true = refl
    or_true false = refl

    by : (s t : Bool) (xs ys zs : List ℕ) → (some_listed xs || some_listed ys) ≡ some_listed zs
        → (some_listed (if s then n ∷ xs else xs) || some_listed (if t then n ∷ ys else ys))
        ≡ some_listed (if s || t then n ∷ zs else zs)
    by true t xs ys zs h = refl
    by false true xs ys zs h = or_true (some_listed xs)
    by false false xs ys zs h = h

-- one of them writes what the other uses
pub one_shared : (u : Program) (a b : Statement) (s t : Bool) → s ≡ some_field u.fields (writes_used u a b)
    → t ≡ some_field u.fields (writes_used u b a)
    → (s || t) ≡ some_field u.fields (λ f. share_field u.procedures f (record { first = a; second = b }))
one_shared u a b s t h k =
    ap₂ ◌||◌ h k ∙ either_listed 0 (length u.fields) (writes_used u a b) (writes_used u b a)

-- ---- one of two

pub first_holds : (s t : Bool) → s ≡ true → s ≡ (s || t)
first_holds true t h = refl
first_holds false t h = absurd (cc)

pub second_counts : (s t : Bool) → s ≡ false → t ≡ (s || t)
second_counts true t h = absurd (cc)
second_counts false t h = refl
