-- Pairs of names of which one is none.
use Rattle.std.proofs.Common.{◌≡◌, ℕ, List, subst}
use Rattle.schedule_text.specs.Tree as tree
use Rattle.schedule_calls.specs.Readings.{AsksName, AsksNames}

pub no_first_name : (a b : List (List ℕ)) (arg : tree.Argument) → arg ≡ tree.pair a b
    → ((x : List ℕ) → AsksName (tree.string a) x → ⊥) → (n : List ℕ × List ℕ) → AsksNames arg n → ⊥
no_first_name a b arg is never n asks =
    never n.0 (subst (λ g. AsksNames g n) is asks).0

pub no_second_name : (a b : List (List ℕ)) (arg : tree.Argument) → arg ≡ tree.pair a b
    → ((x : List ℕ) → AsksName (tree.string b) x → ⊥) → (n : List ℕ × List ℕ) → AsksNames arg n → ⊥
no_second_name a b arg is never n asks =
    never n.1 (subst (λ g. AsksNames g n) is asks).1
