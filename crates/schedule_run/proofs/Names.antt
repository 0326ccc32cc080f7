-- What names hold.
use Rattle.std.proofs.Common.{◌≡◌, ◌+◌, ℕ, suc, List, [], ◌∷◌, ◌++◌, length, refl, sym, ap, ◌∙◌}
use Rattle.std.proofs.Common.{Option, None, Bool, ◌<◌, get_or, take, map, arith}
use Rattle.std.specs.Prelude.{Some, if◌then◌else◌}
use Rattle.std.specs.Str.{bytes_eq}
use Rattle.exo_tree.specs.Tree.{Procedure}
use Rattle.schedule_run.specs.PlainVersions.{binding, held}
use Rattle.schedule_run.specs.declared.session.Binding.{Binding}
use Rattle.schedule_run.proofs.Lists.{map_taken}
use Rattle.schedule_laws.specs.Versions.Versions.{Held, Version, held_after, names_from}

-- the last binding holds where it is of the name
pub held_push : (found : Option Held) (xs : List (List ℕ × Held)) (b : List ℕ × Held)
    (name : List ℕ) → held_after found (xs ++ b ∷ []) name
    ≡ (if bytes_eq b.0 name then Some b.1 else held_after found xs name)
held_push found [] b name = refl
held_push found (x ∷ xs) b name =
    held_push (if bytes_eq x.0 name then Some x.1 else found) xs b name

pub names_push : (n : ℕ) (ps : List Procedure) (p : Procedure)
    → names_from n (ps ++ p ∷ []) ≡ names_from n ps ++ (p.name, Version (n + length ps)) ∷ []
names_push n [] p = ap (λ k. (p.name, Version k) ∷ []) (omega arith)
names_push n (q ∷ ps) p =
    ap (λ l. (q.name, Version n) ∷ l)
    (names_push (suc n) ps p
    ∙ ap (λ k. names_from (suc n) ps ++ (p.name, Version k) ∷ []) (moved n (length ps)))
  where
    moved : (a b : ℕ) → suc a + b ≡ a + suc b
    moved a b = omega arith

pub names_more : (done : List Procedure) (p : Procedure) (ns : List (List ℕ × Held)) (name : List ℕ)
    (n : ℕ) → ns ≡ names_from 0 done → name ≡ p.name → n ≡ length done
    → ns ++ (name, Version n) ∷ [] ≡ names_from 0 (done ++ p ∷ [])
names_more done p ns name n e f g =
    (λ i. e i ++ (f i, Version (g i)) ∷ [])
    ∙ ap (λ m. names_from 0 done ++ (p.name, Version m) ∷ []) (zero_plus (length done))
    ∙ sym (names_push 0 done p)
  where
    zero_plus : (n : ℕ) → n ≡ 0 + n
    zero_plus n = omega arith

-- one more of the same
pub same_more : {A : Type 0} (done : List Procedure) (p : Procedure) (each : A) (xs : List A) (x : A)
    → xs ≡ map (λ p. each) done → x ≡ each → xs ++ x ∷ [] ≡ map (λ p. each) (done ++ p ∷ [])
same_more done p each xs x e f = (λ i. e i ++ f i ∷ []) ∙ sym (pushed done)
  where
    pushed : (ps : List Procedure)
        → map (λ (p : Procedure). each) (ps ++ p ∷ [])
        ≡ map (λ (p : Procedure). each) ps ++ each ∷ []
    pushed [] = refl
    pushed (q ∷ ps) = ap (λ l. each ∷ l) (pushed ps)

-- by whether the last of so many bindings is of the name
pub held_at : (bs : List Binding) (k m : ℕ) (b : Binding) (name : List ℕ) (t : Bool) → m ≡ suc k
    → b ≡ get_or bs k b → k < length bs → bytes_eq b.name name ≡ t
    → held_after None (map binding (take m bs)) name
    ≡ (if t then Some (held b.held) else held_after None (map binding (take k bs)) name)
held_at bs k m b name t e i h q =
    ap (λ n. held_after None (map binding (take n bs)) name) e
    ∙ ap (λ l. held_after None l name) (map_taken binding bs k b i h)
    ∙ held_push None (map binding (take k bs)) (binding b) name
    ∙ ap (λ t. if t then Some (held b.held) else held_after None (map binding (take k bs)) name) q
