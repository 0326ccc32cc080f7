-- Sets of fields, and what walks add to them.
use Rattle.std.proofs.Common.{◌≡◌, ◌<◌, ◌+◌, ◌&&◌, ◌||◌, ℕ, zero, suc, Bool, true, false, List, [], ◌∷◌, length, replicate, if◌then◌else◌, refl, sym, ap, ap₂, ◌∙◌, arith}
use Rattle.exo_tree.specs.Tree.{Procedure, ConfigField, Program}
use Rattle.exo_modes.specs.Calls.Marked.{contains, Marked}
use Rattle.exo_modes.proofs.OfCalls.Sets.{marked_same, marked_none, marked_then}
use Rattle.c_lowering.specs.Made.LoweredUnit.{Printing, counts, is_used_from, is_used, in_procedure}
use Rattle.c_lowering.specs.Made.LoweredUnit.{fields_from, fields_of, field_name}

-- one item of a list, and then the rest
pub rest_marked : {A : Type 0} (one : ℕ → A → Bool) (all : ℕ → List A → Bool) → ((f : ℕ) (a : A) (rest : List A) → all f (a ∷ rest) ≡ (one f a || all f rest)) → (a : A) (rest xs : List A) (set mid new : List Bool) → xs ≡ a ∷ rest → Marked (λ f. one f a) set mid → Marked (λ f. all f rest) mid new → Marked (λ f. all f xs) set new
rest_marked one all splits a rest xs set mid new is h j =
    marked_same (λ f. one f a || all f rest) (λ f. all f xs) set new (λ f l. sym (splits f a rest) ∙ ap (all f) (sym is)) (marked_then (λ f. one f a) (λ f. all f rest) set mid new h j)

-- a procedure, and then the rest
pub procedures_marked : (counted : ℕ → Bool) (k next : ℕ) (b : Bool) (p : Procedure) (rest ps : List Procedure) (set mid new : List Bool) → next ≡ suc k → b ≡ counted k → ps ≡ p ∷ rest → Marked (λ f. b && in_procedure f p) set mid → Marked (λ f. is_used_from counted f next rest) mid new → Marked (λ f. is_used_from counted f k ps) set new
procedures_marked counted k next b p rest ps set mid new n c is h j =
    marked_same (λ f. (b && in_procedure f p) || is_used_from counted f next rest) (λ f. is_used_from counted f k ps) set new
    (λ f l. ap₂ (λ t m. (t && in_procedure f p) || is_used_from counted f m rest) c n ∙ ap (is_used_from counted f k) (sym is))
    (marked_then (λ f. b && in_procedure f p) (λ f. is_used_from counted f next rest) set mid new h j)

pub is_off : (test : ℕ → Bool) (s : List Bool) (b : Bool) → b ≡ false → Marked (λ f. b && test f) s s
is_off test s b e = marked_same (λ f. false) (λ f. b && test f) s s (λ f l. ap (λ t. t && test f) (sym e)) (marked_none s)

pub is_on : (test : ℕ → Bool) (old new : List Bool) (b : Bool) → b ≡ true → Marked test old new → Marked (λ f. b && test f) old new
is_on test old new b e h = marked_same test (λ f. b && test f) old new (λ f l. ap (λ t. t && test f) (sym e)) h

-- ---- the names of fields

pub none_in : (n k : ℕ) → contains (replicate n false) k ≡ false
none_in zero k = refl
none_in (suc n) zero = refl
none_in (suc n) (suc k) = none_in n k

pub length_none : (n : ℕ) → length (replicate n false) ≡ n
length_none zero = refl
length_none (suc n) = ap suc (length_none n)

either : (b : Bool) (names other : List (List ℕ)) (x : List ℕ) → names ≡ other → (if b then x ∷ names else names) ≡ (if b then x ∷ other else other)
either true names other x e = ap (λ l. x ∷ l) e
either false names other x e = e

pub fields_same : (used other : ℕ → Bool) (k : ℕ) (fs : List ConfigField) → ((j : ℕ) → j < k + length fs → used j ≡ other j) → fields_from used k fs ≡ fields_from other k fs
fields_same used other k [] same = refl
fields_same used other k (f ∷ fs) same =
    ap (λ b. if b then field_name f ∷ fields_from used (suc k) fs else fields_from used (suc k) fs) (same k (omega arith))
    ∙ either (other k) (fields_from used (suc k) fs) (fields_from other (suc k) fs) (field_name f) (fields_same used other (suc k) fs (λ j h. same j (omega (arith, h))))

-- what is marked from nothing on is what is used
pub marked_fields : (test : ℕ → Bool) (fs : List ConfigField) (set : List Bool) → Marked test (replicate (length fs) false) set → fields_from (contains set) 0 fs ≡ fields_from test 0 fs
marked_fields test fs set m = fields_same (contains set) test 0 fs (λ j h. m.each j (omega (arith, h, length_none (length fs))) ∙ ap (λ t. t || test j) (none_in (length fs) j))

-- ---- which procedures count

pub used_same : (counted other : ℕ → Bool) (f k : ℕ) (ps : List Procedure) → ((j : ℕ) → j < k + length ps → counted j ≡ other j) → is_used_from counted f k ps ≡ is_used_from other f k ps
used_same counted other f k [] same = refl
used_same counted other f k (p ∷ ps) same =
    ap₂ (λ a b. (a && in_procedure f p) || b) (same k (omega arith)) (used_same counted other f (suc k) ps (λ j h. same j (omega (arith, h))))

pub fields_are : (program : Program) (what : List Printing) (set : List Bool) → ((k : ℕ) → k < length program.procedures → contains set k ≡ counts program what k) → fields_from (λ f. is_used_from (contains set) f 0 program.procedures) 0 program.fields ≡ fields_of program what
fields_are program what set same = fields_same (λ f. is_used_from (contains set) f 0 program.procedures) (is_used program what) 0 program.fields (λ f h. used_same (contains set) (counts program what) f 0 program.procedures (λ j l. same j (omega (arith, l))))
