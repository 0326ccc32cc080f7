-- What `==` says of systems of the program.
use Rattle.std.proofs.Common.{◌≡◌, ℕ, ◌==◌, Bool, true, ◌&&◌, List, [], ◌∷◌, map, refl, sym, ap, ◌∙◌, subst}
use Rattle.std.specs.Bool.{Decides}
use Rattle.std.specs.Ordering.{int_eq}
use Rattle.std.specs.Cmp.Lexicographic.{pointwise}
use Rattle.std.proofs.lemmas.Bool.Decides.{Decides-eqb, Decides-int_eq, Decides-and, Decides-like}
use Rattle.affine_forms.specs.Bounds.{are_below}
use Rattle.affine_forms.specs.System.{plain_row, plain_system}
use Rattle.affine_forms.specs.declared.system.Term.{Term}
use Rattle.affine_forms.specs.declared.system.Row.{Row}
use Rattle.affine_forms.specs.declared.system.System.{System}
use Rattle.affine_forms.specs.contracts.system.TermPartialEq.TheImpl as term_eq
use Rattle.affine_forms.specs.contracts.system.RowPartialEq.TheImpl as row_eq
use Rattle.affine_forms.specs.contracts.system.SystemPartialEq.TheImpl as system_eq
use Rattle.ob_check.specs.Rows.{term_numbers, row_numbers}
use Rattle.ob_check.proofs.Rows.{variables, same_plain}
use Rattle.ob_check.proofs.Sameness.{heads, same_numbers}

abbrev terms_equal : Term → Term → Bool
terms_equal = (term_eq.ghosts).eq

abbrev rows_equal : Row → Row → Bool
rows_equal = (row_eq.ghosts).eq

abbrev pub systems_equal : System → System → Bool
systems_equal = (system_eq.ghosts).eq

-- where a test of two elements says whether f makes the same of them, the test of two lists does so too
Decides-pointwise : {X Y : Type 0} (E : X → X → Bool) (f : X → Y) → ((x y : X) → Decides (E x y) (f x ≡ f y)) → (xs ys : List X) → Decides (pointwise E xs ys) (map f xs ≡ map f ys)
Decides-pointwise E f each [] [] = (λ e. refl, λ e. refl)
Decides-pointwise E f each [] (y ∷ ys) = (λ e. cc, λ e. cc)
Decides-pointwise E f each (x ∷ xs) [] = (λ e. cc, λ e. cc)
Decides-pointwise E f each (x ∷ xs) (y ∷ ys) =
    Decides-like (E x y && pointwise E xs ys) (λ p i. p.0 i ∷ p.1 i) (heads (f x) (f y) (map f xs) (map f ys)) (Decides-and (E x y) (pointwise E xs ys) (each x y) (Decides-pointwise E f each xs ys))

term_decides : (t u : Term) → Decides (terms_equal t u) (term_numbers t ≡ term_numbers u)
term_decides t u =
    Decides-like (terms_equal t u) (λ p i. (p.0 i, p.1 i)) (λ e. (ap (λ x. x.0) e, ap (λ x. x.1) e)) (Decides-and (t.variable == u.variable) (int_eq t.coefficient u.coefficient) (Decides-eqb t.variable u.variable) (Decides-int_eq t.coefficient u.coefficient))

row_decides : (r q : Row) → Decides (rows_equal r q) (row_numbers r ≡ row_numbers q)
row_decides r q =
    Decides-like (rows_equal r q) (λ p i. (p.0 i, p.1 i)) (λ e. (ap (λ x. x.0) e, ap (λ x. x.1) e)) (Decides-and (pointwise terms_equal r.terms.items q.terms.items) (int_eq r.constant q.constant) (Decides-pointwise terms_equal term_numbers term_decides r.terms.items q.terms.items) (Decides-int_eq r.constant q.constant))

module _ (s t : System) where
  -- they have as many variables, and rows with the same numbers
  Same : Type 0
  Same = (s.vars ≡ t.vars) × ((map row_numbers s.equations.items ≡ map row_numbers t.equations.items) × (map row_numbers s.rows.items ≡ map row_numbers t.rows.items))

  numbers_decide : Decides (systems_equal s t) Same
  unfolding Same
  numbers_decide = Decides-and (s.vars == t.vars) (pointwise rows_equal s.equations.items t.equations.items && pointwise rows_equal s.rows.items t.rows.items) (Decides-eqb s.vars t.vars) (Decides-and (pointwise rows_equal s.equations.items t.equations.items) (pointwise rows_equal s.rows.items t.rows.items) (Decides-pointwise rows_equal row_numbers row_decides s.equations.items t.equations.items) (Decides-pointwise rows_equal row_numbers row_decides s.rows.items t.rows.items))

  back : (n m : ℕ) (rs qs : List Row) → n ≡ m → are_below n (map variables rs) ≡ true → are_below m (map variables qs) ≡ true → map (plain_row n) rs ≡ map (plain_row m) qs → map row_numbers rs ≡ map row_numbers qs
  back n m rs qs e a b f = same_numbers n rs qs a (subst (λ k. are_below k (map variables qs) ≡ true) (sym e) b) (f ∙ ap (λ k. map (plain_row k) qs) (sym e))

  -- two systems are equal exactly where they are the same constraints
  pub systems_decide : Decides (systems_equal s t) (plain_system s ≡ plain_system t)
  unfolding Same
  systems_decide = Decides-like (systems_equal s t) forth along numbers_decide where
    forth : Same → plain_system s ≡ plain_system t
    forth p = same_plain s t p.0 p.1.0 p.1.1

    along : plain_system s ≡ plain_system t → Same
    along e =
        let n : s.vars ≡ t.vars = ap (λ c. c.variables) e in
        (n, (back s.vars t.vars s.equations.items t.equations.items n s.equations_within t.equations_within (ap (λ c. c.equations) e), back s.vars t.vars s.rows.items t.rows.items n s.rows_within t.rows_within (ap (λ c. c.rows) e)))
