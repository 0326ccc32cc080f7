-- Sets of structs, and what walks find.
use Rattle.std.proofs.Common.{◌≡◌, ◌||◌, ◌&&◌, ◌==◌, Bool, true, false, List, [], ◌∷◌, ◌++◌, refl, sym, ap, ◌∙◌, eqb-true}
use Rattle.std.proofs.lemmas.List.Folds.{list_any-append}
use Rattle.exo_tree.specs.Cells.{same_cell, same_cell_is}
use Rattle.c_tree.specs.CTree.{StructOf}
use Rattle.c_lowering.specs.Made.LoweredUnit.{is_struct}
use Rattle.c_printer.specs.Found.{has, Found}

or_none : (a : Bool) → a ≡ (a || false)
or_none true = refl
or_none false = refl

associate : (a b c : Bool) → ((a || b) || c) ≡ (a || (b || c))
associate true b c = refl
associate false b c = refl

both : (a b : Bool) → (a && b) ≡ true → (a ≡ true) × (b ≡ true)
both true b e = (refl, e)
both false b e = cc

-- ---- what walks find

pub found_same : (test other : StructOf → Bool) (old new : List StructOf) → ((s : StructOf) → test s ≡ other s) → Found test old new → Found other old new
found_same test other old new same f = record { each = λ s. f.each s ∙ ap (λ t. has old s || t) (same s) }

pub found_none : (set : List StructOf) → Found (λ s. false) set set
found_none set = record { each = λ s. or_none (has set s) }

pub found_then : (test more : StructOf → Bool) (old mid new : List StructOf) → Found test old mid → Found more mid new → Found (λ s. test s || more s) old new
found_then test more old mid new f g = record {
  each = λ s. g.each s ∙ ap (λ t. t || more s) (f.each s) ∙ associate (has old s) (test s) (more s);
}

-- one item of a list, and then the rest
pub rest_found : {A : Type 0} (one : StructOf → A → Bool) (all : StructOf → List A → Bool) → ((s : StructOf) (a : A) (rest : List A) → all s (a ∷ rest) ≡ (one s a || all s rest)) → (a : A) (rest xs : List A) (old mid new : List StructOf) → xs ≡ a ∷ rest → Found (λ s. one s a) old mid → Found (λ s. all s rest) mid new → Found (λ s. all s xs) old new
rest_found one all splits a rest xs old mid new is f g =
    found_same (λ s. one s a || all s rest) (λ s. all s xs) old new (λ s. sym (splits s a rest) ∙ ap (all s) (sym is)) (found_then (λ s. one s a) (λ s. all s rest) old mid new f g)

-- where nothing is left of a list
pub nothing_left : {A : Type 0} (all : StructOf → List A → Bool) → ((s : StructOf) → all s [] ≡ false) → (xs : List A) (set : List StructOf) → xs ≡ [] → Found (λ s. all s xs) set set
nothing_left all none xs set is = found_same (λ s. false) (λ s. all s xs) set set (λ s. sym (none s) ∙ ap (all s) (sym is)) (found_none set)

-- ---- a struct that is put

same_struct : (s t : StructOf) → is_struct s.rank s.cell t ≡ true → s ≡ t
same_struct s t e =
    let h = both (s.rank == t.rank) (same_cell s.cell t.cell) e in
    let rank : s.rank ≡ t.rank = eqb-true s.rank t.rank h.0 in
    let cell : s.cell ≡ t.cell = same_cell_is s.cell t.cell h.1 in
    λ i. record { rank = rank i; cell = cell i }

-- at the end of those that are there
pub put_behind : (set : List StructOf) (s : StructOf) → Found (is_struct s.rank s.cell) set (set ++ s ∷ [])
put_behind set s = record {
  each = λ t. list_any-append (λ u. is_struct u.rank u.cell t) set (s ∷ []) ∙ ap (λ b. has set t || b) (sym (or_none (is_struct s.rank s.cell t)));
}

either : (set : List StructOf) (s t : StructOf) (b : Bool) → b ≡ is_struct s.rank s.cell t → has set s ≡ true → has set t ≡ (has set t || b)
either set s t false e h = or_none (has set t)
either set s t true e h =
    let there : has set t ≡ true = ap (has set) (sym (same_struct s t (sym e))) ∙ h in
    there ∙ ap (λ a. a || true) (sym there)

-- which is there
pub put_before : (set : List StructOf) (s : StructOf) → has set s ≡ true → Found (is_struct s.rank s.cell) set set
put_before set s h = record { each = λ t. either set s t (is_struct s.rank s.cell t) refl h }
