-- The structs that pass a test, rank by rank.
use Rattle.std.proofs.Common.{◌≡◌, ◌<◌, ◌-◌, ◌+◌, ℕ, suc, Bool, cond, List, [], ◌∷◌, ◌++◌, refl, sym, ap, ap₂, ◌∙◌, arith, append_assoc}
use Rattle.std.specs.List.{list_any, filter}
use Rattle.std.proofs.lemmas.List.Elements.{filter-append}
use Rattle.c_tree.specs.CTree.{CFunction, StructOf}
use Rattle.c_lowering.specs.Made.LoweredUnit.{names_struct, kept_structs, structs_of_rank}
use Rattle.c_lowering.specs.Made.LoweredUnit.{structs_from}
use Rattle.c_printer.specs.Found.{has, Found}

-- more behind those that are made
pub more_kept : (test : StructOf → Bool) (ss rest all made more whole : List StructOf) → all ≡ ss ++ rest → more ≡ made ++ filter test ss → made ++ filter test all ≡ whole → more ++ filter test rest ≡ whole
more_kept test ss rest all made more whole is pushed so_far =
    ap (λ l. l ++ filter test rest) pushed
    ∙ append_assoc made (filter test ss) (filter test rest)
    ∙ ap (λ l. made ++ l) (sym (filter-append test ss rest) ∙ ap (filter test) (sym is))
    ∙ so_far

-- one rank more
pub next_rank : (test : StructOf → Bool) (k : ℕ) (made more whole : List StructOf) → k < 8 → more ≡ made ++ filter test (structs_of_rank (k + 1)) → made ++ filter test (structs_from (8 - k) (suc k)) ≡ whole → more ++ filter test (structs_from (8 - (k + 1)) (suc (k + 1))) ≡ whole
next_rank test k made more whole h =
    let n = 8 - (k + 1) in
    let left : 8 - k ≡ suc n = omega arith in
    let rank : suc k ≡ k + 1 = omega arith in
    more_kept test (structs_of_rank (k + 1)) (structs_from n (suc (k + 1))) (structs_from (8 - k) (suc k)) made more whole
    (ap (λ m. structs_from m (suc k)) left ∙ ap (structs_from (suc n)) rank)

-- those that are found are those that the functions name
pub found_are : (fs : List CFunction) (set : List StructOf) → Found (λ s. list_any (names_struct s) fs) [] set → (ss : List StructOf) → filter (has set) ss ≡ kept_structs fs ss
found_are fs set found [] = refl
found_are fs set found (s ∷ ss) = ap₂ (λ b l. cond b (s ∷ l) l) (found.each s) (found_are fs set found ss)
