-- The world in which a procedure's body runs when it is called.
use Rattle.std.proofs.Common.{◌≡◌, ℕ, zero, suc, List, [], ◌∷◌, ◌++◌, Some, refl, sym, ap, ◌∙◌}
use Rattle.std.specs.Prelude.{slice_get}
use Rattle.exo_tree.specs.Tree.{Kind, Procedure}
use Rattle.exo_meaning.specs.Calls.{Callee}
use Rattle.exo_meaning.specs.Run.{callees, callee_in, world_of}
use Rattle.exo_meaning.specs.Run.{unit_world}
use Rattle.exo_meaning.proofs.Windows.{none_is_some}
use Rattle.inplace_laws.specs.Above.{size, AboveLaw}

-- an entry stays where it is as the table grows
still_first : (xs : List Callee) (y : Callee) (k : ℕ) (c : Callee) → slice_get xs k ≡ Some c → slice_get (xs ++ y ∷ []) k ≡ Some c
still_first [] y zero c e = absurd (none_is_some e)
still_first [] y (suc k) c e = absurd (none_is_some e)
still_first (x ∷ xs) y zero c e = e
still_first (x ∷ xs) y (suc k) c e = still_first xs y k c e

still_there : (kinds : ℕ → Kind) (above : List Callee) (ps : List Procedure) (k : ℕ) (c : Callee) → slice_get above k ≡ Some c → slice_get (callees kinds above ps) k ≡ Some c
still_there kinds above [] k c e = e
still_there kinds above (p ∷ ps) k c e = still_there kinds (above ++ callee_in (world_of kinds above) p ∷ []) ps k c (still_first above (callee_in (world_of kinds above) p) k c e)

-- the table of two lists
in_two : (kinds : ℕ → Kind) (above : List Callee) (ps rest : List Procedure) → callees kinds above (ps ++ rest) ≡ callees kinds (callees kinds above ps) rest
in_two kinds above [] rest = refl
in_two kinds above (p ∷ ps) rest = in_two kinds (above ++ callee_in (world_of kinds above) p ∷ []) ps rest

count_of : List Callee → ℕ
count_of [] = zero
count_of (c ∷ cs) = suc (count_of cs)

one_more : (xs : List Callee) (y : Callee) → count_of (xs ++ y ∷ []) ≡ suc (count_of xs)
unfolding count_of
one_more [] y = refl
one_more (x ∷ xs) y = ap suc (one_more xs y)

plus : ℕ → List Procedure → ℕ
plus n [] = n
plus n (p ∷ ps) = plus (suc n) ps

counted : (kinds : ℕ → Kind) (above : List Callee) (ps : List Procedure) → count_of (callees kinds above ps) ≡ plus (count_of above) ps
unfolding plus
counted kinds above [] = refl
counted kinds above (p ∷ ps) = counted kinds (above ++ callee_in (world_of kinds above) p ∷ []) ps ∙ ap (λ n. plus n ps) (one_more above (callee_in (world_of kinds above) p))

plus_suc : (n : ℕ) (ps : List Procedure) → plus (suc n) ps ≡ suc (plus n ps)
unfolding plus
plus_suc n [] = refl
plus_suc n (p ∷ ps) = plus_suc (suc n) ps

plus_zero : (ps : List Procedure) → plus zero ps ≡ size ps
unfolding plus
plus_zero [] = refl
plus_zero (p ∷ ps) = plus_suc zero ps ∙ ap suc (plus_zero ps)

last_is : (xs : List Callee) (y : Callee) → slice_get (xs ++ y ∷ []) (count_of xs) ≡ Some y
unfolding count_of
last_is [] y = refl
last_is (x ∷ xs) y = last_is xs y

pub above_law : AboveLaw
unfolding count_of
above_law kinds before q after =
    let table : List Callee = callees kinds [] before in
    let last : Callee = callee_in (unit_world kinds before) q in
    let whole : callees kinds [] (before ++ q ∷ after) ≡ callees kinds (table ++ last ∷ []) after = in_two kinds [] before (q ∷ after) in (
      record {
        kinds = λ f. refl;
        callees = λ k c e. ap (λ l. slice_get l k) whole ∙ still_there kinds (table ++ last ∷ []) after k c (still_first table last k c e);
      },
      ap (λ l. slice_get l (size before)) whole ∙ still_there kinds (table ++ last ∷ []) after (size before) last (ap (slice_get (table ++ last ∷ [])) (sym (counted kinds [] before ∙ plus_zero before)) ∙ last_is table last),
    )
