-- Lists of texts, item by item.
use Rattle.std.proofs.Common.{◌≡◌, ◌<◌, ◌+◌, ℕ, List, ◌++◌, map, length, drop, get_or, ap, sym, ◌∙◌, append_assoc}
use Rattle.std.proofs.lemmas.List.{drop_more}
use Rattle.c_tree.specs.CText.{Text, each}

-- an item more of texts one behind the other
pub one_more : {A B : Type 0} (text : B → Text) (plain : A → B) (xs : List A) (k : ℕ) (x : A) (done whole : Text) → k < length xs → x ≡ get_or xs k x → done ++ each text (map plain (drop k xs)) ≡ whole → (done ++ text (plain x)) ++ each text (map plain (drop (k + 1) xs)) ≡ whole
one_more text plain xs k x done whole h is so_far =
    append_assoc done (text (plain x)) (each text (map plain (drop (k + 1) xs)))
    ∙ ap (λ y. done ++ (text (plain y) ++ each text (map plain (drop (k + 1) xs)))) is
    ∙ ap (λ ys. done ++ each text (map plain ys)) (sym (drop_more xs k x h))
    ∙ so_far

-- the same with a text before each item
pub one_listed : {A B : Type 0} (text : B → Text) (plain : A → B) (word : Text) (xs : List A) (k : ℕ) (x : A) (done whole : Text) → k < length xs → x ≡ get_or xs k x → done ++ each (λ u. word ++ u) (map text (map plain (drop k xs))) ≡ whole → (done ++ (word ++ text (plain x))) ++ each (λ u. word ++ u) (map text (map plain (drop (k + 1) xs))) ≡ whole
one_listed text plain word xs k x done whole h is so_far =
    let later = each (λ u. word ++ u) (map text (map plain (drop (k + 1) xs))) in
    append_assoc done (word ++ text (plain x)) later
    ∙ ap (λ y. done ++ ((word ++ text (plain y)) ++ later)) is
    ∙ ap (λ ys. done ++ each (λ u. word ++ u) (map text (map plain ys))) (sym (drop_more xs k x h))
    ∙ so_far
