-- What several appends leave.
use Rattle.std.proofs.Common.{◌≡◌, ◌<◌, ◌+◌, ℕ, List, ◌∷◌, ◌++◌, codes, length, get_or, drop, map, flat_map, sym, ap, ◌∙◌, append_assoc}
use Rattle.std.proofs.lemmas.List.{drop_more}

-- one more text after o and a
pub more : (o a b p t : List ℕ) → p ≡ o ++ a → t ≡ p ++ b → t ≡ o ++ (a ++ b)
more o a b p t h i = i ∙ ap (λ x. x ++ b) h ∙ append_assoc o a b

-- four texts from nothing on
pub whole : (a b c d p q r t : List ℕ) → p ≡ a → q ≡ p ++ b → r ≡ q ++ c → t ≡ r ++ d → t ≡ a ++ b ++ c ++ d
whole a b c d p q r t h i j k = k ∙ ap (λ x. x ++ d) (j ∙ ap (λ x. x ++ c) (i ∙ ap (λ x. x ++ b) h))

-- a text after o, before the rest
pub before : (o a rest t : List ℕ) → t ≡ o ++ a → t ++ rest ≡ o ++ (a ++ rest)
before o a rest t h = ap (λ x. x ++ rest) h ∙ append_assoc o a rest

-- the element at k is the first of those from k on
dropped : {X : Type 0} (xs : List X) (k : ℕ) (x : X) → k < length xs → x ≡ get_or xs k x → drop k xs ≡ x ∷ drop (k + 1) xs
dropped xs k x h r = drop_more xs k x h ∙ ap (λ y. y ∷ drop (k + 1) xs) (sym r)

-- a loop over a list writes the text of its element at k
pub walked_on : {X Y : Type 0} (f : Y → List ℕ) (g : X → Y) (xs : List X) (k : ℕ) (x : X) (o t whole : List ℕ)
    → k < length xs → x ≡ get_or xs k x → t ≡ o ++ f (g x)
    → o ++ flat_map f (map g (drop k xs)) ≡ whole → t ++ flat_map f (map g (drop (k + 1) xs)) ≡ whole
walked_on f g xs k x o t whole h r e i =
    before o (f (g x)) (flat_map f (map g (drop (k + 1) xs))) t e
    ∙ ap (λ ys. o ++ flat_map f (map g ys)) (sym (dropped xs k x h r)) ∙ i

-- it writes a comma and the text of its element at k
pub listed_on : {X Y : Type 0} (f : Y → List ℕ) (g : X → Y) (xs : List X) (k : ℕ) (x : X) (o p t whole : List ℕ)
    → k < length xs → x ≡ get_or xs k x → p ≡ o ++ codes ", " → t ≡ p ++ f (g x)
    → o ++ flat_map (λ u. codes ", " ++ u) (map f (map g (drop k xs))) ≡ whole → t ++ flat_map (λ u. codes ", " ++ u) (map f (map g (drop (k + 1) xs))) ≡ whole
listed_on f g xs k x o p t whole h r c e i =
    before o (codes ", " ++ f (g x)) (flat_map (λ u. codes ", " ++ u) (map f (map g (drop (k + 1) xs)))) t (more o (codes ", ") (f (g x)) p t c e)
    ∙ ap (λ ys. o ++ flat_map (λ u. codes ", " ++ u) (map f (map g ys))) (sym (dropped xs k x h r)) ∙ i

-- the lines of a statement after o, before the rest
pub lines_on : (o i h n inner rest p q r t : List ℕ)
    → p ≡ o ++ i → q ≡ p ++ h → r ≡ q ++ n → t ≡ r ++ inner → t ++ rest ≡ o ++ ((i ++ h ++ n) ++ inner ++ rest)
lines_on o i h n inner rest p q r t e f g k =
    before o ((i ++ h ++ n) ++ inner) rest t
    (more o (i ++ h ++ n) inner r t (more o (i ++ h) n q r (more o i h p q e f) g) k)
