-- Texts one behind the other, from the left and from the right.
use Rattle.std.proofs.Common.{◌≡◌, ℕ, List, ◌++◌, codes, sym, ◌∙◌, append_assoc}
use Rattle.c_tree.specs.CText.{between}

pub six : (a b c d e f : List ℕ) → (a ++ (b ++ (c ++ (d ++ (e ++ f))))) ≡ (((((a ++ b) ++ c) ++ d) ++ e) ++ f)
six a b c d e f = sym (append_assoc (((a ++ b) ++ c) ++ d) e f ∙ append_assoc ((a ++ b) ++ c) d (e ++ f) ∙ append_assoc (a ++ b) c (d ++ (e ++ f)) ∙ append_assoc a b (c ++ (d ++ (e ++ f))))

pub seven : (a b c d e f g : List ℕ) → (a ++ (b ++ (c ++ (d ++ (e ++ (f ++ g)))))) ≡ ((((((a ++ b) ++ c) ++ d) ++ e) ++ f) ++ g)
seven a b c d e f g = sym (append_assoc a b (c ++ (d ++ (e ++ (f ++ g))))) ∙ six (a ++ b) c d e f g

pub ten : (a b c d e f g h i j : List ℕ) → (a ++ (b ++ (c ++ (d ++ (e ++ (f ++ (g ++ (h ++ (i ++ j))))))))) ≡ (((((((((a ++ b) ++ c) ++ d) ++ e) ++ f) ++ g) ++ h) ++ i) ++ j)
ten a b c d e f g h i j = sym (append_assoc (((((((a ++ b) ++ c) ++ d) ++ e) ++ f) ++ g) ++ h) i j ∙ append_assoc ((((((a ++ b) ++ c) ++ d) ++ e) ++ f) ++ g) h (i ++ j) ∙ append_assoc (((((a ++ b) ++ c) ++ d) ++ e) ++ f) g (h ++ (i ++ j)) ∙ append_assoc ((((a ++ b) ++ c) ++ d) ++ e) f (g ++ (h ++ (i ++ j))) ∙ append_assoc (((a ++ b) ++ c) ++ d) e (f ++ (g ++ (h ++ (i ++ j)))) ∙ append_assoc ((a ++ b) ++ c) d (e ++ (f ++ (g ++ (h ++ (i ++ j))))) ∙ append_assoc (a ++ b) c (d ++ (e ++ (f ++ (g ++ (h ++ (i ++ j)))))) ∙ append_assoc a b (c ++ (d ++ (e ++ (f ++ (g ++ (h ++ (i ++ j))))))))

pub five : (a b c d e : List ℕ) → a ++ (b ++ (c ++ (d ++ e))) ≡ (((a ++ b) ++ c) ++ d) ++ e
five a b c d e = sym (append_assoc ((a ++ b) ++ c) d e ∙ append_assoc (a ++ b) c (d ++ e) ∙ append_assoc a b (c ++ (d ++ e)))

pub four : (a b c d : List ℕ) → a ++ (b ++ (c ++ d)) ≡ ((a ++ b) ++ c) ++ d
four a b c d = sym (append_assoc (a ++ b) c d ∙ append_assoc a b (c ++ d))

pub eleven :
    (a b c d e f g h i j k : List ℕ)
    → a ++ (b ++ (c ++ (d ++ (e ++ (f ++ (g ++ (h ++ (i ++ (j ++ k)))))))))
    ≡ (((((((((a ++ b) ++ c) ++ d) ++ e) ++ f) ++ g) ++ h) ++ i) ++ j) ++ k
eleven a b c d e f g h i j k =
    sym (append_assoc a b (c ++ (d ++ (e ++ (f ++ (g ++ (h ++ (i ++ (j ++ k)))))))))
    ∙ ten (a ++ b) c d e f g h i j k

-- two sides with a word between
pub parted :
    (a word b : List ℕ)
    → codes "(" ++ (a ++ (codes " " ++ (word ++ (codes " " ++ (b ++ codes ")"))))) ≡ between a word b
parted a word b = seven (codes "(") a (codes " ") word (codes " ") b (codes ")")
