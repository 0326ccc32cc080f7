-- The extents after a dimension.
use Rattle.std.proofs.Common.{◌≡◌, ℕ, zero, suc, ◌+◌, ◌-◌, ◌<◌, Bool, true, false, cond, List, [], ◌∷◌, map, length, take, drop, Result, arith, refl, sym, ap, ◌∙◌, add-one, true≢false}
use Rattle.std.proofs.lemmas.List.{take_all}
use Rattle.exo_tree.specs.Tree.{Control}
use Rattle.exo_tree.specs.PlainControl.{control}
use Rattle.exo_tree.specs.declared.control.Ctrl.{Ctrl}
use Rattle.affine_forms.specs.declared.error.FormError.{FormError}
use Rattle.affine_forms.specs.Atoms.{Linear}
use Rattle.affine_forms.specs.Forms.{keeps_rules}
use Rattle.affine_forms.specs.Outcomes.{Formed}
use Rattle.affine_forms.specs.Strides.{all_keep_rules}
use Rattle.affine_forms.proofs.Values.{and_parts}

later : (es : List Ctrl) (k : ℕ) → k < length es → map control (take (length es - suc k) (drop (suc k) es)) ≡ drop (suc k) (map control es)
later [] k l = absurd (omega arith)
later (e ∷ es) zero l = let n : suc (length es) - 1 ≡ length es = omega arith in ap (λ m. map control (take m es)) n ∙ ap (map control) (take_all (length es) es (omega arith))
later (e ∷ es) (suc k) l = let n : suc (length es) - suc (suc k) ≡ length es - suc k = omega arith in ap (λ m. map control (take m (drop (suc k) es))) n ∙ later es k (omega arith)

pub later_is : (es : List Ctrl) (k : ℕ) → k < length es → map control (take (length es - (k + 1)) (drop (k + 1) es)) ≡ drop (suc k) (map control es)
later_is es k l = ap (λ m. map control (take (length es - m) (drop m es))) (add-one k) ∙ later es k l

pub rules_drop : (n : ℕ) (es : List Control) → all_keep_rules es ≡ true → all_keep_rules (drop n es) ≡ true
rules_drop zero es h = h
rules_drop (suc n) [] h = refl
rules_drop (suc n) (e ∷ es) h = rules_drop n es (and_parts (keeps_rules e) (all_keep_rules es) h).1

pub formed_where : (r : Result Linear FormError) (t fits : Bool) (l other : Linear) → t ≡ true → Formed r fits l → Formed r (cond t fits true) (cond t l other)
formed_where r true fits l other e h = h
formed_where r false fits l other e h = absurd (true≢false (sym e))
