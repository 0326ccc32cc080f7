-- A procedure fits where its body does, once its head does.
use Rattle.std.proofs.Common.{◌≡◌, ◌&&◌, ℕ, true, refl, if◌then◌else◌, ◌==◌, max, List, [], ◌∷◌, sym, ap, ◌∙◌, arith}
use Rattle.exo_tree.specs.Tree.{Param, Procedure, MemoryKind}
use Rattle.c_widths.specs.Widths.{are_narrow_tests, is_narrow_block, most_of, most_of_param, have_narrow_dims}
use Rattle.c_widths.specs.Raises.{most_from, is_narrow_by}

pub narrow_from : (memories : List MemoryKind) (p : Procedure) (most whole : ℕ → ℕ) → most ≡ whole → have_narrow_dims most p.params ≡ true → are_narrow_tests most p.asserts ≡ true → is_narrow_block memories most p.body ≡ is_narrow_by memories whole p
narrow_from memories p most whole e h k =
    sym (ap (λ t. t && are_narrow_tests most p.asserts && is_narrow_block memories most p.body) h ∙ ap (λ t. t && is_narrow_block memories most p.body) k)
    ∙ ap (λ m. is_narrow_by memories m p) e

-- where nothing is given
pub none_given : (ps : List Param) → most_from ps (λ i. 0) ≡ most_of ps
none_given [] = refl
none_given (p ∷ ps) = λ t x. if x == p.binder.id then none (most_of_param p.kind) t else none_given ps t x
  where
    none : (m : ℕ) → max m 0 ≡ m
    none m = omega arith
