-- Tests of conditions have the same answer on both sides.
use Rattle.std.proofs.Common.{◌≡◌, ℕ, ℤ, pos, Bool, true, false, not, ◌&&◌, ◌||◌, cond, refl, ap, ap₂, ◌∙◌, int_lt, int_le}
use Rattle.std.specs.Ordering.{int_eq}
use Rattle.exo_tree.specs.Tree.{Control, Condition, True, False, Flag, FieldFlag, Lt, Le, Gt, Ge, Eq, And, Or}
use Rattle.exo_meaning.specs.Scene.{Scene, is_set, number, holds}
use Rattle.c_unit_laws.specs.Follows.Machine.Machine.{Done, after, Setting, number64, test}
use Rattle.c_unit_laws.specs.Follows.Machine.Machine.{compared, unless_false, unless_true}
use Rattle.c_unit_laws.specs.Follows.Machine.Machine.{number_under}
use Rattle.c_lowering.specs.Made.Lowered.{Naming, Forms, number_of, test_of}
use Rattle.c_unit_laws.specs.Follows.Simulation.{Declared, AreSameFields, Layout, HaveForms}
use Rattle.c_unit_laws.specs.Follows.Good.{IsGoodOpen, IsGoodTest}
use Rattle.c_unit_laws.proofs.OfFollows.Windows.{ArePlaced}
use Rattle.c_unit_laws.proofs.OfFollows.Numbers.{counter}
use Rattle.c_unit_laws.proofs.OfFollows.Open.{open_number}

module _ (naming : Naming) (declared : Declared) (forms : Forms) (most : ℕ → ℕ) (layout : Layout) (scene : Scene) (setting : Setting) (match : HaveForms naming forms most layout scene setting.names) (placed : ArePlaced layout scene setting) (fields : AreSameFields naming declared scene.fields setting.names setting.fields) where
  open_is : (e : Control) → IsGoodOpen declared forms most e → number64 setting (number_of naming forms e) ≡ Done (number scene e)
  open_is e h = open_number naming forms most layout scene setting match placed declared fields e h.0 h.1

  compared_is : (f : ℤ → ℤ → Bool) (a b : Control) → IsGoodOpen declared forms most a → IsGoodOpen declared forms most b → compared f (number64 setting (number_of naming forms a)) (number64 setting (number_of naming forms b)) ≡ Done (f (number scene a) (number scene b))
  compared_is f a b h k = ap₂ (compared f) (open_is a h) (open_is b k)

  both_is : (t u : Bool) → unless_false t (Done u) ≡ Done (t && u)
  both_is true u = refl
  both_is false u = refl

  either_is : (t u : Bool) → unless_true t (Done u) ≡ Done (t || u)
  either_is true u = refl
  either_is false u = refl

  set_is : (n : ℤ) → not (int_eq n (pos 0)) ≡ is_set n
  set_is n = go (int_eq n (pos 0))
    where
      go : (t : Bool) → not t ≡ cond t false true
      go true = refl
      go false = refl

  pub test_is : (c : Condition) → IsGoodTest declared forms most c → test setting (test_of naming forms c) ≡ Done (holds scene c)
  test_is True h = refl
  test_is False h = refl
  test_is (Flag x) h = ap (λ o. after (number_under setting.fields (naming.binder x) o) (λ n. Done (not (int_eq n (pos 0))))) (counter naming forms most layout scene setting match x h).name ∙ ap Done (set_is (scene.control x))
  test_is (FieldFlag f) h =
      let same = fields f h in
      ap (λ o. after (number_under setting.fields (naming.field f) o) (λ n. Done (not (int_eq n (pos 0))))) same.name ∙ ap (λ n. Done (not (int_eq n (pos 0)))) same.same ∙ ap Done (set_is (scene.fields f))
  test_is (Lt a b) h = compared_is int_lt a b h.0 h.1
  test_is (Le a b) h = compared_is int_le a b h.0 h.1
  test_is (Gt a b) h = compared_is (λ m n. int_lt n m) a b h.0 h.1
  test_is (Ge a b) h = compared_is (λ m n. int_le n m) a b h.0 h.1
  test_is (Eq a b) h = compared_is int_eq a b h.0 h.1
  test_is (And c d) h = ap₂ (λ o p. after o (λ t. unless_false t p)) (test_is c h.0) (test_is d h.1) ∙ both_is (holds scene c) (holds scene d)
  test_is (Or c d) h = ap₂ (λ o p. after o (λ t. unless_true t p)) (test_is c h.0) (test_is d h.1) ∙ either_is (holds scene c) (holds scene d)
