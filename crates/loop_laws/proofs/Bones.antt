-- A block with other names has statements of the same kinds at the same places.
use Rattle.std.proofs.Common.{◌≡◌, suc, length, Some, option_map, refl}
use Rattle.std.proofs.Common.{ap, ap₂}
use Rattle.exo_tree.specs.Tree.{Statement, Assign, Reduce, Config, Pass, If, For, Alloc, View, Call}
use Rattle.exo_tree.specs.Tree.{Block, end, next, statements}
use Rattle.exo_tree.specs.Mapped.{Leaves, mapped_block, mapped_statement}
use Rattle.exo_tree.specs.Places.{parted}
use Rattle.cursor_forward.specs.Forwards.{Conditional, Loop, Joint, more, none, bone, bones}

module _ (leaves : Leaves) where
  mutual
    pub same_bones : (b : Block) → bones (mapped_block leaves b) ≡ bones b
    same_bones end = refl
    same_bones (next a b) = ap₂ more (same_bone a) (same_bones b)

    same_bone : (a : Statement) → bone (mapped_statement leaves a) ≡ bone a
    same_bone (Assign x is e) = refl
    same_bone (Reduce x is e) = refl
    same_bone (Config f a) = refl
    same_bone Pass = refl
    same_bone (If c a b) = ap₂ (Joint Conditional) (same_bones a) (same_bones b)
    same_bone (For i lo hi b) = ap (λ k. Joint Loop k none) (same_bones b)
    same_bone (Alloc x cell dims memory) = refl
    same_bone (View w x coords) = refl
    same_bone (Call k args) = refl

  pub same_length : (b : Block)
      → length (statements (mapped_block leaves b)) ≡ length (statements b)
  same_length end = refl
  same_length (next a b) = ap suc (same_length b)

-- all statements of a block, and none behind them
pub all_parted : (b : Block) → parted (length (statements b)) b ≡ Some (b, end)
all_parted end = refl
all_parted (next a b) = ap (option_map (λ (p : Block × Block). (next a p.0, p.1))) (all_parted b)
