-- Spots one after the other.
use Rattle.std.proofs.Common.{◌≡◌, ℕ, Bool, true, false, Option, Some, None, refl}
use Rattle.std.proofs.Common.{if◌then◌else◌, sym, ap, true≢false}
use Rattle.exo_tree.specs.Tree.{Control}
use Rattle.affine_forms.specs.Forms.{Reading}
use Rattle.match_laws.specs.Moved.{Moving}
use Rattle.match_laws.specs.Windows.{if_agree}
use Rattle.block_matches.specs.Trying.{agrees_with}

module _ (at : Reading) (m : Moving) (bound : ℕ → Bool) where
  -- where extents agree
  pub agreed : {A : Type 0} (g : Control) (o : Option Control) (x : Option A)
      → agrees_with at g o ≡ true → if_agree at m bound g o x ≡ x
  agreed g None x h = absurd (true≢false (sym h))
  agreed g (Some f) x h = ap (λ t. if t then x else None) h

  pub not_agreed : {A : Type 0} (g : Control) (o : Option Control) (x : Option A)
      → agrees_with at g o ≡ false → if_agree at m bound g o x ≡ None
  not_agreed g None x h = refl
  not_agreed g (Some f) x h = ap (λ t. if t then x else None) h
