-- The argument of a buffer parameter is one that a fitting list of positions gives.
use Rattle.std.specs.Prelude.{◌≡◌, ℕ, Bool, true, false, List, ◌∷◌, Option, Some}
use Rattle.exo_tree.specs.Tree.{Control, Argument}
use Rattle.affine_forms.specs.Forms.{Reading}
use Rattle.match_laws.specs.Names.{Buffer}
use Rattle.match_laws.specs.Moved.{Moving}
use Rattle.match_laws.specs.Windows.{Use, Spot, fitting, all_moved, argument_from, all_of_name}
use Rattle.match_laws.specs.Windows.{argument_of}

module _ (at : Reading) (m : Moving) (bound : ℕ → Bool) where
  -- all uses are of one name, which the block does not bind; the list fits them, and its spots
  -- give the argument
  pub record IsFitting (whole : Bool) (dims : List Control) (theirs : ℕ → Option Buffer)
      (uses : List Use) (a : Argument) : Type 0 where
    pub first : Use
    pub others : List Use
    pub buffer : Buffer
    pub dimensions : List Control
    pub listed : List Bool
    pub spots : List Spot
    pub uses_are : uses ≡ first ∷ others
    pub free : bound first.name ≡ false
    pub one_name : all_of_name at m bound first.name others ≡ true
    pub buffer_is : theirs first.name ≡ Some buffer
    pub dimensions_are : all_moved at m bound dims ≡ Some dimensions
    pub fits : fitting at m bound listed first others ≡ Some spots
    pub argument : argument_from at m bound whole buffer first.name dimensions spots ≡ Some a

abbrev pub ArgumentFits : Type 0
ArgumentFits =
    (at : Reading) (m : Moving) (bound : ℕ → Bool) (whole : Bool) (dims : List Control)
    (theirs : ℕ → Option Buffer) (uses : List Use) (a : Argument)
    → argument_of at m bound whole dims theirs uses ≡ Some a
    → IsFitting at m bound whole dims theirs uses a
