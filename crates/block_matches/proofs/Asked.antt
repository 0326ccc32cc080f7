-- The forms that are asked for.
use Rattle.std.proofs.Common.{◌≡◌, ℕ, pos, Bool, true, false, ◌&&◌, ◌||◌, not, if◌then◌else◌}
use Rattle.std.proofs.Common.{List, ◌∷◌, Option, Some, None, option_map, refl, sym, ap, ap₂, ◌∙◌, true≢false}
use Rattle.exo_tree.specs.Tree.{Control, Lit}
use Rattle.affine_forms.specs.Forms.{Reading, keeps_rules, is_writable}
use Rattle.affine_forms.proofs.Values.{and_parts, none_some}
use Rattle.match_laws.specs.Names.{Buffer}
use Rattle.match_laws.specs.Moved.{Moving}
use Rattle.match_laws.specs.Windows.{Use, Spot, spots, fitting, argument_from, are_free, all_as}
use Rattle.match_laws.specs.Windows.{same_spots}
use Rattle.match_laws.specs.Widths.{is_short, are_short, extents_are_short, spots_are_short}
use Rattle.match_laws.specs.Widths.{offsets_are_short, ends_are_short, uses_are_short}
use Rattle.match_laws.specs.Widths.{list_is_short}
use Rattle.block_matches.specs.Trying.{use_is_short, tried, trial_is_short}

and_swap : (a b : Bool) → (a && b) ≡ (b && a)
and_swap true true = refl
and_swap true false = refl
and_swap false true = refl
and_swap false false = refl

pub short_swapped : (at : Reading) (a b : Control) → are_short at a b ≡ are_short at b a
short_swapped at a b =
    ap₂ (λ s t. not s || t) (and_swap (keeps_rules a) (keeps_rules b))
    (and_swap (is_writable at a) (is_writable at b))

-- an offset that is short is short beside 0
pub short_with_zero : (at : Reading) (e : Control) → is_short at e ≡ true
    → are_short at e (Lit (pos 0)) ≡ true
short_with_zero at e h = go (keeps_rules e) (is_writable at e) h
  where
    go : (k w : Bool) → (not k || w) ≡ true → (not (k && true) || (w && true)) ≡ true
    go true true i = refl
    go true false i = i
    go false w i = refl

module _ (at : Reading) (m : Moving) (bound : ℕ → Bool) where
  -- ---- an access against the first one

  pub use_short : (listed : List Bool) (first : List Spot) (u : Use) (o : Option (List Spot))
      → spots at m bound listed u.ours u.theirs ≡ o
      → extents_are_short at m bound listed u.ours u.theirs ≡ true
      → use_is_short at m bound listed first u
      ≡ elim o [ None ↦ true | Some ss ↦ spots_are_short at m bound first ss ]
  use_short listed first u o e h =
      ap₂ (λ (t : Bool) (p : Option (List Spot)).
      t && elim p [ None ↦ true | Some ss ↦ spots_are_short at m bound first ss ]) h e

  pub use_wide : (listed : List Bool) (first : List Spot) (u : Use)
      → extents_are_short at m bound listed u.ours u.theirs ≡ false
      → use_is_short at m bound listed first u ≡ false
  use_wide listed first u h =
      ap (λ t. t && elim (spots at m bound listed u.ours u.theirs) [
        | None ↦ true
        | Some ss ↦ spots_are_short at m bound first ss
      ]) h

  -- ---- all accesses

  -- one that is the same is not the last
  pub uses_after : (listed : List Bool) (first : List Spot) (u : Use) (us : List Use)
      → uses_are_short at m bound listed first (u ∷ us)
      ≡ (use_is_short at m bound listed first u
      && (not (elim (spots at m bound listed u.ours u.theirs) [
        | None ↦ false
        | Some ss ↦ same_spots at m bound first ss
      ]) || uses_are_short at m bound listed first us))
  uses_after listed first u us =
      go (extents_are_short at m bound listed u.ours u.theirs)
      (spots at m bound listed u.ours u.theirs) (uses_are_short at m bound listed first us)
    where
      one : (s t later : Bool)
          → (s && (not t || later)) ≡ ((true && s) && (not t || later))
      one s t later = refl

      go : (t : Bool) (o : Option (List Spot)) (later : Bool)
          → (t && elim o [
            | None ↦ true
            | Some ss ↦ spots_are_short at m bound first ss
                && (not (same_spots at m bound first ss) || later)
          ])
          ≡ ((t && elim o [ None ↦ true | Some ss ↦ spots_are_short at m bound first ss ])
          && (not (elim o [ None ↦ false | Some ss ↦ same_spots at m bound first ss ]) || later))
      go false o later = refl
      go true None later = refl
      go true (Some ss) later = refl

  -- ---- a list of positions

  pub list_wide : (listed : List Bool) (u : Use) (us : List Use)
      → extents_are_short at m bound listed u.ours u.theirs ≡ false
      → list_is_short at m bound listed u us ≡ false
  list_wide listed u us h =
      ap (λ t. t && elim (spots at m bound listed u.ours u.theirs) [
        | None ↦ true
        | Some ss ↦ offsets_are_short at m bound ss
            && (not (are_free at m bound ss) || uses_are_short at m bound listed ss us)
      ]) h

  pub list_short : (listed : List Bool) (u : Use) (us : List Use) (o : Option (List Spot))
      → spots at m bound listed u.ours u.theirs ≡ o
      → extents_are_short at m bound listed u.ours u.theirs ≡ true
      → list_is_short at m bound listed u us
      ≡ elim o [
        | None ↦ true
        | Some ss ↦ offsets_are_short at m bound ss
            && (not (are_free at m bound ss) || uses_are_short at m bound listed ss us)
      ]
  list_short listed u us o e h =
      ap₂ (λ (t : Bool) (p : Option (List Spot)). t && elim p [
        | None ↦ true
        | Some ss ↦ offsets_are_short at m bound ss
            && (not (are_free at m bound ss) || uses_are_short at m bound listed ss us)
      ]) h e

  pub fitting_none : (listed : List Bool) (u : Use) (us : List Use)
      → spots at m bound listed u.ours u.theirs ≡ None
      → fitting at m bound listed u us ≡ None
  fitting_none listed u us e =
      ap (λ (o : Option (List Spot)). elim o [
        | None ↦ None
        | Some ss ↦ if are_free at m bound ss && all_as at m bound listed ss us then Some ss else None
      ]) e

  pub fitting_some : (listed : List Bool) (u : Use) (us : List Use) (ss : List Spot) (t : Bool)
      → spots at m bound listed u.ours u.theirs ≡ Some ss
      → t ≡ (are_free at m bound ss && all_as at m bound listed ss us)
      → fitting at m bound listed u us ≡ (if t then Some ss else None)
  fitting_some listed u us ss t e h =
      ap (λ (o : Option (List Spot)). elim o [
        | None ↦ None
        | Some ss ↦ if are_free at m bound ss && all_as at m bound listed ss us then Some ss else None
      ]) e
      ∙ sym (ap (λ s. if s then Some ss else None) h)

  -- of spots that fit the offsets are short
  pub fitting_offsets : (listed : List Bool) (u : Use) (us : List Use) (ss : List Spot)
      → fitting at m bound listed u us ≡ Some ss
      → list_is_short at m bound listed u us ≡ true
      → offsets_are_short at m bound ss ≡ true
  fitting_offsets listed u us ss e h =
      go (extents_are_short at m bound listed u.ours u.theirs)
      (spots at m bound listed u.ours u.theirs) e h
    where
      chosen : (rs : List Spot) (t : Bool) → (if t then Some rs else None) ≡ Some ss → rs ≡ ss
      chosen rs true i = cc
      chosen rs false i = absurd (none_some i)

      go : (t : Bool) (o : Option (List Spot))
          → elim o [
            | None ↦ None
            | Some rs ↦ if are_free at m bound rs && all_as at m bound listed rs us
                then Some rs
                else None
          ] ≡ Some ss
          → (t && elim o [
            | None ↦ true
            | Some rs ↦ offsets_are_short at m bound rs
                && (not (are_free at m bound rs) || uses_are_short at m bound listed rs us)
          ]) ≡ true
          → offsets_are_short at m bound ss ≡ true
      go t None i j = absurd (none_some i)
      go false (Some rs) i j = absurd (true≢false (sym j))
      go true (Some rs) i j =
          sym (ap (offsets_are_short at m bound)
          (chosen rs (are_free at m bound rs && all_as at m bound listed rs us) i))
          ∙ (and_parts (offsets_are_short at m bound rs)
          (not (are_free at m bound rs) || uses_are_short at m bound listed rs us) j).0

  -- ---- a trial

  module _ (whole : Bool) (b : Buffer) (ds : List Control) (u : Use) (us : List Use)
      (listed : List Bool) where
    pub trial_wide : list_is_short at m bound listed u us ≡ false
        → trial_is_short at m bound whole ds u us listed ≡ false
    trial_wide h =
        ap (λ t. t && elim (fitting at m bound listed u us) [
          | None ↦ true
          | Some ss ↦ whole || ends_are_short at m bound ss ds
        ]) h

    pub trial_short : (o : Option (List Spot))
        → fitting at m bound listed u us ≡ o
        → list_is_short at m bound listed u us ≡ true
        → trial_is_short at m bound whole ds u us listed
        ≡ elim o [ None ↦ true | Some ss ↦ whole || ends_are_short at m bound ss ds ]
    trial_short o e h =
        ap₂ (λ (t : Bool) (p : Option (List Spot)). t && elim p [
          | None ↦ true
          | Some ss ↦ whole || ends_are_short at m bound ss ds
        ]) h e

    pub tried_is : (o : Option (List Spot)) → fitting at m bound listed u us ≡ o
        → tried at m bound whole b ds u us listed
        ≡ elim o [ None ↦ None | Some ss ↦ argument_from at m bound whole b u.name ds ss ]
    tried_is o e =
        ap (λ (p : Option (List Spot)). elim p [
          | None ↦ None
          | Some ss ↦ argument_from at m bound whole b u.name ds ss
        ]) e

    -- nothing fits
    pub tried_none : {X : Type 0} (f : X → List Spot) (r : Option X)
        → option_map f r ≡ fitting at m bound listed u us → r ≡ None
        → None ≡ tried at m bound whole b ds u us listed
    tried_none f r e h = sym (tried_is None (sym e ∙ ap (option_map f) h))
