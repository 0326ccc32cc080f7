-- The argument of a buffer parameter is one that a fitting list of positions gives.
use Rattle.std.proofs.Common.{◌≡◌, ℕ, Bool, true, false, ◌&&◌, not, if◌then◌else◌, List, [], ◌∷◌}
use Rattle.std.proofs.Common.{length, Option, Some, None, refl, sym, ◌∙◌, true≢false}
use Rattle.exo_tree.specs.Tree.{Control, Argument}
use Rattle.affine_forms.specs.Forms.{Reading}
use Rattle.affine_forms.proofs.Values.{and_parts, none_some}
use Rattle.match_laws.specs.Names.{Buffer}
use Rattle.match_laws.specs.Moved.{Moving}
use Rattle.match_laws.specs.Windows.{Use, Spot, choices, fitting, all_moved, argument_from}
use Rattle.match_laws.specs.Windows.{all_of_name, first_fitting, argument_among, argument_of}
use Rattle.match_laws.specs.ArgumentFits.{IsFitting, ArgumentFits}

unbound : (t : Bool) → not t ≡ true → t ≡ false
unbound true h = absurd (true≢false (sym h))
unbound false h = refl

module _ (at : Reading) (m : Moving) (bound : ℕ → Bool) (whole : Bool) where
  -- a list that fits, with the argument that its spots give
  abbrev Found : Buffer → List Control → Use → List Use → Argument → Type 0
  Found b ds u us a =
      (listed : List Bool) × (ss : List Spot) × (fitting at m bound listed u us ≡ Some ss)
      × (argument_from at m bound whole b u.name ds ss ≡ Some a)

  found : (b : Buffer) (ds : List Control) (u : Use) (us : List Use) (a : Argument)
      (lists : List (List Bool))
      → first_fitting at m bound whole b ds u us lists ≡ Some a → Found b ds u us a
  found b ds u us a [] h = absurd (none_some h)
  found b ds u us a (listed ∷ more) h =
      go (λ k. found b ds u us a more k) (fitting at m bound listed u us) refl h
    where
      by_spots : (first_fitting at m bound whole b ds u us more ≡ Some a → Found b ds u us a)
          → (ss : List Spot) → fitting at m bound listed u us ≡ Some ss
          → (o : Option Argument) → argument_from at m bound whole b u.name ds ss ≡ o
          → elim o [
            | None ↦ first_fitting at m bound whole b ds u us more
            | Some c ↦ Some c
          ] ≡ Some a → Found b ds u us a
      by_spots later ss e None i k = later k
      by_spots later ss e (Some c) i k = (listed, ss, e, i ∙ k)

      go : (first_fitting at m bound whole b ds u us more ≡ Some a → Found b ds u us a)
          → (o : Option (List Spot)) → fitting at m bound listed u us ≡ o
          → elim o [
            | None ↦ first_fitting at m bound whole b ds u us more
            | Some ss ↦ elim (argument_from at m bound whole b u.name ds ss) [
              | None ↦ first_fitting at m bound whole b ds u us more
              | Some c ↦ Some c
            ]
          ] ≡ Some a → Found b ds u us a
      go later None e k = later k
      go later (Some ss) e k =
          by_spots later ss e (argument_from at m bound whole b u.name ds ss) refl k

  fits : (dims : List Control) (theirs : ℕ → Option Buffer) (uses : List Use) (a : Argument)
      → argument_of at m bound whole dims theirs uses ≡ Some a
      → IsFitting at m bound whole dims theirs uses a
  fits dims theirs [] a h = absurd (none_some h)
  fits dims theirs (u ∷ us) a h =
      go (theirs u.name) refl (all_moved at m bound dims) refl h
    where
      where_one : (b : Buffer) → theirs u.name ≡ Some b → (ds : List Control)
          → all_moved at m bound dims ≡ Some ds → (t : Bool)
          → (not (bound u.name) && all_of_name at m bound u.name us) ≡ t
          → (if t
          then first_fitting at m bound whole b ds u us (choices (length b.extents) (length dims))
          else None) ≡ Some a
          → IsFitting at m bound whole dims theirs (u ∷ us) a
      where_one b e ds i false k f = absurd (none_some f)
      where_one b e ds i true k f =
          let p = and_parts (not (bound u.name)) (all_of_name at m bound u.name us) k in
          let it = found b ds u us a (choices (length b.extents) (length dims)) f in
          record {
            first = u;
            others = us;
            buffer = b;
            dimensions = ds;
            listed = it.0;
            spots = it.1;
            uses_are = refl;
            free = unbound (bound u.name) p.0;
            one_name = p.1;
            buffer_is = e;
            dimensions_are = i;
            fits = it.2;
            argument = it.3;
          }

      go : (b : Option Buffer) → theirs u.name ≡ b → (ds : Option (List Control))
          → all_moved at m bound dims ≡ ds
          → argument_among at m bound whole (length dims) u us b ds ≡ Some a
          → IsFitting at m bound whole dims theirs (u ∷ us) a
      go None e ds i f = absurd (none_some f)
      go (Some b) e None i f = absurd (none_some f)
      go (Some b) e (Some ds) i f =
          where_one b e ds i (not (bound u.name) && all_of_name at m bound u.name us) refl f

pub argument_fits : ArgumentFits
argument_fits at m bound whole dims theirs uses a h = fits at m bound whole dims theirs uses a h
