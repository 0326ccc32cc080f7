-- Lists with what is put for names, item by item.
use Rattle.std.proofs.Common.{◌≡◌, ◌++◌, ◌∷◌, [], List, map, length, sym, ap, ap₂, refl, ◌∙◌, Result, arith}
use Rattle.std.proofs.lemmas.List.{append_assoc, append-nil}
use Rattle.std.proofs.lemmas.Result.{on_ok_weaker}
use Rattle.std.specs.Result.{OnOk}
use Rattle.exo_tree.specs.Tree as tree
use Rattle.exo_tree.specs.PlainControl.{control, coordinate}
use Rattle.exo_tree.specs.declared.control.Ctrl.{Ctrl}
use Rattle.exo_tree.specs.declared.control.Coord.{Coord}
use Rattle.exo_tree.specs.declared.control.Coord.TheVariants.{At, Span}
use Rattle.inplace_laws.specs.Windows.{shifted, joined_coords}
use Rattle.match_laws.specs.Inline.AtOnce.{Put, put_control, put_controls, put_coords}
use Rattle.tree_uses.specs.Moved.{put_coord, moved_by}

empty : {X : Type 0} (xs : List X) → length xs ≡ 0 → xs ≡ []
empty [] h = refl
empty (x ∷ xs) h = absurd (omega (arith, h))

-- nothing is put where nothing is left
pub nothing : {X V : Type 0} (F : List X → List V) (xs : List X) (old : List V) → length xs ≡ 0 → F [] ≡ []
    → old ≡ old ++ F xs
nothing F xs old h e = sym (append-nil old) ∙ ap (λ vs. old ++ vs) (sym (ap F (empty xs h) ∙ e))

module _ {T E : Type 0} (r : Result T E) where
  -- the rest comes behind an item
  behind : {V : Type 0} (new mid old : List V) (x : V) (rest whole : List V)
      → OnOk r (new ≡ mid ++ rest) → mid ≡ old ++ x ∷ [] → whole ≡ x ∷ rest → OnOk r (new ≡ old ++ whole)
  behind new mid old x rest whole h p w =
      on_ok_weaker r (λ e. e ∙ ap (λ m. m ++ rest) p ∙ append_assoc old (x ∷ []) rest ∙ ap (λ z. old ++ z) (sym w)) h

  -- a window of no coordinates
  pub unshifted : {V : Type 0} (F : List Coord → List V) (cs : List Coord) (new old : List V)
      → length cs ≡ 0 → OnOk r (new ≡ old ++ F []) → OnOk r (new ≡ old ++ F cs)
  unshifted F cs new old h w = on_ok_weaker r (λ e. e ∙ ap (λ ds. old ++ F ds) (sym (empty cs h))) w

  module _ (put : Put) where
    pub coords_at : (all rest : List Coord) (first : Coord) (a e : Ctrl) (new mid old : List tree.Coord)
        → all ≡ first ∷ rest → first ≡ At a → control e ≡ put_control put (control a)
        → mid ≡ old ++ tree.At (control e) ∷ [] → OnOk r (new ≡ mid ++ put_coords put (map coordinate rest))
        → OnOk r (new ≡ old ++ put_coords put (map coordinate all))
    coords_at all rest first a e new mid old is at same pushed w =
        let more = put_coords put (map coordinate rest) in
        behind new mid old (tree.At (control e)) more (put_coords put (map coordinate all)) w pushed
        (ap (λ cs. put_coords put (map coordinate cs)) is
        ∙ ap (λ d. put_coords put (coordinate d ∷ map coordinate rest)) at
        ∙ ap (λ x. tree.At x ∷ more) (sym same))

    pub coords_span : (all rest : List Coord) (first : Coord) (a b e f : Ctrl) (new mid old : List tree.Coord)
        → all ≡ first ∷ rest → first ≡ Span a b
        → control e ≡ put_control put (control a) → control f ≡ put_control put (control b)
        → mid ≡ old ++ tree.Span (control e) (control f) ∷ []
        → OnOk r (new ≡ mid ++ put_coords put (map coordinate rest))
        → OnOk r (new ≡ old ++ put_coords put (map coordinate all))
    coords_span all rest first a b e f new mid old is at same₁ same₂ pushed w =
        let more = put_coords put (map coordinate rest) in
        behind new mid old (tree.Span (control e) (control f)) more (put_coords put (map coordinate all)) w pushed
        (ap (λ cs. put_coords put (map coordinate cs)) is
        ∙ ap (λ d. put_coords put (coordinate d ∷ map coordinate rest)) at
        ∙ ap₂ (λ x y. tree.Span x y ∷ more) (sym same₁) (sym same₂))

  pub joined_at : (all rest : List Coord) (first : Coord) (a e : Ctrl) (ds new mid old : List tree.Coord)
      → all ≡ first ∷ rest → first ≡ At a → control e ≡ control a → mid ≡ old ++ tree.At (control e) ∷ []
      → OnOk r (new ≡ mid ++ joined_coords (map coordinate rest) ds)
      → OnOk r (new ≡ old ++ joined_coords (map coordinate all) ds)
  joined_at all rest first a e ds new mid old is at same pushed w =
      let more = joined_coords (map coordinate rest) ds in
      behind new mid old (tree.At (control e)) more (joined_coords (map coordinate all) ds) w pushed
      (ap (λ cs. joined_coords (map coordinate cs) ds) is
      ∙ ap (λ d. joined_coords (coordinate d ∷ map coordinate rest) ds) at
      ∙ ap (λ x. tree.At x ∷ more) (sym same))

  pub shifted_at : (all rest : List Coord) (first : Coord) (a e : Ctrl) (is new mid old : List tree.Control)
      → all ≡ first ∷ rest → first ≡ At a → control e ≡ control a → mid ≡ old ++ control e ∷ []
      → OnOk r (new ≡ mid ++ shifted (map coordinate rest) is)
      → OnOk r (new ≡ old ++ shifted (map coordinate all) is)
  shifted_at all rest first a e es new mid old is at same pushed w =
      let more = shifted (map coordinate rest) es in
      behind new mid old (control e) more (shifted (map coordinate all) es) w pushed
      (ap (λ cs. shifted (map coordinate cs) es) is
      ∙ ap (λ d. shifted (coordinate d ∷ map coordinate rest) es) at
      ∙ ap (λ x. x ∷ more) (sym same))

  module _ (put : Put) (all rest : List Coord) (first : Coord) (a b : Ctrl) (is : all ≡ first ∷ rest)
      (span : first ≡ Span a b) where
    moved_on : (d : tree.Coord) (ds : List tree.Coord)
        → joined_coords (tree.Span (control a) (control b) ∷ map coordinate rest) (put_coords put (d ∷ ds))
        ≡ moved_by (control a) (put_coord put d) ∷ joined_coords (map coordinate rest) (put_coords put ds)
    moved_on (tree.At c) ds = refl
    moved_on (tree.Span c d) ds = refl

    pub joined_span : (at more : List Coord) (c e : Coord) (new mid old : List tree.Coord)
        → at ≡ c ∷ more → coordinate e ≡ moved_by (control a) (put_coord put (coordinate c))
        → mid ≡ old ++ coordinate e ∷ []
        → OnOk r (new ≡ mid ++ joined_coords (map coordinate rest) (put_coords put (map coordinate more)))
        → OnOk r (new ≡ old ++ joined_coords (map coordinate all) (put_coords put (map coordinate at)))
    joined_span at more c e new mid old head same pushed w =
        let ds = put_coords put (map coordinate at) in
        let onward = joined_coords (map coordinate rest) (put_coords put (map coordinate more)) in
        behind new mid old (coordinate e) onward (joined_coords (map coordinate all) ds) w pushed
        (ap (λ cs. joined_coords (map coordinate cs) ds) is
        ∙ ap (λ d. joined_coords (coordinate d ∷ map coordinate rest) ds) span
        ∙ ap (λ cs. joined_coords (tree.Span (control a) (control b) ∷ map coordinate rest)
        (put_coords put (map coordinate cs))) head
        ∙ moved_on (coordinate c) (map coordinate more)
        ∙ ap (λ x. x ∷ onward) (sym same))

    pub shifted_span : (at more : List Ctrl) (i e : Ctrl) (new mid old : List tree.Control)
        → at ≡ i ∷ more → control e ≡ tree.Add (control a) (put_control put (control i))
        → mid ≡ old ++ control e ∷ []
        → OnOk r (new ≡ mid ++ shifted (map coordinate rest) (put_controls put (map control more)))
        → OnOk r (new ≡ old ++ shifted (map coordinate all) (put_controls put (map control at)))
    shifted_span at more i e new mid old head same pushed w =
        let es = put_controls put (map control at) in
        let onward = shifted (map coordinate rest) (put_controls put (map control more)) in
        behind new mid old (control e) onward (shifted (map coordinate all) es) w pushed
        (ap (λ cs. shifted (map coordinate cs) es) is
        ∙ ap (λ d. shifted (coordinate d ∷ map coordinate rest) es) span
        ∙ ap (λ cs. shifted (tree.Span (control a) (control b) ∷ map coordinate rest)
        (put_controls put (map control cs))) head
        ∙ ap (λ x. x ∷ onward) (sym same))

-- a window that has more spans than there is to put
pub none_joined : (put : Put) (all rest : List Coord) (first : Coord) (a b : Ctrl) (at : List Coord)
    (old : List tree.Coord)
    → all ≡ first ∷ rest → first ≡ Span a b → length at ≡ 0
    → old ≡ old ++ joined_coords (map coordinate all) (put_coords put (map coordinate at))
none_joined put all rest first a b at old is span h =
    nothing (λ cs. joined_coords (map coordinate all) (put_coords put (map coordinate cs))) at old h
    (ap (λ cs. joined_coords (map coordinate cs) []) is
    ∙ ap (λ d. joined_coords (coordinate d ∷ map coordinate rest) []) span)

pub none_shifted : (put : Put) (all rest : List Coord) (first : Coord) (a b : Ctrl) (at : List Ctrl)
    (old : List tree.Control)
    → all ≡ first ∷ rest → first ≡ Span a b → length at ≡ 0
    → old ≡ old ++ shifted (map coordinate all) (put_controls put (map control at))
none_shifted put all rest first a b at old is span h =
    nothing (λ es. shifted (map coordinate all) (put_controls put (map control es))) at old h
    (ap (λ cs. shifted (map coordinate cs) []) is ∙ ap (λ d. shifted (coordinate d ∷ map coordinate rest) []) span)
