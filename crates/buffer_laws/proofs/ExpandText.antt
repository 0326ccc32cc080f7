-- The text of the step that gives a buffer a new first dimension.
use Rattle.std.proofs.Common.{◌≡◌, ℕ, ◌==◌, ◌||◌, not, Bool, true, false, cond, List, []}
use Rattle.std.proofs.Common.{◌∷◌, length, IfSome, refl, sym, ap, ap₂}
use Rattle.std.proofs.Common.{◌∙◌, subst, eqb-true, eq-eqb, suc, arith}
use Rattle.exo_tree.specs.Tree.{Control, At, Window, Alloc, Block, next}
use Rattle.exo_tree.specs.Context.{fill}
use Rattle.exo_tree.specs.Renaming as tree
use Rattle.exo_meaning.specs.State.{State}
use Rattle.exo_meaning.specs.Renaming.{re_block}
use Rattle.exo_meaning.specs.Run.{World, run, step, unit_world}
use Rattle.exo_meaning.specs.Unseen.{in_control as control_mentions}
use Rattle.exo_meaning.specs.Unseen.{in_controls as controls_mention}
use Rattle.exo_meaning.specs.Unseen.{in_coords as coords_mention}
use Rattle.exo_meaning.proofs.Compose.{then_cong}
use Rattle.exo_meaning.proofs.Frame.{or_parts}
use Rattle.exo_meaning.proofs.Windows.{one_value}
use Rattle.meaning_laws.specs.Fresh.{swapped}
use Rattle.meaning_laws.specs.Sound.{IsUnbound}
use Rattle.meaning_laws.proofs.Copies.{place_unbound}
use Rattle.meaning_laws.proofs.Names.{if_gives}
use Rattle.meaning_laws.proofs.Scoped.{not_true}
use Rattle.meaning_laws.proofs.Swaps.{swap, swap_moves}
use Rattle.inplace_laws.specs.Windows as windows
use Rattle.inplace_laws.proofs.Along.{along_law}
use Rattle.place_laws.specs.Scope.Scopes.{top_binders}
use Rattle.place_laws.proofs.OfScope.Opened.{leaving_refines}
use Rattle.buffer_laws.specs.Staging.Stage.{AreAlike}
use Rattle.buffer_laws.proofs.OfStaging.Replaced.{alike_replaces}
use Rattle.buffer_laws.specs.Buffers.{Buffer, allocation}
use Rattle.buffer_laws.specs.Expanded.{expanded, expanded_buffer, small, enlarged}
use Rattle.buffer_laws.specs.Expanded.{passes_whole, part_of, part_coords, MayExpand}
use Rattle.buffer_laws.specs.Expanded.{MayBePart, EndsAlike}
use Rattle.buffer_laws.specs.ExpandText.{either_name, HasText, ExpandTextLaw, ExpandTextRefines}
use Rattle.buffer_laws.proofs.Expanded.{turned_round, under_same}
use Rattle.buffer_laws.proofs.ExpandedIds.{block, controls_stay}
use Rattle.buffer_laws.proofs.ExpandedZeros.{along}
use Rattle.match_laws.specs.Names.{whole_of}

whole_free : (moved : ℕ → Bool) (ds : List Control) → controls_mention moved ds ≡ false
    → coords_mention moved (whole_of ds) ≡ false
whole_free moved [] h = refl
whole_free moved (d ∷ ds) h =
    let p = or_parts (control_mentions moved d) (controls_mention moved ds) h in
    ap₂ ◌||◌ p.0 (whole_free moved ds p.1)

not_zero : (k : ℕ) (t : Bool) → (suc k == 0) ≡ t → t ≡ false
not_zero k false h = refl
not_zero k true h = absurd (no (eqb-true (suc k) 0 h))
  where
    no : suc k ≡ 0 → ⊥
    no e = omega arith

module _ (world : World) (a : ℕ) (n e : Control) (x : Buffer) (rest : Block) (s : State)
    (text : HasText a n e x rest) (trees : MayBePart a e x rest) where
  abbrev id : ℕ
  id = x.binder.id

  abbrev to : ℕ → ℕ
  to = swapped id a

  to_x : to a ≡ id
  to_x = go (a == id) refl
    where
      go : (r : Bool) → (a == id) ≡ r → cond r a (cond (a == a) id a) ≡ id
      go true k = eqb-true a id k
      go false k = ap (λ q. cond q id a) (eq-eqb a a refl)

  stays : (y : ℕ) → either_name a x y ≡ false → to y ≡ y
  stays y h =
      let p = or_parts (y == id) (y == a) h in
      ap₂ (λ q r. cond q a (cond r id y)) p.0 p.1

  abbrev middle : Block
  middle = next (allocation (expanded_buffer n x))
      (windows.in_block id (Window id (part_coords e x)) rest)

  sizes_stay : tree.re_controls to (n ∷ x.dims) ≡ n ∷ x.dims
  sizes_stay =
      let p = or_parts (control_mentions (either_name a x) n) _ text.sizes in
      let q = or_parts (control_mentions (either_name a x) e) _ p.1 in
      controls_stay to (either_name a x) stays (n ∷ x.dims) (ap₂ ◌||◌ p.0 q.1)

  free : coords_mention (either_name a x) (part_coords e x) ≡ false
  free =
      let p = or_parts (control_mentions (either_name a x) n) _ text.sizes in
      let q = or_parts (control_mentions (either_name a x) e) _ p.1 in
      ap₂ ◌||◌ q.0 (whole_free (either_name a x) x.dims q.1)

  -- under the other id
  renamed : re_block (swap id a) (enlarged a n e x rest) ≡ middle
  renamed =
      ap₂ (λ i ds. next (Alloc (record { id = i; name = x.binder.name }) x.cell ds x.memory)
      (tree.re_block to (windows.in_block id (part_of a e x) rest))) to_x sizes_stay
      ∙ ap (next (allocation (expanded_buffer n x)))
      (block to a id (part_coords e x) to_x stays free rest trees.unused trees.gone)

  -- with the indices as they stand
  rest_same : (u : State) → run world (windows.in_block id (Window id (part_coords e x)) rest) u
      ≡ run world (windows.in_block id (Window id (At e ∷ [])) rest) u
  rest_same u = go x.dims text.shape
    where
      go : (ds : List Control) → ((length ds == 0) || not (passes_whole id rest)) ≡ true
          → run world (windows.in_block id (Window id (At e ∷ whole_of ds)) rest) u
          ≡ run world (windows.in_block id (Window id (At e ∷ [])) rest) u
      go [] h = refl
      go (d ∷ ds) h = along_law world
          (windows.in_block id (Window id (At e ∷ whole_of (d ∷ ds))) rest)
          (windows.in_block id (Window id (At e ∷ [])) rest) u
          (along id e (d ∷ ds) world rest u (not_true (passes_whole id rest)
          (ap (λ r. r || not (passes_whole id rest))
          (sym (not_zero (length ds) (length (d ∷ ds) == 0) refl)) ∙ h)))

  text_same : run world (re_block (swap id a) (enlarged a n e x rest)) s
      ≡ run world (expanded n e x rest) s
  text_same = ap (λ b. run world b s) renamed
      ∙ then_cong (step world (allocation (expanded_buffer n x)) s)
      (run world (windows.in_block id (Window id (part_coords e x)) rest))
      (run world (windows.in_block id (Window id (At e ∷ [])) rest)) rest_same

pub expand_text_law : ExpandTextLaw
expand_text_law world a n e x rest s text may =
    subst (λ o. IfSome (run world (small x rest) s) (λ t. EndsAlike s t o))
    (text_same world a n e x rest s text may.trees)
    (under_same (swap x.binder.id a) world a n e x rest s may
    (swap_moves x.binder.id a (IsUnbound s) may.none may.new))

pub expand_text_refines : ExpandTextRefines
expand_text_refines kinds ps p c hidden a n e x rest was leaves of_old of_new free text trees
    inside =
    let world = unit_world kinds ps in
    let old = small x rest in
    let new = expanded n e x rest in
    leaving_refines kinds ps c old new p (record p { body = fill c new }) hidden was refl leaves
    (λ s u good come none.
    alike_replaces world hidden old new u (record {
      none = none;
      of_old = of_old;
      of_new = of_new;
    }) (λ t v h k.
    let may : MayExpand a n e x rest u = record {
      trees = trees;
      sound = none.sound;
      none = none.unbound x.binder.id (of_old x.binder.id
          (ap (λ b. b || top_binders rest x.binder.id) (eq-eqb x.binder.id x.binder.id refl)));
      new = place_unbound world p old c s u good come a free;
      inside = inside s u good come;
    } in
    let end_of = if_gives (λ t. EndsAlike u t (run world new u)) (run world old u) t
    (expand_text_law world a n e x rest u text may) h in
    turned_round u t v (subst (λ w. AreAlike u t w) (one_value end_of.0 v (sym end_of.1 ∙ k))
    end_of.2)))
