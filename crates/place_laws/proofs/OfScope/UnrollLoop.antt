-- A loop written out: a copy of its body for each turn.
use Rattle.std.proofs.Common.{◌≡◌, inl, ℕ, ℤ, ◌+◌, ◌≤◌, ◌==◌, true, false, true≢false, ◌||◌, List}
use Rattle.std.proofs.Common.{[], ◌∷◌, length}
use Rattle.std.proofs.Common.{refl, sym, ◌∙◌, subst, arith}
use Rattle.std.specs.Prelude.{nat_le, slice_get}
use Rattle.exo_tree.specs.Tree.{Index, Binder, Control, Lit, For, Block, Procedure}
use Rattle.exo_tree.specs.Context.{fill}
use Rattle.exo_tree.specs.Renaming.{fresh}
use Rattle.exo_tree.specs.Renaming as code
use Rattle.exo_tree.specs.Substitution.{in_block as substituted}
use Rattle.exo_meaning.specs.Orders.{Each}
use Rattle.exo_meaning.specs.Run.{callees, kinds_of, unit_world, world_of}
use Rattle.exo_meaning.specs.Units.{field_kind}
use Rattle.exo_meaning.specs.Unseen.{in_control, in_statement, in_block as mentions}
use Rattle.exo_meaning.proofs.Frame.{or_parts}
use Rattle.meaning_laws.specs.Scoped.{has_binder}
use Rattle.meaning_laws.specs.Sound.{IsUnbound}
use Rattle.meaning_laws.proofs.Facts.{or_left, or_right}
use Rattle.meaning_laws.proofs.Scoped.{or_elim}
use Rattle.meaning_laws.specs.FreshCopies.{is_given, copies_from}
use Rattle.meaning_laws.specs.FreshCopies.{IsMadeOf, IsBelow}
use Rattle.place_laws.specs.Scope.Opened.{IsNew}
use Rattle.place_laws.specs.Scope.Scopes.{top_binders, joined_all}
use Rattle.place_laws.specs.Scope.UnrollLoop.{MadeCopiesAreCopies, UnrollLaw, bodies_of, only_loop}
use Rattle.place_laws.specs.Scope.Unrolled.{AreCopies}
use Rattle.meaning_laws.proofs.FreshCopies.{copies_run_alike}
use Rattle.meaning_laws.proofs.CopiesAtPlaces.{no_param, no_binder, old_is_made}
use Rattle.place_laws.proofs.OfScope.MadeCopies.{given_from}
use Rattle.meaning_laws.proofs.CopiesAtPlaces.{substituted_is_made, places_may_copy_all}
use Rattle.place_laws.proofs.OfScope.MadeCopies.{copy_leaves, made_copies_are_apart}
use Rattle.place_laws.proofs.OfScope.MayLeave.{may_leave_law}
use Rattle.place_laws.proofs.OfScope.MadeCopies.{true_by}
use Rattle.place_laws.proofs.OfScope.Opened.{leaving_refines}
use Rattle.place_laws.proofs.OfScope.Scopes.{joined_binders}
use Rattle.place_laws.proofs.OfScope.Unrolled.{copies_may_stand}

-- ---- copies for the turns

pub made_copies_are_copies : MadeCopiesAreCopies
made_copies_are_copies i b [] first s may = tt
made_copies_are_copies i b (n ∷ ns) first s may =
    let d = substituted i (Lit n) b in
    let alike = copies_run_alike (world_of (λ f. Index) []) first d s may.0 in (
      record { to = alike.ids; moves = alike.moves; is = alike.is_copy },
      made_copies_are_copies i b ns (first + length (code.binders d)) s may.1,
    )

-- they leave new numbers alone
copies_leave :
    (ds : List Block) (m x : ℕ)
    → top_binders (joined_all (copies_from m ds)) x ≡ true
    → m ≤ x
copies_leave [] m x h = absurd (true≢false (sym h))
copies_leave (d ∷ ds) m x h =
    let k = length (code.binders d) in
    let rest = joined_all (copies_from (m + k) ds) in
    or_elim (top_binders (fresh m d) x) (top_binders rest x)
    (sym (joined_binders (fresh m d) rest x) ∙ h) own
    (λ e. behind k (copies_leave ds (m + k) x e))
  where
    own : top_binders (fresh m d) x ≡ true → m ≤ x
    own e =
        given_from m (length (code.binders d)) x
        (true_by (is_given m d x) (λ k. true≢false (sym e ∙ copy_leaves m d x k)))

    behind : (k : ℕ) → m + k ≤ x → m ≤ x
    behind k above = omega arith

-- ---- what they are made of

module _ (first : ℕ) (i : Binder) (lo hi : Control) (b : Block) where
  body_is_made : IsMadeOf first (only_loop i lo hi b) (only_loop i lo hi b)
      → IsMadeOf first (only_loop i lo hi b) b
  body_is_made made =
      let hidden = nat_le first in
      let loop = or_parts (in_statement hidden (For i lo hi b)) false made.low in
      let p = or_parts (hidden i.id) (in_control hidden lo || (in_control hidden hi
      || mentions hidden b)) loop.0 in
      let q = or_parts (in_control hidden lo) (in_control hidden hi || mentions hidden b) p.1 in
      record {
        own = λ x h. or_left ((x == i.id) || has_binder b x) false
            (or_right (x == i.id) (has_binder b x) h);
        low = (or_parts (in_control hidden hi) (mentions hidden b) q.1).1;
      }

  bodies_are_made :
      (ns : List ℤ)
      → IsMadeOf first (only_loop i lo hi b) b
      → Each (IsMadeOf first (only_loop i lo hi b)) (bodies_of i.id b ns)
  bodies_are_made [] made = tt
  bodies_are_made (n ∷ ns) made = (
    substituted_is_made first (only_loop i lo hi b) b i.id (Lit n) made refl,
    bodies_are_made ns made,
  )

-- ---- the loop at its place

module _ (first : ℕ) (p : Procedure) (below : IsBelow first p) where
  copies_are_new :
      (ds : List Block) (x : ℕ)
      → top_binders (joined_all (copies_from first ds)) x ≡ true
      → IsNew p x
  copies_are_new ds x h =
      let from = copies_leave ds first x h in
      (no_param first p below.below x from, no_binder first p below.below x from)

pub unroll_law : UnrollLaw
unroll_law fields memories ps p c i lo hi b ns first may was below free turns =
    let world = unit_world (kinds_of fields) ps in
    let old = only_loop i lo hi b in
    let ds = bodies_of i.id b ns in
    let bs = copies_from first ds in
    let hidden = top_binders (joined_all bs) in
    let made = bodies_are_made first i lo hi b ns
    (body_is_made first i lo hi b (old_is_made p c old first below was)) in
    let left = may_leave_law (field_kind fields) memories
    (slice_get (callees (kinds_of fields) [] ps)) p c old hidden may.procedure was
    (λ x h. inl (copies_are_new first p below ds x h)) in
    leaving_refines (kinds_of fields) ps c old (joined_all bs) p
    (record p { body = fill c (joined_all bs) }) hidden was refl left (λ s u good come none.
    copies_may_stand world i lo hi b bs u (made_copies_are_apart old ds first made) none free
    (subst (λ l. AreCopies (IsUnbound u) i.id b l bs) (sym (turns s u good come))
    (made_copies_are_copies i.id b ns first u
    (places_may_copy_all world p c old ds first u below
    (record { body = was; first = s; good = good; comes = come }) made))))
