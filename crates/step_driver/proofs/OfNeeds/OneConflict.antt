-- What one conflict owes, and why it is refused.
use Rattle.std.proofs.Common.{◌≡◌, Bool, List, map, None, Result, Ok, Err, Vec, sym, ap, ap₂, subst}
use Rattle.std.specs.Prelude.{option_map}
use Rattle.std.specs.Result.{IsErrAnd}
use Rattle.exo_tree.specs.Places.{Path}
use Rattle.affine_forms.specs.declared.error.FormError.{FormError}
use Rattle.affine_forms.specs.declared.error.FormError.TheVariants as form
use Rattle.affine_forms.specs.Formulas.{Formula}
use Rattle.affine_systems.specs.Outcomes.{Owed, plain_obligation}
use Rattle.affine_systems.specs.declared.obligation.Obligation.{Obligation}
use Rattle.check_facts.specs.Contexts.{context_of, context_fits}
use Rattle.exo_effects.specs.Accesses.{accesses_of}
use Rattle.exo_effects.specs.Conflicts.{Listing, conflicts_of}
use Rattle.exo_effects.specs.Orders.{order_of}
use Rattle.effect_conflicts.specs.Outcomes.{IsListed, IsFault}
use Rattle.effect_laws.specs.Apart.{Conflict, conflict_listing}
use Rattle.cursor_forward.specs.Causes.{WideNumber, TooManyCases, SystemTooLarge, TooManySystems, Form}
use Rattle.cursor_forward.specs.PlainProposal.{fault_of, cause_of}
use Rattle.cursor_forward.specs.declared.proposal.StepError.{StepError}
use Rattle.step_rules.specs.Rule.{Target, Apart}
use Rattle.step_rules.specs.Owing.{owed_for, need_fault, listed, listing_fault}
use Rattle.step_driver.specs.Needs.Outcomes.{IsCause}
use Rattle.step_driver.specs.Needs.Conflicts.{listing_at}
use Rattle.step_driver.specs.Needs.Owing.{Puts}
use Rattle.step_driver.proofs.OfNeeds.OneNeed.{why, faulty, refused_by}

-- ---- what the call on conflicts answers

-- for want of memory there is no list
pub unlisted : {A : Type 0} (r : Result (Vec Obligation A) FormError) (l : Listing)
    → IsErrAnd r (λ e. e ≡ form.Memory) → IsListed r l
unlisted (Ok os) l is = absurd is
unlisted (Err e) l is = subst (λ (y : FormError). IsFault y l) (sym is) tt

-- ---- one conflict

module _ (t : Target) (path : Path) (k : Conflict) where
  abbrev pub listing : Listing
  listing = conflict_listing t.unit t.proc path k

  -- the list is refused
  pub refused_conflicts : (old : List Owed) {X : Type 0} (result : Result X StepError) (new : List Owed)
      (e : FormError) → IsErrAnd result (λ r. cause_of r ≡ option_map Form (fault_of e))
      → IsListed {A = Unit {0}} (Err e) listing → Puts result t (Apart path k) old new
  refused_conflicts old result new e is w =
      refused_by t (Apart path k) old result new (option_map Form (fault_of e)) is (by e w)
    where
      by : (y : FormError) → IsListed {A = Unit {0}} (Err y) listing
          → IsCause (why t (Apart path k) old) (option_map Form (fault_of y))
      by form.TooManyCases v = faulty t (Apart path k) old TooManyCases (ap listing_fault v)
      by form.SystemTooLarge v = faulty t (Apart path k) old SystemTooLarge (ap listing_fault v)
      by form.WideNumber v = faulty t (Apart path k) old WideNumber (ap listing_fault v)
      by form.TooManySystems v = faulty t (Apart path k) old TooManySystems (ap listing_fault v)
      by form.Memory v = tt

  -- or it is what is owed
  pub conflicts_owed : {A : Type 0} (os : Vec Obligation A) → IsListed (Ok os) listing
      → (need_fault t (Apart path k) ≡ None) × (map plain_obligation os.items ≡ owed_for t (Apart path k))
  conflicts_owed os w = (ap listing_fault w, ap listed (sym w))

-- the context may be that of another path that leads to the place
pub listing_there : (t : Target) (k : Conflict) (place path : Path)
    → context_of t.unit t.proc place ≡ context_of t.unit t.proc path
    → context_fits t.unit t.proc place ≡ context_fits t.unit t.proc path → (P : Listing → Type 0)
    → P (listing_at t k place (order_of k.first.loops k.second.loops k.order) path)
    → P (conflict_listing t.unit t.proc path k)
listing_there t k place path e f P h =
    let order = order_of k.first.loops k.second.loops k.order in
    let listing : Bool → List Formula → Listing =
    λ fits ctx. conflicts_of fits ctx order path (accesses_of t.unit t.proc k.first.path k.first.count)
    (accesses_of t.unit t.proc k.second.path k.second.count) in
    subst P (ap₂ listing f e) h
