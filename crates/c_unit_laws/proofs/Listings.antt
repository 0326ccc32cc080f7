-- What a file prints is a listing.
use Rattle.std.proofs.Common.{◌≡◌, ◌<◌, ◌+◌, ℕ, zero, suc, Bool, true, false, ◌&&◌, ◌||◌, cond, List, [], ◌∷◌, length, Option, Some, None, refl, sym, ap, ◌∙◌, subst, arith, true≢false, eq-eqb, slice_get}
use Rattle.std.proofs.lemmas.Bool.{and_parts, and_from}
use Rattle.exo_tree.specs.Tree.{Procedure}
use Rattle.exo_tree.specs.Calls.{calls}
use Rattle.exo_modes.specs.Calls.Closed.{closed}
use Rattle.exo_modes.specs.Calls.Passed.{is_function}
use Rattle.exo_modes.proofs.OfCalls.Reach.{seeds_are_closed, closed_is_closed}
use Rattle.c_lowering.specs.Made.LoweredUnit.{Printing, is_listed}
use Rattle.c_unit_laws.specs.Listings.{printings_from, printings, PrintingsAreListings, EmittedArePrinted}
use Rattle.c_unit_laws.proofs.Standing.{none_some, some_same, calls_before}

no_template : (o : Option (List ℕ)) → elim o [ None ↦ true | Some text ↦ false ] ≡ true → o ≡ None
no_template None h = refl
no_template (Some text) h = absurd (true≢false (sym h))

is_one : (p : Procedure) → p.template ≡ None → is_function p ≡ true
is_one p h = ap (λ o. elim o [ None ↦ true | Some text ↦ false ]) h

-- what an entry is
pub record Entry (reached : ℕ → Bool) (print : ℕ → Printing) (k : ℕ) (ps : List Procedure) (w : Printing) : Type 0 where
  pub behind : ℕ
  pub procedure : Procedure
  pub at : slice_get ps behind ≡ Some procedure
  pub is : w ≡ print (k + behind)
  pub reach : reached (k + behind) ≡ true
  pub function : procedure.template ≡ None

module _ (reached : ℕ → Bool) (print : ℕ → Printing) (numbered : (k : ℕ) → (print k).proc ≡ k) where
  -- one of later procedures
  one_later : (k : ℕ) (q : Procedure) (ps : List Procedure) (w : Printing) → Entry reached print (suc k) ps w → Entry reached print k (q ∷ ps) w
  one_later k q ps w e =
      let more : suc k + e.behind ≡ k + suc e.behind = omega arith in
      record { behind = suc e.behind; procedure = e.procedure; at = e.at; is = e.is ∙ ap print more; reach = ap reached (sym more) ∙ e.reach; function = e.function }

  entry : (k : ℕ) (ps : List Procedure) (i : ℕ) (w : Printing) → slice_get (printings_from reached print k ps) i ≡ Some w → Entry reached print k ps w
  entry k [] zero w e = absurd (none_some e)
  entry k [] (suc i) w e = absurd (none_some e)
  entry k (p ∷ ps) i w e = go (entry (suc k) ps) (reached k && is_function p) refl i e
    where
      go : ((j : ℕ) (v : Printing) → slice_get (printings_from reached print (suc k) ps) j ≡ Some v → Entry reached print (suc k) ps v) → (t : Bool) → (reached k && is_function p) ≡ t → (j : ℕ) → slice_get (cond t (print k ∷ printings_from reached print (suc k) ps) (printings_from reached print (suc k) ps)) j ≡ Some w → Entry reached print k (p ∷ ps) w
      go rest true h zero f =
          let own : k ≡ k + zero = omega arith in
          let q = and_parts (reached k) (is_function p) h in
          record { behind = zero; procedure = p; at = refl; is = sym (some_same f) ∙ ap print own; reach = ap reached (sym own) ∙ q.0; function = no_template p.template q.1 }
      go rest true h (suc j) f = one_later k p ps w (rest j w f)
      go rest false h j f = one_later k p ps w (rest j w f)

  number_of : (k : ℕ) (ps : List Procedure) (w : Printing) → (e : Entry reached print k ps w) → w.proc ≡ k + e.behind
  number_of k ps w e = ap (λ z. z.proc) e.is ∙ numbered (k + e.behind)

  ascending : (k : ℕ) (ps : List Procedure) (i j : ℕ) (w v : Printing) → slice_get (printings_from reached print k ps) i ≡ Some w → slice_get (printings_from reached print k ps) j ≡ Some v → i < j → w.proc < v.proc
  ascending k [] zero j w v e f h = absurd (none_some e)
  ascending k [] (suc i) j w v e f h = absurd (none_some e)
  ascending k (p ∷ ps) i j w v e f h = go (ascending (suc k) ps) (reached k && is_function p) i j e f h
    where
      go : ((l m : ℕ) (x y : Printing) → slice_get (printings_from reached print (suc k) ps) l ≡ Some x → slice_get (printings_from reached print (suc k) ps) m ≡ Some y → l < m → x.proc < y.proc) → (t : Bool) (l m : ℕ) → slice_get (cond t (print k ∷ printings_from reached print (suc k) ps) (printings_from reached print (suc k) ps)) l ≡ Some w → slice_get (cond t (print k ∷ printings_from reached print (suc k) ps) (printings_from reached print (suc k) ps)) m ≡ Some v → l < m → w.proc < v.proc
      go rest true zero zero a b c = absurd (omega (arith, c))
      go rest true zero (suc m) a b c =
          let d = entry (suc k) ps m v b in
          let own = ap (λ z. z.proc) (sym (some_same a)) ∙ numbered k in
          let other = number_of (suc k) ps v d in
          omega (arith, own, other)
      go rest true (suc l) zero a b c = absurd (omega (arith, c))
      go rest true (suc l) (suc m) a b c = rest l m w v a b (omega (arith, c))
      go rest false l m a b c = rest l m w v a b c

  listed : (k : ℕ) (ps : List Procedure) (i : ℕ) (q : Procedure) → slice_get ps i ≡ Some q → reached (k + i) ≡ true → q.template ≡ None → is_listed (printings_from reached print k ps) (k + i) ≡ true
  listed k [] zero q e r t = absurd (none_some e)
  listed k [] (suc i) q e r t = absurd (none_some e)
  listed k (p ∷ ps) zero q e r t =
      let own : k + zero ≡ k = omega arith in
      let both = and_from (reached k) (is_function p) (ap reached (sym own) ∙ r) (ap is_function (some_same e) ∙ is_one q t) in
      ap (λ b. is_listed (cond b (print k ∷ printings_from reached print (suc k) ps) (printings_from reached print (suc k) ps)) (k + zero)) both
      ∙ ap (λ b. b || is_listed (printings_from reached print (suc k) ps) (k + zero)) (eq-eqb (k + zero) (print k).proc (own ∙ sym (numbered k)))
  listed k (p ∷ ps) (suc i) q e r t =
      let more : suc k + i ≡ k + suc i = omega arith in
      go (reached k && is_function p) (subst (λ n. is_listed (printings_from reached print (suc k) ps) n ≡ true) more (listed (suc k) ps i q e (ap reached more ∙ r) t))
    where
      late : (a b : Bool) → b ≡ true → (a || b) ≡ true
      late true b h = refl
      late false b h = h

      go : (b : Bool) → is_listed (printings_from reached print (suc k) ps) (k + suc i) ≡ true → is_listed (cond b (print k ∷ printings_from reached print (suc k) ps) (printings_from reached print (suc k) ps)) (k + suc i) ≡ true
      go true h = late _ _ h
      go false h = h

pub printings_are_listings : PrintingsAreListings
printings_are_listings program emitted print numbered unit = record { there = there; ascends = ascending (closed is_function emitted 0 program.procedures) print numbered 0 program.procedures; closed = shut }
  where
    there : (i : ℕ) (w : Printing) → slice_get (printings program emitted print) i ≡ Some w → (p : Procedure) × (slice_get program.procedures w.proc ≡ Some p) × (p.template ≡ None)
    there i w e =
        let d = entry (closed is_function emitted 0 program.procedures) print numbered 0 program.procedures i w e in
        let n = number_of (closed is_function emitted 0 program.procedures) print numbered 0 program.procedures w d in
        let own : 0 + d.behind ≡ d.behind = omega arith in
        (d.procedure, ap (slice_get program.procedures) (n ∙ own) ∙ d.at, d.function)

    shut : (i j : ℕ) (w : Printing) (p q : Procedure) → slice_get (printings program emitted print) i ≡ Some w → slice_get program.procedures w.proc ≡ Some p → slice_get program.procedures j ≡ Some q → calls j p.body ≡ true → q.template ≡ None → is_listed (printings program emitted print) j ≡ true
    shut i j w p q e at_p at_q u t =
        let all = closed is_function emitted 0 program.procedures in
        let d = entry all print numbered 0 program.procedures i w e in
        let n = number_of all print numbered 0 program.procedures w d in
        let own : 0 + d.behind ≡ d.behind = omega arith in
        let first : 0 + j ≡ j = omega arith in
        let same : d.procedure ≡ p = some_same (sym d.at ∙ (ap (slice_get program.procedures) (sym (n ∙ own)) ∙ at_p)) in
        let r = closed_is_closed is_function emitted program.procedures w.proc j p (λ l m z f c. calls_before program.fields (length program.memories) program.procedures l m z unit.procedures f c) at_p (ap all n ∙ d.reach) (is_one p (ap (λ z. z.template) (sym same) ∙ d.function)) u in
        subst (λ m. is_listed (printings program emitted print) m ≡ true) first (listed all print numbered 0 program.procedures j q at_q (ap all first ∙ r) t)

pub emitted_are_printed : EmittedArePrinted
emitted_are_printed program emitted print k p numbered at t h =
    let all = closed is_function emitted 0 program.procedures in
    let own : 0 + k ≡ k = omega arith in
    subst (λ m. is_listed (printings program emitted print) m ≡ true) own (listed all print numbered 0 program.procedures k p at (ap all own ∙ seeds_are_closed is_function emitted program.procedures k h) t)
