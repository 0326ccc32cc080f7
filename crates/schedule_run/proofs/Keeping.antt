-- What a schedule leaves of a unit keeps what holds of versions, and comes of the unit's procedures.
use Rattle.std.proofs.Common.{◌≡◌, ◌==◌, ◌≤◌, ◌<◌, ◌+◌, ℕ, zero, suc, Bool, true, false, ◌||◌, List}
use Rattle.std.proofs.Common.{[], ◌∷◌, map, length, Option, Some, None, refl, sym, ap, ◌∙◌, subst}
use Rattle.std.proofs.Common.{arith, add-one, eq-eqb, ◌⊎◌, inl, inr}
use Rattle.std.specs.Prelude.{slice_get, nat_lt}
use Rattle.exo_tree.specs.Tree.{Procedure, Program}
use Rattle.config_laws.specs.Differing.{Origin, parent_in, from_parent, descends}
use Rattle.schedule_text.specs.Tree as tree
use Rattle.schedule_calls.specs.Requests.{Request}
use Rattle.schedule_laws.specs.Versions.Versions.{Versions, started}
use Rattle.schedule_laws.specs.Versions.Places.{parent_at}
use Rattle.schedule_laws.specs.Versions.Lines.{Act, Went, performed, Outcome, Done}
use Rattle.schedule_laws.specs.Versions.Lines.{run_from, behind}
use Rattle.schedule_laws.specs.Versions.Laws.{AreDerived, HasRoom, VersionsRefine, VersionsKeepHeads}
use Rattle.schedule_laws.specs.Operators.Operators.{act_of}
use Rattle.schedule_laws.specs.Operators.Laws.{SchedulesDerive}
use Rattle.schedule_run.specs.Runs.{IsAct, asked, unknown, bad, LinesRun, ends, stops, goes}
use Rattle.schedule_run.specs.Roots.{root_in}
use Rattle.schedule_run.specs.Laws.{AreVersionsOf, SchedulesKeep}
use Rattle.schedule_run.proofs.Once.{refused_went}
use Rattle.schedule_run.proofs.Growing.{IsGrown, started_is_grown, stopped_done, lines_grow}

-- ---- what lines that are done ask for

of_request : (line : tree.Line) (a : Act) → IsAct line a → (v w : Versions) → performed v a ≡ Went w
    → (r : Request) × (a ≡ act_of r)
of_request _ _ (asked line r h) v w e = (r, refl)
of_request _ _ (unknown line h) v w e = absurd (refused_went e)
of_request _ _ (bad line i h) v w e = absurd (refused_went e)

record Requested (k : ℕ) (lines : List tree.Line) (v w : Versions) : Type 0 where
  pub requests : List Request
  pub count : length requests ≡ length lines
  pub ran : run_from k (map act_of requests) v ≡ Done w

requested : (k : ℕ) (lines : List tree.Line) (v : Versions) (end : Outcome) (w : Versions)
    → LinesRun k lines v end → end ≡ Done w → Requested k lines v w
requested _ _ _ _ w (ends k v) e = record { requests = []; count = refl; ran = e }
requested _ _ _ _ w (stops k line more v a why is h) e = absurd (stopped_done e)
requested _ _ _ _ w (goes k line more v u a end is h rest) e =
    let r = of_request line a is v u h in
    let up = requested (suc k) more u end w rest e in
    record {
      requests = r.0 ∷ up.requests;
      count = ap suc up.count;
      ran =
          ap (behind k (run_from (k + 1) (map act_of up.requests)))
          (sym (ap (performed v) r.1) ∙ h)
          ∙ ap (λ n. run_from n (map act_of up.requests) u) (add-one k)
          ∙ up.ran;
    }

-- ---- of which procedure of the text a version comes

or_true : (b c : Bool) → c ≡ true → (b || c) ≡ true
or_true true c h = refl
or_true false c h = h

true_or : (b c : Bool) → b ≡ true → (b || c) ≡ true
true_or true c h = refl
true_or false c h = absurd (no h)
  where
    no : false ≡ true → ⊥
    no h = cc

absent : (ps : List Procedure) (k : ℕ) → k < length ps → slice_get ps k ≡ None → ⊥
absent [] k h e = none k h
  where
    none : (k : ℕ) → k < 0 → ⊥
    none k h = omega arith
absent (p ∷ ps) zero h e = cc
absent (p ∷ ps) (suc k) h e = absent ps k (less h) e
  where
    less : suc k < suc (length ps) → k < length ps
    less h = omega arith

side : (k n : ℕ) → (k < n) ⊎ (n ≤ k)
side k n = by (nat_lt k n) refl
  where
    by : (b : Bool) → nat_lt k n ≡ b → (k < n) ⊎ (n ≤ k)
    by true e = inl (grind arith)
    by false e = inr (grind arith)

module _ (unit : Program) (w : Versions) (g : IsGrown unit w) (d : AreDerived w) where
  abbrev os : List Origin
  os = w.origins

  record IsRoot (n k root : ℕ) : Type 0 where
    pub in_text : root < length unit.procedures
    pub descends : descends [] os root n k ≡ true

  not_there : (k : ℕ) → k < length w.unit.procedures → slice_get w.unit.procedures k ≡ None → ⊥
  not_there k h e = absent w.unit.procedures k h e

  above : (k j : ℕ) → k < length w.unit.procedures → parent_at w k ≡ Some j → j < k
  above k j h e = there (slice_get w.unit.procedures k) refl
    where
      there : (o : Option Procedure) → slice_get w.unit.procedures k ≡ o → j < k
      there (Some q) i = (d.made j k q e i).2.before
      there None i = absurd (not_there k h i)

  -- a procedure of the text is its own root
  itself : (n k : ℕ) → k < length unit.procedures → IsRoot n k (root_in w n k)
  itself zero k h = record { in_text = h; descends = eq-eqb k k refl }
  itself (suc n) k h =
      let same : root_in w (suc n) k ≡ k = ap (λ o. from_parent k o (root_in w n)) (g.in_text k h) in
      subst (IsRoot (suc n) k) (sym same)
      (record {
        in_text = h;
        descends = true_or (k == k) (from_parent false (parent_in os k) (descends [] os k n))
            (eq-eqb k k refl);
      })

  below : (k n j : ℕ) → k ≤ suc n → j < k → j ≤ n
  below k n j h i = omega (arith, h, i)

  lower : (k j m : ℕ) → j < k → k < m → j < m
  lower k j m h i = omega (arith, h, i)

  none_below : (k j : ℕ) → k ≤ 0 → j < k → ⊥
  none_below k j h i = omega (arith, h, i)

  rooted : (n k : ℕ) → k ≤ n → k < length w.unit.procedures → IsRoot n k (root_in w n k)
  rooted zero k h there = by (side k (length unit.procedures))
    where
      by : (k < length unit.procedures) ⊎ (length unit.procedures ≤ k) → IsRoot zero k k
      by (inl less) = itself zero k less
      by (inr past) =
          let up = g.of_step k past there in absurd (none_below k up.0 h (above k up.0 there up.1))
  rooted (suc n) k h there = by (side k (length unit.procedures)) (λ j. rooted n j)
    where
      by : (k < length unit.procedures) ⊎ (length unit.procedures ≤ k)
          → ((j : ℕ) → j ≤ n → j < length w.unit.procedures → IsRoot n j (root_in w n j))
          → IsRoot (suc n) k (root_in w (suc n) k)
      by (inl less) on = itself (suc n) k less
      by (inr past) on =
          let up = g.of_step k past there in
          let j = up.0 in
          let less = above k j there up.1 in
          let r = on j (below k n j h less) (lower k j (length w.unit.procedures) less there) in
          let same : root_in w (suc n) k ≡ root_in w n j =
          ap (λ o. from_parent k o (root_in w n)) up.1 in
          subst (IsRoot (suc n) k) (sym same)
          (record {
            in_text = r.in_text;
            descends = or_true (k == root_in w n j)
                (from_parent false (parent_in os k) (descends [] os (root_in w n j) n))
                (ap (λ o. from_parent false o (descends [] os (root_in w n j) n))
                up.1 ∙ r.descends);
          })

  pub are_versions : AreVersionsOf unit w
  are_versions = record {
    fields = g.fields;
    memories = g.memories;
    made = g.made;
    grown = g.grown;
    in_text = g.in_text;
    root = λ k h. (rooted k k (itself_below k) h).in_text;
    from_root = λ k h. (rooted k k (itself_below k) h).descends;
  }
    where
      itself_below : (k : ℕ) → k ≤ k
      itself_below k = omega arith

pub schedules_keep : SchedulesDerive → VersionsRefine → VersionsKeepHeads → SchedulesKeep
schedules_keep derive refine heads unit shown lines w is =
    let r = requested 0 lines (started unit shown) (Done w) w is.ran refl in
    let derived : AreDerived w = derive unit shown r.requests w is.formed is.quiet
    (subst (HasRoom (started unit shown)) (sym r.count) is.room) r.ran in
    let grown = lines_grow unit 0 lines (started unit shown) (Done w) w is.ran refl
    (started_is_grown unit shown) in
    record {
      derived = derived;
      versions = are_versions unit w grown derived;
      heads = λ from k p q i. heads w from k p q derived i.descends i.old i.new;
      refines = λ from k p q i. refine w from k p q derived i.descends i.old i.new;
    }
