-- The rule that puts a call in the place of a matched block is lawful.
use Rattle.std.proofs.Common.{◌≡◌, ℕ, zero, ◌+◌, Bool, true, false, ◌&&◌, List, [], ◌∷◌, ◌++◌, map, length}
use Rattle.std.proofs.Common.{Option, Some, None, if◌then◌else◌, nat_lt, refl, sym, ap, ap₂, ◌∙◌, subst}
use Rattle.std.proofs.Common.{arith}
use Rattle.std.specs.Prelude.{slice_get}
use Rattle.std.specs.List.{list_all}
use Rattle.exo_tree.specs.Tree.{Argument, Param, Call, Block, end, next, joined, Procedure}
use Rattle.exo_tree.specs.Context.{Context, Here, After, InLoop, InThen, InElse, fill, rest_of}
use Rattle.exo_tree.specs.Places.{Opened, opened}
use Rattle.exo_tree.specs.Renaming.{binders, binders_below}
use Rattle.exo_meaning.specs.Units.{field_kind}
use Rattle.exo_meaning.specs.Unseen.{in_block as mentions}
use Rattle.meaning_laws.specs.Scoped.{has_binder}
use Rattle.affine_forms.specs.Forms.{Reading}
use Rattle.affine_forms.proofs.Values.{and_parts, some_injective}
use Rattle.affine_places.specs.Roots.{has_extents}
use Rattle.affine_places.specs.Readings.{entry_reading}
use Rattle.affine_places.proofs.WellFormed.{well_formed_is_affine}
use Rattle.cursor_forward.specs.Causes as causes
use Rattle.cursor_forward.specs.Causes.{Cause, WrongShape, SharedArgument, WideNumber, Form}
use Rattle.tree_edits.specs.Made.Names.{named_copies}
use Rattle.tree_edits.specs.Made.Passes.{or_pass}
use Rattle.match_laws.specs.Names.{names_of}
use Rattle.match_laws.specs.Matched.{Arguments, NoMatch, Undetermined, matched}
use Rattle.match_laws.specs.Widths.{InWidth, Said, TooWide, matched_in_width}
use Rattle.match_laws.proofs.Widths.{width_law}
use Rattle.step_rules.specs.Rule.{Tried, Got, Not, Target, Piece, Spot}
use Rattle.step_rules.specs.Answer.{then_try, opened_or_wrong}
use Rattle.step_rules.specs.Lawful.{MayRunIn, callees_for, around, old, with_body, with_block, Site, IsSite}
use Rattle.step_rules.specs.Lawful.{Replaces, whole, IsLawful, IsCarrying, fields_at_exit}
use Rattle.step_rules.proofs.Proposals.{then_got}
use Rattle.step_rules.proofs.Shapes.{or_pass_next}
use Rattle.call_laws.proofs.OfCalls.OfNames.Copies.{bodies_without_copies}
use Rattle.call_laws.specs.Places.{reading_in}
use Rattle.call_laws.specs.Simplify.{reading_of}
use Rattle.call_laws.specs.Replace.Rule.{is_used_after, hands_wholes, may_share}
use Rattle.call_laws.specs.Replace.Rule.{told, told_there, said, param_name, replace_rule}
use Rattle.call_laws.proofs.Simplify.{rooted_is}
use Rattle.call_laws.proofs.OfReplace.Site.{call_refines}
use Rattle.check_claims.specs.Arguments.{passed_for}

-- ---- what was found

got_same : {T : Type 0} (x y : T) → Got x ≡ Got y → x ≡ y
got_same x y h = cc

no_got : {T : Type 0} {P : Type 0} (cause : Cause) (x : T) → Not cause ≡ Got x → P
no_got cause x h = absurd (never h)
  where
    never : Not cause ≡ Got x → ⊥
    never h = cc

opened_got : (o : Option Opened) (x : Opened) → opened_or_wrong o ≡ Got x → o ≡ Some x
opened_got None x h = cc
opened_got (Some y) x h = cc

got_unless : {T : Type 0} (t : Bool) (cause : Cause) (rest : Tried T) (y : T)
    → (if t then Not cause else rest) ≡ Got y → (t ≡ false) × (rest ≡ Got y)
got_unless true cause rest y h = no_got cause y h
got_unless false cause rest y h = (refl, h)

got_if : {T : Type 0} (t : Bool) (cause : Cause) (x y : T) → (if t then Got x else Not cause) ≡ Got y
    → x ≡ y
got_if true cause x y h = got_same x y h
got_if false cause x y h = no_got cause y h

record IsSaid (k : ℕ) (t : Target) (o : Opened) (args : List Argument) : Type 0 where
  callee : Procedure
  there : slice_get t.unit.procedures k ≡ Some callee
  found : matched (reading_of t) (names_of t.proc) o.piece callee ≡ Arguments args
  plain : hands_wholes (passed_for callee.params args) callee.body o.piece ≡ false

is_said : (k : ℕ) (t : Target) (o : Opened) (args : List Argument) → said k t o ≡ Got args
    → IsSaid k t o args
is_said k t o args h = outer (slice_get t.unit.procedures k) refl h
  where
    inner : (q : Procedure) → slice_get t.unit.procedures k ≡ Some q → (w : InWidth)
        → matched_in_width (reading_of t) (names_of t.proc) o.piece q ≡ w → told t o k q w ≡ Got args
        → IsSaid k t o args
    inner q e TooWide f g = no_got (Form WideNumber) args g
    inner q e (Said (NoMatch path)) f g = no_got (causes.NoMatch path) args g
    inner q e (Said (Undetermined x)) f g = no_got (causes.Undetermined (param_name q.params x)) args g
    inner q e (Said (Arguments those)) f g =
        let rest = (if may_share t o k q those then Got those else Not SharedArgument) in
        let u = got_unless (hands_wholes (passed_for q.params those) q.body o.piece) WrongShape rest args g in
        let same : those ≡ args = got_if (may_share t o k q those) SharedArgument those args u.1 in
        record {
          callee = q;
          there = e;
          found = width_law (reading_of t) (names_of t.proc) o.piece q (Arguments those) f
              ∙ ap (λ z. Arguments z) same;
          plain = subst (λ z. hands_wholes (passed_for q.params z) q.body o.piece ≡ false) same u.0;
        }

    outer : (u : Option Procedure) → slice_get t.unit.procedures k ≡ u
        → (elim u as (λ u. Tried (List Argument)) [
          | None ↦ Not WrongShape
          | Some q ↦ told_there t o k q
        ]) ≡ Got args
        → IsSaid k t o args
    outer None e g = no_got WrongShape args g
    outer (Some q) e g =
        inner q e (matched_in_width (reading_of t) (names_of t.proc) o.piece q) refl g

-- ---- ids of a body with another block in the hole

module _ (f : ℕ → Bool) where
  all_left : (xs ys : List ℕ) → list_all f (xs ++ ys) ≡ true → list_all f xs ≡ true
  all_left [] ys h = refl
  all_left (x ∷ xs) ys h =
      let p = and_parts (f x) (list_all f (xs ++ ys)) h in ap₂ ◌&&◌ p.0 (all_left xs ys p.1)

  all_right : (xs ys : List ℕ) → list_all f (xs ++ ys) ≡ true → list_all f ys ≡ true
  all_right [] ys h = h
  all_right (x ∷ xs) ys h = all_right xs ys (and_parts (f x) (list_all f (xs ++ ys)) h).1

  all_both : (xs ys : List ℕ) → list_all f xs ≡ true → list_all f ys ≡ true
      → list_all f (xs ++ ys) ≡ true
  all_both [] ys h k = k
  all_both (x ∷ xs) ys h k =
      let p = and_parts (f x) (list_all f xs) h in ap₂ ◌&&◌ p.0 (all_both xs ys p.1 k)

  joined_behind : (b c : Block) → list_all f (binders (joined b c)) ≡ true
      → list_all f (binders c) ≡ true
  joined_behind end c h = h
  joined_behind (next a b) c h =
      joined_behind b c (all_right (binders_below a) (binders (joined b c)) h)

  -- a call binds nothing
  with_call : (c : Context) (b : Block) (k : ℕ) (args : List Argument)
      → list_all f (binders (fill c b)) ≡ true
      → list_all f (binders (fill c (next (Call k args) end))) ≡ true
  with_call (Here rest) b k args h = joined_behind b rest h
  with_call (After a c) b k args h =
      all_both (binders_below a) (binders (fill c (next (Call k args) end)))
      (all_left (binders_below a) (binders (fill c b)) h)
      (with_call c b k args (all_right (binders_below a) (binders (fill c b)) h))
  with_call (InLoop i lo hi c rest) b k args h =
      let p = and_parts (f i.id) (list_all f (binders (fill c b) ++ binders rest)) h in
      ap₂ ◌&&◌ p.0 (all_both (binders (fill c (next (Call k args) end))) (binders rest)
      (with_call c b k args (all_left (binders (fill c b)) (binders rest) p.1))
      (all_right (binders (fill c b)) (binders rest) p.1))
  with_call (InThen t c other rest) b k args h =
      let new = binders (fill c (next (Call k args) end)) in
      let p = all_left (binders (fill c b) ++ binders other) (binders rest) h in
      all_both (new ++ binders other) (binders rest)
      (all_both new (binders other) (with_call c b k args (all_left (binders (fill c b)) (binders other) p))
      (all_right (binders (fill c b)) (binders other) p))
      (all_right (binders (fill c b) ++ binders other) (binders rest) h)
  with_call (InElse t other c rest) b k args h =
      let new = binders (fill c (next (Call k args) end)) in
      let p = all_left (binders other ++ binders (fill c b)) (binders rest) h in
      all_both (binders other ++ new) (binders rest)
      (all_both (binders other) new (all_left (binders other) (binders (fill c b)) p)
      (with_call c b k args (all_right (binders other) (binders (fill c b)) p)))
      (all_right (binders other ++ binders (fill c b)) (binders rest) h)

-- ---- at a site

module _ (k n : ℕ) (a : Site) (is : IsSite (replace_rule k n) a) where
  abbrev s : Spot
  s = a.spot

  abbrev t : Target
  t = s.target

  record IsFound : Type 0 where
    args : List Argument
    unused : mentions (has_binder (old s)) (rest_of (around s)) ≡ false
    drafted : next (Call k args) end ≡ a.draft
    callee : Procedure
    there : slice_get t.unit.procedures k ≡ Some callee
    found : matched (reading_of t) (names_of t.proc) (old s) callee ≡ Arguments args
    plain : hands_wholes (passed_for callee.params args) callee.body (old s) ≡ false

  is_found : IsFound
  is_found =
      let tell = λ (o : Opened). then_try (said k t o) (λ args. Got (record { path = is.at; count = n })) in
      let place = then_got (opened_or_wrong (opened n is.at t.proc.body))
      (λ o. if is_used_after o then Not WrongShape else tell o) s.piece is.chosen in
      let used = got_unless (is_used_after place.0) WrongShape (tell place.0) s.piece place.2 in
      let those = then_got (said k t place.0) (λ args. Got (record { path = is.at; count = n })) s.piece used.1 in
      let there : opened n is.at t.proc.body ≡ Some place.0
      = opened_got (opened n is.at t.proc.body) place.0 place.1 in
      let piece : record { path = is.at; count = n } ≡ s.piece
      = got_same (record { path = is.at; count = n }) s.piece those.2 in
      let same : place.0 ≡ s.opened
      = some_injective place.0 s.opened (sym there
      ∙ ap (λ (p : Piece). opened p.count p.path t.proc.body) piece ∙ is.spot.opens) in
      let drafted = then_got (said k t s.opened) (λ args. Got (next (Call k args) end)) a.draft is.drafted in
      let it = is_said k t s.opened drafted.0 drafted.1 in
      record {
        args = drafted.0;
        unused = ap is_used_after (sym same) ∙ used.0;
        drafted = got_same (next (Call k drafted.0) end) a.draft drafted.2;
        callee = it.callee;
        there = it.there;
        found = it.found;
        plain = it.plain;
      }

  abbrev call : Block
  call = next (Call k is_found.args) end

  -- the body is the old one with the call in it
  body_is : a.body ≡ fill (around s) call
  body_is =
      bodies_without_copies t.proc (with_body s a.body) (a.base + zero) (fill (around s) call)
      (subst (λ m. list_all (λ x. nat_lt x m) (binders (fill (around s) call)) ≡ true) (omega arith)
      (with_call (λ x. nat_lt x a.base) (around s) (old s) k is_found.args
      (subst (λ b. list_all (λ x. nat_lt x a.base) (binders b) ≡ true) is.spot.body
      (all_right (λ x. nat_lt x a.base) (map (λ (q : Param). q.binder.id) t.proc.params)
      (binders t.proc.body) is.below))))
      (is.exact
      ∙ ap (λ b. named_copies t.proc (a.base + zero) (fill (around s) b))
      (ap (or_pass (around s)) (sym is_found.drafted) ∙ or_pass_next (around s) (Call k is_found.args) end))
      is.runs.procedure.distinct

  runs : MayRunIn t (with_block s call)
  runs = subst (λ b. MayRunIn t (with_body s b)) body_is is.runs

  extents : has_extents t.proc ≡ true
  extents =
      (and_parts (has_extents t.proc) _
      (well_formed_is_affine (field_kind t.unit.fields) (length t.unit.memories) (callees_for t) t.proc
      is.spot.runs.procedure)).0

  reading : reading_of t ≡ reading_in t.unit t.proc
  reading = ap (entry_reading t.unit.fields) (rooted_is t.proc extents)

  stands : Replaces s a.draft (fields_at_exit (replace_rule k n) a)
  stands =
      subst (λ d. Replaces s d (fields_at_exit (replace_rule k n) a)) is_found.drafted
      (whole (call_refines s a.base k is_found.callee is_found.args is.spot is.below is_found.there runs
      (ap (λ (at : Reading). matched at (names_of t.proc) (old s) is_found.callee) (sym reading)
      ∙ is_found.found) is_found.unused is_found.plain))

pub replace_is_lawful : (k n : ℕ) → IsLawful (replace_rule k n)
replace_is_lawful k n = record { replaces = λ a is versions met. stands k n a is }

pub replace_is_carrying : (k n : ℕ) → IsCarrying (replace_rule k n)
replace_is_carrying k n = record { carries = λ a is. tt; apart = λ a is. refl }
