-- The rule that writes out the turns of a loop is lawful.
use Rattle.std.proofs.Common.{◌≡◌, ℕ, ℤ, pos, negsuc, ◌+◌, ◌+ℤ◌, ◌*ℤ◌, ◌&&◌, Bool, true, false}
use Rattle.std.proofs.Common.{true≢false, List, [], ◌∷◌, length, Option, Some, None, refl, sym, ap}
use Rattle.std.proofs.Common.{ap₂, ◌∙◌, subst, arith}
use Rattle.std.specs.Prelude.{nat_lt, ◌-ℤ◌, if◌then◌else◌, option_and_then, option_map}
use Rattle.std.proofs.lemmas.Int.{ints}
use Rattle.exo_tree.specs.Tree.{Control}
use Rattle.exo_tree.specs.Tree.{Block, end, next, joined, statements}
use Rattle.exo_tree.specs.Context.{Context, Here, InLoop}
use Rattle.exo_tree.specs.Places.{Opened, opened, parted}
use Rattle.exo_tree.specs.Renaming.{fresh, fresh_id, renaming}
use Rattle.exo_tree.specs.Renaming as code
use Rattle.exo_tree.specs.Substitution.{replacing, in_block as substituted}
use Rattle.exo_meaning.specs.Scene.{Scene, number}
use Rattle.exo_meaning.specs.Run.{count}
use Rattle.exo_meaning.specs.Run as run
use Rattle.exo_meaning.specs.Unseen.{in_control}
use Rattle.meaning_laws.specs.FreshCopies.{copies_from}
use Rattle.meaning_laws.specs.Substitute.{is_plain, has_variable}
use Rattle.place_laws.specs.Scope.Scopes.{joined_all}
use Rattle.place_laws.specs.Scope.UnrollLoop.{only_loop}
use Rattle.affine_forms.specs.Atoms.{Terms, none, term, Linear, value}
use Rattle.affine_forms.specs.Forms.{is_affine}
use Rattle.affine_forms.specs.Laws.{ReadsAt}
use Rattle.affine_forms.proofs.NormalForm.{normal_law}
use Rattle.affine_places.specs.Readings.{extent_reading}
use Rattle.affine_places.specs.Roots.{variables}
use Rattle.match_laws.specs.Simplify.Simplified.{literal, values_in}
use Rattle.tree_edits.specs.Made.Passes.{or_pass}
use Rattle.cursor_forward.specs.Causes.{LimitPassed, Form, WideNumber}
use Rattle.cursor_forward.specs.Shifts.{at_index}
use Rattle.cursor_forward.specs.Forwards.{bones, Carries, are_apart}
use Rattle.place_laws.specs.Order.TurnsOfTwo.{Loop}
use Rattle.step_rules.specs.Rule.{Tried, Got, Not}
use Rattle.step_rules.specs.Answer.{then_try}
use Rattle.step_rules.specs.Lawful.{IsSpot, Site, Replaces, IsLawful, IsCarrying, around, old}
use Rattle.step_rules.specs.Lawful.{fields_at_exit}
use Rattle.step_rules.specs.Shapes.{tried}
use Rattle.step_rules.proofs.Shapes.{made_of, or_pass_next}
use Rattle.loop_laws.specs.Copies.{bodies_with, written_out, Writes, AreBelow}
use Rattle.loop_laws.specs.Shapes.{loop_of}
use Rattle.loop_laws.specs.UnrollLoop.{with_affine_bounds, constant_of}
use Rattle.loop_laws.specs.UnrollLoop.{few_between, few_turns, turns_of, Unrolling, unrolling}
use Rattle.loop_laws.specs.UnrollLoop.{are_too_many, with_few}
use Rattle.loop_laws.specs.UnrollLoop.{turns_written, into_first, unroll_shifts, unroll_rule}
use Rattle.loop_laws.proofs.Copies.{turns_may_be_written_out, loops_of_no_turn_may_go}
use Rattle.loop_laws.proofs.Bones.{same_bones, same_length, all_parted}
use Rattle.loop_laws.proofs.Sites.{found_then, loop_of_is}
use Rattle.exo_effects.specs.Accesses.{plain_fits, plain_form}

-- ---- what is known of what was tried

pub then_got : {T U : Type 0} (t : Tried T) (f : T → Tried U) (y : U) → then_try t f ≡ Got y
    → (x : T) × (t ≡ Got x) × (f x ≡ Got y)
then_got (Got x) f y h = (x, refl, h)
then_got (Not cause) f y h = cc

pub same_got : {T : Type 0} {x y : T} → Got x ≡ Got y → x ≡ y
same_got h = cc

same_some : {T : Type 0} {x y : T} → Some x ≡ Some y → x ≡ y
same_some h = cc

-- ---- numbers that are written

pub literals_write : Writes literal
literals_write = record {
  has = has;
  plain = plain;
  constant = constant;
  unseen = unseen;
}
  where
    has : (scene : Scene) (n : ℤ) → number scene (literal n) ≡ n
    has scene (pos n) = refl
    has scene (negsuc n) = omega (arith, ints)

    plain : (n : ℤ) → is_plain (literal n) ≡ true
    plain (pos n) = refl
    plain (negsuc n) = refl

    constant : (n : ℤ) (x : ℕ) → has_variable (literal n) x ≡ false
    constant (pos n) x = refl
    constant (negsuc n) x = refl

    unseen : (hidden : ℕ → Bool) (n : ℤ) → in_control hidden (literal n) ≡ false
    unseen hidden (pos n) = refl
    unseen hidden (negsuc n) = refl

-- ---- numbers of bounds

pub reads_variables : (scene : Scene) → ReadsAt variables (values_in scene) extent_reading scene
reads_variables scene = record {
  variables = λ x h. alone (scene.control x);
  fields = λ f h. absurd (true≢false (sym h));
  strides = λ x k h. absurd (true≢false (sym h));
}
  where
    alone : (n : ℤ) → pos 0 +ℤ ((pos 1 *ℤ n) +ℤ pos 0) ≡ n
    alone n = omega (arith, ints)

constant_value : (scene : Scene) (l : Linear) (n : ℤ) → constant_of l ≡ Some n
    → value (values_in scene) l ≡ n
constant_value scene l n h = by l.constant l.terms h
  where
    zero_more : (m : ℤ) → m +ℤ pos 0 ≡ m
    zero_more m = omega (arith, ints)

    by : (m : ℤ) (ts : Terms)
        → constant_of (record { constant = m; terms = ts }) ≡ Some n
        → value (values_in scene) (record { constant = m; terms = ts }) ≡ n
    by m none h = zero_more m ∙ same_some h
    by m (term c a ts) h = cc

number_of_bound : (scene : Scene) (e : Control) (n : ℤ) → is_affine variables e ≡ true
    → constant_of (plain_form e) ≡ Some n → number scene e ≡ n
number_of_bound scene e n affine h =
    sym (normal_law variables (values_in scene) extent_reading scene e (reads_variables scene) affine)
    ∙ constant_value scene (plain_form e) n h

-- ---- the loop that is written out

record IsUnrolling (b : Block) (u : Unrolling) : Type 0 where
  is : b ≡ only_loop u.loop.binder u.loop.lo u.loop.hi u.loop.body
  turns : (scene : Scene) → run.turns_of scene u.loop.lo u.loop.hi ≡ u.turns

record IsAffine (k l : Loop) : Type 0 where
  same : k ≡ l
  lo : is_affine variables l.lo ≡ true
  hi : is_affine variables l.hi ≡ true

affine_found : (k l : Loop) → with_affine_bounds k ≡ Some l → IsAffine k l
affine_found k l h = by (is_affine variables k.lo) (is_affine variables k.hi) refl refl h
  where
    by : (s t : Bool) → is_affine variables k.lo ≡ s → is_affine variables k.hi ≡ t
        → (if s && t then Some k else None) ≡ Some l → IsAffine k l
    by true true p q h =
        let e = same_some h in
        record {
          same = e;
          lo = ap (λ (m : Loop). is_affine variables m.lo) (sym e) ∙ p;
          hi = ap (λ (m : Loop). is_affine variables m.hi) (sym e) ∙ q;
        }
    by true false p q h = cc
    by false t p q h = cc

record AreConstant (l : Loop) (ns : List ℤ) : Type 0 where
  lo : ℤ
  hi : ℤ
  is_lo : constant_of (plain_form l.lo) ≡ Some lo
  is_hi : constant_of (plain_form l.hi) ≡ Some hi
  turns : run.range lo (count (hi -ℤ lo)) ≡ ns

constants_found : (l : Loop) (ns : List ℤ) → turns_of l ≡ Got ns → AreConstant l ns
constants_found l ns h =
    by (plain_fits l.lo && plain_fits l.hi) (constant_of (plain_form l.lo))
    (constant_of (plain_form l.hi)) refl refl h
  where
    few : (lo hi : ℤ) → few_between lo hi ≡ Got ns → run.range lo (count (hi -ℤ lo)) ≡ ns
    few lo hi h = by (nat_lt 256 (count (hi -ℤ lo))) h
      where
        by : (t : Bool)
            → (if t then Not LimitPassed else Got (run.range lo (count (hi -ℤ lo)))) ≡ Got ns
            → run.range lo (count (hi -ℤ lo)) ≡ ns
        by true h = cc
        by false h = same_got h

    by : (t : Bool) (x y : Option ℤ) → constant_of (plain_form l.lo) ≡ x
        → constant_of (plain_form l.hi) ≡ y
        → (if t then few_turns x y else Not (Form WideNumber)) ≡ Got ns → AreConstant l ns
    by true (Some lo) (Some hi) p q h = record {
      lo = lo;
      hi = hi;
      is_lo = p;
      is_hi = q;
      turns = few lo hi h;
    }
    by true (Some lo) None p q h = cc
    by true None y p q h = cc
    by false x y p q h = cc

few_found : (l : Loop) (ns : List ℤ) (u : Unrolling) → with_few l ns ≡ Got u
    → record { loop = l; turns = ns } ≡ u
few_found l ns u h = by (are_too_many l ns) h
  where
    by : (t : Bool) → (if t then Not LimitPassed else Got (record { loop = l; turns = ns })) ≡ Got u
        → record { loop = l; turns = ns } ≡ u
    by true h = cc
    by false h = same_got h

unrolling_found : (b : Block) (u : Unrolling) → unrolling b ≡ Got u → IsUnrolling b u
unrolling_found b u h =
    let first = then_got (tried (option_and_then with_affine_bounds (loop_of b)) (λ l. l))
    (λ l. then_try (turns_of l) (with_few l)) u h in
    let m = made_of (option_and_then with_affine_bounds (loop_of b)) (λ l. l) first.0 first.1 in
    let k = found_then (loop_of b) with_affine_bounds m.of m.found in
    let affine = affine_found k.0 m.of k.2 in
    let second = then_got (turns_of first.0) (with_few first.0) u first.2 in
    subst (IsUnrolling b) (few_found first.0 second.0 u second.2)
    (known first.0 second.0
    (loop_of_is b first.0 (k.1 ∙ ap Some (affine.same ∙ m.made)))
    (subst (λ (l : Loop). is_affine variables l.lo ≡ true) m.made affine.lo)
    (subst (λ (l : Loop). is_affine variables l.hi ≡ true) m.made affine.hi)
    (constants_found first.0 second.0 second.1))
  where
    known : (l : Loop) (ns : List ℤ) → b ≡ only_loop l.binder l.lo l.hi l.body
        → is_affine variables l.lo ≡ true → is_affine variables l.hi ≡ true → AreConstant l ns
        → IsUnrolling b (record { loop = l; turns = ns })
    known l ns is lo hi are = record {
      is = is;
      turns = λ scene.
          ap₂ (λ m n. run.range m (count (n -ℤ m))) (number_of_bound scene l.lo are.lo lo are.is_lo)
          (number_of_bound scene l.hi are.hi hi are.is_hi) ∙ are.turns;
    }

-- ---- the rule

pub unroll_is_lawful : IsLawful unroll_rule
unroll_is_lawful = record {
  replaces = λ a is versions met.
      let t = then_got (unrolling (old a.spot))
      (λ u. Got (turns_written u.loop u.turns a.base)) a.draft is.drafted in
      let known = unrolling_found (old a.spot) t.0 t.1 in
      stands a (fields_at_exit unroll_rule a) is.spot is.below t.0.loop known.is t.0.turns
      known.turns (same_got t.2);
}
  where
    stands : (a : Site) (but : List ℕ) → IsSpot a.spot → AreBelow a.base a.spot → (l : Loop)
        → old a.spot ≡ only_loop l.binder l.lo l.hi l.body → (ns : List ℤ)
        → ((scene : Scene) → run.turns_of scene l.lo l.hi ≡ ns)
        → turns_written l ns a.base ≡ a.draft → Replaces a.spot a.draft but
    stands a but is low l loop_is [] turns made =
        subst (λ d. Replaces a.spot d but) made
        (loops_of_no_turn_may_go a.spot l but
        (record { is = loop_is; turns = λ first u good come there. turns u.scene })).1
    stands a but is low l loop_is (n ∷ ns) turns made =
        subst (λ d. Replaces a.spot d but) made
        (turns_may_be_written_out a.spot l (n ∷ ns) literal a.base but is low
        (record { is = loop_is; turns = λ first u good come there. turns u.scene }) literals_write)

-- ---- where statements go

abbrev here : Block × Block → Opened
here p = record { around = Here p.1; piece = p.0 }

abbrev in_loop : Loop → Opened → Opened
in_loop l o = record { around = InLoop l.binder l.lo l.hi o.around end; piece = o.piece }

-- a block before another is its first statements
parted_joined : (a rest : Block)
    → parted (length (statements a)) (joined a rest) ≡ Some (a, rest)
parted_joined end rest = refl
parted_joined (next a b) rest =
    ap (option_map (λ (p : Block × Block). (next a p.0, p.1))) (parted_joined b rest)

-- the first statements of a block stand where it is put
record StandsFirst (c : Context) (a rest : Block) : Type 0 where
  o : Opened
  opens : opened (length (statements a)) (at_index 0) (or_pass c (joined a rest)) ≡ Some o
  piece : o.piece ≡ a

stands_first : (c : Context) (a rest : Block) → StandsFirst c a rest
stands_first c end rest = record { o = here (end, or_pass c rest); opens = refl; piece = refl }
stands_first c (next s b) rest = record {
  o = here (next s b, rest);
  opens =
      ap (opened (length (statements (next s b))) (at_index 0)) (or_pass_next c s (joined b rest))
      ∙ ap (option_map here) (parted_joined (next s b) rest);
  piece = refl;
}

first_copy_carried : (c : Context) (l : Loop) (n : ℤ) (ns : List ℤ) (base : ℕ)
    → Carries (into_first l (n ∷ ns)) (only_loop l.binder l.lo l.hi l.body)
    (or_pass c (written_out literal l (n ∷ ns) base))
first_copy_carried c l n ns base =
    let d = substituted l.binder.id (literal n) l.body in
    let rest = joined_all (copies_from (base + length (code.binders d)) (bodies_with literal l ns)) in
    let leaves = renaming (fresh_id (code.binders d) base) in
    let put = replacing l.binder.id (literal n) in
    let new = or_pass c (joined (fresh base d) rest) in
    let first = stands_first c (fresh base d) rest in
    let alike : bones (fresh base d) ≡ bones l.body =
    same_bones leaves d ∙ same_bones put l.body in
    let many : length (statements (fresh base d)) ≡ length (statements l.body) =
    same_length leaves d ∙ same_length put l.body in (
      record {
        was = in_loop l (here (l.body, end));
        is = first.o;
        before = ap (λ o. option_map (in_loop l) (option_map here o)) (all_parted l.body);
        after = subst (λ k. opened k (at_index 0) new ≡ Some first.o) many first.opens;
        alike = sym alike ∙ ap bones (sym first.piece);
      },
      tt,
    )

pub unroll_is_carrying : IsCarrying unroll_rule
unroll_is_carrying = record {
  carries = λ a is.
      let t = then_got (unrolling (old a.spot))
      (λ u. Got (turns_written u.loop u.turns a.base)) a.draft is.drafted in
      subst (λ x. Carries (unroll_shifts x) (old a.spot) (or_pass (around a.spot) a.draft))
      (sym t.1)
      (carried (around a.spot) (old a.spot) t.0.loop
      (unrolling_found (old a.spot) t.0 t.1).is t.0.turns a.base a.draft (same_got t.2));
  apart = λ a is. all_apart (unrolling (old a.spot));
}
  where
    carried : (c : Context) (b : Block) (l : Loop) → b ≡ only_loop l.binder l.lo l.hi l.body
        → (ns : List ℤ) (base : ℕ) (made : Block) → turns_written l ns base ≡ made
        → Carries (into_first l ns) b (or_pass c made)
    carried c b l is [] base made e = tt
    carried c b l is (n ∷ ns) base made e =
        subst (λ d. Carries (into_first l (n ∷ ns)) b (or_pass c d)) e
        (subst (λ x. Carries (into_first l (n ∷ ns)) x
        (or_pass c (written_out literal l (n ∷ ns) base))) (sym is)
        (first_copy_carried c l n ns base))

    one_apart : (l : Loop) (ns : List ℤ) → are_apart (into_first l ns) ≡ true
    one_apart l [] = refl
    one_apart l (n ∷ ns) = refl

    all_apart : (t : Tried Unrolling) → are_apart (unroll_shifts t) ≡ true
    all_apart (Got u) = one_apart u.loop u.turns
    all_apart (Not cause) = refl
