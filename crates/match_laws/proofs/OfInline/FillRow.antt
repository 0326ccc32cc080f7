-- A loop that fills a row becomes a call of a callee with a control and a buffer parameter, and the
-- call is inlined again.
use Rattle.std.proofs.Common.{◌≡◌, ◌∙◌, ℕ, ◌==◌, pos, Bool, true, false, ◌||◌, List, [], ◌∷◌}
use Rattle.std.proofs.Common.{Option, Some, None, option_map, refl, sym, ap, ap₂, subst, true≢false}
use Rattle.std.proofs.Common.{eqb-true, slice_get}
use Rattle.exo_tree.specs.Tree.{I32, Index, Size, Var, Add, Const, Span, Argument, ControlArg}
use Rattle.exo_tree.specs.Tree.{Whole, Window, ControlParam, TensorParam, WindowParam, Assign, Call, Block, end, next}
use Rattle.exo_tree.specs.Tree.{Procedure}
use Rattle.exo_tree.specs.Context.{Here}
use Rattle.exo_tree.specs.Places.{Opened}
use Rattle.exo_meaning.specs.Scene.{Seen, Side, then_do, narrowed, window, whole, numbers}
use Rattle.exo_meaning.specs.State.{State}
use Rattle.exo_meaning.specs.Calls.{Given, GivenNumber, GivenView, all_given}
use Rattle.exo_meaning.specs.Run.{World, unit_world}
use Rattle.exo_meaning.specs.Inputs.{IsAdmissible, Refines, AreArguments}
use Rattle.affine_forms.proofs.Values.{none_some, some_injective}
use Rattle.meaning_laws.specs.Copies.{IsFree}
use Rattle.meaning_laws.specs.Scoped.{has_binder}
use Rattle.inplace_laws.specs.CallInPlace.{HaveTypes}
use Rattle.inplace_laws.specs.InPlace.{makes}
use Rattle.inplace_laws.specs.Inline.{is_param, MayInline}
use Rattle.match_laws.specs.Inline.Known.{ReadAlong}
use Rattle.match_laws.specs.Alike.{nameless}
use Rattle.match_laws.specs.Names.{Names, names_of}
use Rattle.match_laws.specs.Matched.{Arguments, matched}
use Rattle.match_laws.proofs.Instances.{own}
use Rattle.match_laws.proofs.Matched.{same_arguments}
use Rattle.match_laws.specs.Inline.InlineConditions.{IsInlinable, StandThere}
use Rattle.match_laws.specs.Inline.InlineRule.{Called, MayInlineThere, with_fresh_ids}
use Rattle.match_laws.specs.Inline.AtOnce.{puts}
use Rattle.match_laws.specs.Inline.MatchLaw.{MayMatch}
use Rattle.match_laws.specs.Inline.Meets.{calls_alike}
use Rattle.match_laws.specs.Inline.ReplaceRule.{with_block, MayReplace}
use Rattle.match_laws.proofs.OfInline.FreshCallee.{fresh_conditions}
use Rattle.match_laws.proofs.OfInline.InlineRule.{inline_rule}
use Rattle.match_laws.proofs.OfInline.Named.{named_dims}
use Rattle.match_laws.proofs.OfInline.MatchRows.{each_place, known, none_seen}
use Rattle.match_laws.proofs.OfInline.ReplaceRule.{replace_rule}
use Rattle.match_laws.proofs.OfInline.Rows.{named, lit, first, param, loop, fill_it}

-- ---- p(n: size, x: i32[n]): for i in seq(0, n): x[i] = 5

abbrev fives : Block
fives = loop 20 (Var 10) (Assign 11 (Var 20 ∷ []) (Const (pos 5)))

abbrev filler : Procedure
filler = named (param 10 (ControlParam Size) ∷ param 11 (TensorParam I32 (Var 10 ∷ []) 0) ∷ [])
    fives

-- fill(n, x[0:n])
abbrev arguments : List Argument
arguments = ControlArg (Var 10) ∷ Window 11 (Span (lit 0) (Var 10) ∷ []) ∷ []

abbrev call : Block
call = next (Call 0 arguments) end

abbrev body : Block
body = loop 20 (Var 10) (Assign 11 (Add (lit 0) (Var 20) ∷ []) (Const (pos 5)))

abbrev there : Opened
there = record { around = Here end; piece = fives }

abbrev names : Names
names = names_of filler

abbrev unit : World
unit = unit_world (λ f. Index) (fill_it ∷ [])

abbrev empty : World
empty = unit_world (λ f. Index) []

-- fill with the id of i, and with its parameters out of the way
abbrev fresh : Procedure
fresh = with_fresh_ids 20 fill_it

it_is_matched : matched own names fives fresh ≡ Arguments arguments
it_is_matched = refl

it_may_match : MayMatch own names fives fresh arguments (λ x. false)
it_may_match = record {
  kinds = refl;
  apart = refl;
  binders = refl;
  numbers = refl;
  stand = refl;
  strides = ((refl, refl), (((refl, tt), tt), tt, tt), tt);
  named = named_dims fresh refl;
  calls = refl;
}

-- ---- the callee's names

abbrev of_callee : ℕ → Bool
of_callee x = (x == 20) || ((x == 21) || (x == 22))

no : {P : Type 0} → false ≡ true → P
no h = absurd (true≢false (sym h))

by_name : (P : ℕ → Type 0) (x n : ℕ) (rest : Bool) → P n → (rest ≡ true → P x)
    → ((x == n) || rest) ≡ true → P x
by_name P x n rest this other h = go (x == n) refl h
  where
    go : (t : Bool) → (x == n) ≡ t → (t || rest) ≡ true → P x
    go true e k = subst P (sym (eqb-true x n e)) this
    go false e k = other k

neither : (a b : Bool) → (a || b) ≡ false → (a ≡ false) × (b ≡ false)
neither true b h = absurd (true≢false h)
neither false b h = (refl, h)

abbrev IsOwn : ℕ → Type 0
IsOwn x = (of_callee x ≡ true) × (makes fresh.body x ≡ false)

is_own : (x : ℕ) → is_param fresh x ≡ true → IsOwn x
is_own x h =
    by_name IsOwn x 21 ((x == 22) || false) (refl, refl)
    (by_name IsOwn x 22 false (refl, refl) (λ k. no k)) h

is_free : (p : Procedure) → IsFree p (Here end) 20 → IsFree p (Here end) 21
    → IsFree p (Here end) 22 → (x : ℕ) → of_callee x ≡ true → IsFree p (Here end) x
is_free p a b c x h =
    by_name (IsFree p (Here end)) x 20 ((x == 21) || (x == 22)) a
    (by_name (IsFree p (Here end)) x 21 (x == 22) b
    (λ k. subst (IsFree p (Here end)) (sym (eqb-true x 22 k)) c)) h

abbrev IsOther : ℕ → Type 0
IsOther x = (is_param fresh x ≡ false) × (has_binder body x ≡ false)

is_other : (x : ℕ) → of_callee x ≡ false → IsOther x
is_other x h =
    let p = neither (x == 20) ((x == 21) || (x == 22)) h in
    let q = neither (x == 21) (x == 22) p.1 in
    (ap₂ ◌||◌ q.0 (ap₂ ◌||◌ q.1 refl), bound p.0)
  where
    bound : (x == 20) ≡ false → has_binder body x ≡ false
    bound e = ap (λ t. (t || false) || false) e

abbrev Apart : ℕ → Type 0
Apart y = (is_param fresh y ≡ false) × (has_binder body y ≡ false)

inlinable : (p : Procedure) → IsFree p (Here end) 20 → IsFree p (Here end) 21
    → IsFree p (Here end) 22
    → IsInlinable of_callee p fresh (Here end) arguments
inlinable p a b c = record {
  names = refl;
  params = is_own;
  distinct = (refl, (refl, tt));
  takes = (
    (refl, refl, λ y e. ap (is_param fresh) (eqb-true y 10 e), λ y e. no e),
    (
      (
        refl,
        refl,
        refl,
        λ y e. by_name Apart y 10 false (refl, refl) (λ k. no k) e,
        refl,
        refl,
      ),
      tt,
    ),
  );
  free = is_free p a b c;
  others = is_other;
  gone = refl;
  rest = refl;
}

-- ---- what stands there

-- with n and x in a state, x is the buffer of its window
window_seen : (o : Option (List Side)) (x : ℕ) (z : Seen)
    → option_map (λ sides. record { buffer = x; sides = sides }) o ≡ Some z → z.buffer ≡ x
window_seen None x z h = absurd (none_some h)
window_seen (Some sides) x z h =
    sym (ap (λ (w : Seen). w.buffer)
    (some_injective (record { buffer = x; sides = sides }) z h))

second_given : (n : Given) (o : Option Seen) (g : Given) (z : Seen) (gs : List Given)
    → option_map (λ rest. n ∷ rest) (then_do (option_map GivenView o) (λ (h : Given). Some (h ∷ [])))
    ≡ Some (g ∷ GivenView z ∷ gs) → o ≡ Some z
second_given n None g z gs h = absurd (none_some h)
second_given n (Some w) g z gs h = cc

module _ (p : Procedure) (same : p.params ≡ filler.params) (w : World) (s : State)
    (good : IsAdmissible w p s) where
  given_there : AreArguments s.scene filler.params
  given_there = subst (AreArguments s.scene) same good.arguments

  typed : (gs : List Given) → all_given s.scene arguments ≡ Some gs
      → HaveTypes s fresh.params gs
  typed [] e = tt
  typed (g ∷ []) e = (tt, tt)
  typed (g ∷ GivenNumber n ∷ gs) e = (tt, (tt, tt))
  typed (g ∷ GivenView z ∷ gs) e =
      let seen = second_given (GivenNumber (s.scene.control 10))
      (window s.scene 11 (Span (lit 0) (Var 10) ∷ [])) g z gs e in
      let here = window_seen (narrowed s.scene (whole (numbers s.scene (Var 10 ∷ [])))
      (Span (lit 0) (Var 10) ∷ [])) 11 z
      (ap (λ o. then_do o (λ (r : Seen). option_map
      (λ sides. record { buffer = r.buffer; sides = sides })
      (narrowed s.scene r.sides (Span (lit 0) (Var 10) ∷ [])))) (sym given_there.1.0.1) ∙ seen) in
      (tt, ((_, ap s.scene.buffers here ∙ given_there.1.0.0, refl), tt))

stand_there : (p : Procedure) → p.params ≡ filler.params → (w : World) (old : Block)
    → StandThere w p fresh (Here end) old arguments
stand_there p same w old s u good come =
    subst (λ (t : State). (gs : List Given) → all_given t.scene arguments ≡ Some gs
    → HaveTypes t fresh.params gs) (sym come) (typed p same w s good)

-- ---- the loop becomes a call

may_call : MayInline unit empty of_callee (with_block filler there body) fresh (Here end) body 0
    arguments
may_call = fresh_conditions (λ f. Index) [] fill_it [] 20 of_callee
    (with_block filler there body) (Here end) body arguments refl
    (inlinable (with_block filler there body) (refl, refl) (refl, refl) (refl, refl))
    (stand_there (with_block filler there body) refl unit body)

fives_read : (s : State) → ReadAlong unit own names (nameless fives) s
fives_read s = each_place unit names (nameless fives) s (
  λ scene. (((known scene, refl), (known scene, refl)), tt),
  (λ scene. ((((known scene, refl), tt), tt), tt), tt, tt),
  tt,
)

may_replace : (args : List Argument) → Arguments arguments ≡ Arguments args
    → MayReplace unit empty of_callee own names filler fresh 0 there args (λ x. false)
may_replace args e =
    subst (λ z. MayReplace unit empty of_callee own names filler fresh 0 there z (λ x. false))
    (same_arguments arguments args e) (record {
      found = it_is_matched;
      match = it_may_match;
      read = λ s u good come. (none_seen u.scene, fives_read u);
      call = may_call;
    })

fives_are_called : Refines unit filler (with_block filler there call) []
fives_are_called = replace_rule (λ f. Index) (fill_it ∷ []) filler first 1 there own names fill_it
    0 call empty of_callee fresh (λ x. false) refl refl may_replace

-- ---- and the call is inlined again

abbrev caller : Procedure
caller = with_block filler there call

abbrev at_call : Opened
at_call = record { around = Here end; piece = call }

abbrev called : Called
called = record { callee = 0; args = arguments }

may_inline : MayInline unit empty of_callee caller fresh (Here end) call 0 arguments
may_inline = fresh_conditions (λ f. Index) [] fill_it [] 20 of_callee caller (Here end)
    call arguments refl (inlinable caller (refl, refl) (refl, refl) (refl, refl))
    (stand_there caller refl unit call)

may_there : MayInlineThere unit empty of_callee (fill_it ∷ []) caller 20 at_call
may_there c q e f =
    subst (λ d. MayInline unit empty of_callee caller (with_fresh_ids 20 q) (Here end) call
    d.callee d.args) same
    (subst (λ r. MayInline unit empty of_callee caller (with_fresh_ids 20 r) (Here end) call 0
    arguments) (some_injective fill_it q (ap (λ (d : Called). slice_get (fill_it ∷ []) d.callee)
    same ∙ f)) may_inline)
  where
    same : called ≡ c
    same = some_injective called c e

call_is_inlined : Refines unit caller (with_block caller at_call body) []
call_is_inlined = inline_rule (λ f. Index) (fill_it ∷ []) caller first 20 at_call body empty
    of_callee refl refl may_there

-- ---- r(w: [i32][4]): fill(4, w), matched with fill(4, x[2:6])

abbrev rest_filled : Procedure
rest_filled = named (param 30 (WindowParam I32 (lit 4 ∷ []) 0) ∷ [])
    (next (Call 0 (ControlArg (lit 4) ∷ Whole 30 ∷ [])) end)

abbrev part_filled : Block
part_filled = next (Call 0 (ControlArg (lit 4) ∷ Window 11 (Span (lit 2) (lit 6) ∷ []) ∷ [])) end

abbrev the_part : List Argument
the_part = Window 11 (Span (lit 2) (lit 6) ∷ []) ∷ []

part_is_matched : matched own names part_filled rest_filled ≡ Arguments the_part
part_is_matched = refl

part_may_match : MayMatch own names part_filled rest_filled the_part (λ x. false)
part_may_match = record {
  kinds = refl;
  apart = refl;
  binders = refl;
  numbers = refl;
  stand = refl;
  strides = ((refl, ((refl, refl, tt), tt)), tt, tt);
  named = named_dims rest_filled refl;
  calls = refl;
}

-- ---- w[0:4] within the body against the whole of an x: i32[4] is matched, and one

abbrev four : Names
four = names_of (named (param 11 (TensorParam I32 (lit 4 ∷ []) 0) ∷ []) end)

abbrev window_filled : Procedure
window_filled = named (param 30 (WindowParam I32 (lit 4 ∷ []) 0) ∷ [])
    (next (Call 0 (ControlArg (lit 4) ∷ Window 30 (Span (lit 0) (lit 4) ∷ []) ∷ [])) end)

abbrev whole_filled : Block
whole_filled = next (Call 0 (ControlArg (lit 4) ∷ Whole 11 ∷ [])) end

abbrev all_four : List Argument
all_four = Window 11 (Span (lit 0) (lit 4) ∷ []) ∷ []

whole_is_matched : matched own four whole_filled window_filled ≡ Arguments all_four
whole_is_matched = refl

whole_may_match : MayMatch own four whole_filled window_filled all_four (λ x. false)
whole_may_match = record {
  kinds = refl;
  apart = refl;
  binders = refl;
  numbers = refl;
  stand = refl;
  strides = ((refl, ((refl, refl, tt), tt)), tt, tt);
  named = named_dims window_filled refl;
  calls = refl;
}

-- ---- a tensor t that is handed on against x[0:4] is told: t may have other extents than x

abbrev tensor_filled : Procedure
tensor_filled = named (param 30 (TensorParam I32 (lit 4 ∷ []) 0) ∷ [])
    (next (Call 0 (ControlArg (lit 4) ∷ Whole 30 ∷ [])) end)

abbrev front_filled : Block
front_filled = next (Call 0 (ControlArg (lit 4) ∷ Window 11 (Span (lit 0) (lit 4) ∷ []) ∷ [])) end

front_is_matched : matched own names front_filled tensor_filled ≡ Arguments (Whole 11 ∷ [])
front_is_matched = refl

front_is_told : calls_alike (puts tensor_filled.params (Whole 11 ∷ [])) tensor_filled.body front_filled
    ≡ false
front_is_told = refl
