-- A call of a procedure that sets a field, inlined; and a view removed.
use Rattle.std.proofs.Common.{◌≡◌, pos, false, List, [], ◌∷◌, Some, None, slice_get, refl, sym}
use Rattle.std.proofs.Common.{subst, true≢false}
use Rattle.exo_tree.specs.Tree.{Index, Lit, Argument, ControlArg, Config, Call, Block, end, next}
use Rattle.exo_tree.specs.Tree.{Procedure}
use Rattle.exo_tree.specs.Context.{Here}
use Rattle.exo_tree.specs.Places.{Opened}
use Rattle.exo_meaning.specs.Renaming.{Renaming}
use Rattle.exo_meaning.specs.State.{State}
use Rattle.exo_meaning.specs.Run.{World, unit_world}
use Rattle.exo_meaning.specs.Inputs.{Refines}
use Rattle.meaning_laws.proofs.Copies.{sound_law}
use Rattle.meaning_laws.proofs.Parts.{some_injective}
use Rattle.inplace_laws.specs.Inline.{MayInline}
use Rattle.inplace_laws.proofs.Above.{above_law}
use Rattle.match_laws.specs.Inline.Known.{ReadAlong}
use Rattle.match_laws.specs.Names.{Names}
use Rattle.match_laws.specs.Matched.{Arguments, matched}
use Rattle.match_laws.proofs.Instances.{own}
use Rattle.match_laws.proofs.Matched.{same_arguments}
use Rattle.match_laws.proofs.OfInline.MatchRows.{each_place, known}
use Rattle.match_laws.proofs.OfInline.Named.{named_dims}
use Rattle.match_laws.specs.Inline.ReplaceRule.{with_block, MayReplace}
use Rattle.match_laws.proofs.OfInline.ReplaceRule.{replace_rule}
use Rattle.match_laws.specs.Inline.InlineRule.{Called, MayInlineThere, with_fresh_ids}
use Rattle.match_laws.specs.Inline.InlineWindowRule.{Viewed, MayRemoveView, behind_first}
use Rattle.match_laws.specs.RenamedCallee.{re_procedure}
use Rattle.match_laws.proofs.OfInline.InlineConditions.{inline_conditions}
use Rattle.match_laws.proofs.OfInline.FreshCallee.{fresh_callee, fresh_conditions}
use Rattle.match_laws.proofs.OfInline.InlineRule.{inline_rule}
use Rattle.match_laws.proofs.OfInline.InlineWindowRule.{inline_window_rule}
use Rattle.match_laws.proofs.OfInline.Rows.{binder, named, lit, first, part, ones, on_part, parts, fill_it}
use Rattle.exo_tree.specs.Tree.{Var, Add}

-- ---- a call of a procedure that sets field 0 to 4

abbrev sets : Block
sets = next (Config 0 (ControlArg (Lit (pos 4)))) end

abbrev setter : Procedure
setter = named [] sets

abbrev call : Block
call = next (Call 0 []) end

abbrev caller : Procedure
caller = named [] call

abbrev empty : World
empty = unit_world (λ f. Index) []

abbrev above_it : World
above_it = unit_world (λ f. Index) (setter ∷ [])

may_inline : MayInline above_it empty (λ x. false) caller setter (Here end) call 0 []
may_inline = record {
  callee = λ s. refl;
  wider = (above_law (λ f. Index) [] setter []).0;
  call = λ s u good come gs e. record {
    sound = sound_law above_it caller call (Here end) s u good come;
    names = refl;
    unbound = λ x k. absurd (true≢false k);
    params = λ x k. absurd (true≢false (sym k));
    distinct = tt;
    types = tt;
  };
  takes = tt;
  free = λ x k. absurd (true≢false (sym k));
  others = λ x k. (refl, refl);
  gone = refl;
  rest = refl;
}

abbrev there : Opened
there = record { around = Here end; piece = call }

abbrev called : Called
called = record { callee = 0; args = [] }

may_there : MayInlineThere above_it empty (λ x. false) (setter ∷ []) caller 7 there
may_there c q e f =
    subst (λ d. MayInline above_it empty (λ x. false) caller (with_fresh_ids 7 q) (Here end) call
    d.callee d.args) same
    (subst (λ r. MayInline above_it empty (λ x. false) caller (with_fresh_ids 7 r) (Here end) call
    0 []) (some_injective setter q (f' c same f)) may_inline)
  where
    same : called ≡ c
    same = some_injective called c e

    f' : (d : Called) → called ≡ d → slice_get (setter ∷ []) d.callee ≡ Some q
        → slice_get (setter ∷ []) 0 ≡ Some q
    f' d k h = subst (λ (z : Called). slice_get (setter ∷ []) z.callee ≡ Some q) (sym k) h

inlined : Refines above_it caller (named [] sets) []
inlined = inline_rule (λ f. Index) (setter ∷ []) caller first 7 there sets empty (λ x. false) refl
    refl may_there

-- ---- x[2:6] in the place of a view

abbrev view : Viewed
view = record { binder = binder 1; buffer = 0; coords = part ∷ [] }

abbrev opening : Opened
opening = record { around = Here end; piece = on_part }

may_remove : (v : Viewed) → Some view ≡ Some v
    → MayRemoveView parts (Here end) v (behind_first on_part)
may_remove v e =
    subst (λ z. MayRemoveView parts (Here end) z (behind_first on_part))
    (some_injective view v e) (record {
      last = refl;
      free = (refl, refl);
      other = refl;
      plain = refl;
      own = refl;
      root = refl;
      variables = λ y k. absurd (true≢false (sym k));
      gone = refl;
    })

removed : Refines empty parts (record parts { body = ones 0 (Add (lit 2) (Var 2)) }) []
removed = inline_window_rule (λ f. Index) [] parts first 2 opening
    (ones 0 (Add (lit 2) (Var 2))) refl refl may_remove

-- ---- the call by the conditions

abbrev same_ids : Renaming
same_ids = record { to = λ x. x; from = λ x. x; to_from = λ x. refl; from_to = λ x. refl }

by_conditions : MayInline above_it empty (λ x. false) caller (re_procedure same_ids setter)
    (Here end) call 0 []
by_conditions = inline_conditions (λ f. Index) [] setter [] same_ids (λ x. false) caller
    (Here end) call [] (record {
      names = refl;
      params = λ x k. absurd (true≢false (sym k));
      distinct = tt;
      takes = tt;
      free = λ x k. absurd (true≢false (sym k));
      others = λ x k. (refl, refl);
      gone = refl;
      rest = refl;
    }) (λ s u good come gs e. tt)

-- ---- a block that sets field 0 to 4 becomes a call

abbrev setting : Procedure
setting = named [] sets

abbrev block : Opened
block = record { around = Here end; piece = sets }

no_names : Names
no_names x = None

they_match : matched own no_names sets setter ≡ Arguments []
they_match = refl

may_call : MayInline above_it empty (λ x. false) (with_block setting block sets) setter (Here end)
    sets 0 []
may_call = inline_conditions (λ f. Index) [] setter [] same_ids (λ x. false)
    (with_block setting block sets) (Here end) sets [] (record {
      names = refl;
      params = λ x k. absurd (true≢false (sym k));
      distinct = tt;
      takes = tt;
      free = λ x k. absurd (true≢false (sym k));
      others = λ x k. (refl, refl);
      gone = refl;
      rest = refl;
    }) (λ s u good come gs e. tt)

set_is_read : (u : State) → ReadAlong above_it own no_names sets u
set_is_read u =
    each_place above_it no_names sets u (λ scene. ((known scene, refl), tt), tt, tt)

may_replace : (args : List Argument) → Arguments [] ≡ Arguments args
    → MayReplace above_it empty (λ x. false) own no_names setting setter 0 block args (λ x. false)
may_replace args e =
    subst (λ z. MayReplace above_it empty (λ x. false) own no_names setting setter 0 block z
    (λ x. false))
    (same_arguments [] args e) (record {
      found = they_match;
      match = record {
        kinds = refl;
        apart = refl;
        binders = refl;
        numbers = refl;
        stand = refl;
        strides = (refl, tt, tt);
        named = named_dims setter refl;
        calls = refl;
      };
      read = λ s u good come. (λ x h. absurd (true≢false (sym h)), set_is_read u);
      call = may_call;
    })

replaced : Refines above_it setting (with_block setting block call) []
replaced = replace_rule (λ f. Index) (setter ∷ []) setting first 1 block own no_names setter 0 call
    empty (λ x. false) setter (λ x. false) refl refl may_replace

-- ---- and with new ids

setter_is_renamed : (r : Renaming) × (with_fresh_ids 7 setter ≡ re_procedure r setter)
setter_is_renamed = fresh_callee setter 7 refl

-- fill(n, w), whose ids are 0, 1 and 2, from 3 on
fill_is_renamed : (r : Renaming) × (with_fresh_ids 3 fill_it ≡ re_procedure r fill_it)
fill_is_renamed = fresh_callee fill_it 3 refl

with_new_ids : MayInline above_it empty (λ x. false) caller (with_fresh_ids 7 setter) (Here end)
    call 0 []
with_new_ids = fresh_conditions (λ f. Index) [] setter [] 7 (λ x. false) caller (Here end)
    call [] refl (record {
      names = refl;
      params = λ x k. absurd (true≢false (sym k));
      distinct = tt;
      takes = tt;
      free = λ x k. absurd (true≢false (sym k));
      others = λ x k. (refl, refl);
      gone = refl;
      rest = refl;
    }) (λ s u good come gs e. tt)
