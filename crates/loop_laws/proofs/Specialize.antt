-- The rule that puts a condition round a block is lawful.
use Rattle.std.proofs.Common.{◌≡◌, ℕ, Bool, true, false, length, Option, Some, None, refl, sym, ap}
use Rattle.std.proofs.Common.{◌∙◌, subst}
use Rattle.std.specs.Prelude.{if◌then◌else◌, option_map}
use Rattle.exo_tree.specs.Tree.{Condition, If, Block, end, statements}
use Rattle.exo_tree.specs.Context.{Context, Here, InThen, rest_of}
use Rattle.exo_tree.specs.Places.{Opened, opened}
use Rattle.exo_tree.specs.Renaming.{fresh}
use Rattle.exo_meaning.specs.Unseen.{in_block as mentions}
use Rattle.place_laws.specs.Scope.BranchesAtPlaces.{specialized}
use Rattle.place_laws.specs.Scope.Scopes.{top_binders}
use Rattle.tree_edits.specs.Made.Passes.{or_pass}
use Rattle.cursor_forward.specs.Causes.{WrongShape}
use Rattle.cursor_forward.specs.Forwards.{Carries}
use Rattle.step_rules.specs.Rule.{Got, Not, Piece}
use Rattle.step_rules.specs.Answer.{opened_or_wrong}
use Rattle.step_rules.specs.Lawful.{Site, IsSite, Replaces, IsLawful, IsCarrying, around, old, fields_at_exit}
use Rattle.step_rules.proofs.Shapes.{or_pass_next}
use Rattle.loop_laws.specs.Specialize.{is_used_after, into_branch, specialize_rule}
use Rattle.loop_laws.proofs.Copies.{blocks_may_be_specialized}
use Rattle.loop_laws.proofs.Bones.{all_parted}
use Rattle.loop_laws.proofs.UnrollLoop.{then_got, same_got}

-- ---- what follows uses none of its names

opened_got : (o : Option Opened) (x : Opened) → opened_or_wrong o ≡ Got x → o ≡ Some x
opened_got None x h = cc
opened_got (Some y) x h = cc

-- what is got where a test fails
got_unless : {T : Type 0} (t : Bool) (x y : T) → (if t then Not WrongShape else Got x) ≡ Got y
    → (t ≡ false) × (x ≡ y)
got_unless true x y h = cc
got_unless false x y h = (refl, same_got h)

not_used : (count : ℕ) (c : Condition) (a : Site) → IsSite (specialize_rule count c) a
    → mentions (top_binders (old a.spot)) (rest_of (around a.spot)) ≡ false
not_used count c a is =
    let body = a.spot.target.proc.body in
    let found = then_got (opened_or_wrong (opened count is.at body))
    (λ o. if is_used_after o then Not WrongShape else Got (record { path = is.at; count = count }))
    a.spot.piece is.chosen in
    let got = got_unless (is_used_after found.0)
    (record { path = is.at; count = count }) a.spot.piece found.2 in
    let there = opened_got (opened count is.at body) found.0 found.1 in
    let same = same_opened
    (sym there
    ∙ ap (λ (p : Piece). opened p.count p.path body) got.1
    ∙ is.spot.opens) in
    ap is_used_after (sym same) ∙ got.0
  where
    same_opened : {x y : Opened} → Some x ≡ Some y → x ≡ y
    same_opened h = cc

pub specialize_is_lawful : (count : ℕ) (c : Condition) → IsLawful (specialize_rule count c)
specialize_is_lawful count c = record {
  replaces = λ a is versions met.
      subst (λ d. Replaces a.spot d (fields_at_exit (specialize_rule count c) a))
      (same_got is.drafted)
      (blocks_may_be_specialized a.spot c a.base (fields_at_exit (specialize_rule count c) a)
      is.spot is.below (not_used count c a is));
}

-- ---- where statements go

abbrev here : Block × Block → Opened
here p = record { around = Here p.1; piece = p.0 }

abbrev in_first : Condition → Block → Opened → Opened
in_first c other o = record { around = InThen c o.around other end; piece = o.piece }

into_branch_carried : (around : Context) (c : Condition) (base : ℕ) (b : Block)
    → Carries (into_branch (length (statements b))) b (or_pass around (specialized base c b))
into_branch_carried around c base b =
    subst (Carries (into_branch (length (statements b))) b)
    (sym (or_pass_next around (If c b (fresh base b)) end)) (
      record {
        was = here (b, end);
        is = in_first c (fresh base b) (here (b, end));
        before = ap (option_map here) (all_parted b);
        after =
            ap (λ o. option_map (in_first c (fresh base b)) (option_map here o)) (all_parted b);
        alike = refl;
      },
      tt,
    )

pub specialize_is_carrying : (count : ℕ) (c : Condition) → IsCarrying (specialize_rule count c)
specialize_is_carrying count c = record {
  carries = λ a is.
      subst (λ d. Carries (into_branch (length (statements (old a.spot)))) (old a.spot)
      (or_pass (around a.spot) d)) (same_got is.drafted)
      (into_branch_carried (around a.spot) c a.base (old a.spot));
  apart = λ a is. refl;
}
