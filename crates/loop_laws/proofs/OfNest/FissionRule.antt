-- The rule that makes two loops of one is lawful, and carries statements.
use Rattle.std.proofs.Common.{◌≡◌, ℕ, true, [], ◌∷◌, Option, Some, None, option_map, refl}
use Rattle.std.proofs.Common.{sym, ap, ◌∙◌, subst}
use Rattle.std.specs.Prelude.{if◌then◌else◌, option_and_then}
use Rattle.exo_tree.specs.Tree.{Binder, Control, For, Block, end, joined}
use Rattle.exo_tree.specs.Context.{Context, Here, After, InLoop}
use Rattle.exo_tree.specs.Mapped.{mapped_block}
use Rattle.exo_tree.specs.Places.{Opened, opened, parted}
use Rattle.exo_tree.specs.Renaming.{binders, fresh_id, renaming, re_binder, re_control}
use Rattle.exo_meaning.specs.Orders.{Each}
use Rattle.exo_meaning.specs.Run.{run}
use Rattle.place_laws.specs.Scope.Holes.{behind}
use Rattle.place_laws.specs.Scope.UnrollLoop.{only_loop}
use Rattle.tree_edits.specs.Made.Passes.{or_pass}
use Rattle.cursor_forward.specs.Shifts.{at_index, alone, range}
use Rattle.cursor_forward.specs.Forwards.{AreCarried, Carries, are_apart}
use Rattle.place_laws.specs.Order.TurnsOfTwo.{Loop}
use Rattle.step_rules.specs.Rule.{Piece}
use Rattle.step_rules.specs.Lawful.{IsMet, Site, IsSite, IsLawful, IsCarrying, same, around, old}
use Rattle.step_rules.specs.Lawful.{world_of}
use Rattle.step_rules.proofs.Shapes.{IsMadeOf, made_of, or_pass_next}
use Rattle.loop_laws.specs.Shapes.{inside}
use Rattle.loop_laws.proofs.Bones.{same_bones, same_length, all_parted}
use Rattle.loop_laws.specs.Nest.Shapes.{size, step, unless_it_writes}
use Rattle.loop_laws.specs.Nest.Fission.{Parting, parting_of, parted_loops, writes_first}
use Rattle.loop_laws.specs.Nest.Fission.{fission_refusal, fission_needs, fission_shifts, of_parting}
use Rattle.loop_laws.specs.Nest.Fission.{fission_rule}
use Rattle.loop_laws.proofs.OfNest.Fission.{parting_is, parted_same}
use Rattle.loop_laws.proofs.OfNest.Parted.{behind_parted, second_opened}

module _ (count : ℕ) (a : Site) (is : IsSite (fission_rule count) a) where
  pub made : IsMadeOf (parting_of count (old a.spot)) (λ p. parted_loops p a.base) a.draft
  made = made_of (parting_of count (old a.spot)) (λ p. parted_loops p a.base) a.draft is.drafted

  single : a.spot.piece.count ≡ 1
  single =
      sym (ap (λ (p : Piece). p.count)
      (made_of
      (option_and_then (λ (o : Opened). parting_of count o.piece)
      (opened 1 is.at a.spot.target.proc.body)) (λ (p : Parting). record { path = is.at; count = 1 })
      a.spot.piece is.chosen).made)

  allowed : (if writes_first a.spot.target.unit made.of then None else unless_it_writes a.spot) ≡ None
  allowed = sym (ap (λ o. fission_refusal o a.spot) made.found) ∙ is.allowed

pub fission_is_lawful : (count : ℕ) → IsLawful (fission_rule count)
fission_is_lawful count = record {
  replaces = λ a is versions met. (
      let of = made count a is in
      let needs = subst (λ o. Each (IsMet a.spot.target)
      (of_parting (fission_needs a.spot.piece.path) o)) of.found met in
      same (λ first u good come stands.
      parted_same count a is of.of (parting_is count (old a.spot) of.of of.found)
      (single count a is) needs.0 (allowed count a is) good come stands
      ∙ ap (λ b. run (world_of a.spot) b u) of.made)
      );
}

-- ---- where statements go

abbrev here : Block × Block → Opened
here q = record { around = Here q.1; piece = q.0 }

abbrev in_a_loop : Binder → Control → Control → Block → Opened → Opened
in_a_loop i lo hi rest o = record { around = InLoop i lo hi o.around rest; piece = o.piece }

module _ (p : Parting) (base : ℕ) (c : Context) where
  abbrev l : Loop
  l = p.loop

  abbrev whole : Block
  whole = only_loop l.binder l.lo l.hi (joined p.first p.second)

  abbrev made_loops : Block
  made_loops = parted_loops p base

  -- the second loop under its new ids
  abbrev to : ℕ → ℕ
  to = fresh_id (binders (only_loop l.binder l.lo l.hi p.second)) base

  abbrev copied : Block
  copied = mapped_block (renaming to) p.second

  abbrev copy : Block
  copy = only_loop (re_binder to l.binder) (re_control to l.lo) (re_control to l.hi) copied

  loop_goes : AreCarried (alone (at_index 0) (Some (at_index 0))) (at_index 0) whole made_loops
  loop_goes = record {
    was = here (whole, end);
    is = here (only_loop l.binder l.lo l.hi p.first, copy);
    before = refl;
    after = refl;
    alike = refl;
  }

  first_goes : AreCarried (range (inside 1) (size p.first) (Some (inside 1))) (inside 1) whole
      made_loops
  first_goes = record {
    was = in_a_loop l.binder l.lo l.hi end (here (p.first, p.second));
    is = in_a_loop l.binder l.lo l.hi copy (here (p.first, end));
    before =
        ap (λ o. option_map (in_a_loop l.binder l.lo l.hi end) (option_map here o))
        (behind_parted p.first p.second);
    after =
        ap (λ o. option_map (in_a_loop l.binder l.lo l.hi copy) (option_map here o))
        (all_parted p.first);
    alike = refl;
  }

  second_goes : AreCarried (range (step 0 ∷ at_index (size p.first)) (size p.second)
      (Some (step 1 ∷ at_index 0))) (step 1 ∷ at_index 0) whole made_loops
  second_goes =
      let many : size copied ≡ size p.second = same_length (renaming to) p.second in
      record {
        was = in_a_loop l.binder l.lo l.hi end (record {
          around = behind p.first (Here end);
          piece = p.second;
        });
        is = record {
          around =
              After (For l.binder l.lo l.hi p.first)
              (InLoop (re_binder to l.binder) (re_control to l.lo) (re_control to l.hi) (Here end)
              end);
          piece = copied;
        };
        before =
            ap (option_map (in_a_loop l.binder l.lo l.hi end)) (second_opened p.first p.second);
        after =
            ap (λ o. option_map (λ (q : Opened). record {
              around = After (For l.binder l.lo l.hi p.first) q.around;
              piece = q.piece;
            }) (option_map (in_a_loop (re_binder to l.binder) (re_control to l.lo)
            (re_control to l.hi) end) (option_map here o)))
            (ap (λ n. parted n copied) (sym many) ∙ all_parted copied);
        alike = sym (same_bones (renaming to) p.second);
      }

  carried : Carries (fission_shifts p) whole (or_pass c made_loops)
  carried =
      subst (Carries (fission_shifts p) whole)
      (sym (or_pass_next c (For l.binder l.lo l.hi p.first) copy))
      (loop_goes, (first_goes, (second_goes, tt)))

pub fission_is_carrying : (count : ℕ) → IsCarrying (fission_rule count)
fission_is_carrying count = record {
  carries = λ a is.
      let of = made count a is in
      let p = of.of in
      let parting = parting_is count (old a.spot) p of.found in
      subst (λ o. Carries (of_parting fission_shifts o) (old a.spot)
      (or_pass (around a.spot) a.draft)) (sym of.found)
      (subst (λ b. Carries (fission_shifts p) b (or_pass (around a.spot) a.draft))
      (sym (parting.is
      ∙ ap (only_loop p.loop.binder p.loop.lo p.loop.hi) (sym parting.body)))
      (subst (λ b. Carries (fission_shifts p)
      (only_loop p.loop.binder p.loop.lo p.loop.hi (joined p.first p.second))
      (or_pass (around a.spot) b)) of.made (carried p a.base (around a.spot))));
  apart = λ a is. go (parting_of count (old a.spot));
}
  where
    apart_of : (m n : ℕ) → are_apart (
        alone (at_index 0) (Some (at_index 0))
        ∷ range (inside 1) m (Some (inside 1))
        ∷ range (step 0 ∷ at_index m) n (Some (step 1 ∷ at_index 0))
        ∷ []) ≡ true
    apart_of m n = refl

    go : (o : Option Parting) → are_apart (of_parting fission_shifts o) ≡ true
    go None = refl
    go (Some p) = apart_of (size p.first) (size p.second)
