-- The rule that simplifies is lawful and carries each statement.
use Rattle.std.proofs.Common.{◌≡◌, Bool, true, false, if◌then◌else◌, length, Some}
use Rattle.std.proofs.Common.{option_map, refl, sym, ap, ap₂, ◌∙◌, subst}
use Rattle.exo_tree.specs.Tree.{Control, Statement, Assign, Reduce, Config, Pass, If, For, Alloc}
use Rattle.exo_tree.specs.Tree.{View, Call, Block, end, next, statements, Procedure}
use Rattle.exo_tree.specs.Context.{Context, Here}
use Rattle.exo_tree.specs.Places.{Opened, parted}
use Rattle.exo_meaning.specs.Scene.{Scene, number}
use Rattle.exo_meaning.specs.Run.{run}
use Rattle.affine_forms.specs.Forms.{Reading, keeps_rules}
use Rattle.affine_places.specs.Roots.{roots_of, no_roots, has_extents}
use Rattle.affine_places.specs.Readings.{entry_reading}
use Rattle.inplace_laws.proofs.Along.{along_law}
use Rattle.tree_edits.specs.Made.Passes.{or_pass}
use Rattle.cursor_forward.specs.Causes.{Cause, WideNumber, Form}
use Rattle.cursor_forward.specs.Forwards.{Conditional, Loop, Joint, more, none, bone, bones}
use Rattle.cursor_forward.specs.Forwards.{Carries}
use Rattle.cursor_forward.specs.Shifts.{stays}
use Rattle.step_rules.specs.Rule.{Got, Not}
use Rattle.step_rules.specs.Lawful.{old, around, world_of, same, IsLawful}
use Rattle.step_rules.specs.Lawful.{IsCarrying}
use Rattle.step_rules.proofs.Shapes.{or_pass_next}
use Rattle.match_laws.specs.Simplify.Simplified.{simplified}
use Rattle.match_laws.specs.Simplify.SameControls.{in_statement, in_block, HasSameNumber}
use Rattle.match_laws.specs.Simplify.SimplifiedBlocks.{standing, IsRead}
use Rattle.match_laws.proofs.OfSimplify.Simplified.{simplified_law}
use Rattle.match_laws.proofs.OfSimplify.SameControls.{same_controls_along}
use Rattle.call_laws.specs.Places.{reading_in}
use Rattle.call_laws.specs.Simplify.{rooted, reading_of, simpler, all_fit, simplify_rule}
use Rattle.call_laws.proofs.Each.{each_so}
use Rattle.call_laws.proofs.Places.{own}
use Rattle.call_laws.proofs.Spots.{comes_there}

-- ---- numbers

number_same : (at : Reading) (scene : Scene) (e : Control) → IsRead at scene e
    → HasSameNumber (simpler at) scene e
number_same at scene e h = go (keeps_rules e)
  where
    go : (t : Bool) → number scene (if t then simplified at e else e) ≡ number scene e
    go true = simplified_law (standing scene) at scene e h.0 h.1
    go false = refl

got_is : (t : Bool) (cause : Cause) (b d : Block)
    → (if t then Got b else Not cause) ≡ Got d → b ≡ d
got_is true cause b d e = cc
got_is false cause b d e = cc

-- a well-formed procedure has extents
pub rooted_is : (p : Procedure) → has_extents p ≡ true → rooted p ≡ roots_of p
rooted_is p h = ap (λ t. if t then roots_of p else no_roots) h

pub simplify_is_lawful : IsLawful simplify_rule
simplify_is_lawful = record {
  replaces = λ a is versions met. same (λ first u good come stands.
      let s = a.spot in
      let at = reading_of s.target in
      let there = comes_there s is.spot first u good come in
      let extents = (own s.target.unit s.target.proc (around s) (old s) u there).extents in
      let reading : at ≡ reading_in s.target.unit s.target.proc =
      ap (entry_reading s.target.unit.fields) (rooted_is s.target.proc extents) in
      along_law (world_of s) (old s) (in_block (simpler at) (old s)) u
      (same_controls_along (world_of s) (simpler at) (old s) u
      (each_so s.target.unit s.target.proc (around s) (old s) u there (HasSameNumber (simpler at))
      (λ scene e h. number_same at scene e (subst (λ r. IsRead r scene e) (sym reading) h))))
      ∙ ap (λ b. run (world_of s) b u) (got_is (all_fit at (old s)) (Form WideNumber)
      (in_block (simpler at) (old s)) a.draft is.drafted));
}

-- ---- statements

module _ (f : Control → Control) where
  mutual
    pub same_bones : (b : Block) → bones (in_block f b) ≡ bones b
    same_bones end = refl
    same_bones (next a b) = ap₂ more (same_bone a) (same_bones b)

    same_bone : (a : Statement) → bone (in_statement f a) ≡ bone a
    same_bone (Assign x is e) = refl
    same_bone (Reduce x is e) = refl
    same_bone (Config g a) = refl
    same_bone Pass = refl
    same_bone (If c a b) = ap₂ (Joint Conditional) (same_bones a) (same_bones b)
    same_bone (For i lo hi b) = ap (λ k. Joint Loop k none) (same_bones b)
    same_bone (Alloc x cell dims memory) = refl
    same_bone (View w x coords) = refl
    same_bone (Call k args) = refl

  all_parted : (b : Block)
      → parted (length (statements b)) (in_block f b) ≡ Some (in_block f b, end)
  all_parted end = refl
  all_parted (next a b) =
      ap (option_map (λ (p : Block × Block). (next (in_statement f a) p.0, p.1))) (all_parted b)

parted_all : (b : Block) → parted (length (statements b)) b ≡ Some (b, end)
parted_all end = refl
parted_all (next a b) =
    ap (option_map (λ (p : Block × Block). (next a p.0, p.1))) (parted_all b)

abbrev opens : Block × Block → Opened
opens p = record { around = Here p.1; piece = p.0 }

-- all statements stay, in the place of which others of their kinds stand
stay : (f : Control → Control) (b : Block)
    → Carries (stays (length (statements b))) b (in_block f b)
stay f b = (
  record {
    was = record { around = Here end; piece = b };
    is = record { around = Here end; piece = in_block f b };
    before = ap (option_map opens) (parted_all b);
    after = ap (option_map opens) (all_parted f b);
    alike = sym (same_bones f b);
  },
  tt,
)

-- nothing stays where nothing was
none_stays : (d : Block) → Carries (stays 0) end d
none_stays d = (
  record {
    was = record { around = Here end; piece = end };
    is = record { around = Here d; piece = end };
    before = refl;
    after = refl;
    alike = refl;
  },
  tt,
)

carried : (f : Control → Control) (c : Context) (b : Block)
    → Carries (stays (length (statements b))) b (or_pass c (in_block f b))
carried f c end = none_stays (or_pass c end)
carried f c (next a b) =
    subst (Carries (stays (length (statements (next a b)))) (next a b))
    (sym (or_pass_next c (in_statement f a) (in_block f b))) (stay f (next a b))

pub simplify_is_carrying : IsCarrying simplify_rule
simplify_is_carrying = record {
  carries = λ a is.
      let at = reading_of a.spot.target in
      subst (λ d. Carries (stays (length (statements (old a.spot)))) (old a.spot)
      (or_pass (around a.spot) d))
      (got_is (all_fit at (old a.spot)) (Form WideNumber) (in_block (simpler at) (old a.spot))
      a.draft is.drafted)
      (carried (simpler at) (around a.spot) (old a.spot));
  apart = λ a is. refl;
}
