-- Where the rule that stages a block takes statements.
use Rattle.std.proofs.Common.{◌≡◌, ◌==◌, ℕ, suc, pos, length, List, [], ◌∷◌, Some, refl, sym}
use Rattle.std.proofs.Common.{ap, ap₂, ◌∙◌, subst, option_map, cond}
use Rattle.exo_tree.specs.Tree.{Control, Lit, Coord, Statement, Assign, Reduce, Config, Pass, If, For, Alloc}
use Rattle.exo_tree.specs.Tree.{View, Call, Block, end, next, joined, statements}
use Rattle.exo_tree.specs.Context.{Here, After}
use Rattle.exo_tree.specs.Places.{Opened, parted}
use Rattle.tree_edits.specs.Made.Passes.{or_pass}
use Rattle.cursor_forward.specs.Forwards as bone_of
use Rattle.cursor_forward.specs.Forwards.{Conditional, Joint, more, none, bone, bones}
use Rattle.cursor_forward.specs.Forwards.{Carries}
use Rattle.cursor_forward.specs.Shifts.{at_index, range}
use Rattle.inplace_laws.specs.Filled.{Loop, nest}
use Rattle.buffer_laws.specs.Buffers.{allocation}
use Rattle.buffer_laws.specs.MadeIndices.{made_simpler}
use Rattle.buffer_laws.specs.Simplified.{simplified, simplified_statement}
use Rattle.buffer_laws.specs.StageMem.{Staging, staging_buffer, loads, stores, loading, storing}
use Rattle.buffer_laws.specs.Staging.Converted.{converted, converted_statement}
use Rattle.step_rules.specs.Lawful.{IsCarrying, around, old}
use Rattle.step_rules.proofs.Shapes.{or_pass_next}
use Rattle.loop_laws.proofs.Bones.{all_parted}
use Rattle.alloc_laws.specs.Stage.Staging.{cell_here, changes_window, stage_rule}
use Rattle.alloc_laws.proofs.Expanding.{opened_size}
use Rattle.alloc_laws.proofs.OfStage.Staging.{drafted_is}

module _ (simple : Control → Control) (a x : ℕ) (coords : List Coord) where
  abbrev put : Block → Block
  put b = simplified simple (λ y. y == a) (converted a x coords b)

  mutual
    same_bones : (b : Block) → bones (put b) ≡ bones b
    same_bones end = refl
    same_bones (next d b) = ap₂ more (same_bone d) (same_bones b)

    same_bone : (d : Statement)
        → bone (simplified_statement simple (λ y. y == a) (converted_statement a x coords d)) ≡ bone d
    same_bone (Assign y is e) = refl
    same_bone (Reduce y is e) = refl
    same_bone (Config f g) = refl
    same_bone Pass = refl
    same_bone (If c b d) = ap₂ (Joint Conditional) (same_bones b) (same_bones d)
    same_bone (For i lo hi b) = ap (λ k. Joint bone_of.Loop k none) (same_bones b)
    same_bone (Alloc y cell dims memory) = refl
    same_bone (View w y ds) = refl
    same_bone (Call k gs) = refl

  same_length : (b : Block) → length (statements (put b)) ≡ length (statements b)
  same_length end = refl
  same_length (next d b) = ap suc (same_length b)

-- the first statements of a block, with those behind them
first_parted : (b rest : Block) → parted (length (statements b)) (joined b rest) ≡ Some (b, rest)
first_parted end rest = refl
first_parted (next d b) rest =
    ap (option_map (λ (p : Block × Block). (next d p.0, p.1))) (first_parted b rest)

abbrev here : Block × Block → Opened
here p = record { around = Here p.1; piece = p.0 }

abbrev behind : Statement → Opened → Opened
behind d o = record { around = After d o.around; piece = o.piece }

-- a nest of loops is one statement
nest_is : (ls : List Loop) (d : Statement) → (e : Statement) × (nest ls d ≡ next e end)
nest_is [] d = (d, refl)
nest_is (l ∷ ls) d = (For l.binder (Lit (pos 0)) l.extent (nest ls d), refl)

-- a block between an allocation and a nest, and others behind it
goes_between : (n : ℕ) (b k : Block) (first second : Statement) (rest : Block)
    → length (statements b) ≡ n → length (statements k) ≡ n → bones k ≡ bones b
    → Carries (range (at_index 0) n (Some (at_index 2)) ∷ []) b (next first (next second (joined k rest)))
goes_between n b k first second rest h j e = (
  record {
    was = record { around = Here end; piece = b };
    is = record { around = After first (After second (Here rest)); piece = k };
    before = ap (option_map here) (ap (λ m. parted m b) (sym h) ∙ all_parted b);
    after =
        ap (λ o. option_map (behind first) (option_map (behind second) (option_map here o)))
        (ap (λ m. parted m (joined k rest)) (sym j) ∙ first_parted k rest);
    alike = sym e;
  },
  tt,
)

pub stage_is_carrying : (count : ℕ) (w : Staging) → IsCarrying (stage_rule count w)
stage_is_carrying count w = record {
  carries = λ a is. (
      let s = a.spot in
      let b = old s in
      let base = a.base in
      let n = s.piece.count in
      let cell = cell_here w s in
      let k = put made_simpler base w.root w.coords b in
      let rest =
      cond (changes_window w s.target s.opened)
      (nest (stores made_simpler w cell 0 base) (storing made_simpler w cell 0 base)) end in
      let shifts = range (at_index 0) n (Some (at_index 2)) ∷ [] in
      let one = nest_is (loads made_simpler w cell 0 base) (loading made_simpler w cell 0 base) in
      let first = allocation (staging_buffer made_simpler w cell 0 base) in
      let size = opened_size n s.piece.path s.target.proc.body s.opened is.spot.opens in
      subst (λ d. Carries shifts b (or_pass (around s) d)) (drafted_is w s base a.draft is.drafted)
      (subst (λ d. Carries shifts b (or_pass (around s) (next first (joined d (joined k rest)))))
      (sym one.1)
      (subst (Carries shifts b) (sym (or_pass_next (around s) first (next one.0 (joined k rest))))
      (goes_between n b k first one.0 rest size
      (same_length made_simpler base w.root w.coords b ∙ size)
      (same_bones made_simpler base w.root w.coords b))))
      );
  apart = λ a is. refl;
}
