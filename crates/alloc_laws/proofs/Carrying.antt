-- Where the rule that lifts an allocation takes statements.
use Rattle.std.proofs.Common.{◌≡◌, ◌≤◌, arith, le-leb, ℕ, suc, true, ◌||◌, ◌&&◌, List, [], ◌∷◌}
use Rattle.std.proofs.Common.{length}
use Rattle.std.proofs.Common.{Option, Some, None, option_map, refl, sym, ap, ◌∙◌, subst}
use Rattle.std.specs.Prelude.{nat_le, ◌+◌}
use Rattle.exo_tree.specs.Tree.{Statement, Assign, Reduce, Config, Pass, If, For}
use Rattle.exo_tree.specs.Tree.{Alloc, View, Call, Block, end, next, joined, statements}
use Rattle.exo_tree.specs.Context.{Context, Here, After, InLoop, InThen, InElse}
use Rattle.exo_tree.specs.Places.{Branch, Main, Else, Opened, opened, opened_in, into, parted}
use Rattle.place_laws.specs.Scope.Holes.{behind}
use Rattle.place_laws.proofs.OfScope.BehindBlocks.{opened_behind}
use Rattle.tree_edits.specs.Made.Passes.{or_pass, or_one_pass}
use Rattle.cursor_forward.specs.Forwards.{kind_of, AreCarried, Carries, are_apart}
use Rattle.cursor_forward.specs.Shifts.{Shift, at_index, alone, range}
use Rattle.buffer_laws.specs.Buffers.{Buffer, allocation}
use Rattle.buffer_laws.specs.Lifted.{with_buffer_in}
use Rattle.step_rules.specs.Lawful.{IsCarrying, around, old}
use Rattle.step_rules.proofs.Shapes.{made_of, or_pass_next}
use Rattle.loop_laws.proofs.Bones.{all_parted}
use Rattle.alloc_laws.specs.Lifting.{Inner, inner_of, Lifting, lifting_of, lifted}
use Rattle.alloc_laws.specs.Lifting.{other_shifts, within, lifted_shifts}
use Rattle.alloc_laws.specs.Lifting.{shifts_of_lifting, lift_rule}
use Rattle.alloc_laws.proofs.Lifting.{lifting_is}

abbrev size : Block → ℕ
size b = length (statements b)

-- ---- parts

parted_behind : (b c : Block) → parted (size b) (joined b c) ≡ Some (b, c)
parted_behind end c = refl
parted_behind (next a b) c =
    ap (option_map (λ (p : Block × Block). (next a p.0, p.1))) (parted_behind b c)

parted_past : (b : Block) (a : Statement) (c : Block)
    → parted (suc (size b)) (joined b (next a c)) ≡ Some (joined b (next a end), c)
parted_past end a c = refl
parted_past (next d b) a c =
    ap (option_map (λ (p : Block × Block). (next d p.0, p.1))) (parted_past b a c)

-- both blocks without the allocation between them, or a `pass` for none
record BothStay (b c : Block) : Type 0 where
  tail : Block
  rest : Block
  first : parted (size b) (or_one_pass (joined b c)) ≡ Some (b, tail)
  second : parted (size c) tail ≡ Some (c, rest)

both_stay : (b c : Block) → BothStay b c
both_stay end end = record { tail = next Pass end; rest = next Pass end; first = refl; second = refl }
both_stay end (next a c) =
    record { tail = next a c; rest = end; first = refl; second = all_parted (next a c) }
both_stay (next a b) c =
    record { tail = c; rest = end; first = parted_behind (next a b) c; second = all_parted c }

-- ---- shifts

module _ (branch : Branch) (i : Inner) (round : Context → Context)
    (opens : (f : Block → Option Opened) (d : Block)
    → into branch f (next (i.put d) end)
    ≡ option_map (λ o. record { around = round o.around; piece = o.piece }) (f d))
    (kinds : (d e : Block) → kind_of (i.put d) ≡ kind_of (i.put e))
    (before : Block) (x : Buffer) (after : Block) where
  abbrev l : Lifting
  l = record { inner = i; before = before; buffer = x; behind = after }

  abbrev was : Block
  was = next (i.put (with_buffer_in before x after)) end

  abbrev inner : Block
  inner = or_one_pass (joined before after)

  abbrev in_round : Opened → Opened
  in_round o = record { around = round o.around; piece = o.piece }

  abbrev after_it : Opened → Opened
  after_it o = record { around = After (allocation x) o.around; piece = o.piece }

  -- so many statements of the block in the old statement, and in the new one
  old_opened : (n m : ℕ) (p q : Block × Block) → parted m (with_buffer_in before x after) ≡ Some p
      → parted n p.1 ≡ Some q
      → opened n (within 0 branch m) was
      ≡ Some (record { around = round (behind p.0 (Here q.1)); piece = q.0 })
  old_opened n m p q e k =
      opens (opened_in n (record { branch = branch; index = m } ∷ [])) (with_buffer_in before x after)
      ∙ ap (option_map in_round)
      (opened_behind n (record { branch = branch; index = m }) (with_buffer_in before x after) p q e k)

  new_opened : (n m : ℕ) (p q : Block × Block) → parted m inner ≡ Some p → parted n p.1 ≡ Some q
      → opened n (within 1 branch m) (lifted l)
      ≡ Some (record { around = After (allocation x) (round (behind p.0 (Here q.1))); piece = q.0 })
  new_opened n m p q e k =
      ap (option_map after_it)
      (opens (opened_in n (record { branch = branch; index = m } ∷ [])) inner
      ∙ ap (option_map in_round)
      (opened_behind n (record { branch = branch; index = m }) inner p q e k))

  stay : BothStay before after
  stay = both_stay before after

  round_goes : AreCarried (alone (at_index 0) (Some (at_index 1))) (at_index 1) was (lifted l)
  round_goes = record {
    was = record { around = Here end; piece = was };
    is = record { around = After (allocation x) (Here end); piece = next (i.put inner) end };
    before = refl;
    after = refl;
    alike = ap (λ k. k ∷ []) (kinds (with_buffer_in before x after) inner);
  }

  buffer_goes : AreCarried (range (within 0 branch (size before)) 1 (Some (at_index 0))) (at_index 0)
      was (lifted l)
  buffer_goes = record {
    was = record { around = round (behind before (Here after)); piece = next (allocation x) end };
    is = record { around = Here (next (i.put inner) end); piece = next (allocation x) end };
    before =
        old_opened 1 (size before) (before, next (allocation x) after) (next (allocation x) end, after)
        (parted_behind before (next (allocation x) after)) refl;
    after = refl;
    alike = refl;
  }

  before_goes : AreCarried (range (within 0 branch 0) (size before) (Some (within 1 branch 0)))
      (within 1 branch 0) was (lifted l)
  before_goes = record {
    was = record { around = round (Here (next (allocation x) after)); piece = before };
    is = record { around = After (allocation x) (round (Here stay.tail)); piece = before };
    before =
        old_opened (size before) 0 (end, with_buffer_in before x after)
        (before, next (allocation x) after) refl (parted_behind before (next (allocation x) after));
    after = new_opened (size before) 0 (end, inner) (before, stay.tail) refl stay.first;
    alike = refl;
  }

  behind_goes : AreCarried (range (within 0 branch (suc (size before))) (size after)
      (Some (within 1 branch (size before)))) (within 1 branch (size before)) was (lifted l)
  behind_goes = record {
    was = record {
      around = round (behind (joined before (next (allocation x) end)) (Here end));
      piece = after;
    };
    is = record {
      around = After (allocation x) (round (behind before (Here stay.rest)));
      piece = after;
    };
    before =
        old_opened (size after) (suc (size before)) (joined before (next (allocation x) end), after)
        (after, end) (parted_past before (allocation x) after) (all_parted after);
    after =
        new_opened (size after) (size before) (before, stay.tail) (after, stay.rest) stay.first
        stay.second;
    alike = refl;
  }

  all_go : Carries (other_shifts branch i.other) was (lifted l) → (c : Context)
      → Carries (lifted_shifts branch l) was (or_pass c (lifted l))
  all_go others c =
      subst (Carries (lifted_shifts branch l) was)
      (sym (or_pass_next c (allocation x) (next (i.put inner) end)))
      (round_goes, (buffer_goes, (before_goes, (behind_goes, others))))

-- the other branch of a condition stays
abbrev here : Block × Block → Opened
here p = record { around = Here p.1; piece = p.0 }

some_same : {A : Type 0} {a b : A} → Some a ≡ Some b → a ≡ b
some_same e = cc

abbrev made_of_it : Inner → Block → Buffer → Block → Lifting
made_of_it i before x after =
    record { inner = i; before = before; buffer = x; behind = after }

carried : (branch : Branch) (round : Statement) (i : Inner) → inner_of branch round ≡ Some i
    → (before : Block) (x : Buffer) (after : Block) → i.block ≡ with_buffer_in before x after
    → (c : Context)
    → let l : Lifting = record { inner = i; before = before; buffer = x; behind = after } in
    Carries (lifted_shifts branch l) (next round end) (or_pass c (lifted l))
carried branch (Assign y js e) i h before x after parts c = cc
carried branch (Reduce y js e) i h before x after parts c = cc
carried branch (Config f g) i h before x after parts c = cc
carried branch Pass i h before x after parts c = cc
carried Main (If t a b) i h before x after parts c =
    let j : Inner = record { block = a; put = λ d. If t d b; other = Some b } in
    let e : j ≡ i = some_same h in
    let all = with_buffer_in before x after in
    subst (λ (z : Inner). Carries (lifted_shifts Main (made_of_it z before x after)) (next (If t a b) end)
    (or_pass c (lifted (made_of_it z before x after)))) e
    (subst (λ d. Carries (lifted_shifts Main (made_of_it j before x after)) (next (If t d b) end)
    (or_pass c (lifted (made_of_it j before x after)))) (sym (ap (λ (z : Inner). z.block) e ∙ parts))
    (all_go Main j (λ d. InThen t d b end) (λ f d. refl) (λ d e. refl) before x after (
      record {
        was = record { around = InElse t all (Here end) end; piece = b };
        is = record {
          around = After (allocation x) (InElse t (or_one_pass (joined before after)) (Here end) end);
          piece = b;
        };
        before =
            ap (λ o. option_map (λ (q : Opened). record {
              around = InElse t all q.around end;
              piece = q.piece;
            }) (option_map here o)) (all_parted b);
        after =
            ap (λ o. option_map (λ (q : Opened). record {
              around = After (allocation x) q.around;
              piece = q.piece;
            }) (option_map (λ (q : Opened). record {
              around = InElse t (or_one_pass (joined before after)) q.around end;
              piece = q.piece;
            }) (option_map here o))) (all_parted b);
        alike = refl;
      },
      tt,
    ) c))
carried Else (If t a b) i h before x after parts c =
    let j : Inner = record { block = b; put = λ d. If t a d; other = Some a } in
    let e : j ≡ i = some_same h in
    let all = with_buffer_in before x after in
    subst (λ (z : Inner). Carries (lifted_shifts Else (made_of_it z before x after)) (next (If t a b) end)
    (or_pass c (lifted (made_of_it z before x after)))) e
    (subst (λ d. Carries (lifted_shifts Else (made_of_it j before x after)) (next (If t a d) end)
    (or_pass c (lifted (made_of_it j before x after)))) (sym (ap (λ (z : Inner). z.block) e ∙ parts))
    (all_go Else j (λ d. InElse t a d end) (λ f d. refl) (λ d e. refl) before x after (
      record {
        was = record { around = InThen t (Here end) all end; piece = a };
        is = record {
          around = After (allocation x) (InThen t (Here end) (or_one_pass (joined before after)) end);
          piece = a;
        };
        before =
            ap (λ o. option_map (λ (q : Opened). record {
              around = InThen t q.around all end;
              piece = q.piece;
            }) (option_map here o)) (all_parted a);
        after =
            ap (λ o. option_map (λ (q : Opened). record {
              around = After (allocation x) q.around;
              piece = q.piece;
            }) (option_map (λ (q : Opened). record {
              around = InThen t q.around (or_one_pass (joined before after)) end;
              piece = q.piece;
            }) (option_map here o))) (all_parted a);
        alike = refl;
      },
      tt,
    ) c))
carried Main (For j lo hi b) i h before x after parts c =
    let k : Inner = record { block = b; put = λ d. For j lo hi d; other = None } in
    let e : k ≡ i = some_same h in
    subst (λ (z : Inner). Carries (lifted_shifts Main (made_of_it z before x after)) (next (For j lo hi b) end)
    (or_pass c (lifted (made_of_it z before x after)))) e
    (subst (λ d. Carries (lifted_shifts Main (made_of_it k before x after)) (next (For j lo hi d) end)
    (or_pass c (lifted (made_of_it k before x after)))) (sym (ap (λ (z : Inner). z.block) e ∙ parts))
    (all_go Main k (λ d. InLoop j lo hi d end) (λ f d. refl) (λ d e. refl) before x after tt c))
carried Else (For j lo hi b) i h before x after parts c = cc
carried branch (Alloc y cell ds memory) i h before x after parts c = cc
carried branch (View w y coords) i h before x after parts c = cc
carried branch (Call f args) i h before x after parts c = cc

-- ---- the rule

level : (k : ℕ) → nat_le (0 + k) k ≡ true
level k = le-leb (0 + k) k (let h : (0 + k) ≤ k = omega (arith) in h)

abbrev shifts_with : Branch → ℕ → ℕ → List Shift → List Shift
shifts_with branch k n others =
    alone (at_index 0) (Some (at_index 1))
    ∷ range (within 0 branch k) 1 (Some (at_index 0))
    ∷ range (within 0 branch 0) k (Some (within 1 branch 0))
    ∷ range (within 0 branch (suc k)) n (Some (within 1 branch k))
    ∷ others

apart_by : (k n : ℕ) → (((nat_le (0 + k) k || nat_le (k + n) 0) && true) && true) ≡ true
apart_by k n = ap (λ t. ((t || nat_le (k + n) 0) && true) && true) (level k)

shifts_apart : (branch : Branch) (k n : ℕ) (other : Option Block)
    → are_apart (shifts_with branch k n (other_shifts branch other)) ≡ true
shifts_apart Main k n None = apart_by k n
shifts_apart Main k n (Some b) = apart_by k n
shifts_apart Else k n None = apart_by k n
shifts_apart Else k n (Some b) = apart_by k n

pub lift_is_carrying : (branch : Branch) (k : ℕ) → IsCarrying (lift_rule branch k)
lift_is_carrying branch k = record {
  carries = λ a is. (
      let d = made_of (lifting_of branch k (old a.spot)) lifted a.draft is.drafted in
      let l = d.of in
      let r = lifting_is branch k (old a.spot) l d.found in
      subst (λ o. Carries (shifts_of_lifting branch o) (old a.spot) (or_pass (around a.spot) a.draft))
      (sym d.found)
      (subst (λ b. Carries (lifted_shifts branch l) b (or_pass (around a.spot) a.draft)) (sym r.is)
      (subst (λ b. Carries (lifted_shifts branch l) (next r.round end) (or_pass (around a.spot) b))
      d.made
      (carried branch r.round l.inner r.inner l.before l.buffer l.behind r.parts (around a.spot))))
      );
  apart = λ a is. apart_there branch (lifting_of branch k (old a.spot));
}
  where
    apart_there : (branch : Branch) (o : Option Lifting)
        → are_apart (shifts_of_lifting branch o) ≡ true
    apart_there branch None = refl
    apart_there branch (Some l) =
        shifts_apart branch (size l.before) (size l.behind) l.inner.other
