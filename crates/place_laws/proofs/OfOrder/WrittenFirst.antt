-- A loop whose body first writes a field, with the same number in each turn.
use Rattle.std.proofs.Common.{◌≡◌, ℕ, ℤ, ◌-ℤ◌, ◌==◌, Bool, true, false, true≢false, cond, List, []}
use Rattle.std.proofs.Common.{◌∷◌, Option, Some, None, IfSome, option_map, refl, sym, ap, ap₂, ◌∙◌}
use Rattle.std.proofs.Common.{subst, eqb-true, eq-eqb}
use Rattle.std.specs.Prelude.{IsSome}
use Rattle.std.proofs.Math.Path.{fun_ext}
use Rattle.exo_tree.specs.Tree.{Argument, ControlArg, ConditionArg, Whole, Window, Config, For}
use Rattle.exo_tree.specs.Tree.{Block, end, next}
use Rattle.exo_meaning.specs.Scene.{Seen, then_do, where_true}
use Rattle.exo_meaning.specs.State.{State, left, on_scene, with_control, with_field}
use Rattle.exo_meaning.specs.Calls.{truth, suits}
use Rattle.exo_meaning.specs.Run.{World, run, step, argument_number, turn, turns, turns_of, range}
use Rattle.exo_meaning.specs.Run.{count}
use Rattle.exo_meaning.specs.Renaming.{re_statement}
use Rattle.exo_meaning.specs.Unseen.{in_argument, SameBut}
use Rattle.exo_meaning.proofs.Ignored.{number_same, holds_same}
use Rattle.exo_meaning.proofs.Nested.{left_same, then_cong_if, then_some}
use Rattle.exo_meaning.proofs.Frame.{if_map, updated_other}
use Rattle.meaning_laws.specs.Sound.{IsUnbound}
use Rattle.meaning_laws.specs.Substitute.{is_plain}
use Rattle.meaning_laws.specs.Fields.{HasField}
use Rattle.meaning_laws.specs.Live.{refield}
use Rattle.meaning_laws.proofs.Names.{name_same, name_on}
use Rattle.meaning_laws.proofs.Substitute.{plain_same, and_parts}
use Rattle.meaning_laws.proofs.Copies.{Stays, if_both, unbound_on, moves_on, turns_stay_so}
use Rattle.meaning_laws.proofs.Copies.{copy_law}
use Rattle.meaning_laws.proofs.Live.{argument_live}
use Rattle.place_laws.specs.Order.TurnsOfTwo.{Loop}
use Rattle.place_laws.specs.Order.WrittenFirst.{MayWriteFirst, WrittenFirstLaw}
use Rattle.place_laws.proofs.OfOrder.PartedLoops.{turn_stays}

module _ (world : World) (k : Loop) (f : ℕ) (a : Argument) (c : Block) (s : State)
    (may : MayWriteFirst world k f a c s) where
  abbrev i : ℕ
  i = k.binder.id

  abbrev one : ℤ → State → Option State
  one = turn i (run world (next (Config f a) c))

  abbrev first : ℤ → State → Option State
  first = turn i (run world (next (Config f a) end))

  abbrev second : ℤ → State → Option State
  second = turn i (run world c)

  -- ---- the number is that before the loop

  abbrev is_i : ℕ → Bool
  is_i x = x == i

  -- at the turn, but for the fields
  abbrev there : ℤ → State → State
  there n t = refield s.scene.fields (on_scene (with_control i n) t)

  abbrev here : State → State
  here t = record { scene = s.scene; cells = t.cells }

  steady : (n : ℤ) (t : State) → Stays s t
      → argument_number (on_scene (with_control i n) t).scene a ≡ argument_number s.scene a
  steady n t h = sym (argument_live s.scene.fields (on_scene (with_control i n) t).scene a
      (λ g e. absurd (true≢false (sym e ∙ may.reads_none g)))) ∙ same_argument a may.steady
    where
      sees : (z : Seen) (q : Bool) → (q ≡ true → z.buffer ≡ i) → IsSome (t.scene.buffers z.buffer)
          → q ≡ false
      sees z false same e = refl
      sees z true same e = absurd
          (true≢false (sym (subst IsSome
          (ap t.scene.buffers (same refl) ∙ sym (h.names i).buffers ∙ may.unbound.buffers) e)))

      same : SameBut is_i (there n t) (here t)
      same = record {
        control = λ x e. updated_other t.scene.control i n x e ∙ sym (h.names x).control;
        buffers = λ x e. sym (h.names x).buffers;
        views = λ x e. sym (h.names x).views;
        fields = refl;
        cells = λ x e. refl;
        seen = λ x z e v. sees z (z.buffer == i) (eqb-true z.buffer i) (h.sound.seen x z v);
      }

      same_argument : (a : Argument) → in_argument is_i a ≡ false
          → argument_number (there n t).scene a ≡ argument_number s.scene a
      same_argument (ControlArg e) z = ap Some (number_same is_i (there n t) (here t) same e z)
      same_argument (ConditionArg e) z =
          ap (λ b. Some (truth b)) (holds_same is_i (there n t) (here t) same e z)
      same_argument (Whole x) z = refl
      same_argument (Window x coords) z = refl

  -- ---- one turn

  -- the write, outside of the loop
  abbrev written : Option ℤ → State → Option State
  written o t = then_do o (λ m.
      where_true (suits (world.kinds f) m) (Some (on_scene (with_field f m) t)))

  one_is : (n : ℤ) (t : State) → Stays s t
      → one n t ≡ then_do (written (argument_number s.scene a) t) (second n)
  one_is n t h = ap (λ o. option_map (left t)
      (then_do (written o (on_scene (with_control i n) t)) (run world c))) (steady n t h)
      ∙ go (argument_number s.scene a)
    where
      at_kind : (m : ℤ) (q : Bool)
          → option_map (left t) (then_do
          (where_true q (Some (on_scene (with_field f m) (on_scene (with_control i n) t))))
          (run world c)) ≡ then_do (where_true q (Some (on_scene (with_field f m) t))) (second n)
      at_kind m false = refl
      at_kind m true = refl

      go : (o : Option ℤ) → option_map (left t)
          (then_do (written o (on_scene (with_control i n) t)) (run world c)) ≡ then_do
          (written o t) (second n)
      go None = refl
      go (Some m) = at_kind m (suits (world.kinds f) m)

  first_is : (n : ℤ) (t : State) → Stays s t → first n t ≡ written (argument_number s.scene a) t
  first_is n t h = ap (λ o.
      option_map (left t) (then_do (written o (on_scene (with_control i n) t)) (λ u. Some u)))
      (steady n t h) ∙ go (argument_number s.scene a)
    where
      at_kind : (m : ℤ) (q : Bool)
          → option_map (left t) (then_do
          (where_true q (Some (on_scene (with_field f m) (on_scene (with_control i n) t))))
          (λ u. Some u)) ≡ where_true q (Some (on_scene (with_field f m) t))
      at_kind m false = refl
      at_kind m true = ap Some (left_same t (on_scene (with_field f m) t) refl h.sound.tidy)

      go : (o : Option ℤ) → option_map (left t)
          (then_do (written o (on_scene (with_control i n) t)) (λ u. Some u)) ≡ written o t
      go None = refl
      go (Some m) = at_kind m (suits (world.kinds f) m)

  -- ---- all turns

  -- with the number in the field
  record Has (m : ℤ) (t : State) : Type 0 where
    stays : Stays s t
    field : t.scene.fields f ≡ m

  has_own : (m : ℤ) (t : State) → Has m t → on_scene (with_field f m) t ≡ t
  has_own m t h = ap (λ g. record { scene = record t.scene { fields = g }; cells = t.cells })
      (fun_ext (λ x. go x (x == f) (eqb-true x f)))
    where
      go : (x : ℕ) (q : Bool) → (q ≡ true → x ≡ f) → cond q m (t.scene.fields x) ≡ t.scene.fields x
      go x true same = sym (ap t.scene.fields (same refl) ∙ h.field)
      go x false same = refl

  set_has : (m : ℤ) (t : State) → Stays s t → Has m (on_scene (with_field f m) t)
  set_has m t h = record {
    stays =
        record {
          sound = record { tidy = h.sound.tidy; seen = h.sound.seen };
          names = λ x.
              record {
                control = (h.names x).control;
                buffers = (h.names x).buffers;
                views =
                    (h.names x).views;
              };
        };
    field = ap (λ q. cond q m (t.scene.fields f)) (eq-eqb f f refl);
  }

  second_has : (m n : ℤ) (t : State) → Has m t → IfSome (second n t) (Has m)
  second_has m n t h =
      let deep = on_scene (with_control i n) t in
      if_both (Stays t) (HasField f t) (Has m) (second n t)
      (turn_stays i (run world c) n t h.stays.sound)
      (if_map (HasField f deep) (HasField f t) (run world c deep) (left t) (may.leaves deep)
      (λ u e. e))
      (λ u z e. record {
        stays =
            record { sound = z.sound; names = λ x. name_on x s t u (h.stays.names x) (z.names x) };
        field = e ∙ h.field;
      })

  module _ (m : ℤ) (is : (t : State)
      → written (argument_number s.scene a) t ≡ Some (on_scene (with_field f m) t)) where
    one_later : (n : ℤ) (t : State) → Has m t → one n t ≡ second n t
    one_later n t h = one_is n t h.stays ∙ ap (λ o. then_do o (second n)) (is t)
        ∙ ap (second n) (has_own m t h)

    ones : (ns : List ℤ) (t : State) → Has m t → turns one ns t ≡ turns second ns t
    ones [] t h = refl
    ones (n ∷ ns) t h = ap (λ o. then_do o (turns one ns)) (one_later n t h)
        ∙ then_cong_if (Has m) (second n t) (turns one ns) (turns second ns) (second_has m n t h)
        (ones ns)

    firsts : (ns : List ℤ) (t : State) → Has m t → turns first ns t ≡ Some t
    firsts [] t h = refl
    firsts (n ∷ ns) t h = ap (λ o. then_do o (turns first ns))
        (first_is n t h.stays ∙ is t ∙ ap Some (has_own m t h)) ∙ firsts ns t h

    some_turn : (n : ℤ) (ns : List ℤ) → Stays s s
        → turns one (n ∷ ns) s ≡ then_do (turns first (n ∷ ns) s) (turns second (n ∷ ns))
    some_turn n ns h =
        let set = on_scene (with_field f m) s in
        let has = set_has m s h in
        ap (λ o. then_do o (turns one ns)) (one_is n s h ∙ ap (λ o. then_do o (second n)) (is s))
        ∙ then_cong_if (Has m) (second n set) (turns one ns) (turns second ns)
        (second_has m n set has) (ones ns)
        ∙ sym (ap (λ o. then_do o (turns second (n ∷ ns)))
        (ap (λ o. then_do o (turns first ns)) (first_is n s h ∙ is s) ∙ firsts ns set has))

  all_turns : (ns : List ℤ) → turns one ns s ≡ then_do (turns first ns s) (turns second ns)
  all_turns [] = refl
  all_turns (n ∷ ns) = go (argument_number s.scene a) refl
    where
      start : Stays s s
      start = record { sound = may.sound; names = λ x. name_same x s }

      faults : ((t : State) → written (argument_number s.scene a) t ≡ None)
          → turns one (n ∷ ns) s ≡ then_do (turns first (n ∷ ns) s) (turns second (n ∷ ns))
      faults is =
          ap (λ o. then_do o (turns one ns))
          (one_is n s start ∙ ap (λ o. then_do o (second n)) (is s))
          ∙ sym (ap (λ o. then_do (then_do o (turns first ns)) (turns second (n ∷ ns)))
          (first_is n s start ∙ is s))

      at_kind : (m : ℤ) → argument_number s.scene a ≡ Some m → (q : Bool)
          → suits (world.kinds f) m ≡ q
          → turns one (n ∷ ns) s ≡ then_do (turns first (n ∷ ns) s) (turns second (n ∷ ns))
      at_kind m e false j = faults
          (λ t. ap (λ o. written o t) e
          ∙ ap (λ q. where_true q (Some (on_scene (with_field f m) t))) j)
      at_kind m e true j = some_turn m
          (λ t. ap (λ o. written o t) e
          ∙ ap (λ q. where_true q (Some (on_scene (with_field f m) t))) j) n ns start

      go : (o : Option ℤ) → argument_number s.scene a ≡ o
          → turns one (n ∷ ns) s ≡ then_do (turns first (n ∷ ns) s) (turns second (n ∷ ns))
      go None e = faults (λ t. ap (λ o. written o t) e)
      go (Some m) e = at_kind m e (suits (world.kinds f) m) refl

pub written_first_law : WrittenFirstLaw
written_first_law world k f a c r s may moves =
    let ns = turns_of s.scene k.lo k.hi in
    let i = k.binder.id in
    let plain = and_parts (is_plain k.lo) (is_plain k.hi) may.plain in
    let firsts = turns (turn i (run world (next (Config f a) end))) ns s in
    then_some (turns (turn i (run world (next (Config f a) c))) ns s)
    ∙ all_turns world k f a c s may ns
    ∙ then_cong_if (Stays s) firsts (turns (turn i (run world c)) ns)
    (run world (next (re_statement r (For k.binder k.lo k.hi c)) end))
    (turns_stay_so i (run world (next (Config f a) end)) ns s may.sound) (λ t h.
    let lo_is = plain_same k.lo t.scene s.scene plain.0 (λ x e. sym (h.names x).control) in
    let hi_is = plain_same k.hi t.scene s.scene plain.1 (λ x e. sym (h.names x).control) in
    ap (λ ms. turns (turn i (run world c)) ms t)
    (sym (ap₂ (λ m n. range m (count (n -ℤ m))) lo_is hi_is))
    ∙ sym (then_some (step world (re_statement r (For k.binder k.lo k.hi c)) t)
    ∙ copy_law r world k.binder k.lo k.hi c t h.sound
    (moves_on r (IsUnbound s) (IsUnbound t) (λ x z. unbound_on s t x (h.names x) z) moves)))
