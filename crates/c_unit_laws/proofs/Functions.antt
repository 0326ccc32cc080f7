-- The functions and fields of a file by their names.
use Rattle.std.proofs.Common.{◌≡◌, ◌<◌, ℕ, zero, suc, Bool, true, false, ◌||◌, cond, List, [], ◌∷◌, ◌++◌, take, Option, Some, None, refl, sym, ap, ◌∙◌, subst, true≢false, slice_get}
use Rattle.exo_tree.specs.Tree.{Procedure, Program}
use Rattle.exo_tree.specs.Named.{name_of}
use Rattle.c_tree.specs.Names.Words.{Name, same_name, is_in, is_word}
use Rattle.c_tree.specs.Names.Clash.{first_clash}
use Rattle.c_tree.specs.CTree.{CFunction}
use Rattle.c_unit_laws.specs.Follows.Machine.Machine.{Thing, IsField, IsFunction, named}
use Rattle.c_unit_laws.specs.Follows.Machine.CRun.{Behaviour, CWorld, behaviour, all_named}
use Rattle.c_unit_laws.specs.Follows.Machine.CRun.{names_of_functions, globals_of, with_functions}
use Rattle.c_lowering.specs.Made.LoweredUnit.{Printing, field_name, named_field}
use Rattle.c_lowering.specs.Made.LoweredUnit.{function_at, functions_of, printed_names, fields_of}
use Rattle.c_lowering.specs.Made.LoweredUnit.{global_names, lowered}
use Rattle.c_unit_laws.specs.Follows.Grounds.{declared_in, function_in}
use Rattle.c_unit_laws.proofs.Spelling.{same_self, names_equal}
use Rattle.c_unit_laws.proofs.Free.{or_false}
use Rattle.c_unit_laws.proofs.Names.{clash_parts, in_front, in_rear, field_listed}
use Rattle.c_unit_laws.proofs.Standing.{none_some, some_same, get_taken, take_shorter}

-- ---- names

-- another name than all of a list
not_first : (x y : Name) (xs : List Name) → is_in (y ∷ xs) x ≡ false → same_name x y ≡ false
not_first x y xs h = go (same_name x y) refl
  where
    go : (t : Bool) → same_name x y ≡ t → t ≡ false
    go false e = refl
    go true e = absurd (true≢false (sym (ap (λ z. same_name z x) (sym (names_equal x y e)) ∙ same_self x) ∙ (or_false (same_name y x) (is_in xs x) h).0))

all_here : (xs : List Name) (t : Thing) (names : Name → Option Thing) (x : Name) → is_in xs x ≡ true → all_named xs t names x ≡ Some t
all_here [] t names x h = absurd (true≢false (sym h))
all_here (y ∷ xs) t names x h = go (all_here xs t names x) (same_name x y) refl
  where
    turned : same_name x y ≡ false → same_name y x ≡ false
    turned e = other (same_name y x) refl
      where
        other : (s : Bool) → same_name y x ≡ s → s ≡ false
        other false d = refl
        other true d = absurd (true≢false (sym (ap (same_name x) (names_equal y x d) ∙ same_self x) ∙ e))

    rest : (s : Bool) → s ≡ false → (s || is_in xs x) ≡ true → is_in xs x ≡ true
    rest true e i = absurd (true≢false e)
    rest false e i = i

    go : (is_in xs x ≡ true → all_named xs t names x ≡ Some t) → (s : Bool) → same_name x y ≡ s → cond s (Some t) (all_named xs t names x) ≡ Some t
    go later true e = refl
    go later false e = later (rest (same_name y x) (turned e) h)

none_here : (xs : List Name) (t : Thing) (names : Name → Option Thing) (x : Name) → is_in xs x ≡ false → all_named xs t names x ≡ names x
none_here [] t names x h = refl
none_here (y ∷ xs) t names x h = ap (λ s. cond s (Some t) (all_named xs t names x)) (not_first x y xs h) ∙ none_here xs t names x (or_false (same_name y x) (is_in xs x) h).1

-- no name of the front stands in the rear
front_only : (xs ys : List Name) (x : Name) → first_clash (xs ++ ys) ≡ None → is_in xs x ≡ true → is_in ys x ≡ false
front_only [] ys x h i = absurd (true≢false (sym i))
front_only (y ∷ xs) ys x h i = go (front_only xs ys x p.2) (same_name y x) refl i
  where
    p : (is_word y ≡ false) × (is_in (xs ++ ys) y ≡ false) × (first_clash (xs ++ ys) ≡ None)
    p = clash_parts y (xs ++ ys) h

    rear : same_name y x ≡ true → (t : Bool) → is_in ys x ≡ t → t ≡ false
    rear e false d = refl
    rear e true d = absurd (true≢false (sym (in_rear xs ys x d) ∙ (ap (is_in (xs ++ ys)) (sym (names_equal y x e)) ∙ p.1)))

    go : (is_in xs x ≡ true → is_in ys x ≡ false) → (t : Bool) → same_name y x ≡ t → (t || is_in xs x) ≡ true → is_in ys x ≡ false
    go later true e j = rear e (is_in ys x) refl
    go later false e j = later j

-- ---- globals

name_is : (program : Program) (globals : List Name) (o : Option Procedure) → (function_at program globals o).name ≡ name_of o
name_is program globals None = refl
name_is program globals (Some p) = refl

pub function_names : (program : Program) (globals : List Name) (what : List Printing) → names_of_functions (functions_of program globals what) ≡ printed_names program what
function_names program globals [] = refl
function_names program globals (w ∷ what) = ap (λ x. x ∷ names_of_functions (functions_of program globals what)) (name_is program globals (slice_get program.procedures w.proc)) ∙ ap (λ xs. name_of (slice_get program.procedures w.proc) ∷ xs) (function_names program globals what)

module _ (program : Program) (what : List Printing) (clear : first_clash (global_names program what) ≡ None) where
  pub field_global : (f : ℕ) → declared_in program what f ≡ true → globals_of (lowered program what) (named_field field_name program.fields f) ≡ Some IsField
  field_global f h = all_here (fields_of program what) IsField _ (named_field field_name program.fields f) (field_listed program what f h)

  pub function_global : (x : Name) → function_in program what x ≡ true → globals_of (lowered program what) x ≡ Some IsFunction
  function_global x h =
      let fns = functions_of program (global_names program what) what in
      none_here (fields_of program what) IsField (all_named (names_of_functions fns) IsFunction (λ y. None)) x (front_only (printed_names program what) (fields_of program what) x clear h)
      ∙ all_here (names_of_functions fns) IsFunction (λ y. None) x (ap (λ xs. is_in xs x) (function_names program (global_names program what) what) ∙ h)

-- ---- functions by name

-- each name stands once
abbrev pub AreOnce : List Name → Type 0
AreOnce [] = Unit {0}
AreOnce (x ∷ xs) = (is_in xs x ≡ false) × AreOnce xs

once_front : (xs ys : List Name) → first_clash (xs ++ ys) ≡ None → AreOnce xs
once_front [] ys h = tt
once_front (x ∷ xs) ys h = let p = clash_parts x (xs ++ ys) h in (go (is_in xs x) refl p.1, once_front xs ys p.2)
  where
    go : (t : Bool) → is_in xs x ≡ t → is_in (xs ++ ys) x ≡ false → t ≡ false
    go false e i = refl
    go true e i = absurd (true≢false (sym (in_front xs ys x e) ∙ i))

not_taken : (fs : List CFunction) (n : ℕ) (x : Name) → is_in (names_of_functions fs) x ≡ false → is_in (names_of_functions (take n fs)) x ≡ false
not_taken fs zero x h = refl
not_taken [] (suc n) x h = refl
not_taken (f ∷ fs) (suc n) x h =
    let p = or_false (same_name f.name x) (is_in (names_of_functions fs) x) h in
    both (same_name f.name x) (is_in (names_of_functions (take n fs)) x) p.0 (not_taken fs n x p.1)
  where
    both : (a b : Bool) → a ≡ false → b ≡ false → (a || b) ≡ false
    both false false e i = refl
    both true b e i = absurd (true≢false e)
    both false true e i = absurd (true≢false i)

once_taken : (fs : List CFunction) (n : ℕ) → AreOnce (names_of_functions fs) → AreOnce (names_of_functions (take n fs))
once_taken fs zero h = tt
once_taken [] (suc n) h = tt
once_taken (f ∷ fs) (suc n) h = (not_taken fs n f.name h.0, once_taken fs n h.1)

module _ (globals : Name → Option Thing) (templates : ℕ → Option Behaviour) where
  abbrev WorldOf : (Name → Option Behaviour) → CWorld
  WorldOf above = record { globals = globals; functions = above; instructions = templates }

  stays : (fs : List CFunction) (above : Name → Option Behaviour) (x : Name) → is_in (names_of_functions fs) x ≡ false → with_functions globals templates above fs x ≡ above x
  stays [] above x h = refl
  stays (f ∷ fs) above x h =
      stays fs (named above f.name (Some (behaviour (WorldOf above) f))) x (or_false (same_name f.name x) (is_in (names_of_functions fs) x) h).1
      ∙ ap (λ s. cond s (Some (behaviour (WorldOf above) f)) (above x)) (not_first x f.name (names_of_functions fs) h)

  found : (fs : List CFunction) (above : Name → Option Behaviour) (i : ℕ) (f : CFunction) → AreOnce (names_of_functions fs) → slice_get fs i ≡ Some f → with_functions globals templates above fs f.name ≡ Some (behaviour (WorldOf (with_functions globals templates above (take i fs))) f)
  found [] above zero f h e = absurd (none_some e)
  found [] above (suc i) f h e = absurd (none_some e)
  found (f ∷ fs) above zero d h e = subst (λ z. with_functions globals templates above (f ∷ fs) z.name ≡ Some (behaviour (WorldOf above) z)) (some_same e) (stays fs (named above f.name (Some (behaviour (WorldOf above) f))) f.name h.0 ∙ ap (λ s. cond s (Some (behaviour (WorldOf above) f)) (above f.name)) (same_self f.name))
  found (f ∷ fs) above (suc i) d h e = found fs (named above f.name (Some (behaviour (WorldOf above) f))) i d h.1 e

  -- a function finds those above it
  pub found_above : (fs : List CFunction) (n i : ℕ) (f : CFunction) → AreOnce (names_of_functions fs) → i < n → slice_get fs i ≡ Some f → with_functions globals templates (λ x. None) (take n fs) f.name ≡ Some (behaviour (WorldOf (with_functions globals templates (λ x. None) (take i fs))) f)
  found_above fs n i f h b e =
      found (take n fs) (λ x. None) i f (once_taken fs n h) (get_taken fs n i b ∙ e)
      ∙ ap (λ l. Some (behaviour (WorldOf (with_functions globals templates (λ x. None) l)) f)) (take_shorter fs n i b)

pub functions_once : (program : Program) (what : List Printing) → first_clash (global_names program what) ≡ None → AreOnce (names_of_functions (lowered program what).functions)
functions_once program what h = subst AreOnce (sym (function_names program (global_names program what) what)) (once_front (printed_names program what) (fields_of program what) h)
