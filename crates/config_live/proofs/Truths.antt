-- Truth values of ways.
use Rattle.std.proofs.Common.{◌≡◌, Bool, true, false, cond, ◌&&◌, ◌||◌, refl, sym, ◌∙◌}
use Rattle.std.specs.Prelude.{not}

pub or_none : (t : Bool) → (t || false) ≡ t
or_none true = refl
or_none false = refl

pub or_all : (t : Bool) → (t || true) ≡ true
or_all true = refl
or_all false = refl

pub and_all : (t : Bool) → (t && true) ≡ t
and_all true = refl
and_all false = refl

pub and_none : (t : Bool) → (t && false) ≡ false
and_none true = refl
and_none false = refl

pub or_more : (a b c : Bool) → ((a || b) || c) ≡ (a || (b || c))
or_more true b c = refl
or_more false b c = refl

pub one_of_none : (t : Bool) → cond t false false ≡ false
one_of_none true = refl
one_of_none false = refl

-- read before the first part or in the second one, where neither was hidden
pub read_then : (held r s w before : Bool)
    → ((held || (r && not before)) || (s && not (before || w)))
    ≡ (held || ((r || (s && not w)) && not before))
read_then true r s w before = refl
read_then false true s w true = and_none s
read_then false true s w false = refl
read_then false false true w true = refl'
  where
    refl' : (true && not (true || w)) ≡ ((true && not w) && not true)
    refl' = go w
      where
        go : (w : Bool) → (true && not (true || w)) ≡ ((true && not w) && not true)
        go true = refl
        go false = refl
read_then false false true true false = refl
read_then false false true false false = refl
read_then false false false w before = refl

-- newly written in the first part or in the second one
pub added_then : (held v w before : Bool)
    → ((held || (v && not before)) || (w && not (before || v)))
    ≡ (held || ((v || w) && not before))
added_then true v w before = refl
added_then false true w true = and_none w
added_then false true true false = refl
added_then false true false false = refl
added_then false false true true = refl
added_then false false true false = refl
added_then false false false before = refl

-- what was newly written is taken back
pub taken_back : (w before : Bool) → ((before || w) && not (w && not before)) ≡ (before || false)
taken_back true true = refl
taken_back true false = refl
taken_back false true = refl
taken_back false false = refl

-- and the list of it, from an empty one
pub listed_new : (w before : Bool) → (false || (w && not before)) ≡ (w && not before)
listed_new w before = refl

pub or_swap : (a b : Bool) → (a || b) ≡ (b || a)
or_swap true true = refl
or_swap true false = refl
or_swap false true = refl
or_swap false false = refl

-- both branches write: the first newly, and the second behind what was written before
pub meet : (v w before : Bool)
    → (((v && not before) && (before || w)) && not before) ≡ ((v && w) && not before)
meet true true true = refl
meet true true false = refl
meet true false true = refl
meet true false false = refl
meet false w before = refl

pub up_to : (before v w : Bool) → (v && not before) ≡ (w && not before)
    → (before || v) ≡ (before || w)
up_to true v w e = refl
up_to false v w e = sym (and_all v) ∙ e ∙ and_all w
