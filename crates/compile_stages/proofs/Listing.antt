-- What is printed: each entry is that of its number, and there are no more of them than procedures.
use Rattle.std.proofs.Common.{◌≡◌, ◌<◌, ◌≤◌, ◌+◌, ◌&&◌, ◌||◌, ℕ, zero, suc, Bool, true, false, not, true≢false, List, [], ◌∷◌, ◌++◌, append_assoc, length, map, replicate, drop, get_or, drop-cons, subst, ◌==◌, slice_get, Option, Some, None, refl, sym, ap, ap₂, ◌∙◌, arith, if◌then◌else◌}
use Rattle.exo_tree.specs.Tree.{Procedure, Program}
use Rattle.exo_tree.specs.Calls.{calls}
use Rattle.exo_tree.specs.declared.number.ProcId.{ProcId}
use Rattle.exo_modes.specs.Calls.Closed.{closed}
use Rattle.exo_modes.specs.Calls.Marked.{contains, Marked, Reached}
use Rattle.exo_tree.proofs.Trees.{drop_of_map}
use Rattle.exo_modes.proofs.OfCalls.Sets.{marked_none, marked_then}
use Rattle.std.specs.Option.{is_some}
use Rattle.std.proofs.lemmas.List.{drop_all}
use Rattle.exo_modes.specs.Calls.Passed.{is_function}
use Rattle.c_lowering.specs.Made.LoweredUnit.{Printing}
use Rattle.c_unit_laws.specs.Listings.{printings_from}
use Rattle.schedule_laws.specs.Versions.Versions.{Versions}
use Rattle.compile_stages.specs.Printings.{printing_of, is_emitted, printings_of}

pub nothing_there : {A : Type 0} {x : A} → None ≡ Some x → ⊥
nothing_there e = cc

pub some_is : {A : Type 0} {x y : A} → Some x ≡ Some y → x ≡ y
some_is e = cc

own : (reached : ℕ → Bool) (print : ℕ → Printing) → ((j : ℕ) → (print j).proc ≡ j) → (k : ℕ) (ps : List Procedure) (i : ℕ) (w : Printing)
    → slice_get (printings_from reached print k ps) i ≡ Some w → w ≡ print w.proc
own reached print numbered k [] zero w e = absurd (nothing_there e)
own reached print numbered k [] (suc i) w e = absurd (nothing_there e)
own reached print numbered k (p ∷ ps) i w e = go (own reached print numbered (suc k) ps) (reached k && is_function p) i e
  where
    go : ((j : ℕ) (v : Printing) → slice_get (printings_from reached print (suc k) ps) j ≡ Some v → v ≡ print v.proc) → (t : Bool) (j : ℕ)
        → slice_get (if t then print k ∷ printings_from reached print (suc k) ps else printings_from reached print (suc k) ps) j ≡ Some w → w ≡ print w.proc
    go later true zero f = let same = some_is f in sym same ∙ ap print (sym (numbered k) ∙ ap (λ (z : Printing). z.proc) same)
    go later true (suc j) f = later j w f
    go later false j f = later j w f

pub own_printing : (v : Versions) (k : ℕ) (w : Printing) → slice_get (printings_of v) k ≡ Some w
    → w ≡ printing_of v w.proc
own_printing v k w e =
    own (closed is_function (is_emitted v.emitted) 0 v.unit.procedures) (printing_of v) (λ j. refl) 0
    v.unit.procedures k w e

no_more : (reached : ℕ → Bool) (print : ℕ → Printing) (k : ℕ) (ps : List Procedure) → length (printings_from reached print k ps) ≤ length ps
no_more reached print k [] = omega arith
no_more reached print k (p ∷ ps) = go (reached k && is_function p) (no_more reached print (suc k) ps)
  where
    go : (t : Bool) → length (printings_from reached print (suc k) ps) ≤ length ps
        → length (if t then print k ∷ printings_from reached print (suc k) ps else printings_from reached print (suc k) ps) ≤ suc (length ps)
    go true h = omega (arith, h)
    go false h = omega (arith, h)

pub few_printings : (v : Versions) → length (printings_of v) ≤ length v.unit.procedures
few_printings v =
    no_more (closed is_function (is_emitted v.emitted) 0 v.unit.procedures) (printing_of v) 0
    v.unit.procedures

-- where two sets have the same of the procedures, so many are printed
pub same_printings : (one other : ℕ → Bool) (print : ℕ → Printing) (k : ℕ) (ps : List Procedure) → ((j : ℕ) → j < k + length ps → one j ≡ other j)
    → printings_from one print k ps ≡ printings_from other print k ps
same_printings one other print k [] same = refl
same_printings one other print k (p ∷ ps) same =
    ap₂ (λ (t : Bool) (l : List Printing). if t && is_function p then print k ∷ l else l) (same k (omega arith))
    (same_printings one other print (suc k) ps (λ j h. same j (omega (arith, h))))

-- ---- which are reached, as in c_printer/proofs/Agreed

abbrev Same : ℕ → (ℕ → Bool) → (ℕ → Bool) → Type 0
Same n one other = (j : ℕ) → j < n → one j ≡ other j

closed_same : (n : ℕ) (through : Procedure → Bool) (seeds more : ℕ → Bool) → Same n seeds more → (k : ℕ) (ps : List Procedure) → k + length ps ≤ n → (j : ℕ) → j < n
    → closed through seeds k ps j ≡ closed through more k ps j
closed_same n through seeds more same k [] h j l = same j l
closed_same n through seeds more same k (p ∷ ps) h j l =
    let above = closed_same n through seeds more same (suc k) ps (omega (arith, h)) in
    ap₂ (λ a b. a || (b && calls j p.body)) (above j l) (ap (λ a. a && through p) (above k (omega (arith, h))))

none_in : (n k : ℕ) → contains (replicate n false) k ≡ false
none_in zero k = refl
none_in (suc n) zero = refl
none_in (suc n) (suc k) = none_in n k

pub length_none : (n : ℕ) → length (replicate n false) ≡ n
length_none zero = refl
length_none (suc n) = ap suc (length_none n)

-- what is reached from the emitted versions
pub reached_is : (emitted : List ℕ) (ps : List Procedure) (n : ℕ) (set new : List Bool) → n ≡ length ps → Marked (is_emitted emitted) (replicate n false) set → Reached is_function ps set new
    → (k : ℕ) → k < n → contains new k ≡ closed is_function (is_emitted emitted) 0 ps k
reached_is emitted ps n set new count marked reached k h =
    let long = marked.same_length ∙ length_none n in
    reached.each k (omega (arith, long, h))
    ∙ closed_same n is_function (contains set) (is_emitted emitted)
    (λ j l. marked.each j (let e = length_none n in omega (arith, e, l)) ∙ ap (λ t. t || is_emitted emitted j) (none_in n j))
    0 ps (omega (arith, count)) k h

-- ---- one procedure more

pub behind : {X : Type 0} (plain : X → Procedure) (xs : List X) (ys : List Procedure) (k : ℕ) (x : X) → map plain xs ≡ ys → k < length xs → x ≡ get_or xs k x → drop k ys ≡ plain x ∷ drop (k + 1) ys
behind plain xs ys k x is h at =
    subst (λ l. drop k l ≡ plain x ∷ drop (k + 1) l) is
    (drop_of_map plain xs k x h ∙ ap (λ z. plain z ∷ drop (k + 1) (map plain xs)) (sym at))

module _ (marked : ℕ → Bool) (print : ℕ → Printing) (k : ℕ) (front new all : List Printing) where
  by_test : (p : Procedure) (ps qs : List Procedure) (t : Bool) → qs ≡ p ∷ ps → (marked k && is_function p) ≡ t → front ++ printings_from marked print k qs ≡ all
      → front ++ (if t then print k ∷ printings_from marked print (k + 1) ps else printings_from marked print (k + 1) ps) ≡ all
  by_test p ps qs t is test h =
      let more : k + 1 ≡ suc k = omega arith in
      ap₂ (λ (b : Bool) (j : ℕ). front ++ (if b then print k ∷ printings_from marked print j ps else printings_from marked print j ps)) (sym test) more
      ∙ (ap (λ l. front ++ printings_from marked print k l) (sym is) ∙ h)

  -- it is printed
  pub one_printed : (p : Procedure) (ps qs : List Procedure) → qs ≡ p ∷ ps → (marked k && is_function p) ≡ true → new ≡ front ++ print k ∷ [] → front ++ printings_from marked print k qs ≡ all
      → new ++ printings_from marked print (k + 1) ps ≡ all
  one_printed p ps qs is test made h =
      ap (λ l. l ++ printings_from marked print (k + 1) ps) made
      ∙ (append_assoc front (print k ∷ []) (printings_from marked print (k + 1) ps) ∙ by_test p ps qs true is test h)

  -- it is not
  pub none_printed : (p : Procedure) (ps qs : List Procedure) → qs ≡ p ∷ ps → (marked k && is_function p) ≡ false → new ≡ front → front ++ printings_from marked print k qs ≡ all
      → new ++ printings_from marked print (k + 1) ps ≡ all
  none_printed p ps qs is test same h = ap (λ l. l ++ printings_from marked print (k + 1) ps) same ∙ by_test p ps qs false is test h

-- ---- one emitted version more

abbrev pub numbers_of : List ProcId → List ℕ
numbers_of ks = map (λ k. k.0) ks

pub emitted_then : (emitted : List ProcId) (i : ℕ) (d : ProcId) (old mid new : List Bool)
    → i < length emitted → Marked (λ k. k == (get_or emitted i d).0) old mid
    → Marked (is_emitted (numbers_of (drop (i + 1) emitted))) mid new
    → Marked (is_emitted (numbers_of (drop i emitted))) old new
emitted_then emitted i d old mid new h one rest =
    let more : i + 1 ≡ suc i = omega arith in
    let parts : drop i emitted ≡ get_or emitted i d ∷ drop (i + 1) emitted =
    drop-cons emitted i d h ∙ ap (λ j. get_or emitted i d ∷ drop j emitted) (sym more) in
    subst (λ l. Marked (is_emitted (numbers_of l)) old new) (sym parts)
    (marked_then (λ k. k == (get_or emitted i d).0) (is_emitted (numbers_of (drop (i + 1) emitted))) old mid new one rest)

pub emitted_end : (emitted : List ProcId) (i : ℕ) (set : List Bool) → length emitted ≤ i
    → Marked (is_emitted (numbers_of (drop i emitted))) set set
emitted_end emitted i set h =
    subst (λ l. Marked (is_emitted (numbers_of l)) set set) (sym (drop_all i emitted h)) (marked_none set)

-- ---- what is no instruction

pub function_is : (o : Option (List ℕ)) (t : Bool) → is_some o ≡ not t → t ≡ (elim o [ None ↦ true | Some text ↦ false ])
function_is None true e = refl
function_is None false e = absurd (true≢false (sym e))
function_is (Some text) true e = absurd (true≢false e)
function_is (Some text) false e = refl

pub both_on : (h a r b : Bool) → h ≡ a → h ≡ true → r ≡ b → r ≡ (a && b)
both_on h true r b e t s = s
both_on h false r b e t s = absurd (true≢false (sym t ∙ e))

pub both_off : (h a b : Bool) → h ≡ a → h ≡ false → false ≡ (a && b)
both_off h true b e f = absurd (true≢false (sym e ∙ f))
both_off h false b e f = refl
