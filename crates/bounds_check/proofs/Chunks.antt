-- What chunks of claims owe, one after the other, is what the claims owe together.
use Rattle.std.proofs.Common.{◌≡◌, ℕ, zero, suc, ◌+◌, ◌*◌, ◌/◌, ◌%◌, ◌<◌, ◌≤◌, nat_le, min, Bool, true, false, List, [], ◌∷◌, ◌++◌, map, take, drop, length, get_or, flat_map, IfOk, IsOk, Option, Some, None, Result, Ok, Err, Vec, Global, append-nil, append_assoc, length-append, refl, ap, sym, ◌∙◌, subst, arith}
use native.Mathlib.Nat.{suc-mul, zero-mul, add-mul, one-mul}
use Rattle.std.specs.Fork.{slice_chunk}
use Rattle.std.specs.List.{list_all}
use Rattle.std.proofs.Math.Seq.{take-add, take-suc}
use Rattle.std.proofs.lemmas.List.{take_all, map-append, take-append-drop}
use Rattle.std.proofs.lemmas.List.Folds.{list_all-append}
use Rattle.std.proofs.lemmas.List.Sums.{sum_by-append}
use Rattle.std.proofs.lemmas.Grind.{flat_map-append}
use Rattle.std.proofs.lemmas.Nat.{div-add-mod', mod_below}
use Rattle.std.proofs.lemmas.Bool.{cases_lt, and_parts, and_from}
use Rattle.std.proofs.lemmas.Bool.Decides.{nat_tests}
use mathlib.Core.Logic.{⊎_elim}
use Rattle.exo_tree.specs.Tree.{Procedure, Program}
use Rattle.affine_systems.specs.Limits.{system_terms, terms_in, are_within}
use Rattle.affine_systems.specs.Outcomes.{Owed, plain_obligation}
use Rattle.affine_systems.specs.declared.obligation.Obligation.{Obligation}
use Rattle.check_claims.specs.Claim.{Placed}
use Rattle.bounds_check.specs.Chunks.{listed_in}
use Rattle.bounds_check.specs.Obligations.{Fault, owed_for, owed_for_all, unless_refused, claim_fault, first_fault}
use Rattle.bounds_check.specs.Outcomes.{AreOwedFor}
use Rattle.bounds_check.specs.declared.error.CheckError.{CheckError}
use Rattle.bounds_check.proofs.Groups.{faults_on}

-- ---- lists

-- so many chunks are enough
enough : (count len size : ℕ) → 0 < size → count ≡ len / size + min 1 (len % size) → len ≤ count * size
enough count len size p is =
    let q = len / size in
    let r = len % size in
    let a : q * size + r ≡ len = div-add-mod' len size in
    let b : r < size = mod_below len size p in
    ⊎_elim
    (λ h. let e : count ≡ q + 1 = omega arith in let w = ap (λ n. n * size) e ∙ add-mul q 1 size in let o = one-mul size in omega arith)
    (λ h. let e : count ≡ q = omega arith in let w = ap (λ n. n * size) e in omega arith)
    (cases_lt 0 r)

-- what passes the whole passes a part
pub part_passes : {A B : Type 0} (f : A → B) (good : B → Bool) (xs part : List A) (size start : ℕ) → part ≡ take size (drop start xs)
    → list_all good (map f xs) ≡ true → list_all good (map f part) ≡ true
part_passes {A} {B} f good xs part size start is h =
    ap (λ ys. list_all good (map f ys)) is
    ∙ (two (take size (drop start xs)) (drop size (drop start xs))
    (ap (λ ys. list_all good (map f ys)) (take-append-drop size (drop start xs))
    ∙ (two (take start xs) (drop start xs) (ap (λ ys. list_all good (map f ys)) (take-append-drop start xs) ∙ h)).1)).0
  where
    two : (xs ys : List A) → list_all good (map f (xs ++ ys)) ≡ true → (list_all good (map f xs) ≡ true) × (list_all good (map f ys) ≡ true)
    two xs ys k =
        and_parts (list_all good (map f xs)) (list_all good (map f ys))
        (sym (list_all-append good (map f xs) (map f ys)) ∙ ap (list_all good) (sym (map-append f xs ys)) ∙ k)

-- ---- within the limits

least : (m n : ℕ) → nat_le m n ≡ true → m ≤ n
least m n h = grind (arith, nat_tests)

most : (m n : ℕ) → m ≤ n → nat_le m n ≡ true
most m n h = grind (arith, nat_tests)

-- what is within the limits is so without its end
within_front : (xs ys : List Owed) → are_within (xs ++ ys) ≡ true → are_within xs ≡ true
within_front xs ys h =
    let p = and_parts (nat_le (length (xs ++ ys)) 65536) (nat_le (terms_in (xs ++ ys)) 4194304) h in
    let items = least (length (xs ++ ys)) 65536 p.0 in
    let terms = least (terms_in (xs ++ ys)) 4194304 p.1 in
    let more = sum_by-append (λ (o : Owed). system_terms o.system) xs ys in
    and_from (nat_le (length xs) 65536) (nat_le (terms_in xs) 4194304) (most (length xs) 65536 (omega (arith, items, length-append xs ys)))
    (most (terms_in xs) 4194304 (omega (arith, terms, more)))

module _ (u : Program) (p : Procedure) where
  -- ---- two parts

  -- that is owed for claims without a fault
  abbrev pub IsOwedFor : List Owed → List Placed → Type 0
  IsOwedFor os cs = (first_fault u p [] cs ≡ None) × (os ≡ owed_for_all u p cs)

  -- where all is within the limits, claims without a fault have none behind others
  pub fine_behind : (os ws : List Owed) (cs : List Placed) → first_fault u p ws cs ≡ None
      → are_within (os ++ (ws ++ owed_for_all u p cs)) ≡ true → first_fault u p (os ++ ws) cs ≡ None
  fine_behind os ws [] h w = refl
  fine_behind os ws (c ∷ cs) h w =
      let here = owed_for u p c in
      let all : are_within (os ++ ((ws ++ here) ++ owed_for_all u p cs)) ≡ true =
      ap (λ l. are_within (os ++ l)) (append_assoc ws here (owed_for_all u p cs)) ∙ w in
      let these : are_within (os ++ (ws ++ here)) ≡ true =
      within_front (os ++ (ws ++ here)) (owed_for_all u p cs) (ap are_within (append_assoc os (ws ++ here) (owed_for_all u p cs)) ∙ all) in
      ap (λ l. unless_refused (claim_fault u p c) (are_within l) (first_fault u p l cs)) (append_assoc os ws here)
      ∙ by (claim_fault u p c) (are_within (ws ++ here)) (first_fault u p (ws ++ here) cs) (are_within (os ++ (ws ++ here)))
      (first_fault u p (os ++ (ws ++ here)) cs) h these (λ k. fine_behind os (ws ++ here) cs k all)
    where
      by : (f : Option Fault) (within : Bool) (rest : Option Fault) (now : Bool) (after : Option Fault) → unless_refused f within rest ≡ None
          → now ≡ true → (rest ≡ None → after ≡ None) → unless_refused f now after ≡ None
      by (Some f) within rest now after h e k = cc
      by None true rest now after h e k = ap (λ t. unless_refused None t after) e ∙ k h
      by None false rest now after h e k = cc

  pub joined_owed : (os ws : List Owed) (xs ys : List Placed) → IsOwedFor os xs → IsOwedFor ws ys → are_within (os ++ ws) ≡ true
      → IsOwedFor (os ++ ws) (xs ++ ys)
  joined_owed os ws xs ys h k w =
      let front = owed_for_all u p xs in
      let back = owed_for_all u p ys in
      let both : os ++ ws ≡ front ++ back = λ i. h.1 i ++ k.1 i in (
        faults_on u p [] xs ys h.0
            ∙ ap (λ l. first_fault u p l ys) (sym (append-nil front))
            ∙ fine_behind front [] ys k.0 (ap are_within (sym both) ∙ w),
        both ∙ sym (flat_map-append (owed_for u p) xs ys),
      )

  -- ---- chunks

  module _ {P X : Type 0} (part : P → List Owed) (f : X → Placed) (size : ℕ) (xs : List X) (lists : List P) (d : P)
      (each : (n : ℕ) → n < length lists → IsOwedFor (part (get_or lists n d)) (map f (slice_chunk xs size n))) where
    so_far : (n : ℕ) → n ≤ length lists → are_within (flat_map part (take n lists)) ≡ true
        → IsOwedFor (flat_map part (take n lists)) (map f (take (n * size) xs))
    so_far zero l w = subst (λ k. IsOwedFor [] (map f (take k xs))) (sym (zero-mul size)) (refl, refl)
    so_far (suc n) l w =
        let os = flat_map part (take n lists) in
        let ws = part (get_or lists n d) in
        let front = map f (take (n * size) xs) in
        let back = map f (slice_chunk xs size n) in
        let parts : flat_map part (take (suc n) lists) ≡ os ++ ws =
        ap (flat_map part) (take-suc lists n d (omega arith))
        ∙ flat_map-append part (take n lists) (get_or lists n d ∷ [])
        ∙ ap (λ l. os ++ l) (append-nil ws) in
        let within : are_within (os ++ ws) ≡ true = ap are_within (sym parts) ∙ w in
        let claims : front ++ back ≡ map f (take (suc n * size) xs) =
        sym (map-append f (take (n * size) xs) (slice_chunk xs size n))
        ∙ ap (map f) (sym (take-add (n * size) size xs))
        ∙ ap (λ k. map f (take k xs)) (more n) in
        subst (λ (it : List Owed × List Placed). IsOwedFor it.0 it.1) (λ i. (sym parts i, claims i))
        (joined_owed os ws front back (so_far n (omega arith) (within_front os ws within)) (each n (omega arith)) within)
      where
        more : (n : ℕ) → n * size + size ≡ suc n * size
        more n = omega (arith, suc-mul n size)

    all_chunks : 0 < size → length lists ≡ length xs / size + min 1 (length xs % size) → are_within (flat_map part lists) ≡ true
        → IsOwedFor (flat_map part lists) (map f xs)
    all_chunks q e w =
        let all : take (length lists) lists ≡ lists = take_all (length lists) lists (omega arith) in
        let claims : take (length lists * size) xs ≡ xs = take_all (length lists * size) xs (enough (length lists) (length xs) size q e) in
        subst (λ (it : List P × List X). IsOwedFor (flat_map part it.0) (map f it.1)) (λ i. (all i, claims i))
        (so_far (length lists) (omega arith) (ap (λ ls. are_within (flat_map part ls)) all ∙ w))

  -- ---- what the chunks gave

  there : (r : Result (Vec Obligation Global) CheckError) (cs : List Placed) → IsOk r → AreOwedFor r u p cs → IsOwedFor (listed_in r) cs
  there (Ok os) cs fine is = is
  there (Err e) cs fine is = let f : false ≡ true = fine in absurd (cc)

  module _ {X : Type 0} (f : X → Placed) (size : ℕ) (xs : List X) (lists : List (Result (Vec Obligation Global) CheckError))
      (some : 0 < size) (count : length lists ≡ length xs / size + min 1 (length xs % size))
      (each : (n : ℕ) (d : Result (Vec Obligation Global) CheckError) → n < length lists
      → AreOwedFor (get_or lists n d) u p (map f (slice_chunk xs size n))) where
    pub all_joined : (r : Result (Vec Obligation Global) CheckError)
        → IfOk r (λ os. map plain_obligation os.items ≡ flat_map listed_in lists)
        → IfOk r (λ _. are_within (flat_map listed_in lists) ≡ true)
        → IfOk r (λ _. (n : ℕ) (d : Result (Vec Obligation Global) CheckError) → n < length lists → IsOk (get_or lists n d))
        → IfOk r (λ _. AreOwedFor r u p (map f xs))
    all_joined (Err e) is within fine = tt
    all_joined (Ok os) is within fine =
        let d : Result (Vec Obligation Global) CheckError = Ok os in
        let all =
        all_chunks listed_in f size xs lists d
        (λ n l. there (get_or lists n d) (map f (slice_chunk xs size n)) (fine n d l) (each n d l)) some count within in
        (all.0, is ∙ all.1)
