-- What the chunks of a list give is what the list gives.
use Rattle.std.proofs.Common.{◌≡◌, ℕ, zero, suc, ◌+◌, ◌*◌, ◌/◌, ◌%◌, ◌<◌, ◌≤◌, min, List, [], ◌∷◌, ◌++◌, map, take, length, get_or, flat_map, IfOk, IsOk, Global, true, false, refl, ap, sym, ◌∙◌, arith}
use native.Mathlib.Nat.{suc-mul, zero-mul, add-mul, one-mul}
use Rattle.std.specs.Fork.{slice_chunk}
use Rattle.std.specs.declared.vec.Vec.{Vec}
use Rattle.std.specs.declared.alloc.AllocError.{AllocError}
use Rattle.std.specs.declared.result.Result.{Result}
use Rattle.std.specs.declared.result.Result.TheVariants.{Ok, Err}
use Rattle.ob_check.specs.declared.known.KnownSystem.{KnownSystem}
use Rattle.ob_check.specs.Systems.{known_in}
use Rattle.std.proofs.Math.Seq.{take-add, take-suc}
use Rattle.std.proofs.lemmas.List.{take_all, map-append}
use Rattle.std.proofs.lemmas.Grind.{flat_map-append}
use Rattle.std.proofs.lemmas.Nat.{div-add-mod', mod_below}
use Rattle.std.proofs.lemmas.Bool.{cases_lt}
use mathlib.Core.Logic.{⊎_elim}

-- so many chunks are enough
enough : (count len size : ℕ) → 0 < size → count ≡ len / size + min 1 (len % size) → len ≤ count * size
enough count len size p is =
    let q = len / size in
    let r = len % size in
    let a : q * size + r ≡ len = div-add-mod' len size in
    let b : r < size = mod_below len size p in
    ⊎_elim
    (λ h. let e : count ≡ q + 1 = omega arith in let w = ap (λ n. n * size) e ∙ add-mul q 1 size in let o = one-mul size in omega arith)
    (λ h. let e : count ≡ q = omega arith in let w = ap (λ n. n * size) e in omega arith)
    (cases_lt 0 r)

module _ {P K X Y : Type 0} (part : P → List K) (g : K → Y) (f : X → Y) (size : ℕ) (xs : List X) (rs : List P) (d : P)
    (each : (n : ℕ) → n < length rs → map g (part (get_or rs n d)) ≡ map f (slice_chunk xs size n)) where
  so_far : (n : ℕ) → n ≤ length rs → map g (flat_map part (take n rs)) ≡ map f (take (n * size) xs)
  so_far zero l = ap (λ k. map f (take k xs)) (sym (zero-mul size))
  so_far (suc n) l =
      ap (λ ps. map g (flat_map part ps)) (take-suc rs n d (omega arith))
      ∙ ap (map g) (flat_map-append part (take n rs) (get_or rs n d ∷ []))
      ∙ map-append g (flat_map part (take n rs)) (flat_map part (get_or rs n d ∷ []))
      ∙ ap (λ ys. ys ++ map g (flat_map part (get_or rs n d ∷ []))) (so_far n (omega arith))
      ∙ ap (λ ys. map f (take (n * size) xs) ++ ys) (one n (omega arith))
      ∙ sym (map-append f (take (n * size) xs) (slice_chunk xs size n))
      ∙ ap (map f) (sym (take-add (n * size) size xs))
      ∙ ap (λ k. map f (take k xs)) (more n)
    where
      more : (n : ℕ) → n * size + size ≡ suc n * size
      more n = omega (arith, suc-mul n size)

      one : (n : ℕ) → n < length rs → map g (flat_map part (get_or rs n d ∷ [])) ≡ map f (slice_chunk xs size n)
      one n h = ap (map g) (alone (part (get_or rs n d))) ∙ each n h
        where
          alone : {A : Type 0} (ls : List A) → ls ++ [] ≡ ls
          alone [] = refl
          alone (l ∷ ls) = ap (λ ms. l ∷ ms) (alone ls)

  pub all_chunks : 0 < size → length rs ≡ length xs / size + min 1 (length xs % size) → map g (flat_map part rs) ≡ map f xs
  all_chunks p e =
      sym (ap (λ ps. map g (flat_map part ps)) (take_all (length rs) rs (omega arith)))
      ∙ so_far (length rs) (omega arith)
      ∙ ap (map f) (take_all (length rs * size) xs (enough (length rs) (length xs) size p e))

-- two facts of what is there
pub if_both : {T E : Type 0} {P Q R : T → Type 0} (r : Result T E) → IfOk r P → IfOk r Q → ((x : T) → P x → Q x → R x) → IfOk r R
if_both (Ok x) p q f = f x p q
if_both (Err e) p q f = tt

pub known_by : {Y : Type 0} (g : KnownSystem → Y) (ys : List Y) (r : Result (Vec KnownSystem Global) AllocError) → IsOk r → IfOk r (λ v. map g v.items ≡ ys) → map g (known_in r) ≡ ys
known_by g ys (Ok v) there is = is
known_by g ys (Err e) there is = let f : false ≡ true = there in absurd (cc)
