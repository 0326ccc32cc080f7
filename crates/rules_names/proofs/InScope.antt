-- A table of names, each inserted once, is a scope.
use Rattle.std.proofs.Common.{◌≡◌, ℕ, ◌-◌, Bool, true, false, cond, List, [], ◌∷◌, ◌++◌, length, map, reverse, take, drop, Option, Some, None, option_map, refl, sym, ap, ◌∙◌, arith, if◌then◌else◌, Bor}
use Rattle.std.specs.List.{IsDistinct, AllByRecursion}
use Rattle.std.specs.Map.{lookup, keys_of}
use Rattle.std.specs.Str.{bytes_eq}
use Rattle.std.specs.Option.{option_or}
use Rattle.std.proofs.lemmas.List.{reverse-append, length-reverse, length-map, length-drop, map-append, take-append-drop}
use Rattle.std.proofs.Math.Seq.{drop-append_seam}
use Rattle.std.proofs.lemmas.Slice.Eq.{bytes_eq-Decides}
use Rattle.exo_meaning.specs.Units.{Named, Scope, is_text}
use Rattle.rules_names.specs.declared.scope.Meant.{Meant}
use Rattle.rules_names.specs.Names.{named_in}
use Rattle.rules_names.specs.Tables.{named}

abbrev pub Entry : Type 0
Entry = Bor (List ℕ) × Meant

abbrev pub seen : List Entry → Scope
seen es = reverse (map (λ e. named e.0.now e.1) es)

seen_cons : (e : Entry) (es : List Entry) → seen (e ∷ es) ≡ seen es ++ (named e.0.now e.1 ∷ [])
seen_cons e es = reverse-append (named e.0.now e.1 ∷ []) (map (λ e. named e.0.now e.1) es)

named_append : (a b : Scope) (x : List ℕ) → named_in (a ++ b) x ≡ option_or (named_in a x) (named_in b x)
named_append [] b x = refl
named_append (n ∷ a) b x = by (is_text n.binder.name x) (named_in (a ++ b) x) (named_in a x) (named_append a b x)
  where
    by : (t : Bool) (u v : Option Named) → u ≡ option_or v (named_in b x) → (if t then Some n else u) ≡ option_or (if t then Some n else v) (named_in b x)
    by true u v e = refl
    by false u v e = e

-- each way round, two names are the same or not
pub text_turned : (x y : List ℕ) → is_text x y ≡ bytes_eq y x
text_turned x y = by (bytes_eq x y) (bytes_eq y x) refl refl
  where
    by : (t u : Bool) → bytes_eq x y ≡ t → bytes_eq y x ≡ u → bytes_eq x y ≡ bytes_eq y x
    by true u p q = p ∙ sym ((bytes_eq-Decides y x).1 (sym ((bytes_eq-Decides x y).0 p)))
    by false true p q = (bytes_eq-Decides x y).1 (sym ((bytes_eq-Decides y x).0 q)) ∙ sym q
    by false false p q = p ∙ sym q

abbrev pub found : List ℕ → List Entry → Option Meant
found x es = lookup (λ k. bytes_eq x k.now) es

abbrev pub apart : List Entry → Type 0
apart es = IsDistinct (λ x y. bytes_eq x.now y.now) (keys_of es)

-- no other entry has the name of the first
gone : (k : Bor (List ℕ)) (es : List Entry) → AllByRecursion (λ y. bytes_eq k.now y.now ≡ false) (keys_of es) → found k.now es ≡ None
gone k [] h = refl
gone k (e ∷ es) h = ap (λ t. cond t (Some e.1) (found k.now es)) h.0 ∙ gone k es h.1

option_or_none : {A : Type 0} (o : Option A) → option_or o None ≡ o
option_or_none None = refl
option_or_none (Some a) = refl

-- what the table finds is what the name stands for in the scope
pub found_in : (es : List Entry) (x : List ℕ) → apart es → named_in (seen es) x ≡ option_map (named x) (found x es)
unfolding IsDistinct
found_in [] x d = refl
found_in (e ∷ es) x d =
    ap (λ s. named_in s x) (seen_cons e es) ∙ named_append (seen es) (named e.0.now e.1 ∷ []) x
    ∙ ap (λ o. option_or o (named_in (named e.0.now e.1 ∷ []) x)) (found_in es x d.1)
    ∙ by (bytes_eq x e.0.now) refl
  where
    by : (t : Bool) → bytes_eq x e.0.now ≡ t → option_or (option_map (named x) (found x es)) (if is_text e.0.now x then Some (named e.0.now e.1) else None) ≡ option_map (named x) (cond (bytes_eq x e.0.now) (Some e.1) (found x es))
    by true p =
        let same = (bytes_eq-Decides x e.0.now).0 p in
        rw (p, text_turned e.0.now x) (rw p (rw same (rw (gone e.0 es d.0) refl)))
    by false p = rw (text_turned e.0.now x, p) (option_or_none _)

seen_length : (es : List Entry) → length (seen es) ≡ length es
seen_length es = length-reverse (map (λ e. named e.0.now e.1) es) ∙ length-map es (λ e. named e.0.now e.1)

seen_append : (a b : List Entry) → seen (a ++ b) ≡ seen b ++ seen a
seen_append a b = ap reverse (map-append (λ e. named e.0.now e.1) a b) ∙ reverse-append (map (λ e. named e.0.now e.1) a) (map (λ e. named e.0.now e.1) b)

-- the first entries are the outermost names
pub seen_take : (es : List Entry) (n : ℕ) → seen (take n es) ≡ drop (length (seen es) - n) (seen es)
seen_take es n =
    let whole = sym (ap seen (take-append-drop n es)) ∙ seen_append (take n es) (drop n es) in
    let more = seen_length es in
    let left = seen_length (drop n es) ∙ length-drop n es in
    let count : length (seen es) - n ≡ length (seen (drop n es)) = omega arith in
    rw count (rw whole (sym (drop-append_seam (seen (drop n es)) (seen (take n es)))))

pub seen_push : (es : List Entry) (e : Entry) → seen (es ++ e ∷ []) ≡ named e.0.now e.1 ∷ seen es
seen_push es e = seen_append es (e ∷ [])

-- a name that is not in scope is not in the table
pub absent : (es : List Entry) (x : List ℕ) → apart es → named_in (seen es) x ≡ None → found x es ≡ None
absent es x d h = by (found x es) (sym (found_in es x d) ∙ h)
  where
    by : (o : Option Meant) → option_map (named x) o ≡ None → o ≡ None
    by None e = refl
    by (Some m) e = cc
