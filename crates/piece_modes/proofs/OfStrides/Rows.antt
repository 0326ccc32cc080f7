-- What the arguments of a call pass on, one by one, and rows of the table.
use Rattle.std.proofs.Common.{◌≡◌, ℕ, zero, suc, ◌+◌, ◌<◌, ◌≤◌, ◌&&◌, ◌||◌, min, Bool, false, List, [], ◌∷◌, ◌++◌, Option, Some, None, option_map, slice_get, get_or, drop-cons, add-one, length, take, drop, map, refl, ap, sym, ◌∙◌, append_assoc, arith}
use Rattle.std.proofs.lemmas.List.{length_push}
use Rattle.std.proofs.lemmas.Option.{slice_get-map}
use Rattle.exo_tree.specs.Tree.{Param, Argument, Block, Procedure, Program}
use Rattle.exo_meaning.specs.Run.{is_root, kinds_of, unit_world}
use Rattle.buffer_laws.specs.Stride.Strides.{all_see, sees_at, sees_strides, uses_strides, stride_seen}
use Rattle.piece_modes.specs.Strides.Seen.{seen_of, passes, call_sees, first_world, first_see}
use Rattle.piece_modes.specs.Strides.Seen.{param_seen, block_sees, is_used_in}
use Rattle.piece_modes.specs.Strides.Table.{rows_of, seen_rows, AreFirst, word_at}
use Rattle.piece_modes.proofs.OfStrides.Calls.{passed_by, passed_none, passed_some, call_is}
use Rattle.piece_modes.proofs.OfStrides.Calls.{as_many_all, row_read, one_more}

pub drop_at : {X : Type 0} (xs : List X) (k : ℕ) (d : X) → k < length xs → drop k xs ≡ get_or xs k d ∷ drop (k + 1) xs
drop_at xs k d h = drop-cons xs k d h ∙ ap (λ n. get_or xs k d ∷ drop n xs) (sym (add-one k))

module _ (root : ℕ → ℕ) (y : ℕ) where
  -- one more argument is not passed on
  pub passed_on : (whole b : Bool) (a : Argument) (bs more : List Bool) (gs rest : List Argument) → bs ≡ b ∷ more → gs ≡ a ∷ rest → (b && is_root root y a) ≡ false → whole ≡ passes bs root y gs → whole ≡ passes more root y rest
  passed_on whole b a bs more gs rest d e h w =
      w ∙ (λ i. passes (d i) root y (e i)) ∙ ap (λ t. t || passes more root y rest) h

  nothing_given : (bs : List Bool) → passes bs root y [] ≡ false
  nothing_given [] = refl
  nothing_given (b ∷ bs) = refl

  -- no argument is left
  pub none_left : {X : Type 0} (f : X → Argument) (bs : List Bool) (xs : List X) (k : ℕ) → min (length bs) (length xs) ≤ k → passes (drop k bs) root y (map f (drop k xs)) ≡ false
  none_left f [] xs zero h = refl
  none_left f [] xs (suc k) h = refl
  none_left f (b ∷ bs) [] zero h = refl
  none_left f (b ∷ bs) [] (suc k) h = nothing_given (drop k bs)
  none_left f (b ∷ bs) (x ∷ xs) zero h = absurd (omega (arith, h))
  none_left f (b ∷ bs) (x ∷ xs) (suc k) h = none_left f bs xs k (omega (arith, h))

-- what a row passes on is what a call of its procedure does
pub row_passes : (rs : List (List Bool)) (u : Program) (n : ℕ) → AreFirst rs u → length rs ≡ n → (k : ℕ) (root : ℕ → ℕ) (y : ℕ) (args : List Argument) → passed_by (slice_get rs k) root y args ≡ call_sees u n k root y args
row_passes rs u n h e k root y args =
    ap (λ l. passed_by (slice_get l k) root y args) h
    ∙ call_is (kinds_of u.fields) (take (length rs) u.procedures) k root y args
    ∙ ap (λ m. call_sees u m k root y args) e

pub passed_in : {X : Type 0} (f : X → List Bool) (xs : List X) (k : ℕ) (o : Option X) → slice_get xs k ≡ o → slice_get (map f xs) k ≡ option_map f o
passed_in f xs k o e = slice_get-map f xs k ∙ ap (option_map f) e

-- ---- words

word_by : Option (List Bool) → ℕ → Bool
word_by None i = false
word_by (Some row) i = elim (slice_get row i) [ None ↦ false | Some b ↦ b ]

seen_by : (ℕ → Bool) → Option Param → Bool
seen_by sees None = false
seen_by sees (Some x) = sees x.binder.id

param_by : (ℕ → Bool) → ℕ → Option Procedure → Bool
param_by sees i None = false
param_by sees i (Some p) = seen_by sees (slice_get p.params i)

word_says : (rows : List (List Bool)) (k i : ℕ) (o : Option (List Bool)) → slice_get rows k ≡ o → word_at rows k i ≡ word_by o i
unfolding word_by
word_says rows k i None e = ap (λ o. elim o [ None ↦ false | Some row ↦ elim (slice_get row i) [ None ↦ false | Some b ↦ b ] ]) e
word_says rows k i (Some r) e = ap (λ o. elim o [ None ↦ false | Some row ↦ elim (slice_get row i) [ None ↦ false | Some b ↦ b ] ]) e

bit : Option Bool → Bool
bit None = false
bit (Some b) = b

bit_says : (o : Option Bool) → elim o [ None ↦ false | Some b ↦ b ] ≡ bit o
unfolding bit
bit_says None = refl
bit_says (Some b) = refl

bit_seen : (sees : ℕ → Bool) (o : Option Param) → bit (option_map (λ x. sees x.binder.id) o) ≡ seen_by sees o
unfolding bit seen_by
bit_seen sees None = refl
bit_seen sees (Some x) = refl

row_word : (sees : ℕ → Bool) (i : ℕ) (o : Option Procedure) → word_by (option_map (λ p. seen_of sees p.params) o) i ≡ param_by sees i o
unfolding word_by param_by
row_word sees i None = refl
row_word sees i (Some p) =
    bit_says (slice_get (seen_of sees p.params) i)
    ∙ ap bit (slice_get-map (λ (x : Param). sees x.binder.id) p.params i)
    ∙ bit_seen sees (slice_get p.params i)

seen_says : (sees : ℕ → Bool) (o : Option Param) → seen_by sees o ≡ elim o [ None ↦ false | Some x ↦ sees x.binder.id ]
unfolding seen_by
seen_says sees None = refl
seen_says sees (Some x) = refl

param_says : (sees : ℕ → Bool) (i : ℕ) (o : Option Procedure) → param_by sees i o ≡ elim o [ None ↦ false | Some p ↦ elim (slice_get p.params i) [ None ↦ false | Some x ↦ sees x.binder.id ] ]
unfolding param_by
param_says sees i None = refl
param_says sees i (Some p) = seen_says sees (slice_get p.params i)

-- the word of the table says whether the strides of the parameter are seen
pub word_is : (u : Program) (k i : ℕ) → word_at (seen_rows u) k i ≡ param_seen u k i
word_is u k i =
    let ss = all_see (kinds_of u.fields) [] [] u.procedures in
    word_says (seen_rows u) k i _ (row_read u.procedures ss k (as_many_all (kinds_of u.fields) u.procedures))
    ∙ row_word (sees_at ss k) i (slice_get u.procedures k)
    ∙ param_says (sees_at ss k) i (slice_get u.procedures k)

-- ---- a row is made

pub row_on : (sees : ℕ → Bool) (row new whole : List Bool) (x : Param) (ps rest : List Param) → ps ≡ x ∷ rest → new ≡ row ++ sees x.binder.id ∷ [] → row ++ seen_of sees ps ≡ whole → new ++ seen_of sees rest ≡ whole
row_on sees row new whole x ps rest d h w =
    ap (λ l. l ++ seen_of sees rest) h
    ∙ append_assoc row (sees x.binder.id ∷ []) (seen_of sees rest)
    ∙ ap (λ l. row ++ seen_of sees l) (sym d)
    ∙ w

-- ---- the first procedures

as_long : (ps : List Procedure) (ss : List (ℕ → Bool)) → length ss ≡ length ps → length (rows_of ps ss) ≡ length ps
as_long [] [] h = refl
as_long [] (s ∷ ss) h = refl
as_long (p ∷ ps) [] h = absurd (omega (arith, h))
as_long (p ∷ ps) (s ∷ ss) h = ap suc (as_long ps ss (omega (arith, h)))

length_taken : {X : Type 0} (n : ℕ) (xs : List X) → length (take n xs) ≤ length xs
length_taken zero xs = omega arith
length_taken (suc n) [] = omega arith
length_taken (suc n) (x ∷ xs) = omega (arith, length_taken n xs)

take_whole : {X : Type 0} (n : ℕ) (xs : List X) → length xs ≤ n → take n xs ≡ xs
take_whole zero [] h = refl
take_whole zero (x ∷ xs) h = absurd (omega (arith, h))
take_whole (suc n) [] h = refl
take_whole (suc n) (x ∷ xs) h = ap (λ l. x ∷ l) (take_whole n xs (omega (arith, h)))

pub no_more_rows : (rs : List (List Bool)) (u : Program) → AreFirst rs u → length rs ≤ length u.procedures
no_more_rows rs u h =
    let qs = take (length rs) u.procedures in
    omega (arith, ap length h, as_long qs (all_see (kinds_of u.fields) [] [] qs) (as_many_all (kinds_of u.fields) qs), length_taken (length rs) u.procedures)

first_rows : Program → ℕ → List (List Bool)
first_rows u n = rows_of (take n u.procedures) (all_see (kinds_of u.fields) [] [] (take n u.procedures))

pub one_row_more : (u : Program) (rs : List (List Bool)) (k : ℕ) (p : Procedure) (row : List Bool) → AreFirst rs u → length rs ≡ k → take (k + 1) u.procedures ≡ take k u.procedures ++ p ∷ [] → row ≡ seen_of (sees_strides (first_world u k) (first_see u k) p) p.params → AreFirst (rs ++ row ∷ []) u
unfolding first_rows
one_row_more u rs k p row h e t r =
    let kinds = kinds_of u.fields in
    let many : k + 1 ≡ length (rs ++ row ∷ []) = omega (arith, e, length_push rs row) in
    (λ i. (h ∙ ap (first_rows u) e) i ++ r i ∷ [])
    ∙ sym (one_more kinds (take k u.procedures) p)
    ∙ ap (λ qs. rows_of qs (all_see kinds [] [] qs)) (sym t)
    ∙ ap (first_rows u) many

-- all of them
pub all_rows : (u : Program) (rs : List (List Bool)) (k : ℕ) → AreFirst rs u → length rs ≡ k → length u.procedures ≤ k → rs ≡ seen_rows u
all_rows u rs k h e l =
    h ∙ ap (λ qs. rows_of qs (all_see (kinds_of u.fields) [] [] qs)) (take_whole (length rs) u.procedures (omega (arith, e, l)))

take_these : (u : Program) (rs : List (List Bool)) → rs ≡ seen_rows u → take (length rs) u.procedures ≡ u.procedures
take_these u rs h =
    let qs = u.procedures in
    take_whole (length rs) qs (omega (arith, ap length h, as_long qs (all_see (kinds_of u.fields) [] [] qs) (as_many_all (kinds_of u.fields) qs)))

-- the whole table is that of the first procedures
pub whole_is_first : (u : Program) (rs : List (List Bool)) → rs ≡ seen_rows u → AreFirst rs u
whole_is_first u rs h =
    h ∙ ap (λ qs. rows_of qs (all_see (kinds_of u.fields) [] [] qs)) (sym (take_these u rs h))

pub whole_sees : (u : Program) (rs : List (List Bool)) → rs ≡ seen_rows u → (n : ℕ) → length rs ≡ n → (root : ℕ → ℕ) (x : ℕ) (b : Block) → block_sees u n root b (root x) ≡ is_used_in u root x b
whole_sees u rs h n e root x b =
    let kinds = kinds_of u.fields in
    ap (λ m. block_sees u m root b (root x)) (sym e)
    ∙ ap (λ qs. uses_strides (unit_world kinds qs).callees (stride_seen kinds qs) root b (root x)) (take_these u rs h)

-- ---- rows that are read

at_place : {X : Type 0} (xs : List X) (k : ℕ) (x : X) → k < length xs → x ≡ get_or xs k x → slice_get xs k ≡ Some x
at_place [] k x l e = absurd (omega (arith, l))
at_place (z ∷ xs) zero x l e = ap Some (sym e)
at_place (z ∷ xs) (suc k) x l e = at_place xs k x (omega (arith, l)) e

nowhere : {X : Type 0} (xs : List X) (k : ℕ) → length xs ≤ k → slice_get xs k ≡ None
nowhere [] k l = refl
nowhere (z ∷ xs) zero l = absurd (omega (arith, l))
nowhere (z ∷ xs) (suc k) l = nowhere xs k (omega (arith, l))

pub row_there : {X : Type 0} (f : X → List Bool) (xs : List X) (k : ℕ) (x : X) (root : ℕ → ℕ) (y : ℕ) (args : List Argument) → k < length xs → x ≡ get_or xs k x → passes (f x) root y args ≡ passed_by (slice_get (map f xs) k) root y args
row_there f xs k x root y args l e =
    passed_some (f x) root y args ∙ ap (λ o. passed_by o root y args) (sym (passed_in f xs k (Some x) (at_place xs k x l e)))

pub row_nowhere : {X : Type 0} (f : X → List Bool) (xs : List X) (k : ℕ) (root : ℕ → ℕ) (y : ℕ) (args : List Argument) → length xs ≤ k → false ≡ passed_by (slice_get (map f xs) k) root y args
row_nowhere f xs k root y args l =
    passed_none root y args ∙ ap (λ o. passed_by o root y args) (sym (passed_in f xs k None (nowhere xs k l)))
