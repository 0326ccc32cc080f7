use Rattle.std.proofs.Common.{◌≡◌, List, [], ◌∷◌, ◌++◌, flat_map, All, IsOk, Result, Ok, Vec, Global}
use Rattle.std.proofs.Common.{append_assoc, append-nil, refl, ap, ap₂, sym, subst, ◌∙◌}
use Rattle.std.proofs.lemmas.List.Elements.{All-push}
use Rattle.std.specs.declared.alloc.AllocError.{AllocError}
use Rattle.ob_check.specs.declared.known.KnownSystem.{KnownSystem}
use Rattle.ob_check.specs.Systems.{known_in}
use Rattle.ob_check.proofs.decide.joined.Goals as goal

flat_map_push : {A B : Type 0} (f : A → List B) (xs : List A) (x : A)
    → flat_map f (xs ++ x ∷ []) ≡ flat_map f xs ++ f x
flat_map_push f [] x = append-nil (f x)
flat_map_push f (y ∷ ys) x =
    ap (λ zs. f y ++ zs) (flat_map_push f ys x) ∙ sym (append_assoc (f y) (flat_map f ys) (f x))

-- what one more chunk gave
one_joined :
    (chunks : List (Result (Vec KnownSystem Global) AllocError)) (part : Result (Vec KnownSystem Global) AllocError)
    (more : Vec KnownSystem Global) (made next : List KnownSystem) → part ≡ Ok more → next ≡ made ++ more.items
    → made ≡ flat_map known_in chunks → All IsOk chunks
    → (next ≡ flat_map known_in (chunks ++ part ∷ [])) × All IsOk (chunks ++ part ∷ [])
one_joined chunks part more made next is pushed so_far fine = (
  pushed ∙ ap₂ (λ xs ys. xs ++ ys) so_far (sym (ap known_in is)) ∙ sym (flat_map_push known_in chunks part),
  All-push IsOk chunks part fine (subst IsOk (sym is) refl),
)

pub loop-part-preserved : goal.loop-part-preserved
loop-part-preserved c =
    one_joined c.loop-part.yielded c.in-Some.part c.in_ok-more.more c.loop-part.all.items c.append.new.self.items
    c.in_ok-more.was c.in_ok-append.ensures.items c.loop-part.invariant.0 c.loop-part.invariant.1
