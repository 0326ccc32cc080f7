-- Copies one behind the other, each in a scope of its own.
use Rattle.std.proofs.Common.{◌≡◌, ℕ, ◌+◌, List, [], ◌∷◌, length, Option, Some, None, IfSome, refl, ap, ◌∙◌}
use Rattle.exo_tree.specs.Tree.{Block}
use Rattle.exo_tree.specs.Renaming.{binders}
use Rattle.exo_meaning.specs.Scene.{then_do}
use Rattle.exo_meaning.specs.State.{State, left, scoped}
use Rattle.exo_meaning.specs.Run.{World, run}
use Rattle.exo_meaning.proofs.Frame.{if_map, any}
use Rattle.meaning_laws.proofs.Copies.{unbound_on, Stays}
use Rattle.meaning_laws.proofs.Sound.{left_sound}
use Rattle.meaning_laws.specs.FreshCopies.{MayCopy, AllMayBeCopied, copies_from, each_in_scope, ScopedCopiesAreSame}
use Rattle.meaning_laws.proofs.FreshCopies.{copies_run_alike}

-- where the names are the same
may_copy_stays : (n : ℕ) (b : Block) (s t : State) → Stays s t → MayCopy n b s → MayCopy n b t
may_copy_stays n b s t k may = record {
  sound = k.sound;
  own = λ x e. unbound_on s t x (k.names x) (may.own x e);
  given = λ x e. unbound_on s t x (k.names x) (may.given x e);
  unused = may.unused;
}

all_stay : (n : ℕ) (ds : List Block) (s t : State) → Stays s t → AllMayBeCopied n ds s → AllMayBeCopied n ds t
all_stay n [] s t k may = tt
all_stay n (d ∷ ds) s t k may =
    (may_copy_stays n d s t k may.0, all_stay (n + length (binders d)) ds s t k may.1)

-- a scope leaves the names
scope_stays : (world : World) (d : Block) (s : State) → Stays s s → IfSome (scoped (run world d) s) (Stays s)
scope_stays world d s k =
    if_map (λ t. Unit {0}) (Stays s) (run world d s) (left s) (any (run world d s))
    (λ t u. record { sound = left_sound s t k.sound; names = λ x. record { control = refl; buffers = refl; views = refl } })

pub scoped_copies_are_same : ScopedCopiesAreSame
scoped_copies_are_same world n [] s may = refl
scoped_copies_are_same world n (d ∷ ds) s may =
    let k : Stays s s = record { sound = may.0.sound; names = λ x. record { control = refl; buffers = refl; views = refl } } in
    ap (λ o. then_do o (each_in_scope world (copies_from (n + length (binders d)) ds))) (copies_run_alike world n d s may.0).in_scope
    ∙ go (scoped (run world d) s) (scope_stays world d s k)
    (λ t j. scoped_copies_are_same world (n + length (binders d)) ds t (all_stay (n + length (binders d)) ds s t j may.1))
  where
    go : (o : Option State) → IfSome o (Stays s)
        → ((t : State) → Stays s t
        → each_in_scope world (copies_from (n + length (binders d)) ds) t ≡ each_in_scope world ds t)
        → then_do o (each_in_scope world (copies_from (n + length (binders d)) ds)) ≡ then_do o (each_in_scope world ds)
    go None k same = refl
    go (Some t) k same = same t k
