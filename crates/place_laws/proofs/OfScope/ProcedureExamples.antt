-- The laws of scopes and copies at a small procedure.
use Rattle.std.proofs.Common.{◌≡◌, inl, ◌||◌, ℕ, ℤ, pos, ◌==◌, true, false, List, []}
use Rattle.std.proofs.Common.{◌∷◌, None, refl, sym, subst, true≢false}
use Rattle.std.proofs.Common.{eqb-true}
use Rattle.exo_tree.specs.Tree.{Binder, Size, TensorParam, Procedure, Block, end}
use Rattle.exo_tree.specs.Tree.{next, Assign, Reduce, For, Alloc, Const, Read, Lit, Var}
use Rattle.exo_tree.specs.Tree.{I32}
use Rattle.exo_tree.specs.Context.{Here, fill}
use Rattle.meaning_laws.specs.Sorted.{MayRun}
use Rattle.place_laws.proofs.OfScope.BranchesAtPlaces.{taken_branch_law, loop_of_none, specialize_law}
use Rattle.place_laws.proofs.OfScope.BranchesAtPlaces.{lift_law}
use Rattle.place_laws.specs.Scope.BranchesAtPlaces.{only_branch, specialized, lifted}
use Rattle.meaning_laws.specs.FreshCopies.{IsBelow}
use Rattle.place_laws.proofs.OfScope.UnrollLoop.{unroll_law}
use Rattle.place_laws.specs.Scope.UnrollLoop.{only_loop}
use Rattle.place_laws.specs.Scope.UnrollLoop.{unrolled}
use Rattle.exo_meaning.specs.Run.{World}
use Rattle.exo_meaning.specs.Run.{unit_world, kinds_of}
use Rattle.exo_meaning.specs.Inputs.{Refines}
use Rattle.exo_meaning.specs.Units.{IsProcedure}
use Rattle.meaning_laws.specs.Sound.{IsUnbound}
use Rattle.meaning_laws.proofs.Copies.{unbound_law}
use Rattle.meaning_laws.proofs.Scoped.{or_elim}
use Rattle.meaning_laws.proofs.Swaps.{swap, swap_moves}
use Rattle.place_laws.specs.Scope.Opened.{MayLeave, IsNew}
use Rattle.place_laws.specs.Scope.Scopes.{top_binders, joined_all}
use Rattle.place_laws.proofs.OfScope.Opened.{leaving_refines}
use Rattle.place_laws.proofs.OfScope.MayLeave.{may_leave_law}
use Rattle.place_laws.proofs.OfScope.Unrolled.{copies_may_stand}
use Rattle.place_laws.proofs.OfScope.ScopeExamples.{always}

-- ---- a loop, written out

abbrev named : ℕ → ℕ → Binder
named n c = record { id = n; name = c ∷ [] }

-- for i in seq(0, 2): t: i32[1]; t[0] = 5; x[i] += t[0], with these names
abbrev named_body : Block
named_body =
    next (Alloc (named 2 116) I32 (Lit (pos 1) ∷ []) 0)
    (next (Assign 2 (Lit (pos 0) ∷ []) (Const (pos 5)))
    (next (Reduce 0 (Var 1 ∷ []) (Read 2 (Lit (pos 0) ∷ []))) end))

abbrev named_loop : Block
named_loop = next (For (named 1 105) (Lit (pos 0)) (Lit (pos 2)) named_body) end

abbrev named_turn : ℕ → ℤ → Block
named_turn y n =
    next (Alloc (named y 116) I32 (Lit (pos 1) ∷ []) 0)
    (next (Assign y (Lit (pos 0) ∷ []) (Const (pos 5)))
    (next (Reduce 0 (Lit n ∷ []) (Read y (Lit (pos 0) ∷ []))) end))

abbrev named_turns : List Block
named_turns = named_turn 3 (pos 0) ∷ named_turn 4 (pos 1) ∷ []

abbrev adds : Procedure
adds = record {
  name = [];
  template = None;
  params = record {
    binder = named 0 120;
    kind =
        TensorParam I32 (Lit (pos 8) ∷ []) 0;
  } ∷ [];
  asserts = [];
  body = named_loop;
}

adds_is_well : IsProcedure (λ f. None) 1 (λ k. None) adds
adds_is_well = record {
  params = refl;
  asserts = refl;
  body = refl;
  filled = refl;
  ids = refl;
  distinct = refl;
  paths = refl;
  template = refl;
}

they_may_be_left : MayLeave adds (Here end) (top_binders (joined_all named_turns))
they_may_be_left = may_leave_law (λ f. None) 1 (λ k. None) adds (Here end) named_loop
    (top_binders (joined_all named_turns)) adds_is_well refl (λ y k.
    or_elim (y == 3) ((y == 4) || false) k
    (λ e. inl (subst (λ z. IsNew adds z) (sym (eqb-true y 3 e)) (refl, refl)))
    (λ j. or_elim (y == 4) false j (λ e. inl (subst (λ z. IsNew adds z) (sym (eqb-true y 4 e))
    (refl, refl))) (λ e. absurd (true≢false (sym e)))))

adds_written_out : Refines (unit_world (λ f. Size) []) adds
    (record adds { body = joined_all named_turns }) []
adds_written_out = leaving_refines (λ f. Size) [] (Here end) named_loop (joined_all named_turns)
    adds (record adds { body = joined_all named_turns }) (top_binders (joined_all named_turns)) refl
    refl they_may_be_left (λ s u good come none.
    let t = unbound_law (unit_world (λ f. Size) []) adds named_loop (Here end) s u good come 2
    (refl, refl) in
    copies_may_stand (unit_world (λ f. Size) []) (named 1 105) (Lit (pos 0)) (Lit (pos 2))
    named_body named_turns u (refl, (refl, tt)) none (λ n. refl) (
      record {
        to = swap 2 3;
        moves = swap_moves 2 3 (IsUnbound u) t (none.unbound 3 refl);
        is =
            refl;
      },
      (
        record {
          to = swap 2 4;
          moves = swap_moves 2 4 (IsUnbound u) t (none.unbound 4 refl);
          is =
              refl;
        },
        tt,
      ),
    ))

-- ---- and written out by the law, with copies as they are made

made_turns : unrolled 3 1 named_body (pos 0 ∷ pos 1 ∷ []) ≡ joined_all named_turns
made_turns = refl

may_run_adds : MayRun [] 1 [] adds
may_run_adds = record {
  unit = tt;
  procedure = record {
    params = refl;
    asserts = refl;
    body = refl;
    filled = refl;
    ids = refl;
    distinct = refl;
    paths = refl;
    template = refl;
  };
}

adds_unrolled :
    Refines (unit_world (kinds_of []) []) adds
    (record adds { body = fill (Here end) (unrolled 3 1 named_body (pos 0 ∷ pos 1 ∷ [])) }) []
adds_unrolled =
    unroll_law [] 1 [] adds (Here end) (named 1 105) (Lit (pos 0)) (Lit (pos 2)) named_body
    (pos 0 ∷ pos 1 ∷ []) 3 may_run_adds refl (record { scoped = refl; below = refl }) (λ n. refl)
    (λ s u good come. refl)

-- ---- branches in the procedure

abbrev unit : World
unit = unit_world (kinds_of []) []

-- u: i32[1]; u[0] = 5; x[n] += u[0]
abbrev named_other : ℕ → ℤ → Block
named_other y n =
    next (Alloc (named y 117) I32 (Lit (pos 1) ∷ []) 0)
    (next (Assign y (Lit (pos 0) ∷ []) (Const (pos 5)))
    (next (Reduce 0 (Lit n ∷ []) (Read y (Lit (pos 0) ∷ []))) end))

-- x: i32[8]; if 0 < 1: t: i32[1]; .. else: u: i32[1]; ..
abbrev either_way : Block
either_way = only_branch always (named_turn 3 (pos 0)) (named_other 4 (pos 1))

abbrev with_branch : Procedure
with_branch = record adds { body = either_way }

may_run_branch : MayRun [] 1 [] with_branch
may_run_branch = record {
  unit = tt;
  procedure = record {
    params = refl;
    asserts = refl;
    body = refl;
    filled = refl;
    ids = refl;
    distinct = refl;
    paths = refl;
    template = refl;
  };
}

first_is_taken : Refines unit with_branch (record adds { body = named_turn 3 (pos 0) }) []
first_is_taken =
    taken_branch_law [] 1 [] with_branch (Here end) always (named_turn 3 (pos 0))
    (named_other 4 (pos 1)) true may_run_branch refl (λ s u good come. refl)

-- for i in seq(0, 0): ..
abbrev idle_loop : Procedure
idle_loop = record adds { body = only_loop (named 1 105) (Lit (pos 0)) (Lit (pos 0)) named_body }

loop_is_gone : Refines unit idle_loop (record adds { body = end }) []
loop_is_gone =
    loop_of_none unit idle_loop (Here end) (named 1 105) (Lit (pos 0)) (Lit (pos 0)) named_body refl
    (λ s u good come. refl)

adds_below : IsBelow 3 adds
adds_below = record { scoped = refl; below = refl }

adds_specialized :
    Refines unit adds (record adds { body = specialized 3 always named_loop }) []
adds_specialized =
    specialize_law (kinds_of []) [] adds (Here end) always named_loop 3 refl adds_below refl

-- the copy has the next two numbers
copy_is_second :
    specialized 3 always named_loop
    ≡ only_branch always named_loop
    (only_loop (named 3 105) (Lit (pos 0)) (Lit (pos 2))
    (next (Alloc (named 4 116) I32 (Lit (pos 1) ∷ []) 0)
    (next (Assign 4 (Lit (pos 0) ∷ []) (Const (pos 5)))
    (next (Reduce 0 (Var 3 ∷ []) (Read 4 (Lit (pos 0) ∷ []))) end))))
copy_is_second = refl

abbrev branch_in_loop : Procedure
branch_in_loop =
    record adds { body = only_loop (named 1 105) (Lit (pos 0)) (Lit (pos 2)) either_way }

branch_out_of_loop :
    Refines unit branch_in_loop
    (record adds {
      body =
          lifted 5 (named 1 105) (Lit (pos 0)) (Lit (pos 2)) always (named_turn 3 (pos 0))
          (named_other 4 (pos 1));
    }) []
branch_out_of_loop =
    lift_law unit (λ k f. false) branch_in_loop (Here end) (named 1 105) (Lit (pos 0)) (Lit (pos 2))
    always (named_turn 3 (pos 0)) (named_other 4 (pos 1)) 5 (λ k f e as' s. tt) refl
    (record { scoped = refl; below = refl }) refl (λ f k. refl)
