-- Which fields one procedure more may write.
use Rattle.std.proofs.Common.{◌≡◌, ◌<◌, ◌+◌, ℕ, zero, suc, Bool, false, List, [], ◌∷◌, ◌++◌, length}
use Rattle.std.proofs.Common.{refl, sym, ap, ◌∙◌, arith}
use Rattle.std.specs.Prelude.{replicate}
use Rattle.std.proofs.lemmas.List.{length_push}
use Rattle.exo_tree.specs.Tree.{Procedure}
use Rattle.meaning_laws.specs.Fields.{writes_field}
use Rattle.meaning_laws.specs.UnitFields.{written_at, written_by, all_written}
use Rattle.config_state.specs.FieldSets.{Marked, in_table}
use Rattle.config_state.proofs.Tables.{Agree, written_next, written_all}
use Rattle.schedule_run.specs.Running.{AreWrites}

none_more : (n : ℕ) → 0 ≡ suc n → ⊥
none_more n h = cc

agree_of : (n : ℕ) (ss : List (List Bool)) (ws : List (ℕ → Bool)) → length ss ≡ length ws
    → ((k f : ℕ) → f < n → in_table ss k f ≡ written_at ws k f) → Agree n ss ws
agree_of n [] [] e h = tt
agree_of n [] (w ∷ ws) e h = absurd (none_more (length ws) e)
agree_of n (s ∷ ss) [] e h = absurd (none_more (length ss) (sym e))
agree_of n (s ∷ ss) (w ∷ ws) e h =
    (λ f l. h 0 f l, agree_of n ss ws (omega (arith, e)) (λ k f l. h (suc k) f l))

as_many : (ws : List (ℕ → Bool)) (ps : List Procedure)
    → length (all_written ws ps) ≡ length ws + length ps
as_many ws [] = plus_none (length ws)
  where
    plus_none : (n : ℕ) → n ≡ n + 0
    plus_none n = omega arith
as_many ws (p ∷ ps) =
    as_many (ws ++ written_by (written_at ws) p ∷ []) ps
    ∙ ap (λ n. n + length ps) (length_push ws (written_by (written_at ws) p))
    ∙ one_less (length ws) (length ps)
  where
    one_less : (m n : ℕ) → m + 1 + n ≡ m + suc n
    one_less m n = omega arith

split : (ws : List (ℕ → Bool)) (ps qs : List Procedure)
    → all_written ws (ps ++ qs) ≡ all_written (all_written ws ps) qs
split ws [] qs = refl
split ws (p ∷ ps) qs = split (ws ++ written_by (written_at ws) p ∷ []) ps qs

pub more_writes : (n : ℕ) (ps : List Procedure) (p : Procedure) (table : List (List Bool))
    (set : List Bool) → Marked (λ f. writes_field (in_table table) f p.body) (replicate n false) set
    → AreWrites n ps table → AreWrites n (ps ++ p ∷ []) (table ++ set ∷ [])
more_writes n ps p table set marked are = record {
  count = length_push table set ∙ ap (λ m. m + 1) are.count ∙ sym (length_push ps p);
  is =
      written_all n (table ++ set ∷ []) (ps ++ p ∷ [])
      (written_next n table p [] (ps ++ p ∷ []) set marked
      (record {
        tests = all_written [] ps;
        agree = agree_of n table (all_written [] ps) (omega (arith, are.count, as_many [] ps)) are.is;
        whole = sym (split [] ps (p ∷ []));
      }));
}

pub no_writes : (n : ℕ) → AreWrites n [] []
no_writes n = record { count = refl; is = none }
  where
    none : (k f : ℕ) → f < n → in_table [] k f ≡ written_at [] k f
    none zero f l = refl
    none (suc k) f l = refl
