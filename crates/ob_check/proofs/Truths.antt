-- Entries of a cache of the program's systems are true.
use Rattle.std.proofs.Common.{◌≡◌, true, List, Some, All, IsTrue, sym, ap, ◌∙◌, subst}
use Rattle.std.specs.Map.{lookup}
use Rattle.std.proofs.lemmas.List.Elements.{All-contains}
use Rattle.lru.specs.LruCache.{LruCache, put_entries}
use Rattle.lru.proofs.CallerLemmas.{Contains-lookup}
use Rattle.affine_forms.specs.System.{plain_system}
use Rattle.affine_forms.specs.declared.system.System.{System}
use Rattle.affine_prover.specs.declared.answer.Verdict.{Verdict}
use Rattle.ob_check.specs.Truth.{IsTrueOf, is_small}
use Rattle.ob_check.proofs.Entries.{All-put}
use Rattle.ob_check.proofs.Keys.{systems_equal, systems_decide}

abbrev pub IsTrueEntry : System × Verdict → Type 0
IsTrueEntry e = IsTrueOf (plain_system e.0) e.1

abbrev pub IsSmallEntry : System × Verdict → Type 0
IsSmallEntry e = IsTrue (is_small (plain_system e.0))

-- what is found is true
pub found_true : (s : System) (es : List (System × Verdict)) (v : Verdict) → All IsTrueEntry es → lookup (systems_equal s) es ≡ Some v → IsTrueOf (plain_system s) v
found_true s es v all h =
    let f = Contains-lookup (systems_equal s) es v h in
    subst (λ t. IsTrueOf t v) (sym ((systems_decide s f.0).0 f.2)) (All-contains IsTrueEntry es (f.0, v) all f.1)

-- what is put stays true, and small
pub put_true : (c : LruCache System Verdict) (k t : System) (v : Verdict) → All IsTrueEntry c.entries → plain_system k ≡ plain_system t → IsTrueOf (plain_system t) v → All IsTrueEntry (put_entries systems_equal c k v)
put_true c k t v all same true_of =
    let own : IsTrueOf (plain_system k) v = subst (λ p. IsTrueOf p v) (sym same) true_of in
    All-put IsTrueEntry systems_equal c k v all own (λ j e. subst (λ p. IsTrueOf p v) ((systems_decide k j).0 e) own)

pub put_small : (c : LruCache System Verdict) (k t : System) (v : Verdict) → All IsSmallEntry c.entries → plain_system k ≡ plain_system t → is_small (plain_system t) ≡ true → All IsSmallEntry (put_entries systems_equal c k v)
put_small c k t v all same small =
    let own : is_small (plain_system k) ≡ true = ap is_small same ∙ small in
    All-put IsSmallEntry systems_equal c k v all own (λ j e. sym (ap is_small ((systems_decide k j).0 e)) ∙ own)
