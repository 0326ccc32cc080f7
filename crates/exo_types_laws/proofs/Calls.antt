-- Calls that break no rule: each argument fits its parameter, and none shares a buffer with another where the callee writes one.
use Rattle.std.proofs.Common.{◌≡◌, ℕ, ◌+◌, ◌==◌, Bool, true, false, not, ◌&&◌, ◌||◌, List, [], ◌∷◌, ◌++◌, length, map, option_map, Option, Some, None, slice_get, refl, sym, ap, subst, ◌∙◌, arith}
use Rattle.std.specs.List.{list_any}
use Rattle.std.proofs.lemmas.Bool.Decides.{Decides-eqb}
use Rattle.std.proofs.lemmas.Option.{slice_get-map}
use Rattle.text_phrases.specs.Limits.{in_size}
use Rattle.text_phrases.specs.Sequence.{AllFit}
use Rattle.text_phrases.specs.Commas.{spell_more}
use Rattle.text_lexer.specs.declared.token.Token.{Token}
use Rattle.text_lexer.specs.declared.token.Token.TheVariants as t
use Rattle.text_lexer.specs.declared.token.Sign.TheVariants as s
use Rattle.exo_tree.specs.Tree as tree
use Rattle.exo_tree.specs.Tree.{Kind, ConfigField, Param, ControlArg, ConditionArg, Whole, Window}
use Rattle.exo_meaning.specs.Calls.{Callee}
use Rattle.exo_meaning.specs.Units.{Scope, field_kind, are_for, is_whole, root_of, same_root, is_shared, share_nothing_written, is_call}
use Rattle.exo_reader.specs.Source.{Argument}
use Rattle.exo_reader.specs.Parts.{spell_enclosed}
use Rattle.exo_reader.specs.Statements.{argument, arguments}
use Rattle.rules_names.specs.declared.error.TypeKind.TheVariants.{SharedArgument, RankMismatch}
use Rattle.rules_names.specs.declared.fault.Fault.{Fault}
use Rattle.rules_names.specs.Faults.{unless}
use Rattle.rules_names.specs.Names.{name_number, no_id}
use Rattle.rules_names.specs.Laws.{KeepsIds}
use Rattle.exo_types.specs.declared.call.Passed.{Passed}
use Rattle.exo_types.specs.TypeRules.{number_or}
use Rattle.exo_types.specs.ArgumentRules.{Signature, signature_of, passed_for, shares, is_passed, argument_width, argument_faults, argument_of, arguments_of, arguments_faults, call_faults, params_of}
use Rattle.exo_types.specs.StatementRules.{number_in, callee_named}
use Rattle.exo_types_laws.proofs.Unbroken.{pair, nor, negated, not_true, none_of_both, left_none, right_none, fault_none, unless_none}
use Rattle.exo_types_laws.proofs.Texts.{Text, front, back, behind}
use Rattle.exo_types_laws.proofs.Leaves.{Laws}
use Rattle.exo_types_laws.proofs.Arguments.{argument_formed}
use Rattle.exo_modes.specs.Aliases.{same_buffer}

-- ---- texts of arguments

abbrev pub EachText : List Argument → Type 0
EachText [] = Unit {0}
EachText (a ∷ args) = Text (argument.spell a) × EachText args

more_texts : (args : List Argument) (trailing : Bool) → Text (spell_more argument (t.Sign s.Comma) args trailing) → EachText args
more_texts [] trailing h = tt
more_texts (a ∷ args) trailing h =
    let tail : List Token = spell_more argument (t.Sign s.Comma) args trailing in
    let rest = behind (t.Sign s.Comma) (argument.spell a ++ tail) h in
    (front (argument.spell a) tail rest, more_texts args trailing (back (argument.spell a) tail rest))

each_text : (args : List Argument) (trailing : Bool) → Text (spell_enclosed argument args trailing) → EachText args
each_text [] trailing h = tt
each_text (a ∷ args) trailing h =
    let tail : List Token = spell_more argument (t.Sign s.Comma) args trailing in
    (front (argument.spell a) tail h, more_texts args trailing (back (argument.spell a) tail h))

all_arguments : (args : List Argument) (trailing : Bool) → arguments.Fits in_size (args, trailing) → AllFit argument in_size args
all_arguments [] true h = absurd h
all_arguments [] false h = tt
all_arguments (a ∷ args) trailing h = (h.0, h.1.0)

-- ---- what was passed before

-- a test that nothing of the list passes does not pass it
abbrev Among : Passed → List Passed → Type 0
Among q passed = (f : Passed → Bool) → list_any f passed ≡ false → f q ≡ false

among_more : (q r : Passed) (passed : List Passed) → Among q passed → Among q (passed ++ r ∷ [])
among_more q r passed h f none = h f (none_of_both f passed (r ∷ []) none).0

among_last : (q : Passed) (passed : List Passed) → Among q (passed ++ q ∷ [])
among_last q passed f none = alone (f q) (none_of_both f passed (q ∷ []) none).1
  where
    alone : (b : Bool) → (b || false) ≡ false → b ≡ false
    alone true h = h
    alone false h = refl

roots_same : (F G : ℕ → Option Kind) (root : ℕ → ℕ) (a : tree.Argument) → root_of F root a ≡ root_of G root a
roots_same F G root (ControlArg e) = refl
roots_same F G root (ConditionArg c) = refl
roots_same F G root (Whole x) = refl
roots_same F G root (Window x coords) = refl

same_roots : (F : ℕ → Option Kind) (r q : Option ℕ) → same_root F r q ≡ same_buffer r q
same_roots F None q = refl
same_roots F (Some x) None = refl
same_roots F (Some x) (Some y) = refl

module _ (laws : Laws) (fields : List ConfigField) (F : ℕ → Option Kind) (more : (f : ℕ) (k : Kind) → field_kind fields f ≡ Some k → F f ≡ Some k) (scope : Scope) (keeps : KeepsIds scope) (writes : ℕ → Bool) (root : ℕ → ℕ) where
  abbrev told : Param → Argument → Passed
  told p a = passed_for writes p (root_of (field_kind fields) root (argument_of fields scope p.kind a))

  -- the parts of the rules on one argument and those behind it
  record Apart (passed : List Passed) (p : Param) (ps : List Param) (n : ℕ) (a : Argument) (args : List Argument) : Type 0 where
    own : argument_faults fields scope p.kind n a ≡ []
    alone : is_passed (told p a) passed ≡ false
    rest : arguments_faults fields writes scope root (passed ++ told p a ∷ []) ps (n + argument_width a + 1) args ≡ []

  apart : (passed : List Passed) (p : Param) (ps : List Param) (n : ℕ) (a : Argument) (args : List Argument) → arguments_faults fields writes scope root passed (p ∷ ps) n (a ∷ args) ≡ [] → Apart passed p ps n a args
  apart passed p ps n a args h =
      let test : Bool = is_passed (told p a) passed in
      let later : List Fault = arguments_faults fields writes scope root (passed ++ told p a ∷ []) ps (n + argument_width a + 1) args in
      let behind_own = right_none (argument_faults fields scope p.kind n a) (unless (not test) SharedArgument n ++ later) h in
      record {
        own = left_none (argument_faults fields scope p.kind n a) (unless (not test) SharedArgument n ++ later) h;
        alone = not_true test (unless_none (not test) SharedArgument n (left_none (unless (not test) SharedArgument n) later behind_own));
        rest = right_none (unless (not test) SharedArgument n) later behind_own;
      }

  pub arguments_formed : (passed : List Passed) (ps : List Param) (n : ℕ) (args : List Argument) → AllFit argument in_size args → EachText args → length args ≡ length ps → arguments_faults fields writes scope root passed ps n args ≡ [] → are_for F scope ps (arguments_of fields scope ps args) ≡ true
  arguments_formed passed [] n [] fits texts same h = refl
  arguments_formed passed [] n (a ∷ args) fits texts same h = absurd (omega (arith, same))
  arguments_formed passed (p ∷ ps) n [] fits texts same h = absurd (omega (arith, same))
  arguments_formed passed (p ∷ ps) n (a ∷ args) fits texts same h =
      let parts = apart passed p ps n a args h in
      pair (argument_formed laws fields F more scope keeps p.kind n a fits.0 texts.0 parts.own)
      (arguments_formed (passed ++ told p a ∷ []) ps (n + argument_width a + 1) args fits.1 texts.1 (omega (arith, same)) parts.rest)

  -- what was passed before is shared with no later argument
  not_shared : (p : Param) (r : Option ℕ) (passed : List Passed) (ps : List Param) (n : ℕ) (args : List Argument) → Among (passed_for writes p r) passed → arguments_faults fields writes scope root passed ps n args ≡ []
      → is_shared F writes root p r ps (arguments_of fields scope ps args) ≡ false
  not_shared p r passed [] n args among h = refl
  not_shared p r passed (q ∷ qs) n [] among h = refl
  not_shared p r passed (q ∷ qs) n (a ∷ args) among h =
      let parts = apart passed q qs n a args h in
      let own : Option ℕ = root_of (field_kind fields) root (argument_of fields scope q.kind a) in
      let here = among (λ z. shares z (told q a)) parts.alone in
      let forbidden : Bool = (writes p.binder.id || writes q.binder.id) && (is_whole p.kind || is_whole q.kind) in
      nor
      (ap (λ o. same_root F r o && forbidden) (roots_same F (field_kind fields) root (argument_of fields scope q.kind a)) ∙ ap (λ b. b && forbidden) (same_roots F r own) ∙ here)
      (not_shared p r (passed ++ told q a ∷ []) qs (n + argument_width a + 1) args (among_more (passed_for writes p r) (told q a) passed among) parts.rest)

  pub nothing_shared : (passed : List Passed) (ps : List Param) (n : ℕ) (args : List Argument) → arguments_faults fields writes scope root passed ps n args ≡ [] → share_nothing_written F writes root ps (arguments_of fields scope ps args) ≡ true
  nothing_shared passed [] n args h = refl
  nothing_shared passed (p ∷ ps) n [] h = refl
  nothing_shared passed (p ∷ ps) n (a ∷ args) h =
      let parts = apart passed p ps n a args h in
      let own : Option ℕ = root_of (field_kind fields) root (argument_of fields scope p.kind a) in
      pair
      (negated
      (ap (λ o. is_shared F writes root p o ps (arguments_of fields scope ps args)) (roots_same F (field_kind fields) root (argument_of fields scope p.kind a))
      ∙ not_shared p own (passed ++ told p a ∷ []) ps (n + argument_width a + 1) args (among_last (told p a) passed) parts.rest))
      (nothing_shared (passed ++ told p a ∷ []) ps (n + argument_width a + 1) args parts.rest)

module _ (laws : Laws) (fields : List ConfigField) (F : ℕ → Option Kind) (more : (f : ℕ) (k : Kind) → field_kind fields f ≡ Some k → F f ≡ Some k) (scope : Scope) (keeps : KeepsIds scope) where
  checked : (root : ℕ → ℕ) (n : ℕ) (args : List Argument) (o : Option Callee) → AllFit argument in_size args → EachText args → call_faults fields (option_map signature_of o) scope root n args ≡ [] → is_call F scope root o (arguments_of fields scope (params_of (option_map signature_of o)) args) ≡ true
  checked root n args None fits texts h = absurd (fault_none _ n h)
  checked root n args (Some callee) fits texts h =
      let count : Bool = length args == length callee.procedure.params in
      let rest : List Fault = arguments_faults fields callee.writes scope root [] callee.procedure.params (n + 2) args in
      let same = (Decides-eqb (length args) (length callee.procedure.params)).0 (unless_none count RankMismatch n (left_none (unless count RankMismatch n) rest h)) in
      let none = right_none (unless count RankMismatch n) rest h in
      pair (arguments_formed laws fields F more scope keeps callee.writes root [] callee.procedure.params (n + 2) args fits texts same none) (nothing_shared laws fields F more scope keeps callee.writes root [] callee.procedure.params (n + 2) args none)

  module _ (memories above : List (List ℕ)) (signatures : List Signature) (cs : List Callee) (signed : map signature_of cs ≡ signatures) where
    abbrev callee_at : Option ℕ → Option Signature
    callee_at o = elim o [ None ↦ None | Some k ↦ slice_get signatures k ]

    pub call_formed : (root : ℕ → ℕ) (n : ℕ) (f : List ℕ) (args : List Argument) (trailing : Bool) → arguments.Fits in_size (args, trailing) → Text (spell_enclosed argument args trailing)
        → call_faults fields (callee_named fields memories above signatures f) scope root n args ≡ []
        → is_call F scope root (slice_get cs (number_in fields memories above signatures f)) (arguments_of fields scope (params_of (callee_named fields memories above signatures f)) args) ≡ true
    call_formed root n f args trailing fits text h = by (name_number above f) h
      where
        at : (k : ℕ) → option_map signature_of (slice_get cs k) ≡ slice_get signatures k
        at k = sym (slice_get-map signature_of cs k) ∙ ap (λ l. slice_get l k) signed

        by : (o : Option ℕ) → call_faults fields (callee_at o) scope root n args ≡ [] → is_call F scope root (slice_get cs (number_or no_id o)) (arguments_of fields scope (params_of (callee_at o)) args) ≡ true
        by None h = absurd (fault_none _ n h)
        by (Some k) h =
            subst (λ (s : Option Signature). call_faults fields s scope root n args ≡ [] → is_call F scope root (slice_get cs k) (arguments_of fields scope (params_of s) args) ≡ true) (at k)
            (checked root n args (slice_get cs k) (all_arguments args trailing fits) (each_text args trailing text)) h
