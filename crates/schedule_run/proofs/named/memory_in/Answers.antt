use Rattle.std.proofs.Common.{◌≡◌, ◌∷◌, ◌+◌, ◌<◌, ◌≤◌, List, drop, map, length, sym, ap, ◌∙◌, arith}
use Rattle.std.proofs.Math.ListN.{drop_of_length-le}
use Rattle.std.proofs.lemmas.List.{length-map}
use Rattle.exo_tree.specs.Tree.{MemoryKind}
use Rattle.exo_tree.specs.PlainTables.{memory_kind}
use Rattle.exo_tree.specs.PlainUnit.{program}
use Rattle.exo_tree.specs.declared.unit.MemoryClass.{MemoryClass}
use Rattle.exo_meaning.specs.Units.{is_text}
use Rattle.rules_names.specs.Names.{memory_in, number_from}
use Rattle.config_state.proofs.Sets.{drop_item}
use Rattle.schedule_run.proofs.FirstNamed.{named_here, named_further, few_memories}
use Rattle.schedule_run.proofs.named.memory_in.Goals as goal

pub overflow_cast-result : goal.overflow_cast-result
overflow_cast-result c =
    let few = few_memories (program c.args.unit.now) c.requires in
    omega (arith, few, c.loop-k-test.true, ap length c.as_slice-memories.ensures, length-map c.as_slice-memories.result.now memory_kind)

pub returns-then-is_spelled : goal.returns-then-is_spelled
returns-then-is_spelled c =
    let items = c.as_slice-memories.result.now in
    let k = c.loop-k.k in
    let x = c.args.name.now in
    let item = c.index-memories-k.result in
    let less : k < length items = omega (arith, c.loop-k-test.true) in
    let names = λ (l : List MemoryClass). map (λ (m : MemoryKind). m.name) (map memory_kind l) in
    let here : memory_in (map memory_kind items) x ≡ number_from k (item.name ∷ names (drop (k + 1) items)) x =
    c.loop-k.invariant
    ∙ ap (λ (l : List MemoryClass). number_from k (names l) x) (drop_item items k item less c.index-memories-k.is) in
    sym
    (ap (λ ms. memory_in ms x) (sym c.as_slice-memories.ensures)
    ∙ named_here x _ k item.name (names (drop (k + 1) items)) here
    (ap (is_text item.name) (sym c.as_slice.ensures)
    ∙ ap (λ (m : MemoryClass). is_text m.name c.as_slice.result.now) c.index-memories-k.is
    ∙ (sym c.is_spelled.ensures ∙ c.if-is_spelled.true)))

pub loop-k-preserved : goal.loop-k-preserved
loop-k-preserved c =
    let items = c.as_slice-memories.result.now in
    let k = c.loop-k.k in
    let x = c.args.name.now in
    let item = c.index-memories-k.result in
    let less : k < length items = omega (arith, c.loop-k-test.true) in
    let names = λ (l : List MemoryClass). map (λ (m : MemoryKind). m.name) (map memory_kind l) in
    let here : memory_in (map memory_kind items) x ≡ number_from k (item.name ∷ names (drop (k + 1) items)) x =
    c.loop-k.invariant
    ∙ ap (λ (l : List MemoryClass). number_from k (names l) x) (drop_item items k item less c.index-memories-k.is) in
    named_further x _ k item.name (names (drop (k + 1) items)) here
    (ap (is_text item.name) (sym c.as_slice.ensures)
    ∙ ap (λ (m : MemoryClass). is_text m.name c.as_slice.result.now) c.index-memories-k.is
    ∙ (sym c.is_spelled.ensures ∙ c.if-is_spelled.false))

pub returns : goal.returns
returns c =
    let items = c.as_slice-memories.result.now in
    let k = c.loop-k.k in
    let x = c.args.name.now in
    let past : length items ≤ k = omega (arith, c.loop-k-test.false) in
    let names = λ (l : List MemoryClass). map (λ (m : MemoryKind). m.name) (map memory_kind l) in
    sym
    (ap (λ ms. memory_in ms x) (sym c.as_slice-memories.ensures) ∙ c.loop-k.invariant
    ∙ ap (λ (l : List MemoryClass). number_from k (names l) x) (drop_of_length-le items past))
