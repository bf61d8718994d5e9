use Rattle.std.proofs.Common.{◌≡◌, ◌<◌, length, get_or, arith, [], ap, sym, ◌∙◌, true}
use Rattle.std.proofs.lemmas.List.{get_or_read}
use Rattle.std.proofs.lemmas.Bool.{and_parts}
use Rattle.ebpf_btf.specs.EssentialNames.{essential_name}
use Rattle.ebpf_core_candidates.specs.Candidates.{candidates, IndexedTypes, has_named, is_hash_marked, name_hash, has_kind}
use Rattle.ebpf_core_candidates.proofs.CandidateRows.{candidates_named}
use Rattle.ebpf_core_candidates.proofs.Unnamed.{anonymous_found, no_bytes, some_bytes}
use Rattle.ebpf_core_candidates.proofs.type_index.KindsIndex.ids_of.Goals as goal

pub returns-then-is_empty : goal.returns-then-is_empty
returns-then-is_empty c =
    let has : has_named (record { info = c.self.inside.names; kinds = c.self.inside.kinds; marks = c.self.inside.marks.items }) c.args.kind c.args.name.now ≡ true = ap (λ (s : IndexedTypes). has_named s c.args.kind c.args.name.now) c.self.view_is ∙ c.requires in
    let among : has_kind c.self.inside.kinds c.args.kind ≡ true = (and_parts _ _ has).0 in
    let name : c.essential_name-name.result.now ≡ essential_name c.args.name.now = c.essential_name-name.ensures ∙ ap essential_name c.as_bytes.ensures.value in
    let none : c.essential_name-name.result.now ≡ [] = no_bytes c.essential_name-name.result.now c.if-is_empty.ensures in
    let list : c.as_slice.result.now ≡ candidates c.self.inside.names c.args.kind [] =
    let inside : c.kind_number-number.result < length c.self.inside.anonymous.items = omega (arith, c.kind_number-number.ensures.few, c.self.invariant.kinds.0) in
    let read : c.index.result.now ≡ get_or c.self.inside.anonymous.items c.kind_number-number.result [] = get_or_read c.self.inside.anonymous.items c.kind_number-number.result c.index.result.now inside c.index.ensures [] in
    let stored = c.self.invariant.anonymous c.args.kind among in
    c.as_slice.ensures ∙ read ∙ ap (λ k. get_or c.self.inside.anonymous.items k []) c.kind_number-number.ensures.number ∙ stored in
    list ∙ anonymous_found c.self.inside.names c.args.kind c.args.name.now (sym name ∙ none)
    ∙ ap (λ (s : IndexedTypes). candidates s.info c.args.kind c.args.name.now) c.self.view_is

pub returns : goal.returns
returns c =
    let has : has_named (record { info = c.self.inside.names; kinds = c.self.inside.kinds; marks = c.self.inside.marks.items }) c.args.kind c.args.name.now ≡ true = ap (λ (s : IndexedTypes). has_named s c.args.kind c.args.name.now) c.self.view_is ∙ c.requires in
    let among : has_kind c.self.inside.kinds c.args.kind ≡ true = (and_parts _ _ has).0 in
    let name : c.essential_name-name.result.now ≡ essential_name c.args.name.now = c.essential_name-name.ensures ∙ ap essential_name c.as_bytes.ensures.value in
    let some : (c.essential_name-name.result.now ≡ []) → ⊥ = some_bytes c.essential_name-name.result.now c.if-is_empty.ensures in
    let found = candidates_named c.self.inside.kinds c.self.inside.marks.items c.self.inside.names c.args.kind among c.args.name.now c.self.inside.rows.items c.self.inside.ids.items c.row_range-start.result.0 c.row_range-start.result.1 c.kind_number-number.result c.essential_name-name.result.now
    c.kind_number-number.ensures.number name some (ap (λ n. is_hash_marked c.self.inside.marks.items (name_hash n)) name ∙ (and_parts _ _ has).1) c.self.invariant.same_rows c.self.invariant.same_ids (rw c.deref.ensures.value at c.row_range-start.ensures.all) in
    rw c.deref-2.ensures.value (found ∙ ap (λ (s : IndexedTypes). candidates s.info c.args.kind c.args.name.now) c.self.view_is)
