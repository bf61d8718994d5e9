use Rattle.std.proofs.Common.{◌≡◌, ℕ, ◌<◌, ◌+◌, ◌∷◌, [], length, drop, None, Some, ap, sym, ◌∙◌, true, false, arith}
use Rattle.std.specs.Prelude.{option_map, slice_get}
use Rattle.ebpf_core_candidates.specs.declared.type_row.TypeRow.{TypeRow}
use Rattle.ebpf_btf.specs.Types.{kind_of, name_off}
use Rattle.ebpf_core_candidates.specs.TypeRows.{readable_at, marked_row, named_row, readable_name}
use Rattle.ebpf_core_candidates.specs.Candidates.{has_kind, is_hash_marked, name_hash}
use Rattle.ebpf_core_candidates.proofs.CandidateRows.{in_marks, named, out_of_marks, rows_more, rows_pass, rows_skip}
use Rattle.ebpf_btf.proofs.InOrder.{drop_some}
use Rattle.ebpf_core_candidates.proofs.Names.{headed, is_there, other_kind}
use Rattle.ebpf_core_candidates.proofs.Unnamed.{unread_more, unread_pass, unread_past, unreadable_none, has_name, is_none, anonymous_more, anonymous_pass, anonymous_skip, no_bytes, some_bytes}
use Rattle.ebpf_core_candidates.proofs.type_index.read_rows.Goals as goal

abbrev a_row : ℕ → ℕ → TypeRow
a_row hash id = record { hash = hash; id = id }

pub loop-id-preserved-in_default : goal.loop-id-preserved-in_default
loop-id-preserved-in_default c =
    let below : c.loop-id.id < length c.args.names.now.types = rw (← c.btf.ensures) (omega arith) in
    let none : option_map kind_of (slice_get c.args.names.now.types c.loop-id.id) ≡ None = rw (← c.btf-in-loop-id.ensures) (sym (rw c.in_default.is at c.head.ensures.kind)) in
    absurd (is_there c.args.names.now.types c.loop-id.id below none)

pub loop-id-preserved-then-not-has_kind : goal.loop-id-preserved-then-not-has_kind
loop-id-preserved-then-not-has_kind c =
    let info = c.args.names.now in
    let i = c.loop-id.id in
    let kind : option_map kind_of (slice_get info.types i) ≡ Some c.in-Some.head.kind = rw (← c.btf-in-loop-id.ensures) (sym (rw c.in-Some.is at c.head.ensures.kind)) in
    let name : option_map name_off (slice_get info.types i) ≡ Some c.in-Some.head.name_offset = rw (← c.btf-in-loop-id.ensures) (sym (rw c.in-Some.is at c.head.ensures.name)) in
    let head = headed (slice_get info.types i) c.in-Some.head.kind c.in-Some.head.name_offset kind name in
    let here : drop i info.types ≡ head.ty ∷ drop (i + 1) info.types = drop_some info.types head.ty i head.is in
    let out : has_kind c.args.kinds.now (kind_of head.ty) ≡ false = ap (has_kind c.args.kinds.now) head.of_kind ∙ sym c.if-not-has_kind.ensures in
    record {
      rows = rw (rows_pass c.args.kinds.now c.args.marks.now info info.types i head.ty here out) c.loop-id.invariant.rows;
      without = λ kind among. rw (anonymous_pass info kind info.types i head.ty here (other_kind c.args.kinds.now head.ty kind out among)) (c.loop-id.invariant.without kind among);
      unread = λ kind among. rw (unread_pass info kind info.types i head.ty here (other_kind c.args.kinds.now head.ty kind out among)) (c.loop-id.invariant.unread kind among);
      kinds = c.loop-id.invariant.kinds;
    }

pub loop-id-preserved-in_default-name : goal.loop-id-preserved-in_default-name
loop-id-preserved-in_default-name c =
    let info = c.args.names.now in
    let i = c.loop-id.id in
    let kind : option_map kind_of (slice_get info.types i) ≡ Some c.in-Some.head.kind = rw (← c.btf-in-loop-id.ensures) (sym (rw c.in-Some.is at c.head.ensures.kind)) in
    let name : option_map name_off (slice_get info.types i) ≡ Some c.in-Some.head.name_offset = rw (← c.btf-in-loop-id.ensures) (sym (rw c.in-Some.is at c.head.ensures.name)) in
    let head = headed (slice_get info.types i) c.in-Some.head.kind c.in-Some.head.name_offset kind name in
    let here : drop i info.types ≡ head.ty ∷ drop (i + 1) info.types = drop_some info.types head.ty i head.is in
    let in_it : has_kind c.args.kinds.now (kind_of head.ty) ≡ true = ap (has_kind c.args.kinds.now) head.of_kind ∙ sym c.if-not-has_kind.ensures in
    let none : readable_name info head.ty ≡ None = ap (readable_at info.strings) head.named ∙ sym c.in_default-name.ensures in
    record {
      rows = rw (rows_skip c.args.kinds.now c.args.marks.now info info.types i head.ty here in_it (ap (λ o. marked_row c.args.marks.now (named_row i o)) none)) c.loop-id.invariant.rows;
      without = λ kind among. rw (anonymous_skip info kind info.types i head.ty here (ap is_none none)) (c.loop-id.invariant.without kind among);
      unread = λ kind among. unread_more info kind info.types i head.ty _ _ _ here (unreadable_none info head.ty none) (rw (head.of_kind, head.named) (c.keep_first.ensures.first kind)) (c.loop-id.invariant.unread kind among);
      kinds = (c.loop-id.invariant.kinds.0, c.keep_first.ensures.kinds);
    }

pub loop-id-preserved-then-is_empty : goal.loop-id-preserved-then-is_empty
loop-id-preserved-then-is_empty c =
    let info = c.args.names.now in
    let i = c.loop-id.id in
    let kind : option_map kind_of (slice_get info.types i) ≡ Some c.in-Some.head.kind = rw (← c.btf-in-loop-id.ensures) (sym (rw c.in-Some.is at c.head.ensures.kind)) in
    let name : option_map name_off (slice_get info.types i) ≡ Some c.in-Some.head.name_offset = rw (← c.btf-in-loop-id.ensures) (sym (rw c.in-Some.is at c.head.ensures.name)) in
    let head = headed (slice_get info.types i) c.in-Some.head.kind c.in-Some.head.name_offset kind name in
    let here : drop i info.types ≡ head.ty ∷ drop (i + 1) info.types = drop_some info.types head.ty i head.is in
    let in_it : has_kind c.args.kinds.now (kind_of head.ty) ≡ true = ap (has_kind c.args.kinds.now) head.of_kind ∙ sym c.if-not-has_kind.ensures in
    let empty : c.in-Some-name.name.now ≡ [] = no_bytes c.in-Some-name.name.now c.if-is_empty.ensures in
    let none : readable_name info head.ty ≡ Some [] = ap (readable_at info.strings) head.named ∙ sym c.in-Some-name.ensures ∙ ap Some empty in
    record {
      rows = rw (rows_skip c.args.kinds.now c.args.marks.now info info.types i head.ty here in_it (ap (λ o. marked_row c.args.marks.now (named_row i o)) none)) c.loop-id.invariant.rows;
      without = λ kind among. anonymous_more info kind info.types i head.ty _ _ _ here none (rw head.of_kind (c.in_ok-add_anonymous.ensures.added kind)) (c.loop-id.invariant.without kind among);
      unread = λ kind among. rw (unread_past info kind info.types i head.ty [] here none) (c.loop-id.invariant.unread kind among);
      kinds = (c.in_ok-add_anonymous.ensures.kinds, c.loop-id.invariant.kinds.1);
    }

pub loop-id-preserved-then-not-is_hash_marked : goal.loop-id-preserved-then-not-is_hash_marked
loop-id-preserved-then-not-is_hash_marked c =
    let info = c.args.names.now in
    let marks = c.args.marks.now in
    let i = c.loop-id.id in
    let kind : option_map kind_of (slice_get info.types i) ≡ Some c.in-Some.head.kind = rw (← c.btf-in-loop-id.ensures) (sym (rw c.in-Some.is at c.head.ensures.kind)) in
    let name : option_map name_off (slice_get info.types i) ≡ Some c.in-Some.head.name_offset = rw (← c.btf-in-loop-id.ensures) (sym (rw c.in-Some.is at c.head.ensures.name)) in
    let head = headed (slice_get info.types i) c.in-Some.head.kind c.in-Some.head.name_offset kind name in
    let here : drop i info.types ≡ head.ty ∷ drop (i + 1) info.types = drop_some info.types head.ty i head.is in
    let in_it : has_kind c.args.kinds.now (kind_of head.ty) ≡ true = ap (has_kind c.args.kinds.now) head.of_kind ∙ sym c.if-not-has_kind.ensures in
    let some : (c.in-Some-name.name.now ≡ []) → ⊥ = some_bytes c.in-Some-name.name.now c.if-is_empty.ensures in
    let text : readable_name info head.ty ≡ Some c.in-Some-name.name.now = ap (readable_at info.strings) head.named ∙ sym c.in-Some-name.ensures in
    let row : TypeRow = a_row (name_hash c.in-Some-name.name.now) i in
    let out : is_hash_marked marks row.hash ≡ false = ap (is_hash_marked marks) (sym c.name_hash-hash.ensures) ∙ sym c.if-not-is_hash_marked.ensures in
    let none : marked_row marks (named_row i (readable_name info head.ty)) ≡ None =
    ap (λ o. marked_row marks (named_row i o)) text ∙ ap (marked_row marks) (named i c.in-Some-name.name.now some) ∙ out_of_marks marks row out in
    record {
      rows = rw (rows_skip c.args.kinds.now marks info info.types i head.ty here in_it none) c.loop-id.invariant.rows;
      without = λ kind among. rw (anonymous_skip info kind info.types i head.ty here (has_name _ c.in-Some-name.name.now text some)) (c.loop-id.invariant.without kind among);
      unread = λ kind among. rw (unread_past info kind info.types i head.ty _ here text) (c.loop-id.invariant.unread kind among);
      kinds = c.loop-id.invariant.kinds;
    }

pub loop-id-preserved : goal.loop-id-preserved
loop-id-preserved c =
    let info = c.args.names.now in
    let i = c.loop-id.id in
    let kind : option_map kind_of (slice_get info.types i) ≡ Some c.in-Some.head.kind = rw (← c.btf-in-loop-id.ensures) (sym (rw c.in-Some.is at c.head.ensures.kind)) in
    let name : option_map name_off (slice_get info.types i) ≡ Some c.in-Some.head.name_offset = rw (← c.btf-in-loop-id.ensures) (sym (rw c.in-Some.is at c.head.ensures.name)) in
    let head = headed (slice_get info.types i) c.in-Some.head.kind c.in-Some.head.name_offset kind name in
    let here : drop i info.types ≡ head.ty ∷ drop (i + 1) info.types = drop_some info.types head.ty i head.is in
    let in_it : has_kind c.args.kinds.now (kind_of head.ty) ≡ true = ap (has_kind c.args.kinds.now) head.of_kind ∙ sym c.if-not-has_kind.ensures in
    let some : (c.in-Some-name.name.now ≡ []) → ⊥ = some_bytes c.in-Some-name.name.now c.if-is_empty.ensures in
    let text : readable_name info head.ty ≡ Some c.in-Some-name.name.now = ap (readable_at info.strings) head.named ∙ sym c.in-Some-name.ensures in
    let made : named_row i (readable_name info head.ty) ≡ Some (a_row c.name_hash-hash.result i) =
    ap (named_row i) text ∙ named i c.in-Some-name.name.now some ∙ ap (λ (h : ℕ). Some (a_row h i)) (sym c.name_hash-hash.ensures) in
    let row : marked_row c.args.marks.now (named_row i (readable_name info head.ty)) ≡ Some (a_row c.name_hash-hash.result i) =
    ap (marked_row c.args.marks.now) made ∙ in_marks c.args.marks.now (a_row c.name_hash-hash.result i) (sym c.if-not-is_hash_marked.ensures) in
    record {
      rows = rw c.in_ok-push.ensures.items (rows_more c.args.kinds.now c.args.marks.now info info.types i head.ty _ _ here in_it row ∙ c.loop-id.invariant.rows);
      without = λ kind among. rw (anonymous_skip info kind info.types i head.ty here (has_name _ c.in-Some-name.name.now text some)) (c.loop-id.invariant.without kind among);
      unread = λ kind among. rw (unread_past info kind info.types i head.ty _ here text) (c.loop-id.invariant.unread kind among);
      kinds = c.loop-id.invariant.kinds;
    }
