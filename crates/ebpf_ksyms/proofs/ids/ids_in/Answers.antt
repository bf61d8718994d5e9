use Rattle.std.proofs.Common.{◌≡◌, ◌+◌, ◌<◌, length, ap, sym, ◌∙◌, drop, None, arith}
use Rattle.std.specs.Prelude.{option_map, slice_get}
use Rattle.ebpf_btf.specs.Types.{kind_of}
use Rattle.ebpf_btf.proofs.InOrder.{drop_none, drop_some}
use Rattle.ebpf_core_candidates.proofs.Names.{headed, is_there}
use Rattle.ebpf_ksyms.specs.PrivateContracts.{finished, value_named}
use Rattle.ebpf_ksyms.proofs.Outcomes.{by_head, more-types, no-types}
use Rattle.ebpf_ksyms.proofs.ids.ids_in.Goals as goal

pub loop-id-preserved-in_default : goal.loop-id-preserved-in_default
loop-id-preserved-in_default c =
    let below : c.loop-id.id < length c.args.kernel.now.types = omega arith in
    let none : option_map kind_of (slice_get c.args.kernel.now.types c.loop-id.id) ≡ None = sym (rw c.in_default.is at c.head.ensures.kind) in
    absurd (is_there c.args.kernel.now.types c.loop-id.id below none)

pub loop-id-preserved : goal.loop-id-preserved
loop-id-preserved c = λ q.
    let info = c.args.kernel.now in
    let i = c.loop-id.id in
    let head = headed (slice_get info.types i) c.in-Some.head.kind c.in-Some.head.name_offset (sym (rw c.in-Some.is at c.head.ensures.kind)) (sym (rw c.in-Some.is at c.head.ensures.name)) in
    let with_it = c.in_ok-add_kernel_type.ensures.ok q ∙ by_head info q i head.ty c.in-Some.head.kind c.in-Some.head.name_offset (value_named c.loop-id.ids q) head.of_kind head.named in
    sym (more-types info q i head.ty (drop (i + 1) info.types) (value_named c.loop-id.ids q) (value_named c.add_kernel_type.new.ids q) with_it)
    ∙ ap (λ ts. option_map (finished info q i ts) (value_named c.loop-id.ids q)) (sym (drop_some info.types head.ty i head.is))
    ∙ c.loop-id.invariant q

pub returns-clause-ok : goal.returns-clause-ok
returns-clause-ok c = λ q.
    let info = c.args.kernel.now in
    sym (no-types info q c.loop-id.id (drop c.loop-id.id info.types) (value_named c.loop-id.ids q) (drop_none info.types c.loop-id.id (omega arith)))
    ∙ c.loop-id.invariant q
