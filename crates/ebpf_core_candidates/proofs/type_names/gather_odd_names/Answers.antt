use Rattle.std.proofs.Common.{◌≤◌, length, sym, ◌∙◌, arith}
use Rattle.std.specs.FinMap.{get-empty}
use Rattle.std.specs.Ordering.{nat_cmp}
use Rattle.ebpf_core_candidates.proofs.Names.{odd_more, odd_over, odd_skip, odd_start}
use Rattle.ebpf_core_candidates.proofs.type_names.gather_odd_names.Goals as goal

pub loop-id-init : goal.loop-id-init
loop-id-init c = λ n. rw c.new-odd.ensures (get-empty nat_cmp n ∙ odd_start c.args.btf.now n)

pub loop-id-preserved-in_default : goal.loop-id-preserved-in_default
loop-id-preserved-in_default c =
    λ n. odd_skip c.args.btf.now c.loop-id.id n _ (sym c.in_ok-name.ensures ∙ c.in_default.is) (c.loop-id.invariant n)

pub loop-id-preserved : goal.loop-id-preserved
loop-id-preserved c =
    λ n. rw c.in_ok-insert.ensures.ok (odd_more c.args.btf.now c.loop-id.id n c.loop-id.odd c.in-Some.name (sym c.in_ok-name.ensures ∙ c.in-Some.is) (c.loop-id.invariant n))

pub returns : goal.returns
returns c =
    let past : length c.args.btf.now.types ≤ c.loop-id.id = omega arith in
    λ n. odd_over c.args.btf.now c.loop-id.id n _ past (c.loop-id.invariant n)
