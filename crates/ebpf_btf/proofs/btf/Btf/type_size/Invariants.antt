use Rattle.std.proofs.Common.{◌≡◌, ◌-◌}
use Rattle.ebpf_btf.specs.Steps.{size_of, size_from}
use Rattle.ebpf_btf.proofs.btf.Btf.type_size.Given as goal

abbrev pub invariant-loop-look : goal.invariant-loop-look
invariant-loop-look l =
    size_from (33 - l._look) l.self.types l.type_id l.count l.reached ≡ size_of l.self.types l.type_id
