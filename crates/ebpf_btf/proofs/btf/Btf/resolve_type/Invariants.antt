use Rattle.std.proofs.Common.{◌≡◌, ◌-◌}
use Rattle.ebpf_btf.specs.Steps.{resolved, resolved_from}
use Rattle.ebpf_btf.proofs.btf.Btf.resolve_type.Given as goal

abbrev pub invariant-loop-look : goal.invariant-loop-look
invariant-loop-look l =
    resolved_from (33 - l._look) l.self.types l.type_id l.reached ≡ resolved l.self.types l.type_id
