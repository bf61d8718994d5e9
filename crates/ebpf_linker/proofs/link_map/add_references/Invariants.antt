use Rattle.std.proofs.Common.{◌≡◌, ◌++◌, drop}
use Rattle.ebpf_linker.specs.Copies.{references_of_copy}
use Rattle.ebpf_linker.proofs.link_map.add_references.Given as goal

-- the references so far, and those of the calls that are left
abbrev pub invariant-loop-call : goal.invariant-loop-call
invariant-loop-call l = l.references.items ++ references_of_copy l.bases l.base l.body (drop l.call-index l.calls) ≡ l.fn.references.items ++ references_of_copy l.bases l.base l.body l.calls
