use Rattle.std.proofs.Common.{◌≡◌, drop}
use Rattle.ebpf_btf_decls.specs.Externs.{first_function_or_fault}
use Rattle.ebpf_btf_decls.proofs.externs.first_function_or_fault.Given as goal

-- none of the entries so far is one
abbrev pub invariant-loop-entry : goal.invariant-loop-entry
invariant-loop-entry l = first_function_or_fault l.btf (drop l.entry-index l.entries) ≡ first_function_or_fault l.fn.btf l.fn.entries
