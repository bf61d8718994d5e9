use Rattle.std.proofs.Common.{◌≡◌}
use Rattle.ebpf_btf_load.specs.KsymsSections.{names_func}
use Rattle.ebpf_btf_load.proofs.ksyms.names_func.Given as goal

-- none of the entries so far names one
abbrev pub invariant-loop-row : goal.invariant-loop-row
invariant-loop-row l = names_func l.types l.row-iterator ≡ names_func l.types l.rows
