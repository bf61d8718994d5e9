use Rattle.std.proofs.Common.{◌≡◌, ◌+◌, ◌≤◌, ◌^◌, length}
use Rattle.ebpf_btf_load.specs.KsymsSections.{function_from, hidden_func}
use Rattle.ebpf_btf_load.specs.TypeSources.{given_of}
use Rattle.ebpf_btf_load.proofs.symbols.hidden_func.Given as goal

-- none of the types so far is it
abbrev pub invariant-loop-ty : goal.invariant-loop-ty
invariant-loop-ty l = record {
  few : l.id + length l.ty-iterator ≤ 2 ^ 32;
  none : function_from (given_of l.sources) l.symbol l.id l.ty-iterator ≡ hidden_func (given_of l.sources) l.symbol;
}
