use Rattle.std.proofs.Common.{◌≡◌, drop}
use Rattle.std.specs.List.{position, position_from}
use Rattle.ebpf_btf_decls.specs.Externs.{is_word}
use Rattle.ebpf_btf_decls.proofs.externs.word_id.Given as goal

-- none of the types so far is one
abbrev pub invariant-loop-id : goal.invariant-loop-id
invariant-loop-id l = position_from is_word l.id (drop l.id l.btf.types) ≡ position is_word l.btf.types
