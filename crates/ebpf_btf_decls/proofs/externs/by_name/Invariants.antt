use Rattle.std.proofs.Common.{◌≡◌, drop}
use Rattle.std.specs.FinMap.{empty}
use Rattle.std.specs.List.{zip}
use Rattle.ebpf_base.specs.Maps.{put_all}
use Rattle.ebpf_btf_decls.proofs.externs.by_name.Given as goal

-- what is left to put from here is what was to put from the start
abbrev pub invariant-loop-number : goal.invariant-loop-number
invariant-loop-number l = put_all l.externs (zip (drop l.number l.names) (drop l.number l.last)) ≡ put_all empty (zip l.names l.last)
