use Rattle.std.proofs.Common.{◌≡◌, drop}
use Rattle.ebpf_base.specs.Maps.{put_all}
use Rattle.ebpf_ksyms.specs.PrivateContracts.{externs_from}
use Rattle.ebpf_ksyms.proofs.named.externs_from.Given as goal

-- what is left to put from here gives the whole map
abbrev pub invariant-loop-entry : goal.invariant-loop-entry
invariant-loop-entry l = put_all l.externs (drop l.entry-index l.all) ≡ externs_from l.all
