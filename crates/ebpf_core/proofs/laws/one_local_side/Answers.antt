use Rattle.std.proofs.Common.{sym}
use Rattle.ebpf_core.proofs.LocalSides.{one_side, side_is}
use Rattle.ebpf_core.proofs.laws.one_local_side.Goals as goal

pub returns-clause-so : goal.returns-clause-so
returns-clause-so c = side_is

pub returns-clause-alone : goal.returns-clause-alone
returns-clause-alone c = λ info r a side. sym (one_side info r side)
