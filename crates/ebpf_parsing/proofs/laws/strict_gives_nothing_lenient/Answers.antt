use Rattle.ebpf_parsing.proofs.Alike.{strict_kinds_are_named}
use Rattle.ebpf_parsing.proofs.PlainFaults.{strict_takes_both_orders, strict_takes_each_machine}
use Rattle.ebpf_parsing.proofs.laws.strict_gives_nothing_lenient.Goals as goal

pub returns-clause-kinds : goal.returns-clause-kinds
returns-clause-kinds c = strict_kinds_are_named

pub returns-clause-orders : goal.returns-clause-orders
returns-clause-orders c = strict_takes_both_orders

pub returns-clause-machines : goal.returns-clause-machines
returns-clause-machines c = strict_takes_each_machine
