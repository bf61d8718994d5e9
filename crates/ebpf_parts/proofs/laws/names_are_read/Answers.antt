use Rattle.ebpf_parts.proofs.NamesRead as read
use Rattle.ebpf_parts.proofs.laws.names_are_read.Goals as goal

pub returns-clause-stated : goal.returns-clause-stated
returns-clause-stated c = read.no_name_says_other

pub returns-clause-kept : goal.returns-clause-kept
returns-clause-kept c = read.lenient_keeps_kinds

pub returns-clause-taken : goal.returns-clause-taken
returns-clause-taken c = read.lenient_takes_names
