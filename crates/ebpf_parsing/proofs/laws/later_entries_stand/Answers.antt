use Rattle.ebpf_base.proofs.Mapped.{later_text_stands, later_number_stands, later_key_stands}
use Rattle.ebpf_parsing.proofs.laws.later_entries_stand.Goals as goal

pub returns-clause-programs : goal.returns-clause-programs
returns-clause-programs c = later_text_stands

pub returns-clause-functions : goal.returns-clause-functions
returns-clause-functions c = later_key_stands

pub returns-clause-symbols : goal.returns-clause-symbols
returns-clause-symbols c = later_number_stands

pub returns-clause-relocations : goal.returns-clause-relocations
returns-clause-relocations c = later_number_stands

pub returns-clause-section_infos : goal.returns-clause-section_infos
returns-clause-section_infos c = later_text_stands

pub returns-clause-maps : goal.returns-clause-maps
returns-clause-maps c = later_text_stands

pub returns-clause-externs : goal.returns-clause-externs
returns-clause-externs c = later_text_stands
