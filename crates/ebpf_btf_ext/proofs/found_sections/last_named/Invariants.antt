use Rattle.std.proofs.Common.{◌≡◌, drop}
use Rattle.std.specs.FinMap.{get}
use Rattle.std.specs.Option.{option_copied}
use Rattle.ebpf_base.specs.Maps.{last_at, text_cmp}
use Rattle.ebpf_btf_ext.specs.SectionNames.{by_offsets, sections_with_names}
use Rattle.ebpf_btf_ext.proofs.found_sections.last_named.Given as goal

-- the last so far and those that are left give what all give
abbrev pub invariant-loop-offset : goal.invariant-loop-offset
invariant-loop-offset g l =
    last_at text_cmp l.name (option_copied l.last) (sections_with_names l.strings (drop l.offset-index l.sections)) ≡ get (by_offsets l.strings l.sections) l.name
