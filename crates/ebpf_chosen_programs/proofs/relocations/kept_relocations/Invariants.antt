use Rattle.std.proofs.Common.{◌≡◌, map}
use Rattle.std.specs.FinMap.{contains_key}
use Rattle.ebpf_base.specs.Maps.{put_all}
use Rattle.ebpf_chosen_programs.specs.LeavingOut.{kept_in_section, kept_relocations}
use Rattle.ebpf_chosen_programs.proofs.relocations.kept_relocations.Given as goal

-- with those of the sections that are left, all are there
abbrev pub invariant-loop-section : goal.invariant-loop-section
invariant-loop-section l = put_all l.kept (map (λ s. (s.0, kept_in_section l.functions (contains_key l.reached) s.0 s.1)) l.section-iterator) ≡ kept_relocations l.fn.functions (contains_key l.fn.reached) l.fn.relocations
