use Rattle.std.proofs.Common.{◌≡◌, Some, sym, ap, ◌∙◌}
use Rattle.std.specs.BTreeMap.{get}
use Rattle.std.specs.Option.{option_copied}
use Rattle.ebpf_core.specs.Searches.{question_cmp, Sides}
use Rattle.ebpf_core_relo.specs.Absences.{absence_of}
use Rattle.ebpf_core_relo.proofs.record_search.RecordSearch.absence.Goals as goal

pub returns-in-Some-clause-absence : goal.returns-in-Some-clause-absence
returns-in-Some-clause-absence c =
    let there : get question_cmp c.self.inside.cached c.question_of.result ≡ Some c.in-Some.absence.now = sym c.get.ensures.value ∙ ap option_copied c.in-Some.is in
    sym (c.self.invariant c.question_of.result c.in-Some.absence.now there c.args.relocation.now (sym c.question_of.ensures))
    ∙ ap (λ (s : Sides). absence_of s.local s.target c.args.relocation.now) c.self.view_is
