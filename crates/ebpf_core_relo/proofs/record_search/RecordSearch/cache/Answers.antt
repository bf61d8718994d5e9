use Rattle.std.proofs.Common.{◌≡◌, ap, sym, ◌∙◌}
use Rattle.ebpf_core.proofs.Searching.{one_more}
use Rattle.ebpf_core.specs.Searches.{Sides}
use Rattle.ebpf_core_relo.specs.Absences.{absence_of}
use Rattle.ebpf_core_relo.proofs.MatchAbsences.{same_absence}
use Rattle.ebpf_core_relo.proofs.record_search.RecordSearch.cache.Goals as goal

pub invariant_of-self-2 : goal.invariant_of-self-2
invariant_of-self-2 c =
    let is : absence_of c.self.inside.search.local c.self.inside.search.target c.args.relocation.now ≡ c.args.absence =
    ap (λ (s : Sides). absence_of s.local s.target c.args.relocation.now) c.self.view_is ∙ sym c.requires in
    one_more _ c.self.inside.cached c.insert.new.self c.question_of.result c.args.absence
    (λ s asks. same_absence _ _ s c.args.relocation.now (asks ∙ c.question_of.ensures) ∙ is) c.self.invariant c.in_ok-insert.ensures.updates.0
