use Rattle.ebpf_object.proofs.Staging.{descriptors_refused, kept_thrice, passed_on, relocating_refused}
use Rattle.ebpf_object.specs.Stages.{chosen}
use Rattle.ebpf_outcomes.proofs.PassOutcomes.{externs_refused, has_outcomes, linking_refused, refused_between}
use Rattle.ebpf_outcomes.proofs.outcomes.run_all.Goals as goal

pub returns-in_err-check_descriptors-clause-fault : goal.returns-in_err-check_descriptors-clause-fault
returns-in_err-check_descriptors-clause-fault g c =
    passed_on _ c.from_residual.result c.in_err-check_descriptors.field-0.0 c.from_residual.ensures.1
    (descriptors_refused (chosen c.args.steps.now) (g.K.SymbolSource.source c.args.kallsyms) c.args.object c.in_err-check_descriptors.field-0.0 c.in_err-check_descriptors.ensures.fault)

pub returns-in_err-records-clause-fault : goal.returns-in_err-records-clause-fault
returns-in_err-records-clause-fault g c =
    passed_on _ c.from_residual-in_err-records.result c.in_err-records.field-0.0 c.from_residual-in_err-records.ensures.1
    (relocating_refused (chosen c.args.steps.now) (g.K.SymbolSource.source c.args.kallsyms) c.args.object c.in_ok-check_descriptors.ensures.sound c.in_err-records.field-0.0 c.in_err-records.ensures.fault)

pub returns-in_err-slots-clause-fault : goal.returns-in_err-slots-clause-fault
returns-in_err-slots-clause-fault g c =
    let e = c.in_err-slots.field-0.0 in
    passed_on _ c.from_residual-in_err-slots.result e c.from_residual-in_err-slots.ensures.1
    (refused_between (g.K.SymbolSource.source c.args.kallsyms) c.args.object c.relocate_types.new.object (chosen c.args.steps.now) c.in_ok-check_descriptors.ensures.sound c.in_ok-records.ensures.ok e
    c.in_err-slots.ensures.fault)

pub returns-in_err-check_externs-clause-fault : goal.returns-in_err-check_externs-clause-fault
returns-in_err-check_externs-clause-fault g c =
    let e = c.in_err-check_externs.field-0.0 in
    passed_on _ c.from_residual-in_err-check_externs.result e c.from_residual-in_err-check_externs.ensures.1
    (externs_refused (g.K.SymbolSource.source c.args.kallsyms) c.args.object c.relocate_types.new.object (chosen c.args.steps.now) c.in_ok-check_descriptors.ensures.sound c.in_ok-records.ensures.ok
    c.args.asked c.write_slots.new.object c.in_ok-slots.slots c.in_ok-slots.ensures.rows e c.in_err-check_externs.ensures.fault)

pub returns-in_err-link_maps-clause-fault : goal.returns-in_err-link_maps-clause-fault
returns-in_err-link_maps-clause-fault g c =
    let e = c.in_err-link_maps.field-0.0 in
    passed_on _ c.from_residual-in_err-link_maps.result e c.from_residual-in_err-link_maps.ensures.1
    (linking_refused (g.K.SymbolSource.source c.args.kallsyms) c.args.object c.relocate_types.new.object (chosen c.args.steps.now) c.in_ok-check_descriptors.ensures.sound c.in_ok-records.ensures.ok
    c.args.asked c.write_slots.new.object c.in_ok-slots.slots c.in_ok-slots.ensures.rows c.in_ok-check_externs.ensures.sound e c.in_err-link_maps.ensures.fault)

pub returns-clause-outcomes : goal.returns-clause-outcomes
returns-clause-outcomes g c =
    has_outcomes (g.K.SymbolSource.source c.args.kallsyms) c.args.object c.relocate_types.new.object (chosen c.args.steps.now) c.in_ok-check_descriptors.ensures.sound c.in_ok-records.ensures.ok
    c.args.asked c.write_slots.new.object c.in_ok-slots.slots c.in_ok-slots.ensures.rows c.in_ok-check_externs.ensures.sound
    c.link_programs.new.object c.in_ok-link_maps.ensures.ok c.in_ok-records.records c.in_ok-records.ensures.records c.in_ok-link_maps.link_maps c.in_ok-link_maps.ensures.link_maps

pub returns-clause-others_stay : goal.returns-clause-others_stay
returns-clause-others_stay g c =
    kept_thrice c.args.object c.relocate_types.new.object c.write_slots.new.object c.link_programs.new.object
    c.relocate_types.ensures.others_stay c.write_slots.ensures.others_stay c.link_programs.ensures.others_stay
