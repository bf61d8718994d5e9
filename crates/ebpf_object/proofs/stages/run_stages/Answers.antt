use Rattle.ebpf_object.specs.Stages.{chosen}
use Rattle.ebpf_object.proofs.Staging.{descriptors_refused, externs_refused, kept_twice, kept_thrice, kept_four_times, relocating_refused, after_calls, fds_refused, linking_refused, writing_externs_refused, of_error, of_ok, passed_on, resolving_refused}
use Rattle.ebpf_object.proofs.stages.run_stages.Goals as goal

pub returns-in_err-check_descriptors-clause-fault : goal.returns-in_err-check_descriptors-clause-fault
returns-in_err-check_descriptors-clause-fault g c =
    passed_on _ c.from_residual.result c.in_err-check_descriptors.field-0.0 c.from_residual.ensures.1
    (descriptors_refused (chosen c.args.steps.now) (g.K.SymbolSource.source c.args.kallsyms) c.args.object.now c.in_err-check_descriptors.field-0.0 c.in_err-check_descriptors.ensures.fault)

pub returns-in_err-relocate_types-clause-fault : goal.returns-in_err-relocate_types-clause-fault
returns-in_err-relocate_types-clause-fault g c =
    passed_on _ c.from_residual-in_err-relocate_types.result c.in_err-relocate_types.field-0.0 c.from_residual-in_err-relocate_types.ensures.1
    (relocating_refused (chosen c.args.steps.now) (g.K.SymbolSource.source c.args.kallsyms) c.args.object.now c.in_ok-check_descriptors.ensures.sound c.in_err-relocate_types.field-0.0 c.in_err-relocate_types.ensures.fault)

pub returns-in_err-write_map_fds-clause-fault : goal.returns-in_err-write_map_fds-clause-fault
returns-in_err-write_map_fds-clause-fault g c =
    passed_on _ c.from_residual-in_err-write_map_fds.result c.in_err-write_map_fds.field-0.0 c.from_residual-in_err-write_map_fds.ensures.1
    (fds_refused (chosen c.args.steps.now) (g.K.SymbolSource.source c.args.kallsyms) c.args.object.now c.in_ok-check_descriptors.ensures.sound c.relocate_types.new.object c.in_ok-relocate_types.ensures.ok c.in_err-write_map_fds.field-0.0 c.in_err-write_map_fds.ensures.fault)

pub returns-in_err-resolve-clause-fault : goal.returns-in_err-resolve-clause-fault
returns-in_err-resolve-clause-fault g c =
    passed_on _ c.from_residual-in_err-resolve.result c.in_err-resolve.field-0.0 c.from_residual-in_err-resolve.ensures.1
    (resolving_refused (chosen c.args.steps.now) (g.K.SymbolSource.source c.args.kallsyms) c.args.object.now c.in_ok-check_descriptors.ensures.sound c.relocate_types.new.object c.in_ok-relocate_types.ensures.ok
    c.in_ok-write_map_fds.ensures.sound c.write_map_fds.new.object c.in_ok-write_map_fds.ensures.ok c.in_err-resolve.field-0.0 c.in_err-resolve.ensures.fault)

pub returns-in_err-write_externs-clause-fault : goal.returns-in_err-write_externs-clause-fault
returns-in_err-write_externs-clause-fault g c =
    passed_on _ c.from_residual-in_err-write_externs.result c.in_err-write_externs.field-0.0 c.from_residual-in_err-write_externs.ensures.1
    (writing_externs_refused (chosen c.args.steps.now) (g.K.SymbolSource.source c.args.kallsyms) c.args.object.now c.in_ok-check_descriptors.ensures.sound c.relocate_types.new.object c.in_ok-relocate_types.ensures.ok
    c.in_ok-write_map_fds.ensures.sound c.write_map_fds.new.object c.in_ok-write_map_fds.ensures.ok c.resolve.new.object c.in_ok-resolve.ensures.ok c.in_err-write_externs.field-0.0 c.in_err-write_externs.ensures.fault)

pub returns-in_err-check_externs-clause-fault : goal.returns-in_err-check_externs-clause-fault
returns-in_err-check_externs-clause-fault g c =
    passed_on _ c.from_residual-in_err-check_externs.result c.in_err-check_externs.field-0.0 c.from_residual-in_err-check_externs.ensures.1
    (externs_refused (chosen c.args.steps.now) (g.K.SymbolSource.source c.args.kallsyms) c.args.object.now c.in_ok-check_descriptors.ensures.sound c.relocate_types.new.object c.in_ok-relocate_types.ensures.ok
    c.in_ok-write_map_fds.ensures.sound c.write_map_fds.new.object c.in_ok-write_map_fds.ensures.ok c.resolve.new.object c.in_ok-resolve.ensures.ok
    c.in_ok-write_externs.ensures.sound c.write_externs.new.object c.in_ok-write_externs.ensures.ok c.in_err-check_externs.field-0.0 c.in_err-check_externs.ensures.fault)

pub returns-clause-ok : goal.returns-clause-ok
returns-clause-ok g c =
    of_ok c.link_programs.result
    (after_calls (chosen c.args.steps.now) (g.K.SymbolSource.source c.args.kallsyms) c.args.object.now c.in_ok-check_descriptors.ensures.sound c.relocate_types.new.object c.in_ok-relocate_types.ensures.ok
    c.in_ok-write_map_fds.ensures.sound c.write_map_fds.new.object c.in_ok-write_map_fds.ensures.ok c.resolve.new.object c.in_ok-resolve.ensures.ok
    c.in_ok-write_externs.ensures.sound c.write_externs.new.object c.in_ok-write_externs.ensures.ok c.in_ok-check_externs.ensures.sound c.link_programs.new.object)
    c.link_programs.ensures.ok

pub returns-in_err-write_map_fds-clause-others_stay : goal.returns-in_err-write_map_fds-clause-others_stay
returns-in_err-write_map_fds-clause-others_stay g c =
    kept_twice c.args.object.now c.relocate_types.new.object c.write_map_fds.new.object c.relocate_types.ensures.others_stay c.write_map_fds.ensures.others_stay

pub returns-in_err-resolve-clause-others_stay : goal.returns-in_err-resolve-clause-others_stay
returns-in_err-resolve-clause-others_stay g c =
    kept_thrice c.args.object.now c.relocate_types.new.object c.write_map_fds.new.object c.resolve.new.object
    c.relocate_types.ensures.others_stay c.write_map_fds.ensures.others_stay c.resolve.ensures.others_stay

pub returns-in_err-write_externs-clause-others_stay : goal.returns-in_err-write_externs-clause-others_stay
returns-in_err-write_externs-clause-others_stay g c =
    kept_four_times c.args.object.now c.relocate_types.new.object c.write_map_fds.new.object c.resolve.new.object c.write_externs.new.object
    c.relocate_types.ensures.others_stay c.write_map_fds.ensures.others_stay c.resolve.ensures.others_stay c.write_externs.ensures.others_stay

pub returns-in_err-check_externs-clause-others_stay : goal.returns-in_err-check_externs-clause-others_stay
returns-in_err-check_externs-clause-others_stay g c =
    kept_four_times c.args.object.now c.relocate_types.new.object c.write_map_fds.new.object c.resolve.new.object c.write_externs.new.object
    c.relocate_types.ensures.others_stay c.write_map_fds.ensures.others_stay c.resolve.ensures.others_stay c.write_externs.ensures.others_stay

pub returns-clause-others_stay : goal.returns-clause-others_stay
returns-clause-others_stay g c =
    kept_twice c.args.object.now c.write_externs.new.object c.link_programs.new.object
    (kept_four_times c.args.object.now c.relocate_types.new.object c.write_map_fds.new.object c.resolve.new.object c.write_externs.new.object
    c.relocate_types.ensures.others_stay c.write_map_fds.ensures.others_stay c.resolve.ensures.others_stay c.write_externs.ensures.others_stay)
    c.link_programs.ensures.others_stay

pub returns-clause-fault : goal.returns-clause-fault
returns-clause-fault g c =
    of_error c.link_programs.result
    (linking_refused (chosen c.args.steps.now) (g.K.SymbolSource.source c.args.kallsyms) c.args.object.now c.in_ok-check_descriptors.ensures.sound c.relocate_types.new.object c.in_ok-relocate_types.ensures.ok
    c.in_ok-write_map_fds.ensures.sound c.write_map_fds.new.object c.in_ok-write_map_fds.ensures.ok c.resolve.new.object c.in_ok-resolve.ensures.ok
    c.in_ok-write_externs.ensures.sound c.write_externs.new.object c.in_ok-write_externs.ensures.ok c.in_ok-check_externs.ensures.sound)
    c.link_programs.ensures.fault
