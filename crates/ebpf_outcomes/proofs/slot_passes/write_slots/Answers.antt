use Rattle.std.proofs.Common.{rules, ◌≡◌, ◌∙◌, ap}
use Rattle.std.specs.Prelude.{is_some}
use Rattle.ebpf_object.proofs.Staging.{kept_thrice, kept_twice, passed_on}
use Rattle.ebpf_object.specs.Stages.{chosen}
use Rattle.ebpf_outcomes.proofs.PassOutcomes.{has_slot_rows, resolution_refused, slots_of_externs_refused, slots_of_maps_refused}
use Rattle.ebpf_outcomes.specs.PassOutcomes.{if_asked}
use Rattle.ebpf_outcomes.specs.SlotOutcomes.{extern_slots_if}
use Rattle.ebpf_outcomes.proofs.slot_passes.write_slots.Goals as goal

pub returns-in_err-write_map_fds-clause-fault : goal.returns-in_err-write_map_fds-clause-fault
returns-in_err-write_map_fds-clause-fault g c =
    let e = c.in_err-write_map_fds.field-0.0 in
    passed_on _ c.from_residual-in_err-write_map_fds.result e c.from_residual-in_err-write_map_fds.ensures.1
    (slots_of_maps_refused (chosen c.args.steps.now) (g.K.SymbolSource.source c.args.kallsyms) c.args.object.now e c.in_err-write_map_fds.ensures.fault)

pub returns-in_err-resolve-clause-fault : goal.returns-in_err-resolve-clause-fault
returns-in_err-resolve-clause-fault g c =
    let e = c.in_err-resolve.field-0.0 in
    passed_on _ c.from_residual-in_err-resolve.result e c.from_residual-in_err-resolve.ensures.1
    (resolution_refused (chosen c.args.steps.now) (g.K.SymbolSource.source c.args.kallsyms) c.args.object.now
    c.in_ok-write_map_fds.ensures.sound c.write_map_fds.new.object c.in_ok-write_map_fds.ensures.ok e c.in_err-resolve.ensures.fault)

pub returns-in_err-write_externs-clause-fault : goal.returns-in_err-write_externs-clause-fault
returns-in_err-write_externs-clause-fault g c =
    let e = c.in_err-write_externs.field-0.0 in
    passed_on _ c.from_residual-in_err-write_externs.result e c.from_residual-in_err-write_externs.ensures.1
    (slots_of_externs_refused (chosen c.args.steps.now) (g.K.SymbolSource.source c.args.kallsyms) c.args.object.now
    c.in_ok-write_map_fds.ensures.sound c.write_map_fds.new.object c.in_ok-write_map_fds.ensures.ok c.resolve.new.object c.in_ok-resolve.ensures.ok e c.in_err-write_externs.ensures.fault)

pub returns-clause-rows : goal.returns-clause-rows
returns-clause-rows g c =
    let writes : c.is_some.result ≡ is_some c.args.steps.now.externs = search rules in
    has_slot_rows (chosen c.args.steps.now) (g.K.SymbolSource.source c.args.kallsyms) c.args.object.now
    c.in_ok-write_map_fds.ensures.sound c.write_map_fds.new.object c.in_ok-write_map_fds.ensures.ok c.resolve.new.object c.in_ok-resolve.ensures.ok
    c.args.asked c.write_externs.new.object c.in_ok-write_externs.ensures.sound c.in_ok-write_externs.ensures.ok
    c.in_ok-maps.maps c.in_ok-maps.ensures c.in_ok-externs.externs
    (c.in_ok-externs.ensures ∙ ap (λ b. if_asked c.args.asked.externs (extern_slots_if b c.resolve.new.object)) writes)

pub returns-in_err-resolve-clause-others_stay : goal.returns-in_err-resolve-clause-others_stay
returns-in_err-resolve-clause-others_stay g c =
    kept_twice c.args.object.now c.write_map_fds.new.object c.resolve.new.object c.write_map_fds.ensures.others_stay c.resolve.ensures.others_stay

pub returns-in_err-externs-clause-others_stay : goal.returns-in_err-externs-clause-others_stay
returns-in_err-externs-clause-others_stay g c =
    kept_twice c.args.object.now c.write_map_fds.new.object c.resolve.new.object c.write_map_fds.ensures.others_stay c.resolve.ensures.others_stay

pub returns-in_err-write_externs-clause-others_stay : goal.returns-in_err-write_externs-clause-others_stay
returns-in_err-write_externs-clause-others_stay g c =
    kept_thrice c.args.object.now c.write_map_fds.new.object c.resolve.new.object c.write_externs.new.object
    c.write_map_fds.ensures.others_stay c.resolve.ensures.others_stay c.write_externs.ensures.others_stay

pub returns-clause-others_stay : goal.returns-clause-others_stay
returns-clause-others_stay g c =
    kept_thrice c.args.object.now c.write_map_fds.new.object c.resolve.new.object c.write_externs.new.object
    c.write_map_fds.ensures.others_stay c.resolve.ensures.others_stay c.write_externs.ensures.others_stay
