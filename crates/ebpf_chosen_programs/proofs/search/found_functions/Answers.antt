use Rattle.std.proofs.Common.{◌∙◌, ap, List, ℕ, Bool, false, length, replicate}
use Rattle.std.specs.Prelude.{fold}
use Rattle.ebpf_chosen_programs.specs.PrivateContracts.{with_found}
use Rattle.ebpf_chosen_programs.proofs.FoundFunctions.{begun, followed, less_work}
use Rattle.ebpf_chosen_programs.proofs.search.found_functions.Goals as goal

pub loop-number-init : goal.loop-number-init
loop-number-init c =
    begun c.args.references.now c.args.first.now _
    (c.in_ok-find_all.ensures
    ∙ ap (λ (flags : List Bool). fold with_found (record { flags = flags; pending = c.new.result.items }) c.args.first.now) c.in_ok-unfound.ensures
    ∙ ap (λ (pending : List ℕ). fold with_found (record { flags = replicate (length c.args.references.now) false; pending = pending }) c.args.first.now) c.new.ensures.items)

pub loop-number-preserved : goal.loop-number-preserved
loop-number-preserved c = followed c.args.references.now c.args.first.now _ _ _ c.in-Some.number c.loop-number.invariant c.in-Some.ensures.items c.in_ok-follow.ensures

pub loop-number-smaller : goal.loop-number-smaller
loop-number-smaller c = less_work c.args.references.now c.args.first.now _ _ _ c.in-Some.number c.in-Some.ensures.items c.in_ok-follow.ensures
