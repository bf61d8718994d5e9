use Rattle.std.proofs.Common.{rules, ◌≡◌, List, map, true, Some, None, subst}
use Rattle.ebpf_object.specs.Stages.{Descriptor, descriptor_of, fds_fault, fds_written, given_fault}
use Rattle.capi_rows.specs.Descriptors.{descriptors_in, have_names}
use Rattle.capi_exports.proofs.HeldObjects.{incomplete}
use Rattle.capi_exports.proofs.passes.write_map_fds.Goals as goal

pub returns-in-Ok-clause-ok : goal.returns-in-Ok-clause-ok
returns-in-Ok-clause-ok c =
    let given : map descriptor_of c.deref.result.now ≡ descriptors_in c.args.text.now c.args.rows.now = search rules in
    record {
      named = search rules;
      complete = subst (λ (ds : List Descriptor). given_fault (Some ds) true c.args.object.now ≡ None) given c.in-Ok.ensures.complete;
      sound = subst (λ (ds : List Descriptor). fds_fault (Some ds) c.args.object.now ≡ None) given c.in-Ok.ensures.sound;
      is = subst (λ (ds : List Descriptor). c.relocate_complete_maps.new.object ≡ fds_written (Some ds) c.args.object.now) given c.in-Ok.ensures.ok;
    }

pub returns-clause-why : goal.returns-clause-why
returns-clause-why c =
    let named : have_names c.args.text.now c.args.rows.now ≡ true = search rules in
    let given : map descriptor_of c.deref.result.now ≡ descriptors_in c.args.text.now c.args.rows.now = search rules in
    incomplete c.args.rows.now c.args.text.now c.args.object.now (map descriptor_of c.deref.result.now) c.in-Err.error c.prepare_refusal.result named given c.in-Err.ensures.fault
    c.prepare_refusal.ensures.refusal
