use Rattle.std.proofs.Common.{◌<◌, ◌∙◌, length, arith, sym}
use Rattle.ebpf_load_info.specs.KernelNumbers.{helpers, map_type_numbering, named_enumerators}
use Rattle.ebpf_load_info.proofs.FirstFound.{found_already, found_more, passed_over}
use Rattle.ebpf_load_info.proofs.Heads.{here_and_rest, no_enumeration, there}
use Rattle.ebpf_load_info.proofs.kernel_numbers.enumerations_in.Goals as goal

pub loop-id-preserved-then-not-is_enum : goal.loop-id-preserved-then-not-is_enum
loop-id-preserved-then-not-is_enum c =
    let types = c.args.types.now in
    let inside : c.loop-id.id < length types.types = omega arith in
    let (t, at) = there types.types c.loop-id.id inside in
    let here = here_and_rest types.types c.loop-id.id t at in
    let none = no_enumeration types c.loop-id.id t at (sym c.is_enum.ensures ∙ c.if-not-is_enum.true) in
    record {
      helpers = passed_over (named_enumerators types helpers.enumeration) c.loop-id.helpers types.types c.loop-id.id t here (none helpers.enumeration)
          ∙ c.loop-id.invariant.helpers;
      map_types = passed_over (named_enumerators types map_type_numbering.enumeration) c.loop-id.map_types types.types c.loop-id.id t here (none map_type_numbering.enumeration)
          ∙ c.loop-id.invariant.map_types;
    }

pub returns-then-is_some-2-clause-helpers : goal.returns-then-is_some-2-clause-helpers
returns-then-is_some-2-clause-helpers c =
    let types = c.args.types.now.types in
    let inside : c.loop-id.id < length types = omega arith in
    found_already c.found_or-helpers.result _ (sym c.is_some.ensures ∙ c.if-is_some.true)
    ∙ found_more (named_enumerators c.args.types.now helpers.enumeration) c.loop-id.helpers c.found_or-helpers.result types c.loop-id.id c.at-ty.result inside c.at-ty.ensures.item c.found_or-helpers.ensures
    ∙ c.loop-id.invariant.helpers

pub loop-id-preserved : goal.loop-id-preserved
loop-id-preserved c =
    let types = c.args.types.now.types in
    let inside : c.loop-id.id < length types = omega arith in
    record {
      helpers = found_more (named_enumerators c.args.types.now helpers.enumeration) c.loop-id.helpers c.found_or-helpers.result types c.loop-id.id c.at-ty.result inside c.at-ty.ensures.item c.found_or-helpers.ensures
          ∙ c.loop-id.invariant.helpers;
      map_types = found_more (named_enumerators c.args.types.now map_type_numbering.enumeration) c.loop-id.map_types c.found_or-map_types.result types c.loop-id.id c.at-ty.result inside c.at-ty.ensures.item c.found_or-map_types.ensures
          ∙ c.loop-id.invariant.map_types;
    }
