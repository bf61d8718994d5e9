-- What records read, by the spans of functions. Only contracts of private functions and proofs name
-- it.
use Rattle.ebpf_btf.specs.TypeInfo.{TypeInfo}
use Rattle.ebpf_core.specs.Searches.{Sides}
use Rattle.ebpf_core_relo.specs.Records.{RelocationInputs, relocation_inputs}
use Rattle.ebpf_core_relo.specs.declared.spans.FunctionSpans.{FunctionSpans}

-- two sides of types, with the functions that have spans and the indexes of sections
abbrev pub inputs_of : Sides → FunctionSpans → RelocationInputs
inputs_of sides spans = relocation_inputs sides spans.functions.now spans.section_infos.now

abbrev pub inputs_between : TypeInfo → TypeInfo → FunctionSpans → RelocationInputs
inputs_between local target spans = inputs_of (record { local = local; target = target }) spans
