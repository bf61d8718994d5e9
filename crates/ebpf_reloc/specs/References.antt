-- The functions of an object by their keys, and what their slots refer to. A function with an
-- exception callback has one more reference, to the callback, behind its last slot. So linking
-- follows it last, and no slot holds it.
--
-- Example: P has two slots, slot 0 calls f, and P's exception callback is c. P's references are f at
-- 0 and c at 2. So P is linked with f, what f reaches, c, and what else c reaches.
use Rattle.std.specs.Prelude.{ℕ, ◌==◌, List, [], Option, Some, None, if◌then◌else◌, slice_get}
use Rattle.std.specs.Prelude.{length, option_map}
use Rattle.std.specs.FinMap.{FinMap, get, contains_key}
use Rattle.ebpf_base.specs.Maps.{key_cmp}
use Rattle.ebpf_linker.specs.Functions.{SlotReference, Nothing, Faulty, Names, FunctionContent}
use Rattle.ebpf_linker.specs.Functions.{Functions}
use Rattle.ebpf_parts.specs.declared.insn.bpf_insn.{bpf_insn}
use Rattle.ebpf_model.specs.Symbols.{FunctionKey}
use Rattle.ebpf_model.specs.declared.error.RelocationError.{RelocationError}
use Rattle.ebpf_model.specs.declared.error.RelocationError.TheVariants.{UnsupportedTextSymbol}
use Rattle.ebpf_model.specs.declared.error.RelocationError.TheVariants.{UnknownFunction}
use Rattle.ebpf_model.specs.declared.error.RelocationError.TheVariants.{FunctionInfoMismatch}
use Rattle.ebpf_model.specs.declared.error.RelocationError.TheVariants.{ProgramTooLong}
use Rattle.ebpf_model.specs.declared.error.RelocationError.TheVariants.{InvalidLineInfo}
use Rattle.ebpf_model.specs.declared.function.Function.{Function}
use Rattle.ebpf_reloc.specs.declared.slot_target.SlotTarget.{SlotTarget}
use Rattle.ebpf_reloc.specs.declared.slot_target.SlotTarget.TheVariants.{Absent, Unsupported, At}
use Rattle.ebpf_reloc.specs.SlotTargets.{LinkableValue, slot_target_of, callback_target}

-- what is linked of a function
abbrev pub content_of : Function → FunctionContent
content_of f =
    record {
      slots = f.instructions;
      func_info = f.func_info.func_info;
      line_info = f.line_info.line_info;
    }

abbrev pub function_name_or_empty : Option Function → List ℕ
function_name_or_empty None = []
function_name_or_empty (Some f) = f.name

-- the name of the function at a key
abbrev pub name_at : FinMap key_cmp Function → FunctionKey → List ℕ
name_at functions key = function_name_or_empty (get functions key)

-- what a slot of a function with this name refers to, by its target
abbrev pub looked_up : FinMap key_cmp Function
    → List ℕ
    → SlotTarget
    → SlotReference FunctionKey RelocationError
looked_up functions caller Absent = Nothing
looked_up functions caller (Unsupported index) = Faulty (UnsupportedTextSymbol index)
looked_up functions caller (At section address) =
    if contains_key functions (section, address)
    then Names (section, address)
    else Faulty (UnknownFunction address caller)

abbrev pub slot_reference : LinkableValue
    → Function
    → ℕ
    → Option bpf_insn
    → SlotReference FunctionKey RelocationError
slot_reference parts f i None =
    if i == length f.instructions
    then looked_up parts.functions f.name (callback_target parts f)
    else Nothing
slot_reference parts f i (Some slot) =
    looked_up parts.functions f.name (slot_target_of parts f i slot)

-- what slot i of a function refers to, or the function behind its last slot
abbrev pub reference_of : LinkableValue
    → Option Function
    → ℕ
    → SlotReference FunctionKey RelocationError
reference_of parts None i = Nothing
reference_of parts (Some f) i = slot_reference parts f i (slice_get f.instructions i)

-- the functions of an object, as linking sees them
abbrev pub functions_of : LinkableValue → Functions FunctionKey RelocationError
functions_of parts = record {
  content = λ key. option_map content_of (get parts.functions key);
  reference = λ key i. reference_of parts (get parts.functions key) i;
  mismatch = λ key. FunctionInfoMismatch (name_at parts.functions key);
  too_long = λ key. ProgramTooLong (name_at parts.functions key);
  stray_line = λ key. InvalidLineInfo (name_at parts.functions key);
}
