-- Programs that C leaves out of an object: their names as rows, and why they can't be left out.
use Rattle.std.specs.Prelude.{◌≡◌, ℕ, true, List, map, None, Some, ⊤, MatchBool}
use Rattle.capi_rows.specs.Descriptors.{NamesFirst, descriptors_in, have_names}
use Rattle.capi_rows.specs.Handles.{IsRefusal}
use Rattle.capi_rows.specs.Refusals.{plain, refusal_with_name}
use Rattle.capi_rows.specs.declared.codes.TheConstants.{MEMORY, NO_PROGRAM}
use Rattle.capi_rows.specs.declared.reads.ebpf_descriptor.{ebpf_descriptor}
use Rattle.capi_rows.specs.declared.refusal.Refusal.{Refusal}
use Rattle.ebpf_chosen_programs.specs.LeavingOut.{AreLeftOut, is_leave_out_memory, leave_out_fault}
use Rattle.ebpf_chosen_programs.specs.declared.error.LeaveOutError.{LeaveOutError}
use Rattle.ebpf_chosen_programs.specs.declared.error.LeaveOutError.TheVariants.{OutOfMemory}
use Rattle.ebpf_chosen_programs.specs.declared.error.LeaveOutError.TheVariants.{UnknownProgram}
use Rattle.ebpf_object.specs.declared.object.Object.{Object}

-- the names of rows
abbrev pub names_in : List ℕ → List ebpf_descriptor → List (List ℕ)
names_in text rows = map (λ d. d.0) (descriptors_in text rows)

-- the programs with the names of rows are left out
pub record HasLeftOut (rows : List ebpf_descriptor) (text : List ℕ) (old new : Object)
    : Type 0 where
  pub named : have_names text rows ≡ true
  pub known : leave_out_fault (names_in text rows) old.programs ≡ None
  pub left_out : AreLeftOut (names_in text rows) old new

abbrev pub leave_out_refusal : LeaveOutError → Refusal
leave_out_refusal (UnknownProgram name) = refusal_with_name NO_PROGRAM name
leave_out_refusal OutOfMemory = plain MEMORY

-- an error of leaving programs out, or out of memory
abbrev pub IsLeaveOutError : List (List ℕ) → Object → LeaveOutError → Type 0
IsLeaveOutError names o e =
    MatchBool (is_leave_out_memory e) ⊤ (leave_out_fault names o.programs ≡ Some e)

-- they can't be left out
abbrev pub CannotLeaveOut : List ebpf_descriptor → List ℕ → Object → Refusal → Type 0
CannotLeaveOut rows text o =
    NamesFirst rows text (IsRefusal (IsLeaveOutError (names_in text rows) o) leave_out_refusal)
