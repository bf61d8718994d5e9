-- Why a relocation has no outcome: the first fault on its way. And the laws of all relocations.
use Rattle.std.specs.Prelude.{◌≡◌, ℕ, false, not, List, ◌∷◌, filter, Option, Ok, Err, Result}
use Rattle.ebpf_btf.specs.TypeInfo.{TypeInfo}
use Rattle.ebpf_btf.specs.declared.error.BtfError.{BtfError as TypeError}
use Rattle.ebpf_btf_ext.specs.declared.relocation.Relocation.{Relocation}
use Rattle.ebpf_btf.specs.declared.variants.BtfVariant.{BtfVariant}
use Rattle.ebpf_core.specs.Answers.{FirstFails, each, of_types}
use Rattle.ebpf_core.specs.LocalPaths.{LocalSideIs, local_path}
use Rattle.ebpf_core.specs.Outcomes.{found_at_candidate, matches, type_name_at, values_agree}
use Rattle.ebpf_core.specs.Outcomes.{differing_names, local_loaded, match_value, FirstVariantIs}
use Rattle.ebpf_core.specs.Outcomes.{first_variant, outcome_among}
use Rattle.ebpf_core.specs.Searches.{candidates_for, is_local, question_of, outcome_of}
use Rattle.ebpf_core.specs.declared.error.RelocationError.{RelocationError}
use Rattle.ebpf_core.specs.declared.error.RelocationError.TheVariants.{BtfError}
use Rattle.ebpf_core.specs.declared.error.RelocationError.TheVariants.{ConflictingCandidates}
use Rattle.ebpf_core.specs.declared.field.LoadedField.{LoadedField}
use Rattle.ebpf_core.specs.declared.matches.Match.{Match}
use Rattle.ebpf_core.specs.declared.paths.LocalPath.{LocalPath}
use Rattle.ebpf_core.specs.declared.matches.MatchValue.{MatchValue}
use Rattle.ebpf_core.specs.declared.outcome.Outcome.{Outcome}

-- Matches are in conflict: one that differs from the first has no name that can be read, or some
-- differ from it.
pub data AreInConflict (target : TypeInfo) (type_name : List ℕ) : List MatchValue → RelocationError
    → Type 0 where
  Unreadable : (first : MatchValue) (others : List MatchValue) (fault : RelocationError)
      → FirstFails (λ v. of_types (type_name_at target v.candidate))
      (filter (λ v. not (values_agree first v)) others) fault
      → AreInConflict target type_name (first ∷ others) fault
  Differing : (first : MatchValue) (others : List MatchValue) (name : List ℕ)
      (names : List (List ℕ))
      → differing_names target first others ≡ Ok (name ∷ names)
      → AreInConflict target type_name (first ∷ others)
      (ConflictingCandidates type_name (name ∷ names))

-- A record is refused over its candidates with a fault: of the first candidate that has one, of the
-- local field, of the first match whose value has one, or since matches are in conflict. Each
-- stands where none before it does.
pub data AmongIsRefused (local target : TypeInfo) (r : Relocation) (path : LocalPath) (ids : List ℕ)
    : RelocationError → Type 0 where
  Matching : (fault : RelocationError)
      → FirstFails (found_at_candidate local target r.type_id path.path) ids fault
      → AmongIsRefused local target r path ids fault
  LocalField : (found : List Match) (fault : RelocationError)
      → matches local target r.type_id path.path ids ≡ Ok found
      → local_loaded local r path.path ≡ Err fault → AmongIsRefused local target r path ids fault
  Values : (found : List Match) (loaded : Option LoadedField) (fault : RelocationError)
      → matches local target r.type_id path.path ids ≡ Ok found
      → local_loaded local r path.path ≡ Ok loaded
      → FirstFails (match_value target r.kind) found fault
      → AmongIsRefused local target r path ids fault
  Conflict : (found : List Match) (loaded : Option LoadedField) (values : List MatchValue)
      (fault : RelocationError)
      → matches local target r.type_id path.path ids ≡ Ok found
      → local_loaded local r path.path ≡ Ok loaded
      → each (match_value target r.kind) found ≡ Ok values
      → AreInConflict target path.type_name values fault
      → AmongIsRefused local target r path ids fault

-- A record is refused with a fault: of its local side, of its candidates, or over these. Each
-- stands where none before it does; a record that asks for the local id alone has no candidates.
pub data OutcomeIsRefused (local target : TypeInfo) (r : Relocation) : RelocationError
    → Type 0 where
  LocalSide : (fault : RelocationError) → LocalSideIs local r (Err fault)
      → OutcomeIsRefused local target r fault
  Candidates : (path : LocalPath) (e : TypeError) → LocalSideIs local r (Ok path)
      → is_local r.kind ≡ false
      → candidates_for local target r.type_id ≡ Err e → OutcomeIsRefused local target r (BtfError e)
  Among : (path : LocalPath) (ids : List ℕ) (fault : RelocationError)
      → LocalSideIs local r (Ok path)
      → is_local r.kind ≡ false
      → candidates_for local target r.type_id ≡ Ok ids
      → AmongIsRefused local target r path ids fault
      → OutcomeIsRefused local target r fault

-- ---- what holds of every record and all types

-- the local side of a record is, step by step, the one that `local_path` gives
abbrev pub LocalSideIsSo : Type 0
LocalSideIsSo = (info : TypeInfo) (r : Relocation) → LocalSideIs info r (local_path info r)

-- and no other
abbrev pub LocalSideIsOne : Type 0
LocalSideIsOne =
    (info : TypeInfo) (r : Relocation) (a : Result LocalPath RelocationError)
    → LocalSideIs info r a
    → a ≡ local_path info r

-- the first variant of a name has the value that `first_variant` gives
abbrev pub FirstVariantIsSo : Type 0
FirstVariantIsSo =
    (info : TypeInfo) (name : List ℕ) (vs : List BtfVariant)
    → FirstVariantIs info name vs (first_variant info name vs)

-- and no other
abbrev pub FirstVariantIsOne : Type 0
FirstVariantIsOne =
    (info : TypeInfo) (name : List ℕ) (vs : List BtfVariant) (a : Result (Option ℕ) TypeError)
    → FirstVariantIs info name vs a → a ≡ first_variant info name vs

-- a fault over candidates is that of the first step that has one
abbrev pub AmongFaultIsFirst : Type 0
AmongFaultIsFirst =
    (local target : TypeInfo) (r : Relocation) (path : LocalPath) (ids : List ℕ)
    (fault : RelocationError)
    → outcome_among local target r path ids ≡ Err fault
    → AmongIsRefused local target r path ids fault

-- and where a step has one, none before it, the record is refused with it
abbrev pub AmongFirstFaultRefuses : Type 0
AmongFirstFaultRefuses =
    (local target : TypeInfo) (r : Relocation) (path : LocalPath) (ids : List ℕ)
    (fault : RelocationError)
    → AmongIsRefused local target r path ids fault
    → outcome_among local target r path ids ≡ Err fault

-- a record is refused with the fault of its first step that has one, from its local side on
abbrev pub FaultIsFirst : Type 0
FaultIsFirst =
    (local target : TypeInfo) (r : Relocation) (fault : RelocationError)
    → outcome_of local target r ≡ Err fault
    → OutcomeIsRefused local target r fault

abbrev pub FirstFaultRefuses : Type 0
FirstFaultRefuses =
    (local target : TypeInfo) (r : Relocation) (fault : RelocationError)
    → OutcomeIsRefused local target r fault
    → outcome_of local target r ≡ Err fault

-- Records that ask the same come to the same outcome: it rests neither on their numbers nor on
-- their instructions.
abbrev pub OutcomesRestOnQuestions : Type 0
OutcomesRestOnQuestions =
    (local target : TypeInfo) (r s : Relocation) (outcome : Outcome) → question_of r ≡ question_of s
    → outcome_of local target r ≡ Ok outcome → outcome_of local target s ≡ Ok outcome
