-- What is set of an object before its relocation.
use Rattle.std.specs.Prelude.{◌≡◌, ℕ, Bool, List, Option, Some, None, MatchOption, ◌==◌, false, not}
use Rattle.std.specs.Prelude.{length, MatchBool, if◌then◌else◌}
use Rattle.std.specs.FinMap.{FinMap, empty, insert}
use Rattle.capi_rows.specs.Listings.{value_by_bytes}
use Rattle.capi_rows.specs.Refusals.{plain}
use Rattle.capi_rows.specs.declared.codes.TheConstants.{BAD_NAME, DONE, WRONG_LENGTH}
use Rattle.capi_rows.specs.declared.refusal.Refusal.{Refusal}
use Rattle.ebpf_base.specs.Maps.{text_cmp}
use Rattle.capi_exports.specs.declared.map_settings.Setting.{Setting}
use Rattle.capi_exports.specs.declared.map_settings.Setting.TheVariants.{MaxEntries, ValueSize}
use Rattle.capi_exports.specs.declared.map_settings.Setting.TheVariants.{Data}
use Rattle.ebpf_object.specs.OlderHelpers.{AreSanitized}
use Rattle.ebpf_object.specs.Patches.{all_patched, patches_of, patches_fault}
use Rattle.ebpf_object.specs.declared.object.Object.{Object}
use Rattle.ebpf_parts.specs.Maps.{bytes_of, with_bytes, with_max_entries, with_value_size}
use Rattle.ebpf_parts.specs.declared.maps.either.Map.{Map}
use Rattle.capi_rows.specs.Descriptors.{text_of}
use Rattle.capi_rows.specs.Handles.{CannotParse, IsSet}

-- ---- variables

-- one variable's value, and whether the object has to have it
abbrev pub one_value : List ℕ → List ℕ → Bool → FinMap text_cmp (List ℕ × Bool)
one_value name value must_exist = insert empty name (value, must_exist)

-- a variable's value, which fits there, written into the data of the map that holds it; all else is
-- as before
pub record HasPatched (name value : List ℕ) (must_exist : Bool) (old new : Object) : Type 0 where
  pub text : text_of name ≡ Some name
  pub sound : patches_fault old.symbol_table old.maps (one_value name value must_exist) ≡ None
  pub maps : new.maps
      ≡ all_patched old.maps
      (patches_of old.symbol_table old.maps (one_value name value must_exist))
  pub others_stay : new ≡ record old { maps = new.maps }

-- it can't be written; a name that is no text is refused first
abbrev pub CannotPatch : List ℕ → List ℕ → Bool → Object → Refusal → Type 0
CannotPatch name value must_exist o r =
    MatchOption (text_of name) (r ≡ plain BAD_NAME) (λ _.
    CannotParse (patches_fault o.symbol_table o.maps (one_value name value must_exist)) r)

-- ---- helper functions

-- made fit for a kernel that has the newer helper functions, or has them not
pub record HasSanitized (has_newer : Bool) (old new : Object) : Type 0 where
  pub functions : AreSanitized (λ answer. answer ≡ has_newer) old.functions new.functions
  pub others_stay : new ≡ record old { functions = new.functions }

abbrev pub IsSanitized : Bool → Object → ℕ → Object → Type 0
IsSanitized has_newer old number new = (number ≡ DONE) × HasSanitized has_newer old new

-- ---- maps: their settings, and all of their initial data

-- bytes in the place of as many, else those that are there
abbrev pub replaced : List ℕ → List ℕ → List ℕ
replaced old new = if length old == length new then new else old

abbrev pub with_replaced : List ℕ → Map → Map
with_replaced bytes m = with_bytes m (replaced (bytes_of m) bytes)

-- the map that some bytes name has data of another length
abbrev pub has_other : ℕ → Option Map → Bool
has_other len None = false
has_other len (Some m) = not (length (bytes_of m) == len)

abbrev pub has_other_length : FinMap text_cmp Map → List ℕ → ℕ → Bool
has_other_length maps name len = has_other len (value_by_bytes maps name)

-- the map of a name has this data now, where it had as much before; else no map has changed
abbrev pub IsDataSet : List ℕ → List ℕ → FinMap text_cmp Map → ℕ → FinMap text_cmp Map → Type 0
IsDataSet bytes name before number after =
    MatchBool (has_other_length before name (length bytes))
    ((number ≡ WRONG_LENGTH) × (after ≡ before))
    (IsSet (with_replaced bytes) name before number after)

-- what is set of an object's maps, by what is answered and left of them; all else is as before
abbrev pub SetsMaps : (FinMap text_cmp Map → ℕ → FinMap text_cmp Map → Type 0) → Object → ℕ → Object
    → Type 0
SetsMaps Set old number new =
    (maps : FinMap text_cmp Map) × Set old.maps number maps × (new ≡ record old { maps = maps })

-- a setting of the map of a name
abbrev pub SetsMap : (Map → Map) → List ℕ → Object → ℕ → Object → Type 0
SetsMap set name = SetsMaps (IsSet set name)

-- all data of the map of a name
abbrev pub SetsData : List ℕ → List ℕ → Object → ℕ → Object → Type 0
SetsData bytes name = SetsMaps (IsDataSet bytes name)

-- a map with what is set of it
abbrev pub with_setting : Setting → Map → Map
with_setting (MaxEntries entries) m = with_max_entries m entries
with_setting (ValueSize size) m = with_value_size m size
with_setting (Data bytes) m = with_replaced bytes.now m
