-- What C reads of the externs that the kernel's configuration gives.
use denote.Ref.{Bor}
use Rattle.std.specs.Prelude.{ℕ, Bool, false, [], ◌∷◌, length, ◌≡◌, ◌⊎◌, ⊤, List, Option, Some}
use Rattle.std.specs.Prelude.{None, Result, Ok, Err, MatchBool, true, option_map}
use Rattle.std.specs.List.{find, filter_map}
use Rattle.std.specs.Option.{option_and_then}
use Rattle.std.specs.Str.{bytes_eq}
use Rattle.std.specs.FinMap.{FinMap, empty}
use Rattle.capi_rows.specs.Answers.{Listed}
use Rattle.capi_rows.specs.Refusals.{flag, plain}
use Rattle.capi_rows.specs.Listings.{listed_by, zero_terminated}
use Rattle.capi_rows.specs.declared.codes.TheConstants.{NO_EXTERN, BAD_NAME, BAD_VALUE}
use Rattle.capi_rows.specs.declared.refusal.Refusal.{Refusal}
use Rattle.ebpf_base.specs.Maps.{put_all, text_cmp}
use Rattle.ebpf_kconfig.specs.ConfiguredValues.{configured_value, loader_value, with_name}
use Rattle.ebpf_kconfig.specs.KconfigExterns.{kconfig_externs, kconfig_externs_fault}
use Rattle.ebpf_kconfig.specs.KconfigExterns.{is_kconfig_memory, kconfig_size}
use Rattle.ebpf_kconfig.specs.KconfigMaps.{kconfig_fault, symbols_defined, with_kconfig_map}
use Rattle.ebpf_kconfig.specs.declared.error.KconfigError.{KconfigError}
use Rattle.ebpf_kconfig.specs.declared.externs.KconfigExtern.{KconfigExtern}
use Rattle.ebpf_kconfig.specs.declared.kconfig_type.KconfigType.{KconfigType}
use Rattle.ebpf_kconfig.specs.declared.kconfig_type.KconfigType.TheVariants as kinds
use Rattle.ebpf_object.specs.declared.object.Object.{Object}
use Rattle.capi_rows.specs.Descriptors.{text_of, name_in}
use Rattle.capi_rows.specs.Handles.{IsRefusal}
use Rattle.capi_rows.specs.Numbers.{kconfig_refusal}
use Rattle.capi_rows.specs.Variables.{are_named, have_values}
use Rattle.ebpf_object.specs.Variables.{bytes_in}
use Rattle.capi_rows.specs.declared.variables.ebpf_kconfig_extern.{ebpf_kconfig_extern}
use Rattle.capi_rows.specs.declared.variables.ebpf_value.{ebpf_value}

abbrev pub kconfig_kind : KconfigType → ℕ
kconfig_kind kinds.Bool = 0
kconfig_kind (kinds.Tristate size) = 1
kconfig_kind (kinds.Char signed) = 2
kconfig_kind (kinds.Integer size signed) = 3
kconfig_kind (kinds.CharArray len) = 4

-- numbers of this type are signed
abbrev pub has_sign : KconfigType → Bool
has_sign kinds.Bool = false
has_sign (kinds.Tristate size) = false
has_sign (kinds.Char signed) = signed
has_sign (kinds.Integer size signed) = signed
has_sign (kinds.CharArray len) = false

-- the row of an extern whose name begins at an offset of the text
abbrev pub kconfig_row : KconfigExtern → ℕ → ebpf_kconfig_extern
kconfig_row e name_at = record {
  name_at = name_at;
  name_len = length e.name;
  size = kconfig_size e.kind;
  kind = kconfig_kind e.kind;
  is_signed = flag (has_sign e.kind);
  is_weak = flag e.is_weak;
}

-- the externs of an object, in their order
abbrev pub kconfig_list : Object → Listed ebpf_kconfig_extern
kconfig_list o =
    listed_by (λ e name_at. kconfig_row e name_at ∷ []) (λ e. zero_terminated e.name)
    (kconfig_externs o.btf o.symbol_table)

-- ---- what calls find of the externs that the kernel's configuration gives, and why they refuse

-- an error of such externs, or out of memory
abbrev pub IsKconfigRefusal : (KconfigError → Type 0) → Refusal → Type 0
IsKconfigRefusal Stands =
    IsRefusal (λ e. MatchBool (is_kconfig_memory e) ⊤ (Stands e)) kconfig_refusal

-- ---- the list

abbrev pub own_fault : Object → Option KconfigError
own_fault o = kconfig_externs_fault o.btf o.symbol_table

pub record IsKconfigList (o : Object) (listed : Listed ebpf_kconfig_extern) : Type 0 where
  pub sound : own_fault o ≡ None
  pub is : listed ≡ kconfig_list o

abbrev pub CannotListKconfig : Object → Refusal → Type 0
CannotListKconfig o = IsKconfigRefusal (λ e. own_fault o ≡ Some e)

-- ---- the value of one extern

-- the first extern that some bytes name; bytes that are no text name none
abbrev pub extern_named : List KconfigExtern → List ℕ → Option KconfigExtern
extern_named externs name =
    option_and_then (λ text. find (λ e. bytes_eq e.name text) externs) (text_of name)

pub record IsWanted (name : List ℕ) (o : Object) (wanted : KconfigExtern) : Type 0 where
  pub sound : own_fault o ≡ None
  pub there : extern_named (kconfig_externs o.btf o.symbol_table) name ≡ Some wanted

pub record LacksExtern (name : List ℕ) (o : Object) (r : Refusal) : Type 0 where
  pub sound : own_fault o ≡ None
  pub absent : extern_named (kconfig_externs o.btf o.symbol_table) name ≡ None
  pub is : r ≡ plain NO_EXTERN

-- the externs can't be listed, or none has the name
abbrev pub CannotFindExtern : List ℕ → Object → Refusal → Type 0
CannotFindExtern name o r = CannotListKconfig o r ⊎ LacksExtern name o r

-- what is given to the extern of a name
pub record IsGivenTo {X : Type 0} (gives : KconfigExtern → Result X KconfigError) (name : List ℕ)
    (o : Object) (value : X)
    : Type 0 where
  pub extern : KconfigExtern
  pub wanted : IsWanted name o extern
  pub given : gives extern ≡ Ok value

-- it can't be given
pub record HasUnsuited {X : Type 0} (gives : KconfigExtern → Result X KconfigError)
    (name : List ℕ) (o : Object) (r : Refusal)
    : Type 0 where
  pub extern : KconfigExtern
  pub wanted : IsWanted name o extern
  pub refusal : IsKconfigRefusal (λ e. gives extern ≡ Err e) r

abbrev pub CannotGive : {X : Type 0} → (KconfigExtern → Result X KconfigError) → List ℕ → Object
    → Refusal → Type 0
CannotGive gives name o r = CannotFindExtern name o r ⊎ HasUnsuited gives name o r

-- by a kernel's configuration as text
abbrev pub configured : List ℕ → Object → KconfigExtern → Result (Option (List ℕ)) KconfigError
configured config o = configured_value o.endianness config

abbrev pub IsConfigured : List ℕ → List ℕ → Object → Option (List ℕ) → Type 0
IsConfigured name config o = IsGivenTo (configured config o) name o

abbrev pub CannotConfigure : List ℕ → List ℕ → Object → Refusal → Type 0
CannotConfigure name config o = CannotGive (configured config o) name o

-- a number
abbrev pub numbered_by : ℕ → Object → KconfigExtern → Result (List ℕ) KconfigError
numbered_by number o e = with_name e.name (loader_value o.endianness e.kind number)

abbrev pub IsNumbered : List ℕ → ℕ → Object → List ℕ → Type 0
IsNumbered name number o = IsGivenTo (numbered_by number o) name o

abbrev pub CannotNumber : List ℕ → ℕ → Object → Refusal → Type 0
CannotNumber name number o = CannotGive (numbered_by number o) name o

-- ---- the externs that the kernel's configuration gives, defined by rows of values

-- a name with its value, which stands in the bytes
abbrev pub given_to_name : List ℕ → ebpf_value → List ℕ → Option (List ℕ × List ℕ)
given_to_name bytes row name =
    option_map (λ value. (name, value)) (bytes_in bytes row.value_at row.value_len)

abbrev pub given_by_row : List ℕ → List ℕ → ebpf_value → Option (List ℕ × List ℕ)
given_by_row text bytes row =
    option_and_then (given_to_name bytes row) (name_in text row.name_at row.name_len)

-- the values by name; of rows of one name the last one stands
abbrev pub given_values : List ℕ → List ℕ → List ebpf_value → FinMap text_cmp (List ℕ)
given_values text bytes rows = put_all empty (filter_map (given_by_row text bytes) rows)

-- defined by these values, each of which its extern can take; all else is as before
pub record HasDefined (rows : List ebpf_value) (text bytes : List ℕ) (old new : Object)
    : Type 0 where
  pub named : are_named text rows ≡ true
  pub valued : have_values bytes rows ≡ true
  pub sound : kconfig_fault old.btf old.symbol_table (given_values text bytes rows) ≡ None
  pub maps : new.maps
      ≡ with_kconfig_map (given_values text bytes rows) (kconfig_externs old.btf old.symbol_table)
      old.maps
  pub symbols : new.symbol_table
      ≡ symbols_defined (kconfig_externs old.btf old.symbol_table) old.symbol_table
  pub others_stay : new ≡ record old { maps = new.maps; symbol_table = new.symbol_table }

-- they can't be defined; a row without a name is refused first, then one without its value
abbrev pub CannotDefine : List ebpf_value → List ℕ → List ℕ → Object → Refusal → Type 0
CannotDefine rows text bytes o r =
    MatchBool (are_named text rows)
    (MatchBool (have_values bytes rows)
    (IsKconfigRefusal
    (λ e. kconfig_fault o.btf o.symbol_table (given_values text bytes rows) ≡ Some e) r)
    (r ≡ plain BAD_VALUE))
    (r ≡ plain BAD_NAME)

-- an extern's name and its value, both lent
abbrev pub lent_pair : Bor (List ℕ) × Bor (List ℕ) → List ℕ × List ℕ
lent_pair given = (given.0.now, given.1.now)
