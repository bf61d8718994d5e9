-- The exception callbacks of an object's programs (libbpf 1.5, libbpf.c: bpf_prog_assign_exc_cb,
-- bpf_object__relocate). A program states its callback by a DECL_TAG on its FUNC, of component -1:
-- `exception_callback:` and the name of a global function of `.text`.
--
-- A worked example. `.text` is section 2. It has the functions `cb` at 0, which is global, and `own`
-- at 24, which is local. The program `p` is at 0 of section 3 and has the tag
-- `exception_callback:cb`. So `completed_callbacks` leads from (3, 0) to (2, 0), and `p` is linked
-- with the functions that it calls, and then with `cb`. With a second tag of any name `p` has no
-- callback. The tag `exception_callback:own` is CallbackNotGlobal, `exception_callback:none` is
-- UnknownCallback, and `exception_callback:` is EmptyCallback.
use Rattle.std.specs.FinMap.{FinMap, get, insert, contains_key, entries, empty}
use Rattle.std.specs.List.{flat_map, starts_with}
use Rattle.std.specs.Option.{option_and_then, option_map_or}
use Rattle.std.specs.Prelude.{Bool, true, false, ℕ, ◌==◌, ◌&&◌, ◌||◌, not, List, [], ◌∷◌, codes, drop}
use Rattle.std.specs.Prelude.{length, nat_eq, fold, slice_get, Option, Some, None, option_map, unwrap_or}
use Rattle.std.specs.Prelude.{Result, Ok, Err, if◌then◌else◌}
use Rattle.std.specs.Result.{result_ok}
use Rattle.ebpf_base.specs.Faults.{fault_of, first_in, first_some, if_ok, or_else}
use Rattle.ebpf_base.specs.Maps.{key_cmp, put_all, text_cmp}
use Rattle.ebpf_btf.specs.Strings.{text_at}
use Rattle.ebpf_btf.specs.TypeInfo.{TypeInfo}
use Rattle.ebpf_btf.specs.declared.types.BtfType.{BtfType}
use Rattle.ebpf_btf.specs.declared.types.BtfType.TheVariants.{DeclTag, Func}
use Rattle.ebpf_btf_load.specs.KsymsSections.{is_in_text, text_index}
use Rattle.ebpf_btf_load.specs.TypeSources.{is_function_symbol, is_hidden, symbol_table_bytes}
use Rattle.ebpf_elf.specs.Faults.{faults}
use Rattle.ebpf_elf.specs.Symbols.{SymbolOf, entry, symbols, symbol_kind, symbol_name}
use Rattle.ebpf_elf.specs.Symbols.{symbol_section_index}
use Rattle.ebpf_elf.specs.declared.symbol.SymbolKind.{SymbolKind}
use Rattle.ebpf_elf.specs.declared.symbol.SymbolKind.TheVariants.{Text}
use Rattle.ebpf_exceptions.specs.declared.error.ExceptionError.{ExceptionError}
use Rattle.ebpf_exceptions.specs.declared.error.ExceptionError.TheVariants.{ElfError, OutOfMemory}
use Rattle.ebpf_exceptions.specs.declared.error.ExceptionError.TheVariants.{NotAFunction}
use Rattle.ebpf_exceptions.specs.declared.error.ExceptionError.TheVariants.{NotGlobal}
use Rattle.ebpf_exceptions.specs.declared.error.ExceptionError.TheVariants.{EmptyCallback}
use Rattle.ebpf_exceptions.specs.declared.error.ExceptionError.TheVariants.{UnknownCallback}
use Rattle.ebpf_exceptions.specs.declared.error.ExceptionError.TheVariants.{CallbackNotGlobal}
use Rattle.ebpf_exceptions.specs.declared.functions.TextFunction.{TextFunction}
use Rattle.ebpf_exceptions.specs.declared.tags.CallbackTag.{CallbackTag}
use Rattle.ebpf_exceptions.specs.declared.tags.FirstTag.{FirstTag}
use Rattle.ebpf_model.specs.Symbols.{FunctionKey}
use Rattle.ebpf_model.specs.declared.function.Program.{Program}
use Rattle.ebpf_object.specs.declared.object.Object.{Object}

-- the one answer that no definition states: an allocation failure
abbrev pub is_exception_memory : ExceptionError → Bool
is_exception_memory OutOfMemory = true
is_exception_memory _ = false

-- ---- tags

abbrev pub callback_mark : List ℕ
callback_mark = codes "exception_callback:"

-- the part of a text behind the mark, where the text begins with it
abbrev pub behind_mark : List ℕ → Option (List ℕ)
behind_mark text =
    if starts_with nat_eq text callback_mark
    then Some (drop (length callback_mark) text)
    else None

-- the text at an offset of the strings, empty where it can't be read
abbrev pub text_or_empty : TypeInfo → ℕ → List ℕ
text_or_empty types offset = unwrap_or (result_ok (text_at types.strings offset)) []

-- of a DECL_TAG on a declaration itself (component -1): the offset of its name, and the id of the
-- type that it is on
unfoldable pub name_and_target : BtfType → Option (ℕ × ℕ)
name_and_target (DeclTag name target component) =
    if component == 4294967295 then Some (name, target) else None
name_and_target t = None

-- the offset of a FUNC's name
unfoldable pub func_name : BtfType → Option ℕ
func_name (Func name proto) = Some name
func_name t = None

-- the tag of a callback on a type
abbrev pub tag_on : TypeInfo → ℕ → List ℕ → Option ℕ → Result (Option CallbackTag) ExceptionError
tag_on types target callback None = Err (NotAFunction target callback)
tag_on types target callback (Some name) =
    Ok (Some (record { function = text_or_empty types name; callback = callback }))

abbrev pub tag_behind : TypeInfo → ℕ → Option (List ℕ) → Result (Option CallbackTag) ExceptionError
tag_behind types target None = Ok None
tag_behind types target (Some callback) =
    tag_on types target callback (option_and_then func_name (slice_get types.types target))

abbrev pub tag_named : TypeInfo → Option (ℕ × ℕ) → Result (Option CallbackTag) ExceptionError
tag_named types None = Ok None
tag_named types (Some t) = tag_behind types t.1 (behind_mark (text_or_empty types t.0))

-- the tag that a type is, if it states a callback
abbrev pub tag_of : TypeInfo → BtfType → Result (Option CallbackTag) ExceptionError
tag_of types t = tag_named types (name_and_target t)

abbrev pub found_tag : Result (Option CallbackTag) ExceptionError → List CallbackTag
found_tag (Ok (Some tag)) = tag ∷ []
found_tag (Ok None) = []
found_tag (Err e) = []

-- the tags, in the order of their ids
abbrev pub tags : TypeInfo → List BtfType → List CallbackTag
tags types ts = flat_map (λ t. found_tag (tag_of types t)) ts

-- the first tag on a type that is no FUNC
abbrev pub tags_fault : TypeInfo → List BtfType → Option ExceptionError
tags_fault types ts = first_some (λ t. fault_of (tag_of types t)) ts

-- the first tag of a function, and whether it is the only one
abbrev pub first_tag : CallbackTag → Option FirstTag → FirstTag
first_tag tag None = record { callback = tag.callback; is_alone = true }
first_tag tag (Some first) = record { callback = first.callback; is_alone = false }

abbrev pub with_tag : FinMap text_cmp FirstTag → CallbackTag → FinMap text_cmp FirstTag
with_tag found tag = insert found tag.function (first_tag tag (get found tag.function))

-- the first tags by the names of functions
abbrev pub first_tags : List CallbackTag → FinMap text_cmp FirstTag
first_tags ts = fold with_tag empty ts

-- ---- the functions of `.text` by name: of several with one name the first symbol counts

abbrev pub is_function : SymbolKind → Bool
is_function Text = true
is_function _ = false

abbrev pub is_text_function : ℕ → SymbolOf → Bool
is_text_function text s =
    is_in_text text (symbol_section_index (entry s)) && is_function (symbol_kind (entry s))

-- a function is global if its binding is GLOBAL or WEAK, and its visibility neither HIDDEN nor
-- INTERNAL
abbrev pub text_function : List ℕ → SymbolOf → TextFunction
text_function table s = record {
  address = (entry s).st_value;
  is_global = is_function_symbol table s && not (is_hidden table s);
}

abbrev pub with_named : FinMap text_cmp TextFunction → TextFunction → Option (List ℕ)
    → FinMap text_cmp TextFunction
with_named found f None = found
with_named found f (Some name) = if contains_key found name then found else insert found name f

abbrev pub with_symbol : List ℕ → ℕ → FinMap text_cmp TextFunction → SymbolOf
    → FinMap text_cmp TextFunction
with_symbol table text found s =
    if is_text_function text s
    then with_named found (text_function table s) (symbol_name s)
    else found

abbrev pub functions_in : List ℕ → ℕ → FinMap text_cmp TextFunction
functions_in file text = fold (with_symbol (symbol_table_bytes file) text) empty (symbols file)

-- ---- the callback of a program

abbrev pub is_global_function : Option TextFunction → Bool
is_global_function None = false
is_global_function (Some f) = f.is_global

-- a tag is of a program or of a global function
abbrev pub tag_fault : FinMap text_cmp Program → FinMap text_cmp TextFunction → CallbackTag
    → Option ExceptionError
tag_fault programs functions tag =
    if contains_key programs tag.function || is_global_function (get functions tag.function)
    then None
    else Some (NotGlobal tag.function)

-- the address of a callback
abbrev pub address_of : List ℕ → List ℕ → Option TextFunction → Result ℕ ExceptionError
address_of program callback None = Err (UnknownCallback program callback)
address_of program callback (Some f) =
    if f.is_global then Ok f.address else Err (CallbackNotGlobal program callback)

abbrev pub callback_address : FinMap text_cmp TextFunction → List ℕ → List ℕ
    → Result ℕ ExceptionError
callback_address functions program callback =
    if length callback == 0
    then Err (EmptyCallback program)
    else address_of program callback (get functions callback)

-- the key of a function, and the key of its callback
abbrev pub KeyPair : Type 0
KeyPair = FunctionKey × FunctionKey

-- a program with one tag has a callback; one with several has none
abbrev pub callback_by : ℕ → FinMap text_cmp TextFunction → List ℕ × Program → Option FirstTag
    → Result (Option KeyPair) ExceptionError
callback_by text functions e None = Ok None
callback_by text functions e (Some first) =
    if_ok (callback_address functions e.0 first.callback) (λ address.
    Ok
    (if first.is_alone
    then Some ((e.1.section_index, e.1.address), (text, address))
    else None))

abbrev pub callback_of : ℕ → FinMap text_cmp TextFunction → FinMap text_cmp FirstTag
    → List ℕ × Program → Result (Option KeyPair) ExceptionError
callback_of text functions first e = callback_by text functions e (get first e.0)

abbrev pub found_callback : Result (Option KeyPair) ExceptionError → List KeyPair
found_callback (Ok (Some pair)) = pair ∷ []
found_callback (Ok None) = []
found_callback (Err e) = []

-- ---- the callbacks of an object

-- by the index of `.text`, its functions and the first tags: in the order of the programs' names
abbrev pub callbacks_among : ℕ → FinMap text_cmp TextFunction → FinMap text_cmp FirstTag
    → List (List ℕ × Program) → List KeyPair
callbacks_among text functions first programs =
    flat_map (λ e. found_callback (callback_of text functions first e)) programs

abbrev pub programs_fault : ℕ → FinMap text_cmp TextFunction → FinMap text_cmp FirstTag
    → List (List ℕ × Program) → Option ExceptionError
programs_fault text functions first programs =
    first_some (λ e. fault_of (callback_of text functions first e)) programs

-- without `.text` there is no function
abbrev pub text_functions : List ℕ → Option ℕ → FinMap text_cmp TextFunction
text_functions file None = empty
text_functions file (Some text) = functions_in file text

abbrev pub text_of : List ℕ → ℕ
text_of file = unwrap_or (text_index file) 0

abbrev pub functions_of_text : List ℕ → FinMap text_cmp TextFunction
functions_of_text file = text_functions file (text_index file)

abbrev pub callbacks_by : List ℕ → FinMap text_cmp Program → List CallbackTag
    → FinMap key_cmp FunctionKey
callbacks_by file programs ts =
    put_all empty
    (callbacks_among (text_of file) (functions_of_text file) (first_tags ts) (entries programs))

abbrev pub found_fault : List ℕ → FinMap text_cmp Program → List CallbackTag
    → Option ExceptionError
found_fault file programs ts =
    or_else (first_some (tag_fault programs (functions_of_text file)) ts)
    (programs_fault (text_of file) (functions_of_text file) (first_tags ts) (entries programs))

-- the fault of the file first
abbrev pub read_fault : List ℕ → FinMap text_cmp Program → List CallbackTag
    → Option ExceptionError
read_fault file programs ts =
    or_else (option_map ElfError (first_in (faults file))) (found_fault file programs ts)

-- an object without tags has no callbacks, and its file is not read
abbrev pub callbacks_with : List ℕ → FinMap text_cmp Program → List CallbackTag
    → FinMap key_cmp FunctionKey
callbacks_with file programs ts =
    if length ts == 0 then empty else callbacks_by file programs ts

abbrev pub fault_with : List ℕ → FinMap text_cmp Program → List CallbackTag
    → Option ExceptionError
fault_with file programs ts = if length ts == 0 then None else read_fault file programs ts

-- the exception callbacks of an object whose file has these bytes, by the keys of the programs'
-- functions
unfoldable pub completed_callbacks : List ℕ → Object → FinMap key_cmp FunctionKey
completed_callbacks file o =
    option_map_or (λ types. callbacks_with file o.programs (tags types types.types)) o.btf empty

-- a tag on a type that is no FUNC first, then the fault of the file, the first tag of a function
-- that isn't global, and the first program whose callback can't be had
unfoldable pub callbacks_fault : List ℕ → Object → Option ExceptionError
callbacks_fault file o =
    option_and_then
    (λ types.
    or_else (tags_fault types types.types)
    (fault_with file o.programs (tags types types.types))) o.btf
