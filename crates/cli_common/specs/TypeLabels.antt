-- Types by kind and name, as libbpf's log writes them: `struct task_struct`.
--
-- A worked example: the type with id 1 of an object is a STRUCT with the name `foo`, and the type
-- with id 2 a STRUCT without a name. Their labels are `struct foo` and `struct <anon>`. No type has
-- the id 3: its label is `type 3`.
use Rattle.std.specs.Prelude.{ℕ, List, [], ◌∷◌, ◌++◌, Option, Some, None, Result, Ok, Err, codes}
use Rattle.std.specs.Prelude.{slice_get}
use Rattle.std.specs.Fmt.{decimal}
use Rattle.ebpf_btf.specs.Strings.{type_name}
use Rattle.ebpf_btf.specs.TypeInfo.{TypeInfo}
use Rattle.ebpf_btf.specs.Types.{kind_of}
use Rattle.ebpf_btf.specs.declared.error.BtfError.{BtfError}
use Rattle.ebpf_btf.specs.declared.kind.BtfKind.{BtfKind}
use Rattle.ebpf_btf.specs.declared.kind.BtfKind.TheVariants as kinds
use Rattle.ebpf_btf.specs.declared.types.BtfType.{BtfType}

-- the word for a kind
unfoldable pub kind_word : BtfKind → List ℕ
kind_word kinds.Unknown = codes "void"
kind_word kinds.Int = codes "int"
kind_word kinds.Ptr = codes "ptr"
kind_word kinds.Array = codes "array"
kind_word kinds.Struct = codes "struct"
kind_word kinds.Union = codes "union"
kind_word kinds.Enum = codes "enum"
kind_word kinds.Fwd = codes "fwd"
kind_word kinds.Typedef = codes "typedef"
kind_word kinds.Volatile = codes "volatile"
kind_word kinds.Const = codes "const"
kind_word kinds.Restrict = codes "restrict"
kind_word kinds.Func = codes "func"
kind_word kinds.FuncProto = codes "func_proto"
kind_word kinds.Var = codes "var"
kind_word kinds.DataSec = codes "datasec"
kind_word kinds.Float = codes "float"
kind_word kinds.DeclTag = codes "decl_tag"
kind_word kinds.TypeTag = codes "type_tag"
kind_word kinds.Enum64 = codes "enum64"

-- a name, or `<anon>` for the empty one
abbrev pub named : List ℕ → List ℕ
named [] = codes "<anon>"
named (c ∷ cs) = c ∷ cs

-- the name of a type, or `<anon>` for one that can't be read
abbrev pub name_or_anon : Result (List ℕ) BtfError → List ℕ
name_or_anon (Ok name) = named name
name_or_anon (Err _) = codes "<anon>"

abbrev pub label_of : TypeInfo → BtfType → List ℕ
label_of types t = kind_word (kind_of t) ++ codes " " ++ name_or_anon (type_name types t)

-- the label of what is found under an id
abbrev pub label_under : TypeInfo → ℕ → Option BtfType → List ℕ
label_under types id None = codes "type " ++ decimal id
label_under types id (Some t) = label_of types t

-- the label of the type with an id
unfoldable pub type_label : TypeInfo → ℕ → List ℕ
type_label types id = label_under types id (slice_get types.types id)
