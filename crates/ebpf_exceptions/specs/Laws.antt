-- Laws of exception callbacks.
use Rattle.std.specs.FinMap.{empty}
use Rattle.std.specs.Prelude.{◌≡◌, ℕ, List, [], Some}
use Rattle.ebpf_btf.specs.TypeInfo.{TypeInfo}
use Rattle.ebpf_exceptions.specs.Callbacks.{completed_callbacks, tags}
use Rattle.ebpf_object.specs.declared.object.Object.{Object}

-- An object without tags of callbacks has no callback.
abbrev pub NoTagsNoCallbacks : Type 0
NoTagsNoCallbacks =
    (file : List ℕ) (o : Object) (types : TypeInfo)
    → o.btf ≡ Some types
    → tags types types.types ≡ []
    → completed_callbacks file o ≡ empty
