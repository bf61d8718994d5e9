-- What private contracts and proofs name and no public contract.
use Rattle.std.specs.Prelude.{ℕ, Bool, true, nat_lt, ◌&&◌, List, [], ◌∷◌, Option, Some, None}
use Rattle.std.specs.Prelude.{slice_get}
use Rattle.ebpf_linker.specs.declared.body.Body.{Body}
use Rattle.ebpf_linker.specs.declared.reference.Target.{Target}
use Rattle.ebpf_linker.specs.declared.reference.Target.TheVariants.{Function, Nowhere}
use Rattle.ebpf_linker.specs.declared.reference.Reference.{Reference}
use Rattle.ebpf_linker.specs.Functions.{FunctionContent, or_empty}
use Rattle.ebpf_linker.specs.LinkMap.{CopyOf}
use Rattle.ebpf_linker.specs.Numbered.{option_content}

-- what function k is
abbrev pub content_in : List Body → ℕ → FunctionContent
content_in B k = or_empty (option_content (slice_get B k))

abbrev pub is_within : ℕ → Target → Bool
is_within n (Function k) = nat_lt k n
is_within n (Nowhere e) = true

abbrev pub is_above : Option ℕ → ℕ → Bool
is_above None slot = true
is_above (Some before) slot = nat_lt before slot

-- whether the slots of references are above the one before, and each leads to one of n functions
abbrev pub is_list_sound : ℕ → Option ℕ → List Reference → Bool
is_list_sound n before [] = true
is_list_sound n before (c ∷ cs) =
    (is_above before c.slot && is_within n c.target) && is_list_sound n (Some c.slot) cs

-- a copy by another name of its function
abbrev pub key_copy : {M K : Type 0} → (M → K) → CopyOf M → CopyOf K
key_copy key c = record { key = key c.key; base = c.base; slots = c.slots }
