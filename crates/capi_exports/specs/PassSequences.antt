-- Whatever calls are made with one handle: what it holds is the object as it was before the first
-- pass, and then what the passes made of it, each at most once and in their order.
--
-- An opened handle, `ebpf_set_value`, `ebpf_relocate_maps` that is refused, then made, and made
-- again, which is refused: begun is the object with the value, and of the passes `maps` is chosen.
use Rattle.std.specs.Prelude.{◌≡◌, ◌⊎◌, ⊤, ℕ, List, [], ◌∷◌, Option, Some, None}
use Rattle.capi_exports.specs.PassOrder.{HasPassed, HasSetting}
use Rattle.capi_exports.specs.Passes.{PreparationInputs, HasRelocatedTypes}
use Rattle.capi_rows.specs.Descriptors.{HasWrittenMapFds}
use Rattle.capi_exports.specs.Passes.{HasResolved, HasWrittenExterns, HasLinked}
use Rattle.capi_exports.specs.Passes.{HasPreparedHeld}
use Rattle.capi_exports.specs.KernelPasses.{HasPreparedHeldTo, HasRelocatedTo, HasResolvedIn}
use Rattle.capi_exports.specs.declared.held.Held.{Held}
use Rattle.capi_exports.specs.declared.held.Pass.{Pass}
use Rattle.capi_exports.specs.declared.held.Pass.TheVariants.{Types, Maps, Resolution, Externs}
use Rattle.capi_exports.specs.declared.held.Pass.TheVariants.{Calls}
use Rattle.capi_rows.specs.declared.reads.ebpf_descriptor.{ebpf_descriptor}
use Rattle.ebpf_btf.specs.TypeInfo.{TypeInfo}
use Rattle.ebpf_object.specs.Chain.{Passes}
use Rattle.ebpf_object.specs.Headline.{IsFinished}
use Rattle.ebpf_object.specs.declared.object.Object.{Object}

-- ---- one call, over bytes or over types that were read

abbrev pub MakesTypes : Object → Object → Type 0
MakesTypes old new =
    ((types : List ℕ) × HasRelocatedTypes types old new)
    ⊎ ((kernel : TypeInfo) × HasRelocatedTo kernel old new)

abbrev pub MakesMaps : Object → Object → Type 0
MakesMaps old new =
    (rows : List ebpf_descriptor) × (text : List ℕ) × HasWrittenMapFds rows text old new

abbrev pub MakesResolution : Object → Object → Type 0
MakesResolution old new =
    ((types symbols : List ℕ) × HasResolved types symbols old new)
    ⊎ ((kernel : TypeInfo) × (symbols : List ℕ) × HasResolvedIn kernel symbols old new)

abbrev pub MakesAll : Object → Object → Type 0
MakesAll old new =
    ((inputs : PreparationInputs) × HasPreparedHeld inputs old new)
    ⊎
    ((kernel : TypeInfo) × (inputs : PreparationInputs) × HasPreparedHeldTo kernel inputs old new)

-- a pass is made, or all of them
abbrev pub IsPass : Held → Held → Type 0
IsPass old new =
    HasPassed Types Types MakesTypes old new
    ⊎ HasPassed Maps Maps MakesMaps old new
    ⊎ HasPassed Resolution Resolution MakesResolution old new
    ⊎ HasPassed Externs Externs HasWrittenExterns old new
    ⊎ HasPassed Calls Calls HasLinked old new
    ⊎ HasPassed Types Calls MakesAll old new

-- whatever is set of an object
abbrev pub AnyChange : Object → Object → Type 0
AnyChange old new = ⊤

-- What is held stays, as by a call that reads or refuses; or something is set where no pass was
-- made; or a pass is made.
abbrev pub IsCall : Held → Held → Type 0
IsCall old new = (new ≡ old) ⊎ HasSetting AnyChange old new ⊎ IsPass old new

-- ---- calls one after the other

-- each is a call on what the one before it left
abbrev pub AreCalls : Held → List Held → Type 0
AreCalls held [] = ⊤
AreCalls held (next ∷ calls) = IsCall held next × AreCalls next calls

abbrev pub after_calls : Held → List Held → Held
after_calls held [] = held
after_calls held (next ∷ calls) = after_calls next calls

-- this, or what comes after it, where no pass was made of that
abbrev pub or_unpassed : Held → Option Pass → Held → Held
or_unpassed held None later = later
or_unpassed held (Some last) later = held

-- what was held when the first pass was made, or at last
abbrev pub before_passes : Held → List Held → Held
before_passes held [] = held
before_passes held (next ∷ calls) = or_unpassed held next.last (before_passes next calls)

-- ---- what they come to

-- an object is finished by passes over another
pub record IsComposed (begun o : Object) : Type 0 where
  pub passes : Passes
  pub finished : IsFinished passes begun o

-- whatever calls are made, from a handle of which no pass was made
abbrev pub AnyCallsCompose : Type 0
AnyCallsCompose =
    (held : Held) (calls : List Held)
    → held.last ≡ None
    → AreCalls held calls
    → IsComposed (before_passes held calls).object (after_calls held calls).object
