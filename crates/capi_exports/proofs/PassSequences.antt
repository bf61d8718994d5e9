-- Whatever calls are made with one handle, passes were made each at most once and in their order.
use Rattle.std.proofs.Common.{◌≡◌, Bool, true, false, List, [], ◌∷◌, Option, Some, None, refl, sym, ap, ◌∙◌, subst, inl, inr}
use Rattle.std.proofs.lemmas.Option.{none-some}
use Rattle.std.specs.Prelude.{if◌then◌else◌}
use Rattle.capi_exports.specs.PassOrder.{HasPassed, fault_of_pass, fault_of_setting}
use Rattle.capi_exports.specs.PassSequences.{MakesTypes, MakesMaps, MakesResolution, MakesAll, IsPass, AreCalls, after_calls, before_passes, or_unpassed, IsComposed, AnyCallsCompose}
use Rattle.capi_exports.specs.Passes.{HasWrittenExterns, HasLinked, PreparationInputs, all_passes}
use Rattle.capi_exports.specs.declared.held.Held.{Held}
use Rattle.capi_exports.specs.declared.held.Pass.{Pass}
use Rattle.capi_exports.specs.declared.held.Pass.TheVariants.{Types, Maps, Resolution, Externs, Calls}
use Rattle.capi_rows.specs.Descriptors.{descriptors_in}
use Rattle.ebpf_btf.specs.TypeInfo.{TypeInfo}
use Rattle.ebpf_ksyms.specs.Sources.{Text}
use Rattle.ebpf_model.specs.Symbols.{TextSections}
use Rattle.ebpf_object.proofs.Headline.{passes_finish}
use Rattle.ebpf_object.specs.Chain.{Passes, Chain, Links, with_descriptors}
use Rattle.ebpf_object.specs.Names.{has_function_in}
use Rattle.ebpf_object.specs.Prepared.{Stages}
use Rattle.ebpf_object.specs.Stages.{RelocatesTypes, own_maps}
use Rattle.ebpf_object.specs.WrittenSlots.{with_externs}
use Rattle.ebpf_object.specs.declared.object.Object.{Object}
use Rattle.ebpf_reloc.specs.Maps.{GivenMap}

-- something can be set where no pass was made
unset : (last : Option Pass) → fault_of_setting last ≡ None → last ≡ None
unset None may = refl
unset (Some last) may = let no : ⊥ = cc in absurd no

-- a pass is the last one now
last_made : (old new : Held) → IsPass old new → (last : Pass) × (new.last ≡ Some last)
last_made old new (inl p) = (Types, p.last)
last_made old new (inr (inl p)) = (Maps, p.last)
last_made old new (inr (inr (inl p))) = (Resolution, p.last)
last_made old new (inr (inr (inr (inl p)))) = (Externs, p.last)
last_made old new (inr (inr (inr (inr (inl p))))) = (Calls, p.last)
last_made old new (inr (inr (inr (inr (inr p))))) = (Calls, p.last)

-- ---- what calls over bytes and over types have in common

relocated : (old new : Object) → MakesTypes old new → (target : TypeInfo) × RelocatesTypes (Some target) old new
relocated old new (inl (types, c)) = (c.target, (c.relocated, c.others_stay))
relocated old new (inr (kernel, c)) = (kernel, (c.relocated, c.others_stay))

resolved : (old new : Object) → MakesResolution old new → new ≡ record old { externs = new.externs }
resolved old new (inl (types, symbols, c)) = c.others_stay
resolved old new (inr (kernel, symbols, c)) = c.others_stay

staged : (old new : Object) → MakesAll old new → (inputs : PreparationInputs) × (kernel : Option TypeInfo) × Stages (all_passes inputs kernel) (Text inputs.symbols) old new
staged old new (inl (inputs, c)) = (inputs, c.kernel, c.stages)
staged old new (inr (kernel, inputs, c)) = (inputs, Some kernel, c.stages)

-- ---- what an object is after each pass, made or left out
module _ (begun : Object) where
  abbrev Begun : Object → Type 0
  Begun o = o ≡ begun

  abbrev AfterTypes : Object → Type 0
  AfterTypes o = (target : Option TypeInfo) × RelocatesTypes target begun o

  abbrev AfterMaps : Object → Type 0
  AfterMaps o = (x : Object) × AfterTypes x × (given : Option (TextSections × List GivenMap)) × (o ≡ with_descriptors given x)

  abbrev AfterResolution : Object → Type 0
  AfterResolution o = (x : Object) × AfterMaps x × (o ≡ record x { externs = o.externs })

  abbrev AfterExterns : Object → Type 0
  AfterExterns o = (x : Object) × AfterResolution x × (written : Bool) × (o ≡ (if written then with_externs x else x))

  abbrev AfterCalls : Object → Type 0
  AfterCalls o = (x : Object) × AfterExterns x × (calls : Option TextSections) × Links calls x o

  -- left out
  no_types : (o : Object) → Begun o → AfterTypes o
  no_types o is = (None, is)

  no_maps : (o : Object) → AfterTypes o → AfterMaps o
  no_maps o is = (o, is, None, refl)

  no_resolution : (o : Object) → AfterMaps o → AfterResolution o
  no_resolution o is = (o, is, refl)

  no_externs : (o : Object) → AfterResolution o → AfterExterns o
  no_externs o is = (o, is, false, refl)

  no_calls : (o : Object) → AfterExterns o → AfterCalls o
  no_calls o is = (o, is, None, refl)

  -- after the last that was made
  abbrev After : Option Pass → Object → Type 0
  After None = Begun
  After (Some Types) = AfterTypes
  After (Some Maps) = AfterMaps
  After (Some Resolution) = AfterResolution
  After (Some Externs) = AfterExterns
  After (Some Calls) = AfterCalls

  -- where a pass can be made, those before it were made or left out
  may_types : (last : Option Pass) (o : Object) → fault_of_pass last Types ≡ None → After last o → Begun o
  may_types None o may is = is
  may_types (Some Types) o may is = let no : ⊥ = cc in absurd no
  may_types (Some Maps) o may is = let no : ⊥ = cc in absurd no
  may_types (Some Resolution) o may is = let no : ⊥ = cc in absurd no
  may_types (Some Externs) o may is = let no : ⊥ = cc in absurd no
  may_types (Some Calls) o may is = let no : ⊥ = cc in absurd no

  may_maps : (last : Option Pass) (o : Object) → fault_of_pass last Maps ≡ None → After last o → AfterTypes o
  may_maps None o may is = no_types o is
  may_maps (Some Types) o may is = is
  may_maps (Some Maps) o may is = let no : ⊥ = cc in absurd no
  may_maps (Some Resolution) o may is = let no : ⊥ = cc in absurd no
  may_maps (Some Externs) o may is = let no : ⊥ = cc in absurd no
  may_maps (Some Calls) o may is = let no : ⊥ = cc in absurd no

  may_resolution : (last : Option Pass) (o : Object) → fault_of_pass last Resolution ≡ None → After last o → AfterMaps o
  may_resolution None o may is = no_maps o (no_types o is)
  may_resolution (Some Types) o may is = no_maps o is
  may_resolution (Some Maps) o may is = is
  may_resolution (Some Resolution) o may is = let no : ⊥ = cc in absurd no
  may_resolution (Some Externs) o may is = let no : ⊥ = cc in absurd no
  may_resolution (Some Calls) o may is = let no : ⊥ = cc in absurd no

  may_externs : (last : Option Pass) (o : Object) → fault_of_pass last Externs ≡ None → After last o → AfterResolution o
  may_externs None o may is = no_resolution o (no_maps o (no_types o is))
  may_externs (Some Types) o may is = no_resolution o (no_maps o is)
  may_externs (Some Maps) o may is = no_resolution o is
  may_externs (Some Resolution) o may is = is
  may_externs (Some Externs) o may is = let no : ⊥ = cc in absurd no
  may_externs (Some Calls) o may is = let no : ⊥ = cc in absurd no

  may_calls : (last : Option Pass) (o : Object) → fault_of_pass last Calls ≡ None → After last o → AfterExterns o
  may_calls None o may is = no_externs o (no_resolution o (no_maps o (no_types o is)))
  may_calls (Some Types) o may is = no_externs o (no_resolution o (no_maps o is))
  may_calls (Some Maps) o may is = no_externs o (no_resolution o is)
  may_calls (Some Resolution) o may is = no_externs o is
  may_calls (Some Externs) o may is = is
  may_calls (Some Calls) o may is = let no : ⊥ = cc in absurd no

  -- at last
  at_last : (last : Option Pass) (o : Object) → After last o → AfterCalls o
  at_last None o is = no_calls o (no_externs o (no_resolution o (no_maps o (no_types o is))))
  at_last (Some Types) o is = no_calls o (no_externs o (no_resolution o (no_maps o is)))
  at_last (Some Maps) o is = no_calls o (no_externs o (no_resolution o is))
  at_last (Some Resolution) o is = no_calls o (no_externs o is)
  at_last (Some Externs) o is = no_calls o is
  at_last (Some Calls) o is = is

  -- ---- a pass, made
  module _ (old new : Held) (before : After old.last old.object) where
    abbrev Now : Option Pass → Type 0
    Now last = After last new.object

    types_made : HasPassed Types Types MakesTypes old new → Now new.last
    types_made p =
        let made = relocated old.object new.object p.change in
        subst Now (sym p.last)
        (subst (λ (o : Object). (target : Option TypeInfo) × RelocatesTypes target o new.object) (may_types old.last old.object p.allowed before) (Some made.0, made.1))

    maps_made : HasPassed Maps Maps MakesMaps old new → Now new.last
    maps_made p =
        let given : TextSections × List GivenMap = (has_function_in old.object.functions, own_maps old.object.maps (descriptors_in p.change.1 p.change.0)) in
        subst Now (sym p.last) (old.object, may_maps old.last old.object p.allowed before, Some given, p.change.2.is)

    resolution_made : HasPassed Resolution Resolution MakesResolution old new → Now new.last
    resolution_made p = subst Now (sym p.last) (old.object, may_resolution old.last old.object p.allowed before, resolved old.object new.object p.change)

    externs_made : HasPassed Externs Externs HasWrittenExterns old new → Now new.last
    externs_made p = subst Now (sym p.last) (old.object, may_externs old.last old.object p.allowed before, true, p.change.is)

    calls_made : HasPassed Calls Calls HasLinked old new → Now new.last
    calls_made p = subst Now (sym p.last) (old.object, may_calls old.last old.object p.allowed before, Some (has_function_in old.object.functions), (p.change.linked, p.change.others_stay))

    all_made : HasPassed Types Calls MakesAll old new → Now new.last
    all_made p =
        let (inputs, kernel, s) = staged old.object new.object p.change in
        let types : AfterTypes s.relocated = subst (λ (o : Object). (target : Option TypeInfo) × RelocatesTypes target o s.relocated) (may_types old.last old.object p.allowed before) (kernel, s.types) in
        let maps : AfterMaps s.fds_written = (s.relocated, types, Some (has_function_in s.relocated.functions, own_maps s.relocated.maps (descriptors_in inputs.text inputs.rows)), s.maps) in
        let resolution : AfterResolution s.resolved = (s.fds_written, maps, s.resolution.1) in
        let externs : AfterExterns s.unlinked = (s.resolved, resolution, true, s.externs) in
        subst Now (sym p.last) (s.unlinked, externs, Some (has_function_in s.unlinked.functions), s.calls)

    pass_made : IsPass old new → Now new.last
    pass_made (inl p) = types_made p
    pass_made (inr (inl p)) = maps_made p
    pass_made (inr (inr (inl p))) = resolution_made p
    pass_made (inr (inr (inr (inl p)))) = externs_made p
    pass_made (inr (inr (inr (inr (inl p))))) = calls_made p
    pass_made (inr (inr (inr (inr (inr p))))) = all_made p

  -- ---- composed
  composed : (o : Object) → AfterCalls o → IsComposed begun o
  composed o (unlinked, (resolved, (fds_written, (relocated, (target, types), given, maps), resolution), written, externs), calls, links) =
      let passes : Passes = record { target = target; maps = given; externs = written; calls = calls } in
      let chain : Chain passes begun o = record {
        relocated = relocated;
        fds_written = fds_written;
        resolved = resolved;
        unlinked = unlinked;
        types = types;
        maps = maps;
        resolution = resolution;
        externs = externs;
        calls = links;
      } in
      record { passes = passes; finished = passes_finish passes begun o chain }

  -- after a pass, calls make only later ones
  after_a_pass : (held : Held) (calls : List Held) (last : Pass) → held.last ≡ Some last → After held.last held.object → AreCalls held calls → IsComposed begun (after_calls held calls).object
  after_a_pass held [] last is before tt = composed held.object (at_last held.last held.object before)
  after_a_pass held (next ∷ calls) last is before (inl same, rest) =
      after_a_pass next calls last (ap (λ (h : Held). h.last) same ∙ is) (subst (λ (h : Held). After h.last h.object) (sym same) before) rest
  after_a_pass held (next ∷ calls) last is before (inr (inl set), rest) = absurd (none-some last (sym (unset held.last set.allowed) ∙ is))
  after_a_pass held (next ∷ calls) last is before (inr (inr pass), rest) =
      after_a_pass next calls (last_made held next pass).0 (last_made held next pass).1 (pass_made held next before pass) rest

-- no pass was made by a call
module _ (held next : Held) (calls : List Held) (after : Object) where
  abbrev From : Option Pass → Type 0
  From last = IsComposed (or_unpassed held last (before_passes next calls)).object after

  unpassed : next.last ≡ None → IsComposed (before_passes next calls).object after → From next.last
  unpassed none is = subst From (sym none) is

  passed : (last : Pass) → next.last ≡ Some last → IsComposed held.object after → From next.last
  passed last made is = subst From (sym made) is

pub any_calls_compose : AnyCallsCompose
any_calls_compose held [] none tt = composed held.object held.object (at_last held.object None held.object refl)
any_calls_compose held (next ∷ calls) none (inl same, rest) =
    let unmade : next.last ≡ None = ap (λ (h : Held). h.last) same ∙ none in
    unpassed held next calls (after_calls next calls).object unmade (any_calls_compose next calls unmade rest)
any_calls_compose held (next ∷ calls) none (inr (inl set), rest) =
    let unmade : next.last ≡ None = set.last ∙ none in
    unpassed held next calls (after_calls next calls).object unmade (any_calls_compose next calls unmade rest)
any_calls_compose held (next ∷ calls) none (inr (inr pass), rest) =
    let last = last_made held next pass in
    let before : After held.object held.last held.object = subst (λ l. After held.object l held.object) (sym none) refl in
    passed held next calls (after_calls next calls).object last.0 last.1 (after_a_pass held.object next calls last.0 last.1 (pass_made held.object held next before pass) rest)
