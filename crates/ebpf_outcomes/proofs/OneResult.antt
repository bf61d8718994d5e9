-- Preparing has one result, where the bytes of the kernel's symbols are known.
use Rattle.std.proofs.Common.{◌≡◌, Bool, true, false, Some, sym, ap, ◌∙◌, ◌⊎◌, inl, inr, ℕ, List, Option, None, Result, Ok, Err, refl, subst}
use Rattle.std.specs.Prelude.{◌||◌, option_map}
use Rattle.std.specs.FinMap.{FinMap, get, same_map}
use Rattle.std.proofs.lemmas.Bool.{or_parts, MatchBool-at_true, MatchBool-at_false}
use Rattle.std.specs.Cmp.{eq_by_cmp_equiv}
use Rattle.std.specs.Ordering.{eq_by_cmp}
use Rattle.ebpf_base.proofs.Maps.{key_exact}
use Rattle.ebpf_base.specs.Maps.{key_cmp, key_total}
use Rattle.ebpf_btf.specs.TypeInfo.{TypeInfo}
use Rattle.ebpf_core_relo.specs.Records.{without_texts_at, Written, with_slots}
use Rattle.ebpf_core_relo.specs.declared.error.BtfRelocationError.{BtfRelocationError}
use Rattle.ebpf_ksyms.specs.Externs as resolution
use Rattle.ebpf_ksyms.specs.Sources.{IsRefusedFrom, IsResolvedFrom, Reader, Source, Text, kallsyms_text_fault}
use Rattle.ebpf_ksyms.specs.declared.error.KsymsError.{KsymsError}
use Rattle.ebpf_model.specs.declared.error.EbpfRelocationError.{EbpfRelocationError}
use Rattle.ebpf_model.specs.declared.function.Function.{Function}
use Rattle.ebpf_object.proofs.OnePreparation.{one_linking}
use Rattle.ebpf_object.proofs.OneResolution as by_reader
use Rattle.ebpf_object.specs.LinkedPrograms.{is_program_key, ProgramsAreLinked, linkable_of, programs_in_order}
use Rattle.ebpf_object.specs.Names.{has_function_in}
use Rattle.ebpf_object.specs.Objects.{object_as, parse_fault_as}
use Rattle.ebpf_object.specs.Prepared.{IsStageFault, IsPassFault, IsFaultAfter, IsFirstPrepareFault, IsPrepared, NamesNothing, RefusesPreparing, Stages, before_calls, before_externs, before_maps, before_resolution, is_prepare_memory}
use Rattle.ebpf_object.specs.WrittenSlots.{relocated_slots}
use Rattle.ebpf_object.specs.Stages.{RelocatesTypes, TypesFault, LinksPrograms, LinkingFault, Resolves, ResolvingFault, fds_written, fds_fault, with_externs_if, externs_fault_if, given_fault, unwritten_fault, Chosen}
use Rattle.ebpf_object.specs.declared.object.Object.{Object}
use Rattle.ebpf_object.specs.declared.prepare_error.PrepareError.{PrepareError}
use Rattle.ebpf_object.specs.declared.prepare_error.PrepareError.TheVariants.{Parse, Types, Maps, Ksyms, Externs, Calls, OutOfMemory, MissingDescriptor, UnknownMap, UnwrittenExtern}
use Rattle.ebpf_outcomes.proofs.TextResolution as by_text
use Rattle.ebpf_outcomes.specs.OneResult.{PreparingHasOneResult, StagingHasOneResult, determined_error, determined_resolution, has_known_bytes, is_read_failure, may_fail_to_read}
use Rattle.ebpf_parts.specs.declared.error.ParseError.{ParseError}
use Rattle.ebpf_parts.specs.declared.parse_mode.ParseMode.{ParseMode}
use Rattle.ebpf_reloc.proofs.OneResult.{any_at, not_refused, one_result}
use Rattle.ebpf_reloc.specs.Linking.{IsFirstRefusal as IsFirstProgram, ProgramValue, key_of}
use Rattle.ebpf_reloc.specs.SlotTargets.{LinkableValue}

-- ---- answers

same_ok : {X E : Type 0} (r : Result X E) (x y : X) → r ≡ Ok x → r ≡ Ok y → x ≡ y
same_ok r x y a b = cc

same_err : {X E : Type 0} (r : Result X E) (d e : E) → r ≡ Err d → r ≡ Err e → d ≡ e
same_err r d e a b = cc

ok_or_err : {X E : Type 0} (r : Result X E) (x : X) (e : E) → r ≡ Ok x → r ≡ Err e → ⊥
ok_or_err r x e a b = cc

none_or_some : {X : Type 0} (o : Option X) (x : X) → o ≡ None → o ≡ Some x → ⊥
none_or_some o x a b = cc

same_some : {X : Type 0} (o : Option X) (x y : X) → o ≡ Some x → o ≡ Some y → x ≡ y
same_some o x y a b = cc

-- ---- types

with_functions : (o a b : Object) → a ≡ record o { functions = a.functions } → b ≡ record o { functions = b.functions } → a.functions ≡ b.functions → a ≡ b
with_functions o a b is_a is_b same = is_a ∙ ap (λ (fs : FinMap key_cmp Function). record o { functions = fs }) same ∙ sym is_b

one_relocated : (target : Option TypeInfo) (o a b : Object) → RelocatesTypes target o a → RelocatesTypes target o b → a ≡ b
one_relocated None o a b h g = h ∙ sym g
one_relocated (Some target) o a b h g =
    let slots : h.0.slots ≡ g.0.slots = same_ok (relocated_slots o target) h.0.slots g.0.slots h.0.written g.0.written in
    with_functions o a b h.1 g.1
    (same_map key_total key_exact a.functions b.functions
    (λ key. h.0.each key ∙ ap (λ (w : Written). with_slots (get w key) (get o.functions key)) slots ∙ sym (g.0.each key)))

not_relocated : (target : Option TypeInfo) (o a : Object) (e : BtfRelocationError) → RelocatesTypes target o a → TypesFault target o e → ⊥
not_relocated None o a e h f = f
not_relocated (Some target) o a e h f = ok_or_err (relocated_slots o target) h.0.slots (without_texts_at e) h.0.written f

one_types_fault : (target : Option TypeInfo) (o : Object) (d e : BtfRelocationError) → TypesFault target o d → TypesFault target o e → without_texts_at d ≡ without_texts_at e
one_types_fault None o d e f g = absurd f
one_types_fault (Some target) o d e f g = same_err (relocated_slots o target) (without_texts_at d) (without_texts_at e) f g

-- ---- resolution

no_bytes : false ≡ true → ⊥
no_bytes known = cc

one_resolved : (lines : Source) → has_known_bytes lines ≡ true → (local kernel : Option TypeInfo) (externs a b : resolution.Externs) → IsResolvedFrom lines local kernel externs a → IsResolvedFrom lines local kernel externs b → a ≡ b
one_resolved (Text text) known local kernel externs a b h g = by_text.one_resolved text local kernel externs a b h g
one_resolved (Reader (Some bytes)) known local kernel externs a b h g = by_reader.one_resolved bytes local kernel externs a b h g
one_resolved (Reader None) known local kernel externs a b h g = absurd (no_bytes known)

not_resolved : (lines : Source) → has_known_bytes lines ≡ true → (local kernel : Option TypeInfo) (externs a : resolution.Externs) (e : KsymsError) → may_fail_to_read lines e ≡ false → IsResolvedFrom lines local kernel externs a → IsRefusedFrom lines local kernel externs e → ⊥
not_resolved (Text text) known local kernel externs a e other h g = none_or_some (kallsyms_text_fault text local kernel externs g.error) e (h.sound g.error) g.fault
not_resolved (Reader (Some bytes)) known local kernel externs a e other h g = by_reader.not_resolved bytes local kernel externs a e other h g
not_resolved (Reader None) known local kernel externs a e other h g = no_bytes known

one_refusal : (lines : Source) → has_known_bytes lines ≡ true → (local kernel : Option TypeInfo) (externs : resolution.Externs) (d e : KsymsError) → may_fail_to_read lines d ≡ false → may_fail_to_read lines e ≡ false
    → IsRefusedFrom lines local kernel externs d → IsRefusedFrom lines local kernel externs e → determined_resolution d ≡ determined_resolution e
one_refusal (Text text) known local kernel externs d e od oe h g = by_text.one_refusal text local kernel externs d e h g
one_refusal (Reader (Some bytes)) known local kernel externs d e od oe h g = ap determined_resolution (by_reader.one_refusal bytes local kernel externs d e od oe h g)
one_refusal (Reader None) known local kernel externs d e od oe h g = absurd (no_bytes known)

module _ (lines : Source) (known : has_known_bytes lines ≡ true) where
  one_resolution : (kernel : Option (Option TypeInfo)) (o a b : Object) → Resolves kernel lines o a → Resolves kernel lines o b → a ≡ b
  one_resolution None o a b h g = h ∙ sym g
  one_resolution (Some kernel) o a b h g =
      h.1 ∙ ap (λ (x : resolution.Externs). record o { externs = x }) (one_resolved lines known o.btf kernel o.externs a.externs b.externs h.0 g.0) ∙ sym g.1

  not_resolving : (kernel : Option (Option TypeInfo)) (o a : Object) (e : KsymsError) → may_fail_to_read lines e ≡ false → Resolves kernel lines o a → ResolvingFault kernel lines o e → ⊥
  not_resolving None o a e other h f = f
  not_resolving (Some kernel) o a e other h f = not_resolved lines known o.btf kernel o.externs a.externs e other h.0 f

  one_resolving : (kernel : Option (Option TypeInfo)) (o : Object) (d e : KsymsError) → may_fail_to_read lines d ≡ false → may_fail_to_read lines e ≡ false
      → ResolvingFault kernel lines o d → ResolvingFault kernel lines o e → determined_resolution d ≡ determined_resolution e
  one_resolving None o d e od oe f g = absurd f
  one_resolving (Some kernel) o d e od oe f g = one_refusal lines known o.btf kernel o.externs d e od oe f g

-- ---- calls

one_linked : (calls : Bool) (o a b : Object) → LinksPrograms calls o a → LinksPrograms calls o b → a ≡ b
one_linked false o a b h g = h ∙ sym g
one_linked true o a b h g =
    with_functions o a b h.1 g.1 (one_linking (linkable_of o (has_function_in o.functions)) (programs_in_order o.programs) a.functions b.functions h.0 g.0)

-- programs that are linked have no first fault
no_fault_linked : (parts : LinkableValue) (programs : List ProgramValue) (after : FinMap key_cmp Function) (e : EbpfRelocationError) → ProgramsAreLinked parts programs after → IsFirstProgram parts programs e → ⊥
no_fault_linked parts programs after e are_linked f =
    let key = key_of f.program in
    let among : is_program_key programs key ≡ true =
    any_at (λ (p : ProgramValue). eq_by_cmp key_cmp key (key_of p)) programs f.index f.program f.at ((eq_by_cmp_equiv key_total).refl key)
    in
    let linked = MatchBool-at_true _ _ among (are_linked key) in
    not_refused parts key linked.0 e.error linked.2 f.refused.1

not_linked : (calls : Bool) (o a : Object) (e : EbpfRelocationError) → LinksPrograms calls o a → LinkingFault calls o e → ⊥
not_linked false o a e h f = f
not_linked true o a e h f = no_fault_linked (linkable_of o (has_function_in o.functions)) (programs_in_order o.programs) a.functions e h.0 f

one_refused : (calls : Bool) (o : Object) (d e : EbpfRelocationError) → LinkingFault calls o d → LinkingFault calls o e → d ≡ e
one_refused false o d e f g = absurd f
one_refused true o d e f g =
    let same : Err d ≡ Err e = one_result (linkable_of o (has_function_in o.functions)) (programs_in_order o.programs) (Err d) (Err e) f g in
    cc

-- ---- all stages

module _ (lines : Source) (known : has_known_bytes lines ≡ true) (o : Object) where
  abbrev Leads : Chosen → Object → Type 0
  Leads steps after = Stages steps lines o after

  one_staged : (steps : Chosen) (a b : Object) → Leads steps a → Leads steps b → a ≡ b
  one_staged steps a b h g =
      let relocated : h.relocated ≡ g.relocated = one_relocated steps.target o h.relocated g.relocated h.types g.types in
      let with_maps : h.fds_written ≡ g.fds_written = h.maps ∙ ap (fds_written steps.descriptors) relocated ∙ sym g.maps in
      let resolved : h.resolved ≡ g.resolved =
      one_resolution lines known steps.kernel g.fds_written h.resolved g.resolved (subst (λ (x : Object). Resolves steps.kernel lines x h.resolved) with_maps h.resolution) g.resolution
      in
      let unlinked : h.unlinked ≡ g.unlinked = h.externs ∙ ap (with_externs_if steps.externs) resolved ∙ sym g.externs in
      one_linked steps.calls g.unlinked a b (subst (λ (x : Object). LinksPrograms steps.calls x a) unlinked h.calls) g.calls

  -- the stages up to one

  up_to_types : (steps : Chosen) (after : Object) (s : Leads steps after) → Leads (before_maps steps) s.relocated
  up_to_types steps after s = record {
    relocated = s.relocated;
    fds_written = s.relocated;
    resolved = s.relocated;
    unlinked = s.relocated;
    given = refl;
    types = s.types;
    maps_sound = refl;
    maps = refl;
    resolution = refl;
    externs_sound = refl;
    externs = refl;
    written = refl;
    calls = refl;
  }

  up_to_maps : (steps : Chosen) (after : Object) (s : Leads steps after) → Leads (before_resolution steps) s.fds_written
  up_to_maps steps after s = record {
    relocated = s.relocated;
    fds_written = s.fds_written;
    resolved = s.fds_written;
    unlinked = s.fds_written;
    given = s.given;
    types = s.types;
    maps_sound = s.maps_sound;
    maps = s.maps;
    resolution = refl;
    externs_sound = refl;
    externs = refl;
    written = refl;
    calls = refl;
  }

  up_to_resolution : (steps : Chosen) (after : Object) (s : Leads steps after) → Leads (before_externs steps) s.resolved
  up_to_resolution steps after s = record {
    relocated = s.relocated;
    fds_written = s.fds_written;
    resolved = s.resolved;
    unlinked = s.resolved;
    given = s.given;
    types = s.types;
    maps_sound = s.maps_sound;
    maps = s.maps;
    resolution = s.resolution;
    externs_sound = refl;
    externs = refl;
    written = refl;
    calls = refl;
  }

  up_to_externs : (steps : Chosen) (after : Object) (s : Leads steps after) → Leads (before_calls steps) s.unlinked
  up_to_externs steps after s = record {
    relocated = s.relocated;
    fds_written = s.fds_written;
    resolved = s.resolved;
    unlinked = s.unlinked;
    given = s.given;
    types = s.types;
    maps_sound = s.maps_sound;
    maps = s.maps;
    resolution = s.resolution;
    externs_sound = s.externs_sound;
    externs = s.externs;
    written = refl;
    calls = refl;
  }

  -- a fault in what some steps leave is one in each object that they leave
  fault_in : (steps : Chosen) (Fault : Object → Type 0) (x : Object) → Leads steps x → IsFaultAfter steps lines o Fault → Fault x
  fault_in steps Fault x s f = subst Fault (one_staged steps f.before x f.stages s) f.fault

  -- stages that lead on have no fault of a pass
  passed_on : (steps : Chosen) (after : Object) → Leads steps after → (e : PrepareError) → is_read_failure lines e ≡ false → IsPassFault steps lines o e → ⊥
  passed_on steps after s (Types e) other f = not_relocated steps.target o s.relocated e s.types f
  passed_on steps after s (Maps e) other f =
      none_or_some (fds_fault steps.descriptors s.relocated) e s.maps_sound (fault_in (before_maps steps) _ s.relocated (up_to_types steps after s) f)
  passed_on steps after s (Ksyms e) other f =
      not_resolving lines known steps.kernel s.fds_written s.resolved e other s.resolution (fault_in (before_resolution steps) _ s.fds_written (up_to_maps steps after s) f)
  passed_on steps after s (Externs e) other f =
      none_or_some (externs_fault_if steps.externs s.resolved) e s.externs_sound (fault_in (before_externs steps) _ s.resolved (up_to_resolution steps after s) f)
  passed_on steps after s (Calls e) other f =
      not_linked steps.calls s.unlinked after e s.calls (fault_in (before_calls steps) _ s.unlinked (up_to_externs steps after s) f).1
  passed_on steps after s (UnwrittenExtern name) other f =
      none_or_some (unwritten_fault steps.calls steps.complete s.unlinked) name s.written (fault_in (before_calls steps) _ s.unlinked (up_to_externs steps after s) f)
  passed_on steps after s (Parse e) other f = f
  passed_on steps after s OutOfMemory other f = f
  passed_on steps after s (MissingDescriptor name) other f = f
  passed_on steps after s (UnknownMap name) other f = f

  one_pass_fault : (steps : Chosen) (d e : PrepareError) → is_read_failure lines d ≡ false → is_read_failure lines e ≡ false → IsPassFault steps lines o d → IsPassFault steps lines o e → determined_error d ≡ determined_error e
  one_pass_fault steps (Types d) (Types e) od oe f g = ap (λ x. Some (Types x)) (one_types_fault steps.target o d e f g)
  one_pass_fault steps (Types d) (Maps e) od oe f g = absurd (passed_on (before_maps steps) g.before g.stages (Types d) od f)
  one_pass_fault steps (Types d) (Ksyms e) od oe f g = absurd (passed_on (before_resolution steps) g.before g.stages (Types d) od f)
  one_pass_fault steps (Types d) (Externs e) od oe f g = absurd (passed_on (before_externs steps) g.before g.stages (Types d) od f)
  one_pass_fault steps (Types d) (Calls e) od oe f g = absurd (passed_on (before_calls steps) g.before g.stages (Types d) od f)
  one_pass_fault steps (Maps d) (Types e) od oe f g = absurd (passed_on (before_maps steps) f.before f.stages (Types e) oe g)
  one_pass_fault steps (Maps d) (Maps e) od oe f g = ap (λ x. Some (Maps x)) (same_some (fds_fault steps.descriptors g.before) d e (fault_in (before_maps steps) _ g.before g.stages f) g.fault)
  one_pass_fault steps (Maps d) (Ksyms e) od oe f g = absurd (passed_on (before_resolution steps) g.before g.stages (Maps d) od f)
  one_pass_fault steps (Maps d) (Externs e) od oe f g = absurd (passed_on (before_externs steps) g.before g.stages (Maps d) od f)
  one_pass_fault steps (Maps d) (Calls e) od oe f g = absurd (passed_on (before_calls steps) g.before g.stages (Maps d) od f)
  one_pass_fault steps (Ksyms d) (Types e) od oe f g = absurd (passed_on (before_resolution steps) f.before f.stages (Types e) oe g)
  one_pass_fault steps (Ksyms d) (Maps e) od oe f g = absurd (passed_on (before_resolution steps) f.before f.stages (Maps e) oe g)
  one_pass_fault steps (Ksyms d) (Ksyms e) od oe f g = ap (option_map Ksyms) (one_resolving lines known steps.kernel g.before d e od oe (fault_in (before_resolution steps) _ g.before g.stages f) g.fault)
  one_pass_fault steps (Ksyms d) (Externs e) od oe f g = absurd (passed_on (before_externs steps) g.before g.stages (Ksyms d) od f)
  one_pass_fault steps (Ksyms d) (Calls e) od oe f g = absurd (passed_on (before_calls steps) g.before g.stages (Ksyms d) od f)
  one_pass_fault steps (Externs d) (Types e) od oe f g = absurd (passed_on (before_externs steps) f.before f.stages (Types e) oe g)
  one_pass_fault steps (Externs d) (Maps e) od oe f g = absurd (passed_on (before_externs steps) f.before f.stages (Maps e) oe g)
  one_pass_fault steps (Externs d) (Ksyms e) od oe f g = absurd (passed_on (before_externs steps) f.before f.stages (Ksyms e) oe g)
  one_pass_fault steps (Externs d) (Externs e) od oe f g = ap (λ x. Some (Externs x)) (same_some (externs_fault_if steps.externs g.before) d e (fault_in (before_externs steps) _ g.before g.stages f) g.fault)
  one_pass_fault steps (Externs d) (Calls e) od oe f g = absurd (passed_on (before_calls steps) g.before g.stages (Externs d) od f)
  one_pass_fault steps (Calls d) (Types e) od oe f g = absurd (passed_on (before_calls steps) f.before f.stages (Types e) oe g)
  one_pass_fault steps (Calls d) (Maps e) od oe f g = absurd (passed_on (before_calls steps) f.before f.stages (Maps e) oe g)
  one_pass_fault steps (Calls d) (Ksyms e) od oe f g = absurd (passed_on (before_calls steps) f.before f.stages (Ksyms e) oe g)
  one_pass_fault steps (Calls d) (Externs e) od oe f g = absurd (passed_on (before_calls steps) f.before f.stages (Externs e) oe g)
  one_pass_fault steps (Calls d) (Calls e) od oe f g = ap (λ x. Some (Calls x)) (one_refused steps.calls g.before d e (fault_in (before_calls steps) _ g.before g.stages f).1 g.fault.1)
  one_pass_fault steps (Types d) (UnwrittenExtern e) od oe f g = absurd (passed_on (before_calls steps) g.before g.stages (Types d) od f)
  one_pass_fault steps (Maps d) (UnwrittenExtern e) od oe f g = absurd (passed_on (before_calls steps) g.before g.stages (Maps d) od f)
  one_pass_fault steps (Ksyms d) (UnwrittenExtern e) od oe f g = absurd (passed_on (before_calls steps) g.before g.stages (Ksyms d) od f)
  one_pass_fault steps (Externs d) (UnwrittenExtern e) od oe f g = absurd (passed_on (before_calls steps) g.before g.stages (Externs d) od f)
  one_pass_fault steps (Calls d) (UnwrittenExtern e) od oe f g =
      absurd (none_or_some (unwritten_fault steps.calls steps.complete g.before) e (fault_in (before_calls steps) _ g.before g.stages f).0 g.fault)
  one_pass_fault steps (UnwrittenExtern d) (Types e) od oe f g = absurd (passed_on (before_calls steps) f.before f.stages (Types e) oe g)
  one_pass_fault steps (UnwrittenExtern d) (Maps e) od oe f g = absurd (passed_on (before_calls steps) f.before f.stages (Maps e) oe g)
  one_pass_fault steps (UnwrittenExtern d) (Ksyms e) od oe f g = absurd (passed_on (before_calls steps) f.before f.stages (Ksyms e) oe g)
  one_pass_fault steps (UnwrittenExtern d) (Externs e) od oe f g = absurd (passed_on (before_calls steps) f.before f.stages (Externs e) oe g)
  one_pass_fault steps (UnwrittenExtern d) (Calls e) od oe f g =
      absurd (none_or_some (unwritten_fault steps.calls steps.complete f.before) d (fault_in (before_calls steps) _ f.before f.stages g).0 f.fault)
  one_pass_fault steps (UnwrittenExtern d) (UnwrittenExtern e) od oe f g =
      ap (λ x. Some (UnwrittenExtern x)) (same_some (unwritten_fault steps.calls steps.complete g.before) d e (fault_in (before_calls steps) _ g.before g.stages f) g.fault)
  one_pass_fault steps (MissingDescriptor d) e od oe f g = absurd f
  one_pass_fault steps (UnknownMap d) e od oe f g = absurd f
  one_pass_fault steps (Parse d) e od oe f g = absurd f
  one_pass_fault steps OutOfMemory e od oe f g = absurd f
  one_pass_fault steps d (Parse e) od oe f g = absurd g
  one_pass_fault steps d OutOfMemory od oe f g = absurd g
  one_pass_fault steps d (MissingDescriptor e) od oe f g = absurd g
  one_pass_fault steps d (UnknownMap e) od oe f g = absurd g

  -- ---- the fault of the descriptors, or that of a pass

  abbrev given : Chosen → Option PrepareError
  given steps = given_fault steps.descriptors steps.complete o

  abbrev OfPass : Chosen → PrepareError → Type 0
  OfPass steps e = (given steps ≡ None) × IsPassFault steps lines o e

  of_either : (steps : Chosen) (e : PrepareError) → IsStageFault steps lines o e → (given steps ≡ Some e) ⊎ OfPass steps e
  of_either steps (Parse e) f = absurd f
  of_either steps (Types e) f = inr f
  of_either steps (Maps e) f = inr f
  of_either steps (Ksyms e) f = inr f
  of_either steps (Externs e) f = inr f
  of_either steps (Calls e) f = inr f
  of_either steps OutOfMemory f = absurd f
  of_either steps (MissingDescriptor name) f = inl f
  of_either steps (UnknownMap name) f = inl f
  of_either steps (UnwrittenExtern name) f = inr f

  led_by : (steps : Chosen) (after : Object) → Leads steps after → (e : PrepareError) → is_read_failure lines e ≡ false → (given steps ≡ Some e) ⊎ OfPass steps e → ⊥
  led_by steps after s e other (inl f) = none_or_some (given steps) e s.given f
  led_by steps after s e other (inr f) = passed_on steps after s e other f.1

  -- stages that lead on have no fault
  led_on : (steps : Chosen) (after : Object) → Leads steps after → (e : PrepareError) → is_read_failure lines e ≡ false → IsStageFault steps lines o e → ⊥
  led_on steps after s e other f = led_by steps after s e other (of_either steps e f)

  one_of_two : (steps : Chosen) (d e : PrepareError) → is_read_failure lines d ≡ false → is_read_failure lines e ≡ false → (given steps ≡ Some d) ⊎ OfPass steps d → (given steps ≡ Some e) ⊎ OfPass steps e
      → determined_error d ≡ determined_error e
  one_of_two steps d e od oe (inl f) (inl g) = ap determined_error (same_some (given steps) d e f g)
  one_of_two steps d e od oe (inl f) (inr g) = absurd (none_or_some (given steps) d g.0 f)
  one_of_two steps d e od oe (inr f) (inl g) = absurd (none_or_some (given steps) e f.0 g)
  one_of_two steps d e od oe (inr f) (inr g) = one_pass_fault steps d e od oe f.1 g.1

  one_fault : (steps : Chosen) (d e : PrepareError) → is_read_failure lines d ≡ false → is_read_failure lines e ≡ false → IsStageFault steps lines o d → IsStageFault steps lines o e
      → determined_error d ≡ determined_error e
  one_fault steps d e od oe f g = one_of_two steps d e od oe (of_either steps d f) (of_either steps e g)

-- ---- answers that exclude others

module _ (lines : Source) (Fault : PrepareError → Type 0) (e : PrepareError) (is : (is_prepare_memory e || is_read_failure lines e) ≡ false) where
  refusal_stated : RefusesPreparing Fault e → Fault e
  refusal_stated r = MatchBool-at_false (NamesNothing e) (Fault e) (or_parts (is_prepare_memory e) (is_read_failure lines e) is).0 r

  no_access : is_read_failure lines e ≡ false
  no_access = (or_parts (is_prepare_memory e) (is_read_failure lines e) is).1

pub one_staging : StagingHasOneResult
one_staging steps lines o known (Ok a) (Ok b) h g hs gs = ap Ok (one_staged lines known o steps a b h g)
one_staging steps lines o known (Ok a) (Err e) h g hs gs =
    absurd (led_on lines known o steps a h e (no_access lines (IsStageFault steps lines o) e gs) (refusal_stated lines (IsStageFault steps lines o) e gs g))
one_staging steps lines o known (Err d) (Ok b) h g hs gs =
    absurd (led_on lines known o steps b g d (no_access lines (IsStageFault steps lines o) d hs) (refusal_stated lines (IsStageFault steps lines o) d hs h))
one_staging steps lines o known (Err d) (Err e) h g hs gs =
    let Fault = IsStageFault steps lines o in
    ap Err (one_fault lines known o steps d e (no_access lines Fault d hs) (no_access lines Fault e gs) (refusal_stated lines Fault d hs h) (refusal_stated lines Fault e gs g))

-- ---- of a file

module _ (steps : Chosen) (lines : Source) (known : has_known_bytes lines ≡ true) (mode : ParseMode) (bytes : List ℕ) where
  abbrev First : PrepareError → Type 0
  First e = IsFirstPrepareFault steps lines mode bytes e

  -- the file's own fault, or that of a stage
  abbrev OfFile : PrepareError → Type 0
  OfFile e = (p : ParseError) × (parse_fault_as mode bytes ≡ Some p) × (e ≡ Parse p)

  abbrev OfStage : PrepareError → Type 0
  OfStage e = (parse_fault_as mode bytes ≡ None) × IsStageFault steps lines (object_as mode bytes) e

  either : (e : PrepareError) → First e → OfFile e ⊎ OfStage e
  either (Parse e) f = inl (e, f, refl)
  either (Types e) f = inr f
  either (Maps e) f = inr f
  either (Ksyms e) f = inr f
  either (Externs e) f = inr f
  either (Calls e) f = inr f
  either OutOfMemory f = inr f
  either (MissingDescriptor name) f = inr f
  either (UnknownMap name) f = inr f
  either (UnwrittenExtern name) f = inr f

  one_first : (d e : PrepareError) → is_read_failure lines d ≡ false → is_read_failure lines e ≡ false → OfFile d ⊎ OfStage d → OfFile e ⊎ OfStage e → determined_error d ≡ determined_error e
  one_first d e od oe (inl f) (inl g) =
      let same : f.0 ≡ g.0 = same_some (parse_fault_as mode bytes) f.0 g.0 f.1 g.1 in
      ap determined_error (f.2 ∙ ap Parse same ∙ sym g.2)
  one_first d e od oe (inl f) (inr g) = absurd (none_or_some (parse_fault_as mode bytes) f.0 g.0 f.1)
  one_first d e od oe (inr f) (inl g) = absurd (none_or_some (parse_fault_as mode bytes) g.0 f.0 g.1)
  one_first d e od oe (inr f) (inr g) = one_fault lines known (object_as mode bytes) steps d e od oe f.1 g.1

  no_first : (o : Object) (e : PrepareError) → is_read_failure lines e ≡ false → IsPrepared steps lines mode bytes o → OfFile e ⊎ OfStage e → ⊥
  no_first o e other p (inl f) = none_or_some (parse_fault_as mode bytes) f.0 p.sound f.1
  no_first o e other p (inr f) = led_on lines known (object_as mode bytes) steps o p.stages e other f.1

pub one_preparation : PreparingHasOneResult
one_preparation steps lines mode bytes known (Ok a) (Ok b) h g hs gs = ap Ok (one_staged lines known (object_as mode bytes) steps a b h.stages g.stages)
one_preparation steps lines mode bytes known (Ok a) (Err e) h g hs gs =
    let Fault = IsFirstPrepareFault steps lines mode bytes in
    absurd (no_first steps lines known mode bytes a e (no_access lines Fault e gs) h (either steps lines known mode bytes e (refusal_stated lines Fault e gs g)))
one_preparation steps lines mode bytes known (Err d) (Ok b) h g hs gs =
    let Fault = IsFirstPrepareFault steps lines mode bytes in
    absurd (no_first steps lines known mode bytes b d (no_access lines Fault d hs) g (either steps lines known mode bytes d (refusal_stated lines Fault d hs h)))
one_preparation steps lines mode bytes known (Err d) (Err e) h g hs gs =
    let Fault = IsFirstPrepareFault steps lines mode bytes in
    ap Err (one_first steps lines known mode bytes d e (no_access lines Fault d hs) (no_access lines Fault e gs)
    (either steps lines known mode bytes d (refusal_stated lines Fault d hs h)) (either steps lines known mode bytes e (refusal_stated lines Fault e gs g)))
