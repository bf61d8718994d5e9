-- The outcomes of passes beside the stages of preparing: the first pass and the last are made with them.
use Rattle.std.proofs.Common.{◌≡◌, ◌∙◌, ap, subst, sym, refl, ℕ, ◌+◌, ◌<◌, ◌≤◌, false, List, [], ◌∷◌, ◌++◌, length, map, take, Option, Some, None, Ok}
use Rattle.std.specs.Prelude.{not, slice_index_or, Result}
use Rattle.std.proofs.lemmas.List.{take_all, take_more}
use Rattle.std.proofs.lemmas.Option.{slice_get-get_or}
use Rattle.std.proofs.lemmas.Slice.Zip.{all_zipped_more}
use Rattle.std.specs.FinMap.{FinMap, empty, insert}
use Rattle.std.specs.List.{AllZip}
use Rattle.ebpf_base.specs.Maps.{key_cmp}
use Rattle.ebpf_btf.specs.TypeInfo.{TypeInfo}
use Rattle.ebpf_btf_ext.specs.ExtReading.{ExtInfo}
use Rattle.ebpf_core_relo.proofs.FirstRefusal.{same_slots}
use Rattle.ebpf_core_relo.specs.RecordOutcomes.{refusal}
use Rattle.ebpf_core_relo.specs.Records.{Written, relocation_inputs_between}
use Rattle.ebpf_core_relo.specs.declared.error.BtfRelocationError.{BtfRelocationError}
use Rattle.ebpf_core_relo.specs.declared.outcomes.RecordOutcome.{RecordOutcome}
use Rattle.ebpf_ksyms.specs.Sources.{Source}
use Rattle.ebpf_model.specs.declared.function.Function.{Function}
use Rattle.ebpf_object.proofs.Staging.{fds_refused, other_fault, refused_as, resolving_refused, writing_externs_refused}
use Rattle.ebpf_outcomes.specs.PassOutcomes.{AreLinkMaps, AreLinkMapsIf, AreOutcomes, HasOutcomes, HasSlotRows, OutcomesLeaveSlots, if_asked, slot_passes}
use Rattle.ebpf_outcomes.specs.SlotOutcomes.{extern_slots_if, map_slots_if}
use Rattle.ebpf_outcomes.specs.declared.slot_outcomes.MapOutcome.{MapOutcome}
use Rattle.ebpf_outcomes.specs.declared.slot_passes.AskedOutcomes.{AskedOutcomes}
use Rattle.ebpf_outcomes.specs.declared.slot_passes.SlotRows.{SlotRows}
use Rattle.ebpf_object.specs.Prepared.{Stages, before_calls, before_externs, before_resolution, before_maps, IsStageFault, RefusesPreparing, NamesNothing, is_prepare_memory}
use Rattle.ebpf_object.specs.Stages.{Chosen, Descriptor, RelocatesTypes, Resolves, ResolvingFault, LinksPrograms, LinkingFault, Wrapped, externs_fault_if, fds_fault, given_fault, unwritten_fault, with_externs_if}
use Rattle.ebpf_object.specs.Stages as stage
use Rattle.ebpf_object.specs.WrittenSlots.{relocated_slots_by, slots_of_records}
use Rattle.ebpf_object.specs.declared.object.Object.{Object}
use Rattle.ebpf_object.specs.declared.prepare_error.PrepareError.{PrepareError}
use Rattle.ebpf_object.specs.declared.prepare_error.PrepareError.TheVariants.{Parse, Types, Maps, Ksyms, Externs, Calls, OutOfMemory, MissingDescriptor, UnknownMap, UnwrittenExtern}
use Rattle.ebpf_reloc.proofs.SoFar.{SoFar, all_linked, first_fault, none_yet, step_more}
use Rattle.ebpf_reloc.specs.Linking.{AreLinked, IsFirstRefusal, IsLinked, IsLinkMapAt, IsProgramRefusal, ProgramValue, key_of}
use Rattle.ebpf_reloc.specs.SlotTargets.{LinkableValue}
use Rattle.ebpf_reloc.specs.declared.link_map.LinkMap.{LinkMap}
use Rattle.ebpf_reloc.specs.declared.slot_outcomes.SlotOutcome.{SlotOutcome}

-- ---- the slots that outcomes leave

same_ok : (a b : Written) → (e : Result Written BtfRelocationError) → e ≡ Ok a → e ≡ Ok b → a ≡ b
same_ok a b e h i = cc

left_by_outcomes : (o : Object) (target : TypeInfo) (btf : Option TypeInfo) (ext : Option ExtInfo) (slots : Written) → relocated_slots_by o target btf ext ≡ Ok slots → slots_of_records o target btf ext ≡ slots
left_by_outcomes o target None ext slots h = same_ok _ _ _ refl h
left_by_outcomes o target (Some local) None slots h = same_ok _ _ _ refl h
left_by_outcomes o target (Some local) (Some ext) slots h = (same_slots (relocation_inputs_between local target o.functions o.section_infos) ext.relocations slots h).0

outcomes_leave_slots : (target : Option TypeInfo) (o after : Object) → RelocatesTypes target o after → OutcomesLeaveSlots target o
outcomes_leave_slots None o after types = tt
outcomes_leave_slots (Some target) o after types =
    types.0.written ∙ ap (λ (s : Written). Ok s) (sym (left_by_outcomes o target o.btf o.btf_ext types.0.slots types.0.written))

-- ---- programs linked one after the other, each with its link map

pub record SoFarWithMaps (parts : LinkableValue) (programs : List ProgramValue) (i : ℕ) (functions : FinMap key_cmp Function) (maps : List LinkMap) : Type 0 where
  pub linked : SoFar parts programs i functions
  pub link_maps : AreLinkMaps parts (take i programs) maps

module _ (parts : LinkableValue) (programs : List ProgramValue) (i : ℕ) (functions : FinMap key_cmp Function) (maps : List LinkMap) (so_far : SoFarWithMaps parts programs i functions maps)
    (program : ProgramValue) (below : i < length programs) (item : program ≡ slice_index_or programs i program) where
  pub one_more : (g : Function) (m : LinkMap) → IsLinked parts (key_of program) g → IsLinkMapAt parts (key_of program) m
      → (after : FinMap key_cmp Function) → after ≡ insert functions (key_of program) g → (more : List LinkMap) → more ≡ maps ++ m ∷ []
      → SoFarWithMaps parts programs (i + 1) after more
  one_more g m linked mapped after inserted more pushed =
      let are = λ (p : ProgramValue) (n : LinkMap). IsLinkMapAt parts (key_of p) n in
      record {
        linked = step_more parts programs i functions so_far.linked program below item parts refl g linked after inserted;
        link_maps =
            subst (λ ms. AllZip are (take (i + 1) programs) ms) (sym pushed)
            (subst (λ ps. AllZip are ps (maps ++ m ∷ [])) (ap (λ p. take i programs ++ p ∷ []) item ∙ sym (take_more programs i program below))
            (all_zipped_more are (take i programs) maps program m so_far.link_maps mapped));
      }

  -- a program that can't be linked
  pub refused_here : (e : PrepareError) → RefusesPreparing (Wrapped Calls (IsProgramRefusal parts program)) e → RefusesPreparing (Wrapped Calls (IsFirstRefusal parts programs)) e
  refused_here e refused =
      refused_as Calls (IsProgramRefusal parts program) (Wrapped Calls (IsFirstRefusal parts programs))
      (λ own fault. (own, refl, first_fault parts programs i functions so_far.linked program below (slice_get-get_or programs i program below ∙ ap Some (sym item)) own fault)) e refused

module _ (parts : LinkableValue) (programs : List ProgramValue) where
  pub none_so_far : (functions : FinMap key_cmp Function) (maps : List LinkMap) → functions ≡ empty → maps ≡ [] → SoFarWithMaps parts programs 0 functions maps
  none_so_far functions maps no_functions no_maps = record {
    linked = subst (λ (m : FinMap key_cmp Function). SoFar parts programs 0 m) (sym no_functions) (none_yet parts programs);
    link_maps = subst (λ ms. AreLinkMaps parts [] ms) (sym no_maps) tt;
  }

  module _ (i : ℕ) (functions : FinMap key_cmp Function) (maps : List LinkMap) (so_far : SoFarWithMaps parts programs i functions maps) (past : length programs ≤ i) where
    pub all_are_linked : AreLinked parts programs functions
    all_are_linked = all_linked parts programs i functions so_far.linked past

    pub all_are_mapped : AreLinkMaps parts programs maps
    all_are_mapped = subst (λ (ps : List ProgramValue). AreLinkMaps parts ps maps) (take_all i programs past) so_far.link_maps

-- ---- the passes over maps and externs

-- descriptors that need not be complete have no fault
none_given : (descriptors : Option (List Descriptor)) (o : Object) → given_fault descriptors false o ≡ None
none_given None o = refl
none_given (Some ds) o = refl

module _ (s : Chosen) (lines : Source) (a : Object) where
  -- a refusal of descriptors, of resolving, of externs
  pub slots_of_maps_refused : (e : PrepareError) → RefusesPreparing (Wrapped Maps (λ d. fds_fault s.descriptors a ≡ Some d)) e → RefusesPreparing (IsStageFault (slot_passes s) lines a) e
  slots_of_maps_refused e refused = fds_refused (slot_passes s) lines a (none_given s.descriptors a) a refl e refused

  module _ (maps_sound : fds_fault s.descriptors a ≡ None) (b : Object) (maps : b ≡ stage.fds_written s.descriptors a) where
    pub resolution_refused : (e : PrepareError) → RefusesPreparing (Wrapped Ksyms (ResolvingFault s.kernel lines b)) e → RefusesPreparing (IsStageFault (slot_passes s) lines a) e
    resolution_refused e refused = resolving_refused (slot_passes s) lines a (none_given s.descriptors a) a refl maps_sound b maps e refused

    module _ (c : Object) (resolution : Resolves s.kernel lines b c) where
      pub slots_of_externs_refused : (e : PrepareError) → RefusesPreparing (Wrapped Externs (λ d. externs_fault_if s.externs c ≡ Some d)) e → RefusesPreparing (IsStageFault (slot_passes s) lines a) e
      slots_of_externs_refused e refused = writing_externs_refused (slot_passes s) lines a (none_given s.descriptors a) a refl maps_sound b maps c resolution e refused

      -- the slots that they write, with their outcomes
      pub has_slot_rows : (asked : AskedOutcomes) (d : Object) → externs_fault_if s.externs c ≡ None → d ≡ with_externs_if s.externs c
          → (rows : List MapOutcome) → rows ≡ if_asked asked.maps (map_slots_if s.descriptors a)
          → (extern_rows : List SlotOutcome) → extern_rows ≡ if_asked asked.externs (extern_slots_if s.externs c)
          → HasSlotRows s asked lines a d (record { maps = rows; externs = extern_rows })
      has_slot_rows asked d externs_sound externs rows are extern_rows extern_are = record {
        stages = record {
          relocated = a;
          fds_written = b;
          resolved = c;
          unlinked = d;
          given = none_given s.descriptors a;
          types = refl;
          maps_sound = maps_sound;
          maps = maps;
          resolution = resolution;
          externs_sound = externs_sound;
          externs = externs;
          written = refl;
          calls = refl;
        };
        maps = are;
        externs = extern_are;
      }

-- ---- the stages, where types come first and calls last

no_error : (e : PrepareError) → ◌≡◌ {A = Option PrepareError} None (Some e) → ⊥
no_error e is = cc

no_name : (name : List ℕ) → ◌≡◌ {A = Option (List ℕ)} None (Some name) → ⊥
no_name name is = cc

none_missing : (descriptors : Option (List Descriptor)) (o : Object) (e : PrepareError) → given_fault descriptors false o ≡ Some e → ⊥
none_missing descriptors o e is = no_error e (sym (none_given descriptors o) ∙ is)

module _ (lines : Source) (o a : Object) where
  -- what is relocated to types first goes on with the other stages
  typed_first : (s : Chosen) (d : Object) → RelocatesTypes s.target o a → given_fault s.descriptors s.complete o ≡ None
      → Stages (slot_passes s) lines a d → Stages (before_calls s) lines o d
  typed_first s d types given stages = record {
    relocated = a;
    fds_written = stages.fds_written;
    resolved = stages.resolved;
    unlinked = stages.unlinked;
    given = given;
    types = types;
    maps_sound = subst (λ (x : Object). fds_fault s.descriptors x ≡ None) stages.types stages.maps_sound;
    maps = stages.maps ∙ ap (stage.fds_written s.descriptors) stages.types;
    resolution = stages.resolution;
    externs_sound = stages.externs_sound;
    externs = stages.externs;
    written = refl;
    calls = stages.calls;
  }

  module _ (s : Chosen) (given : given_fault s.descriptors s.complete o ≡ None) (types : RelocatesTypes s.target o a) where
    -- a fault in between
    same_fault : (e : PrepareError) → IsStageFault (slot_passes s) lines a e → IsStageFault s lines o e
    same_fault (Parse e) f = elim f [ ]
    same_fault (Types e) f = absurd f.1
    same_fault (Maps e) f = (given, record { before = f.1.before; stages = typed_first (before_maps s) f.1.before types refl f.1.stages; fault = f.1.fault })
    same_fault (Ksyms e) f = (given, record { before = f.1.before; stages = typed_first (before_resolution s) f.1.before types given f.1.stages; fault = f.1.fault })
    same_fault (Externs e) f = (given, record { before = f.1.before; stages = typed_first (before_externs s) f.1.before types given f.1.stages; fault = f.1.fault })
    same_fault (Calls e) f = absurd f.1.fault.1
    same_fault OutOfMemory f = elim f [ ]
    same_fault (MissingDescriptor name) f = absurd (none_missing s.descriptors a (MissingDescriptor name) f)
    same_fault (UnknownMap name) f = absurd (none_missing s.descriptors a (UnknownMap name) f)
    same_fault (UnwrittenExtern name) f = absurd (no_name name f.1.fault)

    pub refused_between : (e : PrepareError) → RefusesPreparing (IsStageFault (slot_passes s) lines a) e → RefusesPreparing (IsStageFault s lines o) e
    refused_between e refused = other_fault (is_prepare_memory e) (NamesNothing e) (IsStageFault (slot_passes s) lines a e) (IsStageFault s lines o e) (same_fault e) refused

    module _ (asked : AskedOutcomes) (d : Object) (rows : SlotRows) (has : HasSlotRows s asked lines a d rows) where
      -- a call of an extern that isn't written
      pub externs_refused : (e : PrepareError) → RefusesPreparing (Wrapped UnwrittenExtern (λ name. unwritten_fault s.calls s.complete d ≡ Some name)) e → RefusesPreparing (IsStageFault s lines o) e
      externs_refused e refused =
          refused_as UnwrittenExtern (λ name. unwritten_fault s.calls s.complete d ≡ Some name) (IsStageFault s lines o)
          (λ own fault. (given, record { before = d; stages = typed_first s d types given has.stages; fault = fault })) e refused

      module _ (written : unwritten_fault s.calls s.complete d ≡ None) where
        -- a refusal of linking
        pub linking_refused : (e : PrepareError) → RefusesPreparing (Wrapped Calls (LinkingFault s.calls d)) e → RefusesPreparing (IsStageFault s lines o) e
        linking_refused e refused =
            refused_as Calls (LinkingFault s.calls d) (IsStageFault s lines o)
            (λ own fault. (given, record { before = d; stages = typed_first s d types given has.stages; fault = (written, fault) })) e refused

        -- the whole, linked
        abbrev whole : (after : Object) → LinksPrograms s.calls d after → Stages s lines o after
        whole after links = record {
          relocated = a;
          fds_written = has.stages.fds_written;
          resolved = has.stages.resolved;
          unlinked = d;
          given = given;
          types = types;
          maps_sound = subst (λ (x : Object). fds_fault s.descriptors x ≡ None) has.stages.types has.stages.maps_sound;
          maps = has.stages.maps ∙ ap (stage.fds_written s.descriptors) has.stages.types;
          resolution = has.stages.resolution;
          externs_sound = has.stages.externs_sound;
          externs = has.stages.calls ∙ has.stages.externs;
          written = written;
          calls = links;
        }

        pub has_outcomes : (after : Object) → LinksPrograms s.calls d after → (records : List RecordOutcome) → AreOutcomes s.target o records → (maps : List LinkMap) → AreLinkMapsIf s.calls d maps
            → HasOutcomes s asked lines o (record { object = after; records = records; maps = rows.maps; externs = rows.externs; link_maps = maps })
        has_outcomes after links records are maps mapped =
            record { stages = whole after links; records = are; slots = outcomes_leave_slots s.target o a types; maps = has.maps; externs = has.externs; link_maps = mapped }
