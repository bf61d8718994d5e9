-- What the passes make of an object, from what each leaves.
use Rattle.std.proofs.Common.{◌≡◌, ℕ, Bool, true, false, cond, ◌||◌, List, [], ◌∷◌, map, Option, Some, None, refl, sym, ap, ◌∙◌, subst}
use Rattle.std.proofs.lemmas.Option.{none-some}
use Rattle.std.proofs.lemmas.Bool.{MatchBool-at_true, MatchBool-at_false}
use Rattle.std.specs.Prelude.{MatchBool, Ok, option_map, if◌then◌else◌, slice_get, unwrap_or}
use Rattle.std.specs.Cmp.{eq_by_cmp_equiv}
use Rattle.std.specs.FinMap.{FinMap, get, entries, find, get-entries}
use Rattle.std.specs.List.{list_any}
use Rattle.std.specs.Ordering.{eq_by_cmp}
use Rattle.ebpf_base.specs.Maps.{text_cmp, key_cmp, key_total}
use Rattle.ebpf_btf_ext.specs.ExtReading.{ExtInfo}
use Rattle.ebpf_btf.specs.TypeInfo.{TypeInfo}
use Rattle.ebpf_core_relo.proofs.RecordRuns.{put_slots_stand, records_alone_are_carried}
use Rattle.ebpf_core_relo.specs.RecordOutcomes.{Touches, Carries}
use Rattle.ebpf_core_relo.specs.Records.{Written, own_slots, slots_so_far, slots_written, with_slots}
use Rattle.ebpf_ksyms.specs.Sources.{Source}
use Rattle.ebpf_linker.specs.Functions.{or_empty}
use Rattle.ebpf_object.specs.WrittenSlots.{AreRelocatedToTypes, relocated_slots_by, with_externs}
use Rattle.ebpf_object.specs.Chain.{Chain, Links, with_descriptors}
use Rattle.ebpf_object.specs.Headline.{key_of_program, ProgramsAreWhole, slot_in, record_inputs_of, IsCopiedTo, StandsAt, RecordsAreCarried, IsFinished, PassesFinish, passes_of, Headline}
use Rattle.ebpf_object.specs.LinkedPrograms.{program_value, linkable_of, programs_in_order, is_program_key}
use Rattle.ebpf_object.specs.Objects.{object_as}
use Rattle.ebpf_object.specs.Prepared.{IsPrepared, Stages}
use Rattle.ebpf_object.specs.Stages.{RelocatesTypes, LinksPrograms, Resolves, fds_written, with_externs_if, own_maps, Chosen, Descriptor}
use Rattle.ebpf_object.specs.Names.{has_function_in}
use Rattle.ebpf_object.specs.declared.object.Object.{Object}
use Rattle.ebpf_model.specs.declared.function.Program.{Program}
use Rattle.ebpf_parts.specs.declared.insn.bpf_insn.{bpf_insn}
use Rattle.ebpf_reloc.proofs.OneResult.{copied_slots_stay}
use Rattle.ebpf_reloc.specs.Linking as linking
use Rattle.ebpf_reloc.specs.Linking.{ProgramValue}
use Rattle.ebpf_model.specs.Symbols.{TextSections, FunctionKey}
use Rattle.ebpf_reloc.specs.References.{content_of}
use Rattle.ebpf_model.specs.declared.function.Function.{Function}
use Rattle.ebpf_parts.specs.declared.parse_mode.ParseMode.{ParseMode}

-- ---- programs

-- a program of a table has its key among those of all programs
module _ (program : Program) where
  abbrev key_among : List (List ℕ × Program) → Bool
  key_among es = list_any (λ (p : ProgramValue). eq_by_cmp key_cmp (key_of_program program) (linking.key_of p)) (map (λ e. program_value e.0 e.1) es)

  or_true : (c more : Bool) → more ≡ true → (c || more) ≡ true
  or_true true more is = refl
  or_true false more is = is

  any_by : (b c more : Bool) → (b ≡ true → c ≡ true) → (b ≡ false → more ≡ true) → (c || more) ≡ true
  any_by true c more here later = ap (λ (x : Bool). x || more) (here refl)
  any_by false c more here later = or_true c more (later refl)

  first_found : (b : Bool) (first : Program) (rest : Option Program) → b ≡ true → cond b (Some first) rest ≡ Some program → program ≡ first
  first_found true first rest same is = sym (ap (λ (o : Option Program). unwrap_or o first) is)
  first_found false first rest same is = cc

  later_found : (b : Bool) (first : Program) (rest : Option Program) → b ≡ false → cond b (Some first) rest ≡ Some program → rest ≡ Some program
  later_found true first rest other is = cc
  later_found false first rest other is = is

  same_key : (other : Program) → program ≡ other → eq_by_cmp key_cmp (key_of_program program) (key_of_program other) ≡ true
  same_key other is = ap (λ (p : Program). eq_by_cmp key_cmp (key_of_program program) (key_of_program p)) (sym is) ∙ (eq_by_cmp_equiv key_total).refl (key_of_program program)

  found_among : (es : List (List ℕ × Program)) (name : List ℕ) → find text_cmp name es ≡ Some program → key_among es ≡ true
  found_among [] name is = absurd (none-some program is)
  found_among (e ∷ es) name is =
      any_by (eq_by_cmp text_cmp name e.0) (eq_by_cmp key_cmp (key_of_program program) (key_of_program e.1)) (key_among es)
      (λ same. same_key e.1 (first_found (eq_by_cmp text_cmp name e.0) e.1 (find text_cmp name es) same is))
      (λ other. found_among es name (later_found (eq_by_cmp text_cmp name e.0) e.1 (find text_cmp name es) other is))

  program_key : (programs : FinMap text_cmp Program) (name : List ℕ) → get programs name ≡ Some program → is_program_key (programs_in_order programs) (key_of_program program) ≡ true
  program_key programs name is = found_among (entries programs) name (sym (get-entries programs name) ∙ is)

whole_programs : (text_sections : TextSections) (d o : Object) → Links (Some text_sections) d o → ProgramsAreWhole (linkable_of d text_sections) o
whole_programs text_sections d o links name program is =
    let same : get d.programs name ≡ Some program = sym (ap (λ (x : Object). get x.programs name) links.1) ∙ is in
    MatchBool-at_true _ _ (program_key program d.programs name same) (links.0 (key_of_program program))

whole_by : (calls : Option TextSections) (text_sections : TextSections) (d o : Object) → calls ≡ Some text_sections → Links calls d o → ProgramsAreWhole (linkable_of d text_sections) o
whole_by calls text_sections d o is links = whole_programs text_sections d o (subst (λ (c : Option TextSections). Links c d o) is links)

-- ---- types

module _ (parsed : Object) (target local : TypeInfo) (ext : ExtInfo) where
  -- the slots that the records of an object with types write
  written_by : (btf : Option TypeInfo) (btf_ext : Option ExtInfo) (slots : Written) → btf ≡ Some local → btf_ext ≡ Some ext
      → relocated_slots_by parsed target btf btf_ext ≡ Ok slots → slots_written (record_inputs_of parsed local target) ext.relocations ≡ Ok slots
  written_by btf btf_ext slots has says is = sym (λ i. relocated_slots_by parsed target (has i) (says i)) ∙ is

own_body : (f : Option Function) → (or_empty (option_map content_of f)).slots ≡ own_slots f
own_body None = refl
own_body (Some f) = refl

-- a slot that linking leaves as it is stands in the finished object as it was
module _ (unlinked o : Object) (key : FunctionKey) (i : ℕ) (carrying : bpf_insn) (is : slot_in unlinked key i ≡ Some carrying) (at : FunctionKey) (place : ℕ) where
  in_place : get o.functions at ≡ get unlinked.functions at → (at ≡ key) × (place ≡ i) → slot_in o at place ≡ Some carrying
  in_place stays own =
      ap (λ (f : Option Function). slice_get (own_slots f) place) stays
      ∙ ap (λ (k : FunctionKey). slot_in unlinked k place) own.0
      ∙ ap (λ (p : ℕ). slot_in unlinked key p) own.1
      ∙ is

  in_copy : (text_sections : TextSections) → IsCopiedTo text_sections unlinked o key i at place → slot_in o at place ≡ Some carrying
  in_copy text_sections c =
      ap (λ (f : Option Function). slice_get (own_slots f) place) c.there
      ∙ ap (λ (p : ℕ). slice_get c.linked.instructions p) c.here
      ∙ copied_slots_stay (linkable_of unlinked text_sections) at c.linked c.is key c.base i carrying c.begins
      (ap (λ (xs : List bpf_insn). slice_get xs i) (own_body (get unlinked.functions key)) ∙ is, c.kept)

  by_program : (text_sections : TextSections) → Links (Some text_sections) unlinked o → (b : Bool) → is_program_key (programs_in_order unlinked.programs) at ≡ b
      → MatchBool b (IsCopiedTo text_sections unlinked o key i at place) ((at ≡ key) × (place ≡ i)) → slot_in o at place ≡ Some carrying
  by_program text_sections links true e copied = in_copy text_sections copied
  by_program text_sections links false e own = in_place (MatchBool-at_false _ _ e (links.0 at)) own

  finished_slot : (calls : Option TextSections) → Links calls unlinked o → StandsAt calls unlinked o key i at place → slot_in o at place ≡ Some carrying
  finished_slot None links own = in_place (ap (λ (x : Object). get x.functions at) links) own
  finished_slot (Some text_sections) links here = by_program text_sections links (is_program_key (programs_in_order unlinked.programs) at) refl here

carried : (parsed relocated unlinked o : Object) (target local : TypeInfo) (ext : ExtInfo) (calls : Option TextSections) (left : Written)
    → slots_written (record_inputs_of parsed local target) ext.relocations ≡ Ok left
    → ((key : FunctionKey) → get relocated.functions key ≡ with_slots (get left key) (get parsed.functions key))
    → Links calls unlinked o
    → RecordsAreCarried (record_inputs_of parsed local target) ext.relocations calls relocated unlinked o
carried parsed relocated unlinked o target local ext calls left are puts links = record {
  left = left;
  written = are;
  each = λ n record_at at alone.
      let c : Carries (record_inputs_of parsed local target) left record_at = records_alone_are_carried (record_inputs_of parsed local target) ext.relocations left are n record_at at alone.among_records in
      let in_relocated : own_slots (get relocated.functions c.key) ≡ slots_so_far parsed.functions left c.key =
      put_slots_stand (record_inputs_of parsed local target) ext.relocations left are relocated.functions puts c.key
      in
      let stands : (i : ℕ) → Touches (record_inputs_of parsed local target) record_at c.key i → slot_in unlinked c.key i ≡ slice_get c.slots i =
      λ i touched. alone.unwritten c.key i touched ∙ ap (λ (xs : List bpf_insn). slice_get xs i) in_relocated ∙ c.stands i touched
      in
      record {
        carries = c;
        finished = λ i carrying touched is at place here. finished_slot unlinked o c.key i carrying (stands i touched ∙ is) at place calls links here;
      };
}

carried_by : (parsed relocated unlinked o : Object) (target local : TypeInfo) (ext : ExtInfo) (calls : Option TextSections) → AreRelocatedToTypes parsed target relocated.functions
    → parsed.btf ≡ Some local → parsed.btf_ext ≡ Some ext → Links calls unlinked o
    → RecordsAreCarried (record_inputs_of parsed local target) ext.relocations calls relocated unlinked o
carried_by parsed relocated unlinked o target local ext calls are has says links =
    carried parsed relocated unlinked o target local ext calls are.slots (written_by parsed target local ext parsed.btf parsed.btf_ext are.slots has says are.written) are.each links

relocates_to : (chosen : Option TypeInfo) (target : TypeInfo) (o a : Object) → chosen ≡ Some target → RelocatesTypes chosen o a → RelocatesTypes (Some target) o a
relocates_to chosen target o a is relocates = subst (λ (t : Option TypeInfo). RelocatesTypes t o a) is relocates

-- ---- a finished object

pub passes_finish : PassesFinish
passes_finish passes parsed o c = record {
  chain = c;
  programs = λ text_sections calls. whole_by passes.calls text_sections c.unlinked o calls c.calls;
  types = λ target local ext chosen has says.
      carried_by parsed c.relocated c.unlinked o target local ext passes.calls (relocates_to passes.target target parsed c.relocated chosen c.types).0 has says c.calls;
}

-- ---- a prepared file

pub fds_written_by : (descriptors : Option (List Descriptor)) (a b : Object) → b ≡ fds_written descriptors a
    → b ≡ with_descriptors (option_map (λ ds. (has_function_in a.functions, own_maps a.maps ds)) descriptors) a
fds_written_by None a b is = is
fds_written_by (Some descriptors) a b is = is

same_externs : (b : Object) → b ≡ record b { externs = b.externs }
same_externs b = refl

pub resolved_by : (kernel : Option (Option TypeInfo)) (lines : Source) (b c : Object) → Resolves kernel lines b c → c ≡ record b { externs = c.externs }
resolved_by None lines b c is = subst (λ (x : Object). x ≡ record b { externs = x.externs }) (sym is) (same_externs b)
resolved_by (Some kernel) lines b c resolves = resolves.1

pub externs_if_by : (written : Bool) (c d : Object) → d ≡ with_externs_if written c → d ≡ (if written then with_externs c else c)
externs_if_by false c d is = is
externs_if_by true c d is = is

pub linked_by : (calls : Bool) (d o : Object) → LinksPrograms calls d o → Links (if calls then Some (has_function_in d.functions) else None) d o
linked_by true d o links = links
linked_by false d o links = links

module _ (steps : Chosen) (lines : Source) (mode : ParseMode) (bytes : List ℕ) (o : Object) (p : IsPrepared steps lines mode bytes o) where
  abbrev s : Stages steps lines (object_as mode bytes) o
  s = p.stages

  chain : Chain (passes_of p) (object_as mode bytes) o
  chain = record {
    relocated = s.relocated;
    fds_written = s.fds_written;
    resolved = s.resolved;
    unlinked = s.unlinked;
    types = s.types;
    maps = fds_written_by steps.descriptors s.relocated s.fds_written s.maps;
    resolution = resolved_by steps.kernel lines s.fds_written s.resolved s.resolution;
    externs = externs_if_by steps.externs s.resolved s.unlinked s.externs;
    calls = linked_by steps.calls s.unlinked o s.calls;
  }

  pub finished : IsFinished (passes_of p) (object_as mode bytes) o
  finished = passes_finish (passes_of p) (object_as mode bytes) o chain

pub headline : (steps : Chosen) (lines : Source) (mode : ParseMode) (bytes : List ℕ) (o : Object) → IsPrepared steps lines mode bytes o → Headline steps lines mode bytes o
headline steps lines mode bytes o p = record { prepared = p; finished = finished steps lines mode bytes o p }
