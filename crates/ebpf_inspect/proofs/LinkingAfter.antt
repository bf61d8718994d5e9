-- An object that is prepared without linking its programs, and then linked.
use Rattle.std.proofs.Common.{◌≡◌, ◌∙◌, ℕ, true, false, List, None, Option, Some, sym, subst}
use Rattle.ebpf_inspect.specs.Inspected.{with_linking, AreReports, AreReportsOf, IsInspected}
use Rattle.ebpf_inspect.specs.Named.{WithLinked}
use Rattle.ebpf_inspect.specs.declared.report.ProgramReport.{ProgramReport}
use Rattle.ebpf_ksyms.specs.Sources.{Source}
use Rattle.ebpf_object.proofs.Headline.{finished}
use Rattle.ebpf_object.proofs.Staging.{other_fault, refused_as}
use Rattle.ebpf_object.specs.LinkedPrograms.{programs_in_order}
use Rattle.ebpf_object.specs.Objects.{object_as, parse_fault_as}
use Rattle.ebpf_object.specs.Prepared.{IsStageFault, IsParsed, IsPrepared, Stages, RefusesPreparing, NamesNothing, is_prepare_memory}
use Rattle.ebpf_object.specs.Stages.{Wrapped, LinksPrograms, LinkingFault, Chosen, unwritten_fault}
use Rattle.ebpf_object.specs.declared.object.Object.{Object}
use Rattle.ebpf_object.specs.declared.prepare_error.PrepareError.{PrepareError}
use Rattle.ebpf_object.specs.declared.prepare_error.PrepareError.TheVariants.{Parse, Types, Maps, Ksyms, Externs, Calls, OutOfMemory, MissingDescriptor, UnknownMap, UnwrittenExtern}
use Rattle.ebpf_parts.specs.declared.parse_mode.ParseMode.{ParseMode}

no_name : (name : List ℕ) → ◌≡◌ {A = Option (List ℕ)} None (Some name) → ⊥
no_name name is = cc

module _ (s : Chosen) (lines : Source) where
  abbrev pub alone : Chosen
  alone = record s { calls = false }

  -- a fault before linking
  pub same_fault : (o : Object) (e : PrepareError) → IsStageFault alone lines o e → IsStageFault (with_linking s) lines o e
  same_fault o (Parse e) f = elim f [ ]
  same_fault o (Types e) f = f
  same_fault o (Maps e) f = f
  same_fault o (Ksyms e) f = f
  same_fault o (Externs e) f = f
  same_fault o (Calls e) f = absurd f.1.fault.1
  same_fault o OutOfMemory f = elim f [ ]
  same_fault o (MissingDescriptor name) f = f
  same_fault o (UnknownMap name) f = f
  same_fault o (UnwrittenExtern name) f = absurd (no_name name f.1.fault)

  pub refused_before : (o : Object) (e : PrepareError) → RefusesPreparing (IsStageFault alone lines o) e → RefusesPreparing (IsStageFault (with_linking s) lines o) e
  refused_before o e refused = other_fault (is_prepare_memory e) (NamesNothing e) (IsStageFault alone lines o e) (IsStageFault (with_linking s) lines o e) (same_fault o e) refused

  module _ (o d : Object) (stages : Stages alone lines o d) where
    -- a call of an extern that is not written
    pub unwritten : (e : PrepareError) → RefusesPreparing (Wrapped UnwrittenExtern (λ name. unwritten_fault true s.complete d ≡ Some name)) e → RefusesPreparing (IsStageFault (with_linking s) lines o) e
    unwritten e refused =
        refused_as UnwrittenExtern (λ name. unwritten_fault true s.complete d ≡ Some name) (IsStageFault (with_linking s) lines o)
        (λ own fault. (stages.given, record { before = d; stages = stages; fault = fault })) e refused

  module _ (o d : Object) (stages : Stages alone lines o d) (written : unwritten_fault true s.complete d ≡ None) where
    -- a refusal of linking
    pub unlinked : (e : PrepareError) → RefusesPreparing (Wrapped Calls (LinkingFault true d)) e → RefusesPreparing (IsStageFault (with_linking s) lines o) e
    unlinked e refused = refused_as Calls (LinkingFault true d) (IsStageFault (with_linking s) lines o) (λ own fault. (stages.given, record { before = d; stages = stages; fault = (written, fault) })) e refused

    abbrev is_linked : (linked : Object) → LinksPrograms true d linked → Stages (with_linking s) lines o linked
    is_linked linked links = record {
      relocated = stages.relocated;
      fds_written = stages.fds_written;
      resolved = stages.resolved;
      unlinked = d;
      given = stages.given;
      types = stages.types;
      maps_sound = stages.maps_sound;
      maps = stages.maps;
      resolution = stages.resolution;
      externs_sound = stages.externs_sound;
      externs = stages.calls ∙ stages.externs;
      written = written;
      calls = links;
    }

    pub reported : (rs : List ProgramReport) → WithLinked d rs → AreReportsOf s lines o rs
    reported rs (linked, links, each) =
        record {
          linked = linked;
          stages = is_linked linked links;
          each = subst (λ (x : Object). AreReports d linked (programs_in_order x.programs) rs) (sym links.1) each;
        }

  -- of a file
  module _ (mode : ParseMode) (bytes : List ℕ) (rs : List ProgramReport) where
    inspected_parsed : parse_fault_as mode bytes ≡ None → AreReportsOf s lines (object_as mode bytes) rs → IsInspected s lines mode bytes rs
    inspected_parsed sound of =
        let whole : IsPrepared (with_linking s) lines mode bytes of.linked = record { sound = sound; stages = of.stages } in
        record {
          linked = of.linked;
          headline = record { prepared = whole; finished = finished (with_linking s) lines mode bytes of.linked whole };
          each = of.each;
        }

    pub inspected : (o : Object) → IsParsed mode bytes o → AreReportsOf s lines o rs → IsInspected s lines mode bytes rs
    inspected o parsed of = inspected_parsed parsed.sound (subst (λ (x : Object). AreReportsOf s lines x rs) parsed.is of)
