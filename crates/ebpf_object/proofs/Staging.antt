-- The stages of preparing an object, put together.
use Rattle.std.proofs.Common.{◌≡◌, ℕ, Bool, true, false, List, Some, None, refl, subst, sym, ap, ◌∙◌, ◌+◌, ◌<◌, [], ◌∷◌, ◌++◌, map, length, drop, Bor}
use Rattle.std.specs.Prelude.{MatchBool, Result, Ok, Err, OnOk, IfOk, IfErr, IsErrAnd, ℤ, slice_index_or, slice_get, option_map, Option}
use Rattle.std.proofs.lemmas.List.{append_assoc, map-append}
use Rattle.std.specs.FinMap.{FinMap, entries, get}
use Rattle.std.specs.List.{cons_option}
use Rattle.std.specs.String.{string_bytes}
use Rattle.std.specs.declared.string.String.{String}
use Rattle.ebpf_base.proofs.Lists.{rest_more}
use Rattle.ebpf_base.specs.Faults.{or_else}
use Rattle.ebpf_base.specs.Maps.{by_bytes, lent_bytes, text_cmp}
use Rattle.ebpf_ksyms.proofs.Resolving.{all_found}
use Rattle.ebpf_ksyms.specs.Sources.{Source}
use Rattle.ebpf_object.specs.Objects.{object_as, parse_fault_as}
use Rattle.ebpf_object.specs.Prepared.{Stages, before_calls, before_externs, before_resolution, before_maps, IsStageFault, IsFirstPrepareFault, IsPrepared, IsParsed, RefusesPreparing, NamesNothing, is_prepare_memory}
use Rattle.ebpf_object.specs.PrivateContracts.{AreEntriesOf}
use Rattle.ebpf_object.specs.Stages.{Wrapped, given_fault, unwritten_fault, unknown_maps, maps_without_descriptors, Descriptor, RelocatesTypes, TypesFault, fds_written, fds_fault, Resolves, ResolvingFault, with_externs_if, externs_fault_if, LinksPrograms, LinkingFault, Chosen, own_maps, descriptor_of, following, numbered_descriptors}
use Rattle.ebpf_object.specs.UnchangedFields.{KeepsOthers}
use Rattle.ebpf_object.specs.declared.object.Object.{Object}
use Rattle.ebpf_object.specs.declared.prepare_error.PrepareError.{PrepareError}
use Rattle.ebpf_object.specs.declared.prepare_error.PrepareError.TheVariants.{Parse, Types, Maps, Ksyms, Externs, Calls, OutOfMemory, MissingDescriptor, UnknownMap, UnwrittenExtern}
use Rattle.ebpf_parts.specs.declared.maps.either.Map.{Map}
use Rattle.ebpf_parts.specs.declared.parse_mode.ParseMode.{ParseMode}
use Rattle.ebpf_reloc.specs.Maps.{GivenMap, LentMap, given_map}
use Rattle.ebpf_reloc.specs.declared.named_slots.NamedSlot.{NamedSlot}

-- what follows of an answer
module _ {U E : Type 0} where
  pub of_ok : {A B : Type 0} (r : Result U E) → (A → B) → OnOk r A → OnOk r B
  of_ok (Ok u) to a = to a
  of_ok (Err e) to a = a

  pub of_error : {P Q : E → Type 0} (r : Result U E) → ((e : E) → P e → Q e) → IfErr r P → IfErr r Q
  of_error (Ok u) to p = p
  of_error (Err e) to p = to e p

  pub of_prepared : {P Q : U → Type 0} (r : Result U E) → ((u : U) → P u → Q u) → IfOk r P → IfOk r Q
  of_prepared (Ok u) to p = to u p
  of_prepared (Err e) to p = p

  -- a refusal that is handed on
  pub passed_on : (Q : E → Type 0) (r : Result U E) (e : E) → IsErrAnd r (λ f. f ≡ e) → Q e → IfErr r Q
  passed_on Q (Ok u) e is q = absurd is
  passed_on Q (Err f) e is q = subst Q (sym is) q

-- ---- refusals

-- a refusal by one account is one by another that holds where it does
pub other_fault : (b : Bool) (N F G : Type 0) → (F → G) → MatchBool b N F → MatchBool b N G
other_fault true N F G to m = m
other_fault false N F G to m = to m

module _ {E : Type 0} (variant : E → PrepareError) (Own : E → Type 0) where
  -- a stage's own refusal
  pub wrapped : (b : Bool) (N : Type 0) (e : E) → MatchBool b N (Own e) → MatchBool b N (Wrapped variant Own (variant e))
  wrapped b N e r = other_fault b N (Own e) (Wrapped variant Own (variant e)) (λ fault. (e, refl, fault)) r

  pub refused_as : (Fault : PrepareError → Type 0) → ((own : E) → Own own → Fault (variant own)) → (e : PrepareError) → RefusesPreparing (Wrapped variant Own) e → RefusesPreparing Fault e
  refused_as Fault to e r =
      other_fault (is_prepare_memory e) (NamesNothing e) (Wrapped variant Own e) (Fault e) (λ own. subst Fault (sym own.1) (to own.0 own.2)) r

-- ---- descriptors that aren't complete

-- their errors
abbrev IsOfDescriptors : PrepareError → Type 0
IsOfDescriptors (MissingDescriptor name) = Unit {0}
IsOfDescriptors (UnknownMap name) = Unit {0}
IsOfDescriptors _ = ⊥

same_error : (d e : PrepareError) → Some d ≡ Some e → d ≡ e
same_error d e is = cc

no_error : (e : PrepareError) → ◌≡◌ {A = Option PrepareError} None (Some e) → ⊥
no_error e is = cc

of_first : (name : Option (List ℕ)) (slot : Option NamedSlot) (e : PrepareError)
    → or_else (option_map UnknownMap name) (option_map (λ s. MissingDescriptor s.name) slot) ≡ Some e → IsOfDescriptors e
of_first (Some name) slot e is = subst IsOfDescriptors (same_error (UnknownMap name) e is) tt
of_first None (Some slot) e is = subst IsOfDescriptors (same_error (MissingDescriptor slot.name) e is) tt
of_first None None e is = absurd (no_error e is)

of_descriptors : (descriptors : Option (List Descriptor)) (complete : Bool) (o : Object) (e : PrepareError)
    → given_fault descriptors complete o ≡ Some e → IsOfDescriptors e
of_descriptors None complete o e is = absurd (no_error e is)
of_descriptors (Some ds) false o e is = absurd (no_error e is)
of_descriptors (Some ds) true o e is = of_first (slice_get (unknown_maps o ds) 0) (slice_get (maps_without_descriptors o ds) 0) e is

-- ---- the stages one after the other

module _ (steps : Chosen) (lines : Source) (o : Object) where
  own_error : (e : PrepareError) → given_fault steps.descriptors steps.complete o ≡ Some e → IsOfDescriptors e
  own_error e f = of_descriptors steps.descriptors steps.complete o e f

  stated : (e : PrepareError) → given_fault steps.descriptors steps.complete o ≡ Some e → IsStageFault steps lines o e
  stated (Parse e) f = own_error (Parse e) f
  stated (Types e) f = absurd (own_error (Types e) f)
  stated (Maps e) f = absurd (own_error (Maps e) f)
  stated (Ksyms e) f = absurd (own_error (Ksyms e) f)
  stated (Externs e) f = absurd (own_error (Externs e) f)
  stated (Calls e) f = absurd (own_error (Calls e) f)
  stated OutOfMemory f = own_error OutOfMemory f
  stated (MissingDescriptor name) f = f
  stated (UnknownMap name) f = f
  stated (UnwrittenExtern name) f = absurd (own_error (UnwrittenExtern name) f)

  pub descriptors_refused : (e : PrepareError) → RefusesPreparing (λ e. given_fault steps.descriptors steps.complete o ≡ Some e) e → RefusesPreparing (IsStageFault steps lines o) e
  descriptors_refused e r = other_fault (is_prepare_memory e) (NamesNothing e) (given_fault steps.descriptors steps.complete o ≡ Some e) (IsStageFault steps lines o e) (stated e) r

module _ (steps : Chosen) (lines : Source) (o : Object) (given : given_fault steps.descriptors steps.complete o ≡ None) where
  pub relocating_refused : (e : PrepareError) → RefusesPreparing (Wrapped Types (TypesFault steps.target o)) e → RefusesPreparing (IsStageFault steps lines o) e
  relocating_refused e r = refused_as Types (TypesFault steps.target o) (IsStageFault steps lines o) (λ own fault. (given, fault)) e r

  module _ (a : Object) (types : RelocatesTypes steps.target o a) where
    after_types : Stages (before_maps steps) lines o a
    after_types = record {
      relocated = a;
      fds_written = a;
      resolved = a;
      unlinked = a;
      given = refl;
      types = types;
      maps_sound = refl;
      maps = refl;
      resolution = refl;
      externs_sound = refl;
      externs = refl;
      written = refl;
      calls = refl;
    }

    pub fds_refused : (e : PrepareError) → RefusesPreparing (Wrapped Maps (λ d. fds_fault steps.descriptors a ≡ Some d)) e → RefusesPreparing (IsStageFault steps lines o) e
    fds_refused e r =
        refused_as Maps (λ d. fds_fault steps.descriptors a ≡ Some d) (IsStageFault steps lines o) (λ own fault. (given, record { before = a; stages = after_types; fault = fault })) e r

    module _ (maps_sound : fds_fault steps.descriptors a ≡ None) (b : Object) (maps : b ≡ fds_written steps.descriptors a) where
      after_maps : Stages (before_resolution steps) lines o b
      after_maps = record {
        relocated = a;
        fds_written = b;
        resolved = b;
        unlinked = b;
        given = given;
        types = types;
        maps_sound = maps_sound;
        maps = maps;
        resolution = refl;
        externs_sound = refl;
        externs = refl;
        written = refl;
        calls = refl;
      }

      pub resolving_refused : (e : PrepareError) → RefusesPreparing (Wrapped Ksyms (ResolvingFault steps.kernel lines b)) e → RefusesPreparing (IsStageFault steps lines o) e
      resolving_refused e r =
          refused_as Ksyms (ResolvingFault steps.kernel lines b) (IsStageFault steps lines o) (λ own fault. (given, record { before = b; stages = after_maps; fault = fault })) e r

      module _ (c : Object) (resolution : Resolves steps.kernel lines b c) where
        after_resolution : Stages (before_externs steps) lines o c
        after_resolution = record {
          relocated = a;
          fds_written = b;
          resolved = c;
          unlinked = c;
          given = given;
          types = types;
          maps_sound = maps_sound;
          maps = maps;
          resolution = resolution;
          externs_sound = refl;
          externs = refl;
          written = refl;
          calls = refl;
        }

        pub writing_externs_refused : (e : PrepareError) → RefusesPreparing (Wrapped Externs (λ d. externs_fault_if steps.externs c ≡ Some d)) e → RefusesPreparing (IsStageFault steps lines o) e
        writing_externs_refused e r =
            refused_as Externs (λ d. externs_fault_if steps.externs c ≡ Some d) (IsStageFault steps lines o) (λ own fault. (given, record { before = c; stages = after_resolution; fault = fault })) e r

        module _ (externs_sound : externs_fault_if steps.externs c ≡ None) (d : Object) (externs : d ≡ with_externs_if steps.externs c) where
          after_externs : Stages (before_calls steps) lines o d
          after_externs = record {
            relocated = a;
            fds_written = b;
            resolved = c;
            unlinked = d;
            given = given;
            types = types;
            maps_sound = maps_sound;
            maps = maps;
            resolution = resolution;
            externs_sound = externs_sound;
            externs = externs;
            written = refl;
            calls = refl;
          }

          pub externs_refused : (e : PrepareError) → RefusesPreparing (Wrapped UnwrittenExtern (λ name. unwritten_fault steps.calls steps.complete d ≡ Some name)) e → RefusesPreparing (IsStageFault steps lines o) e
          externs_refused e r =
              refused_as UnwrittenExtern (λ name. unwritten_fault steps.calls steps.complete d ≡ Some name) (IsStageFault steps lines o)
              (λ own fault. (given, record { before = d; stages = after_externs; fault = fault })) e r

          module _ (written : unwritten_fault steps.calls steps.complete d ≡ None) where
            pub linking_refused : (e : PrepareError) → RefusesPreparing (Wrapped Calls (LinkingFault steps.calls d)) e → RefusesPreparing (IsStageFault steps lines o) e
            linking_refused e r =
                refused_as Calls (LinkingFault steps.calls d) (IsStageFault steps lines o)
                (λ own fault. (given, record { before = d; stages = after_externs; fault = (written, fault) })) e r

            pub after_calls : (after : Object) → LinksPrograms steps.calls d after → Stages steps lines o after
            after_calls after calls = record {
              relocated = a;
              fds_written = b;
              resolved = c;
              unlinked = d;
              given = given;
              types = types;
              maps_sound = maps_sound;
              maps = maps;
              resolution = resolution;
              externs_sound = externs_sound;
              externs = externs;
              written = written;
              calls = calls;
            }

-- ---- with parsing before the stages

first_of : (steps : Chosen) (lines : Source) (mode : ParseMode) (bytes : List ℕ) → parse_fault_as mode bytes ≡ None → (e : PrepareError) → IsStageFault steps lines (object_as mode bytes) e → IsFirstPrepareFault steps lines mode bytes e
first_of steps lines mode bytes sound (Parse e) f = elim f [ ]
first_of steps lines mode bytes sound (Types e) f = (sound, f)
first_of steps lines mode bytes sound (Maps e) f = (sound, f)
first_of steps lines mode bytes sound (Ksyms e) f = (sound, f)
first_of steps lines mode bytes sound (Externs e) f = (sound, f)
first_of steps lines mode bytes sound (Calls e) f = (sound, f)
first_of steps lines mode bytes sound OutOfMemory f = elim f [ ]
first_of steps lines mode bytes sound (MissingDescriptor name) f = (sound, f)
first_of steps lines mode bytes sound (UnknownMap name) f = (sound, f)
first_of steps lines mode bytes sound (UnwrittenExtern name) f = (sound, f)

-- of an object as the bytes of a file are parsed

pub parsed : (mode : ParseMode) (bytes : List ℕ) (o : Object) → o ≡ object_as mode bytes → parse_fault_as mode bytes ≡ None → IsParsed mode bytes o
parsed mode bytes o is sound = record { sound = sound; is = is }

module _ (steps : Chosen) (lines : Source) (mode : ParseMode) (bytes : List ℕ) (o : Object) (from : IsParsed mode bytes o) where
  pub prepared_file : (after : Object) → Stages steps lines o after → IsPrepared steps lines mode bytes after
  prepared_file after stages = record { sound = from.sound; stages = subst (λ (x : Object). Stages steps lines x after) from.is stages }

  pub file_refused : (e : PrepareError) → RefusesPreparing (IsStageFault steps lines o) e → RefusesPreparing (IsFirstPrepareFault steps lines mode bytes) e
  file_refused e r =
      other_fault (is_prepare_memory e) (NamesNothing e) (IsStageFault steps lines (object_as mode bytes) e) (IsFirstPrepareFault steps lines mode bytes e) (first_of steps lines mode bytes from.sound e)
      (subst (λ (x : Object). RefusesPreparing (IsStageFault steps lines x) e) from.is r)

-- ---- what stays of an object over two and more passes that change no more than its functions and its externs

pub kept_twice : (o a b : Object) → KeepsOthers o a → KeepsOthers a b → KeepsOthers o b
kept_twice o a b first second = second ∙ ap (λ (x : Object). record x { functions = b.functions; externs = b.externs }) first

pub kept_thrice : (o a b d : Object) → KeepsOthers o a → KeepsOthers a b → KeepsOthers b d → KeepsOthers o d
kept_thrice o a b d first second third = kept_twice o b d (kept_twice o a b first second) third

pub kept_four_times : (o a b d e : Object) → KeepsOthers o a → KeepsOthers a b → KeepsOthers b d → KeepsOthers d e → KeepsOthers o e
kept_four_times o a b d e first second third fourth = kept_twice o d e (kept_thrice o a b d first second third) fourth

-- ---- maps that are listed with their descriptors, one after the other

-- the entries of some maps, by the bytes of their names
pub are_entries : {Y : Type 0} (maps : FinMap text_cmp Map) (es : List (String Y × Map)) → by_bytes es ≡ entries maps → AreEntriesOf maps (by_bytes es)
are_entries maps es all = subst (AreEntriesOf maps) (sym all) (all_found maps)

-- the first of the entries ahead, and those after it
module _ {Y : Type 0} (maps : FinMap text_cmp Map) (before after : List (String Y × Map)) (e : String Y × Map) (own : AreEntriesOf maps (by_bytes before)) (first : before ≡ e ∷ after) where
  both_ahead : (get maps (string_bytes e.0) ≡ Some e.1) × AreEntriesOf maps (by_bytes after)
  both_ahead = subst (λ es. AreEntriesOf maps (by_bytes es)) first own

  pub first_ahead : get maps (string_bytes e.0) ≡ Some e.1
  first_ahead = both_ahead.0

  pub others_ahead : AreEntriesOf maps (by_bytes after)
  others_ahead = both_ahead.1

module _ (maps : FinMap text_cmp Map) where
  abbrev listed : List (Bor (List ℕ) × ℤ) → List GivenMap
  listed ds = own_maps maps (map descriptor_of ds)

  -- a map that is there, and those of the names that are left
  pub one_listed : (own : List LentMap) (ds : List (Bor (List ℕ) × ℤ)) (i : ℕ) (d : Bor (List ℕ) × ℤ) (m : Bor Map)
      → i < length ds → d ≡ slice_index_or ds i d → get maps d.0.now ≡ Some m.now
      → map given_map (own ++ (d.0, d.1, m) ∷ []) ++ own_maps maps (map descriptor_of (drop (i + 1) ds)) ≡ map given_map own ++ own_maps maps (map descriptor_of (drop i ds))
  one_listed own ds i d m below here there =
      ap (λ front. front ++ listed (drop (i + 1) ds)) (map-append given_map own ((d.0, d.1, m) ∷ []))
      ∙ append_assoc (map given_map own) ((d.1, m.now) ∷ []) (listed (drop (i + 1) ds))
      ∙ ap (λ rest. map given_map own ++ rest) (sym (ap listed (rest_more ds i d below here) ∙ ap (λ found. cons_option (option_map (λ f. (d.1, f)) found) (listed (drop (i + 1) ds))) there))

  -- a name that stands for no map
  pub none_listed : (ds : List (Bor (List ℕ) × ℤ)) (i : ℕ) (d : Bor (List ℕ) × ℤ)
      → i < length ds → d ≡ slice_index_or ds i d → get maps d.0.now ≡ None
      → own_maps maps (map descriptor_of (drop (i + 1) ds)) ≡ own_maps maps (map descriptor_of (drop i ds))
  none_listed ds i d below here absent =
      sym (ap listed (rest_more ds i d below here) ∙ ap (λ found. cons_option (option_map (λ f. (d.1, f)) found) (listed (drop (i + 1) ds))) absent)

-- ---- names with descriptors that count on, one after the other

pub one_with_descriptor : (before : List (Bor (List ℕ) × ℤ)) (lent : Bor (List ℕ)) (d e : ℤ) (names : List (List ℕ)) (i : ℕ) (name : List ℕ)
    → i < length names → name ≡ slice_index_or names i name → lent.now ≡ name → e ≡ following d
    → map descriptor_of (before ++ (lent, e) ∷ []) ++ numbered_descriptors e (drop (i + 1) names) ≡ map descriptor_of before ++ numbered_descriptors d (drop i names)
one_with_descriptor before lent d e names i name below here same is =
    ap (λ front. front ++ numbered_descriptors e (drop (i + 1) names)) (map-append descriptor_of before ((lent, e) ∷ []))
    ∙ append_assoc (map descriptor_of before) ((lent.now, e) ∷ []) (numbered_descriptors e (drop (i + 1) names))
    ∙ ap (λ n. map descriptor_of before ++ (n, e) ∷ numbered_descriptors e (drop (i + 1) names)) same
    ∙ ap (λ n. map descriptor_of before ++ (name, n) ∷ numbered_descriptors n (drop (i + 1) names)) is
    ∙ ap (λ rest. map descriptor_of before ++ numbered_descriptors d rest) (sym (rest_more names i name below here))

-- one more name is copied
pub one_copied : (before : List (List ℕ)) (copy : List ℕ) (names : List (Bor (List ℕ))) (i : ℕ) (name : Bor (List ℕ))
    → i < length names → name ≡ slice_index_or names i name → copy ≡ name.now
    → (before ++ copy ∷ []) ++ lent_bytes (drop (i + 1) names) ≡ before ++ lent_bytes (drop i names)
one_copied before copy names i name below here same =
    append_assoc before (copy ∷ []) (lent_bytes (drop (i + 1) names))
    ∙ ap (λ n. before ++ n ∷ lent_bytes (drop (i + 1) names)) same
    ∙ ap (λ rest. before ++ lent_bytes rest) (sym (rest_more names i name below here))
