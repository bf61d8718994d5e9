-- What a program is made of, by its link map or its refusal; and what is told of an object is told of it as it was parsed.
use Rattle.std.proofs.Common.{◌≡◌, inl, inr, List, ℕ, Bool, false, Option, Some, None, refl, subst, true, cond, sym}
use Rattle.std.specs.Prelude.{Result, Ok, Err, ⊤, MatchBool, MatchOption, is_some}
use Rattle.std.specs.FinMap.{get, FinMap}
use Rattle.ebpf_model.specs.Memory.{is_memory_at}
use Rattle.ebpf_model.specs.declared.error.EbpfRelocationError.{EbpfRelocationError}
use Rattle.ebpf_model.specs.declared.function.Program.{Program}
use Rattle.ebpf_object.specs.Headline.{linkable}
use Rattle.ebpf_object.specs.LinkedPrograms.{program_value, MapsProgram}
use Rattle.ebpf_object.specs.declared.object.Object.{Object}
use Rattle.ebpf_reloc.specs.Linking.{IsProgramRefusal}
use Rattle.ebpf_reloc.specs.SlotTargets.{LinkableValue}
use Rattle.ebpf_reloc.specs.declared.link_map.LinkMap.{LinkMap}
use Rattle.cli_common.specs.declared.programs.ObjectProgram.{ObjectProgram}
use Rattle.ebpf_base.specs.Maps.{key_cmp}
use Rattle.ebpf_model.specs.declared.function.Function.{Function}
use Rattle.ebpf_object.specs.WrittenSlots.{with_externs}
use Rattle.cli_list.specs.Listings.{IsLayout, IsOfCopies, IsOfOne, AreObjectLayouts, IsListed, IsListing, IsWanted, WritesExterns, with_known}
use Rattle.cli_list.specs.declared.layout.ListedLayout.{ListedLayout}
use Rattle.cli_list.specs.declared.listing.ObjectListing.{ObjectListing}
use Rattle.cli_list.specs.declared.listing.ObjectContents.{ObjectContents}

-- ---- what a program is made of, by its link map or its refusal.

abbrev pub MapAnswer : Type 0
MapAnswer = Result (Option LinkMap) EbpfRelocationError

-- what is promised of the map of the program of a name
abbrev pub Promised : Object → LinkableValue → List ℕ → MapAnswer → Option Program → Type 0
Promised o parts name r found = MatchOption found (r ≡ Ok None) (λ x. MapsProgram parts (program_value name x) r)

module _ (o : Object) (p : ObjectProgram) (l : ListedLayout) where
  found_map : (found : Option Program) → get o.programs p.name ≡ found → (m : Option LinkMap) → Promised o (linkable o) p.name (Ok m) found
      → MatchOption m (IsOfOne p l) (λ m. IsOfCopies m.copies l) → IsLayout o p l
  found_map None lacks None given made = inr (inr (record { lacks = lacks; own = made }))
  found_map None lacks (Some m) given made = let never : ⊥ = cc in absurd never
  found_map (Some x) stands None given made = absurd given
  found_map (Some x) stands (Some m) given made = inl (record { program = x; stands = stands; link_map = m; mapped = given; copies = made })

  found_refusal : (found : Option Program) → get o.programs p.name ≡ found → (e : EbpfRelocationError) → is_memory_at e ≡ false → Promised o (linkable o) p.name (Err e) found
      → IsOfOne p l → IsLayout o p l
  found_refusal None lacks e own given made = let never : ⊥ = cc in absurd never
  found_refusal (Some x) stands e own given made = inr (inl (record {
    program = x;
    stands = stands;
    error = e;
    refused = subst (λ b. MatchBool b ⊤ (IsProgramRefusal (linkable o) (program_value p.name x) e)) own given;
    own = made;
  }))

  module _ (parts : LinkableValue) (is : parts ≡ linkable o) (name : List ℕ) (named : name ≡ p.name) where
    as_promised : (r : MapAnswer) → Promised o parts name r (get o.programs name) → Promised o (linkable o) p.name r (get o.programs p.name)
    as_promised r given =
        subst (λ (k : List ℕ). Promised o (linkable o) k r (get o.programs k)) named
        (subst (λ (ps : LinkableValue). Promised o ps name r (get o.programs name)) is given)

    pub of_map : (m : Option LinkMap) → Promised o parts name (Ok m) (get o.programs name) → MatchOption m (IsOfOne p l) (λ m. IsOfCopies m.copies l) → IsLayout o p l
    of_map m given made = found_map (get o.programs p.name) refl m (as_promised (Ok m) given) made

    pub of_refusal : (e : EbpfRelocationError) → Promised o parts name (Err e) (get o.programs name) → (is_memory_at e ≡ false) × IsOfOne p l → IsLayout o p l
    of_refusal e given made = found_refusal (get o.programs p.name) refl e made.0 (as_promised (Err e) given) made.1

-- ---- what is told of an object is told of the object as it was parsed.

-- only externs and functions differ
abbrev pub Keeps : Object → Object → Type 0
Keeps before after = after ≡ record before { externs = after.externs; functions = after.functions }

keeps_known : (o : Object) (settings : List (List ℕ)) → Keeps o (with_known o settings)
keeps_known o settings = refl

either_keeps : (o : Object) (settings : List (List ℕ)) (functions : FinMap key_cmp Function) (b : Bool)
    → Keeps o (cond b (record (with_known o settings) { functions = functions }) (with_known o settings))
either_keeps o settings functions true = refl
either_keeps o settings functions false = refl

keeps_written : (o : Object) (settings : List (List ℕ)) → Keeps o (with_externs (with_known o settings))
keeps_written o settings = either_keeps o settings _ (is_some o.btf)

keeps : (o : Object) (settings : List (List ℕ)) (after : Object) (is_written : Bool) → WritesExterns o settings after is_written → Keeps o after
keeps o settings after true is = subst (λ (a : Object). Keeps o a) (sym is) (keeps_written o settings)
keeps o settings after false is = subst (λ (a : Object). Keeps o a) (sym is.0) (keeps_known o settings)

pub listed : (file : List ℕ) (parsed o : Object) (w : ObjectContents) (made : List ListedLayout) (l : ObjectListing) → IsWanted file parsed w → AreObjectLayouts parsed w o made → IsListing o w made l
    → IsListed file parsed l
listed file parsed o w made l wanted layouts is =
    let here : AreObjectLayouts parsed l.wanted.now l.object.now l.layouts.now =
    subst (λ (x : Object). AreObjectLayouts parsed l.wanted.now x l.layouts.now) (sym is.object)
    (subst (λ (x : ObjectContents). AreObjectLayouts parsed x o l.layouts.now) (sym is.wanted)
    (subst (λ (x : List ListedLayout). AreObjectLayouts parsed w o x) (sym is.layouts) layouts))
    in
    let told : IsListing l.object.now l.wanted.now l.layouts.now l =
    subst (λ (x : Object). IsListing x l.wanted.now l.layouts.now l) (sym is.object)
    (subst (λ (x : ObjectContents). IsListing o x l.layouts.now l) (sym is.wanted)
    (subst (λ (x : List ListedLayout). IsListing o w x l) (sym is.layouts) is))
    in
    record {
      object = keeps parsed l.wanted.now.settings l.object.now here.is_written here.written;
      wanted = subst (λ (x : ObjectContents). IsWanted file parsed x) (sym is.wanted) wanted;
      layouts = here;
      listing = told;
    }
