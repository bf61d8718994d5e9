-- The object of a file in both readings.
use Rattle.std.proofs.Common.{◌≡◌, None, ℕ, Bool, true, false, not, ◌&&◌, ◌||◌, cond, List, [], ◌∷◌, map, filter, Option, Some, refl, sym, ap, ◌∙◌, subst}
use Rattle.std.specs.Prelude.{codes, is_some, unwrap_or, if◌then◌else◌}
use Rattle.std.specs.FinMap.{FinMap, get, empty, contains_key, get-empty}
use Rattle.std.specs.Bool.{one_answer}
use Rattle.std.specs.List.{find, flat_map, list_any}
use Rattle.std.specs.Ordering.{eq_by_cmp}
use Rattle.std.specs.Str.{bytes_eq}
use Rattle.std.proofs.Math.Bool.{and-false}
use Rattle.std.proofs.lemmas.Bool.{false≢true}
use Rattle.std.proofs.lemmas.Map.Text.{is_eq-slice_cmp}
use Rattle.std.proofs.lemmas.Slice.Eq.{bytes_eq-Decides}
use Rattle.ebpf_base.proofs.Mapped.{later_text_stands}
use Rattle.ebpf_base.specs.Maps.{put_all, last_at, text_cmp}
use Rattle.ebpf_btf.specs.TypeInfo.{TypeInfo}
use Rattle.ebpf_elf.specs.Names.{is_name}
use Rattle.ebpf_elf.specs.Sections.{SectionOf, sections, section_name}
use Rattle.ebpf_elf.specs.declared.section.SectionIndex.{SectionIndex}
use Rattle.ebpf_object.specs.BothModes.{ObjectsAgree}
use Rattle.ebpf_object.specs.Objects.{object_of}
use Rattle.ebpf_parsing.proofs.Alike as tables
use Rattle.ebpf_parsing.specs.FileContents.{section_infos, name_entries}
use Rattle.ebpf_parsing.specs.FileTypes.{type_info_names, type_names, ext_names, names_in, ext_names_beside, btf_of}
use Rattle.ebpf_parsing.specs.Sections.{is_type_information, section_info_entry, first_section_named}
use Rattle.ebpf_parts.specs.Sections.{name_or_empty, section_of, section_with}

pub modes_agree : ObjectsAgree
modes_agree bytes is own clear =
    let alike = tables.modes_agree bytes is own clear in
    ((λ i. record (object_of bytes) { license = alike.license i; maps = alike.maps i; programs = alike.programs i }), alike.sound)

-- ---- an object has the number of a section `license` exactly where its file has one

abbrev license : List ℕ
license = codes "license"

-- whether this is its name
abbrev is_license : List ℕ → Bool
is_license name = eq_by_cmp text_cmp license name

abbrev names_license : List ℕ × SectionIndex → Bool
names_license e = is_license e.0

-- ---- entries put into a map

one_put : (b : Bool) (v : SectionIndex) (before : Option SectionIndex) (rest : Bool) → (is_some (if b then Some v else before) || rest) ≡ (is_some before || (b || rest))
one_put true v None rest = refl
one_put true v (Some x) rest = refl
one_put false v before rest = refl

or_false : (b : Bool) → b ≡ (b || false)
or_false true = refl
or_false false = refl

there : (before : Option SectionIndex) (es : List (List ℕ × SectionIndex)) → is_some (last_at text_cmp license before es) ≡ (is_some before || list_any names_license es)
there before [] = or_false (is_some before)
there before (e ∷ es) = there (if names_license e then Some e.1 else before) es ∙ one_put (names_license e) e.1 before (list_any names_license es)

put_there : (m : FinMap text_cmp SectionIndex) (es : List (List ℕ × SectionIndex)) → is_some (get (put_all m es) license) ≡ (is_some (get m license) || list_any names_license es)
put_there m es = ap is_some (later_text_stands m es license) ∙ there (get m license) es

-- ---- one section

flipped : (a b : List ℕ) → bytes_eq a b ≡ bytes_eq b a
flipped a b = one_answer (bytes_eq a b) (bytes_eq b a) (bytes_eq-Decides a b) ((λ e. sym ((bytes_eq-Decides b a).0 e)), (λ p. (bytes_eq-Decides b a).1 (sym p)))

is_other : (name : List ℕ) → bytes_eq name license ≡ false → is_license name ≡ false
is_other name differ = is_eq-slice_cmp license name ∙ flipped license name ∙ differ

-- its name is this one where it isn't passed over and the entry's is
one_name : (name : Option (List ℕ)) → is_name license name ≡ (not (is_name (codes ".BTF") name || is_name (codes ".BTF.ext") name) && is_license (unwrap_or name []))
one_name None = refl
one_name (Some name) = known (bytes_eq name license) refl
  where
    known : (b : Bool) → bytes_eq name license ≡ b → bytes_eq name license ≡ (not (bytes_eq name (codes ".BTF") || bytes_eq name (codes ".BTF.ext")) && is_license name)
    known true e =
        let same : name ≡ license = (bytes_eq-Decides name license).0 e in
        subst (λ (n : List ℕ). bytes_eq n license ≡ (not (bytes_eq n (codes ".BTF") || bytes_eq n (codes ".BTF.ext")) && is_license n)) (sym same) refl
    known false e =
        e
        ∙ sym (and-false (not (bytes_eq name (codes ".BTF") || bytes_eq name (codes ".BTF.ext"))))
        ∙ ap (λ b. not (bytes_eq name (codes ".BTF") || bytes_eq name (codes ".BTF.ext")) && b) (sym (is_other name e))

-- ---- all sections

found : (k a : Bool) (s : SectionOf) (rest : Option SectionOf) → a ≡ is_some rest → (k || a) ≡ is_some (cond k (Some s) rest)
found true a s rest h = refl
found false a s rest h = h

one_section : (t n : Bool) (s : SectionOf) (others : List SectionOf) (rest : Option SectionOf) → n ≡ (not t && is_license (name_or_empty s)) → list_any names_license (flat_map section_info_entry (map section_of others)) ≡ is_some rest → list_any names_license (flat_map section_info_entry (map section_of (cond (not t) (s ∷ others) others))) ≡ is_some (cond n (Some s) rest)
unfolding section_of section_with
one_section true n s others rest is h = h ∙ ap (λ b. is_some (cond b (Some s) rest)) (sym is)
one_section false n s others rest is h =
    found (is_license (name_or_empty s)) (list_any names_license (flat_map section_info_entry (map section_of others))) s rest h
    ∙ ap (λ b. is_some (cond b (Some s) rest)) (sym is)

any_section : (ss : List SectionOf) → list_any names_license (flat_map section_info_entry (map section_of (filter (λ s. not (is_type_information s)) ss))) ≡ is_some (find (λ s. is_name license (section_name s)) ss)
any_section [] = refl
any_section (s ∷ ss) =
    one_section (is_type_information s) (is_name license (section_name s)) s (filter (λ s. not (is_type_information s)) ss) (find (λ s. is_name license (section_name s)) ss) (one_name (section_name s)) (any_section ss)

-- ---- the sections of type information have other names

name_is : (q : List ℕ) (name : Option (List ℕ)) → is_name q name ≡ true → unwrap_or name [] ≡ q
name_is q None e = absurd (false≢true e)
name_is q (Some name) e = (bytes_eq-Decides name q).0 e

one_other : (q : List ℕ) → is_license q ≡ false → (s : SectionOf) (rest : Option SectionOf) (b : Bool) → is_name q (section_name s) ≡ b → list_any names_license (names_in rest) ≡ false → list_any names_license (names_in (cond b (Some s) rest)) ≡ false
unfolding section_of section_with
one_other q other s rest false e h = h
one_other q other s rest true e h = ap (λ n. is_license n || false) (name_is q (section_name s) e) ∙ ap (λ b. b || false) other

other_names : (q : List ℕ) → is_license q ≡ false → (ss : List SectionOf) → list_any names_license (names_in (find (λ s. is_name q (section_name s)) ss)) ≡ false
other_names q other [] = refl
other_names q other (s ∷ ss) =
    one_other q other s (find (λ s. is_name q (section_name s)) ss) (is_name q (section_name s)) refl (other_names q other ss)

other_ext_names : (bytes : List ℕ) (types : Option TypeInfo) → list_any names_license (ext_names_beside bytes types) ≡ false
other_ext_names bytes None = refl
other_ext_names bytes (Some types) = other_names (codes ".BTF.ext") refl (sections bytes)

none_named : (bytes : List ℕ) → is_some (get (type_info_names bytes) license) ≡ false
unfolding type_info_names type_names ext_names
none_named bytes =
    put_there (put_all empty (type_names bytes)) (ext_names bytes)
    ∙ ap (λ b. b || list_any names_license (ext_names bytes)) (put_there empty (type_names bytes))
    ∙ ap (λ o. (is_some o || list_any names_license (type_names bytes)) || list_any names_license (ext_names bytes)) (get-empty text_cmp license)
    ∙ ap (λ b. b || list_any names_license (ext_names bytes)) (other_names (codes ".BTF") refl (sections bytes))
    ∙ other_ext_names bytes (btf_of bytes)

-- ---- the file

pub strict_license : (bytes : List ℕ) → contains_key (section_infos bytes) (codes "license") ≡ is_some (first_section_named (codes "license") bytes)
unfolding section_infos name_entries
strict_license bytes =
    put_there (type_info_names bytes) (name_entries bytes)
    ∙ ap (λ b. b || list_any names_license (name_entries bytes)) (none_named bytes)
    ∙ any_section (sections bytes)
