-- Sections one after the other, up to an end.
use Rattle.std.proofs.Common.{◌≡◌, ◌-◌, ◌<◌, ◌≤◌, ◌==◌, ℕ, zero, suc, Bool, true, false, List, [], ◌∷◌, ◌++◌, Option, Some, None, Result, Ok, Err, MatchBool, refl, ap, sym, ◌∙◌, arith, append_assoc, append-nil, subst, nat_lt, fold}
use Rattle.std.specs.Prelude.{⊤, IfOk}
use Rattle.std.proofs.lemmas.Bool.Decides.{nat_tests}
use Rattle.std.specs.FinMap.{FinMap, empty}
use Rattle.ebpf_base.specs.Faults.{first_of, Gives, if_ok}
use Rattle.ebpf_btf.specs.Next.{if_some}
use Rattle.ebpf_base.specs.Maps.{put_all, text_cmp}
use Rattle.ebpf_base.specs.declared.endianness.Endianness.{Endianness}
use Rattle.ebpf_btf.specs.Memory.{is_btf_memory}
use Rattle.ebpf_btf.specs.declared.error.BtfError.{BtfError}
use Rattle.ebpf_btf.specs.declared.error.BtfError.TheVariants.{InvalidInfo}
use Rattle.ebpf_btf_ext.specs.ExtFormat.{section_end, info_sec_fault, ext_header_fault, func_part, line_part, part_fault, record_size, core_relo_part, sections_end, sections_start}
use Rattle.ebpf_btf_ext.specs.ExtReading.{checked_section, sections_from, ExtInfo, named_func_info, func_sections, named_line_info, line_sections, read_ext, core_relo_sections, section_core_relos, part_sections, AreSectionsAt, IsPart, IsSectionAt, SpellsExt}
use Rattle.ebpf_btf_ext.specs.declared.ext_infos.FuncSecInfo.{FuncSecInfo}
use Rattle.ebpf_btf_ext.specs.declared.ext_infos.LineSecInfo.{LineSecInfo}
use Rattle.ebpf_btf_ext.specs.declared.relocation.Relocation.{Relocation}

-- ---- a section ends after its offset and not past the end

abbrev pub Advances : {S : Type 0} → (ℕ → Result (S × ℕ) BtfError) → ℕ → Type 0
Advances {S} read end = (offset : ℕ) (found : S × ℕ) → read offset ≡ Ok found → (offset < found.1) × (found.1 ≤ end)

third_clear : (a b c : Bool) (e : BtfError) → first_of ((a, e) ∷ (b, e) ∷ (c, e) ∷ []) ≡ None → c ≡ false
third_clear true b c e is = cc
third_clear false true c e is = cc
third_clear false false true e is = cc
third_clear false false false e is = refl

fault_clear : (o : Endianness) (bytes : List ℕ) (least size offset end : ℕ) → info_sec_fault o bytes least size offset end ≡ None → section_end o bytes size offset ≤ end
unfolding info_sec_fault
fault_clear o bytes least size offset end is =
    let inside : nat_lt end (section_end o bytes size offset) ≡ false = third_clear _ _ _ InvalidInfo is in
    grind (arith, nat_tests)

next_of : {S : Type 0} → Result (S × ℕ) BtfError → ℕ
next_of (Ok found) = found.1
next_of (Err e) = 0

pub section_advances : {S : Type 0} (o : Endianness) (bytes : List ℕ) (least size end : ℕ) (records : ℕ → Result S BtfError) → Advances (checked_section o bytes least size end records) end
unfolding checked_section next_of
section_advances {S} o bytes least size end records offset found is = by_fault (info_sec_fault o bytes least size offset end) refl is
  where
    by_records : (r : Result S BtfError) → info_sec_fault o bytes least size offset end ≡ None
        → if_ok r (λ s. Ok (s, section_end o bytes size offset)) ≡ Ok found → (offset < found.1) × (found.1 ≤ end)
    by_records (Err e) clear same = cc
    by_records (Ok s) clear same =
        let next : section_end o bytes size offset ≡ found.1 = ap next_of same in
        let inside = fault_clear o bytes least size offset end clear in
        (omega arith, omega arith)

    by_fault : (f : Option BtfError) → info_sec_fault o bytes least size offset end ≡ f
        → if_some f (λ e. Err e) (if_ok (records offset) (λ s. Ok (s, section_end o bytes size offset))) ≡ Ok found → (offset < found.1) × (found.1 ≤ end)
    by_fault (Some e) fault same = cc
    by_fault None clear same = by_records (records offset) clear same

-- a higher bound on how many they are changes nothing
enough : {S : Type 0} (m n : ℕ) (read : ℕ → Result (S × ℕ) BtfError) (offset end : ℕ) → Advances read end → offset ≤ end → end - offset ≤ m → end - offset ≤ n
    → sections_from m read offset end ≡ sections_from n read offset end
unfolding sections_from
enough zero zero read offset end ahead low some other = refl
enough zero (suc n) read offset end ahead low some other =
    let here : (offset == end) ≡ true = grind (arith, nat_tests) in
    rw here refl
enough (suc m) zero read offset end ahead low some other =
    let here : (offset == end) ≡ true = grind (arith, nat_tests) in
    rw here refl
enough {S} (suc m) (suc n) read offset end ahead low some other =
    by_end (λ next within fewer others. enough m n read next end ahead within fewer others) (offset == end) refl
  where
    Again : Type 0
    Again = (next : ℕ) → next ≤ end → end - next ≤ m → end - next ≤ n → sections_from m read next end ≡ sections_from n read next end

    by_found : Again → (r : Result (S × ℕ) BtfError) → read offset ≡ r
        → if_ok r (λ found. if_ok (sections_from m read found.1 end) (λ more. Ok (found.0 ∷ more)))
        ≡ if_ok r (λ found. if_ok (sections_from n read found.1 end) (λ more. Ok (found.0 ∷ more)))
    by_found again (Err e) is = refl
    by_found again (Ok found) is =
        let within = ahead offset found is in
        ap (λ r. if_ok r (λ more. Ok (found.0 ∷ more))) (again found.1 within.1 (omega (arith, within.0)) (omega (arith, within.0)))

    by_end : Again → (b : Bool) → (offset == end) ≡ b → sections_from (suc m) read offset end ≡ sections_from (suc n) read offset end
    by_end again true e = rw e refl
    by_end again false e = rw e (by_found again (read offset) refl)

-- ---- what the sections from an offset on make of what the ones before have made

abbrev pub fold_ok : {A S : Type 0} → (A → S → A) → A → Result (List S) BtfError → Result A BtfError
fold_ok step made sections = if_ok sections (λ all. Ok (fold step made all))

fold_front : {A S : Type 0} (step : A → S → A) (made : A) (s : S) (more : Result (List S) BtfError)
    → fold_ok step (step made s) more ≡ fold_ok step made (if_ok more (λ rest. Ok (s ∷ rest)))
fold_front step made s (Ok rest) = refl
fold_front step made s (Err e) = refl

opens : {S : Type 0} (read : ℕ → Result (S × ℕ) BtfError) (offset end : ℕ) → offset < end
    → sections_from (end - offset) read offset end
    ≡ if_ok (read offset) (λ found. if_ok (sections_from (end - offset - 1) read found.1 end) (λ more. Ok (found.0 ∷ more)))
unfolding sections_from
opens {S} read offset end more =
    let next : end - offset ≡ suc (end - offset - 1) = omega arith in
    let before : (offset == end) ≡ false = grind (arith, nat_tests) in
    let P : ℕ → Type 0 = λ n. sections_from n read offset end ≡ if_ok (read offset) (λ found. if_ok (sections_from (end - offset - 1) read found.1 end) (λ rest. Ok (found.0 ∷ rest))) in
    subst P (sym next) (rw before refl)

-- at the end none is left
pub sections_over : {A S : Type 0} (step : A → S → A) (read : ℕ → Result (S × ℕ) BtfError) (offset end : ℕ) (made : A) → offset ≡ end
    → fold_ok step made (sections_from (end - offset) read offset end) ≡ Ok made
unfolding sections_from
sections_over step read offset end made here =
    let none : end - offset ≡ zero = omega arith in
    let same : (offset == end) ≡ true = grind (arith, nat_tests) in
    rw (none, same) refl

-- a section that is read is the first of them
pub sections_more : {A S : Type 0} (step : A → S → A) (read : ℕ → Result (S × ℕ) BtfError) (offset end : ℕ) (made : A) (found : S × ℕ)
    → Advances read end → offset < end → read offset ≡ Ok found
    → fold_ok step (step made found.0) (sections_from (end - found.1) read found.1 end) ≡ fold_ok step made (sections_from (end - offset) read offset end)
sections_more step read offset end made found ahead more here =
    let within = ahead offset found here in
    let same = enough (end - offset - 1) (end - found.1) read found.1 end ahead within.1 (omega (arith, within.0)) (omega arith) in
    rw (opens read offset end more, here, same) (fold_front step made found.0 (sections_from (end - found.1) read found.1 end))

-- where the first can't be read, its fault is theirs
pub sections_cut : {A S : Type 0} (step : A → S → A) (read : ℕ → Result (S × ℕ) BtfError) (offset end : ℕ) (made : A) (all : Result A BtfError) (e : BtfError)
    → offset < end → fold_ok step made (sections_from (end - offset) read offset end) ≡ all
    → MatchBool (is_btf_memory e) ⊤ (read offset ≡ Err e) → MatchBool (is_btf_memory e) ⊤ (all ≡ Err e)
sections_cut step read offset end made all e more rest is = by_memory (is_btf_memory e) is
  where
    by_memory : (b : Bool) → MatchBool b ⊤ (read offset ≡ Err e) → MatchBool b ⊤ (all ≡ Err e)
    by_memory true given = given
    by_memory false given = sym rest ∙ rw (opens read offset end more, given) refl

-- ---- a list that is made by adding at its end

fold_push : {S : Type 0} (front xs : List S) → fold (λ made s. made ++ s ∷ []) front xs ≡ front ++ xs
fold_push front [] = sym (append-nil front)
fold_push front (x ∷ xs) = fold_push (front ++ x ∷ []) xs ∙ append_assoc front (x ∷ []) xs

pub made_is_list : {S : Type 0} (r : Result (List S) BtfError) → fold_ok (λ made s. made ++ s ∷ []) [] r ≡ r
made_is_list (Ok xs) = ap Ok (fold_push [] xs)
made_is_list (Err e) = refl

-- ---- what is read of `.BTF.ext` is what its bytes spell

-- ---- one section

same_pair : {S : Type 0} (p q : S × ℕ) → ◌≡◌ {A = Result (S × ℕ) BtfError} (Ok p) (Ok q) → p ≡ q
same_pair p q is = cc

section_is : {S : Type 0} (o : Endianness) (bytes : List ℕ) (least size end : ℕ) (records : ℕ → Result S BtfError) (offset : ℕ) (s : S) (next : ℕ)
    → checked_section o bytes least size end records offset ≡ Ok (s, next) → IsSectionAt o bytes least size end records offset next s
unfolding checked_section
section_is {S} o bytes least size end records offset s next is = by_fault (info_sec_fault o bytes least size offset end) refl is
  where
    by_records : (r : Result S BtfError) → records offset ≡ r → info_sec_fault o bytes least size offset end ≡ None
        → if_ok {X = S × ℕ} r (λ t. Ok (t, section_end o bytes size offset)) ≡ Ok (s, next) → IsSectionAt o bytes least size end records offset next s
    by_records (Err e) gives sound same = cc
    by_records (Ok t) gives sound same =
        let both = same_pair (t, section_end o bytes size offset) (s, next) same in
        let found : t ≡ s = ap (λ (r : S × ℕ). r.0) both in
        let ends : section_end o bytes size offset ≡ next = ap (λ (r : S × ℕ). r.1) both in
        record { sound = sound; ends = sym ends; gives = gives ∙ ap Ok found }

    by_fault : (f : Option BtfError) → info_sec_fault o bytes least size offset end ≡ f
        → if_some f (λ e. Err e) (if_ok {X = S × ℕ} (records offset) (λ t. Ok (t, section_end o bytes size offset))) ≡ Ok (s, next) → IsSectionAt o bytes least size end records offset next s
    by_fault (Some e) fault same = cc
    by_fault None fault same = by_records (records offset) refl fault same

section_again : {S : Type 0} (o : Endianness) (bytes : List ℕ) (least size end : ℕ) (records : ℕ → Result S BtfError) (offset : ℕ) (s : S) (next : ℕ)
    → IsSectionAt o bytes least size end records offset next s → checked_section o bytes least size end records offset ≡ Ok (s, next)
unfolding checked_section
section_again o bytes least size end records offset s next is = rw (is.sound, is.gives, is.ends) refl

-- ---- sections one after the other

split_more : {S : Type 0} (s : S) (more : Result (List S) BtfError) (all : List S) → if_ok more (λ rest. Ok (s ∷ rest)) ≡ Ok all
    → (rest : List S) × (more ≡ Ok rest) × (all ≡ s ∷ rest)
split_more s (Ok rest) all is = (rest, refl, cc)
split_more s (Err e) all is = cc

sections_are : {S : Type 0} (n : ℕ) (o : Endianness) (bytes : List ℕ) (least size end : ℕ) (records : ℕ → Result S BtfError) (offset : ℕ) (all : List S)
    → sections_from n (checked_section o bytes least size end records) offset end ≡ Ok all → AreSectionsAt o bytes least size end records offset all
unfolding sections_from
sections_are {S} zero o bytes least size end records offset all is = by_end (offset == end) refl
  where
    by_end : (b : Bool) → (offset == end) ≡ b → AreSectionsAt o bytes least size end records offset all
    by_end true e =
        let none : all ≡ [] = cc (rw e at is) in
        rw none (grind (arith, nat_tests))
    by_end false e = let no = rw e at is in cc
sections_are {S} (suc n) o bytes least size end records offset all is =
    by_end (λ next rest. sections_are n o bytes least size end records next rest) (offset == end) refl
  where
    Again : Type 0
    Again = (next : ℕ) (rest : List S) → sections_from n (checked_section o bytes least size end records) next end ≡ Ok rest → AreSectionsAt o bytes least size end records next rest

    by_found : Again → (r : Result (S × ℕ) BtfError) → checked_section o bytes least size end records offset ≡ r
        → if_ok r (λ found. if_ok (sections_from n (checked_section o bytes least size end records) found.1 end) (λ rest. Ok (found.0 ∷ rest))) ≡ Ok all
        → AreSectionsAt o bytes least size end records offset all
    by_found again (Err e) here same = cc
    by_found again (Ok found) here same =
        let parts = split_more found.0 (sections_from n (checked_section o bytes least size end records) found.1 end) all same in
        let first = section_is o bytes least size end records offset found.0 found.1 here in
        rw parts.2 (found.1, first, again found.1 parts.0 parts.1)

    by_end : Again → (b : Bool) → (offset == end) ≡ b → AreSectionsAt o bytes least size end records offset all
    by_end again true e =
        let none : all ≡ [] = cc (rw e at is) in
        rw none (grind (arith, nat_tests))
    by_end again false e = by_found again (checked_section o bytes least size end records offset) refl (rw e at is)

sections_again : {S : Type 0} (all : List S) (n : ℕ) (o : Endianness) (bytes : List ℕ) (least size end : ℕ) (records : ℕ → Result S BtfError) (offset : ℕ)
    → AreSectionsAt o bytes least size end records offset all → end - offset ≤ n → sections_from n (checked_section o bytes least size end records) offset end ≡ Ok all
unfolding sections_from
sections_again [] zero o bytes least size end records offset are some =
    let here : (offset == end) ≡ true = grind (arith, nat_tests) in
    rw here refl
sections_again [] (suc n) o bytes least size end records offset are some =
    let here : (offset == end) ≡ true = grind (arith, nat_tests) in
    rw here refl
sections_again (s ∷ all) zero o bytes least size end records offset are some =
    let first = section_again o bytes least size end records offset s are.0 are.1 in
    let ahead = section_advances o bytes least size end records offset (s, are.0) first in
    absurd (omega (arith, ahead.0, ahead.1))
sections_again (s ∷ all) (suc n) o bytes least size end records offset are some =
    let first = section_again o bytes least size end records offset s are.0 are.1 in
    let ahead = section_advances o bytes least size end records offset (s, are.0) first in
    let low : offset < are.0 = ahead.0 in
    let high : are.0 ≤ end = ahead.1 in
    let before : (offset == end) ≡ false = grind (arith, nat_tests) in
    let rest = sections_again all n o bytes least size end records are.0 are.2 (omega arith) in
    rw (before, first, rest) refl

-- ---- a part

-- what a part gives: its fault, or what is made of its sections
abbrev part_gives : {S A : Type 0} → Endianness → List ℕ → ℕ → ℕ → (ℕ → ℕ → Result S BtfError) → (List S → A) → Result A BtfError
part_gives o bytes at least records make =
    if_some (part_fault o bytes at) (λ e. Err e)
    (if_ok (part_sections o bytes at (checked_section o bytes least (record_size o bytes at) (sections_end o bytes at) (records (record_size o bytes at)))) (λ all. Ok (make all)))

part_is : {S A : Type 0} (o : Endianness) (bytes : List ℕ) (at least : ℕ) (records : ℕ → ℕ → Result S BtfError) (make : List S → A) (made : A)
    → part_gives o bytes at least records make ≡ Ok made → (all : List S) × (made ≡ make all) × IsPart o bytes at least records all
part_is {S} {A} o bytes at least records make made is = by_fault (part_fault o bytes at) refl is
  where
    by_all : (r : Result (List S) BtfError) → part_fault o bytes at ≡ None
        → part_sections o bytes at (checked_section o bytes least (record_size o bytes at) (sections_end o bytes at) (records (record_size o bytes at))) ≡ r
        → if_ok r (λ all. Ok (make all)) ≡ Ok made → (all : List S) × (made ≡ make all) × IsPart o bytes at least records all
    by_all (Err e) sound read same = cc
    by_all (Ok all) sound read same =
        let whole : make all ≡ made = cc in (
          all,
          sym whole,
          record {
            sound = sound;
            sections_are = sections_are (sections_end o bytes at - sections_start o bytes at) o bytes least (record_size o bytes at) (sections_end o bytes at) (records (record_size o bytes at)) (sections_start o bytes at) all read;
          },
        )

    by_fault : (f : Option BtfError) → part_fault o bytes at ≡ f
        → if_some f (λ e. Err e)
        (if_ok (part_sections o bytes at (checked_section o bytes least (record_size o bytes at) (sections_end o bytes at) (records (record_size o bytes at)))) (λ all. Ok (make all))) ≡ Ok made
        → (all : List S) × (made ≡ make all) × IsPart o bytes at least records all
    by_fault (Some e) fault same = cc
    by_fault None fault same = by_all (part_sections o bytes at (checked_section o bytes least (record_size o bytes at) (sections_end o bytes at) (records (record_size o bytes at)))) fault refl same

part_again : {S A : Type 0} (o : Endianness) (bytes : List ℕ) (at least : ℕ) (records : ℕ → ℕ → Result S BtfError) (make : List S → A) (all : List S)
    → IsPart o bytes at least records all → part_gives o bytes at least records make ≡ Ok (make all)
part_again o bytes at least records make all is =
    let read = sections_again all (sections_end o bytes at - sections_start o bytes at) o bytes least (record_size o bytes at) (sections_end o bytes at) (records (record_size o bytes at)) (sections_start o bytes at) is.sections_are (omega arith) in
    rw (is.sound, read) refl

-- ---- the whole

funcs_given : (o : Endianness) (bytes strings : List ℕ)
    → func_sections o bytes strings ≡ part_gives o bytes func_part 8 (named_func_info o bytes strings) (λ (all : List (List ℕ × FuncSecInfo)). put_all {R = text_cmp} empty all)
unfolding func_sections
funcs_given o bytes strings = refl

lines_given : (o : Endianness) (bytes strings : List ℕ)
    → line_sections o bytes strings ≡ part_gives o bytes line_part 16 (named_line_info o bytes strings) (λ (all : List (List ℕ × LineSecInfo)). put_all {R = text_cmp} empty all)
unfolding line_sections
lines_given o bytes strings = refl

all_kept : {S : Type 0} (r : Result (List S) BtfError) → r ≡ if_ok r (λ all. Ok all)
all_kept (Ok all) = refl
all_kept (Err e) = refl

relocations_given : (type_matches : Bool) (o : Endianness) (bytes : List ℕ)
    → core_relo_sections type_matches o bytes ≡ part_gives o bytes core_relo_part 16 (section_core_relos type_matches o bytes) (λ (all : List (ℕ × List Relocation)). all)
unfolding core_relo_sections
relocations_given type_matches o bytes = ap (λ r. if_some (part_fault o bytes core_relo_part) (λ e. Err e) r) (all_kept _)

-- the three parts as a value
abbrev whole : Endianness → List ℕ → FinMap text_cmp FuncSecInfo → FinMap text_cmp LineSecInfo → List (ℕ × List Relocation) → ExtInfo
whole o bytes funcs lines relocations = record {
  func_info = funcs;
  line_info = lines;
  relocations = relocations;
  func_record_size = record_size o bytes func_part;
  line_record_size = record_size o bytes line_part;
}

pub found_from : (type_matches : Bool) (o : Endianness) (bytes strings : List ℕ) (ext : ExtInfo) → read_ext type_matches o bytes strings ≡ Ok ext → SpellsExt type_matches o bytes strings ext
unfolding read_ext
found_from type_matches o bytes strings ext is = by_header (ext_header_fault o bytes) refl is
  where
    by_relocations : (funcs : FinMap text_cmp FuncSecInfo) (lines : FinMap text_cmp LineSecInfo) (r : Result (List (ℕ × List Relocation)) BtfError)
        → ext_header_fault o bytes ≡ None → func_sections o bytes strings ≡ Ok funcs → line_sections o bytes strings ≡ Ok lines → core_relo_sections type_matches o bytes ≡ r
        → if_ok r (λ relocations. Ok (whole o bytes funcs lines relocations)) ≡ Ok ext → SpellsExt type_matches o bytes strings ext
    by_relocations funcs lines (Err e) h f l r same = cc
    by_relocations funcs lines (Ok relocations) h f l r same =
        let made : ext ≡ whole o bytes funcs lines relocations = cc in
        let part = part_is o bytes core_relo_part 16 (section_core_relos type_matches o bytes) (λ (all : List (ℕ × List Relocation)). all) relocations (sym (relocations_given type_matches o bytes) ∙ r) in
        rw made (record {
          header = h;
          funcs = part_is o bytes func_part 8 (named_func_info o bytes strings) (λ (all : List (List ℕ × FuncSecInfo)). put_all {R = text_cmp} empty all) funcs (sym (funcs_given o bytes strings) ∙ f);
          lines = part_is o bytes line_part 16 (named_line_info o bytes strings) (λ (all : List (List ℕ × LineSecInfo)). put_all {R = text_cmp} empty all) lines (sym (lines_given o bytes strings) ∙ l);
          relocations = rw (part.1) part.2;
          func_record_size = refl;
          line_record_size = refl;
        })

    by_lines : (funcs : FinMap text_cmp FuncSecInfo) (l : Result (FinMap text_cmp LineSecInfo) BtfError)
        → ext_header_fault o bytes ≡ None → func_sections o bytes strings ≡ Ok funcs → line_sections o bytes strings ≡ l
        → if_ok l (λ lines. if_ok (core_relo_sections type_matches o bytes) (λ relocations. Ok (whole o bytes funcs lines relocations))) ≡ Ok ext → SpellsExt type_matches o bytes strings ext
    by_lines funcs (Err e) h f l same = cc
    by_lines funcs (Ok lines) h f l same = by_relocations funcs lines (core_relo_sections type_matches o bytes) h f l refl same

    by_funcs : (f : Result (FinMap text_cmp FuncSecInfo) BtfError) → ext_header_fault o bytes ≡ None → func_sections o bytes strings ≡ f
        → if_ok f (λ funcs. if_ok (line_sections o bytes strings) (λ lines. if_ok (core_relo_sections type_matches o bytes) (λ relocations. Ok (whole o bytes funcs lines relocations)))) ≡ Ok ext
        → SpellsExt type_matches o bytes strings ext
    by_funcs (Err e) h f same = cc
    by_funcs (Ok funcs) h f same = by_lines funcs (line_sections o bytes strings) h f refl same

    by_header : (h : Option BtfError) → ext_header_fault o bytes ≡ h
        → if_some h (λ e. Err e)
        (if_ok (func_sections o bytes strings) (λ funcs. if_ok (line_sections o bytes strings) (λ lines. if_ok (core_relo_sections type_matches o bytes) (λ relocations. Ok (whole o bytes funcs lines relocations))))) ≡ Ok ext
        → SpellsExt type_matches o bytes strings ext
    by_header (Some e) h same = cc
    by_header None h same = by_funcs (func_sections o bytes strings) h refl same

pub again_from : (type_matches : Bool) (o : Endianness) (bytes strings : List ℕ) (ext : ExtInfo) → SpellsExt type_matches o bytes strings ext → read_ext type_matches o bytes strings ≡ Ok ext
unfolding read_ext
again_from type_matches o bytes strings ext is =
    let funcs = funcs_given o bytes strings ∙ part_again o bytes func_part 8 (named_func_info o bytes strings) (λ (all : List (List ℕ × FuncSecInfo)). put_all {R = text_cmp} empty all) is.funcs.0 is.funcs.2 in
    let lines = lines_given o bytes strings ∙ part_again o bytes line_part 16 (named_line_info o bytes strings) (λ (all : List (List ℕ × LineSecInfo)). put_all {R = text_cmp} empty all) is.lines.0 is.lines.2 in
    let relocations = relocations_given type_matches o bytes ∙ part_again o bytes core_relo_part 16 (section_core_relos type_matches o bytes) (λ (all : List (ℕ × List Relocation)). all) ext.relocations is.relocations in
    rw (is.header, funcs, lines, relocations) (ap Ok (same ext _ _ _ _ is.funcs.1 is.lines.1 is.func_record_size is.line_record_size))
  where
    same : (ext : ExtInfo) (funcs : FinMap text_cmp FuncSecInfo) (lines : FinMap text_cmp LineSecInfo) (func_size line_size : ℕ)
        → ext.func_info ≡ funcs → ext.line_info ≡ lines → ext.func_record_size ≡ func_size → ext.line_record_size ≡ line_size
        → ◌≡◌ {A = ExtInfo} (record { func_info = funcs; line_info = lines; relocations = ext.relocations; func_record_size = func_size; line_record_size = line_size }) ext
    same ext funcs lines func_size line_size f l m n = rw (← f, ← l, ← m, ← n) refl

-- what is read is spelled so
pub ext_found : (type_matches : Bool) (o : Endianness) (bytes strings : List ℕ) (r : Result ExtInfo BtfError) → Gives is_btf_memory r (read_ext type_matches o bytes strings) → IfOk r (λ ext. SpellsExt type_matches o bytes strings ext)
ext_found type_matches o bytes strings (Ok ext) is = found_from type_matches o bytes strings ext is
ext_found type_matches o bytes strings (Err e) is = tt

-- what is spelled so is read
pub ext_only : (type_matches : Bool) (o : Endianness) (bytes strings : List ℕ) (r : Result ExtInfo BtfError) → Gives is_btf_memory r (read_ext type_matches o bytes strings)
    → (ext : ExtInfo) → SpellsExt type_matches o bytes strings ext → Gives is_btf_memory r (Ok ext)
ext_only type_matches o bytes strings r is ext spells = subst (λ (s : Result ExtInfo BtfError). Gives is_btf_memory r s) (again_from type_matches o bytes strings ext spells) is
