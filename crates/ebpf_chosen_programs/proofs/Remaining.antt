-- What remains of an object after programs are left out.
use Rattle.std.proofs.Common.{◌≡◌, ℕ, ◌+◌, ◌*◌, Bool, true, false, cond, List, [], ◌∷◌, ◌++◌, map, length, refl, sym, ap, ◌∙◌}
use Rattle.std.specs.Prelude.{◌==◌, ◌||◌, ◌&&◌, not, nat_le, nat_lt}
use Rattle.std.specs.declared.cmp.Ordering.{Ordering}
use Rattle.std.specs.Cmp.{nat_cmp_total}
use Rattle.std.specs.FinMap.{FinMap, entries, contains_key, empty, insert, nat_cmp-IsAntisymmetric, retain_keys}
use Rattle.std.specs.List.{filter, list_any}
use Rattle.std.specs.Ordering.{nat_cmp}
use Rattle.ebpf_base.proofs.TextMaps.{text_exact}
use Rattle.ebpf_base.specs.Maps.{key_cmp, text_cmp, text_total, put_all}
use Rattle.ebpf_elf.specs.declared.relocation.ElfRelocation.{ElfRelocation}
use Rattle.ebpf_model.specs.Symbols.{FunctionKey}
use Rattle.ebpf_model.specs.declared.function.Function.{Function}
use Rattle.ebpf_model.specs.declared.function.Program.{Program}
use Rattle.ebpf_model.specs.declared.symbol.ExternDesc.{ExternDesc}
use Rattle.ebpf_chosen_programs.proofs.Kept.{kept, has_only_members}
use Rattle.ebpf_chosen_programs.specs.LeavingOut.{is_among, remaining, lies_in, stays, kept_in_section}
use Rattle.ebpf_chosen_programs.specs.PrivateContracts.{bytes_in_section, code_bytes, holds, name_set, stays_among, with_names}

module _ {K X : Type 0} {R : K → K → Ordering} where
  -- what two tests keep that agree
  retained : (m : FinMap R X) (p q : K → Bool) → ((k : K) → p k ≡ q k) → retain_keys m p ≡ retain_keys m q
  retained m p q same = λ i. retain_keys m (λ k. same k i)

-- the programs that are not in the set of names
pub programs_left : (names : List (List ℕ)) (programs : FinMap text_cmp Program) → put_all empty (filter (λ e. not (contains_key (name_set names) e.0)) (entries programs)) ≡ remaining names programs
programs_left names programs =
    kept text_total text_exact programs (λ name. not (contains_key (name_set names) name))
    ∙ retained programs (λ name. not (contains_key (name_set names) name)) (λ name. not (is_among names name)) (λ name. ap not (has_only_members text_total names name))

-- the externs that the names after have, or the names before lack
pub externs_left : (after before : List (List ℕ)) (externs : FinMap text_cmp ExternDesc)
    → put_all empty (filter (λ e. contains_key (name_set after) e.0 || not (contains_key (name_set before) e.0)) (entries externs)) ≡ retain_keys externs (λ name. is_among after name || not (is_among before name))
externs_left after before externs =
    kept text_total text_exact externs (λ name. contains_key (name_set after) name || not (contains_key (name_set before) name))
    ∙ retained externs _ (λ name. is_among after name || not (is_among before name)) (λ name i. has_only_members text_total after name i || not (has_only_members text_total before name i))

-- names that are added in two parts
pub names_added : (set : FinMap text_cmp (Unit {0})) (xs ys : List (List ℕ)) → with_names set (xs ++ ys) ≡ with_names (with_names set xs) ys
names_added set [] ys = refl
names_added set (x ∷ xs) ys = names_added (insert set x tt) xs ys

-- ---- the bytes of a section's functions

module _ (reached : FunctionKey → Bool) (section offset : ℕ) where
  false_and : (b : Bool) → (b && false) ≡ false
  false_and true = refl
  false_and false = refl

  one_reached : (e : FunctionKey × Function) (any : Bool) (bs : List (FunctionKey × Function))
      → list_any (λ b. b.is_reached && holds offset b) (map (code_bytes reached) bs) ≡ any
      → list_any (λ b. b.is_reached && holds offset b) (map (code_bytes reached) (cond (e.1.section_index.0 == section) (e ∷ bs) bs)) ≡ ((reached e.0 && lies_in section offset e.1) || any)
  one_reached e any bs h = step (e.1.section_index.0 == section)
    where
      step : (b : Bool) → list_any (λ b. b.is_reached && holds offset b) (map (code_bytes reached) (cond b (e ∷ bs) bs)) ≡ ((reached e.0 && (b && (nat_le e.1.section_offset offset && nat_lt offset (e.1.section_offset + 8 * length e.1.instructions)))) || any)
      step true = ap (λ x. (reached e.0 && (nat_le e.1.section_offset offset && nat_lt offset (e.1.section_offset + 8 * length e.1.instructions))) || x) h
      step false = h ∙ sym (ap (λ x. x || any) (false_and (reached e.0)))

  any_reached : (es : List (FunctionKey × Function)) → list_any (λ b. b.is_reached && holds offset b) (map (code_bytes reached) (filter (λ e. e.1.section_index.0 == section) es)) ≡ list_any (λ e. reached e.0 && lies_in section offset e.1) es
  any_reached [] = refl
  any_reached (e ∷ es) = one_reached e _ (filter (λ e. e.1.section_index.0 == section) es) (any_reached es)

  one_code : (e : FunctionKey × Function) (any : Bool) (bs : List (FunctionKey × Function))
      → list_any (holds offset) (map (code_bytes reached) bs) ≡ any
      → list_any (holds offset) (map (code_bytes reached) (cond (e.1.section_index.0 == section) (e ∷ bs) bs)) ≡ (lies_in section offset e.1 || any)
  one_code e any bs h = step (e.1.section_index.0 == section)
    where
      step : (b : Bool) → list_any (holds offset) (map (code_bytes reached) (cond b (e ∷ bs) bs)) ≡ ((b && (nat_le e.1.section_offset offset && nat_lt offset (e.1.section_offset + 8 * length e.1.instructions))) || any)
      step true = ap (λ x. (nat_le e.1.section_offset offset && nat_lt offset (e.1.section_offset + 8 * length e.1.instructions)) || x) h
      step false = h

  any_code : (es : List (FunctionKey × Function)) → list_any (holds offset) (map (code_bytes reached) (filter (λ e. e.1.section_index.0 == section) es)) ≡ list_any (λ e. true && lies_in section offset e.1) es
  any_code [] = refl
  any_code (e ∷ es) = one_code e _ (filter (λ e. e.1.section_index.0 == section) es) (any_code es)

  pub stays_by_bytes : (functions : FinMap key_cmp Function) → stays_among (bytes_in_section functions reached section) offset ≡ stays functions reached section offset
  stays_by_bytes functions = λ i. any_reached (entries functions) i || not (any_code (entries functions) i)

-- the relocations of a section that stay
pub relocations_left : (functions : FinMap key_cmp Function) (reached : FunctionKey → Bool) (section : ℕ) (relocations : FinMap nat_cmp ElfRelocation)
    → put_all empty (filter (λ r. stays_among (bytes_in_section functions reached section) r.0) (entries relocations)) ≡ kept_in_section functions reached section relocations
relocations_left functions reached section relocations =
    kept nat_cmp_total nat_cmp-IsAntisymmetric relocations (stays_among (bytes_in_section functions reached section))
    ∙ retained relocations (stays_among (bytes_in_section functions reached section)) (stays functions reached section) (λ offset. stays_by_bytes reached section offset functions)
