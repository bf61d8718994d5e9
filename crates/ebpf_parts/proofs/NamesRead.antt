-- What names of program sections say in the two readings.
use Rattle.std.proofs.Common.{◌≡◌, ◌≢◌, ℕ, Bool, true, false, List, [], ◌∷◌, Option, Some, None, inl, inr, option_map, refl, sym, ap, ◌∙◌}
use Rattle.std.specs.Prelude.{◌==◌, if◌then◌else◌, unwrap_or, drop}
use Rattle.std.specs.List.{AllByRecursion, list_any}
use Rattle.std.specs.Option.{option_flatten}
use Rattle.std.specs.Str.{bytes_eq}
use Rattle.std.proofs.lemmas.Bool.{cases_Bool, eqb-true, or_parts}
use Rattle.ebpf_base.specs.Faults.{or_else}
use Rattle.ebpf_parts.proofs.ProgramKinds.{marked_says_none}
use Rattle.ebpf_parts.specs.ProgramTypes.{is_marked, without_mark, program_section, first_piece, second_piece, lookup_piece, one_piece, cgroup_section, piece_sections, pair_sections, xdp_sections, sk_skb_sections, sk_reuseport_sections, cgroup_skb_sections, cgroup_sections, socket_events, address_calls, section_as, NoNameIsOther, LenientKeepsKinds, LenientTakesNames}
use Rattle.ebpf_parts.specs.declared.program_section.ProgramSection.{ProgramSection}
use Rattle.ebpf_parts.specs.declared.program_section.ProgramSection.TheVariants.{CgroupSock, CgroupSockAddr, Other}
use Rattle.ebpf_parts.specs.declared.programs.attach_type.CgroupSockAttachType.{CgroupSockAttachType}
use Rattle.ebpf_parts.specs.declared.programs.attach_type.CgroupSockAddrAttachType.{CgroupSockAddrAttachType}

is_other : Option ProgramSection → Bool
is_other (Some Other) = true
is_other _ = false

-- ---- no table has the kind `Other`

abbrev Named : Option ProgramSection → Type 0
Named section = is_other section ≡ false

either : (a b : Option ProgramSection) → Named a → Named b → Named (or_else a b)
either None b here there = there
either (Some kind) b here there = here

one : (table : List (List ℕ × ProgramSection)) → list_any (λ row. is_other (Some row.1)) table ≡ false → (piece : List ℕ) → Named (lookup_piece table piece)
unfolding is_other
one [] none piece = refl
one (row ∷ rows) none piece = by_case (bytes_eq piece row.0) (or_parts _ _ none) (one rows (or_parts _ _ none).1 piece)
  where
    by_case : (b : Bool) → (is_other (Some row.1) ≡ false) × (list_any (λ row. is_other (Some row.1)) rows ≡ false)
        → Named (lookup_piece rows piece) → Named (if b then Some row.1 else lookup_piece rows piece)
    by_case true parts later = parts.0
    by_case false parts later = later

flat : (table : List (List ℕ × Option ProgramSection)) → AllByRecursion (λ row. Named row.1) table → (piece : List ℕ) → Named (option_flatten (lookup_piece table piece))
unfolding is_other
flat [] all piece = refl
flat (row ∷ rows) all piece = by_case (bytes_eq piece row.0) (flat rows all.1 piece)
  where
    by_case : (b : Bool) → Named (option_flatten (lookup_piece rows piece)) → Named (option_flatten (if b then Some row.1 else lookup_piece rows piece))
    by_case true later = all.0
    by_case false later = later

events : (o : Option CgroupSockAttachType) → Named (option_map CgroupSock o)
unfolding is_other
events None = refl
events (Some x) = refl

calls : (o : Option CgroupSockAddrAttachType) → Named (option_map CgroupSockAddr o)
unfolding is_other
calls None = refl
calls (Some x) = refl

first : (piece : List ℕ) → Named (one_piece piece)
unfolding is_other piece_sections
first piece = one piece_sections refl piece

cgroup : (piece : List ℕ) → Named (cgroup_section piece)
unfolding is_other cgroup_sections
cgroup piece = either _ _ (one cgroup_sections refl piece) (either _ _ (events (lookup_piece socket_events piece)) (calls (lookup_piece address_calls piece)))

pairs : (second : Option (List ℕ)) → AllByRecursion (λ row. Named row.1) (pair_sections second)
unfolding is_other pair_sections xdp_sections sk_skb_sections sk_reuseport_sections cgroup_skb_sections
pairs None = (refl, (refl, (refl, (refl, (refl, (refl, tt))))))
pairs (Some piece) = (
  one (xdp_sections false) refl piece,
  (
    one (xdp_sections true) refl piece,
    (one sk_reuseport_sections refl piece, (one sk_skb_sections refl piece, (one cgroup_skb_sections refl piece, (cgroup piece, tt)))),
  ),
)

none_other : (name : List ℕ) → Named (program_section name)
none_other name = either _ _ (first (first_piece name)) (flat (pair_sections (second_piece name)) (pairs (second_piece name)) (first_piece name))

pub no_name_says_other : NoNameIsOther
unfolding is_other
no_name_says_other name is = let no : true ≡ false = sym (ap is_other is) ∙ none_other name in cc

-- ---- lenient parsing

-- a name that does not begin with `?`
pub unmarked_plain : (name : List ℕ) → ((rest : List ℕ) → name ≢ 63 ∷ rest) → name ≡ without_mark name
unmarked_plain [] other = refl
unmarked_plain (b ∷ name) other = by_test (b == 63) refl
  where
    by_test : (x : Bool) → (b == 63) ≡ x → b ∷ name ≡ (if x then name else b ∷ name)
    by_test true is = absurd (other name (ap (λ c. c ∷ name) (eqb-true b 63 is)))
    by_test false is = refl

pub lenient_keeps_kinds : LenientKeepsKinds
unfolding section_as
lenient_keeps_kinds name kind is = elim (cases_Bool (is_marked name)) [
  | inl marked ↦ absurd (cc (marked_says_none name marked))
  | inr plain ↦
      ap (λ b. Some (unwrap_or (program_section (if b then drop 1 name else name)) Other)) plain ∙ ap (λ o. Some (unwrap_or o Other)) is
]

pub lenient_takes_names : LenientTakesNames
unfolding section_as
lenient_takes_names name = refl
