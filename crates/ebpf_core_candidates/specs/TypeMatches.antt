-- Whether a type of an object matches a type of a kernel: the names and the layout of what the
-- object declares are found in the kernel (libbpf 1.7.0, src/relo_core.c, __bpf_core_types_match;
-- the same as the kernel's tools/lib/bpf/relo_core.c).
--
-- An example: `struct task { int pid; struct cred *cred; }` matches a kernel's
-- `struct task { long state; struct cred *cred; int pid; }`. Each local member has a member of its
-- name whose type matches. Behind the pointer the names alone count, so `struct cred` may be only
-- declared on either side. `unsigned int pid` in the kernel would differ by its sign.
use Rattle.std.specs.Prelude.{ℕ, zero, suc, ◌-◌, Bool, true, false, List, [], ◌∷◌, length, map}
use Rattle.std.specs.Prelude.{nat_eq, nat_le, unwrap_or, Option, Some, None, is_some}
use Rattle.std.specs.Prelude.{Result, Ok, Err, ◌==◌, ◌&&◌, ◌||◌, not}
use Rattle.std.specs.Prelude.{if◌then◌else◌}
use Rattle.std.specs.List.{zip}
use Rattle.std.specs.Option.{option_eq}
use Rattle.ebpf_base.specs.Faults.{if_ok}
use Rattle.ebpf_btf.specs.Next.{if_some}
use Rattle.ebpf_btf.specs.declared.error.BtfError.{BtfError}
use Rattle.ebpf_btf.specs.declared.error.BtfError.TheVariants.{MaximumTypeDepth}
use Rattle.ebpf_btf.specs.declared.kind.BtfKind.{BtfKind}
use Rattle.ebpf_btf.specs.declared.kind.BtfKind.TheVariants as kinds
use Rattle.ebpf_btf.specs.declared.members.BtfMember.{BtfMember}
use Rattle.ebpf_btf.specs.declared.members.BtfParam.{BtfParam}
use Rattle.ebpf_btf.specs.declared.types.BtfType.{BtfType}
use Rattle.ebpf_btf.specs.declared.types.BtfType.TheVariants.{Array, Fwd, Struct, Union}
use Rattle.ebpf_btf.specs.declared.variants.BtfVariant.{BtfVariant}
use Rattle.ebpf_btf.specs.Strings.{is_essential_name_at, text_at, type_name}
use Rattle.ebpf_btf.specs.Steps.{resolved_type}
use Rattle.ebpf_btf.specs.TypeInfo.{TypeInfo}
use Rattle.ebpf_btf.specs.Types.{is_signed, kind_number, kind_of, members_of, name_off, size_word}
use Rattle.ebpf_btf.specs.Variants.{variants_of}
use Rattle.ebpf_core_candidates.specs.Compatibility.{both, inner_type_id, params_of, same_kind}
use Rattle.ebpf_core_candidates.specs.declared.compatible.Pair.{Pair}
use Rattle.ebpf_core_candidates.specs.declared.match_tests.MatchTest.{MatchTest}
use Rattle.ebpf_core_candidates.specs.declared.match_tests.MatchTest.TheVariants.{Decided, Inner}
use Rattle.ebpf_core_candidates.specs.declared.match_tests.MatchTest.TheVariants.{Parts, Parameters}
use Rattle.ebpf_core_candidates.specs.declared.match_tests.MatchedPair.{MatchedPair}
use Rattle.ebpf_core_candidates.specs.declared.match_tests.NamedPart.{NamedPart}
use Rattle.ebpf_core_candidates.specs.declared.type_match.MatchAnswer.{MatchAnswer}
use Rattle.ebpf_core_candidates.specs.declared.type_match.MatchWalk.{MatchWalk}
use Rattle.ebpf_core_candidates.specs.declared.type_match.MatchWalk.TheVariants.{Found, Onward}

-- ---- the test that two types of the same name ask for

abbrev pub matched_pair : Bool → Pair → MatchedPair
matched_pair behind p = record { local = p.local; target = p.target; behind_pointer = behind }

-- ---- named parts: enumerators, and members with their types

abbrev pub enumerator_part : BtfVariant → NamedPart
enumerator_part v = record { name_offset = v.name_offset; btf_type = None }

abbrev pub member_part : BtfMember → NamedPart
member_part m = record { name_offset = m.name_offset; btf_type = Some m.btf_type }

-- the enumerators of an enumeration, or the members of a STRUCT or UNION
abbrev pub parts_of : BtfType → List NamedPart
parts_of t =
    if_some (variants_of t) (map enumerator_part) (map member_part (unwrap_or (members_of t) []))

-- the local type has no more parts than the other (bpf_core_enums_match,
-- bpf_core_composites_match: local_vlen > targ_vlen is no match)
abbrev pub has_no_more_parts : BtfType → BtfType → Bool
has_no_more_parts a b = nat_le (length (parts_of a)) (length (parts_of b))

abbrev pub same_size : BtfType → BtfType → Bool
same_size a b = option_eq nat_eq (size_word a) (size_word b)

-- enumerations of 32 and 64 bits, also one that a UNION replaces: of equal size (BTF_KIND_ENUM,
-- BTF_KIND_ENUM64, bpf_core_enums_match)
abbrev pub enumeration_test : BtfType → BtfType → MatchTest
enumeration_test a b =
    if is_some (variants_of b) && same_size a b && has_no_more_parts a b
    then Parts a b
    else Decided false

-- the kind that a STRUCT, a UNION or a forward declaration of either stands for
unfoldable pub declared_kind : BtfType → Option BtfKind
declared_kind (Struct _ _ _ _) = Some kinds.Struct
declared_kind (Union _ _ _ _ _) = Some kinds.Union
declared_kind (Fwd _ is_union) = Some (if is_union then kinds.Union else kinds.Struct)
declared_kind _ = None

abbrev pub same_declared_kind : BtfType → BtfType → Bool
same_declared_kind a b =
    if_some (declared_kind a) (λ k.
    if_some (declared_kind b) (λ m. kind_number k == kind_number m) false) false

-- Forward declarations match forward declarations of the same kind, and behind a pointer also what
-- they declare (BTF_KIND_FWD).
abbrev pub forward_test : Bool → BtfType → BtfType → MatchTest
forward_test behind a b = Decided ((behind || same_kind a b) && same_declared_kind a b)

-- A STRUCT or UNION is looked into. Behind a pointer its kind is enough, and a forward declaration
-- will do (BTF_KIND_STRUCT, BTF_KIND_UNION).
abbrev pub composite_test : Bool → BtfType → BtfType → MatchTest
composite_test behind a b =
    if behind
    then Decided (same_declared_kind a b)
    else (if same_kind a b && has_no_more_parts a b then Parts a b else Decided false)

-- sizes and signs of INTs (BTF_KIND_INT)
abbrev pub ints_match : BtfType → BtfType → Bool
ints_match a b =
    same_kind a b
    && same_size a b
    && (if is_signed a then is_signed b else not (is_signed b))

-- the number of the elements of an ARRAY; others have none
unfoldable pub element_count : BtfType → ℕ
element_count (Array _ _ _ n) = n
element_count _ = 0

-- a test of the inner types of two types: what PTRs point to, the elements of ARRAYs of as many
-- elements (BTF_KIND_PTR, BTF_KIND_ARRAY)
abbrev pub inner_test : Bool → BtfType → BtfType → MatchTest
inner_test behind a b =
    if same_kind a b && element_count a == element_count b
    then if_some (both (inner_type_id a) (inner_type_id b)) (λ p. Inner (matched_pair behind p))
    (Decided false)
    else Decided false

-- a test of the parameters of FUNC_PROTOs of as many, and then of the results
-- (BTF_KIND_FUNC_PROTO)
abbrev pub prototype_test : Bool → BtfType → BtfType → MatchTest
prototype_test behind a b =
    if same_kind a b && length (params_of a) == length (params_of b)
    then if_some (both (inner_type_id a) (inner_type_id b)) (λ p.
    Parameters (params_of a) (params_of b) (matched_pair behind p)) (Decided false)
    else Decided false

-- by the kind of the local type; a FLOAT matches nothing, as in libbpf
unfoldable pub test_by_kind : BtfKind → Bool → BtfType → BtfType → MatchTest
test_by_kind kinds.Unknown behind a b = Decided (same_kind a b)
test_by_kind kinds.Fwd behind a b = forward_test behind a b
test_by_kind kinds.Struct behind a b = composite_test behind a b
test_by_kind kinds.Union behind a b = composite_test behind a b
test_by_kind kinds.Int behind a b = Decided (ints_match a b)
test_by_kind kinds.Ptr behind a b = inner_test true a b
test_by_kind kinds.Array behind a b = inner_test behind a b
test_by_kind kinds.FuncProto behind a b = prototype_test behind a b
test_by_kind _ behind a b = Decided false

abbrev pub match_test : Bool → BtfType → BtfType → MatchTest
match_test behind a b =
    if is_some (variants_of a)
    then enumeration_test a b
    else test_by_kind (kind_of a) behind a b

-- ---- a match, with the number of looks that it leaves: a look is at a pair of types, or at a pair
-- of parts

-- how many levels of members and parameters there may be (libbpf: `level`)
abbrev pub match_levels : ℕ
match_levels = 32

-- how many types of pointers, arrays and results may follow one another on a level (libbpf:
-- `depth`)
abbrev pub match_depth : ℕ
match_depth = 32

-- how many looks there may be
abbrev pub match_looks : ℕ
match_looks = 1048576

abbrev pub answer_with : Bool → ℕ → Result MatchAnswer BtfError
answer_with matches left = Ok (record { matches = matches; left = left })

-- the next step after a match, or after none
abbrev pub if_match : Result MatchAnswer BtfError → (ℕ → Result MatchAnswer BtfError)
    → Result MatchAnswer BtfError
if_match r next = if_ok r (λ a. if a.matches then next a.left else Ok a)

abbrev pub if_no_match : Result MatchAnswer BtfError → (ℕ → Result MatchAnswer BtfError)
    → Result MatchAnswer BtfError
if_no_match r next = if_ok r (λ a. if a.matches then Ok a else next a.left)

-- all of a list match, up to the first that does not
abbrev pub all_match : {X : Type 0} → (ℕ → X → Result MatchAnswer BtfError) → List X → ℕ
    → Result MatchAnswer BtfError
all_match test [] left = answer_with true left
all_match test (x ∷ xs) left = if_match (test left x) (all_match test xs)

-- one of a list matches, the first that does
abbrev pub any_matches : {X : Type 0} → (ℕ → X → Result MatchAnswer BtfError) → List X → ℕ
    → Result MatchAnswer BtfError
any_matches test [] left = answer_with false left
any_matches test (x ∷ xs) left = if_no_match (test left x) (any_matches test xs)

-- a match of two types, where so many looks are left
abbrev pub Matching : Type 0
Matching = ℕ → MatchedPair → Result MatchAnswer BtfError

-- the two sides, and the local type at the start, which errors name
pub record MatchSides : Type 0 where
  pub local : TypeInfo
  pub target : TypeInfo
  pub root : ℕ

abbrev pub too_many_looks : {X : Type 0} → MatchSides → Result X BtfError
too_many_looks sides = Err (MaximumTypeDepth sides.root)

-- parts of one name match where their types do; enumerators have none
abbrev pub part_types_match : Matching → NamedPart → NamedPart → ℕ → Result MatchAnswer BtfError
part_types_match below p q left =
    if_some (both p.btf_type q.btf_type) (λ pair. below left (matched_pair false pair)) (answer_with
    true left)

-- a look at a part of the kernel's type, for a local part of this name
unfoldable pub part_matches : Matching → MatchSides → List ℕ → NamedPart → ℕ → NamedPart
    → Result MatchAnswer BtfError
part_matches below sides name p left q =
    if left == 0 then too_many_looks sides
    else if_ok (is_essential_name_at sides.target.strings q.name_offset name) (λ same.
    if same then part_types_match below p q (left - 1) else answer_with false (left - 1))

-- a part of the local type has a match among these
unfoldable pub part_is_found : Matching → MatchSides → List NamedPart → ℕ → NamedPart
    → Result MatchAnswer BtfError
part_is_found below sides parts left p =
    if_ok (text_at sides.local.strings p.name_offset) (λ name.
    any_matches (part_matches below sides name p) parts left)

-- all parts of the local type have one
abbrev pub parts_match : Matching → MatchSides → BtfType → BtfType → ℕ → Result MatchAnswer BtfError
parts_match below sides a b left = all_match (part_is_found below sides (parts_of b)) (parts_of a) left

-- the types of two parameters match
abbrev pub param_matches : Matching → Bool → ℕ → BtfParam × BtfParam → Result MatchAnswer BtfError
param_matches below behind left p =
    below left (record {
      local = p.0.btf_type;
      target = p.1.btf_type;
      behind_pointer = behind;
    })

-- what an answer leads to: the results where all parameters match
abbrev pub onward_to : MatchedPair → MatchAnswer → MatchWalk
onward_to pair a = if a.matches then Onward pair a.left else Found a

abbrev pub walk_by_test : Matching → MatchSides → ℕ → MatchTest → Result MatchWalk BtfError
walk_by_test below sides left (Decided matches) =
    Ok (Found (record { matches = matches; left = left }))
walk_by_test below sides left (Inner pair) = Ok (Onward pair left)
walk_by_test below sides left (Parts a b) =
    if_ok (parts_match below sides a b left) (λ a. Ok (Found a))
walk_by_test below sides left (Parameters xs ys results) =
    if_ok (all_match (param_matches below results.behind_pointer) (zip xs ys) left) (λ a.
    Ok (onward_to results a))

-- the essential names of two types are the same (bpf_core_names_match)
abbrev pub have_one_name : MatchSides → BtfType → BtfType → Result Bool BtfError
have_one_name sides a b =
    if_ok (type_name sides.local a) (λ name.
    is_essential_name_at sides.target.strings (name_off b) name)

-- a look at a pair of types: modifiers are followed, the names are the same, and the test
unfoldable pub walk_step : Matching → MatchSides → ℕ → MatchedPair → Result MatchWalk BtfError
walk_step below sides left pair =
    if left == 0 then too_many_looks sides
    else if_ok (resolved_type sides.local.types pair.local) (λ a.
    if_ok (resolved_type sides.target.types pair.target) (λ b.
    if_ok (have_one_name sides a b) (λ same.
    if same
    then walk_by_test below sides (left - 1) (match_test pair.behind_pointer a b)
    else Ok (Found (record { matches = false; left = left - 1 })))))

abbrev pub walked_on : Matching → MatchWalk → Result MatchAnswer BtfError
walked_on next (Found a) = Ok a
walked_on next (Onward pair left) = next left pair

-- a walk along pointers, arrays and results, of at most so many types
unfoldable pub walk : Matching → MatchSides → ℕ → Matching
walk below sides zero left pair = too_many_looks sides
walk below sides (suc depth) left pair =
    if_ok (walk_step below sides left pair) (walked_on (walk below sides depth))

-- a match of two types, where so many levels are left
unfoldable pub matched_from : MatchSides → ℕ → Matching
matched_from sides zero left pair = too_many_looks sides
matched_from sides (suc levels) left pair =
    walk (matched_from sides levels) sides match_depth left pair

-- whether a type matches another
unfoldable pub types_match : TypeInfo → ℕ → TypeInfo → ℕ → Result Bool BtfError
types_match local id target other =
    if_ok
    (matched_from (record { local = local; target = target; root = id }) match_levels match_looks
    (record { local = id; target = other; behind_pointer = false }))
    (λ a. Ok a.matches)
