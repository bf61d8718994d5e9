-- Records, counted by their groups.
use Rattle.std.proofs.Common.{◌≡◌, ℕ, ◌+◌, ◌-◌, ◌^◌, ◌<◌, ◌≤◌, Bool, true, false, cond, List, Option, Some, None, drop, length, refl, sym, ap, subst, ◌∙◌, arith, length-append}
use Rattle.std.specs.Prelude.{count_by, min, slice_index_or, unwrap_or, string_bytes, if◌then◌else◌, ◌&&◌, ◌==◌}
use Rattle.std.proofs.lemmas.Bool.{eqb-false, eqb-true, ne_eqb}
use Rattle.std.proofs.lemmas.List.{get_or_default}
use Rattle.std.proofs.lemmas.List.Sums.{sum_by-append, sum_by-cons}
use Rattle.ebpf_base.proofs.Lists.{rest_more, rest_none}
use Rattle.ebpf_base.specs.Maps.{text_cmp, text_total}
use Rattle.ebpf_btf.specs.TypeInfo.{TypeInfo}
use Rattle.ebpf_btf_ext.specs.declared.relocation.Relocation.{Relocation}
use Rattle.std.specs.BTreeMap.{BTreeMap, Updates, get}
use Rattle.std.specs.Cmp.{IsTotalOrder, on_total, then_total, tied_then}
use Rattle.std.specs.FinMap.{from_entries, get_tied}
use Rattle.std.specs.Ordering.{eq_by_cmp, is_eq}
use Rattle.ebpf_base.proofs.Maps.{get-view, is_equal}
use Rattle.cli_common.specs.TypeLabels.{type_label}
use Rattle.cli_list.specs.PrivateContracts.{CountsMore, IsGroupOf, with_more}
use Rattle.cli_list.specs.RecordCounts.{asks, counted, group_cmp, kind_cmp, section_records}
use Rattle.cli_list.specs.declared.records.RecordGroup.{RecordGroup}
use Rattle.cli_common.specs.contracts.kinds.KindOrd.TheImpl.Laws as kind_laws

kind_total : IsTotalOrder kind_cmp
kind_total = kind_laws.total-law

group_total : IsTotalOrder group_cmp
group_total = then_total (on_total (λ (g : RecordGroup). string_bytes g.name) text_total) (on_total (λ (g : RecordGroup). g.kind) kind_total)

-- ---- one record

-- what is the same is counted at the same place
counted_alike : (m : BTreeMap RecordGroup ℕ) (a b : RecordGroup) → eq_by_cmp group_cmp a b ≡ true → get group_cmp m b ≡ get group_cmp m a
counted_alike m a b same =
    sym (get-view group_total m.entries b)
    ∙ get_tied group_total (from_entries m.entries) a b (is_equal (group_cmp a b) same)
    ∙ get-view group_total m.entries a

-- with one more of what is asked
pub counted_one : (m n : BTreeMap RecordGroup ℕ) (k : RecordGroup) (v : ℕ) → Updates group_cmp m n k (Some v) → v ≡ min (unwrap_or (get group_cmp m k) 0 + 1) (2 ^ 64 - 1)
    → (q : RecordGroup) → get group_cmp n q ≡ with_more (get group_cmp m q) (if eq_by_cmp group_cmp k q then 1 else 0)
counted_one m n k v updates is q = updates.0 q ∙ by_key (eq_by_cmp group_cmp k q) refl
  where
    by_key : (b : Bool) → eq_by_cmp group_cmp k q ≡ b → cond b (Some v) (get group_cmp m q) ≡ with_more (get group_cmp m q) (if b then 1 else 0)
    by_key true same = ap Some (is ∙ ap (λ found. min (unwrap_or found 0 + 1) (2 ^ 64 - 1)) (sym (counted_alike m k q same)))
    by_key false same = refl

-- the group of a record is the one that the record asks
pub group_asked : (types : TypeInfo) (r : Relocation) (group asked : RecordGroup) → IsGroupOf types r group → eq_by_cmp group_cmp group asked ≡ asks types asked r
unfolding asks
group_asked types r group asked is =
    sym (tied_then (text_cmp (string_bytes group.name) (string_bytes asked.name)) (kind_cmp group.kind asked.kind))
    ∙ ap (λ name. is_eq (text_cmp name (string_bytes asked.name)) && eq_by_cmp kind_cmp group.kind asked.kind) is.name
    ∙ ap (λ kind. is_eq (text_cmp (type_label types r.type_id) (string_bytes asked.name)) && eq_by_cmp kind_cmp kind asked.kind) is.kind

-- ---- several records

nothing : (found : Option ℕ) (n : ℕ) → (n == 0) ≡ true → with_more found n ≡ found
nothing found n e = ap (λ (t : Bool). if t then found else Some (min (unwrap_or found 0 + n) (2 ^ 64 - 1))) e

positive : (found : Option ℕ) (n : ℕ) → (n == 0) ≡ false → with_more found n ≡ Some (min (unwrap_or found 0 + n) (2 ^ 64 - 1))
positive found n e = ap (λ (t : Bool). if t then found else Some (min (unwrap_or found 0 + n) (2 ^ 64 - 1))) e

-- more and still more
pub more_more : (found : Option ℕ) (a b : ℕ) → with_more (with_more found a) b ≡ with_more found (a + b)
more_more found a b = by_tests (a == 0) refl (b == 0) refl
  where
    by_tests : (s : Bool) → (a == 0) ≡ s → (t : Bool) → (b == 0) ≡ t → with_more (with_more found a) b ≡ with_more found (a + b)
    by_tests true none t e =
        let same : b ≡ a + b = omega (arith, eqb-true a 0 none) in
        ap (λ (f : Option ℕ). with_more f b) (nothing found a none) ∙ ap (λ (n : ℕ). with_more found n) same
    by_tests false some true none =
        let same : a ≡ a + b = omega (arith, eqb-true b 0 none) in
        nothing (with_more found a) b none ∙ ap (λ (n : ℕ). with_more found n) same
    by_tests false some false others =
        let sums : min (min (unwrap_or found 0 + a) (2 ^ 64 - 1) + b) (2 ^ 64 - 1) ≡ min (unwrap_or found 0 + (a + b)) (2 ^ 64 - 1) = omega arith in
        let all : (a + b == 0) ≡ false = ne_eqb (a + b) 0 (λ e. eqb-false a 0 some (omega (arith, e))) in
        positive (with_more found a) b others
        ∙ ap (λ (f : Option ℕ). Some (min (unwrap_or f 0 + b) (2 ^ 64 - 1))) (positive found a some)
        ∙ ap Some sums
        ∙ sym (positive found (a + b) all)

-- of nothing counted yet
pub all_counted : (n : ℕ) → with_more None n ≡ counted n
all_counted n =
    let same : 0 + n ≡ n = omega arith in
    ap (λ (m : ℕ). if n == 0 then None else Some (min m (2 ^ 64 - 1))) same

-- with one more of some records
pub record_more : (types : TypeInfo) (records : List Relocation) (i : ℕ) (d : Relocation) (m n : BTreeMap RecordGroup ℕ) (q : RecordGroup) (all : Option ℕ) → i < length records
    → get group_cmp n q ≡ with_more (get group_cmp m q) (if asks types q (slice_index_or records i d) then 1 else 0)
    → with_more (get group_cmp m q) (count_by (asks types q) (drop i records)) ≡ all
    → with_more (get group_cmp n q) (count_by (asks types q) (drop (i + 1) records)) ≡ all
record_more types records i d m n q all below one before =
    let x = slice_index_or records i d in
    let left = rest_more records i x below (get_or_default records i d x below) in
    let counts : count_by (asks types q) (drop i records) ≡ cond (asks types q x) 1 0 + count_by (asks types q) (drop (i + 1) records) =
    ap (count_by (asks types q)) left ∙ sum_by-cons (λ (r : Relocation). cond (asks types q r) 1 0) x (drop (i + 1) records)
    in
    ap (λ found. with_more found (count_by (asks types q) (drop (i + 1) records))) one
    ∙ more_more (get group_cmp m q) (if asks types q x then 1 else 0) (count_by (asks types q) (drop (i + 1) records))
    ∙ ap (with_more (get group_cmp m q)) (sym counts)
    ∙ before

-- with the records of one more section
pub section_more : (types : TypeInfo) (sections : List (ℕ × List Relocation)) (i : ℕ) (x : ℕ × List Relocation) (m n : BTreeMap RecordGroup ℕ) (q : RecordGroup) (all : Option ℕ) → i < length sections
    → x ≡ slice_index_or sections i x → CountsMore types m x.1 n
    → with_more (get group_cmp m q) (count_by (asks types q) (section_records (drop i sections))) ≡ all
    → with_more (get group_cmp n q) (count_by (asks types q) (section_records (drop (i + 1) sections))) ≡ all
section_more types sections i x m n q all below here more before =
    let rest = section_records (drop (i + 1) sections) in
    let counts : count_by (asks types q) (section_records (drop i sections)) ≡ count_by (asks types q) x.1 + count_by (asks types q) rest =
    ap (λ (xs : List (ℕ × List Relocation)). count_by (asks types q) (section_records xs)) (rest_more sections i x below here)
    ∙ sum_by-append (λ (r : Relocation). cond (asks types q r) 1 0) x.1 rest
    in
    ap (λ found. with_more found (count_by (asks types q) rest)) (more q)
    ∙ more_more (get group_cmp m q) (count_by (asks types q) x.1) (count_by (asks types q) rest)
    ∙ ap (with_more (get group_cmp m q)) (sym counts)
    ∙ before

-- ---- the number of all records

capped : (a b rest total : ℕ) → min (a + (b + rest)) (2 ^ 64 - 1) ≡ total → min (min (a + b) (2 ^ 64 - 1) + rest) (2 ^ 64 - 1) ≡ total
capped a b rest total is = omega arith

whole : (sum total : ℕ) → sum ≤ 2 ^ 64 - 1 → min (sum + 0) (2 ^ 64 - 1) ≡ min total (2 ^ 64 - 1) → sum ≡ min total (2 ^ 64 - 1)
whole sum total low is = omega arith

-- the number so far, and that of the sections that are left
abbrev pub Totals : List (ℕ × List Relocation) → ℕ → ℕ → Type 0
Totals sections i sum =
    (sum ≤ 2 ^ 64 - 1)
    × (min (sum + length (section_records (drop i sections))) (2 ^ 64 - 1)
    ≡ min (length (section_records sections)) (2 ^ 64 - 1))

-- with the number of one more section
pub total_more : (sections : List (ℕ × List Relocation)) (i : ℕ) (x : ℕ × List Relocation) (sum next : ℕ) → i < length sections → x ≡ slice_index_or sections i x
    → next ≡ min (sum + length x.1) (2 ^ 64 - 1) → Totals sections i sum → Totals sections (i + 1) next
total_more sections i x sum next below here is before =
    let rest = section_records (drop (i + 1) sections) in
    let all = min (length (section_records sections)) (2 ^ 64 - 1) in
    let counts : length (section_records (drop i sections)) ≡ length x.1 + length rest =
    ap (λ (xs : List (ℕ × List Relocation)). length (section_records xs)) (rest_more sections i x below here)
    ∙ length-append x.1 rest
    in
    let given : min (sum + (length x.1 + length rest)) (2 ^ 64 - 1) ≡ all =
    subst (λ (n : ℕ). min (sum + n) (2 ^ 64 - 1) ≡ all) counts before.1
    in (
      subst (λ (n : ℕ). n ≤ 2 ^ 64 - 1) (sym is) (omega arith),
      subst (λ (n : ℕ). min (n + length rest) (2 ^ 64 - 1) ≡ all) (sym is) (capped sum (length x.1) (length rest) all given),
    )

-- none is left
pub total_whole : (sections : List (ℕ × List Relocation)) (i sum : ℕ) → length sections ≤ i → Totals sections i sum → sum ≡ min (length (section_records sections)) (2 ^ 64 - 1)
total_whole sections i sum past totals =
    let none : length (section_records (drop i sections)) ≡ 0 =
    ap (λ (xs : List (ℕ × List Relocation)). length (section_records xs)) (rest_none sections i past)
    in
    whole sum (length (section_records sections)) totals.0
    (subst (λ (n : ℕ). min (sum + n) (2 ^ 64 - 1) ≡ min (length (section_records sections)) (2 ^ 64 - 1)) none totals.1)
