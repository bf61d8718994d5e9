-- The records, sections and objects so far have the same outcomes.
use Rattle.std.proofs.Common.{◌≡◌, ◌+◌, ◌<◌, ◌≤◌, ℕ, Bool, true, List, length, take, subst}
use Rattle.std.proofs.lemmas.List.{take_all}
use Rattle.std.proofs.lemmas.List.Elements.{All-more, All-weaker}
use Rattle.std.specs.Bool.{OnTrue}
use Rattle.std.specs.Prelude.{All, slice_index_or}
use Rattle.ebpf_btf.specs.TypeInfo.{TypeInfo}
use Rattle.ebpf_btf_ext.specs.declared.relocation.Relocation.{Relocation}
use Rattle.ebpf_core.specs.Searches.{Sides}
use Rattle.ebpf_least_types.specs.LeastTypes.{HasSameOutcome, HaveOutcomesBySection, HaveSameOutcomes}
use Rattle.ebpf_object.specs.declared.object.Object.{Object}

module _ {X : Type 0} (P : X → Type 0) where
  more : (xs : List X) (i : ℕ) (x : X) → i < length xs → x ≡ slice_index_or xs i x → All P (take i xs) → P x → All P (take (i + 1) xs)
  more xs i x below here so_far next = All-more P xs i x below so_far (subst P here next)

  whole : (xs : List X) (n : ℕ) → length xs ≤ n → All P (take n xs) → All P xs
  whole xs n end so_far = subst (All P) (take_all n xs end) so_far

-- a search's two sides after a turn are those before
module _ (kernel0 types0 kernel types : Sides) (same_kernel : kernel ≡ kernel0) (same_types : types ≡ types0) where
  abbrev Same : Relocation → Type 0
  Same = HasSameOutcome kernel0.local kernel0.target types0.target

  abbrev Now : Relocation → Type 0
  Now = HasSameOutcome kernel.local kernel.target types.target

  as_before : (r : Relocation) → Now r → Same r
  as_before r now =
      subst (λ k. HasSameOutcome k.local k.target types0.target r) same_kernel
      (subst (λ t. HasSameOutcome kernel.local kernel.target t.target r) same_types now)

  on_true : (P : Type 0) (b : Bool) → OnTrue b P → b ≡ true → P
  on_true P b found is = subst (λ b. OnTrue b P) is found

  pub record_more : (rs : List Relocation) (i : ℕ) (d : Relocation) (b : Bool) → i < length rs
      → All Same (take i rs) → OnTrue b (Now (slice_index_or rs i d)) → b ≡ true → All Same (take (i + 1) rs)
  record_more rs i d b below so_far found is =
      All-more Same rs i d below so_far (as_before (slice_index_or rs i d) (on_true (Now (slice_index_or rs i d)) b found is))

  pub section_more : (sections : List (ℕ × List Relocation)) (i : ℕ) (section : ℕ × List Relocation) (b : Bool) → i < length sections
      → section ≡ slice_index_or sections i section
      → All (λ section. All Same section.1) (take i sections) → OnTrue b (All Now section.1) → b ≡ true
      → All (λ section. All Same section.1) (take (i + 1) sections)
  section_more sections i section b below here so_far found is =
      more (λ section. All Same section.1) sections i section below here so_far
      (All-weaker Now Same as_before section.1 (on_true (All Now section.1) b found is))

module _ (local kernel types : TypeInfo) where
  pub records_all : (rs : List Relocation) (n : ℕ) → length rs ≤ n → All (HasSameOutcome local kernel types) (take n rs)
      → All (HasSameOutcome local kernel types) rs
  records_all = whole (HasSameOutcome local kernel types)

  pub sections_all : (sections : List (ℕ × List Relocation)) (n : ℕ) → length sections ≤ n
      → HaveOutcomesBySection local kernel types (take n sections) → HaveOutcomesBySection local kernel types sections
  sections_all = whole (λ section. All (HasSameOutcome local kernel types) section.1)

module _ (kernel types : TypeInfo) where
  pub object_more : (objects : List Object) (i : ℕ) (o : Object) (b : Bool) → i < length objects → o ≡ slice_index_or objects i o
      → All (λ o. HaveSameOutcomes o kernel types) (take i objects) → OnTrue b (HaveSameOutcomes o kernel types) → b ≡ true
      → All (λ o. HaveSameOutcomes o kernel types) (take (i + 1) objects)
  object_more objects i o b below here so_far found is =
      more (λ o. HaveSameOutcomes o kernel types) objects i o below here so_far (subst (λ b. OnTrue b (HaveSameOutcomes o kernel types)) is found)

  pub objects_all : (objects : List Object) (n : ℕ) → length objects ≤ n → All (λ o. HaveSameOutcomes o kernel types) (take n objects)
      → All (λ o. HaveSameOutcomes o kernel types) objects
  objects_all = whole (λ o. HaveSameOutcomes o kernel types)
