-- What patches make of the bytes of map data.
use Rattle.std.proofs.Common.{◌≡◌, ℕ, ◌+◌, ◌-◌, ◌<◌, ◌≤◌, true, false, cond, List, [], ◌∷◌, length, Option, Some, None, option_map, refl, sym, ap, subst, ◌∙◌, arith, slice_get, ◌⊎◌, inl, inr, ⊎_elim}
use Rattle.std.specs.FinMap.{FinMap, get, get-insert, nat_cmp-IsAntisymmetric, slice_cmp-IsAntisymmetric}
use Rattle.std.specs.Ordering.{eq_by_cmp}
use Rattle.std.specs.Cmp.{eq_by_cmp_equiv}
use Rattle.std.proofs.lemmas.Bool.{cases_lt}
use Rattle.ebpf_base.specs.Maps.{text_cmp, text_total}
use Rattle.ebpf_base.proofs.Maps.{is_equal}
use Rattle.ebpf_parts.specs.Maps.{bytes_of, with_bytes}
use Rattle.ebpf_parts.specs.declared.maps.either.Map.{Map}
use Rattle.ebpf_parts.specs.declared.maps.either.Map.TheVariants.{Legacy, Btf}
use Rattle.ebpf_object.specs.Patches.{PatchValue, overwritten, with_patch, patched_at, all_patched, map_data_of, Covers, byte_at}
use Rattle.ebpf_object.proofs.Values.{overwritten_long, overwritten_beside, overwritten_within}

-- texts are one or differ
pub one_or_other : (a b : List ℕ) → (a ≡ b) ⊎ (eq_by_cmp text_cmp a b ≡ false)
one_or_other a b = elim (eq_by_cmp text_cmp a b) as (λ t. eq_by_cmp text_cmp a b ≡ t → (a ≡ b) ⊎ (eq_by_cmp text_cmp a b ≡ false)) [
  | true ↦ λ e. inl (slice_cmp-IsAntisymmetric nat_cmp-IsAntisymmetric a b (is_equal _ e))
  | false ↦ λ e. inr e
] refl

-- ---- a map with other bytes

bytes_of-with_bytes : (m : Map) (bytes : List ℕ) → bytes_of (with_bytes m bytes) ≡ bytes
bytes_of-with_bytes (Legacy m) bytes = refl
bytes_of-with_bytes (Btf m) bytes = refl

with_own_bytes : (m : Map) → m ≡ with_bytes m (bytes_of m)
with_own_bytes (Legacy m) = refl
with_own_bytes (Btf m) = refl

with_bytes_twice : (m : Map) (a b : List ℕ) → with_bytes (with_bytes m a) b ≡ with_bytes m b
with_bytes_twice (Legacy m) a b = refl
with_bytes_twice (Btf m) a b = refl

-- the same map but for its bytes, or none and none
abbrev pub ButForBytes : Option Map → Option Map → Type 0
ButForBytes before after = after ≡ option_map (λ m. with_bytes m (map_data_of after)) before

as_before : (z : Option Map) → ButForBytes z z
as_before None = refl
as_before (Some m) = ap Some (with_own_bytes m)

with_bytes_twice_in : (z : Option Map) (a b : List ℕ) → option_map (λ m. with_bytes m b) (option_map (λ m. with_bytes m a) z) ≡ option_map (λ m. with_bytes m b) z
with_bytes_twice_in None a b = refl
with_bytes_twice_in (Some m) a b = ap Some (with_bytes_twice m a b)

but_twice : (x y z : Option Map) → ButForBytes x y → ButForBytes y z → ButForBytes x z
but_twice x y z e f = f ∙ ap (option_map (λ m. with_bytes m (map_data_of z))) e ∙ with_bytes_twice_in x (map_data_of y) (map_data_of z)

-- ---- one patch

abbrev data_at : FinMap text_cmp Map → List ℕ → List ℕ
data_at maps k = map_data_of (get maps k)

-- what is written at the patch's own name
abbrev written : PatchValue → Option Map → Option Map
written p z = option_map (λ m. with_bytes m (overwritten (bytes_of m) p.offset p.bytes)) z

written_data : (p : PatchValue) (z : Option Map) → length (map_data_of (written p z)) ≡ length (map_data_of z)
written_data p None = refl
written_data p (Some m) = ap length (bytes_of-with_bytes m _) ∙ overwritten_long (bytes_of m) p.bytes p.offset

written_beside : (p : PatchValue) (z : Option Map) (i : ℕ) → (i < p.offset) ⊎ (p.offset + length p.bytes ≤ i) → slice_get (map_data_of (written p z)) i ≡ slice_get (map_data_of z) i
written_beside p None i side = refl
written_beside p (Some m) i side = ap (λ l. slice_get l i) (bytes_of-with_bytes m _) ∙ overwritten_beside (bytes_of m) p.bytes p.offset i side

written_within : (p : PatchValue) (z : Option Map) (i : ℕ) → p.offset + length p.bytes ≤ length (map_data_of z) → p.offset ≤ i → i < p.offset + length p.bytes → slice_get (map_data_of (written p z)) i ≡ slice_get p.bytes (i - p.offset)
written_within p None i fits low high = absurd (let no : ⊥ = omega arith in no)
written_within p (Some m) i fits low high = ap (λ l. slice_get l i) (bytes_of-with_bytes m _) ∙ overwritten_within (bytes_of m) p.bytes p.offset i fits low high

written_but : (p : PatchValue) (z : Option Map) → ButForBytes z (written p z)
written_but p None = refl
written_but p (Some m) = ap (λ l. Some (with_bytes m l)) (sym (bytes_of-with_bytes m _))

module _ (maps : FinMap text_cmp Map) (p : PatchValue) where
  at_own : (z : Option Map) → get maps p.map_name ≡ z → get (patched_at maps p z) p.map_name ≡ written p z
  at_own None e = e
  at_own (Some m) e = get-insert text_total maps p.map_name _ p.map_name ∙ ap (λ b. cond b (Some (with_bytes m (overwritten (bytes_of m) p.offset p.bytes))) (get maps p.map_name)) ((eq_by_cmp_equiv text_total).refl p.map_name)

  own : get (with_patch maps p) p.map_name ≡ written p (get maps p.map_name)
  own = at_own (get maps p.map_name) refl

  at_other : (k : List ℕ) (z : Option Map) → eq_by_cmp text_cmp k p.map_name ≡ false → get (patched_at maps p z) k ≡ get maps k
  at_other k None e = refl
  at_other k (Some m) e = get-insert text_total maps p.map_name _ k ∙ ap (λ b. cond b (Some (with_bytes m (overwritten (bytes_of m) p.offset p.bytes))) (get maps k)) e

  other : (k : List ℕ) → eq_by_cmp text_cmp k p.map_name ≡ false → get (with_patch maps p) k ≡ get maps k
  other k e = at_other k (get maps p.map_name) e

  pub patched_long : (k : List ℕ) → length (data_at (with_patch maps p) k) ≡ length (data_at maps k)
  patched_long k = ⊎_elim
      (λ e. subst (λ q. length (data_at (with_patch maps p) q) ≡ length (data_at maps q)) (sym e) (ap (λ z. length (map_data_of z)) own ∙ written_data p (get maps p.map_name)))
      (λ e. ap (λ z. length (map_data_of z)) (other k e))
      (one_or_other k p.map_name)

  patched_but : (k : List ℕ) → ButForBytes (get maps k) (get (with_patch maps p) k)
  patched_but k = ⊎_elim
      (λ e. subst (λ q. ButForBytes (get maps q) (get (with_patch maps p) q)) (sym e) (subst (ButForBytes (get maps p.map_name)) (sym own) (written_but p (get maps p.map_name))))
      (λ e. subst (ButForBytes (get maps k)) (sym (other k e)) (as_before (get maps k)))
      (one_or_other k p.map_name)

  -- an offset that it does not cover
  pub patched_beside : (k : List ℕ) (i : ℕ) → (Covers p k i → ⊥) → byte_at (with_patch maps p) k i ≡ byte_at maps k i
  patched_beside k i apart = ⊎_elim
      (λ e.
      let side : (i < p.offset) ⊎ (p.offset + length p.bytes ≤ i) = ⊎_elim inl (λ low. ⊎_elim (λ high. absurd (apart (sym e, low, high))) inr (cases_lt i (p.offset + length p.bytes))) (cases_lt i p.offset) in
      subst (λ q. byte_at (with_patch maps p) q i ≡ byte_at maps q i) (sym e) (ap (λ z. slice_get (map_data_of z) i) own ∙ written_beside p (get maps p.map_name) i side))
      (λ e. ap (λ z. slice_get (map_data_of z) i) (other k e))
      (one_or_other k p.map_name)

  -- an offset that it covers
  pub patched_within : (k : List ℕ) (i : ℕ) → Covers p k i → p.offset + length p.bytes ≤ length (data_at maps p.map_name) → byte_at (with_patch maps p) k i ≡ slice_get p.bytes (i - p.offset)
  patched_within k i covers fits =
      subst (λ q. byte_at (with_patch maps p) q i ≡ slice_get p.bytes (i - p.offset)) covers.0
      (ap (λ z. slice_get (map_data_of z) i) own ∙ written_within p (get maps p.map_name) i fits covers.1 covers.2)

-- ---- all patches

pub all_long : (patches : List PatchValue) (maps : FinMap text_cmp Map) (k : List ℕ) → length (data_at (all_patched maps patches) k) ≡ length (data_at maps k)
all_long [] maps k = refl
all_long (p ∷ patches) maps k = all_long patches (with_patch maps p) k ∙ patched_long maps p k

pub all_but : (patches : List PatchValue) (maps : FinMap text_cmp Map) (k : List ℕ) → ButForBytes (get maps k) (get (all_patched maps patches) k)
all_but [] maps k = as_before (get maps k)
all_but (p ∷ patches) maps k = but_twice (get maps k) (get (with_patch maps p) k) _ (patched_but maps p k) (all_but patches (with_patch maps p) k)
