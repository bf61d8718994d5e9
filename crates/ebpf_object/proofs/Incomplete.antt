-- Descriptors that are given by name, one after the other.
use Rattle.std.proofs.Common.{◌≡◌, ◌<◌, ◌+◌, ◌++◌, ℕ, Bool, true, false, List, [], ◌∷◌, length, map, drop, Bor, Option, Some, None, refl, sym, ap, ◌∙◌, inl, inr}
use Rattle.std.specs.Prelude.{ℤ, slice_index_or, not, if◌then◌else◌}
use Rattle.std.proofs.lemmas.List.{append_assoc}
use Rattle.std.specs.FinMap.{FinMap, contains_key, insert}
use Rattle.ebpf_base.proofs.Lists.{rest_more}
use Rattle.ebpf_base.specs.Maps.{put_all, text_cmp}
use Rattle.ebpf_object.proofs.Staging.{other_fault}
use Rattle.ebpf_object.specs.Prepared.{NamesNothing, RefusesPreparing, is_prepare_memory}
use Rattle.ebpf_object.specs.Stages.{CompleteFdsFault, Descriptor, Wrapped, descriptor_of, fds_fault, given_fault, unknown_maps}
use Rattle.ebpf_object.specs.declared.object.Object.{Object}
use Rattle.ebpf_object.specs.declared.prepare_error.PrepareError.{PrepareError}
use Rattle.ebpf_object.specs.declared.prepare_error.PrepareError.TheVariants.{Maps, UnwrittenExtern}

-- one more descriptor
pub one_by_name : (before : FinMap text_cmp ℤ) (ds : List (Bor (List ℕ) × ℤ)) (i : ℕ) (d : Bor (List ℕ) × ℤ)
    → i < length ds → d ≡ slice_index_or ds i d
    → put_all (insert before d.0.now d.1) (map descriptor_of (drop (i + 1) ds)) ≡ put_all before (map descriptor_of (drop i ds))
one_by_name before ds i d below here = sym (ap (λ rest. put_all before (map descriptor_of rest)) (rest_more ds i d below here))

module _ (o : Object) (ds : List (Bor (List ℕ) × ℤ)) (i : ℕ) (d : Bor (List ℕ) × ℤ) (below : i < length ds) (here : d ≡ slice_index_or ds i d) where
  abbrev rest_unknown : List (List ℕ)
  rest_unknown = unknown_maps o (map descriptor_of (drop (i + 1) ds))

  more : (b : Bool) → contains_key o.maps d.0.now ≡ b → unknown_maps o (map descriptor_of (drop i ds)) ≡ (if not b then d.0.now ∷ rest_unknown else rest_unknown)
  more b is = ap (λ rest. unknown_maps o (map descriptor_of rest)) (rest_more ds i d below here) ∙ ap (λ known. if not known then d.0.now ∷ rest_unknown else rest_unknown) is

  -- a name that no map has
  pub one_unknown : (before : List (List ℕ)) (copy : List ℕ) → contains_key o.maps d.0.now ≡ false → copy ≡ d.0.now
      → (before ++ copy ∷ []) ++ rest_unknown ≡ before ++ unknown_maps o (map descriptor_of (drop i ds))
  one_unknown before copy absent same =
      append_assoc before (copy ∷ []) rest_unknown
      ∙ ap (λ n. before ++ n ∷ rest_unknown) same
      ∙ ap (λ rest. before ++ rest) (sym (more false absent))

  -- a name that a map has
  pub one_known : contains_key o.maps d.0.now ≡ true → rest_unknown ≡ unknown_maps o (map descriptor_of (drop i ds))
  one_known there = sym (more true there)

-- ---- an extern that is refused

pub not_written_extern : (Fault : List ℕ → Type 0) (name : List ℕ) → Fault name → RefusesPreparing (Wrapped UnwrittenExtern Fault) (UnwrittenExtern name)
not_written_extern Fault name fault = (name, refl, fault)

-- ---- complete descriptors that are refused

module _ (ds : List Descriptor) (o : Object) (e : PrepareError) where
  pub not_complete : RefusesPreparing (λ e. given_fault (Some ds) true o ≡ Some e) e → RefusesPreparing (CompleteFdsFault ds o) e
  not_complete r = other_fault (is_prepare_memory e) (NamesNothing e) (given_fault (Some ds) true o ≡ Some e) (CompleteFdsFault ds o e) (λ f. inl f) r

  pub not_written : given_fault (Some ds) true o ≡ None → RefusesPreparing (Wrapped Maps (λ own. fds_fault (Some ds) o ≡ Some own)) e → RefusesPreparing (CompleteFdsFault ds o) e
  not_written complete r =
      other_fault (is_prepare_memory e) (NamesNothing e) (Wrapped Maps (λ own. fds_fault (Some ds) o ≡ Some own) e) (CompleteFdsFault ds o e) (λ f. inr (complete, f)) r
