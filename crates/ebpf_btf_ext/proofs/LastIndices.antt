-- The indices of the last sections of some names.
use Rattle.std.proofs.Common.{◌≡◌, ℕ, ◌+◌, ◌≤◌, Bool, true, false, cond, List, [], ◌∷◌, length, take, drop, Option, Some, None, Result, Ok, Err, refl, sym, ap, subst, ◌∙◌, arith}
use Rattle.std.specs.Bool.{MatchBool}
use Rattle.std.specs.Prelude.{◌==◌, ⊤, OnOk, is_some, option_map, slice_get, if◌then◌else◌}
use Rattle.std.specs.FinMap.{FinMap, get, insert, empty, get-insert, get-empty}
use Rattle.std.specs.List.{position}
use Rattle.std.specs.Ordering.{eq_by_cmp}
use Rattle.std.specs.Str.{bytes_eq}
use Rattle.std.proofs.lemmas.Slice.Eq.{bytes_eq-Decides}
use Rattle.ebpf_base.proofs.TextMaps.{text_exact, same_tests}
use Rattle.ebpf_base.proofs.Maps.{is_equal}
use Rattle.ebpf_base.specs.Faults.{fault_of}
use Rattle.ebpf_btf.specs.Next.{if_some}
use Rattle.ebpf_base.specs.Maps.{last_at, text_cmp, text_total}
use Rattle.ebpf_btf.proofs.LongNames.{too_long}
use Rattle.ebpf_btf.specs.Memory.{is_btf_memory}
use Rattle.ebpf_btf.specs.Strings.{is_text, text_at}
use Rattle.ebpf_btf.specs.declared.error.BtfError.{BtfError}
use Rattle.ebpf_btf_ext.specs.SectionNames.{by_offsets, sections_with_names}
use Rattle.ebpf_btf_ext.specs.PrivateContracts.{with_index, section_at, IsIndexSet, AreLastIndices, AreUnset, NoneLonger}
use Rattle.ebpf_btf_ext.proofs.SectionNames.{from_all, one_last}

-- ---- names that are wanted

-- no name is wanted
pub none_unset : (longest : ℕ) (m : FinMap text_cmp (Option ℕ)) → m ≡ empty → AreUnset longest m
none_unset longest m is = record { is = λ q p at. let wrong : None ≡ Some p = sym (get-empty text_cmp q) ∙ ap (λ x. get x q) (sym is) ∙ at in absurd (cc) }

-- one more name that is wanted
pub unset_more : (longest more : ℕ) (m n : FinMap text_cmp (Option ℕ)) (name : List ℕ) → AreUnset longest m → longest ≤ more → length name ≤ more → n ≡ insert m name None → AreUnset more n
unset_more longest more m n name before up here is = record { is = λ q p at. step q p (eq_by_cmp text_cmp q name) refl (sym (ap (λ x. get x q) is ∙ get-insert text_total m name None q) ∙ at) }
  where
    step : (q : List ℕ) (p : Option ℕ) (b : Bool) → eq_by_cmp text_cmp q name ≡ b → cond (eq_by_cmp text_cmp q name) (Some None) (get m q) ≡ Some p → (p ≡ None) × (length q ≤ more)
    step q p true t at =
        let same : q ≡ name = text_exact q name (is_equal _ t) in
        let value : Some None ≡ Some p = sym (ap (λ b. cond b (Some None) (get m q)) t) ∙ at in
        (cc, omega (arith, ap length same))
    step q p false t at =
        let there : get m q ≡ Some p = sym (ap (λ b. cond b (Some None) (get m q)) t) ∙ at in
        let was : (p ≡ None) × (length q ≤ longest) = before.is q p there in
        (was.0, omega (arith, was.1))

-- ---- one section

module _ (m : FinMap text_cmp (Option ℕ)) (name : List ℕ) (index : ℕ) (q : List ℕ) (now : Option ℕ) where
  abbrev Found : Bool → Type 0
  Found b = (had : Option ℕ) × (get m q ≡ Some had) × (now ≡ (if b then Some index else had))

  -- the index of a name, once one was set
  index_set : get (with_index m name index) q ≡ Some now → Found (bytes_eq name q)
  unfolding with_index
  index_set at = by_had (get m name) refl at
    where
      absent : (b : Bool) → bytes_eq name q ≡ b → get m name ≡ None → get m q ≡ Some now → Found b
      absent true p none there =
          let same : name ≡ q = (bytes_eq-Decides name q).0 p in
          let wrong : None ≡ Some now = sym none ∙ ap (get m) same ∙ there in
          absurd (cc)
      absent false p none there = (now, there, refl)

      put : (b : Bool) → bytes_eq name q ≡ b → (had : Option ℕ) → get m name ≡ Some had → cond b (Some (Some index)) (get m q) ≡ Some now → Found b
      put true p had is there =
          let same : name ≡ q = (bytes_eq-Decides name q).0 p in
          let value : Some index ≡ now = cc in
          (had, ap (get m) (sym same) ∙ is, sym value)
      put false p had is there = (now, there, refl)

      by_had : (o : Option (Option ℕ)) → get m name ≡ o → get (if_some o (λ _. insert m name (Some index)) m) q ≡ Some now → Found (bytes_eq name q)
      by_had None is there = absent (bytes_eq name q) refl is there
      by_had (Some had) is there =
          put (bytes_eq name q) refl had is
          (sym (get-insert text_total m name (Some index) q ∙ ap (λ b. cond b (Some (Some index)) (get m q)) (same_tests q name)) ∙ there)

module _ (strings : List ℕ) (offset index : ℕ) (m : FinMap text_cmp (Option ℕ)) where
  same_indices : ((q : List ℕ) (p : Option ℕ) → get m q ≡ Some p → is_text q (text_at strings offset) ≡ false) → IsIndexSet strings offset index m m
  same_indices other = record { is = λ q p at. (p, at, ap (λ b. if b then Some index else p) (sym (other q p at))) }

  -- a name that is longer than those that are wanted
  pub long_name : (longest : ℕ) (bytes : List ℕ) → NoneLonger longest m → bytes ≡ take (longest + 1) (drop offset strings) → is_some (position (λ b. b == 0) bytes) ≡ false → IsIndexSet strings offset index m m
  long_name longest bytes within are none = same_indices (λ q p at. too_long strings bytes q offset longest are none (within.is q p at))

  -- a name that can't be read
  pub no_name : (e : BtfError) → fault_of (text_at strings offset) ≡ Some e → IsIndexSet strings offset index m m
  no_name e is = same_indices (λ q p at. by_read (text_at strings offset) is q)
    where
      by_read : (r : Result (List ℕ) BtfError) → fault_of r ≡ Some e → (q : List ℕ) → is_text q r ≡ false
      by_read (Ok name) is q = absurd (cc)
      by_read (Err d) is q = refl

  -- one that can't be read, or for which memory was refused
  pub refused_name : {X E : Type 0} (r : Result X E) (e : BtfError) → OnOk r (is_btf_memory e ≡ false) → MatchBool (is_btf_memory e) ⊤ (fault_of (text_at strings offset) ≡ Some e) → OnOk r (IsIndexSet strings offset index m m)
  refused_name (Err d) e other fault = tt
  refused_name (Ok x) e other fault = no_name e (subst (λ b. MatchBool b ⊤ (fault_of (text_at strings offset) ≡ Some e)) other fault)

  -- a name that was read
  pub read_name : (name : List ℕ) (n : FinMap text_cmp (Option ℕ)) → text_at strings offset ≡ Ok name → n ≡ with_index m name index → IsIndexSet strings offset index m n
  read_name name n is put = record {
    is = λ q now at.
        let p : (had : Option ℕ) × (get m q ≡ Some had) × (now ≡ (if bytes_eq name q then Some index else had)) = index_set m name index q now (ap (λ x. get x q) (sym put) ∙ at) in
        (p.0, p.1, p.2 ∙ ap (λ r. if is_text q r then Some index else p.0) (sym is));
  }

-- ---- the sections that are left

-- the sections at the indices so far, and those that are left, give what all sections give
pub record AreLeft {S : Type 0} (strings : List ℕ) (sections : List (ℕ × S)) (longest : ℕ) (m : FinMap text_cmp (Option ℕ)) (rest : List (ℕ × S)) : Type 0 where
  pub within : NoneLonger longest m
  pub is : (q : List ℕ) (p : Option ℕ) → get m q ≡ Some p → last_at text_cmp q (section_at sections p) (sections_with_names strings rest) ≡ get (by_offsets strings sections) q

pub within_unset : (longest : ℕ) (m : FinMap text_cmp (Option ℕ)) → AreUnset longest m → NoneLonger longest m
within_unset longest m unset_indices = record { is = λ q p at. (unset_indices.is q p at).1 }

module _ {S : Type 0} (strings : List ℕ) (sections : List (ℕ × S)) (longest : ℕ) where
  pub all_left : (m : FinMap text_cmp (Option ℕ)) → AreUnset longest m → AreLeft strings sections longest m sections
  all_left m unset_indices = record {
    within = within_unset longest m unset_indices;
    is = λ q p at. ap (λ o. last_at text_cmp q (section_at sections o) (sections_with_names strings sections)) (unset_indices.is q p at).0 ∙ from_all strings q sections;
  }

  pub none_left : (m : FinMap text_cmp (Option ℕ)) → AreLeft strings sections longest m [] → AreLastIndices strings sections m
  none_left m left = record { is = left.is }

  pub one_less : (m n : FinMap text_cmp (Option ℕ)) (i : ℕ) (s : ℕ × S) (rest : List (ℕ × S)) → AreLeft strings sections longest m (s ∷ rest)
      → IsIndexSet strings s.0 i m n → slice_get sections i ≡ Some s → AreLeft strings sections longest n rest
  one_less m n i s rest left with_index here = record {
    within = record { is = λ q p at. let was = with_index.is q p at in left.within.is q was.0 was.1 };
    is = λ q p at.
        let was : (had : Option ℕ) × (get m q ≡ Some had) × (p ≡ (if is_text q (text_at strings s.0) then Some i else had)) = with_index.is q p at in
        ap (λ o. last_at text_cmp q (section_at sections o) (sections_with_names strings rest)) was.2
        ∙ ap (λ o. last_at text_cmp q o (sections_with_names strings rest)) (by_test (is_text q (text_at strings s.0)) was.0)
        ∙ sym (one_last strings q (section_at sections was.0) s.1 (text_at strings s.0) (sections_with_names strings rest))
        ∙ left.is q was.0 was.1;
  }
    where
      by_test : (b : Bool) (had : Option ℕ) → section_at sections (if b then Some i else had) ≡ (if b then Some s.1 else section_at sections had)
      by_test true had = ap (option_map (λ (x : ℕ × S). x.1)) here
      by_test false had = refl
