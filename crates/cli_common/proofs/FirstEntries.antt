-- What stands in a map that entries were put into where their keys were new.
use Rattle.std.proofs.Common.{◌≡◌, Bool, true, false, cond, List, [], ◌∷◌, Option, Some, None, refl, sym, ap, ◌∙◌}
use Rattle.std.specs.Cmp.{IsTotalOrder}
use Rattle.std.specs.FinMap.{FinMap, IsAntisymmetric, entries, empty, find, get, insert, get-empty, get-entries, get-insert}
use Rattle.std.specs.Option.{is_some, option_map, option_or}
use Rattle.std.specs.Ordering.{eq_by_cmp}
use Rattle.std.specs.declared.cmp.Ordering.{Ordering}
use Rattle.ebpf_base.specs.Maps.{map_values, mapped_entries}
use Rattle.ebpf_base.proofs.Mapped.{map_values-from_get}
use Rattle.ebpf_base.proofs.Maps.{is_equal}
use Rattle.cli_common.specs.HelperCalls.{put_first, put_firsts}

or_none : {X : Type 0} (x : Option X) → x ≡ option_or x None
or_none None = refl
or_none (Some v) = refl

module _ {K X : Type 0} {R : K → K → Ordering} (o : IsTotalOrder R) (exact : IsAntisymmetric R) where
  -- one more
  get-put_first : (m : FinMap R X) (k : K) (v : X) (q : K) → get (put_first m k v) q ≡ option_or (get m q) (cond (eq_by_cmp R q k) (Some v) None)
  get-put_first m k v q = by_found (get m k) refl (eq_by_cmp R q k) refl
    where
      by_found : (found : Option X) → get m k ≡ found → (b : Bool) → eq_by_cmp R q k ≡ b
          → get (cond (is_some found) m (insert m k v)) q ≡ option_or (get m q) (cond b (Some v) None)
      by_found (Some w) is true same =
          let here : get m q ≡ Some w = ap (get m) (exact q k (is_equal (R q k) same)) ∙ is in
          rw here refl
      by_found (Some w) is false same = or_none (get m q)
      by_found None is true same =
          let here : get m q ≡ None = ap (get m) (exact q k (is_equal (R q k) same)) ∙ is in
          get-insert o m k v q ∙ ap (λ b. cond b (Some v) (get m q)) same ∙ sym (ap (λ x. option_or x (Some v)) here)
      by_found None is false same =
          get-insert o m k v q ∙ ap (λ b. cond b (Some v) (get m q)) same ∙ or_none (get m q)

  regroup : (x : Option X) (b : Bool) (v : X) (rest : Option X) → option_or (option_or x (cond b (Some v) None)) rest ≡ option_or x (cond b (Some v) rest)
  regroup (Some w) b v rest = refl
  regroup None true v rest = refl
  regroup None false v rest = refl

  -- the first with a key stands, where none was there
  pub first_stands : (m : FinMap R X) (es : List (K × X)) (q : K) → get (put_firsts m es) q ≡ option_or (get m q) (find R q es)
  first_stands m [] q = or_none (get m q)
  first_stands m (e ∷ es) q =
      first_stands (put_first m e.0 e.1) es q
      ∙ ap (λ x. option_or x (find R q es)) (get-put_first m e.0 e.1 q)
      ∙ regroup (get m q) (eq_by_cmp R q e.0) e.1 (find R q es)

module _ {K V W : Type 0} (R : K → K → Ordering) (f : V → W) where
  find-mapped : (q : K) (es : List (K × V)) → find R q (mapped_entries f es) ≡ option_map f (find R q es)
  find-mapped q [] = refl
  find-mapped q (e ∷ es) = by_key (eq_by_cmp R q e.0) (find-mapped q es)
    where
      by_key : (b : Bool) → find R q (mapped_entries f es) ≡ option_map f (find R q es)
          → cond b (Some (f e.1)) (find R q (mapped_entries f es)) ≡ option_map f (cond b (Some e.1) (find R q es))
      by_key true later = refl
      by_key false later = later

module _ {K V W : Type 0} {R : K → K → Ordering} (f : V → W) where
  -- the entries of a map, each made anew
  pub put_firsts-map_values : IsTotalOrder R → IsAntisymmetric R → (m : FinMap R V) → put_firsts empty (mapped_entries f (entries m)) ≡ map_values f m
  put_firsts-map_values o exact m = map_values-from_get f o exact m _ (λ q.
      first_stands o exact empty (mapped_entries f (entries m)) q
      ∙ ap (λ x. option_or x (find R q (mapped_entries f (entries m)))) (get-empty R q)
      ∙ find-mapped R f q (entries m)
      ∙ ap (option_map f) (sym (get-entries m q)))
