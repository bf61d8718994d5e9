-- Types with changes, by their ids.
use Rattle.std.proofs.Common.{◌≡◌, ◌+◌, ◌==◌, ℕ, zero, suc, Bool, true, false, cond, List, [], ◌∷◌, ◌++◌, length, drop, Some, refl, sym, ap, ◌∙◌, arith}
use Rattle.std.specs.Prelude.{slice_get}
use Rattle.std.proofs.lemmas.Bool.Decides.{nat_tests}
use Rattle.std.proofs.Math.Seq.{drop-append_seam}
use Rattle.ebpf_btf.specs.declared.types.BtfType.{BtfType}
use Rattle.ebpf_btf.specs.declared.types.BtfType.TheVariants.{DataSec, FuncProto, Var}
use Rattle.ebpf_btf_load.specs.KernelTypes.{OtherTypesStay, StandinsAreLast, TypesKeepIds, Change, TypeChange, changed, changed_at, changed_by, changes_of, kernel_type_info, may_change, standin_types, standins_of, types_changes, with_change, with_changes}

-- ---- one change

change_here : (id k : ℕ) (f : BtfType → BtfType) (ts : List BtfType) (t : BtfType) → slice_get ts k ≡ Some t → id ≡ k → slice_get (changed_at id f ts) k ≡ Some (f t)
change_here id k f [] t is same = cc
change_here zero zero f (u ∷ us) t is same = let first : u ≡ t = cc in ap (λ v. Some (f v)) first
change_here zero (suc k) f (u ∷ us) t is same = absurd (omega arith)
change_here (suc id) zero f (u ∷ us) t is same = absurd (omega arith)
change_here (suc id) (suc k) f (u ∷ us) t is same = change_here id k f us t is (omega arith)

change_elsewhere : (id k : ℕ) (f : BtfType → BtfType) (ts : List BtfType) → (id ≡ k → ⊥) → slice_get (changed_at id f ts) k ≡ slice_get ts k
change_elsewhere id k f [] other = refl
change_elsewhere zero zero f (u ∷ us) other = absurd (other refl)
change_elsewhere zero (suc k) f (u ∷ us) other = refl
change_elsewhere (suc id) zero f (u ∷ us) other = refl
change_elsewhere (suc id) (suc k) f (u ∷ us) other = change_elsewhere id k f us (λ same. other (ap suc same))

one_change : (c : TypeChange) (ts : List BtfType) (k : ℕ) (t : BtfType) → slice_get ts k ≡ Some t
    → slice_get (with_change ts c) k ≡ Some (cond (c.id == k) (changed t c.change) t)
one_change c ts k t is = by_test (c.id == k) refl
  where
    by_test : (b : Bool) → (c.id == k) ≡ b → slice_get (with_change ts c) k ≡ Some (cond b (changed t c.change) t)
    by_test true e = let same : c.id ≡ k = grind (arith, nat_tests) in change_here c.id k (λ t. changed t c.change) ts t is same
    by_test false e = change_elsewhere c.id k (λ t. changed t c.change) ts (λ same. let is_true : (c.id == k) ≡ true = grind (arith, nat_tests) in cc) ∙ is

all_changes : (cs : List TypeChange) (ts : List BtfType) (k : ℕ) (t : BtfType) → slice_get ts k ≡ Some t → slice_get (with_changes ts cs) k ≡ Some (changed_by cs k t)
all_changes [] ts k t is = is
all_changes (c ∷ cs) ts k t is = all_changes cs (with_change ts c) k (cond (c.id == k) (changed t c.change) t) (one_change c ts k t is)

-- ---- the list

pub before_others : {X : Type 0} (xs ys : List X) (k : ℕ) (x : X) → slice_get xs k ≡ Some x → slice_get (xs ++ ys) k ≡ Some x
before_others [] ys k x is = cc
before_others (u ∷ us) ys zero x is = is
before_others (u ∷ us) ys (suc k) x is = before_others us ys k x is

length_change : (id : ℕ) (f : BtfType → BtfType) (ts : List BtfType) → length (changed_at id f ts) ≡ length ts
length_change id f [] = refl
length_change zero f (t ∷ ts) = refl
length_change (suc id) f (t ∷ ts) = ap suc (length_change id f ts)

length_changes : (cs : List TypeChange) (ts : List BtfType) → length (with_changes ts cs) ≡ length ts
length_changes [] ts = refl
length_changes (c ∷ cs) ts = length_changes cs (with_change ts c) ∙ length_change c.id (λ t. changed t c.change) ts

pub types_keep_ids : TypesKeepIds
unfolding kernel_type_info changes_of
types_keep_ids g id t is =
    let changes = types_changes g (standins_of g) 0 g.types.types in
    before_others (with_changes g.types.types changes) (standin_types g.types (standins_of g)) id (changed_by changes id t) (all_changes changes g.types.types id t is)

pub standins_are_last : StandinsAreLast
unfolding kernel_type_info
standins_are_last g =
    let changes = types_changes g (standins_of g) 0 g.types.types in
    let front = with_changes g.types.types changes in
    let long : length g.types.types ≡ length front = sym (length_changes changes g.types.types) in
    ap (λ n. drop n (front ++ standin_types g.types (standins_of g))) long ∙ drop-append_seam front (standin_types g.types (standins_of g))

-- ---- types that stay

change_stays : (t : BtfType) (c : Change) → may_change t ≡ false → changed t c ≡ t
unfolding may_change changed
change_stays (DataSec n s r) c e = cc
change_stays (Var n s l) c e = cc
change_stays (FuncProto n s ps) c e = cc
change_stays t c e = refl

stays_by : (cs : List TypeChange) (id : ℕ) (t : BtfType) → may_change t ≡ false → changed_by cs id t ≡ t
stays_by [] id t stays = refl
stays_by (c ∷ cs) id t stays = ap (changed_by cs id) (one (c.id == id)) ∙ stays_by cs id t stays
  where
    one : (b : Bool) → cond b (changed t c.change) t ≡ t
    one true = change_stays t c.change stays
    one false = refl

pub other_types_stay : OtherTypesStay
other_types_stay g id t is stays = types_keep_ids g id t is ∙ ap Some (stays_by (changes_of g) id t stays)
