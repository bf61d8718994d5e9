-- From the functions that were found to the program that is written.
use Rattle.std.proofs.Common.{◌≡◌, ◌≢◌, ℕ, zero, suc, ◌+◌, ◌-◌, ◌<◌, ◌≤◌, List, [], ◌∷◌, length, take, drop, Some, None, refl, sym, ap, ◌∙◌, subst, inl, inr, arith}
use Rattle.std.specs.Prelude.{slice_get, All, Vec, Result, Ok}
use Rattle.std.specs.declared.alloc.Global.{Global}
use Rattle.std.proofs.lemmas.List.Elements.{All-nil, All-cons, All-get_or}
use Rattle.ebpf_linker.specs.declared.body.Body.{Body}
use Rattle.ebpf_linker.specs.declared.body.LinkedProgram.{LinkedProgram}
use Rattle.ebpf_linker.specs.declared.reference.Fault.{Fault}
use Rattle.ebpf_linker.specs.declared.reference.Target.{Target}
use Rattle.ebpf_linker.specs.declared.reference.Target.TheVariants.{Function, Nowhere}
use Rattle.ebpf_linker.specs.declared.reference.Reference.{Reference}
use Rattle.ebpf_linker.specs.Functions.{Nothing, Names, FunctionContent, Among, last_key_or, total}
use Rattle.ebpf_linker.specs.Faults.{checked_references, append_fault, has_some}
use Rattle.ebpf_linker.specs.Result.{IsOrder, linked_func_info, linked_line_info, has_lines, count_if, IsProgram}
use Rattle.ebpf_linker.specs.Search.{IsFound, Finds}
use Rattle.ebpf_linker.specs.Copies.{body_at, with_bases, linked_copies, bodies_slot_count, Fit, IsReady}
use Rattle.ebpf_linker.specs.Numbered.{of_target, referred, calls_at, functions_by_number, option_content, IsWithin, Sound}
use Rattle.ebpf_linker.proofs.Paths.{walk_last, last_of_last}
use Rattle.ebpf_linker.proofs.Held.{at_index, indexed}
use Rattle.ebpf_linker.proofs.Checked.{plain, all_at}
use Rattle.ebpf_linker.proofs.OneResult.{no_longer}
use Rattle.ebpf_linker.proofs.Whole.{is_linked, size_same}

target_within : (n : ℕ) (t : Target) (k : ℕ) → IsWithin n t → of_target t ≡ Names k → k < n
target_within n (Function m) k h e = let z : m ≡ k = cc in omega (arith, h, z)
target_within n (Nowhere d) k h e = cc

of_some : (t : Target) → of_target t ≢ Nothing
of_some (Function k) e = cc
of_some (Nowhere d) e = cc

pub all_within : (n : ℕ) (ks : List ℕ) → ((k : ℕ) → Among ks k → k < n) → All (λ k. k < n) ks
all_within n [] h = All-nil (λ (k : ℕ). k < n)
all_within n (k ∷ ks) h = All-cons (λ (m : ℕ). m < n) k ks (h k (inl refl)) (all_within n ks (λ m a. h m (inr a)))

some_at : (cs : List Reference) → 0 < length cs → (c : Reference) × (slice_get cs 0 ≡ Some c)
some_at [] lt = absurd (omega arith)
some_at (c ∷ cs) lt = (c, refl)

get_body : (B : List Body) (k : ℕ) → k < length B → (b : Body) × (slice_get B k ≡ Some b)
get_body [] k lt = absurd (omega arith)
get_body (b ∷ B) zero lt = (b, refl)
get_body (b ∷ B) (suc k) lt = get_body B k (omega arith)

take_whole : (n : ℕ) (ks : List ℕ) → n ≡ length ks → take n ks ≡ ks
take_whole zero [] e = refl
take_whole (suc n) [] e = absurd (omega arith)
take_whole zero (k ∷ ks) e = absurd (omega arith)
take_whole (suc n) (k ∷ ks) e = let f : n ≡ length ks = omega arith in ap (λ (u : List ℕ). k ∷ u) (take_whole n ks f)

-- a list without its first number
tail_is : (l : List ℕ) (p : ℕ) (ks : List ℕ) → l ≡ p ∷ ks → take (length l - 1) (drop 1 l) ≡ ks
tail_is l p ks e = rw e (take_whole (length (p ∷ ks) - 1) ks (omega arith))

module _ (B : List Body) (C : List (Vec Reference Global)) (p : ℕ) where
  pub all_in : (ks : List ℕ) (k : ℕ) → All (λ m. m < length B) ks → Among ks k → k < length B
  all_in [] k h a = absurd a
  all_in (m ∷ ks) k h (inl e) = subst (λ (u : ℕ). u < length B) e (All-get_or (λ (u : ℕ). u < length B) (m ∷ ks) 0 0 (omega arith) h)
  all_in (m ∷ ks) k h (inr a) = all_in ks k (λ i d lt. h (suc i) d (omega arith)) a

  content_some : (k : ℕ) → k < length B → (c : FunctionContent) × ((functions_by_number B C).content k ≡ Some c)
  content_some k lt = let (b, at) = get_body B k lt in (_, ap option_content at)

  -- the functions of an order are functions
  order_within : (ks : List ℕ) → Sound (length B) C → p < length B → IsOrder (functions_by_number B C).reference p ks → (k : ℕ) → Among (p ∷ ks) k → k < length B
  order_within ks sound lt order k (inl e) = subst (λ (u : ℕ). u < length B) e lt
  order_within ks sound lt order k (inr a) =
      let R = (functions_by_number B C).reference in
      let r = order.reached k a in
      let l = walk_last R p r.0 r.1 r.2 r.3 in
      let some : referred (calls_at C (last_key_or p l.keys)) l.slot ≢ Nothing = λ (z : referred (calls_at C (last_key_or p l.keys)) l.slot ≡ Nothing). cc (l.leads) in
      let i = indexed (calls_at C (last_key_or p l.keys)) l.slot some in
      let end : l.key ≡ k = sym (ap (last_key_or p) l.keys_are ∙ last_of_last p l.keys l.key) ∙ r.4 in
      let inside = all_at B p (length B) (calls_at C (last_key_or p l.keys)) i.index i.call (sound.within (last_key_or p l.keys)) i.at in
      subst (λ (u : ℕ). u < length B) end (target_within (length B) i.call.target l.key inside (sym i.is ∙ l.leads))

  fit_all : (ks : List ℕ) (b : ℕ) → ((j k : ℕ) → slice_get ks j ≡ Some k → append_fault (functions_by_number B C) k (b + total (functions_by_number B C) (take j ks)) ≡ None) → Fit B b ks
  fit_all [] b h = tt
  fit_all (k ∷ ks) b h = (
    (let z : b + 0 ≡ b = omega arith in subst (λ (u : ℕ). append_fault (functions_by_number B C) k u ≡ None) z (h 0 k refl)),
    fit_all ks (b + length (body_at B k)) (λ j m at.
        let z : b + (length (body_at B k) + total (functions_by_number B C) (take j ks)) ≡ b + length (body_at B k) + total (functions_by_number B C) (take j ks) = omega arith in
        subst (λ (u : ℕ). append_fault (functions_by_number B C) m u ≡ None) z (h (suc j) m at)),
  )

  short : (ks : List ℕ) → Sound (length B) C → IsFound (functions_by_number B C) (checked_references (functions_by_number B C) p) p ks → (k : ℕ) → 0 < length (calls_at C k) → Among (p ∷ ks) k → bodies_slot_count B (p ∷ ks) ≤ 2147483647
  short ks sound found k lt a =
      let (c, at) = some_at (calls_at C k) lt in
      let is = (at_index (calls_at C k) 0 0 c (sound.rises k) at).1 in
      let order = plain (functions_by_number B C) p ks found.order in
      let some : referred (calls_at C k) c.slot ≢ Nothing = λ (z : referred (calls_at C k) c.slot ≡ Nothing). of_some c.target (sym is ∙ z) in
      let (m, names, b) = order.resolved k c.slot a some in
      let room = found.room m b in
      let size = size_same B C (p ∷ ks) in
      omega (arith, room, size)

  ready : (ks : List ℕ) → Sound (length B) C → p < length B → IsFound (functions_by_number B C) (checked_references (functions_by_number B C) p) p ks → IsReady B C p ks
  ready ks sound lt found =
      let order = plain (functions_by_number B C) p ks found.order in
      let within = order_within ks sound lt order in
      record {
        layout = record { order = order; functions = λ k a. content_some k (within k (inr a)); faultless = found.faultless };
        start = lt;
        copies = all_within (length B) ks (λ k a. within k (inr a));
        order = all_within (length B) (p ∷ ks) within;
        fit = fit_all ks (length (body_at B p)) found.fits;
        short = short ks sound found;
      }

  -- the program that was written
  pub is_program : (ks : List ℕ) (bases : List ℕ) (l : LinkedProgram) → IsReady B C p ks → (before : List ℕ) → length before ≡ length B → bases ≡ with_bases B (length (body_at B p)) before ks → l.slots ≡ linked_copies B C bases 0 (p ∷ ks) → l.func_info ≡ linked_func_info (functions_by_number B C) p ks → l.line_info ≡ linked_line_info (functions_by_number B C) p ks → l.func_count ≡ count_if (has_some ks) l.func_info → l.line_count ≡ count_if (has_lines (functions_by_number B C) ks) l.line_info → IsProgram (functions_by_number B C) p ks l
  is_program ks bases l h before count places slots funcs lines func_count line_count =
      let linked = is_linked B C p ks l.slots bases h.layout.order (λ m a. all_in ks m h.copies a) before count places slots in
      record {
        layout = h.layout;
        linked = linked;
        func_info = funcs;
        line_info = lines;
        func_count = func_count;
        line_count = line_count;
        bound = λ all covers. no_longer (functions_by_number B C) p ks all _ h.layout linked.size covers;
      }

-- the functions that were found, as the search answers them
pub laid_out : (B : List Body) (C : List (Vec Reference Global)) (p : ℕ) (answer : Result (Vec ℕ Global) Fault) (v : Vec ℕ Global) → Sound (length B) C → p < length B → Finds (functions_by_number B C) (checked_references (functions_by_number B C) p) p answer → answer ≡ Ok v → (ks : List ℕ) × (v.items ≡ p ∷ ks) × IsReady B C p ks
laid_out B C p answer v sound lt found is =
    let (ks, e, h) = subst (Finds (functions_by_number B C) (checked_references (functions_by_number B C) p) p) is found in
    (ks, e, ready B C p ks sound lt h)

-- those after the program
pub ready_of : (B : List Body) (C : List (Vec Reference Global)) (p : ℕ) (order o : List ℕ) → (ks : List ℕ) × (order ≡ p ∷ ks) × IsReady B C p ks → o ≡ order → IsReady B C p (take (length o - 1) (drop 1 o)) × (o ≡ p ∷ take (length o - 1) (drop 1 o))
ready_of B C p order o (ks, e, h) same =
    let t = tail_is o p ks (same ∙ e) in
    (subst (IsReady B C p) (sym t) h, same ∙ e ∙ ap (λ (u : List ℕ). p ∷ u) (sym t))
