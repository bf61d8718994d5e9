-- What the search keeps: which references lead to functions that were found.
use Rattle.std.proofs.Common.{◌≡◌, ℕ, List, Some, ◌≢◌, zero, suc, ◌+◌, ◌<◌, ◌≤◌, [], ◌∷◌, ◌++◌, length, refl, sym, subst, inl, inr, arith}
use Rattle.std.specs.Prelude.{slice_get, ◌==◌}
use Rattle.std.proofs.lemmas.Bool.{cases_eq, eqb-true, eq-eqb, ne_eqb, cases_Bool}
use Rattle.std.proofs.lemmas.Option.{slice_get_within}
use Rattle.ebpf_base.proofs.Lists.{get_end}
use Rattle.ebpf_linker.specs.Functions.{References, SlotReference, Nothing, Faulty, Names, Among}
use Rattle.ebpf_linker.specs.Numbered.{referred, Rises, IsWithin, of_target}
use Rattle.ebpf_linker.specs.declared.reference.Reference.{Reference}
use Rattle.ebpf_linker.specs.declared.reference.Fault.{Fault}
use Rattle.ebpf_linker.specs.declared.reference.Target.TheVariants.{Function}
use Rattle.ebpf_linker.specs.declared.search.Frame.{Frame}

-- what slots refer to, by the references of each function
abbrev pub refs : (ℕ → List Reference) → References ℕ Fault
refs C k x = referred (C k) x

-- the references of each function rise
pub record Rising (C : ℕ → List Reference) : Type 0 where
  pub rises : (k : ℕ) → Rises 0 (C k)

-- .. and lead to one of N functions
pub record AreSorted (N : ℕ) (C : ℕ → List Reference) : Type 0 where
  pub rises : (k : ℕ) → Rises 0 (C k)
  pub within : (k i : ℕ) (c : Reference) → slice_get (C k) i ≡ Some c → IsWithin N c.target

abbrev pub rising : {N : ℕ} {C : ℕ → List Reference} → AreSorted N C → Rising C
rising sound = record { rises = sound.rises }

-- ---- what the search keeps: which references lead to functions that were found

-- lists by their places

pub get_more : {X : Type 0} (o ys : List X) (j : ℕ) (k : X) → slice_get o j ≡ Some k → slice_get (o ++ ys) j ≡ Some k
get_more [] ys j k e = cc
get_more (x ∷ o) ys zero k e = e
get_more (x ∷ o) ys (suc j) k e = get_more o ys j k e

pub get_back : {X : Type 0} (o ys : List X) (j : ℕ) (k : X) → j < length o → slice_get (o ++ ys) j ≡ Some k → slice_get o j ≡ Some k
get_back [] ys j k lt e = absurd (omega arith)
get_back (x ∷ o) ys zero k lt e = e
get_back (x ∷ o) ys (suc j) k lt e = get_back o ys j k (omega arith) e

-- references by their places in their list

pub at_index : (cs : List Reference) (low i : ℕ) (r : Reference) → Rises low cs → slice_get cs i ≡ Some r → (low ≤ r.slot) × (referred cs r.slot ≡ of_target r.target)
at_index [] low i r h e = cc
at_index (c ∷ cs) low zero r h e =
    let same : c ≡ r = cc in
    subst (λ (u : Reference). (low ≤ u.slot) × (referred (c ∷ cs) u.slot ≡ of_target u.target)) same (h.0, rw (eq-eqb c.slot c.slot refl) refl)
at_index (c ∷ cs) low (suc i) r h e =
    let rest = at_index cs (c.slot + 1) i r h.1 e in
    let ne : c.slot ≡ r.slot → ⊥ = λ (q : c.slot ≡ r.slot). omega (arith, rest.0, q) in
    (omega (arith, rest.0, h.0), rw (ne_eqb c.slot r.slot ne) rest.1)

pub record Indexed (cs : List Reference) (x : ℕ) : Type 0 where
  pub index : ℕ
  pub call : Reference
  pub at : slice_get cs index ≡ Some call
  pub slot : call.slot ≡ x
  pub is : referred cs x ≡ of_target call.target

pub indexed : (cs : List Reference) (x : ℕ) → referred cs x ≢ Nothing → Indexed cs x
indexed [] x h = absurd (h refl)
indexed (c ∷ cs) x h =
    elim (cases_Bool (c.slot == x)) [
      | inl e ↦ record { index = 0; call = c; at = refl; slot = eqb-true c.slot x e; is = rw e refl }
      | inr e ↦
          let h' : referred cs x ≢ Nothing = λ (n : referred cs x ≡ Nothing). h (rw e n) in
          let r = indexed cs x h' in
          record { index = suc r.index; call = r.call; at = r.at; slot = r.slot; is = rw e r.is }
    ]

pub rises_index : (cs : List Reference) (low i j : ℕ) (r s : Reference) → Rises low cs → slice_get cs i ≡ Some r → slice_get cs j ≡ Some s → r.slot < s.slot → i < j
rises_index [] low i j r s h e f lt = cc
rises_index (c ∷ cs) low zero zero r s h e f lt =
    let same : r.slot ≡ s.slot = cc in absurd (omega arith)
rises_index (c ∷ cs) low zero (suc j) r s h e f lt = omega arith
rises_index (c ∷ cs) low (suc i) zero r s h e f lt =
    let a = at_index cs (c.slot + 1) i r h.1 e in
    let same : c.slot ≡ s.slot = cc in
    absurd (omega (arith, a.0, same))
rises_index (c ∷ cs) low (suc i) (suc j) r s h e f lt = omega (arith, rises_index cs (c.slot + 1) i j r s h.1 e f lt)

-- one of the functions found, after the first, below n
abbrev pub Found : List ℕ → ℕ → SlotReference ℕ Fault → Type 0
Found o n Nothing = ⊥
Found o n (Faulty e) = ⊥
Found o n (Names k) = (j : ℕ) × (0 < j) × (j < n) × (slice_get o j ≡ Some k)

pub found_up : (o : List ℕ) (m n : ℕ) (r : SlotReference ℕ Fault) → m ≤ n → Found o m r → Found o n r
found_up o m n Nothing le h = absurd h
found_up o m n (Faulty e) le h = absurd h
found_up o m n (Names k) le (j, pos, lt, e) = (j, pos, omega arith, e)

pub found_more : (o ys : List ℕ) (n : ℕ) (r : SlotReference ℕ Fault) → Found o n r → Found (o ++ ys) n r
found_more o ys n Nothing h = absurd h
found_more o ys n (Faulty e) h = absurd h
found_more o ys n (Names k) (j, pos, lt, e) = (j, pos, lt, get_more o ys j k e)

abbrev pub copies : List Frame → List ℕ
copies [] = []
copies (e ∷ es) = e.copy ∷ copies es

-- the references of f lead to functions found below n, those from index next on aside
pub record Done (C : ℕ → List Reference) (o : List ℕ) (n f next : ℕ) : Type 0 where
  pub leads : (i : ℕ) (r : Reference) → i < next → slice_get (C f) i ≡ Some r → Found o n (of_target r.target)

-- in each function found below n that is not open, all references do
pub record AreDone (C : ℕ → List Reference) (o : List ℕ) (n : ℕ) (es : List Frame) : Type 0 where
  pub leads : (c f i : ℕ) (r : Reference) → c < n → slice_get o c ≡ Some f → (Among (copies es) c → ⊥) → slice_get (C f) i ≡ Some r → Found o n (of_target r.target)

pub record Entry (C : ℕ → List Reference) (o : List ℕ) (n : ℕ) (e : Frame) : Type 0 where
  pub function : slice_get o e.copy ≡ Some e.function
  pub below : e.copy < n
  pub done : Done C o n e.function e.next

-- the next reference of f leads to e
pub record Leads (C : ℕ → List Reference) (f e : Frame) : Type 0 where
  pub call : Reference
  pub at : slice_get (C f.function) f.next ≡ Some call
  pub to : call.target ≡ Function e.function

-- the open functions, the last one first, when n functions were found: what held when each was opened still holds of those that were found before it
abbrev pub Held : (ℕ → List Reference) → List ℕ → ℕ → List Frame → Type 0
Held C o n [] = AreDone C o n []
Held C o n (e ∷ []) = AreDone C o n (e ∷ []) × Entry C o n e × (e.copy ≡ 0)
Held C o n (e ∷ f ∷ es) = AreDone C o n (e ∷ f ∷ es) × Entry C o n e × Leads C f e × Held C o e.copy (f ∷ es)

module _ (C : ℕ → List Reference) where
  pub held_done : (o : List ℕ) (n : ℕ) (e : Frame) (es : List Frame) → Held C o n (e ∷ es) → AreDone C o n (e ∷ es)
  held_done o n e [] h = h.0
  held_done o n e (f ∷ es) h = h.0

  pub held_entry : (o : List ℕ) (n : ℕ) (e : Frame) (es : List Frame) → Held C o n (e ∷ es) → Entry C o n e
  held_entry o n e [] h = h.1
  held_entry o n e (f ∷ es) h = h.1

  done_up : (o : List ℕ) (m n f next : ℕ) → m ≤ n → Done C o m f next → Done C o n f next
  done_up o m n f next le h = record { leads = λ i r lt at. found_up o m n (of_target r.target) le (h.leads i r lt at) }

  entry_up : (o : List ℕ) (m n : ℕ) (e : Frame) → m ≤ n → Entry C o m e → Entry C o n e
  entry_up o m n e le h = record { function = h.function; below = omega (arith, h.below); done = done_up o m n e.function e.next le h.done }

  -- the same functions are open, and what is settled is given
  raised : (o : List ℕ) (m n : ℕ) (e : Frame) (es : List Frame) → m ≤ n → AreDone C o n (e ∷ es) → Held C o m (e ∷ es) → Held C o n (e ∷ es)
  raised o m n e [] le s h = (s, entry_up o m n e le h.1, h.2)
  raised o m n e (f ∷ es) le s h = (s, entry_up o m n e le h.1, h.2, h.3)

  done_pop : (o : List ℕ) (n : ℕ) (e : Frame) (es : List Frame) → length (C e.function) ≤ e.next → AreDone C o n (e ∷ es) → Entry C o n e → AreDone C o n es
  done_pop o n e es over s t =
      record {
        leads = λ c f i r lt at apart call.
            elim (cases_eq c e.copy) [
              | inl same ↦
                  let is : f ≡ e.function = cc (t.function) in
                  let call' : slice_get (C e.function) i ≡ Some r = subst (λ (u : ℕ). slice_get (C u) i ≡ Some r) is call in
                  t.done.leads i r (omega (arith, slice_get_within (C e.function) i r call')) call'
              | inr other ↦ s.leads c f i r lt at (λ a. elim a [ inl x ↦ other (sym x) | inr x ↦ apart x ]) call
            ];
      }

  -- a function whose references are all done is no longer open
  pub held_pop : (o : List ℕ) (n : ℕ) (e : Frame) (es : List Frame) → length (C e.function) ≤ e.next → Held C o n (e ∷ es) → Held C o n es
  held_pop o n e [] over h = done_pop o n e [] over h.0 h.1
  held_pop o n e (f ∷ es) over h = raised o e.copy n f es (omega (arith, h.1.below)) (done_pop o n e (f ∷ es) over h.0 h.1) h.3

  done_next : (o : List ℕ) (n f next : ℕ) (r : Reference) → slice_get (C f) next ≡ Some r → Found o n (of_target r.target) → Done C o n f next → Done C o n f (next + 1)
  done_next o n f next r at found h =
      record {
        leads = λ i s lt at'.
            elim (cases_eq i next) [
              | inl same ↦ let is : r ≡ s = cc in subst (λ (u : Reference). Found o n (of_target u.target)) is found
              | inr other ↦ h.leads i s (omega arith) at'
            ];
      }

  entry_next : (o : List ℕ) (n : ℕ) (e : Frame) (r : Reference) → slice_get (C e.function) e.next ≡ Some r → Found o n (of_target r.target) → Entry C o n e → Entry C o n (record e { next = e.next + 1 })
  entry_next o n e r at found h = record { function = h.function; below = h.below; done = done_next o n e.function e.next r at found h.done }

  -- a reference to a function that was found
  pub held_next : (o : List ℕ) (n : ℕ) (e : Frame) (es : List Frame) (r : Reference) → slice_get (C e.function) e.next ≡ Some r → Found o n (of_target r.target) → Held C o n (e ∷ es) → Held C o n (record e { next = e.next + 1 } ∷ es)
  held_next o n e [] r at found h = (record { leads = h.0.leads }, entry_next o n e r at found h.1, h.2)
  held_next o n e (f ∷ es) r at found h = (record { leads = h.0.leads }, entry_next o n e r at found h.1, record { call = h.2.call; at = h.2.at; to = h.2.to }, h.3)

  done_more : (o ys : List ℕ) (n : ℕ) (es : List Frame) → n ≤ length o → AreDone C o n es → AreDone C (o ++ ys) n es
  done_more o ys n es le s =
      record { leads = λ c f i r lt at apart call. found_more o ys n (of_target r.target) (s.leads c f i r lt (get_back o ys c f (omega arith) at) apart call) }

  entry_more : (o ys : List ℕ) (n : ℕ) (e : Frame) → Entry C o n e → Entry C (o ++ ys) n e
  entry_more o ys n e h =
      record {
        function = get_more o ys e.copy e.function h.function;
        below = h.below;
        done = record { leads = λ i r lt at. found_more o ys n (of_target r.target) (h.done.leads i r lt at) };
      }

  held_more : (o ys : List ℕ) (n : ℕ) (es : List Frame) → n ≤ length o → Held C o n es → Held C (o ++ ys) n es
  held_more o ys n [] le h = done_more o ys n [] le h
  held_more o ys n (e ∷ []) le h = (done_more o ys n (e ∷ []) le h.0, entry_more o ys n e h.1, h.2)
  held_more o ys n (e ∷ f ∷ es) le h =
      (done_more o ys n (e ∷ f ∷ es) le h.0, entry_more o ys n e h.1, h.2, held_more o ys e.copy (f ∷ es) (omega (arith, h.1.below)) h.3)

  -- a reference to a function that was not found, which is opened
  pub held_push : (o : List ℕ) (k : ℕ) (e : Frame) (es : List Frame) (r : Reference) → slice_get (C e.function) e.next ≡ Some r → r.target ≡ Function k → Held C o (length o) (e ∷ es) → Held C (o ++ k ∷ []) (length o + 1) (record { copy = length o; function = k; next = 0 } ∷ e ∷ es)
  held_push o k e es r at to h = (
    record {
      leads = λ c f i s lt at' apart call.
          elim (cases_eq c (length o)) [
            | inl same ↦ absurd (apart (inl (sym same)))
            | inr other ↦
                let below : c < length o = omega arith in
                let was = get_back o (k ∷ []) c f below at' in
                let found = (held_done o (length o) e es h).leads c f i s below was (λ a. apart (inr a)) call in
                found_up (o ++ k ∷ []) (length o) (length o + 1) (of_target s.target) (omega arith) (found_more o (k ∷ []) (length o) (of_target s.target) found)
          ];
    },
    record { function = get_end o k; below = omega arith; done = record { leads = λ i s lt call. absurd (omega arith) } },
    record { call = r; at = at; to = to },
    held_more o (k ∷ []) (length o) (e ∷ es) (omega arith) h,
  )
