-- What linking one program gives, by its key, and the programs that are linked so far.
use Rattle.std.proofs.Common.{◌≡◌, ◌<◌, ℕ, Bool, true, false, List, length, Option, Some, None, Ok, Err, refl, sym, ap, subst, ◌∙◌, ⊎_elim, arith, ◌≤◌, ◌+◌, cond, drop}
use Rattle.std.specs.Prelude.{slice_get, is_some, MatchBool, MatchOption, ⊤, Result, IfOk, slice_index_or, ◌||◌}
use Rattle.std.specs.declared.alloc.AllocError.{AllocError}
use Rattle.std.specs.FinMap.{get, entries, FinMap, contains_key, insert, empty, get-insert, get-empty}
use Rattle.std.proofs.lemmas.List.{length-map}
use Rattle.std.proofs.lemmas.Option.{slice_get_cases, slice_get-get_or, get_or_from_slice_get}
use Rattle.std.specs.List.{list_any}
use Rattle.std.specs.Ordering.{eq_by_cmp}
use Rattle.std.proofs.lemmas.Bool.{cases_lt}
use Rattle.ebpf_base.proofs.Maps.{key_exact, is_equal}
use Rattle.ebpf_base.proofs.Lists.{rest_more, rest_none}
use Rattle.ebpf_base.specs.Maps.{key_cmp, key_total}
use Rattle.ebpf_linker.proofs.Behaves.{same_behaviour}
use Rattle.ebpf_linker.proofs.Visits.{same_visits}
use Rattle.ebpf_linker.specs.Faults.{LeastFault, checked_references}
use Rattle.ebpf_linker.specs.Result.{IsProgram}
use Rattle.ebpf_linker.specs.declared.body.LinkedProgram.{LinkedProgram}
use Rattle.ebpf_model.specs.Symbols.{FunctionKey}
use Rattle.ebpf_model.specs.Memory.{is_slot_memory, is_memory_at}
use Rattle.ebpf_model.specs.declared.error.EbpfRelocationError.{EbpfRelocationError}
use Rattle.ebpf_model.specs.declared.error.RelocationError.{RelocationError}
use Rattle.ebpf_model.specs.declared.error.RelocationError.TheVariants.{UnknownProgram}
use Rattle.ebpf_model.specs.declared.function.Function.{Function}
use Rattle.ebpf_reloc.proofs.CallsRefer.{calls_refer}
use Rattle.ebpf_reloc.proofs.Keys.{count_keys, function_at, has_number}
use Rattle.ebpf_reloc.specs.Linking.{ProgramValue, key_of, with_linked, IsLinked, IsProgramFault, IsProgramRefusal, AreLinked, IsFirstRefusal}
use Rattle.ebpf_reloc.specs.Numbers.{function_keys, function_list, key_in}
use Rattle.ebpf_reloc.specs.PrivateContracts.{number_of_key}
use Rattle.ebpf_reloc.specs.References.{functions_of}
use Rattle.ebpf_reloc.specs.SlotTargets.{LinkableValue}

-- what holds holds also where memory was refused
pub unless_memory : {P : Type 0} (b : Bool) → P → MatchBool b ⊤ P
unless_memory true p = tt
unless_memory false p = p

module _ (parts : LinkableValue) where
  abbrev keys : List (ℕ × ℕ)
  keys = function_keys parts.functions

  abbrev fs : List Function
  fs = function_list parts.functions

  pub is_linked : (number : ℕ) (f : Function) (order : List FunctionKey) (l : LinkedProgram) (r : Result Function AllocError) → number < length keys → slice_get fs number ≡ Some f → IsProgram (functions_of parts) (key_in keys number) order l → IfOk r (λ g. g ≡ with_linked f l)
      → IfOk r (λ g. IsLinked parts (key_in keys number) g)
  is_linked number f order l (Err x) lt at h e = tt
  is_linked number f order l (Ok g) lt at h e = record {
    function = f;
    stands = function_at parts.functions number lt ∙ at;
    made = l;
    is = e;
    order = order;
    program = h;
    visits = λ on. same_visits (functions_of parts) (key_in keys number) order l.slots h.linked (calls_refer parts) on;
    behaviour = λ on. same_behaviour (functions_of parts) (key_in keys number) order l.slots h.linked (calls_refer parts) on;
  }

  fault_where : (key : FunctionKey) (e : RelocationError) (o : Option Function) → (o ≡ None → ⊥) → LeastFault (functions_of parts) (checked_references (functions_of parts) key) key e
      → MatchOption o (e ≡ UnknownProgram key.0 key.1) (λ _. LeastFault (functions_of parts) (checked_references (functions_of parts) key) key e)
  fault_where key e None there h = absurd (there refl)
  fault_where key e (Some f) there h = h

  pub is_fault : (number : ℕ) (e : RelocationError) → number < length keys → LeastFault (functions_of parts) (checked_references (functions_of parts) (key_in keys number)) (key_in keys number) e → IsProgramFault parts (key_in keys number) e
  is_fault number e lt h = fault_where (key_in keys number) e (get parts.functions (key_in keys number)) there h
    where
      there : get parts.functions (key_in keys number) ≡ None → ⊥
      there none =
          let gone : slice_get fs number ≡ None = sym (function_at parts.functions number lt) ∙ none in
          ⊎_elim (λ s. clash s.0 (sym gone ∙ s.2)) (λ past. omega (arith, past.0, lt, length-map (entries parts.functions) (λ e. e.1), count_keys parts.functions)) (slice_get_cases fs number).1
        where
          clash : (x : Function) → None ≡ Some x → ⊥
          clash x e = cc

  -- no function stands at a key without a number
  pub no_program : (key : FunctionKey) → number_of_key keys key ≡ None → IsProgramFault parts key (UnknownProgram key.0 key.1)
  no_program key none = step (get parts.functions key) (has_number parts.functions key ∙ ap is_some none)
    where
      step : (o : Option Function) → is_some o ≡ false → MatchOption o (UnknownProgram key.0 key.1 ≡ UnknownProgram key.0 key.1) (λ _. LeastFault (functions_of parts) (checked_references (functions_of parts) key) key (UnknownProgram key.0 key.1))
      step None h = refl
      step (Some f) h = cc

-- a fault, with the program's name
pub with_name : (parts : LinkableValue) (program : ProgramValue) (error : RelocationError) (e : EbpfRelocationError) → MatchBool (is_memory_at e) ⊤ (e ≡ record { function = program.name; error = error })
    → MatchBool (is_slot_memory error) ⊤ (IsProgramFault parts (key_of program) error) → MatchBool (is_memory_at e) ⊤ (IsProgramRefusal parts program e)
with_name parts program error e is fault = step (is_memory_at e) refl is
  where
    step : (b : Bool) → is_memory_at e ≡ b → MatchBool b ⊤ (e ≡ record { function = program.name; error = error }) → MatchBool b ⊤ (IsProgramRefusal parts program e)
    step true at h = tt
    step false at h =
        let other : is_slot_memory error ≡ false = sym (ap is_memory_at h) ∙ at in
        let stands : IsProgramFault parts (key_of program) error = subst (λ (b : Bool). MatchBool b ⊤ (IsProgramFault parts (key_of program) error)) other fault in
        subst (λ (x : EbpfRelocationError). IsProgramRefusal parts program x) (sym h) (refl, stands)

-- ---- the programs that are linked so far

abbrev has_key : FunctionKey → ProgramValue → Bool
has_key key program = eq_by_cmp key_cmp key (key_of program)

-- the first programs are linked, and their keys are those with a function
pub record SoFar (parts : LinkableValue) (programs : List ProgramValue) (i : ℕ) (linked : FinMap key_cmp Function) : Type 0 where
  pub keys : (key : FunctionKey) → (contains_key linked key || list_any (λ p. eq_by_cmp key_cmp key (key_of p)) (drop i programs)) ≡ list_any (λ p. eq_by_cmp key_cmp key (key_of p)) programs
  pub each : (key : FunctionKey) (g : Function) → get linked key ≡ Some g → IsLinked parts key g
  pub before : (k : ℕ) (earlier : ProgramValue) → k < i → slice_get programs k ≡ Some earlier → (g : Function) × IsLinked parts (key_of earlier) g

or_false : (b : Bool) → (b || false) ≡ b
or_false true = refl
or_false false = refl

module _ (parts : LinkableValue) (programs : List ProgramValue) where
  pub none_yet : SoFar parts programs 0 empty
  none_yet = record {
    keys = λ key. ap (λ (o : Option Function). is_some o || list_any (has_key key) programs) (get-empty key_cmp key);
    each = λ key g at. absurd_none (sym (get-empty key_cmp key) ∙ at);
    before = λ k earlier lt at. absurd (omega (arith, lt));
  }
    where
      absurd_none : {P : Type 0} {g : Function} → None ≡ Some g → P
      absurd_none e = cc

  module _ (i : ℕ) (linked : FinMap key_cmp Function) (so_far : SoFar parts programs i linked) where
    pub all_linked : length programs ≤ i → AreLinked parts programs linked
    all_linked past = record {
      keys = λ key. sym (or_false (contains_key linked key)) ∙ ap (λ rest. contains_key linked key || list_any (has_key key) rest) (sym (rest_none programs i past)) ∙ so_far.keys key;
      each = so_far.each;
    }

    module _ (program : ProgramValue) (below : i < length programs) (at_here : slice_get programs i ≡ Some program) where
      here : program ≡ slice_index_or programs i program
      here = sym (get_or_from_slice_get programs i program program at_here)

      pub first_fault : (e : EbpfRelocationError) → IsProgramRefusal parts program e → IsFirstRefusal parts programs e
      first_fault e refused = record { index = i; program = program; at = at_here; refused = refused; before = so_far.before }

      module _ (has : contains_key linked (key_of program) ≡ true) where
        keys_same : (a b c d : Bool) → (b ≡ true → a ≡ true) → (a || (b || c)) ≡ d → (a || c) ≡ d
        keys_same true b c d within h = h
        keys_same false true c d within h = let e = within refl in cc
        keys_same false false c d within h = h

        within : (key : FunctionKey) → eq_by_cmp key_cmp key (key_of program) ≡ true → contains_key linked key ≡ true
        within key at = ap (contains_key linked) (key_exact key (key_of program) (is_equal _ at)) ∙ has

        value : (o : Option Function) → get linked (key_of program) ≡ o → is_some o ≡ true → (g : Function) × IsLinked parts (key_of program) g
        value None at e = cc
        value (Some g) at e = (g, so_far.each (key_of program) g at)

        -- a program at a key that is linked
        pub linked_before : SoFar parts programs (i + 1) linked
        linked_before = record {
          keys = λ key.
              let rest : list_any (has_key key) (drop i programs) ≡ (has_key key program || list_any (has_key key) (drop (i + 1) programs)) = ap (list_any (has_key key)) (rest_more programs i program below here) in
              keys_same (contains_key linked key) (has_key key program) (list_any (has_key key) (drop (i + 1) programs)) (list_any (has_key key) programs) (within key)
              (ap (λ (b : Bool). contains_key linked key || b) (sym rest) ∙ so_far.keys key);
          each = so_far.each;
          before = λ k earlier lt at. ⊎_elim
              (λ (low : k < i). so_far.before k earlier low at)
              (λ (high : i ≤ k).
              let index : k ≡ i = omega arith in
              let same : Some earlier ≡ Some program = sym at ∙ ap (slice_get programs) index ∙ at_here in
              let equal : earlier ≡ program = cc in
              subst (λ (p : ProgramValue). (x : Function) × IsLinked parts (key_of p) x) (sym equal) (value (get linked (key_of program)) refl has))
              (cases_lt k i);
        }

      module _ (g : Function) (is : IsLinked parts (key_of program) g) where
        keys_more : (a b c d : Bool) (h : (a || (b || c)) ≡ d) → (is_some (cond b (Some g) (cond a (Some g) None)) || c) ≡ d
        keys_more true true c d h = h
        keys_more true false c d h = h
        keys_more false true c d h = h
        keys_more false false c d h = h

        same_some : (o : Option Function) (b : Bool) → is_some (cond b (Some g) o) ≡ is_some (cond b (Some g) (cond (is_some o) (Some g) None))
        same_some None true = refl
        same_some None false = refl
        same_some (Some x) true = refl
        same_some (Some x) false = refl

        each_more : (key : FunctionKey) (h : Function) (b : Bool) → eq_by_cmp key_cmp key (key_of program) ≡ b → cond b (Some g) (get linked key) ≡ Some h → IsLinked parts key h
        each_more key h true at e =
            let same : key ≡ key_of program = key_exact key (key_of program) (is_equal _ at) in
            let value : g ≡ h = cc in
            subst (λ (k : FunctionKey). IsLinked parts k h) (sym same) (subst (λ (x : Function). IsLinked parts (key_of program) x) value is)
        each_more key h false at e = so_far.each key h e

        one_more : SoFar parts programs (i + 1) (insert linked (key_of program) g)
        one_more = record {
          keys = λ key.
              let rest : list_any (has_key key) (drop i programs) ≡ (has_key key program || list_any (has_key key) (drop (i + 1) programs)) = ap (list_any (has_key key)) (rest_more programs i program below here) in
              ap (λ (o : Option Function). is_some o || list_any (has_key key) (drop (i + 1) programs)) (get-insert key_total linked (key_of program) g key)
              ∙ ap (λ (b : Bool). b || list_any (has_key key) (drop (i + 1) programs)) (same_some (get linked key) (has_key key program))
              ∙ keys_more (contains_key linked key) (has_key key program) (list_any (has_key key) (drop (i + 1) programs)) (list_any (has_key key) programs)
              (ap (λ (b : Bool). contains_key linked key || b) (sym rest) ∙ so_far.keys key);
          each = λ key h at. each_more key h (has_key key program) refl (sym (get-insert key_total linked (key_of program) g key) ∙ at);
          before = λ k earlier lt at. ⊎_elim
              (λ (low : k < i). so_far.before k earlier low at)
              (λ (high : i ≤ k).
              let index : k ≡ i = omega arith in
              let same : Some earlier ≡ Some program = sym at ∙ ap (slice_get programs) index ∙ at_here in
              let equal : earlier ≡ program = cc in
              subst (λ (p : ProgramValue). (x : Function) × IsLinked parts (key_of p) x) (sym equal) (g, is))
              (cases_lt k i);
        }

        -- one more program
        pub linked_more : (after : FinMap key_cmp Function) → after ≡ insert linked (key_of program) g → SoFar parts programs (i + 1) after
        linked_more after e = subst (λ (m : FinMap key_cmp Function). SoFar parts programs (i + 1) m) (sym e) one_more

module _ (parts : LinkableValue) (programs : List ProgramValue) (i : ℕ) (linked : FinMap key_cmp Function) (so_far : SoFar parts programs i linked) (program : ProgramValue) (below : i < length programs) (item : program ≡ slice_index_or programs i program) (other : LinkableValue) (same : other ≡ parts) where
  stands : slice_get programs i ≡ Some program
  stands = slice_get-get_or programs i program below ∙ ap Some (sym item)

  -- the program at a place is linked
  pub step_more : (g : Function) → IsLinked other (key_of program) g → (after : FinMap key_cmp Function) → after ≡ insert linked (key_of program) g → SoFar parts programs (i + 1) after
  step_more g is after e = linked_more parts programs i linked so_far program below stands g (subst (λ (p : LinkableValue). IsLinked p (key_of program) g) same is) after e

  -- the program at a place is at a key that is linked
  pub step_same : contains_key linked (key_of program) ≡ true → SoFar parts programs (i + 1) linked
  step_same has = linked_before parts programs i linked so_far program below stands has

  -- the program at a place can't be linked
  pub refused_here : (e : EbpfRelocationError) → MatchBool (is_memory_at e) ⊤ (IsProgramRefusal other program e) → MatchBool (is_memory_at e) ⊤ (IsFirstRefusal parts programs e)
  refused_here e h = step (is_memory_at e) h
    where
      step : (b : Bool) → MatchBool b ⊤ (IsProgramRefusal other program e) → MatchBool b ⊤ (IsFirstRefusal parts programs e)
      step true g = tt
      step false g = first_fault parts programs i linked so_far program below stands e (subst (λ (p : LinkableValue). IsProgramRefusal p program e) same g)
