-- The calls of functions, found along their slots: each pseudo call is a reference.
use Rattle.std.proofs.Common.{◌≡◌, ◌≤◌, ◌<◌, ◌+◌, ◌*◌, ◌++◌, ℕ, List, [], ◌∷◌, length, drop, map, Bor, Option, Some, None, refl, sym, ap, ◌∙◌, arith, ◌≢◌, Bool, true, false}
use Rattle.std.specs.Prelude.{slice_index_or, ℤ, slice_get, option_map, unwrap_or, if◌then◌else◌}
use Rattle.std.specs.FinMap.{get, contains_key}
use Rattle.ebpf_base.proofs.Lists.{rest_more, rest_none}
use Rattle.ebpf_elf.specs.declared.relocation.ElfRelocation.{ElfRelocation}
use Rattle.ebpf_linker.proofs.Visits.{CallsRefer}
use Rattle.ebpf_linker.specs.Functions.{SlotReference, Nothing, Faulty, Names, or_empty}
use Rattle.ebpf_linker.specs.declared.reference.Reference.{Reference}
use Rattle.ebpf_linker.specs.declared.reference.Target.{Target}
use Rattle.ebpf_model.specs.Symbols.{FunctionKey}
use Rattle.ebpf_model.specs.Walks.{IsBefore}
use Rattle.ebpf_model.specs.declared.error.RelocationError.{RelocationError}
use Rattle.ebpf_model.specs.declared.error.RelocationError.TheVariants.{UnknownFunction}
use Rattle.ebpf_model.specs.declared.function.Function.{Function}
use Rattle.ebpf_model.specs.declared.symbol.Symbol.{Symbol}
use Rattle.ebpf_model.specs.declared.walk.Walk.{Walk}
use Rattle.ebpf_parts.specs.Slots.{is_pseudo_call}
use Rattle.ebpf_parts.specs.declared.insn.bpf_insn.{bpf_insn}
use Rattle.ebpf_reloc.specs.PrivateContracts.{calls_by, calls_of, calls_from, with_call}
use Rattle.ebpf_reloc.specs.References.{content_of, looked_up, reference_of, functions_of}
use Rattle.ebpf_reloc.specs.SlotTargets.{LinkableValue, slot_target_of, relocated_target, relocation_of, own_target, target_in_section, usable_target, relocation_target, is_usable, symbol_target, reference_address}
use Rattle.ebpf_reloc.specs.declared.slot_target.SlotTarget.{SlotTarget}
use Rattle.ebpf_reloc.specs.declared.slot_target.SlotTarget.TheVariants.{Absent, Unsupported, At}

module _ (leads : ℕ → bpf_insn → Option Target) (slots : List bpf_insn) where
  step_here : (i : ℕ) (slot : bpf_insn) → i < length slots → slot ≡ slice_index_or slots i slot
      → calls_by leads None i (drop i slots) ≡ with_call i (leads i slot) (calls_by leads None (i + 1) (drop (i + 1) slots))
  step_here i slot below here = ap (calls_by leads None i) (rest_more slots i slot below here)

  -- a slot that leads somewhere
  pub call_here : (i : ℕ) (slot : bpf_insn) (target : Target) → i < length slots → slot ≡ slice_index_or slots i slot → Some target ≡ leads i slot
      → calls_by leads None i (drop i slots) ≡ record { slot = i; target = target } ∷ calls_by leads None (i + 1) (drop (i + 1) slots)
  call_here i slot target below here is = step_here i slot below here ∙ ap (λ t. with_call i t (calls_by leads None (i + 1) (drop (i + 1) slots))) (sym is)

  -- a slot that leads nowhere
  pub no_call_here : (i : ℕ) (slot : bpf_insn) → i < length slots → slot ≡ slice_index_or slots i slot → None ≡ leads i slot
      → calls_by leads None i (drop i slots) ≡ calls_by leads None (i + 1) (drop (i + 1) slots)
  no_call_here i slot below here is = step_here i slot below here ∙ ap (λ t. with_call i t (calls_by leads None (i + 1) (drop (i + 1) slots))) (sym is)

  -- past the last slot
  pub calls_end : (i : ℕ) → length slots ≤ i → calls_by leads None i (drop i slots) ≡ []
  calls_end i past = ap (calls_by leads None i) (rest_none slots i past)

-- the calls of slots, and then the last one
module _ (leads : ℕ → bpf_insn → Option Target) (last : Option Target) where
  added : (i : ℕ) (t : Option Target) (xs ys : List Reference) → with_call i t (xs ++ ys) ≡ with_call i t xs ++ ys
  added i None xs ys = refl
  added i (Some target) xs ys = refl

  behind : (slots : List bpf_insn) (i : ℕ) → calls_by leads last i slots ≡ calls_by leads None i slots ++ with_call (i + length slots) last []
  behind [] i = ap (λ k. with_call k last []) (omega arith)
  behind (slot ∷ slots) i =
      ap (with_call i (leads i slot)) (behind slots (i + 1))
      ∙ added i (leads i slot) (calls_by leads None (i + 1) slots) (with_call (i + 1 + length slots) last [])
      ∙ ap (λ k. with_call i (leads i slot) (calls_by leads None (i + 1) slots) ++ with_call k last []) (omega arith)

  pub callback_behind : (slots : List bpf_insn) → calls_by leads None 0 slots ++ with_call (length slots) last [] ≡ calls_by leads last 0 slots
  callback_behind slots =
      let full : 0 + length slots ≡ length slots = omega arith in
      sym (behind slots 0 ∙ ap (λ k. calls_by leads None 0 slots ++ with_call k last []) full)

-- before a slot is before the next one
pub next_slot : (walk : Walk) (start i : ℕ) → IsBefore walk (start + 8 * i) → IsBefore walk (start + 8 * (i + 1))
next_slot walk start i h = record { from = h.from; before = omega (arith, h.before); are_left = h.are_left }

module _ (parts : LinkableValue) (keys : List (ℕ × ℕ)) (functions : List (Bor Function)) where
  -- the calls of one function, then those of the others
  pub function_here : (i : ℕ) (f : Bor Function) → i < length functions → f ≡ slice_index_or functions i f
      → calls_from parts keys i (map (λ f. f.now) (drop i functions)) ≡ calls_of parts keys i f.now ∷ calls_from parts keys (i + 1) (map (λ f. f.now) (drop (i + 1) functions))
  function_here i f below here = ap (λ fs. calls_from parts keys i (map (λ f. f.now) fs)) (rest_more functions i f below here)

  -- past the last function
  pub functions_end : (i : ℕ) → length functions ≤ i → calls_from parts keys i (map (λ f. f.now) (drop i functions)) ≡ []
  functions_end i past = ap (λ fs. calls_from parts keys i (map (λ f. f.now) fs)) (rest_none functions i past)

module _ (functions : List (Bor Function)) where
  -- what is linked of one function, then of the others
  pub body_here : (i : ℕ) (f : Bor Function) → i < length functions → f ≡ slice_index_or functions i f
      → map content_of (map (λ f. f.now) (drop i functions)) ≡ content_of f.now ∷ map content_of (map (λ f. f.now) (drop (i + 1) functions))
  body_here i f below here = ap (λ fs. map content_of (map (λ f. f.now) fs)) (rest_more functions i f below here)

  pub bodies_end : (i : ℕ) → length functions ≤ i → map content_of (map (λ f. f.now) (drop i functions)) ≡ []
  bodies_end i past = ap (λ fs. map content_of (map (λ f. f.now) fs)) (rest_none functions i past)

-- ---- each pseudo call is a reference

abbrev IsThere : SlotTarget → Type 0
IsThere Absent = ⊥
IsThere (Unsupported index) = Unit {0}
IsThere (At section address) = Unit {0}

abbrev AllThere : Option SlotTarget → Type 0
AllThere None = Unit {0}
AllThere (Some slot_target) = IsThere slot_target

target_there : (index : ℕ) (section address : Option ℕ) → IsThere (target_in_section index section address)
target_there index None address = tt
target_there index (Some section) None = tt
target_there index (Some section) (Some address) = tt

there_if : (b : Bool) (slot_target : SlotTarget) → IsThere slot_target → AllThere (usable_target b slot_target)
there_if true slot_target h = h
there_if false slot_target h = tt

module _ (parts : LinkableValue) where
  there_by : (imm : ℤ) (r : Option ElfRelocation) → AllThere (relocated_target parts imm r)
  there_by imm None = tt
  there_by imm (Some r) = step (get parts.symbols r.symbol_index)
    where
      step : (y : Option Symbol) → AllThere (relocation_target parts.text_sections r imm y)
      step None = tt
      step (Some y) = there_if (is_usable parts.text_sections y) (symbol_target y r.size imm) (target_there y.index y.section_index (reference_address y r.size imm))

  there_or : (found : Option SlotTarget) (own : SlotTarget) → AllThere found → IsThere own → IsThere (unwrap_or found own)
  there_or None own h g = g
  there_or (Some slot_target) own h g = h

  own_there : (f : Function) (i : ℕ) (s : bpf_insn) → is_pseudo_call s ≡ true → IsThere (own_target f i s)
  own_there f i s call = rw call tt

  refers : (name : List ℕ) (slot_target : SlotTarget) → IsThere slot_target → looked_up parts.functions name slot_target ≢ Nothing
  refers name Absent h = absurd h
  refers name (Unsupported index) h = λ e. cc
  refers name (At section address) h = step (contains_key parts.functions (section, address))
    where
      step : (b : Bool) → ◌≢◌ {A = SlotReference FunctionKey RelocationError} (if b then Names (section, address) else Faulty (UnknownFunction address name)) Nothing
      step true = λ e. cc
      step false = λ e. cc

  call_refers : (f : Option Function) (i : ℕ) (s : bpf_insn) → slice_get (or_empty (option_map content_of f)).slots i ≡ Some s → is_pseudo_call s ≡ true → reference_of parts f i ≢ Nothing
  call_refers None i s at call = cc
  call_refers (Some f) i s at call =
      let there : IsThere (slot_target_of parts f i s) = there_or (relocated_target parts s.imm (relocation_of parts f i)) (own_target f i s) (there_by s.imm (relocation_of parts f i)) (own_there f i s call) in
      rw at (refers f.name (slot_target_of parts f i s) there)

  pub calls_refer : CallsRefer (functions_of parts)
  calls_refer key i s at call = call_refers (get parts.functions key) i s at call
