-- What testing references shows of them.
use Rattle.std.proofs.Common.{◌≡◌, ℕ, zero, suc, ◌+◌, ◌<◌, ◌≤◌, Bool, true, ◌&&◌, List, [], ◌∷◌, Option, Some, None, refl, sym, ◌∙◌, arith, ◌↔◌}
use Rattle.std.specs.Prelude.{All, Vec, IsTrue}
use Rattle.std.specs.List.{list_all}
use Rattle.std.specs.declared.alloc.Global.{Global}
use Rattle.std.proofs.lemmas.Bool.{ltb-true, lt-ltb, and_parts, and_from}
use Rattle.std.proofs.lemmas.List.Elements.{All-nil, All-cons, All-head, All-tail}
use Rattle.ebpf_linker.specs.declared.reference.Target.{Target}
use Rattle.ebpf_linker.specs.declared.reference.Target.TheVariants.{Function, Nowhere}
use Rattle.ebpf_linker.specs.declared.reference.Reference.{Reference}
use Rattle.ebpf_linker.specs.Numbered.{IsWithin, Rises, Sound, calls_at}
use Rattle.ebpf_linker.specs.PrivateContracts.{is_within, is_above, is_list_sound}

in_of : (n : ℕ) (t : Target) → is_within n t ≡ true → IsWithin n t
in_of n (Function k) e = ltb-true k n e
in_of n (Nowhere d) e = tt

of_in : (n : ℕ) (t : Target) → IsWithin n t → is_within n t ≡ true
of_in n (Function k) h = lt-ltb k n h
of_in n (Nowhere d) h = refl

-- the least slot after another
abbrev next : Option ℕ → ℕ
next None = 0
next (Some before) = before + 1

above_of : (before : Option ℕ) (slot : ℕ) → is_above before slot ≡ true → next before ≤ slot
above_of None slot e = omega arith
above_of (Some before) slot e =
    let lt : before < slot = ltb-true before slot e in
    omega arith

of_above : (before : Option ℕ) (slot : ℕ) → next before ≤ slot → is_above before slot ≡ true
of_above None slot h = refl
of_above (Some before) slot h = lt-ltb before slot (omega arith)

module _ (n : ℕ) where
  abbrev Within : List Reference → Type 0
  Within cs = All (λ (c : Reference). IsWithin n c.target) cs

  rises : (before : Option ℕ) (cs : List Reference) → is_list_sound n before cs ≡ true → Rises (next before) cs
  rises before [] e = tt
  rises before (c ∷ cs) e =
      let both = and_parts (is_above before c.slot && is_within n c.target) (is_list_sound n (Some c.slot) cs) e in
      (above_of before c.slot (and_parts (is_above before c.slot) (is_within n c.target) both.0).0, rises (Some c.slot) cs both.1)

  within : (before : Option ℕ) (cs : List Reference) → is_list_sound n before cs ≡ true → Within cs
  within before [] e = All-nil (λ (c : Reference). IsWithin n c.target)
  within before (c ∷ cs) e =
      let both = and_parts (is_above before c.slot && is_within n c.target) (is_list_sound n (Some c.slot) cs) e in
      All-cons (λ (c : Reference). IsWithin n c.target) c cs (in_of n c.target (and_parts (is_above before c.slot) (is_within n c.target) both.0).1) (within (Some c.slot) cs both.1)

  tested : (before : Option ℕ) (cs : List Reference) → Rises (next before) cs → Within cs → is_list_sound n before cs ≡ true
  tested before [] r w = refl
  tested before (c ∷ cs) r w =
      and_from (is_above before c.slot && is_within n c.target) (is_list_sound n (Some c.slot) cs)
      (and_from (is_above before c.slot) (is_within n c.target) (of_above before c.slot r.0) (of_in n c.target (All-head (λ (c : Reference). IsWithin n c.target) c cs w)))
      (tested (Some c.slot) cs r.1 (All-tail (λ (c : Reference). IsWithin n c.target) c cs w))

  abbrev are_sound : List (Vec Reference Global) → Bool
  are_sound C = list_all (λ v. is_list_sound n None v.items) C

  at_each : (C : List (Vec Reference Global)) → are_sound C ≡ true → (k : ℕ) → is_list_sound n None (calls_at C k) ≡ true
  at_each [] e k = refl
  at_each (v ∷ C) e zero = (and_parts (is_list_sound n None v.items) (are_sound C) e).0
  at_each (v ∷ C) e (suc k) = at_each C (and_parts (is_list_sound n None v.items) (are_sound C) e).1 k

  from_each : (C : List (Vec Reference Global)) → ((k : ℕ) → is_list_sound n None (calls_at C k) ≡ true) → are_sound C ≡ true
  from_each [] h = refl
  from_each (v ∷ C) h = and_from (is_list_sound n None v.items) (are_sound C) (h 0) (from_each C (λ k. h (suc k)))

-- the tests hold exactly of sound references
pub sound_tests : (n : ℕ) (C : List (Vec Reference Global)) (b : Bool) → b ≡ list_all (λ v. is_list_sound n None v.items) C → IsTrue b ↔ Sound n C
sound_tests n C b is = (
  λ e.
      let each = at_each n C (sym is ∙ e) in
      record { rises = λ k. rises n None (calls_at C k) (each k); within = λ k. within n None (calls_at C k) (each k) },
  λ s. is ∙ from_each n C (λ k. tested n None (calls_at C k) (s.rises k) (s.within k)),
)
