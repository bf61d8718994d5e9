-- The link map of the program that some bytes name, by what is told of the program of their text.
use Rattle.std.proofs.Common.{◌≡◌, ℕ, List, Option, Some, None, inl, inr, refl, ◌∙◌, sym, subst}
use Rattle.std.specs.Prelude.{Result, Ok, Err, MatchOption}
use Rattle.std.specs.FinMap.{get}
use Rattle.ebpf_model.specs.Memory.{NamesNoneForMemory}
use Rattle.ebpf_model.specs.declared.error.EbpfRelocationError.{EbpfRelocationError}
use Rattle.ebpf_model.specs.declared.function.Program.{Program}
use Rattle.ebpf_object.specs.LinkedPrograms.{program_value, MapsProgram}
use Rattle.ebpf_object.specs.declared.object.Object.{Object}
use Rattle.ebpf_reloc.specs.declared.link_map.LinkMap.{LinkMap}
use Rattle.capi_rows.specs.Descriptors.{text_of}
use Rattle.capi_rows.specs.Listings.{value_by_bytes}
use Rattle.capi_exports.specs.Answers.{own_parts, CannotMap, HasUnlinkable, IsLinkMapOf, IsUnlinkable}
use Rattle.capi_rows.specs.FaultNumbers.{slot_refusal}
use Rattle.capi_rows.specs.Refusals.{plain}
use Rattle.capi_rows.specs.declared.codes.TheConstants.{MEMORY, NO_PROGRAM}
use Rattle.capi_rows.specs.declared.refusal.Refusal.{Refusal}
use Rattle.capi_rows.proofs.Rows.{value_by_no_text, value_by_text, text_same}

-- what is told of a program of a name, where there is one
abbrev Told : Object → List ℕ → Result (Option LinkMap) EbpfRelocationError → Option Program → Type 0
Told o text answer found = MatchOption found (answer ≡ Ok None) (λ p. MapsProgram (own_parts o) (program_value text p) answer)

module _ (o : Object) (name : List ℕ) where
  map_of : (text : List ℕ) (found : Option Program) → value_by_bytes o.programs name ≡ found → (m : LinkMap) → Told o text (Ok (Some m)) found → IsLinkMapOf name o m
  map_of text None named m told = let no : ⊥ = cc in absurd no
  map_of text (Some p) named m told = record { program = p; named = named; mapped = told }

  none_of : (text : List ℕ) (found : Option Program) → Told o text (Ok None) found → found ≡ None
  none_of text None told = refl
  none_of text (Some p) told = absurd told

  refusal_of : (text : List ℕ) (found : Option Program) → text ≡ name → value_by_bytes o.programs name ≡ found → (e : EbpfRelocationError) → NamesNoneForMemory e → Told o text (Err e) found → HasUnlinkable name o (slot_refusal 600 e)
  refusal_of text None same named e memory told = let no : ⊥ = cc in absurd no
  refusal_of text (Some p) same named e memory told = record {
    program = p;
    named = named;
    refusal = inr (e, subst (λ n. IsUnlinkable n o p e) same (memory, told), refl);
  }

  -- no text
  pub no_text : (r : Refusal) → None ≡ text_of name → r ≡ plain NO_PROGRAM → CannotMap name o r
  no_text r broken is = inl (record { absent = value_by_no_text o.programs name broken; is = is })

  -- no memory for the rows of a map
  pub no_memory : (m : LinkMap) (r : Refusal) → IsLinkMapOf name o m → r ≡ plain MEMORY → CannotMap name o r
  no_memory m r of is = inr (record { program = of.program; named = of.named; refusal = inl is })

  module _ (text : List ℕ) (answer : Result (Option LinkMap) EbpfRelocationError) (read : Some text ≡ text_of name) (told : Told o text answer (get o.programs text)) where
    named : value_by_bytes o.programs name ≡ get o.programs text
    named = value_by_text o.programs name text read

    answered : (a : Result (Option LinkMap) EbpfRelocationError) → answer ≡ a → Told o text a (get o.programs text)
    answered a is = subst (λ a. Told o text a (get o.programs text)) is told

    pub mapped : (m : LinkMap) → answer ≡ Ok (Some m) → IsLinkMapOf name o m
    mapped m is = map_of text (get o.programs text) named m (answered (Ok (Some m)) is)

    pub no_program : (r : Refusal) → answer ≡ Ok None → r ≡ plain NO_PROGRAM → CannotMap name o r
    no_program r is of = inl (record { absent = named ∙ none_of text (get o.programs text) (answered (Ok None) is); is = of })

    pub unlinkable : (e : EbpfRelocationError) (r : Refusal) → answer ≡ Err e → NamesNoneForMemory e → r ≡ slot_refusal 600 e → CannotMap name o r
    unlinkable e r is memory of = inr (subst (HasUnlinkable name o) (sym of) (refusal_of text (get o.programs text) (text_same name text read) named e memory (answered (Err e) is)))
