-- A handle of a kernel's types as the machine has it: a struct of one pointer. Assumes `Logic`.
use Rattle.std.proofs.Common.{◌≡◌, ℕ, List, [], ◌∷◌, ◌++◌, refl, subst}
use Rattle.std.specs.Prelude.{Option, Some, None}
use Rattle.std.proofs.GlobalToken.{dealloc_token-Testable}
use Rattle.std.specs.contracts.impls.GlobalAllocator.TheImpl.{ghosts}
use Rattle.std_alloc.specs.Box.Ownership.{box_owns}
use Rattle.std.specs.contracts.alloc.Global as heap
use Rattle.std.proofs.alloc.Global.TheLaws as heap_laws
use Rattle.core.specs.Ptr.{points_to}
use base.Fml.{Fml}
use base.Logic.{ent, via, fst∗, snd∗, never, guard, guard_i}
use contract.Monad.{fact_use}
use denote.Param.{layout}
use denote.RattleType.{RattleType, Valss}
use denote.RawPtr.{Ptr, RawPtr, block_ptr, null_ptr, ptr_val, in_a_block, Testable}
use denote.Steps.{nothing}
use denote.Struct.Owning.{shape}
use denote.Struct.Struct.{within}
use mir.Raw.{raw as bare}
use mir.Val.{Val, vstruct, vcons, vnil, of_list}
use seplogic.Ra.Ura.{Ura}
use types.Kit.{Item, Goal, Seq, Step, step, ‵, given, learn, use1, ◌$◌, drop, fsplit, fjoin, fpick, fpack, feq_i, feq_l}
use types.Logic.{Logic, sem}
use Rattle.capi_exports.proofs.Texts.{Types}
use Rattle.capi_exports.specs.Handles.{heap}
use Rattle.capi_exports.specs.KernelHandles.{kernel_owns}
use Rattle.capi_exports.specs.contracts.kernel.ebpf_types as handle
use Rattle.capi_exports.specs.contracts.kernel_types.Kernel as content
use Rattle.capi_exports.specs.contracts.kernel_types.Kernel.{the_row}
use Rattle.capi_exports.specs.declared.kernel_types.Kernel.{Kernel}

abbrev pub Kernels : RattleType
Kernels = handle.the_row

abbrev pub word : Ptr → Val
word p = vstruct (vcons (ptr_val p) vnil)

-- types in a block of their own
abbrev pub kept : Ptr → Kernel → Fml
kept p x = box_owns (ghosts.dealloc_token heap) the_row p x

-- what may be freed may be compared with null
kept_tested : {M : Type 1} {𝓤 : Ura M} (𝓛 : Logic 𝓤) (p : Ptr) (x : Kernel) → ent 𝓤 (sem 𝓛 (kept p x)) (guard 𝓤 (Testable p) (sem 𝓛 (kept p x)))
kept_tested {𝓤 = 𝓤} 𝓛 p x = fact_use 𝓤 (Testable p) (via 𝓤 _ (snd∗ 𝓤 (sem 𝓛 (points_to the_row p x)) (sem 𝓛 (ghosts.dealloc_token heap (bare (layout the_row)) p))) (dealloc_token-Testable 𝓛 heap (bare (layout the_row)) p)) (guard_i 𝓤 (Testable p) (sem 𝓛 (kept p x)))

module _ {M : Type 1} {𝓤 : Ura M} {𝓛 : Logic 𝓤} {K : Type 0} {Γ : List (Item 𝓤)} {G : Goal 𝓤 𝓛.H} where
  -- a handle is its pointer, and what is held behind that
  pub kernel_in : K → (p : Ptr) (o : Option Kernel) → Step K 𝓛 (‵ (Kernels.own_val (record { at = p; held = o }) (word p ∷ [])) ∷ Γ) G (‵ (kernel_owns p o) ∷ Γ) G
  kernel_in t p o = step (λ s.
      nothing t $ feq_i t (List Val) (ptr_val p ∷ []) (ptr_val p ∷ []) refl $ fjoin t $
      feq_i t (List Val) (word p ∷ []) (word p ∷ []) refl $ fjoin t $
      fpack t (Valss (RawPtr ∷ [])) (within (shape handle.the_type) (p, tt) (word p ∷ [])) (ptr_val p ∷ [], tt) $ fjoin t $ s)

  pub kernel_out : K → (h : Kernels.Denot) (vs : List Val) → (vs ≡ word h.at ∷ [] → Seq K 𝓛 (‵ (kernel_owns h.at h.held) ∷ Γ) G) → Seq K 𝓛 (‵ (Kernels.own_val h vs) ∷ Γ) G
  kernel_out t h vs k =
      fsplit t $ fpick t (λ parts. fsplit t $ feq_l t (λ whole. fsplit t $ feq_l t (λ pointer. drop t $
      k (subst (λ (us : List Val). vs ≡ vstruct (of_list (us ++ [])) ∷ []) pointer whole))))

  -- it holds nothing, and its pointer is null; or it holds types, and its pointer is not
  pub held_out : K → (p : Ptr) (o : Option Kernel)
      → (p ≡ null_ptr → o ≡ None → Seq K 𝓛 Γ G)
      → ((b n : ℕ) (x : Kernel) → p ≡ block_ptr b n → o ≡ Some x → Testable (block_ptr b n) → Seq K 𝓛 (‵ (kept (block_ptr b n) x) ∷ Γ) G)
      → Seq K 𝓛 (‵ (kernel_owns p o) ∷ Γ) G
  held_out t p None nothing_there there = feq_l t (λ at_null. nothing_there at_null refl)
  held_out t p (Some x) nothing_there there =
      in_a_block t p (λ q. kept q x) (fst∗ 𝓤 (never 𝓤) (sem 𝓛 (ghosts.dealloc_token heap (bare (layout the_row)) null_ptr))) (λ b n block.
      use1 𝓛 (given (Testable (block_ptr b n)) (‵ (kept (block_ptr b n) x))) (kept_tested 𝓛 (block_ptr b n) x) $ learn t (λ may.
      there b n x block refl may))

-- ---- the types in a block of their own

abbrev pub boxed_types : Types
boxed_types = record { value = content.the_row; freeing = heap.the_row; laws = heap_laws.the_row_laws; ghosts = ghosts }
