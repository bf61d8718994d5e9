-- That the last slot at an index of a map stands there.
use Rattle.std.proofs.Common.{◌≡◌, ℕ, Bool, true, false, ◌&&◌, cond, List, [], ◌∷◌, Option, Some, None, unwrap_or, refl, sym, ap, ◌∙◌, map}
use Rattle.std.specs.Prelude.{fold}
use Rattle.std.specs.FinMap.{FinMap, get, insert, empty, get-insert, get-empty, entries}
use Rattle.std.specs.Option.{option_and_then}
use Rattle.std.specs.Ordering.{eq_by_cmp, nat_cmp}
use Rattle.std.specs.Cmp.{nat_cmp_total}
use Rattle.std.specs.List.{flat_map}
use Rattle.ebpf_base.proofs.Maps.{entries-empty, is_equal}
use Rattle.ebpf_base.proofs.TextMaps.{text_exact}
use Rattle.ebpf_base.specs.Maps.{text_cmp, text_total}
use Rattle.ebpf_initial_slots.specs.InitialSlots.{with_slot, LastSlotsStand, last_slot, standing_slot, slots_in_order}
use Rattle.ebpf_initial_slots.specs.declared.slots.InitialSlot.{InitialSlot}

-- what a map's slots have at an index, where it may have none
own_at : (own : Option (FinMap nat_cmp InitialSlot)) (index : ℕ) → get (unwrap_or own empty) index ≡ option_and_then (λ own. get own index) own
own_at None index = get-empty nat_cmp index
own_at (Some own) index = refl

-- with one more slot
one_more : (found : FinMap text_cmp (FinMap nat_cmp InitialSlot)) (s : InitialSlot) (name : List ℕ) (index : ℕ)
    → standing_slot (with_slot found s) name index ≡ cond (eq_by_cmp text_cmp name s.map && eq_by_cmp nat_cmp index s.index) (Some s) (standing_slot found name index)
one_more found s name index =
    ap (option_and_then (λ own. get own index)) (get-insert text_total found s.map own name)
    ∙ by_name (eq_by_cmp text_cmp name s.map) refl
  where
    own : FinMap nat_cmp InitialSlot
    own = insert (unwrap_or (get found s.map) empty) s.index s

    by_name : (b : Bool) → eq_by_cmp text_cmp name s.map ≡ b
        → option_and_then (λ o. get o index) (cond b (Some own) (get found name)) ≡ cond (b && eq_by_cmp nat_cmp index s.index) (Some s) (standing_slot found name index)
    by_name false e = refl
    by_name true e =
        get-insert nat_cmp_total (unwrap_or (get found s.map) empty) s.index s index
        ∙ ap (cond (eq_by_cmp nat_cmp index s.index) (Some s)) (own_at (get found s.map) index ∙ ap (λ k. standing_slot found k index) (sym same))
      where
        same : name ≡ s.map
        same = text_exact name s.map (is_equal _ e)

from : (found : FinMap text_cmp (FinMap nat_cmp InitialSlot)) (slots : List InitialSlot) (name : List ℕ) (index : ℕ)
    → standing_slot (fold with_slot found slots) name index ≡ last_slot name index (standing_slot found name index) slots
from found [] name index = refl
from found (s ∷ slots) name index =
    from (with_slot found s) slots name index
    ∙ ap (λ before. last_slot name index before slots) (one_more found s name index)

pub last_slots_stand : LastSlotsStand
last_slots_stand slots name index =
    from empty slots name index
    ∙ ap (λ before. last_slot name index before slots) (ap (option_and_then (λ own. get own index)) (get-empty text_cmp name))

-- ---- where nothing is put

pub none_in_order : slots_in_order empty ≡ []
none_in_order = ap (flat_map (λ m. map (λ s. s.1) (entries m.1))) (entries-empty text_cmp (FinMap nat_cmp InitialSlot))
