use Rattle.std.proofs.Common.{◌≡◌, ◌∷◌, ◌∙◌, ap, rules, subst, sym}
use Rattle.std.specs.FinMap.{get, find}
use Rattle.std.specs.List.Sorted.{IsStrictlySortedBy}
use Rattle.std.specs.Map.{keys_of}
use Rattle.ebpf_base.specs.Maps.{key_cmp}
use Rattle.ebpf_core_relo.specs.Records.{with_slots}
use Rattle.ebpf_core_relo.proofs.OutcomeSlots.{all_found, one_more}
use Rattle.ebpf_core_relo.proofs.relocate.put_slots.Goals as goal

pub loop-key-init : goal.loop-key-init
loop-key-init c =
    let given = c.into_iter-key-iterator.ensures.into_iter_gives in
    record {
      sorted = subst (λ es. IsStrictlySortedBy key_cmp (keys_of es)) (sym given.0) given.5;
      function_spans = λ q. ap (λ w. with_slots w (get c.args.functions.now q)) (ap (find key_cmp q) given.0 ∙ all_found c.args.written _ c.into_map-key-items.ensures q);
    }

pub loop-key-preserved : goal.loop-key-preserved
unfolding IsStrictlySortedBy
loop-key-preserved c =
    let front : c.loop-key.key-iterator ≡ (c.in-Some.key, c.in-Some.slots) ∷ c.next.new.self = search rules in
    let sorted = subst (λ es. IsStrictlySortedBy key_cmp (keys_of es)) front c.loop-key.invariant.sorted in
    record {
      sorted = sorted.1;
      function_spans = λ q.
          one_more c.loop-key.functions c.set_slots_at.new.functions c.in-Some.key c.in-Some.slots c.next.new.self sorted c.set_slots_at.ensures q
          ∙ sym (ap (λ es. with_slots (find key_cmp q es) (get c.loop-key.functions q)) front)
          ∙ c.loop-key.invariant.function_spans q;
    }
