use Rattle.std.proofs.Common.{◌≡◌, ◌∷◌, ◌∙◌, ap, rules, subst, sym}
use Rattle.std.specs.FinMap.{get, find}
use Rattle.std.specs.List.Sorted.{IsStrictlySortedBy}
use Rattle.std.specs.Map.{keys_of}
use Rattle.ebpf_base.specs.Maps.{key_cmp}
use Rattle.ebpf_object.specs.LinkedPrograms.{replaced}
use Rattle.ebpf_object.proofs.Replaced.{all_found, one_more}
use Rattle.ebpf_object.proofs.relocate_calls.take_places.Goals as goal

pub loop-key-init : goal.loop-key-init
loop-key-init c =
    let given = c.into_iter-key-iterator.ensures.into_iter_gives in
    record {
      sorted = subst (λ es. IsStrictlySortedBy key_cmp (keys_of es)) (sym given.0) given.5;
      places = λ q. ap (replaced (get c.args.functions.now q)) (ap (find key_cmp q) given.0 ∙ all_found c.args.linked _ c.into_map-key-items.ensures q);
    }

pub loop-key-preserved : goal.loop-key-preserved
unfolding IsStrictlySortedBy
loop-key-preserved c =
    let front : c.loop-key.key-iterator ≡ (c.in-Some.key, c.in-Some.function) ∷ c.next.new.self = search rules in
    let sorted = subst (λ es. IsStrictlySortedBy key_cmp (keys_of es)) front c.loop-key.invariant.sorted in
    record {
      sorted = sorted.1;
      places = λ q.
          one_more c.loop-key.functions c.take_place.new.functions c.in-Some.key c.in-Some.function c.next.new.self sorted c.take_place.ensures q
          ∙ sym (ap (λ es. replaced (get c.loop-key.functions q) (find key_cmp q es)) front)
          ∙ c.loop-key.invariant.places q;
    }
