use Rattle.std.proofs.Common.{subst, ◌∙◌, map}
use Rattle.std.specs.List.Sorted.{IsPermutation}
use Rattle.std.specs.Map.{keys_of}
use Rattle.std.proofs.lemmas.List.Sorted.{IsPermutation-map}
use Rattle.ebpf_base.specs.Maps.{lent_bytes, text_cmp, text_total}
use Rattle.ebpf_base.proofs.Maps.{sorted_keys, sorted_map}
use Rattle.ebpf_base.proofs.TextMaps.{text_exact}
use Rattle.ebpf_object.specs.Patches.{global_of}
use Rattle.ebpf_object.proofs.Values.{keys_given, distinct_given}
use Rattle.ebpf_object.proofs.set_globals.by_name.names_of.Goals as goal

pub returns : goal.returns
returns c =
    let moved : IsPermutation (keys_of (map (λ e. (e.0.now, global_of e.1)) c.args.globals.now.entries)) (lent_bytes c.sort_unstable.new.self.items) =
    subst (λ ks. IsPermutation ks (lent_bytes c.sort_unstable.new.self.items)) (c.in_ok-names.ensures.names ∙ keys_given c.args.globals.now.entries)
    (IsPermutation-map (λ name. name.now) _ _ c.sort_unstable.ensures.permutation) in
    sorted_keys text_total text_exact _ _ (distinct_given _ c.in_ok-names.ensures.distinct) moved (sorted_map text_cmp (λ name. name.now) _ c.sort_unstable.ensures.sorted)
