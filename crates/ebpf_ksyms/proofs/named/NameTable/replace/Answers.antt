use Rattle.std.proofs.Common.{◌≡◌, Some, None, IsSome, ap, subst, sym, ◌∙◌, refl, rules}
use Rattle.std.specs.BTreeMap.{get_by}
use Rattle.std.specs.Str.{bytes_eq}
use Rattle.std.proofs.lemmas.Map.Text.{btree_map_updates_str}
use Rattle.ebpf_base.specs.Maps.{text_cmp}
use Rattle.ebpf_core_candidates.specs.Candidates.{is_hash_marked, name_hash}
use Rattle.ebpf_ksyms.specs.PrivateContracts.{value_named}
use Rattle.ebpf_ksyms.proofs.Resolving.{put_there, not_there, same_bytes, under_mark}
use Rattle.ebpf_ksyms.proofs.named.NameTable.replace.Goals as goal

pub returns-in-Some : goal.returns-in-Some
unfolding value_named
returns-in-Some g c = λ q.
    let there : get_by (λ k. text_cmp c.args.name.now k.now) c.args.self.now.values ≡ Some c.in-Some.place.now = sym c.in-Some.ensures.value in
    under_mark (is_hash_marked c.args.self.now.marks.items (name_hash q)) (bytes_eq c.args.name.now q) c.args.value (get_by (λ k. text_cmp q k.now) c.args.self.now.values) _ (
    btree_map_updates_str c.args.name.now c.args.self.now.values (c.get_mut.follows.lender c.args.value) (Some c.args.value) ((c.get_mut.follows.holds c.args.value).3 (search rules)) q
    ∙ put_there (bytes_eq c.args.name.now q) c.args.value (get_by (λ k. text_cmp q k.now) c.args.self.now.values)
    (λ e. subst (λ r. IsSome (get_by (λ k. text_cmp r k.now) c.args.self.now.values)) (same_bytes c.args.name.now q e) (subst IsSome (sym there) refl)))

pub returns-in_default : goal.returns-in_default
unfolding value_named
returns-in_default g c = λ q.
    let none : get_by (λ k. text_cmp c.args.name.now k.now) c.args.self.now.values ≡ None = sym c.in_default.ensures.value in
    under_mark (is_hash_marked c.args.self.now.marks.items (name_hash q)) (bytes_eq c.args.name.now q) c.args.value (get_by (λ k. text_cmp q k.now) c.args.self.now.values) _ (
    ap (λ m. get_by (λ k. text_cmp q k.now) m) c.get_mut.follows.holds-at-none
    ∙ not_there (bytes_eq c.args.name.now q) c.args.value (get_by (λ k. text_cmp q k.now) c.args.self.now.values)
    (λ e. ap (λ r. get_by (λ k. text_cmp r k.now) c.args.self.now.values) (sym (same_bytes c.args.name.now q e)) ∙ none))
