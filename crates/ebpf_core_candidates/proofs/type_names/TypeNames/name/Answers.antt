use Rattle.std.proofs.Common.{◌≡◌, None, Some, ap, rules, sym, ◌∙◌}
use Rattle.std.specs.Prelude.{option_map, slice_get}
use Rattle.std.specs.FinMap.{empty, get, get-empty}
use Rattle.std.specs.Ordering.{nat_cmp}
use Rattle.ebpf_btf.specs.Types.{name_off}
use Rattle.ebpf_core_candidates.specs.TypeRows.{odd_at, odd_text_at}
use Rattle.ebpf_core_candidates.proofs.Names.{odd_headed, readable_plain}
use Rattle.ebpf_core_candidates.proofs.type_names.TypeNames.name.Goals as goal

pub returns-then-is_empty : goal.returns-then-is_empty
returns-then-is_empty c =
    let info = c.self.inside.btf.now in
    let none : c.self.inside.odd ≡ empty = c.if-is_empty.ensures.0 (search rules) in
    let here : option_map name_off (slice_get info.types c.args.id) ≡ Some c.args.offset = rw (← c.self.view_is) at c.requires in
    let missing : odd_at info c.args.id ≡ None = sym (c.self.invariant c.args.id) ∙ ap (λ m. get m c.args.id) none ∙ get-empty nat_cmp c.args.id in
    let plain : odd_text_at info.strings c.args.offset ≡ None = sym (odd_headed info c.args.id c.args.offset here) ∙ missing in
    let looked = rw c.strings.ensures at c.essential_at.ensures in
    rw (← c.self.view_is) (looked ∙ readable_plain info.strings c.args.offset plain)
