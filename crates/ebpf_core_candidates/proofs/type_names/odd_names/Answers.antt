use Rattle.std.proofs.Common.{sym, ◌∙◌, ◌<◌}
use Rattle.std.specs.Prelude.{All}
use Rattle.std.specs.Ordering.{nat_cmp}
use Rattle.std.specs.FinMap.{get-empty}
use Rattle.ebpf_core_candidates.proofs.Names.{odd_ascii}
use Rattle.ebpf_core_candidates.proofs.type_names.odd_names.Goals as goal

pub returns-then-is_ascii : goal.returns-then-is_ascii
returns-then-is_ascii c =
    let ascii : All (λ b. b < 128) c.args.btf.now.strings = rw (← c.strings.ensures) c.if-is_ascii.ensures in
    λ id. rw c.new.ensures (get-empty nat_cmp id ∙ sym (odd_ascii c.args.btf.now id ascii))
