use Rattle.std.proofs.Common.{rules, sym}
use Rattle.ebpf_sections.proofs.InOrder.{found_at, found_other, past_all}
use Rattle.ebpf_sections.proofs.text.row_at.Goals.{in_default-via-in-Some+else-row-address, in_default-via-in_default}
use Rattle.ebpf_sections.proofs.text.row_at.Goals as goal

pub returns-in-Some : goal.returns-in-Some
returns-in-Some c =
    let read = c.in-Some.ensures.lookup in
    sym (found_at (λ y. y.now.address) c.args.address _ c.args.index c.in-Some.row.now c.requires.cut read.3.0 read.1 (search rules))

pub returns-in_default : goal.returns-in_default
returns-in_default c =
    elim c.in_default.branch [
      | in_default-via-in-Some+else-row-address w ↦
          let read = w.in-Some.ensures.lookup in
          sym (found_other (λ y. y.now.address) c.args.address _ c.args.index w.in-Some.row.now c.requires.rising c.requires.cut read.3.0 read.1 (λ e. w.if-row-address.false (search rules)))
      | in_default-via-in_default w ↦ sym (past_all (λ y. y.now.address) c.args.address _ c.args.index c.requires.cut w.in_default.ensures.lookup.3)
    ]
