use Rattle.std.proofs.Common.{◌≡◌, drop, sym, ◌∙◌, ap, arith}
use Rattle.std.specs.Prelude.{slice_range}
use Rattle.ebpf_btf.proofs.Cut.{part_is, holds_behind}
use Rattle.ebpf_btf.proofs.parse.take_parts.Goals as goal

pub from_parts-requires : goal.from_parts-requires
from_parts-requires c =
    let p = c.in_ok-parts.parts in
    let cut : drop p.types_start c.truncate.new.self.items ≡ slice_range c.deref-2.result.now p.types_start p.types_end =
    ap (drop p.types_start) c.truncate.ensures.items ∙ part_is c.args.data.items p.types_start p.types_end c.in_ok-parts.ensures.order.0 ∙ ap (λ xs. slice_range xs p.types_start p.types_end) (sym c.deref-2.ensures.value) in
    holds_behind c.args.order (slice_range c.deref-2.result.now p.types_start p.types_end) c.truncate.new.self.items p.types_start c.in_ok-offsets.offsets.items c.in_ok-offsets.ensures.kept
    (omega (arith, c.truncate.ensures.len, c.in_ok-parts.ensures.order.0, c.in_ok-parts.ensures.inside.0, c.deref.ensures.len)) cut
