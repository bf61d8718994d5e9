use Rattle.std.specs.Cmp.{nat_cmp_total}
use Rattle.ebpf_base.proofs.SameMaps.{copied_maps}
use Rattle.ebpf_base.proofs.by_number.ByNumberClone.clone.Goals as goal

pub returns : goal.returns
returns g c = record { cases = rw (← c.self.view_is) (copied_maps g.V.Clone.is_clone nat_cmp_total _ _ c.in_ok-clone.ensures.cases) }
