use Rattle.ebpf_base.specs.Maps.{key_total}
use Rattle.ebpf_base.proofs.SameMaps.{copied_maps, copied_pairs}
use Rattle.ebpf_base.proofs.by_key.ByKeyClone.clone.Goals as goal

pub returns : goal.returns
returns g c = record { cases = rw (← c.self.view_is) (copied_maps g.V.Clone.is_clone key_total _ _ (copied_pairs g.V.Clone.is_clone _ _ c.in_ok-clone.ensures.cases)) }
