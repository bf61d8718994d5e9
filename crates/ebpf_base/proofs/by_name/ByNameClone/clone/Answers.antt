use Rattle.ebpf_base.specs.Maps.{text_total}
use Rattle.ebpf_base.proofs.SameMaps.{copied_maps, copied_texts}
use Rattle.ebpf_base.proofs.by_name.ByNameClone.clone.Goals as goal

pub returns : goal.returns
returns g c = record { cases = rw (← c.self.view_is) (copied_maps g.V.Clone.is_clone text_total _ _ (copied_texts g.V.Clone.is_clone _ _ c.in_ok-clone.ensures.cases)) }
