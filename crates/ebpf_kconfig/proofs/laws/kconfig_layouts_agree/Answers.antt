use Rattle.ebpf_kconfig.proofs.Layouts as layouts
use Rattle.ebpf_kconfig.proofs.laws.kconfig_layouts_agree.Goals as goal

pub returns : goal.returns
returns c = layouts.layouts_agree
