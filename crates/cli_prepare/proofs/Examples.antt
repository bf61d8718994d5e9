-- Values of kconfig externs by the version of a kernel, computed.
use Rattle.std.proofs.Common.{◌≡◌, ◌∷◌, [], Some, None, false, refl}
use Rattle.std.specs.Prelude.{Ok, codes}
use Rattle.ebpf_base.specs.declared.endianness.Endianness.TheVariants.{Little}
use Rattle.ebpf_kconfig.specs.ConfiguredValues.{integer_value, loader_value}
use Rattle.ebpf_kconfig.specs.declared.kconfig_type.KconfigType.TheVariants.{Integer}
use Rattle.cli_prepare.specs.KernelValues.{number_by_version, number_value}

-- 6.12.3
version_of_example : number_by_version 396291 (codes "LINUX_KERNEL_VERSION") ≡ Some 396291
unfolding number_by_version
version_of_example = refl

value_of_example : number_value Little (record { name = codes "LINUX_KERNEL_VERSION"; kind = Integer 4 false; is_weak = false }) 396291 ≡ Ok (Some (3 ∷ 12 ∷ 6 ∷ 0 ∷ []))
unfolding loader_value integer_value
value_of_example = refl

-- 5.14.255 and 5.15.0
no_cookie_yet : number_by_version 331519 (codes "LINUX_HAS_BPF_COOKIE") ≡ Some 0
unfolding number_by_version
no_cookie_yet = refl

first_cookie : number_by_version 331520 (codes "LINUX_HAS_BPF_COOKIE") ≡ Some 1
unfolding number_by_version
first_cookie = refl

of_the_configuration : number_by_version 396291 (codes "CONFIG_HZ") ≡ None
unfolding number_by_version
of_the_configuration = refl
