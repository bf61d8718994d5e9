use Rattle.std.proofs.Common.{◌≡◌, drop}
use Rattle.ebpf_kconfig.specs.ConfiguredValues.{read_digits}
use Rattle.ebpf_kconfig.proofs.settings.read_digits.Given as goal

-- the digits that are left write behind the number so far what all write
abbrev pub invariant-loop-byte : goal.invariant-loop-byte
invariant-loop-byte l = read_digits l.radix l.number (drop l.byte-index l.digits) ≡ read_digits l.radix 0 l.digits
