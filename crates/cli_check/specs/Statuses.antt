-- The status with which `ebpf check` ends.
use Rattle.std.specs.Prelude.{ℕ, nat_lt, if◌then◌else◌}

-- By how many kernels' types can't be read, and on how many kernels some program breaks: that types
-- can't be read wins.
abbrev pub status_of : ℕ → ℕ → ℕ
status_of unread broken = if nat_lt 0 unread then 2 else if nat_lt 0 broken then 1 else 0
