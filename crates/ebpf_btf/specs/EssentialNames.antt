-- The essential name of a type is its name up to the first three underscores in a row. The rest is
-- the flavor, which only local types have (the kernel's tools/lib/bpf/relo_core.h,
-- bpf_core_essential_name_len).
use Rattle.std.specs.Prelude.{ℕ, List, [], ◌∷◌, Option, take, drop, length, find, unwrap_or, nat_eq}
use Rattle.std.specs.List.{range_with_len, starts_with}

-- three underscores
abbrev pub flavor_mark : List ℕ
flavor_mark = 95 ∷ 95 ∷ 95 ∷ []

-- where the first three underscores in a row begin
abbrev pub flavor_start : List ℕ → Option ℕ
flavor_start name =
    find (λ n. starts_with nat_eq (drop n name) flavor_mark) (range_with_len 0 (length name))

-- the part of a name before them, or the whole name
unfoldable pub essential_name : List ℕ → List ℕ
essential_name name = take (unwrap_or (flavor_start name) (length name)) name
