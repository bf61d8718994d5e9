-- Writing the lines of programs, one after the other.
use Rattle.std.proofs.Common.{◌≡◌, ℕ, ◌+◌, ◌<◌, List, ◌++◌, map, Option, length, drop, sym, ap, subst}
use Rattle.std.proofs.lemmas.List.{get_or_default}
use Rattle.std.specs.Io.KnownBytes.{Appends}
use Rattle.std.specs.List.{flat_map}
use Rattle.std.specs.Prelude.{slice_index_or}
use Rattle.ebpf_base.proofs.Lists.{rest_more}
use Rattle.cli_common.proofs.Appending.{both}
use Rattle.cli_link.specs.Written.{program_name}
use Rattle.cli_common.specs.declared.programs.ObjectProgram.{ObjectProgram}

-- what is written of one program goes before what is written of those behind it
pub one_program : (f : List ℕ → List ℕ) (programs : List ObjectProgram) (i : ℕ) (d : ObjectProgram) (start here next all : Option (List ℕ)) (whole : List ℕ)
    → i < length programs
    → ((end : Option (List ℕ)) → Appends here end (flat_map f (map program_name (drop i programs))) → Appends start end whole)
    → Appends here next (f (slice_index_or programs i d).name) → Appends next all (flat_map f (map program_name (drop (i + 1) programs))) → Appends start all whole
one_program f programs i d start here next all whole below rest one others =
    let is : slice_index_or programs i d ≡ slice_index_or programs i (slice_index_or programs i d) = get_or_default programs i d (slice_index_or programs i d) below in
    let left : flat_map f (map program_name (drop i programs)) ≡ f (slice_index_or programs i d).name ++ flat_map f (map program_name (drop (i + 1) programs)) =
    ap (λ ps. flat_map f (map program_name ps)) (rest_more programs i (slice_index_or programs i d) below is)
    in
    rest all (subst (λ l. Appends here all l) (sym left) (both here next all (f (slice_index_or programs i d).name) (flat_map f (map program_name (drop (i + 1) programs))) one others))
