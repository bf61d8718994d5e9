-- Texts of the elements of a list, one after the other.
use Rattle.std.proofs.Common.{◌≡◌, ℕ, ◌+◌, ◌<◌, List, Option, length, drop, sym, subst}
use Rattle.std.proofs.lemmas.List.{get_or_default}
use Rattle.std.specs.Io.KnownBytes.{Appends}
use Rattle.std.specs.List.{flat_map}
use Rattle.std.specs.Prelude.{slice_index_or}
pub use Rattle.std.proofs.KnownBytes.{Appends-nil as nothing_more, Appends-trans as both, Appends-kept as kept}
use Rattle.ebpf_base.proofs.Lists.{lists_more}

-- what is written of one element goes before what is written of those behind it
pub one_more : {X : Type 0} (f : X → List ℕ) (xs : List X) (i : ℕ) (d : X) (start here next all : Option (List ℕ)) (whole : List ℕ)
    → i < length xs
    → ((end : Option (List ℕ)) → Appends here end (flat_map f (drop i xs)) → Appends start end whole)
    → Appends here next (f (slice_index_or xs i d)) → Appends next all (flat_map f (drop (i + 1) xs)) → Appends start all whole
one_more f xs i d start here next all whole below rest one others =
    let is : slice_index_or xs i d ≡ slice_index_or xs i (slice_index_or xs i d) = get_or_default xs i d (slice_index_or xs i d) below in
    rest all (subst (λ l. Appends here all l) (sym (lists_more f xs i (slice_index_or xs i d) below is)) (both here next all (f (slice_index_or xs i d)) (flat_map f (drop (i + 1) xs)) one others))
