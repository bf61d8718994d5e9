use Rattle.std.proofs.Common.{◌≡◌, map, drop}
use Rattle.ebpf_core.proofs.LocalSides.{after}
use Rattle.ebpf_core.specs.LocalPaths.{all_of, accessor_of}
use Rattle.ebpf_core.proofs.paths.all_parts.Given as goal

abbrev pub invariant-loop-piece : goal.invariant-loop-piece
invariant-loop-piece l =
    after l.parts (all_of (map (λ piece. accessor_of piece.now) (drop l.piece-index l.pieces))) ≡ all_of (map (λ piece. accessor_of piece.now) l.pieces)
