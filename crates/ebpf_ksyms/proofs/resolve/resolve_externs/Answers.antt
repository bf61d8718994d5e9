use Rattle.std.specs.Io.BufRead.{first_line}
use Rattle.std.specs.Io.Iter.{YieldsKnownPiece, YieldsWithout, lines_known_bytes}
use Rattle.std.specs.Option.{option_copied}
use Rattle.std.specs.String.{string_bytes}
use Rattle.std.specs.declared.alloc.Global.{Global}
use Rattle.std.specs.declared.io.Lines.{Lines}
use Rattle.std.proofs.Common.{List, ℕ, Option}
use Rattle.ebpf_ksyms.specs.Addresses.{Item}
use Rattle.ebpf_ksyms.proofs.Pieces.{all_refused, all_resolved}
use Rattle.ebpf_ksyms.proofs.resolve.resolve_externs.Goals as goal

-- what the steps of a reader's lines tell
abbrev LineSteps : {R : Type 0} → (R → Option (List ℕ)) → Lines R Global → Option Item → Lines R Global → Type 0
LineSteps remaining s r t = YieldsWithout string_bytes r 10 × YieldsKnownPiece string_bytes first_line 10 (lines_known_bytes remaining s) r (lines_known_bytes remaining t)

pub returns-clause-ok : goal.returns-clause-ok
returns-clause-ok g c =
    all_resolved (lines_known_bytes g.R.Read.remaining) (LineSteps g.R.Read.remaining) (λ s r t h. h.1) c.lines.result _ c.lines.ensures
    (option_copied c.args.btf) (option_copied c.args.kernel_btf) c.args.externs.now c.resolve_lines.result c.resolve_lines.ensures.ok

pub returns-clause-fault : goal.returns-clause-fault
returns-clause-fault g c =
    all_refused (lines_known_bytes g.R.Read.remaining) (LineSteps g.R.Read.remaining) (λ s r t h. h.1) c.lines.result _ c.lines.ensures
    (option_copied c.args.btf) (option_copied c.args.kernel_btf) c.args.externs.now c.resolve_lines.result c.resolve_lines.ensures.fault
