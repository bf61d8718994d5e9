use Rattle.std.proofs.Common.{subst}
use Rattle.std.specs.Option.{option_copied}
use Rattle.std.specs.Prelude.{⊤, MatchBool, option_map}
use Rattle.cli_plain.proofs.Listing.{lacking}
use Rattle.cli_plain.specs.Done.{is_outside, LacksNamedReport}
use Rattle.cli_plain.proofs.inspect.print_reports.Goals as goal

pub returns-clause-refused : goal.returns-clause-refused
returns-clause-refused g c =
    let f = c.in-Err-print_listed.failure in
    let default_passes = option_copied c.args.program in
    lacking c.args.file.now (option_map (λ bytes. bytes.items) c.args.btf) (g.K.SymbolSource.source c.args.kallsyms) c.in-Ok.reports c.in-Ok.ensures.inspected default_passes f
    (subst (λ rs. MatchBool (is_outside f) ⊤ (LacksNamedReport rs default_passes f)) c.as_slice.ensures c.in-Err-print_listed.ensures.refused)
