use Rattle.std.specs.Option.{option_copied}
use Rattle.std.specs.Prelude.{option_map}
use Rattle.cli_plain.proofs.Refusing.{lacking, there}
use Rattle.cli_plain.proofs.link.print_programs.Goals as goal

pub returns-in-Ok-print_object-clause-done : goal.returns-in-Ok-print_object-clause-done
returns-in-Ok-print_object-clause-done g c =
    record {
      object = c.in-Ok.object;
      linked = c.in-Ok.ensures.linked;
      named = there c.in-Ok.object (option_copied c.args.program) c.in-Ok-print_object.ensures.there;
      text = c.in-Ok-print_object.ensures.text;
    }

pub returns-in-Err-print_object-clause-refused : goal.returns-in-Err-print_object-clause-refused
returns-in-Err-print_object-clause-refused g c =
    lacking c.args.file.now (option_map (λ bytes. bytes.items) c.args.btf) (g.K.SymbolSource.source c.args.kallsyms) c.in-Ok.object c.in-Ok.ensures.linked (option_copied c.args.program) c.in-Err-print_object.failure
    c.in-Err-print_object.ensures.refused
