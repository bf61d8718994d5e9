use Rattle.ebpf_kconfig.proofs.DefinedSymbols.{prepared_is_finished}
use Rattle.ebpf_parts.specs.declared.parse_mode.ParseMode.TheVariants.{Lenient}
use Rattle.cli_link.proofs.bytes.write_finished.Goals as goal

pub returns-in-Ok-write_named_programs-clause-lines : goal.returns-in-Ok-write_named_programs-clause-lines
returns-in-Ok-write_named_programs-clause-lines g c =
    record {
      object = c.in-Ok.object;
      stages = c.in-Ok.ensures.stages;
      finished = prepared_is_finished _ _ _ _ c.in-Ok.ensures.stages;
      headline = λ file parsed. c.in-Ok.ensures.headline Lenient file parsed;
      text = c.in-Ok-write_named_programs.ensures;
    }

pub returns-in-Ok-write_named_programs-clause-done : goal.returns-in-Ok-write_named_programs-clause-done
returns-in-Ok-write_named_programs-clause-done g c file defined =
    record {
      opened = c.args.parsed.now;
      defined = defined;
      written = record {
        object = c.in-Ok.object;
        stages = c.in-Ok.ensures.stages;
        finished = prepared_is_finished _ _ _ _ c.in-Ok.ensures.stages;
        headline = λ file parsed. c.in-Ok.ensures.headline Lenient file parsed;
        text = c.in-Ok-write_named_programs.ensures;
      };
      headline = λ none no_section no_callbacks. c.in-Ok.ensures.headline Lenient file (defined.same none no_section no_callbacks);
    }
