use Rattle.std.proofs.Common.{◌≡◌, drop, map, string_bytes}
use Rattle.cli_plain.specs.Arguments.{texts_in, arguments, put_arguments}
use Rattle.cli_plain.proofs.arguments.find_texts.Given as goal

-- what is left to do from here is what was to do from the start
abbrev pub invariant-loop-word : goal.invariant-loop-word
invariant-loop-word l = put_arguments l.found (arguments l.waits (map string_bytes (drop l.word-index l.words))) ≡ texts_in (map string_bytes l.words)
