use Rattle.std.proofs.Common.{[], ◌∷◌, ◌++◌, flat_map, sym, ap, ◌∙◌, map-id, subst, append-nil, rules}
use Rattle.std.proofs.lemmas.Grind.{flat_map-append, put_two}
use Rattle.std.proofs.lemmas.Iterator.{YieldsList-from_chars}
use Rattle.std.proofs.lemmas.Iterator.Consumers.{YieldsList-end}
use Rattle.std.specs.Fmt.{HasWritten}
use Rattle.cli_common.specs.Shown.{shown_char}
use Rattle.cli_common.proofs.names.write_name.Goals as goal

pub loop-c-preserved : goal.loop-c-preserved
loop-c-preserved g c = λ plain.
    let so_far = c.loop-c.invariant plain in
    let more = flat_map-append shown_char c.loop-c.yielded (c.in-Some.c ∷ []) ∙ ap (λ l. flat_map shown_char c.loop-c.yielded ++ l) (append-nil (shown_char c.in-Some.c)) in
    put_two _ _ _ _ _ _ _ so_far (c.write_visible.ensures so_far.plain (search rules)) (sym more)

pub returns : goal.returns
returns g c = λ plain ok.
    let end = YieldsList-end (YieldsList-from_chars c.args.name.now c.utf8.name cc) c.loop-c.yielded _ c.loop-c.yielded_by _ _ c.in-None.is c.next.ensures.steps in
    subst (λ cs. HasWritten g.W.Write.write_str_gives c.args.f.now (flat_map shown_char cs) c.loop-c.f) (sym (map-id c.loop-c.yielded) ∙ end.0) (c.loop-c.invariant plain)
