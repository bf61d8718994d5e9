-- The fields of an object that passes don't change.
use Rattle.std.specs.Prelude.{◌≡◌}
use Rattle.ebpf_object.specs.declared.object.Object.{Object}

-- all but the functions and the externs is as before
abbrev pub KeepsOthers : Object → Object → Type 0
KeepsOthers before after =
    after ≡ record before { functions = after.functions; externs = after.externs }
