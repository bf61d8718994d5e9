-- Parts of the worked example of specs/TypeLabels.antt, computed.
use Rattle.std.proofs.Common.{◌≡◌, [], ◌++◌, Ok, refl}
use Rattle.std.specs.Prelude.{codes}
use Rattle.ebpf_btf.specs.declared.kind.BtfKind.TheVariants as kinds
use Rattle.cli_common.specs.TypeLabels.{kind_word, name_or_anon}

named_struct : kind_word kinds.Struct ++ codes " " ++ name_or_anon (Ok (codes "foo")) ≡ codes "struct foo"
unfolding kind_word
named_struct = refl

anonymous_struct : kind_word kinds.Struct ++ codes " " ++ name_or_anon (Ok []) ≡ codes "struct <anon>"
unfolding kind_word
anonymous_struct = refl
