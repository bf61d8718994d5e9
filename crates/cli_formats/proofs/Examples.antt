-- The worked examples of specs/Escapes.antt, computed.
use Rattle.std.proofs.Common.{◌≡◌, refl}
use Rattle.std.specs.Prelude.{codes}
use Rattle.cli_formats.specs.Escapes.{html_char, json_char, mermaid_char, path_char, sarif_char, source_char}

mark_in_html : html_char 8238 ≡ codes "\\xe2\\x80\\xae"
unfolding lib.Utf8.encode
mark_in_html = refl

mark_in_json : json_char 8238 ≡ codes "\\\\xe2\\\\x80\\\\xae"
unfolding lib.Utf8.encode
mark_in_json = refl

mark_in_sarif : sarif_char 8238 ≡ codes "\\\\\\\\xe2\\\\\\\\x80\\\\\\\\xae"
unfolding lib.Utf8.encode
mark_in_sarif = refl

bracket_in_sarif : sarif_char 91 ≡ codes "\\\\["
bracket_in_sarif = refl

tab_in_source : source_char 9 ≡ codes "\\t"
tab_in_source = refl

mark_in_source : source_char 8238 ≡ codes "\\\\xe2\\\\x80\\\\xae"
unfolding lib.Utf8.encode
mark_in_source = refl

mark_in_mermaid : mermaid_char 8238 ≡ codes "#92;xe2#92;x80#92;xae"
unfolding lib.Utf8.encode
mark_in_mermaid = refl

mark_in_a_path : path_char 8238 ≡ codes "%E2%80%AE"
unfolding lib.Utf8.encode
mark_in_a_path = refl

bracket_in_a_path : path_char 91 ≡ codes "%5B"
unfolding lib.Utf8.encode
bracket_in_a_path = refl
