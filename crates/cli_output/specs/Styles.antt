-- Text in a style: between two escape sequences that select graphic rendition (ECMA-48), or as it
-- is where the output has no colours.
use Rattle.std.specs.Prelude.{ℕ, Bool, true, false, List, [], ◌∷◌, codes}
use Rattle.cli_output.specs.declared.palette.TextStyle.{TextStyle}
use Rattle.cli_output.specs.declared.palette.TextStyle.TheVariants.{Good, Bad, Unsure, Heading}

-- the start of text in a style, by whether the output has colours
unfoldable pub style_start : Bool → TextStyle → List ℕ
style_start false _ = []
style_start true Good = 27 ∷ codes "[32m"
style_start true Bad = 27 ∷ codes "[31m"
style_start true Unsure = 27 ∷ codes "[33m"
style_start true Heading = 27 ∷ codes "[1m"

-- its end
unfoldable pub style_end : Bool → List ℕ
style_end false = []
style_end true = 27 ∷ codes "[0m"
