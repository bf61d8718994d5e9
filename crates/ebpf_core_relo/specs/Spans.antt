-- Which function of a section a record is about, and which of its slots: the spans of functions in
-- the data of their section, and which of them holds an offset.
use Rattle.std.specs.Prelude.{ℕ, ◌/◌, Bool, ◌&&◌, List, Option, find, nat_le, nat_lt, ◌+◌, nat_eq}
use Rattle.std.specs.Prelude.{length, map, filter, ◌≡◌, true, [], ◌∷◌, ◌++◌, max}
use Rattle.ebpf_core_relo.specs.declared.spans.Span.{Span}
use Rattle.std.specs.FinMap.{FinMap, entries}
use Rattle.ebpf_base.specs.Maps.{key_cmp}
use Rattle.ebpf_model.specs.Symbols.{FunctionKey}
use Rattle.ebpf_model.specs.declared.function.Function.{Function}

-- whether an offset, in bytes, lies in a span: behind its start, and in a slot before its end
abbrev pub span_holds : ℕ → Span → Bool
span_holds offset span = nat_le span.start offset && nat_lt (offset / 8) span.end

-- the first span that holds an offset
abbrev pub span_at : ℕ → List Span → Option Span
span_at offset spans = find (span_holds offset) spans

-- ---- the functions of a section as spans

-- what a function takes of its section's data
abbrev pub span_of : FunctionKey × Function → Span
span_of e =
    record {
      address = e.0.1;
      start = e.1.section_offset;
      end = e.1.section_offset / 8 + length e.1.instructions;
    }

-- the entries of one section
abbrev pub entries_of_section : ℕ → List (FunctionKey × Function) → List (FunctionKey × Function)
entries_of_section section es = filter (λ e. nat_eq e.0.0 section) es

-- the functions of a section, in the order of their addresses, by what they take of its data
abbrev pub spans_among : ℕ → List (FunctionKey × Function) → List Span
spans_among section es = map span_of (entries_of_section section es)

abbrev pub spans_of : FinMap key_cmp Function → ℕ → List Span
spans_of functions section = spans_among section (entries functions)

-- ---- what stands beside a list of spans: the greatest end up to each, where they begin one behind
-- the other; and lists of such spans as one

-- the greatest end up to each span, and no less than one given
abbrev pub tops : ℕ → List Span → List ℕ
tops top [] = []
tops top (s ∷ spans) = max top s.end ∷ tops (max top s.end) spans

-- whether each begins no earlier than the one before it, and the first no earlier than a start
abbrev pub rises : ℕ → List Span → Bool
rises start [] = true
rises start (s ∷ spans) = nat_le start s.start && rises s.start spans

-- the greatest end of all, and the start of the last one
abbrev pub last_top : ℕ → List Span → ℕ
last_top top [] = top
last_top top (s ∷ spans) = last_top (max top s.end) spans

abbrev pub last_start : ℕ → List Span → ℕ
last_start start [] = start
last_start start (s ∷ spans) = last_start s.start spans

pub record IsTopped (spans : List Span) (ends : List ℕ) (top start : ℕ) : Type 0 where
  pub ends_are : ends ≡ tops 0 spans
  pub top_is : top ≡ last_top 0 spans
  pub start_is : start ≡ last_start 0 spans
  pub rising_is : rises 0 spans ≡ true

-- lists of spans one behind the other, and a last one
abbrev pub all_spans : List (List Span) → List Span → List Span
all_spans [] last = last
all_spans (run ∷ runs) last = run ++ all_spans runs last
